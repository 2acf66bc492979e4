-- Whether a text writes a CIDR.
use Rattle.std.specs.Prelude.{◌≡◌, ℕ, List, Ok}
use Rattle.ipam_addr.specs.Shape.{CidrValue}
use Rattle.ipam_addr.specs.Text.{cidr_reading}

-- the text writes a CIDR, in one of its spellings
abbrev pub WritesCidr : List ℕ → Type 0
WritesCidr text = (cidr : CidrValue) × (cidr_reading text ≡ Ok cidr)
