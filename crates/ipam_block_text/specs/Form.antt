-- What the text of a block may say, sound or not.
use Rattle.std.specs.Prelude.{◌≡◌, ◌^◌, ◌<◌, true, unwrap_or, All}
use Rattle.serde_json.specs.Data.{Data}
use Rattle.ipam_block.specs.Sound.{IsBlockCidr, AreAttributes, IsNode}
use Rattle.ipam_json.specs.Canonical.{IsCanonicalWithin}
use Rattle.ipam_block_text.specs.declared.parts.Parts.{Parts}
use Rattle.ipam_block_text.specs.Reading.{are_stamps}

-- texts and numbers within the limits
pub record AreParts (p : Parts) : Type 0 where
  pub node : IsNode p.node
  pub places : All (λ place. unwrap_or place 0 < 2 ^ 64) p.places
  pub attributes : All AreAttributes p.attributes
  pub range : IsBlockCidr p.cidr
  pub sequence : p.sequence < 2 ^ 64
  pub queue : All (λ n. n < 2 ^ 64) p.queue

-- an object of whole numbers below 2^64, whose names ascend and are decimal numbers below 2^64
pub record AreStamps (stamps : Data) : Type 0 where
  pub numbers : IsCanonicalWithin 1 stamps
  pub names : are_stamps stamps ≡ true
