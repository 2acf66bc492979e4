-- Which address a word says.
use Rattle.std.specs.Prelude.{◌≡◌, ℕ, List, [], ◌∷◌, Bool, true, false, nat_eq}
use Rattle.ipam_socket.specs.declared.address.Address.{Address}
use Rattle.ipam_socket.specs.declared.address.Address.TheVariants.{File, Host}

abbrev pub begins_with_slash : List ℕ → Bool
begins_with_slash [] = false
begins_with_slash (byte ∷ rest) = nat_eq byte 47

-- a word that begins with a slash is a path, and any other a host
abbrev pub IsAddressOf : List ℕ → Address → Type 0
IsAddressOf word (File path) = (path.now ≡ word) × (begins_with_slash word ≡ true)
IsAddressOf word (Host host) = (host.now ≡ word) × (begins_with_slash word ≡ false)
