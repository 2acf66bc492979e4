-- The kinds of rows, by the words for them.
use Rattle.std.specs.Prelude.{ℕ, Bool, List, codes, bytes_eq, Option, Some, None, if◌then◌else◌}
use Rattle.std.specs.List.{before_first}
use Rattle.ipam_words.specs.declared.kind.RowKind.{RowKind}
use Rattle.ipam_words.specs.declared.kind.RowKind.TheVariants.{Config, Pools, Reservations, Block, Affinity, Handle}
pub use Rattle.ipam_addr.specs.Text.{is_slash}

abbrev pub kind_word : RowKind → List ℕ
kind_word Config = codes "config"
kind_word Pools = codes "pools"
kind_word Reservations = codes "reservations"
kind_word Block = codes "block"
kind_word Affinity = codes "affinity"
kind_word Handle = codes "handle"

-- the kind of a word
unfoldable pub kind_named : List ℕ → Option RowKind
kind_named word =
    if bytes_eq word (codes "config") then Some Config
    else (if bytes_eq word (codes "pools") then Some Pools
    else (if bytes_eq word (codes "reservations") then Some Reservations
    else (if bytes_eq word (codes "block") then Some Block
    else (if bytes_eq word (codes "affinity") then Some Affinity
    else (if bytes_eq word (codes "handle") then Some Handle
    else None)))))

-- a row whose key has the kind's word before its first slash, or has no slash and is that word
abbrev pub is_key_of_kind : RowKind → (key : List ℕ) → Bool
is_key_of_kind kind key = bytes_eq (before_first is_slash key) (kind_word kind)
