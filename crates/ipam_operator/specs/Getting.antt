-- What `get` asks for and writes.
use Rattle.std.specs.Prelude.{◌≡◌, ℕ, Bool, List, [], ◌∷◌, Option, Some, None, Result, Ok, Err}
use Rattle.std.specs.Cmp.Lexicographic.{slice_cmp}
use Rattle.std.specs.List.Sorted.{IsPermutation, IsSortedBy}
use Rattle.std.specs.Ordering.{is_lt, nat_cmp}
use Rattle.ipam_show.specs.Rows.{rows_text}
use Rattle.ipam_operator.specs.declared.asking.AskFault.{AskFault}
use Rattle.ipam_operator.specs.declared.asking.AskFault.TheVariants as fault
use Rattle.ipam_operator.specs.declared.end.End.{End}
use Rattle.ipam_operator.specs.declared.end.End.TheVariants as end
use Rattle.ipam_operator.specs.Telling.{fault_end, fault_line}
use Rattle.ipam_records.specs.declared.call.Row.{Row}
use Rattle.ipam_words.specs.declared.kind.RowKind.{RowKind}
use Rattle.ipam_words.specs.declared.kind.RowKind.TheVariants.{Config, Pools, Reservations, Block, Affinity, Handle}

-- the kinds that are asked for, by the bytes of their words
abbrev pub kinds_told : Option RowKind → List RowKind
kinds_told None = Affinity ∷ Block ∷ Config ∷ Handle ∷ Pools ∷ Reservations ∷ []
kinds_told (Some kind) = kind ∷ []

-- by the bytes of the keys
abbrev pub key_lt : Row → Row → Bool
key_lt one other = is_lt (slice_cmp nat_cmp one.key other.key)

-- the rows that came, by the bytes of their keys
abbrev pub SortsTo : (came sorted : Result (List Row) AskFault) → Type 0
SortsTo (Ok found) (Ok rows) = IsPermutation found rows × IsSortedBy key_lt rows
SortsTo (Ok found) (Err why) = ⊥
SortsTo (Err why) (Ok rows) = ⊥
SortsTo (Err why) (Err told) = told ≡ why

abbrev pub get_said : Option RowKind → Result (List Row) AskFault → List ℕ
get_said kind (Ok rows) = rows_text kind rows
get_said kind (Err why) = fault_line why

abbrev pub get_end : Result (List Row) AskFault → End
get_end (Ok rows) = end.Done
get_end (Err why) = fault_end why

-- the text of rows takes memory; `link fault` and `reply fault` take none
abbrev pub TakesMemory : Result (List Row) AskFault → Type 0
TakesMemory (Ok rows) = Unit {0}
TakesMemory (Err fault.Link) = ⊥
TakesMemory (Err fault.Reply) = ⊥
TakesMemory (Err fault.Memory) = Unit {0}
