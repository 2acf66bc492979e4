-- All rows of a daemon as they stand at one revision.
use Rattle.std.specs.Prelude.{◌≡◌, ◌==◌, ℕ, suc, if◌then◌else◌, List, [], ◌∷◌, codes, Option, Some, None, option_map, Result, Ok, Err}
use Rattle.std.specs.Global.{Vec}
use Rattle.std.specs.Result.{result_map_both}
use Rattle.ipam_operator.specs.Rows.{AsksRows}
use Rattle.ipam_json.specs.Members.{◌>>=◌, whole_at}
use Rattle.ipam_operator.specs.declared.asking.AskFault.{AskFault}
use Rattle.ipam_operator.specs.Answers.{json_of_line}
use Rattle.ipam_operator.specs.Asking.{Asks, Wire}
use Rattle.ipam_records.specs.declared.call.Row.{Row}
use Rattle.ipam_words.specs.declared.kind.RowKind.{RowKind}
use Rattle.ipam_words.specs.declared.kind.RowKind.TheVariants.{Config, Pools, Reservations, Block, Affinity, Handle}
use Rattle.ipam_operator.specs.declared.moment.TheConstants.{MOST_TRIES}

abbrev pub tries_at_most : ℕ
tries_at_most = MOST_TRIES

abbrev pub all_kinds : List RowKind
all_kinds = Config ∷ Pools ∷ Reservations ∷ Block ∷ Affinity ∷ Handle ∷ []

-- ---- the revision

-- the line that asks for it
abbrev pub revision_line : List ℕ
revision_line = codes "{\"rows\":\"config\"}\n"

unfoldable pub revision_of_line : (line : List ℕ) → Option ℕ
revision_of_line line = do
  d ← json_of_line line
  whole_at (codes "revision") d

abbrev pub AsksRevision : Result ℕ AskFault → (old new : Wire) → Type 0
AsksRevision came old new = Asks revision_of_line revision_line came old new

-- ---- the rows

-- what came, as lists
abbrev pub rows_told : Result (Option (Vec Row)) AskFault → Result (Option (List Row)) AskFault
rows_told came = result_map_both (λ found. option_map (λ rows. rows.items) found) (λ why. why) came

-- the rows, where the revision before them is the one after them
abbrev pub stood : (before after : ℕ) → List Row → Option (List Row)
stood before after rows = if after == before then Some rows else None

-- The revision after these rows, where this was the one before, and what stood.
pub data AsksAfter (before : ℕ) (rows : List Row) : Result (Option (List Row)) AskFault → (old new : Wire) → Type 0 where
  After : (after : ℕ) (found : Option (List Row)) (old new : Wire) → AsksRevision (Ok after) old new → found ≡ stood before after rows
      → AsksAfter before rows (Ok found) old new
  NoneAfter : (why : AskFault) (old new : Wire) → AsksRevision (Err why) old new → AsksAfter before rows (Err why) old new

-- The rows, and what comes after them.
pub data AsksBetween (before : ℕ) : Result (Option (List Row)) AskFault → (old new : Wire) → Type 0 where
  Rows : (rows : List Row) (came : Result (Option (List Row)) AskFault) (old between new : Wire) → AsksRows all_kinds [] (Ok rows) old between
      → AsksAfter before rows came between new → AsksBetween before came old new
  NoRows : (why : AskFault) (old new : Wire) → AsksRows all_kinds [] (Err why) old new → AsksBetween before (Err why) old new

-- What came of asking once: the rows, where the revision was the same before and after them; and none where it
-- was another.
pub data AsksOnce : Result (Option (List Row)) AskFault → (old new : Wire) → Type 0 where
  Before : (before : ℕ) (came : Result (Option (List Row)) AskFault) (old between new : Wire) → AsksRevision (Ok before) old between
      → AsksBetween before came between new → AsksOnce came old new
  NoneBefore : (why : AskFault) (old new : Wire) → AsksRevision (Err why) old new → AsksOnce (Err why) old new

-- What came of asking so often at most: what came of the first time that the revision was the same, or the first
-- fault; and no rows where it was another each time.
pub data AsksTries : (left : ℕ) → Result (Option (List Row)) AskFault → (old new : Wire) → Type 0 where
  NoMore : (old : Wire) → AsksTries 0 (Ok None) old old
  Again : (left : ℕ) (came : Result (Option (List Row)) AskFault) (old between new : Wire) → AsksOnce (Ok None) old between
      → AsksTries left came between new → AsksTries (suc left) came old new
  AllStood : (left : ℕ) (rows : List Row) (old new : Wire) → AsksOnce (Ok (Some rows)) old new → AsksTries (suc left) (Ok (Some rows)) old new
  FaultFirst : (left : ℕ) (why : AskFault) (old new : Wire) → AsksOnce (Err why) old new → AsksTries (suc left) (Err why) old new
