-- The datastore: what it answers to a call, and what a write makes of it.
use Rattle.std.specs.Prelude.{ℕ, ◌+◌, Bool, not, ◌&&◌, ◌||◌, ◌==◌, nat_lt, List, [], ◌∷◌, length, filter, find, Option, Some, None, if◌then◌else◌}
use Rattle.std.specs.declared.cmp.Ordering.{Ordering}
use Rattle.std.specs.declared.cmp.Ordering.TheVariants.{Less, Equal, Greater}
use Rattle.ipam_records.specs.declared.key.Key.{Key}
use Rattle.ipam_records.specs.declared.key.Kind.{Kind}
use Rattle.ipam_records.specs.declared.key.Kind.TheVariants as kind
use Rattle.ipam_records.specs.declared.record.Record.{Record}
use Rattle.ipam_records.specs.declared.call.Call.{Call}
use Rattle.ipam_records.specs.declared.call.Call.TheVariants.{Get, List as ListAll, Create, Update, Delete}
use Rattle.ipam_records.specs.declared.call.Write.{Write}
use Rattle.ipam_records.specs.declared.call.Write.TheVariants.{Put, Remove}
use Rattle.ipam_records.specs.declared.limits.TheConstants.{MOST_ROWS, MOST_BLOCKS, LAST_REVISION}
use Rattle.ipam_records.specs.Key.{key_of}
use Rattle.ipam_records.specs.KeyOrder.{key_cmp, keys_equal, is_of_kind}
use Rattle.ipam_records.specs.Said.{Said, Found, Missing, Listed, Can, Exists, Conflict, Full, Spent}

-- rows, each a revision and a record, in the order of their keys; and the last revision that was
-- given to a write
pub record Datastore : Type 0 where
  pub rows : List (ℕ × Record)
  pub counter : ℕ

-- how many rows there may be, how many of them blocks, and which revision is the last
abbrev pub most_rows : ℕ
most_rows = MOST_ROWS

abbrev pub most_blocks : ℕ
most_blocks = MOST_BLOCKS

abbrev pub last_revision : ℕ
last_revision = LAST_REVISION

abbrev pub row_key : ℕ × Record → Key
row_key row = key_of row.1

-- the row of a key
abbrev pub row_of : Key → List (ℕ × Record) → Option (ℕ × Record)
row_of key = find (λ row. keys_equal (row_key row) key)

-- the rows of a kind: blocks by family, base and prefix, affinities by node and then block, handles by id
abbrev pub rows_of_kind : Kind → Datastore → List (ℕ × Record)
rows_of_kind kind store = filter (λ row. is_of_kind kind (row_key row)) store.rows

-- whether one more row with this key is allowed
abbrev pub has_room : Datastore → Key → Bool
has_room store key =
    nat_lt (length store.rows) most_rows
    && (not (is_of_kind kind.Block key) || nat_lt (length (rows_of_kind kind.Block store)) most_blocks)

-- a write that nothing else refuses may be applied while there are revisions
abbrev pub granted : Datastore → Said
granted store = if nat_lt store.counter last_revision then Can (store.counter + 1) else Spent

abbrev pub reply_to_get : Option (ℕ × Record) → Said
reply_to_get None = Missing
reply_to_get (Some row) = Found row.0 row.1

-- a record is created where there is none, while there is room
abbrev pub reply_to_create : Datastore → Key → Option (ℕ × Record) → Said
reply_to_create store key (Some row) = Exists row.0
reply_to_create store key None = if has_room store key then granted store else Full

-- a record is changed or deleted at the revision that is named
abbrev pub reply_to_change : Datastore → ℕ → Option (ℕ × Record) → Said
reply_to_change store revision None = Missing
reply_to_change store revision (Some row) = if row.0 == revision then granted store else Conflict row.0

-- what is answered to each call
abbrev pub reply_of : Datastore → Call → Said
reply_of store (Get key) = reply_to_get (row_of key store.rows)
reply_of store (ListAll kind) = Listed (rows_of_kind kind store)
reply_of store (Create new) = reply_to_create store (key_of new) (row_of (key_of new) store.rows)
reply_of store (Update new revision) = reply_to_change store revision (row_of (key_of new) store.rows)
reply_of store (Delete key revision) = reply_to_change store revision (row_of key store.rows)

-- the write that a call asks for, where it asks for one, with the revision that it takes
abbrev pub write_of : Call → ℕ → Option Write
write_of (Get key) revision = None
write_of (ListAll kind) revision = None
write_of (Create new) revision = Some (Put revision new)
write_of (Update new seen) revision = Some (Put revision new)
write_of (Delete key seen) revision = Some (Remove revision key)

-- the write that may be applied where this is the reply to the call
abbrev pub write_granted : Call → Said → Option Write
write_granted call (Can revision) = write_of call revision
write_granted call _ = None

-- a row before, in place of or after the first, where `further` has it after
abbrev pub row_at : {Row : Type 0} → Ordering → (row first : Row) (rest further : List Row) → List Row
row_at Less row first rest further = row ∷ first ∷ rest
row_at Equal row first rest further = row ∷ rest
row_at Greater row first rest further = first ∷ further

-- the rows with this one in its place, where it stands for the row of its key
abbrev pub with_row : ℕ × Record → List (ℕ × Record) → List (ℕ × Record)
with_row row [] = row ∷ []
with_row row (first ∷ rest) =
    row_at (key_cmp (row_key row) (row_key first)) row first rest (with_row row rest)

-- the rows without that of the key
abbrev pub without_row : Key → List (ℕ × Record) → List (ℕ × Record)
without_row key = filter (λ row. not (keys_equal (row_key row) key))

-- what a write makes of the datastore
abbrev pub written : Datastore → Write → Datastore
written store (Put revision new) = record { rows = with_row (revision, new) store.rows; counter = revision }
written store (Remove revision key) = record { rows = without_row key store.rows; counter = revision }
