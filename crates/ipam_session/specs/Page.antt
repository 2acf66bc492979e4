-- Which rows a page has.
use Rattle.std.specs.Prelude.{◌≡◌, ◌≢◌, ◌↔◌, ℕ, ◌+◌, ◌-◌, Bool, true, false, nat_lt, List, [], ◌∷◌, ◌++◌, length, filter, Option, Some, None, option_to_list, if◌then◌else◌}
use Rattle.std.specs.Ordering.{is_gt}
use Rattle.ipam_records.specs.declared.key.Key.{Key}
use Rattle.ipam_records.specs.declared.key.Key.TheVariants as key
use Rattle.ipam_records.specs.declared.key.Kind.TheVariants as kind
use Rattle.ipam_records.specs.declared.record.Record.{Record}
use Rattle.ipam_records.specs.declared.record.Record.TheVariants.{Config, Pools, Reservations, Block, Affinity, Handle}
use Rattle.ipam_records.specs.Datastore.{Datastore, row_of, rows_of_kind}
use Rattle.ipam_records.specs.Key.{key_of}
use Rattle.ipam_records.specs.KeyOrder.{key_cmp}
use Rattle.ipam_words.specs.declared.kind.RowKind.{RowKind}
use Rattle.ipam_words.specs.declared.kind.RowKind.TheVariants as row_kind
use Rattle.ipam_session.specs.declared.page.Page.{Page}
use Rattle.ipam_session.specs.declared.taken.Taken.{Taken}
use Rattle.ipam_session.specs.declared.taken.TheConstants.{PAGE_PARTS}

-- ---- the rows of a kind

abbrev pub one_kept : Key → Datastore → List (ℕ × Record)
one_kept key store = option_to_list (row_of key store.rows)

-- by their keys
abbrev pub rows_kept : RowKind → Datastore → List (ℕ × Record)
rows_kept row_kind.Config store = one_kept key.Config store
rows_kept row_kind.Pools store = one_kept key.Pools store
rows_kept row_kind.Reservations store = one_kept key.Reservations store
rows_kept row_kind.Block store = rows_of_kind kind.Block store
rows_kept row_kind.Affinity store = rows_of_kind kind.Affinity store
rows_kept row_kind.Handle store = rows_of_kind kind.Handle store

-- ---- rows are taken

-- the row itself, and the addresses that a block has given, or the blocks of a handle
abbrev pub parts_of : Record → ℕ
parts_of (Config config) = 1
parts_of (Pools pools) = 1
parts_of (Reservations reservations) = 1
parts_of (Block block) = length block.allocations + 1
parts_of (Affinity affinity) = 1
parts_of (Handle handle) = length handle.counts + 1

-- a page in the making: the rows that it has, how many parts are still to be taken, and whether a row
-- was left out
pub record SoFar : Type 0 where
  pub rows : List (ℕ × Record)
  pub room : ℕ
  pub more : Bool

abbrev pub so_far : Taken → SoFar
so_far taken = record { rows = taken.rows.items; room = taken.room; more = taken.more }

abbrev pub first_taken : SoFar
first_taken = record { rows = []; room = PAGE_PARTS; more = false }

-- the record's key comes after this one
abbrev pub is_after : Option Key → Record → Bool
is_after None found = true
is_after (Some key) found = is_gt (key_cmp (key_of found) key)

-- a row is taken while there is room, so the first one is; after it all are left out
abbrev pub with_taken : SoFar → ℕ × Record → SoFar
with_taken taken row =
    if nat_lt 0 taken.room then (record {
      rows = taken.rows ++ row ∷ [];
      room = taken.room - parts_of row.1;
      more = taken.more;
    })
    else (record taken { more = true })

abbrev pub with_next : Option Key → SoFar → ℕ × Record → SoFar
with_next after taken row = if is_after after row.1 then with_taken taken row else taken

-- the page with the rows that come after the key, one after the other, while there is room
abbrev pub taken_from : Option Key → SoFar → List (ℕ × Record) → SoFar
taken_from after taken [] = taken
taken_from after taken (row ∷ rows) = taken_from after (with_next after taken row) rows

-- ---- the page

abbrev pub page_with : (revision : ℕ) → SoFar → Page
page_with revision taken = record { revision = revision; rows = taken.rows; more = taken.more }

-- the page of the rows of a kind that come after a key, or from the first on
abbrev pub page_in : Datastore → RowKind → (after : Option Key) → Page
page_in store kind after = page_with store.counter (taken_from after first_taken (rows_kept kind store))

-- ---- what that comes to

abbrev pub rows_after : Option Key → List (ℕ × Record) → List (ℕ × Record)
rows_after after = filter (λ row. is_after after row.1)

-- The page has the first of the rows that come after the key, at least one if there is one, and says
-- whether there are others.
pub record IsFrontPage (store : Datastore) (kind : RowKind) (after : Option Key) (page : Page) : Type 0 where
  pub others : List (ℕ × Record)
  pub revision : page.revision ≡ store.counter
  pub whole : rows_after after (rows_kept kind store) ≡ page.rows ++ others
  pub more : (page.more ≡ true) ↔ (others ≢ [])
  pub some : page.rows ≡ [] → others ≡ []
