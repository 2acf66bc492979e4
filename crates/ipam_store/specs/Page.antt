-- Pages of rows.
use Rattle.std.specs.Prelude.{◌≡◌, ◌≢◌, ℕ, ◌+◌, ◌<◌, ◌≤◌, List, length, take, drop, Option, Some, None, slice_index_or}
use Rattle.std.specs.Global.{Vec}
use Rattle.std.specs.Vec.{vec_len, vec_capacity}
use Rattle.ipam_records.specs.declared.key.Key.{Key}
use Rattle.ipam_records.specs.declared.record.Record.{Record}
use Rattle.ipam_records.specs.Pages.{rows_of_pages}
use Rattle.ipam_store.specs.declared.pages.TheConstants.{PAGE_ROWS}
use Rattle.ipam_store.specs.Places.{AllBefore, AllBehind}

-- the page has a row, and no more rows than a page has
pub record IsPage (page : Vec (ℕ × Record)) : Type 0 where
  pub some : 1 ≤ length page.items
  pub few : length page.items ≤ PAGE_ROWS

-- it takes no memory to fill the page
pub record IsRoomy (page : Vec (ℕ × Record)) : Type 0 where
  pub is : PAGE_ROWS ≤ vec_capacity page

-- a page that is held ready
abbrev pub IsReady : Option (Vec (ℕ × Record)) → Type 0
IsReady None = Unit {0}
IsReady (Some page) = (vec_len page ≡ 0) × IsRoomy page

-- the key's row is in this page if it is there, and goes there if not
pub record IsPageFor (pages : List (Vec (ℕ × Record))) (key : Key) (at : ℕ) : Type 0 where
  pub within : at < length pages
  pub before : AllBefore key (rows_of_pages (take at pages))
  pub behind : AllBehind key (rows_of_pages (drop (at + 1) pages))

-- all pages are filled but the one at this place, which may be empty
pub record AreFilledBut (pages : List (Vec (ℕ × Record))) (at : ℕ) : Type 0 where
  pub each : (i : ℕ) (d : Vec (ℕ × Record)) → i ≢ at → i < length pages → IsPage (slice_index_or pages i d)
