-- How a list keeps its rows in pages.
use Rattle.std.specs.Prelude.{◌≡◌, ℕ, ◌-◌, min, List, length, Option, Some, None, All}
use Rattle.std.specs.Global.{Vec}
use Rattle.std.specs.Vec.{vec_len, vec_capacity}
use Rattle.ipam_records.specs.declared.record.Record.{Record}
use Rattle.ipam_records.specs.Pages.{rows_of_pages}
use Rattle.ipam_store.specs.Shelved.{Shelved}
use Rattle.ipam_store.specs.Page.{IsPage, IsRoomy, IsReady}
use Rattle.ipam_store.specs.declared.pages.Pages.TheInside.{Inside}

abbrev pub ready_in : Option (Vec (ℕ × Record)) → ℕ
ready_in None = 0
ready_in (Some page) = 1

abbrev pub shelved_in : Inside → Shelved
shelved_in a = record {
  rows = rows_of_pages a.pages.items;
  spare = min (ready_in a.ready) (vec_capacity a.pages - vec_len a.pages);
}

pub record IsPaged (pages : List (Vec (ℕ × Record))) (next : Option (Vec (ℕ × Record))) (count : ℕ) : Type 0 where
  pub filled : All IsPage pages
  pub roomy : All IsRoomy pages
  pub ready : IsReady next
  pub counted : count ≡ length (rows_of_pages pages)

abbrev pub is_paged_in : Inside → Type 0
is_paged_in a = IsPaged a.pages.items a.ready a.count
