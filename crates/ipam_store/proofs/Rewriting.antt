-- A row that stands for another: the same whether that one is taken out first or not.
use Rattle.std.proofs.Common.{◌≡◌, ℕ, List, [], ◌∷◌, map, None, IsTrue, ap, sym, ◌∙◌, subst, refl}
use Rattle.std.proofs.lemmas.List.Elements.{All-nil, All-cons}
use Rattle.std.specs.declared.cmp.Ordering.{Ordering}
use Rattle.std.specs.declared.cmp.Ordering.TheVariants.{Less, Equal, Greater}
use Rattle.std.specs.Ordering.{ordering_reverse}
use Rattle.std.specs.List.{AllByRecursion}
use Rattle.std.specs.List.Sorted.{IsStrictlySortedBy}
use Rattle.ipam_records.specs.declared.key.Key.{Key}
use Rattle.ipam_records.specs.declared.record.Record.{Record}
use Rattle.ipam_records.specs.KeyOrder.{key_cmp}
use Rattle.ipam_records.specs.KeyOrderLaws.{key_cmp_total}
use Rattle.ipam_records.specs.Datastore.{row_key, row_of, with_row, without_row}
use Rattle.ipam_records.specs.BlockLists.{is_block, AreBlocks}
use Rattle.ipam_records.proofs.BlockMembers.{IsBlockRow}
use Rattle.ipam_records.proofs.DatastoreLemmas.{row_of-without_row}
use Rattle.ipam_store.specs.Places.{IsBehind, AllBehind}
use Rattle.ipam_store.specs.Indexed.{Indexed, IsIndexOf}
use Rattle.ipam_store.specs.BlockShelf.{AreIndexed}
use Rattle.ipam_store.proofs.Searching.{with_step, without_step}
use Rattle.ipam_store.proofs.Parts.{with_row-front, without-behind}
use Rattle.ipam_records.proofs.RowWrites.{All-with_row, All-without_row}
use Rattle.ipam_store.proofs.Keeping.{Ascend-with_row, Ascend-without_row}

-- what is below all rows, and is no lower than the key, has all of them after the key
behind_key : (k key r : Key) (o : Ordering) → key_cmp k key ≡ o → (o ≡ Less → ⊥) → key_cmp k r ≡ Less → key_cmp r key ≡ Greater
behind_key k key r Less h other less = absurd (other refl)
behind_key k key r Equal h other less =
    key_cmp_total.antisymm r key ∙ ap ordering_reverse (sym (key_cmp_total.congr k key r h) ∙ less)
behind_key k key r Greater h other less =
    let first : key_cmp key k ≡ Less = key_cmp_total.antisymm key k ∙ ap ordering_reverse h in
    key_cmp_total.antisymm r key ∙ ap ordering_reverse (key_cmp_total.trans key k r first less)

all_behind : (k key : Key) (rows : List (ℕ × Record)) → (key_cmp k key ≡ Less → ⊥) → AllByRecursion (λ y. key_cmp k y ≡ Less) (map row_key rows) → AllBehind key rows
all_behind k key [] other all = All-nil (IsBehind key)
all_behind k key (r ∷ rs) other all =
    All-cons (IsBehind key) r rs (behind_key k key (row_key r) (key_cmp k key) refl other all.0) (all_behind k key rs other all.1)

with-without : (new : ℕ × Record) (rows : List (ℕ × Record)) → IsStrictlySortedBy key_cmp (map row_key rows) → with_row new (without_row (row_key new) rows) ≡ with_row new rows
unfolding IsStrictlySortedBy
with-without new [] s = refl
with-without new (r ∷ rs) s = by_order (key_cmp (row_key r) (row_key new)) refl (with-without new rs s.1)
  where
    by_order : (o : Ordering) → key_cmp (row_key r) (row_key new) ≡ o → with_row new (without_row (row_key new) rs) ≡ with_row new rs → with_row new (without_row (row_key new) (r ∷ rs)) ≡ with_row new (r ∷ rs)
    by_order Less h further =
        ap (with_row new) (without_step (row_key new) r rs Less h)
        ∙ with_step new r (without_row (row_key new) rs) Less h
        ∙ ap (λ x. r ∷ x) further
        ∙ sym (with_step new r rs Less h)
    by_order Equal h further =
        let behind = all_behind (row_key r) (row_key new) rs (λ e. let bad = sym h ∙ e in cc bad) s.0 in
        ap (with_row new) (without_step (row_key new) r rs Equal h ∙ without-behind (row_key new) rs behind)
        ∙ with_row-front new rs behind
        ∙ sym (with_step new r rs Equal h)
    by_order Greater h further =
        let behind = all_behind (row_key r) (row_key new) rs (λ e. let bad = sym h ∙ e in cc bad) s.0 in
        ap (with_row new) (without_step (row_key new) r rs Greater h ∙ ap (λ x. r ∷ x) (without-behind (row_key new) rs behind))

pub AreBlocks-with_row : (new : ℕ × Record) (rows : List (ℕ × Record)) → IsTrue (is_block new.1) → AreBlocks rows → AreBlocks (with_row new rows)
AreBlocks-with_row new rows is are = record {
  blocks = All-with_row IsBlockRow new rows is are.blocks;
  ascending = (Ascend-with_row new rows (record { keys = are.ascending })).keys;
}

pub AreBlocks-without_row : (key : Key) (rows : List (ℕ × Record)) → AreBlocks rows → AreBlocks (without_row key rows)
AreBlocks-without_row key rows are = record {
  blocks = All-without_row IsBlockRow key rows are.blocks;
  ascending = (Ascend-without_row key rows (record { keys = are.ascending })).keys;
}

-- the index of the rows with a block, from that of the rows without it
pub AreIndexed-put : (new : ℕ × Record) (rows : List (ℕ × Record)) (index : Indexed) → IsTrue (is_block new.1) → AreBlocks rows
    → (AreBlocks (without_row (row_key new) rows) → row_of (row_key new) (without_row (row_key new) rows) ≡ None → IsIndexOf index (with_row new (without_row (row_key new) rows)))
    → AreIndexed (with_row new rows) index
AreIndexed-put new rows index is are entered = record {
  blocks = AreBlocks-with_row new rows is are;
  index =
      subst (IsIndexOf index) (with-without new rows are.ascending)
      (entered (AreBlocks-without_row (row_key new) rows are) (row_of-without_row (row_key new) rows));
}
