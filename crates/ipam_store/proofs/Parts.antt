-- Of two lists of rows, one after the other, a key is looked for and written in one alone.
use Rattle.std.proofs.Common.{◌≡◌, ℕ, List, [], ◌∷◌, ◌++◌, Some, cond, ap, ◌∙◌, refl}
use Rattle.std.specs.declared.cmp.Ordering.{Ordering}
use Rattle.std.specs.declared.cmp.Ordering.TheVariants.{Less, Equal, Greater}
use Rattle.std.specs.Ordering.{is_eq}
use Rattle.std.proofs.lemmas.List.Elements.{All-head, All-tail, filter-append}
use Rattle.ipam_records.specs.declared.key.Key.{Key}
use Rattle.ipam_records.specs.declared.record.Record.{Record}
use Rattle.ipam_records.specs.KeyOrder.{key_cmp}
use Rattle.ipam_records.specs.Datastore.{row_key, row_of, row_at, with_row, without_row}
use Rattle.ipam_store.specs.Places.{IsBefore, IsBehind, AllBefore, AllBehind}
use Rattle.ipam_store.proofs.Searching.{found_step, with_step, without_step}

pub row_of-right : (k : Key) (front back : List (ℕ × Record)) → AllBefore k front → row_of k (front ++ back) ≡ row_of k back
row_of-right k [] back all = refl
row_of-right k (r ∷ rs) back all =
    found_step k r (rs ++ back) Less (All-head (IsBefore k) r rs all) ∙ row_of-right k rs back (All-tail (IsBefore k) r rs all)

row_of-none : (k : Key) (rows : List (ℕ × Record)) → AllBehind k rows → row_of k rows ≡ row_of k []
row_of-none k [] all = refl
row_of-none k (r ∷ rs) all = found_step k r rs Greater (All-head (IsBehind k) r rs all) ∙ row_of-none k rs (All-tail (IsBehind k) r rs all)

pub row_of-left : (k : Key) (front back : List (ℕ × Record)) → AllBehind k back → row_of k (front ++ back) ≡ row_of k front
row_of-left k [] back all = row_of-none k back all
row_of-left k (r ∷ rs) back all = ap (λ o. cond (is_eq (key_cmp (row_key r) k)) (Some r) o) (row_of-left k rs back all)

pub with_row-right : (new : ℕ × Record) (front back : List (ℕ × Record)) → AllBefore (row_key new) front → with_row new (front ++ back) ≡ front ++ with_row new back
with_row-right new [] back all = refl
with_row-right new (r ∷ rs) back all =
    with_step new r (rs ++ back) Less (All-head (IsBefore (row_key new)) r rs all) ∙ ap (λ x. r ∷ x) (with_row-right new rs back (All-tail (IsBefore (row_key new)) r rs all))

pub with_row-front : (new : ℕ × Record) (rows : List (ℕ × Record)) → AllBehind (row_key new) rows → with_row new rows ≡ new ∷ rows
with_row-front new [] all = refl
with_row-front new (r ∷ rs) all = with_step new r rs Greater (All-head (IsBehind (row_key new)) r rs all)

row_at-append : (o : Ordering) (new r : ℕ × Record) (rs back further behind : List (ℕ × Record)) → behind ≡ further ++ back → row_at o new r (rs ++ back) behind ≡ row_at o new r rs further ++ back
row_at-append Less new r rs back further behind e = refl
row_at-append Equal new r rs back further behind e = refl
row_at-append Greater new r rs back further behind e = ap (λ x. r ∷ x) e

pub with_row-left : (new : ℕ × Record) (front back : List (ℕ × Record)) → AllBehind (row_key new) back → with_row new (front ++ back) ≡ with_row new front ++ back
with_row-left new [] back all = with_row-front new back all
with_row-left new (r ∷ rs) back all =
    row_at-append (key_cmp (row_key new) (row_key r)) new r rs back (with_row new rs) (with_row new (rs ++ back)) (with_row-left new rs back all)

without-before : (k : Key) (rows : List (ℕ × Record)) → AllBefore k rows → without_row k rows ≡ rows
without-before k [] all = refl
without-before k (r ∷ rs) all =
    without_step k r rs Less (All-head (IsBefore k) r rs all) ∙ ap (λ x. r ∷ x) (without-before k rs (All-tail (IsBefore k) r rs all))

pub without-behind : (k : Key) (rows : List (ℕ × Record)) → AllBehind k rows → without_row k rows ≡ rows
without-behind k [] all = refl
without-behind k (r ∷ rs) all =
    without_step k r rs Greater (All-head (IsBehind k) r rs all) ∙ ap (λ x. r ∷ x) (without-behind k rs (All-tail (IsBehind k) r rs all))

pub without-right : (k : Key) (front back : List (ℕ × Record)) → AllBefore k front → without_row k (front ++ back) ≡ front ++ without_row k back
without-right k front back all =
    filter-append _ front back ∙ ap (λ x. x ++ without_row k back) (without-before k front all)

pub without-left : (k : Key) (front back : List (ℕ × Record)) → AllBehind k back → without_row k (front ++ back) ≡ without_row k front ++ back
without-left k front back all =
    filter-append _ front back ∙ ap (λ x. without_row k front ++ x) (without-behind k back all)
