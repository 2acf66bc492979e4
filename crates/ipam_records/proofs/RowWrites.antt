-- What stays true of rows when one is put in or taken out: what holds of each, and their order.
use Rattle.std.proofs.Common.{◌≡◌, ℕ, Bool, List, [], ◌∷◌, map, not, true, false, cond, ap, ◌∙◌, refl}
use Rattle.std.specs.declared.cmp.Ordering.{Ordering}
use Rattle.std.specs.declared.cmp.Ordering.TheVariants.{Less, Equal, Greater}
use Rattle.std.specs.Ordering.{ordering_reverse}
use Rattle.std.specs.List.{All, AllByRecursion, filter}
use Rattle.std.specs.List.Sorted.{IsStrictlySortedBy}
use Rattle.std.proofs.lemmas.List.Elements.{All-cons, All-head, All-tail}
use Rattle.ipam_records.specs.declared.key.Key.{Key}
use Rattle.ipam_records.specs.declared.record.Record.{Record}
use Rattle.ipam_records.specs.Datastore.{row_key, row_at, with_row, without_row}
use Rattle.ipam_records.specs.KeyOrder.{key_cmp, keys_equal}
use Rattle.ipam_records.specs.KeyOrderLaws.{key_cmp_total}

-- ---- what holds of each row

All-row_at : (P : ℕ × Record → Type 0) (o : Ordering) (new r : ℕ × Record) (rs further : List (ℕ × Record)) → P new → All P (r ∷ rs) → All P further → All P (row_at o new r rs further)
All-row_at P Less new r rs further p all more = All-cons P new (r ∷ rs) p all
All-row_at P Equal new r rs further p all more = All-cons P new rs p (All-tail P r rs all)
All-row_at P Greater new r rs further p all more = All-cons P r further (All-head P r rs all) more

pub All-with_row : (P : ℕ × Record → Type 0) (new : ℕ × Record) (rows : List (ℕ × Record)) → P new → All P rows → All P (with_row new rows)
All-with_row P new [] p all = All-cons P new [] p all
All-with_row P new (r ∷ rs) p all =
    All-row_at P (key_cmp (row_key new) (row_key r)) new r rs (with_row new rs) p all (All-with_row P new rs p (All-tail P r rs all))

pub All-without_row : (P : ℕ × Record → Type 0) (key : Key) (rows : List (ℕ × Record)) → All P rows → All P (without_row key rows)
All-without_row P key [] all = all
All-without_row P key (r ∷ rs) all =
    let rest = All-without_row P key rs (All-tail P r rs all) in
    elim (not (keys_equal (row_key r) key)) as (λ b. All P (cond b (r ∷ without_row key rs) (without_row key rs))) [
      | true ↦ All-cons P r _ (All-head P r rs all) rest
      | false ↦ rest
    ]

-- ---- the order of keys

keys-row_at : (P : Key → Type 0) (o : Ordering) (new r : ℕ × Record) (rs further : List (ℕ × Record)) → P (row_key new) → AllByRecursion P (map row_key (r ∷ rs)) → AllByRecursion P (map row_key further) → AllByRecursion P (map row_key (row_at o new r rs further))
keys-row_at P Less new r rs further p all more = (p, all)
keys-row_at P Equal new r rs further p all more = (p, all.1)
keys-row_at P Greater new r rs further p all more = (all.0, more)

keys-with_row : (P : Key → Type 0) (new : ℕ × Record) (rows : List (ℕ × Record)) → P (row_key new) → AllByRecursion P (map row_key rows) → AllByRecursion P (map row_key (with_row new rows))
keys-with_row P new [] p all = (p, tt)
keys-with_row P new (r ∷ rs) p all =
    keys-row_at P (key_cmp (row_key new) (row_key r)) new r rs (with_row new rs) p all (keys-with_row P new rs p all.1)

pub later : (x y : Key) → key_cmp x y ≡ Less → (rows : List (ℕ × Record)) → AllByRecursion (λ z. key_cmp y z ≡ Less) (map row_key rows) → AllByRecursion (λ z. key_cmp x z ≡ Less) (map row_key rows)
later x y h [] all = tt
later x y h (r ∷ rs) all = (key_cmp_total.trans x y (row_key r) h all.0, later x y h rs all.1)

same : (x y : Key) → key_cmp x y ≡ Equal → (rows : List (ℕ × Record)) → AllByRecursion (λ z. key_cmp y z ≡ Less) (map row_key rows) → AllByRecursion (λ z. key_cmp x z ≡ Less) (map row_key rows)
same x y h [] all = tt
same x y h (r ∷ rs) all = (key_cmp_total.congr x y (row_key r) h ∙ all.0, same x y h rs all.1)

sorted-row_at : (o : Ordering) (new r : ℕ × Record) (rs : List (ℕ × Record)) → key_cmp (row_key new) (row_key r) ≡ o → IsStrictlySortedBy key_cmp (map row_key (r ∷ rs)) → IsStrictlySortedBy key_cmp (map row_key (with_row new rs)) → IsStrictlySortedBy key_cmp (map row_key (row_at o new r rs (with_row new rs)))
unfolding IsStrictlySortedBy
sorted-row_at Less new r rs h s rest = ((h, later (row_key new) (row_key r) h rs s.0), s)
sorted-row_at Equal new r rs h s rest = (same (row_key new) (row_key r) h rs s.0, s.1)
sorted-row_at Greater new r rs h s rest =
    let below : key_cmp (row_key r) (row_key new) ≡ Less = key_cmp_total.antisymm (row_key r) (row_key new) ∙ ap ordering_reverse h in
    (keys-with_row (λ y. key_cmp (row_key r) y ≡ Less) new rs below s.0, rest)

pub sorted-with_row : (new : ℕ × Record) (rows : List (ℕ × Record)) → IsStrictlySortedBy key_cmp (map row_key rows) → IsStrictlySortedBy key_cmp (map row_key (with_row new rows))
unfolding IsStrictlySortedBy
sorted-with_row new [] s = (tt, tt)
sorted-with_row new (r ∷ rs) s = sorted-row_at (key_cmp (row_key new) (row_key r)) new r rs refl s (sorted-with_row new rs s.1)

keys-filter : (P : Key → Type 0) (passes : ℕ × Record → Bool) (rows : List (ℕ × Record)) → AllByRecursion P (map row_key rows) → AllByRecursion P (map row_key (filter passes rows))
keys-filter P passes [] all = all
keys-filter P passes (r ∷ rs) all =
    elim (passes r) as (λ b. AllByRecursion P (map row_key (cond b (r ∷ filter passes rs) (filter passes rs)))) [
      | true ↦ (all.0, keys-filter P passes rs all.1)
      | false ↦ keys-filter P passes rs all.1
    ]

pub sorted-filter : (passes : ℕ × Record → Bool) (rows : List (ℕ × Record)) → IsStrictlySortedBy key_cmp (map row_key rows) → IsStrictlySortedBy key_cmp (map row_key (filter passes rows))
unfolding IsStrictlySortedBy
sorted-filter passes [] s = s
sorted-filter passes (r ∷ rs) s =
    elim (passes r) as (λ b. IsStrictlySortedBy key_cmp (map row_key (cond b (r ∷ filter passes rs) (filter passes rs)))) [
      | true ↦ (keys-filter (λ y. key_cmp (row_key r) y ≡ Less) passes rs s.0, sorted-filter passes rs s.1)
      | false ↦ sorted-filter passes rs s.1
    ]

pub sorted-without_row : (key : Key) (rows : List (ℕ × Record)) → IsStrictlySortedBy key_cmp (map row_key rows) → IsStrictlySortedBy key_cmp (map row_key (without_row key rows))
sorted-without_row key rows s = sorted-filter (λ row. not (keys_equal (row_key row) key)) rows s
