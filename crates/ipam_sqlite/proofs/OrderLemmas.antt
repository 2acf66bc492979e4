-- Rows read in order ascend.
use Rattle.std.proofs.Common.{◌≡◌, ℕ, zero, suc, ◌+◌, ◌≤◌, List, [], ◌∷◌, ◌++◌, length, map, cond, Bool, true, false, Some, IsTrue, arith, refl, ◌∙◌, ap}
use Rattle.std.specs.declared.cmp.Ordering.{Ordering}
use Rattle.std.specs.declared.cmp.Ordering.TheVariants.{Less, Equal, Greater}
use Rattle.std.specs.Ordering.{is_lt}
use Rattle.std.specs.List.{AllByRecursion, slice_get}
use Rattle.ipam_records.specs.declared.call.Row.{Row}
use Rattle.ipam_keeper.specs.Rows.{text_cmp, Ascend, row_key_text}
use Rattle.ipam_keeper.proofs.Searching.{text_total}
use Rattle.ipam_sqlite.specs.Order.{IsAboveAll}

pub less_from : (b : Bool) (o : Ordering) → b ≡ is_lt o → IsTrue b → o ≡ Less
less_from b Less e h = refl
less_from b Equal e h = cc (e, h)
less_from b Greater e h = cc (e, h)

-- what is above the last row is above all
pub above_last : (rows : List Row) (n : ℕ) (last row : Row) → length rows ≤ n + 1 → Ascend rows → slice_get rows n ≡ Some last → text_cmp (row_key_text last) (row_key_text row) ≡ Less → IsAboveAll rows row
above_last [] n last row l s at h = tt
above_last (r ∷ []) zero last row l s at h =
    let same : r ≡ last = cc at in (ap (λ x. text_cmp (row_key_text x) (row_key_text row)) same ∙ h, tt)
above_last (r ∷ []) (suc n) last row l s at h = cc at
above_last (r ∷ second ∷ rs) zero last row l s at h = absurd (omega arith)
above_last (r ∷ second ∷ rs) (suc n) last row l s at h =
    let rest = above_last (second ∷ rs) n last row (omega arith) s.1 at h in
    (text_total.trans (row_key_text r) (row_key_text second) (row_key_text row) s.0.0 rest.0, rest)

each_push : (P : List ℕ → Type 0) (rows : List Row) (row : Row) → AllByRecursion P (map row_key_text rows) → P (row_key_text row) → AllByRecursion P (map row_key_text (rows ++ row ∷ []))
each_push P [] row a h = (h, tt)
each_push P (r ∷ rs) row a h = (a.0, each_push P rs row a.1 h)

-- a row above all others goes to the end
pub Ascend-push : (rows : List Row) (row : Row) → Ascend rows → IsAboveAll rows row → Ascend (rows ++ row ∷ [])
Ascend-push [] row s above = (tt, tt)
Ascend-push (r ∷ rs) row s above =
    (each_push (λ key. text_cmp (row_key_text r) key ≡ Less) rs row s.0 above.0, Ascend-push rs row s.1 above.1)

pub Ascend-pushed : (is_done : Bool) (rows : List Row) (row : Row) → Ascend rows → IsAboveAll rows row → Ascend (cond is_done (rows ++ row ∷ []) rows)
Ascend-pushed true rows row s above = Ascend-push rows row s above
Ascend-pushed false rows row s above = s
