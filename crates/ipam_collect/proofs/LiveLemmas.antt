-- One more id in the set of those of a list.
use Rattle.std.proofs.Common.{◌≡◌, ℕ, ◌+◌, ◌<◌, ◌||◌, Bool, true, false, cond, List, length, take, get_or, refl, sym, ap, ◌∙◌}
use Rattle.std.specs.Prelude.{bytes_eq}
use Rattle.std.specs.Borrow.{Bor}
use Rattle.std.specs.BTreeSet.{BTreeSet, Updates}
use Rattle.std.specs.Cmp.Lexicographic.{slice_cmp, nat_list_eq_equiv}
use Rattle.std.specs.Ordering.{nat_cmp}
use Rattle.std.proofs.lemmas.List.Folds.{list_any_more}
use Rattle.std.proofs.lemmas.Map.Text.{is_eq-slice_cmp}
use Rattle.ipam_model.specs.Remove.{is_live}
use Rattle.ipam_collect.specs.Live.{has_id}

or_here : (test before : Bool) → cond test true before ≡ (before || test)
or_here true true = refl
or_here true false = refl
or_here false true = refl
or_here false false = refl

pub one_id_more : (old new : BTreeSet (Bor (List ℕ))) (ids : List (List ℕ)) (place : ℕ) (item : List ℕ) (id : Bor (List ℕ)) → id.now ≡ item → item ≡ get_or ids place item → place < length ids
    → Updates (λ (x : Bor (List ℕ)) (y : Bor (List ℕ)). slice_cmp nat_cmp x.now y.now) old new id true
    → ((other : List ℕ) → has_id old other ≡ is_live (take place ids) other)
    → (other : List ℕ) → has_id new other ≡ is_live (take (place + 1) ids) other
one_id_more old new ids place item id same is within updates before other =
    updates.0 (record { ref_ptr = (0, 0); now = other })
    ∙ (ap (λ b. cond b true (has_id old other)) (is_eq-slice_cmp id.now other ∙ nat_list_eq_equiv.symm id.now other)
    ∙ (or_here (bytes_eq other id.now) (has_id old other)
    ∙ (ap (λ b. b || bytes_eq other id.now) (before other)
    ∙ (ap (λ it. is_live (take place ids) other || bytes_eq other it) (same ∙ is)
    ∙ sym (list_any_more (bytes_eq other) ids place item within)))))
