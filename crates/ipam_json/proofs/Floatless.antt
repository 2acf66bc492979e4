-- Data built of parts without a float has none, so that its compact text is written.
use Rattle.std.proofs.Common.{◌≡◌, ℕ, Bool, false, true, ◌||◌, List, [], ◌∷◌, map, refl, Ordering, Less, Equal, Greater}
use Rattle.std.specs.Prelude.{fold}
use Rattle.std.specs.Ordering.{nat_cmp, match_ordering}
use Rattle.std.specs.Cmp.Lexicographic.{slice_cmp}
use Rattle.serde_json.specs.Data.{Data, Members, no_members, member, put}
use Rattle.serde_json.specs.View.{items_of}
use Rattle.serde_json.specs.Written.{has_float, items_have_float, members_have_float}

pub items_without : {A : Type 0} (f : A → Data) → ((a : A) → has_float (f a) ≡ false) → (all : List A) → items_have_float (items_of (map f all)) ≡ false
items_without f each [] = refl
items_without f each (a ∷ rest) = rw (each a) (items_without f each rest)

pub put_without : (k : List ℕ) (d : Data) (ms : Members) → has_float d ≡ false → members_have_float ms ≡ false → members_have_float (put k d ms) ≡ false
put_without k d no_members h g = rw h refl
put_without k d (member l e ms) h g = at (slice_cmp nat_cmp k l) (has_float e) refl g (put_without k d ms h)
  where
    at : (o : Ordering) (b : Bool) → has_float e ≡ b → (b || members_have_float ms) ≡ false → (members_have_float ms ≡ false → members_have_float (put k d ms) ≡ false) → members_have_float (match_ordering o (member k d (member l e ms)) (member l d ms) (member l e (put k d ms))) ≡ false
    at o true is g later = absurd cc
    at Less false is g later = rw (h, is) g
    at Equal false is g later = rw h g
    at Greater false is g later = rw is (later g)

-- members that are put in one after the other
pub fold_without : {A : Type 0} (name : A → List ℕ) (f : A → Data) → ((a : A) → has_float (f a) ≡ false) → (ms : Members) (all : List A) → members_have_float ms ≡ false → members_have_float (fold (λ (found : Members) (a : A). put (name a) (f a) found) ms all) ≡ false
fold_without name f each ms [] h = h
fold_without name f each ms (a ∷ rest) h = fold_without name f each (put (name a) (f a) ms) rest (put_without (name a) (f a) ms (each a) h)
