-- Of several texts, the one that comes first.
use Rattle.std.proofs.Common.{◌≡◌, ◌≢◌, ◌⊎◌, ℕ, inl, inr, Bool, true, false, cond, List, [], ◌∷◌, Option, Some, None, refl, sym, ap, ◌∙◌, subst, option_map}
use Rattle.std.specs.Prelude.{Contains}
use Rattle.std.specs.declared.cmp.Ordering.{Ordering}
use Rattle.std.specs.declared.cmp.Ordering.TheVariants.{Less, Equal, Greater}
use Rattle.std.specs.Cmp.Lexicographic.{slice_cmp}
use Rattle.std.specs.List.{find}
use Rattle.std.specs.List.Sorted.{IsStrictlySortedBy}
use Rattle.std.specs.Ordering.{nat_cmp, is_lt, ordering_reverse}
use Rattle.std.proofs.lemmas.Cmp.{nat_list_cmp_total}
use Rattle.ipam_records.specs.declared.call.Row.{Row as RowText}
use Rattle.ipam_model.specs.Opened.{AreByKey}
use Rattle.ipam_laws.proofs.Members.{in-cons, in-here, in-there, in-nothing}
use Rattle.ipam_opening.specs.Earlier.{earlier}
use Rattle.ipam_opening.specs.Told.{IsFirst, IsFirstOf}
use Rattle.ipam_opening.proofs.Found.{later-key, text-itself}

-- ---- the order of texts

less-not : (x y : List ℕ) → slice_cmp nat_cmp x y ≡ Less → slice_cmp nat_cmp x y ≢ Greater
less-not x y e g = cc (e, g)

equal-not : (x y : List ℕ) → slice_cmp nat_cmp x y ≡ Equal → slice_cmp nat_cmp x y ≢ Greater
equal-not x y e g = cc (e, g)

pub itself-not : (x : List ℕ) → slice_cmp nat_cmp x x ≢ Greater
itself-not x = equal-not x x (text-itself x)

-- what is before another is not after what that is not after
less-then : (x y z : List ℕ) → slice_cmp nat_cmp x y ≡ Less → slice_cmp nat_cmp y z ≢ Greater → slice_cmp nat_cmp x z ≢ Greater
less-then x y z one two = by (slice_cmp nat_cmp y z) refl
  where
    by : (o : Ordering) → slice_cmp nat_cmp y z ≡ o → slice_cmp nat_cmp x z ≢ Greater
    by Less f = less-not x z (nat_list_cmp_total.trans x y z one f)
    by Equal f =
        let back : slice_cmp nat_cmp z y ≡ Equal = nat_list_cmp_total.antisymm z y ∙ ap ordering_reverse f in
        let zx : slice_cmp nat_cmp z x ≡ Greater = nat_list_cmp_total.congr z y x back ∙ (nat_list_cmp_total.antisymm y x ∙ ap ordering_reverse one) in
        less-not x z (nat_list_cmp_total.antisymm x z ∙ ap ordering_reverse zx)
    by Greater f = absurd (two f)

-- where it is not before the other, the other is not after it
not-less : (x y : List ℕ) → is_lt (slice_cmp nat_cmp x y) ≡ false → slice_cmp nat_cmp y x ≢ Greater
not-less x y e = by (slice_cmp nat_cmp x y) refl e
  where
    by : (o : Ordering) → slice_cmp nat_cmp x y ≡ o → is_lt o ≡ false → slice_cmp nat_cmp y x ≢ Greater
    by Less f g = absurd (cc g)
    by Equal f g = equal-not y x (nat_list_cmp_total.antisymm y x ∙ ap ordering_reverse f)
    by Greater f g = less-not y x (nat_list_cmp_total.antisymm y x ∙ ap ordering_reverse f)

is-less : (x y : List ℕ) → is_lt (slice_cmp nat_cmp x y) ≡ true → slice_cmp nat_cmp x y ≡ Less
is-less x y e = by (slice_cmp nat_cmp x y) refl e
  where
    by : (o : Ordering) → slice_cmp nat_cmp x y ≡ o → is_lt o ≡ true → slice_cmp nat_cmp x y ≡ Less
    by Less f g = f
    by Equal f g = absurd (cc g)
    by Greater f g = absurd (cc g)

not-behind-trans : (x y z : List ℕ) → slice_cmp nat_cmp x y ≢ Greater → slice_cmp nat_cmp y z ≢ Greater → slice_cmp nat_cmp x z ≢ Greater
not-behind-trans x y z one two = by (slice_cmp nat_cmp x y) refl
  where
    by : (o : Ordering) → slice_cmp nat_cmp x y ≡ o → slice_cmp nat_cmp x z ≢ Greater
    by Less e = less-then x y z e two
    by Equal e = λ g. two (sym (nat_list_cmp_total.congr x y z e) ∙ g)
    by Greater e = absurd (one e)

-- ---- the first of texts

pub first-same : (P Q : List ℕ → Type 0) → ((t : List ℕ) → P t → Q t) → ((t : List ℕ) → Q t → P t) → (o : Option (List ℕ)) → IsFirstOf P o → IsFirstOf Q o
first-same P Q forth back None h = λ t q. h t (back t q)
first-same P Q forth back (Some text) h = record { is = forth text h.is; first = λ t q. h.first t (back t q) }

pub first-earlier : (P Q : List ℕ → Type 0) (a b : Option (List ℕ)) → IsFirstOf P a → IsFirstOf Q b → IsFirstOf (λ t. P t ⊎ Q t) (earlier a b)
first-earlier P Q None None h g = λ t both. elim both [ inl p ↦ h t p | inr q ↦ g t q ]
first-earlier P Q None (Some y) h g = record { is = inr g.is; first = λ t both. elim both [ inl p ↦ absurd (h t p) | inr q ↦ g.first t q ] }
first-earlier P Q (Some x) None h g = record { is = inl h.is; first = λ t both. elim both [ inl p ↦ h.first t p | inr q ↦ absurd (g t q) ] }
first-earlier P Q (Some x) (Some y) h g = by (is_lt (slice_cmp nat_cmp y x)) refl
  where
    by : (b : Bool) → is_lt (slice_cmp nat_cmp y x) ≡ b → IsFirst (λ t. P t ⊎ Q t) (cond b y x)
    by true e = record {
      is = inr g.is;
      first = λ t both. elim both [ inl p ↦ less-then y x t (is-less y x e) (h.first t p) | inr q ↦ g.first t q ];
    }
    by false e = record {
      is = inl h.is;
      first = λ t both. elim both [ inl p ↦ h.first t p | inr q ↦ not-behind-trans x y t (not-less y x e) (g.first t q) ];
    }

-- ---- the first row that fails a test

-- the key of a row that fails
pub record IsKeyOf (rows : List RowText) (fails : RowText → Bool) (about : List ℕ) : Type 0 where
  pub row : RowText
  pub among : Contains rows row
  pub own : row.key ≡ about
  pub failed : fails row ≡ true

pub first-found : (fails : RowText → Bool) (rows : List RowText) → AreByKey rows → IsFirstOf (IsKeyOf rows fails) (option_map (λ (row : RowText). row.key) (find fails rows))
unfolding IsStrictlySortedBy
first-found fails [] by_key = λ about h. in-nothing h.row h.among
first-found fails (first ∷ rows) by_key = by (fails first) refl (find fails rows) (first-found fails rows by_key.1)
  where
    here : fails first ≡ true → IsFirst (IsKeyOf (first ∷ rows) fails) first.key
    here e = record {
      is = record { row = first; among = in-here first rows; own = refl; failed = e };
      first = λ about h. elim (in-cons h.row first rows h.among) [
        | inl same ↦ subst (λ (t : List ℕ). slice_cmp nat_cmp first.key t ≢ Greater) (ap (λ (r : RowText). r.key) same ∙ h.own) (itself-not first.key)
        | inr there ↦ subst (λ (t : List ℕ). slice_cmp nat_cmp first.key t ≢ Greater) h.own (less-not first.key h.row.key (later-key first rows by_key.0 h.row there))
      ];
    }

    forth : (t : List ℕ) → IsKeyOf rows fails t → IsKeyOf (first ∷ rows) fails t
    forth t h = record { row = h.row; among = in-there h.row first rows h.among; own = h.own; failed = h.failed }

    back : fails first ≡ false → (t : List ℕ) → IsKeyOf (first ∷ rows) fails t → IsKeyOf rows fails t
    back e t h = elim (in-cons h.row first rows h.among) [
      | inl same ↦ let f : fails first ≡ true = ap fails same ∙ h.failed in absurd (cc (e, f))
      | inr there ↦ record { row = h.row; among = there; own = h.own; failed = h.failed }
    ]

    by : (b : Bool) → fails first ≡ b → (o : Option RowText) → IsFirstOf (IsKeyOf rows fails) (option_map (λ (row : RowText). row.key) o) → IsFirstOf (IsKeyOf (first ∷ rows) fails) (option_map (λ (row : RowText). row.key) (cond b (Some first) o))
    by true e o rest = here e
    by false e o rest = first-same (IsKeyOf rows fails) (IsKeyOf (first ∷ rows) fails) forth (back e) (option_map (λ (row : RowText). row.key) o) rest
