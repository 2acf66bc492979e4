-- Faults of rows that are to be opened, in lists, and which of them is first.
use Rattle.std.proofs.Common.{◌≡◌, ◌≢◌, ◌⊎◌, ℕ, ◌<◌, inl, inr, Bool, true, List, [], ◌∷◌, ◌++◌, map, refl, sym, ap, ◌∙◌, subst, arith}
use Rattle.std.specs.Prelude.{Contains}
use Rattle.std.specs.declared.cmp.Ordering.{Ordering}
use Rattle.std.specs.declared.cmp.Ordering.TheVariants.{Less, Equal, Greater}
use Rattle.std.specs.Cmp.{tied_itself}
use Rattle.std.specs.Cmp.Lexicographic.{slice_cmp}
use Rattle.std.specs.List.{filter, flat_map}
use Rattle.std.specs.Ordering.{nat_cmp, ordering_reverse}
use Rattle.std.proofs.lemmas.Bool.{cases_lt}
use Rattle.std.proofs.lemmas.Cmp.{nat_list_cmp_total}
use Rattle.std.proofs.lemmas.List.Elements.{Contains-append_cases, Contains-append_left, Contains-append_right}
use Rattle.ipam_records.specs.declared.call.Row.{Row as RowText}
use Rattle.ipam_model.specs.Opened.{Texts, Breaks, readable}
use Rattle.ipam_model.specs.Reads.{StoredRecord}
use Rattle.ipam_laws.proofs.Members.{in-cons, in-here, in-there, in-nothing, in-map, out-map, in-filter, filter-in}

-- ---- faults, and which is first

-- the number of a rule, and the text of a key
abbrev pub Fault : Type 0
Fault = ℕ × List ℕ

-- by the number, then by the bytes of the text
abbrev pub IsNotBehind : Fault → Fault → Type 0
IsNotBehind one other = (one.0 < other.0) ⊎ ((one.0 ≡ other.0) × (slice_cmp nat_cmp one.1 other.1 ≢ Greater))

text-cases : (x y : List ℕ) → (slice_cmp nat_cmp x y ≢ Greater) ⊎ (slice_cmp nat_cmp y x ≢ Greater)
text-cases x y = by (slice_cmp nat_cmp x y) refl
  where
    by : (o : Ordering) → slice_cmp nat_cmp x y ≡ o → (slice_cmp nat_cmp x y ≢ Greater) ⊎ (slice_cmp nat_cmp y x ≢ Greater)
    by Less e = inl (λ g. cc (e, g))
    by Equal e = inl (λ g. cc (e, g))
    by Greater e =
        let back : slice_cmp nat_cmp y x ≡ Less = nat_list_cmp_total.antisymm y x ∙ ap ordering_reverse e in
        inr (λ g. cc (back, g))

text-trans : (x y z : List ℕ) → slice_cmp nat_cmp x y ≢ Greater → slice_cmp nat_cmp y z ≢ Greater → slice_cmp nat_cmp x z ≢ Greater
text-trans x y z one two = by (slice_cmp nat_cmp x y) refl (slice_cmp nat_cmp y z) refl
  where
    not_greater : (o : Ordering) → slice_cmp nat_cmp x z ≡ o → o ≢ Greater → slice_cmp nat_cmp x z ≢ Greater
    not_greater o e differs g = differs (sym e ∙ g)

    by : (o : Ordering) → slice_cmp nat_cmp x y ≡ o → (p : Ordering) → slice_cmp nat_cmp y z ≡ p → slice_cmp nat_cmp x z ≢ Greater
    by Less e Less f = not_greater Less (nat_list_cmp_total.trans x y z e f) (λ g. cc g)
    by Less e Equal f =
        let back : slice_cmp nat_cmp z y ≡ Equal = nat_list_cmp_total.antisymm z y ∙ ap ordering_reverse f in
        let zx : slice_cmp nat_cmp z x ≡ Greater = nat_list_cmp_total.congr z y x back ∙ (nat_list_cmp_total.antisymm y x ∙ ap ordering_reverse e) in
        let xz : slice_cmp nat_cmp x z ≡ Less = nat_list_cmp_total.antisymm x z ∙ ap ordering_reverse zx in
        not_greater Less xz (λ g. cc g)
    by Less e Greater f = absurd (two f)
    by Equal e p f = λ g. two (sym (nat_list_cmp_total.congr x y z e) ∙ g)
    by Greater e p f = absurd (one e)

fault-cases : (one other : Fault) → IsNotBehind one other ⊎ IsNotBehind other one
fault-cases one other = elim (cases_lt one.0 other.0) [
  | inl less ↦ inl (inl less)
  | inr above ↦ elim (cases_lt other.0 one.0) [
    | inl more ↦ inr (inl more)
    | inr level ↦
        let same : one.0 ≡ other.0 = omega arith in
        elim (text-cases one.1 other.1) [ inl first ↦ inl (inr (same, first)) | inr second ↦ inr (inr (sym same, second)) ]
  ]
]

fault-trans : (x y z : Fault) → IsNotBehind x y → IsNotBehind y z → IsNotBehind x z
fault-trans x y z (inl a) (inl b) = inl (omega arith)
fault-trans x y z (inl a) (inr b) = inl (let e = b.0 in omega arith)
fault-trans x y z (inr a) (inl b) = inl (let e = a.0 in omega arith)
fault-trans x y z (inr a) (inr b) = inr (a.0 ∙ b.0, text-trans x.1 y.1 z.1 a.1 b.1)

fault-itself : (x : Fault) → IsNotBehind x x
fault-itself x = inr (refl, λ g. let t = tied_itself nat_list_cmp_total x.1 in cc (t, g))

-- the first of a list
pub record FirstOf (faults : List Fault) : Type 0 where
  pub first : Fault
  pub among : Contains faults first
  pub behind : (other : Fault) → Contains faults other → IsNotBehind first other

pub first-of : (x : Fault) (xs : List Fault) → FirstOf (x ∷ xs)
first-of x [] = record { first = x; among = in-here x []; behind = λ other h. elim (in-cons other x [] h) [ inl is ↦ subst (λ (y : Fault). IsNotBehind x y) is (fault-itself x) | inr there ↦ absurd (in-nothing other there) ] }
first-of x (y ∷ ys) =
    let rest = first-of y ys in
    elim (fault-cases x rest.first) [
      | inl before ↦ record {
        first = x;
        among = in-here x (y ∷ ys);
        behind = λ other h. elim (in-cons other x (y ∷ ys) h) [
          | inl is ↦ subst (λ (z : Fault). IsNotBehind x z) is (fault-itself x)
          | inr there ↦ fault-trans x rest.first other before (rest.behind other there)
        ];
      }
      | inr after ↦ record {
        first = rest.first;
        among = in-there rest.first x (y ∷ ys) rest.among;
        behind = λ other h. elim (in-cons other x (y ∷ ys) h) [
          | inl is ↦ subst (λ (z : Fault). IsNotBehind rest.first z) is after
          | inr there ↦ rest.behind other there
        ];
      }
    ]

-- ---- the faults of rows by a test

module _ (texts : Texts) where
  -- faults that there are
  abbrev pub Faulty : List Fault → Type 0
  Faulty faults = (f : Fault) → Contains faults f → Breaks texts f.0 f.1

  -- the rows that fail
  abbrev pub by_rows : ℕ → (RowText → Bool) → List Fault
  by_rows number fails = map (λ (row : RowText). (number, row.key)) (filter fails texts.rows)

  pub rows-faulty : (number : ℕ) (fails : RowText → Bool) → ((row : RowText) → Contains texts.rows row → fails row ≡ true → Breaks texts number row.key) → Faulty (by_rows number fails)
  rows-faulty number fails h f there =
      let (row, among, is) = out-map (λ (r : RowText). (number, r.key)) f (filter fails texts.rows) there in
      let (own, failed) = in-filter fails row texts.rows among in
      subst (λ (g : Fault). Breaks texts g.0 g.1) is (h row own failed)

  pub row-among : (number : ℕ) (fails : RowText → Bool) (row : RowText) → Contains texts.rows row → fails row ≡ true → Contains (by_rows number fails) (number, row.key)
  row-among number fails row own failed = in-map (λ (r : RowText). (number, r.key)) row (filter fails texts.rows) (filter-in fails row texts.rows own failed)

  pub both-faulty : (xs ys : List Fault) → Faulty xs → Faulty ys → Faulty (xs ++ ys)
  both-faulty xs ys h k f there = elim (Contains-append_cases xs ys f there) [ inl own ↦ h f own | inr other ↦ k f other ]

  pub none-faulty : Faulty []
  none-faulty f there = absurd (in-nothing f there)

  pub one-faulty : (f : Fault) → Breaks texts f.0 f.1 → Faulty (f ∷ [])
  one-faulty f broken g there = elim (in-cons g f [] there) [ inl is ↦ subst (λ (h : Fault). Breaks texts h.0 h.1) is broken | inr no_more ↦ absurd (in-nothing g no_more) ]

  -- those of each row that can be read
  abbrev pub by_read : (StoredRecord → List Fault) → List Fault
  by_read of_row = flat_map of_row (readable texts.rows)

  pub read-faulty : (of_row : StoredRecord → List Fault) → ((row : StoredRecord) → Faulty (of_row row)) → Faulty (by_read of_row)
  read-faulty of_row h = from (readable texts.rows)
    where
      from : (rows : List StoredRecord) (f : Fault) → Contains (flat_map of_row rows) f → Breaks texts f.0 f.1
      from [] f there = absurd (in-nothing f there)
      from (row ∷ rows) f there = elim (Contains-append_cases (of_row row) (flat_map of_row rows) f there) [ inl own ↦ h row f own | inr other ↦ from rows f other ]

  pub read-among : (of_row : StoredRecord → List Fault) (row : StoredRecord) (f : Fault) → Contains (readable texts.rows) row → Contains (of_row row) f → Contains (by_read of_row) f
  read-among of_row row f own there = from (readable texts.rows) own
    where
      from : (rows : List StoredRecord) → Contains rows row → Contains (flat_map of_row rows) f
      from [] h = absurd (in-nothing row h)
      from (first ∷ rows) h = elim (in-cons row first rows h) [
        | inl is ↦ Contains-append_left (of_row first) (flat_map of_row rows) f (subst (λ (r : StoredRecord). Contains (of_row r) f) (sym is) there)
        | inr other ↦ Contains-append_right (of_row first) (flat_map of_row rows) f (from rows other)
      ]
