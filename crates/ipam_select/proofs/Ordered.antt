-- Values that ascend: putting one among them keeps that, and putting all of them in order changes nothing.
use Rattle.std.proofs.Common.{◌≡◌, ℕ, Bool, true, false, ◌||◌, List, [], ◌∷◌, ◌++◌, refl, sym, ap, ◌∙◌, append_assoc, append-nil, Ordering, Less, Equal, Greater}
use Rattle.std.specs.List.{list_all, list_any}
use Rattle.std.specs.Cmp.Lexicographic.{slice_cmp, texts_ties, same_text}
use Rattle.std.specs.Ordering.{nat_cmp, match_ordering, is_lt, is_eq, ordering_reverse}
use Rattle.std.proofs.lemmas.Cmp.{nat_list_cmp_total}
use Rattle.ipam_select.specs.Admitting.{same}
use Rattle.ipam_select.specs.Reading.{put_value}
use Rattle.ipam_select.specs.Grammar.{put_all, ascending}
use Rattle.ipam_select.specs.Sound.{ascends}
use Rattle.ipam_select.proofs.Choices.{and_true, and_both}

abbrev text_cmp : List ℕ → List ℕ → Ordering
text_cmp = slice_cmp nat_cmp

is_less : (o : Ordering) → is_lt o ≡ true → o ≡ Less
is_less Less e = refl
is_less Equal e = absurd (cc)
is_less Greater e = absurd (cc)

greater_above : (v x : List ℕ) → text_cmp v x ≡ Greater → text_cmp x v ≡ Less
greater_above v x e = nat_list_cmp_total.antisymm x v ∙ ap ordering_reverse e

less_below : (v x : List ℕ) → text_cmp x v ≡ Less → text_cmp v x ≡ Greater
less_below v x e = nat_list_cmp_total.antisymm v x ∙ ap ordering_reverse e

before_next : (w v : List ℕ) (vs : List (List ℕ)) → text_cmp w v ≡ Less → ascends (v ∷ vs) ≡ true → ascends (w ∷ v ∷ vs) ≡ true
before_next w v vs l h = and_both (is_lt (text_cmp w v)) (ascends (v ∷ vs)) (ap is_lt l) h

next_of : (w v : List ℕ) (vs : List (List ℕ)) → ascends (w ∷ v ∷ vs) ≡ true → (text_cmp w v ≡ Less) × (ascends (v ∷ vs) ≡ true)
next_of w v vs h = let both = and_true (is_lt (text_cmp w v)) (ascends (v ∷ vs)) h in (is_less (text_cmp w v) both.0, both.1)

-- ---- putting one among them

put_above-by : (w v x : List ℕ) (vs : List (List ℕ)) (o : Ordering) → text_cmp v x ≡ o → text_cmp w v ≡ Less → ascends (w ∷ x ∷ vs) ≡ true
    → (text_cmp x v ≡ Less → ascends (x ∷ vs) ≡ true → ascends (x ∷ put_value v vs) ≡ true) → ascends (w ∷ match_ordering o (v ∷ x ∷ vs) (x ∷ vs) (x ∷ put_value v vs)) ≡ true
put_above-by w v x vs Less e l h more = before_next w v (x ∷ vs) l (before_next v x vs e (next_of w x vs h).1)
put_above-by w v x vs Equal e l h more = h
put_above-by w v x vs Greater e l h more = let next = next_of w x vs h in before_next w x (put_value v vs) next.0 (more (greater_above v x e) next.1)

-- what is put after the first value stays above it
put_above : (w v : List ℕ) (vs : List (List ℕ)) → text_cmp w v ≡ Less → ascends (w ∷ vs) ≡ true → ascends (w ∷ put_value v vs) ≡ true
put_above w v [] l h = before_next w v [] l refl
put_above w v (x ∷ vs) l h = put_above-by w v x vs (text_cmp v x) refl l h (λ k g. put_above x v vs k g)

ascends-put-by : (v x : List ℕ) (vs : List (List ℕ)) (o : Ordering) → text_cmp v x ≡ o → ascends (x ∷ vs) ≡ true → ascends (match_ordering o (v ∷ x ∷ vs) (x ∷ vs) (x ∷ put_value v vs)) ≡ true
ascends-put-by v x vs Less e h = before_next v x vs e h
ascends-put-by v x vs Equal e h = h
ascends-put-by v x vs Greater e h = put_above x v vs (greater_above v x e) h

ascends-put : (v : List ℕ) (vs : List (List ℕ)) → ascends vs ≡ true → ascends (put_value v vs) ≡ true
ascends-put v [] h = refl
ascends-put v (x ∷ vs) h = ascends-put-by v x vs (text_cmp v x) refl h

ascends-put_all : (vs before : List (List ℕ)) → ascends before ≡ true → ascends (put_all before vs) ≡ true
ascends-put_all [] before h = h
ascends-put_all (v ∷ vs) before h = ascends-put_all vs (put_value v before) (ascends-put v before h)

-- what is put in order ascends, each value once
pub ascends-ascending : (vs : List (List ℕ)) → ascends (ascending vs) ≡ true
ascends-ascending vs = ascends-put_all vs [] refl

put_pass-by : (p : List ℕ → Bool) (v x : List ℕ) (vs : List (List ℕ)) (o : Ordering) → p v ≡ true → list_all p (x ∷ vs) ≡ true → list_all p (put_value v vs) ≡ true
    → list_all p (match_ordering o (v ∷ x ∷ vs) (x ∷ vs) (x ∷ put_value v vs)) ≡ true
put_pass-by p v x vs Less h all more = and_both (p v) (list_all p (x ∷ vs)) h all
put_pass-by p v x vs Equal h all more = all
put_pass-by p v x vs Greater h all more = and_both (p x) (list_all p (put_value v vs)) (and_true (p x) (list_all p vs) all).0 more

put_pass : (p : List ℕ → Bool) (v : List ℕ) (vs : List (List ℕ)) → p v ≡ true → list_all p vs ≡ true → list_all p (put_value v vs) ≡ true
put_pass p v [] h all = and_both (p v) true h refl
put_pass p v (x ∷ vs) h all = put_pass-by p v x vs (text_cmp v x) h all (put_pass p v vs h (and_true (p x) (list_all p vs) all).1)

put_all_pass : (p : List ℕ → Bool) (vs before : List (List ℕ)) → list_all p vs ≡ true → list_all p before ≡ true → list_all p (put_all before vs) ≡ true
put_all_pass p [] before h all = all
put_all_pass p (v ∷ vs) before h all =
    let both = and_true (p v) (list_all p vs) h in
    put_all_pass p vs (put_value v before) both.1 (put_pass p v before both.0 all)

-- what each value passes, each passes that is put
pub ascending_pass : (p : List ℕ → Bool) (vs : List (List ℕ)) → list_all p vs ≡ true → list_all p (ascending vs) ≡ true
ascending_pass p vs h = put_all_pass p vs [] h refl

-- ---- putting all of them in order

tail_ascends : (w : List ℕ) (vs : List (List ℕ)) → ascends (w ∷ vs) ≡ true → ascends vs ≡ true
tail_ascends w [] h = refl
tail_ascends w (v ∷ vs) h = (next_of w v vs h).1

first_less : (w : List ℕ) (before : List (List ℕ)) (v : List ℕ) (rest : List (List ℕ)) → ascends (w ∷ (before ++ v ∷ rest)) ≡ true → text_cmp w v ≡ Less
first_less w [] v rest h = (next_of w v rest h).0
first_less w (x ∷ before) v rest h =
    let next = next_of w x (before ++ v ∷ rest) h in
    nat_list_cmp_total.trans w x v next.0 (first_less x before v rest next.1)

put_at_end : (v : List ℕ) (before rest : List (List ℕ)) → ascends (before ++ v ∷ rest) ≡ true → put_value v before ≡ before ++ v ∷ []
put_at_end v [] rest h = refl
put_at_end v (w ∷ before) rest h =
    ap (λ (o : Ordering). match_ordering o (v ∷ w ∷ before) (w ∷ before) (w ∷ put_value v before)) (less_below v w (first_less w before v rest h))
    ∙ ap (λ xs. w ∷ xs) (put_at_end v before rest (tail_ascends w (before ++ v ∷ rest) h))

put_in_order : (vs before : List (List ℕ)) → ascends (before ++ vs) ≡ true → put_all before vs ≡ before ++ vs
put_in_order [] before h = sym (append-nil before)
put_in_order (v ∷ vs) before h =
    let split = append_assoc before (v ∷ []) vs in
    ap (λ xs. put_all xs vs) (put_at_end v before vs h) ∙ put_in_order vs (before ++ v ∷ []) (ap ascends split ∙ h) ∙ split

pub ascending_same : (vs : List (List ℕ)) → ascends vs ≡ true → ascending vs ≡ vs
ascending_same vs h = put_in_order vs [] h

-- ---- the same values

abbrev pub has_value : List ℕ → List (List ℕ) → Bool
has_value v vs = list_any (same v) vs

or_twice : (a b : Bool) → (a || b) ≡ (a || (a || b))
or_twice true b = refl
or_twice false b = refl

or_swap : (a b c : Bool) → (a || (b || c)) ≡ (b || (a || c))
or_swap true true c = refl
or_swap true false c = refl
or_swap false b c = refl

or_move : (a b c : Bool) → ((a || b) || c) ≡ (b || (a || c))
or_move true true c = refl
or_move true false c = refl
or_move false b c = refl

or_false : (a : Bool) → a ≡ (a || false)
or_false true = refl
or_false false = refl

equal_same : (w x : List ℕ) → text_cmp w x ≡ Equal → w ≡ x
equal_same w x e = same_text w x (sym (texts_ties w x ∙ ap is_eq e))

has_value-put-by : (v w x : List ℕ) (vs : List (List ℕ)) (o : Ordering) → text_cmp w x ≡ o → has_value v (put_value w vs) ≡ (same v w || has_value v vs)
    → has_value v (match_ordering o (w ∷ x ∷ vs) (x ∷ vs) (x ∷ put_value w vs)) ≡ (same v w || (same v x || has_value v vs))
has_value-put-by v w x vs Less e more = refl
has_value-put-by v w x vs Equal e more = or_twice (same v x) (has_value v vs) ∙ ap (λ k. same v k || (same v x || has_value v vs)) (sym (equal_same w x e))
has_value-put-by v w x vs Greater e more = ap (λ (b : Bool). same v x || b) more ∙ or_swap (same v x) (same v w) (has_value v vs)

has_value-put : (v w : List ℕ) (vs : List (List ℕ)) → has_value v (put_value w vs) ≡ (same v w || has_value v vs)
has_value-put v w [] = refl
has_value-put v w (x ∷ vs) = has_value-put-by v w x vs (text_cmp w x) refl (has_value-put v w vs)

has_value-put_all : (v : List ℕ) (vs before : List (List ℕ)) → has_value v (put_all before vs) ≡ (has_value v before || has_value v vs)
has_value-put_all v [] before = or_false (has_value v before)
has_value-put_all v (w ∷ vs) before =
    has_value-put_all v vs (put_value w before) ∙ ap (λ (b : Bool). b || has_value v vs) (has_value-put v w before) ∙ or_move (same v w) (has_value v before) (has_value v vs)

-- what is put in order has the values that were given, and no others
pub has_value-ascending : (v : List ℕ) (vs : List (List ℕ)) → has_value v (ascending vs) ≡ has_value v vs
has_value-ascending v vs = has_value-put_all v vs []
