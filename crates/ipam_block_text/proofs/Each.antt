-- What was read of the first items, and what is left.
use Rattle.std.proofs.Common.{◌≡◌, ◌∙◌, ℕ, ◌+◌, ◌<◌, ◌≤◌, List, [], ◌∷◌, ◌++◌, length, get_or, drop, map, Option, Some, None, option_map, refl, sym, ap, append_assoc, append-nil, add-one, drop-cons}
use Rattle.std.specs.Prelude.{option_and_then}
use Rattle.std.proofs.lemmas.List.{drop_all}
use Rattle.serde_json.specs.Data.{Data}
use Rattle.serde_json.specs.View.{view}
use Rattle.serde_json.specs.declared.value.Value.{Value}
use Rattle.ipam_block.specs.declared.allocation.Allocation.{Allocation}
use Rattle.ipam_block.specs.declared.allocation.Attributes.{Attributes}
use Rattle.ipam_block_text.specs.Reading.{each, held_from, allocation_at}

-- these in front of what is found
abbrev pub onto : {A : Type 0} → List A → Option (List A) → Option (List A)
onto done found = option_map (λ rest. done ++ rest) found

onto_onto : {A : Type 0} (done : List A) (a : A) (found : Option (List A)) → onto (done ++ a ∷ []) found ≡ onto done (option_map (λ rest. a ∷ rest) found)
onto_onto done a None = refl
onto_onto done a (Some rest) = ap Some (append_assoc done (a ∷ []) rest)

pub each_more : {A B : Type 0} (f : A → Option B) (x : A) (y : B) (done : List B) (left : List A) (all : Option (List B)) → f x ≡ Some y → onto done (each f (x ∷ left)) ≡ all → onto (done ++ y ∷ []) (each f left) ≡ all
each_more f x y done left all is h =
    onto_onto done y (each f left) ∙ sym (ap (λ o. onto done (option_and_then (λ y'. option_map (λ ys. y' ∷ ys) (each f left)) o)) is) ∙ h

pub each_none : {A B : Type 0} (f : A → Option B) (x : A) (done : List B) (left : List A) (all : Option (List B)) → f x ≡ None → onto done (each f (x ∷ left)) ≡ all → None ≡ all
each_none f x done left all is h =
    sym (ap (λ o. onto done (option_and_then (λ y'. option_map (λ ys. y' ∷ ys) (each f left)) o)) is) ∙ h

pub each_done : {A B : Type 0} (f : A → Option B) (done : List B) (left : List A) (all : Option (List B)) → left ≡ [] → onto done (each f left) ≡ all → Some done ≡ all
each_done f done left all none h =
    sym (ap Some (append-nil done)) ∙ sym (ap (λ l. onto done (each f l)) none) ∙ h

-- ---- the same over values

left_more : (vs : List Value) (i : ℕ) (d : Value) → i < length vs → map view (drop i vs) ≡ view (get_or vs i d) ∷ map view (drop (i + 1) vs)
left_more vs i d within = rw add-one (ap (map view) (drop-cons vs i d within))

pub value_more : {B : Type 0} (f : Data → Option B) (vs : List Value) (i : ℕ) (v : Value) (y : B) (done after : List B) (all : Option (List B)) → i < length vs → v ≡ get_or vs i v → f (view v) ≡ Some y → after ≡ done ++ y ∷ [] → onto done (each f (map view (drop i vs))) ≡ all → onto after (each f (map view (drop (i + 1) vs))) ≡ all
value_more f vs i v y done after all within at is pushed h =
    let left = left_more vs i v within in
    let first = ap (λ w. f (view w)) (sym at) ∙ is in
    ap (λ l. onto l (each f (map view (drop (i + 1) vs)))) pushed ∙ each_more f (view (get_or vs i v)) y done (map view (drop (i + 1) vs)) all first (sym (ap (λ l. onto done (each f l)) left) ∙ h)

pub value_none : {B : Type 0} (f : Data → Option B) (vs : List Value) (i : ℕ) (v : Value) (done : List B) (all : Option (List B)) → i < length vs → v ≡ get_or vs i v → f (view v) ≡ None → onto done (each f (map view (drop i vs))) ≡ all → None ≡ all
value_none f vs i v done all within at is h =
    let left = left_more vs i v within in
    let first = ap (λ w. f (view w)) (sym at) ∙ is in
    each_none f (view (get_or vs i v)) done (map view (drop (i + 1) vs)) all first (sym (ap (λ l. onto done (each f l)) left) ∙ h)

pub value_done : {B : Type 0} (f : Data → Option B) (vs : List Value) (i : ℕ) (done : List B) (all : Option (List B)) → length vs ≤ i → onto done (each f (map view (drop i vs))) ≡ all → Some done ≡ all
value_done f vs i done all end h = each_done f done _ all (ap (map view) (drop_all i vs end)) h

-- ---- what is held, place by place

places_left : (places : List (Option ℕ)) (i : ℕ) (d : Option ℕ) → i < length places → drop i places ≡ get_or places i d ∷ drop (i + 1) places
places_left places i d within = rw add-one (drop-cons places i d within)

pub held_more : (attributes : List Attributes) (stamps : Data) (o i index : ℕ) (places : List (Option ℕ)) (a : Allocation) (done after : List Allocation) (all : Option (List Allocation)) → i < length places → get_or places i None ≡ Some index → allocation_at attributes stamps o index ≡ Some a → after ≡ done ++ a ∷ [] → onto done (held_from attributes stamps o (drop i places)) ≡ all → onto after (held_from attributes stamps (o + 1) (drop (i + 1) places)) ≡ all
held_more attributes stamps o i index places a done after all within at is pushed h =
    let left = drop (i + 1) places in
    let rest = held_from attributes stamps (o + 1) left in
    let split = places_left places i None within ∙ ap (λ p. p ∷ left) at in
    let here = sym (ap (λ l. onto done (held_from attributes stamps o l)) split) ∙ h in
    let found = sym (ap (λ r. onto done (option_and_then (λ x. option_map (λ more. x ∷ more) rest) r)) is) ∙ here in
    ap (λ l. onto l rest) pushed ∙ onto_onto done a rest ∙ found

pub held_pass : (attributes : List Attributes) (stamps : Data) (o i : ℕ) (places : List (Option ℕ)) (done : List Allocation) (all : Option (List Allocation)) → i < length places → get_or places i None ≡ None → onto done (held_from attributes stamps o (drop i places)) ≡ all → onto done (held_from attributes stamps (o + 1) (drop (i + 1) places)) ≡ all
held_pass attributes stamps o i places done all within at h =
    let left = drop (i + 1) places in
    let split = places_left places i None within ∙ ap (λ p. p ∷ left) at in
    sym (ap (λ l. onto done (held_from attributes stamps o l)) split) ∙ h
