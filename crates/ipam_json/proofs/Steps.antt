-- One more item of a list that is built of others, or that is read of JSON.
use Rattle.std.proofs.Common.{◌≡◌, ℕ, ◌+◌, ◌<◌, ◌≤◌, List, [], ◌∷◌, ◌++◌, map, take, drop, length, get_or, String, Vec, Global, string_bytes, refl, sym, ap, ◌∙◌, rules}
use Rattle.std.proofs.lemmas.List.{map_push, map_more, take_all, drop_more}
use Rattle.serde_json.specs.Data.{Data, Items, item, string}
use Rattle.serde_json.specs.View.{view, items_view}
use Rattle.serde_json.specs.declared.value.Value.{Value, Array, the_lemmas}
use Rattle.serde_json.specs.declared.value.Value.TheVariants as variant
use Rattle.serde_json.proofs.Views.{view-Array}
use Rattle.ipam_json.specs.Built.{array_of}

-- the JSON of one more of the items
pub written_more : {A : Type 0} (f : A → Data) (xs : List A) (i : ℕ) (x : A) (v : Value) (done after : List Value) → i < length xs → x ≡ get_or xs i x → view v ≡ f x → after ≡ done ++ v ∷ [] → map view done ≡ map f (take i xs) → map view after ≡ map f (take (i + 1) xs)
written_more f xs i x v done after within at is pushed h =
    ap (map view) pushed
    ∙ map_push view done v
    ∙ ap (λ l. l ++ view v ∷ []) h
    ∙ ap (λ d. map f (take i xs) ++ d ∷ []) (is ∙ ap f at)
    ∙ sym (map_more f xs i x within)

pub built_more : {X : Type 0} (json_of : X → Data) (xs : List X) (i : ℕ) (x : X) (built : List Value) (v : Value) → map view built ≡ map json_of (take i xs) → view v ≡ json_of x → x ≡ get_or xs i x → i < length xs → map view (built ++ v ∷ []) ≡ map json_of (take (i + 1) xs)
built_more json_of xs i x built v so_far is at within =
    written_more json_of xs i x v built (built ++ v ∷ []) within at is refl so_far

-- the JSON of all of them
pub written_all : {A : Type 0} (f : A → Data) (xs : List A) (i : ℕ) (list : Vec Value Global) → length xs ≤ i → map view list.items ≡ map f (take i xs) → view (Array list) ≡ array_of (map f xs)
written_all f xs i list end h = view-Array list ∙ ap array_of (h ∙ ap (map f) (take_all i xs end))

pub view_string : (s : String Global) → view (variant.String s) ≡ string (string_bytes s)
view_string s = search (rules, the_lemmas)

-- the item that is next, and those after it
pub items_left : (vs : List Value) (i : ℕ) (v : Value) → v ≡ get_or vs i v → i < length vs → items_view (drop i vs) ≡ item (view v) (items_view (drop (i + 1) vs))
items_left vs i v at within =
    ap items_view (drop_more vs i v within) ∙ ap (λ w. item (view w) (items_view (drop (i + 1) vs))) (sym at)

-- what the item that is next and those after it make
pub next_read : {A B : Type 0} (one : Data → A) (all : Items → B) (after : A → Items → B) (vs : List Value) (i : ℕ) (v : Value) (found : A) (whole : B) → ((d : Data) (ds : Items) → all (item d ds) ≡ after (one d) ds) → v ≡ get_or vs i v → i < length vs → found ≡ one (view v) → all (items_view (drop i vs)) ≡ whole → after found (items_view (drop (i + 1) vs)) ≡ whole
next_read one all after vs i v found whole steps at within is so_far =
    let rest = items_view (drop (i + 1) vs) in
    ap (λ f. after f rest) is ∙ sym (steps (view v) rest) ∙ sym (ap all (items_left vs i v at within)) ∙ so_far
