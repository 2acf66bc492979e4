-- What is read of the first items of a list, and of the first entries of an object.
use Rattle.std.proofs.Common.{◌≡◌, ◌∙◌, ℕ, ◌+◌, ◌<◌, ◌≤◌, List, [], ◌∷◌, ◌++◌, length, get_or, drop, Option, Some, sym, ap, string_bytes}
use Rattle.std.proofs.lemmas.List.{at_drop_more, at_drop_all}
use Rattle.serde_json.specs.Data.{Data, Items, no_items, item}
use Rattle.serde_json.specs.Find.{as_str}
use Rattle.serde_json.specs.View.{view, items_view, members_view}
use Rattle.serde_json.specs.declared.value.Value.{Value}
use Rattle.serde_json.proofs.Views.{Entry}
use Rattle.ipam_json.specs.Members.{◌>>=◌}
use Rattle.ipam_model.specs.Pairs.{Pair}
use Rattle.ipam_request_text.specs.Fields.{pairs_after}

-- `all done ds` is what was read, and after it what `f` reads of each item

module _ {B : Type 0} (f : Data → Option B) (all : List B → Items → Option (List B)) (step : (done : List B) (d : Data) (ds : Items) → all done (item d ds) ≡ (f d >>= λ y. all (done ++ y ∷ []) ds)) where
  pub read_more : (vs : List Value) (i : ℕ) (v : Value) (y : B) (done after : List B) (r : Option (List B)) → i < length vs → v ≡ get_or vs i v → f (view v) ≡ Some y → after ≡ done ++ y ∷ [] → all done (items_view (drop i vs)) ≡ r → all after (items_view (drop (i + 1) vs)) ≡ r
  read_more vs i v y done after r within at is pushed h =
      let left = items_view (drop (i + 1) vs) in
      ap (λ l. all l left) pushed
      ∙ sym (ap (λ o. o >>= λ z. all (done ++ z ∷ []) left) (ap (λ w. f (view w)) (sym at) ∙ is))
      ∙ sym (step done (view (get_or vs i v)) left)
      ∙ sym (at_drop_more (λ l. all done (items_view l)) vs i v within)
      ∙ h

  pub read_all : (vs : List Value) (i : ℕ) (done : List B) (r : Option (List B)) → length vs ≤ i → all done no_items ≡ Some done → all done (items_view (drop i vs)) ≡ r → Some done ≡ r
  read_all vs i done r end last h = sym last ∙ sym (at_drop_all (λ l. all done (items_view l)) vs i end) ∙ h

pub pair_read : (e : Entry) (value : List ℕ) (done after : List Pair) (entries left : List Entry) (r : Option (List Pair)) → entries ≡ e ∷ left → as_str (view e.1) ≡ Some value → after ≡ done ++ (string_bytes e.0, value) ∷ [] → pairs_after done (members_view entries) ≡ r → pairs_after after (members_view left) ≡ r
pair_read e value done after entries left r step is pushed h =
    ap (λ l. pairs_after l (members_view left)) pushed
    ∙ sym (ap (λ o. o >>= λ v. pairs_after (done ++ (string_bytes e.0, v) ∷ []) (members_view left)) is)
    ∙ sym (ap (λ es. pairs_after done (members_view es)) step)
    ∙ h

pub pairs_read : (done : List Pair) (entries : List Entry) (r : Option (List Pair)) → entries ≡ [] → pairs_after done (members_view entries) ≡ r → Some done ≡ r
pairs_read done entries r end h = sym (ap (λ es. pairs_after done (members_view es)) end) ∙ h
