-- The JSON of one more pair, and of all of them.
use Rattle.std.proofs.Common.{◌≡◌, ◌∙◌, ℕ, ◌+◌, ◌<◌, ◌≤◌, List, length, get_or, take, sym, ap, Global, BTreeMap, String}
use Rattle.std.specs.Prelude.{fold}
use Rattle.std.proofs.lemmas.List.{take_all}
use Rattle.std.proofs.lemmas.List.Sums.{fold_more}
use Rattle.serde_json.specs.Data.{Data, string, object, Members, no_members, put}
use Rattle.serde_json.specs.View.{view, members_view}
use Rattle.serde_json.specs.declared.value.Value.{Value, Object}
use Rattle.serde_json.proofs.Views.{view-Object}
use Rattle.ipam_block_text.specs.Attributes.{Pair}
use Rattle.ipam_block_text.specs.Body.{with_pair}

pub pairs_more : (pairs : List Pair) (i : ℕ) (p : Pair) (key : List ℕ) (d : Data) (before after : Members) → i < length pairs → p ≡ get_or pairs i p → key ≡ p.0 → d ≡ string p.1 → after ≡ put key d before → before ≡ fold with_pair no_members (take i pairs) → after ≡ fold with_pair no_members (take (i + 1) pairs)
pairs_more pairs i p key d before after within at named is step h =
    step
    ∙ ap (λ k. put k d before) named
    ∙ ap (λ v. put p.0 v before) is
    ∙ ap (λ ms. with_pair ms p) h
    ∙ ap (with_pair (fold with_pair no_members (take i pairs))) at
    ∙ sym (fold_more with_pair no_members pairs i p within)

pub pairs_all : (pairs : List Pair) (i : ℕ) (m : BTreeMap (String Global) Value) → length pairs ≤ i → members_view m.entries ≡ fold with_pair no_members (take i pairs) → view (Object m) ≡ object (fold with_pair no_members pairs)
pairs_all pairs i m end h =
    view-Object m ∙ ap object (h ∙ ap (fold with_pair no_members) (take_all i pairs end))
