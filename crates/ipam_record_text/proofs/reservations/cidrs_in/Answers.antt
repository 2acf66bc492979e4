use Rattle.std.proofs.Common.{◌≡◌, ℕ, ◌+◌, ◌<◌, Some, None, List, [], ◌∷◌, ◌++◌, Option, drop, length, get_or, refl, ap, sym, ◌∙◌}
use Rattle.std.proofs.lemmas.List.{drop_all}
use Rattle.serde_json.specs.View.{view, items_view}
use Rattle.serde_json.specs.declared.value.Value.{Value}
use Rattle.ipam_addr.specs.Shape.{CidrValue}
use Rattle.ipam_json.specs.Members.{◌>>=◌}
use Rattle.ipam_record_text.specs.Reservations.{cidr_in, cidrs_after}
use Rattle.ipam_json.proofs.Steps.{next_read}
use Rattle.ipam_record_text.proofs.reservations.cidrs_in.Goals as goal

next : (there : List CidrValue) (vs : List Value) (i : ℕ) (v : Value) (found : Option CidrValue) (whole : Option (List CidrValue)) → v ≡ get_or vs i v → i < length vs → found ≡ cidr_in (view v) → cidrs_after there (items_view (drop i vs)) ≡ whole → (found >>= λ r. cidrs_after (there ++ r ∷ []) (items_view (drop (i + 1) vs))) ≡ whole
next there vs i v found whole =
    next_read cidr_in (cidrs_after there) (λ r ds. r >>= λ one. cidrs_after (there ++ one ∷ []) ds) vs i v found whole (λ d ds. refl)

pub loop-item-init : goal.loop-item-init
loop-item-init c = ap (λ cidrs. cidrs_after cidrs (items_view c.args.items.now)) c.new-cidrs.ensures.items

pub returns-in_default : goal.returns-in_default
returns-in_default c =
    next c.loop-item.cidrs.items c.args.items.now _ _ None _ c.item-item.is c.loop-item-test.true (sym c.in_default.is ∙ c.cidr_in.ensures) c.loop-item.invariant

pub loop-item-preserved : goal.loop-item-preserved
loop-item-preserved c =
    ap (λ cidrs. cidrs_after cidrs (items_view (drop (c.loop-item.item-index + 1) c.args.items.now))) c.in_ok-push.ensures.items
    ∙ next c.loop-item.cidrs.items c.args.items.now _ _ (Some c.in-Some.cidr) _ c.item-item.is c.loop-item-test.true (sym c.in-Some.is ∙ c.cidr_in.ensures) c.loop-item.invariant

pub returns : goal.returns
returns c =
    ap (λ left. cidrs_after c.loop-item.cidrs.items (items_view left)) (sym (drop_all _ c.args.items.now c.loop-item-test.false)) ∙ c.loop-item.invariant
