use Rattle.std.proofs.Common.{◌≡◌, ℕ, ◌+◌, ◌<◌, Some, None, List, [], ◌∷◌, ◌++◌, Option, drop, length, get_or, refl, ap, sym, ◌∙◌}
use Rattle.std.proofs.lemmas.List.{drop_all}
use Rattle.serde_json.specs.View.{view, items_view}
use Rattle.serde_json.specs.declared.value.Value.{Value}
use Rattle.ipam_json.specs.Members.{◌>>=◌}
use Rattle.ipam_pool.specs.declared.pools.Pool.{Pool}
use Rattle.ipam_record_text.specs.Pools.{pool_in, pools_after}
use Rattle.ipam_json.proofs.Steps.{next_read}
use Rattle.ipam_record_text.proofs.pools.pools_of_items.Goals as goal

next : (there : List Pool) (vs : List Value) (i : ℕ) (v : Value) (found : Option Pool) (whole : Option (List Pool)) → v ≡ get_or vs i v → i < length vs → found ≡ pool_in (view v) → pools_after there (items_view (drop i vs)) ≡ whole → (found >>= λ p. pools_after (there ++ p ∷ []) (items_view (drop (i + 1) vs))) ≡ whole
next there vs i v found whole =
    next_read pool_in (pools_after there) (λ p ds. p >>= λ one. pools_after (there ++ one ∷ []) ds) vs i v found whole (λ d ds. refl)

pub loop-item-init : goal.loop-item-init
loop-item-init c = ap (λ pools. pools_after pools (items_view c.args.items.now)) c.new-pools.ensures.items

pub returns-in_default : goal.returns-in_default
returns-in_default c =
    next c.loop-item.pools.items c.args.items.now _ _ None _ c.item-item.is c.loop-item-test.true (sym c.in_default.is ∙ c.in_ok-pool.ensures) c.loop-item.invariant

pub loop-item-preserved : goal.loop-item-preserved
loop-item-preserved c =
    ap (λ pools. pools_after pools (items_view (drop (c.loop-item.item-index + 1) c.args.items.now))) c.in_ok-push.ensures.items
    ∙ next c.loop-item.pools.items c.args.items.now _ _ (Some c.in-Some.pool) _ c.item-item.is c.loop-item-test.true (sym c.in-Some.is ∙ c.in_ok-pool.ensures) c.loop-item.invariant

pub returns : goal.returns
returns c =
    ap (λ left. pools_after c.loop-item.pools.items (items_view left)) (sym (drop_all _ c.args.items.now c.loop-item-test.false)) ∙ c.loop-item.invariant
