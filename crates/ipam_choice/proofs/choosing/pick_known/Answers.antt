use Rattle.std.proofs.Common.{◌≡◌, ℕ, Bool, Option, Some, None, ap, sym, ◌∙◌, [], ◌∷◌}
use Rattle.ipam_pool.specs.Spans.{is_reserved_by}
use Rattle.ipam_records.specs.Listing.{rows_of}
use Rattle.ipam_model.specs.Choice.{Pick}
use Rattle.ipam_model.specs.Usable.{unknown_name}
use Rattle.ipam_choice.specs.Confirmed.{has_confirmed}
use Rattle.ipam_choice.specs.First.{first_of}
use Rattle.ipam_choice.specs.Known.{unless_unknown, sight_of_known}
use Rattle.ipam_choice.specs.Scanned.{first_usable, pick_from}
use Rattle.ipam_choice.specs.Sight.{Sight}
use Rattle.ipam_choice.specs.Viewed.{asked_of}
use Rattle.ipam_choice.proofs.choosing.pick_known.Goals as goal

pub returns-in-Some : goal.returns-in-Some
returns-in-Some c =
    let asked = asked_of c.args.wanted.now in
    ap (λ (u : Option ℕ). unless_unknown u
    (pick_from (first_of (first_usable asked (sight_of_known asked c.args.known.now) c.args.known.now.pools.now) (0 ∷ 1 ∷ 2 ∷ 3 ∷ []))))
    (c.in-Some.ensures ∙ ap (unknown_name asked) c.pools-pools.ensures.value)

pub returns : goal.returns
returns c =
    let asked = asked_of c.args.wanted.now in
    let known = c.args.known.now in
    let sight : Bool → Sight = λ may. record {
      node = asked.node;
      strict = known.config.strict;
      may_claim = may;
      confirmed = has_confirmed known.confirmed.now;
      reserved = is_reserved_by known.reserved.now;
      blocks = rows_of known.blocks;
    } in
    c.best.ensures
    ∙ (ap (λ pools. pick_from (first_of (first_usable asked (sight c.may_claim.result) pools) (0 ∷ 1 ∷ 2 ∷ 3 ∷ []))) c.pools-pools.ensures.value
    ∙ (ap (λ may. pick_from (first_of (first_usable asked (sight may) known.pools.now) (0 ∷ 1 ∷ 2 ∷ 3 ∷ []))) c.may_claim.ensures
    ∙ ap (λ (u : Option ℕ). unless_unknown u
    (pick_from (first_of (first_usable asked (sight_of_known asked known) known.pools.now) (0 ∷ 1 ∷ 2 ∷ 3 ∷ []))))
    (c.in_default.ensures ∙ ap (unknown_name asked) c.pools-pools.ensures.value)))
