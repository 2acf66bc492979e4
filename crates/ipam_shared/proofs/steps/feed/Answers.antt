use Rattle.std.proofs.Common.{Err, ap, arith, ◌∙◌, sym, subst}
use Rattle.ipam_model.specs.declared.entry.Entry.TheVariants as entry
use Rattle.ipam_model.specs.declared.request.Request.{Request}
use Rattle.ipam_shared.specs.Steps.{IsFed}
use Rattle.ipam_shared.proofs.Calls.{counts-one, is-fed}
use Rattle.ipam_shared.proofs.SoloStanding.{first-waits, runs-kept, there, waits-collect}
use Rattle.ipam_cluster.proofs.Waiting.{never-early}
use Rattle.ipam_cluster.specs.Cluster.{slot_of_cluster}
use Rattle.ipam_shared.proofs.steps.feed.Goals as goal

pub unreachable-requires : goal.unreachable-requires
unreachable-requires g c =
    let at = there g.D.Keeper.rows c.args.request.now c.args.kept.now c.requires.runs in
    let (collect, is) = waits-collect c.args.request.now c.args.kept.now at c.requires.waiting in
    c.in_default.not-Collect collect is

pub unreachable-requires-in-Err-TooSoon : goal.unreachable-requires-in-Err-TooSoon
unreachable-requires-in-Err-TooSoon g c =
    let at = there g.D.Keeper.rows c.args.request.now c.args.kept.now c.requires.runs in
    let waits = first-waits c.args.request.now c.args.kept.now c.in-Collect.collect at c.in-Collect.is c.requires.no_grace c.requires.waiting in
    never-early (slot_of_cluster c.args.kept.now.cluster 0) c.in-Collect.collect.at c.in-Err-TooSoon._since c.in-Err-TooSoon._grace
    waits ((c.feed.ensures.too_soon c.in-Err-TooSoon._since c.in-Err-TooSoon._grace).0 (c.in-Err-TooSoon.is ∙ ap Err c.in-Err-TooSoon.field-0-is))

pub returns-in-Ok-clause-fed : goal.returns-in-Ok-clause-fed
returns-in-Ok-clause-fed g c =
    subst (λ (r : Request). IsFed g.D.Keeper.rows r c.args.kept.now c.feed.new.self) (sym c.in-Collect.is)
    (is-fed g.D.Keeper.rows g.D.Keeper.faults c.args.kept.now c.feed.new.self c.in-Ok.fed c.in-Collect.collect
    (c.in-Ok.ensures.entry ∙ ap (entry.Fed 0 c.in-Collect.collect.at) c.as_slice.ensures) c.in-Ok.ensures.keeps c.feed.ensures.keeper)

pub returns-in-Ok-clause-counts : goal.returns-in-Ok-clause-counts
returns-in-Ok-clause-counts g c =
    let at = there g.D.Keeper.rows c.args.request.now c.args.kept.now c.requires.runs in
    let waits = first-waits c.args.request.now c.args.kept.now c.in-Collect.collect at c.in-Collect.is c.requires.no_grace c.requires.waiting in
    counts-one g.D.Keeper.rows g.D.Keeper.faults c.args.kept.now c.feed.new.self c.in-Ok.fed (runs-kept g.D.Keeper.rows c.args.request.now c.args.kept.now c.requires.runs) c.in-Ok.ensures.keeps
    (λ many. let no = c.feed.ensures.worn.1 (many, record { at = c.in-Collect.collect.at; grace = 0 }, waits, omega arith) in cc (no, c.in-Ok.is))
