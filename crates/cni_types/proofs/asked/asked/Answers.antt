use Rattle.std.proofs.Common.{sym, ap, ◌∙◌}
use Rattle.serde_json.specs.View.{view}
use Rattle.cni_types.specs.Asked.{asked}
use Rattle.cni_types.specs.declared.calls.Look.TheVariants as look
use Rattle.cni_types.proofs.asked.asked.Goals as goal

pub returns-in_ok-add_asked-in-Add : goal.returns-in_ok-add_asked-in-Add
returns-in_ok-add_asked-in-Add c =
    ap look.Add c.in_ok-add_asked-in-Add.ensures ∙ ap (λ command. asked command c.args.version c.args.env.now (view c.args.json.now)) (sym c.in-Add.is)

pub returns-in_ok-gc_asked-in-Gc : goal.returns-in_ok-gc_asked-in-Gc
returns-in_ok-gc_asked-in-Gc c =
    ap look.Gc c.in_ok-gc_asked-in-Gc.ensures ∙ ap (λ command. asked command c.args.version c.args.env.now (view c.args.json.now)) (sym c.in-Gc.is)

pub returns-in_ok-check_asked-in-Check : goal.returns-in_ok-check_asked-in-Check
returns-in_ok-check_asked-in-Check c =
    ap look.Check c.in_ok-check_asked-in-Check.ensures ∙ ap (λ command. asked command c.args.version c.args.env.now (view c.args.json.now)) (sym c.in-Check.is)

pub returns-in_ok-status_asked-in-Status : goal.returns-in_ok-status_asked-in-Status
returns-in_ok-status_asked-in-Status c =
    ap look.Status c.in_ok-status_asked-in-Status.ensures ∙ ap (λ command. asked command c.args.version c.args.env.now (view c.args.json.now)) (sym c.in-Status.is)
