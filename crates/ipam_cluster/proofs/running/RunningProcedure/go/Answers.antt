use Rattle.std.proofs.Common.{◌≡◌, Option, Some, None, ap, sym, subst, ◌∙◌}
use Rattle.std.specs.Prelude.{IfNone}
use Rattle.ipam_records.specs.Word.{Word, answer_in}
use Rattle.ipam_model.specs.declared.answer.Answer.{Answer}
use Rattle.ipam_model.specs.Told.{of_add, of_add_this, of_del, of_check, of_release, of_collect, of_admin, of_probe}
use Rattle.ipam_assign.specs.Adding.{add_rest, add_leaves}
use Rattle.ipam_assign.specs.AddThis.{this_rest, this_leaves}
use Rattle.ipam_assign.specs.Probe.{probe_rest, probe_leaves}
use Rattle.ipam_parts.specs.Release.{release_rest, release_leaves}
use Rattle.ipam_collect.specs.Collect.{collect_rest, collect_leaves}
use Rattle.ipam_release.specs.Admin.{admin_rest, admin_leaves}
use Rattle.ipam_release.specs.Check.{check_rest, check_leaves}
use Rattle.ipam_release.specs.Del.{del_rest, del_leaves}
use Rattle.ipam_cluster.specs.Absent.{absent_rest, absent_leaves}
use Rattle.ipam_cluster.specs.declared.running.Kept.{Kept}
use Rattle.ipam_cluster.specs.declared.running.Kept.TheVariants as kept
use Rattle.ipam_cluster.specs.declared.running.Running.{Running}
use Rattle.ipam_cluster.specs.declared.running.RunningTurned.{RunningTurned}
use Rattle.ipam_cluster.specs.declared.running.Turned.{Turned}
use Rattle.ipam_cluster.specs.declared.running.Turned.TheVariants as turned
use Rattle.ipam_cluster.specs.Running.{telling, leaves_of, grace_kept, Fits, running_rest, running_leaves, running_grace, FitsRunning}
use Rattle.ipam_cluster.proofs.FitsLemmas.{is_add, is_add_this, is_del, is_check, is_release, is_absent, is_collect, is_admin, is_probe}
use Rattle.ipam_cluster.proofs.running.RunningProcedure.go.Goals as goal

-- what was turned is this, so only what fits it may go
fitting : (r : Running) (t : RunningTurned) (one : Turned) → t.turned ≡ one → FitsRunning r t → Fits r.kept one
unfolding FitsRunning
fitting r t one is fits = subst (λ (x : Turned). Fits r.kept x) is fits

-- where it leads what is kept
led : (r : Running) (t : RunningTurned) (k : Kept) (one : Turned) → r.kept ≡ k → t.turned ≡ one → leaves_of k one ≡ running_leaves r t
unfolding running_leaves
led r t k one is so = ap (λ x. leaves_of x one) (sym is) ∙ ap (λ x. leaves_of r.kept x) (sym so)

on : {A : Type 0} (tell : A → Answer) (result : Option Answer) (rest leaves : Word A) (whole : Word Answer)
    → telling tell leaves ≡ whole → IfNone result (rest ≡ leaves) → IfNone result (telling tell rest ≡ whole)
on tell None rest leaves whole is same = ap (telling tell) same ∙ is
on tell (Some answer) rest leaves whole is same = same

pub unreachable-requires : goal.unreachable-requires
unreachable-requires c =
    is_add c.args.self.now.kept c.in-Add.turned (fitting c.args.self.now c.args.turned (turned.Add c.in-Add.turned) (sym c.into_turned.ensures ∙ c.in-Add.is) c.requires) c.in_default.not-Add

pub returns-in-Add-kept-clause-answer : goal.returns-in-Add-kept-clause-answer
returns-in-Add-kept-clause-answer c =
    c.add_goes.ensures.answer ∙ ap answer_in (led c.args.self.now c.args.turned (kept.Add c.in-Add-kept.p) (turned.Add c.in-Add.turned) c.in-Add-kept.is (sym c.into_turned.ensures ∙ c.in-Add.is))

pub returns-in-Add-kept-clause-on : goal.returns-in-Add-kept-clause-on
unfolding running_rest
returns-in-Add-kept-clause-on c =
    on of_add c.add_goes.result (add_rest c.add_goes.new.p) (add_leaves c.in-Add-kept.p c.in-Add.turned) _
    (led c.args.self.now c.args.turned (kept.Add c.in-Add-kept.p) (turned.Add c.in-Add.turned) c.in-Add-kept.is (sym c.into_turned.ensures ∙ c.in-Add.is)) c.add_goes.ensures.on

pub returns-in-Add-kept-clause-grace : goal.returns-in-Add-kept-clause-grace
unfolding running_grace
returns-in-Add-kept-clause-grace c = sym (ap grace_kept c.in-Add-kept.is)

pub unreachable-requires-in_default-kept : goal.unreachable-requires-in_default-kept
unreachable-requires-in_default-kept c =
    is_add_this c.args.self.now.kept c.in-AddThis.turned (fitting c.args.self.now c.args.turned (turned.AddThis c.in-AddThis.turned) (sym c.into_turned.ensures ∙ c.in-AddThis.is) c.requires) c.in_default-kept.not-AddThis

pub returns-in-AddThis-kept-clause-answer : goal.returns-in-AddThis-kept-clause-answer
returns-in-AddThis-kept-clause-answer c =
    c.add_this_goes.ensures.answer ∙ ap answer_in (led c.args.self.now c.args.turned (kept.AddThis c.in-AddThis-kept.p) (turned.AddThis c.in-AddThis.turned) c.in-AddThis-kept.is (sym c.into_turned.ensures ∙ c.in-AddThis.is))

pub returns-in-AddThis-kept-clause-on : goal.returns-in-AddThis-kept-clause-on
unfolding running_rest
returns-in-AddThis-kept-clause-on c =
    on of_add_this c.add_this_goes.result (this_rest c.add_this_goes.new.p) (this_leaves c.in-AddThis-kept.p c.in-AddThis.turned) _
    (led c.args.self.now c.args.turned (kept.AddThis c.in-AddThis-kept.p) (turned.AddThis c.in-AddThis.turned) c.in-AddThis-kept.is (sym c.into_turned.ensures ∙ c.in-AddThis.is)) c.add_this_goes.ensures.on

pub returns-in-AddThis-kept-clause-grace : goal.returns-in-AddThis-kept-clause-grace
unfolding running_grace
returns-in-AddThis-kept-clause-grace c = sym (ap grace_kept c.in-AddThis-kept.is)

pub unreachable-requires-in_default-kept-2 : goal.unreachable-requires-in_default-kept-2
unreachable-requires-in_default-kept-2 c =
    is_del c.args.self.now.kept c.in-Del.turned (fitting c.args.self.now c.args.turned (turned.Del c.in-Del.turned) (sym c.into_turned.ensures ∙ c.in-Del.is) c.requires) c.in_default-kept-2.not-Del

pub returns-in-Del-kept-clause-answer : goal.returns-in-Del-kept-clause-answer
returns-in-Del-kept-clause-answer c =
    c.del_goes.ensures.answer ∙ ap answer_in (led c.args.self.now c.args.turned (kept.Del c.in-Del-kept.p) (turned.Del c.in-Del.turned) c.in-Del-kept.is (sym c.into_turned.ensures ∙ c.in-Del.is))

pub returns-in-Del-kept-clause-on : goal.returns-in-Del-kept-clause-on
unfolding running_rest
returns-in-Del-kept-clause-on c =
    on of_del c.del_goes.result (del_rest c.del_goes.new.p) (del_leaves c.in-Del-kept.p c.in-Del.turned) _
    (led c.args.self.now c.args.turned (kept.Del c.in-Del-kept.p) (turned.Del c.in-Del.turned) c.in-Del-kept.is (sym c.into_turned.ensures ∙ c.in-Del.is)) c.del_goes.ensures.on

pub returns-in-Del-kept-clause-grace : goal.returns-in-Del-kept-clause-grace
unfolding running_grace
returns-in-Del-kept-clause-grace c = sym (ap grace_kept c.in-Del-kept.is)

pub unreachable-requires-in_default-kept-3 : goal.unreachable-requires-in_default-kept-3
unreachable-requires-in_default-kept-3 c =
    is_check c.args.self.now.kept c.in-Check.turned (fitting c.args.self.now c.args.turned (turned.Check c.in-Check.turned) (sym c.into_turned.ensures ∙ c.in-Check.is) c.requires) c.in_default-kept-3.not-Check

pub returns-in-Check-kept-clause-answer : goal.returns-in-Check-kept-clause-answer
returns-in-Check-kept-clause-answer c =
    c.check_goes.ensures.answer ∙ ap answer_in (led c.args.self.now c.args.turned (kept.Check c.in-Check-kept.p) (turned.Check c.in-Check.turned) c.in-Check-kept.is (sym c.into_turned.ensures ∙ c.in-Check.is))

pub returns-in-Check-kept-clause-on : goal.returns-in-Check-kept-clause-on
unfolding running_rest
returns-in-Check-kept-clause-on c =
    on of_check c.check_goes.result (check_rest c.check_goes.new.p) (check_leaves c.in-Check-kept.p c.in-Check.turned) _
    (led c.args.self.now c.args.turned (kept.Check c.in-Check-kept.p) (turned.Check c.in-Check.turned) c.in-Check-kept.is (sym c.into_turned.ensures ∙ c.in-Check.is)) c.check_goes.ensures.on

pub returns-in-Check-kept-clause-grace : goal.returns-in-Check-kept-clause-grace
unfolding running_grace
returns-in-Check-kept-clause-grace c = sym (ap grace_kept c.in-Check-kept.is)

pub unreachable-requires-in_default-kept-4 : goal.unreachable-requires-in_default-kept-4
unreachable-requires-in_default-kept-4 c =
    is_release c.args.self.now.kept c.in-Release.turned (fitting c.args.self.now c.args.turned (turned.Release c.in-Release.turned) (sym c.into_turned.ensures ∙ c.in-Release.is) c.requires) c.in_default-kept-4.not-Release

pub returns-in-Release-kept-clause-answer : goal.returns-in-Release-kept-clause-answer
returns-in-Release-kept-clause-answer c =
    c.release_goes.ensures.answer ∙ ap answer_in (led c.args.self.now c.args.turned (kept.Release c.in-Release-kept.p) (turned.Release c.in-Release.turned) c.in-Release-kept.is (sym c.into_turned.ensures ∙ c.in-Release.is))

pub returns-in-Release-kept-clause-on : goal.returns-in-Release-kept-clause-on
unfolding running_rest
returns-in-Release-kept-clause-on c =
    on of_release c.release_goes.result (release_rest c.release_goes.new.p) (release_leaves c.in-Release-kept.p c.in-Release.turned) _
    (led c.args.self.now c.args.turned (kept.Release c.in-Release-kept.p) (turned.Release c.in-Release.turned) c.in-Release-kept.is (sym c.into_turned.ensures ∙ c.in-Release.is)) c.release_goes.ensures.on

pub returns-in-Release-kept-clause-grace : goal.returns-in-Release-kept-clause-grace
unfolding running_grace
returns-in-Release-kept-clause-grace c = sym (ap grace_kept c.in-Release-kept.is)

pub unreachable-requires-in_default-kept-5 : goal.unreachable-requires-in_default-kept-5
unreachable-requires-in_default-kept-5 c =
    is_absent c.args.self.now.kept c.in-Absent.turned (fitting c.args.self.now c.args.turned (turned.Absent c.in-Absent.turned) (sym c.into_turned.ensures ∙ c.in-Absent.is) c.requires) c.in_default-kept-5.not-Absent

pub returns-in-Absent-kept-clause-answer : goal.returns-in-Absent-kept-clause-answer
returns-in-Absent-kept-clause-answer c =
    c.absent_goes.ensures.answer ∙ ap answer_in (led c.args.self.now c.args.turned (kept.Absent c.in-Absent-kept.p) (turned.Absent c.in-Absent.turned) c.in-Absent-kept.is (sym c.into_turned.ensures ∙ c.in-Absent.is))

pub returns-in-Absent-kept-clause-on : goal.returns-in-Absent-kept-clause-on
unfolding running_rest
returns-in-Absent-kept-clause-on c =
    on of_release c.absent_goes.result (absent_rest c.absent_goes.new.p) (absent_leaves c.in-Absent-kept.p c.in-Absent.turned) _
    (led c.args.self.now c.args.turned (kept.Absent c.in-Absent-kept.p) (turned.Absent c.in-Absent.turned) c.in-Absent-kept.is (sym c.into_turned.ensures ∙ c.in-Absent.is)) c.absent_goes.ensures.on

pub returns-in-Absent-kept-clause-grace : goal.returns-in-Absent-kept-clause-grace
unfolding running_grace
returns-in-Absent-kept-clause-grace c = sym (ap grace_kept c.in-Absent-kept.is)

pub unreachable-requires-in_default-kept-6 : goal.unreachable-requires-in_default-kept-6
unreachable-requires-in_default-kept-6 c =
    is_collect c.args.self.now.kept c.in-Collect.turned (fitting c.args.self.now c.args.turned (turned.Collect c.in-Collect.turned) (sym c.into_turned.ensures ∙ c.in-Collect.is) c.requires) c.in_default-kept-6.not-Collect

pub returns-in-Collect-kept-clause-answer : goal.returns-in-Collect-kept-clause-answer
returns-in-Collect-kept-clause-answer c =
    c.collect_goes.ensures.answer ∙ ap answer_in (led c.args.self.now c.args.turned (kept.Collect c.in-Collect-kept.p) (turned.Collect c.in-Collect.turned) c.in-Collect-kept.is (sym c.into_turned.ensures ∙ c.in-Collect.is))

pub returns-in-Collect-kept-clause-on : goal.returns-in-Collect-kept-clause-on
unfolding running_rest
returns-in-Collect-kept-clause-on c =
    on of_collect c.collect_goes.result (collect_rest c.collect_goes.new.p) (collect_leaves c.in-Collect-kept.p c.in-Collect.turned) _
    (led c.args.self.now c.args.turned (kept.Collect c.in-Collect-kept.p) (turned.Collect c.in-Collect.turned) c.in-Collect-kept.is (sym c.into_turned.ensures ∙ c.in-Collect.is)) c.collect_goes.ensures.on

pub returns-in-Collect-kept-clause-grace : goal.returns-in-Collect-kept-clause-grace
unfolding running_grace
returns-in-Collect-kept-clause-grace c = ap Some c.collect_goes.ensures.grace ∙ sym (ap grace_kept c.in-Collect-kept.is)

pub unreachable-requires-in_default-kept-7 : goal.unreachable-requires-in_default-kept-7
unreachable-requires-in_default-kept-7 c =
    is_admin c.args.self.now.kept c.in-Admin.turned (fitting c.args.self.now c.args.turned (turned.Admin c.in-Admin.turned) (sym c.into_turned.ensures ∙ c.in-Admin.is) c.requires) c.in_default-kept-7.not-Admin

pub returns-in-Admin-kept-clause-answer : goal.returns-in-Admin-kept-clause-answer
returns-in-Admin-kept-clause-answer c =
    c.admin_goes.ensures.answer ∙ ap answer_in (led c.args.self.now c.args.turned (kept.Admin c.in-Admin-kept.p) (turned.Admin c.in-Admin.turned) c.in-Admin-kept.is (sym c.into_turned.ensures ∙ c.in-Admin.is))

pub returns-in-Admin-kept-clause-on : goal.returns-in-Admin-kept-clause-on
unfolding running_rest
returns-in-Admin-kept-clause-on c =
    on of_admin c.admin_goes.result (admin_rest c.admin_goes.new.p) (admin_leaves c.in-Admin-kept.p c.in-Admin.turned) _
    (led c.args.self.now c.args.turned (kept.Admin c.in-Admin-kept.p) (turned.Admin c.in-Admin.turned) c.in-Admin-kept.is (sym c.into_turned.ensures ∙ c.in-Admin.is)) c.admin_goes.ensures.on

pub returns-in-Admin-kept-clause-grace : goal.returns-in-Admin-kept-clause-grace
unfolding running_grace
returns-in-Admin-kept-clause-grace c = sym (ap grace_kept c.in-Admin-kept.is)

pub unreachable-requires-in_default-kept-8 : goal.unreachable-requires-in_default-kept-8
unreachable-requires-in_default-kept-8 c =
    is_probe c.args.self.now.kept c.in-Probe.turned (fitting c.args.self.now c.args.turned (turned.Probe c.in-Probe.turned) (sym c.into_turned.ensures ∙ c.in-Probe.is) c.requires) c.in_default-kept-8.not-Probe

pub returns-in-Probe-kept-clause-answer : goal.returns-in-Probe-kept-clause-answer
returns-in-Probe-kept-clause-answer c =
    c.probe_goes.ensures.answer ∙ ap answer_in (led c.args.self.now c.args.turned (kept.Probe c.in-Probe-kept.p) (turned.Probe c.in-Probe.turned) c.in-Probe-kept.is (sym c.into_turned.ensures ∙ c.in-Probe.is))

pub returns-in-Probe-kept-clause-on : goal.returns-in-Probe-kept-clause-on
unfolding running_rest
returns-in-Probe-kept-clause-on c =
    on of_probe c.probe_goes.result (probe_rest c.probe_goes.new.p) (probe_leaves c.in-Probe-kept.p c.in-Probe.turned) _
    (led c.args.self.now c.args.turned (kept.Probe c.in-Probe-kept.p) (turned.Probe c.in-Probe.turned) c.in-Probe-kept.is (sym c.into_turned.ensures ∙ c.in-Probe.is)) c.probe_goes.ensures.on

pub returns-in-Probe-kept-clause-grace : goal.returns-in-Probe-kept-clause-grace
unfolding running_grace
returns-in-Probe-kept-clause-grace c = sym (ap grace_kept c.in-Probe-kept.is)
