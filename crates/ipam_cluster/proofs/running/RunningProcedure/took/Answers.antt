use Rattle.std.proofs.Common.{◌≡◌, ℕ, sym, subst}
use Rattle.ipam_model.specs.Told.{of_add, of_add_this, of_del, of_check, of_release, of_collect, of_admin, of_probe}
use Rattle.ipam_records.specs.Hearing.{MayHear}
use Rattle.ipam_records.specs.Said.{Said, said}
use Rattle.ipam_records.specs.Word.{after_reply}
use Rattle.ipam_assign.specs.Adding.{add_rest, add_leaves}
use Rattle.ipam_assign.specs.AddThis.{this_rest, this_leaves}
use Rattle.ipam_assign.specs.Probe.{probe_rest, probe_leaves}
use Rattle.ipam_parts.specs.Release.{release_rest, release_leaves}
use Rattle.ipam_collect.specs.Collect.{collect_rest, collect_leaves}
use Rattle.ipam_release.specs.Admin.{admin_rest, admin_leaves}
use Rattle.ipam_release.specs.Check.{check_rest, check_leaves}
use Rattle.ipam_release.specs.Del.{del_rest, del_leaves}
use Rattle.ipam_cluster.specs.Absent.{absent_rest, absent_leaves}
use Rattle.ipam_cluster.specs.declared.running.Kept.{Kept}
use Rattle.ipam_cluster.specs.declared.running.Kept.TheVariants as kept
use Rattle.ipam_cluster.specs.declared.running.Turned.{Turned}
use Rattle.ipam_cluster.specs.declared.running.Turned.TheVariants as turned
use Rattle.ipam_cluster.specs.Running.{rest_of, leaves_of, Fits, running_rest, running_leaves, FitsRunning}
use Rattle.ipam_cluster.proofs.TellingLemmas.{arm_took, may_hear_telling}
use Rattle.ipam_cluster.proofs.running.RunningProcedure.took.Goals as goal

-- what holds of the variant holds of what is it
leads : (p one : Kept) (t : Turned) (moment : ℕ) (reply : Said) → p ≡ one
    → leaves_of one t ≡ after_reply (rest_of one) moment reply → leaves_of p t ≡ after_reply (rest_of p) moment reply
leads p one t moment reply is led = subst (λ (k : Kept). leaves_of k t ≡ after_reply (rest_of k) moment reply) (sym is) led

fitted : (p one : Kept) (t : Turned) → p ≡ one → Fits one t → Fits p t
fitted p one t is fits = subst (λ (k : Kept). Fits k t) (sym is) fits

may : (p one : Kept) (reply : Said) → p ≡ one → MayHear (rest_of p) reply → MayHear (rest_of one) reply
may p one reply is heard = subst (λ (k : Kept). MayHear (rest_of k) reply) is heard

pub took-requires : goal.took-requires
unfolding running_rest
took-requires c =
    may_hear_telling of_add (add_rest c.in-Add.p) (said c.args.hearing.now.reply) (may c.args.self.now.kept (kept.Add c.in-Add.p) (said c.args.hearing.now.reply) c.in-Add.is c.requires)

pub returns-in_ok-took-in-Add-clause-leaves : goal.returns-in_ok-took-in-Add-clause-leaves
unfolding running_rest running_leaves
returns-in_ok-took-in-Add-clause-leaves c =
    leads c.args.self.now.kept (kept.Add c.in-Add.p) (turned.Add c.in_ok-took-in-Add.field-0) c.args.hearing.now.moment (said c.args.hearing.now.reply) c.in-Add.is
    (arm_took of_add (add_rest c.in-Add.p) (add_leaves c.in-Add.p c.in_ok-took-in-Add.field-0) c.args.hearing.now.moment (said c.args.hearing.now.reply) c.in_ok-took-in-Add.ensures.leaves)

pub returns-in_ok-took-in-Add-clause-fits : goal.returns-in_ok-took-in-Add-clause-fits
unfolding FitsRunning
returns-in_ok-took-in-Add-clause-fits c =
    fitted c.args.self.now.kept (kept.Add c.in-Add.p) (turned.Add c.in_ok-took-in-Add.field-0) c.in-Add.is tt

pub took-requires-in-AddThis : goal.took-requires-in-AddThis
unfolding running_rest
took-requires-in-AddThis c =
    may_hear_telling of_add_this (this_rest c.in-AddThis.p) (said c.args.hearing.now.reply) (may c.args.self.now.kept (kept.AddThis c.in-AddThis.p) (said c.args.hearing.now.reply) c.in-AddThis.is c.requires)

pub returns-in_ok-took-in-AddThis-clause-leaves : goal.returns-in_ok-took-in-AddThis-clause-leaves
unfolding running_rest running_leaves
returns-in_ok-took-in-AddThis-clause-leaves c =
    leads c.args.self.now.kept (kept.AddThis c.in-AddThis.p) (turned.AddThis c.in_ok-took-in-AddThis.field-0) c.args.hearing.now.moment (said c.args.hearing.now.reply) c.in-AddThis.is
    (arm_took of_add_this (this_rest c.in-AddThis.p) (this_leaves c.in-AddThis.p c.in_ok-took-in-AddThis.field-0) c.args.hearing.now.moment (said c.args.hearing.now.reply) c.in_ok-took-in-AddThis.ensures.leaves)

pub returns-in_ok-took-in-AddThis-clause-fits : goal.returns-in_ok-took-in-AddThis-clause-fits
unfolding FitsRunning
returns-in_ok-took-in-AddThis-clause-fits c =
    fitted c.args.self.now.kept (kept.AddThis c.in-AddThis.p) (turned.AddThis c.in_ok-took-in-AddThis.field-0) c.in-AddThis.is tt

pub took-requires-in-Del : goal.took-requires-in-Del
unfolding running_rest
took-requires-in-Del c =
    may_hear_telling of_del (del_rest c.in-Del.p) (said c.args.hearing.now.reply) (may c.args.self.now.kept (kept.Del c.in-Del.p) (said c.args.hearing.now.reply) c.in-Del.is c.requires)

pub returns-in_ok-took-in-Del-clause-leaves : goal.returns-in_ok-took-in-Del-clause-leaves
unfolding running_rest running_leaves
returns-in_ok-took-in-Del-clause-leaves c =
    leads c.args.self.now.kept (kept.Del c.in-Del.p) (turned.Del c.in_ok-took-in-Del.field-0) c.args.hearing.now.moment (said c.args.hearing.now.reply) c.in-Del.is
    (arm_took of_del (del_rest c.in-Del.p) (del_leaves c.in-Del.p c.in_ok-took-in-Del.field-0) c.args.hearing.now.moment (said c.args.hearing.now.reply) c.in_ok-took-in-Del.ensures.leaves)

pub returns-in_ok-took-in-Del-clause-fits : goal.returns-in_ok-took-in-Del-clause-fits
unfolding FitsRunning
returns-in_ok-took-in-Del-clause-fits c =
    fitted c.args.self.now.kept (kept.Del c.in-Del.p) (turned.Del c.in_ok-took-in-Del.field-0) c.in-Del.is tt

pub took-requires-in-Check : goal.took-requires-in-Check
unfolding running_rest
took-requires-in-Check c =
    may_hear_telling of_check (check_rest c.in-Check.p) (said c.args.hearing.now.reply) (may c.args.self.now.kept (kept.Check c.in-Check.p) (said c.args.hearing.now.reply) c.in-Check.is c.requires)

pub returns-in_ok-took-in-Check-clause-leaves : goal.returns-in_ok-took-in-Check-clause-leaves
unfolding running_rest running_leaves
returns-in_ok-took-in-Check-clause-leaves c =
    leads c.args.self.now.kept (kept.Check c.in-Check.p) (turned.Check c.in_ok-took-in-Check.field-0) c.args.hearing.now.moment (said c.args.hearing.now.reply) c.in-Check.is
    (arm_took of_check (check_rest c.in-Check.p) (check_leaves c.in-Check.p c.in_ok-took-in-Check.field-0) c.args.hearing.now.moment (said c.args.hearing.now.reply) c.in_ok-took-in-Check.ensures.leaves)

pub returns-in_ok-took-in-Check-clause-fits : goal.returns-in_ok-took-in-Check-clause-fits
unfolding FitsRunning
returns-in_ok-took-in-Check-clause-fits c =
    fitted c.args.self.now.kept (kept.Check c.in-Check.p) (turned.Check c.in_ok-took-in-Check.field-0) c.in-Check.is tt

pub took-requires-in-Release : goal.took-requires-in-Release
unfolding running_rest
took-requires-in-Release c =
    may_hear_telling of_release (release_rest c.in-Release.p) (said c.args.hearing.now.reply) (may c.args.self.now.kept (kept.Release c.in-Release.p) (said c.args.hearing.now.reply) c.in-Release.is c.requires)

pub returns-in_ok-took-in-Release-clause-leaves : goal.returns-in_ok-took-in-Release-clause-leaves
unfolding running_rest running_leaves
returns-in_ok-took-in-Release-clause-leaves c =
    leads c.args.self.now.kept (kept.Release c.in-Release.p) (turned.Release c.in_ok-took-in-Release.field-0) c.args.hearing.now.moment (said c.args.hearing.now.reply) c.in-Release.is
    (arm_took of_release (release_rest c.in-Release.p) (release_leaves c.in-Release.p c.in_ok-took-in-Release.field-0) c.args.hearing.now.moment (said c.args.hearing.now.reply) c.in_ok-took-in-Release.ensures.leaves)

pub returns-in_ok-took-in-Release-clause-fits : goal.returns-in_ok-took-in-Release-clause-fits
unfolding FitsRunning
returns-in_ok-took-in-Release-clause-fits c =
    fitted c.args.self.now.kept (kept.Release c.in-Release.p) (turned.Release c.in_ok-took-in-Release.field-0) c.in-Release.is tt

pub took-requires-in-Absent : goal.took-requires-in-Absent
unfolding running_rest
took-requires-in-Absent c =
    may_hear_telling of_release (absent_rest c.in-Absent.p) (said c.args.hearing.now.reply) (may c.args.self.now.kept (kept.Absent c.in-Absent.p) (said c.args.hearing.now.reply) c.in-Absent.is c.requires)

pub returns-in_ok-took-in-Absent-clause-leaves : goal.returns-in_ok-took-in-Absent-clause-leaves
unfolding running_rest running_leaves
returns-in_ok-took-in-Absent-clause-leaves c =
    leads c.args.self.now.kept (kept.Absent c.in-Absent.p) (turned.Absent c.in_ok-took-in-Absent.field-0) c.args.hearing.now.moment (said c.args.hearing.now.reply) c.in-Absent.is
    (arm_took of_release (absent_rest c.in-Absent.p) (absent_leaves c.in-Absent.p c.in_ok-took-in-Absent.field-0) c.args.hearing.now.moment (said c.args.hearing.now.reply) c.in_ok-took-in-Absent.ensures.leaves)

pub returns-in_ok-took-in-Absent-clause-fits : goal.returns-in_ok-took-in-Absent-clause-fits
unfolding FitsRunning
returns-in_ok-took-in-Absent-clause-fits c =
    fitted c.args.self.now.kept (kept.Absent c.in-Absent.p) (turned.Absent c.in_ok-took-in-Absent.field-0) c.in-Absent.is tt

pub took-requires-in-Collect : goal.took-requires-in-Collect
unfolding running_rest
took-requires-in-Collect c =
    may_hear_telling of_collect (collect_rest c.in-Collect.p) (said c.args.hearing.now.reply) (may c.args.self.now.kept (kept.Collect c.in-Collect.p) (said c.args.hearing.now.reply) c.in-Collect.is c.requires)

pub returns-in_ok-took-in-Collect-clause-leaves : goal.returns-in_ok-took-in-Collect-clause-leaves
unfolding running_rest running_leaves
returns-in_ok-took-in-Collect-clause-leaves c =
    leads c.args.self.now.kept (kept.Collect c.in-Collect.p) (turned.Collect c.in_ok-took-in-Collect.field-0) c.args.hearing.now.moment (said c.args.hearing.now.reply) c.in-Collect.is
    (arm_took of_collect (collect_rest c.in-Collect.p) (collect_leaves c.in-Collect.p c.in_ok-took-in-Collect.field-0) c.args.hearing.now.moment (said c.args.hearing.now.reply) c.in_ok-took-in-Collect.ensures.leaves)

pub returns-in_ok-took-in-Collect-clause-fits : goal.returns-in_ok-took-in-Collect-clause-fits
unfolding FitsRunning
returns-in_ok-took-in-Collect-clause-fits c =
    fitted c.args.self.now.kept (kept.Collect c.in-Collect.p) (turned.Collect c.in_ok-took-in-Collect.field-0) c.in-Collect.is tt

pub took-requires-in-Admin : goal.took-requires-in-Admin
unfolding running_rest
took-requires-in-Admin c =
    may_hear_telling of_admin (admin_rest c.in-Admin.p) (said c.args.hearing.now.reply) (may c.args.self.now.kept (kept.Admin c.in-Admin.p) (said c.args.hearing.now.reply) c.in-Admin.is c.requires)

pub returns-in_ok-took-in-Admin-clause-leaves : goal.returns-in_ok-took-in-Admin-clause-leaves
unfolding running_rest running_leaves
returns-in_ok-took-in-Admin-clause-leaves c =
    leads c.args.self.now.kept (kept.Admin c.in-Admin.p) (turned.Admin c.in_ok-took-in-Admin.field-0) c.args.hearing.now.moment (said c.args.hearing.now.reply) c.in-Admin.is
    (arm_took of_admin (admin_rest c.in-Admin.p) (admin_leaves c.in-Admin.p c.in_ok-took-in-Admin.field-0) c.args.hearing.now.moment (said c.args.hearing.now.reply) c.in_ok-took-in-Admin.ensures.leaves)

pub returns-in_ok-took-in-Admin-clause-fits : goal.returns-in_ok-took-in-Admin-clause-fits
unfolding FitsRunning
returns-in_ok-took-in-Admin-clause-fits c =
    fitted c.args.self.now.kept (kept.Admin c.in-Admin.p) (turned.Admin c.in_ok-took-in-Admin.field-0) c.in-Admin.is tt

pub took-requires-in-Probe : goal.took-requires-in-Probe
unfolding running_rest
took-requires-in-Probe c =
    may_hear_telling of_probe (probe_rest c.in-Probe.p) (said c.args.hearing.now.reply) (may c.args.self.now.kept (kept.Probe c.in-Probe.p) (said c.args.hearing.now.reply) c.in-Probe.is c.requires)

pub returns-in_ok-took-in-Probe-clause-leaves : goal.returns-in_ok-took-in-Probe-clause-leaves
unfolding running_rest running_leaves
returns-in_ok-took-in-Probe-clause-leaves c =
    leads c.args.self.now.kept (kept.Probe c.in-Probe.p) (turned.Probe c.in_ok-took-in-Probe.field-0) c.args.hearing.now.moment (said c.args.hearing.now.reply) c.in-Probe.is
    (arm_took of_probe (probe_rest c.in-Probe.p) (probe_leaves c.in-Probe.p c.in_ok-took-in-Probe.field-0) c.args.hearing.now.moment (said c.args.hearing.now.reply) c.in_ok-took-in-Probe.ensures.leaves)

pub returns-in_ok-took-in-Probe-clause-fits : goal.returns-in_ok-took-in-Probe-clause-fits
unfolding FitsRunning
returns-in_ok-took-in-Probe-clause-fits c =
    fitted c.args.self.now.kept (kept.Probe c.in-Probe.p) (turned.Probe c.in_ok-took-in-Probe.field-0) c.in-Probe.is tt
