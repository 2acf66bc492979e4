use Rattle.std.proofs.Common.{◌≡◌, Some, IsSome, ap, ◌∙◌, subst, rules}
use Rattle.std.specs.Prelude.{Result, Ok, Err, IfOk}
use Rattle.std.specs.declared.alloc.AllocError.{AllocError}
use Rattle.ipam_model.specs.declared.answer.Answer.{Answer}
use Rattle.ipam_model.specs.Told.{of_add, of_add_this, of_del, of_check, of_release, of_collect, of_admin, of_probe}
use Rattle.ipam_records.specs.declared.call.Call.{Call}
use Rattle.ipam_records.specs.Word.{Word, next_call}
use Rattle.ipam_assign.specs.Adding.{add_rest}
use Rattle.ipam_assign.specs.AddThis.{this_rest}
use Rattle.ipam_assign.specs.Probe.{probe_rest}
use Rattle.ipam_parts.specs.Release.{release_rest}
use Rattle.ipam_collect.specs.Collect.{collect_rest}
use Rattle.ipam_release.specs.Admin.{admin_rest}
use Rattle.ipam_release.specs.Check.{check_rest}
use Rattle.ipam_release.specs.Del.{del_rest}
use Rattle.ipam_cluster.specs.Absent.{absent_rest}
use Rattle.ipam_cluster.specs.declared.running.Kept.{Kept}
use Rattle.ipam_cluster.specs.Running.{telling, rest_of, running_rest}
use Rattle.ipam_cluster.proofs.TellingLemmas.{arm_asks, asked_telling}
use Rattle.ipam_cluster.proofs.running.RunningProcedure.call.Goals as goal

-- what is told so has a call where the word has one, and the same
asks : {A : Type 0} (tell : A → Answer) (word : Word A) (p : Kept) → rest_of p ≡ telling tell word
    → IsSome (next_call (rest_of p)) → IsSome (next_call word)
asks tell word p is some = arm_asks tell word (subst (λ (w : Word Answer). IsSome (next_call w)) is some)

called : {A : Type 0} (tell : A → Answer) (word : Word A) (p : Kept) (r : Result Call AllocError) → rest_of p ≡ telling tell word
    → IfOk r (λ call. next_call word ≡ Some call) → IfOk r (λ call. next_call (rest_of p) ≡ Some call)
called tell word p (Ok call) is next = ap next_call is ∙ asked_telling tell word ∙ next
called tell word p (Err error) is next = search rules

pub call-requires : goal.call-requires
unfolding running_rest
call-requires c = asks of_add (add_rest c.in-Add.p) c.args.self.now.kept (ap rest_of c.in-Add.is) c.requires

pub returns-in-Add : goal.returns-in-Add
unfolding running_rest
returns-in-Add c =
    called of_add (add_rest c.in-Add.p) c.args.self.now.kept c.call.result (ap rest_of c.in-Add.is) c.call.ensures

pub call-requires-in-AddThis : goal.call-requires-in-AddThis
unfolding running_rest
call-requires-in-AddThis c =
    asks of_add_this (this_rest c.in-AddThis.p) c.args.self.now.kept (ap rest_of c.in-AddThis.is) c.requires

pub returns-in-AddThis : goal.returns-in-AddThis
unfolding running_rest
returns-in-AddThis c =
    called of_add_this (this_rest c.in-AddThis.p) c.args.self.now.kept c.call-in-AddThis.result (ap rest_of c.in-AddThis.is) c.call-in-AddThis.ensures

pub call-requires-in-Del : goal.call-requires-in-Del
unfolding running_rest
call-requires-in-Del c =
    asks of_del (del_rest c.in-Del.p) c.args.self.now.kept (ap rest_of c.in-Del.is) c.requires

pub returns-in-Del : goal.returns-in-Del
unfolding running_rest
returns-in-Del c =
    called of_del (del_rest c.in-Del.p) c.args.self.now.kept c.call-in-Del.result (ap rest_of c.in-Del.is) c.call-in-Del.ensures

pub call-requires-in-Check : goal.call-requires-in-Check
unfolding running_rest
call-requires-in-Check c =
    asks of_check (check_rest c.in-Check.p) c.args.self.now.kept (ap rest_of c.in-Check.is) c.requires

pub returns-in-Check : goal.returns-in-Check
unfolding running_rest
returns-in-Check c =
    called of_check (check_rest c.in-Check.p) c.args.self.now.kept c.call-in-Check.result (ap rest_of c.in-Check.is) c.call-in-Check.ensures

pub call-requires-in-Release : goal.call-requires-in-Release
unfolding running_rest
call-requires-in-Release c =
    asks of_release (release_rest c.in-Release.p) c.args.self.now.kept (ap rest_of c.in-Release.is) c.requires

pub returns-in-Release : goal.returns-in-Release
unfolding running_rest
returns-in-Release c =
    called of_release (release_rest c.in-Release.p) c.args.self.now.kept c.call-in-Release.result (ap rest_of c.in-Release.is) c.call-in-Release.ensures

pub call-requires-in-Absent : goal.call-requires-in-Absent
unfolding running_rest
call-requires-in-Absent c =
    asks of_release (absent_rest c.in-Absent.p) c.args.self.now.kept (ap rest_of c.in-Absent.is) c.requires

pub returns-in-Absent : goal.returns-in-Absent
unfolding running_rest
returns-in-Absent c =
    called of_release (absent_rest c.in-Absent.p) c.args.self.now.kept c.call-in-Absent.result (ap rest_of c.in-Absent.is) c.call-in-Absent.ensures

pub call-requires-in-Collect : goal.call-requires-in-Collect
unfolding running_rest
call-requires-in-Collect c =
    asks of_collect (collect_rest c.in-Collect.p) c.args.self.now.kept (ap rest_of c.in-Collect.is) c.requires

pub returns-in-Collect : goal.returns-in-Collect
unfolding running_rest
returns-in-Collect c =
    called of_collect (collect_rest c.in-Collect.p) c.args.self.now.kept c.call-in-Collect.result (ap rest_of c.in-Collect.is) c.call-in-Collect.ensures

pub call-requires-in-Admin : goal.call-requires-in-Admin
unfolding running_rest
call-requires-in-Admin c =
    asks of_admin (admin_rest c.in-Admin.p) c.args.self.now.kept (ap rest_of c.in-Admin.is) c.requires

pub returns-in-Admin : goal.returns-in-Admin
unfolding running_rest
returns-in-Admin c =
    called of_admin (admin_rest c.in-Admin.p) c.args.self.now.kept c.call-in-Admin.result (ap rest_of c.in-Admin.is) c.call-in-Admin.ensures

pub call-requires-in-Probe : goal.call-requires-in-Probe
unfolding running_rest
call-requires-in-Probe c =
    asks of_probe (probe_rest c.in-Probe.p) c.args.self.now.kept (ap rest_of c.in-Probe.is) c.requires

pub returns-in-Probe : goal.returns-in-Probe
unfolding running_rest
returns-in-Probe c =
    called of_probe (probe_rest c.in-Probe.p) c.args.self.now.kept c.call-in-Probe.result (ap rest_of c.in-Probe.is) c.call-in-Probe.ensures
