-- What a procedure's answer is to its request.
use Rattle.ipam_model.specs.declared.answer.Answer.{Answer}
use Rattle.ipam_model.specs.declared.answer.Answer.TheVariants as answer
use Rattle.ipam_model.specs.declared.outcome.AddAnswer.{AddAnswer}
use Rattle.ipam_model.specs.declared.outcome.AddAnswer.TheVariants as add
use Rattle.ipam_model.specs.declared.outcome.AddThisAnswer.{AddThisAnswer}
use Rattle.ipam_model.specs.declared.outcome.AddThisAnswer.TheVariants as add_this
use Rattle.ipam_model.specs.declared.outcome.AdminAnswer.{AdminAnswer}
use Rattle.ipam_model.specs.declared.outcome.AdminAnswer.TheVariants as admin
use Rattle.ipam_model.specs.declared.outcome.CheckAnswer.{CheckAnswer}
use Rattle.ipam_model.specs.declared.outcome.CheckAnswer.TheVariants as check
use Rattle.ipam_model.specs.declared.outcome.CollectAnswer.{CollectAnswer}
use Rattle.ipam_model.specs.declared.outcome.CollectAnswer.TheVariants as collect
use Rattle.ipam_model.specs.declared.outcome.DelAnswer.{DelAnswer}
use Rattle.ipam_model.specs.declared.outcome.DelAnswer.TheVariants as del
use Rattle.ipam_model.specs.declared.outcome.ProbeAnswer.{ProbeAnswer}
use Rattle.ipam_model.specs.declared.outcome.ProbeAnswer.TheVariants as probe
use Rattle.ipam_model.specs.declared.outcome.ReleaseAnswer.{ReleaseAnswer}
use Rattle.ipam_model.specs.declared.outcome.ReleaseAnswer.TheVariants as release

abbrev pub of_add : AddAnswer → Answer
of_add (add.Added given) = answer.Added given
of_add (add.Exhausted scan) = answer.Exhausted scan
of_add (add.NoPool name moment) = answer.NoPool name moment
of_add (add.Again lost claims) = answer.Again lost claims
of_add add.Full = answer.Full
of_add (add.CountFull moment) = answer.CountFull moment
of_add add.Spent = answer.Spent

abbrev pub of_add_this : AddThisAnswer → Answer
of_add_this (add_this.AddedThis given) = answer.AddedThis given
of_add_this (add_this.NotInPool moment) = answer.NotInPool moment
of_add_this (add_this.Taken holder moment) = answer.Taken holder moment
of_add_this (add_this.NotAffine cidr moment) = answer.NotAffine cidr moment
of_add_this (add_this.Again lost claims) = answer.Again lost claims
of_add_this add_this.Full = answer.Full
of_add_this (add_this.CountFull moment) = answer.CountFull moment
of_add_this add_this.Spent = answer.Spent

abbrev pub of_del : DelAnswer → Answer
of_del (del.Deleted moment) = answer.Deleted moment
of_del (del.Again lost) = answer.Again lost 0
of_del del.Spent = answer.Spent

abbrev pub of_check : CheckAnswer → Answer
of_check check.Checked = answer.Checked
of_check (check.NotRecorded address moment) = answer.NotRecorded address moment

abbrev pub of_release : ReleaseAnswer → Answer
of_release release.Released = answer.Released
of_release (release.NoAffinity moment) = answer.NoAffinity moment
of_release (release.Again lost) = answer.Again lost 0
of_release release.Full = answer.Full
of_release release.Spent = answer.Spent

abbrev pub of_collect : CollectAnswer → Answer
of_collect (collect.Collected collected) = answer.Collected collected
of_collect (collect.Again lost) = answer.Again lost 0
of_collect collect.Spent = answer.Spent

abbrev pub of_admin : AdminAnswer → Answer
of_admin (admin.Done revision) = answer.Done revision
of_admin (admin.Refused number name) = answer.Refused number name
of_admin (admin.Again lost) = answer.Again lost 0
of_admin admin.Full = answer.Full
of_admin admin.Spent = answer.Spent

abbrev pub of_probe : ProbeAnswer → Answer
of_probe (probe.Ready scans) = answer.Ready scans
of_probe (probe.Exhausted scan) = answer.Exhausted scan
of_probe (probe.NoPool name moment) = answer.NoPool name moment
