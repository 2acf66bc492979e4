-- Where a reply led one kind of procedure, only a procedure of that kind may go.
use Rattle.std.proofs.Common.{◌≡◌, refl}
use Rattle.ipam_assign.specs.declared.add.AddProc.{AddProc}
use Rattle.ipam_assign.specs.declared.add.AddTurned.{AddTurned}
use Rattle.ipam_assign.specs.declared.add_this.AddThisProc.{AddThisProc}
use Rattle.ipam_assign.specs.declared.add_this.AddThisTurned.{AddThisTurned}
use Rattle.ipam_release.specs.declared.del.DelProc.{DelProc}
use Rattle.ipam_release.specs.declared.del.DelTurned.{DelTurned}
use Rattle.ipam_release.specs.declared.check.CheckProc.{CheckProc}
use Rattle.ipam_release.specs.declared.check.CheckTurned.{CheckTurned}
use Rattle.ipam_parts.specs.declared.release.ReleaseAffinityProc.{ReleaseAffinityProc}
use Rattle.ipam_parts.specs.declared.release.ReleaseTurned.{ReleaseTurned}
use Rattle.ipam_cluster.specs.declared.absent.AbsentRelease.{AbsentRelease}
use Rattle.ipam_cluster.specs.declared.absent.AbsentTurned.{AbsentTurned}
use Rattle.ipam_collect.specs.declared.collect.CollectProc.{CollectProc}
use Rattle.ipam_collect.specs.declared.collect.CollectTurned.{CollectTurned}
use Rattle.ipam_release.specs.declared.admin.AdminProc.{AdminProc}
use Rattle.ipam_release.specs.declared.admin.AdminTurned.{AdminTurned}
use Rattle.ipam_assign.specs.declared.probe.ProbeProc.{ProbeProc}
use Rattle.ipam_assign.specs.declared.probe.ProbeTurned.{ProbeTurned}
use Rattle.ipam_cluster.specs.declared.running.Kept.{Kept}
use Rattle.ipam_cluster.specs.declared.running.Kept.TheVariants as kept
use Rattle.ipam_cluster.specs.declared.running.Turned.TheVariants as turned
use Rattle.ipam_cluster.specs.Running.{Fits}

pub is_add : (k : Kept) (t : AddTurned) → Fits k (turned.Add t) → ((p : AddProc) → k ≡ kept.Add p → ⊥) → ⊥
is_add (kept.Add p) t fits other = other p refl
is_add (kept.AddThis p) t fits other = fits
is_add (kept.Del p) t fits other = fits
is_add (kept.Check p) t fits other = fits
is_add (kept.Release p) t fits other = fits
is_add (kept.Absent p) t fits other = fits
is_add (kept.Collect p) t fits other = fits
is_add (kept.Admin p) t fits other = fits
is_add (kept.Probe p) t fits other = fits

pub is_add_this : (k : Kept) (t : AddThisTurned) → Fits k (turned.AddThis t) → ((p : AddThisProc) → k ≡ kept.AddThis p → ⊥) → ⊥
is_add_this (kept.Add p) t fits other = fits
is_add_this (kept.AddThis p) t fits other = other p refl
is_add_this (kept.Del p) t fits other = fits
is_add_this (kept.Check p) t fits other = fits
is_add_this (kept.Release p) t fits other = fits
is_add_this (kept.Absent p) t fits other = fits
is_add_this (kept.Collect p) t fits other = fits
is_add_this (kept.Admin p) t fits other = fits
is_add_this (kept.Probe p) t fits other = fits

pub is_del : (k : Kept) (t : DelTurned) → Fits k (turned.Del t) → ((p : DelProc) → k ≡ kept.Del p → ⊥) → ⊥
is_del (kept.Add p) t fits other = fits
is_del (kept.AddThis p) t fits other = fits
is_del (kept.Del p) t fits other = other p refl
is_del (kept.Check p) t fits other = fits
is_del (kept.Release p) t fits other = fits
is_del (kept.Absent p) t fits other = fits
is_del (kept.Collect p) t fits other = fits
is_del (kept.Admin p) t fits other = fits
is_del (kept.Probe p) t fits other = fits

pub is_check : (k : Kept) (t : CheckTurned) → Fits k (turned.Check t) → ((p : CheckProc) → k ≡ kept.Check p → ⊥) → ⊥
is_check (kept.Add p) t fits other = fits
is_check (kept.AddThis p) t fits other = fits
is_check (kept.Del p) t fits other = fits
is_check (kept.Check p) t fits other = other p refl
is_check (kept.Release p) t fits other = fits
is_check (kept.Absent p) t fits other = fits
is_check (kept.Collect p) t fits other = fits
is_check (kept.Admin p) t fits other = fits
is_check (kept.Probe p) t fits other = fits

pub is_release : (k : Kept) (t : ReleaseTurned) → Fits k (turned.Release t) → ((p : ReleaseAffinityProc) → k ≡ kept.Release p → ⊥) → ⊥
is_release (kept.Add p) t fits other = fits
is_release (kept.AddThis p) t fits other = fits
is_release (kept.Del p) t fits other = fits
is_release (kept.Check p) t fits other = fits
is_release (kept.Release p) t fits other = other p refl
is_release (kept.Absent p) t fits other = fits
is_release (kept.Collect p) t fits other = fits
is_release (kept.Admin p) t fits other = fits
is_release (kept.Probe p) t fits other = fits

pub is_absent : (k : Kept) (t : AbsentTurned) → Fits k (turned.Absent t) → ((p : AbsentRelease) → k ≡ kept.Absent p → ⊥) → ⊥
is_absent (kept.Add p) t fits other = fits
is_absent (kept.AddThis p) t fits other = fits
is_absent (kept.Del p) t fits other = fits
is_absent (kept.Check p) t fits other = fits
is_absent (kept.Release p) t fits other = fits
is_absent (kept.Absent p) t fits other = other p refl
is_absent (kept.Collect p) t fits other = fits
is_absent (kept.Admin p) t fits other = fits
is_absent (kept.Probe p) t fits other = fits

pub is_collect : (k : Kept) (t : CollectTurned) → Fits k (turned.Collect t) → ((p : CollectProc) → k ≡ kept.Collect p → ⊥) → ⊥
is_collect (kept.Add p) t fits other = fits
is_collect (kept.AddThis p) t fits other = fits
is_collect (kept.Del p) t fits other = fits
is_collect (kept.Check p) t fits other = fits
is_collect (kept.Release p) t fits other = fits
is_collect (kept.Absent p) t fits other = fits
is_collect (kept.Collect p) t fits other = other p refl
is_collect (kept.Admin p) t fits other = fits
is_collect (kept.Probe p) t fits other = fits

pub is_admin : (k : Kept) (t : AdminTurned) → Fits k (turned.Admin t) → ((p : AdminProc) → k ≡ kept.Admin p → ⊥) → ⊥
is_admin (kept.Add p) t fits other = fits
is_admin (kept.AddThis p) t fits other = fits
is_admin (kept.Del p) t fits other = fits
is_admin (kept.Check p) t fits other = fits
is_admin (kept.Release p) t fits other = fits
is_admin (kept.Absent p) t fits other = fits
is_admin (kept.Collect p) t fits other = fits
is_admin (kept.Admin p) t fits other = other p refl
is_admin (kept.Probe p) t fits other = fits

pub is_probe : (k : Kept) (t : ProbeTurned) → Fits k (turned.Probe t) → ((p : ProbeProc) → k ≡ kept.Probe p → ⊥) → ⊥
is_probe (kept.Add p) t fits other = fits
is_probe (kept.AddThis p) t fits other = fits
is_probe (kept.Del p) t fits other = fits
is_probe (kept.Check p) t fits other = fits
is_probe (kept.Release p) t fits other = fits
is_probe (kept.Absent p) t fits other = fits
is_probe (kept.Collect p) t fits other = fits
is_probe (kept.Admin p) t fits other = fits
is_probe (kept.Probe p) t fits other = other p refl
