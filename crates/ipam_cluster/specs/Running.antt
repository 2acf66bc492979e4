-- What is left of a request that runs, whichever it is.
use Rattle.std.specs.Prelude.{ℕ, Bool, false, nat_le, ◌+◌, Option, Some, None}
use Rattle.ipam_records.specs.Word.{Word}
use Rattle.ipam_model.specs.declared.answer.Answer.{Answer}
use Rattle.ipam_model.specs.declared.request.Request.{Request}
use Rattle.ipam_model.specs.declared.request.Request.TheVariants as request
use Rattle.ipam_model.specs.Requests.{told_as}
use Rattle.ipam_model.specs.Told.{of_add, of_add_this, of_del, of_check, of_release, of_collect, of_admin, of_probe}
use Rattle.ipam_assign.specs.Adding.{add_rest, add_leaves}
use Rattle.ipam_release.specs.Admin.{admin_rest, admin_leaves}
use Rattle.ipam_assign.specs.AddThis.{this_rest, this_leaves}
use Rattle.ipam_assign.specs.Probe.{probe_rest, probe_leaves}
use Rattle.ipam_parts.specs.Release.{release_rest, release_leaves}
use Rattle.ipam_collect.specs.declared.collect.Grace.{Grace}
use Rattle.ipam_collect.specs.Collect.{collect_rest, collect_leaves, grace_in, grace_asked}
use Rattle.ipam_release.specs.Check.{check_rest, check_leaves}
use Rattle.ipam_release.specs.Del.{del_rest, del_leaves}
use Rattle.ipam_cluster.specs.declared.running.Running.{Running}
use Rattle.ipam_cluster.specs.declared.running.RunningTurned.{RunningTurned}
use Rattle.ipam_cluster.specs.declared.running.Kept.{Kept}
use Rattle.ipam_cluster.specs.declared.running.Kept.TheVariants as kept
use Rattle.ipam_cluster.specs.declared.running.Turned.{Turned}
use Rattle.ipam_cluster.specs.declared.running.Turned.TheVariants as turned
use Rattle.ipam_cluster.specs.Absent.{absent_rest, absent_leaves}

-- a word with its answers told so, as a request has it
unfoldable pub telling : {A : Type 0} → (A → Answer) → Word A → Word Answer
telling of_one word = told_as of_one word

-- ---- a procedure, whichever it is

abbrev pub rest_of : Kept → Word Answer
rest_of (kept.Add p) = telling of_add (add_rest p)
rest_of (kept.AddThis p) = telling of_add_this (this_rest p)
rest_of (kept.Del p) = telling of_del (del_rest p)
rest_of (kept.Check p) = telling of_check (check_rest p)
rest_of (kept.Release p) = telling of_release (release_rest p)
rest_of (kept.Absent p) = telling of_release (absent_rest p)
rest_of (kept.Collect p) = telling of_collect (collect_rest p)
rest_of (kept.Admin p) = telling of_admin (admin_rest p)
rest_of (kept.Probe p) = telling of_probe (probe_rest p)

-- where it stands once it goes where a reply led it; a reply that another one heard leads nowhere
abbrev pub leaves_of : Kept → Turned → Word Answer
leaves_of (kept.Add p) (turned.Add t) = telling of_add (add_leaves p t)
leaves_of (kept.AddThis p) (turned.AddThis t) = telling of_add_this (this_leaves p t)
leaves_of (kept.Del p) (turned.Del t) = telling of_del (del_leaves p t)
leaves_of (kept.Check p) (turned.Check t) = telling of_check (check_leaves p t)
leaves_of (kept.Release p) (turned.Release t) = telling of_release (release_leaves p t)
leaves_of (kept.Absent p) (turned.Absent t) = telling of_release (absent_leaves p t)
leaves_of (kept.Collect p) (turned.Collect t) = telling of_collect (collect_leaves p t)
leaves_of (kept.Admin p) (turned.Admin t) = telling of_admin (admin_leaves p t)
leaves_of (kept.Probe p) (turned.Probe t) = telling of_probe (probe_leaves p t)
leaves_of p t = rest_of p

-- the reply was heard by a procedure of this kind
abbrev pub Fits : Kept → Turned → Type 0
Fits (kept.Add p) (turned.Add t) = Unit {0}
Fits (kept.AddThis p) (turned.AddThis t) = Unit {0}
Fits (kept.Del p) (turned.Del t) = Unit {0}
Fits (kept.Check p) (turned.Check t) = Unit {0}
Fits (kept.Release p) (turned.Release t) = Unit {0}
Fits (kept.Absent p) (turned.Absent t) = Unit {0}
Fits (kept.Collect p) (turned.Collect t) = Unit {0}
Fits (kept.Admin p) (turned.Admin t) = Unit {0}
Fits (kept.Probe p) (turned.Probe t) = Unit {0}
Fits p t = ⊥

-- the times of a collection; nothing else has any
abbrev pub grace_kept : Kept → Option Grace
grace_kept (kept.Collect p) = Some (grace_in p)
grace_kept _ = None

-- ---- what runs

unfoldable pub running_rest : Running → Word Answer
running_rest r = rest_of r.kept

unfoldable pub running_leaves : Running → RunningTurned → Word Answer
running_leaves r t = leaves_of r.kept t.turned

unfoldable pub FitsRunning : Running → RunningTurned → Type 0
FitsRunning r t = Fits r.kept t.turned

unfoldable pub running_grace : Running → Option Grace
running_grace r = grace_kept r.kept

-- the times that a request asks for
abbrev pub grace_of : Request → Option Grace
grace_of (request.Collect asked) = Some (grace_asked asked)
grace_of _ = None

-- whether a second list that was made at this time is late enough; without a first one none is
abbrev pub is_over : Option Grace → (at : ℕ) → Bool
is_over None at = false
is_over (Some grace) at = nat_le (grace.at + grace.grace) at
