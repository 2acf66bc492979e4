-- How a request runs in a kept cluster where it was stopped.
use Rattle.std.proofs.Common.{◌≡◌, ℕ, [], None}
use Rattle.ipam_model.specs.declared.request.Request.{Request}
use Rattle.ipam_model.specs.History.{Base}
use Rattle.ipam_shared.specs.declared.kept.Kept.{Kept}
use Rattle.ipam_shared.specs.Kept.{KeptFor, Tells}
use Rattle.ipam_shared.specs.Solo.{IsStopped}
use Rattle.ipam_shared.proofs.Courses.{ends-kept, no-doubt, sure-rows}
use Rattle.ipam_commands.specs.Courses.{IsStopCourse}

pub stop-course : {D : Type 0} (tells : Tells D) (faults : D → ℕ) (asked : Request) (old new : Kept D) (base : Base) → KeptFor tells old base []
    → old.doubt ≡ None → IsStopped tells faults asked old new → IsStopCourse base asked (tells new.keeper)
stop-course tells faults asked old new base kept sure e =
    let is = ends-kept tells old new base kept e.entries e.keeps in
    record {
      entries = e.entries;
      lawful = is.cluster.stands.lawful;
      stopped = e.stopped;
      rows = sure-rows tells new base e.entries is (no-doubt old new e.doubt sure);
    }
