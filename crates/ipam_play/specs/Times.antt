-- The times of the collections that run, which tell whether a second list is too early.
use Rattle.std.specs.Prelude.{◌≡◌, ℕ, Some, slice_index}
use Rattle.ipam_collect.specs.declared.collect.Grace.{Grace}
use Rattle.ipam_model.specs.declared.request.Request.{Request}
use Rattle.ipam_model.specs.declared.request.Request.TheVariants.{Collect}
use Rattle.ipam_cluster.specs.Cluster.{Stood, grace_in, slot_of_cluster}
use Rattle.ipam_play.specs.declared.cluster.OpenCluster.{OpenCluster}

-- when the first list of a collection was made, and its grace; 0 for any other request
abbrev pub times_asked : Request → ℕ × ℕ
times_asked (Collect asked) = (asked.at, asked.grace)
times_asked _ = (0, 0)

-- the times of each collection that runs are kept for its slot
abbrev pub IsTimed : OpenCluster → Type 0
IsTimed opened =
    (slot : ℕ) (grace : Grace) → grace_in (slot_of_cluster opened.cluster slot) ≡ Some grace
    → (slice_index opened.at slot ≡ grace.at) × (slice_index opened.grace slot ≡ grace.grace)

-- what is opened stands for some history, and the times are kept
abbrev pub StandsTimed : OpenCluster → Type 0
StandsTimed opened = Stood opened.cluster × IsTimed opened
