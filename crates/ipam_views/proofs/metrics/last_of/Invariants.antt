use Rattle.std.proofs.Common.{◌≡◌, take}
use Rattle.ipam_views.specs.Metrics.{last_of}
use Rattle.ipam_views.proofs.metrics.last_of.Given as goal

abbrev pub invariant-loop-place : goal.invariant-loop-place
invariant-loop-place l = l.most ≡ last_of (take l.place l.store.store.rows)
