use Rattle.std.proofs.Common.{◌≡◌, map, take}
use Rattle.ipam_model.specs.Opened.{text_of}
use Rattle.ipam_cluster.proofs.rows.row_texts.Given as goal

abbrev pub invariant-loop-place : goal.invariant-loop-place
invariant-loop-place l = l.rows.items ≡ map text_of (take l.place l.store.store.rows)
