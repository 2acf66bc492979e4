-- Which statuses a call has.
use Rattle.std.proofs.Common.{ℕ, ◌≤◌, List, Option, inl, inr, refl, arith}
use Rattle.ipam_call.specs.declared.end.CallEnd.{CallEnd}
use Rattle.ipam_call.specs.declared.end.CallEnd.TheVariants.{Replied, Failed}
use Rattle.ipam_call.specs.Calls.{HasStatus, outcome}
use Rattle.ipam_call.specs.Ends.{WritesCallEnd, whole, cut, IsStatus, end_status}

small_status : (end : CallEnd) → HasStatus (outcome end) → end_status end ≤ 1
small_status (Replied reply) h = h
small_status (Failed version fault) h = omega arith

pub told_status : (end : CallEnd) (old new : Option (List ℕ)) (faults faults' status : ℕ) → HasStatus (outcome end) → WritesCallEnd end old new faults faults' status → IsStatus status
told_status end old new faults faults' _ h (whole all same) = inl (small_status end h)
told_status end old new faults faults' _ h (cut part rose) = inr refl
