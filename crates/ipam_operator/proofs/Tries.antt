-- Times that all rows are asked for, one after the other.
use Rattle.std.proofs.Common.{◌≡◌, ℕ, zero, suc, ◌-◌, ◌<◌, ◌≤◌, List, Option, Some, None, Result, Ok, Err, subst, arith}
use Rattle.ipam_operator.specs.declared.asking.AskFault.{AskFault}
use Rattle.ipam_operator.specs.Asking.{Wire}
use Rattle.ipam_records.specs.declared.call.Row.{Row}
use Rattle.ipam_operator.specs.Moment.{Again, AllStood, AsksOnce, AsksTries, FaultFirst, NoMore}

pub tries_again : (left less : ℕ) → 0 < left → less ≡ left - 1 → (came : Result (Option (List Row)) AskFault) (old between new : Wire)
    → AsksOnce (Ok None) old between → AsksTries less came between new → AsksTries left came old new
tries_again zero less some is came old between new once more = absurd (omega arith)
tries_again (suc n) less some is came old between new once more =
    let same : less ≡ n = omega arith in
    Again n came old between new once (subst (λ (m : ℕ). AsksTries m came between new) same more)

pub tries_stood : (left : ℕ) → 0 < left → (rows : List Row) (old new : Wire) → AsksOnce (Ok (Some rows)) old new → AsksTries left (Ok (Some rows)) old new
tries_stood zero some rows old new once = absurd (omega arith)
tries_stood (suc n) some rows old new once = AllStood n rows old new once

pub tries_broken : (left : ℕ) → 0 < left → (why : AskFault) (old new : Wire) → AsksOnce (Err why) old new → AsksTries left (Err why) old new
tries_broken zero some why old new once = absurd (omega arith)
tries_broken (suc n) some why old new once = FaultFirst n why old new once

pub tries_none : (left : ℕ) → left ≤ 0 → (old : Wire) → AsksTries left (Ok None) old old
tries_none zero over old = NoMore old
tries_none (suc n) over old = absurd (omega arith)
