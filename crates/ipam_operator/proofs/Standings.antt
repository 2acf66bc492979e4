-- The parts of what stands.
use Rattle.std.proofs.Common.{◌≡◌}
use Rattle.std.specs.List.{filter}
use Rattle.ipam_commands.specs.declared.audit_report.Report.{Report}
use Rattle.ipam_operator.specs.Standing.{has_affinity, has_excess, standing}

pub standing_is : (first second report : Report) → report.excess ≡ filter (has_excess first.excess) second.excess
    → report.stale ≡ filter (has_affinity first.stale) second.stale → report.stray ≡ filter (has_affinity first.stray) second.stray
    → report.blocks ≡ second.blocks → report.owners ≡ second.owners → report.handles ≡ second.handles → report ≡ standing first second
standing_is first second report excess stale stray blocks owners handles =
    λ i. record { excess = excess i; stale = stale i; stray = stray i; blocks = blocks i; owners = owners i; handles = handles i }
