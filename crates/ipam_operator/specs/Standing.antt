-- What stands in two reports.
use Rattle.std.specs.Prelude.{ℕ, ◌==◌, ◌&&◌, Bool, List, bytes_eq}
use Rattle.std.specs.List.{filter, list_any}
use Rattle.ipam_addr.specs.Shape.{CidrValue}
use Rattle.ipam_commands.specs.declared.audit_report.Excess.{Excess}
use Rattle.ipam_commands.specs.declared.audit_report.Report.{Report}
use Rattle.ipam_model.specs.Usable.{is_same_cidr}

-- whether two counts are of one handle and block, and have one count and one number of
-- owned addresses
abbrev pub is_same_excess : (one other : Excess) → Bool
is_same_excess one other =
    bytes_eq one.handle other.handle && is_same_cidr one.cidr other.cidr && (one.count == other.count) && (one.owned == other.owned)

abbrev pub has_excess : List Excess → Excess → Bool
has_excess found one = list_any (is_same_excess one) found

-- of the same node, to the same block
abbrev pub is_same_affinity : (one other : List ℕ × CidrValue) → Bool
is_same_affinity one other = bytes_eq one.0 other.0 && is_same_cidr one.1 other.1

abbrev pub has_affinity : List (List ℕ × CidrValue) → List ℕ × CidrValue → Bool
has_affinity found one = list_any (is_same_affinity one) found

-- the second report, with those of its counts and affinities alone that the first has too
abbrev pub standing : (first second : Report) → Report
standing first second = record {
  excess = filter (has_excess first.excess) second.excess;
  stale = filter (has_affinity first.stale) second.stale;
  stray = filter (has_affinity first.stray) second.stray;
  blocks = second.blocks;
  owners = second.owners;
  handles = second.handles;
}
