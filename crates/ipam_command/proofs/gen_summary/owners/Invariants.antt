use Rattle.std.proofs.Common.{◌≡◌, ◌*◌, ◌≤◌, take}
use Rattle.ipam_command.specs.Numbers.{owned_among}
use Rattle.ipam_command.proofs.gen_summary.owners.Given as goal

abbrev pub invariant-loop-place : goal.invariant-loop-place
invariant-loop-place l = record {
  count : l.count ≡ owned_among (take l.place l.store.store.rows);
  small : l.count ≤ 18446744073709551615 * l.place;
}
