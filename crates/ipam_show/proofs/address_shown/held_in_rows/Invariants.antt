use Rattle.std.proofs.Common.{◌≡◌, drop}
use Rattle.ipam_show.specs.Address.{held_in}
use Rattle.ipam_show.proofs.address_shown.held_in_rows.Given as goal

abbrev pub invariant-loop-row : goal.invariant-loop-row
invariant-loop-row l = held_in l.addr (drop l.row-index l.rows) ≡ held_in l.addr l.rows
