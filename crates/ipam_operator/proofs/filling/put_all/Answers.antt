use Rattle.std.proofs.Common.{◌≤◌, Err, length, arith, rules}
use Rattle.ipam_operator.proofs.Fillings.{failed_since, filled_end, filled_next, unfailed_since}
use Rattle.ipam_operator.proofs.filling.put_all.Goals as goal

pub loop-row-preserved : goal.loop-row-preserved
loop-row-preserved g c = record {
  filled = filled_next c.args.rows.now c.loop-row.row-index c.row-item.result c.row-item.is c.loop-row-test.true _ _ _ (search rules) c.loop-row.invariant.filled;
  faults = search rules;
}

pub returns-in-Err : goal.returns-in-Err
returns-in-Err g c =
    let before = g.D.Keeper.faults c.args.target.now in
    let now = g.D.Keeper.faults c.loop-row.target in
    let after = g.D.Keeper.faults c.put.new.self in
    record {
      filled = tt;
      fault = failed_since (Err c.in-Err.fault) before now after c.loop-row.invariant.faults c.in-Err.ensures.fault;
      no_fault = unfailed_since (Err c.in-Err.fault) before now after c.loop-row.invariant.faults c.in-Err.ensures.no_fault;
    }

pub returns : goal.returns
returns g c =
    let over : length c.args.rows.now ≤ c.loop-row.row-index = omega arith in
    record {
      filled = filled_end c.args.rows.now c.loop-row.row-index over _ _ c.loop-row.invariant.filled;
      fault = tt;
      no_fault = c.loop-row.invariant.faults;
    }
