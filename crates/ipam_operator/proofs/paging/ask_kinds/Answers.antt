use Rattle.std.proofs.Common.{◌≤◌, ◌++◌, [], length, drop, ◌+◌, Ok, Err, arith, rules}
use Rattle.ipam_operator.specs.declared.asking.AskFault.TheVariants.{Memory}
use Rattle.ipam_operator.proofs.KindSteps.{asks_behind, asks_ended, asks_more, asks_no_room, asks_whole}
use Rattle.ipam_operator.proofs.paging.ask_kinds.Goals as goal

pub loop-kind-init : goal.loop-kind-init
loop-kind-init g c = λ came last asks. asks_behind c.args.kinds.now _ [] (search rules) came _ last asks

pub loop-kind-preserved : goal.loop-kind-preserved
loop-kind-preserved g c = λ came last asks.
    let all = asks_behind (drop (c.loop-kind.kind-index + 1) c.args.kinds.now) _ (c.loop-kind.rows.items ++ c.in-Ok.found.items) c.in-Ok-append.ensures came _ last asks in
    c.loop-kind.invariant came last
    (asks_more c.args.kinds.now c.loop-kind.kind-index _ c.loop-kind-test.true c.loop-kind.rows.items c.in-Ok.found.items came _ _ last c.in-Ok.ensures.asked all)

pub returns-in-Err-append : goal.returns-in-Err-append
returns-in-Err-append g c = record {
  asked = c.loop-kind.invariant (Err Memory) _
      (asks_no_room c.args.kinds.now c.loop-kind.kind-index _ c.loop-kind-test.true c.loop-kind.rows.items c.in-Ok.found.items _ _ c.in-Ok.ensures.asked);
}

pub returns-in-Err : goal.returns-in-Err
returns-in-Err g c = record {
  asked = c.loop-kind.invariant (Err c.in-Err.fault) _
      (asks_ended c.args.kinds.now c.loop-kind.kind-index _ c.loop-kind-test.true c.loop-kind.rows.items c.in-Err.fault _ _ c.in-Err.ensures.asked);
}

pub returns : goal.returns
returns g c =
    let over : length c.args.kinds.now ≤ c.loop-kind.kind-index = omega arith in
    record { asked = c.loop-kind.invariant (Ok c.loop-kind.rows.items) _ (asks_whole c.args.kinds.now c.loop-kind.kind-index over c.loop-kind.rows.items _) }
