use Rattle.std.proofs.Common.{sym, ◌∙◌, ◌-◌, drop, arith, length-drop}
use Rattle.ipam_select.proofs.Several.{ascends-few}
use Rattle.ipam_select.proofs.sound.ascends.Goals as goal

pub returns : goal.returns
returns c =
    let vs = c.args.values.now in
    sym (c.loop-i.invariant ∙ ascends-few (drop (c.loop-i.i - 1) vs) (omega (arith, length-drop (c.loop-i.i - 1) vs)))
