use Rattle.std.proofs.Common.{◌∙◌, ap, sym, refl, append-nil}
use Rattle.ipam_words.specs.Views.{chosen_by}
use Rattle.ipam_show.specs.InUse.{use_at, use_of}
use Rattle.ipam_show.proofs.Chosen.{held_below}
use Rattle.ipam_show.proofs.Steps.{step_option}
use Rattle.ipam_show.proofs.in_use.add_of_block.Goals as goal
use Rattle.ipam_show.proofs.in_use.add_of_block.Goals.{in-Some+in_ok-push, in_default}

pub address-address-requires : goal.address-address-requires
address-address-requires c =
    held_below c.args.block.now _ c.loop-allocation.allocation-index c.allocation-item.result c.cidr-cidr.ensures.sound c.allocations-allocation-items.ensures c.allocation-item.is c.loop-allocation-test.true

pub loop-allocation-preserved : goal.loop-allocation-preserved
loop-allocation-preserved c =
    let l = c.loop-allocation in
    let b = c.args.block.now in
    let a = c.allocation-item.result in
    let chosen = chosen_by c.args.chosen.now in
    let is = c.in_ok-used.ensures ∙ ap (λ address. use_at chosen address b a) c.address-address.ensures in
    let next = step_option (use_of chosen b) c.allocations-allocation-items.result.now l.allocation-index a c.allocation-item.is c.loop-allocation-test.true c.in_ok-used.field-0 is l.uses.items in
    elim c.match-branch-2.branch [
      | in-Some+in_ok-push w ↦
          let one = w.in-Some.is in
          let pushed = w.in_ok-push.ensures.items in
          next _ _ l.invariant (rw (w.uses-is, pushed, one) refl)
      | in_default w ↦
          let none = w.in_default.is in
          next _ _ l.invariant (rw (w.uses-is, none) (sym (append-nil l.uses.items)))
    ]
