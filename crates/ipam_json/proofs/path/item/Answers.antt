use Rattle.std.proofs.Common.{◌≡◌, Some, ap, ◌∙◌, arith}
use Rattle.serde_json.specs.View.{view}
use Rattle.serde_json.proofs.Views.{get_item_within, get_item_past}
use Rattle.ipam_json.specs.Path.{index_of}
use Rattle.ipam_json.proofs.PathLemmas.{item_past}
use Rattle.ipam_json.proofs.path.item.Goals as goal
use Rattle.ipam_json.proofs.path.item.Goals.{in_default-via-in-Some+else-index-count, in_default-via-in_default}

pub returns-in-Some : goal.returns-in-Some
returns-in-Some c =
    let vs = c.args.list.now.items in
    let named : index_of c.args.name.now ≡ Some c.in-Some.index = c.in-Some.ensures.index in
    rw named (ap (λ v. Some (view v)) c.index.ensures ∙ get_item_within vs c.in-Some.index c.index.result.now (omega arith))

pub returns-in_default : goal.returns-in_default
returns-in_default c =
    let vs = c.args.list.now.items in
    elim c.in_default.branch [
      | in_default-via-in-Some+else-index-count w ↦
          let named : index_of c.args.name.now ≡ Some w.in-Some.index = w.in-Some.ensures.index in
          rw named (get_item_past vs w.in-Some.index (omega arith))
      | in_default-via-in_default w ↦ item_past vs (index_of c.args.name.now) (omega arith) w.in_default.ensures.too_large
    ]
