-- How many items and members a value has.
use Rattle.std.proofs.Common.{◌≡◌, List, length, ap, ◌∙◌, String}
use Rattle.std.proofs.lemmas.List.{length-map}
use Rattle.std.specs.declared.alloc.Global.{Global}
use Rattle.serde_json.specs.View.{view, items_view, members_view}
use Rattle.serde_json.specs.declared.value.Value.{Value}
use Rattle.ipam_json.specs.Built.{Field, item_list, member_list}
use Rattle.ipam_json.proofs.Constructors.{item_list-items_view, member_list-members_view}
use Rattle.std.specs.Prelude.{string_bytes}

pub items_counted : (vs : List Value) → length (item_list (items_view vs)) ≡ length vs
items_counted vs = ap length (item_list-items_view vs) ∙ length-map vs view

pub members_counted : (es : List (String Global × Value)) → length (member_list (members_view es)) ≡ length es
members_counted es =
    let f : (String Global × Value) → Field = λ e. (string_bytes e.0, view e.1) in
    ap length (member_list-members_view es) ∙ length-map es f
