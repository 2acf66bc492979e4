use Rattle.std.proofs.Common.{◌∙◌, ap, ◌++◌, codes, map, string_bytes}
use Rattle.serde_json.specs.Written.{compact_text}
use Rattle.ipam_json.specs.Built.{array_of}
use Rattle.ipam_block.specs.Operations.{node_bytes}
use Rattle.ipam_block_text.specs.Numbering.{borrowed}
use Rattle.ipam_block_text.specs.Body.{host_data, attributes_data, place_data}
use Rattle.ipam_block_text.proofs.Written.{on_ok, then_more}
use Rattle.ipam_block_text.proofs.writing.push_holders.Goals as goal

pub returns : goal.returns
returns c =
    on_ok c.push_list.result c.push_list.ensures (λ shown.
    let last = shown ∙ ap (λ x. string_bytes c.push-3.new.out ++ compact_text (array_of (map attributes_data (borrowed x)))) c.as_slice-2.ensures.value in
    let from_5 = then_more (string_bytes c.push_places.new.out) (string_bytes c.push-3.new.out) (string_bytes c.push_list.new.out) (codes ",\"attributes\":") (compact_text (array_of (map attributes_data (borrowed c.args.uses.now.attributes.items)))) c.in_ok-push-3.ensures last in
    let from_4 = then_more (string_bytes c.push-2.new.out) (string_bytes c.push_places.new.out) (string_bytes c.push_list.new.out) (compact_text (array_of (map place_data c.args.uses.now.places.items))) (codes ",\"attributes\":" ++ (compact_text (array_of (map attributes_data (borrowed c.args.uses.now.attributes.items))))) (c.in_ok-push_places.ensures ∙ ap (λ x. string_bytes c.push-2.new.out ++ compact_text (array_of (map place_data x))) c.as_slice.ensures.value) from_5 in
    let from_3 = then_more (string_bytes c.push_affinity.new.out) (string_bytes c.push-2.new.out) (string_bytes c.push_list.new.out) (codes ",\"allocations\":") (compact_text (array_of (map place_data c.args.uses.now.places.items)) ++ (codes ",\"attributes\":" ++ (compact_text (array_of (map attributes_data (borrowed c.args.uses.now.attributes.items)))))) c.in_ok-push-2.ensures from_4 in
    let from_2 = then_more (string_bytes c.push.new.out) (string_bytes c.push_affinity.new.out) (string_bytes c.push_list.new.out) (compact_text (host_data (node_bytes c.args.node))) (codes ",\"allocations\":" ++ (compact_text (array_of (map place_data c.args.uses.now.places.items)) ++ (codes ",\"attributes\":" ++ (compact_text (array_of (map attributes_data (borrowed c.args.uses.now.attributes.items))))))) c.in_ok-push_affinity.ensures from_3 in
    let from_1 = then_more (string_bytes c.args.out.now) (string_bytes c.push.new.out) (string_bytes c.push_list.new.out) (codes "{\"affinity\":") (compact_text (host_data (node_bytes c.args.node)) ++ (codes ",\"allocations\":" ++ (compact_text (array_of (map place_data c.args.uses.now.places.items)) ++ (codes ",\"attributes\":" ++ (compact_text (array_of (map attributes_data (borrowed c.args.uses.now.attributes.items)))))))) c.in_ok-push.ensures from_2 in
    from_1)
