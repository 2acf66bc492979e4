use Rattle.std.proofs.Common.{◌∙◌, ap, string_bytes}
use Rattle.serde_json.specs.Data.{object}
use Rattle.serde_json.specs.Written.{compact_text}
use Rattle.ipam_block.specs.Operations.{node_bytes}
use Rattle.ipam_block_text.specs.Body.{stamps_data, block_body}
use Rattle.ipam_block_text.specs.Numbering.{borrowed}
use Rattle.ipam_block_text.specs.Parts.{block_parts}
use Rattle.ipam_block_text.specs.Stamps.{stamp_members}
use Rattle.ipam_block_text.proofs.Written.{parts_written}
use Rattle.ipam_block_text.proofs.print.block_text.Goals as goal

pub returns : goal.returns
unfolding block_body
returns c =
    let b = c.args.block.now in
    let uses = c.in_ok-uses.uses in
    parts_written (block_parts b) (stamps_data b.allocations) (string_bytes c.in_ok-out.out) (string_bytes c.push_holders.new.out) (string_bytes c.push_cidr_member.new.out) (string_bytes c.push_rest.new.out)
    (node_bytes c.node.result) uses.places.items (borrowed uses.attributes.items) uses.cidr c.sequence.result (compact_text (object (stamp_members c.as_slice.result.now))) c.as_slice-2.result.now
    c.in_ok-out.ensures.bytes c.node.ensures c.in_ok-uses.ensures.places c.in_ok-uses.ensures.attributes c.in_ok-uses.ensures.cidr c.sequence.ensures
    (ap (λ x. compact_text (object (stamp_members x))) c.as_slice.ensures.value ∙ ap compact_text (c.in_ok-stamps.ensures ∙ ap stamps_data c.allocations.ensures)) (c.as_slice-2.ensures.value ∙ c.in_ok-queue.ensures)
    c.in_ok-push_holders.ensures c.in_ok-push_cidr_member.ensures c.in_ok-push_rest.ensures
