use Rattle.std.proofs.Common.{◌∙◌, refl, string_bytes}
use Rattle.serde_json.specs.View.{view}
use Rattle.ipam_block.specs.Operations.{node_bytes}
use Rattle.ipam_block_text.specs.Numbering.{borrowed}
use Rattle.ipam_block_text.proofs.Written.{parts_written}
use Rattle.ipam_block_text.proofs.print.parts_text.Goals as goal

pub returns : goal.returns
returns c =
    let uses = c.in_ok-uses.uses in
    parts_written c.args.parts.now (view c.args.stamps.now) (string_bytes c.in_ok-out.out) (string_bytes c.push_holders.new.out) (string_bytes c.push_cidr_member.new.out) (string_bytes c.push_rest_with.new.out)
    (node_bytes c.name_of.result) uses.places.items (borrowed uses.attributes.items) uses.cidr c.args.parts.now.sequence c.as_str.result.now c.as_slice.result.now
    c.in_ok-out.ensures.bytes c.name_of.ensures c.in_ok-uses.ensures.places c.in_ok-uses.ensures.attributes c.in_ok-uses.ensures.cidr refl
    (c.as_str.ensures.value ∙ c.in_ok-stamps.ensures.text c.requires) c.as_slice.ensures
    c.in_ok-push_holders.ensures c.in_ok-push_cidr_member.ensures c.in_ok-push_rest_with.ensures
