use Rattle.std.proofs.Common.{◌++◌, ◌∙◌, ap, subst}
use Rattle.std.specs.Net.Text.{ipv4_text, hex_groups_text}
use Rattle.ipam_addr.specs.Shape.{AddrValue}
use Rattle.ipam_addr.specs.Width.{IsAddress}
use Rattle.ipam_addr.specs.Text.{address_text}
use Rattle.ipam_addr.proofs.PrintLemmas.{ipv4_text-of_bits, hex_groups_text-of_bits, address_of-address_text}
use Rattle.ipam_addr.proofs.buffer.TextBuffer.push_addr.Goals as goal

pub returns-in-V4-clause-text : goal.returns-in-V4-clause-text
returns-in-V4-clause-text c =
    let a : AddrValue = record { family = c.addr.inside.family; number = c.addr.inside.number } in
    let shown = ap ipv4_text c.octets.ensures ∙ ipv4_text-of_bits a c.from_bits.result c.in-V4.is c.from_bits.ensures ∙ ap address_text c.addr.view_is in
    c.push_octets.ensures.text ∙ ap (λ t. c.args.self.now ++ t) shown

pub returns-in-V6-clause-text : goal.returns-in-V6-clause-text
returns-in-V6-clause-text c =
    let a : AddrValue = record { family = c.addr.inside.family; number = c.addr.inside.number } in
    let shown = ap hex_groups_text c.segments.ensures ∙ hex_groups_text-of_bits a c.from_bits-in-V6.result c.in-V6.is c.from_bits-in-V6.ensures ∙ ap address_text c.addr.view_is in
    c.push_segments.ensures.text ∙ ap (λ t. c.args.self.now ++ t) shown

pub returns-in-V4-clause-reads_back : goal.returns-in-V4-clause-reads_back
returns-in-V4-clause-reads_back c = address_of-address_text c.args.addr (subst IsAddress c.addr.view_is c.addr.invariant)

pub returns-in-V6-clause-reads_back : goal.returns-in-V6-clause-reads_back
returns-in-V6-clause-reads_back c = address_of-address_text c.args.addr (subst IsAddress c.addr.view_is c.addr.invariant)
