use Rattle.std.proofs.Common.{ap, sym, ◌∙◌}
use Rattle.std.specs.Option.{ok_or}
use Rattle.ipam_addr.specs.declared.cidrs.AddrFault.TheVariants.{Text}
use Rattle.ipam_addr.proofs.TextLemmas.{address_of-spelled, address_of-none, v4_spelled, v6_spelled, none_spelled}
use Rattle.ipam_addr.proofs.text.read_addr.Goals as goal

pub returns-in-Ok-clause-exact : goal.returns-in-Ok-clause-exact
returns-in-Ok-clause-exact c = v4_spelled c.args.text.now c.in-Ok.ip c.from.result c.in-Ok.ensures (c.from.ensures ∙ c.to_bits.ensures)

pub returns-in-Ok-clause-value : goal.returns-in-Ok-clause-value
returns-in-Ok-clause-value c =
    let spelled = v4_spelled c.args.text.now c.in-Ok.ip c.from.result c.in-Ok.ensures (c.from.ensures ∙ c.to_bits.ensures) in
    sym (ap (λ o. ok_or o Text) (address_of-spelled c.args.text.now _ spelled))

pub returns-in-Ok-parse_ascii-clause-exact : goal.returns-in-Ok-parse_ascii-clause-exact
returns-in-Ok-parse_ascii-clause-exact c = v6_spelled c.args.text.now c.in-Ok-parse_ascii.ip _ c.in-Ok-parse_ascii.ensures c.to_bits-in-Ok-parse_ascii.ensures

pub returns-in-Ok-parse_ascii-clause-value : goal.returns-in-Ok-parse_ascii-clause-value
returns-in-Ok-parse_ascii-clause-value c =
    let spelled = v6_spelled c.args.text.now c.in-Ok-parse_ascii.ip _ c.in-Ok-parse_ascii.ensures c.to_bits-in-Ok-parse_ascii.ensures in
    sym (ap (λ o. ok_or o Text) (address_of-spelled c.args.text.now _ spelled))

pub returns-in-Err-clause-exact : goal.returns-in-Err-clause-exact
returns-in-Err-clause-exact c = none_spelled c.args.text.now c.in_default.ensures c.in-Err.ensures

pub returns-in-Err-clause-value : goal.returns-in-Err-clause-value
returns-in-Err-clause-value c =
    let none = none_spelled c.args.text.now c.in_default.ensures c.in-Err.ensures in
    sym (ap (λ o. ok_or o Text) (address_of-none c.args.text.now none))
