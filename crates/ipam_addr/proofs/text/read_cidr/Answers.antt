use Rattle.std.proofs.Common.{◌+◌, ◌∙◌, take, ap, sym, rules, tests}
use Rattle.std.proofs.lemmas.Iterator.{YieldsList-from_slice}
use Rattle.std.proofs.lemmas.Iterator.Search.{position_from_yields_List}
use Rattle.std.proofs.lemmas.List.{take_rest}
use Rattle.ipam_addr.specs.Text.{is_slash, address_of, prefix_of, cidr_from_parts}
use Rattle.ipam_addr.proofs.CidrTextLemmas.{cidr_reading-at, cidr_reading-no_slash, when_text, when_made, when_spelled}
use Rattle.ipam_addr.proofs.text.read_cidr.Goals as goal

pub returns-in-Some-clause-value : goal.returns-in-Some-clause-value
returns-in-Some-clause-value c =
    let found = position_from_yields_List is_slash _ _ c.position-slash.result c.position-slash.ensures.ran (YieldsList-from_slice _ c.iter.ensures.rest) (λ x b q k. search (rules, tests)) in
    let at = cidr_reading-at c.args.text.now c.in-Some.slash (sym found ∙ c.in-Some.is) in
    let rest = take_rest c.args.text.now (c.in-Some.slash + 1) in
    c.read_parts.ensures
    ∙ ap (λ digits. cidr_from_parts (address_of (take c.in-Some.slash c.args.text.now)) (prefix_of digits)) rest
    ∙ sym at

pub returns-in-Some-clause-text : goal.returns-in-Some-clause-text
returns-in-Some-clause-text c = when_text c.args.text.now c.read_parts.result (returns-in-Some-clause-value c)

pub returns-in-Some-clause-made : goal.returns-in-Some-clause-made
returns-in-Some-clause-made c = when_made c.args.text.now c.read_parts.result (returns-in-Some-clause-value c)

pub returns-in-Some-clause-spelled : goal.returns-in-Some-clause-spelled
returns-in-Some-clause-spelled c = when_spelled c.args.text.now c.read_parts.result (returns-in-Some-clause-value c)

pub returns-in-None-clause-value : goal.returns-in-None-clause-value
returns-in-None-clause-value c =
    let found = position_from_yields_List is_slash _ _ c.position-slash.result c.position-slash.ensures.ran (YieldsList-from_slice _ c.iter.ensures.rest) (λ x b q k. search (rules, tests)) in
    sym (cidr_reading-no_slash c.args.text.now (sym found ∙ c.in-None.is))

pub returns-in-None-clause-text : goal.returns-in-None-clause-text
returns-in-None-clause-text c = when_text c.args.text.now _ (returns-in-None-clause-value c)

pub returns-in-None-clause-made : goal.returns-in-None-clause-made
returns-in-None-clause-made c = when_made c.args.text.now _ (returns-in-None-clause-value c)
