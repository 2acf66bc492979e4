use Rattle.std.proofs.Common.{◌+◌, ◌∙◌, take, option_map, ap, sym, rules, tests}
use Rattle.std.proofs.lemmas.Iterator.{YieldsList-from_slice}
use Rattle.std.proofs.lemmas.Iterator.Search.{position_from_yields_List}
use Rattle.std.proofs.lemmas.List.{take_rest}
use Rattle.ipam_addr.specs.Text.{is_slash}
use Rattle.ipam_records.specs.KeyRef.{owned_key}
use Rattle.ipam_records.specs.KeyText.{affinity_of_parts}
use Rattle.ipam_records.proofs.KeyTextLemmas.{affinity_read-at, affinity_read-none, IfOk-along}
use Rattle.ipam_records.proofs.spelling.read_affinity.Goals as goal

pub returns-in-None : goal.returns-in-None
returns-in-None c =
    let found = position_from_yields_List is_slash _ _ c.position-slash.result c.position-slash.ensures.ran (YieldsList-from_slice _ c.iter.ensures.rest) (λ x b q k. search (rules, tests)) in
    sym (affinity_read-none c.args.text.now (sym found ∙ c.in-None.is))

pub returns-in-Some : goal.returns-in-Some
returns-in-Some c =
    let found = position_from_yields_List is_slash _ _ c.position-slash.result c.position-slash.ensures.ran (YieldsList-from_slice _ c.iter.ensures.rest) (λ x b q k. search (rules, tests)) in
    let at = affinity_read-at c.args.text.now c.in-Some.slash (sym found ∙ c.in-Some.is) in
    let rest = take_rest c.args.text.now (c.in-Some.slash + 1) in
    IfOk-along (option_map owned_key) c.read_affinity_parts.result _ _
    (ap (λ block. affinity_of_parts (take c.in-Some.slash c.args.text.now) block) rest ∙ sym at)
    c.read_affinity_parts.ensures
