use Rattle.std.proofs.Common.{◌∙◌, sym, arith, rules, tests}
use Rattle.std.proofs.lemmas.Iterator.{YieldsList-from_slice}
use Rattle.std.proofs.lemmas.Iterator.Search.{all_from_yields_List}
use Rattle.ipam_addr.specs.Names.{is_name_byte}
use Rattle.ipam_addr.proofs.WordLemmas.{is_word_text_from}
use Rattle.ipam_addr.proofs.names.is_name_within.Goals as goal

pub returns-then-text-most : goal.returns-then-text-most
returns-then-text-most c =
    let (front, fits) = c.if-text-most.true in
    let first = sym c.is_ascii_alphanumeric.ensures.value ∙ front in
    let all = all_from_yields_List is_name_byte _ _ c.all.result c.all.ensures.ran (YieldsList-from_slice _ c.iter.ensures.rest) (λ x b q k. search (rules, tests)) in
    is_word_text_from _ c.args.text.now c.all.result (omega arith) first fits all
