use Rattle.std.proofs.Common.{◌∙◌, sym, rules, tests}
use Rattle.std.proofs.lemmas.Iterator.{YieldsList-from_slice}
use Rattle.std.proofs.lemmas.Iterator.Search.{position_from_yields_List}
use Rattle.ipam_words.specs.Kinds.{is_slash}
use Rattle.ipam_words.proofs.SlashLemmas.{before-at, before-none}
use Rattle.ipam_words.proofs.kind.word_before_slash.Goals as goal

pub returns-in-None : goal.returns-in-None
returns-in-None c =
    let found = position_from_yields_List is_slash _ _ c.position-end.result c.position-end.ensures.ran (YieldsList-from_slice _ c.iter.ensures.rest) (λ x b q k. search (rules, tests)) in
    sym (before-none c.args.key.now (sym found ∙ c.in-None.is))

pub returns-in-Some : goal.returns-in-Some
returns-in-Some c =
    let found = position_from_yields_List is_slash _ _ c.position-end.result c.position-end.ensures.ran (YieldsList-from_slice _ c.iter.ensures.rest) (λ x b q k. search (rules, tests)) in
    sym (before-at c.args.key.now c.in-Some.slash (sym found ∙ c.in-Some.is))
