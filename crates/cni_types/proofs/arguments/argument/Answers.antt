use Rattle.std.proofs.Common.{◌∙◌, sym, ap, arith, rules}
use Rattle.std.proofs.lemmas.Str.Pattern.{split_parts}
use Rattle.cni_types.specs.Environment.{items_of, argument_from}
use Rattle.cni_types.proofs.ArgumentItems.{argument-first, argument-one}
use Rattle.cni_types.proofs.arguments.argument.Goals as goal

pub items-preserved : goal.items-preserved
items-preserved c =
    let l = c.items in
    let cut = rw c.in-Some.is at (split_parts 59 l.rest.now c.split_once.result c.split_once.ensures.cases (omega arith)) in
    let key = c.args.key.now in
    record {
      same =
          ap (λ found. argument_from key found (items_of c.in-Some.more.now)) c.value_or-found.ensures
          ∙ sym (argument-first key l.found.now l.rest.now c.in-Some.item.now c.in-Some.more.now cut.0 cut.1)
          ∙ l.invariant.same;
      rest_utf8 = search rules;
      found_utf8 = c.value_or-found.utf8;
    }

pub returns : goal.returns
returns c =
    let l = c.items in
    let none = rw c.in_default.is at (split_parts 59 l.rest.now c.split_once.result c.split_once.ensures.cases (omega arith)) in
    c.value_or.ensures ∙ sym (argument-one c.args.key.now l.found.now l.rest.now none) ∙ l.invariant.same
