use Rattle.std.proofs.Common.{◌∙◌, sym, arith, rules}
use Rattle.std.proofs.lemmas.Str.Pattern.{split_parts}
use Rattle.cni_types.proofs.ArgumentItems.{all-bad, all-good, all-one}
use Rattle.cni_types.proofs.arguments.are_items.Goals as goal

pub returns-then-not-is_argument : goal.returns-then-not-is_argument
returns-then-not-is_argument c =
    let l = c.items in
    let cut = rw c.in-Some.is at (split_parts 59 l.rest.now c.split_once.result c.split_once.ensures.cases (omega arith)) in
    sym (l.invariant.same ∙ all-bad l.rest.now c.in-Some.item.now c.in-Some.more.now cut.0 cut.1 (sym c.is_argument.ensures ∙ c.if-not-is_argument.true))

pub items-preserved : goal.items-preserved
items-preserved c =
    let l = c.items in
    let cut = rw c.in-Some.is at (split_parts 59 l.rest.now c.split_once.result c.split_once.ensures.cases (omega arith)) in
    record {
      same = l.invariant.same ∙ all-good l.rest.now c.in-Some.item.now c.in-Some.more.now cut.0 cut.1 (sym c.is_argument.ensures ∙ c.if-not-is_argument.false);
      utf8 = search rules;
    }

pub returns : goal.returns
returns c =
    let l = c.items in
    let none = rw c.in_default.is at (split_parts 59 l.rest.now c.split_once.result c.split_once.ensures.cases (omega arith)) in
    c.is_argument-2.ensures ∙ sym (l.invariant.same ∙ all-one l.rest.now none)
