use Rattle.std.proofs.Common.{◌≡◌, None, option_and_then, sym, ap, ◌∙◌, arith, rules}
use Rattle.std.proofs.lemmas.Str.Pattern.{split_parts}
use Rattle.serde_json.specs.View.{view}
use Rattle.ipam_json.specs.Path.{follow, names_of}
use Rattle.ipam_json.proofs.PathLemmas.{follow_first, follow_last, at_path_names}
use Rattle.ipam_json.proofs.path.find.Goals as goal

pub names-init : goal.names-init
names-init c = record { same = at_path_names c.args.path.now (view c.args.value.now) (grind arith); utf8 = c.utf8.path }

pub returns-in_err-target : goal.returns-in_err-target
returns-in_err-target c =
    let l = c.names in
    let cut = rw c.in-Some.is at (split_parts 46 l.rest.now c.split_once.result c.split_once.ensures.cases (omega arith)) in
    let gone : c.from_residual.result ≡ None = grind arith in
    let turn = l.invariant.same ∙ ap (λ s. follow (names_of s) (view l.target.now)) cut.0 ∙ follow_first _ _ (view l.target.now) cut.1 in
    rw gone (sym (turn ∙ ap (option_and_then (follow (names_of c.in-Some.more.now))) (sym c.in_err-target.ensures)))

pub names-preserved : goal.names-preserved
names-preserved c =
    let l = c.names in
    let cut = rw c.in-Some.is at (split_parts 46 l.rest.now c.split_once.result c.split_once.ensures.cases (omega arith)) in
    let turn = l.invariant.same ∙ ap (λ s. follow (names_of s) (view l.target.now)) cut.0 ∙ follow_first _ _ (view l.target.now) cut.1 in
    record { same = turn ∙ ap (option_and_then (follow (names_of c.in-Some.more.now))) (sym c.in_ok-target.ensures); utf8 = search rules }

pub returns : goal.returns
returns c =
    let l = c.names in
    let none = rw c.in_default.is at (split_parts 46 l.rest.now c.split_once.result c.split_once.ensures.cases (omega arith)) in
    c.step-2.ensures ∙ sym (l.invariant.same ∙ follow_last l.rest.now (view l.target.now) none)
