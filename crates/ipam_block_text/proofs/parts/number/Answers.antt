use Rattle.std.proofs.Common.{◌≡◌, ◌∙◌, [], ◌∷◌, ◌++◌, Some, None, length, ap, sym, subst, rules}
use Rattle.std.specs.Prelude.{position}
use Rattle.std.specs.HashMap.{Updates}
use Rattle.std.proofs.lemmas.List.{map-append, length-map}
use Rattle.ipam_block_text.specs.Attributes.{are_same}
use Rattle.ipam_block_text.specs.Numbering.{borrowed}
use Rattle.ipam_block_text.proofs.Numbers.{found_index, there_already, new_with, new_index, numbering_more}
use Rattle.ipam_block_text.proofs.parts.number.Goals as goal

pub returns-in-Some-clause-index : goal.returns-in-Some-clause-index
returns-in-Some-clause-index c =
    found_index c.args.numbers.now (borrowed c.args.attributes.now.items) c.args.own.now _ c.requires c.in-Some.ensures.value

pub returns-in-Some-clause-attributes : goal.returns-in-Some-clause-attributes
returns-in-Some-clause-attributes c =
    sym (there_already (borrowed c.args.attributes.now.items) c.args.own.now _ (returns-in-Some-clause-index c))

none : (c : goal.In-Ok) → position (are_same c.args.own.now) (borrowed c.args.attributes.now.items) ≡ None
none c =
    found_index c.args.numbers.now (borrowed c.args.attributes.now.items) c.args.own.now _ c.requires c.in_default.ensures.value

pushed : (c : goal.In-Ok) → borrowed c.push.new.self.items ≡ borrowed c.args.attributes.now.items ++ c.args.own.now ∷ []
pushed c = ap borrowed c.in_ok-push.ensures.items ∙ map-append (λ a. a.now) c.args.attributes.now.items (c.args.own ∷ [])

counted : (c : goal.In-Ok) → c.len-index.result ≡ length (borrowed c.args.attributes.now.items)
counted c =
    let same = length-map c.args.attributes.now.items (λ a. a.now) in
    let found : c.len-index.result ≡ length c.args.attributes.now.items = search rules in
    found ∙ sym same

pub returns-in-Ok-clause-numbering : goal.returns-in-Ok-clause-numbering
returns-in-Ok-clause-numbering c =
    let updates = subst (λ n. Updates are_same c.args.numbers.now c.insert.new.self c.args.own.now (Some n)) (counted c) c.in-Ok.ensures.updates in
    numbering_more c.args.numbers.now c.insert.new.self (borrowed c.args.attributes.now.items) (borrowed c.push.new.self.items) c.args.own.now c.requires (none c) updates (pushed c)

pub returns-in-Ok-clause-attributes : goal.returns-in-Ok-clause-attributes
returns-in-Ok-clause-attributes c = new_with (borrowed c.args.attributes.now.items) (borrowed c.push.new.self.items) c.args.own.now (none c) (pushed c)

pub returns-in-Ok-clause-index : goal.returns-in-Ok-clause-index
returns-in-Ok-clause-index c =
    ap (position (are_same c.args.own.now)) (pushed c)
    ∙ new_index (borrowed c.args.attributes.now.items) c.args.own.now (none c)
    ∙ ap Some (sym (counted c))
