use Rattle.std.proofs.Common.{◌≡◌, ap, sym, ◌∙◌, rules}
use Rattle.serde_json.specs.View.{members_view}
use Rattle.cni_types.specs.Configuration.{are_all_labels}
use Rattle.cni_types.proofs.Told.{labels_told, labels_many}
use Rattle.cni_types.proofs.labels.are_labels.Goals as goal

pub returns-then-not-are_few_members : goal.returns-then-not-are_few_members
returns-then-not-are_few_members c =
    labels_many _ _ _ c.in-Some.ensures c.in-Some-as_object.ensures (sym c.if-not-are_few_members.true ∙ c.are_few_members.ensures)

pub loop-key-init : goal.loop-key-init
loop-key-init c =
    let entries : c.into_iter-key-iterator.result ≡ c.in-Some-as_object.members.now.entries = search rules in
    ap (λ es. are_all_labels (members_view es)) entries
    ∙ labels_told _ _ _ c.in-Some.ensures c.in-Some-as_object.ensures (sym c.if-not-are_few_members.false ∙ c.are_few_members.ensures)
