use Rattle.std.proofs.Common.{◌+◌, Ok, refl, ap, sym, ◌∙◌}
use Rattle.std.proofs.lemmas.List.{drop_all}
use Rattle.serde_json.specs.View.{items_view}
use Rattle.cni_types.specs.Reading.{◌>>◌}
use Rattle.cni_types.specs.Configuration.{attachment_tested, attachments_tested_from, attachment_items_tested}
use Rattle.ipam_json.proofs.Steps.{next_read}
use Rattle.cni_types.proofs.configuration.test_attachments.Goals as goal

pub loop-index-preserved : goal.loop-index-preserved
loop-index-preserved c =
    let i = c.loop-index.index in
    next_read (attachment_tested i) (attachments_tested_from i) (λ tested ds. tested >> attachments_tested_from (i + 1) ds) c.in-Some.items.now i _ (Ok tt) _ (λ d ds. refl) c.index-items-index.is c.loop-index-test.true c.in_ok-test_attachment.ensures c.loop-index.invariant

pub returns : goal.returns
returns c = ap (λ left. attachments_tested_from c.loop-index.index (items_view left)) (sym (drop_all _ c.in-Some.items.now c.loop-index-test.false)) ∙ c.loop-index.invariant ∙ ap attachment_items_tested c.in-Some.ensures.items
