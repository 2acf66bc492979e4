use Rattle.std.proofs.Common.{◌∙◌, ◌++◌, ◌<◌, ap, sym, List, ℕ, length, take, append_assoc, append-nil, arith}
use Rattle.std.specs.Prelude.{string_bytes}
use Rattle.ipam_answer_text.specs.Entries.{entry_line}
use Rattle.ipam_play.specs.Output.{journal_text}
use Rattle.ipam_play.proofs.Endings.{journal_push}
use Rattle.ipam_play.proofs.output.Output.take.Goals as goal

pub loop-entry-init : goal.loop-entry-init
unfolding journal_text
loop-entry-init c = sym (append-nil (string_bytes c.args.self.now.text))

pub loop-entry-preserved : goal.loop-entry-preserved
loop-entry-preserved c =
    let before = string_bytes c.args.self.now.text in
    let below : c.loop-entry.entry-index < length c.args.entries.now = omega arith in
    c.in_ok-push_entry.ensures.ok
    ∙ ap (λ (l : List ℕ). l ++ entry_line c.entry-item.result) c.loop-entry.invariant
    ∙ append_assoc before (journal_text (take c.loop-entry.entry-index c.args.entries.now)) (entry_line c.entry-item.result)
    ∙ ap (λ (l : List ℕ). before ++ l) (sym (journal_push c.args.entries.now c.loop-entry.entry-index c.entry-item.result below c.entry-item.is))
