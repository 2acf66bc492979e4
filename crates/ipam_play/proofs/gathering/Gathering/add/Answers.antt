use Rattle.std.proofs.Common.{refl, sym, ◌∙◌}
use Rattle.ipam_play.proofs.Gatherings.{gathers_row, gathers_same, key_given, memory_not_again, not_again, ok_not_again}
use Rattle.ipam_play.proofs.gathering.Gathering.add.Goals as goal

pub returns-then-contains_key-clause-again : goal.returns-then-contains_key-clause-again
returns-then-contains_key-clause-again c = λ gathered h.
    (λ e. sym (key_given c.args.self.now.rows gathered.rows c.args.row.now.key h.same_rows) ∙ sym c.contains_key.ensures ∙ c.if-contains_key.true, λ e. refl)

pub returns-in-Ok-clause-again : goal.returns-in-Ok-clause-again
returns-in-Ok-clause-again c = λ gathered h.
    not_again _ c.args.self.now.rows gathered.rows c.args.row.now.key c.contains_key.result h.same_rows c.contains_key.ensures c.if-contains_key.false (ok_not_again _)

pub returns-in-Err-clause-again : goal.returns-in-Err-clause-again
returns-in-Err-clause-again c = λ gathered h.
    not_again _ c.args.self.now.rows gathered.rows c.args.row.now.key c.contains_key.result h.same_rows c.contains_key.ensures c.if-contains_key.false (memory_not_again _ refl)

pub returns-in-Ok-clause-added : goal.returns-in-Ok-clause-added
returns-in-Ok-clause-added c = λ gathered h. gathers_row _ _ gathered _ h c.in-Ok.ensures.rows c.in-Ok.ensures.counter c.insert.ensures.from

pub returns-in-Err-clause-unchanged : goal.returns-in-Err-clause-unchanged
returns-in-Err-clause-unchanged c = λ gathered h. gathers_same _ _ gathered h c.in-Err.ensures.rows_kept c.in-Err.ensures.counter_kept c.insert.ensures.from
