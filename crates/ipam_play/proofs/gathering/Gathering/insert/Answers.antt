use Rattle.std.proofs.Common.{refl, rules}
use Rattle.std.proofs.lemmas.Result.{err_from_is_err_and}
use Rattle.ipam_play.proofs.Endings.{on_err}
use Rattle.ipam_play.proofs.Gatherings.{inserted}
use Rattle.ipam_play.proofs.gathering.Gathering.insert.Goals as goal

pub returns-clause-rows : goal.returns-clause-rows
returns-clause-rows c = inserted c.args.self.now.rows c.insert.new.self c.args.row.now _ _ (search rules) (search rules) c.in_ok-insert.ensures.entries c.requires

pub returns-clause-counter : goal.returns-clause-counter
returns-clause-counter c = c.raised-self.ensures

pub returns-clause-from : goal.returns-clause-from
returns-clause-from c = refl

pub returns-clause-rows_kept : goal.returns-clause-rows_kept
returns-clause-rows_kept c = tt

pub returns-clause-counter_kept : goal.returns-clause-counter_kept
returns-clause-counter_kept c = tt

pub returns-in_err-key-clause-rows : goal.returns-in_err-key-clause-rows
returns-in_err-key-clause-rows c = let p = err_from_is_err_and c.from_residual.result c.from_residual.ensures.1 in rw p.1 tt

pub returns-in_err-key-clause-counter : goal.returns-in_err-key-clause-counter
returns-in_err-key-clause-counter c = let p = err_from_is_err_and c.from_residual.result c.from_residual.ensures.1 in rw p.1 tt

pub returns-in_err-key-clause-from : goal.returns-in_err-key-clause-from
returns-in_err-key-clause-from c = refl

pub returns-in_err-key-clause-rows_kept : goal.returns-in_err-key-clause-rows_kept
returns-in_err-key-clause-rows_kept c = on_err c.from_residual.result refl

pub returns-in_err-key-clause-counter_kept : goal.returns-in_err-key-clause-counter_kept
returns-in_err-key-clause-counter_kept c = on_err c.from_residual.result refl

pub returns-in_err-copied-clause-rows : goal.returns-in_err-copied-clause-rows
returns-in_err-copied-clause-rows c = let p = err_from_is_err_and c.from_residual-in_err-copied.result c.from_residual-in_err-copied.ensures.1 in rw p.1 tt

pub returns-in_err-copied-clause-counter : goal.returns-in_err-copied-clause-counter
returns-in_err-copied-clause-counter c = let p = err_from_is_err_and c.from_residual-in_err-copied.result c.from_residual-in_err-copied.ensures.1 in rw p.1 tt

pub returns-in_err-copied-clause-from : goal.returns-in_err-copied-clause-from
returns-in_err-copied-clause-from c = refl

pub returns-in_err-copied-clause-rows_kept : goal.returns-in_err-copied-clause-rows_kept
returns-in_err-copied-clause-rows_kept c = on_err c.from_residual-in_err-copied.result refl

pub returns-in_err-copied-clause-counter_kept : goal.returns-in_err-copied-clause-counter_kept
returns-in_err-copied-clause-counter_kept c = on_err c.from_residual-in_err-copied.result refl

pub returns-in_err-insert-clause-rows : goal.returns-in_err-insert-clause-rows
returns-in_err-insert-clause-rows c = let p = err_from_is_err_and c.from_residual-in_err-insert.result c.from_residual-in_err-insert.ensures.1 in rw p.1 tt

pub returns-in_err-insert-clause-counter : goal.returns-in_err-insert-clause-counter
returns-in_err-insert-clause-counter c = let p = err_from_is_err_and c.from_residual-in_err-insert.result c.from_residual-in_err-insert.ensures.1 in rw p.1 tt

pub returns-in_err-insert-clause-from : goal.returns-in_err-insert-clause-from
returns-in_err-insert-clause-from c = refl

pub returns-in_err-insert-clause-counter_kept : goal.returns-in_err-insert-clause-counter_kept
returns-in_err-insert-clause-counter_kept c = on_err c.from_residual-in_err-insert.result refl
