use Rattle.std.proofs.Common.{length, refl, rules}
use Rattle.ipam_operator.specs.Backing.{Failed, NoRoom, Saved, saved_line}
use Rattle.ipam_operator.proofs.backing.back_up.Goals as goal

pub returns-in-Ok-clause-told : goal.returns-in-Ok-clause-told
returns-in-Ok-clause-told g c =
    Saved c.in-Ok.ensures.closed c.in-Ok.ensures.filled c.in-Ok.ensures.settled c.in-Ok.ensures.no_fault (c.tell_made.ensures.written (saved_line (length c.args.rows.now)) (search rules))

pub returns-in-Err-Failed-clause-told : goal.returns-in-Err-Failed-clause-told
returns-in-Err-Failed-clause-told g c = Failed (search rules) c.tell.ensures.written

pub returns-in-Err-Memory-clause-told : goal.returns-in-Err-Memory-clause-told
returns-in-Err-Memory-clause-told g c = NoRoom (search rules) refl refl refl
