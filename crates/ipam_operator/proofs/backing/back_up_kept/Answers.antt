use Rattle.std.proofs.Common.{refl, rules}
use Rattle.ipam_operator.specs.Backing.{LoadFailed, Loaded, Unloaded}
use Rattle.ipam_operator.proofs.backing.back_up_kept.Goals as goal

pub returns-in-Ok-clause-told : goal.returns-in-Ok-clause-told
returns-in-Ok-clause-told g c =
    Loaded c.in-Ok.rows.items c.in-Ok.ensures.told c.in-Ok.ensures.no_fault (rw c.as_slice.ensures.value at c.back_up.ensures.told)

pub returns-in-Err-Failed-clause-told : goal.returns-in-Err-Failed-clause-told
returns-in-Err-Failed-clause-told g c = LoadFailed (search rules) (record { rows = refl; settled = refl; faults = refl }) c.tell.ensures.written

pub returns-in-Err-Memory-clause-told : goal.returns-in-Err-Memory-clause-told
returns-in-Err-Memory-clause-told g c = Unloaded (search rules) (record { rows = refl; settled = refl; faults = refl }) refl refl refl
