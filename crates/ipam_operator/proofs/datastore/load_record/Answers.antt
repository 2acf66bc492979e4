use Rattle.std.proofs.Common.{◌≤◌, Some, length, sym, ap, ◌∙◌, subst, rules}
use Rattle.ipam_records.specs.Datastore.{Datastore, most_blocks}
use Rattle.ipam_show.specs.Kept.{blocks_kept}
use Rattle.ipam_operator.proofs.Counted.{few_still}
use Rattle.ipam_operator.proofs.Loaded.{none_there, with_other, with_place}
use Rattle.ipam_operator.proofs.datastore.load_record.Goals as goal

pub load-requires-clause-sound : goal.load-requires-clause-sound
load-requires-clause-sound c = rw c.requires.counter (c.may_load.ensures.sound (search rules))

pub load-requires-clause-room : goal.load-requires-clause-room
load-requires-clause-room c = c.may_load.ensures.room (search rules)

pub returns-in-Ok : goal.returns-in-Ok
returns-in-Ok c =
    let none = none_there c.args.found c.args.store.now.store (λ some. absurd (cc (c.in-Ok.ensures.there.1 some))) in
    record {
      store = ap Some c.in-Ok.ensures.ok ∙ with_place c.args.revision c.args.found c.args.store.now.store (search rules) none;
      counter = ap (λ (s : Datastore). s.counter) c.in-Ok.ensures.ok ∙ c.requires.counter;
      few = subst (λ (s : Datastore). length (blocks_kept s) ≤ most_blocks) (sym c.in-Ok.ensures.ok)
          (few_still c.args.store.now.store c.args.revision c.args.found (c.may_load.ensures.room (search rules)) none c.requires.few);
    }

pub returns-in-Err-There-clause-store : goal.returns-in-Err-There-clause-store
returns-in-Err-There-clause-store c = with_other c.args.revision c.args.found c.args.store.now.store (search rules) (search rules)
