use Rattle.std.proofs.Common.{◌≡◌, inl, inr, Option, refl, sym, ap, ◌∙◌, subst}
use Rattle.std.specs.Option.{option_copied}
use Rattle.ipam_records.specs.declared.call.Write.{Write}
use Rattle.ipam_records.specs.Datastore.{Datastore}
use Rattle.ipam_store.specs.Shape.{StoreValue}
use Rattle.ipam_store.specs.Follows.{Follows}
use Rattle.ipam_shared.specs.Feed.{counter_with, with_write}
use Rattle.ipam_shared.specs.Giving.{FailsWith, SettlesGiven, StayKept, WereGiven}
use Rattle.ipam_keeper.specs.declared.keeper.KeepFault.TheVariants.{Failed, Memory}
use Rattle.ipam_shared.proofs.FedStanding.{feeds-done, feeds-failed, ready-next, stays-fed}
use Rattle.ipam_shared.proofs.Given.{failed-of, memory-of}
use Rattle.ipam_shared.proofs.Standing.{in-doubt, keeps-done, keeps-failed, stays}
use Rattle.ipam_shared.proofs.SureStanding.{made-sure, unmade-sure}
use Rattle.ipam_shared.proofs.kept.Kept.make.Goals as goal

pub prepare-requires : goal.prepare-requires
prepare-requires g c = record { next = ready-next g.D.Keeper.rows c.args.self.now c.args.prepared c.requires.kept c.requires.prepared (option_copied c.write.result) c.write.ensures }

pub returns-in_default-clause-unchanged : goal.returns-in_default-clause-unchanged
returns-in_default-clause-unchanged g c =
    let old = c.args.self.now in
    stays g.D.Keeper.rows old (record { cluster = old.cluster; keeper = old.keeper; doubt = old.doubt; ring = c.prepare.new.ring; settled = c.args.self.now.settled }) (record { store = refl; entries = refl; slots = λ slot. refl })
    (λ sound are. are) (inl refl) c.prepare.ensures.counter

pub returns-in_default-clause-still_fed : goal.returns-in_default-clause-still_fed
returns-in_default-clause-still_fed g c =
    let old = c.args.self.now in
    stays-fed g.D.Keeper.rows old (record { cluster = old.cluster; keeper = old.keeper; doubt = old.doubt; ring = c.prepare.new.ring; settled = c.args.self.now.settled }) (returns-in_default-clause-unchanged g c) c.prepare.ensures.follows

pub push-requires : goal.push-requires
push-requires g c = λ one is. c.in-Ok.ensures.prepared one (c.write.ensures ∙ (sym c.write-in-Ok-give.ensures ∙ is))

pub returns-in-Ok-give-clause-keeps : goal.returns-in-Ok-give-clause-keeps
returns-in-Ok-give-clause-keeps g c =
    let old = c.args.self.now in
    let tells = g.D.Keeper.rows in
    let store : c.store.result.now.store ≡ old.cluster.store.store = ap (λ (s : StoreValue). s.store) c.store.ensures in
    let given = subst (λ (s : Datastore). WereGiven c.args.prepared.write s (tells old.keeper) old.doubt (tells c.give.new.keeper)) store
    (subst (λ (w : Option Write). WereGiven w c.store.result.now.store (tells old.keeper) old.doubt (tells c.give.new.keeper)) c.write-2.ensures c.in-Ok-give.ensures.given) in
    let counter = subst (λ (w : Option Write). c.push.new.ring.counter ≡ counter_with w c.prepare.new.ring.counter) c.write-in-Ok-give.ensures c.push.ensures.counter ∙ ap (counter_with c.args.prepared.write) c.prepare.ensures.counter in
    keeps-done tells old (record { cluster = c.commit.new.self; keeper = c.give.new.keeper; doubt = c.give.new.doubt; ring = c.push.new.ring; settled = c.args.self.now.settled }) c.args.prepared c.requires.prepared c.commit.result c.commit.ensures.adds
    c.commit.ensures.entry c.commit.ensures.store given c.in-Ok-give.ensures.sure counter

pub returns-in-Ok-give-clause-feeds : goal.returns-in-Ok-give-clause-feeds
returns-in-Ok-give-clause-feeds g c =
    feeds-done g.D.Keeper.rows c.args.self.now (record { cluster = c.commit.new.self; keeper = c.give.new.keeper; doubt = c.give.new.doubt; ring = c.push.new.ring; settled = c.args.self.now.settled }) c.args.prepared c.requires.prepared c.commit.result
    (returns-in-Ok-give-clause-keeps g c) c.commit.ensures.entry
    (λ base writes h. subst (λ (w : Option Write). Follows c.push.new.ring base (with_write w writes)) c.write-in-Ok-give.ensures (c.push.ensures.follows base writes (c.prepare.ensures.follows base writes h)))

pub returns-in-Ok-give-clause-sure : goal.returns-in-Ok-give-clause-sure
returns-in-Ok-give-clause-sure g c =
    let old = c.args.self.now in
    let tells = g.D.Keeper.rows in
    let sure = g.D.Keeper.settled in
    let store : c.store.result.now.store ≡ old.cluster.store.store = ap (λ (s : StoreValue). s.store) c.store.ensures in
    let given = subst (λ (s : Datastore). SettlesGiven s (tells old.keeper) old.doubt (sure old.keeper) (sure c.give.new.keeper) (tells c.give.new.keeper)) store c.give.ensures.settled in
    made-sure tells sure old (record { cluster = c.commit.new.self; keeper = c.give.new.keeper; doubt = c.give.new.doubt; ring = c.push.new.ring; settled = old.settled }) refl given c.commit.result (returns-in-Ok-give-clause-keeps g c)

pub returns-in-Err-Failed-clause-turned : goal.returns-in-Err-Failed-clause-turned
returns-in-Err-Failed-clause-turned g c =
    let old = c.args.self.now in
    let store : c.store.result.now.store ≡ old.cluster.store.store = ap (λ (s : StoreValue). s.store) c.store.ensures in
    let failed : c.in-Err-Failed.field-0 ≡ Failed = cc (c.in-Err-Failed.field-0-is) in
    let fails = subst (λ (s : Datastore). FailsWith g.D.Keeper.given c.args.prepared.write s old.doubt c.give.new.doubt old.keeper c.give.new.keeper) store
    (subst (λ (w : Option Write). FailsWith g.D.Keeper.given w c.store.result.now.store old.doubt c.give.new.doubt old.keeper c.give.new.keeper) c.write-2.ensures (failed-of c.in-Err-Failed.field-0 failed c.in-Err-Failed.ensures.failed)) in
    inr (record {
      turn = c.commit-in-Err-Failed.ensures.entry;
      fault = failed-of c.in-Err-Failed.field-0 failed c.in-Err-Failed.ensures.fault;
      doubt = in-doubt g.D.Keeper.rows old (record { cluster = c.commit-in-Err-Failed.new.self; keeper = c.give.new.keeper; doubt = c.give.new.doubt; ring = c.prepare.new.ring; settled = c.args.self.now.settled }) c.args.prepared c.requires.prepared c.commit-in-Err-Failed.result c.commit-in-Err-Failed.ensures.adds
          g.D.Keeper.given c.requires.kept c.commit-in-Err-Failed.ensures.entry fails;
    })

pub returns-in-Err-Failed-clause-keeps : goal.returns-in-Err-Failed-clause-keeps
returns-in-Err-Failed-clause-keeps g c =
    let old = c.args.self.now in
    let tells = g.D.Keeper.rows in
    let store : c.store.result.now.store ≡ old.cluster.store.store = ap (λ (s : StoreValue). s.store) c.store.ensures in
    let kept = subst (λ (s : Datastore). StayKept s (tells old.keeper) old.doubt (tells c.give.new.keeper) c.give.new.doubt) store c.in-Err-Failed.ensures.kept in
    let failed : c.in-Err-Failed.field-0 ≡ Failed = cc (c.in-Err-Failed.field-0-is) in
    let fails = subst (λ (s : Datastore). FailsWith g.D.Keeper.given c.args.prepared.write s old.doubt c.give.new.doubt old.keeper c.give.new.keeper) store
    (subst (λ (w : Option Write). FailsWith g.D.Keeper.given w c.store.result.now.store old.doubt c.give.new.doubt old.keeper c.give.new.keeper) c.write-2.ensures (failed-of c.in-Err-Failed.field-0 failed c.in-Err-Failed.ensures.failed)) in
    keeps-failed tells old (record { cluster = c.commit-in-Err-Failed.new.self; keeper = c.give.new.keeper; doubt = c.give.new.doubt; ring = c.prepare.new.ring; settled = c.args.self.now.settled }) c.args.prepared c.requires.prepared c.commit-in-Err-Failed.result c.commit-in-Err-Failed.ensures.adds
    g.D.Keeper.given c.commit-in-Err-Failed.ensures.entry c.commit-in-Err-Failed.ensures.store kept fails c.prepare.ensures.counter

pub returns-in-Err-Failed-clause-feeds : goal.returns-in-Err-Failed-clause-feeds
returns-in-Err-Failed-clause-feeds g c =
    feeds-failed g.D.Keeper.rows c.args.self.now (record { cluster = c.commit-in-Err-Failed.new.self; keeper = c.give.new.keeper; doubt = c.give.new.doubt; ring = c.prepare.new.ring; settled = c.args.self.now.settled }) c.args.prepared c.requires.prepared c.commit-in-Err-Failed.result
    (returns-in-Err-Failed-clause-keeps g c) c.commit-in-Err-Failed.ensures.entry c.prepare.ensures.follows

pub returns-in-Err-Failed-clause-sure : goal.returns-in-Err-Failed-clause-sure
returns-in-Err-Failed-clause-sure g c =
    let old = c.args.self.now in
    let tells = g.D.Keeper.rows in
    let sure = g.D.Keeper.settled in
    let store : c.store.result.now.store ≡ old.cluster.store.store = ap (λ (s : StoreValue). s.store) c.store.ensures in
    let given = subst (λ (s : Datastore). SettlesGiven s (tells old.keeper) old.doubt (sure old.keeper) (sure c.give.new.keeper) (tells c.give.new.keeper)) store c.give.ensures.settled in
    made-sure tells sure old (record { cluster = c.commit-in-Err-Failed.new.self; keeper = c.give.new.keeper; doubt = c.give.new.doubt; ring = c.prepare.new.ring; settled = old.settled }) refl given c.commit-in-Err-Failed.result (returns-in-Err-Failed-clause-keeps g c)

pub returns-in-Err-Memory-clause-unchanged : goal.returns-in-Err-Memory-clause-unchanged
returns-in-Err-Memory-clause-unchanged g c =
    let old = c.args.self.now in
    let memory : c.in-Err-Memory.field-0 ≡ Memory = cc (c.in-Err-Memory.field-0-is) in
    let tells = g.D.Keeper.rows in
    let store : c.store.result.now.store ≡ old.cluster.store.store = ap (λ (s : StoreValue). s.store) c.store.ensures in
    let kept = subst (λ (s : Datastore). StayKept s (tells old.keeper) old.doubt (tells c.give.new.keeper) c.give.new.doubt) store c.in-Err-Memory.ensures.kept in
    stays tells old (record { cluster = old.cluster; keeper = c.give.new.keeper; doubt = c.give.new.doubt; ring = c.prepare.new.ring; settled = c.args.self.now.settled }) (record { store = refl; entries = refl; slots = λ slot. refl }) kept
    (memory-of c.in-Err-Memory.field-0 memory c.in-Err-Memory.ensures.memory) c.prepare.ensures.counter

pub returns-in-Err-Memory-clause-still_fed : goal.returns-in-Err-Memory-clause-still_fed
returns-in-Err-Memory-clause-still_fed g c =
    let old = c.args.self.now in
    stays-fed g.D.Keeper.rows old (record { cluster = old.cluster; keeper = c.give.new.keeper; doubt = c.give.new.doubt; ring = c.prepare.new.ring; settled = c.args.self.now.settled }) (returns-in-Err-Memory-clause-unchanged g c) c.prepare.ensures.follows

pub returns-in-Err-Memory-clause-still_sure : goal.returns-in-Err-Memory-clause-still_sure
returns-in-Err-Memory-clause-still_sure g c =
    let old = c.args.self.now in
    let tells = g.D.Keeper.rows in
    let sure = g.D.Keeper.settled in
    let store : c.store.result.now.store ≡ old.cluster.store.store = ap (λ (s : StoreValue). s.store) c.store.ensures in
    let given = subst (λ (s : Datastore). SettlesGiven s (tells old.keeper) old.doubt (sure old.keeper) (sure c.give.new.keeper) (tells c.give.new.keeper)) store c.give.ensures.settled in
    unmade-sure tells sure old (record { cluster = old.cluster; keeper = c.give.new.keeper; doubt = c.give.new.doubt; ring = c.prepare.new.ring; settled = old.settled }) refl given (returns-in-Err-Memory-clause-unchanged g c)
