use Rattle.std.proofs.Common.{◌≡◌, ◌∙◌, sym, refl, arith, subst, Some, None}
use Rattle.ipam_store.specs.FeedShape.{RingValue}
use Rattle.ipam_store.specs.FeedKeeping.{ring_in}
use Rattle.ipam_store.specs.Turned.{change_of, IsPreparedFor}
use Rattle.ipam_store.specs.Follows.{Follows}
use Rattle.ipam_store.proofs.Histories.{revision-change_of}
use Rattle.ipam_store.proofs.Pushes.{next_known, IsPushed-one, IsPushed-none, Follows-pushed, AreKept-pushed}
use Rattle.ipam_store.proofs.ring.Ring.push.Goals as goal

pub invariant_of-self : goal.invariant_of-self
invariant_of-self c =
    let prepared : IsPreparedFor (ring_in c.self.inside) c.args.write.now = subst (λ (v : RingValue). IsPreparedFor v c.args.write.now) (sym c.self.view_is) c.requires in
    let known : Some c.in-Some.next ≡ change_of c.self.inside.routes.items c.args.write.now =
    sym c.in-Some.is ∙ next_known _ _ _ _ c.take.ensures.value prepared.ready c.flatten.ensures in
    let own = revision-change_of _ c.args.write.now c.in-Some.next (sym known) in
    let next = prepared.next in
    let kept = AreKept-pushed _ _ _ c.in-Some.next c.self.invariant.kept (omega arith) in
    let counter : c.in-Some.next.revision ≡ c.write_revision-self-inside.result = own ∙ sym c.write_revision-self-inside.ensures in
    record {
      ascend = c.turn.ensures.ascend;
      kept = rw (c.keep-self-inside.ensures.changes, c.keep-self-inside.ensures.floor, c.into_parts-change.ensures.change, ← counter) kept;
      room = rw c.keep-self-inside.ensures.capacity c.self.invariant.room;
      roomy = λ n e. absurd (cc (e, c.take.ensures.after));
    }

pub returns-in-Some-clause-follows : goal.returns-in-Some-clause-follows
returns-in-Some-clause-follows c base writes follows =
    let old : RingValue = ring_in c.self.inside in
    let prepared : IsPreparedFor old c.args.write.now = subst (λ (v : RingValue). IsPreparedFor v c.args.write.now) (sym c.self.view_is) c.requires in
    let known : Some c.in-Some.next ≡ change_of old.routes c.args.write.now =
    sym c.in-Some.is ∙ next_known _ _ _ _ c.take.ensures.value prepared.ready c.flatten.ensures in
    Follows-pushed old _ c.args.write.now base writes (subst (λ (v : RingValue). Follows v base writes) (sym c.self.view_is) follows) prepared
    (IsPushed-one old _ c.args.write.now c.in-Some.next _ _ known c.into_parts-change.ensures.change c.into_parts-change.ensures.route c.turn.ensures.items c.keep-self-inside.ensures.changes c.keep-self-inside.ensures.floor c.write_revision-self-inside.ensures)

pub returns-in_default-clause-follows : goal.returns-in_default-clause-follows
returns-in_default-clause-follows c base writes follows =
    let old : RingValue = ring_in c.self.inside in
    let prepared : IsPreparedFor old c.args.write.now = subst (λ (v : RingValue). IsPreparedFor v c.args.write.now) (sym c.self.view_is) c.requires in
    let known : None ≡ change_of old.routes c.args.write.now =
    sym c.in_default.is ∙ next_known _ _ _ _ c.take.ensures.value prepared.ready c.flatten.ensures in
    Follows-pushed old _ c.args.write.now base writes (subst (λ (v : RingValue). Follows v base writes) (sym c.self.view_is) follows) prepared
    (IsPushed-none old _ c.args.write.now known refl refl refl c.write_revision-self-inside.ensures)
