-- Over every history blocks and affinities agree.
use Rattle.std.proofs.Common.{◌≡◌, ℕ, ◌-◌, inl, inr, List, [], ◌∷◌, drop, Option, Some, None, refl, sym, ap, ◌∙◌, subst, arith, nat_lt, ltb-true, ltb-false}
use Rattle.std.proofs.lemmas.Bool.{cases_Bool}
use Rattle.std.proofs.lemmas.List.{drop_all}
use Rattle.ipam_addr.specs.Shape.{CidrValue}
use Rattle.ipam_block.specs.declared.state.State.{State}
use Rattle.ipam_block.specs.declared.state.State.TheVariants.{Confirmed, PendingDeletion}
use Rattle.ipam_records.specs.declared.key.Key.{Key}
use Rattle.ipam_records.specs.declared.key.Key.TheVariants as key
use Rattle.ipam_records.specs.declared.record.Record.{Record}
use Rattle.ipam_records.specs.declared.record.Record.TheVariants as record_of
use Rattle.ipam_records.specs.Datastore.{Datastore, row_of}
use Rattle.ipam_records.specs.Label.{CallLabel, Point, Claiming, Claimed, Releasing, Released}
use Rattle.ipam_records.specs.Sound.{IsDatastore}
use Rattle.ipam_model.specs.declared.entry.Entry.{Entry}
use Rattle.ipam_model.specs.Affinities.{Tie, affinity}
use Rattle.ipam_model.specs.AffinityLaw.{HasAt, HasAffinity, HasNode, AgreesWithAffinities, AffinityLaw, OneNodeLaw, IsLabelled, IsAffinityCurrent, PointsAgree, PointsKeep, WasAt, WasOwnOrNobodys, WasToBeKept, WasToBeDeleted, LabelPointsLaw}
use Rattle.ipam_model.specs.History.{Base, Lawful, cluster_at, store_at, slot_of_entry, moment_of}
use Rattle.ipam_model.specs.Reads.{StoredRecord}
use Rattle.ipam_laws.proofs.Calls.{found-key}
use Rattle.ipam_laws.proofs.WriteSteps.{found-affinity}
use Rattle.ipam_laws.proofs.SlotSteps.{label_in, label_at, known_at, known-earlier, known-now, known-below, history-agrees, grows-next, turn-of}
use Rattle.ipam_laws.proofs.AffinityAt.{node_at, node_in_row, state_at, state_in_row, there-current}
use Rattle.ipam_laws.proofs.AffinityHolds.{Agreeing, Holds, WasOwn, WasKept, WasMarked, current-there}
use Rattle.ipam_laws.proofs.AffinityArrivals.{step-holds}

-- ---- nodes and states, and the records that have them

pub node-has : (store : Datastore) (cidr : CidrValue) (node : List ℕ) → HasNode store cidr node → node_at store cidr ≡ Some node
node-has store cidr node (b, there, is) = ap node_in_row there.1 ∙ is

pub has-node : (store : Datastore) (cidr : CidrValue) (node : List ℕ) → node_at store cidr ≡ Some node → HasNode store cidr node
has-node store cidr node e = from (row_of (key.Block cidr) store.rows) refl e
  where
    from : (o : Option StoredRecord) → row_of (key.Block cidr) store.rows ≡ o → node_in_row o ≡ Some node → HasNode store cidr node
    from None is f = absurd (cc f)
    from (Some (revision, record_of.Block b)) is f = (b, (revision, is), f)
    from (Some (revision, record_of.Config config)) is f = absurd (cc f)
    from (Some (revision, record_of.Pools pools)) is f = absurd (cc f)
    from (Some (revision, record_of.Reservations reservations)) is f = absurd (cc f)
    from (Some (revision, record_of.Affinity a)) is f = absurd (cc f)
    from (Some (revision, record_of.Handle h)) is f = absurd (cc f)

pub state-has : (store : Datastore) (node : List ℕ) (cidr : CidrValue) (state : State) → HasAffinity store node cidr state → state_at store node cidr ≡ Some state
state-has store node cidr state there = ap state_in_row there.1

pub has-state : (store : Datastore) (node : List ℕ) (cidr : CidrValue) (state : State) → state_at store node cidr ≡ Some state → HasAffinity store node cidr state
has-state store node cidr state e = from (row_of (key.Affinity node cidr) store.rows) refl e
  where
    tie : Tie
    tie = record { node = node; block = cidr }

    from : (o : Option StoredRecord) → row_of (key.Affinity node cidr) store.rows ≡ o → state_in_row o ≡ Some state → HasAffinity store node cidr state
    from None is f = absurd (cc f)
    from (Some (revision, found)) is f =
        let (a, same, whole) = found-affinity (record { node = node; block = cidr }) found (found-key store (key.Affinity node cidr) revision found is) in
        let states : Some a.state ≡ Some state = sym (ap (λ (x : Record). state_in_row (Some (revision, x))) same) ∙ f in
        let state_is : a.state ≡ state = cc states in
        (revision, is ∙ ap (λ (x : Record). Some (revision, x)) (same ∙ ap record_of.Affinity (whole ∙ ap (affinity node cidr) state_is)))

pub agreeing-of : (store : Datastore) → AgreesWithAffinities store → Agreeing store
agreeing-of store h = record {
  of_block = λ node cidr e. let (state, there) = h.of_block cidr node (has-node store cidr node e) in (state, state-has store node cidr state there);
  of_affinity = λ node cidr e. node-has store cidr node (h.of_affinity cidr node (has-state store node cidr Confirmed e));
}

pub of-agreeing : (store : Datastore) → Agreeing store → AgreesWithAffinities store
of-agreeing store h = record {
  of_block = λ cidr node there. let (state, e) = h.of_block node cidr (node-has store cidr node there) in (state, has-state store node cidr state e);
  of_affinity = λ cidr node there. has-node store cidr node (h.of_affinity node cidr (state-has store node cidr Confirmed there));
}

-- ---- every history

-- the point at which the slot stands
abbrev pub point_at : Base → List Entry → (slot : ℕ) → Point
point_at base history slot = (label_at base history slot).point

abbrev pub HoldsAt : Base → List Entry → Type 0
HoldsAt base history = Holds (known_at base history) (store_at base history) (point_at base history)

first-holds : (base : Base) → Agreeing base.store → HoldsAt base []
unfolding cluster_at
first-holds base h = record {
  kept = λ slot. record {
    claims_own = λ node cidr read kept f. absurd (cc f);
    claims_kept = λ node cidr read kept f. absurd (cc f);
    claimed_kept = λ node cidr kept f. absurd (cc f);
    releasing_read = λ node cidr read mark f. absurd (cc f);
    releasing_marks = λ node cidr read mark f. absurd (cc f);
    released_marks = λ node cidr mark f. absurd (cc f);
  };
  agreeing = h;
  own = λ slot. record {
    claiming = λ node cidr read kept f current. absurd (cc f);
    claimed = λ node cidr kept f current. absurd (cc f);
    releasing = λ node cidr read mark f current has. absurd (cc f);
    released = λ node cidr mark f current has. absurd (cc f);
  };
  apart = λ slot other. record {
    claiming = λ node cidr read kept mark f current g current'. absurd (cc f);
    claimed = λ node cidr kept read mark f current g current'. absurd (cc f);
  };
}

next-holds : (base : Base) (history : List Entry) (new : Entry) → IsDatastore base.store → Lawful base (new ∷ history) → Lawful base history → HoldsAt base history → HoldsAt base (new ∷ history)
next-holds base history new sound h earlier holds =
    let turn = turn-of base history new sound h in
    let slot = slot_of_entry new in
    step-holds (known_at base history) (known_at base (new ∷ history)) (store_at base history) (store_at base (new ∷ history)) (label_at base history slot) turn.reached
    (point_at base history) (point_at base (new ∷ history)) slot turn.step (grows-next base history new)
    (history-agrees base (new ∷ history) sound h) (known-now base (new ∷ history))
    (record { below = known-below base history sound earlier }) refl
    (elim turn.now [
      | inl reached ↦ inl (ap (λ (l : CallLabel). l.point) reached)
      | inr idles ↦ inr (ap (λ (l : CallLabel). l.point) idles)
    ])
    (λ other differ. ap (λ (l : CallLabel). l.point) (turn.others other differ))
    holds

pub history-holds : (base : Base) (history : List Entry) → IsDatastore base.store → AgreesWithAffinities base.store → Lawful base history → HoldsAt base history
unfolding Lawful
history-holds base [] sound agrees h = first-holds base (agreeing-of base.store agrees)
history-holds base (new ∷ history) sound agrees h = next-holds base history new sound h h.0 (history-holds base history sound agrees h.0)

-- ---- the laws

pub affinity_law : AffinityLaw
affinity_law base history sound agrees h = of-agreeing (store_at base history) (history-holds base history sound agrees h).agreeing

pub one_node_law : OneNodeLaw
one_node_law base history sound agrees h cidr node other one two =
    let holds = (history-holds base history sound agrees h).agreeing in
    let first = holds.of_affinity node cidr (state-has (store_at base history) node cidr Confirmed one) in
    let second = holds.of_affinity other cidr (state-has (store_at base history) other cidr Confirmed two) in
    cc (first, second)

-- ---- the points

-- what was known was there at some moment
known-was : (base : Base) (history : List Entry) (k : Key) (revision : ℕ) (found : Record) → known_at base history k revision found → WasAt base history k revision found
known-was base history k revision found was =
    let (many, there) = known-earlier base history k revision found was in
    let now = moment_of base history in
    (now - many, subst (λ (h : List Entry). HasAt (store_at base h) k revision found) (sym (back many)) there)
  where
    back : (many : ℕ) → drop (moment_of base history - (moment_of base history - many)) history ≡ drop many history
    back many = elim (cases_Bool (nat_lt many (moment_of base history))) [
      | inl before ↦
          let below = ltb-true many (moment_of base history) before in
          let same : moment_of base history - (moment_of base history - many) ≡ many = omega arith in
          ap (λ n. drop n history) same
      | inr behind ↦
          let above = ltb-false many (moment_of base history) behind in
          let whole : moment_of base history - (moment_of base history - many) ≡ moment_of base history = omega arith in
          ap (λ n. drop n history) whole ∙ drop_all (moment_of base history) history (omega arith) ∙ sym (drop_all many history (omega arith))
    ]

module _ (base : Base) (history : List Entry) (sound : IsDatastore base.store) (lawful : Lawful base history) (holds : HoldsAt base history) where
  -- the slot's point is that of its label
  labelled : (slot : ℕ) (point : Point) → IsLabelled base history slot point → point_at base history slot ≡ point
  labelled slot point (running, runs, is) = ap (λ o. (label_in o).point) runs ∙ is

  was-own : (node : List ℕ) (cidr : CidrValue) (read : ℕ) → WasOwn (known_at base history) node cidr (Some read) → WasOwnOrNobodys base history node cidr read
  was-own node cidr read (None, is, known, own) = absurd (cc is)
  was-own node cidr read (Some found, is, known, own) =
      let same : found.0 ≡ read = cc is in
      let was = known-was base history (key.Block cidr) found.0 (record_of.Block found.1) known.1 in
      (found.1, subst (λ (n : ℕ). WasAt base history (key.Block cidr) n (record_of.Block found.1)) same was, own)

  was-kept : (node : List ℕ) (cidr : CidrValue) (kept : ℕ) → WasKept (known_at base history) node cidr kept → WasToBeKept base history node cidr kept
  was-kept node cidr kept (state, was, differs) = (state, known-was base history (key.Affinity node cidr) kept (record_of.Affinity (affinity node cidr state)) was, differs)

  was-marked : (node : List ℕ) (cidr : CidrValue) (mark : ℕ) → WasMarked (known_at base history) node cidr mark → WasToBeDeleted base history node cidr mark
  was-marked node cidr mark was = known-was base history (key.Affinity node cidr) mark (record_of.Affinity (affinity node cidr PendingDeletion)) was

  -- a mark that is current is still one
  still-marked : (node : List ℕ) (cidr : CidrValue) (mark : ℕ) → WasMarked (known_at base history) node cidr mark → IsAffinityCurrent (store_at base history) node cidr mark → HasAffinity (store_at base history) node cidr PendingDeletion
  still-marked node cidr mark was current =
      let (found, there) = current-there (store_at base history) (key.Affinity node cidr) mark current in
      let same = (history-agrees base history sound lawful).same (key.Affinity node cidr) mark (record_of.Affinity (affinity node cidr PendingDeletion)) found was there in
      (mark, there ∙ ap (λ (x : Record). Some (mark, x)) (sym same))

  points-agree : PointsAgree (IsLabelled base history) base history
  points-agree = record {
    claiming = λ slot node cidr read kept at current.
        let (state, there) = (holds.own slot).claiming node cidr read kept (labelled slot (Claiming node cidr read kept) at) current in
        let (revision, has) = has-state (store_at base history) node cidr state there in
        (revision, there-current (store_at base history) (key.Affinity node cidr) revision (record_of.Affinity (affinity node cidr state)) has);
    claiming_apart = λ slot other node cidr read kept mark at current by marked.
        (holds.apart slot other).claiming node cidr read kept mark (labelled slot (Claiming node cidr read kept) at) current (labelled other (Released node cidr mark) by) marked;
    claimed = λ slot node cidr kept at current.
        has-node (store_at base history) cidr node ((holds.own slot).claimed node cidr kept (labelled slot (Claimed node cidr kept) at) current);
    claimed_apart = λ slot other node cidr kept read mark at current by unchanged.
        (holds.apart slot other).claimed node cidr kept read mark (labelled slot (Claimed node cidr kept) at) current (labelled other (Releasing node cidr read mark) by) unchanged;
    releasing = λ slot node cidr read mark at current has.
        (holds.own slot).releasing node cidr read mark (labelled slot (Releasing node cidr read mark) at) current (state-has (store_at base history) node cidr Confirmed has);
    released = λ slot node cidr mark at current. (
      still-marked node cidr mark ((holds.kept slot).released_marks node cidr mark (labelled slot (Released node cidr mark) at)) current,
      λ has. (holds.own slot).released node cidr mark (labelled slot (Released node cidr mark) at) current (node-has (store_at base history) cidr node has),
    );
  }

  points-keep : PointsKeep (IsLabelled base history) base history
  points-keep = record {
    claims_own = λ slot node cidr read kept at. was-own node cidr read ((holds.kept slot).claims_own node cidr (Some read) kept (labelled slot (Claiming node cidr (Some read) kept) at));
    claims_kept = λ slot node cidr read kept at. was-kept node cidr kept ((holds.kept slot).claims_kept node cidr read kept (labelled slot (Claiming node cidr read kept) at));
    claimed_kept = λ slot node cidr kept at. was-kept node cidr kept ((holds.kept slot).claimed_kept node cidr kept (labelled slot (Claimed node cidr kept) at));
    releasing_marks = λ slot node cidr read mark at. was-marked node cidr mark ((holds.kept slot).releasing_marks node cidr read mark (labelled slot (Releasing node cidr read mark) at));
    released_marks = λ slot node cidr mark at. was-marked node cidr mark ((holds.kept slot).released_marks node cidr mark (labelled slot (Released node cidr mark) at));
  }

pub label_points_law : LabelPointsLaw
label_points_law base history sound agrees h =
    let holds = history-holds base history sound agrees h in
    (points-agree base history sound h holds, points-keep base history sound h holds)
