-- What holds at the points holds of a claimer or releaser that arrives at one, and so over each step.
use Rattle.std.proofs.Common.{◌≡◌, ◌≢◌, ◌⊎◌, ℕ, ◌+◌, inl, inr, suc, Bool, true, false, eqb-true, List, Option, Some, None, refl, sym, ap, ◌∙◌, subst, arith}
use Rattle.std.specs.Prelude.{◌==◌}
use Rattle.std.proofs.lemmas.Bool.{eqb-false}
use Rattle.ipam_addr.specs.Shape.{CidrValue}
use Rattle.ipam_block.specs.declared.state.State.{State}
use Rattle.ipam_block.specs.declared.state.State.TheVariants.{Pending, Confirmed, PendingDeletion}
use Rattle.ipam_block.specs.Shape as block
use Rattle.ipam_records.specs.declared.key.Key.{Key}
use Rattle.ipam_records.specs.declared.key.Key.TheVariants as key
use Rattle.ipam_records.specs.declared.record.Record.{Record}
use Rattle.ipam_records.specs.declared.record.Record.TheVariants as record_of
use Rattle.ipam_records.specs.Datastore.{Datastore, row_of}
use Rattle.ipam_records.specs.Label.{CallLabel, idle, owing, Point, Nowhere, Claiming, Claimed, Releasing, Released}
use Rattle.ipam_model.specs.Affinities.{BlockRead, Tie, affinity, revision_read}
use Rattle.ipam_model.specs.AffinityLaw.{HasAt, IsBlockCurrent, IsAffinityCurrent}
use Rattle.ipam_model.specs.Counting.{credit_of}
use Rattle.ipam_laws.proofs.Lift.{Known, Grows, Agrees}
use Rattle.ipam_laws.proofs.Steps.{HasAffinityAt, IsKnownBlock, IsOwnOrNobodys, IsPut, taken, bared, at_claiming, at_claimed, at_releasing, at_released, known-block-grows, Step, Idles, Owes, Finds, Starts, Takes, Confirms, Marks, Looks, Bares, Deletes, Raises, Lowers, LowersOut, Frees, Assigns, Changes}
use Rattle.ipam_laws.proofs.AffinityAt.{node_at, state_at, node_in_row, state_in_row, put-at, there-current, taken-cidr, taken-node, bared-cidr, bared-node, step-at}
use Rattle.ipam_laws.proofs.AffinityHolds.{step-written, IsGiven, AreBelow, WasRead, WasOwn, WasKept, WasMarked, Kept, Own, Apart, Holds, claiming-given, releasing-given, current-there, other-some, written-holds}

-- ---- a point at which one arrives

-- what holds of the point by itself, and with the points at which others have stood before
record Arrives (old known : Known) (store : Datastore) (p : Point) : Type 0 where
  kept : Kept known p
  own : Own store p
  itself : Apart store p p
  before : (q : Point) → Kept old q → Apart store p q
  behind : (q : Point) → Kept old q → Apart store q p

-- where the point is one of a kind, this holds of what it keeps
abbrev OnClaiming : (List ℕ → CidrValue → Option ℕ → ℕ → Type 0) → Point → Type 0
OnClaiming P (Claiming node cidr read kept) = P node cidr read kept
OnClaiming P _ = Unit {0}

abbrev OnClaimed : (List ℕ → CidrValue → ℕ → Type 0) → Point → Type 0
OnClaimed P (Claimed node cidr kept) = P node cidr kept
OnClaimed P _ = Unit {0}

abbrev OnReleasing : (List ℕ → CidrValue → Option ℕ → ℕ → Type 0) → Point → Type 0
OnReleasing P (Releasing node cidr read mark) = P node cidr read mark
OnReleasing P _ = Unit {0}

abbrev OnReleased : (List ℕ → CidrValue → ℕ → Type 0) → Point → Type 0
OnReleased P (Released node cidr mark) = P node cidr mark
OnReleased P _ = Unit {0}

arrives-nowhere : (old known : Known) (store : Datastore) → Arrives old known store Nowhere
arrives-nowhere old known store = record {
  kept = record {
    claims_own = λ node cidr read kept f. absurd (cc f);
    claims_kept = λ node cidr read kept f. absurd (cc f);
    claimed_kept = λ node cidr kept f. absurd (cc f);
    releasing_read = λ node cidr read mark f. absurd (cc f);
    releasing_marks = λ node cidr read mark f. absurd (cc f);
    released_marks = λ node cidr mark f. absurd (cc f);
  };
  own = record {
    claiming = λ node cidr read kept f current. absurd (cc f);
    claimed = λ node cidr kept f current. absurd (cc f);
    releasing = λ node cidr read mark f current has. absurd (cc f);
    released = λ node cidr mark f current has. absurd (cc f);
  };
  itself = record { claiming = λ node cidr read kept mark f current g current'. absurd (cc f); claimed = λ node cidr kept read mark f current g current'. absurd (cc f) };
  before = λ q k. record { claiming = λ node cidr read kept mark f current g current'. absurd (cc f); claimed = λ node cidr kept read mark f current g current'. absurd (cc f) };
  behind = λ q k. record { claiming = λ node cidr read kept mark f current g current'. absurd (cc g); claimed = λ node cidr kept read mark f current g current'. absurd (cc g) };
}

-- one record is not both to be kept and to be deleted
kept-marked : (known : Known) (store : Datastore) → Agrees known store → (node : List ℕ) (cidr : CidrValue) (revision : ℕ) → WasKept known node cidr revision → WasMarked known node cidr revision → IsAffinityCurrent store node cidr revision → ⊥
kept-marked known store agrees node cidr revision (state, kept, differs) marked current =
    let (found, there) = current-there store (key.Affinity node cidr) revision current in
    let one = agrees.same (key.Affinity node cidr) revision (record_of.Affinity (affinity node cidr state)) found kept there in
    let other = agrees.same (key.Affinity node cidr) revision (record_of.Affinity (affinity node cidr PendingDeletion)) found marked there in
    let same : record_of.Affinity (affinity node cidr state) ≡ record_of.Affinity (affinity node cidr PendingDeletion) = one ∙ sym other in
    let records : affinity node cidr state ≡ affinity node cidr PendingDeletion = cc in
    differs (ap (λ a. a.state) records)

-- a claimer that found its affinity, or wrote it
arrives-claiming : (old known : Known) (store : Datastore) → Grows old known → Agrees known store → (tie : Tie) (read : BlockRead) (kept : ℕ) (state : State) → HasAffinityAt store tie kept state → known (key.Affinity tie.node tie.block) kept (record_of.Affinity (affinity tie.node tie.block state)) → state ≢ PendingDeletion → IsKnownBlock known tie.block read → IsOwnOrNobodys tie.node read
    → Arrives old known store (Claiming tie.node tie.block (revision_read read) kept)
arrives-claiming old known store grows agrees tie read kept state there was differs known_block own = record {
  kept = record {
    claims_own = λ node cidr r k f. subst (λ (p : Point). OnClaiming (λ n x s t. WasOwn known n x s) p) f (read, refl, known_block, own);
    claims_kept = λ node cidr r k f. subst (λ (p : Point). OnClaiming (λ n x s t. WasKept known n x t) p) f was_kept;
    claimed_kept = λ node cidr k f. absurd (cc f);
    releasing_read = λ node cidr r mark f. absurd (cc f);
    releasing_marks = λ node cidr r mark f. absurd (cc f);
    released_marks = λ node cidr mark f. absurd (cc f);
  };
  own = record {
    claiming = λ node cidr r k f current. subst (λ (p : Point). OnClaiming (λ n x s t. (now : State) × (state_at store n x ≡ Some now)) p) f (state, ap state_in_row there);
    claimed = λ node cidr k f current. absurd (cc f);
    releasing = λ node cidr r mark f current has. absurd (cc f);
    released = λ node cidr mark f current has. absurd (cc f);
  };
  itself = record { claiming = λ node cidr r k mark f current g current'. absurd (cc g); claimed = λ node cidr k r mark f current g current'. absurd (cc f) };
  before = λ q kept_by_q. record { claiming = λ node cidr r k mark f current g current'. apart q kept_by_q node cidr r k mark f g current'; claimed = λ node cidr k r mark f current g current'. absurd (cc f) };
  behind = λ q kept_by_q. record { claiming = λ node cidr r k mark f current g current'. absurd (cc g); claimed = λ node cidr k r mark f current g current'. absurd (cc g) };
}
  where
    was_kept : WasKept known tie.node tie.block kept
    was_kept = (state, was, differs)

    apart : (q : Point) → Kept old q → (node : List ℕ) (cidr : CidrValue) (r : Option ℕ) (k mark : ℕ) → Claiming tie.node tie.block (revision_read read) kept ≡ Claiming node cidr r k → q ≡ Released node cidr mark → IsAffinityCurrent store node cidr mark → ⊥
    apart q kept_by_q node cidr r k mark f g current =
        let P : List ℕ → CidrValue → Option ℕ → ℕ → Type 0 = λ n x s t. WasKept known n x t × IsAffinityCurrent store n x t in
        let here = subst (λ (p : Point). OnClaiming P p) f (was_kept, there-current store (key.Affinity tie.node tie.block) kept (record_of.Affinity (affinity tie.node tie.block state)) there) in
        let same : k ≡ mark = cc (here.1, current) in
        kept-marked known store agrees node cidr mark (subst (λ (t : ℕ). WasKept known node cidr t) same here.0) (grows _ _ _ (kept_by_q.released_marks node cidr mark g)) current

-- a block that was written is there, at a revision that nobody has read
block-written : (store next : Datastore) (cidr : CidrValue) (b : block.BlockValue) → IsPut store next (record_of.Block b) → b.cidr ≡ cidr → row_of (key.Block cidr) next.rows ≡ Some (store.counter + 1, record_of.Block b)
block-written store next cidr b put is = ap (λ (x : CidrValue). row_of (key.Block x) next.rows) (sym is) ∙ put-at store next (record_of.Block b) put

not-given : (store next : Datastore) (cidr : CidrValue) (b : block.BlockValue) → IsPut store next (record_of.Block b) → b.cidr ≡ cidr → (read : Option ℕ) → IsGiven store read → IsBlockCurrent next cidr read → ⊥
not-given store next cidr b put is None given current =
    let now = there-current next (key.Block cidr) (store.counter + 1) (record_of.Block b) (block-written store next cidr b put is) in
    cc (now, current)
not-given store next cidr b put is (Some r) given current =
    let now = there-current next (key.Block cidr) (store.counter + 1) (record_of.Block b) (block-written store next cidr b put is) in
    let same : store.counter + 1 ≡ r = cc (now, current) in
    omega arith

-- a claimer that wrote the block
arrives-claimed : (old known : Known) (store next : Datastore) → AreBelow old store → (tie : Tie) (kept : ℕ) (b : block.BlockValue) → WasKept known tie.node tie.block kept → IsPut store next (record_of.Block b) → b.cidr ≡ tie.block → b.node ≡ Some tie.node
    → Arrives old known next (Claimed tie.node tie.block kept)
arrives-claimed old known store next below tie kept b was put cidr_is node_is = record {
  kept = record {
    claims_own = λ node cidr r k f. absurd (cc f);
    claims_kept = λ node cidr r k f. absurd (cc f);
    claimed_kept = λ node cidr k f. subst (λ (p : Point). OnClaimed (λ n x t. WasKept known n x t) p) f was;
    releasing_read = λ node cidr r mark f. absurd (cc f);
    releasing_marks = λ node cidr r mark f. absurd (cc f);
    released_marks = λ node cidr mark f. absurd (cc f);
  };
  own = record {
    claiming = λ node cidr r k f current. absurd (cc f);
    claimed = λ node cidr k f current. subst (λ (p : Point). OnClaimed (λ n x t. node_at next x ≡ Some n) p) f has_node;
    releasing = λ node cidr r mark f current has. absurd (cc f);
    released = λ node cidr mark f current has. absurd (cc f);
  };
  itself = record { claiming = λ node cidr r k mark f current g current'. absurd (cc f); claimed = λ node cidr k r mark f current g current'. absurd (cc g) };
  before = λ q kept_by_q. record { claiming = λ node cidr r k mark f current g current'. absurd (cc f); claimed = λ node cidr k r mark f current g current'. apart q kept_by_q node cidr k r mark f g current' };
  behind = λ q kept_by_q. record { claiming = λ node cidr r k mark f current g current'. absurd (cc g); claimed = λ node cidr k r mark f current g current'. absurd (cc g) };
}
  where
    has_node : node_at next tie.block ≡ Some tie.node
    has_node = ap node_in_row (block-written store next tie.block b put cidr_is) ∙ node_is

    apart : (q : Point) → Kept old q → (node : List ℕ) (cidr : CidrValue) (k : ℕ) (r : Option ℕ) (mark : ℕ) → Claimed tie.node tie.block kept ≡ Claimed node cidr k → q ≡ Releasing node cidr r mark → IsBlockCurrent next cidr r → ⊥
    apart q kept_by_q node cidr k r mark f g current =
        let same : tie.block ≡ cidr = cc f in
        not-given store next tie.block b put cidr_is r (releasing-given old store q below kept_by_q node cidr r mark g) (subst (λ (x : CidrValue). IsBlockCurrent next x r) (sym same) current)

-- a releaser that found the affinity at its mark
arrives-releasing : (old known : Known) (store : Datastore) → Grows old known → Agrees known store → (tie : Tie) (read : BlockRead) (mark : ℕ) → HasAffinityAt store tie mark PendingDeletion → known (key.Affinity tie.node tie.block) mark (record_of.Affinity (affinity tie.node tie.block PendingDeletion)) → IsKnownBlock known tie.block read
    → Arrives old known store (Releasing tie.node tie.block (revision_read read) mark)
arrives-releasing old known store grows agrees tie read mark there was known_block = record {
  kept = record {
    claims_own = λ node cidr r k f. absurd (cc f);
    claims_kept = λ node cidr r k f. absurd (cc f);
    claimed_kept = λ node cidr k f. absurd (cc f);
    releasing_read = λ node cidr r m f. subst (λ (p : Point). OnReleasing (λ n x s t. WasRead known x s) p) f (read, refl, known_block);
    releasing_marks = λ node cidr r m f. subst (λ (p : Point). OnReleasing (λ n x s t. WasMarked known n x t) p) f was;
    released_marks = λ node cidr m f. absurd (cc f);
  };
  own = record {
    claiming = λ node cidr r k f current. absurd (cc f);
    claimed = λ node cidr k f current. absurd (cc f);
    releasing = λ node cidr r m f current. subst (λ (p : Point). OnReleasing (λ n x s t. state_at store n x ≢ Some Confirmed) p) f not_confirmed;
    released = λ node cidr m f current has. absurd (cc f);
  };
  itself = record { claiming = λ node cidr r k m f current g current'. absurd (cc f); claimed = λ node cidr k r m f current g current'. absurd (cc f) };
  before = λ q kept_by_q. record { claiming = λ node cidr r k m f current g current'. absurd (cc f); claimed = λ node cidr k r m f current g current'. absurd (cc f) };
  behind = λ q kept_by_q. record { claiming = λ node cidr r k m f current g current'. absurd (cc g); claimed = λ node cidr k r m f current g current'. apart q kept_by_q node cidr k r m f current g };
}
  where
    not_confirmed : state_at store tie.node tie.block ≢ Some Confirmed
    not_confirmed e = let state = ap state_in_row there in cc (state, e)

    apart : (q : Point) → Kept old q → (node : List ℕ) (cidr : CidrValue) (k : ℕ) (r : Option ℕ) (m : ℕ) → q ≡ Claimed node cidr k → IsAffinityCurrent store node cidr k → Releasing tie.node tie.block (revision_read read) mark ≡ Releasing node cidr r m → ⊥
    apart q kept_by_q node cidr k r m f current g =
        let P : List ℕ → CidrValue → Option ℕ → ℕ → Type 0 = λ n x s t. WasMarked known n x t × IsAffinityCurrent store n x t in
        let marked : WasMarked known tie.node tie.block mark = was in
        let here = subst (λ (p : Point). OnReleasing P p) g (marked, there-current store (key.Affinity tie.node tie.block) mark (record_of.Affinity (affinity tie.node tie.block PendingDeletion)) there) in
        let same : m ≡ k = cc (here.1, current) in
        let (state, kept, differs) = kept_by_q.claimed_kept node cidr k f in
        kept-marked known store agrees node cidr k (state, grows _ _ _ kept, differs) (subst (λ (t : ℕ). WasMarked known node cidr t) same here.0) current

-- one that bared the block
arrives-released : (old known : Known) (store next : Datastore) → AreBelow old store → (tie : Tie) (mark : ℕ) (b : block.BlockValue) → WasMarked known tie.node tie.block mark → IsPut store next (record_of.Block b) → b.cidr ≡ tie.block → b.node ≢ Some tie.node
    → Arrives old known next (Released tie.node tie.block mark)
arrives-released old known store next below tie mark b was put cidr_is node_not = record {
  kept = record {
    claims_own = λ node cidr r k f. absurd (cc f);
    claims_kept = λ node cidr r k f. absurd (cc f);
    claimed_kept = λ node cidr k f. absurd (cc f);
    releasing_read = λ node cidr r m f. absurd (cc f);
    releasing_marks = λ node cidr r m f. absurd (cc f);
    released_marks = λ node cidr m f. subst (λ (p : Point). OnReleased (λ n x t. WasMarked known n x t) p) f was;
  };
  own = record {
    claiming = λ node cidr r k f current. absurd (cc f);
    claimed = λ node cidr k f current. absurd (cc f);
    releasing = λ node cidr r m f current has. absurd (cc f);
    released = λ node cidr m f current. subst (λ (p : Point). OnReleased (λ n x t. node_at next x ≢ Some n) p) f not_there;
  };
  itself = record { claiming = λ node cidr r k m f current g current'. absurd (cc f); claimed = λ node cidr k r m f current g current'. absurd (cc f) };
  before = λ q kept_by_q. record { claiming = λ node cidr r k m f current g current'. absurd (cc f); claimed = λ node cidr k r m f current g current'. absurd (cc f) };
  behind = λ q kept_by_q. record { claiming = λ node cidr r k m f current g current'. apart q kept_by_q node cidr r k m f current g; claimed = λ node cidr k r m f current g current'. absurd (cc g) };
}
  where
    not_there : node_at next tie.block ≢ Some tie.node
    not_there e = node_not (sym (ap node_in_row (block-written store next tie.block b put cidr_is)) ∙ e)

    apart : (q : Point) → Kept old q → (node : List ℕ) (cidr : CidrValue) (r : Option ℕ) (k m : ℕ) → q ≡ Claiming node cidr r k → IsBlockCurrent next cidr r → Released tie.node tie.block mark ≡ Released node cidr m → ⊥
    apart q kept_by_q node cidr r k m f current g =
        let same : tie.block ≡ cidr = cc g in
        not-given store next tie.block b put cidr_is r (claiming-given old store q below kept_by_q node cidr r k f) (subst (λ (x : CidrValue). IsBlockCurrent next x r) (sym same) current)

-- ---- the point of each step

-- the mover arrives at the point that its step comes to
step-arrives : (old known : Known) (store next : Datastore) (label after : CallLabel) → Step old store next label after → Grows old known → Agrees known next → ((k : Key) (revision : ℕ) (found : Record) → HasAt next k revision found → known k revision found) → AreBelow old store → Kept old label.point
    → Arrives old known next after.point
step-arrives old known store next label after step grows agrees seen below kept = from step
  where
    at : (p : Point) → after.point ≡ p → Arrives old known next p → Arrives old known next after.point
    at p e h = subst (λ (q : Point). Arrives old known next q) (sym e) h

    nowhere : after.point ≡ Nowhere → Arrives old known next after.point
    nowhere e = at Nowhere e (arrives-nowhere old known next)

    point_of : (l m : CallLabel) → l ≡ m → l.point ≡ m.point
    point_of l m e = ap (λ (x : CallLabel). x.point) e

    from : Step old store next label after → Arrives old known next after.point
    from (Idles a b) = nowhere (point_of after idle b)
    from (Owes credit a b c) = nowhere (point_of after (owing credit) c)
    from (Finds tie read k state a b c d e f) =
        let there : HasAffinityAt next tie k state = subst (λ (s : Datastore). HasAffinityAt s tie k state) (sym a) d in
        at (Claiming tie.node tie.block (revision_read read) k) (point_of after (at_claiming tie read k) c)
        (arrives-claiming old known next grows agrees tie read k state there (seen _ _ _ there) e (known-block-grows old known tie.block read grows f.was_read) f.own)
    from (Starts tie read a b c d) =
        let there : HasAffinityAt next tie (store.counter + 1) Pending = put-at store next (record_of.Affinity (affinity tie.node tie.block Pending)) a in
        at (Claiming tie.node tie.block (revision_read read) (store.counter + 1)) (point_of after (at_claiming tie read (store.counter + 1)) c)
        (arrives-claiming old known next grows agrees tie read (store.counter + 1) Pending there (seen _ _ _ there) (λ f. cc f) (known-block-grows old known tie.block read grows d.was_read) d.own)
    from (Takes tie read k a b c d e) =
        let (state, was, differs) = kept.claims_kept tie.node tie.block (revision_read read) k (point_of label (at_claiming tie read k) b) in
        at (Claimed tie.node tie.block k) (point_of after (at_claimed tie k) c)
        (arrives-claimed old known store next below tie k (taken tie.node tie.block read) (state, grows _ _ _ was, differs) a (taken-cidr store tie.node tie.block read d) (taken-node tie.node tie.block read))
    from (Confirms tie k found a b c d) = nowhere (point_of after idle c)
    from (Marks tie revision found a b c d) = nowhere (point_of after idle c)
    from (Looks tie read mark a b c d e) =
        let there : HasAffinityAt next tie mark PendingDeletion = subst (λ (s : Datastore). HasAffinityAt s tie mark PendingDeletion) (sym a) d in
        at (Releasing tie.node tie.block (revision_read read) mark) (point_of after (at_releasing tie read mark) c)
        (arrives-releasing old known next grows agrees tie read mark there (seen _ _ _ there) (known-block-grows old known tie.block read grows e))
    from (Bares tie read mark a b c d e) =
        let was = kept.releasing_marks tie.node tie.block (revision_read read) mark (point_of label (at_releasing tie read mark) b) in
        at (Released tie.node tie.block mark) (point_of after (at_released tie mark) c)
        (arrives-released old known store next below tie mark (bared tie.node tie.block read) (grows _ _ _ was) a (bared-cidr store tie.node tie.block read d) (λ e. let (held, differs) = other-some tie.node tie.node (node_at store tie.block) (sym (bared-node store tie.node tie.block read d) ∙ e) in differs refl))
    from (Deletes tie mark found a b c d) = nowhere (point_of after idle c)
    from (Raises id cidr h a b c d e f) = nowhere (point_of after (owing (credit_of id cidr 1)) c)
    from (Lowers credit h revision first rest a b c d e f) = nowhere (point_of after idle c)
    from (LowersOut credit h revision a b c d e f) = nowhere (point_of after idle c)
    from (Frees what amount revision b s t u v w x y) = nowhere (point_of after (owing (credit_of what.handle what.block (suc amount))) u)
    from (Assigns attributes target a b c d e f) = nowhere (point_of after idle c)
    from (Changes request new a b c d e) = nowhere (point_of after idle c)

-- ---- a step

pub number-cases : (one other : ℕ) → (one ≡ other) ⊎ (one ≢ other)
number-cases one other = from (one == other) refl
  where
    from : (b : Bool) → (one == other) ≡ b → (one ≡ other) ⊎ (one ≢ other)
    from true same = inl (eqb-true one other same)
    from false differ = inr (eqb-false one other differ)

-- one of the points is another than before
arrived : (old known : Known) (store : Datastore) (points then : ℕ → Point) (slot : ℕ) → Holds known store points → ((s : ℕ) → Kept old (points s)) → Arrives old known store (then slot) → ((other : ℕ) → slot ≢ other → then other ≡ points other) → Holds known store then
arrived old known store points then slot h kept arrives others = record {
  kept = λ s. at-slot (λ s p. Kept known p) arrives.kept h.kept s;
  agreeing = h.agreeing;
  own = λ s. at-slot (λ s p. Own store p) arrives.own h.own s;
  apart = λ s t. pairs s t;
}
  where
    at-slot : (P : ℕ → Point → Type 0) → P slot (then slot) → ((s : ℕ) → P s (points s)) → (s : ℕ) → P s (then s)
    at-slot P own rest s = elim (number-cases slot s) [
      | inl same ↦ subst (λ (n : ℕ). P n (then n)) same own
      | inr differ ↦ subst (λ (p : Point). P s p) (sym (others s differ)) (rest s)
    ]

    pairs : (s t : ℕ) → Apart store (then s) (then t)
    pairs s t = elim (number-cases slot s) [
      | inl same ↦ subst (λ (n : ℕ). Apart store (then n) (then t)) same
          (elim (number-cases slot t) [
            | inl also ↦ subst (λ (n : ℕ). Apart store (then slot) (then n)) also arrives.itself
            | inr differ ↦ subst (λ (p : Point). Apart store (then slot) p) (sym (others t differ)) (arrives.before (points t) (kept t))
          ])
      | inr apart ↦ subst (λ (p : Point). Apart store p (then t)) (sym (others s apart))
          (elim (number-cases slot t) [
            | inl also ↦ subst (λ (n : ℕ). Apart store (points s) (then n)) also (arrives.behind (points s) (kept s))
            | inr differ ↦ subst (λ (p : Point). Apart store (points s) p) (sym (others t differ)) (h.apart s t)
          ])
    ]

pub step-holds : (old known : Known) (store next : Datastore) (label after : CallLabel) (points then : ℕ → Point) (slot : ℕ) → Step old store next label after → Grows old known → Agrees known next → ((k : Key) (revision : ℕ) (found : Record) → HasAt next k revision found → known k revision found) → AreBelow old store
    → label.point ≡ points slot → (then slot ≡ after.point) ⊎ (then slot ≡ Nowhere) → ((other : ℕ) → slot ≢ other → then other ≡ points other)
    → Holds old store points → Holds known next then
step-holds old known store next label after points then slot step grows agrees seen below is now others h =
    let wrote = written-holds store next label.point (step-at old store next label after step) (step-written old store next label after step) old known points slot is below grows h in
    let own : Kept old label.point = subst (λ (p : Point). Kept old p) (sym is) (h.kept slot) in
    let arrives : Arrives old known next (then slot) = elim now [
      | inl reached ↦ subst (λ (p : Point). Arrives old known next p) (sym reached) (step-arrives old known store next label after step grows agrees seen below own)
      | inr idles ↦ subst (λ (p : Point). Arrives old known next p) (sym idles) (arrives-nowhere old known next)
    ] in
    arrived old known next points then slot wrote h.kept arrives others
