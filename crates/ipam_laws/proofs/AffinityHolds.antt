-- What holds of blocks, affinities and the points at which claimers and releasers stand lasts over each
-- write, while its mover still stands where it stood.
use Rattle.std.proofs.Common.{◌≡◌, ◌≢◌, ◌⊎◌, ℕ, ◌+◌, ◌≤◌, inl, inr, true, false, List, Option, Some, None, refl, sym, ap, ◌∙◌, subst, arith, bytes_eq}
use Rattle.std.proofs.lemmas.Slice.Eq.{bytes_eq-Decides}
use Rattle.std.specs.Prelude.{Bool, cond}
use Rattle.ipam_addr.specs.Shape.{CidrValue}
use Rattle.ipam_block.specs.declared.state.State.{State}
use Rattle.ipam_block.specs.declared.state.State.TheVariants.{Confirmed, PendingDeletion}
use Rattle.ipam_records.specs.declared.call.Write.TheVariants.{Remove}
use Rattle.ipam_records.specs.declared.key.Key.{Key}
use Rattle.ipam_records.specs.declared.key.Key.TheVariants as key
use Rattle.ipam_records.specs.declared.record.Record.{Record}
use Rattle.ipam_records.specs.declared.record.Record.TheVariants as record_of
use Rattle.ipam_records.specs.Datastore.{Datastore, row_of, written}
use Rattle.ipam_records.specs.Key.{key_of}
use Rattle.ipam_records.specs.Label.{CallLabel, Point, Claiming, Claimed, Releasing, Released}
use Rattle.ipam_model.specs.Affinities.{BlockRead, affinity, other_node, revision_read}
use Rattle.ipam_model.specs.AffinityLaw.{HasAt, IsBlockCurrent, IsAffinityCurrent}
use Rattle.ipam_model.specs.Moments.{revision_of}
use Rattle.ipam_model.specs.Reads.{StoredRecord}
use Rattle.ipam_laws.proofs.Lift.{Known, Grows}
use Rattle.ipam_laws.proofs.OneRecord.{key_cases, put-found, remove-found}
use Rattle.ipam_laws.proofs.Steps.{IsKnownBlock, IsOwnOrNobodys, IsPut, known-block-grows, Step, Idles, Owes, Finds, Starts, Takes, Confirms, Marks, Looks, Bares, Deletes, Raises, Lowers, LowersOut, Frees, Assigns, Changes}
use Rattle.ipam_laws.proofs.AffinityAt.{node_at, state_at, put-at, put-beside, gone-beside, there-current, At, Stays, Sets, IsConfirmed, IsDeleted, IsTaken, IsBared}
use Rattle.ipam_records.specs.BlockLists.{is_node}

-- ---- what is current after a write was current before

-- nothing is written, a record is, or one is removed that is no block
pub data Written (store next : Datastore) : Type 0 where
  Nothing : next ≡ store → Written store next
  Puts : (new : Record) → IsPut store next new → Written store next
  Removes : (gone : Key) → next ≡ written store (Remove (store.counter + 1) gone) → ((cidr : CidrValue) → gone ≢ key.Block cidr) → Written store next

pub step-written : (known : Known) (store next : Datastore) (label after : CallLabel) → Step known store next label after → Written store next
step-written known store next label after (Idles a b) = Nothing a
step-written known store next label after (Owes credit a b c) = Nothing a
step-written known store next label after (Finds tie read kept state a b c d e f) = Nothing a
step-written known store next label after (Starts tie read a b c d) = Puts _ a
step-written known store next label after (Takes tie read kept a b c d e) = Puts _ a
step-written known store next label after (Confirms tie kept found a b c d) = Puts _ a
step-written known store next label after (Marks tie revision found a b c d) = Puts _ a
step-written known store next label after (Looks tie read mark a b c d e) = Nothing a
step-written known store next label after (Bares tie read mark a b c d e) = Puts _ a
step-written known store next label after (Deletes tie mark found a b c d) = Removes (key.Affinity tie.node tie.block) a (λ cidr e. cc e)
step-written known store next label after (Raises id cidr h a b c d e f) = Puts _ a
step-written known store next label after (Lowers credit h revision first rest a b c d e f) = Puts _ a
step-written known store next label after (LowersOut credit h revision a b c d e f) = Removes (key.Handle h.id) a (λ cidr g. cc g)
step-written known store next label after (Frees what amount revision b s t u v w x y) = Puts _ s
step-written known store next label after (Assigns attributes target a b c d e f) = Puts _ a
step-written known store next label after (Changes request new a b c d e) = Puts new a

-- what is at a revision is there
pub current-there : (store : Datastore) (k : Key) (revision : ℕ) → revision_of store k ≡ Some revision → (found : Record) × HasAt store k revision found
current-there store k revision e = from (row_of k store.rows) refl (let f : revision_of store k ≡ Some revision = e in f)
  where
    from : (o : Option StoredRecord) → row_of k store.rows ≡ o → revision_of store k ≡ Some revision → (found : Record) × HasAt store k revision found
    from None is f = let g : None ≡ Some revision = rw is at f in absurd (cc g)
    from (Some row) is f =
        let g : Some row.0 ≡ Some revision = rw is at f in
        let same : row.0 ≡ revision = cc g in
        (row.1, is ∙ ap (λ (n : ℕ). Some (n, row.1)) same)

current-absent : (store : Datastore) (k : Key) → revision_of store k ≡ None → row_of k store.rows ≡ None
current-absent store k e = from (row_of k store.rows) refl e
  where
    from : (o : Option StoredRecord) → row_of k store.rows ≡ o → revision_of store k ≡ None → row_of k store.rows ≡ None
    from None is f = is
    from (Some row) is f = let g : Some row.0 ≡ None = rw is at f in absurd (cc g)

revision-before : (store next : Datastore) → Written store next → (k : Key) (revision : ℕ) → revision ≤ store.counter → revision_of next k ≡ Some revision → revision_of store k ≡ Some revision
revision-before store next (Nothing same) k revision below e = subst (λ (s : Datastore). revision_of s k ≡ Some revision) same e
revision-before store next (Puts new put) k revision below e =
    let (found, there) = current-there next k revision e in
    elim (put-found store (store.counter + 1) new k revision found (subst (λ (s : Datastore). HasAt s k revision found) put there)) [
      | inl is ↦ let late = is.1 in absurd (omega arith)
      | inr before ↦ there-current store k revision found before
    ]
revision-before store next (Removes gone put other) k revision below e =
    let (found, there) = current-there next k revision e in
    there-current store k revision found (remove-found store (store.counter + 1) gone k revision found (subst (λ (s : Datastore). HasAt s k revision found) put there))

-- no block goes
absent-before : (store next : Datastore) → Written store next → (cidr : CidrValue) → revision_of next (key.Block cidr) ≡ None → revision_of store (key.Block cidr) ≡ None
absent-before store next (Nothing same) cidr e = subst (λ (s : Datastore). revision_of s (key.Block cidr) ≡ None) same e
absent-before store next (Puts new put) cidr e = elim (key_cases (key_of new) (key.Block cidr)) [
  | inl same ↦
      let at = ap (λ (k : Key). row_of k next.rows) (sym same) ∙ put-at store next new put in
      let none = current-absent next (key.Block cidr) e in
      absurd (cc)
  | inr other ↦ rw (sym (put-beside store next new (key.Block cidr) put other) ∙ current-absent next (key.Block cidr) e) refl
]
absent-before store next (Removes gone put other) cidr e =
    rw (sym (gone-beside store next gone (key.Block cidr) put (other cidr)) ∙ current-absent next (key.Block cidr) e) refl

-- a revision that was given, or none
abbrev pub IsGiven : Datastore → Option ℕ → Type 0
IsGiven store None = Unit {0}
IsGiven store (Some revision) = revision ≤ store.counter

pub block-before : (store next : Datastore) → Written store next → (cidr : CidrValue) (read : Option ℕ) → IsGiven store read → IsBlockCurrent next cidr read → IsBlockCurrent store cidr read
block-before store next write cidr None given e = absent-before store next write cidr e
block-before store next write cidr (Some revision) given e = revision-before store next write (key.Block cidr) revision given e

-- ---- what the points keep

-- no revision that is known is above the counter
pub record AreBelow (known : Known) (store : Datastore) : Type 0 where
  pub below : (k : Key) (revision : ℕ) (found : Record) → known k revision found → revision ≤ store.counter

-- the revision at which a block was read, as known
abbrev pub WasRead : Known → CidrValue → Option ℕ → Type 0
WasRead known cidr read = (found : BlockRead) × (revision_read found ≡ read) × IsKnownBlock known cidr found

-- and it had this node or none
abbrev pub WasOwn : Known → List ℕ → CidrValue → Option ℕ → Type 0
WasOwn known node cidr read = (found : BlockRead) × (revision_read found ≡ read) × IsKnownBlock known cidr found × IsOwnOrNobodys node found

abbrev pub WasKept : Known → List ℕ → CidrValue → ℕ → Type 0
WasKept known node cidr kept = (state : State) × known (key.Affinity node cidr) kept (record_of.Affinity (affinity node cidr state)) × (state ≢ PendingDeletion)

abbrev pub WasMarked : Known → List ℕ → CidrValue → ℕ → Type 0
WasMarked known node cidr mark = known (key.Affinity node cidr) mark (record_of.Affinity (affinity node cidr PendingDeletion))

pub record Kept (known : Known) (p : Point) : Type 0 where
  pub claims_own : (node : List ℕ) (cidr : CidrValue) (read : Option ℕ) (kept : ℕ) → p ≡ Claiming node cidr read kept → WasOwn known node cidr read
  pub claims_kept : (node : List ℕ) (cidr : CidrValue) (read : Option ℕ) (kept : ℕ) → p ≡ Claiming node cidr read kept → WasKept known node cidr kept
  pub claimed_kept : (node : List ℕ) (cidr : CidrValue) (kept : ℕ) → p ≡ Claimed node cidr kept → WasKept known node cidr kept
  pub releasing_read : (node : List ℕ) (cidr : CidrValue) (read : Option ℕ) (mark : ℕ) → p ≡ Releasing node cidr read mark → WasRead known cidr read
  pub releasing_marks : (node : List ℕ) (cidr : CidrValue) (read : Option ℕ) (mark : ℕ) → p ≡ Releasing node cidr read mark → WasMarked known node cidr mark
  pub released_marks : (node : List ℕ) (cidr : CidrValue) (mark : ℕ) → p ≡ Released node cidr mark → WasMarked known node cidr mark

pub kept-grows : (known other : Known) (p : Point) → Grows known other → Kept known p → Kept other p
kept-grows known other p grows h = record {
  claims_own = λ node cidr read kept e. let (found, is, known_block, own) = h.claims_own node cidr read kept e in (found, is, known-block-grows known other cidr found grows known_block, own);
  claims_kept = λ node cidr read kept e. let (state, was, differs) = h.claims_kept node cidr read kept e in (state, grows _ _ _ was, differs);
  claimed_kept = λ node cidr kept e. let (state, was, differs) = h.claimed_kept node cidr kept e in (state, grows _ _ _ was, differs);
  releasing_read = λ node cidr read mark e. let (found, is, known_block) = h.releasing_read node cidr read mark e in (found, is, known-block-grows known other cidr found grows known_block);
  releasing_marks = λ node cidr read mark e. grows _ _ _ (h.releasing_marks node cidr read mark e);
  released_marks = λ node cidr mark e. grows _ _ _ (h.released_marks node cidr mark e);
}

-- what was read was given
read-given : (known : Known) (store : Datastore) (cidr : CidrValue) (found : BlockRead) → AreBelow known store → IsKnownBlock known cidr found → IsGiven store (revision_read found)
read-given known store cidr None below k = tt
read-given known store cidr (Some found) below k = below.below (key.Block cidr) found.0 (record_of.Block found.1) k.1

pub claiming-given : (known : Known) (store : Datastore) (p : Point) → AreBelow known store → Kept known p → (node : List ℕ) (cidr : CidrValue) (read : Option ℕ) (kept : ℕ) → p ≡ Claiming node cidr read kept → IsGiven store read
claiming-given known store p below h node cidr read kept e =
    let (found, is, k, own) = h.claims_own node cidr read kept e in
    subst (λ (r : Option ℕ). IsGiven store r) is (read-given known store cidr found below k)

pub releasing-given : (known : Known) (store : Datastore) (p : Point) → AreBelow known store → Kept known p → (node : List ℕ) (cidr : CidrValue) (read : Option ℕ) (mark : ℕ) → p ≡ Releasing node cidr read mark → IsGiven store read
releasing-given known store p below h node cidr read mark e =
    let (found, is, k) = h.releasing_read node cidr read mark e in
    subst (λ (r : Option ℕ). IsGiven store r) is (read-given known store cidr found below k)

-- ---- what holds of a store, of one point, and of two

pub record Agreeing (store : Datastore) : Type 0 where
  pub of_block : (node : List ℕ) (cidr : CidrValue) → node_at store cidr ≡ Some node → (state : State) × (state_at store node cidr ≡ Some state)
  pub of_affinity : (node : List ℕ) (cidr : CidrValue) → state_at store node cidr ≡ Some Confirmed → node_at store cidr ≡ Some node

pub record Own (store : Datastore) (p : Point) : Type 0 where
  -- a claimer whose block is as it read it finds its affinity
  pub claiming : (node : List ℕ) (cidr : CidrValue) (read : Option ℕ) (kept : ℕ) → p ≡ Claiming node cidr read kept → IsBlockCurrent store cidr read → (state : State) × (state_at store node cidr ≡ Some state)
  -- one that has written it, and whose affinity is as it keeps it, finds its node in the block
  pub claimed : (node : List ℕ) (cidr : CidrValue) (kept : ℕ) → p ≡ Claimed node cidr kept → IsAffinityCurrent store node cidr kept → node_at store cidr ≡ Some node
  -- a releaser whose block is as it read it finds no confirmed affinity
  pub releasing : (node : List ℕ) (cidr : CidrValue) (read : Option ℕ) (mark : ℕ) → p ≡ Releasing node cidr read mark → IsBlockCurrent store cidr read → state_at store node cidr ≢ Some Confirmed
  -- one that has written it, and whose mark is current, does not find the node in the block
  pub released : (node : List ℕ) (cidr : CidrValue) (mark : ℕ) → p ≡ Released node cidr mark → IsAffinityCurrent store node cidr mark → node_at store cidr ≢ Some node

pub record Apart (store : Datastore) (p q : Point) : Type 0 where
  -- while the one may take the block, the other may not delete the affinity
  pub claiming : (node : List ℕ) (cidr : CidrValue) (read : Option ℕ) (kept mark : ℕ) → p ≡ Claiming node cidr read kept → IsBlockCurrent store cidr read → q ≡ Released node cidr mark → IsAffinityCurrent store node cidr mark → ⊥
  -- while the one may confirm the affinity, the other may not bare the block
  pub claimed : (node : List ℕ) (cidr : CidrValue) (kept : ℕ) (read : Option ℕ) (mark : ℕ) → p ≡ Claimed node cidr kept → IsAffinityCurrent store node cidr kept → q ≡ Releasing node cidr read mark → IsBlockCurrent store cidr read → ⊥

pub record Holds (known : Known) (store : Datastore) (points : ℕ → Point) : Type 0 where
  pub kept : (slot : ℕ) → Kept known (points slot)
  pub agreeing : Agreeing store
  pub own : (slot : ℕ) → Own store (points slot)
  pub apart : (slot other : ℕ) → Apart store (points slot) (points other)

-- ---- nodes that are taken out of a block

pub other-some : (by node : List ℕ) (held : Option (List ℕ)) → other_node by held ≡ Some node → (held ≡ Some node) × (by ≢ node)
other-some by node held e = from (is_node by held) refl e
  where
    from : (b : Bool) → is_node by held ≡ b → cond b None held ≡ Some node → (held ≡ Some node) × (by ≢ node)
    from true is f = absurd (cc f)
    from false is f = (f, λ same. let own : is_node by (Some node) ≡ false = subst (λ (o : Option (List ℕ)). is_node by o ≡ false) f is in let itself : bytes_eq node by ≡ true = (bytes_eq-Decides node by).1 (sym same) in cc (own, itself))

other-stays : (by node : List ℕ) → by ≢ node → other_node by (Some node) ≡ Some node
other-stays by node differ = from (bytes_eq node by) refl
  where
    from : (b : Bool) → bytes_eq node by ≡ b → cond b None (Some node) ≡ Some node
    from true is = absurd (differ (sym ((bytes_eq-Decides node by).0 is)))
    from false is = refl

pub same_or_other : (one other : List ℕ) → (one ≡ other) ⊎ (one ≢ other)
same_or_other one other = from (bytes_eq one other) refl
  where
    from : (b : Bool) → bytes_eq one other ≡ b → (one ≡ other) ⊎ (one ≢ other)
    from true is = inl ((bytes_eq-Decides one other).0 is)
    from false is = inr (λ same. let itself : bytes_eq one other ≡ true = (bytes_eq-Decides one other).1 same in cc (is, itself))

-- ---- over a write, with its mover where it stood

module _ (store next : Datastore) (mover : Point) (at : (node : List ℕ) (cidr : CidrValue) → At store next mover node cidr) (write : Written store next) where
  -- a block that has a node keeps it, unless a releaser of that node bares it
  node-lasts : (node : List ℕ) (cidr : CidrValue) → node_at store cidr ≡ Some node
      → ((read : Option ℕ) (mark : ℕ) → mover ≡ Releasing node cidr read mark → IsBlockCurrent store cidr read → ⊥)
      → node_at next cidr ≡ Some node
  node-lasts node cidr had never = from (at node cidr)
    where
      from : At store next mover node cidr → node_at next cidr ≡ Some node
      from (Stays nodes states) = nodes ∙ had
      from (Sets state other nodes states) = nodes ∙ had
      from (IsConfirmed kept is current nodes states) = nodes ∙ had
      from (IsDeleted mark is current nodes states) = nodes ∙ had
      from (IsTaken by read kept is current (inl nobodys) now states) = cc
      from (IsTaken by read kept is current (inr own) now states) = cc
      from (IsBared by read mark is current now states) = elim (same_or_other by node) [
        | inl same ↦ absurd (never read mark (is ∙ ap (λ (n : List ℕ). Releasing n cidr read mark) same) current)
        | inr differ ↦ now ∙ ap (other_node by) had ∙ other-stays by node differ
      ]

  -- an affinity stays in some state, unless it is deleted by its mark
  state-lasts : (node : List ℕ) (cidr : CidrValue) (state : State) → state_at store node cidr ≡ Some state
      → ((mark : ℕ) → mover ≡ Released node cidr mark → IsAffinityCurrent store node cidr mark → ⊥)
      → (now : State) × (state_at next node cidr ≡ Some now)
  state-lasts node cidr state had never = from (at node cidr)
    where
      from : At store next mover node cidr → (now : State) × (state_at next node cidr ≡ Some now)
      from (Stays nodes states) = (state, states ∙ had)
      from (Sets other differs nodes states) = (other, states)
      from (IsConfirmed kept is current nodes states) = (Confirmed, states)
      from (IsDeleted mark is current nodes states) = absurd (never mark is current)
      from (IsTaken by read kept is current own now states) = (state, states ∙ had)
      from (IsBared by read mark is current now states) = (state, states ∙ had)

  agreeing-lasts : Agreeing store → Own store mover → Agreeing next
  agreeing-lasts h own = record { of_block = of_block; of_affinity = of_affinity }
    where
      of_block : (node : List ℕ) (cidr : CidrValue) → node_at next cidr ≡ Some node → (state : State) × (state_at next node cidr ≡ Some state)
      of_block node cidr has = from (at node cidr)
        where
          had-lasts : node_at store cidr ≡ Some node → (state : State) × (state_at next node cidr ≡ Some state)
          had-lasts had =
              let (state, there) = h.of_block node cidr had in
              state-lasts node cidr state there (λ mark is current. own.released node cidr mark is current had)

          from : At store next mover node cidr → (state : State) × (state_at next node cidr ≡ Some state)
          from (Stays nodes states) = had-lasts (sym nodes ∙ has)
          from (Sets other differs nodes states) = had-lasts (sym nodes ∙ has)
          from (IsConfirmed kept is current nodes states) = had-lasts (sym nodes ∙ has)
          from (IsDeleted mark is current nodes states) = had-lasts (sym nodes ∙ has)
          from (IsTaken by read kept is current free now states) =
              let same : by ≡ node = cc in
              let (state, there) = own.claiming by cidr read kept is current in
              (state, states ∙ (ap (λ (n : List ℕ). state_at store n cidr) (sym same) ∙ there))
          from (IsBared by read mark is current now states) = had-lasts (other-some by node (node_at store cidr) (sym now ∙ has)).0

      of_affinity : (node : List ℕ) (cidr : CidrValue) → state_at next node cidr ≡ Some Confirmed → node_at next cidr ≡ Some node
      of_affinity node cidr has = from (at node cidr)
        where
          had-lasts : state_at store node cidr ≡ Some Confirmed → node_at next cidr ≡ Some node
          had-lasts had = node-lasts node cidr (h.of_affinity node cidr had) (λ read mark is current. own.releasing node cidr read mark is current had)

          from : At store next mover node cidr → node_at next cidr ≡ Some node
          from (Stays nodes states) = had-lasts (sym states ∙ has)
          from (Sets other differs nodes states) = absurd (differs (cc (states, has)))
          from (IsConfirmed kept is current nodes states) = nodes ∙ own.claimed node cidr kept is current
          from (IsDeleted mark is current nodes states) = absurd (cc (states, has))
          from (IsTaken by read kept is current free now states) = had-lasts (sym states ∙ has)
          from (IsBared by read mark is current now states) = had-lasts (sym states ∙ has)

  own-lasts : (known : Known) (p : Point) → AreBelow known store → Kept known p → Own store p → Apart store p mover → Apart store mover p → Own next p
  own-lasts known p below kept h before behind = record {
    claiming = λ node cidr read k is current.
        let was = block-before store next write cidr read (claiming-given known store p below kept node cidr read k is) current in
        let (state, there) = h.claiming node cidr read k is was in
        state-lasts node cidr state there (λ mark other marked. before.claiming node cidr read k mark is was other marked);
    claimed = λ node cidr k is current.
        let (state, known_at_k, differs) = kept.claimed_kept node cidr k is in
        let was = revision-before store next write (key.Affinity node cidr) k (below.below (key.Affinity node cidr) k (record_of.Affinity (affinity node cidr state)) known_at_k) current in
        node-lasts node cidr (h.claimed node cidr k is was) (λ read mark other unchanged. before.claimed node cidr k read mark is was other unchanged);
    releasing = λ node cidr read mark is current has.
        let was = block-before store next write cidr read (releasing-given known store p below kept node cidr read mark is) current in
        not-confirmed node cidr read mark is was has (at node cidr);
    released = λ node cidr mark is current has.
        let known_at_mark = kept.released_marks node cidr mark is in
        let was = revision-before store next write (key.Affinity node cidr) mark (below.below (key.Affinity node cidr) mark (record_of.Affinity (affinity node cidr PendingDeletion)) known_at_mark) current in
        not-there node cidr mark is was has (at node cidr);
  }
    where
      not-confirmed : (node : List ℕ) (cidr : CidrValue) (read : Option ℕ) (mark : ℕ) → p ≡ Releasing node cidr read mark → IsBlockCurrent store cidr read → state_at next node cidr ≡ Some Confirmed → At store next mover node cidr → ⊥
      not-confirmed node cidr read mark is was has (Stays nodes states) = h.releasing node cidr read mark is was (sym states ∙ has)
      not-confirmed node cidr read mark is was has (Sets other differs nodes states) = differs (cc (states, has))
      not-confirmed node cidr read mark is was has (IsConfirmed k by current nodes states) = behind.claimed node cidr k read mark by current is was
      not-confirmed node cidr read mark is was has (IsDeleted gone by current nodes states) = cc (states, has)
      not-confirmed node cidr read mark is was has (IsTaken by read' k other current free now states) = h.releasing node cidr read mark is was (sym states ∙ has)
      not-confirmed node cidr read mark is was has (IsBared by read' mark' other current now states) = h.releasing node cidr read mark is was (sym states ∙ has)

      not-there : (node : List ℕ) (cidr : CidrValue) (mark : ℕ) → p ≡ Released node cidr mark → IsAffinityCurrent store node cidr mark → node_at next cidr ≡ Some node → At store next mover node cidr → ⊥
      not-there node cidr mark is was has (Stays nodes states) = h.released node cidr mark is was (sym nodes ∙ has)
      not-there node cidr mark is was has (Sets other differs nodes states) = h.released node cidr mark is was (sym nodes ∙ has)
      not-there node cidr mark is was has (IsConfirmed k by current nodes states) = h.released node cidr mark is was (sym nodes ∙ has)
      not-there node cidr mark is was has (IsDeleted gone by current nodes states) = h.released node cidr mark is was (sym nodes ∙ has)
      not-there node cidr mark is was has (IsTaken by read k other current free now states) =
          let same : by ≡ node = cc in
          behind.claiming node cidr read k mark (other ∙ ap (λ (n : List ℕ). Claiming n cidr read k) same) current is was
      not-there node cidr mark is was has (IsBared by read mark' other current now states) = h.released node cidr mark is was (other-some by node (node_at store cidr) (sym now ∙ has)).0

  apart-lasts : (known : Known) (p q : Point) → AreBelow known store → Kept known p → Kept known q → Apart store p q → Apart next p q
  apart-lasts known p q below kept marked h = record {
    claiming = λ node cidr read k mark is current other current'.
        let was = block-before store next write cidr read (claiming-given known store p below kept node cidr read k is) current in
        let was' = revision-before store next write (key.Affinity node cidr) mark (below.below (key.Affinity node cidr) mark (record_of.Affinity (affinity node cidr PendingDeletion)) (marked.released_marks node cidr mark other)) current' in
        h.claiming node cidr read k mark is was other was';
    claimed = λ node cidr k read mark is current other current'.
        let (state, known_at_k, differs) = kept.claimed_kept node cidr k is in
        let was = revision-before store next write (key.Affinity node cidr) k (below.below (key.Affinity node cidr) k (record_of.Affinity (affinity node cidr state)) known_at_k) current in
        let was' = block-before store next write cidr read (releasing-given known store q below marked node cidr read mark other) current' in
        h.claimed node cidr k read mark is was other was';
  }

  pub written-holds : (known other : Known) (points : ℕ → Point) (slot : ℕ) → mover ≡ points slot → AreBelow known store → Grows known other → Holds known store points → Holds other next points
  written-holds known other points slot is below grows h = record {
    kept = λ s. kept-grows known other (points s) grows (h.kept s);
    agreeing = agreeing-lasts h.agreeing (subst (λ (p : Point). Own store p) (sym is) (h.own slot));
    own = λ s. own-lasts known (points s) below (h.kept s) (h.own s)
        (subst (λ (p : Point). Apart store (points s) p) (sym is) (h.apart s slot))
        (subst (λ (p : Point). Apart store p (points s)) (sym is) (h.apart slot s));
    apart = λ s t. apart-lasts known (points s) (points t) below (h.kept s) (h.kept t) (h.apart s t);
  }
