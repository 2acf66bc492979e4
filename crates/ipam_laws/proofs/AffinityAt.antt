-- What a step makes of a block's node and of an affinity's state, and what was current before it.
use Rattle.std.proofs.Common.{◌≡◌, ◌≢◌, ◌⊎◌, ℕ, ◌+◌, inl, inr, List, Option, Some, None, refl, sym, ap, ◌∙◌, subst}
use Rattle.ipam_addr.specs.Shape.{CidrValue}
use Rattle.ipam_block.specs.declared.state.State.{State}
use Rattle.ipam_block.specs.declared.state.State.TheVariants.{Pending, Confirmed, PendingDeletion}
use Rattle.ipam_block.specs.Shape as block
use Rattle.ipam_records.specs.declared.call.Write.TheVariants.{Remove}
use Rattle.ipam_records.specs.declared.key.Key.{Key}
use Rattle.ipam_records.specs.declared.key.Key.TheVariants as key
use Rattle.ipam_records.specs.declared.record.Record.{Record}
use Rattle.ipam_records.specs.declared.record.Record.TheVariants as record_of
use Rattle.ipam_records.specs.Datastore.{Datastore, reply_to_get, row_of, written}
use Rattle.ipam_records.specs.Key.{key_of}
use Rattle.ipam_records.specs.Label.{CallLabel, Point, Claiming, Claimed, Releasing, Released}
use Rattle.ipam_records.proofs.DatastoreLemmas.{row_of-with_row, row_of-with_row-other, row_of-without_row, row_of-without_row-other}
use Rattle.ipam_model.specs.Admin.{key_changed}
use Rattle.ipam_model.specs.Affinities.{BlockRead, Tie, affinity, other_node, revision_read}
use Rattle.ipam_model.specs.AffinityLaw.{HasAt, IsBlockCurrent, IsAffinityCurrent}
use Rattle.ipam_model.specs.Moments.{revision_of}
use Rattle.ipam_model.specs.Reads.{StoredRecord}
use Rattle.ipam_laws.proofs.Lift.{Known}
use Rattle.ipam_laws.proofs.OneRecord.{key_cases}
use Rattle.ipam_laws.proofs.RequestSteps.{IsUntied, changed-untied}
use Rattle.ipam_laws.proofs.Steps.{IsAsRead, IsOwnOrNobodys, IsPut, taken, bared, Step, Idles, Owes, Finds, Starts, Takes, Confirms, Marks, Looks, Bares, Deletes, Raises, Lowers, LowersOut, Frees, Assigns, Changes}

-- ---- a block's node, and an affinity's state

abbrev pub node_in_row : Option StoredRecord → Option (List ℕ)
node_in_row (Some (revision, record_of.Block b)) = b.node
node_in_row _ = None

-- the node of the block of this CIDR, where it is there and has one
abbrev pub node_at : Datastore → CidrValue → Option (List ℕ)
node_at store cidr = node_in_row (row_of (key.Block cidr) store.rows)

abbrev pub state_in_row : Option StoredRecord → Option State
state_in_row (Some (revision, record_of.Affinity a)) = Some a.state
state_in_row _ = None

-- the state of the node's affinity to the block, where it is there
abbrev pub state_at : Datastore → List ℕ → CidrValue → Option State
state_at store node cidr = state_in_row (row_of (key.Affinity node cidr) store.rows)

-- ---- rows after a write

pub put-at : (store next : Datastore) (new : Record) → IsPut store next new → row_of (key_of new) next.rows ≡ Some (store.counter + 1, new)
put-at store next new e = ap (λ (s : Datastore). row_of (key_of new) s.rows) e ∙ row_of-with_row (store.counter + 1, new) store.rows

pub put-beside : (store next : Datastore) (new : Record) (k : Key) → IsPut store next new → key_of new ≢ k → row_of k next.rows ≡ row_of k store.rows
put-beside store next new k e other = ap (λ (s : Datastore). row_of k s.rows) e ∙ row_of-with_row-other k (store.counter + 1, new) store.rows other

pub gone-beside : (store next : Datastore) (gone k : Key) → next ≡ written store (Remove (store.counter + 1) gone) → gone ≢ k → row_of k next.rows ≡ row_of k store.rows
gone-beside store next gone k e other = ap (λ (s : Datastore). row_of k s.rows) e ∙ row_of-without_row-other k gone store.rows other

-- ---- what a step makes of one block and one affinity

-- the mover stands at the point
pub data At (store next : Datastore) (from : Point) (node : List ℕ) (cidr : CidrValue) : Type 0 where
  Stays : node_at next cidr ≡ node_at store cidr → state_at next node cidr ≡ state_at store node cidr → At store next from node cidr
  Sets : (state : State) → state ≢ Confirmed → node_at next cidr ≡ node_at store cidr → state_at next node cidr ≡ Some state → At store next from node cidr
  IsConfirmed : (kept : ℕ) → from ≡ Claimed node cidr kept → IsAffinityCurrent store node cidr kept → node_at next cidr ≡ node_at store cidr → state_at next node cidr ≡ Some Confirmed → At store next from node cidr
  IsDeleted : (mark : ℕ) → from ≡ Released node cidr mark → IsAffinityCurrent store node cidr mark → node_at next cidr ≡ node_at store cidr → state_at next node cidr ≡ None → At store next from node cidr
  IsTaken : (by : List ℕ) (read : Option ℕ) (kept : ℕ) → from ≡ Claiming by cidr read kept → IsBlockCurrent store cidr read → (node_at store cidr ≡ None) ⊎ (node_at store cidr ≡ Some by)
      → node_at next cidr ≡ Some by → state_at next node cidr ≡ state_at store node cidr → At store next from node cidr
  IsBared : (by : List ℕ) (read : Option ℕ) (mark : ℕ) → from ≡ Releasing by cidr read mark → IsBlockCurrent store cidr read
      → node_at next cidr ≡ other_node by (node_at store cidr) → state_at next node cidr ≡ state_at store node cidr → At store next from node cidr

-- a write of an affinity: of this one, or of another
put-affinity : (store next : Datastore) (tie : Tie) (state : State) (node : List ℕ) (cidr : CidrValue) → IsPut store next (record_of.Affinity (affinity tie.node tie.block state))
    → (node_at next cidr ≡ node_at store cidr) × (((tie.node ≡ node) × (tie.block ≡ cidr) × (state_at next node cidr ≡ Some state)) ⊎ (state_at next node cidr ≡ state_at store node cidr))
put-affinity store next tie state node cidr e = (
  ap node_in_row (put-beside store next (record_of.Affinity (affinity tie.node tie.block state)) (key.Block cidr) e (λ f. cc f)),
  elim (key_cases (key.Affinity tie.node tie.block) (key.Affinity node cidr)) [
    | inl same ↦
        let at = ap state_in_row (put-at store next (record_of.Affinity (affinity tie.node tie.block state)) e) in
        let a : tie.node ≡ node = cc in
        let b : tie.block ≡ cidr = cc in
        inl (a, b, ap (λ (k : Key). state_in_row (row_of k next.rows)) (sym same) ∙ at)
    | inr other ↦ inr (ap state_in_row (put-beside store next (record_of.Affinity (affinity tie.node tie.block state)) (key.Affinity node cidr) e other))
  ],
)

-- its deletion
gone-affinity : (store next : Datastore) (tie : Tie) (node : List ℕ) (cidr : CidrValue) → next ≡ written store (Remove (store.counter + 1) (key.Affinity tie.node tie.block))
    → (node_at next cidr ≡ node_at store cidr) × (((tie.node ≡ node) × (tie.block ≡ cidr) × (state_at next node cidr ≡ None)) ⊎ (state_at next node cidr ≡ state_at store node cidr))
gone-affinity store next tie node cidr e = (
  ap node_in_row (gone-beside store next (key.Affinity tie.node tie.block) (key.Block cidr) e (λ f. cc f)),
  elim (key_cases (key.Affinity tie.node tie.block) (key.Affinity node cidr)) [
    | inl same ↦
        let at = ap (λ (s : Datastore). row_of (key.Affinity tie.node tie.block) s.rows) e ∙ row_of-without_row (key.Affinity tie.node tie.block) store.rows in
        let a : tie.node ≡ node = cc in
        let b : tie.block ≡ cidr = cc in
        inl (a, b, ap (λ (k : Key). state_in_row (row_of k next.rows)) (sym same) ∙ ap state_in_row at)
    | inr other ↦ inr (ap state_in_row (gone-beside store next (key.Affinity tie.node tie.block) (key.Affinity node cidr) e other))
  ],
)

-- a write of a block: of this one, or of another
put-block : (store next : Datastore) (b : block.BlockValue) (node : List ℕ) (cidr : CidrValue) → IsPut store next (record_of.Block b)
    → (state_at next node cidr ≡ state_at store node cidr) × (((b.cidr ≡ cidr) × (node_at next cidr ≡ b.node)) ⊎ (node_at next cidr ≡ node_at store cidr))
put-block store next b node cidr e = (
  ap state_in_row (put-beside store next (record_of.Block b) (key.Affinity node cidr) e (λ f. cc f)),
  elim (key_cases (key.Block b.cidr) (key.Block cidr)) [
    | inl same ↦
        let at = ap node_in_row (put-at store next (record_of.Block b) e) in
        let a : b.cidr ≡ cidr = cc in
        inl (a, ap (λ (k : Key). node_in_row (row_of k next.rows)) (sym same) ∙ at)
    | inr other ↦ inr (ap node_in_row (put-beside store next (record_of.Block b) (key.Block cidr) e other))
  ],
)

-- a write of neither
beside-at : (store next : Datastore) (from : Point) (node : List ℕ) (cidr : CidrValue) → row_of (key.Block cidr) next.rows ≡ row_of (key.Block cidr) store.rows → row_of (key.Affinity node cidr) next.rows ≡ row_of (key.Affinity node cidr) store.rows → At store next from node cidr
beside-at store next from node cidr b a = Stays (ap node_in_row b) (ap state_in_row a)

same-at : (store next : Datastore) (from : Point) (node : List ℕ) (cidr : CidrValue) → next ≡ store → At store next from node cidr
same-at store next from node cidr e = beside-at store next from node cidr (ap (λ (s : Datastore). row_of (key.Block cidr) s.rows) e) (ap (λ (s : Datastore). row_of (key.Affinity node cidr) s.rows) e)

untied-at : (store next : Datastore) (from : Point) (node : List ℕ) (cidr : CidrValue) (new : Record) → IsPut store next new → IsUntied (key_of new) → At store next from node cidr
untied-at store next from node cidr new e setting =
    beside-at store next from node cidr
    (put-beside store next new (key.Block cidr) e (λ f. subst (λ (k : Key). IsUntied k) f setting))
    (put-beside store next new (key.Affinity node cidr) e (λ f. subst (λ (k : Key). IsUntied k) f setting))

set-at : (store next : Datastore) (from : Point) (node : List ℕ) (cidr : CidrValue) (tie : Tie) (state : State) → state ≢ Confirmed → IsPut store next (record_of.Affinity (affinity tie.node tie.block state)) → At store next from node cidr
set-at store next from node cidr tie state other e =
    let (nodes, states) = put-affinity store next tie state node cidr e in
    elim states [ inl own ↦ Sets state other nodes own.2 | inr same ↦ Stays nodes same ]

-- a block whose node stays
touch-at : (store next : Datastore) (from : Point) (node : List ℕ) (cidr : CidrValue) (revision : ℕ) (old b : block.BlockValue) → IsPut store next (record_of.Block b) → HasAt store (key.Block old.cidr) revision (record_of.Block old) → b.cidr ≡ old.cidr → b.node ≡ old.node → At store next from node cidr
touch-at store next from node cidr revision old b e there same nodes =
    let (states, now) = put-block store next b node cidr e in
    elim now [
      | inl own ↦
          let before = ap node_in_row there in
          let at : node_at store old.cidr ≡ node_at store cidr = ap (node_at store) (sym same ∙ own.0) in
          Stays (own.1 ∙ nodes ∙ sym before ∙ at) states
      | inr beside ↦ Stays beside states
    ]

-- ---- a block as it was read

as_read-current : (store : Datastore) (cidr : CidrValue) (read : BlockRead) → IsAsRead store cidr read → IsBlockCurrent store cidr (revision_read read)
as_read-current store cidr None h = rw h refl
as_read-current store cidr (Some found) h = rw h.1 refl

as_read-own : (store : Datastore) (node : List ℕ) (cidr : CidrValue) (read : BlockRead) → IsAsRead store cidr read → IsOwnOrNobodys node read → (node_at store cidr ≡ None) ⊎ (node_at store cidr ≡ Some node)
as_read-own store node cidr None h own = inl (ap node_in_row h)
as_read-own store node cidr (Some found) h (inl nobodys) = inl (ap node_in_row h.1 ∙ nobodys)
as_read-own store node cidr (Some found) h (inr own) = inr (ap node_in_row h.1 ∙ own)

pub taken-cidr : (store : Datastore) (node : List ℕ) (cidr : CidrValue) (read : BlockRead) → IsAsRead store cidr read → (taken node cidr read).cidr ≡ cidr
taken-cidr store node cidr None h = refl
taken-cidr store node cidr (Some found) h = h.0

pub taken-node : (node : List ℕ) (cidr : CidrValue) (read : BlockRead) → (taken node cidr read).node ≡ Some node
taken-node node cidr None = refl
taken-node node cidr (Some found) = refl

pub bared-cidr : (store : Datastore) (node : List ℕ) (cidr : CidrValue) (read : BlockRead) → IsAsRead store cidr read → (bared node cidr read).cidr ≡ cidr
bared-cidr store node cidr None h = refl
bared-cidr store node cidr (Some found) h = h.0

pub bared-node : (store : Datastore) (node : List ℕ) (cidr : CidrValue) (read : BlockRead) → IsAsRead store cidr read → (bared node cidr read).node ≡ other_node node (node_at store cidr)
bared-node store node cidr None h = ap (other_node node) (sym (ap node_in_row h))
bared-node store node cidr (Some found) h = ap (other_node node) (sym (ap node_in_row h.1))

take-at : (store next : Datastore) (from : Point) (node : List ℕ) (cidr : CidrValue) (tie : Tie) (read : BlockRead) (kept : ℕ) → IsPut store next (record_of.Block (taken tie.node tie.block read)) → from ≡ Claiming tie.node tie.block (revision_read read) kept → IsAsRead store tie.block read → IsOwnOrNobodys tie.node read → At store next from node cidr
take-at store next from node cidr tie read kept e at there own =
    let (states, now) = put-block store next (taken tie.node tie.block read) node cidr e in
    elim now [
      | inl here ↦
          let same : tie.block ≡ cidr = sym (taken-cidr store tie.node tie.block read there) ∙ here.0 in
          IsTaken tie.node (revision_read read) kept
          (at ∙ ap (λ (x : CidrValue). Claiming tie.node x (revision_read read) kept) same)
          (subst (λ (x : CidrValue). IsBlockCurrent store x (revision_read read)) same (as_read-current store tie.block read there))
          (subst (λ (x : CidrValue). (node_at store x ≡ None) ⊎ (node_at store x ≡ Some tie.node)) same (as_read-own store tie.node tie.block read there own))
          (here.1 ∙ taken-node tie.node tie.block read) states
      | inr beside ↦ Stays beside states
    ]

bare-at : (store next : Datastore) (from : Point) (node : List ℕ) (cidr : CidrValue) (tie : Tie) (read : BlockRead) (mark : ℕ) → IsPut store next (record_of.Block (bared tie.node tie.block read)) → from ≡ Releasing tie.node tie.block (revision_read read) mark → IsAsRead store tie.block read → At store next from node cidr
bare-at store next from node cidr tie read mark e at there =
    let (states, now) = put-block store next (bared tie.node tie.block read) node cidr e in
    elim now [
      | inl here ↦
          let same : tie.block ≡ cidr = sym (bared-cidr store tie.node tie.block read there) ∙ here.0 in
          IsBared tie.node (revision_read read) mark
          (at ∙ ap (λ (x : CidrValue). Releasing tie.node x (revision_read read) mark) same)
          (subst (λ (x : CidrValue). IsBlockCurrent store x (revision_read read)) same (as_read-current store tie.block read there))
          (here.1 ∙ bared-node store tie.node tie.block read there ∙ ap (λ (x : CidrValue). other_node tie.node (node_at store x)) same) states
      | inr beside ↦ Stays beside states
    ]

-- what is there is at its revision
pub there-current : (store : Datastore) (k : Key) (revision : ℕ) (found : Record) → HasAt store k revision found → revision_of store k ≡ Some revision
there-current store k revision found h = rw h refl

confirm-at : (store next : Datastore) (from : Point) (node : List ℕ) (cidr : CidrValue) (tie : Tie) (kept : ℕ) (found : Record) → IsPut store next (record_of.Affinity (affinity tie.node tie.block Confirmed)) → from ≡ Claimed tie.node tie.block kept → HasAt store (key.Affinity tie.node tie.block) kept found → At store next from node cidr
confirm-at store next from node cidr tie kept found e at there =
    let (nodes, states) = put-affinity store next tie Confirmed node cidr e in
    let current = there-current store (key.Affinity tie.node tie.block) kept found there in
    elim states [
      | inl own ↦
          let k : key.Affinity tie.node tie.block ≡ key.Affinity node cidr = λ i. key.Affinity (own.0 i) (own.1 i) in
          IsConfirmed kept (at ∙ (λ i. Claimed (own.0 i) (own.1 i) kept)) (subst (λ (x : Key). revision_of store x ≡ Some kept) k current) nodes own.2
      | inr same ↦ Stays nodes same
    ]

delete-at : (store next : Datastore) (from : Point) (node : List ℕ) (cidr : CidrValue) (tie : Tie) (mark : ℕ) (found : Record) → next ≡ written store (Remove (store.counter + 1) (key.Affinity tie.node tie.block)) → from ≡ Released tie.node tie.block mark → HasAt store (key.Affinity tie.node tie.block) mark found → At store next from node cidr
delete-at store next from node cidr tie mark found e at there =
    let (nodes, states) = gone-affinity store next tie node cidr e in
    let current = there-current store (key.Affinity tie.node tie.block) mark found there in
    elim states [
      | inl own ↦
          let k : key.Affinity tie.node tie.block ≡ key.Affinity node cidr = λ i. key.Affinity (own.0 i) (own.1 i) in
          IsDeleted mark (at ∙ (λ i. Released (own.0 i) (own.1 i) mark)) (subst (λ (x : Key). revision_of store x ≡ Some mark) k current) nodes own.2
      | inr same ↦ Stays nodes same
    ]

-- ---- every step

point-is : (label other : CallLabel) → label ≡ other → label.point ≡ other.point
point-is label other e = ap (λ (l : CallLabel). l.point) e

pub step-at : (known : Known) (store next : Datastore) (label after : CallLabel) → Step known store next label after → (node : List ℕ) (cidr : CidrValue) → At store next label.point node cidr
step-at known store next label after (Idles a b) node cidr = same-at store next label.point node cidr a
step-at known store next label after (Owes credit a b c) node cidr = same-at store next label.point node cidr a
step-at known store next label after (Finds tie read kept state a b c d e f) node cidr = same-at store next label.point node cidr a
step-at known store next label after (Starts tie read a b c d) node cidr = set-at store next label.point node cidr tie Pending (λ f. cc f) a
step-at known store next label after (Takes tie read kept a b c d e) node cidr = take-at store next label.point node cidr tie read kept a (point-is label _ b) d e.own
step-at known store next label after (Confirms tie kept found a b c d) node cidr = confirm-at store next label.point node cidr tie kept found a (point-is label _ b) d
step-at known store next label after (Marks tie revision found a b c d) node cidr = set-at store next label.point node cidr tie PendingDeletion (λ f. cc f) a
step-at known store next label after (Looks tie read mark a b c d e) node cidr = same-at store next label.point node cidr a
step-at known store next label after (Bares tie read mark a b c d e) node cidr = bare-at store next label.point node cidr tie read mark a (point-is label _ b) d
step-at known store next label after (Deletes tie mark found a b c d) node cidr = delete-at store next label.point node cidr tie mark found a (point-is label _ b) d
step-at known store next label after (Raises id block_cidr h a b c d e f) node cidr = untied-at store next label.point node cidr _ a tt
step-at known store next label after (Lowers credit h revision first rest a b c d e f) node cidr = untied-at store next label.point node cidr _ a tt
step-at known store next label after (LowersOut credit h revision a b c d e f) node cidr =
    beside-at store next label.point node cidr (gone-beside store next (key.Handle h.id) (key.Block cidr) a (λ g. cc g)) (gone-beside store next (key.Handle h.id) (key.Affinity node cidr) a (λ g. cc g))
step-at known store next label after (Frees what amount revision b s t u v w x y) node cidr =
    touch-at store next label.point node cidr revision b _ s (subst (λ (z : CidrValue). HasAt store (key.Block z) revision (record_of.Block b)) (sym w) v) refl refl
step-at known store next label after (Assigns attributes target a b c d e f) node cidr = touch-at store next label.point node cidr target.revision target.block _ a d refl refl
step-at known store next label after (Changes request new a b c d e) node cidr =
    untied-at store next label.point node cidr new a (changed-untied request (reply_to_get (row_of (key_changed request) store.rows)) new d)
