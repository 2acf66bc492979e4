-- What each kind of step makes of the blocks.
use Rattle.std.proofs.Common.{◌≡◌, ◌≢◌, ◌⊎◌, inl, inr, ℕ, zero, suc, ◌+◌, Bool, List, [], ◌∷◌, Some, None, refl, sym, ap, ◌∙◌, subst, arith}
use Rattle.std.specs.Prelude.{Contains, insert, not}
use Rattle.ipam_addr.specs.Shape.{CidrValue}
use Rattle.ipam_block.specs.declared.allocation.Allocation.{Allocation}
use Rattle.ipam_block.specs.declared.allocation.Attributes.{Attributes}
use Rattle.ipam_block.specs.Operations.{next_block, block_with_ordinal, block_without}
use Rattle.ipam_block.specs.Shape.{BlockValue}
use Rattle.ipam_records.specs.declared.call.Write.TheVariants.{Remove}
use Rattle.ipam_records.specs.declared.key.Key.{Key}
use Rattle.ipam_records.specs.declared.key.Key.TheVariants as key
use Rattle.ipam_records.specs.declared.record.Record.{Record}
use Rattle.ipam_records.specs.declared.record.Record.TheVariants as record_of
use Rattle.ipam_records.specs.Datastore.{Datastore, reply_to_get, row_of, written}
use Rattle.ipam_records.specs.Key.{key_of}
use Rattle.ipam_records.specs.Label.{CallLabel}
use Rattle.ipam_records.proofs.DatastoreLemmas.{row_of-with_row-other, row_of-without_row-other}
use Rattle.ipam_model.specs.declared.request.Admin.{Admin}
use Rattle.ipam_model.specs.declared.request.Admin.TheVariants as change_of
use Rattle.ipam_model.specs.Admin.{key_changed}
use Rattle.ipam_model.specs.Affinities.{BlockRead}
use Rattle.ipam_model.specs.AffinityLaw.{HasAt}
use Rattle.ipam_laws.proofs.Lift.{Known}
use Rattle.ipam_laws.proofs.Members.{in-cons, in-filter, in-nothing}
use Rattle.ipam_laws.proofs.RequestSteps.{key-changed}
use Rattle.ipam_laws.proofs.Steps.{IsAsRead, IsPut, taken, bared, Step, Idles, Owes, Finds, Starts, Takes, Confirms, Marks, Looks, Bares, Deletes, Raises, Lowers, LowersOut, Frees, Assigns, Changes}

-- ---- a block's next write

-- the block's next write, of which each allocation was there or has the new sequence number
pub record IsNextBlock (old new : BlockValue) : Type 0 where
  pub counted : new.sequence ≡ old.sequence + 1
  pub held : (a : Allocation) → Contains new.allocations a → Contains old.allocations a ⊎ (a.stamp ≡ old.sequence + 1)

-- a block that was missing, with nothing held, or the next write of one that was there
abbrev pub IsBlockWrite : Datastore → BlockValue → Type 0
IsBlockWrite store new =
    (row_of (key.Block new.cidr) store.rows ≡ None)
    ⊎ ((revision : ℕ) × (old : BlockValue) × HasAt store (key.Block new.cidr) revision (record_of.Block old) × IsNextBlock old new)

pub data BlockStep (store next : Datastore) : Type 0 where
  Leaves : ((cidr : CidrValue) → row_of (key.Block cidr) next.rows ≡ row_of (key.Block cidr) store.rows) → BlockStep store next
  Writes : (new : BlockValue) → IsPut store next (record_of.Block new) → IsBlockWrite store new → BlockStep store next

stays : (store next : Datastore) → next ≡ store → BlockStep store next
stays store next e = Leaves (λ cidr. ap (λ (s : Datastore). row_of (key.Block cidr) s.rows) e)

-- a key that is no block's
abbrev pub IsNoBlock : Key → Type 0
IsNoBlock (key.Block cidr) = ⊥
IsNoBlock _ = Unit {0}

no-block : (k : Key) (cidr : CidrValue) → IsNoBlock k → k ≢ key.Block cidr
no-block k cidr h e = subst (λ (x : Key). IsNoBlock x) e h

puts : (store next : Datastore) (new : Record) → IsPut store next new → IsNoBlock (key_of new) → BlockStep store next
puts store next new e h = Leaves (λ cidr.
    ap (λ (s : Datastore). row_of (key.Block cidr) s.rows) e
    ∙ row_of-with_row-other (key.Block cidr) (store.counter + 1, new) store.rows (no-block (key_of new) cidr h))

removes : (store next : Datastore) (gone : Key) → next ≡ written store (Remove (store.counter + 1) gone) → IsNoBlock gone → BlockStep store next
removes store next gone e h = Leaves (λ cidr.
    ap (λ (s : Datastore). row_of (key.Block cidr) s.rows) e
    ∙ row_of-without_row-other (key.Block cidr) gone store.rows (no-block gone cidr h))

-- ---- the writes of a block

taken-writes : (store : Datastore) (node : List ℕ) (cidr : CidrValue) (read : BlockRead) → IsAsRead store cidr read → IsBlockWrite store (taken node cidr read)
taken-writes store node cidr None there = inl there
taken-writes store node cidr (Some (revision, b)) (same, there) =
    inr (revision, b, subst (λ (x : CidrValue). HasAt store (key.Block x) revision (record_of.Block b)) (sym same) there, record { counted = refl; held = λ a among. inl among })

bared-writes : (store : Datastore) (node : List ℕ) (cidr : CidrValue) (read : BlockRead) → IsAsRead store cidr read → IsBlockWrite store (bared node cidr read)
bared-writes store node cidr None there = inl there
bared-writes store node cidr (Some (revision, b)) (same, there) =
    inr (revision, b, subst (λ (x : CidrValue). HasAt store (key.Block x) revision (record_of.Block b)) (sym same) there, record { counted = refl; held = λ a among. inl among })

freed-next : (picks : Allocation → Bool) (b : BlockValue) → IsNextBlock b (block_without picks (next_block b))
freed-next picks b = record { counted = refl; held = λ a among. inl (in-filter (λ x. not (picks x)) a b.allocations among).0 }

-- an inserted element, or one that was there
pub in-insert : {X : Type 0} → (xs : List X) (place : ℕ) (x y : X) → Contains (insert xs place x) y → (x ≡ y) ⊎ Contains xs y
in-insert xs zero x y h = in-cons y x xs h
in-insert [] (suc place) x y h = elim (in-cons y x [] h) [ inl is ↦ inl is | inr none ↦ absurd (in-nothing y none) ]
in-insert (z ∷ zs) (suc place) x y h = elim (in-cons y z (insert zs place x) h) [
  | inl is ↦ inr (zero, omega arith, is)
  | inr there ↦ elim (in-insert zs place x y there) [
    | inl is ↦ inl is
    | inr (k, below, is) ↦ inr (suc k, omega arith, is)
  ]
]

assigned-next : (b : BlockValue) (ordinal : ℕ) (attributes : Attributes) → IsNextBlock b (block_with_ordinal (next_block b) ordinal attributes)
assigned-next b ordinal attributes = record {
  counted = refl;
  held = λ a among. elim (in-insert b.allocations _ _ a among) [
    | inl is ↦ inr (ap (λ (x : Allocation). x.stamp) (sym is))
    | inr there ↦ inl there
  ];
}

-- ---- all kinds

pub changed-no-block : (request : Admin) → IsNoBlock (key_changed request)
changed-no-block (change_of.Pool pool) = tt
changed-no-block (change_of.Disable name disabled) = tt
changed-no-block (change_of.Reserve new) = tt
changed-no-block (change_of.Unreserve name) = tt
changed-no-block (change_of.Config config) = tt

pub step-blocks : (known : Known) (store next : Datastore) (label after : CallLabel) → Step known store next label after → BlockStep store next
step-blocks known store next label after (Idles a b) = stays store next a
step-blocks known store next label after (Owes credit a b c) = stays store next a
step-blocks known store next label after (Finds tie read kept state a b c d e f) = stays store next a
step-blocks known store next label after (Starts tie read a b c d) = puts store next _ a tt
step-blocks known store next label after (Takes tie read kept a b c d e) = Writes (taken tie.node tie.block read) a (taken-writes store tie.node tie.block read d)
step-blocks known store next label after (Confirms tie kept found a b c d) = puts store next _ a tt
step-blocks known store next label after (Marks tie revision found a b c d) = puts store next _ a tt
step-blocks known store next label after (Looks tie read mark a b c d e) = stays store next a
step-blocks known store next label after (Bares tie read mark a b c d e) = Writes (bared tie.node tie.block read) a (bared-writes store tie.node tie.block read d)
step-blocks known store next label after (Deletes tie mark found a b c d) = removes store next (key.Affinity tie.node tie.block) a tt
step-blocks known store next label after (Raises id cidr h a b c d e f) = puts store next _ a tt
step-blocks known store next label after (Lowers credit h revision first rest a b c d e f) = puts store next _ a tt
step-blocks known store next label after (LowersOut credit h revision a b c d e f) = removes store next (key.Handle h.id) a tt
step-blocks known store next label after (Frees what amount revision b s t u v w x y) =
    Writes (block_without what.picks (next_block b)) s
    (inr (revision, b, subst (λ (x : CidrValue). HasAt store (key.Block x) revision (record_of.Block b)) (sym w) v, freed-next what.picks b))
step-blocks known store next label after (Assigns attributes target a b c d e f) =
    Writes (block_with_ordinal (next_block target.block) target.ordinal attributes) a
    (inr (target.revision, target.block, d, assigned-next target.block target.ordinal attributes))
step-blocks known store next label after (Changes request new a b c d e) =
    puts store next new a (subst (λ (k : Key). IsNoBlock k) (sym (key-changed request (reply_to_get (row_of (key_changed request) store.rows)) new d)) (changed-no-block request))
