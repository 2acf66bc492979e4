-- Over every history pools only grow, and blocks and affinities stay at slots; so the records stay
-- consistent.
use Rattle.std.proofs.Common.{◌≡◌, ◌≢◌, ℕ, ◌+◌, inl, inr, Bool, true, false, cond, List, [], ◌∷◌, ◌++◌, Option, Some, None, refl, sym, ap, ◌∙◌, subst}
use Rattle.std.specs.Prelude.{Contains}
use Rattle.std.specs.List.{list_any}
use Rattle.std.proofs.lemmas.List.Elements.{Contains-append_left}
use Rattle.ipam_addr.specs.Shape.{CidrValue}
use Rattle.ipam_select.specs.Formula.{Formula}
use Rattle.ipam_pool.specs.declared.pools.Mode.{Mode}
use Rattle.ipam_pool.specs.declared.pools.Pool.{Pool}
use Rattle.ipam_pool.specs.declared.pools.PoolRefusal.{PoolRefusal}
use Rattle.ipam_pool.specs.declared.pools.PoolRefusal.TheVariants.{NameTaken, Overlap, Size, Prefix, TooMany, Memory}
use Rattle.ipam_pool.specs.Changes.{has_name, refusal_of, with_disabled, with_named_disabled, with_rules, with_named_rules}
use Rattle.ipam_pool.specs.Slots.{IsSlotOf}
use Rattle.ipam_records.specs.declared.call.Write.TheVariants.{Remove}
use Rattle.ipam_records.specs.declared.key.Key.{Key}
use Rattle.ipam_records.specs.declared.key.Key.TheVariants as key
use Rattle.ipam_records.specs.declared.record.Record.{Record}
use Rattle.ipam_records.specs.declared.record.Record.TheVariants as record_of
use Rattle.ipam_records.specs.Datastore.{Datastore, reply_to_get, row_of, written}
use Rattle.ipam_records.specs.Key.{key_of}
use Rattle.ipam_records.specs.Label.{CallLabel}
use Rattle.ipam_records.specs.Sound.{IsDatastore}
use Rattle.ipam_records.proofs.RowKinds.{each-kind}
use Rattle.ipam_model.specs.declared.entry.Entry.{Entry}
use Rattle.ipam_model.specs.declared.request.Admin.{Admin}
use Rattle.ipam_model.specs.declared.request.Admin.TheVariants as change_of
use Rattle.ipam_model.specs.Admin as change
use Rattle.ipam_model.specs.AffinityLaw.{HasAt}
use Rattle.ipam_model.specs.Consistent.{pools_in, pools_in_row, cidr_named, IsSlotOfSome, LiesAtSlots, SlotsLaw, ConsistentLaw}
use Rattle.ipam_model.specs.History.{Base, Lawful, cluster_at, store_at, slot_of_entry}
use Rattle.ipam_model.specs.Reads.{StoredRecord, pools_said}
use Rattle.ipam_laws.proofs.Members.{in-map}
use Rattle.ipam_laws.proofs.Lift.{Known}
use Rattle.ipam_laws.proofs.Calls.{found-key}
use Rattle.ipam_laws.proofs.OneRecord.{put-found, remove-found}
use Rattle.ipam_laws.proofs.RowOrder.{member-found, found-member}
use Rattle.ipam_laws.proofs.RequestSteps.{key-changed}
use Rattle.ipam_laws.proofs.Steps.{IsKnownPool, IsKnownSlot, IsPut, Step, Idles, Owes, Finds, Starts, Takes, Confirms, Marks, Looks, Bares, Deletes, Raises, Lowers, LowersOut, Frees, Assigns, Changes}
use Rattle.ipam_laws.proofs.SlotSteps.{known_at, known-now, label_at, turn-of}
use Rattle.ipam_laws.proofs.AffinityAt.{put-at, put-beside, gone-beside, taken-cidr, bared-cidr}
use Rattle.ipam_laws.proofs.AffinityHistory.{affinity_law}
use Rattle.ipam_laws.proofs.CountHistory.{count_law}
use Rattle.ipam_laws.proofs.SoundBlocks.{IsSoundKnown, known-pool-sound, slot-of-pool}
use Rattle.ipam_laws.proofs.SoundHistory.{history-sound, sound_law, limits_law}

-- ---- pools only grow

-- each slot of the pools is a slot of the others
Covers : (old new : List Pool) → Type 0
Covers old new = (cidr : CidrValue) → IsSlotOfSome old cidr → IsSlotOfSome new cidr

covers-itself : (pools : List Pool) → Covers pools pools
unfolding Covers
covers-itself pools cidr h = h

covers-pushed : (pools : List Pool) (pool : Pool) → Covers pools (pools ++ pool ∷ [])
unfolding Covers
covers-pushed pools pool cidr (p, among, at) = (p, Contains-append_left pools (pool ∷ []) p among, at)

-- a pool that is disabled or enabled has the same slots
covers-disabled : (name : List ℕ) (disabled : Bool) (pools : List Pool) → Covers pools (with_disabled name disabled pools)
unfolding Covers
covers-disabled name disabled pools cidr (p, among, at) =
    (with_named_disabled name disabled p, in-map (with_named_disabled name disabled) p pools among, record { number = at.number; within = at.within; is = at.is })

covers-ruled : (name : List ℕ) (disabled : Bool) (mode : Mode) (selector : Formula) (pools : List Pool) → Covers pools (with_rules name disabled mode selector pools)
unfolding Covers
covers-ruled name disabled mode selector pools cidr (p, among, at) =
    (with_named_rules name disabled mode selector p, in-map (with_named_rules name disabled mode selector) p pools among, record { number = at.number; within = at.within; is = at.is })

pools-becomes : (pools others : List Pool) (new : Record) → Covers pools others → change.Becomes (record_of.Pools others) ≡ change.Becomes new → (revision : ℕ) → Covers pools (pools_in_row (Some (revision, new)))
pools-becomes pools others new covers e revision =
    let same : record_of.Pools others ≡ new = cc e in
    subst (λ (r : Record). Covers pools (pools_in_row (Some (revision, r)))) same covers

-- the pools that a change writes cover those that it read
changed-covers : (request : Admin) (o : Option StoredRecord) (new : Record) → key_of new ≡ key.Pools → change.admin_change request (reply_to_get o) ≡ change.Becomes new → (revision : ℕ) → Covers (pools_said (reply_to_get o)) (pools_in_row (Some (revision, new)))
changed-covers (change_of.Pool pool) o new k e revision = by (list_any (change.is_same_pool pool) (pools_said (reply_to_get o))) e
  where
    refused : (refusal : PoolRefusal) → change.pool_refused (pools_said (reply_to_get o)) pool refusal ≡ change.Becomes new → Covers (pools_said (reply_to_get o)) (pools_in_row (Some (revision, new)))
    refused NameTaken f = absurd (cc f)
    refused (Overlap place) f = absurd (cc f)
    refused Size f = absurd (cc f)
    refused Prefix f = absurd (cc f)
    refused TooMany f = absurd (cc f)
    refused Memory f = absurd (cc f)

    appended : (refusal : Option PoolRefusal) → change.pool_appended (pools_said (reply_to_get o)) pool refusal ≡ change.Becomes new → Covers (pools_said (reply_to_get o)) (pools_in_row (Some (revision, new)))
    appended None f = pools-becomes (pools_said (reply_to_get o)) (pools_said (reply_to_get o) ++ pool ∷ []) new (covers-pushed (pools_said (reply_to_get o)) pool) f revision
    appended (Some refusal) f = refused refusal f

    by : (b : Bool) → cond b (change.Becomes (record_of.Pools (with_rules pool.name pool.disabled pool.mode pool.selector (pools_said (reply_to_get o))))) (change.pool_appended (pools_said (reply_to_get o)) pool (refusal_of (pools_said (reply_to_get o)) pool)) ≡ change.Becomes new → Covers (pools_said (reply_to_get o)) (pools_in_row (Some (revision, new)))
    by true f = pools-becomes (pools_said (reply_to_get o)) (with_rules pool.name pool.disabled pool.mode pool.selector (pools_said (reply_to_get o))) new (covers-ruled pool.name pool.disabled pool.mode pool.selector (pools_said (reply_to_get o))) f revision
    by false f = appended (refusal_of (pools_said (reply_to_get o)) pool) f
changed-covers (change_of.Disable name disabled) o new k e revision = by (list_any (has_name name) (pools_said (reply_to_get o))) e
  where
    by : (b : Bool) → cond b (change.Becomes (record_of.Pools (with_disabled name disabled (pools_said (reply_to_get o))))) (change.Refuses 6 name) ≡ change.Becomes new → Covers (pools_said (reply_to_get o)) (pools_in_row (Some (revision, new)))
    by true f = pools-becomes (pools_said (reply_to_get o)) (with_disabled name disabled (pools_said (reply_to_get o))) new (covers-disabled name disabled (pools_said (reply_to_get o))) f revision
    by false f = absurd (cc f)
changed-covers (change_of.Reserve reserved) o new k e revision = absurd (cc (k, key-changed (change_of.Reserve reserved) (reply_to_get o) new e))
changed-covers (change_of.Unreserve name) o new k e revision = absurd (cc (k, key-changed (change_of.Unreserve name) (reply_to_get o) new e))
changed-covers (change_of.Config config) o new k e revision = absurd (cc (k, key-changed (change_of.Config config) (reply_to_get o) new e))

-- what a request reads of the pools is what there is
said-in : (o : Option StoredRecord) → pools_said (reply_to_get o) ≡ pools_in_row o
said-in = each-kind (λ o. pools_said (reply_to_get o) ≡ pools_in_row o) refl (λ r x. refl) (λ r x. refl) (λ r x. refl) (λ r x. refl) (λ r x. refl) (λ r x. refl)

-- the slots of a store are slots of the next
SlotsGrow : (store next : Datastore) → Type 0
SlotsGrow store next = Covers (pools_in store.rows) (pools_in next.rows)

same-grow : (store next : Datastore) → row_of key.Pools next.rows ≡ row_of key.Pools store.rows → SlotsGrow store next
unfolding SlotsGrow
same-grow store next e = subst (λ (o : Option StoredRecord). Covers (pools_in store.rows) (pools_in_row o)) (sym e) (covers-itself (pools_in store.rows))

stays-grow : (store next : Datastore) → next ≡ store → SlotsGrow store next
stays-grow store next e = same-grow store next (ap (λ (s : Datastore). row_of key.Pools s.rows) e)

beside-grow : (store next : Datastore) (new : Record) → IsPut store next new → key_of new ≢ key.Pools → SlotsGrow store next
beside-grow store next new e other = same-grow store next (put-beside store next new key.Pools e other)

change-grow : (store next : Datastore) (request : Admin) (new : Record) → IsPut store next new → change.admin_change request (reply_to_get (row_of (change.key_changed request) store.rows)) ≡ change.Becomes new → SlotsGrow store next
unfolding SlotsGrow
change-grow store next request new put e = by (change.key_changed request) refl
  where
    key_is : key_of new ≡ change.key_changed request
    key_is = key-changed request (reply_to_get (row_of (change.key_changed request) store.rows)) new e

    other : (k : Key) → change.key_changed request ≡ k → k ≢ key.Pools → Covers (pools_in store.rows) (pools_in next.rows)
    other k is differs = beside-grow store next new put (λ f. differs (sym is ∙ (sym key_is ∙ f)))

    by : (k : Key) → change.key_changed request ≡ k → Covers (pools_in store.rows) (pools_in next.rows)
    by key.Pools is =
        let changed = subst (λ (k : Key). change.admin_change request (reply_to_get (row_of k store.rows)) ≡ change.Becomes new) is e in
        let covers = changed-covers request (row_of key.Pools store.rows) new (key_is ∙ is) changed (store.counter + 1) in
        let read = subst (λ (l : List Pool). Covers l (pools_in_row (Some (store.counter + 1, new)))) (said-in (row_of key.Pools store.rows)) covers in
        let at : row_of key.Pools next.rows ≡ Some (store.counter + 1, new) = ap (λ (k : Key). row_of k next.rows) (sym (key_is ∙ is)) ∙ put-at store next new put in
        subst (λ (o : Option StoredRecord). Covers (pools_in store.rows) (pools_in_row o)) (sym at) read
    by key.Config is = other key.Config is (λ f. cc f)
    by key.Reservations is = other key.Reservations is (λ f. cc f)
    by (key.Block cidr) is = other (key.Block cidr) is (λ f. cc f)
    by (key.Affinity node cidr) is = other (key.Affinity node cidr) is (λ f. cc f)
    by (key.Handle id) is = other (key.Handle id) is (λ f. cc f)

step-grow : (known : Known) (store next : Datastore) (label after : CallLabel) → Step known store next label after → SlotsGrow store next
step-grow known store next label after (Idles a b) = stays-grow store next a
step-grow known store next label after (Owes credit a b c) = stays-grow store next a
step-grow known store next label after (Finds tie read kept state a b c d e f) = stays-grow store next a
step-grow known store next label after (Starts tie read a b c d) = beside-grow store next _ a (λ f. cc f)
step-grow known store next label after (Takes tie read kept a b c d e) = beside-grow store next _ a (λ f. cc f)
step-grow known store next label after (Confirms tie kept found a b c d) = beside-grow store next _ a (λ f. cc f)
step-grow known store next label after (Marks tie revision found a b c d) = beside-grow store next _ a (λ f. cc f)
step-grow known store next label after (Looks tie read mark a b c d e) = stays-grow store next a
step-grow known store next label after (Bares tie read mark a b c d e) = beside-grow store next _ a (λ f. cc f)
step-grow known store next label after (Deletes tie mark found a b c d) = same-grow store next (gone-beside store next (key.Affinity tie.node tie.block) key.Pools a (λ f. cc f))
step-grow known store next label after (Raises id cidr h a b c d e f) = beside-grow store next _ a (λ g. cc g)
step-grow known store next label after (Lowers credit h revision first rest a b c d e f) = beside-grow store next _ a (λ g. cc g)
step-grow known store next label after (LowersOut credit h revision a b c d e f) = same-grow store next (gone-beside store next (key.Handle h.id) key.Pools a (λ g. cc g))
step-grow known store next label after (Frees what amount revision b s t u v w x y) = beside-grow store next _ s (λ f. cc f)
step-grow known store next label after (Assigns attributes target a b c d e f) = beside-grow store next _ a (λ g. cc g)
step-grow known store next label after (Changes request new a b c d e) = change-grow store next request new a d

-- ---- what is known lies at slots

pub record LieAtSlots (known : Known) (store : Datastore) : Type 0 where
  -- the slots of known pools are slots
  pub pools : (pool : Pool) (cidr : CidrValue) → IsKnownPool known pool → IsSlotOf pool cidr → IsSlotOfSome (pools_in store.rows) cidr
  -- known blocks and affinities lie at some
  pub rows : (k : Key) (revision : ℕ) (found : Record) (cidr : CidrValue) → known k revision found → cidr_named k ≡ Some cidr → IsSlotOfSome (pools_in store.rows) cidr

-- a slot that was claimed
known-slot : (known : Known) (store : Datastore) (cidr : CidrValue) → IsSoundKnown known → LieAtSlots known store → IsKnownSlot known cidr → IsSlotOfSome (pools_in store.rows) cidr
known-slot known store cidr sound h (pool, was, at) =
    let (range, has) = known-pool-sound known pool sound was in
    h.pools pool cidr was (slot-of-pool pool cidr has at)

-- the CIDR that a step's record names, if any, is a slot
data Placed (store next : Datastore) : Type 0 where
  Nowhere : ((k : Key) (revision : ℕ) (found : Record) (cidr : CidrValue) → HasAt next k revision found → cidr_named k ≡ Some cidr → HasAt store k revision found) → Placed store next
  Somewhere : (new : Record) (at : CidrValue) → IsPut store next new → cidr_named (key_of new) ≡ Some at → IsSlotOfSome (pools_in store.rows) at → Placed store next

nothing-placed : (store next : Datastore) → next ≡ store → Placed store next
nothing-placed store next e = Nowhere (λ k revision found cidr there named. subst (λ (s : Datastore). HasAt s k revision found) e there)

-- a record that names no CIDR
unplaced : (store next : Datastore) (new : Record) → IsPut store next new → cidr_named (key_of new) ≡ None → Placed store next
unplaced store next new e none = Nowhere (λ k revision found cidr there named. elim (put-found store (store.counter + 1) new k revision found (subst (λ (s : Datastore). HasAt s k revision found) e there)) [
  | inl is ↦ let here : cidr_named k ≡ None = ap cidr_named (sym is.0) ∙ none in absurd (cc (here, named))
  | inr before ↦ before
])

removed-placed : (store next : Datastore) (gone : Key) → next ≡ written store (Remove (store.counter + 1) gone) → Placed store next
removed-placed store next gone e = Nowhere (λ k revision found cidr there named. remove-found store (store.counter + 1) gone k revision found (subst (λ (s : Datastore). HasAt s k revision found) e there))

-- what is there lies at a slot
there-placed : (known : Known) (store : Datastore) → ((k : Key) (revision : ℕ) (found : Record) → HasAt store k revision found → known k revision found) → LieAtSlots known store → (k : Key) (revision : ℕ) (found : Record) (cidr : CidrValue) → HasAt store k revision found → cidr_named k ≡ Some cidr → IsSlotOfSome (pools_in store.rows) cidr
there-placed known store seen h k revision found cidr there named = h.rows k revision found cidr (seen k revision found there) named

change-unnamed : (request : Admin) → cidr_named (change.key_changed request) ≡ None
change-unnamed (change_of.Pool pool) = refl
change-unnamed (change_of.Disable name disabled) = refl
change-unnamed (change_of.Reserve new) = refl
change-unnamed (change_of.Unreserve name) = refl
change-unnamed (change_of.Config config) = refl

step-placed : (known : Known) (store next : Datastore) (label after : CallLabel) → Step known store next label after → IsSoundKnown known → ((k : Key) (revision : ℕ) (found : Record) → HasAt store k revision found → known k revision found) → LieAtSlots known store → Placed store next
step-placed known store next label after (Idles a b) sound seen h = nothing-placed store next a
step-placed known store next label after (Owes credit a b c) sound seen h = nothing-placed store next a
step-placed known store next label after (Finds tie read kept state a b c d e f) sound seen h = nothing-placed store next a
step-placed known store next label after (Starts tie read a b c d) sound seen h = Somewhere _ tie.block a refl (known-slot known store tie.block sound h d.slot)
step-placed known store next label after (Takes tie read kept a b c d e) sound seen h = Somewhere _ tie.block a (ap Some (taken-cidr store tie.node tie.block read d)) (known-slot known store tie.block sound h e.slot)
step-placed known store next label after (Confirms tie kept found a b c d) sound seen h = Somewhere _ tie.block a refl (there-placed known store seen h (key.Affinity tie.node tie.block) kept found tie.block d refl)
step-placed known store next label after (Marks tie revision found a b c d) sound seen h = Somewhere _ tie.block a refl (there-placed known store seen h (key.Affinity tie.node tie.block) revision found tie.block d refl)
step-placed known store next label after (Looks tie read mark a b c d e) sound seen h = nothing-placed store next a
step-placed known store next label after (Bares tie read mark a b c d e) sound seen h = Somewhere _ tie.block a (ap Some (bared-cidr store tie.node tie.block read d)) (h.rows (key.Affinity tie.node tie.block) mark _ tie.block e refl)
step-placed known store next label after (Deletes tie mark found a b c d) sound seen h = removed-placed store next (key.Affinity tie.node tie.block) a
step-placed known store next label after (Raises id cidr handle a b c d e f) sound seen h = unplaced store next _ a refl
step-placed known store next label after (Lowers credit handle revision first rest a b c d e f) sound seen h = unplaced store next _ a refl
step-placed known store next label after (LowersOut credit handle revision a b c d e f) sound seen h = removed-placed store next (key.Handle handle.id) a
step-placed known store next label after (Frees what amount revision b s t u v w x y) sound seen h = Somewhere _ what.block s (ap Some w) (there-placed known store seen h (key.Block what.block) revision (record_of.Block b) what.block v refl)
step-placed known store next label after (Assigns attributes target a b c d e f) sound seen h = Somewhere _ target.block.cidr a refl (there-placed known store seen h (key.Block target.block.cidr) target.revision (record_of.Block target.block) target.block.cidr d refl)
step-placed known store next label after (Changes request new a b c d e) sound seen h = unplaced store next new a (ap cidr_named (key-changed request (reply_to_get (row_of (change.key_changed request) store.rows)) new d) ∙ change-unnamed request)

-- ---- every history

first-slots : (base : Base) → LiesAtSlots base.store → LieAtSlots (known_at base []) base.store
unfolding known_at
first-slots base h = record {
  pools = λ pool cidr (revision, pools, there, among) at.
      let same : pools_in base.store.rows ≡ pools = ap pools_in_row there in
      (pool, subst (λ (l : List Pool). Contains l pool) (sym same) among, at);
  rows = λ k revision found cidr there named.
      h (revision, found) cidr (found-member k base.store.rows (revision, found) there) (ap cidr_named (found-key base.store k revision found there) ∙ named);
}

next-slots : (base : Base) (history : List Entry) (new : Entry) → IsDatastore base.store → Lawful base (new ∷ history) → Lawful base history → LieAtSlots (known_at base history) (store_at base history) → LieAtSlots (known_at base (new ∷ history)) (store_at base (new ∷ history))
unfolding known_at SlotsGrow Covers
next-slots base history new sound h earlier slots = record { pools = pools; rows = rows }
  where
    store : Datastore
    store = store_at base history

    next : Datastore
    next = store_at base (new ∷ history)

    grow : SlotsGrow (store_at base history) (store_at base (new ∷ history))
    grow = let turn = turn-of base history new sound h in step-grow (known_at base history) (store_at base history) (store_at base (new ∷ history)) (label_at base history (slot_of_entry new)) turn.reached turn.step

    placed : Placed (store_at base history) (store_at base (new ∷ history))
    placed =
        let turn = turn-of base history new sound h in
        step-placed (known_at base history) (store_at base history) (store_at base (new ∷ history)) (label_at base history (slot_of_entry new)) turn.reached turn.step (history-sound base history sound earlier).known (known-now base history) slots

    pools : (pool : Pool) (cidr : CidrValue) → IsKnownPool (known_at base (new ∷ history)) pool → IsSlotOf pool cidr → IsSlotOfSome (pools_in (store_at base (new ∷ history)).rows) cidr
    pools pool cidr (revision, list, inl was, among) at = grow cidr (slots.pools pool cidr (revision, list, was, among) at)
    pools pool cidr (revision, list, inr (inl there), among) at = grow cidr (slots.pools pool cidr (revision, list, known-now base history key.Pools revision (record_of.Pools list) there, among) at)
    pools pool cidr (revision, list, inr (inr there), among) at =
        let same : pools_in (store_at base (new ∷ history)).rows ≡ list = ap pools_in_row there in
        (pool, subst (λ (l : List Pool). Contains l pool) (sym same) among, at)

    before : (k : Key) (revision : ℕ) (found : Record) (cidr : CidrValue) → HasAt (store_at base history) k revision found → cidr_named k ≡ Some cidr → IsSlotOfSome (pools_in (store_at base (new ∷ history)).rows) cidr
    before k revision found cidr there named = grow cidr (slots.rows k revision found cidr (known-now base history k revision found there) named)

    now : Placed (store_at base history) (store_at base (new ∷ history)) → (k : Key) (revision : ℕ) (found : Record) (cidr : CidrValue) → HasAt (store_at base (new ∷ history)) k revision found → cidr_named k ≡ Some cidr → IsSlotOfSome (pools_in (store_at base (new ∷ history)).rows) cidr
    now (Nowhere old) k revision found cidr there named = before k revision found cidr (old k revision found cidr there named) named
    now (Somewhere one at put is slot) k revision found cidr there named = elim (put-found (store_at base history) ((store_at base history).counter + 1) one k revision found (subst (λ (s : Datastore). HasAt s k revision found) put there)) [
      | inl own ↦
          let here : Some at ≡ Some cidr = sym is ∙ (ap cidr_named own.0 ∙ named) in
          let same : at ≡ cidr = cc here in
          grow cidr (subst (λ (x : CidrValue). IsSlotOfSome (pools_in (store_at base history).rows) x) same slot)
      | inr old ↦ before k revision found cidr old named
    ]

    rows : (k : Key) (revision : ℕ) (found : Record) (cidr : CidrValue) → known_at base (new ∷ history) k revision found → cidr_named k ≡ Some cidr → IsSlotOfSome (pools_in (store_at base (new ∷ history)).rows) cidr
    rows k revision found cidr (inl was) named = grow cidr (slots.rows k revision found cidr was named)
    rows k revision found cidr (inr (inl there)) named = before k revision found cidr there named
    rows k revision found cidr (inr (inr there)) named = now placed k revision found cidr there named

history-slots : (base : Base) (history : List Entry) → IsDatastore base.store → LiesAtSlots base.store → Lawful base history → LieAtSlots (known_at base history) (store_at base history)
unfolding Lawful cluster_at
history-slots base [] sound lies h = first-slots base lies
history-slots base (new ∷ history) sound lies h = next-slots base history new sound h h.0 (history-slots base history sound lies h.0)

pub slots_law : SlotsLaw
slots_law base history sound lies h row cidr among named =
    let now = sound_law base history sound h in
    let there = member-found (store_at base history).rows row now.ascending among in
    (history-slots base history sound lies h).rows _ row.0 row.1 cidr (known-now base history _ row.0 row.1 there) named

-- ---- all of it

pub consistent_law : ConsistentLaw
consistent_law base history c h =
    let few = limits_law base history c.sound (record { few_rows = c.few_rows; few_blocks = c.few_blocks }) h in
    record {
      sound = sound_law base history c.sound h;
      at_slots = slots_law base history c.sound c.at_slots h;
      covered = count_law base history c.sound c.covered h;
      agrees = affinity_law base history c.sound c.agrees h;
      few_rows = few.few_rows;
      few_blocks = few.few_blocks;
    }
