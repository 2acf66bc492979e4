-- Each record that a step writes is sound, where what was known was.
use Rattle.std.proofs.Common.{◌≡◌, ℕ, ◌+◌, ◌^◌, ◌<◌, ◌≤◌, inl, inr, List, [], Option, Some, None, refl, sym, ap, ◌∙◌, subst, arith}
use Rattle.ipam_addr.specs.Shape.{CidrValue}
use Rattle.ipam_block.specs.declared.state.State.{State}
use Rattle.ipam_block.specs.declared.state.State.TheVariants.{Confirmed, PendingDeletion}
use Rattle.ipam_block.specs.Shape as block
use Rattle.ipam_block.specs.HandleOperations.{content, count_of, with_raised_count}
use Rattle.ipam_block.specs.HandleShape as handle
use Rattle.ipam_records.specs.declared.call.Write.TheVariants.{Remove}
use Rattle.ipam_records.specs.declared.key.Key.{Key}
use Rattle.ipam_records.specs.declared.key.Key.TheVariants as key
use Rattle.ipam_records.specs.declared.record.Record.{Record}
use Rattle.ipam_records.specs.declared.record.Record.TheVariants as record_of
use Rattle.ipam_records.specs.Datastore.{Datastore, reply_to_get, row_of, written}
use Rattle.ipam_records.specs.Key.{key_of}
use Rattle.ipam_records.specs.Label.{CallLabel}
use Rattle.ipam_records.specs.Sound.{IsBlockCidr, IsBlockRecord, IsCountedBelow, IsDatastore, IsRecord, IsRow}
use Rattle.ipam_records.proofs.HearingLemmas.{All-row_of}
use Rattle.ipam_model.specs.Admin.{key_changed}
use Rattle.ipam_model.specs.Affinities.{BlockRead, Tie, affinity}
use Rattle.ipam_model.specs.AffinityLaw.{HasAt}
use Rattle.ipam_model.specs.Counting.{most_count}
use Rattle.ipam_model.specs.Reads.{StoredRecord}
use Rattle.ipam_laws.proofs.Calls.{found-key}
use Rattle.ipam_laws.proofs.WriteSteps.{found-affinity}
use Rattle.ipam_laws.proofs.RequestSteps.{IsUntied, changed-untied}
use Rattle.ipam_laws.proofs.Lift.{Known}
use Rattle.ipam_laws.proofs.Steps.{IsAsRead, IsCountable, IsHandle, IsPut, taken, bared, Step, Idles, Owes, Finds, Starts, Takes, Confirms, Marks, Looks, Bares, Deletes, Raises, Lowers, LowersOut, Frees, Assigns, Changes}
use Rattle.ipam_laws.proofs.SoundBlocks.{IsSoundKnown, IsSoundRead, known-slot-sound, free-sound, taken-record, bared-record, freed-record, assigned-record}
use Rattle.ipam_laws.proofs.SoundHandles.{fresh-counts, kept-counts, raised-record, lowered-record}
use Rattle.ipam_laws.proofs.SoundSettings.{IsSoundRow, changed-sound}

-- ---- what is there

pub row-there : (store : Datastore) (k : Key) (revision : ℕ) (found : Record) → IsDatastore store → HasAt store k revision found → IsRow store.counter (revision, found)
row-there store k revision found sound there = All-row_of (λ (row : StoredRecord). IsRow store.counter row) k store.rows (revision, found) sound.rows there

-- a block that is there is sound, and was written less often than the store
block-there : (store : Datastore) (cidr : CidrValue) (revision : ℕ) (b : block.BlockValue) → IsDatastore store → HasAt store (key.Block cidr) revision (record_of.Block b) → IsBlockRecord b × (b.sequence + 1 ≤ store.counter) × (b.sequence + 1 < 2 ^ 64)
block-there store cidr revision b sound there =
    let row = row-there store (key.Block cidr) revision (record_of.Block b) sound there in
    let counted : b.sequence < revision = row.counted in
    let given : revision ≤ store.counter = row.given in
    let most = sound.counted in
    (row.is_record, omega arith, omega arith)

read-there : (store : Datastore) (cidr : CidrValue) (read : BlockRead) → IsDatastore store → IsAsRead store cidr read → IsSoundRead read
read-there store cidr None sound there = tt
read-there store cidr (Some found) sound there = let (is, below, small) = block-there store cidr found.0 found.1 sound there.1 in (is, small)

-- an affinity of the key that is there is sound in every state
affinity-there : (tie : Tie) (found : Record) (state : State) → key_of found ≡ key.Affinity tie.node tie.block → IsRecord found → IsRecord (record_of.Affinity (affinity tie.node tie.block state))
affinity-there tie found state e h =
    let (a, is, whole) = found-affinity tie found e in
    let sound : IsRecord (record_of.Affinity (affinity tie.node tie.block a.state)) = subst (λ (r : Record). IsRecord r) (is ∙ ap record_of.Affinity whole) h in
    record { node = sound.node; range = sound.range }

row-found : (store : Datastore) (k : Key) → IsDatastore store → IsSoundRow (row_of k store.rows)
row-found store k sound = from (row_of k store.rows) refl
  where
    from : (o : Option StoredRecord) → row_of k store.rows ≡ o → IsSoundRow o
    from None e = tt
    from (Some row) e = (row-there store k row.0 row.1 sound e).is_record

-- ---- a write

-- the record is sound, and written less often than the store is by then
pub record IsSoundPut (store : Datastore) (new : Record) : Type 0 where
  pub sound : IsRecord new
  pub counted : IsCountedBelow (store.counter + 1) new

untied-counted : (n : ℕ) (new : Record) → IsUntied (key_of new) → IsCountedBelow n new
untied-counted n (record_of.Config config) h = tt
untied-counted n (record_of.Pools pools) h = tt
untied-counted n (record_of.Reservations reservations) h = tt
untied-counted n (record_of.Block b) h = absurd h
untied-counted n (record_of.Affinity a) h = tt
untied-counted n (record_of.Handle handle) h = tt

-- what a step writes, if anything
pub data SoundStep (store next : Datastore) : Type 0 where
  Nothing : next ≡ store → SoundStep store next
  Puts : (new : Record) → IsPut store next new → IsSoundPut store new → SoundStep store next
  Removes : (gone : Key) → next ≡ written store (Remove (store.counter + 1) gone) → SoundStep store next

-- the sequence number of a block that is taken or bared
taken-counted : (store : Datastore) (node : List ℕ) (cidr : CidrValue) (read : BlockRead) → IsDatastore store → IsAsRead store cidr read → (taken node cidr read).sequence < store.counter + 1
taken-counted store node cidr None sound there = omega arith
taken-counted store node cidr (Some found) sound there = let (is, below, small) = block-there store cidr found.0 found.1 sound there.1 in omega arith

bared-counted : (store : Datastore) (node : List ℕ) (cidr : CidrValue) (read : BlockRead) → IsDatastore store → IsAsRead store cidr read → (bared node cidr read).sequence < store.counter + 1
bared-counted store node cidr None sound there = omega arith
bared-counted store node cidr (Some found) sound there = let (is, below, small) = block-there store cidr found.0 found.1 sound there.1 in omega arith

raises-sound : (known : Known) (store : Datastore) (id : List ℕ) (cidr : CidrValue) (h : handle.HandleValue) → IsSoundKnown known → IsDatastore store → IsHandle store id h → count_of h cidr < most_count → IsCountable known id cidr → IsRecord (record_of.Handle (with_raised_count h cidr 1))
raises-sound known store id cidr h k sound there below countable = from there below
  where
    range : IsBlockCidr cidr
    range =
        let was : IsBlockRecord countable.b = k.sound (key.Block cidr) countable.revision (record_of.Block countable.b) countable.was_read in
        subst (λ (x : CidrValue). IsBlockCidr x) countable.is_of (record { range = was.block.range; small = was.block.small })

    from : IsHandle store id h → count_of h cidr < most_count → IsRecord (record_of.Handle (with_raised_count h cidr 1))
    from (inl (none, is)) l =
        let P : handle.HandleValue → Type 0 = λ x. count_of x cidr < most_count → IsRecord (record_of.Handle (with_raised_count x cidr 1)) in
        let fresh : P (content id []) = λ m. raised-record (content id []) cidr countable.name (fresh-counts id) range m in
        subst P (sym is) fresh l
    from (inr (revision, at, same)) l =
        let old = (row-there store (key.Handle id) revision (record_of.Handle h) sound at).is_record in
        raised-record h cidr old.id (kept-counts h old) range l

pub step-sound : (known : Known) (store next : Datastore) (label after : CallLabel) → Step known store next label after → IsSoundKnown known → IsDatastore store → SoundStep store next
step-sound known store next label after (Idles a b) k sound = Nothing a
step-sound known store next label after (Owes credit a b c) k sound = Nothing a
step-sound known store next label after (Finds tie read kept state a b c d e f) k sound = Nothing a
step-sound known store next label after (Starts tie read a b c d) k sound =
    Puts _ a (record { sound = record { node = d.name; range = known-slot-sound known tie.block k d.slot }; counted = tt })
step-sound known store next label after (Takes tie read kept a b c d e) k sound =
    Puts _ a (record {
      sound = taken-record tie.node tie.block read (known-slot-sound known tie.block k e.slot) e.name (read-there store tie.block read sound d);
      counted = taken-counted store tie.node tie.block read sound d;
    })
step-sound known store next label after (Confirms tie kept found a b c d) k sound =
    Puts _ a (record { sound = affinity-there tie found Confirmed (found-key store (key.Affinity tie.node tie.block) kept found d) (row-there store (key.Affinity tie.node tie.block) kept found sound d).is_record; counted = tt })
step-sound known store next label after (Marks tie revision found a b c d) k sound =
    Puts _ a (record { sound = affinity-there tie found PendingDeletion (found-key store (key.Affinity tie.node tie.block) revision found d) (row-there store (key.Affinity tie.node tie.block) revision found sound d).is_record; counted = tt })
step-sound known store next label after (Looks tie read mark a b c d e) k sound = Nothing a
step-sound known store next label after (Bares tie read mark a b c d e) k sound =
    let was : IsRecord (record_of.Affinity (affinity tie.node tie.block PendingDeletion)) = k.sound (key.Affinity tie.node tie.block) mark (record_of.Affinity (affinity tie.node tie.block PendingDeletion)) e in
    Puts _ a (record {
      sound = bared-record tie.node tie.block read was.range (read-there store tie.block read sound d);
      counted = bared-counted store tie.node tie.block read sound d;
    })
step-sound known store next label after (Deletes tie mark found a b c d) k sound = Removes (key.Affinity tie.node tie.block) a
step-sound known store next label after (Raises id cidr h a b c d e f) k sound =
    Puts _ a (record { sound = raises-sound known store id cidr h k sound d e f; counted = tt })
step-sound known store next label after (Lowers credit h revision first rest a b c d e f) k sound =
    let old = (row-there store (key.Handle credit.handle) revision (record_of.Handle h) sound d).is_record in
    Puts _ a (record { sound = lowered-record h credit.block credit.amount old (λ none. cc (f, none)); counted = tt })
step-sound known store next label after (LowersOut credit h revision a b c d e f) k sound = Removes (key.Handle h.id) a
step-sound known store next label after (Frees what amount revision b s t u v w x y) k sound =
    let (is, below, small) = block-there store what.block revision b sound v in
    Puts _ s (record { sound = freed-record what.picks b is small; counted = omega arith })
step-sound known store next label after (Assigns attributes target a b c d e f) k sound =
    let (is, below, small) = block-there store target.block.cidr target.revision target.block sound d in
    let (within, free) = free-sound known target k is.block f in
    Puts _ a (record { sound = assigned-record target.block target.ordinal attributes is small e within free; counted = omega arith })
step-sound known store next label after (Changes request new a b c d e) k sound =
    let good = changed-sound request (row_of (key_changed request) store.rows) new e (row-found store (key_changed request) sound) d in
    Puts new a (record { sound = good; counted = untied-counted (store.counter + 1) new (changed-untied request (reply_to_get (row_of (key_changed request) store.rows)) new d) })
