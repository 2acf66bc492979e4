-- What each kind of step makes of the queue of a block.
use Rattle.std.proofs.Common.{◌≡◌, ◌≢◌, ◌⊎◌, inl, inr, ℕ, ◌+◌, false, List, ◌++◌, Some, None, sym, ap, ◌∙◌, subst}
use Rattle.std.specs.Prelude.{Contains, not, ◌==◌}
use Rattle.std.specs.List.{filter}
use Rattle.std.proofs.lemmas.Bool.{eq-eqb}
use Rattle.ipam_addr.specs.Shape.{CidrValue}
use Rattle.ipam_block.specs.Operations.{next_block, block_with_ordinal, block_without}
use Rattle.ipam_block.specs.Shape.{BlockValue}
use Rattle.ipam_records.specs.declared.call.Write.TheVariants.{Remove}
use Rattle.ipam_records.specs.declared.key.Key.{Key}
use Rattle.ipam_records.specs.declared.key.Key.TheVariants as key
use Rattle.ipam_records.specs.declared.record.Record.{Record}
use Rattle.ipam_records.specs.declared.record.Record.TheVariants as record_of
use Rattle.ipam_records.specs.Datastore.{Datastore, reply_to_get, row_of, written}
use Rattle.ipam_records.specs.Key.{key_of}
use Rattle.ipam_records.specs.Label.{CallLabel}
use Rattle.ipam_records.proofs.DatastoreLemmas.{row_of-with_row-other, row_of-without_row-other}
use Rattle.ipam_model.specs.Admin.{key_changed}
use Rattle.ipam_model.specs.Affinities.{BlockRead}
use Rattle.ipam_model.specs.AffinityLaw.{HasAt}
use Rattle.ipam_laws.proofs.BlockSteps.{IsNoBlock, changed-no-block}
use Rattle.ipam_laws.proofs.Lift.{Known}
use Rattle.ipam_laws.proofs.Members.{in-filter}
use Rattle.ipam_laws.proofs.RequestSteps.{key-changed}
use Rattle.ipam_laws.proofs.Steps.{IsAsRead, IsPut, taken, bared, Step, Idles, Owes, Finds, Starts, Takes, Confirms, Marks, Looks, Bares, Deletes, Raises, Lowers, LowersOut, Frees, Assigns, Changes}
use Rattle.ipam_laws.specs.Queues.{ahead_of}
use Rattle.ipam_laws.proofs.Ahead.{ahead-more, ahead-taken}

-- ---- a queue after a write

-- it stays, or one is taken out of it, or more come to its end
pub data NextQueue (old : List ℕ) : List ℕ → Type 0 where
  Same : NextQueue old old
  Taken : (gone : ℕ) → NextQueue old (filter (λ o. not (o == gone)) old)
  Freed : (more : List ℕ) → NextQueue old (old ++ more)

-- what is not taken out of the queue is another one
kept-differs : (free gone : ℕ) (queue : List ℕ) → Contains (filter (λ o. not (o == gone)) queue) free → free ≢ gone
kept-differs free gone queue h same =
    let passes = (in-filter (λ o. not (o == gone)) free queue h).1 in
    let fails : not (free == gone) ≡ false = ap not (eq-eqb free gone same) in
    absurd (cc (passes, fails))

-- what is then ahead of an ordinal that stays free was ahead before
pub next-ahead : (old new : List ℕ) → NextQueue old new → (free o : ℕ) → Contains old free → Contains new free → Contains (ahead_of free new) o → Contains (ahead_of free old) o
next-ahead old _ Same free o was is h = h
next-ahead old _ (Taken gone) free o was is h = ahead-taken free gone old o (kept-differs free gone old is) h
next-ahead old _ (Freed more) free o was is h = ahead-more free old more o was h

-- ---- what a step writes of blocks

abbrev pub IsQueueWrite : Datastore → BlockValue → Type 0
IsQueueWrite store new =
    (row_of (key.Block new.cidr) store.rows ≡ None)
    ⊎ ((revision : ℕ) × (old : BlockValue) × HasAt store (key.Block new.cidr) revision (record_of.Block old) × NextQueue old.queue new.queue)

pub data QueueStep (store next : Datastore) : Type 0 where
  Leaves : ((cidr : CidrValue) → row_of (key.Block cidr) next.rows ≡ row_of (key.Block cidr) store.rows) → QueueStep store next
  Writes : (new : BlockValue) → IsPut store next (record_of.Block new) → IsQueueWrite store new → QueueStep store next

stays : (store next : Datastore) → next ≡ store → QueueStep store next
stays store next e = Leaves (λ cidr. ap (λ (s : Datastore). row_of (key.Block cidr) s.rows) e)

no-block : (k : Key) (cidr : CidrValue) → IsNoBlock k → k ≢ key.Block cidr
no-block k cidr h e = subst (λ (x : Key). IsNoBlock x) e h

puts : (store next : Datastore) (new : Record) → IsPut store next new → IsNoBlock (key_of new) → QueueStep store next
puts store next new e h = Leaves (λ cidr.
    ap (λ (s : Datastore). row_of (key.Block cidr) s.rows) e
    ∙ row_of-with_row-other (key.Block cidr) (store.counter + 1, new) store.rows (no-block (key_of new) cidr h))

removes : (store next : Datastore) (gone : Key) → next ≡ written store (Remove (store.counter + 1) gone) → IsNoBlock gone → QueueStep store next
removes store next gone e h = Leaves (λ cidr.
    ap (λ (s : Datastore). row_of (key.Block cidr) s.rows) e
    ∙ row_of-without_row-other (key.Block cidr) gone store.rows (no-block gone cidr h))

taken-writes : (store : Datastore) (node : List ℕ) (cidr : CidrValue) (read : BlockRead) → IsAsRead store cidr read → IsQueueWrite store (taken node cidr read)
taken-writes store node cidr None there = inl there
taken-writes store node cidr (Some (revision, b)) (same, there) =
    inr (revision, b, subst (λ (x : CidrValue). HasAt store (key.Block x) revision (record_of.Block b)) (sym same) there, Same)

bared-writes : (store : Datastore) (node : List ℕ) (cidr : CidrValue) (read : BlockRead) → IsAsRead store cidr read → IsQueueWrite store (bared node cidr read)
bared-writes store node cidr None there = inl there
bared-writes store node cidr (Some (revision, b)) (same, there) =
    inr (revision, b, subst (λ (x : CidrValue). HasAt store (key.Block x) revision (record_of.Block b)) (sym same) there, Same)

pub step-queues : (known : Known) (store next : Datastore) (label after : CallLabel) → Step known store next label after → QueueStep store next
step-queues known store next label after (Idles a b) = stays store next a
step-queues known store next label after (Owes credit a b c) = stays store next a
step-queues known store next label after (Finds tie read kept state a b c d e f) = stays store next a
step-queues known store next label after (Starts tie read a b c d) = puts store next _ a tt
step-queues known store next label after (Takes tie read kept a b c d e) = Writes (taken tie.node tie.block read) a (taken-writes store tie.node tie.block read d)
step-queues known store next label after (Confirms tie kept found a b c d) = puts store next _ a tt
step-queues known store next label after (Marks tie revision found a b c d) = puts store next _ a tt
step-queues known store next label after (Looks tie read mark a b c d e) = stays store next a
step-queues known store next label after (Bares tie read mark a b c d e) = Writes (bared tie.node tie.block read) a (bared-writes store tie.node tie.block read d)
step-queues known store next label after (Deletes tie mark found a b c d) = removes store next (key.Affinity tie.node tie.block) a tt
step-queues known store next label after (Raises id cidr h a b c d e f) = puts store next _ a tt
step-queues known store next label after (Lowers credit h revision first rest a b c d e f) = puts store next _ a tt
step-queues known store next label after (LowersOut credit h revision a b c d e f) = removes store next (key.Handle h.id) a tt
step-queues known store next label after (Frees what amount revision b s t u v w x y) =
    Writes (block_without what.picks (next_block b)) s
    (inr (revision, b, subst (λ (x : CidrValue). HasAt store (key.Block x) revision (record_of.Block b)) (sym w) v, Freed _))
step-queues known store next label after (Assigns attributes target a b c d e f) =
    Writes (block_with_ordinal (next_block target.block) target.ordinal attributes) a
    (inr (target.revision, target.block, d, Taken target.ordinal))
step-queues known store next label after (Changes request new a b c d e) =
    puts store next new a (subst (λ (k : Key). IsNoBlock k) (sym (key-changed request (reply_to_get (row_of (key_changed request) store.rows)) new d)) (changed-no-block request))
