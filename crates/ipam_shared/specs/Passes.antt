-- What a pass knows of the history and of its slot, and how passes are made of one and of two.
use Rattle.std.specs.Prelude.{◌≡◌, ◌≢◌, ◌↔◌, ℕ, ◌+◌, ◌<◌, ◌≤◌, Bool, List, [], ◌++◌, Option, None, IsTrue, IsSome}
use Rattle.turn_lock.specs.Passes.{Pass as Turns}
use Rattle.turn_lock.specs.declared.limits.TheConstants.{SPLIT_TURNS}
use Rattle.turn_lock.specs.Histories.{NoneBy}
use Rattle.ipam_model.specs.declared.entry.Entry.{Entry}
use Rattle.ipam_model.specs.declared.limits.TheConstants.{SLOTS}
use Rattle.ipam_model.specs.Cluster.{RunningRequest}
use Rattle.ipam_model.specs.Consistent.{IsConsistent}
use Rattle.ipam_model.specs.History.{Base, Lawful, cluster_at, moment_of, slot_of_entry}
use Rattle.ipam_shared.specs.declared.kept.Kept.{Kept}
use Rattle.ipam_shared.specs.Feed.{FedFor}
use Rattle.ipam_shared.specs.Kept.{KeptFor, Tells}
use Rattle.ipam_shared.specs.Sure.{HeldFor}
use Rattle.ipam_shared.specs.declared.opened.Opened.{Opened}
use Rattle.ipam_shared.specs.Origins.{base_in}
use Rattle.ipam_shared.specs.PassValue.{PassValue}

-- what runs in a slot at the end of a history
abbrev pub runs_at : Base → List Entry → ℕ → Option RunningRequest
runs_at base history slot = (cluster_at base history).slots slot

-- what runs in the pass's slot, at the end of what it has seen
abbrev pub runs_in : PassValue → Option RunningRequest
runs_in pass = runs_at pass.base pass.seen pass.slot

-- what was seen is a lawful history of a consistent base
pub record IsSeenLawful (base : Base) (seen : List Entry) : Type 0 where
  pub consistent : IsConsistent base.store
  pub lawful : Lawful base seen

abbrev pub IsLawfulPass : PassValue → Type 0
IsLawfulPass pass = IsSeenLawful pass.base pass.seen

-- since a moment of what was seen, there are entries of others alone than the slot
pub record IsReachedIn (base : Base) (seen : List Entry) (slot moment : ℕ) : Type 0 where
  pub later : List Entry
  pub earlier : List Entry
  pub is_seen : seen ≡ later ++ earlier
  pub others : NoneBy slot_of_entry slot later
  pub is_moment : moment ≡ moment_of base earlier

-- the pass has learned all that there was at its moment, and has seen entries of others alone since
abbrev pub IsReached : PassValue → Type 0
IsReached pass = IsReachedIn pass.base pass.seen pass.slot pass.moment

-- ---- a pass as one of the lock's

abbrev pub value_of : Turns Opened Entry → (moment : ℕ) → (sure : Option ℕ) → PassValue
value_of turns moment sure = record {
  lock = turns.lock;
  left = turns.left;
  slot = turns.number;
  made = turns.made;
  joined = turns.joined;
  base = base_in turns.origin;
  seen = turns.seen;
  moment = moment;
  sure = sure;
}

-- the pass knows whether something runs in its slot, and what it has learned
pub record IsPass (pass : PassValue) (running : Bool) : Type 0 where
  pub seen : IsLawfulPass pass
  pub reached : IsReached pass
  pub knows : IsTrue running ↔ IsSome (runs_in pass)

-- ---- passes of one lock

-- nothing but the turns that are left, what was seen and what is sure of it is another
abbrev pub IsSamePass : (old new : PassValue) → Type 0
IsSamePass old new = new ≡ record old { left = new.left; seen = new.seen; moment = new.moment; sure = new.sure }

-- now the pass has learned all that it has seen, and what it knows to be sure stays
pub record IsTold (old new : PassValue) : Type 0 where
  pub moment : new.moment ≡ moment_of new.base new.seen
  pub sure : new.sure ≡ old.sure

-- the pass p was split, which left p', into it and the pass q, which has a slot of its own
pub record IsSplit (p p' q : PassValue) : Type 0 where
  pub enough : SPLIT_TURNS < p.left
  pub left : p'.left + SPLIT_TURNS ≡ p.left
  pub share : q.left ≡ SPLIT_TURNS
  pub slot : (p.made ≤ q.slot) × (q.slot < SLOTS) × (q.slot ≢ p.slot)
  pub made : (q.made ≡ q.slot + 1) × (p'.made ≡ q.slot + 1)
  pub alone : q.joined ≡ 0
  pub lock : q.lock ≡ p.lock
  pub base : q.base ≡ p.base
  pub seen : q.seen ≡ p.seen
  pub moment : q.moment ≡ p.moment
  pub none_sure : q.sure ≡ None

-- the cluster is kept for what the pass has seen, with later entries of others, and its feed follows them
pub record KeptPast {D : Type 0} (tells : Tells D) (kept : Kept D) (pass : PassValue) : Type 0 where
  pub later : List Entry
  pub others : NoneBy slot_of_entry pass.slot later
  pub stands : KeptFor tells kept pass.base (later ++ pass.seen)
  pub fed : FedFor tells kept pass.base (later ++ pass.seen)

-- the datastore and the number of entries of a kept cluster, as the base of a history
abbrev pub own_base : {D : Type 0} → Kept D → Base
own_base kept = record { store = kept.cluster.store.store; first = kept.cluster.entries }

-- the cluster is kept and fed for the history of its own datastore that has no entry, and its keeper is sure
-- of that, as where it was opened
abbrev pub IsNewlyKept : {D : Type 0} → (tells sure : Tells D) → Kept D → Type 0
IsNewlyKept tells sure kept = (first : ℕ) × HeldFor tells sure kept (record { store = kept.cluster.store.store; first = first }) []
