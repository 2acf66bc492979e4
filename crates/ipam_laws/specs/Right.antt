-- All that holds of a lawful history.
use Rattle.std.specs.Prelude.{◌≡◌, ◌≢◌, ◌↔◌, ◌+◌, ◌*◌, ◌≤◌, ℕ, Bool, true, false, Contains, List, ◌∷◌, ◌++◌, drop, length, Some}
use Rattle.ipam_addr.specs.Shape.{AddrValue, CidrValue}
use Rattle.ipam_block.specs.declared.allocation.Allocation.{Allocation}
use Rattle.ipam_block.specs.Operations.{is_held, ordinal_address, room}
use Rattle.ipam_records.specs.declared.call.Call.{Call}
use Rattle.ipam_records.specs.declared.key.Key.{Key}
use Rattle.ipam_records.specs.declared.record.Record.{Record}
use Rattle.ipam_records.specs.Bound.{AtMost}
use Rattle.ipam_records.specs.Word.{label_of}
use Rattle.ipam_model.specs.declared.answer.Answer.TheVariants.{Fault}
use Rattle.ipam_model.specs.declared.entry.Called.{Called}
use Rattle.ipam_model.specs.declared.entry.Entry.{Entry}
use Rattle.ipam_model.specs.declared.entry.Entry.TheVariants as entry
use Rattle.ipam_model.specs.declared.entry.Fate.TheVariants.{Well}
use Rattle.ipam_model.specs.declared.request.Request.{Request}
use Rattle.ipam_model.specs.AffinityLaw.{HasAt, IsAt, PointsAgree, PointsKeep}
use Rattle.ipam_model.specs.AnswerLaw.{IsAnsweredRight}
use Rattle.ipam_model.specs.BlockLaw.{BlockAt, IsLater}
use Rattle.ipam_model.specs.BoundLaw.{CollectSpan, DelSpan, IsCollectSpan, IsDelSpan, NoneBegins, counts_read, kept_to_free, whole_collect, whole_del}
use Rattle.ipam_model.specs.Cluster.{RunningRequest}
use Rattle.ipam_model.specs.Consistent.{IsConsistent}
use Rattle.ipam_model.specs.Credits.{AreCreditsCovered}
use Rattle.ipam_model.specs.History.{Base, Lawful, cluster_at, moment_of, slot_of_entry, store_at, store_before}
use Rattle.ipam_model.specs.LabelLaw.{IsLabelOf}
use Rattle.ipam_model.specs.Moments.{Owns}
use Rattle.ipam_model.specs.Named.{name_of}
use Rattle.ipam_model.specs.OwnerLaw.{OwnersMove}
use Rattle.ipam_model.specs.Owners.{AreInOrder, Owner, owners}
use Rattle.ipam_model.specs.ReplyLaw.{IsAnsweredBy}
use Rattle.ipam_model.specs.Requests.{word_of}
use Rattle.ipam_model.specs.Tries.{calls_of}
use Rattle.ipam_laws.specs.Claims.{ClaimsOnlyRight}
use Rattle.ipam_laws.specs.Excess.{IsCaused}
use Rattle.ipam_laws.specs.Queues.{IsFreeThrough, ahead_of}
use Rattle.ipam_laws.specs.Writes.{WritesOwn}

-- ---- what holds at a moment

-- of the records, of what running requests are ahead by and of where they stand
pub record IsRightAt (base : Base) (history : List Entry) : Type 0 where
  pub consistent : IsConsistent (store_at base history)
  pub owners_in_order : AreInOrder (owners (store_at base history))
  pub credits : AreCreditsCovered base history
  -- no count is too high without a cause
  pub causes : (id : List ℕ) (cidr : CidrValue) → IsCaused base history id cidr
  pub points : PointsAgree (IsAt base history) base history
  pub kept : PointsKeep (IsAt base history) base history
  pub labels : (slot : ℕ) (running : RunningRequest) → (cluster_at base history).slots slot ≡ Some running
      → IsLabelOf (record { base = base; history = history; slot = slot }) (label_of running.word)

-- ---- what holds of an entry

-- a call has the datastore's own reply, and its answer is right
pub record IsCallRight (base : Base) (history : List Entry) (c : Called) : Type 0 where
  pub reply : (asked : Call) × (c.call ≡ name_of asked)
      × IsAnsweredBy (store_at base history) (store_at base (entry.Called c ∷ history)) asked c c.fate
  pub answer : (request : Request) → IsAnsweredRight (record { base = base; earlier = history; call = c; request = request })
  -- its request is answered Fault exactly where it failed
  pub fault : (c.answer ≡ Some Fault) ↔ (c.fate ≢ Well)

pub record IsEntryRight (base : Base) (history : List Entry) (new : Entry) : Type 0 where
  -- the owners change in one of the five ways
  pub owners : OwnersMove (record { base = base; history = history; slot = slot_of_entry new }) (store_at base (new ∷ history))
  -- each row stays, or is written by a request that may write it
  pub writes : WritesOwn (record { base = base; history = history; slot = slot_of_entry new }) (store_at base (new ∷ history))
  -- what is claimed is claimed by an ADD that may claim it
  pub claims : ClaimsOnlyRight (record { base = base; history = history; slot = slot_of_entry new }) (store_at base (new ∷ history))
  pub call : (c : Called) → new ≡ entry.Called c → IsCallRight base history c

-- ---- what holds of the calls of a span

pub record IsBounded (base : Base) (history : List Entry) : Type 0 where
  pub request : (earlier later : List Entry) (slot : ℕ) (request : Request) (count : ℕ)
      → later ++ (entry.Began slot request ∷ earlier) ≡ history
      → AtMost (word_of request) count → NoneBegins slot later → length (calls_of slot later) ≤ count
  pub del : (del : DelSpan) → del.base ≡ base → whole_del del ≡ history → IsDelSpan del
      → 1 + length (calls_of del.first.slot del.later) ≤ 200 + 4 * length (counts_read del)
  pub collect : (c : CollectSpan) → c.base ≡ base → whole_collect c ≡ history → IsCollectSpan c
      → 2 + length (calls_of c.first.slot c.later) ≤ 200 + 4 * length (kept_to_free c)

-- ---- what holds of two moments

pub record IsKept (base : Base) (history : List Entry) : Type 0 where
  -- one key and one revision have one record
  pub one_record : (first second : ℕ) (key : Key) (revision : ℕ) (one other : Record)
      → HasAt (store_before base history first) key revision one
      → HasAt (store_before base history second) key revision other → one ≡ other
  -- a block that is there stays, and its sequence number rises with each write
  pub blocks_stay : (first second : ℕ) → first ≤ second
      → (cidr : CidrValue) (old : BlockAt (store_before base history first) cidr)
      → (new : BlockAt (store_before base history second) cidr) × IsLater old new
  -- it gives no stamp again, and who is gone never returns with the same stamp
  pub stamps : (first second : ℕ) → first ≤ second
      → (cidr : CidrValue) (old : BlockAt (store_before base history first) cidr) (new : BlockAt (store_before base history second) cidr)
      → (a : Allocation) → Contains new.b.allocations a → a.stamp ≤ old.b.sequence → Contains old.b.allocations a
  pub no_return : (first second third : ℕ) → first ≤ second → second ≤ third
      → (owner : Owner) → Owns (store_before base history first) owner → Owns (store_before base history third) owner
      → Owns (store_before base history second) owner
  -- what stays free is given before what was held
  pub none_comes_ahead : (first second : ℕ) → first ≤ second → second ≤ moment_of base history
      → (cidr : CidrValue) (old : BlockAt (store_before base history first) cidr) (new : BlockAt (store_before base history second) cidr)
      → (free : ℕ) → IsFreeThrough base history cidr free first second
      → (other : ℕ) → Contains (ahead_of free new.b.queue) other → Contains (ahead_of free old.b.queue) other
  pub given_again_late : (first second : ℕ) → first ≤ second → second ≤ moment_of base history
      → (cidr : CidrValue) (old : BlockAt (store_before base history first) cidr) (new : BlockAt (store_before base history second) cidr)
      → (free held : ℕ) → IsFreeThrough base history cidr free first second → is_held old.b held ≡ true
      → (reserved : AddrValue → Bool) → reserved (ordinal_address new.b.cidr free) ≡ false
      → room reserved new.b ≢ Some held

-- ---- the whole

-- At each of its moments the records, counts, credits and points are right, each entry is, each span
-- keeps its bound, and from moment to moment records, blocks and owners are kept.
pub record IsRight (base : Base) (history : List Entry) : Type 0 where
  pub lawful : Lawful base history
  pub at_moments : (many : ℕ) → IsRightAt base (drop many history)
  pub entries : (many : ℕ) (new : Entry) (earlier : List Entry) → drop many history ≡ new ∷ earlier → IsEntryRight base earlier new
  pub bounded : IsBounded base history
  pub kept : IsKept base history

-- A lawful history over a consistent base is right.
abbrev pub RightLaw : Type 0
RightLaw = (base : Base) (history : List Entry) → IsConsistent base.store → Lawful base history → IsRight base history
