-- Why a handle counts more addresses of a block than it owns there.
use Rattle.std.specs.Prelude.{◌≡◌, ◌≢◌, ◌⊎◌, ℕ, ◌+◌, ◌≤◌, List, [], ◌∷◌, Some, None, Contains}
use Rattle.std.specs.List.{range_with_len, sum_by}
use Rattle.ipam_addr.specs.Shape.{CidrValue}
use Rattle.ipam_records.specs.Datastore.{Datastore}
use Rattle.ipam_records.specs.Sound.{IsDatastore}
use Rattle.ipam_model.specs.declared.answer.Answer.TheVariants as answer
use Rattle.ipam_model.specs.declared.entry.Called.{Called}
use Rattle.ipam_model.specs.declared.entry.Entry.{Entry}
use Rattle.ipam_model.specs.declared.entry.Entry.TheVariants as entry
use Rattle.ipam_model.specs.declared.entry.Fate.TheVariants.{Well}
use Rattle.ipam_model.specs.CountLaw.{handle_count, held_count, IsCovered}
use Rattle.ipam_model.specs.Course.{slot_count}
use Rattle.ipam_model.specs.Credits.{HasCredit, RunsWith}
use Rattle.ipam_model.specs.History.{Base, Lawful, cluster_at, slot_of_entry, store_at}

-- ---- what ended requests left over

-- The entry ended its request short: the request was stopped, its call failed, or it gave up, since it
-- was tried too often or there were no revisions.
pub data EndsShort : Entry → Type 0 where
  Stops : (slot : ℕ) → EndsShort (entry.Stopped slot)
  Fails : (c : Called) → c.fate ≢ Well → EndsShort (entry.Called c)
  GivesUp : (c : Called) (lost claims : ℕ) → c.answer ≡ Some (answer.Again lost claims) → EndsShort (entry.Called c)
  FindsNone : (c : Called) → c.answer ≡ Some answer.Spent → EndsShort (entry.Called c)

-- So much of the handle's count of the block is left over: a sum, to which each entry that ended its
-- request short may add what the request's calls, that entry's among them, made the count ahead by.
pub data IsLeftOver (base : Base) (id : List ℕ) (cidr : CidrValue) : List Entry → ℕ → Type 0 where
  AtFirst : IsLeftOver base id cidr [] 0
  Stays : (new : Entry) (history : List Entry) (amount : ℕ) → IsLeftOver base id cidr history amount → IsLeftOver base id cidr (new ∷ history) amount
  Adds : (new : Entry) (history : List Entry) (amount more : ℕ) → EndsShort new
      → HasCredit (record { base = base; history = new ∷ history; slot = slot_of_entry new }) (record { handle = id; block = cidr; amount = more })
      → IsLeftOver base id cidr history amount → IsLeftOver base id cidr (new ∷ history) (more + amount)

-- ---- the law

-- The handle counts at most what it owns of the block, what the base counted beyond its owners, what the
-- slots' running requests are ahead by, by their calls, and what ended requests left over.
pub record IsCaused (base : Base) (history : List Entry) (id : List ℕ) (cidr : CidrValue) : Type 0 where
  pub ahead : ℕ → ℕ
  pub by_running : (slot : ℕ) → (ahead slot ≡ 0) ⊎ RunsWith (record { base = base; history = history; slot = slot }) (record { handle = id; block = cidr; amount = ahead slot })
  pub left : ℕ
  pub by_ended : IsLeftOver base id cidr history left
  pub most : handle_count (store_at base history) id cidr + held_count base.store id cidr
      ≤ held_count (store_at base history) id cidr + handle_count base.store id cidr + sum_by ahead (range_with_len 0 slot_count) + left

abbrev pub CausesLaw : Type 0
CausesLaw =
    (base : Base) (history : List Entry) → IsDatastore base.store → IsCovered base.store → Lawful base history
    → (id : List ℕ) (cidr : CidrValue) → IsCaused base history id cidr

-- ---- where nothing ended short

-- each handle counts of each block what it owns there
abbrev pub AreExact : Datastore → Type 0
AreExact store = (id : List ℕ) (cidr : CidrValue) → handle_count store id cidr ≡ held_count store id cidr

-- so counts that were exact in the base are exact where nothing runs and no request was ended short
abbrev pub ExactLaw : Type 0
ExactLaw =
    (base : Base) (history : List Entry) → IsDatastore base.store → AreExact base.store → Lawful base history
    → ((slot : ℕ) → (cluster_at base history).slots slot ≡ None)
    → ((new : Entry) → Contains history new → ¬ (EndsShort new)) → AreExact (store_at base history)
