-- What the calls of a request made a handle's count ahead by.
use Rattle.std.specs.Prelude.{◌≡◌, ◌⊎◌, ℕ, ◌+◌, ◌<◌, ◌≤◌, List, Option, Some, None}
use Rattle.std.specs.List.{range_with_len, sum_by}
use Rattle.ipam_addr.specs.Shape.{CidrValue}
use Rattle.ipam_records.specs.declared.key.Key.{Key}
use Rattle.ipam_records.specs.declared.key.Key.TheVariants as key
use Rattle.ipam_records.specs.Label.{Credit}
use Rattle.ipam_records.specs.Sound.{IsDatastore}
use Rattle.ipam_model.specs.declared.entry.CallName.{CallName}
use Rattle.ipam_model.specs.declared.entry.CallName.TheVariants as name
use Rattle.ipam_model.specs.declared.entry.Called.{Called}
use Rattle.ipam_model.specs.declared.entry.Entry.{Entry}
use Rattle.ipam_model.specs.declared.entry.Entry.TheVariants as entry
use Rattle.ipam_model.specs.declared.entry.Told.TheVariants as told
use Rattle.ipam_model.specs.declared.request.Request.{Request}
use Rattle.ipam_model.specs.CountLaw.{handle_count, held_count, IsCovered}
use Rattle.ipam_model.specs.Course.{slot_count}
use Rattle.ipam_model.specs.History.{Base, Lawful, RequestSpan, InSpan, cluster_at, seen_at, store_at}
use Rattle.ipam_model.specs.Moments.{request_in}

-- the key whose row a call writes
abbrev pub call_key_written : CallName → Option Key
call_key_written (name.Get key) = None
call_key_written (name.List kind) = None
call_key_written (name.Create key) = Some key
call_key_written (name.Update key revision) = Some key
call_key_written (name.Delete key revision) = Some key

-- at the moment the span wrote the key's row, or deleted it
pub record HasWritten (span : RequestSpan) (moment : ℕ) (key : Key) : Type 0 where
  pub c : Called
  pub in_span : InSpan span moment (entry.Called c)
  pub is_of : call_key_written c.call ≡ Some key
  pub revision : ℕ
  pub is_done : c.reply ≡ told.Done revision

-- it has not done so since the moment
abbrev pub NotSince : RequestSpan → (moment : ℕ) → Key → Type 0
NotSince span moment key = (later : ℕ) → moment < later → ¬ (HasWritten span later key)

-- the count as it was before the moment, and after it
abbrev pub count_before : RequestSpan → (moment : ℕ) → List ℕ → CidrValue → ℕ
count_before span moment id cidr = handle_count (seen_at span moment) id cidr

abbrev pub held_before : RequestSpan → (moment : ℕ) → List ℕ → CidrValue → ℕ
held_before span moment id cidr = held_count (seen_at span moment) id cidr

-- at the moment the span raised the handle's count of the block by one
pub record HasRaised (span : RequestSpan) (moment : ℕ) (id : List ℕ) (cidr : CidrValue) : Type 0 where
  pub wrote : HasWritten span moment (key.Handle id)
  pub by_one : count_before span (moment + 1) id cidr ≡ count_before span moment id cidr + 1

-- at the moment the span took so many of the handle's addresses out of the block, and not none
pub record HasFreed (span : RequestSpan) (moment : ℕ) (credit : Credit) : Type 0 where
  pub wrote : HasWritten span moment (key.Block credit.block)
  pub some : 0 < credit.amount
  pub so_many : held_before span moment credit.handle credit.block ≡ held_before span (moment + 1) credit.handle credit.block + credit.amount

-- The request that runs has this credit: of one from the write that raised the count to the write of
-- the block or of the handle, or of what it freed from the write of the block to that of the handle.
pub data HasCredit (span : RequestSpan) : Credit → Type 0 where
  OfRaised : (id : List ℕ) (cidr : CidrValue) (moment : ℕ) → HasRaised span moment id cidr
      → NotSince span moment (key.Block cidr) → NotSince span moment (key.Handle id)
      → HasCredit span (record { handle = id; block = cidr; amount = 1 })
  OfFreed : (credit : Credit) (moment : ℕ) → HasFreed span moment credit
      → NotSince span moment (key.Handle credit.handle) → HasCredit span credit

-- the request that runs has the credit
pub record RunsWith (span : RequestSpan) (credit : Credit) : Type 0 where
  pub request : Request
  pub runs : request_in (cluster_at span.base span.history) span.slot ≡ Some request
  pub has : HasCredit span credit

-- The count of a block covers the addresses and the credits that the slots' requests have: whatever
-- numbers are 0 or such credits.
abbrev pub AreCreditsCovered : Base → List Entry → Type 0
AreCreditsCovered base history =
    (id : List ℕ) (cidr : CidrValue) (ahead : ℕ → ℕ)
    → ((slot : ℕ) → (ahead slot ≡ 0) ⊎ RunsWith (record { base = base; history = history; slot = slot }) (record { handle = id; block = cidr; amount = ahead slot }))
    → held_count (store_at base history) id cidr + sum_by ahead (range_with_len 0 slot_count)
    ≤ handle_count (store_at base history) id cidr

abbrev pub CreditsLaw : Type 0
CreditsLaw =
    (base : Base) (history : List Entry) → IsDatastore base.store → IsCovered base.store → Lawful base history
    → AreCreditsCovered base history
