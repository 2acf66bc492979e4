-- Which replies a procedure may hear.
use Rattle.std.specs.Prelude.{◌≡◌, ◌≤◌, Option, Some}
use Rattle.ipam_block.specs.HandleOperations.{count_of}
use Rattle.ipam_records.specs.declared.key.Key.TheVariants as key
use Rattle.ipam_records.specs.declared.record.Record.TheVariants as record_of
use Rattle.ipam_records.specs.declared.call.Call.{Call}
use Rattle.ipam_records.specs.declared.call.Call.TheVariants as call
use Rattle.ipam_records.specs.Said.{Said, Found}
use Rattle.ipam_records.specs.Datastore.{Datastore, reply_of}
use Rattle.ipam_records.specs.Sound.{IsDatastore}
use Rattle.ipam_records.specs.Label.{Credit}
use Rattle.ipam_records.specs.Word.{Word, Ends, Asks, Waits}

-- some sound datastore answers so to the call
pub record CanBeSaid (call : Call) (said : Said) : Type 0 where
  pub store : Datastore
  pub sound : IsDatastore store
  pub is_reply : reply_of store call ≡ said

-- what was found is the handle, with a count of the block that is as high as the credit
abbrev pub Covers : Credit → Said → Type 0
Covers credit (Found revision (record_of.Handle handle)) = credit.amount ≤ count_of handle credit.block
Covers credit _ = ⊥

-- a read of the handle that there is a credit for finds the credit covered
abbrev pub CoversCredit : Option Credit → Call → Said → Type 0
CoversCredit (Some credit) (call.Get (key.Handle id)) said = id ≡ credit.handle → Covers credit said
CoversCredit _ _ _ = Unit {0}

-- the word asks, and its call may have this reply
abbrev pub MayHear : {A : Type 0} → Word A → Said → Type 0
MayHear (Ends answer) said = ⊥
MayHear (Asks label call next) said = CanBeSaid call said × CoversCredit label.credit call said
MayHear (Waits next) said = ⊥
