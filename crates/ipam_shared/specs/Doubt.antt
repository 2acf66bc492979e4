-- A write that failed, and what may have become of it.
use Rattle.std.specs.Prelude.{◌≡◌, List, ◌∷◌, ◌++◌, Option, Some, None}
use Rattle.ipam_records.specs.declared.call.Row.{Row as RowText}
use Rattle.ipam_records.specs.declared.key.Key.{Key}
use Rattle.ipam_records.specs.KeyText.{key_bytes}
use Rattle.ipam_model.specs.declared.entry.Called.{Called}
use Rattle.ipam_model.specs.declared.entry.CallName.{CallName}
use Rattle.ipam_model.specs.declared.entry.CallName.TheVariants as name
use Rattle.ipam_model.specs.declared.entry.Entry.{Entry}
use Rattle.ipam_model.specs.declared.entry.Entry.TheVariants as entry
use Rattle.ipam_model.specs.declared.entry.Fate.TheVariants.{Before, After}
use Rattle.ipam_model.specs.Consistent.{IsConsistent}
use Rattle.ipam_model.specs.FateLaw.{IsSameCall}
use Rattle.ipam_model.specs.History.{Base, Lawful, store_at}
use Rattle.ipam_model.specs.Opened.{OpensAs}
use Rattle.ipam_shared.specs.declared.write.RowWrite.{RowWrite}
use Rattle.ipam_shared.specs.Rows.{AreKept, AreTextsOf, key_written, rows_after, texts_loaded}

-- the key that a call writes
abbrev pub key_called : CallName → Option Key
key_called (name.Get key) = None
key_called (name.List kind) = None
key_called (name.Create key) = Some key
key_called (name.Update key revision) = Some key
key_called (name.Delete key revision) = Some key

-- the write is one of the key that the call writes
pub record WritesKeyOf (write : RowWrite) (call : CallName) : Type 0 where
  pub key : Key
  pub called : key_called call ≡ Some key
  pub own : key_written write ≡ key_bytes key

-- The write is that of a call of the history, which failed before it was done, and since which nothing
-- was written. Had it failed after it was done instead, which is lawful too, the rows would be those
-- that the write leaves.
pub record FailedIn (write : RowWrite) (base : Base) (history : List Entry) : Type 0 where
  pub later : List Entry
  pub call : Called
  pub earlier : List Entry
  pub is_history : history ≡ later ++ entry.Called call ∷ earlier
  pub failed : call.fate ≡ Before
  pub own : WritesKeyOf write call.call
  pub other : Called
  pub same_call : IsSameCall call other After
  pub lawful : Lawful base (entry.Called other ∷ earlier)
  pub leaves : (rows : List RowText) → AreTextsOf rows (store_at base history)
      → AreTextsOf (rows_after write rows) (store_at base (entry.Called other ∷ earlier))

-- what is in doubt failed so
abbrev pub IsDoubt : Option RowWrite → Base → List Entry → Type 0
IsDoubt None base history = Unit {0}
IsDoubt (Some write) base history = FailedIn write base history

-- ---- what is kept may be opened again

-- the rows open as the datastore of a lawful history
pub record OpensAsLawful (rows : List RowText) (base : Base) : Type 0 where
  pub history : List Entry
  pub lawful : Lawful base history
  pub opens : OpensAs (texts_loaded rows) (record {
    rows = (store_at base history).rows;
    counter = (texts_loaded rows).counter;
  })

-- Whatever rows a keeper has of a lawful history, be the write in doubt done or not, they may be opened.
abbrev pub KeptOpensLaw : Type 0
KeptOpensLaw =
    (base : Base) (history : List Entry) (doubt : Option RowWrite) (rows : List RowText)
    → IsConsistent base.store → Lawful base history → IsDoubt doubt base history
    → AreKept rows (store_at base history) doubt → OpensAsLawful rows base
