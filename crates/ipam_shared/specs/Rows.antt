-- The rows that a keeper has of a datastore: all of them, or all but one that is in doubt.
use Rattle.std.specs.Prelude.{◌≡◌, ℕ, ◌⊎◌, max, List, [], ◌∷◌, Option, Some, None, IfSome}
use Rattle.std.specs.List.Sorted.{IsPermutation}
use Rattle.ipam_records.specs.declared.call.Row.{Row as RowText}
use Rattle.ipam_records.specs.declared.call.Write.{Write}
use Rattle.ipam_records.specs.declared.call.Write.TheVariants as write
use Rattle.ipam_records.specs.Datastore.{Datastore, row_of}
use Rattle.ipam_records.specs.declared.key.Key.{Key}
use Rattle.ipam_records.specs.KeyText.{key_bytes, key_read}
use Rattle.ipam_keeper.specs.Keeping.{KeeperChange, PutIn, TakeOut}
use Rattle.ipam_keeper.specs.Rows.{rows_with, rows_without}
use Rattle.ipam_model.specs.Opened.{AreByKey, Texts, text_of, texts_of}
use Rattle.ipam_model.specs.Reads.{StoredRecord}
use Rattle.ipam_shared.specs.declared.write.RowWrite.{RowWrite}
use Rattle.ipam_shared.specs.declared.write.RowWrite.TheVariants.{Put, Remove}

-- the texts of the datastore's rows, by ascending key
pub record AreTextsOf (rows : List RowText) (store : Datastore) : Type 0 where
  pub by_key : AreByKey rows
  pub same_rows : IsPermutation (texts_of store) rows

-- ---- a write as texts

-- what the keeper is given of a write
abbrev pub texts_written : Write → RowWrite
texts_written (write.Put revision new) = Put (text_of (revision, new))
texts_written (write.Remove revision key) = Remove (key_bytes key)

abbrev pub key_written : RowWrite → List ℕ
key_written (Put row) = row.key
key_written (Remove key) = key

-- the change that a keeper is given of it
abbrev pub change_of : RowWrite → KeeperChange
change_of (Put row) = PutIn row
change_of (Remove key) = TakeOut key

-- the rows once the write is done
abbrev pub rows_after : RowWrite → List RowText → List RowText
rows_after (Put row) = rows_with row
rows_after (Remove key) = rows_without key

-- the row of a key that is read
abbrev pub row_of_read_key : Option Key → Datastore → Option StoredRecord
row_of_read_key None store = None
row_of_read_key (Some key) store = row_of key store.rows

-- what puts a row back, or takes away the one that the datastore does not have
abbrev pub putting_back : (key : List ℕ) → Option StoredRecord → RowWrite
putting_back key None = Remove key
putting_back key (Some row) = Put (text_of row)

-- the write that leaves the datastore's row of the key
abbrev pub row_back : (key : List ℕ) → Datastore → RowWrite
row_back key store = putting_back key (row_of_read_key (key_read key) store)

-- ---- the rows of a keeper

-- the rows are those of the datastore; with a write in doubt, they may be those that it leaves instead
abbrev pub AreKept : List RowText → Datastore → (doubt : Option RowWrite) → Type 0
AreKept rows store None = AreTextsOf rows store
AreKept rows store (Some write) =
    (own : List RowText) × AreTextsOf own store × ((rows ≡ own) ⊎ (rows ≡ rows_after write own))

-- so are the rows of a keeper that tells them
abbrev pub AreToldKept : Option (List RowText) → Datastore → (doubt : Option RowWrite) → Type 0
AreToldKept told store doubt = IfSome told (λ rows. AreKept rows store doubt)

-- ---- the rows that are loaded

-- the greatest revision, or 0
abbrev pub greatest : List RowText → ℕ
greatest [] = 0
greatest (row ∷ rows) = max row.revision (greatest rows)

-- the counter of rows by themselves is their greatest revision
abbrev pub texts_loaded : List RowText → Texts
texts_loaded rows = record { rows = rows; counter = greatest rows }
