-- What is given to a keeper for a call, and what that makes of its rows.
use Rattle.std.specs.Prelude.{◌≡◌, ◌⊎◌, List, Option, Some, None}
use Rattle.std.specs.Option.{option_map}
use Rattle.ipam_records.specs.declared.call.Row.{Row as RowText}
use Rattle.ipam_records.specs.declared.call.Write.{Write}
use Rattle.ipam_records.specs.Datastore.{Datastore}
use Rattle.ipam_records.specs.Sound.{IsDatastore}
use Rattle.ipam_keeper.specs.Keeping.{KeeperChange, SettlesOrNot}
use Rattle.ipam_shared.specs.declared.write.RowWrite.{RowWrite}
use Rattle.ipam_shared.specs.Rows.{AreToldKept, change_of, key_written, row_back, rows_after, texts_written}

-- the rows once the write is done, where they are known
abbrev pub known_after : RowWrite → Option (List RowText) → Option (List RowText)
known_after write = option_map (rows_after write)

-- the rows once a call has written what it writes
abbrev pub known_written : Option Write → Option (List RowText) → Option (List RowText)
known_written None told = told
known_written (Some write) told = known_after (texts_written write) told

-- rows that were kept with the one doubt are kept with the other
abbrev pub StayKept : Datastore → (told : Option (List RowText)) (doubt : Option RowWrite) → (new : Option (List RowText)) (left : Option RowWrite) → Type 0
StayKept store told doubt new left = IsDatastore store → AreToldKept told store doubt → AreToldKept new store left

-- what was in doubt was put back, and then what the call writes was written
abbrev pub WereGiven : Option Write → Datastore → (told : Option (List RowText)) (doubt : Option RowWrite) → (new : Option (List RowText)) → Type 0
WereGiven write store told doubt new =
    IsDatastore store → AreToldKept told store doubt
    → (between : Option (List RowText)) × AreToldKept between store None × (new ≡ known_written write between)

-- what is sure then: what was, or all rows, or the datastore's, once what was in doubt was put back
abbrev pub SettlesGiven : Datastore → (told : Option (List RowText)) (doubt : Option RowWrite) → (old new rows : Option (List RowText)) → Type 0
SettlesGiven store told doubt old new rows =
    IsDatastore store → AreToldKept told store doubt → SettlesOrNot old new rows ⊎ AreToldKept new store None

-- ---- what a keeper was given by a call that failed

-- of a keeper before, a change and the keeper after, whether it was given the change and failed
abbrev pub Gives : Type 0 → Type 1
Gives D = D → KeeperChange → D → Type 0

module _ {D : Type 0} (gives : Gives D) where
  -- it was given back the row in doubt, which stays in doubt
  pub record FailsBack (store : Datastore) (doubt left : Option RowWrite) (before after : D) : Type 0 where
    pub write : RowWrite
    pub was : doubt ≡ Some write
    pub same : left ≡ doubt
    pub given : gives before (change_of (row_back (key_written write) store)) after

  -- It was given the call's own write, which is in doubt now. Where nothing was in doubt, that was all.
  pub record FailsOwn (write : Option Write) (doubt left : Option RowWrite) (before after : D) : Type 0 where
    pub done : Write
    pub asked : write ≡ Some done
    pub now : left ≡ Some (texts_written done)
    pub between : D
    pub first : doubt ≡ None → between ≡ before
    pub given : gives between (change_of (texts_written done)) after

  abbrev pub FailsWith : Option Write → Datastore → (doubt left : Option RowWrite) → (before after : D) → Type 0
  FailsWith write store doubt left before after =
      FailsBack store doubt left before after ⊎ FailsOwn write doubt left before after
