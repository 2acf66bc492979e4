-- What a kept cluster's keeper is sure of, and what a crash leaves of it.
use Rattle.std.specs.Prelude.{◌≡◌, ℕ, ◌≤◌, ◌⊎◌, List, ◌∷◌, ◌++◌, Option, Some}
use Rattle.ipam_records.specs.declared.call.Row.{Row as RowText}
use Rattle.ipam_model.specs.declared.entry.Called.{Called}
use Rattle.ipam_model.specs.declared.entry.Entry.{Entry}
use Rattle.ipam_model.specs.declared.entry.Entry.TheVariants as entry
use Rattle.ipam_model.specs.declared.entry.Fate.TheVariants.{Before, After}
use Rattle.ipam_model.specs.Consistent.{IsConsistent}
use Rattle.ipam_model.specs.FateLaw.{IsSameCall}
use Rattle.ipam_model.specs.History.{Base, Lawful, moment_of, store_at}
use Rattle.ipam_model.specs.Opened.{OpensAs}
use Rattle.ipam_shared.specs.declared.kept.Kept.{Kept}
use Rattle.ipam_shared.specs.declared.write.RowWrite.{RowWrite}
use Rattle.ipam_shared.specs.Doubt.{IsDoubt}
use Rattle.ipam_shared.specs.Feed.{FedFor}
use Rattle.ipam_shared.specs.Kept.{KeptFor, Tells}
use Rattle.ipam_shared.specs.Rows.{AreToldKept, texts_loaded}

-- ---- the rows of a moment

-- The rows, where they are known, are those that a keeper has at a moment of the history at which there
-- were at least so many entries: the datastore's then, but for the row that was in doubt then.
pub record AreSince (count : ℕ) (told : Option (List RowText)) (base : Base) (history : List Entry) : Type 0 where
  pub later : List Entry
  pub earlier : List Entry
  pub is_history : history ≡ later ++ earlier
  pub enough : count ≤ moment_of base earlier
  pub doubt : Option RowWrite
  pub is_doubt : IsDoubt doubt base earlier
  pub rows : AreToldKept told (store_at base earlier) doubt

-- what the keeper is sure of is what it had at a moment that is no earlier than its last settling
abbrev pub SureFor : {D : Type 0} → (sure : Tells D) → Kept D → Base → List Entry → Type 0
SureFor sure kept base history = AreSince kept.settled (sure kept.keeper) base history

-- the cluster is kept and fed for the history, and its keeper is sure of what it had at a moment of it
pub record HeldFor {D : Type 0} (tells sure : Tells D) (kept : Kept D) (base : Base) (history : List Entry) : Type 0 where
  pub fed : FedFor tells kept base history
  pub is_sure : SureFor sure kept base history

-- ---- what calls do to it

-- of whatever history the one's keeper is sure, the other's is of that with this entry, since the same
-- settling
pub record SureWith {D : Type 0} (tells sure : Tells D) (old new : Kept D) (added : Entry) : Type 0 where
  pub settled : new.settled ≡ old.settled
  pub stays : (base : Base) (history : List Entry) → KeptFor tells old base history → SureFor sure old base history → SureFor sure new base (added ∷ history)

-- the other's is sure of whatever the one's is
abbrev pub StaysSure : {D : Type 0} → (tells sure : Tells D) → (old new : Kept D) → Type 0
StaysSure tells sure old new =
    (base : Base) (history : List Entry) → KeptFor tells old base history → SureFor sure old base history → SureFor sure new base history

-- ---- what is left may be opened again

-- The one history ends with a call that failed before it was done, and since which nothing was written; the
-- other with that call, had it failed after it was done.
pub record EndsInstead (history instead : List Entry) : Type 0 where
  pub later : List Entry
  pub call : Called
  pub earlier : List Entry
  pub is_history : history ≡ later ++ entry.Called call ∷ earlier
  pub failed : call.fate ≡ Before
  pub other : Called
  pub same_call : IsSameCall call other After
  pub is_instead : instead ≡ entry.Called other ∷ earlier

-- the rows open as the datastore at the end of this history, or as that which the call in doubt would have
-- left
pub record OpensAtEnd (rows : List RowText) (base : Base) (history : List Entry) : Type 0 where
  pub ended : List Entry
  pub is_ended : (ended ≡ history) ⊎ EndsInstead history ended
  pub lawful : Lawful base ended
  pub opens : OpensAs (texts_loaded rows) (record {
    rows = (store_at base ended).rows;
    counter = (texts_loaded rows).counter;
  })

-- they open so of a moment of the history at which there were at least so many entries
pub record OpensSince (count : ℕ) (rows : List RowText) (base : Base) (history : List Entry) : Type 0 where
  pub later : List Entry
  pub earlier : List Entry
  pub is_history : history ≡ later ++ earlier
  pub enough : count ≤ moment_of base earlier
  pub opens : OpensAtEnd rows base earlier

-- Whatever rows a keeper is sure of in a lawful history, they may be opened: as the datastore of a moment
-- that is no earlier than the last settling.
abbrev pub SureOpensLaw : Type 0
SureOpensLaw =
    (base : Base) (history : List Entry) (count : ℕ) (rows : List RowText)
    → IsConsistent base.store → Lawful base history
    → AreSince count (Some rows) base history → OpensSince count rows base history
