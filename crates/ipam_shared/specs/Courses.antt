-- The history of a request that runs by itself: to its answer, or to a call at which the keeper failed.
use Rattle.std.specs.Prelude.{◌≡◌, List, ◌∷◌, Option, Some}
use Rattle.ipam_records.specs.declared.call.Row.{Row as RowText}
use Rattle.ipam_records.specs.Datastore.{Datastore}
use Rattle.ipam_model.specs.declared.answer.Answer.{Answer}
use Rattle.ipam_model.specs.declared.answer.Answer.TheVariants.{Fault}
use Rattle.ipam_model.specs.declared.entry.Called.{Called}
use Rattle.ipam_model.specs.declared.entry.Entry.{Entry}
use Rattle.ipam_model.specs.declared.entry.Entry.TheVariants as entry
use Rattle.ipam_model.specs.declared.entry.Fate.TheVariants.{Before}
use Rattle.ipam_model.specs.declared.request.Request.{Request}
use Rattle.ipam_model.specs.Alone.{IsAlone}
use Rattle.ipam_model.specs.History.{Base, Lawful, store_at}
use Rattle.ipam_shared.specs.declared.write.RowWrite.{RowWrite}
use Rattle.ipam_shared.specs.Doubt.{IsDoubt}
use Rattle.ipam_shared.specs.Rows.{AreToldKept}

-- A lawful history in which the request runs by itself to this answer, and leaves this datastore. So all
-- that holds of lawful histories holds of the answer. A collection that has a grace runs to none: the
-- list that it is fed at once comes too soon.
pub record IsAnswerCourse (base : Base) (asked : Request) (found : Answer) (left : Datastore) : Type 0 where
  pub last : Called
  pub earlier : List Entry
  pub lawful : Lawful base (entry.Called last ∷ earlier)
  pub ends : last.answer ≡ Some found
  pub alone : IsAlone asked (entry.Called last ∷ earlier)
  pub leaves : store_at base (entry.Called last ∷ earlier) ≡ left

-- The rows are those of a lawful course of the request that ends in a call at which the keeper failed,
-- but for the row in doubt.
pub record IsFaultCourse (base : Base) (asked : Request) (new : Option (List RowText)) : Type 0 where
  pub last : Called
  pub earlier : List Entry
  pub lawful : Lawful base (entry.Called last ∷ earlier)
  pub ends : last.answer ≡ Some Fault
  pub failed : last.fate ≡ Before
  pub own : last.slot ≡ 0
  pub alone : IsAlone asked earlier
  pub doubt : Option RowWrite
  pub rows : AreToldKept new (store_at base (entry.Called last ∷ earlier)) doubt
  pub is_doubt : IsDoubt doubt base (entry.Called last ∷ earlier)
