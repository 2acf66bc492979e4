-- What a request makes of its slot, from its beginning to its answer.
use Rattle.std.specs.Prelude.{◌≡◌, ℕ, ◌⊎◌, List, [], ◌∷◌, ◌++◌, Option, Some, None, Bool, true, false}
use Rattle.ipam_model.specs.declared.answer.Answer.{Answer}
use Rattle.ipam_model.specs.declared.entry.Entry.{Entry}
use Rattle.ipam_model.specs.declared.entry.Entry.TheVariants as entry
use Rattle.ipam_model.specs.declared.request.CollectRequest.{CollectRequest}
use Rattle.ipam_model.specs.declared.request.Request.{Request}
use Rattle.ipam_model.specs.declared.request.Request.TheVariants.{Collect}

-- calls of the slot, none of which is answered
abbrev pub GoesOn : ℕ → List Entry → Type 0
GoesOn slot [] = Unit {0}
GoesOn slot (entry.Called c ∷ earlier) = (c.slot ≡ slot) × (c.answer ≡ None) × GoesOn slot earlier
GoesOn slot (entry.Began other request ∷ earlier) = ⊥
GoesOn slot (entry.Fed other at live ∷ earlier) = ⊥
GoesOn slot (entry.Stopped other ∷ earlier) = ⊥

-- calls of the slot up to this answer, which the last one has
abbrev pub AnswersWith : ℕ → Answer → List Entry → Type 0
AnswersWith slot told [] = ⊥
AnswersWith slot told (entry.Called c ∷ earlier) = (c.slot ≡ slot) × (c.answer ≡ Some told) × GoesOn slot earlier
AnswersWith slot told (entry.Began other request ∷ earlier) = ⊥
AnswersWith slot told (entry.Fed other at live ∷ earlier) = ⊥
AnswersWith slot told (entry.Stopped other ∷ earlier) = ⊥

-- calls of the slot up to their answer, or with none so far
abbrev pub Reaches : ℕ → Option Answer → List Entry → Type 0
Reaches slot None calls = GoesOn slot calls
Reaches slot (Some told) calls = AnswersWith slot told calls

-- this entry, and then calls up to their answer, or with none so far
pub record SlotSpan (slot : ℕ) (first : Entry) (answer : Option Answer) (entries : List Entry) : Type 0 where
  pub calls : List Entry
  pub are : entries ≡ calls ++ first ∷ []
  pub reaches : Reaches slot answer calls

-- a collection that waited, and then was fed the list that it began with, at the time 0
pub record FedOwn (slot : ℕ) (asked : CollectRequest) (answer : Option Answer) (entries : List Entry) : Type 0 where
  pub earlier : List Entry
  pub later : List Entry
  pub are : entries ≡ later ++ earlier
  pub before : SlotSpan slot (entry.Began slot (Collect asked)) None earlier
  pub behind : SlotSpan slot (entry.Fed slot 0 asked.live) answer later

-- a collection that was made at the time 0 and has no grace
abbrev pub IsTimeless : Request → Type 0
IsTimeless (Collect asked) = (asked.at ≡ 0) × (asked.grace ≡ 0)
IsTimeless other = Unit {0}

-- how many turns may find that it waits, of those that a CNI call takes which makes this request
abbrev pub waits_of : Request → ℕ
waits_of (Collect asked) = 1
waits_of other = 0

-- ---- what is done in the slot

-- what a line has the session do
pub data Deed : Type 0 where
  Nothing : Deed
  -- the request goes on to its answer, or until it waits
  Begins : Request → Deed
  -- the request of a CNI call goes on to its answer; a collection is fed its own list where it waits
  Calls : Request → Deed
  -- the collection that waits is fed this list, which was made at this time
  Feeds : List (List ℕ) → (at : ℕ) → Deed
  -- the collection that waits is stopped
  Stops : Deed

-- a second list that is early is not fed
abbrev pub list_deed : (early : Bool) → (live : List (List ℕ)) (at : ℕ) → Deed
list_deed true live at = Nothing
list_deed false live at = Feeds live at

-- a collection that waits is fed the list that it began with, at the time 0
abbrev pub own_feed : Request → Deed
own_feed (Collect asked) = Feeds asked.live 0
own_feed other = Nothing

abbrev pub CallSpan : ℕ → Request → Option Answer → List Entry → Type 0
CallSpan slot request answer entries =
    SlotSpan slot (entry.Began slot request) answer entries
    ⊎ ((asked : CollectRequest) × (request ≡ Collect asked) × FedOwn slot asked answer entries)

-- it was done, with these entries of the slot and this answer, if there is one yet
abbrev pub Did : ℕ → Deed → Option Answer → List Entry → Type 0
Did slot Nothing answer entries = (answer ≡ None) × (entries ≡ [])
Did slot (Begins request) answer entries = SlotSpan slot (entry.Began slot request) answer entries
Did slot (Calls request) answer entries = CallSpan slot request answer entries
Did slot (Feeds live at) answer entries = SlotSpan slot (entry.Fed slot at live) answer entries
Did slot Stops answer entries = (answer ≡ None) × (entries ≡ entry.Stopped slot ∷ [])

-- it was done as far as it came
abbrev pub DidPart : ℕ → Deed → List Entry → Type 0
DidPart slot deed entries = (entries ≡ []) ⊎ ((answer : Option Answer) × Did slot deed answer entries)
