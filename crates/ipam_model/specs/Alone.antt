-- A request that runs alone, with every call done.
use Rattle.std.specs.Prelude.{◌≡◌, ◌≢◌, ℕ, ◌+◌, List, [], ◌∷◌, Some}
use Rattle.ipam_records.specs.Datastore.{Datastore, reply_of, write_granted}
use Rattle.ipam_records.specs.Word.{Word, Ends, Asks, Waits}
use Rattle.ipam_model.specs.declared.answer.Answer.{Answer}
use Rattle.ipam_model.specs.declared.answer.Answer.TheVariants as answer
use Rattle.ipam_model.specs.declared.entry.Called.{Called}
use Rattle.ipam_model.specs.declared.entry.Entry.{Entry}
use Rattle.ipam_model.specs.declared.entry.Entry.TheVariants as entry
use Rattle.ipam_model.specs.declared.entry.Fate.TheVariants.{Well}
use Rattle.ipam_model.specs.declared.request.Request.{Request}
use Rattle.ipam_model.specs.declared.request.Request.TheVariants.{Collect}
use Rattle.ipam_model.specs.Cluster.{store_with}
use Rattle.ipam_model.specs.Consistent.{IsConsistent}
use Rattle.ipam_model.specs.History.{Base, Lawful, store_at}
use Rattle.ipam_model.specs.Requests.{word_of}
use Rattle.ipam_model.specs.SoundRequest.{IsSoundRequest}

-- The answer and the last store of a word whose calls are all done from this moment on, and which is
-- fed this list where it waits.
abbrev pub alone : {A : Type 0} → Datastore → (moment : ℕ) → (live : List (List ℕ)) → Word A → A × Datastore
alone store moment live (Ends answer) = (answer, store)
alone store moment live (Asks label asked next) =
    alone (store_with (write_granted asked (reply_of store asked)) store) (moment + 1) live
    (next moment (reply_of store asked))
alone store moment live (Waits next) = alone store (moment + 1) live (next live)

-- a collection is fed the list that it began with
abbrev pub live_of : Request → List (List ℕ)
live_of (Collect request) = request.live
live_of _ = []

-- the answer and the last store of the request that runs alone over the base
abbrev pub alone_over : Base → Request → Answer × Datastore
alone_over base request = alone base.store (base.first + 1) (live_of request) (word_of request)

-- ---- it is what happens where nothing else does

-- the list and the time with which a collection began
abbrev pub IsFirstList : Request → (at : ℕ) → List (List ℕ) → Type 0
IsFirstList (Collect request) at live = (at ≡ request.at) × (live ≡ request.live)
IsFirstList _ at live = ⊥

-- Slot 0 runs the request by itself, every call is done, and where it waits it is fed the list and the
-- time that it began with. The newest entry is first.
abbrev pub IsAlone : Request → List Entry → Type 0
IsAlone request [] = ⊥
IsAlone request (entry.Began slot other ∷ history) = (slot ≡ 0) × (other ≡ request) × (history ≡ [])
IsAlone request (entry.Called c ∷ history) = (c.slot ≡ 0) × (c.fate ≡ Well) × IsAlone request history
IsAlone request (entry.Fed slot at live ∷ history) =
    (slot ≡ 0) × IsFirstList request at live × IsAlone request history
IsAlone request (entry.Stopped slot ∷ history) = ⊥

-- The request that runs alone has this answer, and leaves this datastore.
abbrev pub AloneHistoryLaw : Type 0
AloneHistoryLaw =
    (base : Base) (request : Request) (history : List Entry) (c : Called) (told : Answer)
    → Lawful base (entry.Called c ∷ history) → IsAlone request (entry.Called c ∷ history) → c.answer ≡ Some told
    → (told ≡ (alone_over base request).0)
    × (store_at base (entry.Called c ∷ history) ≡ (alone_over base request).1)

-- ---- its answer

-- Alone no call fails, so no request is answered Fault.
abbrev pub AloneFaultLaw : Type 0
AloneFaultLaw = (base : Base) (request : Request) → (alone_over base request).0 ≢ answer.Fault

-- Alone no race is lost and no claim made twice, so over a consistent base no request is answered
-- Again, whether there is room, revisions and counts enough or not.
abbrev pub AloneAgainLaw : Type 0
AloneAgainLaw =
    (base : Base) (request : Request) (lost claims : ℕ) → IsConsistent base.store → IsSoundRequest request
    → (alone_over base request).0 ≢ answer.Again lost claims
