-- What the steps of a request leave in the slots.
use Rattle.std.proofs.Common.{◌≡◌, ◌≢◌, ℕ, List, [], ◌∷◌, ◌++◌, Option, Some, None, refl, sym, ap, ◌∙◌, subst, append_assoc}
use Rattle.std.specs.Prelude.{option_map}
use Rattle.ipam_records.specs.Datastore.{Datastore}
use Rattle.ipam_model.specs.declared.answer.Answer.{Answer}
use Rattle.ipam_model.specs.declared.entry.Called.{Called}
use Rattle.ipam_model.specs.declared.entry.Entry.{Entry}
use Rattle.ipam_model.specs.declared.entry.Entry.TheVariants as entry
use Rattle.ipam_model.specs.declared.request.Request.{Request}
use Rattle.ipam_model.specs.Alone.{IsAlone}
use Rattle.ipam_model.specs.Cluster.{RunningRequest, Slots, after, fresh_run, run_after_feed, goes_on, with_slot}
use Rattle.ipam_model.specs.History.{Base, cluster_at}
use Rattle.ipam_model.specs.Moments.{request_in}
use Rattle.ipam_laws.proofs.KeptWords.{other-slot, own-slot}
use Rattle.ipam_shared.specs.Steps.{GoesOn}

-- ---- slot 0

abbrev asked_in : Option RunningRequest → Option Request
asked_in = option_map (λ (running : RunningRequest). running.request)

fed-asked : (live : List (List ℕ)) (o : Option RunningRequest) → asked_in (run_after_feed live o) ≡ asked_in o
fed-asked live None = refl
fed-asked live (Some running) = refl

goes-asked : (store : Datastore) (moment : ℕ) (o : Option RunningRequest) → asked_in (goes_on store moment None o) ≡ asked_in o
goes-asked store moment None = refl
goes-asked store moment (Some running) = refl

-- what the slot is given is what it has
given : (changed : ℕ) (o : Option RunningRequest) (slots : Slots) → changed ≡ 0 → asked_in (with_slot changed o slots 0) ≡ asked_in o
given changed o slots e = subst (λ (s : ℕ). asked_in (with_slot s o slots 0) ≡ asked_in o) (sym e) (ap asked_in (own-slot 0 o slots))

pub begun-runs : (base : Base) (history : List Entry) (request : Request) → request_in (cluster_at base (entry.Began 0 request ∷ history)) 0 ≡ Some request
unfolding cluster_at after
begun-runs base history request = given 0 (fresh_run request) (cluster_at base history).slots refl

-- it goes on in slot 0
pub still-runs : (base : Base) (history : List Entry) (request : Request) (steps : List Entry) → GoesOn request steps → request_in (cluster_at base history) 0 ≡ Some request → request_in (cluster_at base (steps ++ history)) 0 ≡ Some request
unfolding cluster_at after
still-runs base history request [] h runs = runs
still-runs base history request (entry.Called c ∷ steps) h runs =
    let one = cluster_at base (steps ++ history) in
    let P : ℕ → Type 0 = λ s. asked_in (with_slot s (goes_on one.store one.entries c.answer (one.slots s)) one.slots 0) ≡ Some request in
    let none = subst (λ (a : Option Answer). asked_in (goes_on one.store one.entries a (one.slots 0)) ≡ asked_in (one.slots 0)) (sym h.2) (goes-asked one.store one.entries (one.slots 0)) in
    subst P (sym h.0) (given 0 (goes_on one.store one.entries c.answer (one.slots 0)) one.slots refl ∙ none ∙ still-runs base history request steps h.3 runs)
still-runs base history request (entry.Fed slot at live ∷ steps) h runs =
    let one = cluster_at base (steps ++ history) in
    let P : ℕ → Type 0 = λ s. asked_in (with_slot s (run_after_feed live (one.slots s)) one.slots 0) ≡ Some request in
    subst P (sym h.0) (given 0 (run_after_feed live (one.slots 0)) one.slots refl ∙ fed-asked live (one.slots 0) ∙ still-runs base history request steps h.2 runs)
still-runs base history request (entry.Began slot other ∷ steps) h runs = absurd h
still-runs base history request (entry.Stopped slot ∷ steps) h runs = absurd h

-- ---- the other slots

other-given : (changed slot : ℕ) (o : Option RunningRequest) (slots : Slots) → changed ≡ 0 → slot ≢ 0 → with_slot changed o slots slot ≡ slots slot
other-given changed slot o slots e differ = other-slot changed slot o slots (λ same. differ (sym same ∙ e))

-- steps leave them
pub others-stay : (base : Base) (history : List Entry) (request : Request) (steps : List Entry) (slot : ℕ) → GoesOn request steps → slot ≢ 0 → (cluster_at base (steps ++ history)).slots slot ≡ (cluster_at base history).slots slot
unfolding cluster_at after
others-stay base history request [] slot h differ = refl
others-stay base history request (entry.Called c ∷ steps) slot h differ =
    other-given c.slot slot _ (cluster_at base (steps ++ history)).slots h.0 differ ∙ others-stay base history request steps slot h.3 differ
others-stay base history request (entry.Fed changed at live ∷ steps) slot h differ =
    other-given changed slot _ (cluster_at base (steps ++ history)).slots h.0 differ ∙ others-stay base history request steps slot h.2 differ
others-stay base history request (entry.Began changed other ∷ steps) slot h differ = absurd h
others-stay base history request (entry.Stopped changed ∷ steps) slot h differ = absurd h

-- so does the beginning
pub begun-leaves : (base : Base) (history : List Entry) (request : Request) (slot : ℕ) → slot ≢ 0 → (cluster_at base (entry.Began 0 request ∷ history)).slots slot ≡ (cluster_at base history).slots slot
unfolding cluster_at after
begun-leaves base history request slot differ = other-given 0 slot (fresh_run request) (cluster_at base history).slots refl differ

-- and a call
pub called-leaves : (base : Base) (history : List Entry) (c : Called) (slot : ℕ) → c.slot ≡ 0 → slot ≢ 0 → (cluster_at base (entry.Called c ∷ history)).slots slot ≡ (cluster_at base history).slots slot
unfolding cluster_at after
called-leaves base history c slot own differ = other-given c.slot slot _ (cluster_at base history).slots own differ

-- an answer leaves slot 0 idle
pub answer-leaves : (base : Base) (history : List Entry) (c : Called) (told : Answer) → c.slot ≡ 0 → c.answer ≡ Some told → (cluster_at base (entry.Called c ∷ history)).slots 0 ≡ None
unfolding cluster_at after
answer-leaves base history c told own is =
    let one = cluster_at base history in
    let P : ℕ → Type 0 = λ s. with_slot s (goes_on one.store one.entries c.answer (one.slots s)) one.slots 0 ≡ None in
    let gone : goes_on one.store one.entries c.answer (one.slots 0) ≡ None = ap (λ (a : Option Answer). goes_on one.store one.entries a (one.slots 0)) is in
    subst P (sym own) (own-slot 0 (goes_on one.store one.entries c.answer (one.slots 0)) one.slots ∙ gone)

-- ---- as a request by itself

-- the steps after a beginning are the request alone
pub steps-alone : (request : Request) (steps : List Entry) → GoesOn request steps → IsAlone request (steps ++ (entry.Began 0 request ∷ []))
steps-alone request [] h = (refl, refl, refl)
steps-alone request (entry.Called c ∷ steps) h = (h.0, h.1, steps-alone request steps h.3)
steps-alone request (entry.Fed slot at live ∷ steps) h = (h.0, h.1, steps-alone request steps h.2)
steps-alone request (entry.Began slot other ∷ steps) h = absurd h
steps-alone request (entry.Stopped slot ∷ steps) h = absurd h

-- the beginning may be told before or after
pub joined : (request : Request) (steps history : List Entry) → (steps ++ (entry.Began 0 request ∷ [])) ++ history ≡ steps ++ (entry.Began 0 request ∷ history)
joined request steps history = append_assoc steps (entry.Began 0 request ∷ []) history
