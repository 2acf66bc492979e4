-- What is left of an ADD without an address at each of its stages.
use Rattle.std.specs.Prelude.{Bool, true, false, List, [], ◌∷◌, ◌++◌, ℕ}
use Rattle.ipam_addr.specs.declared.address.Family.{Family}
use Rattle.ipam_addr.specs.declared.address.Family.TheVariants.{V4, V6}
use Rattle.ipam_records.specs.Word.{Word, bound}
use Rattle.ipam_model.specs.declared.outcome.AddAnswer.{AddAnswer}
use Rattle.ipam_model.specs.declared.outcome.Gift.{Gift}
use Rattle.ipam_model.specs.declared.outcome.Served.{Served}
use Rattle.ipam_model.specs.declared.part.Left.{Left}
use Rattle.ipam_model.specs.declared.part.Outcome.{Outcome}
use Rattle.ipam_model.specs.declared.request.AddRequest.{AddRequest}
use Rattle.ipam_model.specs.Add.{add_each, add_stops, after_family}
use Rattle.ipam_model.specs.Step.{Part, goes as went, part_then, onward, as_word}
use Rattle.ipam_parts.specs.Freeing.{freeing_rest, freeing_leaves}
use Rattle.ipam_parts.specs.declared.freeing.FreeingTurned.{FreeingTurned}
use Rattle.ipam_parts.specs.declared.freeing.Freeing.{Freeing}
use Rattle.ipam_assign.specs.Grant.{gift_in}
use Rattle.ipam_assign.specs.Serving.{serving_rest, serving_leaves}
use Rattle.ipam_assign.specs.declared.add.AddProc.{AddProc}
use Rattle.ipam_assign.specs.declared.add.AddTurned.{AddTurned}
use Rattle.ipam_assign.specs.declared.add.Goes.{Goes}
use Rattle.ipam_assign.specs.declared.add.Goes.TheVariants as goes
use Rattle.ipam_assign.specs.declared.add.Stage.{Stage}
use Rattle.ipam_assign.specs.declared.add.Stage.TheVariants.{Serves, Refuses}
use Rattle.ipam_assign.specs.declared.add.Turn.{Turn}
use Rattle.ipam_assign.specs.declared.add.Turn.TheVariants.{Only, First, Second}
use Rattle.ipam_assign.specs.declared.serving.Serving.{Serving}
use Rattle.ipam_assign.specs.declared.serving.ServingTurned.{ServingTurned}

abbrev pub turn_family : Turn → Family
turn_family (Only family) = family
turn_family First = V4
turn_family (Second grant) = V6

-- what was given before
abbrev pub turn_gifts : Turn → List Gift
turn_gifts (Only family) = []
turn_gifts First = []
turn_gifts (Second grant) = gift_in grant ∷ []

-- the families after this one
abbrev pub turn_later : Turn → List Family
turn_later (Only family) = []
turn_later First = V6 ∷ []
turn_later (Second grant) = []

abbrev pub first_turn : (ipv4 ipv6 : Bool) → Turn
first_turn true true = First
first_turn true false = Only V4
first_turn false true = Only V6
first_turn false false = Only V4

-- what follows where the family was given an address
abbrev pub add_on : AddRequest → Turn → Gift → Left → Part AddAnswer
add_on request turn gift now = add_each request (turn_gifts turn ++ gift ∷ []) (turn_later turn) now

-- what follows the rounds of the family
abbrev pub family_then : AddRequest → Turn → Outcome Served → Part AddAnswer
family_then request turn = after_family request (turn_gifts turn) (add_on request turn)

-- the answer after the freeing
abbrev pub then_answer : AddAnswer → Left → ℕ → Part AddAnswer
then_answer answer now amount = went now answer

abbrev pub serves_part : AddRequest → Turn → Serving → Part AddAnswer
serves_part request turn serving = bound (serving_rest request serving) (family_then request turn)

abbrev pub refuses_part : AddRequest → Freeing → AddAnswer → Part AddAnswer
refuses_part request freeing answer = part_then (freeing_rest request.attributes.handle freeing) (then_answer answer)

abbrev pub add_part : AddRequest → Turn → Stage → Part AddAnswer
add_part request turn (Serves serving) = serves_part request turn serving
add_part request turn (Refuses freeing answer) = refuses_part request freeing answer

abbrev pub add_at : Part AddAnswer → Word AddAnswer
add_at part = as_word add_stops part

abbrev pub add_rest : AddProc → Word AddAnswer
add_rest p = add_at (add_part p.request p.turn p.stage)

-- what is left once the rounds go where a reply led them; no other stage has any
abbrev pub serves_leaves : AddRequest → Turn → Stage → ServingTurned → Part AddAnswer
serves_leaves request turn (Serves serving) turned = bound (serving_leaves request serving turned) (family_then request turn)
serves_leaves request turn stage turned = add_part request turn stage

-- what is left once the freeing goes where a reply led it; no other stage has one
abbrev pub refuses_leaves : AddRequest → Turn → Stage → FreeingTurned → Part AddAnswer
refuses_leaves request turn (Refuses freeing answer) turned =
    part_then (freeing_leaves request.attributes.handle freeing turned) (then_answer answer)
refuses_leaves request turn stage turned = add_part request turn stage

-- what is left once it goes there
abbrev pub add_goes : AddProc → Goes → Word AddAnswer
add_goes p (goes.Serve turned) = add_at (serves_leaves p.request p.turn p.stage turned)
add_goes p (goes.Free turned) = add_at (refuses_leaves p.request p.turn p.stage turned)

abbrev pub add_leaves : AddProc → AddTurned → Word AddAnswer
add_leaves p turned = add_goes p turned.goes

-- what is answered where the freeing came to this
abbrev pub freed_to : AddAnswer → Outcome ℕ → Word AddAnswer
freed_to answer outcome = add_at (onward (then_answer answer) outcome)
