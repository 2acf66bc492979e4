-- What is left of an ADD without an address, family by family.
use Rattle.std.proofs.Common.{◌≡◌, ◌||◌, refl, sym, ap, ◌∙◌, ℕ, Bool, true, false, List, [], ◌∷◌, Some, None, IsSome}
use Rattle.ipam_addr.specs.declared.address.Family.{Family}
use Rattle.ipam_addr.specs.declared.address.Family.TheVariants.{V6}
use Rattle.ipam_records.specs.Hearing.{MayHear}
use Rattle.ipam_records.specs.Said.{Said}
use Rattle.ipam_records.specs.Word.{next_call, after_reply, answer_in, bound}
use Rattle.ipam_model.specs.declared.outcome.AddAnswer.{AddAnswer}
use Rattle.ipam_model.specs.declared.outcome.AddAnswer.TheVariants as add
use Rattle.ipam_model.specs.declared.outcome.Gift.{Gift}
use Rattle.ipam_model.specs.declared.outcome.Served.{Served}
use Rattle.ipam_model.specs.declared.part.Left.{Left}
use Rattle.ipam_model.specs.declared.part.Outcome.{Outcome}
use Rattle.ipam_model.specs.declared.request.AddRequest.{AddRequest}
use Rattle.ipam_model.specs.Add.{add_each, add_word, free_gift, refuse, serve}
use Rattle.ipam_model.specs.declared.answer.Given.{Given}
use Rattle.ipam_model.specs.Step.{Part, all_left, part_then, onward}
use Rattle.ipam_model.specs.Usable.{families_if}
use Rattle.ipam_parts.specs.Freeing.{freeing_leaves, freeing_rest}
use Rattle.ipam_parts.specs.declared.freeing.Freeing.{Freeing}
use Rattle.ipam_parts.specs.declared.freeing.FreeingTurned.{FreeingTurned}
use Rattle.ipam_parts.proofs.BoundLaws.{asked_bound, ended_bound, goes_on_bound, heard_bound, may_hear_bound}
use Rattle.ipam_parts.proofs.FreeingAsks.{freeing_asks}
use Rattle.ipam_assign.proofs.AddThisLemmas.{asks_on, asks_open}
use Rattle.ipam_assign.specs.Grant.{gift_in}
use Rattle.ipam_assign.specs.Serving.{serving_leaves, serving_rest}
use Rattle.ipam_assign.specs.declared.add.AddProc.{AddProc}
use Rattle.ipam_assign.specs.declared.add.Stage.{Stage}
use Rattle.ipam_assign.specs.declared.add.Stage.TheVariants.{Serves, Refuses}
use Rattle.ipam_assign.specs.declared.add.Turn.{Turn}
use Rattle.ipam_assign.specs.declared.add.Turn.TheVariants.{Only, First, Second}
use Rattle.ipam_assign.specs.declared.grant.Grant.{Grant}
use Rattle.ipam_assign.specs.declared.serving.Serving.{Serving}
use Rattle.ipam_assign.specs.declared.serving.ServingTurned.{ServingTurned}
use Rattle.ipam_assign.specs.Adding.{add_at, add_on, add_part, add_rest, family_then, first_turn, freed_to, refuses_leaves, refuses_part, serves_leaves, serves_part, then_answer, turn_family, turn_gifts}
use Rattle.ipam_assign.proofs.ServingLemmas.{serving_asks}

part_asks : (request : AddRequest) (turn : Turn) (stage : Stage) → IsSome (next_call (add_part request turn stage))
part_asks request turn (Serves serving) =
    asks_on (serving_rest request serving) (family_then request turn) (serving_asks request serving)
part_asks request turn (Refuses freeing answer) =
    asks_on (freeing_rest request.attributes.handle freeing) (onward (then_answer answer)) (freeing_asks request.attributes.handle freeing)

pub stage_asks : (request : AddRequest) (turn : Turn) (stage : Stage) → IsSome (next_call (add_at (add_part request turn stage)))
stage_asks request turn stage = asks_on (add_part request turn stage) _ (part_asks request turn stage)

pub stage_goes_on : (request : AddRequest) (turn : Turn) (stage : Stage) → None ≡ answer_in (add_at (add_part request turn stage))
stage_goes_on request turn stage = asks_open (add_at (add_part request turn stage)) (stage_asks request turn stage)

-- ---- while the rounds or the freeing go on

pub asks_serving : (request : AddRequest) (turn : Turn) (serving : Serving)
    → next_call (add_at (serves_part request turn serving)) ≡ next_call (serving_rest request serving)
asks_serving request turn serving =
    asked_bound (serves_part request turn serving) _ (part_asks request turn (Serves serving))
    ∙ asked_bound (serving_rest request serving) (family_then request turn) (serving_asks request serving)

pub asks_freeing : (request : AddRequest) (turn : Turn) (freeing : Freeing) (answer : AddAnswer)
    → next_call (add_at (refuses_part request freeing answer)) ≡ next_call (freeing_rest request.attributes.handle freeing)
asks_freeing request turn freeing answer =
    asked_bound (refuses_part request freeing answer) _ (part_asks request turn (Refuses freeing answer))
    ∙ asked_bound (freeing_rest request.attributes.handle freeing) (onward (then_answer answer)) (freeing_asks request.attributes.handle freeing)

pub hears_serving : (request : AddRequest) (turn : Turn) (serving : Serving) (turned : ServingTurned) (moment : ℕ) (said : Said)
    → serving_leaves request serving turned ≡ after_reply (serving_rest request serving) moment said
    → add_at (serves_leaves request turn (Serves serving) turned) ≡ after_reply (add_at (serves_part request turn serving)) moment said
hears_serving request turn serving turned moment said is =
    ap (λ (w : Part Served). add_at (bound w (family_then request turn))) is
    ∙ sym (heard_bound (serves_part request turn serving) _ moment said (part_asks request turn (Serves serving))
    ∙ ap add_at (heard_bound (serving_rest request serving) (family_then request turn) moment said (serving_asks request serving)))

pub hears_freeing : (request : AddRequest) (turn : Turn) (freeing : Freeing) (answer : AddAnswer) (turned : FreeingTurned) (moment : ℕ) (said : Said)
    → freeing_leaves request.attributes.handle freeing turned ≡ after_reply (freeing_rest request.attributes.handle freeing) moment said
    → add_at (refuses_leaves request turn (Refuses freeing answer) turned) ≡ after_reply (add_at (refuses_part request freeing answer)) moment said
hears_freeing request turn freeing answer turned moment said is =
    ap (λ (w : Part ℕ). add_at (part_then w (then_answer answer))) is
    ∙ sym (heard_bound (refuses_part request freeing answer) _ moment said (part_asks request turn (Refuses freeing answer))
    ∙ ap add_at (heard_bound (freeing_rest request.attributes.handle freeing) (onward (then_answer answer)) moment said (freeing_asks request.attributes.handle freeing)))

pub may_hear_serving : (request : AddRequest) (turn : Turn) (serving : Serving) (said : Said)
    → MayHear (add_at (serves_part request turn serving)) said → MayHear (serving_rest request serving) said
may_hear_serving request turn serving said may =
    may_hear_bound (serving_rest request serving) (family_then request turn) said (serving_asks request serving)
    (may_hear_bound (serves_part request turn serving) _ said (part_asks request turn (Serves serving)) may)

pub may_hear_freeing : (request : AddRequest) (turn : Turn) (freeing : Freeing) (answer : AddAnswer) (said : Said)
    → MayHear (add_at (refuses_part request freeing answer)) said → MayHear (freeing_rest request.attributes.handle freeing) said
may_hear_freeing request turn freeing answer said may =
    may_hear_bound (freeing_rest request.attributes.handle freeing) (onward (then_answer answer)) said (freeing_asks request.attributes.handle freeing)
    (may_hear_bound (refuses_part request freeing answer) _ said (part_asks request turn (Refuses freeing answer)) may)

-- ---- no other stage has them

pub other_serving : (request : AddRequest) (turn : Turn) (stage : Stage) (turned : ServingTurned)
    → ((serving : Serving) → stage ≡ Serves serving → ⊥)
    → serves_leaves request turn stage turned ≡ add_part request turn stage
other_serving request turn (Serves serving) turned none = absurd (none serving refl)
other_serving request turn (Refuses freeing answer) turned none = refl

pub other_freeing : (request : AddRequest) (turn : Turn) (stage : Stage) (turned : FreeingTurned)
    → ((freeing : Freeing) → (answer : AddAnswer) → stage ≡ Refuses freeing answer → ⊥)
    → refuses_leaves request turn stage turned ≡ add_part request turn stage
other_freeing request turn (Serves serving) turned none = refl
other_freeing request turn (Refuses freeing answer) turned none = absurd (none freeing answer refl)

-- ---- once the rounds came to something

pub serving_ended : (request : AddRequest) (turn : Turn) (serving : Serving) (turned : ServingTurned) (outcome : Outcome Served)
    → Some outcome ≡ answer_in (serving_leaves request serving turned)
    → family_then request turn outcome ≡ serves_leaves request turn (Serves serving) turned
serving_ended request turn serving turned outcome is =
    sym (ended_bound (serving_leaves request serving turned) (family_then request turn) outcome is)

pub serving_open : (request : AddRequest) (turn : Turn) (serving : Serving) (turned : ServingTurned)
    → None ≡ answer_in (serving_leaves request serving turned)
    → None ≡ answer_in (add_at (serves_leaves request turn (Serves serving) turned))
serving_open request turn serving turned is =
    goes_on_bound (serves_leaves request turn (Serves serving) turned) _
    (goes_on_bound (serving_leaves request serving turned) (family_then request turn) is)

-- ---- the first family, and the second

begins_with : (request : AddRequest) (ipv4 ipv6 : Bool) → (ipv4 || ipv6) ≡ true
    → bound (serve request (turn_family (first_turn ipv4 ipv6)) all_left) (family_then request (first_turn ipv4 ipv6))
    ≡ add_each request [] (families_if ipv4 ipv6) all_left
unfolding add_each
begins_with request true true some = refl
begins_with request true false some = refl
begins_with request false true some = refl
begins_with request false false some = absurd (cc some)

pub begins : (p : AddProc) (request : AddRequest) (turn : Turn) → (request.ipv4 || request.ipv6) ≡ true
    → p.request ≡ request → p.turn ≡ turn → turn ≡ first_turn request.ipv4 request.ipv6
    → ((asking : AddRequest) → add_part asking turn p.stage ≡ bound (serve asking (turn_family turn) all_left) (family_then asking turn))
    → add_rest p ≡ add_word request
begins p request turn some same_request same_turn is_first stage =
    ap (λ t. add_at (add_part p.request t p.stage)) same_turn
    ∙ ap (λ r. add_at (add_part r turn p.stage)) same_request
    ∙ ap add_at (stage request)
    ∙ ap (λ t. add_at (bound (serve request (turn_family t) all_left) (family_then request t))) is_first
    ∙ ap add_at (begins_with request request.ipv4 request.ipv6 some)

pub second_is : (request : AddRequest) (grant : Grant) (left : Left)
    → bound (serve request V6 left) (family_then request (Second grant)) ≡ add_on request First (gift_in grant) left
unfolding add_each
second_is request grant left = refl

pub given_one : (request : AddRequest) (family : Family) (gift : Gift) (left : Left)
    → Some (add.Added (gift.given ∷ [])) ≡ answer_in (add_at (add_on request (Only family) gift left))
unfolding add_each
given_one request family gift left = refl

pub given_two : (request : AddRequest) (first : Grant) (gift : Gift) (left : Left)
    → Some (add.Added ((gift_in first).given ∷ gift.given ∷ [])) ≡ answer_in (add_at (add_on request (Second first) gift left))
unfolding add_each
given_two request first gift left = refl

-- ---- the turns

pub only_given : (request : AddRequest) (turn : Turn) (family : Family) (gift : Gift) (list : List Given) (left : Left)
    → turn ≡ Only family → list ≡ gift.given ∷ []
    → Some (add.Added list) ≡ answer_in (add_at (add_on request turn gift left))
only_given request turn family gift list left is same =
    ap (λ (l : List Given). Some (add.Added l)) same
    ∙ given_one request family gift left
    ∙ ap (λ t. answer_in (add_at (add_on request t gift left))) (sym is)

pub second_given : (request : AddRequest) (turn : Turn) (first : Grant) (gift : Gift) (list : List Given) (left : Left)
    → turn ≡ Second first → list ≡ (gift_in first).given ∷ gift.given ∷ []
    → Some (add.Added list) ≡ answer_in (add_at (add_on request turn gift left))
second_given request turn first gift list left is same =
    ap (λ (l : List Given). Some (add.Added l)) same
    ∙ given_two request first gift left
    ∙ ap (λ t. answer_in (add_at (add_on request t gift left))) (sym is)

pub first_on : (request : AddRequest) (turn : Turn) (grant : Grant) (left : Left) (stage : Stage) → turn ≡ First
    → add_part request (Second grant) stage ≡ bound (serve request V6 left) (family_then request (Second grant))
    → add_at (add_part request (Second grant) stage) ≡ add_at (add_on request turn (gift_in grant) left)
first_on request turn grant left stage is serves =
    ap add_at (serves ∙ second_is request grant left)
    ∙ ap (λ t. add_at (add_on request t (gift_in grant) left)) (sym is)

pub first_asks : (request : AddRequest) (turn : Turn) (grant : Grant) (left : Left) (stage : Stage) → turn ≡ First
    → add_part request (Second grant) stage ≡ bound (serve request V6 left) (family_then request (Second grant))
    → None ≡ answer_in (add_at (add_on request turn (gift_in grant) left))
first_asks request turn grant left stage is serves =
    stage_goes_on request (Second grant) stage ∙ ap answer_in (first_on request turn grant left stage is serves)

-- ---- what was given is freed

pub refuses_on : (request : AddRequest) (turn : Turn) (first : Grant) (answer : AddAnswer) (left : Left) (freeing : Freeing)
    → turn ≡ Second first → freeing_rest request.attributes.handle freeing ≡ free_gift request (gift_in first) left
    → add_at (refuses_part request freeing answer) ≡ add_at (refuse request (turn_gifts turn) answer left)
refuses_on request turn first answer left freeing is frees =
    ap (λ (w : Part ℕ). add_at (part_then w (then_answer answer))) frees
    ∙ ap (λ t. add_at (refuse request (turn_gifts t) answer left)) (sym is)

pub refuses_asks : (request : AddRequest) (turn : Turn) (first : Grant) (answer : AddAnswer) (left : Left) (freeing : Freeing)
    → turn ≡ Second first → freeing_rest request.attributes.handle freeing ≡ free_gift request (gift_in first) left
    → None ≡ answer_in (add_at (refuse request (turn_gifts turn) answer left))
refuses_asks request turn first answer left freeing is frees =
    stage_goes_on request turn (Refuses freeing answer) ∙ ap answer_in (refuses_on request turn first answer left freeing is frees)

pub refuses_none : (request : AddRequest) (turn : Turn) (answer : AddAnswer) (left : Left) → ((first : Grant) → turn ≡ Second first → ⊥)
    → Some answer ≡ answer_in (add_at (refuse request (turn_gifts turn) answer left))
refuses_none request (Only family) answer left none = refl
refuses_none request First answer left none = refl
refuses_none request (Second first) answer left none = absurd (none first refl)

pub freeing_ended : (request : AddRequest) (turn : Turn) (freeing : Freeing) (answer : AddAnswer) (turned : FreeingTurned) (outcome : Outcome ℕ)
    → Some outcome ≡ answer_in (freeing_leaves request.attributes.handle freeing turned)
    → freed_to answer outcome ≡ add_at (refuses_leaves request turn (Refuses freeing answer) turned)
freeing_ended request turn freeing answer turned outcome is =
    sym (ap add_at (ended_bound (freeing_leaves request.attributes.handle freeing turned) (onward (then_answer answer)) outcome is))

pub freeing_open : (request : AddRequest) (turn : Turn) (freeing : Freeing) (answer : AddAnswer) (turned : FreeingTurned)
    → None ≡ answer_in (freeing_leaves request.attributes.handle freeing turned)
    → None ≡ answer_in (add_at (refuses_leaves request turn (Refuses freeing answer) turned))
freeing_open request turn freeing answer turned is =
    goes_on_bound (refuses_leaves request turn (Refuses freeing answer) turned) _
    (goes_on_bound (freeing_leaves request.attributes.handle freeing turned) (onward (then_answer answer)) is)
