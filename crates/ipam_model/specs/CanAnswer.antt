-- Which answers a request can have.
use Rattle.std.specs.Prelude.{◌≡◌, ◌⊎◌, Some}
use Rattle.ipam_model.specs.declared.answer.Answer.{Answer}
use Rattle.ipam_model.specs.declared.answer.Answer.TheVariants.{Fault}
use Rattle.ipam_model.specs.declared.request.Request.{Request}
use Rattle.ipam_model.specs.declared.request.Request.TheVariants.{Add, AddThis, Del, Check, Release, Collect, Admin, Probe}
use Rattle.ipam_model.specs.Answered.{Answered, history_of}
use Rattle.ipam_model.specs.History.{Lawful, cluster_at}
use Rattle.ipam_model.specs.Moments.{request_in}
use Rattle.ipam_model.specs.Told.{of_add, of_add_this, of_del, of_check, of_release, of_collect, of_admin, of_probe}

-- the answer of a request, made of an answer of its own procedure
abbrev pub IsOneAnswer : {A : Type 0} → (A → Answer) → Answer → Type 0
IsOneAnswer {A} of_one told = (one : A) × (told ≡ of_one one)

-- one of the answers of the request's own procedure
abbrev pub IsOwnAnswer : Request → Answer → Type 0
IsOwnAnswer (Add request) = IsOneAnswer of_add
IsOwnAnswer (AddThis request address) = IsOneAnswer of_add_this
IsOwnAnswer (Del id) = IsOneAnswer of_del
IsOwnAnswer (Check id addresses) = IsOneAnswer of_check
IsOwnAnswer (Release node cidr) = IsOneAnswer of_release
IsOwnAnswer (Collect request) = IsOneAnswer of_collect
IsOwnAnswer (Admin request) = IsOneAnswer of_admin
IsOwnAnswer (Probe request) = IsOneAnswer of_probe

-- one of those, or that a call failed
abbrev pub CanAnswer : Request → Answer → Type 0
CanAnswer request told = IsOwnAnswer request told ⊎ (told ≡ Fault)

-- Each answer is one that its request can have.
abbrev pub CanAnswerLaw : Type 0
CanAnswerLaw =
    (a : Answered) (told : Answer) → Lawful a.base (history_of a)
    → request_in (cluster_at a.base a.earlier) a.call.slot ≡ Some a.request → a.call.answer ≡ Some told
    → CanAnswer a.request told
