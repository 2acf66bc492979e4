-- The answers of an ADD speak of a family that was wanted, and of a round that was for it.
use Rattle.std.specs.Prelude.{◌≡◌, ℕ, List, [], ◌∷◌, Some}
use Rattle.ipam_addr.specs.Shape.{CidrValue}
use Rattle.ipam_addr.specs.declared.address.Family.{Family}
use Rattle.ipam_block.specs.Operations.{ordinal_address}
use Rattle.ipam_model.specs.declared.answer.Given.{Given}
use Rattle.ipam_records.specs.Sound.{IsDatastore}
use Rattle.ipam_model.specs.declared.answer.Answer.{Answer}
use Rattle.ipam_model.specs.declared.answer.Answer.TheVariants as answer
use Rattle.ipam_model.specs.declared.answer.Scan.{Scan}
use Rattle.ipam_model.specs.declared.choice.Choice.TheVariants.{Nothing, NoPool}
use Rattle.ipam_model.specs.declared.request.AddRequest.{AddRequest}
use Rattle.ipam_model.specs.declared.request.Request.TheVariants.{Add}
use Rattle.ipam_model.specs.AddLaw.{HasChosen, HasChosenOf, families_of, scan_of}
use Rattle.ipam_model.specs.AnswerLaw.{IsTarget}
use Rattle.ipam_model.specs.Answered.{Answered, history_of, span_of}
use Rattle.ipam_model.specs.History.{Lawful, RequestSpan, cluster_at}
use Rattle.ipam_model.specs.Moments.{request_in}

-- the address was chosen in a round for the family, by what the given moments say was read
pub record IsFromRound (span : RequestSpan) (request : AddRequest) (family : Family) (given : Given) : Type 0 where
  pub cidr : CidrValue
  pub ordinal : ℕ
  pub chosen : HasChosenOf span request (scan_of family given) cidr ordinal
  pub is_address : given.address ≡ ordinal_address cidr ordinal

-- one for each of the families, in their order
abbrev pub AreFromRounds : RequestSpan → AddRequest → List Family → List Given → Type 0
AreFromRounds span request [] [] = Unit {0}
AreFromRounds span request (family ∷ families) (given ∷ more) =
    IsFromRound span request family given × AreFromRounds span request families more
AreFromRounds span request [] (given ∷ more) = ⊥
AreFromRounds span request (family ∷ families) [] = ⊥

-- The round of the answer was for a wanted family. The choice on what it read is that of the answer,
-- or an address of the block whose count was at its limit.
abbrev pub IsOfRound : Answered → AddRequest → Answer → Type 0
IsOfRound a add (answer.Added given) = AreFromRounds (span_of a) add (families_of add) given
IsOfRound a add (answer.Exhausted scan) = HasChosen (span_of a) add scan Nothing
IsOfRound a add (answer.NoPool called moment) =
    (scan : Scan) × (place : ℕ) × (moment ≡ scan.p) × HasChosen (span_of a) add scan (NoPool place)
IsOfRound a add (answer.CountFull moment) = (cidr : CidrValue) × IsTarget a moment cidr
IsOfRound a add _ = Unit {0}

abbrev pub FamilyLaw : Type 0
FamilyLaw =
    (a : Answered) (add : AddRequest) (told : Answer) → IsDatastore a.base.store → Lawful a.base (history_of a)
    → request_in (cluster_at a.base a.earlier) a.call.slot ≡ Some a.request → a.request ≡ Add add
    → a.call.answer ≡ Some told → IsOfRound a add told
