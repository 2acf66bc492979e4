-- What is left of a claim at each of its stages.
use Rattle.std.specs.Prelude.{ℕ, List, Option, None, option_map}
use Rattle.std.specs.Borrow.{Bor}
use Rattle.ipam_addr.specs.Shape.{CidrValue}
use Rattle.ipam_block.specs.declared.state.State.TheVariants.{PendingDeletion}
use Rattle.ipam_block.specs.Shape.{BlockValue}
use Rattle.ipam_records.specs.Word.{Word, Ends}
use Rattle.ipam_model.specs.declared.outcome.ClaimAnswer.{ClaimAnswer}
use Rattle.ipam_model.specs.Affinities.{BlockRead, claim, claim_found, claim_kept, claim_block, claim_confirm}
use Rattle.ipam_parts.specs.declared.claim.Stage.{Stage}
use Rattle.ipam_parts.specs.declared.claim.Stage.TheVariants.{Looks, Writes}
use Rattle.ipam_parts.specs.declared.claim.Writing.{Writing}
use Rattle.ipam_parts.specs.declared.claim.Writing.TheVariants.{Creates, TakesBack, Claims, Confirms}
use Rattle.ipam_parts.specs.declared.claim.Goes.{Goes}
use Rattle.ipam_parts.specs.declared.claim.Goes.TheVariants.{To, Answers}
use Rattle.ipam_parts.specs.declared.claim.ClaimProc.{ClaimProc}
use Rattle.ipam_parts.specs.declared.claim.ClaimTurned.{ClaimTurned}

-- a block that was lent with its revision, or found missing
abbrev pub lent_block : Option (ℕ × Bor BlockValue) → BlockRead
lent_block = option_map (λ found. (found.0, found.1.now))

abbrev pub writing_at : List ℕ → CidrValue → BlockRead → Writing → Word ClaimAnswer
writing_at node cidr read Creates = claim_found node cidr read None
writing_at node cidr read (TakesBack revision) = claim_kept node cidr read revision PendingDeletion
writing_at node cidr read (Claims kept) = claim_block node cidr read kept
writing_at node cidr read (Confirms kept) = claim_confirm node cidr kept

abbrev pub claim_at : List ℕ → CidrValue → BlockRead → Stage → Word ClaimAnswer
claim_at node cidr read Looks = claim node cidr read
claim_at node cidr read (Writes writing) = writing_at node cidr read writing

-- what is left once the claim goes there
abbrev pub claim_goes : List ℕ → CidrValue → BlockRead → Goes → Word ClaimAnswer
claim_goes node cidr read (To stage) = claim_at node cidr read stage
claim_goes node cidr read (Answers answer) = Ends answer

abbrev pub claim_rest : ClaimProc → Word ClaimAnswer
claim_rest p = claim_at p.node p.cidr p.read p.stage

abbrev pub claim_leaves : ClaimProc → ClaimTurned → Word ClaimAnswer
claim_leaves p turned = claim_goes p.node p.cidr p.read turned.goes
