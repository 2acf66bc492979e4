-- What is left of an ADD of one address at each of its stages.
use Rattle.std.specs.Prelude.{ℕ, Option}
use Rattle.ipam_addr.specs.Shape.{AddrValue}
use Rattle.ipam_records.specs.declared.key.Key.TheVariants as key
use Rattle.ipam_records.specs.declared.call.Call.TheVariants.{Get}
use Rattle.ipam_records.specs.Label.{idle}
use Rattle.ipam_records.specs.Word.{Word, Ends, Asks, bound}
use Rattle.ipam_parts.specs.Claim.{claim_rest, claim_leaves}
use Rattle.ipam_parts.specs.declared.claim.ClaimProc.{ClaimProc}
use Rattle.ipam_parts.specs.declared.claim.ClaimTurned.{ClaimTurned}
use Rattle.ipam_model.specs.declared.outcome.AddThisAnswer.{AddThisAnswer}
use Rattle.ipam_model.specs.declared.part.Left.{Left}
use Rattle.ipam_model.specs.declared.request.AddRequest.{AddRequest}
use Rattle.ipam_model.specs.AddThis as model
use Rattle.ipam_model.specs.Assigning.{after_claim}
use Rattle.ipam_model.specs.Reads.{pools_said, block_said}
use Rattle.ipam_model.specs.Choice as choice
use Rattle.ipam_model.specs.declared.part.Assigned.{Assigned}
use Rattle.ipam_model.specs.declared.part.Outcome.{Outcome}
use Rattle.ipam_model.specs.Step.{Part, part_then, onward, as_word}
use Rattle.ipam_assign.specs.declared.add_this.Share.{Share}
use Rattle.ipam_assign.specs.declared.add_this.Share.TheVariants.{Takes, Claims as TheClaims, Leaves}
use Rattle.ipam_model.specs.Usable.{usable_pool_of}
use Rattle.ipam_assign.specs.Assigning.{assigning_rest, assigning_leaves}
use Rattle.ipam_assign.specs.Rounds.{next_of}
use Rattle.ipam_assign.specs.declared.add_this.AddThisProc.{AddThisProc}
use Rattle.ipam_assign.specs.declared.add_this.AddThisTurned.{AddThisTurned}
use Rattle.ipam_assign.specs.declared.add_this.Configured.{Configured}
use Rattle.ipam_assign.specs.declared.add_this.Rules.{Rules}
use Rattle.ipam_assign.specs.declared.add_this.Ruled.{Ruled}
use Rattle.ipam_assign.specs.declared.add_this.Looked.{Looked}
use Rattle.ipam_assign.specs.declared.add_this.Stage.{Stage}
use Rattle.ipam_assign.specs.declared.add_this.Stage.TheVariants.{ReadsConfig, ReadsPools, ReadsBlock, Claims, Assigns}
use Rattle.ipam_assign.specs.declared.add_this.Goes.{Goes}
use Rattle.ipam_assign.specs.declared.add_this.Goes.TheVariants as goes
use Rattle.ipam_assign.specs.declared.assigning.Assigning.{Assigning}
use Rattle.ipam_assign.specs.declared.assigning.AssigningTurned.{AssigningTurned}

abbrev pub wanted_at : AddRequest → AddrValue → model.Wanted
wanted_at request address = record { request = request; address = address }

-- what a request goes on with: itself, its address, and how many rounds may follow
pub record ThisGoing : Type 0 where
  pub request : AddRequest
  pub address : AddrValue
  pub more : ℕ

abbrev pub this_going : AddThisProc → ThisGoing
this_going p = record { request = p.request; address = p.address; more = p.rounds.more }

-- the round that follows
abbrev pub this_next : ThisGoing → Left → Part AddThisAnswer
this_next g = next_of (model.this_round (wanted_at g.request g.address)) g.more

abbrev pub this_then_next : ThisGoing → Left → Unit {0} → Part AddThisAnswer
this_then_next g now done = this_next g now

abbrev pub rules_of : Rules → model.RulesRead
rules_of rules = record { config = rules.config; c = rules.c; p = rules.p }

-- what was looked at, once the block was read at this moment
abbrev pub looked_in : Ruled → (b : ℕ) → model.LookedAtBlock
looked_in ruled b = record { rules = rules_of ruled.rules; cidr = ruled.place.cidr; b = b }

abbrev pub looked_of : Looked → model.LookedAtBlock
looked_of looked = record { rules = rules_of looked.rules; cidr = looked.cidr; b = looked.b }

-- the pools are read
abbrev pub pools_part : ThisGoing → Left → Configured → Part AddThisAnswer
pools_part g left configured =
    Asks idle (Get key.Pools) (λ p pools.
    model.this_in_pool (wanted_at g.request g.address) (this_next g) left
    (record { config = configured.config; c = configured.c; p = p })
    (usable_pool_of (model.asked_of_this g.request g.address) g.address (pools_said pools)))

-- the block is read
abbrev pub block_part : ThisGoing → Left → Ruled → Part AddThisAnswer
block_part g left ruled =
    Asks idle (Get (key.Block ruled.place.cidr)) (λ b said.
    model.this_block (wanted_at g.request ruled.place.address) (this_next g) left (looked_in ruled b) (block_said said))

abbrev pub this_claims_part : ThisGoing → Left → ClaimProc → Part AddThisAnswer
this_claims_part g left claim = part_then (bound (claim_rest claim) (after_claim left)) (this_then_next g)

abbrev pub this_assigns_part : ThisGoing → Looked → Assigning → Part AddThisAnswer
this_assigns_part g looked assigning =
    part_then (assigning_rest g.request.attributes.handle assigning)
    (model.this_assigned (wanted_at g.request looked.address) (this_next g) (looked_of looked))

abbrev pub this_part : ThisGoing → Left → Stage → Part AddThisAnswer
this_part g left ReadsConfig = model.this_round (wanted_at g.request g.address) (this_next g) left
this_part g left (ReadsPools configured) = pools_part g left configured
this_part g left (ReadsBlock ruled) = block_part g left ruled
this_part g left (Claims claim) = this_claims_part g left claim
this_part g left (Assigns looked assigning) = this_assigns_part g looked assigning

abbrev pub this_at : Part AddThisAnswer → Word AddThisAnswer
this_at part = as_word model.add_this_stops part

abbrev pub this_rest : AddThisProc → Word AddThisAnswer
this_rest p = this_at (this_part (this_going p) p.left p.stage)

-- what is left once the claim goes where a reply led it; no other stage has one
abbrev pub claims_leaves : ThisGoing → Left → Stage → ClaimTurned → Part AddThisAnswer
claims_leaves g left (Claims claim) turned = part_then (bound (claim_leaves claim turned) (after_claim left)) (this_then_next g)
claims_leaves g left stage turned = this_part g left stage

-- what is left once the assignment goes where a reply led it; no other stage has one
abbrev pub assigns_leaves : ThisGoing → Left → Stage → AssigningTurned → Part AddThisAnswer
assigns_leaves g left (Assigns looked assigning) turned =
    part_then (assigning_leaves g.request.attributes.handle assigning turned)
    (model.this_assigned (wanted_at g.request looked.address) (this_next g) (looked_of looked))
assigns_leaves g left stage turned = this_part g left stage

-- what is left once it goes there
abbrev pub this_goes : AddThisProc → Goes → Word AddThisAnswer
this_goes p (goes.To stage) = this_at (this_part (this_going p) p.left stage)
this_goes p (goes.Claim turned) = this_at (claims_leaves (this_going p) p.left p.stage turned)
this_goes p (goes.Assign turned) = this_at (assigns_leaves (this_going p) p.left p.stage turned)
this_goes p (goes.Answers answer) = Ends answer

abbrev pub this_leaves : AddThisProc → AddThisTurned → Word AddThisAnswer
this_leaves p turned = this_goes p turned.goes

-- what follows what an assignment came to
abbrev pub assign_ended : ThisGoing → Looked → Outcome (Option Assigned) → Part AddThisAnswer
assign_ended g looked outcome =
    onward (model.this_assigned (wanted_at g.request looked.address) (this_next g) (looked_of looked)) outcome

abbrev pub share_as : Share → choice.Share
share_as Takes = choice.Takes
share_as TheClaims = choice.Claims
share_as Leaves = choice.Leaves
