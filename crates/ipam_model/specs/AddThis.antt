-- An ADD of one address.
use Rattle.std.specs.Prelude.{ℕ, ◌-◌, true, Option, Some, None, unwrap_or}
use Rattle.ipam_addr.specs.Shape.{AddrValue, CidrValue}
use Rattle.ipam_addr.specs.Slots.{slot_of, slot_number_of}
use Rattle.ipam_pool.specs.declared.pools.Pool.{Pool}
use Rattle.ipam_block.specs.Shape as block
use Rattle.ipam_block.specs.declared.allocation.Allocation.{Allocation}
use Rattle.ipam_block.specs.Operations.{holder}
use Rattle.ipam_record_text.specs.declared.config.Config.{Config}
use Rattle.ipam_records.specs.declared.key.Key.TheVariants as key
use Rattle.ipam_records.specs.declared.call.Call.TheVariants.{Get}
use Rattle.ipam_records.specs.Label.{idle}
use Rattle.ipam_records.specs.Word.{Word, Asks}
use Rattle.ipam_model.specs.declared.answer.GivenThis.{GivenThis}
use Rattle.ipam_model.specs.declared.outcome.AddThisAnswer.{AddThisAnswer}
use Rattle.ipam_model.specs.declared.outcome.AddThisAnswer.TheVariants as add
use Rattle.ipam_model.specs.declared.request.AddRequest.{AddRequest}
use Rattle.ipam_model.specs.Affinities.{BlockRead}
use Rattle.ipam_model.specs.declared.part.Assigned.{Assigned}
use Rattle.ipam_model.specs.Assigning.{names_for, target_in, assign, claim_for}
use Rattle.ipam_model.specs.Choice.{by_share, share_of}
use Rattle.ipam_model.specs.Reads.{config_said, pools_said, block_said}
use Rattle.ipam_model.specs.declared.part.Left.{Left}
use Rattle.ipam_model.specs.Step.{all_left, Part, StopAnswers, goes, part_then, in_rounds, as_word}
use Rattle.ipam_model.specs.Usable.{Asked, usable_pool_of}

abbrev pub asked_of_this : AddRequest → AddrValue → Asked
asked_of_this request address = record {
  node = request.node;
  family = address.family;
  names = names_for address.family request;
  labels = request.labels;
  one_address = true;
}

-- the request, and the address that it asks for
pub record Wanted : Type 0 where
  pub request : AddRequest
  pub address : AddrValue

abbrev pub NextThisRound : Type 0
NextThisRound = Left → Part AddThisAnswer

-- the configuration, and the moments at which it and the pools were read
pub record RulesRead : Type 0 where
  pub config : Config
  pub c : ℕ
  pub p : ℕ

-- what was read in a round: the rules, and at the moment b the block
pub record LookedAtBlock : Type 0 where
  pub rules : RulesRead
  pub cidr : CidrValue
  pub b : ℕ

abbrev pub this_given : Wanted → LookedAtBlock → Assigned → GivenThis
this_given wanted looked done = record {
  address = wanted.address;
  c = looked.rules.c;
  p = looked.rules.p;
  b = looked.b;
  w = done.moment;
}

abbrev pub this_assigned : Wanted → NextThisRound → LookedAtBlock → Left → Option Assigned → Part AddThisAnswer
this_assigned wanted next looked left (Some done) = goes left (add.AddedThis (this_given wanted looked done))
this_assigned wanted next looked left None = next left

abbrev pub this_take : Wanted → NextThisRound → Left → LookedAtBlock → ℕ × block.BlockValue → Part AddThisAnswer
this_take wanted next left looked found =
    part_then
    (assign wanted.request.attributes (target_in found (wanted.address.number - looked.cidr.base)) left)
    (this_assigned wanted next looked)

abbrev pub this_claim : Wanted → NextThisRound → Left → LookedAtBlock → BlockRead → Part AddThisAnswer
this_claim wanted next left looked read =
    part_then (claim_for wanted.request.node looked.cidr read left) (λ now done. next now)

-- the free address of a block is taken, or the block is claimed first
abbrev pub this_free : Wanted → NextThisRound → Left → LookedAtBlock → ℕ × block.BlockValue → Part AddThisAnswer
this_free wanted next left looked found =
    by_share (share_of looked.rules.config.strict wanted.request.node found.1)
    (this_take wanted next left looked found)
    (this_claim wanted next left looked (Some found))
    (goes left (add.NotAffine looked.cidr looked.b))

abbrev pub this_held : (free : Part AddThisAnswer) → Left → LookedAtBlock → Option Allocation → Part AddThisAnswer
this_held free left looked None = free
this_held free left looked (Some held) = goes left (add.Taken held.attributes.handle looked.b)

-- a block that is missing is claimed, whatever the bound
abbrev pub this_block : Wanted → NextThisRound → Left → LookedAtBlock → BlockRead → Part AddThisAnswer
this_block wanted next left looked None = this_claim wanted next left looked None
this_block wanted next left looked (Some found) =
    this_held (this_free wanted next left looked found) left looked
    (holder found.1 (wanted.address.number - looked.cidr.base))

-- the slot that holds the address
abbrev pub slot_holding : Pool → AddrValue → CidrValue
slot_holding pool address =
    slot_of pool.cidr pool.size (unwrap_or (slot_number_of pool.cidr pool.size address) 0)

abbrev pub this_in_pool : Wanted → NextThisRound → Left → RulesRead → Option Pool → Part AddThisAnswer
this_in_pool wanted next left rules None = goes left (add.NotInPool rules.p)
this_in_pool wanted next left rules (Some pool) =
    let cidr = slot_holding pool wanted.address in
    Asks idle (Get (key.Block cidr)) (λ b said.
    this_block wanted next left (record { rules = rules; cidr = cidr; b = b }) (block_said said))

abbrev pub this_round : Wanted → NextThisRound → Left → Part AddThisAnswer
this_round wanted next left =
    Asks idle (Get key.Config) (λ c config.
    Asks idle (Get key.Pools) (λ p pools.
    this_in_pool wanted next left (record { config = config_said config; c = c; p = p })
    (usable_pool_of (asked_of_this wanted.request wanted.address) wanted.address (pools_said pools))))

abbrev pub add_this_stops : StopAnswers AddThisAnswer
add_this_stops = record {
  again = add.Again;
  full = add.Full;
  count_full = add.CountFull;
  spent = add.Spent;
}

-- The address that is wanted. Reservations are not read.
abbrev pub add_this_word : AddRequest → AddrValue → Word AddThisAnswer
add_this_word request address =
    as_word add_this_stops (in_rounds (this_round (record { request = request; address = address })) all_left)
