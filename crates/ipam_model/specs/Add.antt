-- An ADD without an address.
use Rattle.std.specs.Prelude.{ℕ, ◌-◌, Bool, true, false, List, [], ◌∷◌, ◌++◌, Option, Some, None, map, unwrap_or, slice_get, if◌then◌else◌}
use Rattle.ipam_addr.specs.declared.address.Family.{Family}
use Rattle.ipam_addr.specs.Shape.{CidrValue}
use Rattle.ipam_block.specs.Operations.{ordinal_address}
use Rattle.ipam_records.specs.declared.key.Key.TheVariants as key
use Rattle.ipam_records.specs.declared.key.Kind.TheVariants as kind
use Rattle.ipam_records.specs.declared.call.Call.TheVariants.{Get, List as ListAll}
use Rattle.ipam_records.specs.Label.{idle}
use Rattle.ipam_records.specs.Word.{Word, Asks, bound}
use Rattle.ipam_model.specs.declared.answer.Given.{Given}
use Rattle.ipam_model.specs.declared.answer.Scan.{Scan}
use Rattle.ipam_model.specs.declared.outcome.AddAnswer.{AddAnswer}
use Rattle.ipam_model.specs.declared.outcome.Gift.{Gift}
use Rattle.ipam_model.specs.declared.outcome.Served.{Served}
use Rattle.ipam_model.specs.declared.outcome.Served.TheVariants.{Gave, Refused}
use Rattle.ipam_model.specs.declared.outcome.AddAnswer.TheVariants as add
use Rattle.ipam_model.specs.declared.request.AddRequest.{AddRequest}
use Rattle.ipam_model.specs.Affinities.{BlockRead}
use Rattle.ipam_model.specs.declared.part.Assigned.{Assigned}
use Rattle.ipam_model.specs.Assigning.{names_for, Target, target_in, assign, claim_for}
use Rattle.ipam_model.specs.Choice.{Seen, Rank, Own, Unconfirmed, Unclaimed, Foreign, Pick, Unknown, Lacks, Picks, pick_of}
use Rattle.ipam_model.specs.Counting.{freeing_one, free}
use Rattle.ipam_model.specs.Reads.{config_said, pools_said, reservations_said, rows_said}
use Rattle.ipam_model.specs.declared.part.Left.{Left}
use Rattle.ipam_model.specs.declared.part.Stop.{Stop}
use Rattle.ipam_model.specs.declared.part.Outcome.{Outcome}
use Rattle.ipam_model.specs.declared.part.Stop.TheVariants.{OutOfTries, OutOfClaims, NoRoom, CountAtLimit, NoRevisions}
use Rattle.ipam_model.specs.declared.part.Outcome.TheVariants.{Went, Stops}
use Rattle.ipam_model.specs.Step.{all_left, Part, StopAnswers, stop_answer, goes, stops, part_then, in_rounds, as_word}
use Rattle.ipam_model.specs.Usable.{Asked, families_if}

-- The configuration, the pools and the reservations are read, and the affinities and the blocks are
-- listed. What follows is given the moments and what was read.
abbrev pub five_reads : {A : Type 0} → Family → (Scan → Seen → Word A) → Word A
five_reads family follows =
    Asks idle (Get key.Config) (λ c config.
    Asks idle (Get key.Pools) (λ p pools.
    Asks idle (Get key.Reservations) (λ r reservations.
    Asks idle (ListAll kind.Affinity) (λ f affinities.
    Asks idle (ListAll kind.Block) (λ b blocks.
    follows
    (record { family = family; c = c; p = p; r = r; f = f; b = b })
    (record {
      config = config_said config;
      pools = pools_said pools;
      reservations = reservations_said reservations;
      affinities = rows_said affinities;
      blocks = rows_said blocks;
    }))))))

-- ---- one family

abbrev pub asked_of : AddRequest → Family → Asked
asked_of request family = record {
  node = request.node;
  family = family;
  names = names_for family request;
  labels = request.labels;
  one_address = false;
}

abbrev pub NextRound : Type 0
NextRound = Left → Part Served

abbrev pub gift_of : Scan → Target → Assigned → Gift
gift_of scan target done = record {
  given = record {
    address = ordinal_address target.block.cidr target.ordinal;
    c = scan.c;
    p = scan.p;
    r = scan.r;
    f = scan.f;
    b = scan.b;
    w = done.moment;
  };
  block = target.block.cidr;
  stamp = done.stamp;
}

-- a round: what is asked, at which moments was read, and the round that follows
pub record Round : Type 0 where
  pub request : AddRequest
  pub scan : Scan
  pub next : NextRound

abbrev pub after_assign : Round → Target → Left → Option Assigned → Part Served
after_assign round target left (Some done) = goes left (Gave (gift_of round.scan target done))
after_assign round target left None = round.next left

abbrev pub take_in : Round → Left → Target → Part Served
take_in round left target =
    part_then (assign round.request.attributes target left) (after_assign round target)

abbrev pub name_in_place : List (List ℕ) → ℕ → List ℕ
name_in_place names place = unwrap_or (slice_get names place) []

abbrev pub claim_in : Round → Left → CidrValue → BlockRead → Part Served
claim_in round left slot read =
    part_then (claim_for round.request.node slot read left) (λ now done. round.next now)

-- what is done at a slot
abbrev pub follow_rank : Round → Left → CidrValue → Rank → Part Served
follow_rank round left slot (Own found ordinal) = take_in round left (target_in found ordinal)
follow_rank round left slot (Unconfirmed found) = claim_in round left slot (Some found)
follow_rank round left slot (Unclaimed read) = claim_in round left slot read
follow_rank round left slot (Foreign found ordinal) = take_in round left (target_in found ordinal)

abbrev pub follow_pick : Round → Left → Pick → Part Served
follow_pick round left (Picks ranked) = follow_rank round left ranked.slot ranked.rank
follow_pick round left Lacks = goes left (Refused (add.Exhausted round.scan))
follow_pick round left (Unknown place) =
    let name = name_in_place (names_for round.scan.family round.request) place in
    goes left (Refused (add.NoPool name round.scan.p))

abbrev pub round_of : AddRequest → Family → NextRound → Left → Part Served
round_of request family next left =
    five_reads family (λ scan seen.
    follow_pick (record { request = request; scan = scan; next = next }) left (pick_of (asked_of request family) seen))

abbrev pub serve : AddRequest → Family → Left → Part Served
serve request family left = in_rounds (round_of request family) left

-- ---- each wanted family

abbrev pub add_stops : StopAnswers AddAnswer
add_stops = record {
  again = add.Again;
  full = add.Full;
  count_full = add.CountFull;
  spent = add.Spent;
}

abbrev pub free_gift : AddRequest → Gift → Left → Part ℕ
free_gift request gift left =
    free
    (freeing_one request.attributes.handle gift.block (gift.given.address.number - gift.block.base) gift.stamp)
    left

-- the answer, once what was given is freed
abbrev pub refuse : AddRequest → List Gift → AddAnswer → Left → Part AddAnswer
refuse request [] answer left = goes left answer
refuse request (gift ∷ gifts) answer left =
    part_then (free_gift request gift left) (λ now amount. refuse request gifts answer now)

-- whether what was given is freed before the request ends so
abbrev pub is_refusal : Stop → Bool
is_refusal OutOfTries = false
is_refusal OutOfClaims = false
is_refusal NoRoom = true
is_refusal (CountAtLimit moment) = true
is_refusal NoRevisions = false

abbrev pub after_stop : AddRequest → List Gift → Left → Stop → Part AddAnswer
after_stop request gifts left why =
    if is_refusal why then refuse request gifts (stop_answer add_stops left why) left else stops left why

-- what follows the rounds of a family, with what was given before
abbrev pub after_family : AddRequest → List Gift → (rest : Gift → Left → Part AddAnswer) → Outcome Served → Part AddAnswer
after_family request gifts rest (Went left (Gave gift)) = rest gift left
after_family request gifts rest (Went left (Refused answer)) = refuse request gifts answer left
after_family request gifts rest (Stops left why) = after_stop request gifts left why

-- an address of each of the families, after what was given before
unfoldable pub add_each : AddRequest → List Gift → List Family → Left → Part AddAnswer
add_each request gifts [] left = goes left (add.Added (map (λ gift. gift.given) gifts))
add_each request gifts (family ∷ families) left =
    bound (serve request family left)
    (after_family request gifts (λ gift now. add_each request (gifts ++ gift ∷ []) families now))

-- An address of each family that is wanted, IPv4 first. Where the second has none, the first is
-- freed.
abbrev pub add_word : AddRequest → Word AddAnswer
add_word request =
    as_word add_stops (add_each request [] (families_if request.ipv4 request.ipv6) all_left)
