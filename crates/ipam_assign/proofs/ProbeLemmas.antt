-- What is left of a probe, family by family.
use Rattle.std.proofs.Common.{◌≡◌, ◌||◌, refl, sym, ap, ◌∙◌, ℕ, Bool, true, false, [], None, IsSome}
use Rattle.ipam_records.specs.Said.{Said}
use Rattle.ipam_records.specs.Word.{Word, next_call, after_reply, answer_in, bound}
use Rattle.ipam_model.specs.declared.answer.Scan.{Scan}
use Rattle.ipam_model.specs.declared.outcome.ProbeAnswer.{ProbeAnswer}
use Rattle.ipam_model.specs.declared.request.ProbeRequest.{ProbeRequest}
use Rattle.ipam_model.specs.Choice.{Rank, Own, Unconfirmed, Unclaimed, Foreign, Ranked, Picks, choice_at}
use Rattle.ipam_addr.specs.Shape.{CidrValue}
use Rattle.ipam_model.specs.Look.{asked_of_probe, probe_choice, probe_each, probe_word}
use Rattle.ipam_model.specs.Usable.{Asked, families_if}
use Rattle.ipam_assign.specs.Probe.{turn_family, first_turn, probe_on, probe_at, probe_rest, after_probe_scan}
use Rattle.ipam_assign.specs.Scanning.{Chose, scanning_at}
use Rattle.ipam_assign.specs.declared.probe.ProbeProc.{ProbeProc}
use Rattle.ipam_assign.specs.declared.probe.Turn.{Turn}
use Rattle.ipam_assign.specs.declared.probe.Turn.TheVariants.{First, Second}
use Rattle.ipam_assign.specs.declared.scanning.Stage.{Stage}
use Rattle.ipam_assign.specs.declared.scanning.Stage.TheVariants.{ReadsConfig, ReadsPools, ReadsReservations, ListsAffinities, ListsBlocks}
use Rattle.ipam_parts.proofs.BoundLaws.{asked_bound, heard_bound, goes_on_bound}

pub scanning_asks : (asked_by : Asked) (stage : Stage) → IsSome (next_call (scanning_at asked_by stage))
scanning_asks asked_by ReadsConfig = refl
scanning_asks asked_by (ReadsPools configured) = refl
scanning_asks asked_by (ReadsReservations pooled) = refl
scanning_asks asked_by (ListsAffinities reserving) = refl
scanning_asks asked_by (ListsBlocks gathered) = refl

scanning_goes_on : (asked_by : Asked) (stage : Stage) → None ≡ answer_in (scanning_at asked_by stage)
scanning_goes_on asked_by ReadsConfig = refl
scanning_goes_on asked_by (ReadsPools configured) = refl
scanning_goes_on asked_by (ReadsReservations pooled) = refl
scanning_goes_on asked_by (ListsAffinities reserving) = refl
scanning_goes_on asked_by (ListsBlocks gathered) = refl

pub asks : (request : ProbeRequest) (turn : Turn) (stage : Stage)
    → next_call (probe_at request turn stage) ≡ next_call (scanning_at (asked_of_probe request (turn_family turn)) stage)
asks request turn stage =
    asked_bound (scanning_at (asked_of_probe request (turn_family turn)) stage) (after_probe_scan request turn)
    (scanning_asks (asked_of_probe request (turn_family turn)) stage)

pub goes_on : (request : ProbeRequest) (turn : Turn) (stage : Stage) → None ≡ answer_in (probe_at request turn stage)
goes_on request turn stage =
    goes_on_bound (scanning_at (asked_of_probe request (turn_family turn)) stage) (after_probe_scan request turn)
    (scanning_goes_on (asked_of_probe request (turn_family turn)) stage)

pub hears : (request : ProbeRequest) (turn : Turn) (stage : Stage) (asked_by : Asked) (left : Word Chose) (moment : ℕ) (said : Said)
    → asked_by ≡ asked_of_probe request (turn_family turn) → left ≡ after_reply (scanning_at asked_by stage) moment said
    → bound left (after_probe_scan request turn) ≡ after_reply (probe_at request turn stage) moment said
hears request turn stage asked_by left moment said same is =
    ap (λ w. bound w (after_probe_scan request turn)) is
    ∙ ap (λ a. bound (after_reply (scanning_at a stage) moment said) (after_probe_scan request turn)) same
    ∙ sym (heard_bound (scanning_at (asked_of_probe request (turn_family turn)) stage) (after_probe_scan request turn) moment said
    (scanning_asks (asked_of_probe request (turn_family turn)) stage))

chosen_goes : (rest : Word ProbeAnswer) (asked_by : Asked) (scan : Scan) (slot : CidrValue) (rank : Rank)
    → rest ≡ probe_choice rest asked_by scan (choice_at slot rank)
chosen_goes rest asked_by scan slot (Own found ordinal) = refl
chosen_goes rest asked_by scan slot (Unconfirmed found) = refl
chosen_goes rest asked_by scan slot (Unclaimed read) = refl
chosen_goes rest asked_by scan slot (Foreign found ordinal) = refl

-- where a slot is picked, the family has an address
pub slot_goes : (request : ProbeRequest) (turn : Turn) (scan : Scan) (ranked : Ranked)
    → probe_on request turn scan ≡ after_probe_scan request turn (scan, Picks ranked)
slot_goes request turn scan ranked =
    chosen_goes (probe_on request turn scan) (asked_of_probe request (turn_family turn)) scan ranked.slot ranked.rank

begins_with : (request : ProbeRequest) (ipv4 ipv6 : Bool) → (ipv4 || ipv6) ≡ true
    → probe_at request (first_turn ipv4 ipv6) ReadsConfig ≡ probe_each request [] (families_if ipv4 ipv6)
unfolding probe_each
begins_with request true true some = refl
begins_with request true false some = refl
begins_with request false true some = refl
begins_with request false false some = absurd (cc some)

pub begins : (p : ProbeProc) (request : ProbeRequest) → (request.ipv4 || request.ipv6) ≡ true
    → p.request ≡ request → p.turn ≡ first_turn request.ipv4 request.ipv6 → p.scanning.stage ≡ ReadsConfig
    → probe_rest p ≡ probe_word request
begins p request some same_request same_turn same_stage =
    ap (λ stage. probe_at p.request p.turn stage) same_stage
    ∙ ap (λ turn. probe_at p.request turn ReadsConfig) same_turn
    ∙ ap (λ r. probe_at r (first_turn request.ipv4 request.ipv6) ReadsConfig) same_request
    ∙ begins_with request request.ipv4 request.ipv6 some

next_is : (request : ProbeRequest) (scan : Scan) → probe_at request (Second scan) ReadsConfig ≡ probe_on request First scan
unfolding probe_each
next_is request scan = refl

-- after IPv4, IPv6 is looked at
pub next_turn : (request : ProbeRequest) (turn : Turn) (scan : Scan) → turn ≡ First
    → probe_at request (Second scan) ReadsConfig ≡ probe_on request turn scan
next_turn request turn scan is = next_is request scan ∙ ap (λ t. probe_on request t scan) (sym is)
