-- What is left of a probe at each of its stages.
use Rattle.std.specs.Prelude.{Bool, true, false, List, [], ◌∷◌, ◌++◌}
use Rattle.ipam_addr.specs.declared.address.Family.{Family}
use Rattle.ipam_addr.specs.declared.address.Family.TheVariants.{V4, V6}
use Rattle.ipam_records.specs.Word.{Word, Ends, bound}
use Rattle.ipam_model.specs.declared.answer.Scan.{Scan}
use Rattle.ipam_model.specs.declared.outcome.ProbeAnswer.{ProbeAnswer}
use Rattle.ipam_model.specs.declared.request.ProbeRequest.{ProbeRequest}
use Rattle.ipam_model.specs.Choice.{choice_in}
use Rattle.ipam_model.specs.Look.{asked_of_probe, probe_choice, probe_each}
use Rattle.ipam_assign.specs.Scanning.{Chose, scanning_at, learn}
use Rattle.ipam_assign.specs.declared.probe.Goes.{Goes}
use Rattle.ipam_assign.specs.declared.probe.Goes.TheVariants.{Learned, Next, Answers}
use Rattle.ipam_assign.specs.declared.probe.ProbeProc.{ProbeProc}
use Rattle.ipam_assign.specs.declared.probe.ProbeTurned.{ProbeTurned}
use Rattle.ipam_assign.specs.declared.probe.Turn.{Turn}
use Rattle.ipam_assign.specs.declared.probe.Turn.TheVariants.{Only, First, Second}
use Rattle.ipam_assign.specs.declared.scanning.Stage.{Stage}
use Rattle.ipam_assign.specs.declared.scanning.Stage.TheVariants.{ReadsConfig}

abbrev pub turn_family : Turn → Family
turn_family (Only family) = family
turn_family First = V4
turn_family (Second scan) = V6

-- what was read for the families before
abbrev pub turn_scans : Turn → List Scan
turn_scans (Only family) = []
turn_scans First = []
turn_scans (Second scan) = scan ∷ []

-- the families after this one
abbrev pub probe_turn_later : Turn → List Family
probe_turn_later (Only family) = []
probe_turn_later First = V6 ∷ []
probe_turn_later (Second scan) = []

abbrev pub first_turn : (ipv4 ipv6 : Bool) → Turn
first_turn true true = First
first_turn true false = Only V4
first_turn false true = Only V6
first_turn false false = Only V4

-- what follows where the family has an address
abbrev pub probe_on : ProbeRequest → Turn → Scan → Word ProbeAnswer
probe_on request turn scan = probe_each request (turn_scans turn ++ scan ∷ []) (probe_turn_later turn)

-- what follows the five reads
abbrev pub after_probe_scan : ProbeRequest → Turn → Chose → Word ProbeAnswer
after_probe_scan request turn found =
    probe_choice (probe_on request turn found.0) (asked_of_probe request (turn_family turn)) found.0 (choice_in found.1)

abbrev pub probe_at : ProbeRequest → Turn → Stage → Word ProbeAnswer
probe_at request turn stage =
    bound (scanning_at (asked_of_probe request (turn_family turn)) stage) (after_probe_scan request turn)

abbrev pub probe_rest : ProbeProc → Word ProbeAnswer
probe_rest p = probe_at p.request p.turn p.scanning.stage

-- what is left once it goes there
abbrev pub probe_goes : ProbeProc → Goes → Word ProbeAnswer
probe_goes p (Learned learned) = probe_at p.request p.turn (learn p.scanning.stage learned)
probe_goes p (Next scan) = probe_at p.request (Second scan) ReadsConfig
probe_goes p (Answers answer) = Ends answer

abbrev pub probe_leaves : ProbeProc → ProbeTurned → Word ProbeAnswer
probe_leaves p turned = probe_goes p turned.goes
