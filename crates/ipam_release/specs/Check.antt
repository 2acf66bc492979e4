-- What is left of a CHECK at each of its stages.
use Rattle.std.specs.Prelude.{ℕ, List, [], ◌∷◌, Option, Some, None}
use Rattle.ipam_addr.specs.Shape.{AddrValue}
use Rattle.ipam_pool.specs.declared.pools.Pool.{Pool}
use Rattle.ipam_records.specs.declared.key.Key.TheVariants as key
use Rattle.ipam_records.specs.declared.call.Call.TheVariants.{Get}
use Rattle.ipam_records.specs.Label.{idle}
use Rattle.ipam_records.specs.Said.{Said}
use Rattle.ipam_records.specs.Word.{Word, Ends, Asks}
use Rattle.ipam_model.specs.declared.outcome.CheckAnswer.{CheckAnswer}
use Rattle.ipam_model.specs.declared.outcome.CheckAnswer.TheVariants.{Checked, NotRecorded}
use Rattle.ipam_model.specs.AddThis.{slot_holding}
use Rattle.ipam_model.specs.Look.{check_word, check_held, holds_at}
use Rattle.ipam_model.specs.Reads.{block_said}
use Rattle.ipam_model.specs.Usable.{pool_of}
use Rattle.ipam_release.specs.declared.check.Visit.{Visit}
use Rattle.ipam_release.specs.declared.check.Visit.TheVariants.{Slot, Outside}
use Rattle.ipam_release.specs.declared.check.Looks.{Looks as Looking}
use Rattle.ipam_release.specs.declared.check.Stage.{Stage}
use Rattle.ipam_release.specs.declared.check.Stage.TheVariants.{Reads, Looks}
use Rattle.ipam_release.specs.declared.check.Goes.{Goes}
use Rattle.ipam_release.specs.declared.check.Goes.TheVariants as goes
use Rattle.ipam_release.specs.declared.check.CheckProc.{CheckProc}
use Rattle.ipam_release.specs.declared.check.CheckTurned.{CheckTurned}

abbrev pub visit_in : AddrValue → Option Pool → Visit
visit_in address None = Outside address
visit_in address (Some pool) = Slot address (slot_holding pool address)

abbrev pub visit_of : List Pool → AddrValue → Visit
visit_of pools address = visit_in address (pool_of address pools)

-- what follows the read of an address's block
abbrev pub look_said : (rest : Word CheckAnswer) → List ℕ → AddrValue → (moment : ℕ) → Said → Word CheckAnswer
look_said rest id address moment said = check_held rest address moment (holds_at id address (block_said said))

-- an address with its slot, and then the rest. The pools were read at this moment
abbrev pub visit_one : (rest : Word CheckAnswer) → List ℕ → (p : ℕ) → Visit → Word CheckAnswer
visit_one rest id p (Outside address) = Ends (NotRecorded address p)
visit_one rest id p (Slot address cidr) =
    Asks idle (Get (key.Block cidr)) (λ moment said. look_said rest id address moment said)

abbrev pub visit_each : List ℕ → (p : ℕ) → List Visit → Word CheckAnswer
visit_each id p [] = Ends Checked
visit_each id p (visit ∷ rest) = visit_one (visit_each id p rest) id p visit

abbrev pub looks_at : List ℕ → Looking → Word CheckAnswer
looks_at id l = visit_one (visit_each id l.moment l.others.items) id l.moment (Slot l.address l.cidr)

-- what follows the reply to the look at an address
abbrev pub look_heard : List ℕ → Looking → (moment : ℕ) → Said → Word CheckAnswer
look_heard id l moment said = look_said (visit_each id l.moment l.others.items) id l.address moment said

abbrev pub check_at : List ℕ → Stage → Word CheckAnswer
check_at id (Reads addresses) = check_word id addresses
check_at id (Looks l) = looks_at id l

-- what is left once the address was held; no other stage has one
abbrev pub next_at : List ℕ → Stage → Word CheckAnswer
next_at id (Reads addresses) = check_word id addresses
next_at id (Looks l) = visit_each id l.moment l.others.items

abbrev pub check_rest : CheckProc → Word CheckAnswer
check_rest p = check_at p.id p.stage

-- what is left once the CHECK goes there
abbrev pub check_goes : CheckProc → Goes → Word CheckAnswer
check_goes p (goes.To stage) = check_at p.id stage
check_goes p goes.Next = next_at p.id p.stage
check_goes p (goes.Answers answer) = Ends answer

abbrev pub check_leaves : CheckProc → CheckTurned → Word CheckAnswer
check_leaves p turned = check_goes p turned.goes
