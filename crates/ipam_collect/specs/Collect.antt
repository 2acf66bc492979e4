-- What is left of a collection at each of its stages.
use Rattle.std.specs.Prelude.{ℕ, ◌+◌, List, []}
use Rattle.ipam_records.specs.declared.call.Call.TheVariants.{List as ListAll}
use Rattle.ipam_records.specs.declared.key.Kind.TheVariants as kind
use Rattle.ipam_records.specs.Label.{idle}
use Rattle.ipam_records.specs.Word.{Word, Ends, Asks, Waits as Waiting}
use Rattle.ipam_model.specs.declared.outcome.CollectAnswer.{CollectAnswer}
use Rattle.ipam_model.specs.declared.request.CollectRequest.{CollectRequest}
use Rattle.ipam_model.specs.Reads.{rows_said}
use Rattle.ipam_model.specs.Remove.{Leak, leaks, collect_word}
use Rattle.ipam_model.specs.Step.{all_left}
use Rattle.ipam_parts.specs.declared.freeing.FreeingTurned.{FreeingTurned}
use Rattle.ipam_collect.specs.declared.collect.Stage.{Stage}
use Rattle.ipam_collect.specs.declared.collect.Stage.TheVariants.{Lists, Waits, ListsAgain, Frees}
use Rattle.ipam_collect.specs.declared.collect.Goes.{Goes}
use Rattle.ipam_collect.specs.declared.collect.Goes.TheVariants as goes
use Rattle.ipam_collect.specs.declared.collect.CollectProc.{CollectProc}
use Rattle.ipam_collect.specs.declared.collect.CollectTurned.{CollectTurned}
use Rattle.ipam_collect.specs.declared.collect.Grace.{Grace}
use Rattle.ipam_collect.specs.Frees.{leaks_left, frees_at, frees_leaves}

-- the time from which on a second list is late enough
abbrev pub due_from : CollectProc → ℕ
due_from p = p.request.at + p.request.grace

-- when the first list was made, and the grace after it
abbrev pub grace_asked : CollectRequest → Grace
grace_asked request = record { at = request.at; grace = request.grace }

abbrev pub grace_in : CollectProc → Grace
grace_in p = grace_asked p.request

-- the blocks are listed again, with these suspects and the second list
abbrev pub lists_again : (b1 : ℕ) → List Leak → (live : List (List ℕ)) → Word CollectAnswer
lists_again b1 kept live =
    Asks idle (ListAll kind.Block) (λ b2 second. leaks_left b1 b2 ([], leaks kept live (rows_said second)) all_left)

abbrev pub collect_at : CollectRequest → Stage → Word CollectAnswer
collect_at request Lists = collect_word request
collect_at request (Waits found) = Waiting (λ live. lists_again found.b1 found.suspects live)
collect_at request (ListsAgain found) = lists_again found.b1 found.suspects found.live
collect_at request (Frees f) = frees_at f

-- what is left once the freeing goes where a reply led it; no other stage has one
abbrev pub stage_leaves : CollectRequest → Stage → FreeingTurned → Word CollectAnswer
stage_leaves request (Frees f) turned = frees_leaves f turned
stage_leaves request stage turned = collect_at request stage

-- the stage once the second list is there
abbrev pub stage_fed : Stage → List (List ℕ) → Stage
stage_fed (Waits found) live = ListsAgain (record { b1 = found.b1; suspects = found.suspects; live = live })
stage_fed stage live = stage

abbrev pub collect_rest : CollectProc → Word CollectAnswer
collect_rest p = collect_at p.request p.stage

-- what is left once the collection goes there
abbrev pub collect_goes : CollectProc → Goes → Word CollectAnswer
collect_goes p (goes.To stage) = collect_at p.request stage
collect_goes p (goes.Frees turned) = stage_leaves p.request p.stage turned
collect_goes p (goes.Answers answer) = Ends answer

abbrev pub collect_leaves : CollectProc → CollectTurned → Word CollectAnswer
collect_leaves p turned = collect_goes p turned.goes
