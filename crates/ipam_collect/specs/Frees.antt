-- What is left of a collection while its leaks are freed.
use Rattle.std.specs.Prelude.{ℕ, List, nat_lt}
use Rattle.ipam_records.specs.Word.{Word}
use Rattle.ipam_model.specs.declared.answer.Collected.{Collected as Done}
use Rattle.ipam_model.specs.declared.answer.Item.{Item}
use Rattle.ipam_model.specs.declared.outcome.CollectAnswer.{CollectAnswer}
use Rattle.ipam_model.specs.declared.part.Left.{Left}
use Rattle.ipam_model.specs.Remove.{Leak, collect_stops, free_leaks}
use Rattle.ipam_model.specs.Step.{Part, part_then, as_word}
use Rattle.ipam_parts.specs.declared.freeing.FreeingTurned.{FreeingTurned}
use Rattle.ipam_parts.specs.Freeing.{freeing_rest, freeing_leaves}
use Rattle.ipam_collect.specs.Tally.{finished, id_in}
use Rattle.ipam_collect.specs.declared.frees.Frees.{Frees}

abbrev pub done_of : (b1 b2 : ℕ) → List Item → Done
done_of b1 b2 items = record { b1 = b1; b2 = b2; items = items }

-- what is left with these items told and these leaks left
abbrev pub leaks_left : (b1 b2 : ℕ) → List Item × List Leak → Left → Word CollectAnswer
leaks_left b1 b2 tally left = as_word collect_stops (free_leaks (done_of b1 b2 tally.0) tally.1 left)

-- what follows the freeing of the first of the leaks
abbrev pub then_left : (b1 b2 : ℕ) → List Item × List Leak → Left → (amount : ℕ) → Part CollectAnswer
then_left b1 b2 tally now amount =
    let next = finished (nat_lt 0 amount) tally.0 tally.1 in free_leaks (done_of b1 b2 next.0) next.1 now

abbrev pub frees_at : Frees → Word CollectAnswer
frees_at f =
    as_word collect_stops (part_then (freeing_rest (id_in f.tally.1) f.freeing) (then_left f.b1 f.b2 f.tally))

-- what is left once the freeing goes where a reply led it
abbrev pub frees_leaves : Frees → FreeingTurned → Word CollectAnswer
frees_leaves f turned =
    as_word collect_stops (part_then (freeing_leaves (id_in f.tally.1) f.freeing turned) (then_left f.b1 f.b2 f.tally))
