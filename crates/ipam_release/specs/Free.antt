-- What is left of the freeing of one assignment.
use Rattle.std.specs.Prelude.{ℕ}
use Rattle.ipam_records.specs.Word.{Word}
use Rattle.ipam_model.specs.declared.outcome.FreeAnswer.{FreeAnswer}
use Rattle.ipam_model.specs.declared.part.Left.{Left}
use Rattle.ipam_model.specs.declared.part.Outcome.{Outcome}
use Rattle.ipam_model.specs.declared.part.Outcome.TheVariants.{Went, Stops}
use Rattle.ipam_model.specs.Remove.{free_stops, freed_answer}
use Rattle.ipam_model.specs.Step.{Part, goes, part_then, as_word, stop_answer}
use Rattle.ipam_parts.specs.Freeing.{freeing_rest, freeing_leaves}
use Rattle.ipam_release.specs.declared.free.FreeProc.{FreeProc}
use Rattle.ipam_release.specs.declared.free.FreeTurned.{FreeTurned}

-- what follows the freeing
abbrev pub freed_as : Left → (amount : ℕ) → Part FreeAnswer
freed_as left amount = goes left (freed_answer amount)

abbrev pub free_rest : FreeProc → Word FreeAnswer
free_rest p = as_word free_stops (part_then (freeing_rest p.id p.freeing) freed_as)

-- what is left once it goes where a reply led it
abbrev pub free_leaves : FreeProc → FreeTurned → Word FreeAnswer
free_leaves p turned = as_word free_stops (part_then (freeing_leaves p.id p.freeing turned.freeing) freed_as)

-- what is answered where the freeing came to this
abbrev pub free_answer_of : Outcome ℕ → FreeAnswer
free_answer_of (Went left amount) = freed_answer amount
free_answer_of (Stops left why) = stop_answer free_stops left why
