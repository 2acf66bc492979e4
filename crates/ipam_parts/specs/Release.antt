-- What is left of a release at each of its stages.
use Rattle.std.specs.Prelude.{ℕ, if◌then◌else◌}
use Rattle.ipam_block.specs.declared.state.State.TheVariants.{PendingDeletion}
use Rattle.ipam_records.specs.declared.call.Call.TheVariants.{Get, Update}
use Rattle.ipam_records.specs.declared.key.Key.TheVariants as key
use Rattle.ipam_records.specs.declared.record.Record.TheVariants as record_of
use Rattle.ipam_records.specs.Label.{idle}
use Rattle.ipam_records.specs.Word.{Word, Ends, Asks}
use Rattle.ipam_model.specs.declared.outcome.ReleaseAnswer.{ReleaseAnswer}
use Rattle.ipam_model.specs.declared.part.Left.{Left}
use Rattle.ipam_model.specs.Affinities.{Tie, affinity, is_at_mark, release_once, release_look, release_block, release_delete, release_stops}
use Rattle.ipam_model.specs.Reads.{affinity_said}
use Rattle.ipam_model.specs.Step.{Part, on_write, as_word}
use Rattle.ipam_parts.specs.Tries.{again_of}
use Rattle.ipam_parts.specs.declared.release.Marked.{Marked}
use Rattle.ipam_parts.specs.declared.release.Stage.{Stage}
use Rattle.ipam_parts.specs.declared.release.Stage.TheVariants.{Reads, Writes}
use Rattle.ipam_parts.specs.declared.release.Reading.{Reading}
use Rattle.ipam_parts.specs.declared.release.Reading.TheVariants.{Affinity, Block, Again}
use Rattle.ipam_parts.specs.declared.release.Writing.{Writing}
use Rattle.ipam_parts.specs.declared.release.Writing.TheVariants.{Marks, Bares, Deletes}
use Rattle.ipam_parts.specs.declared.release.Goes.{Goes}
use Rattle.ipam_parts.specs.declared.release.Goes.TheVariants as goes
use Rattle.ipam_parts.specs.declared.release.ReleaseAffinityProc.{ReleaseAffinityProc}
use Rattle.ipam_parts.specs.declared.release.ReleaseTurned.{ReleaseTurned}

abbrev pub tie_of : ReleaseAffinityProc → Tie
tie_of p = record { node = p.node; block = p.cidr }

-- what follows a lost race
abbrev pub release_again : Tie → Left → Part ReleaseAnswer
release_again tie left = again_of (release_once tie) left

-- the affinity is read for the second time
abbrev pub looks_again : Tie → Left → Marked → Part ReleaseAnswer
looks_again tie left seen =
    Asks idle (Get (key.Affinity tie.node tie.block)) (λ second said.
    if is_at_mark seen.mark (affinity_said said)
    then release_block tie (release_again tie left) left seen.mark seen.read else release_again tie left)

-- the affinity that was found is marked
abbrev pub marks : Tie → Left → ℕ → Part ReleaseAnswer
marks tie left revision =
    Asks idle (Update (record_of.Affinity (affinity tie.node tie.block PendingDeletion)) revision)
    (λ second said. on_write said left (release_look tie (release_again tie left) left) (release_again tie left))

abbrev pub release_reading_at : Tie → Left → Reading → Part ReleaseAnswer
release_reading_at tie left Affinity = release_once tie (release_again tie left) left
release_reading_at tie left (Block mark) = release_look tie (release_again tie left) left mark
release_reading_at tie left (Again seen) = looks_again tie left seen

abbrev pub release_writing_at : Tie → Left → Writing → Part ReleaseAnswer
release_writing_at tie left (Marks revision) = marks tie left revision
release_writing_at tie left (Bares seen) = release_block tie (release_again tie left) left seen.mark seen.read
release_writing_at tie left (Deletes mark) = release_delete tie (release_again tie left) left mark

abbrev pub part_at : Tie → Left → Stage → Part ReleaseAnswer
part_at tie left (Reads reading) = release_reading_at tie left reading
part_at tie left (Writes writing) = release_writing_at tie left writing

abbrev pub release_at : Tie → Left → Stage → Word ReleaseAnswer
release_at tie left stage = as_word release_stops (part_at tie left stage)

-- the stage after the second read, where the affinity was at its mark
abbrev pub stage_at_mark : Stage → Stage
stage_at_mark (Reads (Again seen)) = Writes (Bares seen)
stage_at_mark other = other

abbrev pub release_rest : ReleaseAffinityProc → Word ReleaseAnswer
release_rest p = release_at (tie_of p) p.left p.stage

-- what is left once the release goes there
abbrev pub release_goes : ReleaseAffinityProc → Goes → Word ReleaseAnswer
release_goes p (goes.To stage) = release_at (tie_of p) p.left stage
release_goes p goes.AtMark = release_at (tie_of p) p.left (stage_at_mark p.stage)
release_goes p (goes.Again left) = release_at (tie_of p) left (Reads Affinity)
release_goes p (goes.Answers answer) = Ends answer

abbrev pub release_leaves : ReleaseAffinityProc → ReleaseTurned → Word ReleaseAnswer
release_leaves p turned = release_goes p turned.goes
