-- The generator's course is a right history, and its summary is counted on one.
use Rattle.std.specs.Prelude.{◌≡◌, ℕ, List, Option}
use Rattle.ipam_model.specs.declared.entry.Entry.{Entry}
use Rattle.ipam_laws.specs.Right.{IsRight}
use Rattle.ipam_command.specs.declared.gen_end.GenEnd.{GenEnd}
use Rattle.ipam_command.specs.declared.gen_end.GenEnd.TheVariants as end
use Rattle.ipam_command.specs.Generated.{IsGenerated}
use Rattle.ipam_command.specs.Requests.{base}
use Rattle.ipam_command.specs.Summary.{HasWrittenSummary, WritesSummaryFront, WritesSummary}

-- The newest entry is first.
abbrev pub GeneratedRightLaw : Type 0
GeneratedRightLaw = (count : ℕ) (answered whole : List Entry) → IsGenerated count answered whole → IsRight base whole

-- What a run that ends so has written, by `HasWrittenSummary`: the six numbers are counted on this course of
-- the events, which is a right history.
abbrev pub HasCountedRight : GenEnd → (count : ℕ) → (first now : Option (List ℕ)) → Type 0
HasCountedRight end.Done count first now = (w : WritesSummary count first now) × IsRight base w.is_text.whole
HasCountedRight end.WriteFault count first now = (w : WritesSummaryFront count first now) × IsRight base w.is_text.whole
HasCountedRight end.NoMemory count first now = now ≡ first

-- Whatever a run has written, it is counted on a right history.
abbrev pub CountedRightLaw : Type 0
CountedRightLaw =
    (count : ℕ) (ending : GenEnd) (first now : Option (List ℕ))
    → HasWrittenSummary ending count first now → HasCountedRight ending count first now
