use Rattle.std.proofs.Common.{◌≡◌, ◌++◌, take}
use Rattle.std.specs.Prelude.{string_bytes}
use Rattle.ipam_play.specs.Output.{journal_text}
use Rattle.ipam_play.proofs.output.Output.take.Given as goal

abbrev pub invariant-loop-entry : goal.invariant-loop-entry
invariant-loop-entry l = string_bytes l.self.text ≡ string_bytes l.fn.self.text ++ journal_text (take l.entry-index l.entries)
