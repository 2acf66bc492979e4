use Rattle.std.proofs.Common.{inl, inr}
use Rattle.ipam_commands.proofs.Wanting.{line_wants}
use Rattle.ipam_commands.proofs.FixedLines.{told_long, told_not_json}
use Rattle.ipam_commands.proofs.told_apply.tell_document.Goals as goal

pub returns-in-Long-clause-told : goal.returns-in-Long-clause-told
returns-in-Long-clause-told g c = told_long _ c.args.fault c.tell.result c.in-Long.is c.tell.ensures.written

pub returns-in-NotJson-clause-told : goal.returns-in-NotJson-clause-told
returns-in-NotJson-clause-told g c = told_not_json _ c.args.fault c.tell-in-NotJson.result c.in-NotJson.is c.tell-in-NotJson.ensures.written

pub returns-in-Long-clause-want_of_memory_has_its_cause : goal.returns-in-Long-clause-want_of_memory_has_its_cause
returns-in-Long-clause-want_of_memory_has_its_cause g c = λ is. absurd (c.tell.ensures.told is)

pub returns-in-NotJson-clause-want_of_memory_has_its_cause : goal.returns-in-NotJson-clause-want_of_memory_has_its_cause
returns-in-NotJson-clause-want_of_memory_has_its_cause g c = λ is. absurd (c.tell-in-NotJson.ensures.told is)

pub returns-in-Member-clause-want_of_memory_has_its_cause : goal.returns-in-Member-clause-want_of_memory_has_its_cause
returns-in-Member-clause-want_of_memory_has_its_cause g c =
    λ is. inr (line_wants (g.T.ReadsDocuments.wants c.args.alloc) c.fault_line-line.result c.tell_made.result c.fault_line-line.ensures.wants c.tell_made.ensures.told is)

pub returns-clause-want_of_memory_has_its_cause : goal.returns-clause-want_of_memory_has_its_cause
returns-clause-want_of_memory_has_its_cause g c = λ is. inl c.in-Memory.is
