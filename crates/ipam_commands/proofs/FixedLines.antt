-- The lines that are the same for each document.
use Rattle.std.proofs.Common.{◌≡◌, codes, sym, subst}
use Rattle.ipam_resources.specs.declared.fault.DocumentFault.{DocumentFault}
use Rattle.ipam_resources.specs.declared.fault.DocumentFault.TheVariants as document_fault
use Rattle.ipam_resources.specs.Printed.{fault_line}
use Rattle.ipam_commands.specs.declared.status.Status.{Status}
use Rattle.ipam_commands.specs.declared.status.Status.TheVariants as status
use Rattle.ipam_commands.specs.ToldApply.{TellsFault, Writing}

pub told_long : (writes : Writing) (why : DocumentFault) (end : Status) → why ≡ document_fault.Long → writes (codes "refused: long\n") status.Refused end → TellsFault why writes end
unfolding fault_line
told_long writes why end is said = subst (λ (x : DocumentFault). TellsFault x writes end) (sym is) said

pub told_not_json : (writes : Writing) (why : DocumentFault) (end : Status) → why ≡ document_fault.NotJson → writes (codes "refused: not JSON\n") status.Refused end → TellsFault why writes end
unfolding fault_line
told_not_json writes why end is said = subst (λ (x : DocumentFault). TellsFault x writes end) (sym is) said
