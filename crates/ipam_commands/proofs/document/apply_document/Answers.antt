use Rattle.std.proofs.Common.{◌≡◌, Err, ap, inr, refl}
use Rattle.ipam_resources.specs.declared.fault.DocumentFault.TheVariants as fault
use Rattle.ipam_commands.specs.Applied.{Good}
use Rattle.ipam_commands.proofs.DocumentKinds.{document_kinds}
use Rattle.ipam_commands.proofs.Endings.{bad_wants, fault-ends}
use Rattle.ipam_commands.proofs.document.apply_document.Goals as goal

pub apply_resources-requires : goal.apply_resources-requires
apply_resources-requires g c =
    λ k d below. record {
      sound = c.in-Ok.ensures.sound k d below;
      of_document = (document_kinds c.args.document.now c.in-Ok.resources c.in-Ok.ensures.read).0 k d below;
    }

pub returns-in-Ok-clause-ended : goal.returns-in-Ok-clause-ended
returns-in-Ok-clause-ended g c = Good c.in-Ok.resources c.in-Ok.ensures.read c.apply_resources.ensures.ended

pub returns-in-Err-clause-ended : goal.returns-in-Err-clause-ended
returns-in-Err-clause-ended g c =
    fault-ends _ c.args.document.now _ _ c.tell_document.result c.in-Err.fault refl c.in-Err.ensures.refused c.in-Err.ensures.memory
    c.tell_document.ensures.told c.tell_document.ensures.fixed c.tell_document.ensures.untold c.tell_document.ensures.no_fault

pub returns-in-Ok-clause-want_of_memory_has_its_cause : goal.returns-in-Ok-clause-want_of_memory_has_its_cause
returns-in-Ok-clause-want_of_memory_has_its_cause g c = λ is. inr (c.apply_resources.ensures.want_of_memory_has_its_cause is)

pub returns-in-Err-clause-want_of_memory_has_its_cause : goal.returns-in-Err-clause-want_of_memory_has_its_cause
returns-in-Err-clause-want_of_memory_has_its_cause g c =
    λ is. bad_wants (c.in-Err.fault ≡ fault.Memory) (g.T.ReadsDocuments.wants c.args.alloc) _ (λ none. c.in-Err.ensures.wants (ap Err none)) (c.tell_document.ensures.want_of_memory_has_its_cause is)
