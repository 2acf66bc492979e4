-- How a document and its resources end.
use Rattle.std.proofs.Common.{◌≡◌, ◌≢◌, ◌⊎◌, inl, inr, ℕ, List, Option, Err, length, refl, sym, ◌∙◌, subst, ltb-false, None}
use Rattle.std.specs.Io.KnownBytes.{IsAtEnd}
use Rattle.ipam_shared.specs.declared.kept.Kept.{Kept}
use Rattle.ipam_shared.specs.declared.kept.KeptFault.{KeptFault}
use Rattle.ipam_shared.specs.declared.kept.KeptFault.TheVariants as fault
use Rattle.ipam_shared.specs.Kept.{Tells}
use Rattle.ipam_shared.specs.Opening.{IsFaultOf, IsOpened}
use Rattle.ipam_records.specs.declared.call.Row.{Row as RowText}
use Rattle.ipam_resources.specs.declared.fault.DocumentFault.{DocumentFault}
use Rattle.ipam_resources.specs.declared.fault.DocumentFault.TheVariants as document_fault
use Rattle.ipam_resources.specs.declared.fault.TheConstants.{DOCUMENT_MAX}
use Rattle.ipam_resources.specs.declared.resource.Resource.{Resource}
use Rattle.ipam_resources.specs.Documents.{IsReadable, document_reading}
use Rattle.ipam_resources.specs.Printed.{HasFixedLine, fault_line}
use Rattle.ipam_commands.specs.declared.status.Status.{Status}
use Rattle.ipam_commands.specs.declared.status.Status.TheVariants as status
use Rattle.ipam_commands.specs.Telling.{Cut, IsNotLoaded, Untold as NoText, Whole, Writes}
use Rattle.ipam_commands.specs.Applied.{Bad, DocumentEnds, Good, NoRoom, Opened, ResourcesEnd}
use Rattle.ipam_commands.specs.Applying.{RunEnds}
use Rattle.ipam_commands.specs.Inputs.{IsDocument}
use Rattle.ipam_keeper.specs.Outside.{Outside}
use Rattle.ipam_commands.specs.Outside.{EndsSaying}
use Rattle.ipam_commands.specs.ToldApply.{TellsFault}
use Rattle.ipam_commands.proofs.DocumentKinds.{document_kinds}

-- ---- over a keeper's rows

same-outside : (written : Option (List ℕ)) (write_faults : ℕ) (one other : Option (List RowText)) (before after : ℕ) → one ≡ other → before ≡ after
    → ◌≡◌ {A = Outside} (record { left = None; read_faults = 0; written = written; write_faults = write_faults; rows = one; keeper_faults = before })
    (record { left = None; read_faults = 0; written = written; write_faults = write_faults; rows = other; keeper_faults = after })
same-outside written write_faults one other before after rows faults =
    λ i. record { left = None; read_faults = 0; written = written; write_faults = write_faults; rows = rows i; keeper_faults = faults i }

-- what was opened runs over the rows that were loaded
pub opened-ends : {D : Type 0} (tells : Tells D) (faults name : D → ℕ) (keeper : D) (kept : Kept D) (resources : List Resource) (written : Option (List ℕ)) (write_faults : ℕ) (new : Outside) (end : Status) → IsOpened tells faults name keeper 0 kept
    → RunEnds kept.cluster.store.store resources (record { left = None; read_faults = 0; written = written; write_faults = write_faults; rows = tells kept.keeper; keeper_faults = faults kept.keeper }) new end
    → ResourcesEnd resources (record { left = None; read_faults = 0; written = written; write_faults = write_faults; rows = tells keeper; keeper_faults = faults keeper }) new end
opened-ends tells faults name keeper kept resources written write_faults new end o ran =
    Opened o.loaded kept.cluster.store.store (record { loaded = o.told; opens = o.opens })
    (subst (λ (out : Outside). RunEnds kept.cluster.store.store resources out new end)
    (same-outside written write_faults (tells kept.keeper) (tells keeper) (faults kept.keeper) (faults keeper) o.same_rows o.no_fault) ran)

-- why the rows were not opened
pub not-loaded : {D : Type 0} (tells : Tells D) (faults : D → ℕ) (keeper after : D) (why : KeptFault) → IsFaultOf tells faults keeper after why → IsNotLoaded (tells keeper) (faults keeper) (faults after) why
not-loaded tells faults keeper after fault.Keeper is = is
not-loaded tells faults keeper after fault.Memory is = is
not-loaded tells faults keeper after (fault.Refused number about) (none, (loaded, told, refused)) =
    (record { rows = loaded; loaded = told; refused = refused }, none)

-- ---- a document

-- a run that ends so with all of a text which says otherwise has not done all
pub not-done : (old new : Option (List ℕ)) (faults faults' : ℕ) (text : List ℕ) (own end : Status) → Writes old new faults faults' text own end → own ≢ status.Done → end ≢ status.Done
not-done old new faults faults' text own _ (Whole wrote none) other is = other is
not-done old new faults faults' text own _ (Cut said part rose) other is = absurd (cc is)
not-done old new faults faults' text own _ (NoText made same none) other is = absurd (cc is)

refused-not-done : status.Refused ≢ status.Done
refused-not-done is = absurd (cc is)

-- what is told of a fault that is not want of memory
pub told-fault : (why : DocumentFault) (writes : List ℕ → Status → Status → Type 0) (end : Status) → why ≢ document_fault.Memory → writes (fault_line why) status.Refused end → TellsFault why writes end
told-fault document_fault.Long writes end other said = said
told-fault document_fault.NotJson writes end other said = said
told-fault (document_fault.Member place) writes end other said = said
told-fault document_fault.Memory writes end other said = absurd (other refl)

-- a document that is not read
pub fault-ends : (same : Type 0) (document : List ℕ) (old new : Outside) (end : Status) (why : DocumentFault) → same → (why ≢ document_fault.Memory → document_reading document ≡ Err why)
    → (why ≡ document_fault.Memory → IsReadable document)
    → TellsFault why (λ text own end. EndsSaying old new text own end) end → (HasFixedLine why → end ≢ status.NoMemory)
    → (why ≡ document_fault.Memory → new.written ≡ old.written) → (why ≡ document_fault.Memory → new.write_faults ≡ old.write_faults)
    → DocumentEnds same document old new end
fault-ends same document old new end document_fault.Long kept is readable said fixed none no_fault = Bad document_fault.Long (is (λ e. absurd (cc e))) kept said fixed
fault-ends same document old new end document_fault.NotJson kept is readable said fixed none no_fault = Bad document_fault.NotJson (is (λ e. absurd (cc e))) kept said fixed
fault-ends same document old new end (document_fault.Member place) kept is readable said fixed none no_fault = Bad (document_fault.Member place) (is (λ e. absurd (cc e))) kept said fixed
fault-ends same document old new end document_fault.Memory kept is readable said fixed none no_fault =
    NoRoom (readable refl) kept (record { written = none refl; no_write_fault = no_fault refl; no_memory = said })

-- where all is done, the document was read to its end
pub done-whole : (same : Type 0) (document : List ℕ) (old new : Outside) (end : Status) (left left' : Option (List ℕ)) → DocumentEnds same document old new end → IsDocument left left' document → end ≡ status.Done → IsAtEnd left'
done-whole same document old new end left left' (Good resources is ends) input done =
    input.whole (ltb-false DOCUMENT_MAX (length document) (document_kinds document resources is).1)
done-whole same document old new end left left' (Bad why is kept said fixed) input done =
    absurd (not-done _ _ _ _ _ _ _ said refused-not-done done)
done-whole same document old new end left left' (NoRoom readable kept none) input done =
    let no = sym none.no_memory ∙ done in absurd (cc no)

-- ---- want of memory

-- a document that was not read: reading it found none, or its line did
pub bad_wants : (unread reading rest : Type 0) → (unread → reading) → unread ⊎ reading → reading ⊎ rest
bad_wants unread reading rest why (inl is) = inl (why is)
bad_wants unread reading rest why (inr none) = inl none
