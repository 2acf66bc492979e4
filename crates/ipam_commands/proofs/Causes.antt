-- Want of memory in an audit comes where loading the rows found none, or where auditing them did.
use Rattle.std.proofs.Common.{◌≡◌, Result, Err, refl, sym, ◌∙◌}
use Rattle.ipam_keeper.specs.declared.keeper.KeepFault.{KeepFault}
use Rattle.ipam_keeper.specs.declared.keeper.KeepFault.TheVariants as keeping
use Rattle.ipam_opening.specs.declared.fault.OpenFault.{OpenFault}
use Rattle.ipam_opening.specs.declared.fault.OpenFault.TheVariants as opening
use Rattle.ipam_shared.specs.declared.kept.KeptFault.{KeptFault}
use Rattle.ipam_shared.specs.declared.kept.KeptFault.TheVariants as kept
use Rattle.ipam_shared.specs.Faults.{not_loaded, not_opened}

abbrev failed : (T E : Type 0) → E → Result T E
failed T E why = Err why

loading-wants : (T : Type 0) (why : KeepFault) → not_loaded why ≡ kept.Memory → failed T KeepFault why ≡ Err keeping.Memory
loading-wants T keeping.Failed is = absurd (cc is)
loading-wants T keeping.Memory is = refl

opening-wants : (T : Type 0) (why : OpenFault) → not_opened why ≡ kept.Memory → failed T OpenFault why ≡ Err opening.Memory
opening-wants T (opening.Refused number about) is = absurd (cc is)
opening-wants T opening.Memory is = refl

pub loading_has_cause : {T : Type 0} (wants : Type 0) (why : KeepFault) (told : KeptFault) → (failed T KeepFault why ≡ Err keeping.Memory → wants) → told ≡ not_loaded why → told ≡ kept.Memory → wants
loading_has_cause {T} wants why told found tells is = found (loading-wants T why (sym tells ∙ is))

pub opening_has_cause : {T : Type 0} (wants : Type 0) (why : OpenFault) (told : KeptFault) → (failed T OpenFault why ≡ Err opening.Memory → wants) → told ≡ not_opened why → told ≡ kept.Memory → wants
opening_has_cause {T} wants why told found tells is = found (opening-wants T why (sym tells ∙ is))
