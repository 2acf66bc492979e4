-- What is so of rows that were loaded from a keeper, once they are opened and where they are not.
use Rattle.std.proofs.Common.{◌≡◌, ℕ, List, Option, Result, Ok, Err, sym, subst}
use Rattle.std.specs.Prelude.{IfOk, IfErr, OnOk}
use Rattle.std.specs.Global.{Vec}
use Rattle.ipam_io.specs.Counts.{Rose}
use Rattle.ipam_keeper.specs.declared.keeper.KeepFault.{KeepFault}
use Rattle.ipam_keeper.specs.declared.keeper.KeepFault.TheVariants as keeping
use Rattle.ipam_keeper.specs.Keeping.{IsTold, OnFailed, UnlessFailed}
use Rattle.ipam_opening.specs.declared.fault.OpenFault.{OpenFault}
use Rattle.ipam_opening.specs.declared.fault.OpenFault.TheVariants as opening
use Rattle.ipam_opening.specs.Opening.{IsFaultOf}
use Rattle.ipam_records.specs.declared.call.Row.{Row as RowText}
use Rattle.ipam_records.specs.Datastore.{Datastore}
use Rattle.ipam_model.specs.Opened.{OpensAs}
use Rattle.ipam_shared.specs.declared.kept.KeptFault.{KeptFault}
use Rattle.ipam_shared.specs.Faults.{IsOpening, IsWhyNot, not_opened}
use Rattle.ipam_shared.specs.Rows.{texts_loaded}
use Rattle.ipam_commands.specs.Telling.{AreOpened, IsLoadedAs, IsNotLoaded}

-- ---- why they are not opened

of-opening : (told : Option (List RowText)) (n n' : ℕ) (rows : List RowText) (why : OpenFault) → IsTold told rows → n' ≡ n → IsFaultOf (texts_loaded rows) why → IsNotLoaded told n n' (not_opened why)
of-opening told n n' rows (opening.Refused number about) are same is = (record { rows = rows; loaded = are; refused = is }, same)
of-opening told n n' rows opening.Memory are same is = same

module _ {O : Type 0} (opens : List RowText → O → Type 0) (wants : Type 0) (told : Option (List RowText)) (n n' : ℕ) where
  pub not-loaded : (loaded : Result (Vec RowText) KeepFault) (r : Result O KeptFault) → IsOpening opens (IsWhyNot wants) loaded r
      → IfOk loaded (λ rows. IsTold told rows.items) → OnFailed loaded (Rose n n') → UnlessFailed loaded (n' ≡ n) → IfErr r (IsNotLoaded told n n')
  not-loaded loaded (Ok opened) is are rose same = tt
  not-loaded (Ok rows) (Err fault) (why, (refused, wanted), tells) are rose same =
      subst (λ (f : KeptFault). IsNotLoaded told n n' f) (sym tells) (of-opening told n n' rows.items why are same refused)
  not-loaded (Err keeping.Failed) (Err fault) tells are rose same = subst (λ (f : KeptFault). IsNotLoaded told n n' f) (sym tells) rose
  not-loaded (Err keeping.Memory) (Err fault) tells are rose same = subst (λ (f : KeptFault). IsNotLoaded told n n' f) (sym tells) same

  pub none-failed : (loaded : Result (Vec RowText) KeepFault) (r : Result O KeptFault) → IsOpening opens (IsWhyNot wants) loaded r → UnlessFailed loaded (n' ≡ n) → OnOk r (n' ≡ n)
  none-failed (Ok rows) (Ok opened) is same = same
  none-failed (Err why) (Ok opened) is same = absurd is
  none-failed loaded (Err fault) is same = tt

  pub opened-as : (P : O → Type 0) (loaded : Result (Vec RowText) KeepFault) (r : Result O KeptFault) → IsOpening opens (IsWhyNot wants) loaded r
      → IfOk loaded (λ rows. IsTold told rows.items) → ((rows : List RowText) (opened : O) → IsTold told rows → opens rows opened → P opened) → IfOk r P
  opened-as P (Ok rows) (Ok opened) is are so = so rows.items opened are is
  opened-as P (Err why) (Ok opened) is are so = absurd is
  opened-as P loaded (Err fault) is are so = tt

-- ---- the rows and their datastore

pub are-opened : (told : Option (List RowText)) (loaded rows : List RowText) (store : Datastore) → IsTold told loaded → IsLoadedAs loaded rows store → AreOpened told rows store
are-opened told loaded rows store are is = record {
  loaded = subst (λ (r : List RowText). IsTold told r) (sym is.same) are;
  opens = subst (λ (r : List RowText). OpensAs (texts_loaded r) store) (sym is.same) is.opens;
}
