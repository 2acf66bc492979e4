-- What is so where rows that were loaded are opened, and where they are not.
use Rattle.std.proofs.Common.{◌≡◌, ℕ, List, Option, Result, Ok, Err, refl, sym, ◌∙◌, subst}
use Rattle.std.specs.Prelude.{IfOk}
use Rattle.std.specs.Global.{Vec}
use Rattle.ipam_io.specs.Counts.{Rose}
use Rattle.ipam_keeper.specs.declared.keeper.KeepFault.{KeepFault}
use Rattle.ipam_keeper.specs.declared.keeper.KeepFault.TheVariants as keeping
use Rattle.ipam_keeper.specs.Keeping.{IsTold, OnFailed, UnlessFailed}
use Rattle.ipam_opening.specs.declared.fault.OpenFault.{OpenFault}
use Rattle.ipam_opening.specs.declared.fault.OpenFault.TheVariants as opening
use Rattle.ipam_opening.specs.Opening as refused
use Rattle.ipam_records.specs.declared.call.Row.{Row as RowText}
use Rattle.ipam_shared.specs.declared.kept.KeptFault.{KeptFault}
use Rattle.ipam_shared.specs.declared.kept.KeptFault.TheVariants as kept
use Rattle.ipam_shared.specs.Faults.{IsOpening, IsWhyNot, not_opened}
use Rattle.ipam_shared.specs.Kept.{Tells}
use Rattle.ipam_shared.specs.Opening.{IsFaultOf}
use Rattle.ipam_shared.specs.Rows.{texts_loaded}

module _ {O : Type 0} (opens : List RowText → O → Type 0) (refuses : List RowText → OpenFault → Type 0) where
  -- they were loaded
  pub were-loaded : (loaded : Result (Vec RowText) KeepFault) (opened : O) → IsOpening opens refuses loaded (Ok opened) → (rows : Vec RowText) × (loaded ≡ Ok rows) × opens rows.items opened
  were-loaded (Ok rows) opened is = (rows, refl, is)
  were-loaded (Err why) opened is = absurd is

  -- they were, and the opening refused them
  pub told-refused : (loaded : Result (Vec RowText) KeepFault) (rows : Vec RowText) (why : OpenFault) (fault : KeptFault) → loaded ≡ Ok rows → refuses rows.items why → fault ≡ not_opened why → IsOpening opens refuses loaded (Err fault)
  told-refused loaded rows why fault is refused tells = rw is (why, refused, tells)

module _ {O : Type 0} (opens : List RowText → O → Type 0) (wants : Type 0) where
  of-want : (why : OpenFault) → not_opened why ≡ kept.Memory → why ≡ opening.Memory
  of-want (opening.Refused number about) is = absurd (cc is)
  of-want opening.Memory is = refl

  -- want of memory was found in loading them, or in opening them
  pub has-cause : (loaded : Result (Vec RowText) KeepFault) (fault : KeptFault) → IsOpening opens (IsWhyNot wants) loaded (Err fault) → (loaded ≡ Err keeping.Memory → wants) → fault ≡ kept.Memory → wants
  has-cause (Ok rows) fault (why, (broken, known), same) unloaded is = known (of-want why (sym same ∙ is))
  has-cause (Err keeping.Memory) fault same unloaded is = unloaded refl
  has-cause (Err keeping.Failed) fault same unloaded is = let none : kept.Keeper ≡ kept.Memory = sym same ∙ is in absurd (cc none)

module _ {O D : Type 0} (opens : List RowText → O → Type 0) (wants : Type 0) (tells : Tells D) (faults : D → ℕ) (keeper after : D) where
  of-opening : (rows : List RowText) (why : OpenFault) → IsTold (tells keeper) rows → faults after ≡ faults keeper → refused.IsFaultOf (texts_loaded rows) why → IsFaultOf tells faults keeper after (not_opened why)
  of-opening rows (opening.Refused number about) told same is = (same, (rows, told, is))
  of-opening rows opening.Memory told same is = same

  pub why-not : (loaded : Result (Vec RowText) KeepFault) (fault : KeptFault) → IsOpening opens (IsWhyNot wants) loaded (Err fault)
      → IfOk loaded (λ rows. IsTold (tells keeper) rows.items) → OnFailed loaded (Rose (faults keeper) (faults after)) → UnlessFailed loaded (faults after ≡ faults keeper)
      → IsFaultOf tells faults keeper after fault
  why-not (Ok rows) fault (why, (is, wanted), same) told rose stays =
      subst (λ (f : KeptFault). IsFaultOf tells faults keeper after f) (sym same) (of-opening rows.items why told stays is)
  why-not (Err keeping.Failed) fault same told rose stays = subst (λ (f : KeptFault). IsFaultOf tells faults keeper after f) (sym same) rose
  why-not (Err keeping.Memory) fault same told rose stays = subst (λ (f : KeptFault). IsFaultOf tells faults keeper after f) (sym same) stays
