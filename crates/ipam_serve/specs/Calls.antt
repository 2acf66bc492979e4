-- What is so of each call that a slot gained.
use Rattle.std.specs.Prelude.{◌≡◌, ℕ, List, [], ◌∷◌, ◌++◌}
use Rattle.ipam_model.specs.declared.entry.Called.{Called as OneCall}
use Rattle.ipam_model.specs.declared.entry.Entry.{Entry}
use Rattle.ipam_model.specs.declared.entry.Entry.TheVariants as entry
use Rattle.ipam_model.specs.History.{Base, slot_of_entry}
use Rattle.ipam_shared.specs.PassValue.{PassValue}
use Rattle.ipam_shared.specs.Passes.{IsSamePass}

-- what is so of a call of a slot, which came after these entries
abbrev pub OfCall : Type 1
OfCall = Base → (slot : ℕ) → OneCall → (earlier : List Entry) → Type 0

module _ (is_so : OfCall) where
  abbrev pub IsSoIfCall : Base → (slot : ℕ) → Entry → (earlier : List Entry) → Type 0
  IsSoIfCall base slot (entry.Began other request) earlier = Unit {0}
  IsSoIfCall base slot (entry.Fed other at live) earlier = Unit {0}
  IsSoIfCall base slot (entry.Called call) earlier = is_so base slot call earlier
  IsSoIfCall base slot (entry.Stopped other) earlier = Unit {0}

  -- so is each call of the slot among these entries, which came after the earlier ones
  abbrev pub AreSo : Base → (slot : ℕ) → (entries earlier : List Entry) → Type 0
  AreSo base slot [] earlier = Unit {0}
  AreSo base slot (told ∷ entries) earlier =
      AreSo base slot entries earlier × (slot_of_entry told ≡ slot → IsSoIfCall base slot told (entries ++ earlier))

  -- so is each call that the slot gained
  pub record EachCall (old new : PassValue) : Type 0 where
    pub same : IsSamePass old new
    pub more : List Entry
    pub grew : new.seen ≡ more ++ old.seen
    pub are : AreSo old.base old.slot more old.seen
