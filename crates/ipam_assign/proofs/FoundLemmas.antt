-- What is known of a block that was found.
use native.Mathlib.Omega.{arith}
use Rattle.std.proofs.Common.{◌≡◌, refl, sym, ap, subst, ◌∙◌, ℕ, Bool, true, false, cond, List, [], ◌∷◌, Option, Some, None, find, ◌==◌, ◌||◌, option_map}
use Rattle.std.specs.List.{list_any}
use Rattle.ipam_addr.specs.Shape.{CidrValue}
use Rattle.ipam_block.specs.Operations.{holder, holding, is_held}
use Rattle.ipam_block.specs.Shape.{BlockValue}
use Rattle.ipam_records.specs.declared.key.Key.{Key}
use Rattle.ipam_records.specs.declared.key.Key.TheVariants as key
use Rattle.ipam_records.specs.declared.call.Call.TheVariants.{Get}
use Rattle.ipam_records.specs.declared.record.Record.{Record}
use Rattle.ipam_records.specs.declared.record.Record.TheVariants as record_of
use Rattle.ipam_records.specs.Datastore.{reply_to_get, row_of, row_key}
use Rattle.ipam_records.specs.Hearing.{CanBeSaid}
use Rattle.ipam_records.specs.KeyOrder.{keys_equal}
use Rattle.ipam_records.specs.KeyOrderLaws.{same-keys_equal}
use Rattle.ipam_records.specs.Said.{Said, Found, Missing, Listed, Can, Exists, Conflict, Full, Spent}
use Rattle.ipam_model.specs.Reads.{block_said, StoredRecord}

passes : (test : StoredRecord → Bool) (rows : List StoredRecord) (row : StoredRecord) → find test rows ≡ Some row → test row ≡ true
passes test [] row is = absurd (cc is)
passes test (first ∷ rest) row is =
    elim (test first) as (λ b. test first ≡ b → cond b (Some first) (find test rest) ≡ Some row → test row ≡ true) [
      | true ↦ λ yes found. subst (λ r. test r ≡ true) (cc found) yes
      | false ↦ λ no_match found. passes test rest row found
    ] refl is

told_row : (found : Option StoredRecord) (revision : ℕ) (r : Record) → reply_to_get found ≡ Found revision r → found ≡ Some (revision, r)
told_row None revision r told = absurd (cc told)
told_row (Some row) revision r told = grind arith

abbrev cidr_or : CidrValue → Key → CidrValue
cidr_or other (key.Block cidr) = cidr
cidr_or other _ = other

abbrev cidr_in : CidrValue → Option (ℕ × BlockValue) → CidrValue
cidr_in other (Some found) = found.1.cidr
cidr_in other None = other

-- a block that is found under its CIDR has it
pub found_cidr : (cidr : CidrValue) (said : Said) (revision : ℕ) (b : BlockValue) → CanBeSaid (Get (key.Block cidr)) said
    → block_said said ≡ Some (revision, b) → b.cidr ≡ cidr
found_cidr cidr (Found at (record_of.Block found)) revision b can is =
    ap (λ (o : Option (ℕ × BlockValue)). cidr_in found.cidr o) (sym is)
    ∙ ap (cidr_or cidr)
    (same-keys_equal (key.Block found.cidr) (key.Block cidr)
    (passes (λ row. keys_equal (row_key row) (key.Block cidr)) can.store.rows (at, record_of.Block found)
    (told_row (row_of (key.Block cidr) can.store.rows) at (record_of.Block found) can.is_reply)))
found_cidr cidr (Found at (record_of.Config config)) revision b can is = absurd (cc is)
found_cidr cidr (Found at (record_of.Pools pools)) revision b can is = absurd (cc is)
found_cidr cidr (Found at (record_of.Reservations reservations)) revision b can is = absurd (cc is)
found_cidr cidr (Found at (record_of.Affinity affinity)) revision b can is = absurd (cc is)
found_cidr cidr (Found at (record_of.Handle handle)) revision b can is = absurd (cc is)
found_cidr cidr Missing revision b can is = absurd (cc is)
found_cidr cidr (Listed rows) revision b can is = absurd (cc is)
found_cidr cidr (Can at) revision b can is = absurd (cc is)
found_cidr cidr (Exists at) revision b can is = absurd (cc is)
found_cidr cidr (Conflict at) revision b can is = absurd (cc is)
found_cidr cidr Full revision b can is = absurd (cc is)
found_cidr cidr Spent revision b can is = absurd (cc is)

none_passes : {X : Type 0} (test : X → Bool) (xs : List X) → find test xs ≡ None → list_any test xs ≡ false
none_passes test [] none = refl
none_passes test (x ∷ xs) none =
    elim (test x) as (λ b. cond b (Some x) (find test xs) ≡ None → (b || list_any test xs) ≡ false) [
      | true ↦ λ e. absurd (cc e)
      | false ↦ λ e. none_passes test xs e
    ] none

-- an ordinal without a holder is free
pub not_held : (b : BlockValue) (ordinal : ℕ) → holder b ordinal ≡ None → is_held b ordinal ≡ false
not_held b ordinal none = none_passes (λ a. a.ordinal == ordinal) b.allocations none

map_none : {A B : Type 0} (f : A → B) (o : Option A) → None ≡ option_map f o → o ≡ None
map_none f None is = refl
map_none f (Some a) is = absurd (cc is)

pub free_at : (b : BlockValue) (ordinal other : ℕ) → None ≡ option_map holding (holder b ordinal) → ordinal ≡ other
    → is_held b other ≡ false
free_at b ordinal other none same =
    subst (λ o. is_held b o ≡ false) same (not_held b ordinal (map_none holding (holder b ordinal) none))
