-- Each call that a slot gained, turn by turn.
use Rattle.std.proofs.Common.{◌≡◌, ◌≤◌, ℕ, suc, Bool, true, false, cond, List, [], ◌∷◌, ◌++◌, length, refl, sym, ap, ◌∙◌, subst, append_assoc, arith}
use Rattle.std.specs.Prelude.{◌==◌}
use Rattle.turn_lock.specs.Histories.{NoneBy}
use Rattle.ipam_model.specs.declared.entry.Called.{Called as OneCall}
use Rattle.ipam_model.specs.declared.entry.Entry.{Entry}
use Rattle.ipam_model.specs.declared.entry.Entry.TheVariants as entry
use Rattle.ipam_model.specs.History.{Base, slot_of_entry}
use Rattle.ipam_shared.specs.PassValue.{PassValue}
use Rattle.ipam_shared.specs.Passes.{IsSamePass}
use Rattle.ipam_serve.specs.Calls.{AreSo, EachCall, IsSoIfCall, OfCall}
use Rattle.ipam_serve.specs.Gains.{Gained, calls_in, of_slot}
use Rattle.ipam_serve.proofs.Entries.{of_slot-own}
use Rattle.ipam_serve.proofs.Turning.{took-nothing}

-- ---- entries that are no calls

quiet-tail : (told : Entry) (rest : List Entry) → calls_in (told ∷ rest) ≡ 0 → calls_in rest ≡ 0
unfolding calls_in
quiet-tail (entry.Began slot request) rest e = e
quiet-tail (entry.Fed slot at live) rest e = e
quiet-tail (entry.Called c) rest e = absurd (omega (arith, e))
quiet-tail (entry.Stopped slot) rest e = e

quiet-rest : (slot : ℕ) (told : Entry) (more : List Entry) → calls_in (of_slot slot (told ∷ more)) ≡ 0 → calls_in (of_slot slot more) ≡ 0
unfolding of_slot
quiet-rest slot told more = from (slot_of_entry told == slot)
  where
    from : (b : Bool) → calls_in (cond b (told ∷ of_slot slot more) (of_slot slot more)) ≡ 0 → calls_in (of_slot slot more) ≡ 0
    from true e = quiet-tail told (of_slot slot more) e
    from false e = e

module _ (is_so : OfCall) where
  quiet-entry : (base : Base) (slot : ℕ) (told : Entry) (more earlier : List Entry) → calls_in (of_slot slot (told ∷ more)) ≡ 0 → slot_of_entry told ≡ slot → IsSoIfCall is_so base slot told earlier
  unfolding calls_in
  quiet-entry base slot (entry.Began other request) more earlier e own = tt
  quiet-entry base slot (entry.Fed other at live) more earlier e own = tt
  quiet-entry base slot (entry.Called c) more earlier e own =
      let is = subst (λ l. calls_in l ≡ 0) (of_slot-own slot (entry.Called c) more own) e in absurd (omega (arith, is))
  quiet-entry base slot (entry.Stopped other) more earlier e own = tt

  quiet-so : (base : Base) (slot : ℕ) (more earlier : List Entry) → calls_in (of_slot slot more) ≡ 0 → AreSo is_so base slot more earlier
  quiet-so base slot [] earlier e = tt
  quiet-so base slot (told ∷ more) earlier e =
      (quiet-so base slot more earlier (quiet-rest slot told more e), λ own. quiet-entry base slot told more (more ++ earlier) e own)

  -- entries of which none is a call
  pub each-quiet : (old new : PassValue) (entries : List Entry) → IsSamePass old new → Gained old.slot old.seen entries new.seen → calls_in entries ≡ 0 → EachCall is_so old new
  each-quiet old new entries same gained none = record {
    same = same;
    more = gained.more;
    grew = gained.grew;
    are = quiet-so old.base old.slot gained.more old.seen (subst (λ l. calls_in l ≡ 0) (sym gained.own) none);
  }

  pub each-nothing : (pass : PassValue) → EachCall is_so pass pass
  unfolding calls_in
  each-nothing pass = each-quiet pass pass [] refl (took-nothing pass).gained refl

  -- ---- entries of others

  pub none-so : (base : Base) (slot : ℕ) (others earlier : List Entry) → NoneBy slot_of_entry slot others → AreSo is_so base slot others earlier
  none-so base slot [] earlier none = tt
  none-so base slot (told ∷ others) earlier none = (none-so base slot others earlier none.1, λ own. absurd (none.0 own))

  -- ---- turns one after another

  so-append : (base : Base) (slot : ℕ) (later earlier first : List Entry) → AreSo is_so base slot later (earlier ++ first) → AreSo is_so base slot earlier first → AreSo is_so base slot (later ++ earlier) first
  so-append base slot [] earlier first a b = b
  so-append base slot (told ∷ later) earlier first a b = (
    so-append base slot later earlier first a.0 b,
    λ own. subst (λ (h : List Entry). IsSoIfCall is_so base slot told h) (sym (append_assoc later earlier first)) (a.1 own),
  )

  pub each-then : (one two three : PassValue) → EachCall is_so one two → EachCall is_so two three → EachCall is_so one three
  each-then one two three a b = record {
    same = b.same ∙ ap (λ (p : PassValue). record p { left = three.left; seen = three.seen; moment = three.moment; sure = three.sure }) a.same;
    more = b.more ++ a.more;
    grew = b.grew ∙ ap (λ s. b.more ++ s) a.grew ∙ sym (append_assoc b.more a.more one.seen);
    are = so-append one.base one.slot b.more a.more one.seen later a.are;
  }
    where
      later : AreSo is_so one.base one.slot b.more (a.more ++ one.seen)
      later =
          subst (λ (s : List Entry). AreSo is_so one.base one.slot b.more s) a.grew
          (subst (λ (n : ℕ). AreSo is_so one.base n b.more two.seen) (ap (λ (p : PassValue). p.slot) a.same)
          (subst (λ (base : Base). AreSo is_so base two.slot b.more two.seen) (ap (λ (p : PassValue). p.base) a.same) b.are))

  -- ---- one entry of the slot, or none

  fewer-behind : (told : Entry) (rest : List Entry) → length (told ∷ rest) ≤ 1 → length rest ≤ 1
  fewer-behind told [] few = omega arith
  fewer-behind told (other ∷ rest) few = absurd (omega arith)

  fewer : (slot : ℕ) (told : Entry) (more : List Entry) → length (of_slot slot (told ∷ more)) ≤ 1 → length (of_slot slot more) ≤ 1
  unfolding of_slot
  fewer slot told more = from (slot_of_entry told == slot)
    where
      from : (b : Bool) → length (cond b (told ∷ of_slot slot more) (of_slot slot more)) ≤ 1 → length (of_slot slot more) ≤ 1
      from true few = fewer-behind told (of_slot slot more) few
      from false few = few

  none-behind : (told : Entry) (rest : List Entry) → length (told ∷ rest) ≤ 1 → rest ≡ []
  none-behind told [] few = refl
  none-behind told (other ∷ rest) few = absurd (omega arith)

  alone : (slot : ℕ) (told : Entry) (more : List Entry) → length (of_slot slot (told ∷ more)) ≤ 1 → slot_of_entry told ≡ slot → of_slot slot more ≡ []
  alone slot told more few own = none-behind told (of_slot slot more) (subst (λ (l : List Entry). length l ≤ 1) (of_slot-own slot told more own) few)

  if-call : (base : Base) (slot : ℕ) (told : Entry) (earlier : List Entry) → ((c : OneCall) → is_so base slot c earlier) → IsSoIfCall is_so base slot told earlier
  if-call base slot (entry.Began other request) earlier so = tt
  if-call base slot (entry.Fed other at live) earlier so = tt
  if-call base slot (entry.Called c) earlier so = so c
  if-call base slot (entry.Stopped other) earlier so = tt

  single-so : (base : Base) (slot : ℕ) (more earlier : List Entry) → length (of_slot slot more) ≤ 1
      → ((c : OneCall) (between : List Entry) → of_slot slot between ≡ [] → is_so base slot c (between ++ earlier)) → AreSo is_so base slot more earlier
  single-so base slot [] earlier few so = tt
  single-so base slot (told ∷ more) earlier few so = (
    single-so base slot more earlier (fewer slot told more few) so,
    λ own. if-call base slot told (more ++ earlier) (λ c. so c more (alone slot told more few own)),
  )

  -- it is so of a call before which the slot gained nothing
  pub each-single : (old new : PassValue) (entries : List Entry) → IsSamePass old new → Gained old.slot old.seen entries new.seen → length entries ≤ 1
      → ((c : OneCall) (between : List Entry) → of_slot old.slot between ≡ [] → is_so old.base old.slot c (between ++ old.seen)) → EachCall is_so old new
  each-single old new entries same gained few so = record {
    same = same;
    more = gained.more;
    grew = gained.grew;
    are = single-so old.base old.slot gained.more old.seen (subst (λ (l : List Entry). length l ≤ 1) (sym gained.own) few) so;
  }
