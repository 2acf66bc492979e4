-- Lists of entries: which are of a slot, what runs after them, and how many are calls.
use Rattle.std.proofs.Common.{◌≡◌, ◌≢◌, ℕ, zero, suc, ◌+◌, Bool, true, false, cond, List, [], ◌∷◌, ◌++◌, Option, Some, None, refl, sym, ap, ◌∙◌, eqb-true, arith}
use Rattle.std.proofs.lemmas.Bool.{eqb-false}
use Rattle.std.specs.Prelude.{◌==◌, option_map}
use Rattle.turn_lock.specs.Histories.{AtMostOneBy, NoneBy}
use Rattle.ipam_io.specs.Counts.{next_count}
use Rattle.ipam_model.specs.declared.entry.Entry.{Entry}
use Rattle.ipam_model.specs.declared.entry.Entry.TheVariants as entry
use Rattle.ipam_model.specs.declared.request.Request.{Request}
use Rattle.ipam_model.specs.History.{slot_of_entry}
use Rattle.ipam_serve.specs.Gains.{asked_after, calls_in, counted, of_slot, unless_answered}

-- ---- of a slot

same-test : (a b : ℕ) → a ≡ b → (a == b) ≡ true
same-test a b e = from (a == b) refl
  where
    from : (t : Bool) → (a == b) ≡ t → (a == b) ≡ true
    from true f = f
    from false f = absurd (eqb-false a b f e)

other-test : (a b : ℕ) → a ≢ b → (a == b) ≡ false
other-test a b differ = from (a == b) refl
  where
    from : (t : Bool) → (a == b) ≡ t → (a == b) ≡ false
    from true f = absurd (differ (eqb-true a b f))
    from false f = f

pub of_slot-own : (slot : ℕ) (new : Entry) (history : List Entry) → slot_of_entry new ≡ slot → of_slot slot (new ∷ history) ≡ new ∷ of_slot slot history
unfolding of_slot
of_slot-own slot new history own = ap (λ b. cond b (new ∷ of_slot slot history) (of_slot slot history)) (same-test (slot_of_entry new) slot own)

of_slot-other : (slot : ℕ) (new : Entry) (history : List Entry) → slot_of_entry new ≢ slot → of_slot slot (new ∷ history) ≡ of_slot slot history
unfolding of_slot
of_slot-other slot new history other = ap (λ b. cond b (new ∷ of_slot slot history) (of_slot slot history)) (other-test (slot_of_entry new) slot other)

pub of_slot-none : (slot : ℕ) (history : List Entry) → NoneBy slot_of_entry slot history → of_slot slot history ≡ []
unfolding of_slot
of_slot-none slot [] none = refl
of_slot-none slot (new ∷ history) none = of_slot-other slot new history none.0 ∙ of_slot-none slot history none.1

pub of_slot-append : (slot : ℕ) (later earlier : List Entry) → of_slot slot (later ++ earlier) ≡ of_slot slot later ++ of_slot slot earlier
unfolding of_slot
of_slot-append slot [] earlier = refl
of_slot-append slot (new ∷ later) earlier = from (slot_of_entry new == slot) (of_slot-append slot later earlier)
  where
    from : (b : Bool) → of_slot slot (later ++ earlier) ≡ of_slot slot later ++ of_slot slot earlier
        → cond b (new ∷ of_slot slot (later ++ earlier)) (of_slot slot (later ++ earlier)) ≡ cond b (new ∷ of_slot slot later) (of_slot slot later) ++ of_slot slot earlier
    from true e = ap (λ l. new ∷ l) e
    from false e = e

pub of_slot-told : (slot : ℕ) (told between : List Entry) → AtMostOneBy slot_of_entry slot told → NoneBy slot_of_entry slot between → of_slot slot (told ++ between) ≡ told
of_slot-told slot [] between own none = of_slot-none slot between none
of_slot-told slot (new ∷ []) between own none = of_slot-own slot new between own ∙ ap (λ l. new ∷ l) (of_slot-none slot between none)
of_slot-told slot (new ∷ other ∷ more) between own none = absurd own

-- ---- what runs after them

pub asked_after-append : (asked : Option Request) (later earlier : List Entry) → asked_after asked (later ++ earlier) ≡ asked_after (asked_after asked earlier) later
unfolding asked_after
asked_after-append asked [] earlier = refl
asked_after-append asked (entry.Began slot request ∷ later) earlier = refl
asked_after-append asked (entry.Fed slot at live ∷ later) earlier = asked_after-append asked later earlier
asked_after-append asked (entry.Called c ∷ later) earlier = ap (unless_answered c.answer) (asked_after-append asked later earlier)
asked_after-append asked (entry.Stopped slot ∷ later) earlier = refl

-- ---- calls

pub calls_in-append : (later earlier : List Entry) → calls_in (later ++ earlier) ≡ calls_in later + calls_in earlier
unfolding calls_in
calls_in-append [] earlier = omega arith
calls_in-append (entry.Began slot request ∷ later) earlier = calls_in-append later earlier
calls_in-append (entry.Fed slot at live ∷ later) earlier = calls_in-append later earlier
calls_in-append (entry.Called c ∷ later) earlier = let e = calls_in-append later earlier in omega (arith, e)
calls_in-append (entry.Stopped slot ∷ later) earlier = calls_in-append later earlier

pub counted-add : (m n count : ℕ) → counted (m + n) count ≡ counted m (counted n count)
unfolding counted
counted-add zero n count = let e : zero + n ≡ n = omega arith in ap (λ k. counted k count) e
counted-add (suc m) n count =
    let e : suc m + n ≡ suc (m + n) = omega arith in
    ap (λ k. counted k count) e ∙ ap next_count (counted-add m n count)

pub mapped-add : (m n : ℕ) (o : Option ℕ) → option_map (counted m) (option_map (counted n) o) ≡ option_map (counted (m + n)) o
mapped-add m n None = refl
mapped-add m n (Some count) = ap Some (sym (counted-add m n count))
