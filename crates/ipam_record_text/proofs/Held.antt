-- What is read of a body is what it holds.
use Rattle.std.proofs.Common.{◌≡◌, ℕ, List, Option, Some, None, Result, Ok, Err, IfOk, ◌≢◌, refl, sym, ap, ◌∙◌}
use Rattle.std.specs.Option.{ok_or}
use Rattle.serde_json.specs.Data.{Data}
use Rattle.ipam_json.specs.Held.{held}
use Rattle.ipam_record_text.specs.declared.fault.BodyFault.{BodyFault}
use Rattle.ipam_record_text.specs.declared.fault.BodyFault.TheVariants.{Form, Table, Memory}

-- what is read is what is held
pub reading-held : {A : Type 0} (o : Option A) (v : A) → ok_or o Form ≡ Ok v → o ≡ Some v
reading-held (Some w) v e = cc
reading-held None v e = cc

-- a body in which nothing is held is no value's text that holds it
pub unheld-text : {A : Type 0} (found : Data → Option A) (text : A → List ℕ) (body : List ℕ) → held found text body ≡ None → (v : A) → held found text (text v) ≡ Some v → body ≢ text v
unheld-text {A} found text body none v back same =
    let k : ◌≡◌ {A = Option A} None (Some v) = sym none ∙ ap (held found text) same ∙ back in
    cc

-- what a reader tells of a body is what is read of it, but for want of memory
pub reading-told : {A : Type 0} (found : Data → Option A) (text : A → List ℕ) (IsSound : A → Type 0) → ((body : List ℕ) (v : A) → held found text body ≡ Some v → IsSound v × (body ≡ text v)) → ((v : A) → IsSound v → held found text (text v) ≡ Some v) → (body : List ℕ) (r : Result A BodyFault) → IfOk r (λ v. IsSound v × (body ≡ text v)) → (r ≡ Err Form → (v : A) → IsSound v → body ≢ text v) → r ≢ Err Table → r ≢ Err Memory → ok_or (held found text body) Form ≡ r
reading-told {A} found text IsSound was back body (Ok v) told form no_table no_memory =
    ap (λ o. ok_or o Form) (ap (held found text) told.1 ∙ back v told.0)
reading-told {A} found text IsSound was back body (Err Form) told form no_table no_memory =
    go (held found text body) refl
  where
    go : (o : Option A) → held found text body ≡ o → ok_or o Form ≡ Err Form
    go None is = refl
    go (Some v) is = let here = was body v is in absurd (form refl v here.0 here.1)
reading-told {A} found text IsSound was back body (Err Table) told form no_table no_memory = absurd (no_table refl)
reading-told {A} found text IsSound was back body (Err Memory) told form no_table no_memory = absurd (no_memory refl)
