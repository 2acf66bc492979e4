-- What is known of a record that a procedure is told of.
use Rattle.std.proofs.Common.{◌≡◌, ℕ, zero, suc, List, [], ◌∷◌, Option, Some, None, All, refl, ap, ◌∙◌, sym, subst, arith, inl, inr}
use Rattle.std.proofs.lemmas.Bool.{cases_Bool}
use Rattle.ipam_records.specs.declared.key.Key.{Key}
use Rattle.ipam_records.specs.declared.record.Record.{Record}
use Rattle.ipam_records.specs.declared.call.Call.TheVariants.{Get}
use Rattle.ipam_records.specs.Key.{key_of}
use Rattle.ipam_records.specs.KeyOrder.{keys_equal}
use Rattle.ipam_records.specs.Said.{Found}
use Rattle.ipam_records.specs.Datastore.{row_key, row_of, reply_to_get}
use Rattle.ipam_records.specs.Sound.{IsRow}
use Rattle.ipam_records.specs.Hearing.{CanBeSaid}
use Rattle.ipam_records.proofs.DatastoreLemmas.{row_key-row_of}

-- what holds of each row holds of the one that is found
pub All-row_of : (P : ℕ × Record → Type 0) (key : Key) (rows : List (ℕ × Record)) (row : ℕ × Record) → All P rows → row_of key rows ≡ Some row → P row
All-row_of P key [] row h e = cc
All-row_of P key (first ∷ rest) row h e = elim (cases_Bool (keys_equal (row_key first) key)) [
  | inl same ↦
      let k = rw same at e in
      let is : first ≡ row = cc in
      subst P is (h zero first (omega arith))
  | inr differ ↦
      let k = rw differ at e in
      All-row_of P key rest row (λ n d within. h (suc n) d (omega arith)) k
]

-- a record that is found is sound and has the key, and its revision is one that was given
pub CanBeSaid-found : (key : Key) (revision : ℕ) (found : Record) (h : CanBeSaid (Get key) (Found revision found)) → IsRow h.store.counter (revision, found) × (key_of found ≡ key)
CanBeSaid-found key revision found h = from (row_of key h.store.rows) refl h.is_reply
  where
    from : (o : Option (ℕ × Record)) → row_of key h.store.rows ≡ o → reply_to_get o ≡ Found revision found → IsRow h.store.counter (revision, found) × (key_of found ≡ key)
    from None e said = cc
    from (Some row) e said =
        let revisions : row.0 ≡ revision = cc in
        let records : row.1 ≡ found = cc in
        let same : row ≡ (revision, found) = λ i. (revisions i, records i) in (
          subst (λ (r : ℕ × Record). IsRow h.store.counter r) same (All-row_of (λ r. IsRow h.store.counter r) key h.store.rows row h.sound.rows e),
          ap key_of (sym records) ∙ row_key-row_of key h.store.rows row e,
        )
