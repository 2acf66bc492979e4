-- Which rows are too many, and which revisions are none.
use Rattle.std.proofs.Common.{◌≡◌, ◌≢◌, ◌⊎◌, ℕ, zero, suc, ◌<◌, inl, inr, Bool, true, false, cond, List, [], ◌∷◌, Option, Some, None, Result, Ok, Err, refl, sym, ap, ◌∙◌, subst, arith, ltb-true, eqb-true, eq-eqb, option_map}
use Rattle.std.specs.Prelude.{Contains, ◌||◌, ◌==◌, nat_lt, slice_get, codes}
use Rattle.std.specs.declared.cmp.Ordering.TheVariants.{Greater}
use Rattle.std.specs.Cmp.Lexicographic.{slice_cmp}
use Rattle.std.specs.List.{filter, find}
use Rattle.std.specs.Ordering.{nat_cmp}
use Rattle.std.proofs.lemmas.Bool.{lt-ltb}
use Rattle.ipam_records.specs.declared.call.Row.{Row as RowText}
use Rattle.ipam_records.specs.declared.fault.TextFault.{TextFault}
use Rattle.ipam_records.specs.declared.fault.TextFault.TheVariants as fault
use Rattle.ipam_records.specs.declared.record.Record.{Record}
use Rattle.ipam_records.specs.declared.record.Record.TheVariants as record_of
use Rattle.ipam_records.specs.Datastore.{last_revision, most_blocks, most_rows}
use Rattle.ipam_records.specs.Key.{key_of}
use Rattle.ipam_records.specs.KeyText.{key_read}
use Rattle.ipam_model.specs.Opened.{Texts, AreByKey, Breaks, TooManyRows, TooManyBlocks, NoRevision, AboveCounter, AboveLast, CounterAboveLast, NoText, AnotherKey, NoTable, NoBlock, IsBrokenBlock, is_block_text, reading_of}
use Rattle.ipam_laws.proofs.Members.{in-here, in-there}
use Rattle.ipam_laws.proofs.OpenedRows.{key-is-read}
use Rattle.ipam_opening.specs.Earlier.{earlier}
use Rattle.ipam_opening.specs.Limits.{at_block, counter_above, is_block_read, left_behind, or_behind}
use Rattle.ipam_opening.specs.Rules.{breaks, is_no_revision}
use Rattle.ipam_opening.specs.Told.{IsClearBelow, IsFirstOf}
use Rattle.ipam_opening.specs.declared.rule.Rule.TheVariants as rule
use Rattle.ipam_laws.proofs.AllRead.{record-no_memory}
use Rattle.ipam_opening.proofs.Firsts.{IsKeyOf, first-earlier, first-found, first-same, itself-not}

-- ---- the key of one row, if there is one

abbrev pub KeyIn : Option RowText → List ℕ → Type 0
KeyIn o about = (row : RowText) × (o ≡ Some row) × (row.key ≡ about)

first-key : (o : Option RowText) → IsFirstOf (KeyIn o) (option_map (λ (row : RowText). row.key) o)
first-key None = λ about h. let e = h.1 in absurd (cc e)
first-key (Some row) = record {
  is = (row, refl, refl);
  first = λ about h.
      let e = h.1 in
      let same : row ≡ h.0 = cc e in
      subst (λ (t : List ℕ). slice_cmp nat_cmp row.key t ≢ Greater) (ap (λ (r : RowText). r.key) same ∙ h.2) (itself-not row.key);
}

-- ---- blocks

block-alike : (row : RowText) (found : Record) → reading_of row ≡ Ok found → is_block_text row ≡ is_block_read (reading_of row)
block-alike row found e = by found (key-is-read row found e) e
  where
    by : (r : Record) → key_read row.key ≡ Some (key_of r) → reading_of row ≡ Ok r → is_block_text row ≡ is_block_read (reading_of row)
    by (record_of.Block b) k f = simp k (sym (ap is_block_read f))
    by (record_of.Config config) k f = simp k (sym (ap is_block_read f))
    by (record_of.Pools pools) k f = simp k (sym (ap is_block_read f))
    by (record_of.Reservations reservations) k f = simp k (sym (ap is_block_read f))
    by (record_of.Affinity a) k f = simp k (sym (ap is_block_read f))
    by (record_of.Handle handle) k f = simp k (sym (ap is_block_read f))

at-block : (rows : List RowText) (left : ℕ) → ((row : RowText) → Contains rows row → is_block_text row ≡ is_block_read (reading_of row)) → at_block rows left ≡ slice_get (filter is_block_text rows) left
at-block [] left alike = refl
at-block (row ∷ rows) left alike = by (is_block_read (reading_of row)) (alike row (in-here row rows)) left (λ n. at-block rows n (λ r there. alike r (in-there r row rows there)))
  where
    cut : (b : Bool) (n : ℕ) → ((m : ℕ) → at_block rows m ≡ slice_get (filter is_block_text rows) m) → or_behind row (at_block rows) (left_behind b n) ≡ slice_get (cond b (row ∷ filter is_block_text rows) (filter is_block_text rows)) n
    cut true zero rest = refl
    cut true (suc n) rest = rest n
    cut false n rest = rest n

    by : (b : Bool) → is_block_text row ≡ b → (n : ℕ) → ((m : ℕ) → at_block rows m ≡ slice_get (filter is_block_text rows) m) → or_behind row (at_block rows) (left_behind b n) ≡ slice_get (filter is_block_text (row ∷ rows)) n
    by b e n rest = cut b n rest ∙ ap (λ c. slice_get (cond c (row ∷ filter is_block_text rows) (filter is_block_text rows)) n) (sym e)

-- where nothing breaks the first rules, each row can be read
read-each : (texts : Texts) → IsClearBelow texts 9 → (row : RowText) → Contains texts.rows row → (found : Record) × (reading_of row ≡ Ok found)
read-each texts below row among = from (reading_of row) refl
  where
    from : (r : Result Record TextFault) → reading_of row ≡ r → (found : Record) × (reading_of row ≡ Ok found)
    from (Ok found) e = (found, e)
    from (Err fault.Form) e = absurd (below.clear 1 row.key (omega arith) (NoText row among e))
    from (Err fault.Key) e = absurd (below.clear 2 row.key (omega arith) (AnotherKey row among e))
    from (Err fault.Table) e = absurd (below.clear 3 row.key (omega arith) (NoTable row among e))
    from (Err fault.Unsound) e = absurd (below.clear 5 row.key (omega arith) (NoBlock row among (subst (λ (r : Result Record TextFault). IsBrokenBlock row.revision r) (sym e) refl)))
    from (Err fault.Memory) e = absurd (record-no_memory row.key row.body e)

module _ (texts : Texts) where
  pub first-limits : IsClearBelow texts 9 → IsFirstOf (Breaks texts 9) (earlier (option_map (λ (row : RowText). row.key) (slice_get texts.rows most_rows)) (option_map (λ (row : RowText). row.key) (at_block texts.rows most_blocks)))
  first-limits below =
      first-same (λ t. KeyIn (slice_get texts.rows most_rows) t ⊎ KeyIn (at_block texts.rows most_blocks) t) (Breaks texts 9)
      (λ t both. elim both [
        | inl one ↦ subst (Breaks texts 9) one.2 (TooManyRows one.0 one.1)
        | inr one ↦ subst (Breaks texts 9) one.2 (TooManyBlocks one.0 (sym same ∙ one.1))
      ])
      back (earlier (option_map (λ (row : RowText). row.key) (slice_get texts.rows most_rows)) (option_map (λ (row : RowText). row.key) (at_block texts.rows most_blocks)))
      (first-earlier (KeyIn (slice_get texts.rows most_rows)) (KeyIn (at_block texts.rows most_blocks)) (option_map (λ (row : RowText). row.key) (slice_get texts.rows most_rows)) (option_map (λ (row : RowText). row.key) (at_block texts.rows most_blocks))
      (first-key (slice_get texts.rows most_rows)) (first-key (at_block texts.rows most_blocks)))
    where
      same : at_block texts.rows most_blocks ≡ slice_get (filter is_block_text texts.rows) most_blocks
      same = at-block texts.rows most_blocks (λ row there. let (found, e) = read-each texts below row there in block-alike row found e)

      back : (t : List ℕ) → Breaks texts 9 t → KeyIn (slice_get texts.rows most_rows) t ⊎ KeyIn (at_block texts.rows most_blocks) t
      back t (TooManyRows row e) = inl (row, e, refl)
      back t (TooManyBlocks row e) = inr (row, same ∙ e, refl)

-- ---- revisions

either-true : (a b c : Bool) → a || (b || c) ≡ true → (a ≡ true) ⊎ ((b ≡ true) ⊎ (c ≡ true))
either-true true b c e = inl refl
either-true false true c e = inr (inl refl)
either-true false false c e = inr (inr e)

or-second : (a b : Bool) → b ≡ true → a || b ≡ true
or-second true b e = refl
or-second false b e = e

or-first : (a b : Bool) → a ≡ true → a || b ≡ true
or-first true b e = refl
or-first false b e = absurd (cc e)

first-above : (counter : ℕ) → IsFirstOf (λ about. (last_revision < counter) × (codes "counter" ≡ about)) (counter_above counter)
first-above counter = by (nat_lt last_revision counter) refl
  where
    by : (b : Bool) → nat_lt last_revision counter ≡ b → IsFirstOf (λ about. (last_revision < counter) × (codes "counter" ≡ about)) (cond b (Some (codes "counter")) None)
    by true e = record {
      is = (ltb-true last_revision counter e, refl);
      first = λ about h. subst (λ (t : List ℕ). slice_cmp nat_cmp (codes "counter") t ≢ Greater) h.1 (itself-not (codes "counter"));
    }
    by false e = λ about h. let above = lt-ltb last_revision counter h.0 in cc (above, e)

module _ (texts : Texts) (by_key : AreByKey texts.rows) where
  row-breaks : (row : RowText) → Contains texts.rows row → is_no_revision texts.counter row.revision ≡ true → Breaks texts 10 row.key
  row-breaks row among e = elim (either-true (row.revision == 0) (nat_lt texts.counter row.revision) (nat_lt last_revision row.revision) e) [
    | inl none ↦ NoRevision row among (eqb-true row.revision 0 none)
    | inr above ↦ elim above [
      | inl counter ↦ AboveCounter row among (ltb-true _ _ counter)
      | inr last ↦ AboveLast row among (ltb-true _ _ last)
    ]
  ]

  pub first-revision : IsFirstOf (Breaks texts 10) (earlier (option_map (λ (row : RowText). row.key) (find (breaks rule.Revision texts) texts.rows)) (counter_above texts.counter))
  first-revision =
      first-same (λ t. IsKeyOf texts.rows (breaks rule.Revision texts) t ⊎ ((last_revision < texts.counter) × (codes "counter" ≡ t))) (Breaks texts 10)
      (λ t both. elim both [
        | inl h ↦ subst (Breaks texts 10) h.own (row-breaks h.row h.among h.failed)
        | inr above ↦ subst (Breaks texts 10) above.1 (CounterAboveLast above.0)
      ])
      back (earlier (option_map (λ (row : RowText). row.key) (find (breaks rule.Revision texts) texts.rows)) (counter_above texts.counter))
      (first-earlier (IsKeyOf texts.rows (breaks rule.Revision texts)) (λ t. (last_revision < texts.counter) × (codes "counter" ≡ t)) (option_map (λ (row : RowText). row.key) (find (breaks rule.Revision texts) texts.rows)) (counter_above texts.counter)
      (first-found (breaks rule.Revision texts) texts.rows by_key) (first-above texts.counter))
    where
      back : (t : List ℕ) → Breaks texts 10 t → IsKeyOf texts.rows (breaks rule.Revision texts) t ⊎ ((last_revision < texts.counter) × (codes "counter" ≡ t))
      back t (NoRevision row among none) = inl (record { row = row; among = among; own = refl; failed = or-first (row.revision == 0) (nat_lt texts.counter row.revision || nat_lt last_revision row.revision) (eq-eqb row.revision 0 none) })
      back t (AboveCounter row among above) = inl (record { row = row; among = among; own = refl; failed = or-second (row.revision == 0) (nat_lt texts.counter row.revision || nat_lt last_revision row.revision) (or-first (nat_lt texts.counter row.revision) (nat_lt last_revision row.revision) (lt-ltb _ _ above)) })
      back t (AboveLast row among above) = inl (record { row = row; among = among; own = refl; failed = or-second (row.revision == 0) (nat_lt texts.counter row.revision || nat_lt last_revision row.revision) (or-second (nat_lt texts.counter row.revision) (nat_lt last_revision row.revision) (lt-ltb _ _ above)) })
      back t (CounterAboveLast above) = inr (above, refl)
