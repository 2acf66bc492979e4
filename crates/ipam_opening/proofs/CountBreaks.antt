-- Which handles count too few addresses.
use Rattle.std.proofs.Common.{◌≡◌, ◌≢◌, ◌⊎◌, ℕ, ◌<◌, inl, inr, Bool, true, false, cond, List, [], ◌∷◌, map, Option, Some, None, Result, Ok, Err, refl, sym, ap, ◌∙◌, subst, arith, ltb-true, option_map}
use Rattle.std.specs.Prelude.{Contains, nat_lt}
use Rattle.std.specs.List.{count_by}
use Rattle.std.specs.declared.cmp.Ordering.TheVariants.{Greater}
use Rattle.std.specs.Cmp.Lexicographic.{slice_cmp}
use Rattle.std.specs.Ordering.{nat_cmp}
use Rattle.std.proofs.lemmas.Bool.{lt-ltb}
use Rattle.std.proofs.lemmas.Slice.Eq.{bytes_eq-Decides}
use Rattle.ipam_addr.specs.Shape.{CidrValue}
use Rattle.ipam_block.specs.declared.allocation.Allocation.{Allocation}
use Rattle.ipam_block.specs.Operations.{is_owned}
use Rattle.ipam_block.specs.Shape.{BlockValue}
use Rattle.ipam_records.specs.declared.fault.TextFault.{TextFault}
use Rattle.ipam_records.specs.declared.key.Key.TheVariants as key
use Rattle.ipam_records.specs.declared.record.Record.{Record}
use Rattle.ipam_records.specs.declared.record.Record.TheVariants as record_of
use Rattle.ipam_records.specs.Datastore.{row_of}
use Rattle.ipam_records.specs.KeyText.{key_bytes}
use Rattle.ipam_records.proofs.DatastoreLemmas.{row_key-row_of}
use Rattle.ipam_records.proofs.RowKinds.{each-kind}
use Rattle.ipam_model.specs.CountLaw.{count_in_row, handle_count, held_count, held_in_row}
use Rattle.ipam_model.specs.Opened.{Texts, AreByKey, Breaks, CountTooLow, read_store, readable, reading_of}
use Rattle.ipam_model.specs.Reads.{StoredRecord}
use Rattle.ipam_laws.proofs.FirstFault.{owned-member}
use Rattle.ipam_laws.proofs.Members.{in-cons, in-here, in-there, in-nothing, in-map, out-map}
use Rattle.ipam_laws.proofs.OpenedRows.{out-readable}
use Rattle.ipam_laws.proofs.RowOrder.{found-member}
use Rattle.ipam_opening.specs.Counts.{count_found, first_short, is_short, with_short, with_shorts, with_shorts_in}
use Rattle.ipam_opening.specs.Earlier.{earlier}
use Rattle.ipam_opening.specs.Rules.{found_in}
use Rattle.ipam_opening.specs.Told.{IsFirst, IsFirstOf}
use Rattle.ipam_opening.proofs.Firsts.{first-earlier, first-same, itself-not}
use Rattle.ipam_opening.proofs.Found.{found-own}

-- ---- the first of the keys

-- the key of a handle of these allocations that is short
pub record IsShortOf (rows : List StoredRecord) (b : BlockValue) (allocations : List Allocation) (about : List ℕ) : Type 0 where
  pub allocation : Allocation
  pub among : Contains allocations allocation
  pub short : is_short rows b allocation.attributes.handle ≡ true
  pub own : key_bytes (key.Handle allocation.attributes.handle) ≡ about

-- the same of the blocks that were read
pub record IsShortIn (rows : List StoredRecord) (readings : List (Result Record TextFault)) (about : List ℕ) : Type 0 where
  pub block : BlockValue
  pub there : Contains readings (Ok (record_of.Block block))
  pub of_block : IsShortOf rows block block.allocations about

alone : (P : List ℕ → Type 0) (text : List ℕ) (o : Option (List ℕ)) → IsFirstOf P o → IsFirstOf (λ t. P t ⊎ (text ≡ t)) (earlier o (Some text))
alone P text o h = first-earlier P (λ t. text ≡ t) o (Some text) h own
  where
    own : IsFirst (λ t. text ≡ t) text
    own = record { is = refl; first = λ t e. subst (λ (z : List ℕ). slice_cmp nat_cmp text z ≢ Greater) e (itself-not text) }

module _ (rows : List StoredRecord) (b : BlockValue) where
  one-first : (P : List ℕ → Type 0) (a : Allocation) (o : Option (List ℕ)) → IsFirstOf P o
      → IsFirstOf (λ t. P t ⊎ ((is_short rows b a.attributes.handle ≡ true) × (key_bytes (key.Handle a.attributes.handle) ≡ t))) (with_short rows b a.attributes.handle o)
  one-first P a o h = by (is_short rows b a.attributes.handle) refl
    where
      by : (s : Bool) → is_short rows b a.attributes.handle ≡ s → IsFirstOf (λ t. P t ⊎ ((is_short rows b a.attributes.handle ≡ true) × (key_bytes (key.Handle a.attributes.handle) ≡ t))) (cond s (earlier o (Some (key_bytes (key.Handle a.attributes.handle)))) o)
      by true e = first-same (λ t. P t ⊎ (key_bytes (key.Handle a.attributes.handle) ≡ t)) (λ t. P t ⊎ ((is_short rows b a.attributes.handle ≡ true) × (key_bytes (key.Handle a.attributes.handle) ≡ t)))
          (λ t both. elim both [ inl p ↦ inl p | inr is ↦ inr (e, is) ]) (λ t both. elim both [ inl p ↦ inl p | inr is ↦ inr is.1 ])
          (earlier o (Some (key_bytes (key.Handle a.attributes.handle)))) (alone P (key_bytes (key.Handle a.attributes.handle)) o h)
      by false e = first-same P (λ t. P t ⊎ ((is_short rows b a.attributes.handle ≡ true) × (key_bytes (key.Handle a.attributes.handle) ≡ t)))
          (λ t p. inl p) (λ t both. elim both [ inl p ↦ p | inr is ↦ let f = is.0 in absurd (cc (e, f)) ]) o h

  all-first : (P : List ℕ → Type 0) (allocations : List Allocation) (o : Option (List ℕ)) → IsFirstOf P o
      → IsFirstOf (λ t. P t ⊎ IsShortOf rows b allocations t) (with_shorts rows b o allocations)
  all-first P [] o h = first-same P (λ t. P t ⊎ IsShortOf rows b [] t) (λ t p. inl p) (λ t both. elim both [ inl p ↦ p | inr s ↦ absurd (in-nothing s.allocation s.among) ]) o h
  all-first P (a ∷ rest) o h =
      first-same (λ t. (P t ⊎ ((is_short rows b a.attributes.handle ≡ true) × (key_bytes (key.Handle a.attributes.handle) ≡ t))) ⊎ IsShortOf rows b rest t) (λ t. P t ⊎ IsShortOf rows b (a ∷ rest) t)
      (λ t both. elim both [
        | inl first ↦ elim first [ inl p ↦ inl p | inr is ↦ inr (record { allocation = a; among = in-here a rest; short = is.0; own = is.1 }) ]
        | inr s ↦ inr (record { allocation = s.allocation; among = in-there s.allocation a rest s.among; short = s.short; own = s.own })
      ])
      (λ t both. elim both [
        | inl p ↦ inl (inl p)
        | inr s ↦ back t s (in-cons s.allocation a rest s.among)
      ])
      (with_shorts rows b (with_short rows b a.attributes.handle o) rest)
      (all-first (λ t. P t ⊎ ((is_short rows b a.attributes.handle ≡ true) × (key_bytes (key.Handle a.attributes.handle) ≡ t))) rest (with_short rows b a.attributes.handle o) (one-first P a o h))
    where
      back : (t : List ℕ) (s : IsShortOf rows b (a ∷ rest) t) → (a ≡ s.allocation) ⊎ Contains rest s.allocation → (P t ⊎ ((is_short rows b a.attributes.handle ≡ true) × (key_bytes (key.Handle a.attributes.handle) ≡ t))) ⊎ IsShortOf rows b rest t
      back t s (inl is) = inl (inr (ap (λ (x : Allocation). is_short rows b x.attributes.handle) is ∙ s.short, ap (λ (x : Allocation). key_bytes (key.Handle x.attributes.handle)) is ∙ s.own))
      back t s (inr there) = inr (record { allocation = s.allocation; among = there; short = s.short; own = s.own })

module _ (rows : List StoredRecord) where
  of-reading : (P : List ℕ → Type 0) (o : Option (List ℕ)) (reading : Result Record TextFault) → IsFirstOf P o
      → IsFirstOf (λ t. P t ⊎ ((b : BlockValue) × (reading ≡ Ok (record_of.Block b)) × IsShortOf rows b b.allocations t)) (with_shorts_in rows o reading)
  of-reading P o reading h = by reading refl
    where
      none : ((b : BlockValue) → reading ≢ Ok (record_of.Block b)) → IsFirstOf (λ t. P t ⊎ ((b : BlockValue) × (reading ≡ Ok (record_of.Block b)) × IsShortOf rows b b.allocations t)) o
      none other = first-same P (λ t. P t ⊎ ((b : BlockValue) × (reading ≡ Ok (record_of.Block b)) × IsShortOf rows b b.allocations t)) (λ t p. inl p) (λ t both. elim both [ inl p ↦ p | inr s ↦ absurd (other s.0 s.1) ]) o h

      by : (r : Result Record TextFault) → reading ≡ r → IsFirstOf (λ t. P t ⊎ ((b : BlockValue) × (reading ≡ Ok (record_of.Block b)) × IsShortOf rows b b.allocations t)) (with_shorts_in rows o r)
      by (Ok (record_of.Block b)) e = first-same (λ t. P t ⊎ IsShortOf rows b b.allocations t) (λ t. P t ⊎ ((b : BlockValue) × (reading ≡ Ok (record_of.Block b)) × IsShortOf rows b b.allocations t))
          (λ t both. elim both [ inl p ↦ inl p | inr s ↦ inr (b, e, s) ])
          (λ t both. elim both [ inl p ↦ inl p | inr s ↦ let f = s.1 in let same : s.0 ≡ b = cc (e, f) in inr (subst (λ (x : BlockValue). IsShortOf rows x x.allocations t) same s.2) ])
          (with_shorts rows b o b.allocations) (all-first rows b P b.allocations o h)
      by (Ok (record_of.Config config)) e = none (λ b f. cc (e, f))
      by (Ok (record_of.Pools pools)) e = none (λ b f. cc (e, f))
      by (Ok (record_of.Reservations reservations)) e = none (λ b f. cc (e, f))
      by (Ok (record_of.Affinity a)) e = none (λ b f. cc (e, f))
      by (Ok (record_of.Handle handle)) e = none (λ b f. cc (e, f))
      by (Err broken) e = none (λ b f. cc (e, f))

  of-readings : (P : List ℕ → Type 0) (o : Option (List ℕ)) (readings : List (Result Record TextFault)) → IsFirstOf P o → IsFirstOf (λ t. P t ⊎ IsShortIn rows readings t) (first_short rows o readings)
  of-readings P o [] h = first-same P (λ t. P t ⊎ IsShortIn rows [] t) (λ t p. inl p) (λ t both. elim both [ inl p ↦ p | inr s ↦ absurd (in-nothing (Ok (record_of.Block s.block)) s.there) ]) o h
  of-readings P o (reading ∷ rest) h =
      first-same (λ t. (P t ⊎ ((b : BlockValue) × (reading ≡ Ok (record_of.Block b)) × IsShortOf rows b b.allocations t)) ⊎ IsShortIn rows rest t) (λ t. P t ⊎ IsShortIn rows (reading ∷ rest) t)
      (λ t both. elim both [
        | inl first ↦ elim first [ inl p ↦ inl p | inr s ↦ inr (record { block = s.0; there = subst (λ (r : Result Record TextFault). Contains (reading ∷ rest) r) s.1 (in-here reading rest); of_block = s.2 }) ]
        | inr s ↦ inr (record { block = s.block; there = in-there (Ok (record_of.Block s.block)) reading rest s.there; of_block = s.of_block })
      ])
      (λ t both. elim both [
        | inl p ↦ inl (inl p)
        | inr s ↦ back t s (in-cons (Ok (record_of.Block s.block)) reading rest s.there)
      ])
      (first_short rows (with_shorts_in rows o reading) rest)
      (of-readings (λ t. P t ⊎ ((b : BlockValue) × (reading ≡ Ok (record_of.Block b)) × IsShortOf rows b b.allocations t)) (with_shorts_in rows o reading) rest (of-reading P o reading h))
    where
      back : (t : List ℕ) (s : IsShortIn rows (reading ∷ rest) t) → (reading ≡ Ok (record_of.Block s.block)) ⊎ Contains rest (Ok (record_of.Block s.block)) → (P t ⊎ ((b : BlockValue) × (reading ≡ Ok (record_of.Block b)) × IsShortOf rows b b.allocations t)) ⊎ IsShortIn rows rest t
      back t s (inl is) = inl (inr (s.block, is, s.of_block))
      back t s (inr there) = inr (record { block = s.block; there = there; of_block = s.of_block })

-- ---- what breaks the rule

count-same : (rows : List StoredRecord) (id : List ℕ) (cidr : CidrValue) → count_found cidr (found_in (key.Handle id) rows) ≡ count_in_row id cidr (row_of (key.Handle id) rows)
count-same rows id cidr = each-kind (λ o. count_found cidr (option_map (λ (row : StoredRecord). row.1) o) ≡ count_in_row id cidr o) refl (λ r x. refl) (λ r x. refl) (λ r x. refl) (λ r x. refl) (λ r x. refl) (λ r x. refl) (row_of (key.Handle id) rows)

module _ (texts : Texts) (by_key : AreByKey texts.rows) where
  forth : (about : List ℕ) → IsShortIn (readable texts.rows) (map reading_of texts.rows) about → Breaks texts 6 about
  forth about s =
      let (row, among, reads) = out-map reading_of (Ok (record_of.Block s.block)) texts.rows s.there in
      let id = s.of_block.allocation.attributes.handle in
      let found = found-own texts.rows by_key row (record_of.Block s.block) among reads in
      let held : held_count (read_store texts) id s.block.cidr ≡ count_by (is_owned id) s.block.allocations = ap (held_in_row id) found in
      let counted = count-same (readable texts.rows) id s.block.cidr in
      let less : count_found s.block.cidr (found_in (key.Handle id) (readable texts.rows)) < count_by (is_owned id) s.block.allocations = ltb-true _ _ s.of_block.short in
      let low : handle_count (read_store texts) id s.block.cidr < held_count (read_store texts) id s.block.cidr = omega arith in
      subst (Breaks texts 6) s.of_block.own (CountTooLow id s.block.cidr low)

  back : (about : List ℕ) → Breaks texts 6 about → IsShortIn (readable texts.rows) (map reading_of texts.rows) about
  back about (CountTooLow id cidr less) = by (row_of (key.Block cidr) (readable texts.rows)) refl less
    where
      nothing : handle_count (read_store texts) id cidr < 0 → IsShortIn (readable texts.rows) (map reading_of texts.rows) (key_bytes (key.Handle id))
      nothing low = absurd (omega arith)

      by : (o : Option StoredRecord) → row_of (key.Block cidr) (readable texts.rows) ≡ o → handle_count (read_store texts) id cidr < held_in_row id o → IsShortIn (readable texts.rows) (map reading_of texts.rows) (key_bytes (key.Handle id))
      by None e low = nothing low
      by (Some (revision, record_of.Config config)) e low = nothing low
      by (Some (revision, record_of.Pools pools)) e low = nothing low
      by (Some (revision, record_of.Reservations reservations)) e low = nothing low
      by (Some (revision, record_of.Affinity a)) e low = nothing low
      by (Some (revision, record_of.Handle h)) e low = nothing low
      by (Some (revision, record_of.Block b)) e low =
          let (a, among, owned) = owned-member id b.allocations (omega arith) in
          let is : a.attributes.handle ≡ id = (bytes_eq-Decides a.attributes.handle id).0 owned in
          let own : key.Block b.cidr ≡ key.Block cidr = row_key-row_of (key.Block cidr) (readable texts.rows) (revision, record_of.Block b) e in
          let range : b.cidr ≡ cidr = cc own in
          let (row, there, at, reads) = out-readable texts.rows (revision, record_of.Block b) (found-member (key.Block cidr) (readable texts.rows) (revision, record_of.Block b) e) in
          let counted = count-same (readable texts.rows) id cidr in
          let fewer : count_found cidr (found_in (key.Handle id) (readable texts.rows)) < count_by (is_owned id) b.allocations = omega arith in
          let test : is_short (readable texts.rows) (record b { cidr = cidr }) id ≡ true = lt-ltb _ _ fewer in
          record {
            block = b;
            there = subst (λ (r : Result Record TextFault). Contains (map reading_of texts.rows) r) reads (in-map reading_of row texts.rows there);
            of_block = record {
              allocation = a;
              among = among;
              short = subst (λ (h : List ℕ). is_short (readable texts.rows) b h ≡ true) (sym is) (subst (λ (r : CidrValue). nat_lt (count_found r (found_in (key.Handle id) (readable texts.rows))) (count_by (is_owned id) b.allocations) ≡ true) (sym range) test);
              own = ap (λ (h : List ℕ). key_bytes (key.Handle h)) is;
            };
          }

  pub first-count : IsFirstOf (Breaks texts 6) (first_short (readable texts.rows) None (map reading_of texts.rows))
  first-count =
      first-same (λ t. ⊥ ⊎ IsShortIn (readable texts.rows) (map reading_of texts.rows) t) (Breaks texts 6)
      (λ t both. elim both [ inl nothing ↦ absurd nothing | inr s ↦ forth t s ]) (λ t broken. inr (back t broken))
      (first_short (readable texts.rows) None (map reading_of texts.rows))
      (of-readings (readable texts.rows) (λ t. ⊥) None (map reading_of texts.rows) (λ t nothing. nothing))
