-- What is found in the rows of one kind is what is found in all.
use Rattle.std.proofs.Common.{◌≡◌, ℕ, Bool, true, false, cond, Option, None, List, [], ◌∷◌, ◌++◌, length, sym, ap, ◌∙◌, refl}
use Rattle.std.specs.List.{flat_map, filter_map, filter, cons_option}
use Rattle.ipam_records.specs.declared.key.Kind.TheVariants as kind
use Rattle.ipam_records.specs.declared.record.Record.{Record}
use Rattle.ipam_records.specs.declared.record.Record.TheVariants as record_of
use Rattle.ipam_records.specs.Key.{key_of}
use Rattle.ipam_records.specs.KeyOrder.{is_of_kind}
use Rattle.ipam_records.specs.Datastore.{Datastore, rows_of_kind, row_key}
use Rattle.ipam_model.specs.Owners.{owners, owners_in, owners_in_row}
use Rattle.ipam_commands.specs.declared.audit_report.Report.{Report}
use Rattle.ipam_commands.specs.Reported.{excess_of, excess_in, stale_of, stale_in, stray_of, stray_in, report_of}

-- lists for rows, of which those that fail the test have none
pub flat_map-filter : {X Y : Type 0} (f : X → List Y) (passes : X → Bool) → ((x : X) → passes x ≡ false → f x ≡ []) → (xs : List X) → flat_map f (filter passes xs) ≡ flat_map f xs
flat_map-filter f passes none [] = refl
flat_map-filter f passes none (x ∷ xs) = by_test (passes x) refl (flat_map-filter f passes none xs)
  where
    by_test : (b : Bool) → passes x ≡ b → flat_map f (filter passes xs) ≡ flat_map f xs → flat_map f (cond b (x ∷ filter passes xs) (filter passes xs)) ≡ f x ++ flat_map f xs
    by_test true h rest = ap (λ ys. f x ++ ys) rest
    by_test false h rest = rest ∙ sym (ap (λ ys. ys ++ flat_map f xs) (none x h))

pub filter_map-filter : {X Y : Type 0} (f : X → Option Y) (passes : X → Bool) → ((x : X) → passes x ≡ false → f x ≡ None) → (xs : List X) → filter_map f (filter passes xs) ≡ filter_map f xs
filter_map-filter f passes none [] = refl
filter_map-filter f passes none (x ∷ xs) = by_test (passes x) refl (filter_map-filter f passes none xs)
  where
    by_test : (b : Bool) → passes x ≡ b → filter_map f (filter passes xs) ≡ filter_map f xs → filter_map f (cond b (x ∷ filter passes xs) (filter passes xs)) ≡ cons_option (f x) (filter_map f xs)
    by_test true h rest = ap (cons_option (f x)) rest
    by_test false h rest = rest ∙ sym (ap (λ o. cons_option o (filter_map f xs)) (none x h))

-- ---- the rows of one kind
module _ (store : Datastore) where
  none_excess : (kept : Record) → is_of_kind kind.Handle (key_of kept) ≡ false → excess_of store kept ≡ []
  none_excess (record_of.Config c) e = refl
  none_excess (record_of.Pools p) e = refl
  none_excess (record_of.Reservations r) e = refl
  none_excess (record_of.Block b) e = refl
  none_excess (record_of.Affinity a) e = refl
  none_excess (record_of.Handle h) e = absurd (cc e)

  none_stale : (kept : Record) → is_of_kind kind.Affinity (key_of kept) ≡ false → stale_of kept ≡ None
  none_stale (record_of.Config c) e = refl
  none_stale (record_of.Pools p) e = refl
  none_stale (record_of.Reservations r) e = refl
  none_stale (record_of.Block b) e = refl
  none_stale (record_of.Affinity a) e = absurd (cc e)
  none_stale (record_of.Handle h) e = refl

  none_stray : (kept : Record) → is_of_kind kind.Affinity (key_of kept) ≡ false → stray_of store kept ≡ None
  none_stray (record_of.Config c) e = refl
  none_stray (record_of.Pools p) e = refl
  none_stray (record_of.Reservations r) e = refl
  none_stray (record_of.Block b) e = refl
  none_stray (record_of.Affinity a) e = absurd (cc e)
  none_stray (record_of.Handle h) e = refl

  none_owned : (revision : ℕ) (kept : Record) → is_of_kind kind.Block (key_of kept) ≡ false → owners_in_row (revision, kept) ≡ []
  none_owned revision (record_of.Config c) e = refl
  none_owned revision (record_of.Pools p) e = refl
  none_owned revision (record_of.Reservations r) e = refl
  none_owned revision (record_of.Block b) e = absurd (cc e)
  none_owned revision (record_of.Affinity a) e = refl
  none_owned revision (record_of.Handle h) e = refl

  pub excess-listed : excess_in store (rows_of_kind kind.Handle store) ≡ excess_in store store.rows
  excess-listed = flat_map-filter (λ (row : ℕ × Record). excess_of store row.1) (λ row. is_of_kind kind.Handle (row_key row)) (λ row. none_excess row.1) store.rows

  pub stale-listed : stale_in (rows_of_kind kind.Affinity store) ≡ stale_in store.rows
  stale-listed = filter_map-filter (λ (row : ℕ × Record). stale_of row.1) (λ row. is_of_kind kind.Affinity (row_key row)) (λ row. none_stale row.1) store.rows

  pub stray-listed : stray_in store (rows_of_kind kind.Affinity store) ≡ stray_in store store.rows
  stray-listed = filter_map-filter (λ (row : ℕ × Record). stray_of store row.1) (λ row. is_of_kind kind.Affinity (row_key row)) (λ row. none_stray row.1) store.rows

  pub owners-listed : owners_in (rows_of_kind kind.Block store) ≡ owners store
  owners-listed = flat_map-filter owners_in_row (λ row. is_of_kind kind.Block (row_key row)) (λ row. none_owned row.0 row.1) store.rows

-- the parts of a report
pub report_is : (store : Datastore) (report : Report) → report.excess ≡ excess_in store (rows_of_kind kind.Handle store) → report.stale ≡ stale_in (rows_of_kind kind.Affinity store) → report.stray ≡ stray_in store (rows_of_kind kind.Affinity store) → report.blocks ≡ length (rows_of_kind kind.Block store) → report.owners ≡ length (owners store) → report.handles ≡ length (rows_of_kind kind.Handle store) → report ≡ report_of store
report_is store report excess stale stray blocks owned handles =
    let e = excess ∙ excess-listed store in
    let f = stale ∙ stale-listed store in
    let g = stray ∙ stray-listed store in
    λ i. record { excess = e i; stale = f i; stray = g i; blocks = blocks i; owners = owned i; handles = handles i }
