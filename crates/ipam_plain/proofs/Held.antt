-- Which addresses the blocks among rows hold, and what freeing leaves of them.
use Rattle.std.proofs.Common.{◌≡◌, ◌≢◌, ℕ, zero, suc, ◌+◌, inl, inr, Bool, true, false, cond, not, List, [], ◌∷◌, ◌++◌, ◌⊎◌, Option, Some, None, option_map, refl, sym, ap, ◌∙◌, subst, arith}
use Rattle.std.specs.Prelude.{Contains}
use Rattle.std.specs.List.{count_by}
use Rattle.std.proofs.lemmas.List.Sums.{sum_by-cons}
use Rattle.ipam_addr.specs.Shape.{CidrValue}
use Rattle.ipam_block.specs.declared.allocation.Allocation.{Allocation}
use Rattle.ipam_block.specs.Operations.{block_without, next_block}
use Rattle.ipam_block.specs.Shape.{BlockValue}
use Rattle.ipam_block.specs.HandleOperations.{with_lowered_count}
use Rattle.ipam_block.specs.HandleShape.{HandleValue}
use Rattle.ipam_records.specs.declared.key.Key.TheVariants as key
use Rattle.ipam_records.specs.declared.record.Record.{Record}
use Rattle.ipam_records.specs.declared.record.Record.TheVariants as record_of
use Rattle.ipam_records.proofs.DatastoreLemmas.{row_key-row_of}
use Rattle.ipam_model.specs.Counting.{FreedOfHandle}
use Rattle.ipam_model.specs.Owners.{Owner, owner_of, owners_in, owners_in_row}
use Rattle.ipam_model.specs.Plain.{Rows, block_in_rows, handle_of, kept_or_gone, put, records, with_freed, with_freed_found, with_these_freed}
use Rattle.ipam_model.specs.Reads.{StoredRecord}
use Rattle.ipam_laws.proofs.Calls.{found-block}
use Rattle.ipam_laws.proofs.CountLemmas.{cidr_cases}
use Rattle.ipam_laws.proofs.Members.{filter-in, in-cons, in-filter, in-map, in-nothing, out-map}
use Rattle.ipam_laws.proofs.Owned.{owner-row, row-owner}
use Rattle.ipam_laws.proofs.RowOrder.{found-member, member-found}
use Rattle.ipam_plain.proofs.Alike.{IsSorted, block_from, block_of-record, record-row, record_at, record_at-kept, record_at-other, record_at-put, value_in}

-- the block of this CIDR records it
abbrev pub HeldAt : Rows → CidrValue → Allocation → Type 0
HeldAt rows cidr a = (b : BlockValue) × (record_at (key.Block cidr) rows ≡ Some (record_of.Block b)) × Contains b.allocations a

-- ---- owners

pub named : (rows : Rows) (cidr : CidrValue) (b : BlockValue) → record_at (key.Block cidr) rows ≡ Some (record_of.Block b) → b.cidr ≡ cidr
named rows cidr b e =
    let (revision, there) = record-row (key.Block cidr) rows (record_of.Block b) e in
    let (c, is, same) = found-block cidr (record_of.Block b) (row_key-row_of (key.Block cidr) rows (revision, record_of.Block b) there) in
    let here : b ≡ c = cc is in
    ap (λ (x : BlockValue). x.cidr) here ∙ same

pub held-owner : (rows : Rows) (cidr : CidrValue) (a : Allocation) → HeldAt rows cidr a → Contains (owners_in rows) (owner_of cidr a)
held-owner rows cidr a (b, there, among) =
    let (revision, row) = record-row (key.Block cidr) rows (record_of.Block b) there in
    let own = in-map (owner_of b.cidr) a b.allocations among in
    subst (λ (c : CidrValue). Contains (owners_in rows) (owner_of c a)) (named rows cidr b there)
    (row-owner rows (revision, record_of.Block b) (owner_of b.cidr a) (found-member (key.Block cidr) rows (revision, record_of.Block b) row) own)

-- the block and the allocation of an owner
pub record IsHeld (rows : Rows) (o : Owner) : Type 0 where
  pub cidr : CidrValue
  pub a : Allocation
  pub held : HeldAt rows cidr a
  pub is_owner : owner_of cidr a ≡ o

pub owner-held : (rows : Rows) (o : Owner) → IsSorted rows → Contains (owners_in rows) o → IsHeld rows o
owner-held rows o sorted owns = let (row, among, own) = owner-row rows o owns in by row.0 row.1 among own
  where
    by : (revision : ℕ) (found : Record) → Contains rows (revision, found) → Contains (owners_in_row (revision, found)) o → IsHeld rows o
    by revision (record_of.Block b) among own =
        let (a, there, is) = out-map (owner_of b.cidr) o b.allocations own in
        let row = member-found rows (revision, record_of.Block b) sorted among in
        record { cidr = b.cidr; a = a; held = (b, ap (λ (x : Option StoredRecord). option_map (λ (r : StoredRecord). r.1) x) row, there); is_owner = is }
    by revision (record_of.Config config) among own = absurd (in-nothing o own)
    by revision (record_of.Pools pools) among own = absurd (in-nothing o own)
    by revision (record_of.Reservations reservations) among own = absurd (in-nothing o own)
    by revision (record_of.Affinity a) among own = absurd (in-nothing o own)
    by revision (record_of.Handle handle) among own = absurd (in-nothing o own)

-- owners are said by the records
owners_from : List Record → List Owner
owners_from [] = []
owners_from (r ∷ rest) = owners_in_row (0, r) ++ owners_from rest

row-owners : (row : StoredRecord) → owners_in_row row ≡ owners_in_row (0, row.1)
row-owners (revision, record_of.Block b) = refl
row-owners (revision, record_of.Config config) = refl
row-owners (revision, record_of.Pools pools) = refl
row-owners (revision, record_of.Reservations reservations) = refl
row-owners (revision, record_of.Affinity a) = refl
row-owners (revision, record_of.Handle h) = refl

owners-records : (rows : Rows) → owners_in rows ≡ owners_from (records rows)
unfolding owners_from
owners-records [] = refl
owners-records (row ∷ rows) = let here = row-owners row in let rest = owners-records rows in λ i. here i ++ rest i

pub same-owners : (one other : Rows) → records one ≡ records other → owners_in one ≡ owners_in other
same-owners one other e = owners-records one ∙ (ap owners_from e ∙ sym (owners-records other))

-- ---- freeing

-- the block's record and what is read of it
pub block-found : (rows : Rows) (cidr : CidrValue) (b : BlockValue) → record_at (key.Block cidr) rows ≡ Some (record_of.Block b) → value_in (block_in_rows cidr rows) ≡ Some b
block-found rows cidr b e = block_of-record cidr rows ∙ ap block_from e

pub found-record : (rows : Rows) (cidr : CidrValue) (b : BlockValue) → value_in (block_in_rows cidr rows) ≡ Some b → record_at (key.Block cidr) rows ≡ Some (record_of.Block b)
found-record rows cidr b e = by (record_at (key.Block cidr) rows) refl (sym (block_of-record cidr rows) ∙ e)
  where
    by : (o : Option Record) → record_at (key.Block cidr) rows ≡ o → block_from o ≡ Some b → record_at (key.Block cidr) rows ≡ Some (record_of.Block b)
    by None is f = absurd (cc f)
    by (Some (record_of.Block c)) is f = let same : c ≡ b = cc f in is ∙ ap (λ (x : BlockValue). Some (record_of.Block x)) same
    by (Some (record_of.Config config)) is f = absurd (cc f)
    by (Some (record_of.Pools pools)) is f = absurd (cc f)
    by (Some (record_of.Reservations reservations)) is f = absurd (cc f)
    by (Some (record_of.Affinity a)) is f = absurd (cc f)
    by (Some (record_of.Handle h)) is f = absurd (cc f)

lowered-keeps : (h : HandleValue) (counts : List (CidrValue × ℕ)) (rows : Rows) (cidr : CidrValue) → record_at (key.Block cidr) (kept_or_gone h counts rows) ≡ record_at (key.Block cidr) rows
lowered-keeps h [] rows cidr = record_at-kept (key.Block cidr) (key.Handle h.id) rows (λ e. cc e)
lowered-keeps h (count ∷ counts) rows cidr = record_at-other (key.Block cidr) (0, record_of.Handle h) rows (λ e. cc e)

none-picked : (picks : Allocation → Bool) (list : List Allocation) → count_by picks list ≡ 0 → (a : Allocation) → Contains list a → picks a ≡ false
none-picked picks [] e a among = absurd (in-nothing a among)
none-picked picks (first ∷ rest) e a among = by (picks first) refl (in-cons a first rest among) (sym (sum_by-cons (λ x. cond (picks x) 1 0) first rest) ∙ e) (λ none further. none-picked picks rest none a further)
  where
    by : (b : Bool) → picks first ≡ b → (first ≡ a) ⊎ Contains rest a → cond {A = ℕ} (picks first) 1 0 + count_by picks rest ≡ 0 → (count_by picks rest ≡ 0 → Contains rest a → picks a ≡ false) → picks a ≡ false
    by true is place f more = let one : cond {A = ℕ} (picks first) 1 0 ≡ 1 = ap (λ (b : Bool). cond {A = ℕ} b 1 0) is in absurd (omega arith)
    by false is (inl same) f more = ap picks (sym same) ∙ is
    by false is (inr further) f more = more (omega arith) further

-- the block as it is left
pub record IsLeft (rows : Rows) (cidr : CidrValue) (picks : Allocation → Bool) (b : BlockValue) : Type 0 where
  pub new : BlockValue
  pub there : record_at (key.Block cidr) rows ≡ Some (record_of.Block new)
  pub was : (a : Allocation) → Contains new.allocations a → Contains b.allocations a × (picks a ≡ false)
  pub stays : (a : Allocation) → Contains b.allocations a → picks a ≡ false → Contains new.allocations a

not-false : (b : Bool) → not b ≡ true → b ≡ false
not-false true e = absurd (cc e)
not-false false e = refl

module _ (what : FreedOfHandle) (rows : Rows) where
  -- other blocks stay
  freed-elsewhere : (cidr : CidrValue) → cidr ≢ what.block → record_at (key.Block cidr) (with_freed what rows) ≡ record_at (key.Block cidr) rows
  freed-elsewhere cidr other = by (block_in_rows what.block rows) refl
    where
      these : (b : BlockValue) → b.cidr ≡ what.block → (amount : ℕ) → record_at (key.Block cidr) (with_these_freed what amount b rows) ≡ record_at (key.Block cidr) rows
      these b same zero = refl
      these b same (suc more) =
          let next = put (record_of.Block (block_without what.picks (next_block b))) rows in
          let low = with_lowered_count (handle_of what.handle next) b.cidr (suc more) in
          lowered-keeps low low.counts next cidr ∙ record_at-other (key.Block cidr) (0, record_of.Block (block_without what.picks (next_block b))) rows (λ e. other (sym (cc e) ∙ same))

      by : (o : Option (ℕ × BlockValue)) → block_in_rows what.block rows ≡ o → record_at (key.Block cidr) (with_freed_found what o rows) ≡ record_at (key.Block cidr) rows
      by None e = refl
      by (Some found) e =
          let there = found-record rows what.block found.1 (ap value_in e) in
          these found.1 (named rows what.block found.1 there) (count_by what.picks found.1.allocations)

  -- the block is left without what is picked
  freed-here : (b : BlockValue) → record_at (key.Block what.block) rows ≡ Some (record_of.Block b) → IsLeft (with_freed what rows) what.block what.picks b
  freed-here b there = by (block_in_rows what.block rows) (block-found rows what.block b there)
    where
      these : (amount : ℕ) → count_by what.picks b.allocations ≡ amount → IsLeft (with_these_freed what amount b rows) what.block what.picks b
      these zero e = record {
        new = b;
        there = there;
        was = λ a among. (among, none-picked what.picks b.allocations e a among);
        stays = λ a among kept. among;
      }
      these (suc more) e =
          let new = block_without what.picks (next_block b) in
          let next = put (record_of.Block new) rows in
          let low = with_lowered_count (handle_of what.handle next) b.cidr (suc more) in
          let own = named rows what.block b there in
          record {
            new = new;
            there = lowered-keeps low low.counts next what.block ∙ subst (λ (c : CidrValue). record_at (key.Block c) next ≡ Some (record_of.Block new)) own (record_at-put (0, record_of.Block new) rows);
            was = λ a among. let (before, kept) = in-filter (λ x. not (what.picks x)) a b.allocations among in (before, not-false (what.picks a) kept);
            stays = λ a among kept. filter-in (λ x. not (what.picks x)) a b.allocations among (ap not kept);
          }

      by : (o : Option (ℕ × BlockValue)) → value_in o ≡ Some b → IsLeft (with_freed_found what o rows) what.block what.picks b
      by None e = absurd (cc e)
      by (Some found) e =
          let same : found.1 ≡ b = cc e in
          subst (λ (x : BlockValue). IsLeft (with_these_freed what (count_by what.picks x.allocations) x rows) what.block what.picks b) (sym same) (these (count_by what.picks b.allocations) refl)

  -- where there is no block nothing is freed
  freed-nowhere : (found : Record) → record_at (key.Block what.block) (with_freed what rows) ≡ Some found → ((b : BlockValue) × (record_at (key.Block what.block) rows ≡ Some (record_of.Block b))) ⊎ (record_at (key.Block what.block) rows ≡ Some found)
  freed-nowhere found e = by (block_in_rows what.block rows) refl e
    where
      by : (o : Option (ℕ × BlockValue)) → block_in_rows what.block rows ≡ o → record_at (key.Block what.block) (with_freed_found what o rows) ≡ Some found → ((b : BlockValue) × (record_at (key.Block what.block) rows ≡ Some (record_of.Block b))) ⊎ (record_at (key.Block what.block) rows ≡ Some found)
      by None is f = inr f
      by (Some there) is f = inl (there.1, found-record rows what.block there.1 (ap value_in is))

  -- what is held after it was held, and is not picked
  pub freed-was : (cidr : CidrValue) (a : Allocation) → HeldAt (with_freed what rows) cidr a → HeldAt rows cidr a × (cidr ≡ what.block → what.picks a ≡ false)
  freed-was cidr a (b, there, among) = elim (cidr_cases cidr what.block) [
    | inr (f, other) ↦ ((b, sym (freed-elsewhere cidr other) ∙ there, among), λ e. absurd (other e))
    | inl (t, same) ↦ subst (λ (c : CidrValue). HeldAt rows c a × (c ≡ what.block → what.picks a ≡ false)) (sym same) (here (subst (λ (c : CidrValue). record_at (key.Block c) (with_freed what rows) ≡ Some (record_of.Block b)) same there))
  ]
    where
      here : record_at (key.Block what.block) (with_freed what rows) ≡ Some (record_of.Block b) → HeldAt rows what.block a × (what.block ≡ what.block → what.picks a ≡ false)
      here at = elim (freed-nowhere (record_of.Block b) at) [
        | inl (old, was) ↦
            let left = freed-here old was in
            let both : Some (record_of.Block left.new) ≡ Some (record_of.Block b) = sym left.there ∙ at in
            let same : left.new ≡ b = cc both in
            let (before, kept) = left.was a (subst (λ (x : BlockValue). Contains x.allocations a) (sym same) among) in
            ((old, was, before), λ e. kept)
        | inr was ↦
            let left = freed-here b was in
            let both : Some (record_of.Block left.new) ≡ Some (record_of.Block b) = sym left.there ∙ at in
            let same : left.new ≡ b = cc both in
            let (before, kept) = left.was a (subst (λ (x : BlockValue). Contains x.allocations a) (sym same) among) in
            ((b, was, before), λ e. kept)
      ]

  -- what was held and is not picked is held still
  pub freed-stays : (cidr : CidrValue) (a : Allocation) → HeldAt rows cidr a → (cidr ≡ what.block → what.picks a ≡ false) → HeldAt (with_freed what rows) cidr a
  freed-stays cidr a (b, there, among) kept = elim (cidr_cases cidr what.block) [
    | inr (f, other) ↦ (b, freed-elsewhere cidr other ∙ there, among)
    | inl (t, same) ↦
        let left = freed-here b (subst (λ (c : CidrValue). record_at (key.Block c) rows ≡ Some (record_of.Block b)) same there) in
        subst (λ (c : CidrValue). HeldAt (with_freed what rows) c a) (sym same) (left.new, left.there, left.stays a among (kept same))
  ]
