-- Which handles that are written are sound.
use Rattle.std.proofs.Common.{◌≡◌, ◌≢◌, ℕ, ◌+◌, ◌-◌, ◌^◌, ◌<◌, inl, inr, List, [], Option, Some, None, unwrap_or, refl, sym, ap, subst, arith}
use Rattle.std.specs.Prelude.{Contains, All}
use Rattle.std.specs.Map.{lookup}
use Rattle.std.specs.BTreeMap.{is_at}
use Rattle.std.specs.Cmp.{Equal-is}
use Rattle.std.proofs.lemmas.Bool.{cases_lt}
use Rattle.std.proofs.lemmas.List.Elements.{All-contains}
use Rattle.std.proofs.lemmas.Map.Views.{Contains-from_lookup}
use Rattle.ipam_addr.specs.Shape.{CidrValue}
use Rattle.ipam_block.specs.Sound.{IsBlockCidr}
use Rattle.ipam_block.specs.HandleShape.{HandleValue}
use Rattle.ipam_block.specs.HandleOperations.{content, count_in, count_of, counts_with, with_raised_count, with_lowered_count}
use Rattle.ipam_block.specs.Order.{cidr_cmp}
use Rattle.ipam_block.specs.HandleSound.{IsCount, AreCounts, IsHandleRecord}
use Rattle.ipam_block.proofs.Entries.{All-insert_entry, All-remove_entry}
use Rattle.ipam_block.proofs.Order.{cidr_cmp_total, cidr_cmp_exact}
use Rattle.ipam_block.proofs.Reading.{counts_with-some, count_in-here, AreCounts-counts_with, AreCounts-nil}
use Rattle.ipam_records.specs.Sound.{IsHandleId}

-- the counts and blocks of a handle, whether it is kept or has none yet
pub record AreSoundCounts (entries : List (CidrValue × ℕ)) : Type 0 where
  pub counts : AreCounts entries
  pub ranges : All (λ (entry : CidrValue × ℕ). IsBlockCidr entry.0) entries

no-counts : AreSoundCounts []
no-counts = record { counts = AreCounts-nil; ranges = λ k d within. absurd (omega arith) }

-- the block of a count that is some has an entry
counted-entry : (es : List (CidrValue × ℕ)) (block : CidrValue) → 0 < count_in es block → Contains es (block, count_in es block)
counted-entry es block some = from (lookup (is_at (cidr_cmp block)) es) refl some
  where
    from : (o : Option ℕ) → lookup (is_at (cidr_cmp block)) es ≡ o → 0 < unwrap_or o 0 → Contains es (block, unwrap_or o 0)
    from None e f = absurd (omega arith)
    from (Some n) e f = Contains-from_lookup (λ x y t. cidr_cmp_exact x y ((Equal-is (cidr_cmp x y)).0 t)) block n es e

counts-written : (es : List (CidrValue × ℕ)) (block : CidrValue) (n : ℕ) → AreSoundCounts es → (0 < n → IsBlockCidr block × (n < 2 ^ 32)) → AreSoundCounts (counts_with es block n)
counts-written es block n h some = record {
  counts = AreCounts-counts_with es h.counts block n (λ positive. let (range, small) = some positive in record { range = range.range; some = positive; small = small });
  ranges = elim (cases_lt 0 n) [
    | inl positive ↦
        subst (λ (l : List (CidrValue × ℕ)). All (λ (entry : CidrValue × ℕ). IsBlockCidr entry.0) l) (sym (counts_with-some es block n positive))
        (All-insert_entry cidr_cmp_total block n cidr_cmp_exact (λ (entry : CidrValue × ℕ). IsBlockCidr entry.0) es (some positive).0 h.ranges)
    | inr none ↦
        let zero_is : n ≡ 0 = omega arith in
        subst (λ (m : ℕ). All (λ (entry : CidrValue × ℕ). IsBlockCidr entry.0) (counts_with es block m)) (sym zero_is)
        (All-remove_entry (λ (entry : CidrValue × ℕ). IsBlockCidr entry.0) (is_at (cidr_cmp block)) es h.ranges)
  ];
}

-- a count that is some is there
some-counts : (es : List (CidrValue × ℕ)) (block : CidrValue) (n : ℕ) → AreCounts es → 0 < n → counts_with es block n ≢ []
some-counts es block n h positive empty =
    let here = count_in-here es h block n in
    let none = ap (λ l. count_in l block) empty in
    omega arith

pub raised-record : (h : HandleValue) (block : CidrValue) → IsHandleId h.id → AreSoundCounts h.counts → IsBlockCidr block → count_of h block < 2 ^ 32 - 1 → IsHandleRecord (with_raised_count h block 1)
raised-record h block id sound range below =
    let whole = counts-written h.counts block (count_of h block + 1) sound (λ positive. (range, omega arith)) in
    record { id = id; counts = whole.counts; ranges = whole.ranges; some = some-counts h.counts block (count_of h block + 1) sound.counts (omega arith) }

pub lowered-record : (h : HandleValue) (block : CidrValue) (by : ℕ) → IsHandleRecord h → (with_lowered_count h block by).counts ≢ [] → IsHandleRecord (with_lowered_count h block by)
lowered-record h block by sound left =
    let whole = counts-written h.counts block (count_of h block - by) (record { counts = sound.counts; ranges = sound.ranges }) counted in
    record { id = sound.id; counts = whole.counts; ranges = whole.ranges; some = left }
  where
    counted : 0 < count_of h block - by → IsBlockCidr block × (count_of h block - by < 2 ^ 32)
    counted positive =
        let there = counted-entry h.counts block (omega arith) in
        let entry = All-contains IsCount h.counts (block, count_of h block) sound.counts.each there in
        let small = entry.small in
        (All-contains (λ (e : CidrValue × ℕ). IsBlockCidr e.0) h.counts (block, count_of h block) sound.ranges there, omega arith)

pub fresh-counts : (id : List ℕ) → AreSoundCounts (content id []).counts
fresh-counts id = no-counts

pub kept-counts : (h : HandleValue) → IsHandleRecord h → AreSoundCounts h.counts
kept-counts h sound = record { counts = sound.counts; ranges = sound.ranges }
