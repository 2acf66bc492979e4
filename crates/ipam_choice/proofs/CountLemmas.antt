-- How many blocks of a family a node has.
use native.Mathlib.Omega.{arith}
use Rattle.std.proofs.Common.{◌≡◌, ℕ, ◌+◌, ◌&&◌, Bool, true, false, cond, List, [], ◌∷◌, Some, None, refl, sym, ap, ap₂, ◌||◌, ◌∙◌}
use Rattle.std.specs.Prelude.{count_by, ◌==◌, nat_lt}
use Rattle.std.specs.List.{cons_option}
use Rattle.std.proofs.lemmas.List.Sums.{sum_by-cons}
use Rattle.ipam_addr.specs.Shape.{CidrValue}
use Rattle.ipam_addr.specs.Holding.{is_same_family}
use Rattle.ipam_records.specs.declared.record.Record.TheVariants as record_of
use Rattle.ipam_records.specs.BlockLists.{is_node, cidrs_of_node}
use Rattle.ipam_model.specs.Reads.{StoredRecord}
use Rattle.ipam_model.specs.Usable.{Asked}
use Rattle.ipam_model.specs.Choice.{is_block_of}

zero_more : (n : ℕ) → n ≡ 0 + n
zero_more n = omega arith

pub counted : (asked : Asked) (rows : List StoredRecord) → count_by (λ cidr. is_same_family asked.family cidr.family) (cidrs_of_node asked.node rows) ≡ count_by (is_block_of asked) rows
counted asked [] = refl
counted asked ((revision, record_of.Config c) ∷ rows) = counted asked rows
counted asked ((revision, record_of.Pools p) ∷ rows) = counted asked rows
counted asked ((revision, record_of.Reservations r) ∷ rows) = counted asked rows
counted asked ((revision, record_of.Block b) ∷ rows) =
    by (is_node asked.node b.node) (counted asked rows)
    ∙ sym (sum_by-cons (λ row. cond (is_block_of asked row) 1 0) (revision, record_of.Block b) rows)
  where
    by : (v : Bool) → count_by (λ cidr. is_same_family asked.family cidr.family) (cidrs_of_node asked.node rows) ≡ count_by (is_block_of asked) rows
        → count_by (λ cidr. is_same_family asked.family cidr.family) (cons_option (cond v (Some b.cidr) None) (cidrs_of_node asked.node rows)) ≡ cond (v && is_same_family asked.family b.cidr.family) 1 0 + count_by (is_block_of asked) rows
    by true rest =
        sum_by-cons (λ (cidr : CidrValue). cond (is_same_family asked.family cidr.family) 1 0) b.cidr (cidrs_of_node asked.node rows)
        ∙ ap (λ n. cond (is_same_family asked.family b.cidr.family) 1 0 + n) rest
    by false rest = rest ∙ zero_more _
counted asked ((revision, record_of.Affinity a) ∷ rows) = counted asked rows
counted asked ((revision, record_of.Handle h) ∷ rows) = counted asked rows

-- whether the node may claim one more, once the count is bounded
pub bounded : (auto : Bool) (most count blocks : ℕ) → auto ≡ true → (most == 0) ≡ false → count ≡ blocks → nat_lt count most ≡ (auto && ((most == 0) || nat_lt blocks most))
bounded auto most count blocks on some same = ap (λ n. nat_lt n most) same ∙ sym (ap₂ (λ a b. a && (b || nat_lt blocks most)) on some)
