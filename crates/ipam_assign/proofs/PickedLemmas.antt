-- What is picked by what a sound datastore lists can be written.
use native.Mathlib.Omega.{arith}
use Rattle.std.proofs.Common.{◌≡◌, refl, sym, ap, subst, ◌∙◌, ℕ, ◌+◌, ◌<◌, ◌≤◌, ◌^◌, ◌&&◌, Bool, true, false, cond, not, List, [], ◌∷◌, Option, Some, None, All, find}
use Rattle.std.specs.Prelude.{◌==◌, IfSome}
use Rattle.std.specs.Option.{option_or}
use Rattle.std.proofs.lemmas.List.Elements.{All-head, All-tail, All-filter}
use Rattle.ipam_addr.specs.Shape.{AddrValue, CidrValue}
use Rattle.ipam_addr.specs.Slots.{HasSlots, last_slot_of, slot_of}
use Rattle.ipam_addr.specs.Width.{cidr_size}
use Rattle.ipam_block.specs.declared.limits.TheConstants.{ADDRESSES_MAX}
use Rattle.ipam_block.specs.Operations.{ordinal_address, room}
use Rattle.ipam_block.specs.Shape.{BlockValue}
use Rattle.ipam_pool.specs.declared.pools.Pool.{Pool}
use Rattle.ipam_pool.specs.Sound.{IsPoolTable}
use Rattle.ipam_records.specs.declared.call.Call.TheVariants.{List as ListAll}
use Rattle.ipam_records.specs.declared.key.Kind.TheVariants as kind
use Rattle.ipam_records.specs.declared.record.Record.{Record}
use Rattle.ipam_records.specs.declared.record.Record.TheVariants as record_of
use Rattle.ipam_records.specs.Datastore.{last_revision, rows_of_kind, row_key}
use Rattle.ipam_records.specs.Hearing.{CanBeSaid}
use Rattle.ipam_records.specs.KeyOrder.{is_of_kind}
use Rattle.ipam_records.specs.Said.{Said}
use Rattle.ipam_records.specs.Sound.{IsRow}
use Rattle.ipam_model.specs.Choice.{Rank, Own, Unconfirmed, Unclaimed, Foreign, Ranked, Pick, if_rank, is_block_at, block_in_found, is_unowned_and_empty, rank_number}
use Rattle.ipam_model.specs.Reads.{rows_said, StoredRecord}
use Rattle.ipam_model.specs.Usable.{Asked, is_usable, unknown_name}
use Rattle.ipam_choice.specs.First.{first_of, found_there}
use Rattle.ipam_choice.specs.Known.{pick_in, unless_unknown}
use Rattle.ipam_choice.specs.Scanned.{if_usable, first_usable, pick_from}
use Rattle.ipam_choice.specs.Sight.{Sight, block_under, first_in, first_ranked, is_bare, rank_bare, rank_by_room, rank_in_sight, rank_of_found}
use Rattle.ipam_choice.proofs.FirstLemmas.{first_found-some}
use Rattle.ipam_assign.specs.Picked.{IsTakeable, FitsRank, FitsRanked, FitsPick}
use Rattle.ipam_assign.proofs.PlaceLemmas.{slot_is_small}
use Rattle.ipam_assign.proofs.QueueLemmas.{found-takeable}
use Rattle.ipam_records.specs.BlockLists.{is_node}

-- what holds of what is found at each item holds of what is found first
first_holds : {A B : Type 0} (P : B → Type 0) (Q : A → Type 0) (finds : A → Option B) (xs : List A) (found : B)
    → All Q xs → ((x : A) → Q x → finds x ≡ Some found → P found) → first_of finds xs ≡ Some found → P found
first_holds P Q finds [] found all each is = absurd (cc is)
first_holds {A} {B} P Q finds (x ∷ xs) found all each is =
    by (λ f. first_holds P Q finds xs found (All-tail Q x xs all) each f) (finds x) refl is
  where
    by : (first_of finds xs ≡ Some found → P found) → (o : Option B) → finds x ≡ o → option_or o (first_of finds xs) ≡ Some found → P found
    by rest (Some b) here e = each x (All-head Q x xs all) (here ∙ e)
    by rest None here e = rest e

-- ---- the rank of a block that was listed

-- a block as it was listed, in a sound datastore
record IsListed (found : ℕ × BlockValue) : Type 0 where
  takeable : (reserved : AddrValue → Bool) (ordinal : ℕ) → room reserved found.1 ≡ Some ordinal → IsTakeable found.1 ordinal
  counted : found.1.sequence < 2 ^ 62

below_last : {sequence revision counter : ℕ} → sequence < revision → revision ≤ counter → counter ≤ last_revision
    → sequence < 2 ^ 62
below_last below given last = omega arith

listed_row : (counter revision : ℕ) (b : BlockValue) → counter ≤ last_revision → IsRow counter (revision, record_of.Block b)
    → IsListed (revision, b)
listed_row counter revision b last row =
    let counted : b.sequence < 2 ^ 62 = below_last row.counted row.given last in
    record {
      takeable = λ reserved ordinal is.
          let there = found-takeable b ordinal (λ o. not (reserved (ordinal_address b.cidr o))) row.is_record.block is in
          record { own = there.0; free = there.1; counted = counted };
      counted = counted;
    }

listed_in : (counter : ℕ) (cidr : CidrValue) (rows : List StoredRecord) → counter ≤ last_revision → All (IsRow counter) rows
    → IfSome (block_under rows cidr) IsListed
listed_in counter cidr [] last all = tt
listed_in counter cidr ((revision, record_of.Block b) ∷ rows) last all =
    by (is_block_at cidr (revision, record_of.Block b))
    (listed_row counter revision b last (All-head (IsRow counter) (revision, record_of.Block b) rows all))
    (listed_in counter cidr rows last (All-tail (IsRow counter) (revision, record_of.Block b) rows all))
  where
    by : (yes : Bool) → IsListed (revision, b) → IfSome (block_under rows cidr) IsListed
        → IfSome (block_in_found (cond yes (Some (revision, record_of.Block b)) (find (is_block_at cidr) rows))) IsListed
    by true here rest = here
    by false here rest = rest
listed_in counter cidr ((revision, record_of.Config config) ∷ rows) last all =
    listed_in counter cidr rows last (All-tail (IsRow counter) (revision, record_of.Config config) rows all)
listed_in counter cidr ((revision, record_of.Pools pools) ∷ rows) last all =
    listed_in counter cidr rows last (All-tail (IsRow counter) (revision, record_of.Pools pools) rows all)
listed_in counter cidr ((revision, record_of.Reservations reservations) ∷ rows) last all =
    listed_in counter cidr rows last (All-tail (IsRow counter) (revision, record_of.Reservations reservations) rows all)
listed_in counter cidr ((revision, record_of.Affinity affinity) ∷ rows) last all =
    listed_in counter cidr rows last (All-tail (IsRow counter) (revision, record_of.Affinity affinity) rows all)
listed_in counter cidr ((revision, record_of.Handle handle) ∷ rows) last all =
    listed_in counter cidr rows last (All-tail (IsRow counter) (revision, record_of.Handle handle) rows all)

same_rank : (one other : Rank) → FitsRank one → Some one ≡ Some other → FitsRank other
same_rank one other fits is = let same : one ≡ other = cc is in subst FitsRank same fits

ranked_block : (own confirmed free strict : Bool) (found : ℕ × BlockValue) (ordinal : ℕ) (rank : Rank)
    → IsTakeable found.1 ordinal → found.1.sequence < 2 ^ 62
    → cond own (cond confirmed (Some (Own found ordinal)) (Some (Unconfirmed found)))
    (cond free (Some (Unclaimed (Some found))) (cond strict None (Some (Foreign found ordinal)))) ≡ Some rank
    → FitsRank rank
ranked_block true true free strict found ordinal rank takeable counted is = same_rank (Own found ordinal) rank takeable is
ranked_block true false free strict found ordinal rank takeable counted is = same_rank (Unconfirmed found) rank counted is
ranked_block false confirmed true strict found ordinal rank takeable counted is =
    same_rank (Unclaimed (Some found)) rank counted is
ranked_block false confirmed false true found ordinal rank takeable counted is = absurd (cc is)
ranked_block false confirmed false false found ordinal rank takeable counted is =
    same_rank (Foreign found ordinal) rank takeable is

ranked_listed : (sight : Sight) (found : ℕ × BlockValue) (o : Option ℕ) (rank : Rank) → room sight.reserved found.1 ≡ o
    → IsListed found → rank_by_room sight found o ≡ Some rank → FitsRank rank
ranked_listed sight found None rank free rows_of_kind is = absurd (cc is)
ranked_listed sight found (Some ordinal) rank free rows_of_kind is =
    ranked_block (is_node sight.node found.1.node) (sight.confirmed found.1.cidr)
    (is_unowned_and_empty found.1 && sight.may_claim) sight.strict found ordinal rank
    (rows_of_kind.takeable sight.reserved ordinal free) rows_of_kind.counted is

ranked_bare : (sight : Sight) (slot : CidrValue) (rank : Rank) → rank_bare sight slot ≡ Some rank → FitsRank rank
ranked_bare sight slot rank is = by (sight.may_claim && is_bare sight slot) is
  where
    by : (b : Bool) → cond b (Some (Unclaimed None)) None ≡ Some rank → FitsRank rank
    by true e = same_rank (Unclaimed None) rank tt e
    by false e = absurd (cc e)

-- the rank of a slot fits
rank_fits : (sight : Sight) (slot : CidrValue) (rank : Rank) → IfSome (block_under sight.blocks slot) IsListed
    → rank_in_sight sight slot ≡ Some rank → FitsRank rank
rank_fits sight slot rank rows_of_kind is = by (block_under sight.blocks slot) rows_of_kind is
  where
    either : (found : ℕ × BlockValue) → IsListed found → (o : Option Rank) → rank_by_room sight found (room sight.reserved found.1) ≡ o
        → option_or o (rank_bare sight slot) ≡ Some rank → FitsRank rank
    either found there (Some other) here e =
        ranked_listed sight found (room sight.reserved found.1) rank refl there (here ∙ e)
    either found there None here e = ranked_bare sight slot rank e

    by : (o : Option (ℕ × BlockValue)) → IfSome o IsListed
        → option_or (rank_of_found sight o) (rank_bare sight slot) ≡ Some rank → FitsRank rank
    by None there e = ranked_bare sight slot rank e
    by (Some found) there e = either found there (rank_by_room sight found (room sight.reserved found.1)) refl e

-- ---- what is picked

if_ranked : (number : ℕ) (slot : CidrValue) (o : Option Rank) (found : Ranked) → cidr_size slot ≤ ADDRESSES_MAX
    → ((rank : Rank) → o ≡ Some rank → FitsRank rank) → if_rank number slot o ≡ Some found → FitsRanked found
if_ranked number slot None found small fits is = absurd (cc is)
if_ranked number slot (Some rank) found small fits is = by (rank_number rank == number) is
  where
    by : (b : Bool) → cond b (Some (record { slot = slot; rank = rank })) None ≡ Some found → FitsRanked found
    by true e =
        let same : record { slot = slot; rank = rank } ≡ found = cc e in
        subst FitsRanked same (record { small = small; rank = fits rank refl })
    by false e = absurd (cc e)

module _ (asked : Asked) (sight : Sight) (rows_of_kind : (slot : CidrValue) → IfSome (block_under sight.blocks slot) IsListed) where
  in_pool : (number : ℕ) (pool : Pool) (found : Ranked) → HasSlots pool.cidr pool.size
      → first_in sight number pool ≡ Some found → FitsRanked found
  in_pool number pool found slots is = by (first_ranked (rank_in_sight sight) number pool) refl is
    where
      by : (o : Option (ℕ × Ranked)) → first_ranked (rank_in_sight sight) number pool ≡ o → found_there o ≡ Some found → FitsRanked found
      by None here e = absurd (cc e)
      by (Some (k, ranked)) here e =
          let there = first_found-some (λ j. if_rank number (slot_of pool.cidr pool.size j) (rank_in_sight sight (slot_of pool.cidr pool.size j))) (last_slot_of pool.cidr pool.size + 1) 0 (k, ranked) here in
          let slot = slot_of pool.cidr pool.size k in
          if_ranked number slot (rank_in_sight sight slot) found (slot_is_small pool.cidr pool.size k slots)
          (λ rank r. rank_fits sight slot rank (rows_of_kind slot) r) (there.there ∙ e)

  in_usable : (number : ℕ) (pool : Pool) (found : Ranked) → HasSlots pool.cidr pool.size
      → if_usable asked sight number pool ≡ Some found → FitsRanked found
  in_usable number pool found slots is = by (is_usable asked pool) is
    where
      by : (b : Bool) → cond b (first_in sight number pool) None ≡ Some found → FitsRanked found
      by true e = in_pool number pool found slots e
      by false e = absurd (cc e)

  in_pools : (pools : List Pool) (found : Ranked) → All (λ p. HasSlots p.cidr p.size) pools
      → first_of (first_usable asked sight pools) (0 ∷ 1 ∷ 2 ∷ 3 ∷ []) ≡ Some found → FitsRanked found
  in_pools pools found slots is =
      first_holds FitsRanked (λ n. Unit {0}) (first_usable asked sight pools) (0 ∷ 1 ∷ 2 ∷ 3 ∷ []) found (λ i d within. tt)
      (λ number any e. first_holds FitsRanked (λ p. HasSlots p.cidr p.size) (if_usable asked sight number) pools found slots
      (λ pool has f. in_usable number pool found has f) e)
      is

  picks_fit : (pools : List Pool) → All (λ p. HasSlots p.cidr p.size) pools → FitsPick (pick_in asked pools sight)
  picks_fit pools slots = by (unknown_name asked pools) (first_of (first_usable asked sight pools) (0 ∷ 1 ∷ 2 ∷ 3 ∷ [])) refl
    where
      by : (u : Option ℕ) (o : Option Ranked) → first_of (first_usable asked sight pools) (0 ∷ 1 ∷ 2 ∷ 3 ∷ []) ≡ o
          → FitsPick (unless_unknown u (pick_from o))
      by (Some place) o here = tt
      by None None here = tt
      by None (Some found) here = in_pools pools found slots here

-- what is picked by blocks that may be listed can be written
pub pick_fits : (asked : Asked) (pools : List Pool) (sight : Sight) (pick : Pick) (said : Said) → IsPoolTable pools
    → CanBeSaid (ListAll kind.Block) said → sight.blocks ≡ rows_said said → pick ≡ pick_in asked pools sight → FitsPick pick
pick_fits asked pools sight pick said table can blocks is =
    subst FitsPick (sym is)
    (picks_fit asked sight (λ slot. listed_in can.store.counter slot sight.blocks can.sound.counted rows) pools table.sizes)
  where
    rows : All (IsRow can.store.counter) sight.blocks
    rows =
        subst (λ (list : List StoredRecord). All (IsRow can.store.counter) list) (ap rows_said can.is_reply ∙ sym blocks)
        (All-filter (λ row. is_of_kind kind.Block (row_key row)) (IsRow can.store.counter) can.store.rows can.sound.rows)
