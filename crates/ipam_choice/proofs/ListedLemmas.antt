-- Each slot with a block that has a rank is in each list that may be looked through for it.
use Rattle.std.proofs.Common.{◌≡◌, ◌⊎◌, ℕ, ◌&&◌, inl, inr, Bool, true, false, cond, List, [], ◌∷◌, Option, Some, None, is_none, refl, sym, ap, ◌∙◌, subst, find}
use Rattle.std.specs.Prelude.{not}
use Rattle.std.proofs.lemmas.Bool.{and_parts}
use Rattle.std.specs.List.{cons_option}
use Rattle.std.specs.declared.cmp.Ordering.{Ordering}
use Rattle.std.specs.declared.cmp.Ordering.TheVariants.{Less, Equal, Greater}
use Rattle.std.specs.Ordering.{is_eq}
use Rattle.ipam_addr.specs.Shape.{AddrValue, CidrValue}
use Rattle.ipam_block.specs.Order.{cidr_cmp}
use Rattle.ipam_block.specs.Shape as block
use Rattle.ipam_block.specs.declared.allocation.Allocation.{Allocation}
use Rattle.ipam_block.specs.Operations.{ordinal_address, room}
use Rattle.ipam_records.specs.declared.record.Record.TheVariants as record_of
use Rattle.ipam_records.specs.BlockLists.{is_node, has_queue, cidrs_where, cidrs_of_node, cidrs_unowned, cidrs_roomy}
use Rattle.ipam_records.specs.KeyOrderLaws.{cidrs_same}
use Rattle.ipam_model.specs.Reads.{StoredRecord}
use Rattle.ipam_model.specs.Usable.{is_same_cidr}
use Rattle.ipam_model.specs.Choice.{is_block_at, block_in_found, is_unowned_and_empty, Rank, Own as OwnRank, Unconfirmed as UnconfirmedRank, Unclaimed as UnclaimedRank, Foreign as ForeignRank, Ranked, if_rank}
use Rattle.ipam_choice.specs.declared.level.Level.{Level}
use Rattle.ipam_choice.specs.declared.level.Level.TheVariants.{Own, Unconfirmed, Unclaimed, Foreign}
use Rattle.ipam_choice.specs.Level.{level_number}
use Rattle.ipam_choice.specs.Sight.{Sight, block_under, rank_by_room, rank_of_found, rank_listed}
use Rattle.ipam_choice.specs.Scanned.{IsListFor}
use Rattle.ipam_choice.specs.First.{Has}

is_equal : (o : Ordering) → is_eq o ≡ true → o ≡ Equal
is_equal Less e = absurd (cc e)
is_equal Equal e = refl
is_equal Greater e = absurd (cc e)

-- ---- a block that is found is in each list whose test it passes
module _ (passes : block.BlockValue → Bool) (cidr : CidrValue) (found : ℕ × block.BlockValue) (ok : passes found.1 ≡ true) where
  at_head : (b : block.BlockValue) (rest : List CidrValue) → b ≡ found.1 → b.cidr ≡ cidr → Has cidr (cons_option (cond (passes b) (Some b.cidr) None) rest)
  at_head b rest same is =
      let passed : passes b ≡ true = ap passes same ∙ ok in
      subst (λ (v : Bool). Has cidr (cons_option (cond v (Some b.cidr) None) rest)) (sym passed) (inl is)

  in_tail : (v : Bool) (first : CidrValue) (rest : List CidrValue) → Has cidr rest → Has cidr (cons_option (cond v (Some first) None) rest)
  in_tail true first rest has = inr has
  in_tail false first rest has = has

  pub block_in_list : (rows : List StoredRecord) → block_under rows cidr ≡ Some found → Has cidr (cidrs_where passes rows)
  block_in_list [] e = absurd (cc e)
  block_in_list ((revision, record_of.Config c) ∷ rows) e = block_in_list rows e
  block_in_list ((revision, record_of.Pools p) ∷ rows) e = block_in_list rows e
  block_in_list ((revision, record_of.Reservations r) ∷ rows) e = block_in_list rows e
  block_in_list ((revision, record_of.Block b) ∷ rows) e = by (block_in_list rows) (is_same_cidr b.cidr cidr) refl e
    where
      by : (block_under rows cidr ≡ Some found → Has cidr (cidrs_where passes rows)) → (v : Bool) → is_same_cidr b.cidr cidr ≡ v → block_in_found (cond v (Some (revision, record_of.Block b)) (find (is_block_at cidr) rows)) ≡ Some found → Has cidr (cons_option (cond (passes b) (Some b.cidr) None) (cidrs_where passes rows))
      by rest true same f =
          let pair : (revision, b) ≡ found = cc f in
          at_head b (cidrs_where passes rows) (ap (λ (x : ℕ × block.BlockValue). x.1) pair) (cidrs_same b.cidr cidr (is_equal (cidr_cmp b.cidr cidr) same))
      by rest false other f = in_tail (passes b) b.cidr (cidrs_where passes rows) (rest f)
  block_in_list ((revision, record_of.Affinity a) ∷ rows) e = block_in_list rows e
  block_in_list ((revision, record_of.Handle h) ∷ rows) e = block_in_list rows e

-- ---- a block with a rank passes the test of the list
queued : (reserved : AddrValue → Bool) (cidr : CidrValue) (queue : List ℕ) (ordinal : ℕ) → find (λ o. not (reserved (ordinal_address cidr o))) queue ≡ Some ordinal → has_queue queue ≡ true
queued reserved cidr [] ordinal e = absurd (cc e)
queued reserved cidr (o ∷ queue) ordinal e = refl

unowned : (cidr : CidrValue) (node : Option (List ℕ)) (allocations : List Allocation) (queue : List ℕ) (sequence : ℕ) (may : Bool)
    → (is_unowned_and_empty (record { cidr = cidr; node = node; allocations = allocations; queue = queue; sequence = sequence }) && may) ≡ true
    → is_none node ≡ true
unowned cidr None allocations queue sequence may e = refl
unowned cidr (Some node) allocations queue sequence may e = absurd (cc e)

abbrev PassesFor : Sight → Level → block.BlockValue → Type 0
PassesFor sight Own b = (is_node sight.node b.node ≡ true) × (has_queue b.queue ≡ true)
PassesFor sight Unconfirmed b = (is_node sight.node b.node ≡ true) × (has_queue b.queue ≡ true)
PassesFor sight Unclaimed b = (is_none b.node ≡ true) × (sight.may_claim ≡ true)
PassesFor sight Foreign b = (has_queue b.queue ≡ true) × (sight.strict ≡ false)

module _ (sight : Sight) (slot : CidrValue) (x : Ranked) (found : ℕ × block.BlockValue) where
  abbrev rank_from : (own confirmed free strict : Bool) → ℕ → Option Rank
  rank_from own confirmed free strict ordinal =
      cond own (cond confirmed (Some (OwnRank found ordinal)) (Some (UnconfirmedRank found)))
      (cond free (Some (UnclaimedRank (Some found))) (cond strict None (Some (ForeignRank found ordinal))))

  -- a rank of these levels is that of a block of the node
  own_node : (own confirmed free strict : Bool) (ordinal : ℕ) → if_rank 0 slot (rank_from own confirmed free strict ordinal) ≡ Some x → own ≡ true
  own_node true confirmed free strict ordinal e = refl
  own_node false confirmed true strict ordinal e = absurd (cc e)
  own_node false confirmed false true ordinal e = absurd (cc e)
  own_node false confirmed false false ordinal e = absurd (cc e)

  unconfirmed_node : (own confirmed free strict : Bool) (ordinal : ℕ) → if_rank 1 slot (rank_from own confirmed free strict ordinal) ≡ Some x → own ≡ true
  unconfirmed_node true confirmed free strict ordinal e = refl
  unconfirmed_node false confirmed true strict ordinal e = absurd (cc e)
  unconfirmed_node false confirmed false true ordinal e = absurd (cc e)
  unconfirmed_node false confirmed false false ordinal e = absurd (cc e)

  unclaimed_free : (own confirmed free strict : Bool) (ordinal : ℕ) → if_rank 2 slot (rank_from own confirmed free strict ordinal) ≡ Some x → free ≡ true
  unclaimed_free true true free strict ordinal e = absurd (cc e)
  unclaimed_free true false free strict ordinal e = absurd (cc e)
  unclaimed_free false confirmed true strict ordinal e = refl
  unclaimed_free false confirmed false true ordinal e = absurd (cc e)
  unclaimed_free false confirmed false false ordinal e = absurd (cc e)

  foreign_lax : (own confirmed free strict : Bool) (ordinal : ℕ) → if_rank 3 slot (rank_from own confirmed free strict ordinal) ≡ Some x → strict ≡ false
  foreign_lax true true free strict ordinal e = absurd (cc e)
  foreign_lax true false free strict ordinal e = absurd (cc e)
  foreign_lax false confirmed true strict ordinal e = absurd (cc e)
  foreign_lax false confirmed false true ordinal e = absurd (cc e)
  foreign_lax false confirmed false false ordinal e = refl

  ranked_passes : (level : Level) (r : Option ℕ) → room sight.reserved found.1 ≡ r → if_rank (level_number level) slot (rank_by_room sight found r) ≡ Some x → PassesFor sight level found.1
  ranked_passes level None is e = absurd (cc e)
  ranked_passes Own (Some ordinal) is e = (own_node _ _ _ _ ordinal e, queued sight.reserved found.1.cidr found.1.queue ordinal is)
  ranked_passes Unconfirmed (Some ordinal) is e = (unconfirmed_node _ _ _ _ ordinal e, queued sight.reserved found.1.cidr found.1.queue ordinal is)
  ranked_passes Unclaimed (Some ordinal) is e =
      let b = found.1 in
      let free = unclaimed_free (is_node sight.node b.node) (sight.confirmed b.cidr) (is_unowned_and_empty b && sight.may_claim) sight.strict ordinal e in
      (unowned b.cidr b.node b.allocations b.queue b.sequence sight.may_claim free, (and_parts (is_unowned_and_empty b) sight.may_claim free).1)
  ranked_passes Foreign (Some ordinal) is e =
      let b = found.1 in
      (queued sight.reserved b.cidr b.queue ordinal is, foreign_lax (is_node sight.node b.node) (sight.confirmed b.cidr) (is_unowned_and_empty b && sight.may_claim) sight.strict ordinal e)

  own_in : (list : List CidrValue) → (list ≡ cidrs_of_node sight.node sight.blocks) ⊎ (list ≡ cidrs_roomy sight.blocks)
      → (is_node sight.node found.1.node ≡ true) × (has_queue found.1.queue ≡ true) → block_under sight.blocks slot ≡ Some found → Has slot list
  own_in list (inl own) ok is = subst (λ (xs : List CidrValue). Has slot xs) (sym own) (block_in_list (λ b. is_node sight.node b.node) slot found ok.0 sight.blocks is)
  own_in list (inr roomy) ok is = subst (λ (xs : List CidrValue). Has slot xs) (sym roomy) (block_in_list (λ b. has_queue b.queue) slot found ok.1 sight.blocks is)

  in_list_for : (level : Level) (list : List CidrValue) → IsListFor sight level list → PassesFor sight level found.1 → block_under sight.blocks slot ≡ Some found → Has slot list
  in_list_for Own list own ok is = own_in list own ok is
  in_list_for Unconfirmed list own ok is = own_in list own ok is
  in_list_for Unclaimed list all ok is =
      subst (λ (xs : List CidrValue). Has slot xs) (sym all)
      (subst (λ (b : Bool). Has slot (cond b (cidrs_unowned sight.blocks) [])) (sym ok.1) (block_in_list (λ b. is_none b.node) slot found ok.0 sight.blocks is))
  in_list_for Foreign list all ok is =
      subst (λ (xs : List CidrValue). Has slot xs) (sym all)
      (subst (λ (b : Bool). Has slot (cond b [] (cidrs_roomy sight.blocks))) (sym ok.1) (block_in_list (λ b. has_queue b.queue) slot found ok.0 sight.blocks is))

pub complete : (sight : Sight) (level : Level) (list : List CidrValue) (slot : CidrValue) (x : Ranked) → IsListFor sight level list → if_rank (level_number level) slot (rank_listed sight slot) ≡ Some x → Has slot list
complete sight level list slot x all e = by (block_under sight.blocks slot) refl e
  where
    by : (o : Option (ℕ × block.BlockValue)) → block_under sight.blocks slot ≡ o → if_rank (level_number level) slot (rank_of_found sight o) ≡ Some x → Has slot list
    by None is f = absurd (cc f)
    by (Some found) is f = in_list_for sight slot x found level list all (ranked_passes sight slot x found level (room sight.reserved found.1) refl f) is
