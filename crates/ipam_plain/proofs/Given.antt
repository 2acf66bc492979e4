-- What an assignment makes of what the blocks hold.
use Rattle.std.proofs.Common.{◌≡◌, ◌≢◌, ◌⊎◌, ℕ, ◌+◌, ◌<◌, ◌≤◌, inl, inr, List, Some, None, refl, sym, ap, ◌∙◌, subst, arith}
use Rattle.std.specs.Prelude.{Contains, nat_lt}
use Rattle.std.specs.List.{count_by}
use Rattle.ipam_addr.specs.Shape.{CidrValue}
use Rattle.ipam_block.specs.declared.allocation.Allocation.{Allocation}
use Rattle.ipam_block.specs.declared.allocation.Attributes.{Attributes}
use Rattle.ipam_block.specs.Operations.{ordinal_address, block_with_ordinal, next_block}
use Rattle.ipam_block.specs.Shape.{BlockValue}
use Rattle.ipam_block.specs.HandleOperations.{with_raised_count}
use Rattle.ipam_records.specs.declared.key.Key.TheVariants as key
use Rattle.ipam_records.specs.declared.record.Record.TheVariants as record_of
use Rattle.ipam_model.specs.Affinities.{BlockRead}
use Rattle.ipam_model.specs.Plain.{PlainGift, Rows, block_in_rows, claimed_block, handle_of, plain_gift, put, with_assigned}
use Rattle.ipam_laws.proofs.BlockSteps.{in-insert}
use Rattle.ipam_laws.proofs.CountLemmas.{cidr_cases}
use Rattle.ipam_laws.proofs.Members.{in-nothing}
use Rattle.ipam_laws.proofs.OwnersEffects.{in-inserted, in-still}
use Rattle.ipam_plain.proofs.Alike.{record_at, record_at-other, record_at-put, value_in}
use Rattle.ipam_plain.proofs.Claiming.{IsClaimedIn}
use Rattle.ipam_plain.proofs.Held.{HeldAt, block-found, found-record}

-- the allocation of what was given
abbrev pub allocation_of : Attributes → PlainGift → Allocation
allocation_of attributes gift = record { ordinal = gift.ordinal; attributes = attributes; stamp = gift.stamp }

-- each block is there still, and written no less often
abbrev pub Grows : (before after : Rows) → Type 0
Grows before after =
    (cidr : CidrValue) (b : BlockValue) → record_at (key.Block cidr) before ≡ Some (record_of.Block b)
    → (later : BlockValue) × (record_at (key.Block cidr) after ≡ Some (record_of.Block later)) × (b.sequence ≤ later.sequence)

-- one allocation more, with a stamp that is later than all of its block
pub record GivesOne (attributes : Attributes) (before : Rows) (gift : PlainGift) (after : Rows) : Type 0 where
  pub was : (c : CidrValue) (a : Allocation) → HeldAt after c a → HeldAt before c a ⊎ ((c ≡ gift.block) × (a ≡ allocation_of attributes gift))
  pub stays : (c : CidrValue) (a : Allocation) → HeldAt before c a → HeldAt after c a
  pub new : HeldAt after gift.block (allocation_of attributes gift)
  pub address : gift.address ≡ ordinal_address gift.block gift.ordinal
  pub later : (b : BlockValue) → record_at (key.Block gift.block) before ≡ Some (record_of.Block b) → b.sequence < gift.stamp
  pub grows : Grows before after

pub assigned-gives : (attributes : Attributes) (rows : Rows) (revision : ℕ) (b : BlockValue) (ordinal : ℕ) → record_at (key.Block b.cidr) rows ≡ Some (record_of.Block b) → GivesOne attributes rows (plain_gift (revision, b) ordinal) (with_assigned attributes b ordinal rows)
assigned-gives attributes rows revision b ordinal there = record {
  was = was;
  stays = stays;
  new = (block_with_ordinal (next_block b) ordinal attributes, own, in-inserted b.allocations (count_by (λ (x : Allocation). nat_lt x.ordinal ordinal) b.allocations) (record { ordinal = ordinal; attributes = attributes; stamp = b.sequence + 1 }));
  address = refl;
  later = λ x at. let same = is-it x at in let sequence = ap (λ (y : BlockValue). y.sequence) same in omega arith;
  grows = grows;
}
  where
    own : record_at (key.Block b.cidr) (with_assigned attributes b ordinal rows) ≡ Some (record_of.Block (block_with_ordinal (next_block b) ordinal attributes))
    own = record_at-put (0, record_of.Block (block_with_ordinal (next_block b) ordinal attributes)) (put (record_of.Handle (with_raised_count (handle_of attributes.handle rows) b.cidr 1)) rows)

    other : (c : CidrValue) → c ≢ b.cidr → record_at (key.Block c) (with_assigned attributes b ordinal rows) ≡ record_at (key.Block c) rows
    other c differ =
        let handle = record_of.Handle (with_raised_count (handle_of attributes.handle rows) b.cidr 1) in
        record_at-other (key.Block c) (0, record_of.Block (block_with_ordinal (next_block b) ordinal attributes)) (put handle rows) (λ e. differ (sym (cc e)))
        ∙ record_at-other (key.Block c) (0, handle) rows (λ e. cc e)

    is-it : (x : BlockValue) → record_at (key.Block b.cidr) rows ≡ Some (record_of.Block x) → x ≡ b
    is-it x at = let both : Some (record_of.Block x) ≡ Some (record_of.Block b) = sym at ∙ there in cc both

    was : (c : CidrValue) (a : Allocation) → HeldAt (with_assigned attributes b ordinal rows) c a → HeldAt rows c a ⊎ ((c ≡ b.cidr) × (a ≡ record { ordinal = ordinal; attributes = attributes; stamp = b.sequence + 1 }))
    was c a (x, at, among) = elim (cidr_cases c b.cidr) [
      | inr (f, differ) ↦ inl (x, sym (other c differ) ∙ at, among)
      | inl (t, same) ↦
          let here = subst (λ (k : CidrValue). record_at (key.Block k) (with_assigned attributes b ordinal rows) ≡ Some (record_of.Block x)) same at in
          let both : Some (record_of.Block x) ≡ Some (record_of.Block (block_with_ordinal (next_block b) ordinal attributes)) = sym here ∙ own in
          let is : x ≡ block_with_ordinal (next_block b) ordinal attributes = cc both in
          let inside : Contains (block_with_ordinal (next_block b) ordinal attributes).allocations a = subst (λ (y : BlockValue). Contains y.allocations a) is among in
          elim (in-insert b.allocations (count_by (λ (y : Allocation). nat_lt y.ordinal ordinal) b.allocations) (record { ordinal = ordinal; attributes = attributes; stamp = b.sequence + 1 }) a inside) [
            | inl new ↦ inr (same, sym new)
            | inr old ↦ inl (b, subst (λ (k : CidrValue). record_at (key.Block k) rows ≡ Some (record_of.Block b)) (sym same) there, old)
          ]
    ]

    stays : (c : CidrValue) (a : Allocation) → HeldAt rows c a → HeldAt (with_assigned attributes b ordinal rows) c a
    stays c a (x, at, among) = elim (cidr_cases c b.cidr) [
      | inr (f, differ) ↦ (x, other c differ ∙ at, among)
      | inl (t, same) ↦
          let here = subst (λ (k : CidrValue). record_at (key.Block k) rows ≡ Some (record_of.Block x)) same at in
          let inside = subst (λ (y : BlockValue). Contains y.allocations a) (is-it x here) among in (
            block_with_ordinal (next_block b) ordinal attributes,
            subst (λ (k : CidrValue). record_at (key.Block k) (with_assigned attributes b ordinal rows) ≡ Some (record_of.Block (block_with_ordinal (next_block b) ordinal attributes))) (sym same) own,
            in-still b.allocations (count_by (λ (y : Allocation). nat_lt y.ordinal ordinal) b.allocations) (record { ordinal = ordinal; attributes = attributes; stamp = b.sequence + 1 }) a inside,
          )
    ]

    grows : Grows rows (with_assigned attributes b ordinal rows)
    grows c x at = elim (cidr_cases c b.cidr) [
      | inr (f, differ) ↦ (x, other c differ ∙ at, omega arith)
      | inl (t, same) ↦
          let here = subst (λ (k : CidrValue). record_at (key.Block k) rows ≡ Some (record_of.Block x)) same at in
          let sequence = ap (λ (y : BlockValue). y.sequence) (is-it x here) in
          (block_with_ordinal (next_block b) ordinal attributes, subst (λ (k : CidrValue). record_at (key.Block k) (with_assigned attributes b ordinal rows) ≡ Some (record_of.Block (block_with_ordinal (next_block b) ordinal attributes))) (sym same) own, omega arith)
    ]

-- ---- a claim

-- the block that is claimed holds what it held
module _ (node : List ℕ) (slot : CidrValue) (rows after : Rows) (h : IsClaimedIn rows after node slot (claimed_block node slot (block_in_rows slot rows))) where
  kept-elsewhere : (c : CidrValue) → c ≢ slot → record_at (key.Block c) after ≡ record_at (key.Block c) rows
  kept-elsewhere c differ = h.others (key.Block c) (λ e. differ (sym (cc e))) (λ e. cc e)

  pub claimed-was : (c : CidrValue) (a : Allocation) → HeldAt after c a → HeldAt rows c a
  claimed-was c a (x, at, among) = elim (cidr_cases c slot) [
    | inr (f, differ) ↦ (x, sym (kept-elsewhere c differ) ∙ at, among)
    | inl (t, same) ↦
        let here = subst (λ (k : CidrValue). record_at (key.Block k) after ≡ Some (record_of.Block x)) same at in
        let both : Some (record_of.Block x) ≡ Some (record_of.Block (claimed_block node slot (block_in_rows slot rows))) = sym here ∙ h.has_block in
        let is : x ≡ claimed_block node slot (block_in_rows slot rows) = cc both in
        subst (λ (k : CidrValue). HeldAt rows k a) (sym same) (by (block_in_rows slot rows) refl (subst (λ (y : BlockValue). Contains y.allocations a) is among))
  ]
    where
      by : (o : BlockRead) → block_in_rows slot rows ≡ o → Contains (claimed_block node slot o).allocations a → HeldAt rows slot a
      by None e inside = absurd (in-nothing a inside)
      by (Some found) e inside = (found.1, found-record rows slot found.1 (ap value_in e), inside)

  -- and is written once more
  pub claimed-grows : Grows rows after
  claimed-grows c x at = elim (cidr_cases c slot) [
    | inr (f, differ) ↦ (x, kept-elsewhere c differ ∙ at, omega arith)
    | inl (t, same) ↦
        let here = subst (λ (k : CidrValue). record_at (key.Block k) rows ≡ Some (record_of.Block x)) same at in
        (claimed_block node slot (block_in_rows slot rows), subst (λ (k : CidrValue). record_at (key.Block k) after ≡ Some (record_of.Block (claimed_block node slot (block_in_rows slot rows)))) (sym same) h.has_block, by (block_in_rows slot rows) (block-found rows slot x here))
  ]
    where
      by : (o : BlockRead) → value_in o ≡ Some x → x.sequence ≤ (claimed_block node slot o).sequence
      by None e = absurd (cc e)
      by (Some found) e = let same : found.1 ≡ x = cc e in let sequence = ap (λ (y : BlockValue). y.sequence) same in omega arith

  pub claimed-stays : (c : CidrValue) (a : Allocation) → HeldAt rows c a → HeldAt after c a
  claimed-stays c a (x, at, among) = elim (cidr_cases c slot) [
    | inr (f, differ) ↦ (x, kept-elsewhere c differ ∙ at, among)
    | inl (t, same) ↦
        let here = subst (λ (k : CidrValue). record_at (key.Block k) rows ≡ Some (record_of.Block x)) same at in
        (claimed_block node slot (block_in_rows slot rows), subst (λ (k : CidrValue). record_at (key.Block k) after ≡ Some (record_of.Block (claimed_block node slot (block_in_rows slot rows)))) (sym same) h.has_block, by (block_in_rows slot rows) (block-found rows slot x here))
  ]
    where
      by : (o : BlockRead) → value_in o ≡ Some x → Contains (claimed_block node slot o).allocations a
      by None e = absurd (cc e)
      by (Some found) e = let same : found.1 ≡ x = cc e in subst (λ (y : BlockValue). Contains y.allocations a) (sym same) among

pub grows-trans : (one two three : Rows) → Grows one two → Grows two three → Grows one three
grows-trans one two three h g cidr b at =
    let (middle, there, least) = h cidr b at in
    let (last, then, more) = g cidr middle there in
    (last, then, omega arith)

-- an assignment after a claim
pub claimed-gives : (attributes : Attributes) (node : List ℕ) (slot : CidrValue) (rows after then : Rows) (gift : PlainGift) → IsClaimedIn rows after node slot (claimed_block node slot (block_in_rows slot rows)) → GivesOne attributes after gift then → GivesOne attributes rows gift then
claimed-gives attributes node slot rows after then gift h g = record {
  was = λ c a held. elim (g.was c a held) [ inl old ↦ inl (claimed-was node slot rows after h c a old) | inr new ↦ inr new ];
  stays = λ c a held. g.stays c a (claimed-stays node slot rows after h c a held);
  new = g.new;
  address = g.address;
  later = λ b at. let (next, there, least) = claimed-grows node slot rows after h gift.block b at in let less = g.later next there in omega arith;
  grows = grows-trans rows after then (claimed-grows node slot rows after h) g.grows;
}
