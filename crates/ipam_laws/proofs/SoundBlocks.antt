-- Which blocks that are written are sound.
use Rattle.std.proofs.Common.{◌≡◌, ℕ, ◌+◌, ◌-◌, ◌/◌, ◌^◌, ◌<◌, ◌≤◌, inl, inr, Bool, true, false, cond, List, [], ◌∷◌, Option, Some, None, refl, sym, ◌∙◌, subst, arith}
use Rattle.std.specs.Prelude.{not, ◌==◌, nat_lt}
use Rattle.std.specs.List.{find, list_any, count_by}
use Rattle.std.proofs.Math.Pow.{pow_mono}
use Rattle.std.proofs.lemmas.Bool.{cases_Bool}
use Rattle.std.proofs.lemmas.List.Elements.{All-contains, All-cons, All-filter}
use Rattle.std.proofs.lemmas.List.Sorted.{IsPermutation-refl, IsPermutation-insert, All-permutation}
use Rattle.ipam_addr.specs.Shape.{AddrValue, CidrValue}
use Rattle.ipam_addr.specs.Width.{IsCidr, cidr_size, size_of}
use Rattle.ipam_addr.specs.Holding.{Holds, holds_address}
use Rattle.ipam_addr.specs.Slots.{HasSlots, slot_of}
use Rattle.ipam_addr.proofs.HoldingLemmas.{holds_from}
use Rattle.ipam_addr.proofs.SlotLemmas.{size_within, slot_sound, slot_number_last, slot_number_holds}
use Rattle.ipam_pool.specs.declared.pools.Pool.{Pool}
use Rattle.ipam_pool.specs.Slots.{IsSlotOf}
use Rattle.ipam_block.specs.declared.allocation.Allocation.{Allocation}
use Rattle.ipam_block.specs.declared.allocation.Attributes.{Attributes}
use Rattle.ipam_block.specs.Shape.{BlockValue}
use Rattle.ipam_block.specs.Operations.{fresh_block, next_block, affine_to, block_with_ordinal, block_without, holder, is_held}
use Rattle.ipam_block.specs.Sound.{IsBlock, IsBlockCidr, AreAttributes, IsNode, IsBlockRecord, ordinals_below}
use Rattle.ipam_block.proofs.Assigning.{IsBlock-assigned}
use Rattle.ipam_block.proofs.Freeing.{IsBlock-freed}
use Rattle.ipam_block.proofs.FreeOrdinals.{queued-free}
use Rattle.ipam_block.proofs.Ordinals.{queued-below}
use Rattle.ipam_records.specs.declared.key.Key.{Key}
use Rattle.ipam_records.specs.declared.key.Key.TheVariants as key
use Rattle.ipam_records.specs.declared.record.Record.{Record}
use Rattle.ipam_records.specs.declared.record.Record.TheVariants as record_of
use Rattle.ipam_records.specs.Sound.{IsName, IsRecord, IsPoolsRecord}
use Rattle.ipam_model.specs.AddThis.{slot_holding}
use Rattle.ipam_model.specs.Affinities.{BlockRead, other_node}
use Rattle.ipam_model.specs.Assigning.{Target}
use Rattle.ipam_laws.proofs.Lift.{Known}
use Rattle.ipam_laws.proofs.Steps.{IsKnownPool, IsSlotIn, IsKnownSlot, IsFree, taken, bared}
use Rattle.ipam_records.specs.BlockLists.{is_node}

-- ---- what is known is sound

pub record IsSoundKnown (known : Known) : Type 0 where
  pub sound : (k : Key) (revision : ℕ) (found : Record) → known k revision found → IsRecord found

-- ---- slots of pools

-- a pool that was read has slots
pub known-pool-sound : (known : Known) (pool : Pool) → IsSoundKnown known → IsKnownPool known pool → IsCidr pool.cidr × HasSlots pool.cidr pool.size
known-pool-sound known pool sound (revision, pools, was, among) =
    let table : IsPoolsRecord pools = sound.sound key.Pools revision (record_of.Pools pools) was in
    (All-contains (λ (p : Pool). IsCidr p.cidr) pools pool table.table.ranges among, All-contains (λ (p : Pool). HasSlots p.cidr p.size) pools pool table.table.sizes among)

-- the slot that holds an address of the pool
pub holding-number : (pool : Pool) (address : AddrValue) → holds_address pool.cidr address ≡ true → slot_holding pool address ≡ slot_of pool.cidr pool.size ((address.number - pool.cidr.base) / size_of pool.cidr.family pool.size)
holding-number pool address e = rw e refl

pub slot-of-pool : (pool : Pool) (cidr : CidrValue) → HasSlots pool.cidr pool.size → IsSlotIn pool cidr → IsSlotOf pool cidr
slot-of-pool pool cidr has (inl is) = is
slot-of-pool pool cidr has (inr (address, holds, is)) = record {
  number = (address.number - pool.cidr.base) / size_of pool.cidr.family pool.size;
  within = slot_number_last pool.cidr pool.size address has (holds_from pool.cidr address holds);
  is = is ∙ holding-number pool address holds;
}

slot-block-cidr : (pool : Pool) (cidr : CidrValue) → IsCidr pool.cidr → HasSlots pool.cidr pool.size → IsSlotOf pool cidr → IsBlockCidr cidr
slot-block-cidr pool cidr range has at =
    subst (λ (x : CidrValue). IsBlockCidr x) (sym at.is) (record {
      range = slot_sound pool.cidr pool.size at.number range has at.within;
      small = small;
    })
  where
    small : cidr_size (slot_of pool.cidr pool.size at.number) ≤ 4096
    small = pow_mono (size_within pool.cidr.family pool.size has.allowed).1

pub known-slot-sound : (known : Known) (cidr : CidrValue) → IsSoundKnown known → IsKnownSlot known cidr → IsBlockCidr cidr
known-slot-sound known cidr sound (pool, was, at) =
    let (range, has) = known-pool-sound known pool sound was in
    slot-block-cidr pool cidr range has (slot-of-pool pool cidr has at)

-- ---- ordinals that are free

-- an ordinal that nobody holds
holder-free : (b : BlockValue) (o : ℕ) → holder b o ≡ None → is_held b o ≡ false
holder-free b o e = from b.allocations e
  where
    from : (xs : List Allocation) → find (λ a. a.ordinal == o) xs ≡ None → list_any (λ a. a.ordinal == o) xs ≡ false
    from [] f = refl
    from (x ∷ xs) f = elim (cases_Bool (x.ordinal == o)) [
      | inl same ↦ let g : Some x ≡ None = rw same at f in absurd (cc g)
      | inr differ ↦ rw differ (from xs (rw differ at f))
    ]

-- what is free is an ordinal of the block, and not held
pub free-sound : (known : Known) (target : Target) → IsSoundKnown known → IsBlock target.block → IsFree known target → (target.ordinal < cidr_size target.block.cidr) × (is_held target.block target.ordinal ≡ false)
free-sound known target sound h (inl queued) = (queued-below target.block queued.0 target.ordinal h queued.1 (sym queued.2), queued-free target.block target.ordinal h queued)
free-sound known target sound h (inr (free, pool, address, was, holds, slot, ordinal)) =
    let held = slot_number_holds pool.cidr pool.size address (holds_from pool.cidr address holds) in
    let here : Holds target.block.cidr address = subst (λ (x : CidrValue). Holds x address) (sym (slot ∙ holding-number pool address holds)) held in
    let from = here.from_base in
    let below = here.below_end in
    (omega arith, holder-free target.block target.ordinal free)

-- ---- blocks

-- the limits of a block that is written, at a sequence number below that of its write
next-sound : (b : BlockValue) → IsBlock b → IsBlock (next_block b)
next-sound b h = record {
  range = h.range;
  small = h.small;
  ascending = h.ascending;
  each_once = h.each_once;
  stamped = λ k d within. let (some, most) = h.stamped k d within in (some, omega arith);
}

fresh-sound : (cidr : CidrValue) (owner : Option (List ℕ)) → IsBlockCidr cidr → IsBlock (fresh_block cidr owner)
fresh-sound cidr owner h = record {
  range = h.range;
  small = h.small;
  ascending = λ i j d below within. absurd (omega arith);
  each_once = IsPermutation-refl (ordinals_below (cidr_size cidr));
  stamped = λ k d within. absurd (omega arith);
}

affine-sound : (b : BlockValue) (owner : Option (List ℕ)) → IsBlock b → IsBlock (affine_to owner b)
affine-sound b owner h = record { range = h.range; small = h.small; ascending = h.ascending; each_once = h.each_once; stamped = h.stamped }

fresh-record : (cidr : CidrValue) (owner : Option (List ℕ)) → IsBlockCidr cidr → IsNode owner → IsBlockRecord (fresh_block cidr owner)
fresh-record cidr owner h named = record { block = fresh-sound cidr owner h; node = named; attributes = λ k d within. absurd (omega arith); counted = omega arith }

affine-record : (b : BlockValue) (owner : Option (List ℕ)) → IsBlockRecord b → b.sequence + 1 < 2 ^ 64 → IsNode owner → IsBlockRecord (affine_to owner (next_block b))
affine-record b owner h counted named = record { block = affine-sound (next_block b) owner (next-sound b h.block); node = named; attributes = h.attributes; counted = counted }

other-named : (node : List ℕ) (held : Option (List ℕ)) → IsNode held → IsNode (other_node node held)
other-named node held h = from (is_node node held)
  where
    from : (b : Bool) → IsNode (cond b None held)
    from true = tt
    from false = h

-- what was read was sound, and written less often than the store
abbrev pub IsSoundRead : BlockRead → Type 0
IsSoundRead None = Unit {0}
IsSoundRead (Some found) = IsBlockRecord found.1 × (found.1.sequence + 1 < 2 ^ 64)

pub taken-record : (node : List ℕ) (cidr : CidrValue) (read : BlockRead) → IsBlockCidr cidr → IsName node → IsSoundRead read → IsBlockRecord (taken node cidr read)
taken-record node cidr None range named h = fresh-record cidr (Some node) range named
taken-record node cidr (Some found) range named h = affine-record found.1 (Some node) h.0 h.1 named

pub bared-record : (node : List ℕ) (cidr : CidrValue) (read : BlockRead) → IsBlockCidr cidr → IsSoundRead read → IsBlockRecord (bared node cidr read)
bared-record node cidr None range h = fresh-record cidr None range tt
bared-record node cidr (Some found) range h = affine-record found.1 (other_node node found.1.node) h.0 h.1 (other-named node found.1.node h.0.node)

pub freed-record : (test : Allocation → Bool) (b : BlockValue) → IsBlockRecord b → b.sequence + 1 < 2 ^ 64 → IsBlockRecord (block_without test (next_block b))
freed-record test b h counted = record {
  block = IsBlock-freed test (next_block b) (next-sound b h.block);
  node = h.node;
  attributes = All-filter (λ a. not (test a)) (λ (a : Allocation). AreAttributes a.attributes) b.allocations h.attributes;
  counted = counted;
}

pub assigned-record : (b : BlockValue) (o : ℕ) (attributes : Attributes) → IsBlockRecord b → b.sequence + 1 < 2 ^ 64 → AreAttributes attributes → o < cidr_size b.cidr → is_held b o ≡ false → IsBlockRecord (block_with_ordinal (next_block b) o attributes)
assigned-record b o attributes h counted named below free =
    let a : Allocation = record { ordinal = o; attributes = attributes; stamp = b.sequence + 1 } in
    record {
      block = IsBlock-assigned (next_block b) o attributes (next-sound b h.block) below (omega arith) free;
      node = h.node;
      attributes = All-permutation (λ (x : Allocation). AreAttributes x.attributes) (a ∷ b.allocations) _ (IsPermutation-insert b.allocations (count_by (λ x. nat_lt x.ordinal o) b.allocations) a) (All-cons (λ (x : Allocation). AreAttributes x.attributes) a b.allocations named h.attributes);
      counted = counted;
    }
