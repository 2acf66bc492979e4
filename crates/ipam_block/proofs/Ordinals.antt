-- The ordinals of a block, counted and moved.
use Rattle.std.proofs.Common.{◌≡◌, ℕ, zero, suc, ◌+◌, ◌^◌, ◌<◌, [], ◌∷◌, ◌++◌, length, ap, sym, arith, add-one, subst, length-append, get_or}
use Rattle.std.specs.Prelude.{All}
use Rattle.std.specs.List.{range_with_len}
use Rattle.std.proofs.lemmas.List.{length-map, get_or-append-add}
use Rattle.std.proofs.lemmas.List.FromFn.{length-range_with_len, get_or-range_with_len}
use Rattle.std.proofs.lemmas.List.Sorted.{All-permutation, length_permutation}
use Rattle.ipam_addr.specs.Shape.{AddrValue, CidrValue}
use Rattle.ipam_addr.specs.Holding.{first_address}
use Rattle.ipam_addr.specs.Width.{cidr_size, address_count, IsCidr}
use Rattle.ipam_addr.proofs.CidrLemmas.{cidr_end-le, address_count-le}
use Rattle.ipam_block.specs.Shape.{BlockValue}
use Rattle.ipam_block.specs.Sound.{IsBlock, ordinals_below, held_ordinals}

range_with_len-more : (a n : ℕ) → range_with_len a (suc n) ≡ range_with_len a n ++ (a + n) ∷ []
range_with_len-more a zero = let e : a ≡ a + 0 = omega arith in ap (λ x. x ∷ []) e
range_with_len-more a (suc n) =
    let e : (a + 1) + n ≡ a + suc n = omega arith in
    ap (λ xs. a ∷ xs) (rw (← e) (range_with_len-more (a + 1) n))

-- one more address, one more ordinal at the end
pub ordinals_below-more : (n : ℕ) → ordinals_below (n + 1) ≡ ordinals_below n ++ n ∷ []
ordinals_below-more n =
    let P : ℕ → Type 0 = λ x. range_with_len 0 (suc n) ≡ range_with_len 0 n ++ x ∷ [] in
    let e : 0 + n ≡ n = omega arith in
    rw add-one (subst P e (range_with_len-more 0 n))

ordinals_below-all : (n : ℕ) → All (λ o. o < n) (ordinals_below n)
ordinals_below-all n i d below =
    let long = length-range_with_len 0 n in
    let within : i < n = omega arith in
    let is = get_or-range_with_len 0 n i d within in
    omega arith

-- each held or queued ordinal is one of the block's
pub shared-below : (b : BlockValue) → IsBlock b → All (λ o. o < cidr_size b.cidr) (held_ordinals b.allocations ++ b.queue)
shared-below b h =
    All-permutation (λ o. o < cidr_size b.cidr) _ _ h.each_once (ordinals_below-all (cidr_size b.cidr))

-- a queued ordinal is one of the block's
pub queued-below : (b : BlockValue) (i o : ℕ) → IsBlock b → i < length b.queue → o ≡ get_or b.queue i o → o < cidr_size b.cidr
queued-below b i o h within is =
    let held = held_ordinals b.allocations in
    let long = length-append held b.queue in
    let below = shared-below b h (length held + i) o (omega arith) in
    let at = get_or-append-add held b.queue i o in
    omega arith

-- held and queued ordinals are as many as the block has addresses
pub shared_count : (b : BlockValue) → IsBlock b → length b.allocations + length b.queue ≡ cidr_size b.cidr
shared_count b h =
    let n = cidr_size b.cidr in
    let same = length_permutation _ _ h.each_once in
    let all = length-range_with_len 0 n in
    let both = length-append (held_ordinals b.allocations) b.queue in
    let held = length-map b.allocations (λ a. a.ordinal) in
    omega arith

-- the address of an ordinal is one of the family
pub ordinal_fits : (r : CidrValue) (base : AddrValue) (o : ℕ) → IsCidr r → base ≡ first_address r → o < cidr_size r → (base.number + o < address_count base.family) × (base.number + o < 2 ^ 128)
ordinal_fits r base o h is below =
    let end = cidr_end-le r h in
    let most = address_count-le r.family in
    let P : AddrValue → Type 0 = λ a. (a.number + o < address_count a.family) × (a.number + o < 2 ^ 128) in
    subst P (sym is) (omega arith, omega arith)
