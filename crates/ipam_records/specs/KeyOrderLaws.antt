-- The order of keys is total, and it tells any two keys apart.
use Rattle.std.specs.Prelude.{◌≡◌, ◌≢◌, ℕ, zero, suc, ◌<◌, true, false, List, Option, Some, None, refl}
use Rattle.std.proofs.lemmas.Bool.{cases_Bool}
use Rattle.std.proofs.Common.{inl, inr, sym, ap, ◌∙◌, subst, arith, ◌↔◌, IsTrue}
use Rattle.std.specs.declared.cmp.Ordering.{Ordering}
use Rattle.std.specs.declared.cmp.Ordering.TheVariants.{Less, Equal, Greater}
use Rattle.std.specs.Ordering.{MatchOrdering, nat_cmp, ordering_then, is_eq}
use Rattle.std.specs.Option.{option_cmp}
use Rattle.std.specs.Cmp.{IsTotalOrder, IsEquivalence, nat_cmp_total, on_total, then_total, eq_by_cmp_equiv, ranks}
use Rattle.std.specs.Cmp.Lexicographic.{slice_cmp, nat_list_cmp_total, options_total, texts_ties}
use Rattle.std.proofs.lemmas.Slice.Eq.{bytes_eq-Decides}
use Rattle.ipam_addr.specs.declared.address.Family.{Family}
use Rattle.ipam_addr.specs.declared.address.Family.TheVariants.{V4, V6}
use Rattle.ipam_addr.specs.Shape.{CidrValue}
use Rattle.ipam_block.specs.Order.{family_rank, cidr_cmp}
use Rattle.ipam_records.specs.declared.key.Key.{Key}
use Rattle.ipam_records.specs.declared.key.Key.TheVariants.{Config, Pools, Reservations, Block, Affinity, Handle}
use Rattle.ipam_records.specs.KeyOrder.{key_rank, key_name, key_block, key_cmp, keys_equal}

pub cidr_cmp_total : IsTotalOrder cidr_cmp
cidr_cmp_total =
    then_total (on_total (λ (r : CidrValue). family_rank r.family) nat_cmp_total)
    (then_total (on_total (λ (r : CidrValue). r.base) nat_cmp_total) (on_total (λ (r : CidrValue). r.prefix) nat_cmp_total))

pub key_cmp_total : IsTotalOrder key_cmp
key_cmp_total =
    then_total (on_total key_rank nat_cmp_total)
    (then_total (on_total key_name nat_list_cmp_total) (on_total key_block (options_total cidr_cmp_total)))

pub keys_equal_equiv : IsEquivalence keys_equal
keys_equal_equiv = eq_by_cmp_equiv key_cmp_total

-- ---- what the order does not tell apart is the same
then_equal : (a b : Ordering) → ordering_then a b ≡ Equal → (a ≡ Equal) × (b ≡ Equal)
then_equal Less b e = cc
then_equal Equal b e = (refl, e)
then_equal Greater b e = cc

numbers_same : (m n : ℕ) → nat_cmp m n ≡ Equal → m ≡ n
numbers_same m n e = let P : Ordering → Type 0 = λ o. MatchOrdering o (m < n) (m ≡ n) (n < m) in subst P e (ranks m n)

names_same : (xs ys : List ℕ) → slice_cmp nat_cmp xs ys ≡ Equal → xs ≡ ys
names_same xs ys e = (bytes_eq-Decides xs ys).0 (texts_ties xs ys ∙ ap is_eq e)

families_same : (f g : Family) → family_rank f ≡ family_rank g → f ≡ g
families_same V4 V4 e = refl
families_same V4 V6 e = absurd (omega arith)
families_same V6 V4 e = absurd (omega arith)
families_same V6 V6 e = refl

pub cidrs_same : (r s : CidrValue) → cidr_cmp r s ≡ Equal → r ≡ s
cidrs_same r s e =
    let (families, rest) = then_equal (nat_cmp (family_rank r.family) (family_rank s.family)) _ e in
    let (bases, prefixes) = then_equal (nat_cmp r.base s.base) _ rest in
    let family = families_same r.family s.family (numbers_same _ _ families) in
    let base = numbers_same _ _ bases in
    let prefix = numbers_same _ _ prefixes in
    λ i. record { family = family i; base = base i; prefix = prefix i }

blocks_same : (o p : Option CidrValue) → option_cmp cidr_cmp o p ≡ Equal → o ≡ p
blocks_same None None e = refl
blocks_same None (Some s) e = cc
blocks_same (Some r) None e = cc
blocks_same (Some r) (Some s) e = ap Some (cidrs_same r s e)

-- the key of this rank, name and block
abbrev key_from : ℕ → List ℕ → Option CidrValue → Key
key_from zero name block = Config
key_from (suc zero) name block = Pools
key_from (suc (suc zero)) name block = Reservations
key_from (suc (suc (suc zero))) name (Some cidr) = Block cidr
key_from (suc (suc (suc (suc zero)))) name (Some cidr) = Affinity name cidr
key_from _ name block = Handle name

key_from-parts : (k : Key) → key_from (key_rank k) (key_name k) (key_block k) ≡ k
key_from-parts Config = refl
key_from-parts Pools = refl
key_from-parts Reservations = refl
key_from-parts (Block cidr) = refl
key_from-parts (Affinity node cidr) = refl
key_from-parts (Handle id) = refl

keys_same : (k l : Key) → key_cmp k l ≡ Equal → k ≡ l
keys_same k l e =
    let (ranks, rest) = then_equal (nat_cmp (key_rank k) (key_rank l)) _ e in
    let (names, blocks) = then_equal (slice_cmp nat_cmp (key_name k) (key_name l)) _ rest in
    let rank = numbers_same _ _ ranks in
    let name = names_same _ _ names in
    let block = blocks_same _ _ blocks in
    sym (key_from-parts k) ∙ ((λ i. key_from (rank i) (name i) (block i)) ∙ key_from-parts l)

is_equal : (o : Ordering) → is_eq o ≡ true → o ≡ Equal
is_equal Less e = cc
is_equal Equal e = refl
is_equal Greater e = cc

-- equal keys are one key
pub same-keys_equal : (k l : Key) → keys_equal k l ≡ true → k ≡ l
same-keys_equal k l e = keys_same k l (is_equal (key_cmp k l) e)

pub keys_equal-itself : (k : Key) → keys_equal k k ≡ true
keys_equal-itself k = keys_equal_equiv.refl k

pub keys_equal-is : (k l : Key) → IsTrue (keys_equal k l) ↔ (k ≡ l)
keys_equal-is k l = (same-keys_equal k l, λ e. subst (λ (x : Key). IsTrue (keys_equal k x)) e (keys_equal-itself k))

pub keys_equal-other : (k l : Key) → k ≢ l → keys_equal k l ≡ false
keys_equal-other k l other = elim (cases_Bool (keys_equal k l)) [
  | inl same ↦ absurd (other (same-keys_equal k l same))
  | inr differ ↦ differ
]
