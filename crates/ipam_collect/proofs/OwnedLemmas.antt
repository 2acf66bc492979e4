-- An owner is recorded in one of the rows exactly where the block of some size around its address
-- has it.
use native.Mathlib.Omega.{arith}
use Rattle.std.proofs.Common.{◌≡◌, ◌⊎◌, inl, inr, ℕ, suc, ◌+◌, ◌-◌, ◌/◌, ◌%◌, ◌^◌, ◌<◌, ◌≤◌, ◌||◌, ◌&&◌, Bool, true, false, cond, List, [], ◌∷◌, ◌*◌, map, Option, Some, Result, Ok, All, refl, sym, ap, ◌∙◌, eqb-true}
use Rattle.std.specs.Prelude.{◌==◌, bytes_eq}
use Rattle.std.specs.List.{list_any, Contains}
use Rattle.std.proofs.lemmas.Bool.{and_parts, cases_Bool, cases_lt}
use Rattle.std.proofs.lemmas.List.Folds.{list_any-append}
use Rattle.std.proofs.lemmas.List.Elements.{All-head, All-tail}
use Rattle.std.proofs.Math.Nat.{pow-le-pow_right, mul-mod_left}
use Rattle.std.proofs.lemmas.Nat.{mod-mul-add, div-add-mod'}
use Rattle.ipam_addr.specs.Shape.{AddrValue, CidrValue}
use Rattle.ipam_addr.specs.declared.address.Family.{Family}
use Rattle.ipam_addr.specs.declared.address.Family.TheVariants.{V4, V6}
use Rattle.ipam_addr.specs.declared.cidrs.AddrFault.{AddrFault}
use Rattle.ipam_addr.specs.Made.{made_cidr}
use Rattle.ipam_addr.specs.Width.{width, address_count, cidr_size, IsCidr}
use Rattle.ipam_addr.proofs.CidrLemmas.{multiple}
use Rattle.ipam_addr.proofs.CidrTextLemmas.{made_cidr-IsCidr}
use Rattle.ipam_addr.proofs.HoldingLemmas.{same_family_from}
use Rattle.ipam_addr.specs.Holding.{is_same_family}
use Rattle.ipam_block.specs.declared.allocation.Allocation.{Allocation}
use Rattle.ipam_block.specs.Shape.{BlockValue}
use Rattle.ipam_block.specs.Operations.{ordinal_address}
use Rattle.ipam_records.specs.declared.key.Key.{Key}
use Rattle.ipam_records.specs.declared.key.Key.TheVariants as key
use Rattle.ipam_records.specs.declared.record.Record.TheVariants as record_of
use Rattle.ipam_records.specs.KeyOrder.{keys_equal}
use Rattle.ipam_records.specs.Datastore.{row_key, row_of}
use Rattle.ipam_records.proofs.BlockMembers.{row_of-contained}
use Rattle.ipam_model.specs.Owners.{Owner, owner_of, same_address, same_owner, is_owner_in, owners_in, owners_in_row}
use Rattle.ipam_model.specs.Reads.{StoredRecord}
use Rattle.ipam_parts.proofs.HeldFacts.{held_below}
use Rattle.ipam_collect.specs.Leaks.{AreSoundRows, block_around, owners_found}

or_left : (a b : Bool) → a ≡ true → (a || b) ≡ true
or_left true b is = refl
or_left false b is = absurd (cc is)

or_right : (a b : Bool) → b ≡ true → (a || b) ≡ true
or_right true b is = refl
or_right false b is = is

either : (a b : Bool) → (a || b) ≡ true → (a ≡ true) ⊎ (b ≡ true)
either true b is = inl refl
either false b is = inr is

-- ---- what is found in a row
pub found_owns : (o : Owner) (named : Key) (rows : List StoredRecord) → list_any (same_owner o) (owners_found (row_of named rows)) ≡ true → is_owner_in rows o ≡ true
found_owns o named [] owns = absurd (cc owns)
found_owns o named (row ∷ rows) owns = by (found_owns o named rows) (keys_equal (row_key row) named) owns
  where
    by : (list_any (same_owner o) (owners_found (row_of named rows)) ≡ true → is_owner_in rows o ≡ true) → (v : Bool) → list_any (same_owner o) (owners_found (cond v (Some row) (row_of named rows))) ≡ true → is_owner_in (row ∷ rows) o ≡ true
    by rest true here =
        list_any-append (same_owner o) (owners_in_row row) (owners_in rows)
        ∙ or_left (list_any (same_owner o) (owners_in_row row)) (is_owner_in rows o) here
    by rest false later =
        list_any-append (same_owner o) (owners_in_row row) (owners_in rows)
        ∙ or_right (list_any (same_owner o) (owners_in_row row)) (is_owner_in rows o) (rest later)

-- a row that records the owner
record HasOwner (o : Owner) (rows : List StoredRecord) : Type 0 where
  row : StoredRecord
  among : Contains rows row
  owns : list_any (same_owner o) (owners_in_row row) ≡ true

there : (first : StoredRecord) (rows : List StoredRecord) (row : StoredRecord) → Contains rows row → Contains (first ∷ rows) row
there first rows row (k, within, is) = (suc k, omega arith, is)

later_row : (o : Owner) (first : StoredRecord) (rows : List StoredRecord) → HasOwner o rows → HasOwner o (first ∷ rows)
later_row o first rows has = record { row = has.row; among = there first rows has.row has.among; owns = has.owns }

row_with : (o : Owner) (rows : List StoredRecord) → is_owner_in rows o ≡ true → HasOwner o rows
row_with o [] owns = absurd (cc owns)
row_with o (row ∷ rows) owns =
    elim (either (list_any (same_owner o) (owners_in_row row)) (is_owner_in rows o) (sym (list_any-append (same_owner o) (owners_in_row row) (owners_in rows)) ∙ owns)) [
      | inl here ↦ record { row = row; among = (0, omega arith, refl); owns = here }
      | inr later ↦ later_row o row rows (row_with o rows later)
    ]

-- ---- the block around the address
record IsAllocated (o : Owner) (cidr : CidrValue) : Type 0 where
  allocation : Allocation
  below : allocation.ordinal < cidr_size cidr
  same : same_owner o (owner_of cidr allocation) ≡ true

allocated : (o : Owner) (cidr : CidrValue) (list : List Allocation) → All (λ a. a.ordinal < cidr_size cidr) list → list_any (same_owner o) (map (owner_of cidr) list) ≡ true → IsAllocated o cidr
allocated o cidr [] below owns = absurd (cc owns)
allocated o cidr (a ∷ list) below owns =
    elim (either (same_owner o (owner_of cidr a)) (list_any (same_owner o) (map (owner_of cidr) list)) owns) [
      | inl here ↦ record { allocation = a; below = All-head (λ (x : Allocation). x.ordinal < cidr_size cidr) a list below; same = here }
      | inr later ↦ allocated o cidr list (All-tail (λ (x : Allocation). x.ordinal < cidr_size cidr) a list below) later
    ]

address_from : (a : AddrValue) (cidr : CidrValue) (ordinal : ℕ) → same_address a (ordinal_address cidr ordinal) ≡ true → (a.family ≡ cidr.family) × (a.number ≡ cidr.base + ordinal)
address_from a cidr ordinal same =
    let parts = and_parts (is_same_family a.family cidr.family) (a.number == cidr.base + ordinal) same in
    (same_family_from a.family cidr.family parts.0, eqb-true a.number (cidr.base + ordinal) parts.1)

-- a power of 2 up to 4,096
small_power : (k : ℕ) → 2 ^ k ≤ 4096 → k < 13
small_power k small = elim (cases_lt k 13) [
  | inl below ↦ below
  | inr above ↦
      let power : 2 ^ 13 ≤ 2 ^ k = pow-le-pow_right {n = 2} (omega arith) {i = 13} {j = k} above in
      absurd (omega arith)
]

base_around : (base ordinal k : ℕ) → base % 2 ^ k ≡ 0 → ordinal < 2 ^ k → (base + ordinal) - (base + ordinal) % 2 ^ k ≡ base
base_around base ordinal k none below =
    let whole = multiple base k none in
    let rest : (base + ordinal) % 2 ^ k ≡ ordinal =
    ap (λ n. (n + ordinal) % 2 ^ k) (sym whole) ∙ mod-mul-add (base / 2 ^ k) (2 ^ k) ordinal below in
    ap (λ m. (base + ordinal) - m) rest ∙ omega arith

around_it : (a : AddrValue) (cidr : CidrValue) (ordinal : ℕ) → IsCidr cidr → ordinal < cidr_size cidr → a.family ≡ cidr.family → a.number ≡ cidr.base + ordinal
    → block_around a (width cidr.family - cidr.prefix) ≡ cidr
around_it a cidr ordinal sound below family number =
    let bits = width cidr.family - cidr.prefix in
    let base : a.number - a.number % 2 ^ bits ≡ cidr.base =
    ap (λ n. n - n % 2 ^ bits) number ∙ base_around cidr.base ordinal bits sound.no_host_bits below in
    let prefix : width a.family - bits ≡ cidr.prefix = ap (λ f. width f - bits) family ∙ omega (arith, sound.prefix_fits) in
    λ i. record { family = family i; base = base i; prefix = prefix i }

sub_back : (q r : ℕ) → (q + r) - r ≡ q
sub_back q r = omega arith

wide : (f : Family) → 13 ≤ width f
wide V4 = omega arith
wide V6 = omega arith

without_low : (n k : ℕ) → (n - n % 2 ^ k) % 2 ^ k ≡ 0
without_low n k =
    let whole : n - n % 2 ^ k ≡ n / 2 ^ k * 2 ^ k = ap (λ x. x - n % 2 ^ k) (sym (div-add-mod' n (2 ^ k))) ∙ sub_back (n / 2 ^ k * 2 ^ k) (n % 2 ^ k) in
    ap (λ x. x % 2 ^ k) whole ∙ mul-mod_left (n / 2 ^ k) (2 ^ k)

-- the block around an address, as it is made
pub around_made : (a whole : AddrValue) (bits low w : ℕ) → a ≡ whole → a.number < address_count a.family → bits < 13 → low ≡ a.number % 2 ^ bits → w ≡ width a.family
    → (r : Result CidrValue AddrFault) → r ≡ made_cidr (record { family = a.family; number = a.number - low }) (w - bits) → r ≡ Ok (block_around whole bits)
around_made a whole bits low w same small few low_is w_is r is =
    let back : width a.family - (width a.family - bits) ≡ bits = omega (arith, wide a.family) in
    let sound : IsCidr (block_around a bits) = record {
      prefix_fits = omega arith;
      base_fits = omega (arith, small);
      no_host_bits = ap (λ (k : ℕ). (a.number - a.number % 2 ^ bits) % 2 ^ k) back ∙ without_low a.number bits;
    } in
    is
    ∙ ((λ i. made_cidr (record { family = a.family; number = a.number - low_is i }) (w_is i - bits))
    ∙ (made_cidr-IsCidr (record { family = a.family; number = a.number - a.number % 2 ^ bits }) (width a.family - bits) sound
    ∙ ap (λ (x : AddrValue). Ok (block_around x bits)) same))

-- the owner is found around its address
pub record IsFoundAround (o : Owner) (rows : List StoredRecord) : Type 0 where
  pub bits : ℕ
  pub small : bits < 13
  pub owns : list_any (same_owner o) (owners_found (row_of (key.Block (block_around o.address bits)) rows)) ≡ true

module _ (o : Owner) (rows : List StoredRecord) (sound : AreSoundRows rows) where
  in_block : (revision : ℕ) (b : BlockValue) → Contains rows (revision, record_of.Block b) → list_any (same_owner o) (map (owner_of b.cidr) b.allocations) ≡ true → IsFoundAround o rows
  in_block revision b among owns =
      let is_block = sound.blocks revision b among in
      let it = allocated o b.cidr b.allocations (held_below b is_block) owns in
      let same = and_parts (same_address o.address (ordinal_address b.cidr it.allocation.ordinal) && bytes_eq o.handle it.allocation.attributes.handle) (o.stamp == it.allocation.stamp) it.same in
      let address = address_from o.address b.cidr it.allocation.ordinal (and_parts (same_address o.address (ordinal_address b.cidr it.allocation.ordinal)) (bytes_eq o.handle it.allocation.attributes.handle) same.0).0 in
      let bits = width b.cidr.family - b.cidr.prefix in
      let around : block_around o.address bits ≡ b.cidr = around_it o.address b.cidr it.allocation.ordinal is_block.range it.below address.0 address.1 in
      let found : row_of (key.Block (block_around o.address bits)) rows ≡ Some (revision, record_of.Block b) =
      ap (λ (c : CidrValue). row_of (key.Block c) rows) around ∙ row_of-contained rows sound.ascending (revision, record_of.Block b) among in
      record { bits = bits; small = small_power bits is_block.small; owns = ap (λ (r : Option StoredRecord). list_any (same_owner o) (owners_found r)) found ∙ owns }

  in_row : (row : StoredRecord) → Contains rows row → list_any (same_owner o) (owners_in_row row) ≡ true → IsFoundAround o rows
  in_row (revision, record_of.Config c) among owns = absurd (cc owns)
  in_row (revision, record_of.Pools p) among owns = absurd (cc owns)
  in_row (revision, record_of.Reservations r) among owns = absurd (cc owns)
  in_row (revision, record_of.Block b) among owns = in_block revision b among owns
  in_row (revision, record_of.Affinity a) among owns = absurd (cc owns)
  in_row (revision, record_of.Handle h) among owns = absurd (cc owns)

  pub found_around : is_owner_in rows o ≡ true → IsFoundAround o rows
  found_around owns = let has = row_with o rows owns in in_row has.row has.among has.owns

  -- where no size has it, nothing does
  pub found_nowhere : ((bits : ℕ) → bits < 13 → list_any (same_owner o) (owners_found (row_of (key.Block (block_around o.address bits)) rows)) ≡ false) → is_owner_in rows o ≡ false
  found_nowhere none = elim (cases_Bool (is_owner_in rows o)) [
    | inl owns ↦ let found = found_around owns in absurd (cc (found.owns, none found.bits found.small))
    | inr differs ↦ differs
  ]
