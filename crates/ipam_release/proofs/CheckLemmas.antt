-- What is left of a CHECK, and what it finds.
use native.Mathlib.Omega.{arith}
use Rattle.std.proofs.Common.{◌≡◌, ◌≢◌, ◌<◌, ◌≤◌, cond, refl, sym, ap, ◌∙◌, subst, ℕ, zero, suc, Bool, true, false, List, [], ◌∷◌, length, get_or, map, Option, Some, None, All, find, inl, inr, ne_eqb}
use Rattle.std.specs.Prelude.{slice_get, position, nat_lt, ◌==◌}
use Rattle.std.specs.List.{position_or_len}
use Rattle.std.proofs.lemmas.Bool.{cases_Bool, cases_lt}
use Rattle.std.proofs.lemmas.List.Folds.{find_at}
use Rattle.std.proofs.lemmas.Option.{slice_get_past}
use Rattle.ipam_addr.specs.Shape.{AddrValue, CidrValue}
use Rattle.ipam_addr.specs.Holding.{holds_address}
use Rattle.ipam_addr.specs.Width.{cidr_size}
use Rattle.ipam_block.specs.Operations.{holder}
use Rattle.ipam_block.specs.Shape.{BlockValue}
use Rattle.ipam_block.specs.Sound.{IsBlock}
use Rattle.ipam_block.specs.declared.allocation.Allocation.{Allocation}
use Rattle.ipam_parts.proofs.HeldFacts.{held_below}
use Rattle.ipam_parts.proofs.PlaceFacts.{find_placed, find_nowhere}
use Rattle.ipam_pool.specs.declared.pools.Pool.{Pool}
use Rattle.ipam_records.specs.Word.{Word, after_reply}
use Rattle.ipam_records.specs.Said.{Said}
use Rattle.ipam_model.specs.declared.outcome.CheckAnswer.{CheckAnswer}
use Rattle.ipam_model.specs.AddThis.{slot_holding}
use Rattle.ipam_model.specs.Look.{check_each, check_word, check_in_pool, is_recorded_to}
use Rattle.ipam_model.specs.Reads.{pools_said}
use Rattle.ipam_model.specs.Usable.{pool_of}
use Rattle.ipam_release.specs.declared.check.Looks.{Looks as Looking}
use Rattle.ipam_release.specs.declared.check.Stage.{Stage}
use Rattle.ipam_release.specs.declared.check.Stage.TheVariants.{Looks}
use Rattle.ipam_release.specs.declared.check.Visit.TheVariants.{Slot, Outside}
use Rattle.ipam_release.specs.Check.{visit_in, visit_of, visit_one, visit_each, next_at}

in_pool : (rest : Word CheckAnswer) (id : List ℕ) (address : AddrValue) (p : ℕ) (pool : Option Pool)
    → visit_one rest id p (visit_in address pool) ≡ check_in_pool rest id address p pool
in_pool rest id address p None = refl
in_pool rest id address p (Some pool) = refl

-- the addresses with their slots are looked at as the addresses are
pub visits : (id : List ℕ) (p : ℕ) (pools : List Pool) (addresses : List AddrValue)
    → visit_each id p (map (visit_of pools) addresses) ≡ check_each id p pools addresses
unfolding check_each
visits id p pools [] = refl
visits id p pools (address ∷ rest) =
    in_pool (visit_each id p (map (visit_of pools) rest)) id address p (pool_of address pools)
    ∙ ap (λ word. check_in_pool word id address p (pool_of address pools)) (visits id p pools rest)

pub is_next : (id : List ℕ) (stage : Stage) (l : Looking) → stage ≡ Looks l
    → next_at id stage ≡ visit_each id l.moment l.others.items
is_next id stage l is = ap (next_at id) is

-- ---- an ordinal beyond the block

none_held : (n : ℕ) (list : List Allocation) → All (λ a. a.ordinal < n) list → (ordinal : ℕ) → n ≤ ordinal
    → find (λ a. a.ordinal == ordinal) list ≡ None
none_held n [] below ordinal beyond = refl
none_held n (a ∷ rest) below ordinal beyond =
    let first : a.ordinal < n = below 0 a (omega arith) in
    let other : a.ordinal ≢ ordinal = λ same. omega arith in
    rw (ne_eqb a.ordinal ordinal other) (none_held n rest (λ k d within. below (suc k) d (omega arith)) ordinal beyond)

-- no block has an address for an ordinal of 4,096 or more
pub beyond : (id : List ℕ) (b : BlockValue) (ordinal : ℕ) → IsBlock b → 4096 ≤ ordinal
    → false ≡ is_recorded_to id (holder b ordinal)
beyond id b ordinal sound over =
    let small = sound.small in
    let below = held_below b sound in
    ap (is_recorded_to id) (sym (none_held (cidr_size b.cidr) b.allocations below ordinal (omega arith)))

-- ---- the slot of an address

pub found_at : (address : AddrValue) (pools : List Pool) (place : ℕ) (pool : Pool) (cidr : CidrValue)
    → position (λ p. holds_address p.cidr address) pools ≡ Some place → pool ≡ get_or pools place pool
    → cidr ≡ slot_holding pool address → Slot address cidr ≡ visit_of pools address
found_at address pools place pool cidr is at slot =
    let test : Pool → Bool = λ p. holds_address p.cidr address in
    let found = find_placed test pools place pool is in
    ap (Slot address) (slot ∙ ap (λ p. slot_holding p address) at) ∙ ap (visit_in address) (sym found)

pub not_found : (address : AddrValue) (pools : List Pool)
    → position (λ p. holds_address p.cidr address) pools ≡ None → Outside address ≡ visit_of pools address
not_found address pools none =
    let test : Pool → Bool = λ p. holds_address p.cidr address in
    ap (visit_in address) (sym (find_nowhere test pools none))
