-- The usable pool that holds an address.
use Rattle.std.proofs.Common.{◌≡◌, refl, sym, subst, ℕ, Bool, true, false, cond, ◌&&◌, List, [], ◌∷◌, Option, Some, None, All, find, option_map, ◌-◌, ◌/◌}
use Rattle.std.specs.Prelude.{unwrap_or, IfSome}
use Rattle.std.specs.Option.{option_copied}
use Rattle.std.specs.Borrow.{Bor}
use Rattle.std.proofs.lemmas.List.Elements.{All-head, All-tail}
use Rattle.ipam_addr.specs.Holding.{holds_address}
use Rattle.ipam_addr.specs.Shape.{AddrValue}
use Rattle.ipam_addr.specs.Slots.{HasSlots, slot_of}
use Rattle.ipam_addr.specs.Width.{size_of}
use Rattle.ipam_pool.specs.declared.pools.Pool.{Pool}
use Rattle.ipam_pool.specs.Sound.{IsPoolTable}
use Rattle.ipam_model.specs.Usable.{Asked, is_usable, usable_pool_of}
use Rattle.ipam_assign.specs.Place.{place_at, place_in}
use Rattle.ipam_assign.specs.Usable.{place_of_pool}

second : (a b : Bool) → (a && b) ≡ true → b ≡ true
second true b both = both
second false b both = absurd (cc both)

-- what is found passes the test, and what holds of all holds of it
found_passes : {X : Type 0} (P : X → Type 0) (test : X → Bool) (xs : List X) (x : X) → All P xs → find test xs ≡ Some x
    → P x × (test x ≡ true)
found_passes P test [] x all is = absurd (cc is)
found_passes P test (y ∷ ys) x all is =
    elim (test y) as (λ b. test y ≡ b → cond b (Some y) (find test ys) ≡ Some x → P x × (test x ≡ true)) [
      | true ↦ λ passes found.
          (subst P (cc found) (All-head P y ys all), subst (λ z. test z ≡ true) (cc found) passes)
      | false ↦ λ fails found. found_passes P test ys x (All-tail P y ys all) found
    ] refl is

facts_of : (asked : Asked) (address : AddrValue) (pools : List Pool) (found : Option (Bor Pool)) → IsPoolTable pools
    → option_copied found ≡ usable_pool_of asked address pools
    → IfSome found (λ pool. HasSlots pool.now.cidr pool.now.size × (holds_address pool.now.cidr address ≡ true))
facts_of asked address pools None table is = tt
facts_of asked address pools (Some pool) table is =
    let found = found_passes (λ p. HasSlots p.cidr p.size) (λ p. is_usable asked p && holds_address p.cidr address) pools pool.now table.sizes (sym is) in
    (found.0, second (is_usable asked pool.now) (holds_address pool.now.cidr address) found.1)

first_fact : (found : Option (Bor Pool)) (P Q : Bor Pool → Type 0) → IfSome found (λ p. P p × Q p) → IfSome found P
first_fact None P Q both = tt
first_fact (Some p) P Q both = both.0

second_fact : (found : Option (Bor Pool)) (P Q : Bor Pool → Type 0) → IfSome found (λ p. P p × Q p) → IfSome found Q
second_fact None P Q both = tt
second_fact (Some p) P Q both = both.1

pub slots_of_found : (asked : Asked) (address : AddrValue) (pools : List Pool) (found : Option (Bor Pool)) → IsPoolTable pools
    → option_copied found ≡ usable_pool_of asked address pools
    → IfSome found (λ pool. HasSlots pool.now.cidr pool.now.size)
slots_of_found asked address pools found table is = first_fact found _ _ (facts_of asked address pools found table is)

pub found_holds : (asked : Asked) (address : AddrValue) (pools : List Pool) (found : Option (Bor Pool)) → IsPoolTable pools
    → option_copied found ≡ usable_pool_of asked address pools
    → IfSome found (λ pool. holds_address pool.now.cidr address ≡ true)
found_holds asked address pools found table is = second_fact found _ _ (facts_of asked address pools found table is)

numbered : (b : Bool) (n : ℕ) (pool : Pool) (address : AddrValue) → b ≡ true
    → option_map (place_at pool.cidr pool.size address) (cond b (Some n) None)
    ≡ Some (record { cidr = slot_of pool.cidr pool.size (unwrap_or (cond b (Some n) None) 0); address = address })
numbered true n pool address is = refl
numbered false n pool address is = absurd (cc is)

-- the pool that holds the address has a slot for it
pub place_there : (pool : Pool) (address : AddrValue) → holds_address pool.cidr address ≡ true
    → place_in pool.cidr pool.size address ≡ place_of_pool address (Some pool)
place_there pool address holds =
    numbered (holds_address pool.cidr address) ((address.number - pool.cidr.base) / size_of pool.cidr.family pool.size)
    pool address holds
