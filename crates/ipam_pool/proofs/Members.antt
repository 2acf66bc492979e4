-- The spans of CIDRs, and the addresses that these hold.
use Rattle.std.proofs.Common.{◌≡◌, ℕ, ◌≤◌, ◌↔◌, true, List, length, take, ap, sym, ◌∙◌}
use Rattle.std.specs.List.{list_any}
use Rattle.std.proofs.lemmas.List.{take_all}
use Rattle.std.proofs.lemmas.List.Folds.{Any-from_list_any, list_any-from_Any}
use Rattle.std.specs.List.Sorted.{IsPermutation}
use Rattle.std.proofs.lemmas.List.Sorted.{list_any-IsPermutation}
use Rattle.ipam_addr.specs.declared.address.Family.{Family}
use Rattle.ipam_addr.specs.declared.address.Family.TheVariants.{V4, V6}
use Rattle.ipam_addr.specs.Shape.{AddrValue}
use Rattle.ipam_addr.specs.Holding.{holds_address}
use Rattle.ipam_addr.proofs.HoldingLemmas.{holds_from, holds_test}
use Rattle.ipam_pool.specs.declared.spans.Span.{Span}
use Rattle.ipam_pool.specs.Shape.{ReservationValue}
use Rattle.ipam_pool.specs.Spans.{ReservedValue, spans_of, span_holds, spans_hold, is_reserved_by}
use Rattle.ipam_pool.specs.Union.{IsInUnion, is_in_union, address_at}

-- the test of the union tells it
pub union_test : (list : List ReservationValue) (a : AddrValue) → (is_in_union list a ≡ true) ↔ IsInUnion list a
union_test list a = (forward, backward)
  where
    forward : is_in_union list a ≡ true → IsInUnion list a
    forward test =
        let (i, r, within, at, some) = Any-from_list_any (λ v. list_any (λ c. holds_address c a) v.cidrs) list test in
        let (j, c, inside, place, held) = Any-from_list_any (λ c. holds_address c a) r.cidrs some in
        (i, r, within, at, (j, c, inside, place, holds_from c a held))

    backward : IsInUnion list a → is_in_union list a ≡ true
    backward (i, r, within, at, (j, c, inside, place, held)) =
        let some = list_any-from_Any (λ x. holds_address x a) r.cidrs (j, c, inside, place, holds_test c a held) in
        list_any-from_Any (λ v. list_any (λ x. holds_address x a) v.cidrs) list (i, r, within, at, some)

-- the test of a set by the tests of its families
pub union_at : (r : ReservedValue) (list : List ReservationValue) → ((n : ℕ) → spans_hold r.v4 n ≡ is_in_union list (address_at V4 n)) → ((n : ℕ) → spans_hold r.v6 n ≡ is_in_union list (address_at V6 n)) → (a : AddrValue) → is_reserved_by r a ≡ is_in_union list a
union_at r list v4 v6 a = at a.family a.number
  where
    at : (f : Family) (n : ℕ) → spans_hold (spans_of r f) n ≡ is_in_union list (address_at f n)
    at V4 n = v4 n
    at V6 n = v6 n

-- the spans that are sorted and merged hold what the reservations do
pub union_merged : (list : List ReservationValue) (found sorted : List Span) (i : ℕ) (f : Family) (merged : List Span) → ((n : ℕ) → spans_hold merged n ≡ spans_hold sorted n) → IsPermutation found sorted → length list ≤ i → ((n : ℕ) → spans_hold found n ≡ is_in_union (take i list) (address_at f n)) → (n : ℕ) → spans_hold merged n ≡ is_in_union list (address_at f n)
union_merged list found sorted i f merged same moved all held n =
    same n
    ∙ sym (list_any-IsPermutation (λ s. span_holds s n) found sorted moved)
    ∙ held n
    ∙ ap (λ l. is_in_union l (address_at f n)) (take_all i list all)
