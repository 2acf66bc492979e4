-- What an address is recorded with is sound.
use Rattle.std.proofs.Common.{ℕ, zero, suc, ◌<◌, ◌≤◌, List, [], ◌∷◌, ◌++◌, length, codes, refl, arith}
use Rattle.std.specs.List.{All, AllByRecursion}
use Rattle.std.specs.List.Sorted.{IsStrictlySortedBy}
use Rattle.cni_types.specs.Reading.{Pair}
use Rattle.cni_types.specs.Asked.{unless_empty}
use Rattle.cni_types.specs.Sound.{IsPair, ArePairs}

each_one : (pairs : List Pair) → AllByRecursion IsPair pairs → All IsPair pairs
each_one [] h k d less = absurd (omega arith)
each_one (p ∷ pairs) h zero d less = h.0
each_one (p ∷ pairs) h (suc k) d less = each_one pairs h.1 k d (omega arith)

one : (key value : List ℕ) → 0 < length key → length key ≤ 63 → length value ≤ 253 → IsPair (key, value)
one key value some small short = record { key_some = some; key_small = small; value_small = short }

abbrev pub recorded : (namespace network node pod : List ℕ) → List Pair
recorded namespace network node pod =
    unless_empty (codes "namespace") namespace
    ++ (codes "network", network) ∷ (codes "node", node) ∷ unless_empty (codes "pod") pod

pub recorded-sound : (namespace network node pod : List ℕ) → length namespace ≤ 253 → length network ≤ 253 → length node ≤ 253 → length pod ≤ 253 → ArePairs (recorded namespace network node pod)
unfolding IsStrictlySortedBy
recorded-sound [] network node [] a b c e = record {
  few = omega arith;
  each = each_one (recorded [] network node []) (one (codes "network") network (omega arith) (omega arith) b, (one (codes "node") node (omega arith) (omega arith) c, tt));
  ascending = ((refl, tt), (tt, tt));
}
recorded-sound [] network node (x ∷ pod) a b c e = record {
  few = omega arith;
  each = each_one (recorded [] network node (x ∷ pod)) (one (codes "network") network (omega arith) (omega arith) b, (one (codes "node") node (omega arith) (omega arith) c, (one (codes "pod") (x ∷ pod) (omega arith) (omega arith) e, tt)));
  ascending = ((refl, (refl, tt)), ((refl, tt), (tt, tt)));
}
recorded-sound (y ∷ namespace) network node [] a b c e = record {
  few = omega arith;
  each = each_one (recorded (y ∷ namespace) network node []) (one (codes "namespace") (y ∷ namespace) (omega arith) (omega arith) a, (one (codes "network") network (omega arith) (omega arith) b, (one (codes "node") node (omega arith) (omega arith) c, tt)));
  ascending = ((refl, (refl, tt)), ((refl, tt), (tt, tt)));
}
recorded-sound (y ∷ namespace) network node (x ∷ pod) a b c e = record {
  few = omega arith;
  each = each_one (recorded (y ∷ namespace) network node (x ∷ pod)) (one (codes "namespace") (y ∷ namespace) (omega arith) (omega arith) a, (one (codes "network") network (omega arith) (omega arith) b, (one (codes "node") node (omega arith) (omega arith) c, (one (codes "pod") (x ∷ pod) (omega arith) (omega arith) e, tt))));
  ascending = ((refl, (refl, (refl, tt))), ((refl, (refl, tt)), ((refl, tt), (tt, tt))));
}
