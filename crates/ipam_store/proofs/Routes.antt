-- Lists of routes with a route more or a route less.
use Rattle.std.proofs.Common.{◌≡◌, ℕ, Bool, true, false, not, cond, ◌||◌, Result, Ok, Err, is_ok, IfOk, IfErr, Option, Some, None, List, [], ◌∷◌, sym, ap, ◌∙◌, refl, subst}
use Rattle.std.specs.declared.cmp.Ordering.{Ordering}
use Rattle.std.specs.declared.cmp.Ordering.TheVariants.{Less, Equal, Greater}
use Rattle.std.specs.Ordering.{is_eq, ordering_reverse, match_ordering}
use Rattle.std.specs.List.{AllByRecursion, cons_option}
use Rattle.std.specs.List.Sorted.{IsStrictlySortedBy}
use Rattle.std.specs.Cmp.{IsTotalOrder, on_total, then_total, eq_by_cmp_equiv}
use Rattle.std.specs.Cmp.Lexicographic.{nat_list_cmp_total}
use Rattle.ipam_records.specs.declared.key.Key.TheVariants as key
use Rattle.ipam_records.specs.KeyOrder.{key_name, key_block}
use Rattle.ipam_records.specs.KeyOrderLaws.{cidr_cmp_total, same-keys_equal}
use Rattle.ipam_records.specs.Places.{IsFoundAt, IsGapAt}
use Rattle.ipam_store.specs.declared.route.Route.{Route}
use Rattle.ipam_store.specs.Route.{route_cmp, has_route}
use Rattle.ipam_store.specs.Change.{HasOneMore}
use Rattle.ipam_store.specs.Turned.{with_route, without_route, turned}
use Rattle.ipam_store.proofs.Sorted.{among-found, among-gap, front_with, later}

pub route_cmp_total : IsTotalOrder route_cmp
route_cmp_total = then_total (on_total (λ (r : Route). r.node) nat_list_cmp_total) (on_total (λ (r : Route). r.cidr) cidr_cmp_total)

pub has_route-searched : (routes : List Route) (route : Route) (found : Result ℕ ℕ) → IfOk found (IsFoundAt (λ other. route_cmp other route) routes) → IfErr found (IsGapAt (λ other. route_cmp other route) routes) → is_ok found ≡ has_route routes route
has_route-searched routes route (Ok place) there gap = sym (among-found route_cmp route_cmp_total route routes place there)
has_route-searched routes route (Err place) there gap = sym (among-gap route_cmp route_cmp_total route routes place gap)

-- ---- one route is told from another
pub is_itself : (r : Route) → is_eq (route_cmp r r) ≡ true
is_itself r = (eq_by_cmp_equiv route_cmp_total).refl r

some_same : {X : Type 0} (x y : X) → Some x ≡ Some y → x ≡ y
some_same x y e = cc

pub same_route : (r s : Route) → is_eq (route_cmp r s) ≡ true → r ≡ s
same_route r s e =
    let keys : key.Affinity r.node r.cidr ≡ key.Affinity s.node s.cidr = same-keys_equal (key.Affinity r.node r.cidr) (key.Affinity s.node s.cidr) e in
    let node : r.node ≡ s.node = ap key_name keys in
    let cidr : r.cidr ≡ s.cidr = some_same r.cidr s.cidr (ap key_block keys) in
    λ i. record { node = node i; cidr = cidr i }

pub turned_round : (r s : Route) (o : Ordering) → route_cmp r s ≡ o → route_cmp s r ≡ ordering_reverse o
turned_round r s o h = route_cmp_total.antisymm s r ∙ ap ordering_reverse h

-- routes above this one
abbrev pub AreAbove : Route → List Route → Type 0
AreAbove r routes = AllByRecursion (λ s. route_cmp r s ≡ Less) routes

pub above_absent : (r : Route) (routes : List Route) → AreAbove r routes → has_route routes r ≡ false
above_absent r [] all = refl
above_absent r (s ∷ rest) all = ap (λ o. is_eq o || has_route rest r) (turned_round r s Less all.0) ∙ above_absent r rest all.1

-- ---- a list without a route
pub without-absent : (r : Route) (routes : List Route) → has_route routes r ≡ false → without_route r routes ≡ routes
without-absent r [] h = refl
without-absent r (s ∷ rest) h = by_test (is_eq (route_cmp s r)) refl (without-absent r rest)
  where
    by_test : (b : Bool) → is_eq (route_cmp s r) ≡ b → (has_route rest r ≡ false → without_route r rest ≡ rest) → without_route r (s ∷ rest) ≡ s ∷ rest
    by_test true e further = let bad = sym (ap (λ t. t || has_route rest r) e) ∙ h in absurd (cc bad)
    by_test false e further =
        let none = sym (ap (λ t. t || has_route rest r) e) ∙ h in
        ap (λ t. cond (not t) (s ∷ without_route r rest) (without_route r rest)) e ∙ ap (λ ys. s ∷ ys) (further none)

-- ---- a list with a route
pub with-here : (r : Route) (routes : List Route) → IsStrictlySortedBy route_cmp routes → has_route routes r ≡ true → with_route r routes ≡ routes
unfolding IsStrictlySortedBy
with-here r [] s h = absurd (cc h)
with-here r (x ∷ xs) s h = by_order (route_cmp r x) refl (with-here r xs s.1)
  where
    there : (o : Ordering) → route_cmp r x ≡ o → (is_eq (ordering_reverse o) || has_route xs r) ≡ true
    there o e = sym (ap (λ t. is_eq t || has_route xs r) (turned_round r x o e)) ∙ h

    by_order : (o : Ordering) → route_cmp r x ≡ o → (has_route xs r ≡ true → with_route r xs ≡ xs) → match_ordering o (r ∷ x ∷ xs) (x ∷ xs) (x ∷ with_route r xs) ≡ x ∷ xs
    by_order Less e further =
        let bad = sym (there Less e) ∙ above_absent r xs (later route_cmp route_cmp_total r x e xs s.0) in absurd (cc bad)
    by_order Equal e further = refl
    by_order Greater e further = ap (λ ys. x ∷ ys) (further (there Greater e))

pub with-new : (r : Route) (routes : List Route) → has_route routes r ≡ false → HasOneMore r routes (with_route r routes)
with-new r [] h = record { front = []; back = []; lesser_is = refl; greater_is = refl; new = h }
with-new r (x ∷ xs) h = by_order (route_cmp r x) refl (with-new r xs)
  where
    there : (o : Ordering) → route_cmp r x ≡ o → (is_eq (ordering_reverse o) || has_route xs r) ≡ false
    there o e = sym (ap (λ t. is_eq t || has_route xs r) (turned_round r x o e)) ∙ h

    by_order : (o : Ordering) → route_cmp r x ≡ o → (has_route xs r ≡ false → HasOneMore r xs (with_route r xs)) → HasOneMore r (x ∷ xs) (match_ordering o (r ∷ x ∷ xs) (x ∷ xs) (x ∷ with_route r xs))
    by_order Less e further = record { front = []; back = x ∷ xs; lesser_is = refl; greater_is = refl; new = h }
    by_order Equal e further = let bad = there Equal e in absurd (cc bad)
    by_order Greater e further =
        let more = further (there Greater e) in
        record { front = x ∷ more.front; back = more.back; lesser_is = ap (λ ys. x ∷ ys) more.lesser_is; greater_is = ap (λ ys. x ∷ ys) more.greater_is; new = h }

pub without-here : (r : Route) (routes : List Route) → IsStrictlySortedBy route_cmp routes → has_route routes r ≡ true → HasOneMore r (without_route r routes) routes
unfolding IsStrictlySortedBy
without-here r [] s h = absurd (cc h)
without-here r (x ∷ xs) s h = by_test (is_eq (route_cmp x r)) refl (without-here r xs s.1)
  where
    by_test : (b : Bool) → is_eq (route_cmp x r) ≡ b → (has_route xs r ≡ true → HasOneMore r (without_route r xs) xs) → HasOneMore r (cond (not (is_eq (route_cmp x r))) (x ∷ without_route r xs) (without_route r xs)) (x ∷ xs)
    by_test true e further =
        let is = same_route x r e in
        let above : AreAbove r xs = subst (λ (y : Route). AreAbove y xs) is s.0 in
        let rest = without-absent r xs (above_absent r xs above) in
        let lesser = ap (λ t. cond (not t) (x ∷ without_route r xs) (without_route r xs)) e ∙ rest in
        record { front = []; back = xs; lesser_is = lesser; greater_is = ap (λ y. y ∷ xs) is; new = ap (λ ys. has_route ys r) lesser ∙ above_absent r xs above }
    by_test false e further =
        let there = sym (ap (λ t. t || has_route xs r) e) ∙ h in
        let more = further there in
        let lesser = ap (λ t. cond (not t) (x ∷ without_route r xs) (without_route r xs)) e in
        record { front = x ∷ more.front; back = more.back; lesser_is = lesser ∙ ap (λ ys. x ∷ ys) more.lesser_is; greater_is = ap (λ ys. x ∷ ys) more.greater_is; new = ap (λ ys. has_route ys r) lesser ∙ (ap (λ t. t || has_route (without_route r xs) r) e ∙ more.new) }

-- ---- a route comes or goes
abbrev pub if_up : Bool → Route → Option Route
if_up up r = cond up (Some r) None

pub turned-above : (up : Bool) (r : Route) (routes : List Route) → AreAbove r routes → turned up r routes ≡ cons_option (if_up up r) routes
turned-above true r routes all = front_with route_cmp route_cmp_total r routes all
turned-above false r routes all = without-absent r routes (above_absent r routes all)

equal_is : (o : Ordering) → is_eq o ≡ true → o ≡ Equal
equal_is Less e = cc
equal_is Equal e = refl
equal_is Greater e = cc

pub turned-same : (up : Bool) (r : Route) (routes : List Route) → AreAbove r routes → turned up r (r ∷ routes) ≡ cons_option (if_up up r) routes
turned-same true r routes all = ap (λ o. match_ordering o (r ∷ r ∷ routes) (r ∷ routes) (r ∷ with_route r routes)) (equal_is (route_cmp r r) (is_itself r))
turned-same false r routes all =
    ap (λ t. cond (not t) (r ∷ without_route r routes) (without_route r routes)) (is_itself r)
    ∙ without-absent r routes (above_absent r routes all)

pub turned-behind : (up : Bool) (r s : Route) (routes : List Route) → route_cmp r s ≡ Greater → turned up r (s ∷ routes) ≡ s ∷ turned up r routes
turned-behind true r s routes h = ap (λ o. match_ordering o (r ∷ s ∷ routes) (s ∷ routes) (s ∷ with_route r routes)) h
turned-behind false r s routes h =
    ap (λ o. cond (not (is_eq o)) (s ∷ without_route r routes) (without_route r routes)) (turned_round r s Greater h)
