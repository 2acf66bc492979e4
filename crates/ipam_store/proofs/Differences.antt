-- How routes differ that have one more or one fewer.
use Rattle.std.proofs.Common.{◌≡◌, ℕ, Bool, true, false, not, cond, ◌||◌, List, [], ◌∷◌, ◌++◌, ap, ◌∙◌, refl}
use Rattle.std.specs.Ordering.{is_eq}
use Rattle.std.specs.List.{AllByRecursion}
use Rattle.std.proofs.lemmas.List.Elements.{filter-append}
use Rattle.ipam_store.specs.declared.route.Route.{Route}
use Rattle.ipam_store.specs.Route.{route_cmp, has_route}
use Rattle.ipam_store.specs.Change.{routes_beyond, differences, HasOneMore}
use Rattle.ipam_store.proofs.Routes.{is_itself}

or_true : (b c : Bool) → c ≡ true → (b || c) ≡ true
or_true true c e = refl
or_true false c e = e

or_left : (b c d : Bool) → (c ≡ true → d ≡ true) → (b || c) ≡ true → (b || d) ≡ true
or_left true c d further e = refl
or_left false c d further e = further e

-- ---- routes are among those with more
in_right : (xs ys : List Route) (r : Route) → has_route ys r ≡ true → has_route (xs ++ ys) r ≡ true
in_right [] ys r h = h
in_right (x ∷ xs) ys r h = or_true (is_eq (route_cmp x r)) _ (in_right xs ys r h)

in_left : (xs ys : List Route) (r : Route) → has_route xs r ≡ true → has_route (xs ++ ys) r ≡ true
in_left [] ys r h = absurd (cc h)
in_left (x ∷ xs) ys r h = or_left (is_eq (route_cmp x r)) (has_route xs r) (has_route (xs ++ ys) r) (in_left xs ys r) h

abbrev AreAmong : List Route → List Route → Type 0
AreAmong others routes = AllByRecursion (λ r. has_route others r ≡ true) routes

among_more : (others more : List Route) → ((r : Route) → has_route others r ≡ true → has_route more r ≡ true) → (routes : List Route) → AreAmong others routes → AreAmong more routes
among_more others more grows [] all = tt
among_more others more grows (r ∷ rest) all = (grows r all.0, among_more others more grows rest all.1)

among_themselves : (routes : List Route) → AreAmong routes routes
among_themselves [] = tt
among_themselves (r ∷ rest) =
    (ap (λ t. t || has_route rest r) (is_itself r), among_more rest (r ∷ rest) (in_right (r ∷ []) rest) rest (among_themselves rest))

none_beyond : (others routes : List Route) → AreAmong others routes → routes_beyond others routes ≡ []
none_beyond others [] all = refl
none_beyond others (r ∷ rest) all =
    ap (λ t. cond (not t) (r ∷ routes_beyond others rest) (routes_beyond others rest)) all.0 ∙ none_beyond others rest all.1

-- ---- one more
module _ (r : Route) (front back : List Route) where
  abbrev lesser : List Route
  lesser = front ++ back

  abbrev greater : List Route
  greater = front ++ r ∷ back

  none_gone : routes_beyond greater lesser ≡ []
  none_gone =
      filter-append (λ s. not (has_route greater s)) front back
      ∙ (ap (λ xs. xs ++ routes_beyond greater back) (none_beyond greater front (among_more front greater (in_left front (r ∷ back)) front (among_themselves front)))
      ∙ none_beyond greater back (among_more back greater (λ s h. in_right front (r ∷ back) s (in_right (r ∷ []) back s h)) back (among_themselves back)))

  one_new : has_route lesser r ≡ false → routes_beyond lesser greater ≡ r ∷ []
  one_new new =
      filter-append (λ s. not (has_route lesser s)) front (r ∷ back)
      ∙ (ap (λ xs. xs ++ routes_beyond lesser (r ∷ back)) (none_beyond lesser front (among_more front lesser (in_left front back) front (among_themselves front)))
      ∙ (ap (λ t. cond (not t) (r ∷ routes_beyond lesser back) (routes_beyond lesser back)) new
      ∙ ap (λ xs. r ∷ xs) (none_beyond lesser back (among_more back lesser (in_right front back) back (among_themselves back)))))

pub nothing_gone : (r : Route) (lesser greater : List Route) → HasOneMore r lesser greater → routes_beyond greater lesser ≡ []
nothing_gone r lesser greater more = rw (more.lesser_is, more.greater_is) (none_gone r more.front more.back)

pub one_is_new : (r : Route) (lesser greater : List Route) → HasOneMore r lesser greater → routes_beyond lesser greater ≡ r ∷ []
one_is_new r lesser greater more =
    let new = rw more.lesser_is at more.new in
    rw (more.lesser_is, more.greater_is) (one_new r more.front more.back new)

pub differences-up : (revision : ℕ) (r : Route) (before after : List Route) → HasOneMore r before after → differences revision before after ≡ record { revision = revision; route = r; up = true } ∷ []
differences-up revision r before after more = rw (nothing_gone r before after more, one_is_new r before after more) refl

pub differences-down : (revision : ℕ) (r : Route) (before after : List Route) → HasOneMore r after before → differences revision before after ≡ record { revision = revision; route = r; up = false } ∷ []
differences-down revision r before after more = rw (nothing_gone r after before more, one_is_new r after before more) refl

pub differences-none : (revision : ℕ) (routes : List Route) → differences revision routes routes ≡ []
differences-none revision routes = rw (none_beyond routes routes (among_themselves routes)) refl
