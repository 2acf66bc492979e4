-- The choice that is computed is the first name that no pool has, or else the first candidate's.
use Rattle.std.proofs.Common.{◌≡◌, ℕ, zero, suc, ◌+◌, ◌<◌, ◌≤◌, ◌⊎◌, true, false, cond, IsTrue, List, [], ◌∷◌, Option, Some, None, refl, sym, ap, ◌∙◌, subst, inl, inr, arith, eqb-true, ltb-true, ltb-false}
use Rattle.std.proofs.lemmas.Bool.{cases_Bool}
use Rattle.std.specs.Prelude.{◌==◌, nat_lt, Bool, MatchOption}
use Rattle.ipam_addr.specs.Shape.{CidrValue}
use Rattle.ipam_addr.specs.Slots.{last_slot_of, slot_of}
use Rattle.ipam_model.specs.declared.choice.Choice.{Choice}
use Rattle.ipam_model.specs.declared.choice.Choice.TheVariants.{NoPool}
use Rattle.ipam_model.specs.Usable.{Asked, is_usable, unknown_name}
use Rattle.ipam_pool.specs.declared.pools.Pool.{Pool}
use Rattle.ipam_model.specs.Choice.{Seen, Rank, Own, Unconfirmed, Unclaimed, Foreign, rank_number, rank_of, Ranked, Candidate, IsCandidateOf, IsCandidate, rank_in, IsNotBehind, by_rank, by_place, by_number, FirstCandidate, IsBest, IsChoice, first_found, if_rank, ranked_at, first_slot_in, first_slot, Pick, Picks, best_of_ranks, pick_unless, pick_of, choice_in, choice_of, chosen}

-- ---- what is found first

record IsFirstFound {A : Type 0} (finds : ℕ → Option A) (many from : ℕ) (found : ℕ × A) : Type 0 where
  above : from ≤ found.0
  below : found.0 < from + many
  there : finds found.0 ≡ Some found.1
  least : (k : ℕ) → from ≤ k → k < found.0 → finds k ≡ None

first_found-some : {A : Type 0} → (finds : ℕ → Option A) (many from : ℕ) (found : ℕ × A) → first_found finds many from ≡ Some found → IsFirstFound finds many from found
unfolding first_found
first_found-some finds zero from found e = absurd (cc e)
first_found-some {A} finds (suc many) from found e = by (λ f. first_found-some finds many (from + 1) found f) (finds from) refl e
  where
    here : (k : ℕ) → from ≤ k → k < from → finds k ≡ None
    here k above below = absurd (omega arith)

    later : finds from ≡ None → IsFirstFound finds many (from + 1) found → (k : ℕ) → from ≤ k → k < found.0 → finds k ≡ None
    later fails more k above below = elim (cases_Bool (k == from)) [
      | inl same ↦ subst (λ (m : ℕ). finds m ≡ None) (sym (eqb-true k from same)) fails
      | inr other ↦ more.least k (grind arith) below
    ]

    by : (first_found finds many (from + 1) ≡ Some found → IsFirstFound finds many (from + 1) found) → (o : Option A) → finds from ≡ o
        → elim o as (λ o. Option (ℕ × A)) [ Some a ↦ Some (from, a) | None ↦ first_found finds many (from + 1) ] ≡ Some found → IsFirstFound finds (suc many) from found
    by rest (Some a) is f =
        let same : (from, a) ≡ found = cc f in
        subst (λ (x : ℕ × A). IsFirstFound finds (suc many) from x) same (record { above = omega arith; below = omega arith; there = is; least = here })
    by rest None is f =
        let more = rest f in
        record { above = omega (arith, more.above); below = omega (arith, more.below); there = more.there; least = later is more }

-- what holds of a number where nothing is found
pub first_found-none : {A : Type 0} → (finds : ℕ → Option A) (many from : ℕ) → first_found finds many from ≡ None → (k : ℕ) → from ≤ k → k < from + many → finds k ≡ None
unfolding first_found
first_found-none finds zero from e k above below = absurd (omega arith)
first_found-none {A} finds (suc many) from e k above below = by (λ f. first_found-none finds many (from + 1) f k) (finds from) refl e
  where
    by : (first_found finds many (from + 1) ≡ None → from + 1 ≤ k → k < from + 1 + many → finds k ≡ None) → (o : Option A) → finds from ≡ o
        → elim o as (λ o. Option (ℕ × A)) [ Some a ↦ Some (from, a) | None ↦ first_found finds many (from + 1) ] ≡ None → finds k ≡ None
    by rest (Some a) is f = absurd (cc f)
    by rest None is f = elim (cases_Bool (k == from)) [
      | inl same ↦ subst (λ (m : ℕ). finds m ≡ None) (sym (eqb-true k from same)) is
      | inr other ↦ rest f (grind arith) (omega arith)
    ]

-- ---- ranks

-- a slot has the rank that is found there
record HasRank (asked : Asked) (seen : Seen) (number : ℕ) (slot : CidrValue) (found : Ranked) : Type 0 where
  is_slot : found.slot ≡ slot
  has_rank : rank_of asked seen found.slot ≡ Some found.rank
  numbered : rank_number found.rank ≡ number

ranked-some : (asked : Asked) (seen : Seen) (number : ℕ) (slot : CidrValue) (found : Ranked) → ranked_at asked seen number slot ≡ Some found → HasRank asked seen number slot found
ranked-some asked seen number slot found e = by (rank_of asked seen slot) refl e
  where
    tested : (rank : Rank) → rank_of asked seen slot ≡ Some rank → (b : Bool) → (rank_number rank == number) ≡ b → cond b (Some (record { slot = slot; rank = rank })) None ≡ Some found → HasRank asked seen number slot found
    tested rank is true same f =
        let whole : record { slot = slot; rank = rank } ≡ found = cc f in
        subst (λ (x : Ranked). HasRank asked seen number slot x) whole (record { is_slot = refl; has_rank = is; numbered = eqb-true (rank_number rank) number same })
    tested rank is false same f = absurd (cc f)

    by : (o : Option Rank) → rank_of asked seen slot ≡ o → if_rank number slot o ≡ Some found → HasRank asked seen number slot found
    by None is f = absurd (cc f)
    by (Some rank) is f = tested rank is (rank_number rank == number) refl f

number_itself : (rank : Rank) → (rank_number rank == rank_number rank) ≡ true
number_itself (Own found ordinal) = refl
number_itself (Unconfirmed found) = refl
number_itself (Unclaimed read) = refl
number_itself (Foreign found ordinal) = refl

-- a slot of the rank is found
ranked-there : (asked : Asked) (seen : Seen) (slot : CidrValue) (rank : Rank) → rank_of asked seen slot ≡ Some rank → ranked_at asked seen (rank_number rank) slot ≡ Some (record { slot = slot; rank = rank })
ranked-there asked seen slot rank is =
    ap (if_rank (rank_number rank) slot) is
    ∙ ap (λ b. cond b (Some (record { slot = slot; rank = rank })) None) (number_itself rank)

-- ---- the first slot of a rank

-- no candidate of the rank
abbrev NoneOf : Asked → Seen → List Pool → (number : ℕ) → Type 0
NoneOf asked seen pools number = (c : Candidate) → rank_in c ≡ number → ¬ (IsCandidateOf asked seen pools c)

-- the first of the pools' candidates of the rank
record IsFirstOf (asked : Asked) (seen : Seen) (pools : List Pool) (number : ℕ) (found : Ranked) : Type 0 where
  best : Candidate
  is_found : best.ranked ≡ found
  numbered : rank_in best ≡ number
  candidate : IsCandidateOf asked seen pools best
  first : (c : Candidate) → rank_in c ≡ number → IsCandidateOf asked seen pools c → (best.place < c.place) ⊎ ((best.place ≡ c.place) × (best.number ≤ c.number))

-- a candidate among more pools
abbrev one_further : Candidate → Candidate
one_further c = record { ranked = c.ranked; place = suc c.place; number = c.number }

further : (asked : Asked) (seen : Seen) (head : Pool) (pools : List Pool) (c : Candidate) → IsCandidateOf asked seen pools c → IsCandidateOf asked seen (head ∷ pools) (one_further c)
further asked seen head pools c h = record {
  pool = h.pool;
  at_place = h.at_place;
  usable = h.usable;
  within = h.within;
  is_slot = h.is_slot;
  has_rank = h.has_rank;
}

-- and among fewer
abbrev at_place_of : Ranked → (place number : ℕ) → Candidate
at_place_of ranked place number = record { ranked = ranked; place = place; number = number }

nearer : (asked : Asked) (seen : Seen) (head : Pool) (pools : List Pool) (ranked : Ranked) (place number : ℕ) → IsCandidateOf asked seen (head ∷ pools) (at_place_of ranked (suc place) number) → IsCandidateOf asked seen pools (at_place_of ranked place number)
nearer asked seen head pools ranked place number h = record {
  pool = h.pool;
  at_place = h.at_place;
  usable = h.usable;
  within = h.within;
  is_slot = h.is_slot;
  has_rank = h.has_rank;
}

-- a candidate in the first pool is found there
record IsInHead (asked : Asked) (seen : Seen) (head : Pool) (ranked : Ranked) (number : ℕ) : Type 0 where
  usable : IsTrue (is_usable asked head)
  below : number < zero + (last_slot_of head.cidr head.size + 1)
  there : ranked_at asked seen (rank_number ranked.rank) (slot_of head.cidr head.size number) ≡ Some (record { slot = slot_of head.cidr head.size number; rank = ranked.rank })

in_head : (asked : Asked) (seen : Seen) (head : Pool) (pools : List Pool) (ranked : Ranked) (number : ℕ) → IsCandidateOf asked seen (head ∷ pools) (at_place_of ranked zero number) → IsInHead asked seen head ranked number
in_head asked seen head pools ranked number h =
    let same : head ≡ h.pool = cc h.at_place in
    let within : number ≤ last_slot_of head.cidr head.size = subst (λ (r : Pool). number ≤ last_slot_of r.cidr r.size) (sym same) h.within in
    let is_slot : ranked.slot ≡ slot_of head.cidr head.size number = subst (λ (r : Pool). ranked.slot ≡ slot_of r.cidr r.size number) (sym same) h.is_slot in
    record {
      usable = subst (λ (r : Pool). IsTrue (is_usable asked r)) (sym same) h.usable;
      below = omega arith;
      there = ranked-there asked seen (slot_of head.cidr head.size number) ranked.rank (ap (rank_of asked seen) (sym is_slot) ∙ h.has_rank);
    }

-- none in the first pool
abbrev NoneInHead : Asked → Seen → Pool → List Pool → (number : ℕ) → Type 0
NoneInHead asked seen head pools number = (ranked : Ranked) (k : ℕ) → rank_number ranked.rank ≡ number → ¬ (IsCandidateOf asked seen (head ∷ pools) (at_place_of ranked zero k))

-- then the first of the others
behind_head : (asked : Asked) (seen : Seen) (head : Pool) (pools : List Pool) (number : ℕ) (found : Ranked) → NoneInHead asked seen head pools number → IsFirstOf asked seen pools number found → IsFirstOf asked seen (head ∷ pools) number found
behind_head asked seen head pools number found none f = record {
  best = one_further f.best;
  is_found = f.is_found;
  numbered = f.numbered;
  candidate = further asked seen head pools f.best f.candidate;
  first = λ c numbered h. compare c.ranked c.place c.number numbered h;
}
  where
    compare : (ranked : Ranked) (p k : ℕ) → rank_number ranked.rank ≡ number → IsCandidateOf asked seen (head ∷ pools) (at_place_of ranked p k) → (suc f.best.place < p) ⊎ ((suc f.best.place ≡ p) × (f.best.number ≤ k))
    compare ranked zero k numbered h = absurd (none ranked k numbered h)
    compare ranked (suc p) k numbered h = elim (f.first (at_place_of ranked p k) numbered (nearer asked seen head pools ranked p k h)) [
      | inl before ↦ inl (omega arith)
      | inr same ↦ inr (ap suc same.0, same.1)
    ]

nowhere : (asked : Asked) (seen : Seen) (head : Pool) (pools : List Pool) (number : ℕ) → NoneInHead asked seen head pools number → NoneOf asked seen pools number → NoneOf asked seen (head ∷ pools) number
nowhere asked seen head pools number here there = λ c numbered h. at c.ranked c.place c.number numbered h
  where
    at : (ranked : Ranked) (p k : ℕ) → rank_number ranked.rank ≡ number → ¬ (IsCandidateOf asked seen (head ∷ pools) (at_place_of ranked p k))
    at ranked zero k numbered h = here ranked k numbered h
    at ranked (suc p) k numbered h = there (at_place_of ranked p k) numbered (nearer asked seen head pools ranked p k h)

-- a pool that is not usable, or whose slots do not have the rank, has no candidate
not_usable : (asked : Asked) (seen : Seen) (head : Pool) (pools : List Pool) (number : ℕ) → is_usable asked head ≡ false → NoneInHead asked seen head pools number
not_usable asked seen head pools number unusable = λ ranked k numbered h.
    let usable : is_usable asked head ≡ true = (in_head asked seen head pools ranked k h).usable in cc

-- where it finds the slots of the rank
abbrev finds_in : Asked → Seen → (number : ℕ) → Pool → ℕ → Option Ranked
finds_in asked seen number head k = ranked_at asked seen number (slot_of head.cidr head.size k)

not_ranked : (asked : Asked) (seen : Seen) (head : Pool) (pools : List Pool) (number : ℕ) → first_slot_in asked seen number head ≡ None → NoneInHead asked seen head pools number
not_ranked asked seen head pools number none = λ ranked k numbered h.
    let inside = in_head asked seen head pools ranked k h in
    let fails = first_found-none (finds_in asked seen number head) (last_slot_of head.cidr head.size + 1) 0 none k (omega arith) inside.below in
    let there = subst (λ (n : ℕ). finds_in asked seen n head k ≡ Some (record { slot = slot_of head.cidr head.size k; rank = ranked.rank })) numbered inside.there in
    absurd (cc (there, fails))

-- the first slot of the first pool
head_first : (asked : Asked) (seen : Seen) (head : Pool) (pools : List Pool) (number : ℕ) (found : ℕ × Ranked) → is_usable asked head ≡ true → first_slot_in asked seen number head ≡ Some found → IsFirstOf asked seen (head ∷ pools) number found.1
head_first asked seen head pools number found usable e =
    let there = first_found-some (finds_in asked seen number head) (last_slot_of head.cidr head.size + 1) 0 found e in
    let ranked = ranked-some asked seen number (slot_of head.cidr head.size found.0) found.1 there.there in
    record {
      best = at_place_of found.1 zero found.0;
      is_found = refl;
      numbered = ranked.numbered;
      candidate = record {
        pool = head;
        at_place = refl;
        usable = usable;
        within = omega (arith, there.below);
        is_slot = ranked.is_slot;
        has_rank = ranked.has_rank;
      };
      first = λ c numbered h. compare there.least c.ranked c.place c.number numbered h;
    }
  where
    compare : ((k : ℕ) → 0 ≤ k → k < found.0 → finds_in asked seen number head k ≡ None) → (ranked : Ranked) (p k : ℕ) → rank_number ranked.rank ≡ number → IsCandidateOf asked seen (head ∷ pools) (at_place_of ranked p k) → (zero < p) ⊎ ((zero ≡ p) × (found.0 ≤ k))
    compare least ranked (suc p) k numbered h = inl (omega arith)
    compare least ranked zero k numbered h = elim (cases_Bool (nat_lt k found.0)) [
      | inl less ↦
          let fails = least k (omega arith) (ltb-true k found.0 less) in
          let inside = in_head asked seen head pools ranked k h in
          let there = subst (λ (n : ℕ). finds_in asked seen n head k ≡ Some (record { slot = slot_of head.cidr head.size k; rank = ranked.rank })) numbered inside.there in
          absurd (cc (there, fails))
      | inr not_less ↦ inr (refl, ltb-false k found.0 not_less)
    ]

first_slot-some : (asked : Asked) (seen : Seen) (number : ℕ) (pools : List Pool) (found : Ranked) → first_slot asked seen number pools ≡ Some found → IsFirstOf asked seen pools number found
unfolding first_slot
first_slot-some asked seen number [] found e = absurd (cc e)
first_slot-some asked seen number (head ∷ pools) found e =
    by (λ f. first_slot-some asked seen number pools found f) (is_usable asked head) refl (first_slot_in asked seen number head) refl e
  where
    by : (first_slot asked seen number pools ≡ Some found → IsFirstOf asked seen pools number found) → (b : Bool) → is_usable asked head ≡ b → (o : Option (ℕ × Ranked)) → first_slot_in asked seen number head ≡ o
        → elim b as (λ b. Option Ranked) [ true ↦ elim o as (λ o. Option Ranked) [ Some f ↦ Some f.1 | None ↦ first_slot asked seen number pools ] | false ↦ first_slot asked seen number pools ] ≡ Some found
        → IsFirstOf asked seen (head ∷ pools) number found
    by rest true usable (Some there) is e =
        let same : there.1 ≡ found = cc e in
        subst (λ (x : Ranked). IsFirstOf asked seen (head ∷ pools) number x) same (head_first asked seen head pools number there usable is)
    by rest true usable None is e = behind_head asked seen head pools number found (not_ranked asked seen head pools number is) (rest e)
    by rest false usable o is e = behind_head asked seen head pools number found (not_usable asked seen head pools number usable) (rest e)

first_slot-none : (asked : Asked) (seen : Seen) (number : ℕ) (pools : List Pool) → first_slot asked seen number pools ≡ None → NoneOf asked seen pools number
unfolding first_slot
first_slot-none asked seen number [] e = λ c numbered h. absurd (cc h.at_place)
first_slot-none asked seen number (head ∷ pools) e =
    by (λ f. first_slot-none asked seen number pools f) (is_usable asked head) refl (first_slot_in asked seen number head) refl e
  where
    by : (first_slot asked seen number pools ≡ None → NoneOf asked seen pools number) → (b : Bool) → is_usable asked head ≡ b → (o : Option (ℕ × Ranked)) → first_slot_in asked seen number head ≡ o
        → elim b as (λ b. Option Ranked) [ true ↦ elim o as (λ o. Option Ranked) [ Some f ↦ Some f.1 | None ↦ first_slot asked seen number pools ] | false ↦ first_slot asked seen number pools ] ≡ None
        → NoneOf asked seen (head ∷ pools) number
    by rest true usable (Some there) is e = absurd (cc e)
    by rest true usable None is e = nowhere asked seen head pools number (not_ranked asked seen head pools number is) (rest e)
    by rest false usable o is e = nowhere asked seen head pools number (not_usable asked seen head pools number usable) (rest e)

-- ---- the first candidate of all ranks

-- no candidate of a rank below this number
abbrev NoneBelow : Asked → Seen → ℕ → Type 0
NoneBelow asked seen number = (c : Candidate) → rank_in c < number → ¬ (IsCandidate asked seen c)

-- none of a lower rank, and the first of this one
best_at : (asked : Asked) (seen : Seen) (number : ℕ) (found : Ranked) → NoneBelow asked seen number → IsFirstOf asked seen seen.pools number found → IsBest asked seen (chosen found)
best_at asked seen number found lower f = inr (first, ap chosen (sym f.is_found))
  where
    placed : (c : Candidate) → rank_in f.best ≡ rank_in c → (f.best.place < c.place) ⊎ ((f.best.place ≡ c.place) × (f.best.number ≤ c.number)) → IsNotBehind f.best c
    placed c same (inl before) = by_place same before
    placed c same (inr (place, number)) = by_number same place number

    compare : (c : Candidate) → IsCandidate asked seen c → IsNotBehind f.best c
    compare c h = elim (cases_Bool (nat_lt (rank_in c) number)) [
      | inl less ↦ absurd (lower c (ltb-true (rank_in c) number less) h)
      | inr not_less ↦ elim (cases_Bool (nat_lt number (rank_in c))) [
        | inl more ↦ by_rank (omega (arith, ltb-true number (rank_in c) more, f.numbered))
        | inr not_more ↦
            let same : rank_in c ≡ number = omega (arith, ltb-false (rank_in c) number not_less, ltb-false number (rank_in c) not_more) in
            placed c (f.numbered ∙ sym same) (f.first c same h)
      ]
    ]

    first : FirstCandidate asked seen
    first = record { best = f.best; candidate = f.candidate; first = compare }

none_below_next : (asked : Asked) (seen : Seen) (number : ℕ) → NoneBelow asked seen number → first_slot asked seen number seen.pools ≡ None → NoneBelow asked seen (number + 1)
none_below_next asked seen number below none = λ c less h. elim (cases_Bool (nat_lt (rank_in c) number)) [
  | inl lower ↦ below c (ltb-true (rank_in c) number lower) h
  | inr not_lower ↦ first_slot-none asked seen number seen.pools none c (omega (arith, ltb-false (rank_in c) number not_lower)) h
]

best_from : (asked : Asked) (seen : Seen) (number : ℕ) (numbers : List ℕ) → NoneBelow asked seen number → (NoneBelow asked seen (number + 1) → IsBest asked seen (choice_in (best_of_ranks asked seen numbers))) → IsBest asked seen (choice_in (best_of_ranks asked seen (number ∷ numbers)))
unfolding best_of_ranks
best_from asked seen number numbers below rest = by (first_slot asked seen number seen.pools) refl
  where
    by : (o : Option Ranked) → first_slot asked seen number seen.pools ≡ o → IsBest asked seen (choice_in (elim o as (λ o. Pick) [ Some ranked ↦ Picks ranked | None ↦ best_of_ranks asked seen numbers ]))
    by (Some found) is = best_at asked seen number found below (first_slot-some asked seen number seen.pools found is)
    by None is = rest (none_below_next asked seen number below is)

below_four : (rank : Rank) → rank_number rank < 4
below_four (Own found ordinal) = omega arith
below_four (Unconfirmed found) = omega arith
below_four (Unclaimed read) = omega arith
below_four (Foreign found ordinal) = omega arith

best_of_all : (asked : Asked) (seen : Seen) → IsBest asked seen (choice_in (best_of_ranks asked seen (0 ∷ 1 ∷ 2 ∷ 3 ∷ [])))
unfolding best_of_ranks
best_of_all asked seen =
    best_from asked seen 0 (1 ∷ 2 ∷ 3 ∷ []) (λ c less. absurd (omega arith)) (λ none1.
    best_from asked seen 1 (2 ∷ 3 ∷ []) none1 (λ none2.
    best_from asked seen 2 (3 ∷ []) none2 (λ none3.
    best_from asked seen 3 [] none3 (λ none4. inl (λ c h. none4 c (below_four c.ranked.rank) h, refl)))))

-- what is computed is the choice
pub choice_is : (asked : Asked) (seen : Seen) → IsChoice asked seen (choice_of asked seen)
unfolding pick_of
choice_is asked seen = by (unknown_name asked seen.pools)
  where
    by : (o : Option ℕ) → MatchOption o (IsBest asked seen (choice_in (pick_unless asked seen o))) (λ place. choice_in (pick_unless asked seen o) ≡ NoPool place)
    by (Some place) = refl
    by None = best_of_all asked seen

-- ---- what is picked has its rank

best-ranked : (asked : Asked) (seen : Seen) (numbers : List ℕ) (found : Ranked) → best_of_ranks asked seen numbers ≡ Picks found → rank_of asked seen found.slot ≡ Some found.rank
unfolding best_of_ranks
best-ranked asked seen [] found e = absurd (cc e)
best-ranked asked seen (number ∷ numbers) found e = by (λ f. best-ranked asked seen numbers found f) (first_slot asked seen number seen.pools) refl e
  where
    by : (best_of_ranks asked seen numbers ≡ Picks found → rank_of asked seen found.slot ≡ Some found.rank) → (o : Option Ranked) → first_slot asked seen number seen.pools ≡ o → elim o as (λ o. Pick) [ Some ranked ↦ Picks ranked | None ↦ best_of_ranks asked seen numbers ] ≡ Picks found → rank_of asked seen found.slot ≡ Some found.rank
    by rest (Some there) is f =
        let same : there ≡ found = cc f in
        let first = first_slot-some asked seen number seen.pools there is in
        subst (λ (x : Ranked). rank_of asked seen x.slot ≡ Some x.rank) (first.is_found ∙ same) first.candidate.has_rank
    by rest None is f = rest f

pub pick-ranked : (asked : Asked) (seen : Seen) (found : Ranked) → pick_of asked seen ≡ Picks found → rank_of asked seen found.slot ≡ Some found.rank
unfolding pick_of
pick-ranked asked seen found e = by (unknown_name asked seen.pools) e
  where
    by : (o : Option ℕ) → pick_unless asked seen o ≡ Picks found → rank_of asked seen found.slot ≡ Some found.rank
    by (Some place) f = absurd (cc f)
    by None f = best-ranked asked seen (0 ∷ 1 ∷ 2 ∷ 3 ∷ []) found f

-- ---- there is no other choice

-- at one place and number there is one ranked slot
ranked-same : (asked : Asked) (seen : Seen) (c d : Candidate) → c.place ≡ d.place → c.number ≡ d.number → IsCandidate asked seen c → IsCandidate asked seen d → c.ranked ≡ d.ranked
ranked-same asked seen c d place number h k =
    let same : h.pool ≡ k.pool = cc (h.at_place, k.at_place, place) in
    let slots : slot_of h.pool.cidr h.pool.size c.number ≡ slot_of k.pool.cidr k.pool.size d.number = λ i. slot_of (same i).cidr (same i).size (number i) in
    let slot : c.ranked.slot ≡ d.ranked.slot = h.is_slot ∙ (slots ∙ sym k.is_slot) in
    let somes : Some c.ranked.rank ≡ Some d.ranked.rank = sym h.has_rank ∙ (ap (rank_of asked seen) slot ∙ k.has_rank) in
    let rank : c.ranked.rank ≡ d.ranked.rank = cc somes in
    λ i. record { slot = slot i; rank = rank i }

record SamePlace (c d : Candidate) : Type 0 where
  place : c.place ≡ d.place
  number : c.number ≡ d.number

not_behind_both : (c d : Candidate) → IsNotBehind c d → IsNotBehind d c → SamePlace c d
not_behind_both c d (by_rank less) (by_rank more) = absurd (omega (arith, less, more))
not_behind_both c d (by_rank less) (by_place same more) = absurd (omega (arith, less, same))
not_behind_both c d (by_rank less) (by_number same place more) = absurd (omega (arith, less, same))
not_behind_both c d (by_place same less) (by_rank more) = absurd (omega (arith, more, same))
not_behind_both c d (by_place same less) (by_place same' more) = absurd (omega (arith, less, more))
not_behind_both c d (by_place same less) (by_number same' place more) = absurd (omega (arith, less, place))
not_behind_both c d (by_number same place less) (by_rank more) = absurd (omega (arith, more, same))
not_behind_both c d (by_number same place less) (by_place same' more) = absurd (omega (arith, place, more))
not_behind_both c d (by_number same place less) (by_number same' place' more) =
    record { place = place; number = omega (arith, less, more) }

bests_same : (asked : Asked) (seen : Seen) (one other : Choice) → IsBest asked seen one → IsBest asked seen other → one ≡ other
bests_same asked seen one other (inl (none, e)) (inl (none', f)) = e ∙ sym f
bests_same asked seen one other (inl (none, e)) (inr (c, f)) = absurd (none c.best c.candidate)
bests_same asked seen one other (inr (c, e)) (inl (none, f)) = absurd (none c.best c.candidate)
bests_same asked seen one other (inr (c, e)) (inr (d, f)) =
    let same = not_behind_both c.best d.best (c.first d.best d.candidate) (d.first c.best c.candidate) in
    e ∙ (ap chosen (ranked-same asked seen c.best d.best same.place same.number c.candidate d.candidate) ∙ sym f)

-- there is one choice
pub choices_same : (asked : Asked) (seen : Seen) (one other : Choice) → IsChoice asked seen one → IsChoice asked seen other → one ≡ other
choices_same asked seen one other = by (unknown_name asked seen.pools)
  where
    by : (o : Option ℕ) → MatchOption o (IsBest asked seen one) (λ place. one ≡ NoPool place) → MatchOption o (IsBest asked seen other) (λ place. other ≡ NoPool place) → one ≡ other
    by (Some place) e f = e ∙ sym f
    by None e f = bests_same asked seen one other e f

pub choice_only : (asked : Asked) (seen : Seen) (choice : Choice) → IsChoice asked seen choice → choice ≡ choice_of asked seen
choice_only asked seen choice is = choices_same asked seen choice (choice_of asked seen) is (choice_is asked seen)
