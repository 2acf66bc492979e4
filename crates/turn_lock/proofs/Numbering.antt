-- The numbers of passes: what each step does to them, and that a pass which owns as many as it knows of is the last.
use Rattle.std.proofs.Common.{◌≡◌, ◌≢◌, ℕ, ◌+◌, ◌<◌, ◌≤◌, List, [], ◌∷◌, ◌++◌, length, set, sym, refl, ap, ◌∙◌, subst, arith}
use Rattle.std.specs.Prelude.{min, max}
use mathlib.Core.Logic.{dite}
use mathlib.Core.Option.{some, some-ne-none, some-injective}
use native.Mathlib.Decide.{ℕ_discrete, dec_le}
use lib.ListN.{get_elem?}
use Rattle.atomic_table.proofs.Lists.{set_here, set_else, at_longer}
use Rattle.turn_lock.specs.declared.view.View.{View}
use Rattle.turn_lock.specs.Rule.{times, total, owning, draws, Numbers, Drawn, Numbered}
use Rattle.turn_lock.specs.Moves.{sparing, worn, kept_part, new_part, both, spent}
use Rattle.turn_lock.proofs.Totals.{hit, miss, times_append, total_set, total_snoc, total_one, total_two, inside, each_set, each_snoc, length_upto, upto_le, upto_full}

-- the number of a pass is below what it knows to be taken
pub own_low : (next live number spare tries made : ℕ) (owns : List ℕ) → Numbers next live number spare tries made owns → live ≡ 1 → number < made
own_low next live number spare tries made owns m l = let o = m.own l in dite (dec_le made number) (λ h. let z = m.known number h in absurd (omega arith)) (λ h. omega arith)

numbers_more : (next live number spare tries made : ℕ) (owns : List ℕ) → Numbers next live number spare tries made owns → Numbers (next + 1) live number spare tries made owns
numbers_more next live number spare tries made owns m = record { low = let l = m.low in omega arith; few = m.few; known = m.known; able = m.able; own = m.own; spared = m.spared }

module _ {O E : Type 0} where
  abbrev numbers_of : View O E → ℕ × ℕ × ℕ × ℕ × ℕ × List ℕ
  numbers_of v = (v.live, v.number, v.spare, v.tries, v.made, v.owns)

  abbrev Grows : View O E → View O E → Type 0
  Grows v w = (k : ℕ) → k < v.made → (i : ℕ) → i < k → 0 < times i v.owns → (k < w.made) × ((i' : ℕ) × (i' < k) × (0 < times i' w.owns))

  drawn_set : (vs : List (View O E)) (id : ℕ) (v w : View O E) → get_elem? vs id ≡ some v → Grows v w → (k : ℕ) → Drawn vs k → Drawn (set vs id w) k
  drawn_set vs id v w at grows k d = dite (ℕ_discrete d.0 id)
      (λ e. let same : d.1 ≡ v = some-injective d.1 v (sym (subst (λ j. get_elem? vs j ≡ some d.1) e d.2) ∙ at) in
      let g = grows k (subst (λ (u : View O E). k < u.made) same d.3) d.4.0 d.4.1 (subst (λ (u : View O E). 0 < times d.4.0 u.owns) same d.4.2) in
      (id, w, set_here vs id w (inside vs id v at), g.0, g.1))
      (λ ne. (d.0, d.1, set_else vs id d.0 w ne ∙ d.2, d.3, d.4))

  -- a step that leaves the numbers of its view
  pub numbered_set : (next : ℕ) (vs : List (View O E)) (id : ℕ) (v w : View O E) → get_elem? vs id ≡ some v → numbers_of w ≡ numbers_of v → Numbered next vs → Numbered next (set vs id w)
  numbered_set next vs id v w at e n = record {
    one = λ k l. let s = total_set (owning k) vs id v w at in let o = n.one k l in let c = ap (λ t. times k t.5) e in omega arith;
    none_yet = λ k l. let s = total_set (owning k) vs id v w at in let o = n.none_yet k l in let c = ap (λ t. times k t.5) e in omega arith;
    drawn = λ k low l. drawn_set vs id v w at (λ j m i b h. (let c = ap (λ t. t.4) e in omega arith, (i, b, (let c = ap (λ t. times i t.5) e in omega arith)))) k (n.drawn k low l);
    credit = let s = total_set draws vs id v w at in let o = n.credit in let c = ap (λ t. t.3) e in omega arith;
    bound = let s = total_set draws vs id v w at in let o = n.bound in let c = ap (λ t. t.3) e in omega arith;
    each = each_set (λ j u. Numbers next u.live u.number u.spare u.tries u.made u.owns) vs id w
        (subst (λ (t : ℕ × ℕ × ℕ × ℕ × ℕ × List ℕ). Numbers next t.0 t.1 t.2 t.3 t.4 t.5) (sym e) (n.each id v at)) (λ j u _ a. n.each j u a);
  }

  -- what is owned was drawn
  pub owned_low : (next : ℕ) (vs : List (View O E)) (id : ℕ) (v : View O E) (k : ℕ) → get_elem? vs id ≡ some v → Numbered next vs → 0 < times k v.owns → k < min next 64
  owned_low next vs id v k at n h = dite (dec_le (min next 64) k) (λ l. let o = n.none_yet k l in let t = total_one (owning k) vs id v at in absurd (omega arith)) (λ l. omega arith)

  -- and has one owner
  pub one_owner : (next : ℕ) (vs : List (View O E)) (i j : ℕ) (v w : View O E) (k : ℕ) → get_elem? vs i ≡ some v → get_elem? vs j ≡ some w → Numbered next vs
      → 0 < times k v.owns → 0 < times k w.owns → i ≡ j
  one_owner next vs i j v w k at there n h g = dite (ℕ_discrete i j) (λ e. e)
      (λ ne. let l = owned_low next vs i v k at n h in let o = n.one k l in let t = total_two (owning k) vs i j v w ne at there in absurd (omega arith))

  pub owns_once : (next : ℕ) (vs : List (View O E)) (id : ℕ) (v : View O E) (k : ℕ) → get_elem? vs id ≡ some v → Numbered next vs → times k v.owns ≤ 1
  owns_once next vs id v k at n = dite (dec_le (min next 64) k)
      (λ l. let o = n.none_yet k l in let t = total_one (owning k) vs id v at in omega arith)
      (λ l. let o = n.one k (omega arith) in let t = total_one (owning k) vs id v at in omega arith)

  -- so a pass has at most 64 numbers
  pub owns_few : (next : ℕ) (vs : List (View O E)) (id : ℕ) (v : View O E) → get_elem? vs id ≡ some v → Numbered next vs → length v.owns ≤ 64
  owns_few next vs id v at n = let m = n.each id v at in let few = m.few in let e = length_upto 64 v.owns (λ k l. m.known k (omega arith)) in
      let b = upto_le 64 (λ k. times k v.owns) (λ k _. owns_once next vs id v k at n) in omega arith

  -- where a pass owns as many numbers as it knows to be taken, no other pass is left
  pub is_only : (next : ℕ) (vs : List (View O E)) (id : ℕ) (v : View O E) → get_elem? vs id ≡ some v → Numbered next vs → v.live ≡ 1 → length v.owns ≡ v.made
      → (j : ℕ) (w : View O E) → get_elem? vs j ≡ some w → w.live ≡ 1 → j ≡ id
  is_only next vs id v at n live all j w there lives =
      let m = n.each id v at in let few = m.few in
      let low = own_low next v.live v.number v.spare v.tries v.made v.owns m live in
      let e = length_upto v.made v.owns m.known in
      let full = upto_full v.made (λ k. times k v.owns) (λ k _. owns_once next vs id v k at n) (sym e ∙ all) in
      let end : min next 64 ≤ v.made = dite (dec_le (min next 64) v.made) (λ h. h) (λ h.
      let d = n.drawn v.made (omega arith) (omega arith) in
      let same : id ≡ d.0 = one_owner next vs id d.0 v d.1 d.4.0 at d.2 n (full d.4.0 d.4.1) d.4.2 in
      let is : d.1 ≡ v = some-injective d.1 v (sym (subst (λ i. get_elem? vs i ≡ some d.1) (sym same) d.2) ∙ at) in
      let big : v.made < v.made = subst (λ (u : View O E). v.made < u.made) is d.3 in absurd (omega arith)) in
      let o = (n.each j w there).own lives in
      let l = owned_low next vs j w w.number there n o in
      one_owner next vs j id w v w.number there at n o (full w.number (omega arith))

  -- a number is drawn for a new pass
  pub numbered_sparing : (next : ℕ) (vs : List (View O E)) (id : ℕ) (v : View O E) → get_elem? vs id ≡ some v → v.live ≡ 1 → v.made < 64 → next < 64 → Numbered next vs
      → Numbered (next + 1) (set vs id (sparing next v))
  numbered_sparing next vs id v at live able low n =
      let w : View O E = sparing next v in
      let m = n.each id v at in
      let tries = m.able live able in
      let mine = own_low next v.live v.number v.spare v.tries v.made v.owns m live in
      let made = m.low in
      record {
        one = λ k l. let s = total_set (owning k) vs id v w at in dite (ℕ_discrete k next)
            (λ e. let h = hit k next v.owns e in let o = n.none_yet k (omega arith) in omega arith)
            (λ ne. let h = miss k next v.owns ne in let o = n.one k (omega arith) in omega arith);
        none_yet = λ k l. let s = total_set (owning k) vs id v w at in let h = miss k next v.owns (λ e. omega arith) in let o = n.none_yet k (omega arith) in omega arith;
        drawn = λ k some_k l. dite (ℕ_discrete k next)
            (λ e. (
              id,
              w,
              set_here vs id w (inside vs id v at),
              (let g : k < next + 1 = omega arith in g),
              (v.number, (let g : v.number < k = omega arith in g), (let o = m.own live in let h = miss v.number next v.owns (λ e. omega arith) in omega arith)),
            ))
            (λ ne. drawn_set vs id v w at (λ j b i c h. ((let g : j < next + 1 = omega arith in g), (i, c, (omega arith)))) k (n.drawn k some_k (omega arith)));
        credit = let s = total_set draws vs id v w at in let c = n.credit in omega arith;
        bound = let s = total_set draws vs id v w at in let c = n.credit in let b = n.bound in omega arith;
        each = each_set (λ j u. Numbers (next + 1) u.live u.number u.spare u.tries u.made u.owns) vs id w
            (record {
              low = let g : next + 1 ≤ next + 1 = omega arith in g;
              few = let g : next + 1 ≤ 64 = omega arith in g;
              known = λ k l. let h = miss k next v.owns (λ e. omega arith) in let o = n.none_yet k (omega arith) in let t = total_one (owning k) vs id v at in omega arith;
              able = λ _ _. (let g : 0 < v.tries + 1 = omega arith in g);
              own = λ _. let o = m.own live in omega arith;
              spared = λ _. (refl, (let h = hit next next v.owns refl in omega arith), (λ e. omega arith), (let g : 1 < v.tries + 1 = omega arith in g));
            })
            (λ j u _ a. numbers_more next u.live u.number u.spare u.tries u.made u.owns (n.each j u a));
      }

  -- no number is left
  pub numbered_worn : (next : ℕ) (vs : List (View O E)) (id : ℕ) (v : View O E) → get_elem? vs id ≡ some v → v.live ≡ 1 → v.made < 64 → v.spare ≡ 0 → 64 ≤ next → Numbered next vs
      → Numbered (next + 1) (set vs id (worn v))
  numbered_worn next vs id v at live able idle high n =
      let w : View O E = worn v in
      let m = n.each id v at in
      let tries = m.able live able in
      record {
        one = λ k l. let s = total_set (owning k) vs id v w at in let o = n.one k (omega arith) in omega arith;
        none_yet = λ k l. let s = total_set (owning k) vs id v w at in let o = n.none_yet k (omega arith) in omega arith;
        drawn = λ k some_k l. drawn_set vs id v w at (λ j b i c h. ((let g : j < 64 = omega arith in g), (i, c, h))) k (n.drawn k some_k (omega arith));
        credit = let s = total_set draws vs id v w at in let c = n.credit in omega arith;
        bound = let s = total_set draws vs id v w at in let c = n.credit in let b = n.bound in omega arith;
        each = each_set (λ j u. Numbers (next + 1) u.live u.number u.spare u.tries u.made u.owns) vs id w
            (record {
              low = let g : 64 ≤ next + 1 = omega arith in g;
              few = let g : 64 ≤ 64 = omega arith in g;
              known = λ k l. let o = n.none_yet k (omega arith) in let t = total_one (owning k) vs id v at in omega arith;
              able = λ _ h. absurd (omega arith);
              own = m.own;
              spared = λ h. absurd (omega arith);
            })
            (λ j u _ a. numbers_more next u.live u.number u.spare u.tries u.made u.owns (n.each j u a));
      }

  -- the new pass is split off
  pub numbered_split : (next : ℕ) (vs : List (View O E)) (id number : ℕ) (u : View O E) → get_elem? vs id ≡ some (sparing number u) → u.live ≡ 1 → 0 < number → Numbered next vs
      → Numbered next (set vs id (kept_part (sparing number u)) ++ new_part (sparing number u) ∷ [])
  numbered_split next vs id number u at live some_number n =
      let v : View O E = sparing number u in
      let l : View O E = kept_part v in
      let r : View O E = new_part v in
      let m = n.each id v at in
      let spared = m.spared some_number in
      let own = m.own live in
      let cut : (f : View O E → ℕ) → f l + f r ≡ f v → total f (set vs id l ++ r ∷ []) ≡ total f vs
      = λ f e. (let s = total_set f vs id v l at in let t = total_snoc f (set vs id l) r in omega arith) in
      let alone : (k : ℕ) → times k u.owns + times k (number ∷ []) ≡ times k (number ∷ u.owns) = λ k. omega arith in
      record {
        one = λ k b. cut (owning k) (alone k) ∙ n.one k b;
        none_yet = λ k b. cut (owning k) (alone k) ∙ n.none_yet k b;
        drawn = λ k some_k b. let d = drawn_set vs id v l at (λ j c i e h. (c, (i, e, (let g = miss i number u.owns (λ z. omega arith) in omega arith)))) k (n.drawn k some_k b) in
            (d.0, d.1, at_longer (set vs id l) (r ∷ []) d.0 d.1 d.2, d.3, d.4);
        credit = let c = cut draws (let t = spared.3 in omega arith) in let o = n.credit in omega arith;
        bound = let c = cut draws (let t = spared.3 in omega arith) in let o = n.bound in omega arith;
        each = each_snoc (λ j x. Numbers next x.live x.number x.spare x.tries x.made x.owns) (set vs id l) r
            (λ _. record {
              low = m.low;
              few = m.few;
              known = λ k b. miss k number [] (λ e. omega arith);
              able = λ _ _. (let g : 0 < 1 = omega arith in g);
              own = λ _. (let h = hit number number [] refl in omega arith);
              spared = λ h. absurd (omega arith);
            })
            (each_set (λ j x. Numbers next x.live x.number x.spare x.tries x.made x.owns) vs id l
            (record {
              low = m.low;
              few = m.few;
              known = λ k b. let z = m.known k b in let h = miss k number u.owns (λ e. omega arith) in omega arith;
              able = λ _ _. (let t = spared.3 in omega arith);
              own = λ _. (let h = miss u.number number u.owns (λ e. spared.2 (sym e)) in omega arith);
              spared = λ h. absurd (omega arith);
            })
            (λ j x _ a. n.each j x a));
      }

  drawn_spent : (vs : List (View O E)) (id other : ℕ) (v w : View O E) → get_elem? vs id ≡ some v → other ≢ id → get_elem? vs other ≡ some w
      → (k : ℕ) → Drawn vs k → Drawn (set (set vs id (both v w)) other spent) k
  drawn_spent vs id other v w at ne there k d =
      let b : View O E = both v w in
      let here : get_elem? (set (set vs id b) other spent) id ≡ some b = set_else (set vs id b) other id spent (λ e. ne (sym e)) ∙ set_here vs id b (inside vs id v at) in
      let o = times_append d.4.0 v.owns w.owns in
      dite (ℕ_discrete d.0 id)
      (λ e. let same : d.1 ≡ v = some-injective d.1 v (sym (subst (λ j. get_elem? vs j ≡ some d.1) e d.2) ∙ at) in
      let c : k < v.made = subst (λ (u : View O E). k < u.made) same d.3 in let h : 0 < times d.4.0 v.owns = subst (λ (u : View O E). 0 < times d.4.0 u.owns) same d.4.2 in
      (id, b, here, (let g : k < max v.made w.made = omega arith in g), (d.4.0, d.4.1, (let g : 0 < times d.4.0 (v.owns ++ w.owns) = omega arith in g))))
      (λ not_id. dite (ℕ_discrete d.0 other)
      (λ e. let same : d.1 ≡ w = some-injective d.1 w (sym (subst (λ j. get_elem? vs j ≡ some d.1) e d.2) ∙ there) in
      let c : k < w.made = subst (λ (u : View O E). k < u.made) same d.3 in let h : 0 < times d.4.0 w.owns = subst (λ (u : View O E). 0 < times d.4.0 u.owns) same d.4.2 in
      (id, b, here, (let g : k < max v.made w.made = omega arith in g), (d.4.0, d.4.1, (let g : 0 < times d.4.0 (v.owns ++ w.owns) = omega arith in g))))
      (λ not_other. (d.0, d.1, set_else (set vs id b) other d.0 spent not_other ∙ (set_else vs id d.0 b not_id ∙ d.2), d.3, d.4)))

  -- what two passes own, and may still draw, is one's
  pub total_spent : (f : View O E → ℕ) (vs : List (View O E)) (id other : ℕ) (v w : View O E) → get_elem? vs id ≡ some v → get_elem? (set vs id (both v w)) other ≡ some w → f spent ≡ 0
      → total f (set (set vs id (both v w)) other spent) + f v + f w ≡ total f vs + f (both v w)
  total_spent f vs id other v w at there zero_left = let s = total_set f vs id v (both v w) at in let t = total_set f (set vs id (both v w)) other w spent there in omega arith

  pub numbered_joined : (next : ℕ) (vs : List (View O E)) (id other : ℕ) (v w : View O E) → get_elem? vs id ≡ some v → other ≢ id → get_elem? (set vs id (both v w)) other ≡ some w
      → v.live ≡ 1 → w.live ≡ 1 → v.spare ≡ 0 → Numbered next vs → Numbered next (set (set vs id (both v w)) other spent)
  numbered_joined next vs id other v w at ne there live lives idle n =
      let b : View O E = both v w in
      let there' : get_elem? vs other ≡ some w = sym (set_else vs id other b ne) ∙ there in
      let m = n.each id v at in
      let o = n.each other w there' in
      let all : (k : ℕ) → total (owning k) (set (set vs id b) other spent) ≡ total (owning k) vs
      = λ k. (let s = total_spent (owning k) vs id other v w at there refl in let t = times_append k v.owns w.owns in omega arith) in
      let tries : total draws (set (set vs id b) other spent) ≡ total draws vs = let s = total_spent draws vs id other v w at there refl in omega arith in
      record {
        one = λ k l. all k ∙ n.one k l;
        none_yet = λ k l. all k ∙ n.none_yet k l;
        drawn = λ k some_k l. drawn_spent vs id other v w at ne there' k (n.drawn k some_k l);
        credit = let c = n.credit in omega arith;
        bound = let c = n.bound in omega arith;
        each = each_set (λ j x. Numbers next x.live x.number x.spare x.tries x.made x.owns) (set vs id b) other spent
            (record {
              low = omega arith;
              few = omega arith;
              known = λ _ _. refl;
              able = λ h. absurd (omega arith);
              own = λ h. absurd (omega arith);
              spared = λ h. absurd (omega arith);
            })
            (λ j x _. each_set (λ i y. Numbers next y.live y.number y.spare y.tries y.made y.owns) vs id b
            (record {
              low = let p = m.low in let q = o.low in omega arith;
              few = let p = m.few in let q = o.few in omega arith;
              known = λ k l. let p = m.known k (omega arith) in let q = o.known k (omega arith) in let t = times_append k v.owns w.owns in omega arith;
              able = λ _ l. let p = m.able live (omega arith) in omega arith;
              own = λ _. let p = m.own live in let t = times_append v.number v.owns w.owns in omega arith;
              spared = λ h. absurd (omega arith);
            })
            (λ i y _ a. n.each i y a) j x);
      }

  pub numbered_first : (v : View O E) → v.live ≡ 1 → v.number ≡ 0 → v.spare ≡ 0 → v.tries ≡ 1 → v.made ≡ 1 → v.owns ≡ 0 ∷ [] → Numbered 1 (v ∷ [])
  numbered_first v live number spare tries made owns =
      let own : (k : ℕ) → times k v.owns ≡ times k (0 ∷ []) = λ k. ap (times k) owns in
      record {
        one = λ k l. let a = own k in let h = hit k 0 [] (omega arith) in omega arith;
        none_yet = λ k l. let a = own k in let h = miss k 0 [] (λ e. omega arith) in omega arith;
        drawn = λ k some_k l. absurd (omega arith);
        credit = omega arith;
        bound = omega arith;
        each = each_snoc (λ j x. Numbers 1 x.live x.number x.spare x.tries x.made x.owns) [] v
            (λ _. record {
              low = omega arith;
              few = omega arith;
              known = λ k l. let a = own k in let h = miss k 0 [] (λ e. omega arith) in omega arith;
              able = λ _ _. omega arith;
              own = λ _. let a = own v.number in let h = hit v.number 0 [] number in omega arith;
              spared = λ h. absurd (omega arith);
            })
            (λ j x a. absurd (some-ne-none x (sym a)));
      }
