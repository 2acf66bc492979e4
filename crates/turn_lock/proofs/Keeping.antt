-- Each step keeps the rule of the table.
use Rattle.std.proofs.Common.{◌≡◌, ◌≢◌, ℕ, zero, suc, ◌+◌, ◌%◌, ◌<◌, ◌≤◌, List, [], ◌∷◌, ◌++◌, length, get_or, set, sym, refl, ap, ◌∙◌, subst, ⊎_elim, inl, inr, arith, append_assoc, length-append}
use Rattle.std.proofs.lemmas.List.{append-nil}
use mathlib.Core.Logic.{dite}
use mathlib.Core.Option.{Option, some, none, some-ne-none, some-injective}
use native.Mathlib.Decide.{ℕ_discrete, dec_le}
use lib.ListN.{get_elem?}
use lib.Seq.{set-get_or}
use Rattle.atomic_table.specs.Table.{State, Me, step, keeps, takes, gives, put_back, Allows, Splits, Joins, opening}
use Rattle.atomic_table.proofs.Lists.{set_else, set_again}
use Rattle.turn_lock.specs.declared.view.View.{View}
use Rattle.turn_lock.specs.Histories.{NoneBy, AtMostOneBy}
use Rattle.turn_lock.specs.Rule.{times, total, waiting, held, turns, Numbered, Knows, Home, Kept}
use Rattle.turn_lock.specs.Moves.{queued, holding, resting, sparing, worn, kept_part, new_part, both, spent, knowing, first_view, drew, looked, counted, passed_on, rang, numbered, learned}
use Rattle.turn_lock.proofs.Totals.{hit, miss, total_set, total_snoc, total_one, total_two, total_le, total_has, each_set, each_snoc}
use Rattle.turn_lock.proofs.Numbering.{numbered_set, owned_low, one_owner, owns_few, own_low, is_only, numbered_sparing, numbered_worn, numbered_split, numbered_joined, total_spent, numbered_first}

abbrev head_or : {A : Type 0} → A → List A → A
head_or d [] = d
head_or d (x ∷ xs) = x

module _ {E : Type 0} (by : E → ℕ) where
  pub none_append : (n : ℕ) (xs ys : List E) → NoneBy by n xs → NoneBy by n ys → NoneBy by n (xs ++ ys)
  none_append n [] ys h g = g
  none_append n (x ∷ xs) ys h g = (h.0, none_append n xs ys h.1 g)

  pub none_newer : (n : ℕ) (xs ys : List E) → NoneBy by n (xs ++ ys) → NoneBy by n xs
  none_newer n [] ys h = tt
  none_newer n (x ∷ xs) ys h = (h.0, none_newer n xs ys h.1)

  pub none_older : (n : ℕ) (xs ys : List E) → NoneBy by n (xs ++ ys) → NoneBy by n ys
  none_older n [] ys h = h
  none_older n (x ∷ xs) ys h = none_older n xs ys h.1

  pub none_other : (n m : ℕ) (xs : List E) → n ≢ m → AtMostOneBy by m xs → NoneBy by n xs
  none_other n m [] ne h = tt
  none_other n m (x ∷ []) ne h = ((λ e. ne (sym e ∙ h)), tt)
  none_other n m (x ∷ y ∷ xs) ne h = absurd h

-- a ticket list of one that has k has no other
one_ticket : (k t : ℕ) → 0 < times k (t ∷ []) → k ≡ t
one_ticket k t h = dite (ℕ_discrete k t) (λ e. e) (λ ne. let m = miss k t [] ne in absurd (omega arith))

-- the words before the bells stay where a bell is set
bell_set : (a b c d : ℕ) (bells : List ℕ) (i n : ℕ) → 4 ≤ i → (after : List ℕ) × (set (a ∷ b ∷ c ∷ d ∷ bells) i n ≡ a ∷ b ∷ c ∷ d ∷ after)
bell_set a b c d bells zero n h = absurd (omega arith)
bell_set a b c d bells (suc zero) n h = absurd (omega arith)
bell_set a b c d bells (suc (suc zero)) n h = absurd (omega arith)
bell_set a b c d bells (suc (suc (suc zero))) n h = absurd (omega arith)
bell_set a b c d bells (suc (suc (suc (suc i)))) n h = (set bells i n, refl)

module _ {T O E : Type 0} (stands : T → O → List E → Type 0) (by : E → ℕ) (o : O) where
  abbrev Rule : State T (View O E) → Type 0
  Rule = Kept stands by o

  abbrev Views : Type 0
  Views = List (View O E)

  abbrev KnowsAs : List E → View O E → Type 0
  KnowsAs log v = Knows by o log v.live v.holds v.number v.spare v.origin v.root v.seen v.other

  home_set : (log : List E) (homes : List (Option T)) (vs vs' : Views) → total held vs' ≡ total held vs → Home stands o log homes vs → Home stands o log homes vs'
  home_set log homes vs vs' e h = ⊎_elim (λ t. inl (e ∙ t.0, t.1)) (λ t. inr (e ∙ t.0, t.1)) h

  -- who holds the value has it out
  home_out : (log : List E) (homes : List (Option T)) (vs : Views) (id : ℕ) (v : View O E) → get_elem? vs id ≡ some v → v.holds ≡ 1 → Home stands o log homes vs
      → (total held vs ≡ 1) × (homes ≡ none ∷ [])
  home_out log homes vs id v at h home = ⊎_elim (λ t. let a = total_one held vs id v at in let z = t.0 in absurd (omega arith)) (λ t. t) home

  -- and no other has
  one_holder : (vs : Views) (id : ℕ) (v : View O E) → get_elem? vs id ≡ some v → v.holds ≡ 1 → total held vs ≡ 1 → (j : ℕ) (u : View O E) → j ≢ id → get_elem? vs j ≡ some u → u.holds ≡ 0
  one_holder vs id v at h one j u ne there = let t = total_two held vs id j v u (λ e. ne (sym e)) at there in omega arith

  -- two passes have two numbers
  apart_numbers : (s : State T (View O E)) (k : Rule s) (id j : ℕ) (v u : View O E) (n : ℕ) → get_elem? s.views id ≡ some v → get_elem? s.views j ≡ some u → j ≢ id → v.live ≡ 1 → 0 < times n u.owns → n ≢ v.number
  apart_numbers s k id j v u n at there ne live owned e =
      let o = (k.numbered.each id v at).own live in
      ne (one_owner k.next s.views j id u v n there at k.numbered owned (subst (λ m. 0 < times m v.owns) (sym e) o))

  unmoved : (s : State T (View O E)) (k : Rule s) (i id : ℕ) (v : View O E) → get_elem? s.views id ≡ some v → Rule record { words = set s.words i (get_or s.words i 0); homes = s.homes; views = set s.views id v }
  unmoved s k i id v at = subst (λ (x : List ℕ × Views). Rule record { words = x.0; homes = s.homes; views = x.1 }) (λ c. (sym (set-get_or s.words i 0) c, sym (set_again s.views id v at) c)) k

  pub draws_ticket : (slots id : ℕ) (me : Me T (View O E)) → me.0.live ≡ 1 → me.0.holds ≡ 0 → me.0.waits ≡ [] → 0 < me.0.left
      → Allows Rule slots id me 0 (λ n. (n + 1) % 18446744073709551616) (drew (step slots 0 1 0 none) me)
  draws_ticket slots id me live idle free some_left s k deep at fits =
      let v : View O E = me.0 in
      let w : View O E = queued k.ticket v in
      let r : get_or s.words 0 0 ≡ k.ticket = ap (λ ws. get_or ws 0 0) k.words in
      let room = k.fits in
      let served = k.served in
      let next : (k.ticket + 1) % 18446744073709551616 ≡ k.ticket + 1 = omega arith in
      let none_before : (t : ℕ) → times t v.waits ≡ 0 = λ t. ap (times t) free in (
        w,
        keeps,
        tt,
        record {
          ticket = k.ticket + 1;
          serving = k.serving;
          next = k.next;
          bells = k.bells;
          log = k.log;
          words = ap (λ ws. set ws 0 ((get_or ws 0 0 + 1) % 18446744073709551616)) k.words ∙ ap (λ (n : ℕ). n ∷ k.serving ∷ length k.log % 18446744073709551616 ∷ k.next ∷ k.bells) next;
          served = omega arith;
          fits = let t = total_set turns s.views id v w at in omega arith;
          apart = λ t. let e = total_set (waiting t) s.views id v w at in let f = none_before t in let a = k.apart t in dite (ℕ_discrete t k.ticket)
              (λ same. let z = k.to_come t (omega arith) in let h = hit t k.ticket [] same in omega arith) (λ ne. let h = miss t k.ticket [] ne in omega arith);
          to_come = λ t l. let e = total_set (waiting t) s.views id v w at in let f = none_before t in let z = k.to_come t (omega arith) in let h = miss t k.ticket [] (λ e. omega arith) in omega arith;
          queue = each_set (λ j u. u.holds ≤ times k.serving u.waits) s.views id w (omega arith) (λ j u _ a. k.queue j u a);
          knows = each_set (λ j u. KnowsAs k.log u) s.views id w (k.knows id v at) (λ j u _ a. k.knows j u a);
          home = home_set k.log s.homes s.views (set s.views id w) (let t = total_set held s.views id v w at in omega arith) k.home;
          numbered = numbered_set k.next s.views id v w at refl k.numbered;
          fresh = k.fresh;
          stood = k.stood;
        },
        ap (λ (n : ℕ). let x : Me T (View O E) = (queued n v, me.1) in x) (sym r),
      )

  -- whose ticket is served finds the value at home
  at_home : (s : State T (View O E)) (k : Rule s) (id : ℕ) (v : View O E) → get_elem? s.views id ≡ some v → v.holds ≡ 0 → v.waits ≡ k.serving ∷ []
      → (total held s.views ≡ 0) × ((y : T) × (s.homes ≡ some y ∷ []) × stands y o k.log)
  at_home s k id v at idle waits = ⊎_elim (λ t. t) (λ t.
      let x : View O E = spent in
      let mine : times k.serving v.waits ≡ 1 = ap (times k.serving) waits ∙ (let h = hit k.serving k.serving [] refl in omega arith) in
      let a = total_set held s.views id v x at in
      let b = total_set (waiting k.serving) s.views id v x at in
      let c = k.apart k.serving in
      let d = total_le held (waiting k.serving) (set s.views id x) (each_set (λ j u. u.holds ≤ times k.serving u.waits) s.views id x (omega arith) (λ j u _ e. k.queue j u e)) in
      let z = t.0 in absurd (omega arith)) k.home

  pub looks : (slots id : ℕ) (me : Me T (View O E)) (t : ℕ) → me.0.live ≡ 1 → me.0.holds ≡ 0 → me.0.waits ≡ t ∷ []
      → Allows Rule slots id me 1 (λ n. n) (looked stands by (step slots 1 0 0 none) me)
  looks slots id me t live idle waits s k deep at fits =
      let v : View O E = me.0 in
      let r : get_or s.words 1 0 ≡ k.serving = ap (λ ws. get_or ws 1 0) k.words in
      dite (ℕ_discrete t k.serving)
      (λ mine.
      let waits' : v.waits ≡ k.serving ∷ [] = waits ∙ ap (λ (n : ℕ). n ∷ []) mine in
      let h = at_home s k id v at idle waits' in
      let y : T = h.1.0 in
      let w : View O E = holding k.log v in
      let knew = k.knows id v at in
      let whole = knew.grew live in
      let turn : times k.serving v.waits ≡ 1 = ap (times k.serving) waits' ∙ (let h = hit k.serving k.serving [] refl in omega arith) in (
        w,
        takes 0 y,
        ap (λ hs. get_elem? hs 0) h.1.1,
        record {
          ticket = k.ticket;
          serving = k.serving;
          next = k.next;
          bells = k.bells;
          log = k.log;
          words = set-get_or s.words 1 0 ∙ k.words;
          served = k.served;
          fits = let t = total_set turns s.views id v w at in let f = k.fits in omega arith;
          apart = λ t. let e = total_set (waiting t) s.views id v w at in let a = k.apart t in omega arith;
          to_come = λ t l. let e = total_set (waiting t) s.views id v w at in let z = k.to_come t l in omega arith;
          queue = each_set (λ j u. u.holds ≤ times k.serving u.waits) s.views id w (omega arith) (λ j u _ a. k.queue j u a);
          knows = each_set (λ j u. KnowsAs k.log u) s.views id w
              (record {
                same = knew.same;
                rooted = knew.rooted;
                later = [];
                grew = λ _. refl;
                others = λ _. tt;
                beside = knew.beside;
                newest = λ _. (live, refl);
                unused = knew.unused;
              })
              (λ j u _ a. k.knows j u a);
          home = inr ((let e = total_set held s.views id v w at in let z = h.0 in omega arith), ap (λ hs. set hs 0 none) h.1.1);
          numbered = numbered_set k.next s.views id v w at refl k.numbered;
          fresh = k.fresh;
          stood = k.stood;
        },
        (
          (λ _. record {
            value = y;
            between = knew.later;
            now = ap (λ (log : List E). let x : Me T (View O E) = (holding log v, (0, y) ∷ me.1) in x) whole;
            others = knew.others live;
            stood = λ from e. subst (λ (x : O × List E). stands y x.0 x.1) (λ c. (let ps = sym (knew.same live) ∙ e in ap (λ (l : List O). head_or o l) ps c, whole c)) h.1.2;
          }),
          λ other. absurd (other (waits' ∙ ap (λ (n : ℕ). n ∷ []) (sym r))),
        ),
      ))
      (λ ne. (
        v,
        keeps,
        tt,
        unmoved s k 1 id v at,
        (
          (λ e. absurd (ne (one_ticket t k.serving (let h = hit t t [] refl in let f : times t (t ∷ []) ≡ times t (get_or s.words 1 0 ∷ []) = ap (times t) (sym waits ∙ e) in let g : times t (get_or s.words 1 0 ∷ []) ≡ times t (k.serving ∷ []) = ap (λ (n : ℕ). times t (n ∷ [])) r in omega arith)))),
          λ _. refl,
        ),
      ))

  pub counts : (slots id : ℕ) (me : Me T (View O E)) (added : List E) (b : ℕ) (y : T) → me.0.live ≡ 1 → me.0.holds ≡ 1 → me.0.spare ≡ 0 → AtMostOneBy by me.0.number added → b ≡ length added
      → ((from : O) → me.0.origin ≡ from ∷ [] → stands y from (added ++ me.0.seen))
      → Allows Rule slots id me 2 (λ n. (n + b) % 18446744073709551616) (counted added (step slots 2 b 0 none) me)
  counts slots id me added b y live holds bare adds counts_it stood s k deep at fits =
      let v : View O E = me.0 in
      let w : View O E = holding (added ++ v.seen) v in
      let log : List E = added ++ k.log in
      let knew = k.knows id v at in
      let whole : k.log ≡ v.seen = knew.grew live ∙ ap (λ (l : List E). l ++ v.seen) (knew.newest holds).1 in
      let out = home_out k.log s.homes s.views id v at holds k.home in
      let length' = length-append added k.log in (
        w,
        keeps,
        tt,
        record {
          ticket = k.ticket;
          serving = k.serving;
          next = k.next;
          bells = k.bells;
          log = log;
          words = ap (λ ws. set ws 2 ((get_or ws 2 0 + b) % 18446744073709551616)) k.words ∙ ap (λ (n : ℕ). k.ticket ∷ k.serving ∷ n ∷ k.next ∷ k.bells)
              (let g : (length k.log % 18446744073709551616 + b) % 18446744073709551616 ≡ length log % 18446744073709551616 = omega arith in g);
          served = k.served;
          fits = let t = total_set turns s.views id v w at in let f = k.fits in omega arith;
          apart = λ t. let e = total_set (waiting t) s.views id v w at in let a = k.apart t in omega arith;
          to_come = λ t l. let e = total_set (waiting t) s.views id v w at in let z = k.to_come t l in omega arith;
          queue = each_set (λ j u. u.holds ≤ times k.serving u.waits) s.views id w (let q = k.queue id v at in omega arith) (λ j u _ a. k.queue j u a);
          knows = each_set (λ j u. KnowsAs log u) s.views id w
              (record {
                same = knew.same;
                rooted = knew.rooted;
                later = [];
                grew = λ _. ap (λ (l : List E). added ++ l) whole;
                others = λ _. tt;
                beside = λ l. let g = knew.beside l in (added ++ g.0, ap (λ (x : List E). added ++ x) g.1 ∙ sym (append_assoc added g.0 v.other));
                newest = λ _. (live, refl);
                unused = λ h. absurd (omega arith);
              })
              (λ j u ne a.
              let ku = k.knows j u a in
              let numbers = k.numbered.each j u a in
              record {
                same = ku.same;
                rooted = ku.rooted;
                later = added ++ ku.later;
                grew = λ l. ap (λ (x : List E). added ++ x) (ku.grew l) ∙ sym (append_assoc added ku.later u.seen);
                others = λ l. none_append by u.number added ku.later
                    (none_other by u.number v.number added (apart_numbers s k id j v u u.number at a ne live (numbers.own l)) adds) (ku.others l);
                beside = λ l. let g = ku.beside l in (added ++ g.0, ap (λ (x : List E). added ++ x) g.1 ∙ sym (append_assoc added g.0 u.other));
                newest = λ h. let z = one_holder s.views id v at holds out.0 j u ne a in absurd (omega arith);
                unused = λ h. none_append by u.spare added k.log
                    (none_other by u.spare v.number added (apart_numbers s k id j v u u.spare at a ne live (numbers.spared h).1) adds) (ku.unused h);
              });
          home = inr ((let e = total_set held s.views id v w at in let z = out.0 in omega arith), out.1);
          numbered = numbered_set k.next s.views id v w at refl k.numbered;
          fresh = λ n l. none_append by n added k.log
              (none_other by n v.number added (λ e. let low = owned_low k.next s.views id v v.number at k.numbered ((k.numbered.each id v at).own live) in absurd (omega arith)) adds)
              (k.fresh n l);
          stood = (y, subst (λ (l : List E). stands y o (added ++ l)) (sym whole) (stood o (knew.same live)));
        },
        refl,
      )

  pub passes_on : (slots id : ℕ) (me : Me T (View O E)) (t : ℕ) (y : T) → me.0.live ≡ 1 → me.0.holds ≡ 1 → me.0.waits ≡ t ∷ [] → me.1 ≡ (0, y) ∷ []
      → ((from : O) → me.0.origin ≡ from ∷ [] → stands y from me.0.seen)
      → Allows Rule slots id me 1 (λ n. (n + 1) % 18446744073709551616) (passed_on (step slots 1 1 0 none) me)
  passes_on slots id me t y live holds waits carried stood s k deep at fits =
      let v : View O E = me.0 in
      let w : View O E = resting v in
      let knew = k.knows id v at in
      let whole : k.log ≡ v.seen = knew.grew live ∙ ap (λ (l : List E). l ++ v.seen) (knew.newest holds).1 in
      let out = home_out k.log s.homes s.views id v at holds k.home in
      let mine : (n : ℕ) → times n v.waits ≡ times n (t ∷ []) = λ n. ap (times n) waits in
      let serves : k.serving ≡ t = one_ticket k.serving t (let q = k.queue id v at in let m = mine k.serving in omega arith) in
      let waited = total_one (waiting t) s.views id v at in
      let turn : times t v.waits ≡ 1 = mine t ∙ (let h = hit t t [] refl in omega arith) in
      let before : k.serving < k.ticket = dite (dec_le k.ticket k.serving) (λ h. let z = k.to_come t (omega arith) in absurd (omega arith)) (λ h. omega arith) in
      let room = k.fits in (
        w,
        gives,
        tt,
        record {
          ticket = k.ticket;
          serving = k.serving + 1;
          next = k.next;
          bells = k.bells;
          log = k.log;
          words = ap (λ ws. set ws 1 ((get_or ws 1 0 + 1) % 18446744073709551616)) k.words ∙ ap (λ (n : ℕ). k.ticket ∷ n ∷ length k.log % 18446744073709551616 ∷ k.next ∷ k.bells)
              (let g : (k.serving + 1) % 18446744073709551616 ≡ k.serving + 1 = omega arith in g);
          served = omega arith;
          fits = let t = total_set turns s.views id v w at in omega arith;
          apart = λ t. let e = total_set (waiting t) s.views id v w at in let a = k.apart t in omega arith;
          to_come = λ t l. let e = total_set (waiting t) s.views id v w at in let z = k.to_come t l in omega arith;
          queue = each_set (λ j u. u.holds ≤ times (k.serving + 1) u.waits) s.views id w (omega arith)
              (λ j u ne a. let z = one_holder s.views id v at holds out.0 j u ne a in omega arith);
          knows = each_set (λ j u. KnowsAs k.log u) s.views id w
              (record {
                same = knew.same;
                rooted = knew.rooted;
                later = knew.later;
                grew = knew.grew;
                others = knew.others;
                beside = knew.beside;
                newest = λ h. absurd (omega arith);
                unused = knew.unused;
              })
              (λ j u _ a. k.knows j u a);
          home = inl (
            (let e = total_set held s.views id v w at in let z = out.0 in omega arith),
            (y, ap (put_back s.homes) carried ∙ ap (λ hs. set hs 0 (some y)) out.1, subst (stands y o) (sym whole) (stood o (knew.same live))),
          );
          numbered = numbered_set k.next s.views id v w at refl k.numbered;
          fresh = k.fresh;
          stood = k.stood;
        },
        refl,
      )

  -- a bell means nothing: the rule holds whatever it is
  pub rings : (slots id bell : ℕ) (me : Me T (View O E)) → 4 ≤ bell
      → Allows Rule slots id me bell (λ n. (n + 1) % 18446744073709551616) (rang (step slots bell 1 0 none) me)
  rings slots id bell me behind s k deep at fits =
      let n : ℕ = (get_or s.words bell 0 + 1) % 18446744073709551616 in
      let rung = bell_set k.ticket k.serving (length k.log % 18446744073709551616) k.next k.bells bell n behind in (
        me.0,
        keeps,
        tt,
        subst (λ vs. Rule record { words = set s.words bell n; homes = s.homes; views = vs }) (sym (set_again s.views id me.0 at))
            record {
              ticket = k.ticket;
              serving = k.serving;
              next = k.next;
              bells = rung.0;
              log = k.log;
              words = ap (λ ws. set ws bell n) k.words ∙ rung.1;
              served = k.served;
              fits = k.fits;
              apart = k.apart;
              to_come = k.to_come;
              queue = k.queue;
              knows = k.knows;
              home = k.home;
              numbered = k.numbered;
              fresh = k.fresh;
              stood = k.stood;
            },
        refl,
      )

  abbrev unchanged : View O E → View O E → Type 0
  unchanged v w = (w.waits ≡ v.waits) × (w.left ≡ v.left) × (w.holds ≡ v.holds)

  -- a step on the word of numbers, which touches nothing else
  numbers_step : (s : State T (View O E)) (k : Rule s) (id : ℕ) (v w : View O E) (next : ℕ) → get_elem? s.views id ≡ some v → unchanged v w → (k.next + 1) % 18446744073709551616 ≡ k.next + 1 → KnowsAs k.log w
      → Numbered (k.next + 1) (set s.views id w) → Rule record { words = set s.words 3 ((get_or s.words 3 0 + 1) % 18446744073709551616); homes = s.homes; views = set s.views id w }
  numbers_step s k id v w next at same more knew numbers = record {
    ticket = k.ticket;
    serving = k.serving;
    next = k.next + 1;
    bells = k.bells;
    log = k.log;
    words = ap (λ ws. set ws 3 ((get_or ws 3 0 + 1) % 18446744073709551616)) k.words ∙ ap (λ (n : ℕ). k.ticket ∷ k.serving ∷ length k.log % 18446744073709551616 ∷ n ∷ k.bells) more;
    served = k.served;
    fits = let t = total_set turns s.views id v w at in let f = k.fits in let e = same.1 in omega arith;
    apart = λ t. let e = total_set (waiting t) s.views id v w at in let a = k.apart t in let f = ap (times t) same.0 in omega arith;
    to_come = λ t l. let e = total_set (waiting t) s.views id v w at in let z = k.to_come t l in let f = ap (times t) same.0 in omega arith;
    queue = each_set (λ j u. u.holds ≤ times k.serving u.waits) s.views id w (let q = k.queue id v at in let f = ap (times k.serving) same.0 in let e = same.2 in omega arith) (λ j u _ a. k.queue j u a);
    knows = each_set (λ j u. KnowsAs k.log u) s.views id w knew (λ j u _ a. k.knows j u a);
    home = home_set k.log s.homes s.views (set s.views id w) (let t = total_set held s.views id v w at in let e = same.2 in omega arith) k.home;
    numbered = numbers;
    fresh = λ n l. k.fresh n (omega arith);
    stood = k.stood;
  }

  pub draws_number : (slots id : ℕ) (me : Me T (View O E)) → me.0.live ≡ 1 → me.0.spare ≡ 0 → me.0.made < 64
      → Allows Rule slots id me 3 (λ n. (n + 1) % 18446744073709551616) (numbered stands by (step slots 3 1 0 none) me)
  draws_number slots id me live bare able s k deep at fits =
      let v : View O E = me.0 in
      let r : get_or s.words 3 0 ≡ k.next = ap (λ ws. get_or ws 3 0) k.words in
      let knew = k.knows id v at in
      let bound = k.numbered.bound in
      let more : (k.next + 1) % 18446744073709551616 ≡ k.next + 1 = omega arith in
      let m = k.numbered.each id v at in
      let low = m.low in
      let own = own_low k.next v.live v.number v.spare v.tries v.made v.owns m live in
      dite (dec_le 64 k.next)
      (λ high. let w : View O E = worn v in (
        w,
        keeps,
        tt,
        numbers_step s k id v w k.next at (refl, refl, refl) more knew (numbered_worn k.next s.views id v at live able bare high k.numbered),
        ((λ h. absurd (omega arith)), λ _. refl),
      ))
      (λ few. let w : View O E = sparing k.next v in (
        w,
        keeps,
        tt,
        numbers_step s k id v w k.next at (refl, refl, refl) more
            (record {
              same = knew.same;
              rooted = knew.rooted;
              later = knew.later;
              grew = knew.grew;
              others = knew.others;
              beside = knew.beside;
              newest = knew.newest;
              unused = λ _. k.fresh k.next (omega arith);
            })
            (numbered_sparing k.next s.views id v at live able (omega arith) k.numbered),
        (
          (λ _. (
            ap (λ (n : ℕ). let x : Me T (View O E) = (sparing n v, me.1) in x) (sym r),
            omega arith,
            omega arith,
            subst (λ (n : ℕ). NoneBy by n v.seen) (sym r) (none_older by k.next knew.later v.seen (subst (NoneBy by k.next) (knew.grew live) (k.fresh k.next (omega arith)))),
          )),
          λ h. absurd (omega arith),
        ),
      ))

  pub splits : (id number : ℕ) (u : View O E) → u.live ≡ 1 → 0 < number → 1125899906842624 < u.left
      → Splits Rule id (sparing number u) (kept_part (sparing number u)) (new_part (sparing number u))
  splits id number u live some_number rich s k at =
      let v : View O E = sparing number u in
      let l : View O E = kept_part v in
      let r : View O E = new_part v in
      let knew = k.knows id v at in
      let cut : (f : View O E → ℕ) → f l + f r ≡ f v → total f (set s.views id l ++ r ∷ []) ≡ total f s.views
      = λ f e. (let a = total_set f s.views id v l at in let b = total_snoc f (set s.views id l) r in omega arith) in
      record {
        ticket = k.ticket;
        serving = k.serving;
        next = k.next;
        bells = k.bells;
        log = k.log;
        words = k.words;
        served = k.served;
        fits = let f = k.fits in let c = cut turns (omega arith) in omega arith;
        apart = λ t. let a = k.apart t in let c = cut (waiting t) (omega arith) in omega arith;
        to_come = λ t h. let a = k.to_come t h in let c = cut (waiting t) (omega arith) in omega arith;
        queue = each_snoc (λ j x. x.holds ≤ times k.serving x.waits) (set s.views id l) r (λ _. omega arith)
            (each_set (λ j x. x.holds ≤ times k.serving x.waits) s.views id l (k.queue id v at) (λ j x _ a. k.queue j x a));
        knows = each_snoc (λ j x. KnowsAs k.log x) (set s.views id l) r
            (λ _. record {
              same = knew.same;
              rooted = knew.rooted;
              later = knew.later;
              grew = knew.grew;
              others = λ h. none_newer by number knew.later u.seen (subst (NoneBy by number) (knew.grew h) (knew.unused some_number));
              beside = λ _. (k.log, sym (append-nil k.log));
              newest = λ h. absurd (omega arith);
              unused = λ h. absurd (omega arith);
            })
            (each_set (λ j x. KnowsAs k.log x) s.views id l
            (record {
              same = knew.same;
              rooted = knew.rooted;
              later = knew.later;
              grew = knew.grew;
              others = knew.others;
              beside = knew.beside;
              newest = knew.newest;
              unused = λ h. absurd (omega arith);
            })
            (λ j x _ a. k.knows j x a));
        home = home_set k.log s.homes s.views (set s.views id l ++ r ∷ []) (cut held (omega arith)) k.home;
        numbered = numbered_split k.next s.views id number u at live some_number k.numbered;
        fresh = k.fresh;
        stood = k.stood;
      }

  pub joins : (id other : ℕ) (v w : View O E) → v.live ≡ 1 → w.live ≡ 1 → v.spare ≡ 0 → w.holds ≡ 0 → Joins Rule id v other w (both v w) spent
  joins id other v w live lives bare idle s k at ne there =
      let b : View O E = both v w in
      let vs : Views = set s.views id b in
      let there' : get_elem? s.views other ≡ some w = sym (set_else s.views id other b ne) ∙ there in
      let knew = k.knows id v at in
      let knew' = k.knows other w there' in
      record {
        ticket = k.ticket;
        serving = k.serving;
        next = k.next;
        bells = k.bells;
        log = k.log;
        words = k.words;
        served = k.served;
        fits = let f = k.fits in let t = total_spent turns s.views id other v w at there refl in omega arith;
        apart = λ t. let a = k.apart t in let e = total_spent (waiting t) s.views id other v w at there refl in omega arith;
        to_come = λ t h. let a = k.to_come t h in let e = total_spent (waiting t) s.views id other v w at there refl in omega arith;
        queue = each_set (λ j x. x.holds ≤ times k.serving x.waits) vs other spent (omega arith)
            (λ j x _. each_set (λ i y. y.holds ≤ times k.serving y.waits) s.views id b (k.queue id v at) (λ i y _ a. k.queue i y a) j x);
        knows = each_set (λ j x. KnowsAs k.log x) vs other spent
            (record {
              same = λ h. absurd (omega arith);
              rooted = λ h. absurd (omega arith);
              later = [];
              grew = λ h. absurd (omega arith);
              others = λ h. absurd (omega arith);
              beside = λ h. absurd (omega arith);
              newest = λ h. absurd (omega arith);
              unused = λ h. absurd (omega arith);
            })
            (λ j x _. each_set (λ i y. KnowsAs k.log y) s.views id b
            (record {
              same = knew.same;
              rooted = λ _. knew'.same lives;
              later = knew.later;
              grew = knew.grew;
              others = knew.others;
              beside = λ _. (knew'.later, knew'.grew lives);
              newest = knew.newest;
              unused = λ h. absurd (omega arith);
            })
            (λ i y _ a. k.knows i y a) j x);
        home = home_set k.log s.homes s.views (set vs other spent) (let e = total_spent held s.views id other v w at there refl in omega arith) k.home;
        numbered = numbered_joined k.next s.views id other v w at ne there live lives bare k.numbered;
        fresh = k.fresh;
        stood = k.stood;
      }

  pub learns : (slots id : ℕ) (me : Me T (View O E)) → me.0.live ≡ 1 → Allows Rule slots id me 0 (λ n. n) (learned stands by (step slots 0 0 0 none) me)
  learns slots id me live s k deep at fits =
      let v : View O E = me.0 in
      let w : View O E = knowing k.log v in
      let knew = k.knows id v at in (
        w,
        keeps,
        tt,
        record {
          ticket = k.ticket;
          serving = k.serving;
          next = k.next;
          bells = k.bells;
          log = k.log;
          words = set-get_or s.words 0 0 ∙ k.words;
          served = k.served;
          fits = let t = total_set turns s.views id v w at in let f = k.fits in omega arith;
          apart = λ t. let e = total_set (waiting t) s.views id v w at in let a = k.apart t in omega arith;
          to_come = λ t l. let e = total_set (waiting t) s.views id v w at in let z = k.to_come t l in omega arith;
          queue = each_set (λ j u. u.holds ≤ times k.serving u.waits) s.views id w (k.queue id v at) (λ j u _ a. k.queue j u a);
          knows = each_set (λ j u. KnowsAs k.log u) s.views id w
              (record {
                same = knew.same;
                rooted = knew.rooted;
                later = [];
                grew = λ _. refl;
                others = λ _. tt;
                beside = λ _. (k.log, sym (append-nil k.log));
                newest = λ _. (live, refl);
                unused = knew.unused;
              })
              (λ j u _ a. k.knows j u a);
          home = home_set k.log s.homes s.views (set s.views id w) (let t = total_set held s.views id v w at in omega arith) k.home;
          numbered = numbered_set k.next s.views id v w at refl k.numbered;
          fresh = k.fresh;
          stood = k.stood;
        },
        record {
          log = k.log;
          now = refl;
          mine = (knew.later, knew.grew live, knew.others live);
          theirs = knew.beside live;
          one = knew.rooted live ∙ sym (knew.same live);
          few = owns_few k.next s.views id v at k.numbered;
          stood = λ from e. (k.stood.0, subst (λ (x : O). stands k.stood.0 x k.log) (let ps = sym (knew.same live) ∙ e in ap (λ (l : List O). head_or o l) ps) k.stood.1);
        },
      )

  pub opens : (bells : List ℕ) (y : T) → stands y o [] → Rule (opening (0 ∷ 0 ∷ 0 ∷ 1 ∷ bells) (y ∷ []) (first_view o))
  opens bells y h =
      let v : View O E = first_view o in
      record {
        ticket = 0;
        serving = 0;
        next = 1;
        bells = bells;
        log = [];
        words = refl;
        served = omega arith;
        fits = omega arith;
        apart = λ t. omega arith;
        to_come = λ t l. refl;
        queue = each_snoc (λ j u. u.holds ≤ times 0 u.waits) [] v (λ _. omega arith) (λ j u a. absurd (some-ne-none u (sym a)));
        knows = each_snoc (λ j u. KnowsAs [] u) [] v
            (λ _. record {
              same = λ _. refl;
              rooted = λ _. refl;
              later = [];
              grew = λ _. refl;
              others = λ _. tt;
              beside = λ _. ([], refl);
              newest = λ h. absurd (omega arith);
              unused = λ h. absurd (omega arith);
            })
            (λ j u a. absurd (some-ne-none u (sym a)));
        home = inl (refl, (y, refl, h));
        numbered = numbered_first v refl refl refl refl refl refl;
        fresh = λ n l. tt;
        stood = (y, h);
      }

  -- at the close the last pass finds the value at home
  pub closes : (s : State T (View O E)) (k : Rule s) (id : ℕ) (v : View O E) → get_elem? s.views id ≡ some v → v.live ≡ 1 → v.holds ≡ 0 → length v.owns ≡ v.made
      → (y : T) × (s.homes ≡ some y ∷ []) × (v.origin ≡ o ∷ []) × ((later : List E) × stands y o (later ++ v.seen) × NoneBy by v.number later)
  closes s k id v at live idle all =
      let knew = k.knows id v at in
      ⊎_elim (λ t. (t.1.0, t.1.1, knew.same live, (knew.later, subst (stands t.1.0 o) (knew.grew live) t.1.2, knew.others live)))
      (λ t.
      let some_held : 0 < total held s.views = let z = t.0 in omega arith in
      let h = total_has held s.views some_held in
      let one = total_one held s.views h.0 h.1 h.2 in
      let holds : h.1.holds ≡ 1 = let z = t.0 in let p = h.3 in omega arith in
      let lives = ((k.knows h.0 h.1 h.2).newest holds).0 in
      let same = is_only k.next s.views id v at k.numbered live all h.0 h.1 h.2 lives in
      let is : h.1 ≡ v = some-injective h.1 v (sym (subst (λ j. get_elem? s.views j ≡ some h.1) same h.2) ∙ at) in
      let e : h.1.holds ≡ v.holds = ap (λ (u : View O E). u.holds) is in absurd (omega arith)) k.home
