-- The routes of rows where a row is put in or taken out.
use Rattle.std.proofs.Common.{◌≡◌, ℕ, ◌+◌, ◌<◌, Bool, true, false, not, cond, Option, Some, None, List, [], ◌∷◌, ◌++◌, length, map, drop, get_or, sym, ap, ◌∙◌, refl, subst, add-one, drop-cons, append_assoc, option_to_list}
use Rattle.std.specs.declared.cmp.Ordering.{Ordering}
use Rattle.std.specs.declared.cmp.Ordering.TheVariants.{Less, Equal, Greater}
use Rattle.std.specs.Ordering.{is_eq}
use Rattle.std.specs.List.{AllByRecursion, cons_option, filter}
use Rattle.std.specs.List.Sorted.{IsStrictlySortedBy}
use Rattle.std.specs.Global.{Vec}
use Rattle.std.proofs.lemmas.List.Elements.{filter_map-append}
use Rattle.ipam_records.specs.declared.key.Key.{Key}
use Rattle.ipam_records.specs.declared.key.Key.TheVariants as key
use Rattle.ipam_records.specs.declared.key.Kind.TheVariants as kind
use Rattle.ipam_records.specs.declared.record.Record.{Record}
use Rattle.ipam_records.specs.declared.record.Record.TheVariants as record_of
use Rattle.ipam_records.specs.Key.{key_of}
use Rattle.ipam_records.specs.KeyOrder.{key_cmp, keys_equal, is_of_kind}
use Rattle.ipam_records.specs.KeyOrderLaws.{key_cmp_total, same-keys_equal}
use Rattle.ipam_records.specs.Datastore.{row_key, row_at, with_row, without_row}
use Rattle.ipam_records.specs.Pages.{rows_of_pages}
use Rattle.ipam_records.proofs.PageLemmas.{rows_of_pages-drop}
use Rattle.ipam_store.specs.declared.route.Route.{Route}
use Rattle.ipam_store.specs.Route.{is_confirmed, route_of, routes_of, route_cmp}
use Rattle.ipam_store.specs.Turned.{without_route, turned}
use Rattle.ipam_store.proofs.Sorted.{later}
use Rattle.ipam_store.proofs.Routes.{AreAbove, if_up, turned-above, turned-same, turned-behind, same_route, is_itself}

-- ---- the keys of routes
abbrev pub route_key : Route → Key
route_key r = key.Affinity r.node r.cidr

pub some_same : {X : Type 0} (x y : X) → Some x ≡ Some y → x ≡ y
some_same x y e = cc

confirmed_key : (confirmed : Bool) (node_route r : Route) → cond confirmed (Some node_route) None ≡ Some r → route_key node_route ≡ route_key r
confirmed_key true node_route r e = ap route_key (some_same node_route r e)
confirmed_key false node_route r e = absurd (cc e)

pub key-route_of : (kept : Record) (r : Route) → route_of kept ≡ Some r → key_of kept ≡ route_key r
key-route_of (record_of.Config c) r e = absurd (cc e)
key-route_of (record_of.Pools p) r e = absurd (cc e)
key-route_of (record_of.Reservations s) r e = absurd (cc e)
key-route_of (record_of.Block b) r e = absurd (cc e)
key-route_of (record_of.Affinity a) r e = confirmed_key (is_confirmed a.state) (record { node = a.node; cidr = a.cidr }) r e
key-route_of (record_of.Handle h) r e = absurd (cc e)

-- only an affinity has a route
pub route_of-other : (kept : Record) → is_of_kind kind.Affinity (key_of kept) ≡ false → route_of kept ≡ None
route_of-other (record_of.Config c) e = refl
route_of-other (record_of.Pools p) e = refl
route_of-other (record_of.Reservations s) e = refl
route_of-other (record_of.Block b) e = refl
route_of-other (record_of.Affinity a) e = absurd (cc e)
route_of-other (record_of.Handle h) e = refl

-- ---- rows above a route have routes above it
abbrev RowsAbove : Key → List (ℕ × Record) → Type 0
RowsAbove k rows = AllByRecursion (λ l. key_cmp k l ≡ Less) (map row_key rows)

pub routes-above : (r : Route) (rows : List (ℕ × Record)) → RowsAbove (route_key r) rows → AreAbove r (routes_of rows)
routes-above r [] all = tt
routes-above r (x ∷ xs) all = by_route (route_of x.1) refl (routes-above r xs all.1)
  where
    by_route : (o : Option Route) → route_of x.1 ≡ o → AreAbove r (routes_of xs) → AreAbove r (cons_option o (routes_of xs))
    by_route None e rest = rest
    by_route (Some s) e rest = (ap (key_cmp (route_key r)) (sym (key-route_of x.1 s e)) ∙ all.0, rest)

-- ---- a row is put in
module _ (row : ℕ × Record) (r : Route) (up : Bool) (of_route : row_key row ≡ route_key r) (route_is : route_of row.1 ≡ if_up up r) where
  compared : (k : Key) (o : Ordering) → key_cmp (row_key row) k ≡ o → key_cmp (route_key r) k ≡ o
  compared k o h = ap (λ l. key_cmp l k) (sym of_route) ∙ h

  equal_same : (k l : Key) → key_cmp k l ≡ Equal → k ≡ l
  equal_same k l h = same-keys_equal k l (ap is_eq h)

  pub routes-with_row : (rows : List (ℕ × Record)) → IsStrictlySortedBy key_cmp (map row_key rows) → routes_of (with_row row rows) ≡ turned up r (routes_of rows)
  unfolding IsStrictlySortedBy
  routes-with_row [] s = ap (λ o. cons_option o []) route_is ∙ sym (turned-above up r [] tt)
  routes-with_row (x ∷ xs) s = by_order (key_cmp (row_key row) (row_key x)) refl (routes-with_row xs s.1)
    where
      by_same : (o : Option Route) → route_of x.1 ≡ o → row_key row ≡ row_key x → AreAbove r (routes_of xs) → cons_option (if_up up r) (routes_of xs) ≡ turned up r (cons_option o (routes_of xs))
      by_same None e same above = sym (turned-above up r (routes_of xs) above)
      by_same (Some t) e same above =
          let keys : route_key r ≡ route_key t = sym of_route ∙ (same ∙ key-route_of x.1 t e) in
          let is : r ≡ t = same_route r t (ap (keys_equal (route_key r)) (sym keys) ∙ is_itself r) in
          sym (turned-same up r (routes_of xs) above) ∙ ap (λ y. turned up r (y ∷ routes_of xs)) is

      by_behind : (o : Option Route) → route_of x.1 ≡ o → key_cmp (route_key r) (row_key x) ≡ Greater → cons_option o (turned up r (routes_of xs)) ≡ turned up r (cons_option o (routes_of xs))
      by_behind None e behind = refl
      by_behind (Some t) e behind = sym (turned-behind up r t (routes_of xs) (ap (key_cmp (route_key r)) (sym (key-route_of x.1 t e)) ∙ behind))

      by_order : (o : Ordering) → key_cmp (row_key row) (row_key x) ≡ o → routes_of (with_row row xs) ≡ turned up r (routes_of xs) → routes_of (row_at o row x xs (with_row row xs)) ≡ turned up r (routes_of (x ∷ xs))
      by_order Less h further =
          let front = compared (row_key x) Less h in
          let above : RowsAbove (route_key r) (x ∷ xs) = (front, later key_cmp key_cmp_total (route_key r) (row_key x) front (map row_key xs) s.0) in
          ap (λ o. cons_option o (routes_of (x ∷ xs))) route_is ∙ sym (turned-above up r (routes_of (x ∷ xs)) (routes-above r (x ∷ xs) above))
      by_order Equal h further =
          let same = equal_same (row_key row) (row_key x) h in
          let above : RowsAbove (route_key r) xs = subst (λ (k : Key). RowsAbove k xs) (sym same ∙ of_route) s.0 in
          ap (λ o. cons_option o (routes_of xs)) route_is ∙ by_same (route_of x.1) refl same (routes-above r xs above)
      by_order Greater h further =
          ap (cons_option (route_of x.1)) further ∙ by_behind (route_of x.1) refl (compared (row_key x) Greater h)

-- a row that is no affinity
pub routes-with_other : (row : ℕ × Record) → is_of_kind kind.Affinity (row_key row) ≡ false → (rows : List (ℕ × Record)) → routes_of (with_row row rows) ≡ routes_of rows
routes-with_other row other [] = ap (λ o. cons_option o []) (route_of-other row.1 other)
routes-with_other row other (x ∷ xs) = by_order (key_cmp (row_key row) (row_key x)) refl (routes-with_other row other xs)
  where
    none : route_of row.1 ≡ None
    none = route_of-other row.1 other

    by_order : (o : Ordering) → key_cmp (row_key row) (row_key x) ≡ o → routes_of (with_row row xs) ≡ routes_of xs → routes_of (row_at o row x xs (with_row row xs)) ≡ routes_of (x ∷ xs)
    by_order Less h further = ap (λ o. cons_option o (routes_of (x ∷ xs))) none
    by_order Equal h further =
        let same = same-keys_equal (row_key row) (row_key x) (ap is_eq h) in
        let too : route_of x.1 ≡ None = route_of-other x.1 (ap (is_of_kind kind.Affinity) (sym same) ∙ other) in
        ap (λ o. cons_option o (routes_of xs)) (none ∙ sym too)
    by_order Greater h further = ap (cons_option (route_of x.1)) further

-- ---- a row is taken out
module _ (r : Route) where
  pub routes-without_row : (rows : List (ℕ × Record)) → routes_of (without_row (route_key r) rows) ≡ without_route r (routes_of rows)
  routes-without_row [] = refl
  routes-without_row (x ∷ xs) = by_route (route_of x.1) refl ∙ ap (λ ys. kept (route_of x.1) (keys_equal (row_key x) (route_key r)) ys) (routes-without_row xs) ∙ filtered (route_of x.1) refl
    where
      kept : Option Route → Bool → List Route → List Route
      kept o same ys = cond (not same) (cons_option o ys) ys

      by_route : (o : Option Route) → route_of x.1 ≡ o → routes_of (without_row (route_key r) (x ∷ xs)) ≡ kept (route_of x.1) (keys_equal (row_key x) (route_key r)) (routes_of (without_row (route_key r) xs))
      by_route o e = elim (not (keys_equal (row_key x) (route_key r))) as (λ b. routes_of (cond b (x ∷ without_row (route_key r) xs) (without_row (route_key r) xs)) ≡ cond b (cons_option (route_of x.1) (routes_of (without_row (route_key r) xs))) (routes_of (without_row (route_key r) xs))) [ true ↦ refl | false ↦ refl ]

      filtered : (o : Option Route) → route_of x.1 ≡ o → kept o (keys_equal (row_key x) (route_key r)) (without_route r (routes_of xs)) ≡ without_route r (cons_option o (routes_of xs))
      filtered None e = elim (not (keys_equal (row_key x) (route_key r))) as (λ b. cond b (without_route r (routes_of xs)) (without_route r (routes_of xs)) ≡ without_route r (routes_of xs)) [ true ↦ refl | false ↦ refl ]
      filtered (Some t) e = ap (λ k. cond (not (keys_equal k (route_key r))) (t ∷ without_route r (routes_of xs)) (without_route r (routes_of xs))) (key-route_of x.1 t e)

pub routes-without_other : (k : Key) → is_of_kind kind.Affinity k ≡ false → (rows : List (ℕ × Record)) → routes_of (without_row k rows) ≡ routes_of rows
routes-without_other k other [] = refl
routes-without_other k other (x ∷ xs) = by_test (keys_equal (row_key x) k) refl (routes-without_other k other xs)
  where
    by_test : (b : Bool) → keys_equal (row_key x) k ≡ b → routes_of (without_row k xs) ≡ routes_of xs → routes_of (cond (not (keys_equal (row_key x) k)) (x ∷ without_row k xs) (without_row k xs)) ≡ routes_of (x ∷ xs)
    by_test true h further =
        let same = same-keys_equal (row_key x) k h in
        let none = route_of-other x.1 (ap (is_of_kind kind.Affinity) same ∙ other) in
        ap (λ b. routes_of (cond (not b) (x ∷ without_row k xs) (without_row k xs))) h
        ∙ (further ∙ sym (ap (λ o. cons_option o (routes_of xs)) none))
    by_test false h further =
        ap (λ b. routes_of (cond (not b) (x ∷ without_row k xs) (without_row k xs))) h ∙ ap (cons_option (route_of x.1)) further

-- ---- rows one after the other
pub routes-drop : (rows : List (ℕ × Record)) (i : ℕ) (row : ℕ × Record) → row ≡ get_or rows i row → i < length rows → routes_of (drop i rows) ≡ cons_option (route_of row.1) (routes_of (drop (i + 1) rows))
routes-drop rows i row e h =
    (rw (add-one, drop-cons rows i row) refl) ∙ ap (λ (x : ℕ × Record). cons_option (route_of x.1) (routes_of (drop (i + 1) rows))) (sym e)

pub routes-pages : (pages : List (Vec (ℕ × Record))) (i : ℕ) (page : Vec (ℕ × Record)) → page ≡ get_or pages i page → i < length pages → routes_of (rows_of_pages (drop i pages)) ≡ routes_of page.items ++ routes_of (rows_of_pages (drop (i + 1) pages))
routes-pages pages i page e h =
    ap routes_of (rows_of_pages-drop pages i page e h)
    ∙ filter_map-append (λ (row : ℕ × Record). route_of row.1) page.items (rows_of_pages (drop (i + 1) pages))

-- the affinities have all routes
pub routes-listed : (rows : List (ℕ × Record)) → routes_of (filter (λ row. is_of_kind kind.Affinity (row_key row)) rows) ≡ routes_of rows
routes-listed [] = refl
routes-listed (x ∷ xs) = by_test (is_of_kind kind.Affinity (row_key x)) refl (routes-listed xs)
  where
    by_test : (b : Bool) → is_of_kind kind.Affinity (row_key x) ≡ b → routes_of (filter (λ row. is_of_kind kind.Affinity (row_key row)) xs) ≡ routes_of xs → routes_of (cond b (x ∷ filter (λ row. is_of_kind kind.Affinity (row_key row)) xs) (filter (λ row. is_of_kind kind.Affinity (row_key row)) xs)) ≡ routes_of (x ∷ xs)
    by_test true h further = ap (cons_option (route_of x.1)) further
    by_test false h further = further ∙ sym (ap (λ o. cons_option o (routes_of xs)) (route_of-other x.1 h))

pub routes-page : (pages : List (Vec (ℕ × Record))) (i : ℕ) (page : Vec (ℕ × Record)) → page ≡ get_or pages i page → i < length pages → (found more all : List Route) → found ++ routes_of (rows_of_pages (drop i pages)) ≡ all → more ≡ found ++ routes_of page.items → more ++ routes_of (rows_of_pages (drop (i + 1) pages)) ≡ all
routes-page pages i page e h found more all so_far is =
    let rest = routes_of (rows_of_pages (drop (i + 1) pages)) in
    ap (λ xs. xs ++ rest) is
    ∙ (append_assoc {A = Route} found (routes_of page.items) rest
    ∙ (sym (ap (λ xs. found ++ xs) (routes-pages pages i page e h)) ∙ so_far))

pub routes-row : (rows : List (ℕ × Record)) (i : ℕ) (row : ℕ × Record) → row ≡ get_or rows i row → i < length rows → (route : Option Route) → route ≡ route_of row.1 → (found more all : List Route) → found ++ routes_of (drop i rows) ≡ all → more ≡ found ++ option_to_list route → more ++ routes_of (drop (i + 1) rows) ≡ all
routes-row rows i row e h route route_is found more all so_far is =
    let rest = routes_of (drop (i + 1) rows) in
    ap (λ xs. xs ++ rest) is
    ∙ (append_assoc {A = Route} found (option_to_list route) rest
    ∙ (ap (λ xs. found ++ xs) (listed route rest)
    ∙ (ap (λ o. found ++ cons_option o rest) route_is
    ∙ (sym (ap (λ xs. found ++ xs) (routes-drop rows i row e h)) ∙ so_far))))
  where
    listed : (o : Option Route) (xs : List Route) → option_to_list o ++ xs ≡ cons_option o xs
    listed None xs = refl
    listed (Some r) xs = refl

-- ---- the order of routes
pub routes-ascend : (rows : List (ℕ × Record)) → IsStrictlySortedBy key_cmp (map row_key rows) → IsStrictlySortedBy route_cmp (routes_of rows)
unfolding IsStrictlySortedBy
routes-ascend [] s = tt
routes-ascend (x ∷ xs) s = by_route (route_of x.1) refl (routes-ascend xs s.1)
  where
    by_route : (o : Option Route) → route_of x.1 ≡ o → IsStrictlySortedBy route_cmp (routes_of xs) → IsStrictlySortedBy route_cmp (cons_option o (routes_of xs))
    by_route None e rest = rest
    by_route (Some r) e rest =
        (routes-above r xs (subst (λ (k : Key). RowsAbove k xs) (key-route_of x.1 r e) s.0), rest)
