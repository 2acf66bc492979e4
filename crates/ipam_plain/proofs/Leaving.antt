-- Which owners a DEL and a collection that run alone leave.
use Rattle.std.proofs.Common.{◌≡◌, ◌≢◌, ◌⊎◌, ℕ, zero, suc, ◌+◌, ◌-◌, ◌<◌, inl, inr, Bool, true, false, cond, not, List, [], ◌∷◌, map, Option, Some, None, refl, sym, ap, ◌∙◌, subst, arith, eqb-true, bytes_eq}
use Rattle.std.specs.Prelude.{Contains, ◌&&◌, ◌==◌}
use Rattle.std.specs.List.{count_by, filter, flat_map}
use Rattle.std.proofs.lemmas.Bool.{cases_Bool}
use Rattle.std.proofs.lemmas.List.Elements.{Contains-append_cases, Contains-append_left, Contains-append_right}
use Rattle.std.proofs.lemmas.List.Sums.{sum_by-cons}
use Rattle.ipam_addr.specs.Shape.{CidrValue}
use Rattle.ipam_block.specs.declared.allocation.Allocation.{Allocation}
use Rattle.ipam_block.specs.Operations.{block_without, is_owned, next_block}
use Rattle.ipam_block.specs.Shape.{BlockValue}
use Rattle.ipam_block.proofs.Reading.{listed}
use Rattle.ipam_block.specs.HandleOperations.{count_of, with_lowered_count}
use Rattle.ipam_block.specs.HandleShape.{HandleValue}
use Rattle.ipam_records.specs.declared.key.Key.TheVariants as key
use Rattle.ipam_records.specs.declared.record.Record.{Record}
use Rattle.ipam_records.specs.declared.record.Record.TheVariants as record_of
use Rattle.ipam_records.specs.Datastore.{Datastore, reply_to_get, row_of}
use Rattle.ipam_records.specs.Said.{Found}
use Rattle.ipam_records.specs.Sound.{IsDatastore, IsRecord}
use Rattle.ipam_model.specs.declared.request.CollectRequest.{CollectRequest}
use Rattle.ipam_model.specs.declared.request.Request.TheVariants.{Collect, Del}
use Rattle.ipam_model.specs.Alone.{alone_over}
use Rattle.ipam_model.specs.Consistent.{IsConsistent}
use Rattle.ipam_model.specs.Counting.{FreedOfHandle, freeing_all}
use Rattle.ipam_model.specs.CountLaw.{count_in_row, handle_count, held_count, held_in_row}
use Rattle.ipam_model.specs.Moments.{Owns, Recorded}
use Rattle.ipam_model.specs.Owners.{Owner, is_owner_in, owner_of, owners_in, same_owner}
use Rattle.ipam_model.specs.Plain.{Rows, block_in_rows, handle_of, kept_or_gone, plain_collect, plain_del, put, with_all_freed, with_freed, with_freed_found, with_leaks_freed, with_these_freed}
use Rattle.ipam_model.specs.Reads.{StoredRecord, handle_said}
use Rattle.ipam_model.specs.Remove.{Leak, freeing_owner, is_in_scope, is_live, leak_of, leaks, leaks_in_row, may_leak, suspects}
use Rattle.ipam_laws.proofs.Calls.{found-handle, found-key}
use Rattle.ipam_laws.proofs.CountLemmas.{same_text, text_cases}
use Rattle.ipam_laws.proofs.LeaksAll.{own-owner, any-from, both-true, own-number}
use Rattle.ipam_laws.proofs.Members.{filter-in, in-cons, in-filter, in-here, in-map, in-nothing, in-there, out-map}
use Rattle.ipam_laws.proofs.OwnersOrder.{pairs-of}
use Rattle.ipam_records.proofs.RowWrites.{sorted-with_row, sorted-without_row}
use Rattle.ipam_laws.proofs.RowOrder.{found-member, member-found}
use Rattle.ipam_laws.proofs.SoundSteps.{row-there}
use Rattle.ipam_plain.specs.Leaves.{CollectLeavesLaw, DelLeavesLaw, IsKept}
use Rattle.ipam_plain.proofs.Alike.{IsSorted, record-row, record_at, record_in}
use Rattle.ipam_plain.proofs.Held.{HeldAt, freed-stays, freed-was, held-owner, named, owner-held, same-owners}
use Rattle.ipam_plain.proofs.Whole.{collect_alone, del_alone}

-- ---- what was freed stays in order

pub sorted-freed : (what : FreedOfHandle) (rows : Rows) → IsSorted rows → IsSorted (with_freed what rows)
sorted-freed what rows sorted = by (block_in_rows what.block rows)
  where
    kept : (h : HandleValue) (counts : List (CidrValue × ℕ)) (next : Rows) → IsSorted next → IsSorted (kept_or_gone h counts next)
    kept h [] next s = sorted-without_row (key.Handle h.id) next s
    kept h (count ∷ counts) next s = sorted-with_row (0, record_of.Handle h) next s

    these : (amount : ℕ) (b : BlockValue) → IsSorted (with_these_freed what amount b rows)
    these zero b = sorted
    these (suc more) b =
        let next = put (record_of.Block (block_without what.picks (next_block b))) rows in
        let low = with_lowered_count (handle_of what.handle next) b.cidr (suc more) in
        kept low low.counts next (sorted-with_row (0, record_of.Block (block_without what.picks (next_block b))) rows sorted)

    by : (o : Option (ℕ × BlockValue)) → IsSorted (with_freed_found what o rows)
    by None = sorted
    by (Some found) = these (count_by what.picks found.1.allocations) found.1

-- ---- DEL

all-sorted : (id : List ℕ) (list : List CidrValue) (rows : Rows) → IsSorted rows → IsSorted (with_all_freed id list rows)
all-sorted id [] rows sorted = sorted
all-sorted id (cidr ∷ rest) rows sorted = all-sorted id rest (with_freed (freeing_all id cidr) rows) (sorted-freed (freeing_all id cidr) rows sorted)

all-was : (id : List ℕ) (list : List CidrValue) (rows : Rows) (c : CidrValue) (a : Allocation) → HeldAt (with_all_freed id list rows) c a → HeldAt rows c a × (Contains list c → is_owned id a ≡ false)
all-was id [] rows c a h = (h, λ among. absurd (in-nothing c among))
all-was id (cidr ∷ rest) rows c a h =
    let (later, others) = all-was id rest (with_freed (freeing_all id cidr) rows) c a h in
    let (before, own) = freed-was (freeing_all id cidr) rows c a later in
    (before, λ among. elim (in-cons c cidr rest among) [ inl same ↦ own (sym same) | inr further ↦ others further ])

all-stays : (id : List ℕ) (list : List CidrValue) (rows : Rows) (c : CidrValue) (a : Allocation) → HeldAt rows c a → is_owned id a ≡ false → HeldAt (with_all_freed id list rows) c a
all-stays id [] rows c a h other = h
all-stays id (cidr ∷ rest) rows c a h other = all-stays id rest (with_freed (freeing_all id cidr) rows) c a (freed-stays (freeing_all id cidr) rows c a h (λ e. other)) other

some-counted : (picks : Allocation → Bool) (list : List Allocation) (a : Allocation) → Contains list a → picks a ≡ true → 0 < count_by picks list
some-counted picks [] a among is = absurd (in-nothing a among)
some-counted picks (first ∷ rest) a among is = by (in-cons a first rest among) (sum_by-cons (λ x. cond (picks x) 1 0) first rest) (λ further. some-counted picks rest a further is)
  where
    by : (first ≡ a) ⊎ Contains rest a → count_by picks (first ∷ rest) ≡ cond (picks first) 1 0 + count_by picks rest → (Contains rest a → 0 < count_by picks rest) → 0 < count_by picks (first ∷ rest)
    by (inl same) sum later =
        let one : cond {A = ℕ} (picks first) 1 0 ≡ 1 = ap (λ (b : Bool). cond {A = ℕ} b 1 0) (ap picks same ∙ is) in
        omega arith
    by (inr further) sum later = let more = later further in omega arith

-- the block of an address of the handle is one of the handle's
counted-block : (store : Datastore) (id : List ℕ) (c : CidrValue) (a : Allocation) → IsConsistent store → HeldAt store.rows c a → is_owned id a ≡ true → Contains (map (λ (count : CidrValue × ℕ). count.0) (handle_of id store.rows).counts) c
counted-block store id c a consistent (b, there, among) own = by (row_of (key.Handle id) store.rows) refl
  where
    some : 0 < handle_count store id c
    some =
        let (revision, row) = record-row (key.Block c) store.rows (record_of.Block b) there in
        let held : held_count store id c ≡ count_by (is_owned id) b.allocations = ap (held_in_row id) row in
        let one = some-counted (is_owned id) b.allocations a among own in
        let covers = consistent.covered id c in
        omega arith

    by : (o : Option StoredRecord) → row_of (key.Handle id) store.rows ≡ o → Contains (map (λ (count : CidrValue × ℕ). count.0) (handle_said id (reply_to_get o)).counts) c
    by None e = let none : handle_count store id c ≡ 0 = ap (count_in_row id c) e in let more = some in absurd (omega arith)
    by (Some row) e =
        let (h, is, same) = found-handle id row.1 (found-key store (key.Handle id) row.0 row.1 e) in
        let kept = subst (λ (x : Record). IsRecord x) is (row-there store (key.Handle id) row.0 row.1 consistent.sound e).is_record in
        let count : handle_count store id c ≡ count_of h c = ap (count_in_row id c) (e ∙ ap (λ (x : Record). Some (row.0, x)) is) in
        let more = some in
        subst (λ (x : Record). Contains (map (λ (count : CidrValue × ℕ). count.0) (handle_said id (Found row.0 x)).counts) c) (sym is) ((listed h.counts kept.counts c).0 (omega arith))

pub del_leaves : DelLeavesLaw
del_leaves base id consistent sound spare o = (to, from)
  where
    owners : owners_in (alone_over base (Del id)).1.rows ≡ owners_in (with_all_freed id (map (λ (count : CidrValue × ℕ). count.0) (handle_of id base.store.rows).counts) base.store.rows)
    owners = same-owners (alone_over base (Del id)).1.rows (plain_del id base.store.rows).1 (del_alone id base (plain_del id base.store.rows) consistent sound spare refl).1

    to : Owns (alone_over base (Del id)).1 o → Owns base.store o × (o.handle ≢ id)
    to owns =
        let held = owner-held (plain_del id base.store.rows).1 o (all-sorted id (map (λ (count : CidrValue × ℕ). count.0) (handle_of id base.store.rows).counts) base.store.rows consistent.sound.ascending) (subst (λ (l : List Owner). Contains l o) owners owns) in
        let (before, own) = all-was id (map (λ (count : CidrValue × ℕ). count.0) (handle_of id base.store.rows).counts) base.store.rows held.cidr held.a held.held in (
          subst (λ (x : Owner). Owns base.store x) held.is_owner (held-owner base.store.rows held.cidr held.a before),
          λ same.
              let is : held.a.attributes.handle ≡ id = ap (λ (x : Owner). x.handle) held.is_owner ∙ same in
              let owned : is_owned id held.a ≡ true = subst (λ (t : List ℕ). bytes_eq held.a.attributes.handle t ≡ true) is (same_text held.a.attributes.handle) in
              let not = own (counted-block base.store id held.cidr held.a consistent before owned) in
              cc (owned, not),
        )

    from : Owns base.store o × (o.handle ≢ id) → Owns (alone_over base (Del id)).1 o
    from (owns, other) =
        let held = owner-held base.store.rows o consistent.sound.ascending owns in
        let not : is_owned id held.a ≡ false = elim (text_cases held.a.attributes.handle id) [
          | inl (t, same) ↦ absurd (other (sym (ap (λ (x : Owner). x.handle) held.is_owner) ∙ same))
          | inr (f, differ) ↦ f
        ] in
        let stays = all-stays id (map (λ (count : CidrValue × ℕ). count.0) (handle_of id base.store.rows).counts) base.store.rows held.cidr held.a held.held not in
        subst (λ (l : List Owner). Contains l o) (sym owners)
        (subst (λ (x : Owner). Contains (owners_in (plain_del id base.store.rows).1) x) held.is_owner (held-owner (plain_del id base.store.rows).1 held.cidr held.a stays))

-- ---- a collection

abbrev picks_of : Leak → Allocation → Bool
picks_of leak = (freeing_owner leak.owner leak.block).picks

leaks-sorted : (list : List Leak) (rows : Rows) → IsSorted rows → IsSorted (with_leaks_freed list rows)
leaks-sorted [] rows sorted = sorted
leaks-sorted (leak ∷ rest) rows sorted = leaks-sorted rest (with_freed (freeing_owner leak.owner leak.block) rows) (sorted-freed (freeing_owner leak.owner leak.block) rows sorted)

-- no leak of the block picks it
abbrev IsUnpicked : List Leak → CidrValue → Allocation → Type 0
IsUnpicked list c a = (leak : Leak) → Contains list leak → c ≡ leak.block → picks_of leak a ≡ false

leaks-was : (list : List Leak) (rows : Rows) (c : CidrValue) (a : Allocation) → HeldAt (with_leaks_freed list rows) c a → HeldAt rows c a × IsUnpicked list c a
leaks-was [] rows c a h = (h, λ leak among. absurd (in-nothing leak among))
leaks-was (first ∷ rest) rows c a h =
    let what = freeing_owner first.owner first.block in
    let (later, others) = leaks-was rest (with_freed what rows) c a h in
    let (before, own) = freed-was what rows c a later in (
      before,
      λ leak among. elim (in-cons leak first rest among) [
        | inl same ↦ subst (λ (l : Leak). c ≡ l.block → picks_of l a ≡ false) same own
        | inr further ↦ others leak further
      ],
    )

leaks-stays : (list : List Leak) (rows : Rows) (c : CidrValue) (a : Allocation) → HeldAt rows c a → IsUnpicked list c a → HeldAt (with_leaks_freed list rows) c a
leaks-stays [] rows c a h none = h
leaks-stays (first ∷ rest) rows c a h none =
    leaks-stays rest (with_freed (freeing_owner first.owner first.block) rows) c a (freed-stays (freeing_owner first.owner first.block) rows c a h (none first (in-here first rest)))
    (λ leak among. none leak (in-there leak first rest among))

in-flat : {X Y : Type 0} → (f : X → List Y) (xs : List X) (x : X) (y : Y) → Contains xs x → Contains (f x) y → Contains (flat_map f xs) y
in-flat f [] x y among own = absurd (in-nothing x among)
in-flat {X} {Y} f (first ∷ rest) x y among own = elim (in-cons x first rest among) [
  | inl same ↦ Contains-append_left (f first) (flat_map f rest) y (subst (λ (z : X). Contains (f z) y) (sym same) own)
  | inr further ↦ Contains-append_right (f first) (flat_map f rest) y (in-flat f rest x y further own)
]

out-flat : {X Y : Type 0} → (f : X → List Y) (xs : List X) (y : Y) → Contains (flat_map f xs) y → (x : X) × Contains xs x × Contains (f x) y
out-flat f [] y h = absurd (in-nothing y h)
out-flat f (first ∷ rest) y h = elim (Contains-append_cases (f first) (flat_map f rest) y h) [
  | inl own ↦ (first, in-here first rest, own)
  | inr further ↦ let (x, among, own) = out-flat f rest y further in (x, in-there x first rest among, own)
]

-- a suspect's block and allocation
record IsSuspectIn (rows : Rows) (request : CollectRequest) (leak : Leak) : Type 0 where
  b : BlockValue
  a : Allocation
  there : record_at (key.Block b.cidr) rows ≡ Some (record_of.Block b)
  among : Contains b.allocations a
  may : may_leak request a ≡ true
  is : leak_of b.cidr a ≡ leak

suspect-in : (rows : Rows) (request : CollectRequest) (leak : Leak) → IsSorted rows → Contains (suspects request rows) leak → IsSuspectIn rows request leak
suspect-in rows request leak sorted h = let (row, among, own) = out-flat (leaks_in_row request) rows leak h in by row.0 row.1 among own
  where
    by : (revision : ℕ) (found : Record) → Contains rows (revision, found) → Contains (leaks_in_row request (revision, found)) leak → IsSuspectIn rows request leak
    by revision (record_of.Block b) among own =
        let (a, kept, is) = out-map (leak_of b.cidr) leak (filter (may_leak request) b.allocations) own in
        let (there, may) = in-filter (may_leak request) a b.allocations kept in
        record { b = b; a = a; there = ap record_in (member-found rows (revision, record_of.Block b) sorted among); among = there; may = may; is = is }
    by revision (record_of.Config config) among own = absurd (in-nothing leak own)
    by revision (record_of.Pools pools) among own = absurd (in-nothing leak own)
    by revision (record_of.Reservations reservations) among own = absurd (in-nothing leak own)
    by revision (record_of.Affinity a) among own = absurd (in-nothing leak own)
    by revision (record_of.Handle h) among own = absurd (in-nothing leak own)

is-kept : (request : CollectRequest) (a : Allocation) → may_leak request a ≡ false → IsKept request a
is-kept request a e = by (is_in_scope request.scope a) (is_live request.live a.attributes.handle) refl refl e
  where
    by : (scope live : Bool) → is_in_scope request.scope a ≡ scope → is_live request.live a.attributes.handle ≡ live → scope && not live ≡ false → IsKept request a
    by false live s l f = inl s
    by true true s l f = inr l
    by true false s l f = absurd (cc f)

kept-is : (request : CollectRequest) (a : Allocation) → IsKept request a → may_leak request a ≡ false
kept-is request a (inl outside) = ap (λ (b : Bool). b && not (is_live request.live a.attributes.handle)) outside
kept-is request a (inr live) = by (is_in_scope request.scope a)
  where
    by : (b : Bool) → b && not (is_live request.live a.attributes.handle) ≡ false
    by true = ap not live
    by false = refl

module _ (request : CollectRequest) (store : Datastore) (sound : IsDatastore store) where
  abbrev found : List Leak
  found = leaks (suspects request store.rows) request.live store.rows

  -- who may leak is found, and picked
  leak-picked : (c : CidrValue) (a : Allocation) → HeldAt store.rows c a → may_leak request a ≡ true → Contains found (leak_of c a) × (picks_of (leak_of c a) a ≡ true)
  leak-picked c a (b, there, among) may =
      let (revision, row) = record-row (key.Block c) store.rows (record_of.Block b) there in
      let own = named store.rows c b there in
      let member = found-member (key.Block c) store.rows (revision, record_of.Block b) row in
      let listed_leak : Contains (suspects request store.rows) (leak_of b.cidr a) = in-flat (leaks_in_row request) store.rows (revision, record_of.Block b) (leak_of b.cidr a) member (in-map (leak_of b.cidr) a (filter (may_leak request) b.allocations) (filter-in (may_leak request) a b.allocations among may)) in
      let suspect = subst (λ (x : CidrValue). Contains (suspects request store.rows) (leak_of x a)) own listed_leak in
      let owner = held-owner store.rows c a (b, there, among) in
      let owns : is_owner_in store.rows (owner_of c a) ≡ true = any-from (same_owner (owner_of c a)) (owners_in store.rows) (owner_of c a) owner (own-owner (owner_of c a)) in
      let dead : not (is_live request.live a.attributes.handle) ≡ true = second (is_in_scope request.scope a) (not (is_live request.live a.attributes.handle)) may in
      let number : c.base + a.ordinal - c.base ≡ a.ordinal = omega arith in
      let ordinals : (a.ordinal == (c.base + a.ordinal - c.base)) ≡ true = subst (λ (n : ℕ). (a.ordinal == n) ≡ true) (sym number) (own-number a.ordinal) in (
        filter-in (λ (leak : Leak). is_owner_in store.rows leak.owner && not (is_live request.live leak.owner.handle)) (leak_of c a) (suspects request store.rows) suspect (both-true owns dead),
        both-true (both-true ordinals (own-number a.stamp)) (same_text a.attributes.handle),
      )
    where
      second : (one two : Bool) → one && two ≡ true → two ≡ true
      second true two e = e
      second false two e = absurd (cc e)

  -- who may not leak is not picked
  kept-unpicked : (c : CidrValue) (a : Allocation) → HeldAt store.rows c a → may_leak request a ≡ false → IsUnpicked found c a
  kept-unpicked c a (b, there, among) kept leak listed_leak same = elim (cases_Bool (picks_of leak a)) [
    | inr differs ↦ differs
    | inl picked ↦
        let (suspect, test) = in-filter (λ (x : Leak). is_owner_in store.rows x.owner && not (is_live request.live x.owner.handle)) leak (suspects request store.rows) listed_leak in
        let s = suspect-in store.rows request leak sound.ascending suspect in
        let at : s.b.cidr ≡ c = ap (λ (l : Leak). l.block) s.is ∙ sym same in
        let other : record_at (key.Block c) store.rows ≡ Some (record_of.Block s.b) = subst (λ (x : CidrValue). record_at (key.Block x) store.rows ≡ Some (record_of.Block s.b)) at s.there in
        let both : Some (record_of.Block s.b) ≡ Some (record_of.Block b) = sym other ∙ there in
        let blocks : s.b ≡ b = cc both in
        let there_too : Contains b.allocations s.a = subst (λ (x : BlockValue). Contains x.allocations s.a) blocks s.among in
        let picks_it : picks_of (leak_of s.b.cidr s.a) a ≡ true = subst (λ (l : Leak). picks_of l a ≡ true) (sym s.is) picked in
        let ordinal : a.ordinal ≡ s.b.cidr.base + s.a.ordinal - s.b.cidr.base = eqb-true a.ordinal (s.b.cidr.base + s.a.ordinal - s.b.cidr.base) (first-of (a.ordinal == (s.b.cidr.base + s.a.ordinal - s.b.cidr.base)) (a.stamp == s.a.stamp) (is_owned s.a.attributes.handle a) picks_it) in
        let ordinals : a.ordinal ≡ s.a.ordinal = omega arith in
        let is : a ≡ s.a = same-allocation b a s.a there among there_too ordinals in
        let may : may_leak request a ≡ true = ap (may_leak request) is ∙ s.may in
        absurd (cc (may, kept))
  ]
    where
      first-of : (one two three : Bool) → one && two && three ≡ true → one ≡ true
      first-of true two three e = refl
      first-of false two three e = absurd (cc e)

      same-allocation : (b : BlockValue) (x y : Allocation) → record_at (key.Block c) store.rows ≡ Some (record_of.Block b) → Contains b.allocations x → Contains b.allocations y → x.ordinal ≡ y.ordinal → x ≡ y
      same-allocation b x y at one two same =
          let (revision, row) = record-row (key.Block c) store.rows (record_of.Block b) at in
          let block = (row-there store (key.Block c) revision (record_of.Block b) sound row).is_record.block in
          elim (pairs-of (λ (p q : Allocation). p.ordinal < q.ordinal) b.allocations block.ascending x y one two) [
            | inl is ↦ is
            | inr apart ↦ elim apart [ inl less ↦ absurd (omega arith) | inr more ↦ absurd (omega arith) ]
          ]

pub collect_leaves : CollectLeavesLaw
collect_leaves base request consistent sound spare grace o = (to, from)
  where
    owners : owners_in (alone_over base (Collect request)).1.rows ≡ owners_in (plain_collect request base.store.rows).1
    owners =
        let asks : cond (request.grace == 0) (Some (plain_collect request base.store.rows)) None ≡ Some (plain_collect request base.store.rows) = ap (λ (n : ℕ). cond (n == 0) (Some (plain_collect request base.store.rows)) None) grace in
        same-owners (alone_over base (Collect request)).1.rows (plain_collect request base.store.rows).1 (collect_alone request base (plain_collect request base.store.rows) consistent sound spare asks).1

    to : Owns (alone_over base (Collect request)).1 o → (a : Allocation) × Recorded base.store o a × IsKept request a
    to owns =
        let list = leaks (suspects request base.store.rows) request.live base.store.rows in
        let held = owner-held (plain_collect request base.store.rows).1 o (leaks-sorted list base.store.rows consistent.sound.ascending) (subst (λ (l : List Owner). Contains l o) owners owns) in
        let (before, none) = leaks-was list base.store.rows held.cidr held.a held.held in
        let (revision, row) = record-row (key.Block held.cidr) base.store.rows (record_of.Block before.0) before.1 in
        let own = named base.store.rows held.cidr before.0 before.1 in (
          held.a,
          record {
            revision = revision;
            holding = before.0;
            in_rows = found-member (key.Block held.cidr) base.store.rows (revision, record_of.Block before.0) row;
            held = before.2;
            is_owner = sym held.is_owner ∙ ap (λ (c : CidrValue). owner_of c held.a) (sym own);
          },
          is-kept request held.a (not-leaking held.cidr held.a before none),
        )
      where
        not-leaking : (c : CidrValue) (a : Allocation) → HeldAt base.store.rows c a → IsUnpicked (leaks (suspects request base.store.rows) request.live base.store.rows) c a → may_leak request a ≡ false
        not-leaking c a h none = elim (cases_Bool (may_leak request a)) [
          | inr differs ↦ differs
          | inl may ↦
              let (among, picked) = leak-picked request base.store consistent.sound c a h may in
              let not = none (leak_of c a) among refl in
              absurd (cc (picked, not))
        ]

    from : (a : Allocation) × Recorded base.store o a × IsKept request a → Owns (alone_over base (Collect request)).1 o
    from (a, recorded, kept) =
        let list = leaks (suspects request base.store.rows) request.live base.store.rows in
        let b = recorded.holding in
        let held : HeldAt base.store.rows b.cidr a = (b, ap record_in (member-found base.store.rows (recorded.revision, record_of.Block b) consistent.sound.ascending recorded.in_rows), recorded.held) in
        let none = kept-unpicked request base.store consistent.sound b.cidr a held (kept-is request a kept) in
        let stays = leaks-stays list base.store.rows b.cidr a held none in
        subst (λ (l : List Owner). Contains l o) (sym owners)
        (subst (λ (x : Owner). Contains (owners_in (plain_collect request base.store.rows).1) x) (sym recorded.is_owner) (held-owner (plain_collect request base.store.rows).1 b.cidr a stays))
