-- An ADD without an address that runs alone comes to what the records say.
use Rattle.std.proofs.Common.{◌≡◌, ◌≢◌, ℕ, zero, suc, ◌+◌, ◌*◌, ◌-◌, ◌<◌, ◌≤◌, Bool, true, false, List, [], ◌∷◌, ◌++◌, length, map, Some, refl, sym, ap, ◌∙◌, subst, arith}
use Rattle.ipam_addr.specs.declared.address.Family.{Family}
use Rattle.ipam_addr.specs.declared.address.Family.TheVariants.{V4, V6}
use Rattle.ipam_addr.specs.Shape.{AddrValue, CidrValue}
use Rattle.ipam_records.specs.Datastore.{Datastore, last_revision}
use Rattle.ipam_model.specs.declared.answer.Given.{Given}
use Rattle.ipam_model.specs.declared.outcome.AddAnswer.{AddAnswer}
use Rattle.ipam_model.specs.declared.outcome.Gift.{Gift}
use Rattle.ipam_model.specs.declared.outcome.Served.{Served as Rounds}
use Rattle.ipam_model.specs.declared.outcome.Served.TheVariants.{Gave, Refused}
use Rattle.ipam_model.specs.declared.part.Left.{Left}
use Rattle.ipam_model.specs.declared.part.Outcome.{Outcome}
use Rattle.ipam_model.specs.declared.part.Outcome.TheVariants.{Went, Stops}
use Rattle.ipam_model.specs.declared.request.AddRequest.{AddRequest}
use Rattle.ipam_model.specs.Add.{add_each, add_stops, add_word, after_family, asked_of, refuse, serve}
use Rattle.ipam_model.specs.Counting.{FreedOfHandle, free, freeing_one, most_count}
use Rattle.ipam_model.specs.Plain.{Gives, PlainAnswer, PlainGift, PlainServed, PlainResult, Rows, Served, Unserved, freeing_gift, plain_add, plain_after, plain_each, plain_family, plain_of, seen_in, with_freed, with_gifts_freed}
use Rattle.ipam_model.specs.Step.{all_left, part_then, left_of}
use Rattle.ipam_model.specs.Told.{of_add}
use Rattle.ipam_model.specs.Usable.{families_if}
use Rattle.ipam_laws.proofs.AloneCalls.{Runs, Runs-bound}
use Rattle.ipam_plain.proofs.Budget.{Enough}
use Rattle.ipam_plain.proofs.Freeing.{Became, free-comes}
use Rattle.ipam_plain.proofs.Ranks.{alike-sees, same-pick}
use Rattle.ipam_plain.proofs.Serving.{IsGiftOf, IsServed, Keeps, Serves, serve-comes}
use Rattle.ipam_plain.proofs.Taking.{IsBelow, RoomFor, with_handle}
use Rattle.ipam_plain.proofs.Writes.{Finishes, IsAs, comes-followed, finishes-settled}

-- answered so, and the store stands for the rows
pub record IsPlainAdd (result : PlainResult) (then : Datastore) (told : AddAnswer) : Type 0 where
  pub says : plain_of (of_add told) ≡ Some result.0
  pub is_as : IsAs then result.1

-- each gift is the one that the records say
AreGifts : List Gift → List PlainGift → Type 0
AreGifts [] [] = Unit {0}
AreGifts (gift ∷ gifts) (plain ∷ plains) = IsGiftOf gift plain × AreGifts gifts plains
AreGifts _ _ = ⊥

gifts-more : (gifts : List Gift) (plains : List PlainGift) (gift : Gift) (plain : PlainGift) → AreGifts gifts plains → IsGiftOf gift plain → AreGifts (gifts ++ gift ∷ []) (plains ++ plain ∷ [])
unfolding AreGifts
gifts-more [] [] gift plain h own = (own, tt)
gifts-more [] (p ∷ ps) gift plain h own = absurd h
gifts-more (g ∷ gs) [] gift plain h own = absurd h
gifts-more (g ∷ gs) (p ∷ ps) gift plain h own = (h.0, gifts-more gs ps gift plain h.1 own)

abbrev addresses_given : List Gift → List AddrValue
addresses_given gifts = map (λ (g : Given). g.address) (map (λ (gift : Gift). gift.given) gifts)

gifts-addresses : (gifts : List Gift) (plains : List PlainGift) → AreGifts gifts plains → addresses_given gifts ≡ map (λ (gift : PlainGift). gift.address) plains
unfolding AreGifts
gifts-addresses [] [] h = refl
gifts-addresses [] (p ∷ ps) h = absurd h
gifts-addresses (g ∷ gs) [] h = absurd h
gifts-addresses (g ∷ gs) (p ∷ ps) h = let here = h.0.address in let rest = gifts-addresses gs ps h.1 in λ i. here i ∷ rest i

module _ (request : AddRequest) where
  abbrev id : List ℕ
  id = request.attributes.handle

  -- what was given is freed
  refuse-comes : (gifts : List Gift) (plains : List PlainGift) (told : AddAnswer) (why : PlainAnswer) (left : Left) (store : Datastore) (moment : ℕ) (rows : Rows) → AreGifts gifts plains → plain_of (of_add told) ≡ Some why → IsAs store rows → store.counter + 2 * length gifts ≤ last_revision
      → Runs [] (Finishes (IsPlainAdd (why, with_gifts_freed request plains rows))) store moment (refuse request gifts told left)
  unfolding AreGifts
  refuse-comes [] [] told why left store moment rows h says is spare = record { says = says; is_as = is }
  refuse-comes [] (p ∷ ps) told why left store moment rows h says is spare = absurd h
  refuse-comes (g ∷ gs) [] told why left store moment rows h says is spare = absurd h
  refuse-comes (g ∷ gs) (p ∷ ps) told why left store moment rows h says is spare =
      let own = h.0 in
      let blocks = own.block in
      let ordinals = own.ordinal in
      let stamps = own.stamp in
      let what : freeing_one id g.block (g.given.address.number - g.block.base) g.stamp ≡ freeing_gift request p = λ i. freeing_one id (blocks i) (ordinals i) (stamps i) in
      let Q : Datastore → AddAnswer → Type 0 = IsPlainAdd (why, with_gifts_freed request ps (with_freed (freeing_gift request p) rows)) in
      subst (λ (f : FreedOfHandle). Runs [] (Finishes Q) store moment (part_then (free f left) (λ now amount. refuse request gs told now))) (sym what)
      (comes-followed [] left (λ then (many : ℕ). Became (with_freed (freeing_gift request p) rows) (store.counter + 2) then) (Finishes Q) (λ now amount. refuse request gs told now) (free (freeing_gift request p) left) store moment
      (free-comes [] (freeing_gift request p) left store moment rows is (omega arith))
      (λ then later many b. let most = b.taken in refuse-comes gs ps told why left then later (with_freed (freeing_gift request p) rows) h.1 says b.is_as (omega arith)))

  -- a family with a claim left
  serve-left : (family : Family) (keeps : Keeps) (left : Left) (base : Datastore) (rows : Rows) (missing : Bool) (moment : ℕ) → 0 < left.claims → IsAs base rows → RoomFor missing base id → ((c : CidrValue) → c.family ≡ family → IsBelow base id c)
      → Enough (suc (suc (suc (suc (suc keeps.revisions))))) (suc (suc (with_handle missing keeps.rows))) (suc keeps.blocks) base
      → Runs [] (Serves request family keeps (plain_family request family rows) base left) base moment (serve request family left)
  serve-left family keeps left base rows missing moment some is room below enough = by left.claims refl
    where
      by : (n : ℕ) → left.claims ≡ n → Runs [] (Serves request family keeps (plain_family request family rows) base left) base moment (serve request family left)
      by zero e = absurd (omega arith)
      by (suc claims) e =
          let same : left_of left.races (suc claims) ≡ left = λ i. left_of left.races (sym e i) in
          subst (λ (l : Left). Runs [] (Serves request family keeps (plain_family request family rows) base l) base moment (serve request family l)) same
          (serve-comes request family keeps left.races claims base rows missing moment is (same-pick (asked_of request family) (seen_in base.rows) (seen_in rows) (alike-sees (asked_of request family) base.rows rows is.sorted_store is.sorted is.alike)) room below enough)

  module _ (family : Family) (keeps : Keeps) (families : List Family) (gifts : List Gift) (plains : List PlainGift) (are : AreGifts gifts plains) (left : Left) (base : Datastore)
      (on : (plain : PlainGift) (gift : Gift) (now : Left) (then : Datastore) (later : ℕ) (after : Rows) → IsServed request family keeps base left plain after then now gift
      → Runs [] (Finishes (IsPlainAdd (plain_each request (plains ++ plain ∷ []) families after))) then later (add_each request (gifts ++ gift ∷ []) families now)) where
    abbrev rest : PlainGift → Rows → PlainResult
    rest = λ gift later. plain_each request (plains ++ gift ∷ []) families later

    ends : base.counter + 2 * length gifts ≤ last_revision → (s : PlainServed) (then : Datastore) (later : ℕ) (outcome : Outcome Rounds) → Serves request family keeps s base left then outcome
        → Runs [] (Finishes (IsPlainAdd (plain_after request plains rest s))) then later (after_family request gifts (λ gift now. add_each request (gifts ++ gift ∷ []) families now) outcome)
    ends spare (Served plain after) then later (Went now (Gave gift)) k = on plain gift now then later after k
    ends spare (Unserved why after) then later (Went now (Refused told)) k =
        let same = k.same in
        refuse-comes gifts plains told why now then later after are k.says k.is_as (subst (λ (s : Datastore). s.counter + 2 * length gifts ≤ last_revision) (sym same) spare)
    ends spare (Served plain after) then later (Went now (Refused told)) k = absurd k
    ends spare (Unserved why after) then later (Went now (Gave gift)) k = absurd k
    ends spare (Served plain after) then later (Stops now why) k = absurd k
    ends spare (Unserved why after) then later (Stops now told) k = absurd k

    each-step : (rows : Rows) (missing : Bool) (moment : ℕ) → 0 < left.claims → IsAs base rows → RoomFor missing base id → ((c : CidrValue) → c.family ≡ family → IsBelow base id c) → base.counter + 2 * length gifts ≤ last_revision
        → Enough (suc (suc (suc (suc (suc keeps.revisions))))) (suc (suc (with_handle missing keeps.rows))) (suc keeps.blocks) base
        → Runs [] (Finishes (IsPlainAdd (plain_each request plains (family ∷ families) rows))) base moment (add_each request gifts (family ∷ families) left)
    unfolding add_each
    each-step rows missing moment some is room below spare enough =
        Runs-bound [] (Serves request family keeps (plain_family request family rows) base left) (Finishes (IsPlainAdd (plain_each request plains (family ∷ families) rows))) (after_family request gifts (λ gift now. add_each request (gifts ++ gift ∷ []) families now)) (serve request family left) base moment
        (serve-left family keeps left base rows missing moment some is room below enough)
        (λ then later outcome k. ends spare (plain_family request family rows) then later outcome k)

  each-none : (gifts : List Gift) (plains : List PlainGift) (left : Left) (store : Datastore) (moment : ℕ) (rows : Rows) → AreGifts gifts plains → IsAs store rows → Runs [] (Finishes (IsPlainAdd (plain_each request plains [] rows))) store moment (add_each request gifts [] left)
  unfolding add_each
  each-none gifts plains left store moment rows are is =
      record { says = ap (λ (l : List AddrValue). Some (Gives l)) (gifts-addresses gifts plains are); is_as = is }

  -- ---- the families that are wanted

  keeps_for_none : Keeps
  keeps_for_none = record { revisions = 2; rows = 0; blocks = 0 }

  keeps_for_one : Keeps
  keeps_for_one = record { revisions = 7; rows = 2; blocks = 1 }

  no-gifts : AreGifts [] []
  unfolding AreGifts
  no-gifts = tt

  -- with revisions enough for both
  record Start (store : Datastore) : Type 0 where
    is_as : IsAs store store.rows
    below : (c : CidrValue) → IsBelow store id c
    revisions : store.counter + 12 ≤ last_revision
    enough : Enough 12 5 2 store

  one-family : (family : Family) (store : Datastore) (moment : ℕ) → Start store → Runs [] (Finishes (IsPlainAdd (plain_each request [] (family ∷ []) store.rows))) store moment (add_each request [] (family ∷ []) all_left)
  unfolding keeps_for_none
  one-family family store moment start =
      let spare = start.revisions in
      let a = start.enough.revisions_left in
      let b = start.enough.rows_left in
      let c = start.enough.blocks_left in
      each-step family keeps_for_none [] [] [] no-gifts all_left store
      (λ plain gift now then later after s. each-none (gift ∷ []) (plain ∷ []) now then later after (gifts-more [] [] gift plain no-gifts s.is_gift) s.is_as)
      store.rows true moment (omega arith) start.is_as tt (λ c own. start.below c) (omega arith)
      (record { revisions_left = omega arith; rows_left = omega arith; blocks_left = omega arith })

  other-family : (c : CidrValue) → c.family ≡ V6 → c.family ≢ V4
  other-family c six four = let e : V6 ≡ V4 = sym six ∙ four in cc e

  both-families : (store : Datastore) (moment : ℕ) → Start store → Runs [] (Finishes (IsPlainAdd (plain_each request [] (V4 ∷ V6 ∷ []) store.rows))) store moment (add_each request [] (V4 ∷ V6 ∷ []) all_left)
  unfolding keeps_for_none keeps_for_one
  both-families store moment start =
      let a = start.enough.revisions_left in
      let b = start.enough.rows_left in
      let c = start.enough.blocks_left in
      each-step V4 keeps_for_one (V6 ∷ []) [] [] no-gifts all_left store second
      store.rows true moment (omega arith) start.is_as tt (λ c own. start.below c) (omega arith)
      (record { revisions_left = omega arith; rows_left = omega arith; blocks_left = omega arith })
    where
      second : (plain : PlainGift) (gift : Gift) (now : Left) (then : Datastore) (later : ℕ) (after : Rows) → IsServed request V4 keeps_for_one store all_left plain after then now gift
          → Runs [] (Finishes (IsPlainAdd (plain_each request (plain ∷ []) (V6 ∷ []) after))) then later (add_each request (gift ∷ []) (V6 ∷ []) now)
      second plain gift now then later after s =
          let are = gifts-more [] [] gift plain no-gifts s.is_gift in
          let some = s.spends.claims in
          let a = s.enough.revisions_left in
          let b = s.enough.rows_left in
          let c = s.enough.blocks_left in
          each-step V6 keeps_for_none [] (gift ∷ []) (plain ∷ []) are now then
          (λ other given left last end later_rows t. each-none (gift ∷ given ∷ []) (plain ∷ other ∷ []) left last end later_rows (gifts-more (gift ∷ []) (plain ∷ []) given other are t.is_gift) t.is_as)
          after false later (omega arith) s.is_as s.handle
          (λ c own. subst (λ (n : ℕ). n < most_count) (sym (s.counts c (other-family c own))) (start.below c)) (omega arith)
          (record { revisions_left = omega arith; rows_left = omega arith; blocks_left = omega arith })

  pub add-comes : (store : Datastore) (moment : ℕ) → IsAs store store.rows → ((c : CidrValue) → IsBelow store id c) → Enough 12 5 2 store → Runs [] (IsPlainAdd (plain_add request store.rows)) store moment (add_word request)
  add-comes store moment is below enough =
      finishes-settled [] (IsPlainAdd (plain_add request store.rows)) add_stops (add_each request [] (families_if request.ipv4 request.ipv6) all_left) store moment (by request.ipv4 request.ipv6)
    where
      start : Start store
      start = record { is_as = is; below = below; revisions = enough.revisions_left; enough = enough }

      by : (four six : Bool) → Runs [] (Finishes (IsPlainAdd (plain_each request [] (families_if four six) store.rows))) store moment (add_each request [] (families_if four six) all_left)
      by true true = both-families store moment start
      by true false = one-family V4 store moment start
      by false true = one-family V6 store moment start
      by false false = each-none [] [] all_left store moment store.rows no-gifts is
