-- What a CHECK is answered is right.
use Rattle.std.proofs.Common.{◌≡◌, ℕ, inr, Bool, true, false, List, [], ◌∷◌, ◌++◌, Option, Some, None, refl, sym, ap, ◌∙◌, subst, arith}
use Rattle.std.specs.List.{All}
use Rattle.std.proofs.lemmas.List.{append_assoc}
use Rattle.std.proofs.lemmas.List.Elements.{All-cons, All-contains}
use Rattle.ipam_addr.specs.Shape.{AddrValue, CidrValue}
use Rattle.ipam_addr.specs.Holding.{Holds, holds_address}
use Rattle.ipam_addr.specs.Slots.{HasSlots}
use Rattle.ipam_addr.proofs.HoldingLemmas.{holds_from}
use Rattle.ipam_addr.proofs.SlotLemmas.{slot_number_holds}
use Rattle.ipam_pool.specs.declared.pools.Pool.{Pool}
use Rattle.ipam_pool.specs.Slots.{IsSlotOf}
use Rattle.ipam_records.specs.declared.call.Call.TheVariants.{Get}
use Rattle.ipam_records.specs.declared.key.Key.TheVariants as key
use Rattle.ipam_records.specs.declared.record.Record.{Record}
use Rattle.ipam_records.specs.declared.record.Record.TheVariants as record_of
use Rattle.ipam_records.specs.Datastore.{Datastore, reply_of, reply_to_get, row_of}
use Rattle.ipam_records.specs.Sound.{IsDatastore}
use Rattle.ipam_records.specs.Word.{Ends}
use Rattle.ipam_model.specs.declared.answer.Answer.{Answer}
use Rattle.ipam_model.specs.declared.answer.Answer.TheVariants as answer
use Rattle.ipam_model.specs.declared.outcome.CheckAnswer.{CheckAnswer}
use Rattle.ipam_model.specs.declared.outcome.CheckAnswer.TheVariants as check
use Rattle.ipam_model.specs.declared.request.Request.TheVariants.{Check}
use Rattle.ipam_model.specs.AddThis.{slot_holding}
use Rattle.ipam_model.specs.Affinities.{BlockRead}
use Rattle.ipam_model.specs.AnswerLaw.{IsRightAnswer}
use Rattle.ipam_model.specs.Answered.{Answered, history_of, span_of}
use Rattle.ipam_model.specs.Consistent.{IsConsistent}
use Rattle.ipam_model.specs.History.{Lawful, now}
use Rattle.ipam_model.specs.Look.{check_each, check_held, check_in_pool, check_word, holds_at}
use Rattle.ipam_model.specs.OtherLaws.{HasChecked, IsChecked, IsCheckedOf, IsNotHeld, NoPoolHolds, NotHeldThere}
use Rattle.ipam_model.specs.Reads.{block_said, pools_said}
use Rattle.ipam_model.specs.Requests.{told_as}
use Rattle.ipam_model.specs.Told.{of_check}
use Rattle.ipam_model.specs.Usable.{pool_of}
use Rattle.ipam_laws.proofs.Acts.{Later, Same, Since, since-since}
use Rattle.ipam_laws.proofs.FamilyHistory.{heard}
use Rattle.ipam_laws.proofs.Members.{in-find}
use Rattle.ipam_laws.proofs.NoReturn.{consistent-before}
use Rattle.ipam_laws.proofs.OwnersHistory.{part-of}
use Rattle.ipam_laws.proofs.SoundBlocks.{holding-number, slot-of-pool}
use Rattle.ipam_laws.proofs.SoundSteps.{row-there}
use Rattle.ipam_laws.proofs.Trails.{Comes, Comes-bound, Did, IsTrail, Trail}

-- ---- what was looked at

-- the block of the address's slot was read, by these pools
record LooksAt (address : AddrValue) (pools : List Pool) (moment : ℕ) (trail : Trail) : Type 0 where
  pool : Pool
  in_pool : pool_of address pools ≡ Some pool
  store : Datastore
  before : Trail
  since : Since (Did moment store (Get (key.Block (slot_holding pool address))) ∷ before) trail

abbrev pools_of : Datastore → List Pool
pools_of store = pools_said (reply_of store (Get key.Pools))

abbrev said_at : {address : AddrValue} {pools : List Pool} {moment : ℕ} {trail : Trail} → LooksAt address pools moment trail → BlockRead
said_at {address} look = block_said (reply_of look.store (Get (key.Block (slot_holding look.pool address))))

-- and the handle held it
record Held (id : List ℕ) (address : AddrValue) (pools : List Pool) (trail : Trail) : Type 0 where
  moment : ℕ
  look : LooksAt address pools moment trail
  held : holds_at id address (said_at look) ≡ true

unfoldable AllHeld : List ℕ → List Pool → Trail → List AddrValue → Type 0
AllHeld id pools trail [] = Unit {0}
AllHeld id pools trail (address ∷ rest) = Held id address pools trail × AllHeld id pools trail rest

look-since : (address : AddrValue) (pools : List Pool) (moment : ℕ) (trail longer : Trail) → Since trail longer → LooksAt address pools moment trail → LooksAt address pools moment longer
look-since address pools moment trail longer since h = record {
  pool = h.pool;
  in_pool = h.in_pool;
  store = h.store;
  before = h.before;
  since = since-since (Did moment h.store (Get (key.Block (slot_holding h.pool address))) ∷ h.before) trail longer h.since since;
}

held-since : (id : List ℕ) (address : AddrValue) (pools : List Pool) (trail longer : Trail) → Since trail longer → Held id address pools trail → Held id address pools longer
unfolding look-since
held-since id address pools trail longer since h = record { moment = h.moment; look = look-since address pools h.moment trail longer since h.look; held = h.held }

all-since : (id : List ℕ) (pools : List Pool) (trail longer : Trail) (list : List AddrValue) → Since trail longer → AllHeld id pools trail list → AllHeld id pools longer list
unfolding AllHeld
all-since id pools trail longer [] since h = tt
all-since id pools trail longer (address ∷ rest) since h = (held-since id address pools trail longer since h.0, all-since id pools trail longer rest since h.1)

all-more : (id : List ℕ) (pools : List Pool) (trail : Trail) (list : List AddrValue) (last : AddrValue) → AllHeld id pools trail list → Held id last pools trail → AllHeld id pools trail (list ++ last ∷ [])
unfolding AllHeld
all-more id pools trail [] last h one = (one, tt)
all-more id pools trail (address ∷ rest) last h one = (h.0, all-more id pools trail rest last h.1 one)

-- ---- what is answered

-- the pools were read, and nothing before
abbrev ReadPools : ℕ → Datastore → Trail → Type 0
ReadPools p store trail = Since (Did p store (Get key.Pools) ∷ []) trail

-- no pool held the address, or the handle did not hold it in the block that was read
data Lacks (id : List ℕ) (address : AddrValue) (p : ℕ) (pools : List Pool) (moment : ℕ) (trail : Trail) : Type 0 where
  NoPool : moment ≡ p → pool_of address pools ≡ None → Lacks id address p pools moment trail
  NotHeld : (look : LooksAt address pools moment trail) → holds_at id address (said_at look) ≡ false → Lacks id address p pools moment trail

unfoldable Tells : List ℕ → List AddrValue → Trail → CheckAnswer → Type 0
Tells id addresses trail check.Checked = (p : ℕ) × (store : Datastore) × ReadPools p store trail × AllHeld id (pools_of store) trail addresses
Tells id addresses trail (check.NotRecorded address moment) =
    (p : ℕ) × (store : Datastore) × ReadPools p store trail × (earlier : List AddrValue) × (later : List AddrValue) × (addresses ≡ earlier ++ address ∷ later)
    × AllHeld id (pools_of store) trail earlier × Lacks id address p (pools_of store) moment trail

each-comes : (id : List ℕ) (whole : List AddrValue) (p : ℕ) (store : Datastore) (earlier later : List AddrValue) → whole ≡ earlier ++ later → (trail : Trail) → ReadPools p store trail → AllHeld id (pools_of store) trail earlier
    → Comes (Tells id whole) trail (check_each id p (pools_of store) later)
unfolding check_each Tells
each-comes id whole p store earlier [] is trail read held = (p, store, read, subst (λ (l : List AddrValue). AllHeld id (pools_of store) trail l) (sym (is ∙ nothing earlier)) held)
  where
    nothing : (l : List AddrValue) → l ++ [] ≡ l
    nothing [] = refl
    nothing (x ∷ l) = ap (λ (r : List AddrValue). x ∷ r) (nothing l)
each-comes id whole p store earlier (address ∷ later) is trail read held =
    in-pool (pool_of address (pools_of store)) refl
    (λ longer since one. each-comes id whole p store (earlier ++ address ∷ []) later (is ∙ sym (append_assoc earlier (address ∷ []) later)) longer (since-since (Did p store (Get key.Pools) ∷ []) trail longer read since)
    (all-more id (pools_of store) longer earlier address (all-since id (pools_of store) trail longer earlier since held) one))
  where
    by : (moment : ℕ) (longer : Trail) → Since trail longer → (look : LooksAt address (pools_of store) moment longer) (b : Bool) → holds_at id address (said_at look) ≡ b
        → (Held id address (pools_of store) longer → Comes (Tells id whole) longer (check_each id p (pools_of store) later))
        → Comes (Tells id whole) longer (check_held (check_each id p (pools_of store) later) address moment b)
    by moment longer since look true e rest = rest (record { moment = moment; look = look; held = e })
    by moment longer since look false e rest =
        (p, store, since-since (Did p store (Get key.Pools) ∷ []) trail longer read since, earlier, later, is, all-since id (pools_of store) trail longer earlier since held, NotHeld look e)

    in-pool : (o : Option Pool) → pool_of address (pools_of store) ≡ o
        → ((longer : Trail) → Since trail longer → Held id address (pools_of store) longer → Comes (Tells id whole) longer (check_each id p (pools_of store) later))
        → Comes (Tells id whole) trail (check_in_pool (check_each id p (pools_of store) later) id address p o)
    in-pool None e rest = (p, store, read, earlier, later, is, held, NoPool refl e)
    in-pool (Some pool) e rest = λ moment other agrees.
        let step = Did moment other (Get (key.Block (slot_holding pool address))) in
        let look : LooksAt address (pools_of store) moment (step ∷ trail) = record { pool = pool; in_pool = e; store = other; before = trail; since = Same } in
        by moment (step ∷ trail) (Later step trail Same) look (holds_at id address (block_said (reply_of other (Get (key.Block (slot_holding pool address)))))) refl
        (λ one. rest (step ∷ trail) (Later step trail Same) one)

word-comes : (id : List ℕ) (addresses : List AddrValue) → Comes (Tells id addresses) [] (check_word id addresses)
unfolding AllHeld
word-comes id addresses = λ p store agrees. each-comes id addresses p store [] addresses refl (Did p store (Get key.Pools) ∷ []) Same tt

-- ---- in the span

-- the slot of a pool that was read is one, and holds the address
slot-there : (store : Datastore) → IsDatastore store → (address : AddrValue) (pool : Pool) → pool_of address (pools_of store) ≡ Some pool → IsSlotOf pool (slot_holding pool address) × Holds (slot_holding pool address) address
slot-there store sound address pool e = from (row_of key.Pools store.rows) refl e
  where
    among : (pools : List Pool) → All (λ (p : Pool). HasSlots p.cidr p.size) pools → pool_of address pools ≡ Some pool → IsSlotOf pool (slot_holding pool address) × Holds (slot_holding pool address) address
    among pools sizes f =
        let (there, holds) = in-find (λ (p : Pool). holds_address p.cidr address) pool pools f in
        let has = All-contains (λ (p : Pool). HasSlots p.cidr p.size) pools pool sizes there in
        let inside = slot_number_holds pool.cidr pool.size address (holds_from pool.cidr address holds) in (
          slot-of-pool pool (slot_holding pool address) has (inr (address, holds, refl)),
          subst (λ (c : CidrValue). Holds c address) (sym (holding-number pool address holds)) inside,
        )

    from : (o : Option (ℕ × Record)) → row_of key.Pools store.rows ≡ o → pool_of address (pools_said (reply_to_get o)) ≡ Some pool → IsSlotOf pool (slot_holding pool address) × Holds (slot_holding pool address) address
    from None row f = absurd (cc f)
    from (Some (revision, record_of.Pools pools)) row f = among pools (row-there store key.Pools revision (record_of.Pools pools) sound row).is_record.table.sizes f
    from (Some (revision, record_of.Config config)) row f = absurd (cc f)
    from (Some (revision, record_of.Reservations reservations)) row f = absurd (cc f)
    from (Some (revision, record_of.Block b)) row f = absurd (cc f)
    from (Some (revision, record_of.Affinity affinity)) row f = absurd (cc f)
    from (Some (revision, record_of.Handle handle)) row f = absurd (cc f)

-- where a CHECK is answered, with what it did
record AnsweredThere (a : Answered) (trail : Trail) (p : ℕ) (store : Datastore) : Type 0 where
  consistent : IsConsistent a.base.store
  lawful : Lawful a.base (history_of a)
  is_trail : IsTrail (span_of a) (now (span_of a)) trail
  read : ReadPools p store trail

checked-there : (a : Answered) (trail : Trail) (p : ℕ) (store : Datastore) (address : AddrValue) (moment : ℕ) → AnsweredThere a trail p store → (look : LooksAt address (pools_of store) moment trail)
    → (c : HasChecked a address) × (c.moment ≡ moment) × (c.block ≡ reply_of look.store (Get (key.Block (slot_holding look.pool address))))
unfolding IsTrail
checked-there a trail p store address moment t look =
    let span = span_of a in
    let (first_until, first) = part-of span (Did p store (Get key.Pools) ∷ []) trail (now span) t.read t.is_trail in
    let asked = Get (key.Block (slot_holding look.pool address)) in
    let (until, there) = part-of span (Did moment look.store asked ∷ look.before) trail (now span) look.since t.is_trail in
    let consistent = consistent-before a.base (history_of a) p t.consistent t.lawful in
    let sound : IsDatastore store = subst (λ (s : Datastore). IsDatastore s) first.0.before_it consistent.sound in
    let (slot, holds) = slot-there store sound address look.pool look.in_pool in (
      record {
        p = p;
        pools = reply_of store (Get key.Pools);
        read_pools = heard span p store (Get key.Pools) first.0;
        pool = look.pool;
        in_pool = look.in_pool;
        cidr = slot_holding look.pool address;
        is_slot = slot;
        holds = holds;
        moment = moment;
        block = reply_of look.store asked;
        read_block = heard span moment look.store asked there.0;
      },
      refl,
      refl,
    )

checked-of : (a : Answered) (id : List ℕ) (trail : Trail) (p : ℕ) (store : Datastore) (address : AddrValue) → AnsweredThere a trail p store → Held id address (pools_of store) trail → IsCheckedOf a id address
checked-of a id trail p store address t h =
    let (c, at, block) = checked-there a trail p store address h.moment t h.look in
    record { checked = c; is_held = ap (λ said. holds_at id address (block_said said)) block ∙ h.held }

all-checked : (a : Answered) (id : List ℕ) (trail : Trail) (p : ℕ) (store : Datastore) (addresses : List AddrValue) → AnsweredThere a trail p store → AllHeld id (pools_of store) trail addresses → IsChecked a id addresses
unfolding AllHeld
all-checked a id trail p store [] t h = λ k d within. absurd (omega arith)
all-checked a id trail p store (address ∷ rest) t h =
    All-cons (IsCheckedOf a id) address rest (checked-of a id trail p store address t h.0) (all-checked a id trail p store rest t h.1)

lacks-there : (a : Answered) (id : List ℕ) (trail : Trail) (p : ℕ) (store : Datastore) (address : AddrValue) (moment : ℕ) → AnsweredThere a trail p store → Lacks id address p (pools_of store) moment trail → IsNotHeld a id address moment
unfolding IsTrail
lacks-there a id trail p store address moment t (NoPool at none) =
    let (until, first) = part-of (span_of a) (Did p store (Get key.Pools) ∷ []) trail (now (span_of a)) t.read t.is_trail in
    subst (λ (m : ℕ). IsNotHeld a id address m) (sym at) (NoPoolHolds (reply_of store (Get key.Pools)) (heard (span_of a) p store (Get key.Pools) first.0) none)
lacks-there a id trail p store address moment t (NotHeld look differ) =
    let (c, at, block) = checked-there a trail p store address moment t look in
    NotHeldThere c at (ap (λ said. holds_at id address (block_said said)) block ∙ differ)

-- ---- the law

pub OfCheck : List ℕ → List AddrValue → Trail → Answer → Type 0
OfCheck id addresses trail answer.Checked = Tells id addresses trail check.Checked
OfCheck id addresses trail (answer.NotRecorded address moment) = Tells id addresses trail (check.NotRecorded address moment)
OfCheck id addresses trail _ = ⊥

pub check-comes : (id : List ℕ) (addresses : List AddrValue) → Comes (OfCheck id addresses) [] (told_as of_check (check_word id addresses))
unfolding OfCheck
check-comes id addresses = Comes-bound (Tells id addresses) (OfCheck id addresses) (λ one. Ends (of_check one)) (check_word id addresses) [] (word-comes id addresses) ends
  where
    ends : (longer : Trail) (one : CheckAnswer) → Tells id addresses longer one → Comes (OfCheck id addresses) longer (Ends (of_check one))
    ends longer check.Checked t = t
    ends longer (check.NotRecorded address moment) t = t

pub check-right : (a : Answered) (id : List ℕ) (addresses : List AddrValue) (trail : Trail) → IsConsistent a.base.store → Lawful a.base (history_of a) → a.request ≡ Check id addresses → IsTrail (span_of a) (now (span_of a)) trail
    → (told : Answer) → OfCheck id addresses trail told → IsRightAnswer a told
unfolding OfCheck Tells
check-right a id addresses trail c h is t answer.Checked (p, store, read, held) =
    (id, addresses, is, all-checked a id trail p store addresses (record { consistent = c; lawful = h; is_trail = t; read = read }) held)
check-right a id addresses trail c h is t (answer.NotRecorded address moment) (p, store, read, earlier, later, place, held, lacks) =
    let there : AnsweredThere a trail p store = record { consistent = c; lawful = h; is_trail = t; read = read } in (
      id,
      addresses,
      is,
      record {
        earlier = earlier;
        later = later;
        place = place;
        recorded = all-checked a id trail p store earlier there held;
        not_held = lacks-there a id trail p store address moment there lacks;
      },
    )
check-right a id addresses trail c h is t told none = absurd none
