-- How many races a trail has lost, and how many claims it has confirmed.
use Rattle.std.proofs.Common.{◌≡◌, ◌≢◌, ◌⊎◌, inl, inr, ℕ, ◌+◌, ◌≤◌, Bool, true, false, not, cond, List, [], ◌∷◌, Option, Some, None, refl, sym, ap, ◌∙◌, subst, arith}
use Rattle.std.specs.Prelude.{◌&&◌, ◌==◌, nat_lt}
use Rattle.ipam_records.specs.declared.call.Call.{Call}
use Rattle.ipam_records.specs.declared.call.Call.TheVariants.{Get, List as ListAll, Create, Update, Delete}
use Rattle.ipam_records.specs.declared.record.Record.{Record}
use Rattle.ipam_records.specs.Datastore.{Datastore, granted, has_room, last_revision, reply_of, reply_to_change, reply_to_create, row_of}
use Rattle.ipam_records.specs.Key.{key_of}
use Rattle.ipam_records.specs.Said.{Said, Found, Missing, Listed, Can, Exists, Conflict, Full, Spent}
use Rattle.ipam_records.specs.Word.{Word}
use Rattle.ipam_model.specs.declared.entry.Called.{Called}
use Rattle.ipam_model.specs.declared.entry.Fate.TheVariants.{Well}
use Rattle.ipam_model.specs.declared.part.Left.{Left}
use Rattle.ipam_model.specs.declared.part.Stop.{Stop}
use Rattle.ipam_model.specs.declared.part.Stop.TheVariants.{OutOfTries, OutOfClaims, NoRoom, CountAtLimit, NoRevisions}
use Rattle.ipam_model.specs.declared.request.Request.{Request}
use Rattle.ipam_model.specs.Cluster.{call_made, new_record, record_written}
use Rattle.ipam_model.specs.Named.{name_of, told_of}
use Rattle.ipam_model.specs.Step.{after_write, write_back}
use Rattle.ipam_model.specs.Tries.{claims_of, confirmed_claims, done_or, follows_block_read, is_add, is_mark_found, is_confirmation_of, is_lost, is_race_lost, is_release, is_write, latest_done, lost_races, reads_affinity, reads_block}
use Rattle.ipam_laws.proofs.Acts.{Later, Same, Since}
use Rattle.ipam_laws.proofs.Trails.{AreCalls, Comes, Did, Got, Step, Trail}

-- ---- the calls of a trail

abbrev pub call_at : Datastore → Call → Called
call_at store asked = call_made 0 Well asked (reply_of store asked) None

unfoldable pub told_calls : Trail → List Called
told_calls [] = []
told_calls (Did moment store asked ∷ trail) = call_at store asked ∷ told_calls trail
told_calls (Got moment at live ∷ trail) = told_calls trail

abbrev pub lost_in : Request → Trail → ℕ
lost_in request trail = lost_races request (told_calls trail)

abbrev pub claims_in : Request → Trail → ℕ
claims_in request trail = claims_of request (told_calls trail)

-- the lists count alike
pub record SameCalls (request : Request) (one other : List Called) : Type 0 where
  pub follows : follows_block_read one ≡ follows_block_read other
  pub latest : latest_done one ≡ latest_done other
  pub lost : lost_races request one ≡ lost_races request other
  pub confirmed : confirmed_claims one ≡ confirmed_claims other

pub same-calls : (request : Request) (trail : Trail) (calls : List Called) → AreCalls trail calls → SameCalls request calls (told_calls trail)
unfolding AreCalls told_calls lost_races confirmed_claims
same-calls request [] calls is = subst (λ (l : List Called). SameCalls request l []) (sym is) (record { follows = refl; latest = refl; lost = refl; confirmed = refl })
same-calls request (Got moment at live ∷ trail) calls h = same-calls request trail calls h
same-calls request (Did moment store asked ∷ trail) calls (c, rest, is, call, more) =
    let k = same-calls request trail rest more in
    subst (λ (l : List Called). SameCalls request l (call_at store asked ∷ told_calls trail)) (sym is) (record {
      follows = ap reads_block call.call;
      latest = λ i. done_or (call.reply i) (k.latest i);
      lost = λ i. cond (cond (is_write (call.call i)) (is_race_lost (call.reply i)) (is_release request && (reads_affinity (call.call i) && k.follows i && not (is_mark_found (k.latest i) (call.reply i))))) 1 0 + k.lost i;
      confirmed = λ i. cond (is_confirmation_of (call.is_written i)) 1 0 + k.confirmed i;
    })

-- ---- one step more

zero-plus : (n : ℕ) → 0 + n ≡ n
zero-plus n = omega arith

plus-one : (n m r k : ℕ) → n ≡ 1 + m → m + r ≡ k → n + r ≡ 1 + k
plus-one n m r k e f = omega (arith, e, f)

pub costs-none : (request : Request) (moment : ℕ) (store : Datastore) (asked : Call) (trail : Trail) → is_lost request (call_at store asked) (told_calls trail) ≡ false → lost_in request (Did moment store asked ∷ trail) ≡ lost_in request trail
unfolding told_calls lost_races
costs-none request moment store asked trail e = ap (λ (b : Bool). cond b 1 0 + lost_in request trail) e ∙ zero-plus (lost_in request trail)

pub costs-one : (request : Request) (moment : ℕ) (store : Datastore) (asked : Call) (trail : Trail) → is_lost request (call_at store asked) (told_calls trail) ≡ true → lost_in request (Did moment store asked ∷ trail) ≡ 1 + lost_in request trail
unfolding told_calls lost_races
costs-one request moment store asked trail e = ap (λ (b : Bool). cond b 1 0 + lost_in request trail) e

-- the call confirms no claim of the request
abbrev pub NoClaim : Request → Call → Type 0
NoClaim request asked = (is_add request ≡ false) ⊎ (is_confirmation_of (new_record asked) ≡ false)

pub claims-none : (request : Request) (moment : ℕ) (store : Datastore) (asked : Call) (trail : Trail) → NoClaim request asked → claims_in request (Did moment store asked ∷ trail) ≡ claims_in request trail
unfolding told_calls confirmed_claims
claims-none request moment store asked trail (inl no_add) =
    ap (λ (b : Bool). cond b (confirmed_claims (call_at store asked ∷ told_calls trail)) 0) no_add ∙ sym (ap (λ (b : Bool). cond b (confirmed_claims (told_calls trail)) 0) no_add)
claims-none request moment store asked trail (inr e) =
    ap (λ (b : Bool). cond (is_add request) (cond b 1 0 + confirmed_claims (told_calls trail)) 0) (by (reply_of store asked))
    ∙ ap (λ (n : ℕ). cond (is_add request) n 0) (zero-plus (confirmed_claims (told_calls trail)))
  where
    by : (said : Said) → is_confirmation_of (record_written asked said) ≡ false
    by (Can revision) = e
    by Missing = refl
    by (Exists revision) = refl
    by (Conflict revision) = refl
    by (Found revision found) = refl
    by (Listed rows) = refl
    by Full = refl
    by Spent = refl

-- a write that was not done confirms nothing
pub claims-undone : (request : Request) (moment : ℕ) (store : Datastore) (asked : Call) (trail : Trail) → record_written asked (reply_of store asked) ≡ None → claims_in request (Did moment store asked ∷ trail) ≡ claims_in request trail
unfolding told_calls confirmed_claims
claims-undone request moment store asked trail e =
    ap (λ (o : Option Record). cond (is_add request) (cond (is_confirmation_of o) 1 0 + confirmed_claims (told_calls trail)) 0) e
    ∙ ap (λ (n : ℕ). cond (is_add request) n 0) (zero-plus (confirmed_claims (told_calls trail)))

pub claims-one : (request : Request) (moment : ℕ) (store : Datastore) (asked : Call) (trail : Trail) (revision : ℕ) → is_add request ≡ true → is_confirmation_of (new_record asked) ≡ true → reply_of store asked ≡ Can revision
    → claims_in request (Did moment store asked ∷ trail) ≡ 1 + claims_in request trail
unfolding told_calls confirmed_claims
claims-one request moment store asked trail revision adds e done =
    let confirms : is_confirmation_of (record_written asked (reply_of store asked)) ≡ true = ap (λ (said : Said). is_confirmation_of (record_written asked said)) done ∙ e in
    let first = ap (λ (b : Bool). cond b (confirmed_claims (call_at store asked ∷ told_calls trail)) 0) adds in
    let more = ap (λ (b : Bool). cond b 1 0 + confirmed_claims (told_calls trail)) confirms in
    let then = ap (λ (b : Bool). cond b (confirmed_claims (told_calls trail)) 0) adds in
    first ∙ more ∙ ap (λ (n : ℕ). 1 + n) (sym then)

-- ---- what a write is answered

unfoldable IsToWrite : Said → Type 0
IsToWrite (Found revision found) = ⊥
IsToWrite (Listed rows) = ⊥
IsToWrite _ = Unit {0}

unfoldable NotFull : Said → Type 0
NotFull Full = ⊥
NotFull _ = Unit {0}

granted-write : (store : Datastore) (b : Bool) → IsToWrite (cond b (Can (store.counter + 1)) Spent)
unfolding IsToWrite
granted-write store true = tt
granted-write store false = tt

granted-room : (store : Datastore) (b : Bool) → NotFull (cond b (Can (store.counter + 1)) Spent)
unfolding NotFull
granted-room store true = tt
granted-room store false = tt

create-write : (store : Datastore) (new : Record) (row : Option (ℕ × Record)) → IsToWrite (reply_to_create store (key_of new) row)
unfolding IsToWrite
create-write store new (Some row) = tt
create-write store new None = by (has_room store (key_of new))
  where
    by : (b : Bool) → IsToWrite (cond b (granted store) Full)
    by true = granted-write store (nat_lt store.counter last_revision)
    by false = tt

change-write : (store : Datastore) (old : ℕ) (row : Option (ℕ × Record)) → IsToWrite (reply_to_change store old row) × NotFull (reply_to_change store old row)
unfolding IsToWrite NotFull
change-write store old None = (tt, tt)
change-write store old (Some row) = by (row.0 == old)
  where
    by : (b : Bool) → IsToWrite (cond b (granted store) (Conflict row.0)) × NotFull (cond b (granted store) (Conflict row.0))
    by true = (granted-write store (nat_lt store.counter last_revision), granted-room store (nat_lt store.counter last_revision))
    by false = (tt, tt)

write-reply : (store : Datastore) (asked : Call) → is_write (name_of asked) ≡ true → IsToWrite (reply_of store asked)
write-reply store (Get k) e = absurd (cc e)
write-reply store (ListAll kind) e = absurd (cc e)
write-reply store (Create new) e = create-write store new (row_of (key_of new) store.rows)
write-reply store (Update new old) e = (change-write store old (row_of (key_of new) store.rows)).0
write-reply store (Delete k old) e = (change-write store old (row_of k store.rows)).0

-- a call that creates nothing has room
abbrev pub CreatesNone : Call → Type 0
CreatesNone asked = (new : Record) → asked ≢ Create new

-- what finds no room creates
pub full-creates : (store : Datastore) (asked : Call) → is_write (name_of asked) ≡ true → reply_of store asked ≡ Full → (new : Record) × (asked ≡ Create new)
unfolding NotFull
full-creates store (Get k) w e = absurd (cc w)
full-creates store (ListAll kind) w e = absurd (cc w)
full-creates store (Create new) w e = (new, refl)
full-creates store (Update new old) w e = absurd (subst (λ (said : Said). NotFull said) e (change-write store old (row_of (key_of new) store.rows)).1)
full-creates store (Delete k old) w e = absurd (subst (λ (said : Said). NotFull said) e (change-write store old (row_of k store.rows)).1)

-- ---- what is left

-- the latest step lost a race, or confirmed a claim
pub record LastLost (request : Request) (trail : Trail) : Type 0 where
  pub moment : ℕ
  pub store : Datastore
  pub asked : Call
  pub before : Trail
  pub is : trail ≡ Did moment store asked ∷ before
  pub one_more : lost_in request before + 1 ≡ lost_in request trail

pub record LastConfirmed (request : Request) (trail : Trail) : Type 0 where
  pub moment : ℕ
  pub store : Datastore
  pub asked : Call
  pub before : Trail
  pub is : trail ≡ Did moment store asked ∷ before
  pub one_more : claims_in request before + 1 ≡ claims_in request trail

-- a record could not be created for want of room
pub record HasFull (trail : Trail) : Type 0 where
  pub moment : ℕ
  pub store : Datastore
  pub new : Record
  pub before : Trail
  pub since : Since (Did moment store (Create new) ∷ before) trail
  pub full : reply_of store (Create new) ≡ Full

pub full-more : (trail : Trail) (step : Step) → HasFull trail → HasFull (step ∷ trail)
full-more trail step h = record {
  moment = h.moment;
  store = h.store;
  new = h.new;
  before = h.before;
  since = Later step trail h.since;
  full = h.full;
}

-- the latest write found no revision left
pub record LastSpent (trail : Trail) : Type 0 where
  pub moment : ℕ
  pub store : Datastore
  pub asked : Call
  pub before : Trail
  pub is : trail ≡ Did moment store asked ∷ before
  pub spent : reply_of store asked ≡ Spent

-- so many races and claims are left, and together no more than the bound
pub record IsLeft (request : Request) (bound : ℕ) (trail : Trail) (left : Left) : Type 0 where
  pub lost : lost_in request trail + left.races ≡ 63
  pub claims : claims_in request trail + left.claims ≡ 63
  pub within : left.races + left.claims ≤ bound

-- a race was lost since so many were left
pub record HasLost (request : Request) (bound : ℕ) (trail : Trail) (left : Left) : Type 0 where
  pub lost : lost_in request trail + left.races ≡ 64
  pub claims : claims_in request trail + left.claims ≡ 63
  pub within : left.races + left.claims ≤ bound
  pub last : LastLost request trail

-- a claim was confirmed since so many were left
pub record HasConfirmed (request : Request) (bound : ℕ) (trail : Trail) (left : Left) : Type 0 where
  pub lost : lost_in request trail + left.races ≡ 63
  pub claims : claims_in request trail + left.claims ≡ 64
  pub within : left.races + left.claims ≤ bound
  pub last : LastConfirmed request trail

-- why a part stopped
unfoldable pub Stopped : Request → Trail → Left → Stop → Type 0
Stopped request trail left OutOfTries = (lost_in request trail ≡ 64) × (claims_in request trail + left.claims ≡ 63) × LastLost request trail
Stopped request trail left OutOfClaims = (claims_in request trail ≡ 64) × (lost_in request trail + left.races ≡ 63) × LastConfirmed request trail
Stopped request trail left NoRoom = HasFull trail × IsLeft request 126 trail left
Stopped request trail left (CountAtLimit moment) = IsLeft request 126 trail left
Stopped request trail left NoRevisions = LastSpent trail

-- there are never more
pub any-left : (request : Request) (bound : ℕ) (trail : Trail) (left : Left) → IsLeft request bound trail left → IsLeft request 126 trail left
any-left request bound trail left h = record { lost = h.lost; claims = h.claims; within = few (lost_in request trail) (claims_in request trail) h.lost h.claims }
  where
    few : (n m : ℕ) → n + left.races ≡ 63 → m + left.claims ≡ 63 → left.races + left.claims ≤ 126
    few n m e f = omega (arith, e, f)

module _ (request : Request) where
  pub kept-left : (bound moment : ℕ) (store : Datastore) (asked : Call) (trail : Trail) (left : Left) → is_lost request (call_at store asked) (told_calls trail) ≡ false → NoClaim request asked → IsLeft request bound trail left → IsLeft request bound (Did moment store asked ∷ trail) left
  kept-left bound moment store asked trail left e none h =
      let lost = costs-none request moment store asked trail e in
      let claims = claims-none request moment store asked trail none in
      let a = h.lost in
      let b = h.claims in
      record { lost = ap (λ (n : ℕ). n + left.races) lost ∙ a; claims = ap (λ (n : ℕ). n + left.claims) claims ∙ b; within = h.within }

  -- a read of a request that is no release
  pub read-left : is_release request ≡ false → (bound moment : ℕ) (store : Datastore) (asked : Call) (trail : Trail) (left : Left) → is_write (name_of asked) ≡ false → NoClaim request asked → IsLeft request bound trail left → IsLeft request bound (Did moment store asked ∷ trail) left
  read-left no_release bound moment store asked trail left reads none h =
      kept-left bound moment store asked trail left
      (λ i. cond (reads i) (is_race_lost (told_of (reply_of store asked))) (no_release i && (reads_affinity (name_of asked) && follows_block_read (told_calls trail) && not (is_mark_found (latest_done (told_calls trail)) (told_of (reply_of store asked)))))) none h

  pub done-left : (bound moment : ℕ) (store : Datastore) (asked : Call) (trail : Trail) (left : Left) (revision : ℕ) → is_write (name_of asked) ≡ true → reply_of store asked ≡ Can revision → NoClaim request asked → IsLeft request bound trail left → IsLeft request bound (Did moment store asked ∷ trail) left
  done-left bound moment store asked trail left revision writes done none h =
      kept-left bound moment store asked trail left (written-lost store asked trail (Can revision) writes done) none h
    where
      written-lost : (store : Datastore) (asked : Call) (trail : Trail) (said : Said) → is_write (name_of asked) ≡ true → reply_of store asked ≡ said → is_lost request (call_at store asked) (told_calls trail) ≡ is_race_lost (told_of said)
      written-lost store asked trail said w e = λ i. cond (w i) (is_race_lost (told_of (e i))) (is_release request && (reads_affinity (name_of asked) && follows_block_read (told_calls trail) && not (is_mark_found (latest_done (told_calls trail)) (told_of (reply_of store asked)))))

  -- a step that lost a race
  pub step-lost : (bound moment : ℕ) (store : Datastore) (asked : Call) (trail : Trail) (left : Left) → is_lost request (call_at store asked) (told_calls trail) ≡ true → claims_in request (Did moment store asked ∷ trail) ≡ claims_in request trail → IsLeft request bound trail left → HasLost request bound (Did moment store asked ∷ trail) left
  step-lost bound moment store asked trail left e claims h =
      let lost = costs-one request moment store asked trail e in
      let a = h.lost in
      let b = h.claims in
      record {
        lost = plus-one (lost_in request (Did moment store asked ∷ trail)) (lost_in request trail) left.races 63 lost a;
        claims = ap (λ (n : ℕ). n + left.claims) claims ∙ b;
        within = h.within;
        last = record { moment = moment; store = store; asked = asked; before = trail; is = refl; one_more = swap (lost_in request trail) ∙ sym lost };
      }
    where
      swap : (n : ℕ) → n + 1 ≡ 1 + n
      swap n = omega arith

  write-lost : (bound moment : ℕ) (store : Datastore) (asked : Call) (trail : Trail) (left : Left) (said : Said) → is_write (name_of asked) ≡ true → reply_of store asked ≡ said → is_race_lost (told_of said) ≡ true → record_written asked said ≡ None → IsLeft request bound trail left → HasLost request bound (Did moment store asked ∷ trail) left
  write-lost bound moment store asked trail left said w e is none h =
      step-lost bound moment store asked trail left
      ((λ i. cond (w i) (is_race_lost (told_of (e i))) (is_release request && (reads_affinity (name_of asked) && follows_block_read (told_calls trail) && not (is_mark_found (latest_done (told_calls trail)) (told_of (reply_of store asked)))))) ∙ is)
      (claims-undone request moment store asked trail (ap (record_written asked) e ∙ none)) h

  write-kept : (bound moment : ℕ) (store : Datastore) (asked : Call) (trail : Trail) (left : Left) (said : Said) → is_write (name_of asked) ≡ true → reply_of store asked ≡ said → is_race_lost (told_of said) ≡ false → record_written asked said ≡ None → IsLeft request bound trail left → IsLeft request bound (Did moment store asked ∷ trail) left
  write-kept bound moment store asked trail left said w e is none h =
      let lost = costs-none request moment store asked trail ((λ i. cond (w i) (is_race_lost (told_of (e i))) (is_release request && (reads_affinity (name_of asked) && follows_block_read (told_calls trail) && not (is_mark_found (latest_done (told_calls trail)) (told_of (reply_of store asked)))))) ∙ is) in
      let claims = claims-undone request moment store asked trail (ap (record_written asked) e ∙ none) in
      record { lost = ap (λ (n : ℕ). n + left.races) lost ∙ h.lost; claims = ap (λ (n : ℕ). n + left.claims) claims ∙ h.claims; within = h.within }

  -- what follows a write
  pub wrote : {A : Type 0} → (Q : Trail → A → Type 0) (bound moment : ℕ) (store : Datastore) (asked : Call) (trail : Trail) (left : Left) (took : ℕ → Word A) (lost full spent : Word A) → is_write (name_of asked) ≡ true → IsLeft request bound trail left
      → ((revision : ℕ) → reply_of store asked ≡ Can revision → Comes Q (Did moment store asked ∷ trail) (took revision))
      → (HasLost request bound (Did moment store asked ∷ trail) left → Comes Q (Did moment store asked ∷ trail) lost)
      → ((new : Record) → asked ≡ Create new → HasFull (Did moment store asked ∷ trail) → IsLeft request bound (Did moment store asked ∷ trail) left → Comes Q (Did moment store asked ∷ trail) full)
      → (LastSpent (Did moment store asked ∷ trail) → Comes Q (Did moment store asked ∷ trail) spent)
      → Comes Q (Did moment store asked ∷ trail) (after_write (reply_of store asked) took lost full spent)
  unfolding IsToWrite
  wrote {A} Q bound moment store asked trail left took lost full spent w h a b c d = by (reply_of store asked) refl
    where
      longer : Trail
      longer = Did moment store asked ∷ trail

      none : (said : Said) → reply_of store asked ≡ said → IsToWrite said
      none said e = subst (λ (x : Said). IsToWrite x) e (write-reply store asked w)

      by : (said : Said) → reply_of store asked ≡ said → Comes Q longer (after_write said took lost full spent)
      by (Can revision) e = a revision e
      by Missing e = b (write-lost bound moment store asked trail left Missing w e refl refl h)
      by (Exists revision) e = b (write-lost bound moment store asked trail left (Exists revision) w e refl refl h)
      by (Conflict revision) e = b (write-lost bound moment store asked trail left (Conflict revision) w e refl refl h)
      by (Found revision found) e = absurd (none (Found revision found) e)
      by (Listed rows) e = absurd (none (Listed rows) e)
      by Full e =
          let (new, is) = full-creates store asked w e in
          c new is (record {
            moment = moment;
            store = store;
            new = new;
            before = trail;
            since = subst (λ (x : Call). Since (Did moment store x ∷ trail) longer) is Same;
            full = ap (reply_of store) (sym is) ∙ e;
          }) (write-kept bound moment store asked trail left Full w e refl refl h)
      by Spent e = d (record { moment = moment; store = store; asked = asked; before = trail; is = refl; spent = e })

pub back-writes : (said : Said) (new : Record) → is_write (name_of (write_back said new)) ≡ true
back-writes (Found revision found) new = refl
back-writes other new = refl

pub back-new : (said : Said) (new : Record) → new_record (write_back said new) ≡ Some new
back-new (Found revision found) new = refl
back-new other new = refl
