-- Words of which each label says what the calls of the trail have made.
use Rattle.std.proofs.Common.{◌≡◌, ◌≢◌, ◌⊎◌, ℕ, ◌+◌, Bool, true, false, cond, List, ◌∷◌, Option, Some, None, refl, sym, ap, ◌∙◌}
use Rattle.ipam_addr.specs.Shape.{CidrValue}
use Rattle.ipam_block.specs.HandleShape.{HandleValue}
use Rattle.ipam_records.specs.declared.call.Call.{Call}
use Rattle.ipam_records.specs.declared.call.Call.TheVariants.{Get, List as ListAll, Update, Delete}
use Rattle.ipam_records.specs.declared.key.Key.{Key}
use Rattle.ipam_records.specs.declared.key.Key.TheVariants as key
use Rattle.ipam_records.specs.declared.key.Kind.{Kind}
use Rattle.ipam_records.specs.declared.record.Record.{Record}
use Rattle.ipam_records.specs.declared.record.Record.TheVariants as record_of
use Rattle.std.specs.Prelude.{◌==◌, nat_lt}
use Rattle.ipam_records.specs.Datastore.{Datastore, granted, last_revision, reply_of, reply_to_change, row_of}
use Rattle.ipam_records.specs.Key.{key_of}
use Rattle.ipam_records.specs.Label.{CallLabel, Nowhere, idle}
use Rattle.ipam_records.specs.Said.{Said, Found, Missing, Listed, Can, Exists, Conflict, Full, Spent}
use Rattle.ipam_records.specs.Sound.{IsDatastore}
use Rattle.ipam_records.specs.Word.{Word, Ends, Asks, Waits, bound, answer_in}
use Rattle.ipam_model.specs.declared.answer.Answer.{Answer}
use Rattle.ipam_model.specs.declared.answer.Answer.TheVariants as answer
use Rattle.ipam_model.specs.declared.part.Outcome.{Outcome}
use Rattle.ipam_model.specs.declared.part.Outcome.TheVariants.{Went, Stops}
use Rattle.ipam_model.specs.declared.part.Stop.{Stop}
use Rattle.ipam_model.specs.declared.part.Stop.TheVariants.{OutOfTries, OutOfClaims, NoRoom, CountAtLimit, NoRevisions}
use Rattle.ipam_model.specs.declared.request.Request.{Request}
use Rattle.ipam_model.specs.Cluster.{new_record}
use Rattle.ipam_model.specs.Step.{after_write}
use Rattle.ipam_laws.proofs.Acts.{Same, Since, since-step}
use Rattle.ipam_laws.proofs.DebtCalls.{get-undone, list-undone, lost-undone}
use Rattle.ipam_laws.proofs.Debts.{Debt, Harmless, Nothing, Owes, credit_in, owes-none, owes-still}
use Rattle.ipam_laws.proofs.PointTrails.{IsAtPoint, IsPlain, plain-nowhere}
use Rattle.ipam_laws.proofs.Trails.{AgreesAll, Did, Got, Trail}

-- the label has the credit and the point that the calls of the trail have made
pub record Tells (request : Request) (trail : Trail) (label : CallLabel) : Type 0 where
  pub debt : Debt
  pub owes : Owes trail debt
  pub credit : label.credit ≡ credit_in debt
  pub point : IsAtPoint request trail label.point

-- the request stands nowhere, and owes this
pub record Stays (request : Request) (debt : Debt) (trail : Trail) : Type 0 where
  pub owes : Owes trail debt
  pub point : IsAtPoint request trail Nowhere

abbrev pub Rests : Request → Trail → Type 0
Rests request trail = Stays request Nothing trail

-- the answer says that the request gave up: it was tried too often, or there were no revisions
pub data IsGivenUp : Answer → Type 0 where
  TooOften : (lost claims : ℕ) → IsGivenUp (answer.Again lost claims)
  NoneLeft : IsGivenUp answer.Spent

-- where a request ends it owes nothing, unless it gave up
abbrev pub Settled : {A : Type 0} → Request → (A → Answer) → Trail → A → Type 0
Settled request of_one trail a = Rests request trail ⊎ IsGivenUp (of_one a)

-- ---- words

bound-on : {A B : Type 0} → (w : Word A) (follows : A → Word B) → answer_in w ≡ None → answer_in (bound w follows) ≡ None
bound-on (Ends answer) follows e = absurd (cc e)
bound-on (Asks label asked next) follows e = refl
bound-on (Waits next) follows e = refl

module _ (request : Request) where
  -- Whatever sound stores answer the calls, each label says what the calls before have made, and each
  -- answer has this of the trail that led to it. What waits has not answered once it is fed.
  abbrev pub Says : {A : Type 0} → (Trail → A → Type 0) → Trail → Word A → Type 0
  Says Q trail (Ends answer) = Q trail answer
  Says Q trail (Asks label asked next) =
      Tells request trail label
      × ((moment : ℕ) (store : Datastore) → AgreesAll store trail → IsDatastore store
      → Says Q (Did moment store asked ∷ trail) (next moment (reply_of store asked)))
  Says Q trail (Waits next) =
      Tells request trail idle
      × ((moment at : ℕ) (live : List (List ℕ)) → (answer_in (next live) ≡ None) × Says Q (Got moment at live ∷ trail) (next live))

  pub Says-bound : {A B : Type 0} → (R : Trail → A → Type 0) (Q : Trail → B → Type 0) (follows : A → Word B) (w : Word A) (trail : Trail) → Says R trail w → ((longer : Trail) (a : A) → Since trail longer → R longer a → Says Q longer (follows a)) → Says Q trail (bound w follows)
  Says-bound R Q follows (Ends answer) trail h k = k trail answer Same h
  Says-bound R Q follows (Asks label asked next) trail h k = (
    h.0,
    λ moment store agrees sound.
        Says-bound R Q follows (next moment (reply_of store asked)) (Did moment store asked ∷ trail) (h.1 moment store agrees sound)
        (λ longer a since r. k longer a (since-step (Did moment store asked) trail longer since) r),
  )
  Says-bound R Q follows (Waits next) trail h k = (
    h.0,
    λ moment at live.
        let here = h.1 moment at live in (
          bound-on (next live) follows here.0,
          Says-bound R Q follows (next live) (Got moment at live ∷ trail) here.1
              (λ longer a since r. k longer a (since-step (Got moment at live) trail longer since) r),
        ),
  )

  -- ---- what a part comes to

  -- where a request goes on after a stop, it owes nothing
  abbrev pub StopsClean : Trail → Stop → Type 0
  StopsClean trail OutOfTries = Unit {0}
  StopsClean trail OutOfClaims = Unit {0}
  StopsClean trail NoRoom = Rests request trail
  StopsClean trail (CountAtLimit moment) = Rests request trail
  StopsClean trail NoRevisions = Unit {0}

  abbrev pub Clean : {A : Type 0} → Trail → Outcome A → Type 0
  Clean trail (Went left value) = Rests request trail
  Clean trail (Stops left why) = StopsClean trail why

  -- ---- what follows a write, by its reply

  pub wrote : {A : Type 0} → (Q : Trail → A → Type 0) (trail : Trail) (said reply : Said) (took : ℕ → Word A) (lost full spent : Word A) → said ≡ reply
      → ((revision : ℕ) → said ≡ Can revision → Says Q trail (took revision)) → (((revision : ℕ) → said ≢ Can revision) → Says Q trail lost)
      → (said ≡ Full → ((revision : ℕ) → said ≢ Can revision) → Says Q trail full) → (((revision : ℕ) → said ≢ Can revision) → Says Q trail spent) → Says Q trail (after_write reply took lost full spent)
  wrote Q trail said (Can revision) took lost full spent e a b c d = a revision e
  wrote Q trail said Missing took lost full spent e a b c d = b (λ r f. cc (e, f))
  wrote Q trail said (Exists revision) took lost full spent e a b c d = b (λ r f. cc (e, f))
  wrote Q trail said (Conflict revision) took lost full spent e a b c d = b (λ r f. cc (e, f))
  wrote Q trail said Full took lost full spent e a b c d = c e (λ r f. cc (e, f))
  wrote Q trail said Spent took lost full spent e a b c d = d (λ r f. cc (e, f))
  wrote Q trail said (Found revision found) took lost full spent e a b c d = b (λ r f. cc (e, f))
  wrote Q trail said (Listed rows) took lost full spent e a b c d = b (λ r f. cc (e, f))

  -- ---- labels that stand nowhere

  pub rests-tells : (trail : Trail) → Rests request trail → Tells request trail idle
  rests-tells trail h = record { debt = Nothing; owes = h.owes; credit = refl; point = h.point }

  module _ (moment : ℕ) (store : Datastore) (trail : Trail) (debt : Debt) (h : Stays request debt trail) where
    -- what was not done and is plain
    pub stays-undone : (asked : Call) → IsPlain asked → ((revision : ℕ) → reply_of store asked ≢ Can revision) → Stays request debt (Did moment store asked ∷ trail)
    stays-undone asked plain lost = record {
      owes = owes-still moment store asked trail debt (lost-undone store asked lost) h.owes;
      point = plain-nowhere request moment store asked trail plain;
    }

    pub stays-read : (k : Key) → ((node : List ℕ) (cidr : CidrValue) → k ≢ key.Affinity node cidr) → Stays request debt (Did moment store (Get k) ∷ trail)
    stays-read k other = record {
      owes = owes-still moment store (Get k) trail debt (get-undone store k) h.owes;
      point = plain-nowhere request moment store (Get k) trail (record { reads_none = λ node cidr e. other node cidr (cc e); writes_none = λ a e. absurd (cc e); puts_none = λ b e. absurd (cc e) });
    }

    pub stays-listed : (kind : Kind) → Stays request debt (Did moment store (ListAll kind) ∷ trail)
    stays-listed kind = record {
      owes = owes-still moment store (ListAll kind) trail debt (list-undone store kind) h.owes;
      point = plain-nowhere request moment store (ListAll kind) trail (record { reads_none = λ node cidr e. absurd (cc e); writes_none = λ a e. absurd (cc e); puts_none = λ b e. absurd (cc e) });
    }

  -- a plain call that raises and frees nothing
  pub rests-plain : (moment : ℕ) (store : Datastore) (asked : Call) (trail : Trail) → IsPlain asked → Harmless store asked → Rests request trail → Rests request (Did moment store asked ∷ trail)
  rests-plain moment store asked trail plain harmless h = record {
    owes = owes-none moment store asked trail harmless h.owes;
    point = plain-nowhere request moment store asked trail plain;
  }

-- ---- calls of a handle

pub handle-plain : (asked : Call) (h : HandleValue) → new_record asked ≡ Some (record_of.Handle h) → IsPlain asked
handle-plain asked h is = record {
  reads_none = λ node cidr e. let none = sym is ∙ ap new_record e in absurd (cc none);
  writes_none = λ a e. let other = sym is ∙ e in absurd (cc other);
  puts_none = λ b e. let other = sym is ∙ e in absurd (cc other);
}

pub delete-plain : (k : Key) (revision : ℕ) → IsPlain (Delete k revision)
delete-plain k revision = record { reads_none = λ node cidr e. absurd (cc e); writes_none = λ a e. absurd (cc e); puts_none = λ b e. absurd (cc e) }

-- ---- what is changed or deleted needs no room

change-has_room : (store : Datastore) (revision : ℕ) (o : Option (ℕ × Record)) → reply_to_change store revision o ≢ Full
change-has_room store revision None e = absurd (cc e)
change-has_room store revision (Some row) e = by (row.0 == revision) e
  where
    spent : (b : Bool) → cond b (Can (store.counter + 1)) Spent ≡ Full → ⊥
    spent true f = absurd (cc f)
    spent false f = absurd (cc f)

    by : (b : Bool) → cond b (granted store) (Conflict row.0) ≡ Full → ⊥
    by true f = spent (nat_lt store.counter last_revision) f
    by false f = absurd (cc f)

pub update-has_room : (store : Datastore) (new : Record) (revision : ℕ) → reply_of store (Update new revision) ≢ Full
update-has_room store new revision = change-has_room store revision (row_of (key_of new) store.rows)

pub delete-has_room : (store : Datastore) (k : Key) (revision : ℕ) → reply_of store (Delete k revision) ≢ Full
delete-has_room store k revision = change-has_room store revision (row_of k store.rows)
