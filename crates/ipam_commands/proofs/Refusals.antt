-- The removal of a reservation has one refusal alone: that no reservation has the name.
use Rattle.std.proofs.Common.{◌≡◌, ℕ, zero, suc, ◌+◌, ◌-◌, Bool, true, false, List, [], refl}
use Rattle.std.specs.Prelude.{not, if◌then◌else◌}
use Rattle.std.specs.List.{list_any, filter}
use Rattle.ipam_records.specs.declared.record.Record.{Record}
use Rattle.ipam_records.specs.declared.record.Record.TheVariants as record_of
use Rattle.ipam_records.specs.Datastore.{Datastore, reply_of}
use Rattle.ipam_records.specs.Said.{Said, Found, Missing, Listed, Can, Exists, Conflict, Full, Spent}
use Rattle.ipam_records.specs.Word.{Word, Ends, Asks, Waits, bound}
use Rattle.ipam_model.specs.declared.answer.Answer.{Answer}
use Rattle.ipam_model.specs.declared.outcome.AdminAnswer.{AdminAnswer}
use Rattle.ipam_model.specs.declared.outcome.AdminAnswer.TheVariants as admin
use Rattle.ipam_model.specs.declared.part.Left.{Left}
use Rattle.ipam_model.specs.declared.part.Outcome.{Outcome}
use Rattle.ipam_model.specs.declared.part.Outcome.TheVariants.{Went, Stops}
use Rattle.ipam_model.specs.declared.part.Stop.TheVariants.{OutOfTries, OutOfClaims, NoRoom, CountAtLimit, NoRevisions}
use Rattle.ipam_model.specs.declared.request.Admin.TheVariants as change
use Rattle.ipam_model.specs.declared.request.Request.TheVariants as request
use Rattle.ipam_model.specs.Admin.{Becomes, Refuses, admin_once, admin_stops, admin_word, admin_write, is_named}
use Rattle.ipam_model.specs.Alone.{alone, alone_over}
use Rattle.ipam_model.specs.History.{Base}
use Rattle.ipam_model.specs.Reads.{reservations_said}
use Rattle.ipam_model.specs.Requests.{told_as, word_of}
use Rattle.ipam_model.specs.Step.{Part, all_left, answer_of, goes, left_of, on_write, stops, tries, with_retries}
use Rattle.ipam_model.specs.Told.{of_admin}
use Rattle.ipam_laws.proofs.Lift.{behind}
use Rattle.ipam_commands.specs.Changing.{IsNotThere}

-- ---- a word, whatever is said to it

-- each end of the word is such an answer
abbrev Ever : {A : Type 0} → (A → Type 0) → Word A → Type 0
Ever Q (Ends answer) = Q answer
Ever Q (Asks label asked next) = (moment : ℕ) (said : Said) → Ever Q (next moment said)
Ever Q (Waits next) = (live : List (List ℕ)) → Ever Q (next live)

ever-bound : {A B : Type 0} → (R : A → Type 0) (Q : B → Type 0) (follows : A → Word B) (w : Word A) → Ever R w → ((one : A) → R one → Ever Q (follows one)) → Ever Q (bound w follows)
ever-bound R Q follows (Ends answer) h k = k answer h
ever-bound R Q follows (Asks label asked next) h k = λ moment said. ever-bound R Q follows (next moment said) (h moment said) k
ever-bound R Q follows (Waits next) h k = λ live. ever-bound R Q follows (next live) (h live) k

-- so is the one that it comes to alone
ever-alone : {A : Type 0} → (Q : A → Type 0) (w : Word A) (store : Datastore) (moment : ℕ) (live : List (List ℕ)) → Ever Q w → Q (alone store moment live w).0
ever-alone Q (Ends answer) store moment live h = h
ever-alone Q (Asks label asked next) store moment live h =
    ever-alone Q (next moment (reply_of store asked)) (behind store asked) (moment + 1) live (h moment (reply_of store asked))
ever-alone Q (Waits next) store moment live h = ever-alone Q (next live) store (moment + 1) live (h live)

-- ---- the removal

module _ (name : List ℕ) where
  abbrev OwnRefusal : AdminAnswer → Type 0
  OwnRefusal (admin.Refused number about) = (number ≡ 8) × (about ≡ name)
  OwnRefusal _ = Unit {0}

  abbrev OfPart : Outcome AdminAnswer → Type 0
  OfPart (Went left value) = OwnRefusal value
  OfPart (Stops left why) = Unit {0}

  replied : (reply : Said) (again : Part AdminAnswer) (left : Left) → Ever OfPart again → Ever OfPart (on_write reply left (λ revision. goes left (admin.Done revision)) again)
  replied (Can revision) again left h = tt
  replied Missing again left h = h
  replied (Exists revision) again left h = h
  replied (Conflict revision) again left h = h
  replied Full again left h = tt
  replied Spent again left h = tt
  replied (Found revision found) again left h = h
  replied (Listed rows) again left h = h

  written : (there : Bool) (new : Record) (again : Part AdminAnswer) (left : Left) (said : Said) → Ever OfPart again → Ever OfPart (admin_write again left said (if there then Becomes new else Refuses 8 name))
  written true new again left said h = λ moment reply. replied reply again left h
  written false new again left said h = (refl, refl)

  once : (again : Part AdminAnswer) (left : Left) → Ever OfPart again → Ever OfPart (admin_once (change.Unreserve name) again left)
  once again left h = λ moment said.
      written (list_any (is_named name) (reservations_said said)) (record_of.Reservations (filter (λ r. not (is_named name r)) (reservations_said said))) again left said h

  tried : (races claims : ℕ) → Ever OfPart (tries (admin_once (change.Unreserve name)) races claims)
  unfolding tries
  tried zero claims = once (stops (left_of zero claims) OutOfTries) (left_of zero claims) tt
  tried (suc races) claims = once (tries (admin_once (change.Unreserve name)) races claims) (left_of (suc races) claims) (tried races claims)

  ends : (outcome : Outcome AdminAnswer) → OfPart outcome → OwnRefusal (answer_of admin_stops outcome)
  ends (Went left value) h = h
  ends (Stops left OutOfTries) h = tt
  ends (Stops left OutOfClaims) h = tt
  ends (Stops left NoRoom) h = tt
  ends (Stops left (CountAtLimit moment)) h = tt
  ends (Stops left NoRevisions) h = tt

  removed : Ever OwnRefusal (admin_word (change.Unreserve name))
  removed =
      ever-bound OfPart OwnRefusal (λ outcome. Ends (answer_of admin_stops outcome)) (with_retries (admin_once (change.Unreserve name)) all_left)
      (tried all_left.races all_left.claims) ends

  told-so : (one : AdminAnswer) → OwnRefusal one → IsNotThere name (of_admin one)
  told-so (admin.Done revision) h = tt
  told-so (admin.Refused number about) h = h
  told-so (admin.Again lost) h = tt
  told-so admin.Full h = tt
  told-so admin.Spent h = tt

  pub one_refusal : (base : Base) → IsNotThere name (alone_over base (request.Admin (change.Unreserve name))).0
  unfolding word_of
  one_refusal base =
      ever-alone (IsNotThere name) (told_as of_admin (admin_word (change.Unreserve name))) base.store (base.first + 1) []
      (ever-bound OwnRefusal (IsNotThere name) (λ one. Ends (of_admin one)) (admin_word (change.Unreserve name)) removed told-so)
