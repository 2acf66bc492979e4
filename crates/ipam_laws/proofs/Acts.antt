-- Words of which each call is such as it may be by the trail that led to it.
use Rattle.std.proofs.Common.{ℕ, List, ◌∷◌}
use Rattle.ipam_records.specs.declared.call.Call.{Call}
use Rattle.ipam_records.specs.Datastore.{Datastore, reply_of}
use Rattle.ipam_records.specs.Label.{CallLabel}
use Rattle.ipam_records.specs.Word.{Word, Ends, Asks, Waits, bound}
use Rattle.ipam_laws.proofs.Trails.{AgreesAll, Did, Got, Step, Trail}

-- ---- longer trails

-- the trail, and what came since
pub data Since (trail : Trail) : Trail → Type 0 where
  Same : Since trail trail
  Later : (step : Step) (longer : Trail) → Since trail longer → Since trail (step ∷ longer)

pub since-step : (step : Step) (trail longer : Trail) → Since (step ∷ trail) longer → Since trail longer
since-step step trail longer Same = Later step trail Same
since-step step trail longer (Later next rest h) = Later next rest (since-step step trail rest h)

pub since-since : (one two three : Trail) → Since one two → Since two three → Since one three
since-since one two three h Same = h
since-since one two three h (Later step rest k) = Later step rest (since-since one two rest h k)

pub since-agrees : (store : Datastore) (trail longer : Trail) → Since trail longer → AgreesAll store longer → AgreesAll store trail
unfolding AgreesAll
since-agrees store trail longer Same h = h
since-agrees store trail longer (Later (Did moment old asked) rest k) h = since-agrees store trail rest k h.1
since-agrees store trail longer (Later (Got moment at live) rest k) h = since-agrees store trail rest k h

-- ---- words that act so

module _ (May : Trail → Datastore → CallLabel → Call → Type 0) where
  -- Whatever stores answer the calls, each call is such as it may be, and each answer has this of the
  -- trail that led to it.
  abbrev pub Acts : {A : Type 0} → (Trail → A → Type 0) → Trail → Word A → Type 0
  Acts Q trail (Ends answer) = Q trail answer
  Acts Q trail (Asks label asked next) =
      (moment : ℕ) (store : Datastore) → AgreesAll store trail
      → May trail store label asked × Acts Q (Did moment store asked ∷ trail) (next moment (reply_of store asked))
  Acts Q trail (Waits next) =
      (moment at : ℕ) (live : List (List ℕ)) → Acts Q (Got moment at live ∷ trail) (next live)

  pub Acts-bound : {A B : Type 0} → (R : Trail → A → Type 0) (Q : Trail → B → Type 0) (follows : A → Word B) (w : Word A) (trail : Trail) → Acts R trail w → ((longer : Trail) (a : A) → Since trail longer → R longer a → Acts Q longer (follows a)) → Acts Q trail (bound w follows)
  Acts-bound R Q follows (Ends answer) trail h k = k trail answer Same h
  Acts-bound R Q follows (Asks label asked next) trail h k = λ moment store agrees.
      let here = h moment store agrees in (
        here.0,
        Acts-bound R Q follows (next moment (reply_of store asked)) (Did moment store asked ∷ trail) here.1
            (λ longer a since r. k longer a (since-step (Did moment store asked) trail longer since) r),
      )
  Acts-bound R Q follows (Waits next) trail h k = λ moment at live.
      Acts-bound R Q follows (next live) (Got moment at live ∷ trail) (h moment at live)
      (λ longer a since r. k longer a (since-step (Got moment at live) trail longer since) r)
