-- Lines after the base, event by event.
use Rattle.std.proofs.Common.{◌≡◌, ℕ, suc, ◌+◌, ◌-◌, ◌<◌, List, [], ◌∷◌, Option, Some, None, refl, sym, ap, ◌∙◌, subst, arith, inl, inr, ◌⊎◌}
use Rattle.std.specs.Prelude.{Result, Ok, Err, replicate}
use Rattle.ipam_model.specs.declared.entry.Fate.TheVariants.{Well}
use Rattle.ipam_model.specs.Course.{Event, Turn}
use Rattle.ipam_answer_text.specs.declared.line.Line.{Line}
use Rattle.ipam_answer_text.specs.declared.line.Line.TheVariants as line
use Rattle.ipam_play.specs.declared.refusal.LineRefusal.TheVariants as refusal
use Rattle.ipam_play.specs.Player.{IsGathering}
use Rattle.ipam_play.specs.Readings.{LineReading}
use Rattle.ipam_play.specs.Script.{Broken, Gathered, Script, events_of, steps_from}
use Rattle.ipam_play.proofs.LineKinds.{place-events}
use Rattle.ipam_play.specs.declared.game.Game.{Game}
use Rattle.ipam_play.specs.declared.halt.Halt.{Halt}
use Rattle.ipam_play.specs.Halting.{IsAt, IsAtOr, IsBefore, IsBeforeOr, IsGoing, IsLate, IsOn, IsOnOr}
use Rattle.ipam_play.specs.Outcome.{line_then}
use Rattle.ipam_play.proofs.Outcomes.{follows_line}
use Rattle.ipam_play.proofs.RunSteps.{script-line, script-place}

pub going_at : (script : Script) (first now : Option (List ℕ)) (game : Game) (rest : Script) → IsGoing script first now game rest → IsAt script first now game rest
going_at script first now game rest g = record { past = g.past; wrote = g.wrote; to_come = inl g.playing }

-- ---- turn by turn

-- so many of the turns were made
pub record HasTurned (script : Script) (first now : Option (List ℕ)) (game : Game) (number slot count done : ℕ) (rest : Script) : Type 0 where
  pub at : IsAt script first now game (line_then number (replicate (count - done) (Turn slot Well)) rest)
  pub going : 0 < done → IsGoing script first now game (line_then number (replicate (count - done) (Turn slot Well)) rest)

pub none_turned : (script : Script) (first now : Option (List ℕ)) (game : Game) (number slot count : ℕ) (rest : Script)
    → IsAt script first now game (line_then number (replicate count (Turn slot Well)) rest) → HasTurned script first now game number slot count 0 rest
none_turned script first now game number slot count rest at = record {
  at = subst (λ (n : ℕ). IsAt script first now game (line_then number (replicate n (Turn slot Well)) rest)) (all-left count) at;
  going = λ some. absurd (omega arith);
}
  where
    all-left : (n : ℕ) → n ≡ n - 0
    all-left n = omega arith

one-left : (number slot count done : ℕ) (rest : Script) → done < count
    → line_then number (replicate (count - done) (Turn slot Well)) rest ≡ line_then number (Turn slot Well ∷ replicate (count - (done + 1)) (Turn slot Well)) rest
one-left number slot count done rest below =
    ap (λ (n : ℕ). line_then number (replicate n (Turn slot Well)) rest) (more (count - done) (count - (done + 1)) (omega arith))
  where
    more : (a b : ℕ) → a ≡ b + 1 → a ≡ suc b
    more a b e = omega arith

pub next_turn : (script : Script) (first now : Option (List ℕ)) (game : Game) (number slot count done : ℕ) (rest : Script) → done < count → HasTurned script first now game number slot count done rest
    → IsAt script first now game (line_then number (Turn slot Well ∷ replicate (count - (done + 1)) (Turn slot Well)) rest)
next_turn script first now game number slot count done rest below h = subst (λ (s : Script). IsAt script first now game s) (one-left number slot count done rest below) h.at

pub has_turned : (script : Script) (first now : Option (List ℕ)) (game : Game) (number slot count done : ℕ) (rest : Script)
    → IsGoing script first now game (line_then number (replicate (count - (done + 1)) (Turn slot Well)) rest) → HasTurned script first now game number slot count (done + 1) rest
has_turned script first now game number slot count done rest g = record { at = going_at script first now game _ g; going = λ some. g }

pub all_turned : (script : Script) (first now : Option (List ℕ)) (game : Game) (number slot count done : ℕ) (rest : Script) → 0 < done → count - done ≡ 0 → HasTurned script first now game number slot count done rest
    → IsGoing script first now game (line_then number [] rest)
all_turned script first now game number slot count done rest some none h =
    subst (λ (n : ℕ). IsGoing script first now game (line_then number (replicate n (Turn slot Well)) rest)) none (h.going some)

-- ---- a line

-- the script from a line after the base, by its events
unfoldable pub steps-by : (number : ℕ) (base : Gathered) (more : List LineReading) → Option (List Event) → Script
steps-by number base more o = elim o [
  | None ↦ record { base = base; steps = []; stops = Broken number refusal.Base }
  | Some events ↦ line_then number events (steps_from (number + 1) base more)
]

pub steps-line : (number : ℕ) (base : Gathered) (asked : Line) (more : List LineReading) → steps_from number base (Ok asked ∷ more) ≡ steps-by number base more (events_of asked)
unfolding steps_from steps-by
steps-line number base asked more = refl

pub steps-base : (number : ℕ) (base : Gathered) (more : List LineReading) → (steps_from number base more).base ≡ base
unfolding steps_from steps-by
steps-base number base [] = refl
steps-base number base (Err why ∷ more) = refl
steps-base number base (Ok asked ∷ more) = ap (λ (s : Script). s.base) (steps-line number base asked more) ∙ by (events_of asked) (steps-base (number + 1) base more)
  where
    by : (o : Option (List Event)) → (steps_from (number + 1) base more).base ≡ base → (steps-by number base more o).base ≡ base
    by None rest = refl
    by (Some events) rest = rest

-- a line with events
pub line_at : (script : Script) (first now : Option (List ℕ)) (game : Game) (number : ℕ) (asked : Line) (events : List Event) (more : List LineReading) → events_of asked ≡ Some events
    → IsOn script first now game number (Ok asked ∷ more) → IsAt script first now game (line_then number events (steps_from (number + 1) script.base more))
unfolding steps-by script-place
line_at script first now game number asked events more is (inl before) =
    let on = before.gathering in
    let whole : script ≡ line_then number events (steps_from (number + 1) on.base more) =
    on.is_script ∙ script-line number on.base asked more ∙ ap (script-place number on.base more) (place-events on.base asked events is) in
    let same : script.base ≡ on.base = ap (λ (s : Script). s.base) whole ∙ steps-base (number + 1) on.base more in
    record {
      past = [];
      wrote = before.wrote;
      to_come = inr (record {
        gathering = subst (λ (b : Gathered). IsGathering game.player b) (sym same) on.gathering;
        nothing = refl;
        is_whole = ap (λ (b : Gathered). line_then number events (steps_from (number + 1) b more)) same ∙ sym whole;
      });
    }
line_at script first now game number asked events more is (inr going) =
    going_at script first now game _
    (subst (λ (s : Script). IsGoing script first now game s) (steps-line number script.base asked more ∙ ap (steps-by number script.base more) is) going)

-- after its events
pub line_on : {T : Type 0} (result : Result T Halt) (script : Script) (first now : Option (List ℕ)) (game : Game) (number : ℕ) (more : List LineReading)
    → IsAtOr result script first now game number (line_then number [] (steps_from (number + 1) script.base more)) → IsOnOr result script first now game number more
line_on (Ok done) script first now game number more g = inr (record {
  past = g.past;
  wrote = g.wrote;
  playing = record {
    store = g.playing.store;
    playing = g.playing.playing;
    none_kept = g.playing.none_kept;
    follows = follows_line script g.playing.store g.past number (steps_from (number + 1) script.base more) g.playing.follows;
  };
})
line_on (Err why) script first now game number more h = h

-- a line of the base
pub base_on : {T : Type 0} (result : Result T Halt) (script : Script) (first now after : Option (List ℕ)) (old new : Game) (number : ℕ) (asked : Line) (more : List LineReading) → events_of asked ≡ None
    → (IsBefore script first now old number (Ok asked ∷ more) → IsBeforeOr result script first after new number more)
    → ((rest : Script) → rest.steps ≡ [] → rest.stops ≡ Broken number refusal.Base → IsGoing script first now old rest → IsLate result script first after new number)
    → IsOn script first now old number (Ok asked ∷ more) → IsOnOr result script first after new number more
unfolding steps-by
base_on result script first now after old new number asked more none gathered late (inl before) = by result (gathered before)
  where
    by : {T : Type 0} (r : Result T Halt) → IsBeforeOr r script first after new number more → IsOnOr r script first after new number more
    by (Ok done) h = inl h
    by (Err why) h = h
base_on result script first now after old new number asked more none gathered late (inr going) =
    let rest = steps-by number script.base more None in
    let at = subst (λ (s : Script). IsGoing script first now old s) (steps-line number script.base asked more ∙ ap (steps-by number script.base more) none) going in
    by result (late rest refl refl at)
  where
    by : {T : Type 0} (r : Result T Halt) → IsLate r script first after new number → IsOnOr r script first after new number more
    by (Ok done) h = absurd h
    by (Err why) h = h

-- a line that asks for no turns is of the base, or has one event
pub one_event : (asked : Line) → ((slot count : ℕ) → asked ≡ line.Turn slot count → ⊥) → (events_of asked ≡ None) ⊎ ((event : Event) × (events_of asked ≡ Some (event ∷ [])))
one_event (line.Row row) other = inl refl
one_event (line.Counter counter) other = inl refl
one_event (line.Begin slot request) other = inr (_, refl)
one_event (line.Turn slot count) other = absurd (other slot count refl)
one_event (line.Fail slot) other = inr (_, refl)
one_event (line.Lose slot) other = inr (_, refl)
one_event (line.Feed slot at live) other = inr (_, refl)
one_event (line.Stop slot) other = inr (_, refl)
one_event line.Restart other = inr (_, refl)

-- what a game promises of a line of one event, or of the base
pub record StepsLine {T : Type 0} (result : Result T Halt) (old new : Game) (now after : Option (List ℕ)) (asked : Line) : Type 0 where
  pub event : (script : Script) (first : Option (List ℕ)) (number : ℕ) (event : Event) (events : List Event) (rest : Script) → events_of asked ≡ Some (event ∷ [])
      → IsAt script first now old (line_then number (event ∷ events) rest) → IsAtOr result script first after new number (line_then number events rest)
  pub base : (script : Script) (first : Option (List ℕ)) (number : ℕ) (more : List LineReading) → events_of asked ≡ None
      → IsBefore script first now old number (Ok asked ∷ more) → IsBeforeOr result script first after new number more
  pub late : (script : Script) (first : Option (List ℕ)) (number : ℕ) (rest : Script) → events_of asked ≡ None → rest.steps ≡ [] → rest.stops ≡ Broken number refusal.Base
      → IsGoing script first now old rest → IsLate result script first after new number

pub step_on : {T : Type 0} (result : Result T Halt) (now after : Option (List ℕ)) (old new : Game) (asked : Line) → ((slot count : ℕ) → asked ≡ line.Turn slot count → ⊥) → StepsLine result old new now after asked
    → (script : Script) (first : Option (List ℕ)) (number : ℕ) (more : List LineReading) → IsOn script first now old number (Ok asked ∷ more) → IsOnOr result script first after new number more
step_on result now after old new asked other s script first number more on = by (one_event asked other)
  where
    by : (events_of asked ≡ None) ⊎ ((event : Event) × (events_of asked ≡ Some (event ∷ []))) → IsOnOr result script first after new number more
    by (inl none) = base_on result script first now after old new number asked more none (s.base script first number more none) (λ rest last stops. s.late script first number rest none last stops) on
    by (inr (event, is)) =
        line_on result script first after new number more
        (s.event script first number event [] (steps_from (number + 1) script.base more) is (line_at script first now old number asked (event ∷ []) more is on))
