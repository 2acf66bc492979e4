-- What a line does to a game.
use Rattle.std.proofs.Common.{◌≡◌, ℕ, ◌+◌, List, [], ◌∷◌, ◌++◌, Option, Some, None, refl, sym, ap, ◌∙◌, subst, inl, inr, ◌⊎◌}
use Rattle.std.specs.Prelude.{Result, Ok, Err, OnOk, IfErr}
use Rattle.ipam_io.specs.Streams.{AppendsPrefix}
use Rattle.ipam_records.specs.Datastore.{Datastore}
use Rattle.ipam_model.specs.declared.entry.Entry.{Entry}
use Rattle.ipam_play.specs.declared.player.Player.{Player}
use Rattle.ipam_play.specs.Output.{journal_text}
use Rattle.ipam_play.specs.Player.{IsGatheredLine, IsGathering, IsPlayedLine, IsPlaying, cluster_of, journal_of}
use Rattle.ipam_play.specs.Readings.{LineReading}
use Rattle.ipam_play.specs.Script.{Broken, Gathered, Script, events_of, place_of}
use Rattle.ipam_play.specs.declared.fault.PlayFault.{PlayFault}
use Rattle.ipam_play.specs.declared.fault.PlayFault.TheVariants as fault
use Rattle.ipam_play.specs.declared.refusal.LineRefusal.TheVariants as refusal
use Rattle.ipam_answer_text.specs.declared.line.Line.{Line}
use Rattle.ipam_model.specs.Course.{Event}
use Rattle.ipam_play.specs.declared.game.Game.{Game}
use Rattle.ipam_play.specs.declared.halt.Halt.{Halt}
use Rattle.ipam_play.specs.declared.halt.Halt.TheVariants as halt
use Rattle.ipam_play.specs.Halting.{CountsWrites, IsAt, IsAtOr, IsBefore, IsBeforeOr, IsGoing, IsHalted, halt_of, held_by}
use Rattle.ipam_play.specs.Outcome.{Follows, IsGatheringOn, IsToCome, line_then, outcome}
use Rattle.ipam_play.specs.Writing.{IsFront, OfFront, WritesFront, Wrote, read_fault_text}
use Rattle.ipam_play.proofs.Endings.{front_stays, part-lines, writes_middle}
use Rattle.ipam_play.proofs.Outcomes.{played}
use Rattle.ipam_play.proofs.RunSteps.{IsEnded, IsStepped, base_steps, late_ends, steps}

pub follows_front : (script : Script) (store : Datastore) (past : List Entry) (rest : Script) → Follows script store past rest → IsFront script past
follows_front script store past rest h = inr (record {
  more = (outcome (cluster_of store past) rest).entries;
  ending = (outcome (cluster_of store past) rest).ending;
  is_played = played script store past rest h;
})

pub to_come_front : (script : Script) (player : Player) (past : List Entry) (rest : Script) → IsToCome script player past rest → IsFront script past
to_come_front script player past rest (inl on) = follows_front script on.store past rest on.follows
to_come_front script player past rest (inr un) = inl un.nothing

-- the script ends where it is not played on
pub halts : (why : Halt) (script : Script) (first now : Option (List ℕ)) (game : Game) (past : List Entry) (number : ℕ) → Wrote first now (held_by game) past → IsFront script past → IsEnded why script past number
    → IsHalted why script first now game number
halts halt.Memory script first now game past number w front e = front_stays script first now (held_by game) past w front
halts (halt.Refused why) script first now game past number w front e = (past, (w, e))
halts (halt.NotOpened rule about) script first now game past number w front e = (past, (w, e))
halts halt.Write script first now game past number w front e = absurd e

-- ---- the journal is written

-- what a game promises that writes the journal of its player
pub record WritesJournal {T : Type 0} (result : Result T Halt) (old new : Game) (now after : Option (List ℕ)) : Type 0 where
  pub wrote : (first : Option (List ℕ)) (past : List Entry) → Wrote first now (held_by old) past → OnOk result (Wrote first after (held_by new) (past ++ journal_of old.player))
  pub part : result ≡ Err halt.Write → AppendsPrefix now after (held_by old ++ journal_text (journal_of old.player))
  pub no_memory : result ≡ Err halt.Memory → after ≡ now
  pub causes : IfErr result (λ why. (why ≡ halt.Write) ⊎ (why ≡ halt.Memory))
  pub forgotten : OnOk result (journal_of new.player ≡ [])
  pub gathering : (base : Gathered) → IsGathering old.player base → OnOk result (IsGathering new.player base)
  pub playing : (base : Gathered) (store : Datastore) (past : List Entry) → IsPlaying old.player base store past → OnOk result (IsPlaying new.player base store (past ++ journal_of old.player))

-- after a line that made entries
pub went_on : {T : Type 0} (result : Result T Halt) (script : Script) (first now after : Option (List ℕ)) (old new : Game) (past : List Entry) (number : ℕ) (rest : Script)
    → Wrote first now (held_by old) past → IsFront script past → IsStepped script old.player past rest → WritesJournal result old new now after → IsAtOr result script first after new number rest
went_on (Ok done) script first now after old new past number rest w front stepped j = record {
  past = past ++ journal_of old.player;
  wrote = j.wrote first past w;
  playing = record {
    store = stepped.store;
    playing = j.playing script.base stepped.store past stepped.playing;
    none_kept = j.forgotten;
    follows = stepped.follows;
  };
}
went_on (Err why) script first now after old new past number rest w front stepped j = by why j.causes refl
  where
    by : (h : Halt) → (h ≡ halt.Write) ⊎ (h ≡ halt.Memory) → why ≡ h → IsHalted h script first after new number
    by h (inl write) is = subst (λ (k : Halt). IsHalted k script first after new number) (sym write)
        (writes_middle script first now after (held_by old) past (journal_of old.player) (outcome (cluster_of stepped.store (past ++ journal_of old.player)) rest).entries (outcome (cluster_of stepped.store (past ++ journal_of old.player)) rest).ending
        w (played script stepped.store (past ++ journal_of old.player) rest stepped.follows) (j.part (ap Err (is ∙ write))))
    by h (inr memory) is = subst (λ (k : Halt). IsHalted k script first after new number) (sym memory)
        (subst (λ (k : Option (List ℕ)). WritesFront script first k []) (sym (j.no_memory (ap Err (is ∙ memory)))) (front_stays script first now (held_by old) past w front))

journal-none : journal_text [] ≡ []
unfolding journal_text
journal-none = refl

-- after a line of the base
pub gathered_on : {T : Type 0} (result : Result T Halt) (script : Script) (first now after : Option (List ℕ)) (old new : Game) (number : ℕ) (more : List LineReading)
    → Wrote first now (held_by old) [] → IsGatheringOn script old.player (number + 1) more → WritesJournal result old new now after → IsBeforeOr result script first after new number more
gathered_on (Ok done) script first now after old new number more w on j = record {
  wrote = subst (λ (l : List Entry). Wrote first after (held_by new) l) on.gathering.nothing (j.wrote first [] w);
  gathering = record { base = on.base; gathering = j.gathering on.base on.gathering; is_script = on.is_script };
}
gathered_on (Err why) script first now after old new number more w on j = by why j.causes refl
  where
    by : (h : Halt) → (h ≡ halt.Write) ⊎ (h ≡ halt.Memory) → why ≡ h → IsHalted h script first after new number
    by h (inl write) is = subst (λ (k : Halt). IsHalted k script first after new number) (sym write) (record {
      text = journal_text [] ++ read_fault_text;
      is_text = OfFront [] (inl refl);
      written = part-lines first now after (held_by old) [] [] read_fault_text w
          (subst (λ (l : List ℕ). AppendsPrefix now after (held_by old ++ l)) (ap journal_text on.gathering.nothing ∙ journal-none) (j.part (ap Err (is ∙ write))));
    })
    by h (inr memory) is = subst (λ (k : Halt). IsHalted k script first after new number) (sym memory)
        (subst (λ (k : Option (List ℕ)). WritesFront script first k []) (sym (j.no_memory (ap Err (is ∙ memory)))) (front_stays script first now (held_by old) [] w (inl refl)))

-- ---- a line is played

-- what a player promises of a line
pub record PlaysLine {T : Type 0} (result : Result T PlayFault) (old new : Player) (asked : Line) : Type 0 where
  pub gathered : (base : Gathered) → IsGathering old base → IsGatheredLine result new base (place_of base asked)
  pub played : (base : Gathered) (store : Datastore) (past : List Entry) → IsPlaying old base store past → IsPlayedLine result old new store past (events_of asked)
  pub playing : (base : Gathered) (store : Datastore) (past : List Entry) → IsPlaying old base store past → IsPlaying new base store past

still_wrote : (first now : Option (List ℕ)) (old new : Game) (past : List Entry) → held_by new ≡ held_by old → Wrote first now (held_by old) past → Wrote first now (held_by new) past
still_wrote first now old new past held w = subst (λ (l : List ℕ). Wrote first now l past) (sym held) w

pub event_went : {T U : Type 0} (done : T) (result : Result U Halt) (first now after : Option (List ℕ)) (old mid new : Game) (asked : Line) → held_by mid ≡ held_by old → PlaysLine (Ok done) old.player mid.player asked → WritesJournal result mid new now after
    → (script : Script) (number : ℕ) (event : Event) (events : List Event) (rest : Script) → events_of asked ≡ Some (event ∷ [])
    → IsAt script first now old (line_then number (event ∷ events) rest) → IsAtOr result script first after new number (line_then number events rest)
event_went done result first now after old mid new asked held p j script number event events rest is at =
    went_on result script first now after mid new at.past number (line_then number events rest)
    (still_wrote first now old mid at.past held at.wrote)
    (to_come_front script old.player at.past (line_then number (event ∷ events) rest) at.to_come)
    (steps (Ok done) script old.player mid.player asked at.past number event events rest is p.gathered p.played p.playing at.to_come)
    j

pub event_halts : {T : Type 0} (told : PlayFault) (first now : Option (List ℕ)) (old new : Game) (asked : Line) → held_by new ≡ held_by old → PlaysLine {T = T} (Err told) old.player new.player asked
    → (script : Script) (number : ℕ) (event : Event) (events : List Event) (rest : Script) → events_of asked ≡ Some (event ∷ [])
    → IsAt script first now old (line_then number (event ∷ events) rest) → IsHalted (halt_of told) script first now new number
event_halts {T} told first now old new asked held p script number event events rest is at =
    halts (halt_of told) script first now new at.past number
    (still_wrote first now old new at.past held at.wrote)
    (to_come_front script old.player at.past (line_then number (event ∷ events) rest) at.to_come)
    (steps {T = T} (Err told) script old.player new.player asked at.past number event events rest is p.gathered p.played p.playing at.to_come)

pub base_went : {T U : Type 0} (done : T) (result : Result U Halt) (first now after : Option (List ℕ)) (old mid new : Game) (asked : Line) → held_by mid ≡ held_by old → PlaysLine (Ok done) old.player mid.player asked → WritesJournal result mid new now after
    → (script : Script) (number : ℕ) (more : List LineReading) → events_of asked ≡ None
    → IsBefore script first now old number (Ok asked ∷ more) → IsBeforeOr result script first after new number more
base_went done result first now after old mid new asked held p j script number more none before =
    gathered_on result script first now after mid new number more
    (still_wrote first now old mid [] held before.wrote)
    (base_steps (Ok done) script old.player mid.player asked number more none p.gathered before.gathering)
    j

pub base_halts : {T : Type 0} (told : PlayFault) (first now : Option (List ℕ)) (old new : Game) (asked : Line) → held_by new ≡ held_by old → PlaysLine {T = T} (Err told) old.player new.player asked
    → (script : Script) (number : ℕ) (more : List LineReading) → events_of asked ≡ None
    → IsBefore script first now old number (Ok asked ∷ more) → IsHalted (halt_of told) script first now new number
base_halts {T} told first now old new asked held p script number more none before =
    halts (halt_of told) script first now new [] number
    (still_wrote first now old new [] held before.wrote)
    (inl refl)
    (base_steps {T = T} (Err told) script old.player new.player asked number more none p.gathered before.gathering)

pub never_late : {T : Type 0} (done : T) (first now : Option (List ℕ)) (old : Game) (new : Player) (asked : Line) → PlaysLine (Ok done) old.player new asked
    → (script : Script) (number : ℕ) (rest : Script) → events_of asked ≡ None → rest.steps ≡ [] → rest.stops ≡ Broken number refusal.Base → IsGoing script first now old rest → ⊥
never_late done first now old new asked p script number rest none last stops going =
    let late = late_ends (Ok done) script old.player new asked going.past number rest none p.played going.playing last stops in
    cc late.1

pub late_halts : {T : Type 0} (told : PlayFault) (first now : Option (List ℕ)) (old new : Game) (asked : Line) → held_by new ≡ held_by old → PlaysLine {T = T} (Err told) old.player new.player asked
    → (script : Script) (number : ℕ) (rest : Script) → events_of asked ≡ None → rest.steps ≡ [] → rest.stops ≡ Broken number refusal.Base
    → IsGoing script first now old rest → IsHalted (halt_of told) script first now new number
late_halts {T} told first now old new asked held p script number rest none last stops going =
    let late = late_ends {T = T} (Err told) script old.player new.player asked going.past number rest none p.played going.playing last stops in
    let same : late.0 ≡ told = cc late.1 in
    halts (halt_of told) script first now new going.past number
    (still_wrote first now old new going.past held going.wrote)
    (follows_front script going.playing.store going.past rest going.playing.follows)
    (subst (λ (t : PlayFault). IsEnded (halt_of t) script going.past number) same late.2)

pub plays_known : {T : Type 0} {stepped result : Result T PlayFault} (old new : Player) (asked : Line) → stepped ≡ result → PlaysLine stepped old new asked → PlaysLine result old new asked
plays_known old new asked is p = subst (λ r. PlaysLine r old new asked) is p

-- a player's fault is no failed write
pub counts_halt : (T : Type 0) (told : PlayFault) (n : ℕ) → CountsWrites {T = T} (Err (halt_of told)) n n
counts_halt T fault.Base n = refl
counts_halt T fault.Busy n = refl
counts_halt T fault.Idle n = refl
counts_halt T fault.Waiting n = refl
counts_halt T fault.NotWaiting n = refl
counts_halt T fault.TooSoon n = refl
counts_halt T fault.Worn n = refl
counts_halt T (fault.Open rule about) n = refl
counts_halt T fault.Memory n = refl
