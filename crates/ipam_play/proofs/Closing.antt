-- A script is at its end, or is not played on.
use Rattle.std.proofs.Common.{◌≡◌, ◌≢◌, ℕ, List, [], ◌∷◌, ◌++◌, Option, refl, sym, ap, ◌∙◌, subst, append_assoc, append-nil, inl, inr, ◌⊎◌}
use Rattle.std.specs.Prelude.{Result, Ok, Err, OnErr, OnOk, IsOk, codes, decimal}
use Rattle.std.specs.Io.KnownBytes.{append_known}
use Rattle.ipam_io.specs.Counts.{Rose}
use Rattle.ipam_io.specs.Streams.{AppendsPrefix}
use Rattle.ipam_records.specs.Datastore.{Datastore}
use Rattle.ipam_model.specs.declared.entry.Entry.{Entry}
use Rattle.ipam_play.specs.declared.fault.PlayFault.{PlayFault}
use Rattle.ipam_play.specs.declared.fault.PlayFault.TheVariants as fault
use Rattle.ipam_play.specs.declared.player.Player.{Player}
use Rattle.ipam_play.specs.declared.refusal.LineRefusal.{LineRefusal}
use Rattle.ipam_play.specs.Output.{play_ending_text, line_refusal_text}
use Rattle.ipam_play.specs.Played.{BaseRefused, IsPlayed, LineRefused, NotOpened, RefusedAtOnce, Whole, ending_of_stops}
use Rattle.ipam_play.specs.Player.{IsFinished, IsGathering, IsNotOpened, IsPlaying}
use Rattle.ipam_play.specs.Readings.{LineReading}
use Rattle.ipam_play.specs.Script.{Broken, Ended, Gathered, Script, script_from, steps_from, stopped}
use Rattle.ipam_play.specs.declared.end.PlayEnd.{PlayEnd}
use Rattle.ipam_play.specs.declared.end.PlayEnd.TheVariants as end
use Rattle.ipam_play.specs.declared.game.Game.{Game}
use Rattle.ipam_play.specs.declared.halt.Halt.{Halt}
use Rattle.ipam_play.specs.declared.halt.Halt.TheVariants as halt
use Rattle.ipam_play.specs.Halting.{CountsWrites, IsHalted, IsOn, halt_of, held_by}
use Rattle.ipam_play.specs.Writing.{CountsEnd, HasWrittenJournal, IsFront, IsRefusedBase, IsRefusedLine, IsSoFar, IsWhole, Opened, Unopened, Wrote, WritesFront, WroteSoFar, ended_so, read_fault_text}
use Rattle.ipam_play.proofs.Endings.{all-lines, front_stays, writes_all, writes_fault, writes_fault_part, writes_part}
use Rattle.ipam_play.proofs.Games.{follows_front}
use Rattle.ipam_play.proofs.Outcomes.{follows_end, played_stopped}

-- ---- the last line is written

pub line_ends : {T E : Type 0} (written : Result T E) (script : Script) (first now after : Option (List ℕ)) (held : List ℕ) (past : List Entry) (number : ℕ) (why : LineRefusal) → Wrote first now held past → IsPlayed script past (LineRefused number why)
    → OnOk written (after ≡ append_known now (held ++ play_ending_text (LineRefused number why))) → OnErr written (AppendsPrefix now after (held ++ play_ending_text (LineRefused number why)))
    → HasWrittenJournal (ended_so written end.LineRefused) script first after
line_ends (Ok done) script first now after held past number why w played wrote part =
    writes_all script first now after held past (LineRefused number why) IsRefusedLine w played (number, (why, refl)) wrote
line_ends (Err e) script first now after held past number why w played wrote part =
    writes_part script first now after held past (LineRefused number why) w played part

pub rule_ends : {T E : Type 0} (written : Result T E) (script : Script) (first now after : Option (List ℕ)) (held : List ℕ) (past : List Entry) (rule : ℕ) (about : List ℕ) → Wrote first now held past → IsPlayed script past (NotOpened rule about)
    → OnOk written (after ≡ append_known now (held ++ play_ending_text (NotOpened rule about))) → OnErr written (AppendsPrefix now after (held ++ play_ending_text (NotOpened rule about)))
    → HasWrittenJournal (ended_so written end.NotOpened) script first after
rule_ends (Ok done) script first now after held past rule about w played wrote part =
    writes_all script first now after held past (NotOpened rule about) IsRefusedBase w played (rule, (about, refl)) wrote
rule_ends (Err e) script first now after held past rule about w played wrote part =
    writes_part script first now after held past (NotOpened rule about) w played part

pub whole_ends : {T E : Type 0} (written : Result T E) (script : Script) (first now after : Option (List ℕ)) (held : List ℕ) (past : List Entry) → Wrote first now held past → IsPlayed script past Whole
    → OnOk written (after ≡ append_known now (held ++ [])) → OnErr written (AppendsPrefix now after (held ++ []))
    → HasWrittenJournal (ended_so written end.Done) script first after
whole_ends (Ok done) script first now after held past w played wrote part = writes_all script first now after held past Whole IsWhole w played refl wrote
whole_ends (Err e) script first now after held past w played wrote part = writes_part script first now after held past Whole w played part

-- ---- where a game stands

-- the entries so far, and what follows
pub record Stands (script : Script) (first now : Option (List ℕ)) (held : List ℕ) : Type 0 where
  pub past : List Entry
  pub wrote : Wrote first now held past
  pub is_front : IsFront script past

pub on_stands : (script : Script) (first now : Option (List ℕ)) (game : Game) (number : ℕ) (more : List LineReading) → IsOn script first now game number more → Stands script first now (held_by game)
on_stands script first now game number more (inl before) = record { past = []; wrote = before.wrote; is_front = inl refl }
on_stands script first now game number more (inr going) = record {
  past = going.past;
  wrote = going.wrote;
  is_front = follows_front script going.playing.store going.past (steps_from number script.base more) going.playing.follows;
}

pub on_front : (script : Script) (first now : Option (List ℕ)) (game : Game) (number : ℕ) (more : List LineReading) → IsOn script first now game number more → WritesFront script first now []
on_front script first now game number more on =
    let s = on_stands script first now game number more on in
    front_stays script first now (held_by game) s.past s.wrote s.is_front

pub fault_ends : {T E : Type 0} (written : Result T E) (script : Script) (first now after : Option (List ℕ)) (game : Game) (number : ℕ) (more : List LineReading) → IsOn script first now game number more
    → OnOk written (after ≡ append_known now (held_by game ++ read_fault_text)) → OnErr written (AppendsPrefix now after (held_by game ++ read_fault_text))
    → HasWrittenJournal (ended_so written end.ReadFault) script first after
fault_ends (Ok done) script first now after game number more on wrote part =
    let s = on_stands script first now game number more on in
    writes_fault script first now after (held_by game) s.past s.wrote s.is_front wrote
fault_ends (Err e) script first now after game number more on wrote part =
    let s = on_stands script first now game number more on in
    writes_fault_part script first now after (held_by game) s.past s.wrote s.is_front part

-- the entries so far, where no line is to come
pub record StandsSoFar (script : Script) (first now : Option (List ℕ)) (held : List ℕ) : Type 0 where
  pub past : List Entry
  pub wrote : Wrote first now held past
  pub is_so_far : IsSoFar script past

pub on_so_far : (script : Script) (first now : Option (List ℕ)) (game : Game) (number : ℕ) → IsOn script first now game number [] → StandsSoFar script first now (held_by game)
unfolding script_from steps_from
on_so_far script first now game number (inl before) =
    let is : script ≡ stopped before.gathering.base Ended = before.gathering.is_script in
    record { past = []; wrote = before.wrote; is_so_far = Unopened (ap (λ (s : Script). s.steps) is) (ap (λ (s : Script). s.stops) is) }
on_so_far script first now game number (inr going) = record {
  past = going.past;
  wrote = going.wrote;
  is_so_far = Opened going.past (played_stopped script going.playing.store going.past (stopped script.base Ended) going.playing.follows refl);
}

pub fault_so_far : {T E : Type 0} (written : Result T E) (script : Script) (first now after : Option (List ℕ)) (game : Game) (number : ℕ) → IsOn script first now game number []
    → OnOk written (after ≡ append_known now (held_by game ++ read_fault_text)) → ended_so written end.ReadFault ≡ end.ReadFault → WroteSoFar script first after
fault_so_far (Ok done) script first now after game number on wrote is =
    let s = on_so_far script first now game number on in
    record {
      entries = s.past;
      is_so_far = s.is_so_far;
      written = wrote ∙ all-lines first now (held_by game) s.past read_fault_text s.wrote;
    }
fault_so_far (Err e) script first now after game number on wrote is = absurd (cc is)

-- the next line is refused, whatever was before it
pub refused_halts : (script : Script) (first now : Option (List ℕ)) (game : Game) (number : ℕ) (why : LineRefusal) (more : List LineReading) → IsOn script first now game number (Err why ∷ more) → IsHalted (halt.Refused why) script first now game number
unfolding script_from steps_from
refused_halts script first now game number why more (inl before) =
    let is : script ≡ stopped before.gathering.base (Broken number why) = before.gathering.is_script in
    ([], (before.wrote, RefusedAtOnce number why (ap (λ (s : Script). s.steps) is) (ap (λ (s : Script). s.stops) is)))
refused_halts script first now game number why more (inr going) =
    (going.past, (going.wrote, played_stopped script going.playing.store going.past (stopped script.base (Broken number why)) going.playing.follows refl))

-- ---- the end

-- what a player promises at the end of a script
pub record Finishes {T : Type 0} (result : Result T PlayFault) (old new : Player) : Type 0 where
  pub gathered : (base : Gathered) → IsGathering old base → IsFinished result new base
  pub played : (base : Gathered) (store : Datastore) (past : List Entry) → IsPlaying old base store past → IsOk result

pub record IsAllPlayed (script : Script) (first now : Option (List ℕ)) (held : List ℕ) : Type 0 where
  pub past : List Entry
  pub wrote : Wrote first now held past
  pub is_played : IsPlayed script past Whole

pub all_played : {T : Type 0} (done : T) (script : Script) (first now : Option (List ℕ)) (old : Game) (new : Player) (number : ℕ) → Finishes (Ok done) old.player new → IsOn script first now old number [] → IsAllPlayed script first now (held_by old)
unfolding script_from steps_from
all_played done script first now old new number f (inl before) =
    let is : script ≡ stopped before.gathering.base Ended = before.gathering.is_script in
    let base : script.base ≡ before.gathering.base = ap (λ (s : Script). s.base) is in
    let (store, playing) = f.gathered script.base (subst (λ (b : Gathered). IsGathering old.player b) (sym base) before.gathering.gathering) in
    record {
      past = [];
      wrote = before.wrote;
      is_played = subst (λ s. IsPlayed script [] (ending_of_stops s)) (ap (λ (s : Script). s.stops) is)
          (played_stopped script store [] script (follows_end script store playing.opened (ap (λ (s : Script). s.stops) is)) (ap (λ (s : Script). s.steps) is));
    }
all_played done script first now old new number f (inr going) = record {
  past = going.past;
  wrote = going.wrote;
  is_played = played_stopped script going.playing.store going.past (stopped script.base Ended) going.playing.follows refl;
}

pub end_halts : {T : Type 0} (told : PlayFault) (script : Script) (first now : Option (List ℕ)) (old new : Game) (number place : ℕ) → held_by new ≡ held_by old → Finishes {T = T} (Err told) old.player new.player → IsOn script first now old number [] → IsHalted (halt_of told) script first now new place
unfolding script_from
end_halts {T} told script first now old new number place held f (inl before) = by (f.gathered script.base (subst (λ (b : Gathered). IsGathering old.player b) (sym base) before.gathering.gathering)).1
  where
    is : script ≡ stopped before.gathering.base Ended
    is = before.gathering.is_script

    base : script.base ≡ before.gathering.base
    base = ap (λ (s : Script). s.base) is

    wrote : Wrote first now (held_by new) []
    wrote = subst (λ (l : List ℕ). Wrote first now l []) (sym held) before.wrote

    by : (told ≡ fault.Memory) ⊎ IsNotOpened script.base told → IsHalted (halt_of told) script first now new place
    by (inl memory) = subst (λ (t : PlayFault). IsHalted (halt_of t) script first now new place) (sym memory) (front_stays script first now (held_by new) [] wrote (inl refl))
    by (inr closed) = subst (λ (t : PlayFault). IsHalted (halt_of t) script first now new place) (sym closed.is_told)
        ([], (wrote, BaseRefused closed.broken.texts closed.rule closed.about (λ none. ap (λ (s : Script). s.stops) is) closed.broken.are_texts closed.broken.refused))
end_halts {T} told script first now old new number place held f (inr going) = absurd (cc (f.played script.base going.playing.store going.past going.playing.playing))

-- ---- counts

pub counts_end : {T E : Type 0} (written : Result T E) (wanted : PlayEnd) (old new : ℕ) → wanted ≢ end.WriteFault → OnErr written (Rose old new) → OnOk written (new ≡ old) → CountsEnd (ended_so written wanted) old new
counts_end (Err e) wanted old new differs rose same = rose
counts_end (Ok done) end.Done old new differs rose same = same
counts_end (Ok done) end.ReadFault old new differs rose same = same
counts_end (Ok done) end.NoMemory old new differs rose same = same
counts_end (Ok done) end.NotOpened old new differs rose same = same
counts_end (Ok done) end.LineRefused old new differs rose same = same
counts_end (Ok done) end.WriteFault old new differs rose same = absurd (differs refl)

-- ---- which end it is

pub never_fault : {T E : Type 0} (written : Result T E) (wanted : PlayEnd) → wanted ≢ end.ReadFault → ended_so written wanted ≡ end.ReadFault → ⊥
never_fault (Ok done) wanted differs is = differs is
never_fault (Err e) wanted differs is = cc is

pub never_done : {T E : Type 0} (written : Result T E) (wanted : PlayEnd) → wanted ≢ end.Done → ended_so written wanted ≡ end.Done → ⊥
never_done (Ok done) wanted differs is = differs is
never_done (Err e) wanted differs is = cc is

pub never_memory : {T E : Type 0} (written : Result T E) (wanted : PlayEnd) → wanted ≢ end.NoMemory → ended_so written wanted ≡ end.NoMemory → ⊥
never_memory (Ok done) wanted differs is = differs is
never_memory (Err e) wanted differs is = cc is

pub fault_or_write : {T E : Type 0} (written : Result T E) → (ended_so written end.ReadFault ≡ end.ReadFault) ⊎ (ended_so written end.ReadFault ≡ end.WriteFault)
fault_or_write (Ok done) = inl refl
fault_or_write (Err e) = inr refl

pub fault_not_done : (e : PlayEnd) → ((e ≡ end.ReadFault) ⊎ (e ≡ end.WriteFault)) → e ≡ end.Done → ⊥
fault_not_done e (inl read) done = cc (sym read ∙ done)
fault_not_done e (inr write) done = cc (sym write ∙ done)

pub fault_is_told : (e : PlayEnd) → ((e ≡ end.ReadFault) ⊎ (e ≡ end.WriteFault)) → e ≢ end.ReadFault → e ≢ end.WriteFault → ⊥
fault_is_told e (inl read) not_read not_write = not_read read
fault_is_told e (inr write) not_read not_write = not_write write

pub never_write : (told : PlayFault) → halt_of told ≡ halt.Write → ⊥
never_write fault.Base is = cc is
never_write fault.Busy is = cc is
never_write fault.Idle is = cc is
never_write fault.Waiting is = cc is
never_write fault.NotWaiting is = cc is
never_write fault.TooSoon is = cc is
never_write fault.Worn is = cc is
never_write (fault.Open rule about) is = cc is
never_write fault.Memory is = cc is

pub refused_is_other : (one : Halt) (why : LineRefusal) → one ≡ halt.Refused why → one ≡ halt.Write → ⊥
refused_is_other one why is write = cc (sym is ∙ write)

pub not_opened_is_other : (one : Halt) (rule : ℕ) (about : List ℕ) → one ≡ halt.NotOpened rule about → one ≡ halt.Write → ⊥
not_opened_is_other one rule about is write = cc (sym is ∙ write)

pub memory_is_other : (one : Halt) → one ≡ halt.Memory → one ≡ halt.Write → ⊥
memory_is_other one is write = cc (sym is ∙ write)

pub write_not_fault : end.WriteFault ≢ end.ReadFault
write_not_fault e = cc e

pub write_not_done : end.WriteFault ≢ end.Done
write_not_done e = cc e

pub write_not_memory : end.WriteFault ≢ end.NoMemory
write_not_memory e = cc e

pub want_not_fault : end.NoMemory ≢ end.ReadFault
want_not_fault e = cc e

pub want_not_write : end.NoMemory ≢ end.WriteFault
want_not_write e = cc e

pub want_not_done : end.NoMemory ≢ end.Done
want_not_done e = cc e

pub finishes_known : {T : Type 0} {finished result : Result T PlayFault} (old new : Player) → finished ≡ result → Finishes finished old new → Finishes result old new
finishes_known old new is f = subst (λ r. Finishes r old new) is f

pub counts_same : (e : PlayEnd) (old mid new : ℕ) → mid ≡ old → CountsEnd e mid new → CountsEnd e old new
counts_same e old mid new same h = subst (λ (n : ℕ). CountsEnd e n new) same h

pub ends_rose : (e : PlayEnd) (old new : ℕ) → CountsEnd e old new → e ≡ end.WriteFault → Rose old new
ends_rose e old new counts is = subst (λ (k : PlayEnd). CountsEnd k old new) is counts

pub ends_same : (e : PlayEnd) (old new : ℕ) → CountsEnd e old new → e ≢ end.WriteFault → new ≡ old
ends_same end.Done old new same other = same
ends_same end.ReadFault old new same other = same
ends_same end.NoMemory old new same other = same
ends_same end.NotOpened old new same other = same
ends_same end.LineRefused old new same other = same
ends_same end.WriteFault old new rose other = absurd (other refl)

-- the line did not happen, and what was written then
pub counts_halted : (T : Type 0) (why : Halt) (e : PlayEnd) (old mid new : ℕ) → CountsWrites {T = T} (Err why) old mid → (why ≢ halt.Write → CountsEnd e mid new) → (why ≡ halt.Write → e ≡ end.WriteFault) → (why ≡ halt.Write → new ≡ mid) → CountsEnd e old new
counts_halted T (halt.Refused why) e old mid new line ends is same = counts_same e old mid new line (ends (λ k. cc k))
counts_halted T (halt.NotOpened rule about) e old mid new line ends is same = counts_same e old mid new line (ends (λ k. cc k))
counts_halted T halt.Memory e old mid new line ends is same = counts_same e old mid new line (ends (λ k. cc k))
counts_halted T halt.Write e old mid new line ends is same =
    subst (λ (k : PlayEnd). CountsEnd k old new) (sym (is refl)) (subst (λ (n : ℕ). Rose old n) (sym (same refl)) line)

-- ---- the texts of the last lines, as they are written

pub line_text : (number : ℕ) (why : LineRefusal) (digits said : List ℕ) → digits ≡ decimal number → said ≡ line_refusal_text why
    → codes "line " ++ (digits ++ (codes ": " ++ (said ++ (codes "\n" ++ [])))) ≡ play_ending_text (LineRefused number why)
line_text number why digits said is_number is_said =
    ap (λ (l : List ℕ). codes "line " ++ (l ++ (codes ": " ++ (said ++ (codes "\n" ++ []))))) is_number
    ∙ ap (λ (l : List ℕ). codes "line " ++ (decimal number ++ (codes ": " ++ (l ++ (codes "\n" ++ []))))) is_said
    ∙ ap (λ (l : List ℕ). codes "line " ++ (decimal number ++ (codes ": " ++ (line_refusal_text why ++ l)))) (append-nil (codes "\n"))
    ∙ ap (λ (l : List ℕ). codes "line " ++ l)
    (sym (append_assoc (decimal number ++ codes ": ") (line_refusal_text why) (codes "\n") ∙ append_assoc (decimal number) (codes ": ") (line_refusal_text why ++ codes "\n")))

pub rule_text : (rule : ℕ) (about digits said : List ℕ) → digits ≡ decimal rule → said ≡ about
    → codes "datastore OR" ++ (digits ++ (codes " " ++ (said ++ (codes "\n" ++ [])))) ≡ play_ending_text (NotOpened rule about)
rule_text rule about digits said is_rule is_about =
    ap (λ (l : List ℕ). codes "datastore OR" ++ (l ++ (codes " " ++ (said ++ (codes "\n" ++ []))))) is_rule
    ∙ ap (λ (l : List ℕ). codes "datastore OR" ++ (decimal rule ++ (codes " " ++ (l ++ (codes "\n" ++ []))))) is_about
    ∙ ap (λ (l : List ℕ). codes "datastore OR" ++ (decimal rule ++ (codes " " ++ (about ++ l)))) (append-nil (codes "\n"))
    ∙ ap (λ (l : List ℕ). codes "datastore OR" ++ l)
    (sym (append_assoc (decimal rule ++ codes " ") about (codes "\n") ∙ append_assoc (decimal rule) (codes " ") (about ++ codes "\n")))
