-- A script is read and played line by line.
use Rattle.std.proofs.Common.{◌≡◌, ℕ, ◌+◌, List, [], ◌∷◌, ◌++◌, Option, Some, None, refl, sym, ap, ◌∙◌, subst, append_assoc, append-nil, inl}
use Rattle.std.specs.Prelude.{Ok, IfSome, option_map}
use Rattle.std.specs.Io.KnownBytes.{prepend_known}
use Rattle.ipam_answer_text.specs.declared.line.Line.{Line}
use Rattle.ipam_answer_text.specs.Lines.{lines_of}
use Rattle.ipam_play.specs.declared.lines.Next.TheVariants as next
use Rattle.ipam_play.specs.declared.lines.ScriptLines.{ScriptLines}
use Rattle.ipam_play.specs.declared.refusal.LineRefusal.{LineRefusal}
use Rattle.ipam_play.specs.Player.{IsGathering}
use Rattle.ipam_play.specs.Readings.{Answer, AreReadWhole, IsNext, IsNextOf, LineReading, TakesLine, TakesNone, coming, readings, readings_from}
use Rattle.ipam_play.specs.Script.{Script, nothing_gathered, script_of}
use Rattle.ipam_play.proofs.Takings.{HasTaken, all_readings, taken_all, taken_line, taken_none}
use Rattle.ipam_play.specs.declared.game.Game.{Game}
use Rattle.ipam_play.specs.declared.halt.Halt.TheVariants as halt
use Rattle.ipam_play.specs.Halting.{IsOn, IsHalted, held_by}
use Rattle.ipam_play.specs.Writing.{Wrote}
use Rattle.ipam_play.proofs.Closing.{refused_halts}
use Rattle.ipam_play.proofs.Endings.{wrote_none}

-- the lines to come are known, and the game stands before them
pub record Goes (to_come : Option (List LineReading)) (script : Script) (first now : Option (List ℕ)) (game : Game) (number : ℕ) : Type 0 where
  pub more : List LineReading
  pub known : to_come ≡ Some more
  pub on : IsOn script first now game number more

pub goes_first : (lines : ScriptLines) (left first : Option (List ℕ)) (bytes : List ℕ) (game : Game) → lines.lines ≡ [] → lines.before.bytes ≡ 0 → IsGathering game.player nothing_gathered → held_by game ≡ [] → left ≡ Some bytes
    → Goes (coming lines left) (script_of (readings bytes)) first first game 1
unfolding readings_from lines_of
goes_first lines left first bytes game none start gathering held is = record {
  more = readings bytes;
  known = ap (λ (o : Option (List ℕ)). option_map (readings_from lines.before.bytes) (prepend_known lines.lines o)) is
      ∙ ap (λ (l : List ℕ). Some (readings_from lines.before.bytes (l ++ bytes))) none
      ∙ ap (λ (n : ℕ). Some (readings_from n bytes)) start;
  on = inl (record {
    wrote = subst (λ (l : List ℕ). Wrote first first l []) (sym held) (wrote_none first);
    gathering = record { base = nothing_gathered; gathering = gathering; is_script = refl };
  });
}

-- what the answer says of the lines to come
pub record Answers (answer : Answer) (after : Option (List LineReading)) (script : Script) (first now : Option (List ℕ)) (game : Game) (number : ℕ) : Type 0 where
  pub here : List LineReading
  pub behind : List LineReading
  pub on : IsOn script first now game number here
  pub is_after : after ≡ Some behind
  pub is_next : IsNext answer here behind

pub answered : (answer : Answer) (to_come after : Option (List LineReading)) (script : Script) (first now : Option (List ℕ)) (game : Game) (number : ℕ) → IsNextOf answer to_come after → Goes to_come script first now game number
    → Answers answer after script first now game number
answered answer to_come after script first now game number next_of goes =
    let (behind, is_after, is_next) = subst (λ (o : Option (List LineReading)). IsNextOf answer o after) goes.known next_of in
    record { here = goes.more; behind = behind; on = goes.on; is_after = is_after; is_next = is_next }

pub line_on_next : (line : Line) (after : Option (List LineReading)) (script : Script) (first now : Option (List ℕ)) (game : Game) (number : ℕ) (a : Answers (Ok (next.Line line)) after script first now game number)
    → IsOn script first now game number (Ok line ∷ a.behind)
line_on_next line after script first now game number a = subst (λ (l : List LineReading). IsOn script first now game number l) a.is_next a.on

pub last_on_next : (line : Line) (after : Option (List LineReading)) (script : Script) (first now : Option (List ℕ)) (game : Game) (number : ℕ) → Answers (Ok (next.Last line)) after script first now game number
    → IsOn script first now game number (Ok line ∷ [])
last_on_next line after script first now game number a = subst (λ (l : List LineReading). IsOn script first now game number l) a.is_next a.on

pub end_on_next : (after : Option (List LineReading)) (script : Script) (first now : Option (List ℕ)) (game : Game) (number : ℕ) → Answers (Ok next.End) after script first now game number
    → IsOn script first now game number []
end_on_next after script first now game number a = subst (λ (l : List LineReading). IsOn script first now game number l) a.is_next a.on

pub refused_on_next : (why : LineRefusal) (after : Option (List LineReading)) (script : Script) (first now : Option (List ℕ)) (game : Game) (number : ℕ) → Answers (Ok (next.Refused why)) after script first now game number
    → IsHalted (halt.Refused why) script first now game number
refused_on_next why after script first now game number a =
    refused_halts script first now game number why a.is_next.0 (subst (λ (l : List LineReading). IsOn script first now game number l) a.is_next.1 a.on)

-- ---- where the source tells its bytes

pub if_known : {X : Type 0} (o : Option X) (P : X → Type 0) → ((x : X) → o ≡ Some x → P x) → IfSome o P
if_known None P each = tt
if_known (Some x) P each = each x refl

pub answers_known : {answer known : Answer} (after : Option (List LineReading)) (script : Script) (first now : Option (List ℕ)) (game : Game) (number : ℕ) → answer ≡ known → Answers answer after script first now game number → Answers known after script first now game number
answers_known after script first now game number is a = subst (λ (k : Answer). Answers k after script first now game number) is a

-- ---- what came before, whatever is to come

-- the lines that were taken were played, and any others may follow
pub record PlayedSoFar (lines : ScriptLines) (was left first now : Option (List ℕ)) (game : Game) (number : ℕ) : Type 0 where
  pub done : List LineReading
  pub taken : HasTaken lines was left done
  pub on : (more : List LineReading) → IsOn (script_of (done ++ more)) first now game number more

pub first_so_far : (lines : ScriptLines) (left first : Option (List ℕ)) (game : Game) → lines.lines ≡ [] → lines.before.bytes ≡ 0 → IsGathering game.player nothing_gathered → held_by game ≡ []
    → PlayedSoFar lines left left first first game 1
first_so_far lines left first game none start gathering held = record {
  done = [];
  taken = taken_none lines left none start;
  on = λ more. inl (record {
    wrote = subst (λ (l : List ℕ). Wrote first first l []) (sym held) (wrote_none first);
    gathering = record { base = nothing_gathered; gathering = gathering; is_script = refl };
  });
}

pub line_so_far : (line : Line) (old new : ScriptLines) (was mid left first now after : Option (List ℕ)) (before game : Game) (number : ℕ) → PlayedSoFar old was mid first now before number → TakesLine line old new mid left
    → ((script : Script) (more : List LineReading) → IsOn script first now before number (Ok line ∷ more) → IsOn script first after game (number + 1) more)
    → PlayedSoFar new was left first after game (number + 1)
line_so_far line old new was mid left first now after before game number so_far takes goes = record {
  done = so_far.done ++ Ok line ∷ [];
  taken = taken_line line old new was mid left so_far.done so_far.taken takes;
  on = λ more.
      let same = append_assoc so_far.done (Ok line ∷ []) more in
      goes (script_of ((so_far.done ++ Ok line ∷ []) ++ more)) more
      (subst (λ (l : List LineReading). IsOn (script_of l) first now before number (Ok line ∷ more)) (sym same) (so_far.on (Ok line ∷ more)));
}

-- where no line is to come, the lines that were read whole are the script
pub record AllSoFar (was left first now : Option (List ℕ)) (game : Game) (number : ℕ) : Type 0 where
  pub lines : List ℕ
  pub are_read : AreReadWhole lines was left
  pub on : IsOn (script_of (readings lines)) first now game number []

pub all_so_far : (old new : ScriptLines) (was mid left first now : Option (List ℕ)) (game : Game) (number : ℕ) → PlayedSoFar old was mid first now game number → TakesNone old new mid left → AllSoFar was left first now game number
all_so_far old new was mid left first now game number so_far takes = record {
  lines = so_far.taken.bytes;
  are_read = taken_all old new was mid left so_far.done so_far.taken takes;
  on = subst (λ (l : List LineReading). IsOn (script_of l) first now game number []) (append-nil so_far.done ∙ sym (all_readings old was mid so_far.done so_far.taken)) (so_far.on []);
}
