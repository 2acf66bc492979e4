-- What an answer to what comes next says beside the readings.
use Rattle.std.proofs.Common.{◌≡◌, ◌∙◌, ℕ, ◌+◌, ◌<◌, List, Option, Some, None, refl, sym, arith}
use Rattle.std.specs.Prelude.{Ok, Err, IfErr, IfOk}
use Rattle.ipam_answer_text.specs.declared.line.Line.{Line}
use Rattle.ipam_play.specs.declared.refusal.LineRefusal.TheVariants.{Long}
use Rattle.ipam_play.specs.declared.lines.Next.TheVariants as next
use Rattle.ipam_play.specs.declared.lines.ScriptFault.{ScriptFault}
use Rattle.ipam_play.specs.declared.lines.ScriptFault.TheVariants.{Read, Memory}
use Rattle.ipam_play.specs.Readings.{Answer, LineReading, IfLine, IsNextOf, IsTold, IsLastTold, OnEnd, OnLine, UnlessRead}

pub unless_read : {P : Type 0} (answer : Answer) → P → UnlessRead answer P
unless_read (Ok found) p = p
unless_read (Err Read) p = tt
unless_read (Err Memory) p = p

pub on_end : {P : Type 0} (answer : Answer) → P → OnEnd answer P
on_end (Ok (next.Line line)) p = tt
on_end (Ok (next.Last line)) p = p
on_end (Ok (next.Refused why)) p = tt
on_end (Ok next.End) p = p
on_end (Err fault) p = tt

-- ---- what a line with a line end is told

pub told_end : (P : Type 0) (answer : Answer) (reading : LineReading) → IsTold answer reading → OnEnd answer P
told_end P (Ok (next.Line line)) reading told = tt
told_end P (Ok (next.Last line)) reading told = absurd told
told_end P (Ok (next.Refused why)) reading told = tt
told_end P (Ok next.End) reading told = absurd told
told_end P (Err fault) reading told = tt

pub told_fault : (P : Type 0) (answer : Answer) (reading : LineReading) → IsTold answer reading → IfErr answer (λ e. e ≡ Read → P)
told_fault P (Ok found) reading told = tt
told_fault P (Err fault) reading told = λ is. absurd (cc (sym is ∙ told))

pub onward : (answer : Answer) (old new bytes : ℕ) → OnLine answer (new ≡ old + bytes + 1) → OnLine answer (old < new)
onward (Ok (next.Line line)) old new bytes is = omega arith
onward (Ok (next.Last line)) old new bytes is = tt
onward (Ok (next.Refused why)) old new bytes is = tt
onward (Ok next.End) old new bytes is = tt
onward (Err fault) old new bytes is = tt

-- ---- what the last line is told

pub last_line : (P : Type 0) (answer : Answer) (reading : LineReading) → IsLastTold answer reading → OnLine answer P
last_line P (Ok (next.Line line)) reading told = absurd told
last_line P (Ok (next.Last line)) reading told = tt
last_line P (Ok (next.Refused why)) reading told = tt
last_line P (Ok next.End) reading told = tt
last_line P (Err fault) reading told = tt

pub last_fault : (P : Type 0) (answer : Answer) (reading : LineReading) → IsLastTold answer reading → IfErr answer (λ e. e ≡ Read → P)
last_fault P (Ok found) reading told = tt
last_fault P (Err fault) reading told = λ is. absurd (cc (sym is ∙ told))

-- ---- faults

pub same_next : (fault : ScriptFault) (now after : Option (List LineReading)) → now ≡ after → IsNextOf (Err fault) now after
same_next fault None after same = tt
same_next fault (Some readings) after same = (readings, sym same, tt)

-- ---- there was no memory

pub wanting_sound : (answer : Answer) (Is : Line → Type 0) → IfOk answer (λ n. n ≡ next.Refused Long) → IfLine answer Is
wanting_sound (Ok found) Is long = rw long tt
wanting_sound (Err fault) Is long = tt

pub wanting_end : (P : Type 0) (answer : Answer) → IfOk answer (λ n. n ≡ next.Refused Long) → OnEnd answer P
wanting_end P (Ok found) long = rw long tt
wanting_end P (Err fault) long = tt

pub wanting_line : (P : Type 0) (answer : Answer) → IfOk answer (λ n. n ≡ next.Refused Long) → OnLine answer P
wanting_line P (Ok found) long = rw long tt
wanting_line P (Err fault) long = tt

pub wanting_fault : (P : Type 0) (answer : Answer) → IfErr answer (λ e. e ≡ Memory) → IfErr answer (λ e. e ≡ Read → P)
wanting_fault P (Ok found) memory = tt
wanting_fault P (Err fault) memory = λ is. absurd (cc (sym is ∙ memory))
