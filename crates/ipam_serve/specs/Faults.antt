-- Why what runs is not brought to its end.
use Rattle.std.specs.Prelude.{◌≡◌, ℕ, suc, true, ⊤, ◌+◌, ◌<◌, ◌≤◌, ◌^◌, ◌⊎◌, List, ◌∷◌, ◌++◌, length, Option, Some, None, Result, Ok, Err}
use Rattle.ipam_io.specs.Counts.{Rose}
use Rattle.ipam_model.specs.declared.answer.Answer.{Answer}
use Rattle.ipam_model.specs.declared.entry.Entry.{Entry}
use Rattle.ipam_model.specs.declared.entry.Entry.TheVariants as entry
use Rattle.ipam_model.specs.declared.request.Request.{Request}
use Rattle.ipam_collect.specs.declared.collect.Grace.{Grace}
use Rattle.ipam_model.specs.Cluster.{RunningRequest}
use Rattle.ipam_model.specs.History.{moment_of}
use Rattle.ipam_shared.specs.PassValue.{PassValue}
use Rattle.ipam_shared.specs.Passes.{runs_in}
use Rattle.ipam_shared.specs.Turning.{WaitsFor}
use Rattle.ipam_serve.specs.declared.ran.Broken.{Broken}
use Rattle.ipam_serve.specs.declared.ran.Broken.TheVariants.{Halted, Worn, Memory}
use Rattle.ipam_serve.specs.declared.ran.Ran.{Ran}
use Rattle.ipam_serve.specs.declared.ran.Ran.TheVariants.{Answered, Waits}
use Rattle.ipam_serve.specs.Gains.{Gained, Spends, is_waiting}
use Rattle.ipam_serve.specs.Spans.{waits_of}

-- the answer, where what ran came to one
abbrev pub answer_ran : Ran → Option Answer
answer_ran (Answered told) = Some told
answer_ran Waits = None

-- the answer that what was fed came to; that it waits again counts as want of memory
abbrev pub found_of : Ran → Result (Option Answer) Broken
found_of (Answered told) = Ok (Some told)
found_of Waits = Err Memory

-- how many of the turns were spared an entry: the one that found that it waits
abbrev pub spared_by : Ran → ℕ
spared_by (Answered told) = 0
spared_by Waits = 1

-- a fact where it waits
abbrev pub OnWaits : Ran → Type 0 → Type 0
OnWaits (Answered told) p = ⊤
OnWaits Waits p = p

-- a fact of the answer
abbrev pub IfAnswered : Ran → (Answer → Type 0) → Type 0
IfAnswered (Answered told) p = p told
IfAnswered Waits p = ⊤

-- The pass has too few turns left for one more and a last stop, and each that it took made an entry, but for so
-- many. Or there are too many entries, and one turn more was taken, which found that.
abbrev pub IsWorn : (spared : ℕ) → (old new : PassValue) → Type 0
IsWorn spared old new =
    ((new.left < 2) × Spends spared old new) ⊎ ((2 ^ 62 ≤ moment_of new.base new.seen) × Spends (suc spared) old new)

-- a fact where there were too few turns or too many entries
abbrev pub OnWorn : {T : Type 0} → Result T Broken → Type 0 → Type 0
OnWorn (Ok value) p = ⊤
OnWorn (Err Halted) p = ⊤
OnWorn (Err Worn) p = p
OnWorn (Err Memory) p = ⊤

-- a fact where there was no memory
abbrev pub OnMemory : {T : Type 0} → Result T Broken → Type 0 → Type 0
OnMemory (Ok value) p = ⊤
OnMemory (Err Halted) p = ⊤
OnMemory (Err Worn) p = ⊤
OnMemory (Err Memory) p = p

-- more turns were taken than entries were made
pub record SparedOne (old new : PassValue) : Type 0 where
  pub entries : List Entry
  pub gained : Gained old.slot old.seen entries new.seen
  pub spared : new.left + length entries < old.left

-- A turn made no entry, though there is room for one. So what found no memory was not worn: where too few turns are
-- left, each that was taken made an entry.
abbrev pub FoundRoom : (old new : PassValue) → Type 0
FoundRoom old new = SparedOne old new × (moment_of new.base new.seen < 2 ^ 62)

-- A list was fed, and what it was fed to waits again, which counts as want of memory. By its program no collection does.
pub record WaitsAgain (old new : PassValue) : Type 0 where
  pub at : ℕ
  pub live : List (List ℕ)
  pub earlier : List Entry
  pub later : List Entry
  pub gained : Gained old.slot old.seen (later ++ entry.Fed old.slot at live ∷ earlier) new.seen
  pub waits : is_waiting (runs_in new) ≡ true

-- why the request of a CNI call is not answered for want of memory; what waits and is no collection counts as that too,
-- which by its program no request does
abbrev pub FoundOnWay : Request → (old new : PassValue) → Type 0
FoundOnWay request old new =
    FoundRoom old new ⊎ (WaitsAgain old new ⊎ ((waits_of request ≡ 0) × (is_waiting (runs_in new) ≡ true)))

-- the grace of what waits, if it has one, is over at this time
abbrev pub IsGraceOver : Option RunningRequest → (at : ℕ) → Type 0
IsGraceOver runs at = (grace : Grace) → WaitsFor runs grace → grace.at + grace.grace ≤ at

-- there is room for an entry, if what waits has times as a collection has
abbrev pub HasRoomWhereDue : (old new : PassValue) → Type 0
HasRoomWhereDue old new = (grace : Grace) → WaitsFor (runs_in old) grace → moment_of new.base new.seen < 2 ^ 62

-- A turn for a second list made no entry, though the list was not too soon and there is room for one.
abbrev pub FoundDue : (old : PassValue) → (at : ℕ) → (new : PassValue) → Type 0
FoundDue old at new = IsGraceOver (runs_in old) at × (SparedOne old new × HasRoomWhereDue old new)

-- why a second list, which was not too soon, is not answered for want of memory
abbrev pub FoundFed : (old : PassValue) → (at : ℕ) → (new : PassValue) → Type 0
FoundFed old at new = IsGraceOver (runs_in old) at × ((SparedOne old new × HasRoomWhereDue old new) ⊎ WaitsAgain old new)

-- no gate was passed, so none stopped it
abbrev pub OnHalted : {T : Type 0} → Result T Broken → Type 0 → Type 0
OnHalted (Ok value) p = ⊤
OnHalted (Err Halted) p = p
OnHalted (Err Worn) p = ⊤
OnHalted (Err Memory) p = ⊤

-- the gate stopped a pass exactly where it was halted
abbrev pub Halts : {T : Type 0} → Result T Broken → (old new : ℕ) → Type 0
Halts (Ok value) old new = new ≡ old
Halts (Err Halted) old new = Rose old new
Halts (Err Worn) old new = new ≡ old
Halts (Err Memory) old new = new ≡ old
