-- No turn is taken in vain where a session is worn, and one is where it finds no memory.
use Rattle.std.proofs.Math.Nat.{le_of_suc-le-suc, lt_of_not-le}
use Rattle.std.proofs.Common.{◌≡◌, ◌⊎◌, ◌≤◌, ◌<◌, ◌^◌, ℕ, suc, ◌+◌, arith, true, false, List, [], ◌∷◌, ◌++◌, append_assoc, length-append, Option, Some, None, Result, Ok, Err, inl, inr, refl, ap, subst, sym}
use Rattle.std.specs.Prelude.{OnErr}
use Rattle.ipam_collect.specs.Collect.{grace_asked}
use Rattle.ipam_cluster.specs.Running.{grace_of}
use Rattle.ipam_model.specs.declared.entry.Entry.TheVariants as entry
use Rattle.ipam_model.specs.declared.request.CollectRequest.{CollectRequest}
use Rattle.ipam_model.specs.declared.entry.Entry.{Entry}
use Rattle.ipam_model.specs.Cluster.{RunningRequest}
use Rattle.ipam_shared.specs.Passes.{runs_in}
use Rattle.ipam_serve.specs.declared.turns.Feeding.TheVariants as feeding
use Rattle.ipam_serve.specs.Runs.{Taker, WentOn}
use Rattle.ipam_serve.specs.Turns.{Fed}
use Rattle.ipam_model.specs.declared.request.Request.{Request}
use Rattle.ipam_model.specs.declared.request.Request.TheVariants.{Add, AddThis, Del, Check, Release, Admin, Collect, Probe}
use Rattle.ipam_model.specs.History.{moment_of}
use Rattle.ipam_shared.specs.PassValue.{PassValue}
use Rattle.ipam_serve.specs.declared.ran.Broken.{Broken}
use Rattle.ipam_serve.specs.declared.ran.Broken.TheVariants.{Halted, Worn, Memory}
use Rattle.ipam_shared.specs.Turning.{times_of}
use Rattle.ipam_serve.specs.Faults.{FoundFed, FoundOnWay, FoundRoom, IsGraceOver, IsWorn, OnMemory, OnWorn, SparedOne, WaitsAgain}
use Rattle.ipam_serve.specs.Gains.{Gained, TookTurns, is_early, is_waiting, request_running}
use Rattle.ipam_serve.specs.Spans.{waits_of}
use Rattle.ipam_serve.proofs.Slots.{early-so, waiting-so}
use Rattle.ipam_serve.proofs.Turning.{spends-more, spends-same, spends-then, then-gained, took-slot}

-- too few turns are left, and none was taken
pub worn-few : (pass : PassValue) → pass.left < 2 → IsWorn 0 pass pass
worn-few pass few = inl (few, spends-same pass pass refl)

-- a turn found that there are too many entries
pub worn-many : (old new : PassValue) → 2 ^ 62 ≤ moment_of new.base new.seen → TookTurns old [] 1 new → IsWorn 0 old new
worn-many old new many took = inr (many, record { entries = []; took = took })

pub worn-found : (why : Broken) (old new : PassValue) → (why ≡ Worn → 2 ^ 62 ≤ moment_of new.base new.seen) → TookTurns old [] 1 new → OnWorn {T = Unit {0}} (Err why) (IsWorn 0 old new)
worn-found Halted old new many took = tt
worn-found Worn old new many took = worn-many old new (many refl) took
worn-found Memory old new many took = tt

pub worn-more : (old new : PassValue) (few more : ℕ) → few ≤ more → IsWorn few old new → IsWorn more old new
worn-more old new few more less (inl (left, s)) = inl (left, spends-more old new few more less s)
worn-more old new few more less (inr (many, s)) = inr (many, spends-more old new (suc few) (suc more) (omega arith) s)

-- ---- no memory

pub le_of_not-lt : (m n : ℕ) → (m < n → ⊥) → n ≤ m
le_of_not-lt m n above = le_of_suc-le-suc (lt_of_not-le above)

pub spared-one : (old new : PassValue) → TookTurns old [] 1 new → new.left + 1 ≡ old.left → SparedOne old new
spared-one old new took one = record { entries = []; gained = took.gained; spared = omega arith }

pub found-room : (old new : PassValue) → (2 ^ 62 ≤ moment_of new.base new.seen → ⊥) → TookTurns old [] 1 new → new.left + 1 ≡ old.left → FoundRoom old new
found-room old new few took one = (spared-one old new took one, lt_of_not-le few)

pub memory-found : (why : Broken) (p : Type 0) → (why ≡ Memory → p) → OnMemory {T = Unit {0}} (Err why) p
memory-found Halted p so = tt
memory-found Worn p so = tt
memory-found Memory p so = so refl

pub memory-so : {T : Type 0} (r : Result T Broken) (p q : Type 0) → (p → q) → OnMemory r p → OnMemory r q
memory-so (Ok value) p q from a = tt
memory-so (Err Halted) p q from a = tt
memory-so (Err Worn) p q from a = tt
memory-so (Err Memory) p q from a = from a

pub memory-any : {T : Type 0} (r : Result T Broken) (p : Type 0) → p → OnMemory r p
memory-any (Ok value) p a = tt
memory-any (Err Halted) p a = tt
memory-any (Err Worn) p a = tt
memory-any (Err Memory) p a = a

-- what read the line is of no interest
pub wants-none : (p q w : Type 0) → (p × w) ⊎ q → p ⊎ q
wants-none p q w (inl found) = inl found.0
wants-none p q w (inr found) = inr found

-- ---- no memory after turns that were taken before

pub spared-then : (one two three : PassValue) (earlier : List Entry) (spared : ℕ) → TookTurns one earlier spared two → SparedOne two three → SparedOne one three
spared-then one two three earlier spared took s =
    let least = took.at_least in
    let more = s.spared in
    record {
      entries = s.entries ++ earlier;
      gained = then-gained one.slot one.seen two.seen three.seen earlier s.entries took.gained
          (subst (λ (n : ℕ). Gained n two.seen s.entries three.seen) (took-slot one two earlier spared took) s.gained);
      spared = simp length-append (omega arith);
    }

pub room-then : (one two three : PassValue) (earlier : List Entry) (spared : ℕ) → TookTurns one earlier spared two → FoundRoom two three → FoundRoom one three
room-then one two three earlier spared took (s, room) = (spared-then one two three earlier spared took s, room)

again-then : (one two three : PassValue) (earlier : List Entry) (spared : ℕ) → TookTurns one earlier spared two → WaitsAgain two three → WaitsAgain one three
again-then one two three earlier spared took a =
    let own = subst (λ (n : ℕ). Gained n two.seen (a.later ++ entry.Fed n a.at a.live ∷ a.earlier) three.seen) (took-slot one two earlier spared took) a.gained in
    record {
      at = a.at;
      live = a.live;
      earlier = a.earlier ++ earlier;
      later = a.later;
      gained = subst (λ (l : List Entry). Gained one.slot one.seen l three.seen) (append_assoc a.later (entry.Fed one.slot a.at a.live ∷ a.earlier) earlier)
          (then-gained one.slot one.seen two.seen three.seen earlier (a.later ++ entry.Fed one.slot a.at a.live ∷ a.earlier) took.gained own);
      waits = a.waits;
    }

pub way-then : (one two three : PassValue) (earlier : List Entry) (spared : ℕ) (request : Request) → TookTurns one earlier spared two → FoundOnWay request two three → FoundOnWay request one three
way-then one two three earlier spared request took (inl room) = inl (room-then one two three earlier spared took room)
way-then one two three earlier spared request took (inr (inl again)) = inr (inl (again-then one two three earlier spared took again))
way-then one two three earlier spared request took (inr (inr stuck)) = inr (inr stuck)

-- ---- no memory for a list

-- what runs and is no collection
pub no-collect : (request : Request) → ((asked : CollectRequest) → request ≡ Collect asked → ⊥) → waits_of request ≡ 0
no-collect (Collect asked) none = absurd (none asked refl)
no-collect (Add add) none = refl
no-collect (AddThis add address) none = refl
no-collect (Del id) none = refl
no-collect (Check id addresses) none = refl
no-collect (Release node cidr) none = refl
no-collect (Admin change) none = refl
no-collect (Probe probe) none = refl

asked-times : (o : Option RunningRequest) (asked : CollectRequest) → request_running o ≡ Some (Collect asked) → times_of o ≡ Some (grace_asked asked)
asked-times None asked e = absurd (cc e)
asked-times (Some running) asked e = let its : running.request ≡ Collect asked = cc e in ap grace_of its

-- a collection has its times, so a list of its own is not worn either
pub own-way : (why : Broken) (old new : PassValue) (asked : CollectRequest) → is_waiting (runs_in old) ≡ true → request_running (runs_in old) ≡ Some (Collect asked)
    → OnMemory {T = Unit {0}} (Err why) (FoundFed old 0 new) → OnMemory {T = Unit {0}} (Err why) (FoundOnWay (Collect asked) old new)
own-way why old new asked waits is = memory-so {T = Unit {0}} (Err why) (FoundFed old 0 new) (FoundOnWay (Collect asked) old new) from
  where
    from : FoundFed old 0 new → FoundOnWay (Collect asked) old new
    from (over, inl (spared, room)) = inl (spared, room (grace_asked asked) (waiting-so (runs_in old) waits, asked-times (runs_in old) asked is))
    from (over, inr again) = inr (inl again)

-- a list that was fed was not too soon
pub over-so : (o : Option RunningRequest) (at : ℕ) → is_early o at ≡ false → IsGraceOver o at
over-so o at fed grace waits = le_of_not-lt at (grace.at + grace.grace) (λ less. let soon = early-so o grace.at grace.grace at waits less in cc (soon, fed))

pub fed-memory : {T : Type 0} (old : Taker) (middle : PassValue) (new : Taker) (live : List (List ℕ)) (at : ℕ) (r : Result T Broken) → Fed old.pass live at feeding.Fed middle
    → OnErr r (WentOn (record { pass = middle; turns = old.turns }) None 1 new) → OnMemory r (FoundRoom middle new.pass ⊎ (is_waiting (runs_in new.pass) ≡ true)) → OnMemory r (FoundFed old.pass at new.pass)
fed-memory old middle new live at (Ok value) fed went found = tt
fed-memory old middle new live at (Err Halted) fed went found = tt
fed-memory old middle new live at (Err Worn) fed went found = tt
fed-memory old middle new live at (Err Memory) (took, due) went (inl room) =
    let all = room-then old.pass middle new.pass (entry.Fed old.pass.slot at live ∷ []) 0 took room in
    (over-so (runs_in old.pass) at due, inl (all.0, λ grace waits. all.1))
fed-memory old middle new live at (Err Memory) (took, due) went (inr waits) =
    let own = subst (λ (n : ℕ). Gained n middle.seen went.calls new.pass.seen) (took-slot old.pass middle (entry.Fed old.pass.slot at live ∷ []) 0 took) went.took.gained in (
      over-so (runs_in old.pass) at due,
      inr (record {
        at = at;
        live = live;
        earlier = [];
        later = went.calls;
        gained = then-gained old.pass.slot old.pass.seen middle.seen new.pass.seen (entry.Fed old.pass.slot at live ∷ []) went.calls took.gained own;
        waits = waits;
      }),
    )

-- turns were taken before
pub worn-then : (one two three : PassValue) (earlier : List Entry) (m n : ℕ) → TookTurns one earlier m two → IsWorn n two three → IsWorn (m + n) one three
worn-then one two three earlier m n took (inl (left, s)) = inl (left, spends-then one two three earlier m n took s)
worn-then one two three earlier m n took (inr (many, s)) =
    inr (many, spends-more one three (m + suc n) (suc (m + n)) (omega arith) (spends-then one two three earlier m (suc n) took s))

-- a collection was found to wait before
pub worn-waited : (one two three : PassValue) (earlier : List Entry) (request : Request) → TookTurns one earlier 1 two → waits_of request ≡ 1 → IsWorn 0 two three → IsWorn (waits_of request) one three
worn-waited one two three earlier request took waits worn =
    subst (λ (spared : ℕ). IsWorn spared one three) (sym waits) (worn-then one two three earlier 1 0 took worn)
