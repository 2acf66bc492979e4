-- What each step on the table makes of the view of the pass that takes it, and what it tells.
use Rattle.std.specs.Prelude.{◌≡◌, ◌≢◌, ℕ, ◌+◌, ◌-◌, ◌<◌, ◌≤◌, max, List, [], ◌∷◌, ◌++◌, length}
use Rattle.atomic_table.specs.Table.{Me, Step, rest}
use Rattle.turn_lock.specs.declared.limits.TheConstants.{FIRST_TURNS, MOST_PASSES, SPLIT_TURNS}
use Rattle.turn_lock.specs.declared.view.View.{View}
use Rattle.turn_lock.specs.Histories.{NoneBy, Grew, GrewPast}

abbrev pub tail : List ℕ → List ℕ
tail [] = []
tail (x ∷ xs) = xs

abbrev Seated : Type 0 → Type 0 → Type 0 → Type 0
Seated T O E = Me T (View O E)

module _ {O E : Type 0} where
  -- the first pass of a lock
  abbrev pub first_view : O → View O E
  first_view o = record {
    of = record {};
    live = 1;
    holds = 0;
    waits = [];
    left = FIRST_TURNS;
    number = 0;
    spare = 0;
    tries = 1;
    made = 1;
    owns = 0 ∷ [];
    origin = o ∷ [];
    root = o ∷ [];
    seen = [];
    other = [];
  }

  -- what is left of a pass that was joined into another
  abbrev pub spent : View O E
  spent = record {
    of = record {};
    live = 0;
    holds = 0;
    waits = [];
    left = 0;
    number = 0;
    spare = 0;
    tries = 0;
    made = 0;
    owns = [];
    origin = [];
    root = [];
    seen = [];
    other = [];
  }

  abbrev pub queued : ℕ → View O E → View O E
  queued ticket v = record v { waits = ticket ∷ []; left = v.left - 1 }

  abbrev pub holding : List E → View O E → View O E
  holding log v = record v { holds = 1; seen = log }

  abbrev pub resting : View O E → View O E
  resting v = record v { holds = 0; waits = [] }

  -- a pass after a turn
  abbrev pub after_turn : List E → View O E → View O E
  after_turn log v = resting (holding log (queued 0 v))

  -- it has drawn a number for a new pass
  abbrev pub sparing : ℕ → View O E → View O E
  sparing n v = record v { spare = n; tries = v.tries + 1; made = n + 1; owns = n ∷ v.owns }

  -- it knows that each number is taken
  abbrev pub worn : View O E → View O E
  worn v = record v { made = MOST_PASSES; tries = v.tries - 1 }

  -- what a split leaves
  abbrev pub kept_part : View O E → View O E
  kept_part v = record v { spare = 0; tries = v.tries - 1; left = v.left - SPLIT_TURNS; owns = tail v.owns }

  -- the new pass of a split
  abbrev pub new_part : View O E → View O E
  new_part v = record v { holds = 0; waits = []; left = SPLIT_TURNS; number = v.spare; spare = 0; tries = 1; owns = v.spare ∷ []; other = [] }

  -- a pass that another was joined into
  abbrev pub both : View O E → View O E → View O E
  both v w = record v { tries = v.tries + w.tries; made = max v.made w.made; owns = v.owns ++ w.owns; root = w.origin; other = w.seen }

  abbrev pub knowing : List E → View O E → View O E
  knowing log v = record v { seen = log; other = [] }

  -- a pass between two calls
  pub record IsIdle (v : View O E) : Type 0 where
    pub live : v.live ≡ 1
    pub holds : v.holds ≡ 0
    pub waits : v.waits ≡ []
    pub spare : v.spare ≡ 0
    pub other : v.other ≡ []

  module _ {T : Type 0} where
    -- a ticket was drawn
    abbrev pub drew : Step T → Seated T O E → ℕ → Seated T O E → Type 0
    drew st m r n = n ≡ (queued r m.0, m.1)

    -- the entries were added
    abbrev pub counted : List E → Step T → Seated T O E → ℕ → Seated T O E → Type 0
    counted added st m r n = n ≡ (holding (added ++ m.0.seen) m.0, m.1)

    -- the value was put back, and the next ticket is served
    abbrev pub passed_on : Step T → Seated T O E → ℕ → Seated T O E → Type 0
    passed_on st m r n = n ≡ (resting m.0, rest m.1)

    -- a bell was rung
    abbrev pub rang : Step T → Seated T O E → ℕ → Seated T O E → Type 0
    rang st m r n = n ≡ m

    module _ (stands : T → O → List E → Type 0) (by : E → ℕ) where
      -- the value was taken. Since the pass saw the history last, no entry of its own came
      pub record Took (m n : Seated T O E) : Type 0 where
        pub value : T
        pub between : List E
        pub now : n ≡ (holding (between ++ m.0.seen) m.0, (0, value) ∷ m.1)
        pub others : NoneBy by m.0.number between
        pub stood : (o : O) → m.0.origin ≡ o ∷ [] → stands value o (between ++ m.0.seen)

      -- the ticket is served, and the value was taken; or it is not served yet
      abbrev pub looked : Step T → Seated T O E → ℕ → Seated T O E → Type 0
      looked st m r n = (m.0.waits ≡ r ∷ [] → Took m n) × (m.0.waits ≢ r ∷ [] → n ≡ m)

      -- a number was drawn
      abbrev pub numbered : Step T → Seated T O E → ℕ → Seated T O E → Type 0
      numbered st m r n =
          (r < MOST_PASSES → (n ≡ (sparing r m.0, m.1)) × (0 < r) × (m.0.made ≤ r) × NoneBy by r m.0.seen)
          × (MOST_PASSES ≤ r → n ≡ (worn m.0, m.1))

      -- the whole history was seen
      pub record Learned (m n : Seated T O E) : Type 0 where
        pub log : List E
        pub now : n ≡ (knowing log m.0, m.1)
        pub mine : GrewPast by m.0.number m.0.seen log
        pub theirs : Grew m.0.other log
        pub one : m.0.root ≡ m.0.origin
        pub few : length m.0.owns ≤ MOST_PASSES
        pub stood : (o : O) → m.0.origin ≡ o ∷ [] → (value : T) × stands value o log

      abbrev pub learned : Step T → Seated T O E → ℕ → Seated T O E → Type 0
      learned st m r n = Learned m n
