-- What holds of a lock's table between any two steps.
-- Its words are the next ticket, the ticket that is served, the number of entries, the next number of a pass, and the bells, which may have any value.
-- Its one slot has the value.
use Rattle.std.specs.Prelude.{◌≡◌, ◌≢◌, ◌⊎◌, ℕ, ◌+◌, ◌%◌, ◌<◌, ◌≤◌, ◌==◌, min, List, [], ◌∷◌, ◌++◌, length, if◌then◌else◌}
use mathlib.Core.Option.{none, some}
use lib.ListN.{get_elem?}
use Rattle.atomic_table.specs.Table.{State}
use Rattle.turn_lock.specs.declared.limits.TheConstants.{FIRST_TURNS, MOST_PASSES}
use Rattle.turn_lock.specs.declared.view.View.{View}
use Rattle.turn_lock.specs.Histories.{NoneBy, Grew}

-- how often k is in the list
abbrev pub times : ℕ → List ℕ → ℕ
times k [] = 0
times k (x ∷ xs) = (if k == x then 1 else 0) + times k xs

-- f of each, added up
abbrev pub total : {V : Type 0} → (V → ℕ) → List V → ℕ
total f [] = 0
total f (v ∷ vs) = f v + total f vs

-- what holds of one view's numbers
pub record Numbers (next : ℕ) (live number spare tries made : ℕ) (owns : List ℕ) : Type 0 where
  pub low : made ≤ next
  pub few : made ≤ MOST_PASSES
  pub known : (k : ℕ) → made ≤ k → times k owns ≡ 0
  pub able : live ≡ 1 → made < MOST_PASSES → 0 < tries
  pub own : live ≡ 1 → 0 < times number owns
  pub spared : 0 < spare → (spare + 1 ≡ made) × (0 < times spare owns) × (spare ≢ number) × (1 < tries)

module _ {O E : Type 0} where
  abbrev pub waiting : ℕ → View O E → ℕ
  waiting t v = times t v.waits

  abbrev pub owning : ℕ → View O E → ℕ
  owning k v = times k v.owns

  abbrev pub held : View O E → ℕ
  held v = v.holds

  abbrev pub turns : View O E → ℕ
  turns v = v.left

  abbrev pub draws : View O E → ℕ
  draws v = v.tries

  -- a pass knows that k was drawn, and has a lower number
  abbrev pub Drawn : List (View O E) → ℕ → Type 0
  Drawn views k = (j : ℕ) × (v : View O E) × (get_elem? views j ≡ some v) × (k < v.made) × ((i : ℕ) × (i < k) × (0 < times i v.owns))

  -- each number that was drawn has one owner, and whoever drew it knows so
  pub record Numbered (next : ℕ) (views : List (View O E)) : Type 0 where
    pub one : (k : ℕ) → k < min next MOST_PASSES → total (owning k) views ≡ 1
    pub none_yet : (k : ℕ) → min next MOST_PASSES ≤ k → total (owning k) views ≡ 0
    pub drawn : (k : ℕ) → 0 < k → k < min next MOST_PASSES → Drawn views k
    pub credit : total draws views ≤ next
    pub bound : next + total draws views ≤ 128
    pub each : (j : ℕ) (v : View O E) → get_elem? views j ≡ some v → Numbers next v.live v.number v.spare v.tries v.made v.owns

  module _ (by : E → ℕ) where
    -- what a pass knows of the history
    pub record Knows (origin : O) (log : List E) (live holds number spare : ℕ) (from root : List O) (seen other : List E) : Type 0 where
      pub same : live ≡ 1 → from ≡ origin ∷ []
      pub rooted : live ≡ 1 → root ≡ origin ∷ []
      pub later : List E
      pub grew : live ≡ 1 → log ≡ later ++ seen
      pub others : live ≡ 1 → NoneBy by number later
      pub beside : live ≡ 1 → Grew other log
      pub newest : holds ≡ 1 → (live ≡ 1) × (later ≡ [])
      pub unused : 0 < spare → NoneBy by spare log

  -- the value is at home and stands for the history, and no pass has it out; or one has
  abbrev pub Home : {T : Type 0} → (T → O → List E → Type 0) → O → List E → List (mathlib.Core.Option.Option T) → List (View O E) → Type 0
  Home {T} stands origin log homes views = ((total held views ≡ 0) × ((y : T) × (homes ≡ some y ∷ []) × stands y origin log)) ⊎ ((total held views ≡ 1) × (homes ≡ none ∷ []))

  module _ {T : Type 0} (stands : T → O → List E → Type 0) (by : E → ℕ) where
    pub record Kept (origin : O) (s : State T (View O E)) : Type 0 where
      pub ticket : ℕ
      pub serving : ℕ
      pub next : ℕ
      pub bells : List ℕ
      pub log : List E
      pub words : s.words ≡ ticket ∷ serving ∷ length log % 18446744073709551616 ∷ next ∷ bells
      pub served : serving ≤ ticket
      pub fits : ticket + total turns s.views ≤ FIRST_TURNS
      pub apart : (t : ℕ) → total (waiting t) s.views ≤ 1
      pub to_come : (t : ℕ) → ticket ≤ t → total (waiting t) s.views ≡ 0
      pub queue : (j : ℕ) (v : View O E) → get_elem? s.views j ≡ some v → v.holds ≤ times serving v.waits
      pub knows : (j : ℕ) (v : View O E) → get_elem? s.views j ≡ some v → Knows by origin log v.live v.holds v.number v.spare v.origin v.root v.seen v.other
      pub home : Home stands origin log s.homes s.views
      pub stood : (value : T) × stands value origin log
      pub numbered : Numbered next s.views
      pub fresh : (n : ℕ) → next ≤ n → NoneBy by n log
