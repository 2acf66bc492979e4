-- What a caller sees of a pass, and what a turn does.
use Rattle.std.specs.Prelude.{◌≡◌, ◌≢◌, ℕ, ◌+◌, ◌<◌, ◌≤◌, List, [], ◌∷◌, ◌++◌, length}
use base.Stored.{Coded, coded×, coded_ℕ, coded_list, coded_via}
use Rattle.atomic_table.specs.Seated.{TableId, table_id_coded}
use Rattle.atomic_table.specs.declared.shared.Seat.{Seat}
use Rattle.turn_lock.specs.declared.limits.TheConstants.{MOST_PASSES, SPLIT_TURNS, WORDS}
use Rattle.turn_lock.specs.declared.view.View.{View}
use Rattle.turn_lock.specs.Histories.{NoneBy, AtMostOneBy}
use Rattle.turn_lock.specs.Moves.{spent, IsIdle}

-- which lock a pass is of, its turns and numbers, and the history that it has seen: where that starts, and the entries, the newest first
pub record Pass (O E : Type 0) : Type 0 where
  pub lock : TableId
  pub left : ℕ
  pub number : ℕ
  pub made : ℕ
  pub joined : ℕ
  pub origin : List O
  pub seen : List E

abbrev pub pass_coded : {O E : Type 0} → Coded O → Coded E → Coded (Pass O E)
pass_coded {O} {E} c d = coded_via (coded× table_id_coded (coded× coded_ℕ (coded× coded_ℕ (coded× coded_ℕ (coded× coded_ℕ (coded× (coded_list c) (coded_list d)))))))
    (λ (p : Pass O E). (p.lock, (p.left, (p.number, (p.made, (p.joined, (p.origin, p.seen)))))))
    (λ x y e i. record { lock = (e i).0; left = (e i).1.0; number = (e i).1.1.0; made = (e i).1.1.1.0; joined = (e i).1.1.1.1.0; origin = (e i).1.1.1.1.1.0; seen = (e i).1.1.1.1.1.1 })

abbrev pub view_of : {O E : Type 0} → List (View O E) → View O E
view_of [] = spent
view_of (v ∷ vs) = v

-- what the numbers of a pass say of its view
pub record IsPass {O E : Type 0} (views : List (View O E)) (left number made joined : ℕ) : Type 0 where
  pub one : views ≡ view_of views ∷ []
  pub idle : IsIdle (view_of views)
  pub low : number < made
  pub few : made ≤ MOST_PASSES
  pub left_is : (view_of views).left ≡ left
  pub number_is : (view_of views).number ≡ number
  pub made_is : (view_of views).made ≡ made
  pub rooted : (origin : O) × ((view_of views).origin ≡ origin ∷ [])
  pub joined_is : length (view_of views).owns ≡ joined + 1

-- the value that is out with a seat
abbrev pub held_or : {T : Type 0} → T → List (ℕ × T) → T
held_or d [] = d
held_or d (x ∷ xs) = x.1

-- what a step makes of a value that stands for a history: the entries are added to it
abbrev pub Adds : {T O E : Type 0} → (T → O → List E → Type 0) → T → T → List E → Type 0
Adds {T} {O} {E} stands before after added = (o : O) (history : List E) → stands before o history → stands after o (added ++ history)

-- some value stands for what was seen
abbrev pub Stood : {T O E : Type 0} → (T → O → List E → Type 0) → List O → List E → Type 0
Stood {T} {O} {E} stands origin seen = (from : O) × (origin ≡ from ∷ []) × ((value : T) × stands value from seen)

module _ {T O E : Type 0} (stands : T → O → List E → Type 0) (by : E → ℕ) where
  -- A turn of the pass n, from the history that it had seen. `between` came from other passes, and then the step did what it does and added what it adds.
  pub record Turned (does : T → T → Type 0) (adds : T → T → List E) (n : ℕ) (origin : List O) (seen seen' : List E) : Type 0 where
    pub before : T
    pub after : T
    pub from : O
    pub between : List E
    pub origin_is : origin ≡ from ∷ []
    pub stood : stands before from (between ++ seen)
    pub others : NoneBy by n between
    pub did : does before after
    pub seen_is : seen' ≡ adds before after ++ between ++ seen
    pub adds_own : AtMostOneBy by n (adds before after)
    pub stands_now : stands after from seen'

  -- Each value that may be met in a turn of the pass n may be run on: it stands for what the pass had seen, with entries of others
  abbrev pub MayRun : (T → Type 0) → ℕ → List O → List E → Type 0
  MayRun can n origin seen = (value : T) (from : O) (between : List E) → origin ≡ from ∷ [] → NoneBy by n between → stands value from (between ++ seen) → can value

  -- the value stands for a history that the pass n has seen, but for entries of others
  abbrev pub StandsPast : T → ℕ → List O → List E → Type 0
  StandsPast value n origin seen = (from : O) × (origin ≡ from ∷ []) × ((later : List E) × stands value from (later ++ seen) × NoneBy by n later)

-- a lock's table has four words, a bell for each pass, and one slot
abbrev pub IsDesk : TableId → Type 0
IsDesk z = (z.words ≡ WORDS) × (z.slots ≡ 1)

abbrev pub IsSameSeat : {S V : Type 0} → Seat S V → Seat S V → Type 0
IsSameSeat a b = (b.table_id ≡ a.table_id) × (b.id ≡ a.id)

-- the pass p was split, which left p', into it and the new pass q
pub record IsSplit {O E : Type 0} (p p' q : Pass O E) : Type 0 where
  pub enough : SPLIT_TURNS < p.left
  pub left : p'.left + SPLIT_TURNS ≡ p.left
  pub share : q.left ≡ SPLIT_TURNS
  pub number : (p.made ≤ q.number) × (q.number < MOST_PASSES) × (q.number ≢ p.number)
  pub made : (q.made ≡ q.number + 1) × (p'.made ≡ q.number + 1)
  pub alone : q.joined ≡ 0
  pub lock : q.lock ≡ p.lock
  pub origin : q.origin ≡ p.origin
  pub seen : q.seen ≡ p.seen
