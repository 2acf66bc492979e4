-- What is drawn: numbers from a state of 64 bits.
use Rattle.std.specs.Prelude.{ℕ, ◌+◌, ◌*◌, ◌/◌, ◌%◌, ◌^◌}

-- the state after a draw
unfoldable pub next_state : ℕ → ℕ
next_state x = (6364136223846793005 * x + 1442695040888963407) % 2 ^ 64

-- what a draw below m gives, from the state before it
unfoldable pub draw : (m x : ℕ) → ℕ
draw m x = next_state x / 2 ^ 33 % m
