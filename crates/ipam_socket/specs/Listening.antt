-- What is known of the connections that a listener accepts.
use Rattle.std.specs.Prelude.{◌≡◌, ℕ}
use Rattle.ipam_io.specs.Counts.{next_count}
use Rattle.ipam_socket.specs.declared.listening.Came.{Came}
use Rattle.ipam_socket.specs.declared.listening.Came.TheVariants.{One, Nobody, Woken, Passing}

-- the count of accepted connections: one more where one came, and else the same
abbrev pub CountsCame : {T : Type 0} → Came T → (accepted accepted' : ℕ) → Type 0
CountsCame (One connection) accepted accepted' = accepted' ≡ next_count accepted
CountsCame Nobody accepted accepted' = accepted' ≡ accepted
CountsCame Woken accepted accepted' = accepted' ≡ accepted
CountsCame (Passing cause) accepted accepted' = accepted' ≡ accepted
