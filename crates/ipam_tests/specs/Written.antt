-- What a write adds to a book.
use Rattle.std.specs.Prelude.{◌≡◌, ℕ, Bool, true, false, List, [], ◌∷◌, ◌++◌}
use Rattle.turn_lock.specs.Histories.{NoneBy}
use Rattle.ipam_tests.specs.declared.book.Note.{Note}
use Rattle.ipam_tests.specs.declared.book.Write.{Write}

-- the note, where it was written
abbrev pub noted : Note → Bool → List Note
noted note true = note ∷ []
noted note false = []

abbrev pub written : Write → Bool → List Note
written write wrote = noted write.note wrote

-- others wrote, and then the note was
abbrev pub Wrote : Note → Bool → ℕ → List Note → List Note → Type 0
Wrote note wrote n seen seen' = (between : List Note) × (seen' ≡ noted note wrote ++ between ++ seen) × NoneBy (λ (it : Note). it.by) n between
