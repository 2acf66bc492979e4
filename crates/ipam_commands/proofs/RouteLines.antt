-- The lines of rows one after the other.
use Rattle.std.proofs.Common.{◌≡◌, ℕ, List, [], ◌∷◌, ◌++◌, refl, append_assoc}
use Rattle.ipam_model.specs.Reads.{StoredRecord}
use Rattle.ipam_commands.specs.Texts.{route_lines}

pub route_lines-append : (node : List ℕ) (rows more : List StoredRecord) → route_lines node (rows ++ more) ≡ route_lines node rows ++ route_lines node more
route_lines-append node [] more = refl
route_lines-append node (row ∷ rows) more = rw (route_lines-append node rows more, append_assoc)
