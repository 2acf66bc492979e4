use Rattle.std.proofs.Common.{◌≡◌, ◌++◌, ◌∷◌, false, drop, map}
use Rattle.std.specs.Prelude.{string_bytes}
use Rattle.serde_json.specs.View.{items_of}
use Rattle.serde_json.specs.Written.{items_text}
use Rattle.ipam_block_text.specs.Body.{place_data}
use Rattle.ipam_block_text.proofs.writing.push_places.Given as goal

-- what is written, with the text of what is left, is the whole
abbrev pub invariant-loop-place : goal.invariant-loop-place
invariant-loop-place l =
    string_bytes l.out ++ items_text l.later (items_of (map place_data (drop l.place-index l.places)))
    ≡ string_bytes l.fn.out ++ 91 ∷ items_text false (items_of (map place_data l.places))
