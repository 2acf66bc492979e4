use Rattle.std.proofs.Common.{◌≡◌, ◌++◌, ◌∷◌, false, drop, map}
use Rattle.std.specs.Prelude.{string_bytes}
use Rattle.serde_json.specs.View.{items_of}
use Rattle.serde_json.specs.Written.{items_text}
use Rattle.ipam_json.specs.Built.{whole_data}
use Rattle.ipam_block_text.proofs.writing.push_numbers.Given as goal

-- what is written, with the text of what is left, is the whole
abbrev pub invariant-loop-number : goal.invariant-loop-number
invariant-loop-number l =
    string_bytes l.out ++ items_text l.later (items_of (map whole_data (drop l.number-index l.numbers)))
    ≡ string_bytes l.fn.out ++ 91 ∷ items_text false (items_of (map whole_data l.numbers))
