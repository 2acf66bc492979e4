use Rattle.std.proofs.Common.{◌≡◌, ◌++◌, ◌∷◌, false, drop, map}
use Rattle.std.specs.Prelude.{string_bytes}
use Rattle.serde_json.specs.Written.{members_text}
use Rattle.ipam_json.specs.Built.{members_from}
use Rattle.ipam_block_text.proofs.PairKeys.{pair_field}
use Rattle.ipam_block_text.proofs.writing.push_ascending.Given as goal

-- what is written, with the text of what is left, is the whole
abbrev pub invariant-loop-pair : goal.invariant-loop-pair
invariant-loop-pair l =
    string_bytes l.out ++ members_text l.later (members_from (map pair_field (drop l.pair-index l.pairs)))
    ≡ string_bytes l.fn.out ++ 123 ∷ members_text false (members_from (map pair_field l.pairs))
