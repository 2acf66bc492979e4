use Rattle.std.proofs.Common.{◌≡◌, ◌++◌, ◌∷◌, false, drop}
use Rattle.std.specs.Prelude.{string_bytes}
use Rattle.serde_json.specs.Written.{members_text}
use Rattle.ipam_block_text.specs.Stamps.{stamp_members}
use Rattle.ipam_block_text.proofs.writing.push_stamps.Given as goal

-- what is written, with the text of what is left, is the whole
abbrev pub invariant-loop-stamp : goal.invariant-loop-stamp
invariant-loop-stamp l =
    string_bytes l.out ++ members_text l.later (stamp_members (drop l.stamp-index l.stamps))
    ≡ string_bytes l.fn.out ++ 123 ∷ members_text false (stamp_members l.stamps)
