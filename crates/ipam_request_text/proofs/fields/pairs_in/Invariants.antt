use Rattle.std.proofs.Common.{◌≡◌}
use Rattle.serde_json.specs.View.{view, members_view}
use Rattle.ipam_request_text.specs.Fields.{pairs_after, pairs_in}
use Rattle.ipam_request_text.proofs.fields.pairs_in.Given as goal

-- what was found so far, and what the other members hold
abbrev pub invariant-loop-key : goal.invariant-loop-key
invariant-loop-key l = pairs_after l.pairs.items (members_view l.key-iterator) ≡ pairs_in (view l.value)
