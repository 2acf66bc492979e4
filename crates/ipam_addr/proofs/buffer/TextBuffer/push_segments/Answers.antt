use Rattle.std.proofs.Common.{◌+◌, ◌++◌, ◌∙◌, sym, ap}
use Rattle.std.proofs.lemmas.List.{take_rest}
use Rattle.std.specs.Net.Text.{groups_text}
use Rattle.ipam_addr.proofs.BufferLemmas.{hex_groups_text-elided, hex_groups_text-whole, written_elided}
use Rattle.ipam_addr.proofs.buffer.TextBuffer.push_segments.Goals as goal

pub returns-then-len-gt1-clause-text : goal.returns-then-len-gt1-clause-text
returns-then-len-gt1-clause-text c =
    let text = hex_groups_text-elided c.args.segments.now c.longest_zero_run-start.result.0 c.longest_zero_run-start.result.1 (sym c.longest_zero_run-start.ensures.value) c.if-len-gt1.true in
    let rest = take_rest c.args.segments.now (c.longest_zero_run-start.result.0 + c.longest_zero_run-start.result.1) in
    rw text (written_elided c.args.self.now _ _ _ _ _ _ c.push_groups.ensures.text c.push.ensures c.push-then-len-gt1.ensures (c.push_groups-then-len-gt1.ensures.text ∙ ap (λ t. c.push-then-len-gt1.new.self ++ groups_text t) rest))

pub returns-else-len-gt1-clause-text : goal.returns-else-len-gt1-clause-text
returns-else-len-gt1-clause-text c =
    let text = hex_groups_text-whole c.args.segments.now c.longest_zero_run-start.result.0 c.longest_zero_run-start.result.1 (sym c.longest_zero_run-start.ensures.value) c.if-len-gt1.false in
    rw text c.push_groups-else-len-gt1.ensures.text
