use Rattle.std.proofs.Common.{List, ℕ}
use Rattle.ipam_play.specs.declared.gathering.Content.{Content}
use Rattle.ipam_play.proofs.Gatherings.{by_key, listed_all, listed_more}
use Rattle.ipam_play.proofs.gathering.Gathering.listed.Goals as goal

pub loop-key-preserved : goal.loop-key-preserved
loop-key-preserved c =
    let l = c.loop-key in
    let e : List ℕ × Content = (c.in-Some.key.now, c.in-Some.content.now) in
    listed_more e _ l.rows.items c.push.new.self.items _ l.key-iterator c.next.new.self c.in-Some.ensures.steps c.in_ok-copied.ensures c.in_ok-push.ensures.items l.invariant

pub returns-clause-rows : goal.returns-clause-rows
returns-clause-rows c = listed_all c.loop-key.rows.items _ c.loop-key.key-iterator c.in-None.ensures.steps.0 c.loop-key.invariant

pub returns-clause-by_key : goal.returns-clause-by_key
returns-clause-by_key c = by_key c.args.self.now.rows.entries c.len.ensures.ordered
