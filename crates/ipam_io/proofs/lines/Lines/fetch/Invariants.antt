-- The bytes that are searched hold no line feed, and every byte that was read is held.
use Rattle.std.proofs.Common.{◌≡◌, ◌-◌, length, take}
use Rattle.std.specs.Prelude.{Contains}
use Rattle.std.specs.Io.KnownBytes.{prepend_known}
use Rattle.ipam_io.specs.Feeds.{HasNoFeed}
use Rattle.ipam_io.proofs.lines.Lines.fetch.Given as goal

abbrev pub invariant-loop-place : goal.invariant-loop-place
invariant-loop-place g l = record {
  bytes : prepend_known l.fn.self (g.S.Source.left l.fn.source) ≡ prepend_known l.self (g.S.Source.left l.source);
  searched : HasNoFeed (take l.searched l.self);
  no_read : Contains (take g.row.LIMIT l.fn.self) 10 → (l.self ≡ l.fn.self) × (l.source ≡ l.fn.source);
  faults : g.S.Source.read_faults l.source ≡ g.S.Source.read_faults l.fn.source;
  rest : g.S.Source.read_rest l.source ≡ g.S.Source.read_rest l.fn.source;
}

abbrev pub decreases-loop-place : goal.decreases-loop-place
decreases-loop-place g l = g.row.LIMIT - length l.self
