use Rattle.std.proofs.Common.{◌≡◌, ◌<◌, List, take, length, ℕ, sym, ◌∙◌, subst, arith, Option, Err}
use Rattle.std.specs.Prelude.{Contains}
use Rattle.ipam_io.specs.Feeds.{HasNoFeed, IsLine}
use Rattle.ipam_io.proofs.FeedLemmas.{HasNoFeed-whole, none_held}
use Rattle.ipam_io.specs.Lines.{OnReadFault}
use Rattle.ipam_io.specs.declared.lines.LinesFault.{LinesFault}
use Rattle.ipam_io.specs.declared.lines.LinesFault.TheVariants.{TooLong, Read, Memory}
use Rattle.ipam_io.proofs.lines.Lines.fetch.Goals as goal

-- bytes that were searched in vain and are fewer than the limit may be a line
may_be_line : (limit : ℕ) (bytes held : List ℕ) → held ≡ bytes → length held < limit → HasNoFeed (take limit bytes) → IsLine limit bytes
may_be_line limit bytes held same short none =
    let within : length bytes < limit = subst (λ (b : List ℕ). length b < limit) same short in
    (HasNoFeed-whole bytes limit (omega arith) none, within)

-- the bytes that were held at first were not searched in vain
not_in_vain : (limit : ℕ) (first bytes : List ℕ) → bytes ≡ first → HasNoFeed (take limit bytes) → Contains (take limit first) 10 → ⊥
not_in_vain limit first bytes same none held =
    none_held (take limit first) (subst (λ (b : List ℕ). HasNoFeed (take limit b)) same none) held

-- what holds anyway holds on a fault
on_fault : (fault : LinesFault) (P : Type 0) → P → OnReadFault {T = Option ℕ} (Err fault) P
on_fault TooLong P p = tt
on_fault Read P p = p
on_fault Memory P p = tt

pub returns-in-Ok-eq0-clause-end : goal.returns-in-Ok-eq0-clause-end
returns-in-Ok-eq0-clause-end g c =
    let line = may_be_line g.row.LIMIT c.loop-place.self c.held-searched.result.now c.held-searched.ensures c.if-searched.false c.in_default.ensures.none in
    let ended = c.in-Ok-eq0.ensures.end c.in-Ok-eq0.field-0-test in
    (subst (IsLine g.row.LIMIT) (sym ended.0) line, ended.1)

pub returns-in-Ok-eq0-clause-no_read : goal.returns-in-Ok-eq0-clause-no_read
returns-in-Ok-eq0-clause-no_read g c held =
    let same = c.loop-place.invariant.no_read held in
    absurd (not_in_vain g.row.LIMIT c.args.self.now c.loop-place.self same.0 c.in_default.ensures.none held)

pub loop-place-preserved : goal.loop-place-preserved
loop-place-preserved g c =
    let bytes = c.loop-place.self in
    let none : HasNoFeed bytes =
    (may_be_line g.row.LIMIT bytes c.held-searched.result.now c.held-searched.ensures c.if-searched.false c.in_default.ensures.none).0 in
    record {
      bytes = c.loop-place.invariant.bytes ∙ c.read_more.ensures.bytes;
      searched = subst (λ (b : List ℕ). HasNoFeed (take (length b) c.read_more.new.self)) (sym c.held-searched.ensures)
          (subst HasNoFeed (sym c.read_more.ensures.front) none);
      no_read = λ held.
          let same = c.loop-place.invariant.no_read held in
          absurd (not_in_vain g.row.LIMIT c.args.self.now bytes same.0 c.in_default.ensures.none held);
      faults = c.in-Ok.ensures.no_fault ∙ c.loop-place.invariant.faults;
      rest = c.read_more.ensures.rest ∙ c.loop-place.invariant.rest;
    }

pub returns-in-Err-clause-read_fault : goal.returns-in-Err-clause-read_fault
returns-in-Err-clause-read_fault g c =
    let line = may_be_line g.row.LIMIT c.loop-place.self c.held-searched.result.now c.held-searched.ensures c.if-searched.false c.in_default.ensures.none in
    on_fault c.in-Err.fault (IsLine g.row.LIMIT c.read_more.new.self) (subst (IsLine g.row.LIMIT) (sym c.in-Err.ensures.kept) line)

pub returns-in-Err-clause-no_read : goal.returns-in-Err-clause-no_read
returns-in-Err-clause-no_read g c held =
    let same = c.loop-place.invariant.no_read held in
    absurd (not_in_vain g.row.LIMIT c.args.self.now c.loop-place.self same.0 c.in_default.ensures.none held)
