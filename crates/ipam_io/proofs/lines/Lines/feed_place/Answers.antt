use Rattle.std.proofs.Common.{◌≡◌, ℕ, ◌+◌, ◌-◌, ◌≤◌, List, length, take, drop, min, subst, sym, ap, ◌∙◌, arith}
use Rattle.std.specs.Prelude.{IfNone}
use Rattle.ipam_io.specs.Feeds.{HasNoFeed, IsFirstFeed}
use Rattle.ipam_io.proofs.FeedLemmas.{HasNoFeed-front, HasNoFeed-joined, IsFirstFeed-joined}
use Rattle.ipam_io.proofs.lines.Lines.feed_place.Goals as goal

pub returns-then-end-searched-clause-none : goal.returns-then-end-searched-clause-none
returns-then-end-searched-clause-none g c =
    let short : min (length c.args.self.now) g.row.LIMIT ≤ c.args.searched =
    subst (λ (bytes : List ℕ). min (length bytes) g.row.LIMIT ≤ c.args.searched) c.held-held.ensures
    (subst (λ n. n ≤ c.args.searched) c.min-end.ensures c.if-end-searched.true) in
    HasNoFeed-front c.args.self.now c.args.searched g.row.LIMIT short c.requires

pub returns-in_err-place-clause-none : goal.returns-in_err-place-clause-none
returns-in_err-place-clause-none g c =
    let bytes = c.args.self.now in
    let n = c.args.searched in
    let m = c.min-end.result - n in
    let after : HasNoFeed (take m (drop n bytes)) =
    subst (λ (b : List ℕ). HasNoFeed (take m (drop n b))) c.held-held.ensures c.in_err-place.ensures.none in
    let end : c.min-end.result ≡ min (length bytes) g.row.LIMIT =
    c.min-end.ensures ∙ ap (λ (b : List ℕ). min (length b) g.row.LIMIT) c.held-held.ensures in
    let far : min (length bytes) g.row.LIMIT ≤ n + m = omega arith in
    subst (λ r. IfNone r (HasNoFeed (take g.row.LIMIT bytes))) (sym c.from_residual.ensures)
    (HasNoFeed-front bytes (n + m) g.row.LIMIT far (HasNoFeed-joined bytes n m c.requires after))

pub returns-clause-first : goal.returns-clause-first
returns-clause-first g c =
    let n = c.args.searched in
    let m = c.min-end.result - n in
    let place = c.in_ok-place.place in
    let found = c.in_ok-place.ensures in
    subst (λ (b : List ℕ). IsFirstFeed b (n + place)) c.held-held.ensures
    (IsFirstFeed-joined c.held-held.result.now n m place
    (subst (λ (b : List ℕ). HasNoFeed (take n b)) (sym c.held-held.ensures) c.requires)
    found.within found.found found.before)
