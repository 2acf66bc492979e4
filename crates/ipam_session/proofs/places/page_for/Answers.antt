use Rattle.std.proofs.Common.{ℕ, arith, rules}
use Rattle.std.specs.Global.{Vec}
use Rattle.std.proofs.lemmas.List.Elements.{All-nil}
use Rattle.std.proofs.lemmas.List.Sorted.{IsPartitionPoint-from_clause}
use Rattle.ipam_records.specs.declared.record.Record.{Record}
use Rattle.ipam_records.specs.KeyRef.{owned_key}
use Rattle.ipam_store.specs.Places.{IsBefore, begins_by}
use Rattle.ipam_store.proofs.Paging.{page_at_point, pages_parted}
use Rattle.ipam_session.proofs.places.page_for.Goals as goal

pub returns-then-after-eq0-clause-before : goal.returns-then-after-eq0-clause-before
returns-then-after-eq0-clause-before c = All-nil (IsBefore (owned_key c.args.key.now))

pub returns-clause-before : goal.returns-clause-before
returns-clause-before c =
    let key = owned_key c.args.key.now in
    let pages = c.args.pages.now in
    let point = c.partition_point-after in
    let bound = point.ensures.bound in
    let some = c.if-after-eq0.false in
    let parted = IsPartitionPoint-from_clause (λ (page : Vec (ℕ × Record)). begins_by key page.items) pages point.result point.ensures.partitioned (pages_parted pages c.requires.ascend c.requires.filled key) (λ a r f called. (search rules, search rules)) in
    (page_at_point pages c.requires.ascend c.requires.filled key point.result (omega arith) bound parted).before
