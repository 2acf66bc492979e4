use Rattle.std.proofs.Common.{rules, ℕ, ◌-◌, subst}
use Rattle.std.specs.Global.{Vec}
use Rattle.std.proofs.lemmas.List.Sorted.{IsPartitionPoint-from_clause}
use Rattle.ipam_records.specs.declared.record.Record.{Record}
use Rattle.ipam_records.specs.KeyRef.{owned_key}
use Rattle.ipam_store.specs.Places.{begins_by}
use Rattle.ipam_store.specs.Page.{IsPageFor}
use Rattle.ipam_store.proofs.Paging.{pages_parted, page_at_point}
use Rattle.ipam_store.proofs.pages.page_for.Goals as goal

pub returns-then-after-eq0 : goal.returns-then-after-eq0
returns-then-after-eq0 c =
    let key = owned_key c.args.key.now in
    let parted = IsPartitionPoint-from_clause (λ (page : Vec (ℕ × Record)). begins_by key page.items) c.args.pages.now c.partition_point-after.result c.partition_point-after.ensures.partitioned (pages_parted c.args.pages.now c.requires.ascend c.requires.filled key) (λ a r f called. (search rules, search rules)) in
    let page = page_at_point c.args.pages.now c.requires.ascend c.requires.filled key c.partition_point-after.result c.requires.some c.partition_point-after.ensures.bound parted in
    subst (λ p. IsPageFor c.args.pages.now key (p - 1)) c.if-after-eq0.true page

pub returns : goal.returns
returns c =
    let key = owned_key c.args.key.now in
    let parted = IsPartitionPoint-from_clause (λ (page : Vec (ℕ × Record)). begins_by key page.items) c.args.pages.now c.partition_point-after.result c.partition_point-after.ensures.partitioned (pages_parted c.args.pages.now c.requires.ascend c.requires.filled key) (λ a r f called. (search rules, search rules)) in
    page_at_point c.args.pages.now c.requires.ascend c.requires.filled key c.partition_point-after.result c.requires.some c.partition_point-after.ensures.bound parted
