use Rattle.std.proofs.Common.{◌≡◌, true, false, rules}
use Rattle.ipam_records.specs.KeyRef.{owned_key}
use Rattle.ipam_store.specs.Places.{begins_by}
use Rattle.ipam_store.proofs.Paging.{later_half, earlier_half}
use Rattle.ipam_store.proofs.pages.half_for.Goals as goal

pub returns-then-begins_by_key-clause-page : goal.returns-then-begins_by_key-clause-page
returns-then-begins_by_key-clause-page c =
    let page = c.index-pages-at.result in
    let begins : begins_by (owned_key c.args.key.now) page.items ≡ true = search rules in
    later_half c.args.pages.now c.requires.ascend c.requires.filled (owned_key c.args.key.now) c.args.at page c.requires.within (rw c.index-pages-at.is at begins) c.requires.behind

pub returns-else-begins_by_key-clause-page : goal.returns-else-begins_by_key-clause-page
returns-else-begins_by_key-clause-page c =
    let page = c.index-pages-at.result in
    let begins : begins_by (owned_key c.args.key.now) page.items ≡ false = search rules in
    earlier_half c.args.pages.now c.requires.ascend c.requires.filled (owned_key c.args.key.now) c.args.at page c.requires.within (rw c.index-pages-at.is at begins) c.requires.before
