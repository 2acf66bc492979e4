use Rattle.std.proofs.Common.{◌≡◌, length, nat_lt, not, ◌&&◌, ◌||◌, ap, sym, ◌∙◌, rules}
use Rattle.ipam_records.specs.declared.key.Kind.TheVariants as kind
use Rattle.ipam_records.specs.Datastore.{rows_of_kind}
use Rattle.ipam_store.specs.Shape.{StoreValue}
use Rattle.ipam_store.specs.Keeping.{lists_in}
use Rattle.ipam_store.proofs.Shelves.{listed-shelved}
use Rattle.ipam_store.proofs.Kept.{room_left}
use Rattle.ipam_store.proofs.store.Store.has_room.Goals as goal

pub returns-else-not-is_block : goal.returns-else-not-is_block
returns-else-not-is_block c =
    let count : c.len.result ≡ length c.self.inside.blocks.rows = search rules in
    let blocks : c.len.result ≡ length (rows_of_kind kind.Block c.args.self.now.store) =
    count ∙ ap length (sym (listed-shelved kind.Block (lists_in c.self.inside) c.self.invariant.shelved))
    ∙ ap (λ (v : StoreValue). length (rows_of_kind kind.Block v.store)) c.self.view_is in
    sym (room_left c.rows.result c.len.result c.is_block.result c.if-rows-lt-MOST_ROWS.true c.if-not-is_block.false)
    ∙ (λ i. nat_lt (c.rows.ensures i) 262144 && (not (c.is_block.ensures i) || nat_lt (blocks i) 16384))
