use Rattle.std.proofs.Common.{◌≡◌, Some, subst, sym, ap, ◌∙◌}
use Rattle.ipam_records.specs.declared.key.Key.{Key}
use Rattle.ipam_records.specs.declared.key.Key.TheVariants as key
use Rattle.ipam_records.specs.declared.record.Record.TheVariants as record_of
use Rattle.ipam_records.specs.Key.{key_of}
use Rattle.ipam_records.specs.KeyRef.{owned_key}
use Rattle.ipam_records.specs.Datastore.{row_of, without_row}
use Rattle.ipam_records.proofs.DatastoreLemmas.{row_key-row_of}
use Rattle.ipam_records.proofs.BlockMembers.{IsBlockRow}
use Rattle.ipam_records.proofs.HearingLemmas.{All-row_of}
use Rattle.ipam_store.specs.Indexed.{IsIndexOf}
use Rattle.ipam_store.proofs.Listed.{not_block, IsIndexOf-without_row, without_row-none}
use Rattle.ipam_store.proofs.blocks.forget.Goals as goal

pub returns-in_default-clause-index : goal.returns-in_default-clause-index
returns-in_default-clause-index c =
    let k = owned_key c.args.key.now in
    subst (IsIndexOf c.args.index.now) (sym (without_row-none k c.args.rows.now.rows (sym c.in_default.ensures))) c.requires.index

pub returns-in-Block-clause-index : goal.returns-in-Block-clause-index
returns-in-Block-clause-index c =
    let k = owned_key c.args.key.now in
    let rows = c.args.rows.now.rows in
    let row = c.in-Some.row.now in
    let block = c.in-Block.block in
    let found : row_of k rows ≡ Some row = sym c.in-Some.ensures in
    let same : key.Block block.cidr ≡ k = sym (ap key_of c.in-Block.is) ∙ row_key-row_of k rows row found in
    let pair : row ≡ (row.0, record_of.Block block) = λ i. (row.0, c.in-Block.is i) in
    let here : row_of (key.Block block.cidr) rows ≡ Some (row.0, record_of.Block block) = ap (λ (n : Key). row_of n rows) same ∙ found ∙ ap Some pair in
    let facts = c.remove.ensures in
    subst (λ (n : Key). IsIndexOf c.remove.new.self (without_row n rows)) same
    (IsIndexOf-without_row row.0 block rows c.args.index.now c.remove.new.self facts.owned facts.unowned facts.roomy c.requires.blocks here c.requires.index)

pub returns-in_default-1₀ : goal.returns-in_default-1₀
returns-in_default-1₀ c =
    let k = owned_key c.args.key.now in
    let is = All-row_of IsBlockRow k c.args.rows.now.rows c.in-Some.row.now c.requires.blocks.blocks (sym c.in-Some.ensures) in
    absurd (not_block c.in-Some.row.now.1 is c.in_default-1₀.not-Block)
