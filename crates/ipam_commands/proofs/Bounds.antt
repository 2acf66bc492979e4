-- How many addresses may be owned.
use Rattle.std.proofs.Common.{arith, ◌≡◌, ℕ, ◌+◌, ◌*◌, ◌<◌, ◌≤◌, ◌^◌, List, [], ◌∷◌, ◌++◌, length, take, drop, ap, ◌∙◌, length-append}
use Rattle.std.proofs.lemmas.List.{length-map}
use Rattle.std.proofs.lemmas.List.FromFn.{length-range_with_len}
use Rattle.std.proofs.lemmas.List.Sorted.{length_permutation}
use Rattle.std.specs.List.{All}
use Rattle.std.proofs.lemmas.List.Elements.{All-filter, All-head, All-tail}
use Rattle.ipam_block.specs.Shape.{BlockValue}
use Rattle.ipam_block.specs.Sound.{IsBlock, held_ordinals, ordinals_below}
use Rattle.ipam_addr.specs.Width.{cidr_size}
use Rattle.ipam_records.specs.declared.record.Record.{Record}
use Rattle.ipam_records.specs.declared.record.Record.TheVariants as record_of
use Rattle.ipam_records.specs.declared.key.Kind.TheVariants as kind
use Rattle.ipam_records.specs.Datastore.{Datastore, most_blocks, row_key, rows_of_kind}
use Rattle.ipam_records.specs.KeyOrder.{is_of_kind}
use Rattle.ipam_records.specs.Sound.{IsDatastore, IsRow, IsRecord}
use Rattle.ipam_model.specs.Owners.{owners, owners_in, owners_in_row}
use Rattle.std.proofs.lemmas.Grind.{flat_map-append}
use Rattle.std.specs.Global.{Vec}
use Rattle.ipam_records.specs.Pages.{rows_of_pages}
use Rattle.ipam_records.proofs.RowSearch.{rows-take-drop}
use Rattle.ipam_commands.proofs.Listing.{owners-listed}

held_few : (b : BlockValue) → IsBlock b → length b.allocations ≤ 4096
held_few b is =
    let all = length_permutation (ordinals_below (cidr_size b.cidr)) (held_ordinals b.allocations ++ b.queue) is.each_once in
    let parts = length-append (held_ordinals b.allocations) b.queue in
    let held : length (held_ordinals b.allocations) ≡ length b.allocations = length-map b.allocations (λ a. a.ordinal) in
    let below = length-range_with_len 0 (cidr_size b.cidr) in
    let small = is.small in
    omega arith

few_in_record : (revision : ℕ) (kept : Record) → IsRecord kept → length (owners_in_row (revision, kept)) ≤ 4096
few_in_record revision (record_of.Config c) is = omega arith
few_in_record revision (record_of.Pools p) is = omega arith
few_in_record revision (record_of.Reservations r) is = omega arith
few_in_record revision (record_of.Block b) is = simp length-map (held_few b is.block)
few_in_record revision (record_of.Affinity a) is = omega arith
few_in_record revision (record_of.Handle h) is = omega arith

few_in : (counter : ℕ) (rows : List (ℕ × Record)) → All (IsRow counter) rows → length (owners_in rows) ≤ length rows * 4096
few_in counter [] all = omega arith
few_in counter (row ∷ rows) all =
    let first = few_in_record row.0 row.1 (All-head (IsRow counter) row rows all).is_record in
    let rest = few_in counter rows (All-tail (IsRow counter) row rows all) in
    simp length-append (omega arith)

-- so many in a datastore of so few blocks
pub owners_small : (store : Datastore) → IsDatastore store → length (rows_of_kind kind.Block store) ≤ most_blocks → length (owners store) < 2 ^ 64
owners_small store sound few =
    let blocks = rows_of_kind kind.Block store in
    let each = All-filter (λ row. is_of_kind kind.Block (row_key row)) (IsRow store.counter) store.rows sound.rows in
    let owned = few_in store.counter blocks each in
    let listed = ap length (owners-listed store) in
    omega arith

-- what is owned in a part of the pages is no more than in all of them
part_few : (before part behind : List (ℕ × Record)) → length (owners_in part) ≤ length (owners_in (before ++ (part ++ behind)))
part_few before part behind =
    let outer = ap length (flat_map-append owners_in_row before (part ++ behind)) in
    let inner = ap length (flat_map-append owners_in_row part behind) in
    let first = length-append (owners_in before) (owners_in (part ++ behind)) in
    let second = length-append (owners_in part) (owners_in behind) in
    omega arith

pub chunk_few : (pages : List (Vec (ℕ × Record))) (start size : ℕ) → length (owners_in (rows_of_pages (take size (drop start pages)))) ≤ length (owners_in (rows_of_pages pages))
chunk_few pages start size =
    let split : rows_of_pages pages ≡ rows_of_pages (take start pages) ++ (rows_of_pages (take size (drop start pages)) ++ rows_of_pages (drop size (drop start pages))) =
    rows-take-drop pages start ∙ ap (λ rows. rows_of_pages (take start pages) ++ rows) (rows-take-drop (drop start pages) size) in
    let few = part_few (rows_of_pages (take start pages)) (rows_of_pages (take size (drop start pages))) (rows_of_pages (drop size (drop start pages))) in
    rw split few
