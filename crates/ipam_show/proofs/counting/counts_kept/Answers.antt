use Rattle.std.proofs.Common.{◌≡◌, ◌∙◌, ap, length, Bool, arith}
use Rattle.std.proofs.lemmas.Result.{IfOk-weaker}
use Rattle.ipam_addr.specs.Shape.{AddrValue}
use Rattle.ipam_records.specs.Pages.{rows_of_pages}
use Rattle.ipam_pool.specs.Spans.{is_reserved_by}
use Rattle.ipam_pool.specs.Union.{is_in_union}
use Rattle.ipam_model.specs.Reads.{StoredRecord}
use Rattle.ipam_show.specs.Counts.{block_count_in, counts_in}
use Rattle.ipam_show.specs.Kept.{blocks_kept, is_reserved_kept}
use Rattle.ipam_show.proofs.Counted.{found_few}
use Rattle.ipam_show.proofs.counting.counts_kept.Goals as goal

pub returns-clause-counts : goal.returns-clause-counts
returns-clause-counts c =
    let store = c.args.store.now.store in
    let pages = c.block_pages.result.now in
    let same : is_reserved_by c.in_ok-reserved.reserved ≡ is_reserved_kept store =
    λ i a. (c.in_ok-reserved.ensures.union a ∙ ap (λ list. is_in_union list a) c.reservations_kept.ensures) i in
    IfOk-weaker c.counts_in_pages.result _ _ (λ counts is.
    is ∙ (ap (λ (f : AddrValue → Bool). counts_in f (rows_of_pages pages)) same ∙ ap (counts_in (is_reserved_kept store)) c.block_pages.ensures))
    c.counts_in_pages.ensures

pub returns-clause-few : goal.returns-clause-few
returns-clause-few c =
    let store = c.args.store.now.store in
    let pages = c.block_pages.result.now in
    let reserved = is_reserved_by c.in_ok-reserved.reserved in
    let rows : length (rows_of_pages pages) ≡ length (blocks_kept store) = ap length c.block_pages.ensures in
    let most = c.requires in
    let found = found_few (λ (row : StoredRecord). block_count_in reserved row.1) (rows_of_pages pages) in
    IfOk-weaker c.counts_in_pages.result _ _ (λ counts is.
    let all : length counts.items ≡ length (counts_in reserved (rows_of_pages pages)) = ap length is in
    omega arith)
    c.counts_in_pages.ensures
