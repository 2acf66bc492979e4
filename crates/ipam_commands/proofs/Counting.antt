-- The owners that were counted in the parts.
use Rattle.std.proofs.Common.{◌≡◌, ℕ, ◌+◌, ◌/◌, ◌%◌, ◌<◌, min, List, [], ◌∷◌, ◌++◌, length, get_or, sym, ap, ◌∙◌, refl, take, drop, ◌^◌, arith}
use Rattle.std.specs.Fork.{slice_chunk}
use Rattle.std.specs.List.{flat_map, sum, sum_by}
use Rattle.std.specs.Global.{Vec}
use Rattle.std.proofs.lemmas.Grind.{flat_map-append}
use Rattle.std.proofs.lemmas.List.Concat.{length-flat_map}
use Rattle.std.proofs.lemmas.Slice.Chunks.{sum_by_chunks}
use Rattle.ipam_records.specs.declared.record.Record.{Record}
use Rattle.ipam_records.specs.Pages.{rows_of_pages}
use Rattle.ipam_records.specs.declared.key.Kind.TheVariants as kind
use Rattle.ipam_records.specs.Datastore.{Datastore, rows_of_kind}
use Rattle.ipam_model.specs.Owners.{owners, owners_in, owners_in_row}
use Rattle.ipam_commands.proofs.Listing.{owners-listed}
use Rattle.ipam_commands.proofs.Bounds.{chunk_few}

owners_by_page : (pages : List (Vec (ℕ × Record))) → owners_in (rows_of_pages pages) ≡ flat_map (λ (page : Vec (ℕ × Record)). owners_in page.items) pages
owners_by_page [] = refl
owners_by_page (page ∷ pages) =
    flat_map-append owners_in_row page.items (rows_of_pages pages) ∙ ap (λ xs. owners_in page.items ++ xs) (owners_by_page pages)

counted : (pages : List (Vec (ℕ × Record))) → length (owners_in (rows_of_pages pages)) ≡ sum_by (λ (page : Vec (ℕ × Record)). length (owners_in page.items)) pages
counted pages = ap length (owners_by_page pages) ∙ length-flat_map (λ (page : Vec (ℕ × Record)). owners_in page.items) pages

pub owners_counted : (size : ℕ) (pages : List (Vec (ℕ × Record))) (counts : List ℕ) → ((n : ℕ) → n < length counts → get_or counts n 0 ≡ length (owners_in (rows_of_pages (slice_chunk pages size n)))) → 0 < size → length counts ≡ length pages / size + min 1 (length pages % size) → sum counts ≡ length (owners_in (rows_of_pages pages))
owners_counted size pages counts each some len =
    sum_by_chunks (λ (page : Vec (ℕ × Record)). length (owners_in page.items)) size pages counts (λ n h. each n h ∙ counted (slice_chunk pages size n)) some len
    ∙ sym (counted pages)

-- so the counts of the parts add up to all owners
pub owners_in_parts : (store : Datastore) (size : ℕ) (pages : List (Vec (ℕ × Record))) (counts : List ℕ) → rows_of_pages pages ≡ rows_of_kind kind.Block store → 0 < size → length counts ≡ length pages / size + min 1 (length pages % size) → ((n : ℕ) → n < length counts → get_or counts n 0 ≡ length (owners_in (rows_of_pages (slice_chunk pages size n)))) → sum counts ≡ length (owners store)
owners_in_parts store size pages counts is some len each =
    owners_counted size pages counts each some len ∙ (ap (λ rows. length (owners_in rows)) is ∙ ap length (owners-listed store))

pub part_fits : (store : Datastore) (size start : ℕ) (pages : List (Vec (ℕ × Record))) → rows_of_pages pages ≡ rows_of_kind kind.Block store → length (owners store) < 2 ^ 64 → length (owners_in (rows_of_pages (take size (drop start pages)))) < 2 ^ 64
part_fits store size start pages is few =
    let all : length (owners_in (rows_of_pages pages)) ≡ length (owners store) = ap (λ rows. length (owners_in rows)) is ∙ ap length (owners-listed store) in
    let part = chunk_few pages start size in
    omega arith
