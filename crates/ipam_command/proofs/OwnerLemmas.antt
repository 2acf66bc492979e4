-- How many addresses are owned, row by row.
use Rattle.std.proofs.Common.{◌≡◌, ℕ, ◌+◌, ◌<◌, List, [], ◌∷◌, length, take, get_or, refl, sym, ap, ◌∙◌, Some}
use Rattle.std.specs.Prelude.{map, slice_get, sum_by}
use Rattle.std.proofs.lemmas.List.{length-map}
use Rattle.std.proofs.lemmas.List.Concat.{length-flat_map}
use Rattle.std.proofs.lemmas.List.Sums.{sum_by-cons, sum_by_more}
use Rattle.std.proofs.lemmas.Option.{get_or_from_slice_get}
use Rattle.ipam_records.specs.declared.record.Record.{Record}
use Rattle.ipam_records.specs.declared.record.Record.TheVariants.{Config, Pools, Reservations, Block, Affinity, Handle}
use Rattle.ipam_records.specs.Datastore.{Datastore}
use Rattle.ipam_model.specs.Owners.{owner_of, owners, owners_in_row}
use Rattle.ipam_model.specs.Reads.{StoredRecord}
use Rattle.ipam_command.specs.Numbers.{owned_among, owned_in}

abbrev owned-by : StoredRecord → ℕ
owned-by row = length (owners_in_row row)

row-owns : (row : StoredRecord) → owned-by row ≡ owned_in row.1
row-owns (revision, Config found) = refl
row-owns (revision, Pools found) = refl
row-owns (revision, Reservations found) = refl
row-owns (revision, Block b) = length-map b.allocations (owner_of b.cidr)
row-owns (revision, Affinity found) = refl
row-owns (revision, Handle found) = refl

sums : (rows : List StoredRecord) → sum_by owned-by rows ≡ owned_among rows
sums [] = refl
sums (row ∷ rows) =
    let own = row-owns row in
    let others = sums rows in
    sum_by-cons owned-by row rows ∙ ap (λ n. n + sum_by owned-by rows) own ∙ ap (λ n. owned_in row.1 + n) others
    ∙ sym (sum_by-cons (λ (r : StoredRecord). owned_in r.1) row rows)

pub owners-are : (store : Datastore) → length (owners store) ≡ owned_among store.rows
owners-are store = length-flat_map owners_in_row store.rows ∙ sums store.rows

pub owned-more : (rows : List StoredRecord) (place : ℕ) (row : StoredRecord) → place < length rows → slice_get rows place ≡ Some row
    → owned_among (take (place + 1) rows) ≡ owned_among (take place rows) + owned_in row.1
owned-more rows place row within is =
    sum_by_more (λ (r : StoredRecord). owned_in r.1) rows place row within
    ∙ ap (λ (r : StoredRecord). owned_among (take place rows) + owned_in r.1) (get_or_from_slice_get rows place row row is)
