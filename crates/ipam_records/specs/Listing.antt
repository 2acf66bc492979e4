-- What a listing lends.
use Rattle.std.specs.Prelude.{ℕ, List}
use Rattle.ipam_records.specs.declared.record.Record.{Record}
use Rattle.ipam_records.specs.declared.listing.Listing.{Listing}
use Rattle.ipam_records.specs.Pages.{rows_of_pages}

-- its rows, each a revision and a record
abbrev pub rows_of : Listing → List (ℕ × Record)
rows_of listing = rows_of_pages listing.pages.now
