-- What is still to come.
use Rattle.std.specs.Prelude.{List, ◌++◌}
use Rattle.ipam_addr.specs.Shape.{CidrValue}
use Rattle.ipam_records.specs.Pages.{rows_of_pages}
use Rattle.ipam_model.specs.Reads.{StoredRecord}
use Rattle.ipam_choice.specs.declared.ahead.Ahead.{Ahead}
use Rattle.ipam_choice.specs.Blocks.{cidrs_in}

abbrev pub rows_left : Ahead → List StoredRecord
rows_left ahead = ahead.page.now ++ rows_of_pages ahead.pages.now

abbrev pub cidrs_left : Ahead → List CidrValue
cidrs_left ahead = cidrs_in (rows_left ahead)
