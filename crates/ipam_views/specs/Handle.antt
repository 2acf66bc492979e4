-- What is shown of a handle.
use Rattle.std.specs.Prelude.{ℕ, List, [], ◌∷◌, ◌++◌, codes, decimal, map}
use Rattle.serde_json.specs.Data.{Data, string}
use Rattle.serde_json.specs.Written.{compact_text}
use Rattle.ipam_addr.specs.Text.{cidr_text_of}
use Rattle.ipam_json.specs.Built.{array_of, object_of, whole_data}
use Rattle.ipam_records.specs.Datastore.{Datastore}
use Rattle.ipam_words.specs.declared.view.Form.{Form}
use Rattle.ipam_words.specs.declared.view.Form.TheVariants.{Table, Json}
use Rattle.ipam_words.specs.Views.{OfHandle}
use Rattle.ipam_show.specs.Addresses.{addresses_text, use_data}
use Rattle.ipam_show.specs.Columns.{Cells, table_text}
use Rattle.ipam_show.specs.InUse.{uses_kept}
use Rattle.ipam_views.specs.declared.high_counts.HighCount.{HighCount}
use Rattle.ipam_views.specs.HighCounts.{high_counts}

-- ---- the table

abbrev pub high_head : Cells
high_head = codes "COUNT TOO HIGH IN" ∷ codes "COUNT" ∷ codes "IN USE" ∷ []

unfoldable pub high_row : HighCount → Cells
high_row high = cidr_text_of high.block ∷ decimal high.count ∷ decimal high.in_use ∷ []

abbrev pub high_rows : List HighCount → List Cells
high_rows counts = high_head ∷ map high_row counts

unfoldable pub high_table : List HighCount → List ℕ
high_table counts = table_text 3 (high_rows counts)

-- the addresses of the handle, and behind an empty line its counts that are too high
unfoldable pub handle_table : (handle : List ℕ) → Datastore → List HighCount → List ℕ
handle_table handle store counts = addresses_text (OfHandle handle) Table store ++ (codes "\n" ++ high_table counts)

-- ---- JSON, whose members stand by the bytes of their names

unfoldable pub high_data : HighCount → Data
high_data high =
    object_of
    ((codes "block", string (cidr_text_of high.block))
    ∷ (codes "count", whole_data high.count)
    ∷ (codes "inUse", whole_data high.in_use)
    ∷ [])

unfoldable pub handle_data : (handle : List ℕ) → Datastore → List HighCount → Data
handle_data handle store counts =
    object_of
    ((codes "addresses", array_of (map use_data (uses_kept (OfHandle handle) store)))
    ∷ (codes "countsTooHigh", array_of (map high_data counts))
    ∷ (codes "handle", string handle)
    ∷ [])

unfoldable pub handle_json : (handle : List ℕ) → Datastore → List HighCount → List ℕ
handle_json handle store counts = compact_text (handle_data handle store counts) ++ codes "\n"

-- ---- both

abbrev pub handle_shown : (handle : List ℕ) → Form → Datastore → List HighCount → List ℕ
handle_shown handle Table store counts = handle_table handle store counts
handle_shown handle Json store counts = handle_json handle store counts

abbrev pub handle_text : (handle : List ℕ) → Form → Datastore → List ℕ
handle_text handle form store = handle_shown handle form store (high_counts handle store)
