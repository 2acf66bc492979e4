-- What a text is read as, where it is that of a list of live handles.
use Rattle.std.specs.Prelude.{ℕ, List, [], ◌∷◌, ◌++◌, Option, Some, option_and_then}
use Rattle.serde_json.specs.Data.{Data, Items, no_items, item}
use Rattle.serde_json.specs.Find.{as_str, as_array}
use Rattle.serde_json.specs.Read.{read}
use Rattle.ipam_json.specs.Members.{◌>>=◌}
use Rattle.ipam_record_text.specs.Blocks.{id_of}

-- the id whose text the JSON is
unfoldable pub live_id_in : Data → Option (List ℕ)
live_id_in d = option_and_then id_of (as_str d)

-- the ids, and after them those that the items are
abbrev pub ids_after : List (List ℕ) → Items → Option (List (List ℕ))
ids_after ids no_items = Some ids
ids_after ids (item d ds) = do
  id ← live_id_in d
  ids_after (ids ++ id ∷ []) ds

-- the ids that the JSON lists
unfoldable pub live_in : Data → Option (List (List ℕ))
live_in d = do
  items ← as_array d
  ids_after [] items

-- what is read of a text
unfoldable pub live_reading : List ℕ → Option (List (List ℕ))
live_reading text = do
  d ← read text
  live_in d
