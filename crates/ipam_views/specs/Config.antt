-- What is shown of the configuration.
use Rattle.std.specs.Prelude.{ℕ, Bool, true, false, List, [], ◌∷◌, ◌++◌, codes, decimal, if◌then◌else◌}
use Rattle.serde_json.specs.Data.{Data, boolean}
use Rattle.serde_json.specs.Written.{compact_text}
use Rattle.ipam_json.specs.Built.{object_of, whole_data}
use Rattle.ipam_record_text.specs.declared.config.Config.{Config}
use Rattle.ipam_records.specs.declared.call.Call.TheVariants.{Get}
use Rattle.ipam_records.specs.declared.key.Key.TheVariants as key
use Rattle.ipam_records.specs.declared.record.Record.TheVariants as record_of
use Rattle.ipam_records.specs.Datastore.{Datastore, reply_of}
use Rattle.ipam_records.specs.Said.{Said, Found}
use Rattle.ipam_model.specs.Reads.{config_said}
use Rattle.ipam_words.specs.declared.view.Form.{Form}
use Rattle.ipam_words.specs.declared.view.Form.TheVariants.{Table, Json}
use Rattle.ipam_show.specs.Columns.{Cells, table_text}
use Rattle.ipam_views.specs.declared.config_shown.InForce.{InForce}

-- whether a configuration is there, which sets all three settings
abbrev pub is_config : Said → Bool
is_config (Found revision (record_of.Config config)) = true
is_config _ = false

abbrev pub in_force_said : Said → InForce
in_force_said said = record { config = config_said said; is_set = is_config said }

-- the configuration that each request reads, and whether one was set
abbrev pub in_force : Datastore → InForce
in_force store = in_force_said (reply_of store (Get key.Config))

-- ---- the table

abbrev pub truth_word : Bool → List ℕ
truth_word b = if b then codes "true" else codes "false"

abbrev pub set_word : Bool → List ℕ
set_word b = if b then codes "yes" else codes "no"

abbrev pub setting_row : InForce → (name value : List ℕ) → Cells
setting_row shown name value = name ∷ value ∷ set_word shown.is_set ∷ []

abbrev pub setting_head : Cells
setting_head = codes "SETTING" ∷ codes "VALUE" ∷ codes "SET" ∷ []

abbrev pub setting_rows : InForce → List Cells
setting_rows shown =
    setting_head
    ∷ setting_row shown (codes "autoAllocateBlocks") (truth_word shown.config.auto)
    ∷ setting_row shown (codes "maxBlocksPerHost") (decimal shown.config.max_blocks)
    ∷ setting_row shown (codes "strictAffinity") (truth_word shown.config.strict)
    ∷ []

unfoldable pub config_table : InForce → List ℕ
config_table shown = table_text 3 (setting_rows shown)

-- ---- JSON, whose members stand by the bytes of their names

unfoldable pub setting_data : InForce → (value : Data) → Data
setting_data shown value = object_of ((codes "set", boolean shown.is_set) ∷ (codes "value", value) ∷ [])

unfoldable pub settings_data : InForce → Data
settings_data shown =
    object_of
    ((codes "autoAllocateBlocks", setting_data shown (boolean shown.config.auto))
    ∷ (codes "maxBlocksPerHost", setting_data shown (whole_data shown.config.max_blocks))
    ∷ (codes "strictAffinity", setting_data shown (boolean shown.config.strict))
    ∷ [])

unfoldable pub config_json : InForce → List ℕ
config_json shown = compact_text (settings_data shown) ++ codes "\n"

-- ---- both

abbrev pub shown_as : Form → InForce → List ℕ
shown_as Table shown = config_table shown
shown_as Json shown = config_json shown

abbrev pub config_text : Form → Datastore → List ℕ
config_text form store = shown_as form (in_force store)
