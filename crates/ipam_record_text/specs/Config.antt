-- The body of a configuration.
use Rattle.std.specs.Prelude.{ℕ, ◌^◌, ◌<◌, List, [], ◌∷◌, codes, Option, Some, Result}
use Rattle.serde_json.specs.Data.{Data, boolean, number, unsigned}
use Rattle.serde_json.specs.Written.{compact_text}
use Rattle.ipam_json.specs.Built.{object_of}
use Rattle.ipam_record_text.specs.declared.config.Config.{Config}
use Rattle.ipam_record_text.specs.declared.fault.BodyFault.{BodyFault}
use Rattle.ipam_json.specs.Members.{◌>>=◌, truth_at, number_at}
use Rattle.ipam_record_text.specs.Reading.{body_reading}

-- the JSON of a configuration
unfoldable pub config_data : Config → Data
config_data c =
    object_of ((codes "autoAllocateBlocks", boolean c.auto)
    ∷ (codes "maxBlocksPerHost", number (unsigned c.max_blocks))
    ∷ (codes "strictAffinity", boolean c.strict) ∷ [])

-- the body of a configuration
unfoldable pub config_body : Config → List ℕ
config_body c = compact_text (config_data c)

-- the bound fits 32 bits
abbrev pub IsConfigRecord : Config → Type 0
IsConfigRecord c = c.max_blocks < 2 ^ 32

-- the configuration that the JSON holds
unfoldable pub config_in : Data → Option Config
config_in d = do
  auto ← truth_at (codes "autoAllocateBlocks") d
  max_blocks ← number_at (codes "maxBlocksPerHost") d
  strict ← truth_at (codes "strictAffinity") d
  Some (record { strict = strict; auto = auto; max_blocks = max_blocks })

-- what is read of a configuration's body
unfoldable pub config_reading : List ℕ → Result Config BodyFault
config_reading body = body_reading config_in config_body body
