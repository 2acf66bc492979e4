-- The version in which an error is written.
use Rattle.std.specs.Prelude.{ℕ, List, Option, Some, None, option_and_then}
use Rattle.serde_json.specs.Data.{Data}
use Rattle.serde_json.specs.Read.{read}
use Rattle.cni_types.specs.Looking.{input_text, told_version}
use Rattle.cni_types.specs.declared.version.Version.{Version}
use Rattle.cni_types.specs.declared.version.Version.TheVariants.{V1_0_0}

abbrev pub version_in : Option Data → Version
version_in None = V1_0_0
version_in (Some d) = told_version d

-- the configuration's version where standard input is an object with a supported one, else 1.0.0
unfoldable pub version_for : List ℕ → Version
version_for input = version_in (option_and_then read (input_text input))
