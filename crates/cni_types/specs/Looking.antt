-- How a call is looked at: its standard input is decoded, then the version, the configuration and
-- the environment are tested, and the first of these that is bad refuses it.
use Rattle.std.specs.Prelude.{ℕ, List, [], length, nat_le, Bool, true, false, ◌&&◌, codes, Option, Some, None, option_and_then, unwrap_or, Result, Ok, Err, if◌then◌else◌}
use Rattle.std.specs.Str.{is_utf8}
use Rattle.serde_json.specs.Data.{Data, object, no_members}
use Rattle.serde_json.specs.Read.{read}
use Rattle.cni_types.specs.declared.calls.Look.{Look}
use Rattle.cni_types.specs.declared.code.Code.{Code}
use Rattle.cni_types.specs.declared.code.Code.TheVariants.{IncompatibleVersion, InvalidEnvironment, InvalidConfiguration, Undecodable}
use Rattle.cni_types.specs.declared.command.Command.{Command}
use Rattle.cni_types.specs.declared.command.Command.TheVariants.{Add, Del, Check, Version, Gc, Status}
use Rattle.cni_types.specs.declared.error.CniError.{CniError}
use Rattle.cni_types.specs.declared.limits.TheConstants.{MOST_INPUT_BYTES}
use Rattle.cni_types.specs.declared.refusal.Member.{Member}
use Rattle.cni_types.specs.declared.refusal.Refusal.{Refusal}
use Rattle.cni_types.specs.declared.refusal.Refusal.TheVariants as refusal
use Rattle.cni_types.specs.declared.refusal.Variable.{Variable}
use Rattle.cni_types.specs.declared.refusal.Variable.TheVariants as variables
use Rattle.cni_types.specs.declared.version.Version as versions
use Rattle.cni_types.specs.declared.version.Version.TheVariants.{V1_0_0}
use Rattle.cni_types.specs.Version.{version_of}
use Rattle.cni_types.specs.Command.{command_of, is_in}
use Rattle.cni_types.specs.Refusal.{member_text, variable_name}
use Rattle.cni_types.specs.Reading.{Pair, ◌>>=◌, ◌>>◌, text_or_empty_at, is_object}
use Rattle.cni_types.specs.Environment.{variable, is_empty, environment_tested}
use Rattle.cni_types.specs.Configuration.{configuration_tested}
use Rattle.cni_types.specs.Asked.{asked}

-- ---- decoding

abbrev pub only_object : Data → Option Data
only_object d = if is_object d then Some d else None

abbrev pub is_for_versions : Option Command → Bool
is_for_versions None = false
is_for_versions (Some Add) = false
is_for_versions (Some Del) = false
is_for_versions (Some Check) = false
is_for_versions (Some Version) = true
is_for_versions (Some Gc) = false
is_for_versions (Some Status) = false

-- the text of standard input, where it is at most 1,048,576 bytes of UTF-8
abbrev pub input_text : List ℕ → Option (List ℕ)
input_text stdin = if nat_le (length stdin) MOST_INPUT_BYTES && is_utf8 stdin then Some stdin else None

abbrev pub object_in : List ℕ → Option Data
object_in text = option_and_then only_object (read text)

-- The configuration, where standard input is a JSON object. VERSION needs none.
unfoldable pub decoded : Option Command → List ℕ → Option Data
decoded command stdin =
    if is_for_versions command && is_empty stdin then Some (object no_members)
    else option_and_then object_in (input_text stdin)

-- ---- the version

-- the configuration's version, where it is supported
abbrev pub known_version_in : Data → Option versions.Version
known_version_in d = version_of (text_or_empty_at (codes "cniVersion") d)

-- the version that an answer is written in
abbrev pub told_version : Data → versions.Version
told_version d = unwrap_or (known_version_in d) V1_0_0

abbrev pub version_with : Command → Option versions.Version → Result versions.Version Refusal
version_with command None = Err refusal.Version
version_with command (Some version) = if is_in command version then Ok version else Err refusal.Version

-- the configuration's version, where it is supported and has the command
abbrev pub compatible : Command → Data → Result versions.Version Refusal
compatible command d = version_with command (known_version_in d)

-- ---- the tests in their order

abbrev pub in_configuration : Result (Unit {0}) Member → Result (Unit {0}) Refusal
in_configuration (Ok u) = Ok u
in_configuration (Err member) = Err (refusal.Configuration member)

abbrev pub in_environment : Result (Unit {0}) Variable → Result (Unit {0}) Refusal
in_environment (Ok u) = Ok u
in_environment (Err variable) = Err (refusal.Environment variable)

-- the version, then the configuration, then the environment
unfoldable pub all_tested : Command → List Pair → Data → Result versions.Version Refusal
all_tested command env d = do
  version ← compatible command d
  in_configuration (configuration_tested command d)
  in_environment (environment_tested command env)
  Ok version

-- nothing is tested for VERSION
abbrev pub tested : Command → List Pair → Data → Result versions.Version Refusal
tested Add env d = all_tested Add env d
tested Del env d = all_tested Del env d
tested Check env d = all_tested Check env d
tested Version env d = Ok (told_version d)
tested Gc env d = all_tested Gc env d
tested Status env d = all_tested Status env d

abbrev pub unknown_at : Option versions.Version → Refusal
unknown_at None = refusal.Version
unknown_at (Some version) = refusal.Environment variables.Command

-- why a command that is not known is refused
abbrev pub unknown : Data → Refusal
unknown d = unknown_at (known_version_in d)

-- what is asked, or why it is refused
abbrev pub looked : Option Command → List Pair → Data → Result Look Refusal
looked None env d = Err (unknown d)
looked (Some command) env d = do
  version ← tested command env d
  Ok (asked command version env d)

-- ---- the error

abbrev pub code_of : Refusal → Code
code_of refusal.Version = IncompatibleVersion
code_of (refusal.Configuration member) = InvalidConfiguration
code_of (refusal.Environment variable) = InvalidEnvironment

-- the version as the configuration has it, the member's path or the variable's name
abbrev pub details_of : Data → Refusal → List ℕ
details_of d refusal.Version = text_or_empty_at (codes "cniVersion") d
details_of d (refusal.Configuration member) = member_text member
details_of d (refusal.Environment variable) = variable_name variable

abbrev pub error_of : Data → Refusal → CniError
error_of d r = record { version = told_version d; code = code_of r; details = details_of d r }

abbrev pub undecodable : CniError
undecodable = record { version = V1_0_0; code = Undecodable; details = [] }

-- ---- the whole

abbrev pub command_in : List Pair → Option Command
command_in env = command_of (variable variables.Command env)

abbrev pub or_error : Data → Result Look Refusal → Result Look CniError
or_error d (Ok look) = Ok look
or_error d (Err r) = Err (error_of d r)

abbrev pub look_from : Option Command → List Pair → Option Data → Result Look CniError
look_from command env None = Err undecodable
look_from command env (Some d) = or_error d (looked command env d)

-- what a call asks, of its environment and its standard input
unfoldable pub look_reading : List Pair → List ℕ → Result Look CniError
look_reading env stdin = look_from (command_in env) env (decoded (command_in env) stdin)
