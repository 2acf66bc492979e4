-- The version in which a call is answered is that of its standard input.
use Rattle.std.proofs.Common.{◌≡◌, ℕ, List, [], ◌∷◌, length, ◌&&◌, Bool, true, false, Option, Some, None, option_and_then, Ok, Err, refl, sym, ap, ◌∙◌, if◌then◌else◌, arith}
use Rattle.std.proofs.lemmas.Bool.{and_parts, eqb-true}
use Rattle.serde_json.specs.Data.{Data, object, no_members}
use Rattle.serde_json.specs.Read.{read}
use Rattle.ipam_model.specs.declared.request.Request.{Request}
use Rattle.ipam_command.proofs.LookVersions.{looked_version, object_version, version_looked, version_of}
use Rattle.cni_types.specs.declared.calls.Look.{Look}
use Rattle.cni_types.specs.declared.calls.Look.TheVariants as looks
use Rattle.cni_types.specs.declared.command.Command.{Command}
use Rattle.cni_types.specs.declared.error.CniError.{CniError}
use Rattle.cni_types.specs.declared.version.Version as versions
use Rattle.cni_types.specs.declared.version.Version.TheVariants.{V1_0_0}
use Rattle.cni_types.specs.Environment.{is_empty}
use Rattle.cni_types.specs.Looking.{command_in, decoded, input_text, is_for_versions, look_from, look_reading, object_in, only_object}
use Rattle.cni_types.specs.Reading.{Pair, is_object}
use Rattle.cni_asks.specs.declared.asks.Ask.TheVariants.{Begin}
use Rattle.ipam_call.proofs.Empty.{empty_version}
use Rattle.ipam_call.specs.Versions.{version_for, version_in}
use Rattle.ipam_command.specs.Replies.{begun_by}

read-version : (command : Option Command) (env : List Pair) (o : Option Data) → version_looked (look_from command env (option_and_then only_object o)) ≡ version_in o
read-version command env None = refl
read-version command env (Some d) = object_version command env d (is_object d) refl

text-version : (command : Option Command) (env : List Pair) (o : Option (List ℕ)) → version_looked (look_from command env (option_and_then object_in o)) ≡ version_in (option_and_then read o)
text-version command env None = refl
text-version command env (Some text) = read-version command env (read text)

empty-version : (stdin : List ℕ) → is_empty stdin ≡ true → version_in (option_and_then read (input_text stdin)) ≡ V1_0_0
empty-version [] e = empty_version
empty-version (byte ∷ bytes) e = let none : length (byte ∷ bytes) ≡ 0 = eqb-true (length (byte ∷ bytes)) 0 e in absurd (omega arith)

look-version : (env : List Pair) (stdin : List ℕ) → version_looked (look_reading env stdin) ≡ version_for stdin
unfolding look_reading decoded version_for
look-version env stdin = go (is_for_versions (command_in env) && is_empty stdin) refl
  where
    go : (b : Bool) → (is_for_versions (command_in env) && is_empty stdin) ≡ b
        → version_looked (look_from (command_in env) env (if b then Some (object no_members) else option_and_then object_in (input_text stdin))) ≡ version_in (option_and_then read (input_text stdin))
    go true is =
        let empty = (and_parts (is_for_versions (command_in env)) (is_empty stdin) is).1 in
        looked_version (command_in env) env (object no_members) ∙ sym (empty-version stdin empty)
    go false is = text-version (command_in env) env (input_text stdin)

pub call_version : (env : List Pair) (stdin : List ℕ) (look : Look) → look_reading env stdin ≡ Ok look → version_of look ≡ version_for stdin
call_version env stdin look is = ap version_looked (sym is) ∙ look-version env stdin

pub error_version : (env : List Pair) (stdin : List ℕ) (error : CniError) → look_reading env stdin ≡ Err error → error.version ≡ version_for stdin
error_version env stdin error is = ap version_looked (sym is) ∙ look-version env stdin

-- ---- what a call begins

begun-version : (look : Look) (asked : Request) (version : versions.Version) → Begin asked version ≡ begun_by look → version ≡ version_of look
begun-version (looks.Version version) asked said e = absurd cc
begun-version (looks.Add add) asked said e = cc e
begun-version (looks.Del del) asked said e = cc e
begun-version (looks.Check check) asked said e = cc e
begun-version (looks.Gc gc) asked said e = cc e
begun-version (looks.Status status) asked said e = cc e

pub request_version : (env : List Pair) (stdin : List ℕ) (look : Look) (asked : Request) (version : versions.Version) → look_reading env stdin ≡ Ok look → Begin asked version ≡ begun_by look → version ≡ version_for stdin
request_version env stdin look asked version is begins = begun-version look asked version begins ∙ call_version env stdin look is
