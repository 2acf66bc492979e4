-- Standard input that asks something is not too long.
use Rattle.std.proofs.Common.{◌≡◌, ℕ, ◌≤◌, ◌&&◌, List, length, Bool, true, false, Option, Some, None, Ok, refl, arith, option_and_then, if◌then◌else◌}
use Rattle.std.proofs.lemmas.Bool.{eqb-true}
use Rattle.serde_json.specs.Data.{Data, object, no_members}
use Rattle.cni_types.specs.declared.calls.Look.{Look}
use Rattle.cni_types.specs.declared.command.Command.{Command}
use Rattle.cni_types.specs.Environment.{is_empty}
use Rattle.cni_types.specs.Looking.{command_in, decoded, input_text, is_for_versions, look_from, look_reading, object_in}
use Rattle.cni_types.specs.Reading.{Pair}
use Rattle.ipam_records.specs.declared.call.Row.{Row as RowText}
use Rattle.ipam_call.proofs.Inputs.{input_text_short}
use Rattle.ipam_command.specs.Replies.{Asked, AtOnce, ComesTo, Refused, StatusAndText}

text-short : (input : List ℕ) (d : Data) (o : Option (List ℕ)) → input_text input ≡ o → option_and_then object_in o ≡ Some d → length input ≤ 1048576
text-short input d (Some text) is e = input_text_short input text is
text-short input d None is e = absurd cc

empty-short : (versions : Bool) (input : List ℕ) → (versions && is_empty input) ≡ true → length input ≤ 1048576
empty-short true input e = let none : length input ≡ 0 = eqb-true (length input) 0 e in omega arith
empty-short false input e = absurd cc

decoded-short : (command : Option Command) (stdin : List ℕ) (d : Data) → decoded command stdin ≡ Some d → length stdin ≤ 1048576
unfolding decoded
decoded-short command stdin d e = go (is_for_versions command && is_empty stdin) refl e
  where
    go : (b : Bool) → (is_for_versions command && is_empty stdin) ≡ b → (if b then Some (object no_members) else option_and_then object_in (input_text stdin)) ≡ Some d → length stdin ≤ 1048576
    go true is e' = empty-short (is_for_versions command) stdin is
    go false is e' = text-short stdin d (input_text stdin) refl e'

pub look_short : (env : List Pair) (stdin : List ℕ) (look : Look) → look_reading env stdin ≡ Ok look → length stdin ≤ 1048576
unfolding look_reading
look_short env stdin look e = go (decoded (command_in env) stdin) refl e
  where
    go : (o : Option Data) → decoded (command_in env) stdin ≡ o → look_from (command_in env) env o ≡ Ok look → length stdin ≤ 1048576
    go (Some d) is e' = decoded-short (command_in env) stdin d is
    go None is e' = absurd cc

pub comes_short : (env : List Pair) (stdin : List ℕ) (old new : Option (List RowText)) (reply : StatusAndText) → ComesTo env stdin old new reply → reply.0 ≡ 0 → length stdin ≤ 1048576
comes_short env stdin old new _ (Refused error is same) none = absurd cc
comes_short env stdin old new _ (AtOnce look text is begins same) none = look_short env stdin look is
comes_short env stdin old new _ (Asked look asked version reply is begins comes) none = look_short env stdin look is
