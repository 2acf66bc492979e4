-- The version of no standard input.
use Rattle.std.proofs.Common.{◌≡◌, [], ◌&&◌, nat_le, Bool, true, false, Some, None, option_and_then, refl, ap, if◌then◌else◌}
use Rattle.std.specs.Str.{is_utf8}
use Rattle.json.specs.Lex.{lex, punctuate}
use Rattle.json.specs.Json.{value}
use Rattle.serde_json.specs.Read.{read}
use Rattle.cni_types.specs.declared.limits.TheConstants.{MOST_INPUT_BYTES}
use Rattle.cni_types.specs.declared.version.Version.TheVariants.{V1_0_0}
use Rattle.cni_types.specs.Looking.{input_text}
use Rattle.ipam_call.specs.Versions.{version_in}

-- no bytes are no JSON
empty_read : read [] ≡ None
unfolding lex punctuate value
empty_read = refl

pub empty_version : version_in (option_and_then read (input_text [])) ≡ V1_0_0
empty_version = go (nat_le 0 MOST_INPUT_BYTES) (is_utf8 [])
  where
    go : (b u : Bool) → version_in (option_and_then read (if b && u then Some [] else None)) ≡ V1_0_0
    go true true = ap version_in empty_read
    go true false = refl
    go false u = refl
