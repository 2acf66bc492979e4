-- The JSON of a call has no float, so that its compact text is written.
use Rattle.std.proofs.Common.{◌≡◌, ℕ, false, List, refl, Option, Some, None}
use Rattle.serde_json.specs.Data.{string, Members, no_members}
use Rattle.serde_json.specs.Written.{has_float, members_have_float}
use Rattle.ipam_json.proofs.Floatless.{put_without}
use Rattle.cni_types.specs.Reading.{Pair}
use Rattle.ipam_call.specs.Requests.{last_of, with_value, env_members, call_data}

value_without : (name : List ℕ) (value : Option (List ℕ)) (ms : Members) → members_have_float ms ≡ false → members_have_float (with_value name value ms) ≡ false
value_without name None ms g = g
value_without name (Some value) ms g = put_without name (string value) ms refl g

env_without : (env : List Pair) → members_have_float (env_members env) ≡ false
unfolding env_members
env_without env =
    value_without _ (last_of _ env) _ (value_without _ (last_of _ env) _ (value_without _ (last_of _ env) _ (value_without _ (last_of _ env) _ (value_without _ (last_of _ env) no_members refl))))

pub call_without : (env : List Pair) (input : List ℕ) → has_float (call_data env input) ≡ false
unfolding call_data
call_without env input = rw (env_without env) refl
