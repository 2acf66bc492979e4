-- The line that a call sends.
use Rattle.std.specs.Prelude.{ℕ, List, [], ◌∷◌, ◌++◌, length, nat_lt, codes, bytes_eq, Option, Some, None, if◌then◌else◌}
use Rattle.serde_json.specs.Data.{Data, object, string, Members, no_members, put}
use Rattle.serde_json.specs.Written.{compact_text}
use Rattle.ipam_json.specs.Built.{object_of}
use Rattle.ipam_json.specs.Members.{◌>>=◌, only_if}
use Rattle.ipam_io.specs.declared.limits.TheConstants.{SESSION_LINE_BYTES}
use Rattle.cni_types.specs.Looking.{input_text}
use Rattle.cni_types.specs.Reading.{Pair}

-- the value of the last pair of this name, or the one found before
abbrev pub last_from : List ℕ → Option (List ℕ) → List Pair → Option (List ℕ)
last_from name found [] = found
last_from name found (pair ∷ env) =
    last_from name (if bytes_eq pair.0 name then Some pair.1 else found) env

-- the value of the last pair of this name, if there is one
abbrev pub last_of : List ℕ → List Pair → Option (List ℕ)
last_of name env = last_from name None env

abbrev pub with_value : List ℕ → Option (List ℕ) → Members → Members
with_value name None ms = ms
with_value name (Some value) ms = put name (string value) ms

-- the members with the variable of this name, where there is one
abbrev pub with_last : List ℕ → List Pair → Members → Members
with_last name env ms = with_value name (last_of name env) ms

-- the variables that CNI knows, of those that are there
unfoldable pub env_members : List Pair → Members
env_members env =
    with_last (codes "CNI_NETNS") env
    (with_last (codes "CNI_IFNAME") env
    (with_last (codes "CNI_CONTAINERID") env
    (with_last (codes "CNI_COMMAND") env
    (with_last (codes "CNI_ARGS") env no_members))))

unfoldable pub call_data : List Pair → List ℕ → Data
call_data env input =
    object_of ((codes "env", object (env_members env)) ∷ (codes "stdin", string input) ∷ [])

-- the text of a call with this environment and this standard input
unfoldable pub cni_call_text : List Pair → List ℕ → List ℕ
cni_call_text env input = compact_text (call_data env input)

-- the text with its line feed, where these are no more bytes than a line has
abbrev pub sendable : List ℕ → Option (List ℕ)
sendable text = only_if (nat_lt (length text) SESSION_LINE_BYTES) (text ++ codes "\n")

-- The line that is sent: none where standard input is longer than is read of it or no UTF-8, or
-- where the line would be longer than a session's line may be.
unfoldable pub line_for : List Pair → List ℕ → Option (List ℕ)
line_for env input = do
  text ← input_text input
  sendable (cni_call_text env text)
