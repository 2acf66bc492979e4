-- The environment of a CNI call.
use Rattle.std.specs.Prelude.{◌≡◌, ℕ, List, [], ◌∷◌, ◌++◌, codes, true, false, Option, Some, None}
use Rattle.std.specs.Str.{is_utf8}
use Rattle.ipam_addr.specs.Names.{is_name_text}
use Rattle.cni_types.specs.Command.{command_of}
use Rattle.cni_types.specs.Environment.{are_arguments, is_interface, is_namespace_there, value_from}
use Rattle.cni_types.specs.Reading.{Pair}
use Rattle.ipam_call.specs.declared.variable.Variable.{Variable}
use Rattle.ipam_call.specs.declared.variable.Variable.TheVariants.{Command, ContainerId, Netns, Ifname, Args}
use Rattle.ipam_call.specs.Values.{last_value, text_or}

abbrev pub variable_name : Variable → List ℕ
variable_name Command = codes "CNI_COMMAND"
variable_name ContainerId = codes "CNI_CONTAINERID"
variable_name Netns = codes "CNI_NETNS"
variable_name Ifname = codes "CNI_IFNAME"
variable_name Args = codes "CNI_ARGS"

-- what stands in for a value that is no text
abbrev pub stand_in : Variable → List ℕ
stand_in Command = []
stand_in ContainerId = []
stand_in Netns = []
stand_in Ifname = []
stand_in Args = codes "?"

-- a variable's value as a call sees it
abbrev pub seen : Variable → Option (List ℕ) → List ℕ
seen v value = text_or (stand_in v) value

-- the variable with its value as a call sees it, where it has one
abbrev pub pair_seen : Variable → Option (List ℕ) → List Pair
pair_seen v None = []
pair_seen v (Some bytes) = (variable_name v, seen v (Some bytes)) ∷ []

-- the variable with its last value, where it is there
abbrev pub pair_of : Variable → List (List ℕ) → List Pair
pair_of v entries = pair_seen v (last_value (variable_name v) entries)

-- the variables of a call that are there, with their values
abbrev pub call_pairs : List (List ℕ) → List Pair
call_pairs entries =
    pair_of Command entries ++ pair_of ContainerId entries ++ pair_of Netns entries
    ++ pair_of Ifname entries ++ pair_of Args entries

-- the value that a call finds under the variable's name in these pairs
abbrev pub value_looked_at : Variable → List Pair → List ℕ
value_looked_at v pairs = value_from (variable_name v) [] pairs

-- The step of a call that looks at the variable refuses this value of it. A namespace is looked at where
-- it is needed.
abbrev pub IsRefused : Variable → (value : List ℕ) → Type 0
IsRefused Command value = command_of value ≡ None
IsRefused ContainerId value = is_name_text value ≡ false
IsRefused Netns value = is_namespace_there true value ≡ false
IsRefused Ifname value = is_interface value ≡ false
IsRefused Args value = are_arguments value ≡ false

-- whatever is no text is refused
abbrev pub RefusedLaw : Type 0
RefusedLaw = (v : Variable) (bytes : List ℕ) → is_utf8 bytes ≡ false → IsRefused v (seen v (Some bytes))
