-- The environment of a call.
use Rattle.std.specs.Prelude.{ℕ, List, [], ◌∷◌, length, nat_lt, nat_le, ◌==◌, Bool, true, false, ◌&&◌, ◌||◌, not, is_some, codes, bytes_eq, Result, Ok, if◌then◌else◌}
use Rattle.std.specs.Char.{is_ascii_whitespace}
use Rattle.std.specs.List.{list_all, slice_split, position_or_len, before_first, after_first}
use Rattle.ipam_addr.specs.Names.{is_name_text}
use Rattle.ipam_addr.specs.Text.{address_of}
use Rattle.ipam_block.specs.declared.limits.TheConstants.{VALUE_BYTES_MAX}
use Rattle.cni_types.specs.declared.command.Command.{Command}
use Rattle.cni_types.specs.declared.command.Command.TheVariants.{Add, Del, Check, Version, Gc, Status}
use Rattle.cni_types.specs.declared.limits.TheConstants.{INTERFACE_BYTES_MAX}
use Rattle.cni_types.specs.declared.refusal.Variable.{Variable}
use Rattle.cni_types.specs.declared.refusal.Variable.TheVariants.{ContainerId, Netns, Ifname, Args}
use Rattle.cni_types.specs.Reading.{Pair, ◌>>◌, demand}
use Rattle.cni_types.specs.Refusal.{variable_name}

-- the value of the last pair of this name, or the one found before
abbrev pub value_from : List ℕ → List ℕ → List Pair → List ℕ
value_from name found [] = found
value_from name found (pair ∷ env) =
    value_from name (if bytes_eq pair.0 name then pair.1 else found) env

-- the value of a variable: of its last pair, and empty where it has none
abbrev pub variable : Variable → List Pair → List ℕ
variable v env = value_from (variable_name v) [] env

abbrev pub is_empty : List ℕ → Bool
is_empty text = length text == 0

-- ---- the interface

-- no `/`, no `:` and no white space
abbrev pub is_interface_byte : ℕ → Bool
is_interface_byte c = not (c == 47 || c == 58 || is_ascii_whitespace c)

-- 1 to 15 bytes, and neither `.` nor `..`
abbrev pub is_interface : List ℕ → Bool
is_interface text =
    not (is_empty text) && nat_le (length text) INTERFACE_BYTES_MAX && list_all is_interface_byte text
    && not (bytes_eq text (codes ".")) && not (bytes_eq text (codes ".."))

-- ---- the arguments: items with `;` between them, each a key, `=` and a value

abbrev pub is_semicolon : ℕ → Bool
is_semicolon c = c == 59

abbrev pub is_equals : ℕ → Bool
is_equals c = c == 61

abbrev pub items_of : List ℕ → List (List ℕ)
items_of text = slice_split is_semicolon text

abbrev pub has_equals : List ℕ → Bool
has_equals item = nat_lt (position_or_len is_equals item) (length item)

-- an empty item is passed over
abbrev pub is_argument : List ℕ → Bool
is_argument item = is_empty item || has_equals item

-- the item's first `=` ends this key
abbrev pub item_has_key : List ℕ → List ℕ → Bool
item_has_key key item = has_equals item && bytes_eq (before_first is_equals item) key

-- the value of the last item with this key, or the one found before
abbrev pub argument_from : List ℕ → List ℕ → List (List ℕ) → List ℕ
argument_from key found [] = found
argument_from key found (item ∷ items) =
    argument_from key (if item_has_key key item then after_first is_equals item else found) items

-- the value of a key: of its last item, and empty where it has none
abbrev pub argument : List ℕ → List ℕ → List ℕ
argument key text = argument_from key [] (items_of text)

-- where an address is asked for, it is an address's text
abbrev pub is_address_asked : List ℕ → Bool
is_address_asked text = is_empty text || is_some (address_of text)

abbrev pub is_short_value : List ℕ → Bool
is_short_value text = nat_le (length text) VALUE_BYTES_MAX

unfoldable pub are_arguments : List ℕ → Bool
are_arguments text =
    list_all is_argument (items_of text) && is_address_asked (argument (codes "IP") text)
    && is_short_value (argument (codes "K8S_POD_NAMESPACE") text)
    && is_short_value (argument (codes "K8S_POD_NAME") text)

-- ---- the tests in their order

-- where the network's namespace is needed, it is there
abbrev pub is_namespace_there : Bool → List ℕ → Bool
is_namespace_there needed text = not needed || not (is_empty text)

unfoldable pub container_tested : Bool → List Pair → Result (Unit {0}) Variable
container_tested needs_namespace env = do
  demand (is_name_text (variable ContainerId env)) ContainerId
  demand (is_namespace_there needs_namespace (variable Netns env)) Netns
  demand (is_interface (variable Ifname env)) Ifname
  demand (are_arguments (variable Args env)) Args

-- of a command without a container nothing is tested
abbrev pub environment_tested : Command → List Pair → Result (Unit {0}) Variable
environment_tested Add env = container_tested true env
environment_tested Del env = container_tested false env
environment_tested Check env = container_tested true env
environment_tested Version env = Ok tt
environment_tested Gc env = Ok tt
environment_tested Status env = Ok tt
