-- What the members of a JSON object hold, and tests one after the other.
use Rattle.std.specs.Prelude.{ℕ, List, [], length, nat_le, Bool, true, false, Option, option_and_then, unwrap_or, is_some, Result, Ok, Err}
use Rattle.serde_json.specs.Data.{Data, Items, Members}
use Rattle.serde_json.specs.Find.{get, as_str, as_object}
use Rattle.ipam_json.specs.Built.{item_list, member_list}
use Rattle.ipam_addr.specs.Names.{is_name_text}
use Rattle.ipam_select.specs.declared.limits.TheConstants.{LABELS_MAX}
pub use Rattle.ipam_block.specs.Pairs.{Pair}

infixl 10 ◌>>=◌
abbrev pub ◌>>=◌ : {A B E : Type 0} → Result A E → (A → Result B E) → Result B E
Err e >>= f = Err e
Ok a >>= f = f a

infixl 10 ◌>>◌
abbrev pub ◌>>◌ : {B E : Type 0} → Result (Unit {0}) E → Result B E → Result B E
tested >> next = tested >>= λ _. next

-- the fault, unless it passes
abbrev pub demand : {E : Type 0} → Bool → E → Result (Unit {0}) E
demand true e = Ok tt
demand false e = Err e

-- the text, or the empty one where it is no text
abbrev pub text_or_empty : Data → List ℕ
text_or_empty d = unwrap_or (as_str d) []

-- the text that was found, or the empty one
abbrev pub text_found : Option Data → List ℕ
text_found o = unwrap_or (option_and_then as_str o) []

-- the text of this name, or the empty one
abbrev pub text_or_empty_at : List ℕ → Data → List ℕ
text_or_empty_at name d = text_found (get name d)

-- the member of a member
abbrev pub inside : (outer name : List ℕ) → Data → Option Data
inside outer name d = option_and_then (get name) (get outer d)

abbrev pub is_object : Data → Bool
is_object d = is_some (as_object d)

abbrev pub is_text : Data → Bool
is_text d = is_some (as_str d)

-- a member of this name is an object
abbrev pub is_object_at : List ℕ → Data → Bool
is_object_at name d = is_some (option_and_then as_object (get name d))

-- a member of this name is a text
abbrev pub is_text_at : List ℕ → Data → Bool
is_text_at name d = is_some (option_and_then as_str (get name d))

-- a member of this name is a name of a network, a node or a container
abbrev pub is_name_at : List ℕ → Data → Bool
is_name_at name d = is_name_text (text_or_empty_at name d)

-- at most this many items
abbrev pub are_few : ℕ → Items → Bool
are_few most ds = nat_le (length (item_list ds)) most

-- at most as many members as a node has labels
abbrev pub are_few_members : Members → Bool
are_few_members ms = nat_le (length (member_list ms)) LABELS_MAX
