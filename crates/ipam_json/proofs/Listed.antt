-- What an array and an object of `serde_json` list.
use Rattle.std.proofs.Common.{◌≡◌, ◌∙◌, List, Option, Some, None, option_map, ap, refl, sym, String, Global, BTreeMap, Bor, map}
use Rattle.std.specs.Prelude.{option_and_then}
use Rattle.serde_json.specs.Data.{Data}
use Rattle.serde_json.specs.Find.{as_array, as_object}
use Rattle.serde_json.specs.View.{view, items_view, members_view}
use Rattle.serde_json.specs.declared.value.Value.{Value}
use Rattle.ipam_json.specs.Built.{item_list, member_list, items_in, members_in, fields_of}
use Rattle.ipam_json.proofs.Constructors.{item_list-items_view, member_list-members_view}

map_within : {A B C : Type 0} (f : B → C) (g : A → Option B) (o : Option A) → option_map f (option_and_then g o) ≡ option_and_then (λ a. option_map f (g a)) o
map_within f g None = refl
map_within f g (Some a) = refl

pub items_listed : (vs : List Value) (o : Option Data) → Some (items_view vs) ≡ option_and_then as_array o → Some (map view vs) ≡ option_and_then items_in o
items_listed vs o e = sym (ap Some (item_list-items_view vs)) ∙ ap (option_map item_list) e ∙ map_within item_list as_array o

pub members_listed : (r : Option (Bor (BTreeMap (String Global) Value))) (o : Option Data) → option_map (λ m. members_view m.now.entries) r ≡ option_and_then as_object o → option_map (λ m. fields_of m.now.entries) r ≡ option_and_then members_in o
members_listed None o e = ap (option_map member_list) e ∙ map_within member_list as_object o
members_listed (Some m) o e = sym (ap Some (member_list-members_view m.now.entries)) ∙ ap (option_map member_list) e ∙ map_within member_list as_object o
