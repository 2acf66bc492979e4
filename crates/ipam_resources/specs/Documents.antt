-- A document: the resources that it holds, or else its first fault.
use Rattle.std.specs.Prelude.{◌≡◌, ◌≤◌, ℕ, List, [], ◌∷◌, ◌++◌, length, nat_lt, true, Option, Some, None, is_some, option_and_then, Result, Ok, Err, if◌then◌else◌}
use Rattle.std.specs.Str.{is_utf8}
use Rattle.serde_json.specs.Data.{Data, Items, no_items, item}
use Rattle.serde_json.specs.Find.{as_str, as_array, as_object}
use Rattle.serde_json.specs.Read.{read}
use Rattle.ipam_resources.specs.declared.fault.DocumentFault.{DocumentFault}
use Rattle.ipam_resources.specs.declared.fault.DocumentFault.TheVariants as fault
use Rattle.ipam_resources.specs.declared.fault.TheConstants.{DOCUMENT_MAX}
use Rattle.ipam_resources.specs.declared.kind.DocumentKind.{DocumentKind}
use Rattle.ipam_resources.specs.declared.kind.DocumentKind.TheVariants.{One, Several}
use Rattle.ipam_resources.specs.declared.member.Member.{Member}
use Rattle.ipam_resources.specs.declared.member.Member.TheVariants as member
use Rattle.ipam_resources.specs.declared.resource.Resource.{Resource}
use Rattle.ipam_resources.specs.Members.{◌>>=◌, found_at}
use Rattle.ipam_resources.specs.Naming.{document_kind_of}
use Rattle.ipam_resources.specs.Resources.{resource_in, item_in}

-- the member of the document itself is bad
abbrev pub bad : Member → DocumentFault
bad m = fault.Member (record { item = None; member = m })

-- the member of this item is bad
abbrev pub bad_in_item : ℕ → Member → DocumentFault
bad_in_item n m = fault.Member (record { item = Some n; member = m })

-- ---- one resource

abbrev pub one_resource : Result Resource Member → Result (List Resource) DocumentFault
one_resource (Ok resource) = Ok (resource ∷ [])
one_resource (Err m) = Err (bad m)

-- ---- a list

abbrev pub as_item : ℕ → Result Resource Member → Result Resource DocumentFault
as_item n (Ok resource) = Ok resource
as_item n (Err m) = Err (bad_in_item n m)

-- the resources, and after them those that the items are. As many came before an item as its index
abbrev pub resources_after : List Resource → Items → Result (List Resource) DocumentFault
resources_after there no_items = Ok there
resources_after there (item d ds) = do
  resource ← as_item (length there) (item_in d)
  resources_after (there ++ resource ∷ []) ds

abbrev pub resources_of : Option Items → Result (List Resource) DocumentFault
resources_of None = Err (bad member.Items)
resources_of (Some items) = resources_after [] items

-- ---- the document

unfoldable pub kind_said : Data → Option DocumentKind
kind_said d = option_and_then document_kind_of (option_and_then as_str (found_at member.Kind d))

abbrev pub by_kind : Option DocumentKind → Data → Result (List Resource) DocumentFault
by_kind None d = Err (bad member.Kind)
by_kind (Some (One k)) d = one_resource (resource_in k d)
by_kind (Some Several) d = resources_of (option_and_then as_array (found_at member.Items d))

-- the JSON that the bytes are the text of
unfoldable pub json_of : List ℕ → Option Data
json_of bytes = if is_utf8 bytes then read bytes else None

abbrev pub object_reading : Option Data → Result (List Resource) DocumentFault
object_reading None = Err fault.NotJson
object_reading (Some d) =
    if is_some (as_object d) then by_kind (kind_said d) d else Err fault.NotJson

-- what is read of a document's bytes
unfoldable pub document_reading : List ℕ → Result (List Resource) DocumentFault
document_reading bytes =
    if nat_lt DOCUMENT_MAX (length bytes) then Err fault.Long else object_reading (json_of bytes)

-- The bytes are not too many, and a text. Those of any other document are refused at once, without memory.
abbrev pub IsReadable : List ℕ → Type 0
IsReadable bytes = (length bytes ≤ DOCUMENT_MAX) × (is_utf8 bytes ≡ true)
