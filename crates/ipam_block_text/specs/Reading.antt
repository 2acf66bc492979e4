-- Reading the text of a block.
use Rattle.std.specs.Prelude.{ℕ, ◌+◌, ◌^◌, ◌&&◌, ◌==◌, Bool, false, nat_lt, nat_le, nat_eq, List, [], ◌∷◌, length, drop, Option, Some, None, option_map, option_and_then, unwrap_or, is_some, Result, Ok, Err, codes, decimal, bytes_eq, slice_get, if◌then◌else◌}
use Rattle.std.specs.List.{list_all, starts_with}
use Rattle.std.specs.Str.Parse.{digits_value}
use Rattle.serde_json.specs.Data.{Data, null, boolean, number, string, array, object}
use Rattle.serde_json.specs.Find.{get, as_str, as_u64}
use Rattle.serde_json.specs.Written.{compact_text}
use Rattle.ipam_addr.specs.Shape.{CidrValue}
use Rattle.ipam_addr.specs.Text.{cidr_reading}
use Rattle.ipam_addr.specs.Width.{cidr_size}
use Rattle.ipam_addr.specs.Names.{is_name_text, is_handle_text}
use Rattle.ipam_addr.specs.declared.cidrs.AddrFault.{AddrFault}
use Rattle.ipam_block.specs.Shape.{BlockValue}
use Rattle.ipam_block.specs.declared.limits.TheConstants.{ADDRESSES_MAX}
use Rattle.ipam_block.specs.Test.{is_block, content_of}
use Rattle.ipam_block.specs.declared.allocation.Allocation.{Allocation}
use Rattle.ipam_block.specs.declared.allocation.Attributes.{Attributes}
use Rattle.ipam_json.specs.Path.{as_whole, is_index}
use Rattle.ipam_json.specs.Built.{Field, members_in}
use Rattle.ipam_json.specs.Members.{text_at, list_at, fields_at}
use Rattle.ipam_json.specs.Held.{held}
use Rattle.ipam_block_text.specs.declared.parts.Parts.{Parts}
use Rattle.ipam_block_text.specs.declared.fault.BodyFault.{BodyFault}
use Rattle.ipam_block_text.specs.declared.fault.BodyFault.TheVariants.{Form, Unsound}
use Rattle.ipam_block_text.specs.Attributes.{Pair}
use Rattle.ipam_block_text.specs.Limits.{are_pairs}
use Rattle.ipam_block_text.specs.Body.{parts_data, block_body}

-- what is read of each, where all can be read
abbrev pub each : {A B : Type 0} → (A → Option B) → List A → Option (List B)
each f [] = Some []
each f (x ∷ xs) = option_and_then (λ y. option_map (λ ys. y ∷ ys) (each f xs)) (f x)

abbrev pub if_passes : {A : Type 0} → (A → Bool) → A → Option A
if_passes test x = if test x then Some x else None

-- ---- the members

-- what stands after `host:`
unfoldable pub after_host : List ℕ → Option (List ℕ)
after_host text = if starts_with nat_eq text (codes "host:") then Some (drop 5 text) else None

abbrev pub node_named : List ℕ → Option (Option (List ℕ))
node_named text = option_map Some (option_and_then (if_passes is_name_text) (after_host text))

abbrev pub host_in : Data → Option (Option (List ℕ))
host_in null = Some None
host_in (boolean b) = None
host_in (number n) = None
host_in (string s) = node_named s
host_in (array ds) = None
host_in (object ms) = None

abbrev pub place_in : Data → Option (Option ℕ)
place_in null = Some None
place_in (boolean b) = None
place_in (number n) = option_map Some (as_u64 n)
place_in (string s) = None
place_in (array ds) = None
place_in (object ms) = None

abbrev pub pair_in : Field → Option Pair
pair_in m = option_map (λ value. (m.0, value)) (as_str m.1)

unfoldable pub secondary_in : Data → Option (List Pair)
secondary_in d =
    option_and_then (if_passes are_pairs)
    (option_and_then (each pair_in) (fields_at (codes "secondary") d))

unfoldable pub handle_id_in : Data → Option (List ℕ)
handle_id_in d = option_and_then (if_passes is_handle_text) (text_at (codes "handle_id") d)

unfoldable pub attributes_in : Data → Option Attributes
attributes_in d =
    option_and_then
    (λ handle. option_map (λ pairs. record { handle = handle; secondary = pairs }) (secondary_in d))
    (handle_id_in d)

abbrev pub small_cidr : Result CidrValue AddrFault → Option CidrValue
small_cidr (Ok r) = if nat_le (cidr_size r) ADDRESSES_MAX then Some r else None
small_cidr (Err fault) = None

unfoldable pub small_cidr_in : Data → Option CidrValue
small_cidr_in d = option_and_then (λ text. small_cidr (cidr_reading text)) (text_at (codes "cidr") d)

unfoldable pub node_in : Data → Option (Option (List ℕ))
node_in d = option_and_then host_in (get (codes "affinity") d)

unfoldable pub places_in : Data → Option (List (Option ℕ))
places_in d = option_and_then (each place_in) (list_at (codes "allocations") d)

unfoldable pub all_attributes_in : Data → Option (List Attributes)
all_attributes_in d = option_and_then (each attributes_in) (list_at (codes "attributes") d)

unfoldable pub sequence_in : Data → Option ℕ
sequence_in d =
    option_and_then (if_passes (λ n. nat_lt n (2 ^ 64)))
    (option_and_then as_whole (get (codes "sequenceNumber") d))

unfoldable pub queue_in : Data → Option (List ℕ)
queue_in d = option_and_then (each as_whole) (list_at (codes "unallocated") d)

-- the parts that the value says
unfoldable pub parts_in : Data → Option Parts
parts_in d =
    option_and_then (λ node.
    option_and_then (λ places.
    option_and_then (λ attributes.
    option_and_then (λ cidr.
    option_and_then (λ sequence.
    option_map (λ queue. record {
      node = node;
      places = places;
      attributes = attributes;
      cidr = cidr;
      sequence = sequence;
      queue = queue;
    })
    (queue_in d)) (sequence_in d)) (small_cidr_in d)) (all_attributes_in d)) (places_in d)) (node_in d)

-- a decimal number below 2^64, in its one spelling
unfoldable pub is_number_name : List ℕ → Bool
is_number_name name = is_index name && nat_lt (digits_value 10 name) (2 ^ 64)

abbrev pub is_stamp : Field → Bool
is_stamp m = is_number_name m.0 && is_some (as_whole m.1)

-- an object of whole numbers whose names are decimal numbers
abbrev pub are_stamps : Data → Bool
are_stamps d = unwrap_or (option_map (list_all is_stamp) (members_in d)) false

unfoldable pub stamps_in : Data → Option Data
stamps_in d =
    option_and_then (if_passes are_stamps) (get (codes "sequenceNumberForAllocation") d)

-- ---- the form

-- the parts and the stamps that the value says
abbrev pub form_in : Data → Option (Parts × Data)
form_in d =
    option_and_then (λ parts. option_map (λ stamps. (parts, stamps)) (stamps_in d)) (parts_in d)

-- the text with these parts and stamps
abbrev pub form_text : Parts × Data → List ℕ
form_text f = compact_text (parts_data f.0 f.1)

-- the parts and the stamps that the text says, where it is the text of some
unfoldable pub block_form : List ℕ → Option (Parts × Data)
block_form body = held form_in form_text body

-- the CIDR of the block that the text says, sound or not
abbrev pub cidr_said : List ℕ → Option CidrValue
cidr_said body = option_map (λ f. f.0.cidr) (block_form body)

-- ---- the block

abbrev pub stamp_of : Data → ℕ → Option ℕ
stamp_of stamps o = option_and_then as_whole (get (decimal o) stamps)

-- the allocation of an ordinal, with the attributes at an index
abbrev pub allocation_at : List Attributes → Data → ℕ → ℕ → Option Allocation
allocation_at attributes stamps o index =
    option_and_then
    (λ own. option_map (λ stamp. record { ordinal = o; attributes = own; stamp = stamp }) (stamp_of stamps o))
    (slice_get attributes index)

-- what is held from an ordinal on
abbrev pub held_from : List Attributes → Data → ℕ → List (Option ℕ) → Option (List Allocation)
held_from attributes stamps o [] = Some []
held_from attributes stamps o (None ∷ places) = held_from attributes stamps (o + 1) places
held_from attributes stamps o (Some index ∷ places) =
    option_and_then
    (λ a. option_map (λ more. a ∷ more) (held_from attributes stamps (o + 1) places))
    (allocation_at attributes stamps o index)

abbrev pub are_ordinals : List ℕ → Bool
are_ordinals queue = list_all (λ o. nat_lt o (2 ^ 16)) queue

-- the block with these parts and stamps
unfoldable pub block_of_parts_in : Parts → Data → Option BlockValue
block_of_parts_in p stamps =
    if (length p.places == cidr_size p.cidr) && are_ordinals p.queue then
    option_and_then (if_passes is_block)
    (option_map (λ held. content_of p.cidr p.node held p.queue p.sequence)
    (held_from p.attributes stamps 0 p.places))
    else None

-- the block, where this is its text
abbrev pub has_text : List ℕ → BlockValue → Option BlockValue
has_text body b = if bytes_eq (block_body b) body then Some b else None

-- a block that was found is the text's, if the text is its text; else the text says an unsound
-- block of the CIDR
abbrev pub checked : List ℕ → CidrValue → Option BlockValue → Result BlockValue BodyFault
checked body cidr None = Err (Unsound cidr)
checked body cidr (Some b) = if bytes_eq (block_body b) body then Ok b else Err (Unsound cidr)

abbrev pub reading_from : List ℕ → Option (Parts × Data) → Result BlockValue BodyFault
reading_from body None = Err Form
reading_from body (Some f) = checked body f.0.cidr (block_of_parts_in f.0 f.1)

-- the block whose text this is, or else the first fault
unfoldable pub block_reading : List ℕ → Result BlockValue BodyFault
block_reading body = reading_from body (block_form body)
