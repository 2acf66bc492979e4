-- The texts of addresses (RFC 4291, RFC 5952) and of CIDRs (RFC 4632).
use Rattle.std.specs.Prelude.{◌≡◌, ℕ, ◌<◌, Bool, not, ◌&&◌, List, ◌++◌, length, slice_index, codes, decimal, Option, Some, None, option_map, Result, Err, ◌==◌, nat_lt, nat_le, if◌then◌else◌}
use Rattle.std.specs.List.{before_first, after_first}
use Rattle.std.specs.Option.{option_or}
use Rattle.std.specs.Int.{w32, w128, to_be_bytes, from_be_bytes}
use Rattle.std.specs.Str.{all_ascii_digits}
use Rattle.std.specs.Str.Parse.{digits_value}
use Rattle.std.specs.Net.Addr.{segments_of, octets_of}
use Rattle.std.specs.Net.Grammar.{IsDotted, IsColonHex}
use Rattle.std.specs.Net.Text.{ipv4_text, hex_groups_text}
use Rattle.std.specs.Net.Reader.{read_ipv4, read_ipv6, whole_value}
use Rattle.ipam_addr.specs.declared.address.Family.{Family}
use Rattle.ipam_addr.specs.declared.address.Family.TheVariants.{V4, V6}
use Rattle.ipam_addr.specs.declared.cidrs.AddrFault.{AddrFault}
use Rattle.ipam_addr.specs.declared.cidrs.AddrFault.TheVariants.{Text}
use Rattle.ipam_addr.specs.Shape.{AddrValue, CidrValue}
use Rattle.ipam_addr.specs.Width.{IsCidr}
use Rattle.ipam_addr.specs.Holding.{first_address}
use Rattle.ipam_addr.specs.Made.{made_cidr}

-- the four octets of an IPv4 address, and the eight segments of an IPv6 address, the high one first
abbrev pub octets_at : ℕ → List ℕ
octets_at n = to_be_bytes w32 n

abbrev pub segments_at : ℕ → List ℕ
segments_at n = segments_of (to_be_bytes w128 n)

-- the address of these octets, or of these segments
abbrev pub v4_address : List ℕ → AddrValue
v4_address octets = record { family = V4; number = from_be_bytes w32 octets }

abbrev pub v6_address : List ℕ → AddrValue
v6_address segments = record { family = V6; number = from_be_bytes w128 (octets_of segments) }

-- The text writes the number, as four decimal numbers with dots between them, or as eight groups of
-- hex digits with colons, of which `::` may stand for zeros and an IPv4 address for the last two.
abbrev pub SpellsNumber : List ℕ → Family → ℕ → Type 0
SpellsNumber text V4 n = (octets : List ℕ) × IsDotted text octets × (n ≡ from_be_bytes w32 octets)
SpellsNumber text V6 n =
    (segments : List ℕ) × IsColonHex text segments × (n ≡ from_be_bytes w128 (octets_of segments))

-- the text writes the address
abbrev pub SpellsAddress : List ℕ → AddrValue → Type 0
SpellsAddress text a = SpellsNumber text a.family a.number

-- the one text that is printed: hex groups in lower case with the longest run of zeros as `::`
abbrev pub number_text : Family → ℕ → List ℕ
number_text V4 n = ipv4_text (octets_at n)
number_text V6 n = hex_groups_text (segments_at n)

unfoldable pub address_text : AddrValue → List ℕ
address_text a = number_text a.family a.number

-- the address that the text writes, if it writes one
unfoldable pub address_of : List ℕ → Option AddrValue
address_of text =
    option_or (option_map v4_address (whole_value (read_ipv4 text)))
    (option_map v6_address (whole_value (read_ipv6 text)))

-- the text is an address, `/` and a number of one to three digits
pub record HasForm (text : List ℕ) (a : AddrValue) (prefix : ℕ) : Type 0 where
  pub address : List ℕ
  pub spelled : text ≡ address ++ codes "/" ++ decimal prefix
  pub is_address : SpellsAddress address a
  pub few_digits : prefix < 1000

-- the text writes the CIDR
pub record SpellsCidr (text : List ℕ) (r : CidrValue) : Type 0 where
  pub form : HasForm text (first_address r) r.prefix
  pub sound : IsCidr r

unfoldable pub cidr_text_of : CidrValue → List ℕ
cidr_text_of r = address_text (first_address r) ++ codes "/" ++ decimal r.prefix

-- one to three digits, of which the first is 0 only where it stands alone
abbrev pub is_prefix_text : List ℕ → Bool
is_prefix_text digits =
    nat_lt 0 (length digits) && nat_le (length digits) 3
    && not (nat_lt 1 (length digits) && slice_index digits 0 == 48) && all_ascii_digits digits

unfoldable pub prefix_of : List ℕ → Option ℕ
prefix_of digits = if is_prefix_text digits then Some (digits_value 10 digits) else None

-- the CIDR of an address and a prefix, where both were read
abbrev pub cidr_from_parts : Option AddrValue → Option ℕ → Result CidrValue AddrFault
cidr_from_parts None p = Err Text
cidr_from_parts (Some a) None = Err Text
cidr_from_parts (Some a) (Some p) = made_cidr a p

abbrev pub is_slash : ℕ → Bool
is_slash c = c == 47

-- the CIDR that the text writes, or else the first fault
unfoldable pub cidr_reading : List ℕ → Result CidrValue AddrFault
cidr_reading text =
    cidr_from_parts (address_of (before_first is_slash text)) (prefix_of (after_first is_slash text))
