-- A text writes one address at most, which `address_of` gives, and printed texts are read back.
use Rattle.std.proofs.Common.{◌≡◌, ℕ, List, [], ◌∷◌, length, Option, Some, None, option_map, refl, sym, ap, ◌∙◌, subst, arith, lit≤, append-nil, ne_eqb}
use Rattle.std.proofs.lemmas.Option.{none-some, same_Some}
use Rattle.std.specs.Option.{option_or}
use Rattle.std.specs.declared.net.ipv4_addr.Ipv4Addr.{Ipv4Addr}
use Rattle.std.specs.declared.net.ipv6_addr.Ipv6Addr.{Ipv6Addr}
use Rattle.std.specs.Net.Addr.{ipv4_bits, ipv6_bits, ipv4_octets, ipv6_segments}
use Rattle.std.specs.Net.Reader.{Read, read_ipv4, read_ipv6, whole_value}
use Rattle.std.specs.Net.Grammar.{IsDotted, IsColonHex, IsIpv4Text, IsIpv6Text}
use Rattle.std.proofs.NetLemmas.Ipv4.{read_ipv4_complete, read_ipv4_sound}
use Rattle.std.proofs.NetLemmas.Ipv6.{read_ipv6_complete, read_ipv6_sound, EndsGroups-nil, IsDotted-not_colon_hex}
use Rattle.ipam_addr.specs.declared.address.Family.{Family}
use Rattle.ipam_addr.specs.declared.address.Family.TheVariants.{V4, V6}
use Rattle.ipam_addr.specs.Shape.{AddrValue}
use Rattle.ipam_addr.specs.Text.{SpellsNumber, SpellsAddress, v4_address, v6_address, address_of}

-- a whole text was read where nothing is left
whole_sound : {A : Type 0} (r : Read A) (x : A) → whole_value r ≡ Some x → r ≡ Some (x, [])
whole_sound None x e = absurd (none-some x e)
whole_sound (Some (y, [])) x e = ap (λ v. Some (v, [])) (same_Some y x e)
whole_sound (Some (y, c ∷ rest)) x e = absurd (none-some x (rw (ne_eqb (length (c ∷ rest)) 0 (omega arith)) at e))

pub v4_sound : (text octets : List ℕ) → whole_value (read_ipv4 text) ≡ Some octets → IsDotted text octets
v4_sound text octets e =
    let (front, split, h) = read_ipv4_sound text octets [] (whole_sound _ octets e) in
    subst (λ t. IsDotted t octets) (sym (split ∙ append-nil front)) h

pub v4_complete : (text octets : List ℕ) → IsDotted text octets → whole_value (read_ipv4 text) ≡ Some octets
v4_complete text octets h = ap whole_value (ap read_ipv4 (sym (append-nil text)) ∙ read_ipv4_complete text octets [] h (lit≤ tt))

pub v6_sound : (text segments : List ℕ) → whole_value (read_ipv6 text) ≡ Some segments → IsColonHex text segments
v6_sound text segments e =
    let (front, split, h) = read_ipv6_sound text segments [] (whole_sound _ segments e) in
    subst (λ t. IsColonHex t segments) (sym (split ∙ append-nil front)) h

pub v6_complete : (text segments : List ℕ) → IsColonHex text segments → whole_value (read_ipv6 text) ≡ Some segments
v6_complete text segments h = ap whole_value (ap read_ipv6 (sym (append-nil text)) ∙ read_ipv6_complete text segments [] h EndsGroups-nil)

-- a text of hex groups is no IPv4 address
pub v4_none : (text segments : List ℕ) → IsColonHex text segments → whole_value (read_ipv4 text) ≡ None
v4_none text segments h = go (whole_value (read_ipv4 text)) refl
  where
    go : (o : Option (List ℕ)) → whole_value (read_ipv4 text) ≡ o → whole_value (read_ipv4 text) ≡ None
    go None e = e
    go (Some octets) e = absurd (IsDotted-not_colon_hex text octets segments (v4_sound text octets e) h)

-- `address_of` gives the address that the text writes
number_of-spelled : (text : List ℕ) (f : Family) (n : ℕ) → SpellsNumber text f n → address_of text ≡ Some (record { family = f; number = n })
unfolding address_of
number_of-spelled text V4 n h = rw (v4_complete text h.0 h.1, h.2)
number_of-spelled text V6 n h = rw (v4_none text h.0 h.1, v6_complete text h.0 h.1, h.2)

pub address_of-spelled : (text : List ℕ) (a : AddrValue) → SpellsAddress text a → address_of text ≡ Some a
address_of-spelled text a h = number_of-spelled text a.family a.number h

-- and no other
pub spelled-address_of : (text : List ℕ) (a : AddrValue) → address_of text ≡ Some a → SpellsAddress text a
unfolding address_of
spelled-address_of text a e = go (whole_value (read_ipv4 text)) (whole_value (read_ipv6 text)) refl refl e
  where
    go : (o p : Option (List ℕ)) → whole_value (read_ipv4 text) ≡ o → whole_value (read_ipv6 text) ≡ p → option_or (option_map v4_address o) (option_map v6_address p) ≡ Some a → SpellsAddress text a
    go (Some octets) p v4 v6 e = subst (SpellsAddress text) (same_Some _ _ e) (octets, v4_sound text octets v4, refl)
    go None (Some segments) v4 v6 e = subst (SpellsAddress text) (same_Some _ _ e) (segments, v6_sound text segments v6, refl)
    go None None v4 v6 e = absurd (none-some a e)

-- a text that writes no address has none
pub address_of-none : (text : List ℕ) → ((a : AddrValue) → ¬ (SpellsAddress text a)) → address_of text ≡ None
address_of-none text none = go (address_of text) refl
  where
    go : (o : Option AddrValue) → address_of text ≡ o → address_of text ≡ None
    go None e = e
    go (Some a) e = absurd (none a (spelled-address_of text a e))

-- what std's parsers say of the text
pub v4_spelled : (text : List ℕ) (ip : Ipv4Addr) (n : ℕ) → IsIpv4Text text ip → n ≡ ipv4_bits ip → SpellsNumber text V4 n
unfolding ipv4_bits
v4_spelled text ip n h e = (ipv4_octets ip, h, e)

pub v6_spelled : (text : List ℕ) (ip : Ipv6Addr) (n : ℕ) → IsIpv6Text text ip → n ≡ ipv6_bits ip → SpellsNumber text V6 n
unfolding ipv6_bits
v6_spelled text ip n h e = (ipv6_segments ip, h, e)

none_in : (text : List ℕ) → ((ip : Ipv4Addr) → ¬ (IsIpv4Text text ip)) → ((ip : Ipv6Addr) → ¬ (IsIpv6Text text ip)) → (f : Family) (n : ℕ) → ¬ (SpellsNumber text f n)
none_in text v4 v6 V4 n h = v4 (record { octets = h.0 }) h.1
none_in text v4 v6 V6 n h = v6 (record { segments = h.0 }) h.1

pub none_spelled : (text : List ℕ) → ((ip : Ipv4Addr) → ¬ (IsIpv4Text text ip)) → ((ip : Ipv6Addr) → ¬ (IsIpv6Text text ip)) → (a : AddrValue) → ¬ (SpellsAddress text a)
none_spelled text v4 v6 a = none_in text v4 v6 a.family a.number
