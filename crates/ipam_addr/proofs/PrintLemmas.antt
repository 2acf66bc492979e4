-- The printed text of an address writes it.
use Rattle.std.proofs.Common.{◌≡◌, ℕ, zero, suc, ◌+◌, ◌*◌, ◌/◌, ◌%◌, ◌<◌, ◌^◌, List, [], ◌∷◌, get_or, Some, refl, sym, ap, ◌∙◌, arith}
use Rattle.std.proofs.Math.Nat.{div-div-eq-div-mul}
use Rattle.std.proofs.lemmas.Nat.{from_be_bytes-to_be_bytes_4}
use Rattle.std.specs.Int.{w128, to_be_bytes, from_be_bytes}
use Rattle.std.specs.declared.net.ipv4_addr.Ipv4Addr.{Ipv4Addr}
use Rattle.std.specs.declared.net.ipv6_addr.Ipv6Addr.{Ipv6Addr}
use Rattle.std.specs.Net.Addr.{segments_of, octets_of, ipv4_octets, ipv6_segments, IsIpv4OfBits, IsIpv6OfBits}
use Rattle.std.specs.Net.Text.{ipv4_text, hex_groups_text}
use Rattle.std.proofs.NetLemmas.Texts.{IsDotted-ipv4_text, IsColonHex-hex_groups_text}
use Rattle.ipam_addr.specs.declared.address.Family.{Family}
use Rattle.ipam_addr.specs.declared.address.Family.TheVariants.{V4, V6}
use Rattle.ipam_addr.specs.Shape.{AddrValue}
use Rattle.ipam_addr.specs.Width.{address_count, IsAddress}
use Rattle.ipam_addr.specs.Text.{octets_at, segments_at, number_text, address_text, address_of, SpellsNumber, SpellsAddress}
use Rattle.ipam_addr.proofs.TextLemmas.{address_of-spelled}

-- eight digits of a number to the base 256, and the rest
eight_digits : (a b c d e f g h n p q r s t u v x : ℕ) → n ≡ a + p * 256 → p ≡ b + q * 256 → q ≡ c + r * 256 → r ≡ d + s * 256 → s ≡ e + t * 256 → t ≡ f + u * 256 → u ≡ g + v * 256 → v ≡ h + x * 256 → n ≡ a + b * 256 + c * 65536 + d * 16777216 + e * 4294967296 + f * 1099511627776 + g * 281474976710656 + h * 72057594037927936 + x * 18446744073709551616
eight_digits a b c d e f g h n p q r s t u v x at_0 at_1 at_2 at_3 at_4 at_5 at_6 at_7 = omega arith

-- sixteen digits, the high one first
sixteen_digits : (b0 b1 b2 b3 b4 b5 b6 b7 b8 b9 b10 b11 b12 b13 b14 b15 n x : ℕ) → n ≡ b0 + b1 * 256 + b2 * 65536 + b3 * 16777216 + b4 * 4294967296 + b5 * 1099511627776 + b6 * 281474976710656 + b7 * 72057594037927936 + x * 18446744073709551616 → x ≡ b8 + b9 * 256 + b10 * 65536 + b11 * 16777216 + b12 * 4294967296 + b13 * 1099511627776 + b14 * 281474976710656 + b15 * 72057594037927936 + 0 * 18446744073709551616 → b15 * 1329227995784915872903807060280344576 + b14 * 5192296858534827628530496329220096 + b13 * 20282409603651670423947251286016 + b12 * 79228162514264337593543950336 + b11 * 309485009821345068724781056 + b10 * 1208925819614629174706176 + b9 * 4722366482869645213696 + b8 * 18446744073709551616 + b7 * 72057594037927936 + b6 * 281474976710656 + b5 * 1099511627776 + b4 * 4294967296 + b3 * 16777216 + b2 * 65536 + b1 * 256 + b0 ≡ n
sixteen_digits b0 b1 b2 b3 b4 b5 b6 b7 b8 b9 b10 b11 b12 b13 b14 b15 n x low high = omega arith

byte_and_rest : (n p : ℕ) → n / p ≡ n / p % 256 + n / (p * 256) * 256
byte_and_rest n p = omega (arith, div-div-eq-div-mul n p 256)

pub from_be_bytes-to_be_bytes_16 : (n : ℕ) → n < 2 ^ 128 → from_be_bytes w128 (to_be_bytes w128 n) ≡ n
from_be_bytes-to_be_bytes_16 n fits =
    let first : n ≡ n % 256 + n / 256 * 256 = omega arith in
    let last : n / 1329227995784915872903807060280344576 ≡ n / 1329227995784915872903807060280344576 % 256 + 0 * 256 = omega arith in
    let low = eight_digits _ _ _ _ _ _ _ _ n _ _ _ _ _ _ _ _ first (byte_and_rest n 256) (byte_and_rest n 65536) (byte_and_rest n 16777216) (byte_and_rest n 4294967296) (byte_and_rest n 1099511627776) (byte_and_rest n 281474976710656) (byte_and_rest n 72057594037927936) in
    let high = eight_digits _ _ _ _ _ _ _ _ (n / 18446744073709551616) _ _ _ _ _ _ _ 0 (byte_and_rest n 18446744073709551616) (byte_and_rest n 4722366482869645213696) (byte_and_rest n 1208925819614629174706176) (byte_and_rest n 309485009821345068724781056) (byte_and_rest n 79228162514264337593543950336) (byte_and_rest n 20282409603651670423947251286016) (byte_and_rest n 5192296858534827628530496329220096) last in
    sixteen_digits _ _ _ _ _ _ _ _ _ _ _ _ _ _ _ _ n _ low high

-- bytes, two for each segment
abbrev ArePairs : List ℕ → Type 0
ArePairs [] = Unit {0}
ArePairs (a ∷ []) = ⊥
ArePairs (a ∷ b ∷ bytes) = (b < 256) × ArePairs bytes

octets_of-segments_of : (bytes : List ℕ) → ArePairs bytes → octets_of (segments_of bytes) ≡ bytes
octets_of-segments_of [] h = refl
octets_of-segments_of (a ∷ []) h = absurd h
octets_of-segments_of (a ∷ b ∷ bytes) h =
    let high : (a * 256 + b) / 256 ≡ a = omega (arith, h.0) in
    let low : (a * 256 + b) % 256 ≡ b = omega (arith, h.0) in
    λ i. high i ∷ low i ∷ octets_of-segments_of bytes h.1 i

pairs_at : (n : ℕ) → ArePairs (to_be_bytes w128 n)
pairs_at n = omega arith

-- each number of a list is below a limit
record AllBelow (m : ℕ) (xs : List ℕ) : Type 0 where
  below : (k : ℕ) → get_or xs k 0 < m

none_above : (m : ℕ) → 0 < m → AllBelow m []
none_above m h = record { below = λ k. h }

cons_below : (m x : ℕ) (xs : List ℕ) → x < m → AllBelow m xs → AllBelow m (x ∷ xs)
cons_below m x xs h others = record {
  below = λ k. elim k as (λ j. get_or (x ∷ xs) j 0 < m) [ zero ↦ h | suc j ↦ others.below j ];
}

octets_below : (n : ℕ) → AllBelow (2 ^ 8) (octets_at n)
octets_below n =
    cons_below _ _ _ (omega arith) (cons_below _ _ _ (omega arith) (cons_below _ _ _ (omega arith)
    (cons_below _ _ _ (omega arith) (none_above _ (omega arith)))))

segments_below : (n : ℕ) → AllBelow (2 ^ 16) (segments_at n)
segments_below n =
    cons_below _ _ _ (omega arith) (cons_below _ _ _ (omega arith) (cons_below _ _ _ (omega arith)
    (cons_below _ _ _ (omega arith) (cons_below _ _ _ (omega arith) (cons_below _ _ _ (omega arith)
    (cons_below _ _ _ (omega arith) (cons_below _ _ _ (omega arith) (none_above _ (omega arith)))))))))

spelled_by : (f : Family) (n : ℕ) → n < address_count f → SpellsNumber (number_text f n) f n
spelled_by V4 n fits = (octets_at n, IsDotted-ipv4_text (octets_at n) refl (octets_below n).below, sym (from_be_bytes-to_be_bytes_4 n fits))
spelled_by V6 n fits = (
  segments_at n,
  IsColonHex-hex_groups_text (segments_at n) refl (segments_below n).below,
  sym (ap (from_be_bytes w128) (octets_of-segments_of (to_be_bytes w128 n) (pairs_at n)) ∙ from_be_bytes-to_be_bytes_16 n fits),
)

pub SpellsAddress-address_text : (a : AddrValue) → IsAddress a → SpellsAddress (address_text a) a
unfolding address_text
SpellsAddress-address_text a h = spelled_by a.family a.number h

-- a printed address is read back
pub address_of-address_text : (a : AddrValue) → IsAddress a → address_of (address_text a) ≡ Some a
address_of-address_text a h = address_of-spelled (address_text a) a (SpellsAddress-address_text a h)

-- the text at each family
pub address_text-V4 : (a : AddrValue) → a.family ≡ V4 → address_text a ≡ ipv4_text (octets_at a.number)
unfolding address_text
address_text-V4 a e = ap (λ f. number_text f a.number) e

pub address_text-V6 : (a : AddrValue) → a.family ≡ V6 → address_text a ≡ hex_groups_text (segments_at a.number)
unfolding address_text
address_text-V6 a e = ap (λ f. number_text f a.number) e

-- the text of the address that std makes of the number
pub ipv4_text-of_bits : (a : AddrValue) (ip : Ipv4Addr) → a.family ≡ V4 → IsIpv4OfBits ip a.number → ipv4_text (ipv4_octets ip) ≡ address_text a
unfolding IsIpv4OfBits
ipv4_text-of_bits a ip e h = ap ipv4_text h ∙ sym (address_text-V4 a e)

pub hex_groups_text-of_bits : (a : AddrValue) (ip : Ipv6Addr) → a.family ≡ V6 → IsIpv6OfBits ip a.number → hex_groups_text (ipv6_segments ip) ≡ address_text a
unfolding IsIpv6OfBits
hex_groups_text-of_bits a ip e h = ap hex_groups_text h ∙ sym (address_text-V6 a e)
