-- The texts of keys are visible where their names are names.
use Rattle.std.proofs.Common.{◌≡◌, ℕ, zero, suc, ◌+◌, ◌/◌, ◌%◌, ◌<◌, List, [], ◌∷◌, ◌++◌, Bool, true, false, cond, ◌&&◌, length, take, drop, codes, decimal, refl, arith, lt-ltb}
use Rattle.std.specs.Prelude.{nat_lt, nat_le, flat_map, slice_index}
use Rattle.std.specs.Char.{digit_char, is_ascii_alphanumeric}
use Rattle.std.specs.List.{list_all}
use Rattle.std.specs.Net.Text.{hex, groups_text, compressed_text, longest_zero_run, hex_groups_text, ipv4_text, leading_zero_digits}
use Rattle.std.proofs.lemmas.Bool.{and_parts}
use Rattle.std.proofs.lemmas.Bool.Decides.{nat_tests}
use Rattle.ipam_addr.specs.declared.address.Family.{Family}
use Rattle.ipam_addr.specs.declared.address.Family.TheVariants.{V4, V6}
use Rattle.ipam_addr.specs.Shape.{AddrValue, CidrValue}
use Rattle.ipam_addr.specs.Holding.{first_address}
use Rattle.ipam_addr.specs.Names.{is_name_byte, is_name_within}
use Rattle.ipam_addr.specs.Text.{number_text, octets_at, segments_at, address_text, cidr_text_of}
use Rattle.ipam_records.specs.declared.key.Key.{Key}
use Rattle.ipam_records.specs.declared.key.Key.TheVariants as key
use Rattle.ipam_records.specs.KeyText.{key_bytes}
use Rattle.ipam_text_laws.specs.Names.{HasName}
use Rattle.ipam_text_laws.proofs.Plain.{is_visible, IsVisible, passes-append, passes-cons, passes-rest, visible-text, visible-decimal}

-- ---- addresses

digit-visible : (d : ℕ) → is_visible (digit_char d) ≡ true
digit-visible d = by (nat_lt d 10)
  where
    by : (b : Bool) → is_visible (cond b (48 + d) (87 + d)) ≡ true
    by true = lt-ltb 32 (48 + d) (omega arith)
    by false = lt-ltb 32 (87 + d) (omega arith)

drop-visible : (k : ℕ) (xs : List ℕ) → IsVisible xs → IsVisible (drop k xs)
drop-visible zero xs h = h
drop-visible (suc k) [] h = h
drop-visible (suc k) (x ∷ xs) h = drop-visible k xs (passes-rest x xs h)

hex-visible : (n : ℕ) → IsVisible (hex n)
unfolding hex
hex-visible n =
    drop-visible (leading_zero_digits n) _
    (passes-cons _ _ (digit-visible (n / 0x1000))
    (passes-cons _ _ (digit-visible (n / 0x100 % 16))
    (passes-cons _ _ (digit-visible (n / 0x10 % 16))
    (passes-cons _ [] (digit-visible (n % 16)) (visible-text [] refl)))))

more-visible : (rest : List ℕ) → IsVisible (flat_map (λ t. codes ":" ++ hex t) rest)
more-visible [] = visible-text [] refl
more-visible (t ∷ rest) = passes-append (codes ":" ++ hex t) _ (passes-append (codes ":") (hex t) (visible-text (codes ":") refl) (hex-visible t)) (more-visible rest)

groups-visible : (segments : List ℕ) → IsVisible (groups_text segments)
groups-visible [] = visible-text [] refl
groups-visible (s ∷ rest) = passes-append (hex s) _ (hex-visible s) (more-visible rest)

compressed-visible : (segments : List ℕ) (run : ℕ × ℕ) → IsVisible (compressed_text segments run)
compressed-visible segments run = by (nat_lt 1 run.1)
  where
    by : (b : Bool) → IsVisible (cond b (groups_text (take run.0 segments) ++ codes "::" ++ groups_text (drop (run.0 + run.1) segments)) (groups_text segments))
    by true = passes-append (groups_text (take run.0 segments) ++ codes "::") _ (passes-append (groups_text (take run.0 segments)) (codes "::") (groups-visible (take run.0 segments)) (visible-text (codes "::") refl)) (groups-visible (drop (run.0 + run.1) segments))
    by false = groups-visible segments

-- a number after a sign
signed-visible : (xs sign : List ℕ) (n : ℕ) → list_all is_visible sign ≡ true → IsVisible xs → IsVisible ((xs ++ sign) ++ decimal n)
signed-visible xs sign n e h = passes-append (xs ++ sign) (decimal n) (passes-append xs sign h (visible-text sign e)) (visible-decimal n)

ipv4-visible : (o : List ℕ) → IsVisible (ipv4_text o)
ipv4-visible o =
    signed-visible _ (codes ".") (slice_index o 3) refl
    (signed-visible _ (codes ".") (slice_index o 2) refl
    (signed-visible _ (codes ".") (slice_index o 1) refl (visible-decimal (slice_index o 0))))

number-visible : (family : Family) (n : ℕ) → IsVisible (number_text family n)
unfolding hex_groups_text
number-visible V4 n = ipv4-visible (octets_at n)
number-visible V6 n = compressed-visible (segments_at n) (longest_zero_run (segments_at n))

address-visible : (a : AddrValue) → IsVisible (address_text a)
unfolding address_text
address-visible a = number-visible a.family a.number

cidr-visible : (cidr : CidrValue) → IsVisible (cidr_text_of cidr)
unfolding cidr_text_of
cidr-visible cidr = signed-visible (address_text (first_address cidr)) (codes "/") cidr.prefix refl (address-visible (first_address cidr))

-- ---- names

name_byte-above : (x : ℕ) → is_name_byte x ≡ true → 32 < x
name_byte-above x h = grind (arith, nat_tests)

name_bytes-visible : (xs : List ℕ) → list_all is_name_byte xs ≡ true → IsVisible xs
name_bytes-visible [] h = visible-text [] refl
name_bytes-visible (x ∷ xs) h =
    let both = and_parts (is_name_byte x) (list_all is_name_byte xs) h in
    passes-cons x xs (lt-ltb 32 x (name_byte-above x both.0)) (name_bytes-visible xs both.1)

first_byte : (x : ℕ) → is_ascii_alphanumeric x ≡ true → is_name_byte x ≡ true
first_byte x h = rw h refl

pub name-visible : (most : ℕ) (text : List ℕ) → is_name_within most text ≡ true → IsVisible text
name-visible most [] h = visible-text [] refl
name-visible most (x ∷ xs) h =
    let (front, rest) = and_parts (is_ascii_alphanumeric x && nat_le (length (x ∷ xs)) most) (list_all is_name_byte xs) h in
    let (letter, short) = and_parts (is_ascii_alphanumeric x) (nat_le (length (x ∷ xs)) most) front in
    passes-cons x xs (lt-ltb 32 x (name_byte-above x (first_byte x letter))) (name_bytes-visible xs rest)

pub key-visible : (k : Key) → HasName k → IsVisible (key_bytes k)
key-visible key.Config h = visible-text (codes "config") refl
key-visible key.Pools h = visible-text (codes "pools") refl
key-visible key.Reservations h = visible-text (codes "reservations") refl
key-visible (key.Block cidr) h = passes-append (codes "block/") _ (visible-text (codes "block/") refl) (cidr-visible cidr)
key-visible (key.Affinity node cidr) h =
    passes-append (codes "affinity/") _ (visible-text (codes "affinity/") refl)
    (passes-append node _ (name-visible _ node h) (passes-append (codes "/") _ (visible-text (codes "/") refl) (cidr-visible cidr)))
key-visible (key.Handle id) h = passes-append (codes "handle/") id (visible-text (codes "handle/") refl) (name-visible _ id h)
