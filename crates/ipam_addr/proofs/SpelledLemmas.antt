-- A text that writes an address writes one of its family, and has no slash in it.
use Rattle.std.proofs.Common.{◌≡◌, ◌≢◌, ℕ, zero, suc, ◌-◌, ◌<◌, ◌≤◌, ◌^◌, Bool, true, false, List, [], ◌∷◌, ◌++◌, length, get_or, replicate, decimal, sym, ap, ◌∙◌, subst, arith, lit≤, inl, inr}
use Rattle.std.proofs.lemmas.Int.Digits.{digits_value-lt}
use Rattle.std.proofs.lemmas.Fmt.{decimal_is_IsNumeral}
use Rattle.std.proofs.Math.Nat.{pow-le-pow_right}
use Rattle.std.specs.Char.{digit_value}
use Rattle.std.specs.Int.{w32, w128, from_be_bytes}
use Rattle.std.specs.Str.Parse.{AllDigits}
use Rattle.std.specs.Net.Addr.{segments_of, octets_of}
use Rattle.std.specs.Net.Grammar.{IsDotted, IsGroup, IsGroupsAfter, IsColonHex}
use Rattle.ipam_addr.specs.declared.address.Family.{Family}
use Rattle.ipam_addr.specs.declared.address.Family.TheVariants.{V4, V6}
use Rattle.ipam_addr.specs.Shape.{AddrValue}
use Rattle.ipam_addr.proofs.SlashLemmas.{NoSlash, NoSlash-append}
use Rattle.ipam_addr.specs.Width.{address_count, IsAddress}
use Rattle.ipam_addr.specs.Text.{SpellsNumber, SpellsAddress}

-- ---- the number is one of the family's
abbrev AllFit : ℕ → List ℕ → Type 0
AllFit limit [] = Unit {0}
AllFit limit (x ∷ xs) = (x < limit) × AllFit limit xs

AllFit-append : (limit : ℕ) (xs ys : List ℕ) → AllFit limit xs → AllFit limit ys → AllFit limit (xs ++ ys)
AllFit-append limit [] ys h k = k
AllFit-append limit (x ∷ xs) ys h k = (h.0, AllFit-append limit xs ys h.1 k)

AllFit-replicate : (limit n : ℕ) → 0 < limit → AllFit limit (replicate n 0)
AllFit-replicate limit zero h = tt
AllFit-replicate limit (suc n) h = (h, AllFit-replicate limit n h)

AllFit-at : (limit : ℕ) (xs : List ℕ) → 0 < limit → AllFit limit xs → (k : ℕ) → get_or xs k 0 < limit
AllFit-at limit [] some h k = some
AllFit-at limit (x ∷ xs) some h zero = h.0
AllFit-at limit (x ∷ xs) some h (suc k) = AllFit-at limit xs some h.1 k

segments_of-fit : (text octets : List ℕ) → IsDotted text octets → AllFit (2 ^ 16) (segments_of octets)
segments_of-fit text octets h = rw h.value (omega (arith, h.fit))

group_fits : (group : List ℕ) (s : ℕ) → IsGroup group s → s < 2 ^ 16
group_fits group s h =
    let below = digits_value-lt 16 group h.0.0.1 in
    let most : 16 ^ length group ≤ 16 ^ 4 = pow-le-pow_right (lit≤ tt) h.1 in
    omega (arith, h.0.1)

groups_fit : (ipv4 : Bool) (segments before text : List ℕ) → IsGroupsAfter ipv4 before text segments → AllFit (2 ^ 16) segments
groups_fit ipv4 [] before text h = tt
groups_fit ipv4 (s ∷ segments) before text (inl (group, rest, split, is_group, more)) =
    (group_fits group s is_group, groups_fit ipv4 segments (58 ∷ []) rest more)
groups_fit ipv4 (s ∷ segments) before text (inr (last, octets, allowed, split, dotted, value)) =
    subst (AllFit (2 ^ 16)) (sym value) (segments_of-fit last octets dotted)

colon_hex_fits : (text segments : List ℕ) → IsColonHex text segments → AllFit (2 ^ 16) segments
colon_hex_fits text segments (inl h) = groups_fit true segments [] text h.0
colon_hex_fits text segments (inr h) =
    let head = groups_fit false h.head [] h.head_text h.head_groups in
    let tail = groups_fit true h.tail [] h.tail_text h.tail_groups in
    let gap = AllFit-replicate (2 ^ 16) (8 - length h.head - length h.tail) (lit≤ tt) in
    rw h.value (AllFit-append _ _ _ (AllFit-append _ _ _ head gap) tail)

octets_of-fit : (segments : List ℕ) → AllFit (2 ^ 16) segments → AllFit 256 (octets_of segments)
octets_of-fit [] h = tt
octets_of-fit (s ∷ segments) h = (omega (arith, h.0), (omega arith, octets_of-fit segments h.1))

from_be_bytes_16-lt : (bytes : List ℕ) → ((k : ℕ) → get_or bytes k 0 < 256) → from_be_bytes w128 bytes < 2 ^ 128
from_be_bytes_16-lt bytes h =
    omega (arith, h 0, h 1, h 2, h 3, h 4, h 5, h 6, h 7, h 8, h 9, h 10, h 11, h 12, h 13, h 14, h 15)

number_fits : (text : List ℕ) (f : Family) (n : ℕ) → SpellsNumber text f n → n < address_count f
number_fits text V4 n (octets, h, value) =
    let shown : n ≡ from_be_bytes w32 (h.a ∷ h.b ∷ h.c ∷ h.d ∷ []) = value ∙ ap (from_be_bytes w32) h.value in
    omega (arith, h.fit)
number_fits text V6 n (segments, h, value) =
    let fit = octets_of-fit segments (colon_hex_fits text segments h) in
    rw value (from_be_bytes_16-lt (octets_of segments) (AllFit-at 256 _ (lit≤ tt) fit))

pub IsAddress-spelled : (text : List ℕ) (a : AddrValue) → SpellsAddress text a → IsAddress a
IsAddress-spelled text a h = number_fits text a.family a.number h

-- ---- the text has no slash
-- a slash is no digit
not_slash : (radix c : ℕ) → radix ≤ 16 → digit_value c < radix → c ≢ 47
not_slash radix c few digit same =
    let big : digit_value 47 < radix = rw same at digit in
    omega arith

NoSlash-digits : (radix : ℕ) (ds : List ℕ) → radix ≤ 16 → AllDigits radix ds → NoSlash ds
NoSlash-digits radix [] few h = tt
NoSlash-digits radix (d ∷ ds) few h = (not_slash radix d few h.0, NoSlash-digits radix ds few h.1)

NoSlash-decimal : (n : ℕ) → n < 256 → NoSlash (decimal n)
NoSlash-decimal n fits = NoSlash-digits 10 (decimal n) (lit≤ tt) (decimal_is_IsNumeral n (omega arith)).0.1

dot_alone : NoSlash (46 ∷ [])
dot_alone = ((λ e. absurd (omega arith)), tt)

colon_alone : NoSlash (58 ∷ [])
colon_alone = ((λ e. absurd (omega arith)), tt)

NoSlash-dotted : (text octets : List ℕ) → IsDotted text octets → NoSlash text
NoSlash-dotted text octets h =
    let and = NoSlash-append in
    let a = NoSlash-decimal h.a h.fit.0 in
    let b = NoSlash-decimal h.b h.fit.1 in
    let c = NoSlash-decimal h.c h.fit.2 in
    let d = NoSlash-decimal h.d h.fit.3 in
    rw h.spelled (and _ _ (and _ _ (and _ _ (and _ _ (and _ _ (and _ _ a dot_alone) b) dot_alone) c) dot_alone) d)

NoSlash-groups : (ipv4 : Bool) (segments before text : List ℕ) → NoSlash before → IsGroupsAfter ipv4 before text segments → NoSlash text
NoSlash-groups ipv4 [] before text led h = rw h tt
NoSlash-groups ipv4 (s ∷ segments) before text led (inl (group, rest, split, is_group, more)) =
    let digits = NoSlash-digits 16 group (lit≤ tt) is_group.0.0.1 in
    let others = NoSlash-groups ipv4 segments (58 ∷ []) rest colon_alone more in
    rw split (NoSlash-append _ _ (NoSlash-append _ _ led digits) others)
NoSlash-groups ipv4 (s ∷ segments) before text led (inr (last, octets, allowed, split, dotted, value)) =
    rw split (NoSlash-append _ _ led (NoSlash-dotted last octets dotted))

NoSlash-colon_hex : (text segments : List ℕ) → IsColonHex text segments → NoSlash text
NoSlash-colon_hex text segments (inl h) = NoSlash-groups true segments [] text tt h.0
NoSlash-colon_hex text segments (inr h) =
    let head = NoSlash-groups false h.head [] h.head_text tt h.head_groups in
    let tail = NoSlash-groups true h.tail [] h.tail_text tt h.tail_groups in
    rw h.spelled (NoSlash-append _ _ (NoSlash-append _ _ head (colon_alone.0, colon_alone)) tail)

NoSlash-number : (text : List ℕ) (f : Family) (n : ℕ) → SpellsNumber text f n → NoSlash text
NoSlash-number text V4 n h = NoSlash-dotted text h.0 h.1
NoSlash-number text V6 n h = NoSlash-colon_hex text h.0 h.1

pub NoSlash-spelled : (text : List ℕ) (a : AddrValue) → SpellsAddress text a → NoSlash text
NoSlash-spelled text a h = NoSlash-number text a.family a.number h
