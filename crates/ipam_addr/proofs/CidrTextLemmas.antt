-- A text writes one CIDR at most, which `cidr_reading` gives, and printed texts are read back.
use Rattle.std.proofs.Common.{◌≡◌, ◌≢◌, ℕ, ◌+◌, ◌-◌, ◌%◌, ◌<◌, ◌≤◌, ◌^◌, ◌==◌, true, false, not, ◌&&◌, List, [], ◌∷◌, ◌++◌, length, get_or, take, drop, decimal, Option, Some, None, Result, Ok, Err, refl, sym, ap, ◌∙◌, arith, lit≤, inl, inr, ◌⊎◌, ◌↔◌, IfOk, append_assoc, lt-ltb, le-leb, le-ltb, nat_le, ◌*◌, cond, eq-eqb, eqb-true, ne_eqb, ltb-true, ltb-false, nat_lt}
use Rattle.std.proofs.lemmas.Bool.{cases_lt, cases_Bool, cond-true, and_parts, and_from, and_left, and_right, not-true, not_from_false, leb-true, lt-leb, both_ways}
use Rattle.std.proofs.lemmas.Bool.Decides.{nat_tests}
use Rattle.std.proofs.lemmas.Int.Digits.{digits_more, digits_value_more}
use Rattle.std.proofs.lemmas.List.{take_all, drop_all}
use Rattle.std.proofs.lemmas.Option.{none-some}
use Rattle.std.proofs.lemmas.Fmt.{digits_decimal, digits_value-decimal, decimal-digits_value, decimal_digit, decimal_nonempty, length-decimal-le, first_decimal}
use Rattle.std.proofs.lemmas.Str.Parse.{numerals_by_value, tells_all_ascii_digits, digits_value_short, digit_at, IsNumeralModel}
use Rattle.std.specs.List.{before_first, after_first, position, position_or_len}
use Rattle.std.specs.Str.{all_ascii_digits}
use Rattle.std.specs.Char.{digit_value, is_ascii_digit}
use Rattle.std.specs.Int.{IsInRange}
use Rattle.std.specs.Str.Parse.{AllDigits, digits_value}
use Rattle.std.proofs.NetLemmas.Options.{cond_some}
use Rattle.ipam_addr.specs.declared.cidrs.AddrFault.{AddrFault}
use Rattle.ipam_addr.specs.declared.cidrs.AddrFault.TheVariants.{Text}
use Rattle.ipam_addr.specs.Shape.{AddrValue, CidrValue}
use Rattle.ipam_addr.specs.Width.{width, size_of, IsAddress, IsCidr}
use Rattle.ipam_addr.specs.Holding.{first_address}
use Rattle.ipam_addr.specs.Made.{cidr_at_prefix, made_cidr}
use Rattle.ipam_addr.specs.Text.{HasForm, SpellsCidr, address_of, address_text, prefix_of, is_prefix_text, cidr_from_parts, cidr_reading, cidr_text_of, is_slash}
use Rattle.ipam_addr.proofs.TextLemmas.{address_of-spelled, spelled-address_of}
use Rattle.ipam_addr.proofs.PrintLemmas.{SpellsAddress-address_text}
use Rattle.ipam_addr.proofs.CidrLemmas.{width-le}
use Rattle.ipam_addr.proofs.SlashLemmas.{before_slash, after_slash, around_slash}
use Rattle.ipam_addr.proofs.SpelledLemmas.{IsAddress-spelled, NoSlash-spelled}

-- ---- the prefix
digit_texts : IsNumeralModel (λ ds. all_ascii_digits ds ≡ true) (digits_value 10)
digit_texts = numerals_by_value _ tells_all_ascii_digits

-- a decimal has one digit, or begins with another digit than 0
no_leading_zero : (n : ℕ) → n < 1000 → not (nat_lt 1 (length (decimal n)) && (get_or (decimal n) 0 0 == 48)) ≡ true
no_leading_zero n few =
    let small : n < 2 ^ 64 = omega arith in
    elim (cases_lt n 10) [
      | inl one ↦ not_from_false _ (and_left _ _ (le-ltb 1 (length (decimal n)) (omega (arith, ap length (decimal_digit n one)))))
      | inr more ↦ not_from_false _ (and_right _ _ (ne_eqb (get_or (decimal n) 0 0) 48 (omega (arith, first_decimal n (omega arith) small))))
    ]

pub prefix_of-decimal : (n : ℕ) → n < 1000 → prefix_of (decimal n) ≡ Some n
unfolding prefix_of
prefix_of-decimal n few =
    let small : n < 2 ^ 64 = omega arith in
    let some = lt-ltb 0 (length (decimal n)) (decimal_nonempty n small) in
    let three = le-leb (length (decimal n)) 3 (length-decimal-le 3 n (lit≤ tt) (omega arith) small) in
    rw (some, three, no_leading_zero n few, digits_decimal digit_texts n small, digits_value-decimal digit_texts n small)

-- the tests of the code, in turn
pub prefix_of-empty : (digits : List ℕ) → length digits ≡ 0 → prefix_of digits ≡ None
unfolding prefix_of
prefix_of-empty digits e = rw (le-ltb 0 (length digits) (omega arith))

pub prefix_of-long : (digits : List ℕ) → 3 < length digits → prefix_of digits ≡ None
unfolding prefix_of
prefix_of-long digits long = rw (lt-leb (length digits) 3 long, and_right (nat_lt 0 (length digits)) false refl)

pub prefix_of-zero_first : (digits : List ℕ) → 1 < length digits → get_or digits 0 0 ≡ 48 → prefix_of digits ≡ None
unfolding prefix_of
prefix_of-zero_first digits more zero_first = rw (lt-ltb 1 (length digits) more, eq-eqb _ _ zero_first, and_right (nat_lt 0 (length digits) && nat_le (length digits) 3) false refl)

pub prefix_of-digits : (digits : List ℕ) → 0 < length digits → length digits ≤ 3 → (1 < length digits → get_or digits 0 0 ≢ 48) → prefix_of digits ≡ cond (all_ascii_digits digits) (Some (digits_value 10 digits)) None
unfolding prefix_of
prefix_of-digits digits some few first =
    let alone : not (nat_lt 1 (length digits) && (get_or digits 0 0 == 48)) ≡ true = elim (cases_lt 1 (length digits)) [
      | inl more ↦ not_from_false _ (and_right _ _ (ne_eqb _ _ (first more)))
      | inr one ↦ not_from_false _ (and_left _ _ (le-ltb 1 (length digits) one))
    ] in
    rw (lt-ltb 0 (length digits) some, le-leb (length digits) 3 few, alone)

pub prefix_of-some : (digits : List ℕ) (n : ℕ) → prefix_of digits ≡ Some n → (digits ≡ decimal n) × (n < 1000)
unfolding prefix_of
prefix_of-some digits n e =
    let (test, value) = cond_some (is_prefix_text digits) (digits_value 10 digits) n e in
    let parts = and_parts (nat_lt 0 (length digits) && nat_le (length digits) 3 && not (nat_lt 1 (length digits) && (get_or digits 0 0 == 48))) (all_ascii_digits digits) test in
    let front = and_parts (nat_lt 0 (length digits) && nat_le (length digits) 3) (not (nat_lt 1 (length digits) && (get_or digits 0 0 == 48))) parts.0 in
    let sizes = and_parts (nat_lt 0 (length digits)) (nat_le (length digits) 3) front.0 in
    let few : length digits ≤ 3 = leb-true (length digits) 3 sizes.1 in
    let some : 0 < length digits = ltb-true 0 (length digits) sizes.0 in
    let below = digits_value_short digit_texts digits 3 parts.1 few in
    let first : get_or digits 0 0 ≡ 48 → length digits ≡ 1 = λ zero_first.
    elim (cases_lt 1 (length digits)) [
      | inl more ↦ absurd (both_ways _ (not-true _ front.1) (and_from _ _ (lt-ltb _ _ more) (eq-eqb _ _ zero_first)))
      | inr one ↦ omega arith
    ] in
    let written = decimal-digits_value digit_texts digits parts.1 some first (omega arith) in
    (sym written ∙ ap decimal value, omega arith)

-- one more digit, as the code reads it
pub digit_step : (ds : List ℕ) (i value b : ℕ) → i < length ds → b ≡ get_or ds i 0 → is_ascii_digit b ≡ true → value ≡ digits_value 10 (take i ds) → AllDigits 10 (take i ds) → (value * 10 + (b - 48) ≡ digits_value 10 (take (i + 1) ds)) × AllDigits 10 (take (i + 1) ds)
digit_step ds i value b within at is_digit so_far all =
    let digit = digit_of b is_digit in
    (rw (digits_value_more 10 ds i within, ← at, ← so_far) (omega arith), digits_more 10 ds i within all (rw (← at) (omega arith)))
  where
    digit_of : (b : ℕ) → is_ascii_digit b ≡ true → (digit_value b < 10) × (digit_value b ≡ b - 48)
    digit_of b h = grind (arith, nat_tests)

pub digits_read : (ds : List ℕ) (i value : ℕ) → length ds ≤ i → value ≡ digits_value 10 (take i ds) → AllDigits 10 (take i ds) → cond (all_ascii_digits ds) (Some (digits_value 10 ds)) None ≡ Some value
digits_read ds i value end so_far all =
    let whole = take_all i ds end in
    rw (digit_texts.from ds (rw whole at all), so_far, whole)

pub digits_unread : (ds : List ℕ) (i b : ℕ) → i < length ds → b ≡ get_or ds i 0 → is_ascii_digit b ≡ false → cond (all_ascii_digits ds) (Some (digits_value 10 ds)) None ≡ None
digits_unread ds i b within at other = elim (cases_Bool (all_ascii_digits ds)) [
  | inl all ↦
      let digit = digit_at ds i (digit_texts.to ds all) within in
      absurd (not_digit (get_or ds i 0) (rw at at other) digit)
  | inr none ↦ rw none
]
  where
    not_digit : (c : ℕ) → is_ascii_digit c ≡ false → ¬ (IsInRange 48 57 c)
    not_digit c h k = grind (arith, nat_tests)

-- ---- the CIDR of an address and a prefix
made_cidr-not_text : (a : AddrValue) (n : ℕ) → made_cidr a n ≢ Err Text
made_cidr-not_text a n e =
    elim (cases_Bool (nat_lt (width a.family) n)) [
      | inl long ↦ let k = rw long at e in cc
      | inr short ↦ elim (cases_Bool (a.number % size_of a.family n == 0)) [
        | inl none ↦ let k = rw (short, none) at e in cc
        | inr some ↦ let k = rw (short, some) at e in cc
      ]
    ]

pub made_cidr-IsCidr : (a : AddrValue) (n : ℕ) → IsCidr (cidr_at_prefix a n) → made_cidr a n ≡ Ok (cidr_at_prefix a n)
made_cidr-IsCidr a n h = rw (le-ltb (width a.family) n h.prefix_fits, eq-eqb _ _ h.no_host_bits)

pub IsCidr-made_cidr : (a : AddrValue) (n : ℕ) (r : CidrValue) → IsAddress a → made_cidr a n ≡ Ok r → (r ≡ cidr_at_prefix a n) × IsCidr r
IsCidr-made_cidr a n r fits e =
    elim (cases_Bool (nat_lt (width a.family) n)) [
      | inl long ↦ let k = rw long at e in cc
      | inr short ↦ elim (cases_Bool (a.number % size_of a.family n == 0)) [
        | inl none ↦
            let made : Ok (cidr_at_prefix a n) ≡ Ok r = rw (short, none) at e in
            let same : r ≡ cidr_at_prefix a n = cc in (
              same,
              rw same (record {
                prefix_fits = ltb-false _ _ short;
                base_fits = fits;
                no_host_bits = eqb-true _ _ none;
              }),
            )
        | inr some ↦ let k = rw (short, some) at e in cc
      ]
    ]

-- ---- the CIDR of a text
pub cidr_reading-form : (text : List ℕ) (a : AddrValue) (n : ℕ) → HasForm text a n → cidr_reading text ≡ made_cidr a n
unfolding cidr_reading
cidr_reading-form text a n h =
    let shown : text ≡ h.address ++ 47 ∷ decimal n = h.spelled ∙ append_assoc h.address (47 ∷ []) (decimal n) in
    let none = NoSlash-spelled h.address a h.is_address in
    let before = ap (before_first is_slash) shown ∙ before_slash h.address (decimal n) none in
    let after = ap (after_first is_slash) shown ∙ after_slash h.address (decimal n) none in
    rw (before, after, address_of-spelled h.address a h.is_address, prefix_of-decimal n h.few_digits)

-- the text has the form, or no CIDR
pub form_cases : (text : List ℕ) → ((a : AddrValue) × (n : ℕ) × HasForm text a n) ⊎ (cidr_reading text ≡ Err Text)
unfolding cidr_reading
form_cases text = go (address_of (before_first is_slash text)) (prefix_of (after_first is_slash text)) refl refl
  where
    go : (o : Option AddrValue) (p : Option ℕ) → address_of (before_first is_slash text) ≡ o → prefix_of (after_first is_slash text) ≡ p → ((a : AddrValue) × (n : ℕ) × HasForm text a n) ⊎ (cidr_reading text ≡ Err Text)
    go None p address digits = inr (rw (address))
    go (Some a) None address digits = inr (rw (address, digits))
    go (Some a) (Some n) address digits =
        let (written, few) = prefix_of-some _ n digits in
        let some : 0 < length (after_first is_slash text) = rw written (decimal_nonempty n (omega arith)) in
        let split = around_slash text some ∙ ap (λ t. before_first is_slash text ++ 47 ∷ t) written in
        inl (
          a,
          n,
          record {
            address = before_first is_slash text;
            spelled = split ∙ sym (append_assoc (before_first is_slash text) (47 ∷ []) (decimal n));
            is_address = spelled-address_of _ a address;
            few_digits = few;
          },
        )

pub cidr_reading-none : (text : List ℕ) → ((a : AddrValue) (n : ℕ) → ¬ (HasForm text a n)) → cidr_reading text ≡ Err Text
cidr_reading-none text none = elim (form_cases text) [
  | inl (a, n, h) ↦ absurd (none a n h)
  | inr e ↦ e
]

pub none-cidr_reading : (text : List ℕ) → cidr_reading text ≡ Err Text → (a : AddrValue) (n : ℕ) → ¬ (HasForm text a n)
none-cidr_reading text e a n h = made_cidr-not_text a n (sym (cidr_reading-form text a n h) ∙ e)

pub cidr_reading-spelled : (text : List ℕ) (r : CidrValue) → SpellsCidr text r → cidr_reading text ≡ Ok r
cidr_reading-spelled text r h = cidr_reading-form text (first_address r) r.prefix h.form ∙ made_cidr-IsCidr (first_address r) r.prefix h.sound

pub spelled-cidr_reading : (text : List ℕ) (r : CidrValue) → cidr_reading text ≡ Ok r → SpellsCidr text r
spelled-cidr_reading text r e = elim (form_cases text) [
  | inl (a, n, h) ↦
      let fits = IsAddress-spelled h.address a h.is_address in
      let (same, sound) = IsCidr-made_cidr a n r fits (sym (cidr_reading-form text a n h) ∙ e) in
      record { form = rw same h; sound = sound }
  | inr none ↦ cc
]

-- a printed CIDR is read back
pub SpellsCidr-cidr_text_of : (r : CidrValue) → IsCidr r → SpellsCidr (cidr_text_of r) r
unfolding cidr_text_of
SpellsCidr-cidr_text_of r h = record {
  form = record {
    address = address_text (first_address r);
    spelled = refl;
    is_address = SpellsAddress-address_text (first_address r) h.base_fits;
    few_digits = omega (arith, h.prefix_fits, width-le r.family);
  };
  sound = h;
}

pub cidr_reading-cidr_text_of : (r : CidrValue) → IsCidr r → cidr_reading (cidr_text_of r) ≡ Ok r
cidr_reading-cidr_text_of r h = cidr_reading-spelled (cidr_text_of r) r (SpellsCidr-cidr_text_of r h)

-- and so no two CIDRs have one text
pub cidr_text_injective : (r s : CidrValue) → IsCidr r → IsCidr s → cidr_text_of r ≡ cidr_text_of s → r ≡ s
cidr_text_injective r s hr hs same =
    let read : ◌≡◌ {A = Result CidrValue AddrFault} (Ok r) (Ok s) = sym (cidr_reading-cidr_text_of r hr) ∙ ap cidr_reading same ∙ cidr_reading-cidr_text_of s hs in
    cc

-- ---- what the code finds
pub cidr_reading-at : (text : List ℕ) (i : ℕ) → position is_slash text ≡ Some i → cidr_reading text ≡ cidr_from_parts (address_of (take i text)) (prefix_of (drop (i + 1) text))
unfolding cidr_reading
cidr_reading-at text i e =
    let (within, same) = cond_some (nat_lt (position_or_len is_slash text) (length text)) (position_or_len is_slash text) i e in
    rw same

pub cidr_reading-no_slash : (text : List ℕ) → position is_slash text ≡ None → cidr_reading text ≡ Err Text
unfolding cidr_reading
cidr_reading-no_slash text e =
    let end : length text ≤ position_or_len is_slash text = elim (cases_lt (position_or_len is_slash text) (length text)) [
      | inl within ↦ absurd (none-some _ (sym e ∙ cond-true _ _ _ (lt-ltb _ _ within)))
      | inr end ↦ end
    ] in
    let rest : drop (position_or_len is_slash text + 1) text ≡ [] = drop_all _ text (omega arith) in
    rw (rest, prefix_of-empty [] refl) (no_digits (address_of (before_first is_slash text)))
  where
    no_digits : (o : Option AddrValue) → cidr_from_parts o None ≡ Err Text
    no_digits None = refl
    no_digits (Some a) = refl

pub when_text : (text : List ℕ) (r : Result CidrValue AddrFault) → r ≡ cidr_reading text → (r ≡ Err Text) ↔ ((a : AddrValue) (n : ℕ) → ¬ (HasForm text a n))
when_text text r e = (λ h. none-cidr_reading text (sym e ∙ h), λ none. e ∙ cidr_reading-none text none)

pub when_made : (text : List ℕ) (r : Result CidrValue AddrFault) → r ≡ cidr_reading text → (a : AddrValue) (n : ℕ) → HasForm text a n → r ≡ made_cidr a n
when_made text r e a n h = e ∙ cidr_reading-form text a n h

pub when_spelled : (text : List ℕ) (r : Result CidrValue AddrFault) → r ≡ cidr_reading text → IfOk r (SpellsCidr text)
when_spelled text (Ok r) e = spelled-cidr_reading text r (sym e)
when_spelled text (Err fault) e = tt

-- the text in its three parts
pub cidr_text_of-parts : (r : CidrValue) → cidr_text_of r ≡ address_text (first_address r) ++ 47 ∷ decimal r.prefix
unfolding cidr_text_of
cidr_text_of-parts r = append_assoc (address_text (first_address r)) (47 ∷ []) (decimal r.prefix)

-- written part by part
pub cidr_text_written : (r : CidrValue) (none base slash all : List ℕ) → none ≡ [] → base ≡ none ++ address_text (first_address r) → slash ≡ base ++ 47 ∷ [] → all ≡ slash ++ decimal r.prefix → all ≡ cidr_text_of r
unfolding cidr_text_of
cidr_text_written r none base slash all start first next last =
    let front : base ≡ address_text (first_address r) = first ∙ ap (λ t. t ++ address_text (first_address r)) start in
    last ∙ ap (λ t. t ++ decimal r.prefix) (next ∙ ap (λ t. t ++ 47 ∷ []) front)
