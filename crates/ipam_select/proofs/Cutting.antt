-- Tokens cut from the front of a text: each spells its bytes, and what it leaves is shorter.
use Rattle.std.proofs.Common.{◌≡◌, ℕ, zero, suc, ◌+◌, ◌<◌, ◌≤◌, Bool, true, false, not, ◌&&◌, ◌⊎◌, inl, inr, ⊎_elim, List, [], ◌∷◌, ◌++◌, length, take, drop, get_or, slice_get, ◌-◌, ◌==◌, if◌then◌else◌, Option, Some, None, option_map, option_and_then, refl, sym, ap, ◌∙◌, subst, arith, append_assoc, append-nil, add-one, length-append, length-drop, eqb-true, leb-true, ltb-true, le-leb, lt-ltb, nat_le, nat_lt}
use Rattle.std.specs.List.{list_all}
use Rattle.std.specs.Str.{is_utf8, IsAscii}
use Rattle.std.proofs.lemmas.Str.{is_utf8-from_IsUtf8, IsUtf8-from_ascii}
use Rattle.std.proofs.lemmas.List.{length-take-le, take_all, take-append-drop, drop_more}
use Rattle.std.proofs.lemmas.Bool.Decides.{nat_tests}
use Rattle.ipam_select.specs.Words.{is_blank, is_key_byte, is_key, is_value, begins}
use Rattle.ipam_select.specs.Lexing.{run_len, after_blanks, is_at, is_quote, identifier, quoted, bang, single, double, second, marked, first_token, tokens_step, tokens_within, tokens}
use Rattle.ipam_select.specs.Grammar.{mark_spelling, IsSpelling, EndsAt}
use Rattle.ipam_select.specs.declared.token.Token.{Token}
use Rattle.ipam_select.specs.declared.token.Token.TheVariants.{Word, Quoted, Mark}
use Rattle.ipam_select.specs.declared.token.Mark as mark
use Rattle.ipam_select.specs.declared.token.Mark.TheVariants.{Open, Close, OpenBrace, CloseBrace, Comma, Equal, Unequal, Bang, Ands, Bars}
use Rattle.ipam_select.proofs.Choices.{if_cases, if_some, and_true, and_both, or_true, not_false}

-- tokens that were found, before those of the rest
abbrev pub tokens_before : List Token → Option (List Token) → Option (List Token)
tokens_before found rest = option_map (λ ts. found ++ ts) rest

-- a token at the front of a text, with what follows it
pub record IsCut (text : List ℕ) (found : Token × List ℕ) : Type 0 where
  pub bytes : List ℕ
  pub whole : text ≡ bytes ++ found.1
  pub spelling : IsSpelling found.0 bytes
  pub ends : EndsAt found.0 found.1

-- ---- runs

run_passes-by : (test : ℕ → Bool) (b : ℕ) (text : List ℕ) (v : Bool) → test b ≡ v → list_all test (take (run_len test text) text) ≡ true
    → list_all test (take (if v then suc (run_len test text) else 0) (b ∷ text)) ≡ true
run_passes-by test b text true e h = and_both (test b) _ e h
run_passes-by test b text false e h = refl

-- the bytes of a run pass the test
pub run_passes : (test : ℕ → Bool) (text : List ℕ) → list_all test (take (run_len test text) text) ≡ true
run_passes test [] = refl
run_passes test (b ∷ text) = run_passes-by test b text (test b) refl (run_passes test text)

run_stops-by : (test : ℕ → Bool) (b : ℕ) (text : List ℕ) (v : Bool) → test b ≡ v → begins test (drop (run_len test text) text) ≡ false
    → begins test (drop (if v then suc (run_len test text) else 0) (b ∷ text)) ≡ false
run_stops-by test b text true e h = h
run_stops-by test b text false e h = e

-- what follows a run doesn't pass it
pub run_stops : (test : ℕ → Bool) (text : List ℕ) → begins test (drop (run_len test text) text) ≡ false
run_stops test [] = refl
run_stops test (b ∷ text) = run_stops-by test b text (test b) refl (run_stops test text)

run_bound-by : (n m : ℕ) (v : Bool) → n ≤ m → (if v then suc n else 0) ≤ suc m
run_bound-by n m true h = omega arith
run_bound-by n m false h = omega arith

pub run_bound : (test : ℕ → Bool) (text : List ℕ) → run_len test text ≤ length text
run_bound test [] = omega arith
run_bound test (b ∷ text) = run_bound-by (run_len test text) (length text) (test b) (run_bound test text)

pub run_of_length : (test : ℕ → Bool) (text : List ℕ) → length (take (run_len test text) text) ≡ run_len test text
run_of_length test text = length-take-le (run_len test text) text (run_bound test text)

-- a whole run is found again before what doesn't pass
pub run_found : (test : ℕ → Bool) (run rest : List ℕ) → list_all test run ≡ true → begins test rest ≡ false → run_len test (run ++ rest) ≡ length run
run_found test [] [] h stop = refl
run_found test [] (b ∷ rest) h stop = rw stop refl
run_found test (b ∷ run) rest h stop =
    let both = and_true (test b) (list_all test run) h in
    rw both.0 (ap suc (run_found test run rest both.1 stop))

pub take_front : (front rest : List ℕ) → take (length front) (front ++ rest) ≡ front
take_front [] rest = refl
take_front (b ∷ front) rest = ap (λ xs. b ∷ xs) (take_front front rest)

pub drop_front : (front rest : List ℕ) → drop (length front) (front ++ rest) ≡ rest
drop_front [] rest = refl
drop_front (b ∷ front) rest = drop_front front rest

-- ---- a run of the bytes of a key is text

key_byte_ascii : (b : ℕ) → is_key_byte b ≡ true → b < 128
key_byte_ascii b h = grind (arith, nat_tests)

pub key_bytes_ascii : (text : List ℕ) → list_all is_key_byte text ≡ true → IsAscii text
key_bytes_ascii [] h i = omega arith
key_bytes_ascii (b ∷ text) h zero = key_byte_ascii b (and_true (is_key_byte b) _ h).0
key_bytes_ascii (b ∷ text) h (suc i) = key_bytes_ascii text (and_true (is_key_byte b) _ h).1 i

pub key_run_is_utf8 : (text : List ℕ) → is_utf8 (take (run_len is_key_byte text) text) ≡ true
key_run_is_utf8 text =
    let run = take (run_len is_key_byte text) text in
    is_utf8-from_IsUtf8 run (IsUtf8-from_ascii run (key_bytes_ascii run (run_passes is_key_byte text)))

-- ---- the first token, by its first byte

pub split_front : (text : List ℕ) (b : ℕ) → Some b ≡ slice_get text 0 → text ≡ b ∷ take (length text - 1) (drop 1 text)
split_front [] b e = absurd (cc)
split_front (c ∷ text) b e =
    let same : b ≡ c = cc in
    rw (same, take_all (length (c ∷ text) - 1) text (omega arith)) refl

pub first_token-quote : (text : List ℕ) (b : ℕ) (rest : List ℕ) → text ≡ b ∷ rest → is_key_byte b ≡ false → is_quote b ≡ true →
    first_token text ≡ quoted (run_len (λ c. not (c == b)) rest) rest
first_token-quote text b rest e k q = ap first_token e ∙ rw (k, q) refl

pub first_token-mark : (text : List ℕ) (b : ℕ) (rest : List ℕ) → text ≡ b ∷ rest → is_key_byte b ≡ false → is_quote b ≡ false → (b == 33) ≡ false →
    first_token text ≡ marked b rest (single b)
first_token-mark text b rest e k q m = ap first_token e ∙ rw (k, q, m) refl

-- ---- each token spells its bytes

pub key_from : (key : List ℕ) → 0 < length key → length key ≤ 317 → list_all is_key_byte key ≡ true → is_key key ≡ true
key_from key some fits bytes = rw (lt-ltb 0 (length key) some, le-leb (length key) 317 fits) bytes

at_first : (b : ℕ) (text : List ℕ) → is_at b text ≡ true → text ≡ b ∷ drop 1 text
at_first b [] e = absurd (cc)
at_first b (c ∷ text) e = ap (λ x. x ∷ text) (eqb-true c b e)

cut_word : (b : ℕ) (text : List ℕ) (found : Token × List ℕ) → is_key_byte b ≡ true → identifier (run_len is_key_byte (b ∷ text)) (b ∷ text) ≡ Some found → IsCut (b ∷ text) found
cut_word b text found k e =
    let whole = b ∷ text in
    let n = run_len is_key_byte whole in
    let some = if_some (nat_le n 317) (Word (take n whole), drop n whole) found e in
    let long : length (take n whole) ≡ n = run_of_length is_key_byte whole in
    let more : n ≡ suc (run_len is_key_byte text) = ap (λ (v : Bool). if v then suc (run_len is_key_byte text) else 0) k in
    subst (IsCut whole) some.1 (record {
      bytes = take n whole;
      whole = sym (take-append-drop n whole);
      spelling = (key_from (take n whole) (omega arith) (omega (arith, leb-true n 317 some.0)) (run_passes is_key_byte whole), refl);
      ends = run_stops is_key_byte whole;
    })

quote_is : (b : ℕ) → is_quote b ≡ true → (b ≡ 39) ⊎ (b ≡ 34)
quote_is b e = ⊎_elim (λ h. inl (eqb-true b 39 h)) (λ h. inr (eqb-true b 34 h)) (or_true (b == 39) (b == 34) e)

closing_quote : (b : ℕ) (text : List ℕ) → begins (λ c. not (c == b)) text ≡ false → 0 < length text → text ≡ b ∷ drop 1 text
closing_quote b [] e h = absurd (omega arith)
closing_quote b (c ∷ text) e h = ap (λ x. x ∷ text) (eqb-true c b (not_false (c == b) e))

quoted_whole : (b n : ℕ) (text : List ℕ) → drop n text ≡ b ∷ drop (n + 1) text → b ∷ text ≡ (b ∷ take n text ++ b ∷ []) ++ drop (n + 1) text
quoted_whole b n text e = ap (λ xs. b ∷ xs) (sym (take-append-drop n text) ∙ ap (λ xs. take n text ++ xs) e ∙ sym (append_assoc (take n text) (b ∷ []) (drop (n + 1) text)))

cut_quoted : (b : ℕ) (text : List ℕ) (found : Token × List ℕ) → is_quote b ≡ true → quoted (run_len (λ c. not (c == b)) text) text ≡ Some found → IsCut (b ∷ text) found
cut_quoted b text found q e =
    let n = run_len (λ c. not (c == b)) text in
    let some = if_some (nat_lt n (length text) && is_value (take n text)) (Quoted (take n text), drop (n + 1) text) found e in
    let both = and_true (nat_lt n (length text)) (is_value (take n text)) some.0 in
    let within : n < length text = ltb-true n (length text) both.0 in
    let next : drop n text ≡ get_or text n 0 ∷ drop (n + 1) text = drop_more text n 0 within in
    let stop : begins (λ c. not (c == b)) (get_or text n 0 ∷ drop (n + 1) text) ≡ false = subst (λ xs. begins (λ c. not (c == b)) xs ≡ false) next (run_stops (λ c. not (c == b)) text) in
    let close : get_or text n 0 ≡ b = eqb-true (get_or text n 0) b (not_false (get_or text n 0 == b) stop) in
    subst (IsCut (b ∷ text)) some.1 (record {
      bytes = b ∷ take n text ++ b ∷ [];
      whole = quoted_whole b n text (next ∙ ap (λ x. x ∷ drop (n + 1) text) close);
      spelling = (both.1, b, quote_is b q, run_passes (λ c. not (c == b)) text, refl);
      ends = tt;
    })

cut_bang : (text : List ℕ) (found : Token × List ℕ) → bang text ≡ found → IsCut (33 ∷ text) found
cut_bang text found e =
    ⊎_elim (λ yes. subst (IsCut (33 ∷ text)) yes.1 (record {
      bytes = 33 ∷ 61 ∷ [];
      whole = ap (λ xs. 33 ∷ xs) (at_first 61 text yes.0);
      spelling = refl;
      ends = tt;
    })) (λ other. subst (IsCut (33 ∷ text)) other.1 (record { bytes = 33 ∷ []; whole = refl; spelling = refl; ends = other.0 }))
    (if_cases (is_at 61 text) (Mark Unequal, drop 1 text) (Mark Bang, text) found e)

-- a mark of one byte, and one of a byte twice
abbrev IsFull : List ℕ → mark.Mark → Type 0
IsFull bytes m = (mark_spelling m ≡ bytes) × ((rest : List ℕ) → EndsAt (Mark m) rest)

full : (b n : ℕ) (k m : mark.Mark) → ((b == n) ≡ true) × (◌≡◌ {A = Option mark.Mark} (Some k) (Some m)) → mark_spelling k ≡ n ∷ [] → ((rest : List ℕ) → EndsAt (Mark k) rest) → IsFull (b ∷ []) m
full b n k m h spelling ends =
    let same : k ≡ m = cc in
    subst (IsFull (b ∷ [])) same (spelling ∙ ap (λ x. x ∷ []) (sym (eqb-true b n h.0)), ends)

twice : (b n : ℕ) (k m : mark.Mark) → ((b == n) ≡ true) × (◌≡◌ {A = Option mark.Mark} (Some k) (Some m)) → mark_spelling k ≡ n ∷ n ∷ [] → ((rest : List ℕ) → EndsAt (Mark k) rest) → IsFull (b ∷ b ∷ []) m
twice b n k m h spelling ends =
    let same : k ≡ m = cc in
    subst (IsFull (b ∷ b ∷ [])) same (spelling ∙ ap (λ x. x ∷ x ∷ []) (sym (eqb-true b n h.0)), ends)

single_full : (b : ℕ) (m : mark.Mark) → single b ≡ Some m → IsFull (b ∷ []) m
single_full b m e =
    ⊎_elim (λ h. full b 40 Open m h refl (λ rest. tt)) (λ h1.
    ⊎_elim (λ h. full b 41 Close m h refl (λ rest. tt)) (λ h2.
    ⊎_elim (λ h. full b 123 OpenBrace m h refl (λ rest. tt)) (λ h3.
    ⊎_elim (λ h. full b 125 CloseBrace m h refl (λ rest. tt)) (λ h4.
    (let h = if_some (b == 44) Comma m h4.1 in full b 44 Comma m (h.0, ap Some h.1) refl (λ rest. tt)))
    (if_cases (b == 125) _ _ (Some m) h3.1)) (if_cases (b == 123) _ _ (Some m) h2.1)) (if_cases (b == 41) _ _ (Some m) h1.1)) (if_cases (b == 40) _ _ (Some m) e)

double_full : (b : ℕ) (m : mark.Mark) → double b ≡ Some m → IsFull (b ∷ b ∷ []) m
double_full b m e =
    ⊎_elim (λ h. twice b 61 Equal m h refl (λ rest. tt)) (λ h1.
    ⊎_elim (λ h. twice b 38 Ands m h refl (λ rest. tt)) (λ h2.
    (let h = if_some (b == 124) Bars m h2.1 in twice b 124 Bars m (h.0, ap Some h.1) refl (λ rest. tt)))
    (if_cases (b == 38) _ _ (Some m) h1.1)) (if_cases (b == 61) _ _ (Some m) e)

cut_second : (b : ℕ) (text : List ℕ) (found : Token × List ℕ) (o : Option mark.Mark) → double b ≡ o → option_and_then (second b text) o ≡ Some found → IsCut (b ∷ text) found
cut_second b text found None d e = absurd (cc)
cut_second b text found (Some m) d e =
    let some = if_some (is_at b text) (Mark m, drop 1 text) found e in
    let full = double_full b m d in
    subst (IsCut (b ∷ text)) some.1 (record {
      bytes = b ∷ b ∷ [];
      whole = ap (λ xs. b ∷ xs) (at_first b text some.0);
      spelling = sym full.0;
      ends = full.1 (drop 1 text);
    })

cut_marked : (b : ℕ) (text : List ℕ) (found : Token × List ℕ) (o : Option mark.Mark) → single b ≡ o → marked b text o ≡ Some found → IsCut (b ∷ text) found
cut_marked b text found None s e = cut_second b text found (double b) refl e
cut_marked b text found (Some m) s e =
    let same : (Mark m, text) ≡ found = cc in
    let full = single_full b m s in
    subst (IsCut (b ∷ text)) same (record { bytes = b ∷ []; whole = refl; spelling = sym full.0; ends = full.1 text })

pub cut_token : (b : ℕ) (text : List ℕ) (found : Token × List ℕ) → first_token (b ∷ text) ≡ Some found → IsCut (b ∷ text) found
cut_token b text found e =
    ⊎_elim (λ h. cut_word b text found h.0 h.1) (λ h1.
    ⊎_elim (λ h. cut_quoted b text found h.0 h.1) (λ h2.
    ⊎_elim (λ h. let same : bang text ≡ found = cc in subst (λ x. IsCut (x ∷ text) found) (sym (eqb-true b 33 h.0)) (cut_bang text found same))
    (λ h3. cut_marked b text found (single b) refl h3.1)
    (if_cases (b == 33) _ _ (Some found) h2.1)) (if_cases (is_quote b) _ _ (Some found) h1.1)) (if_cases (is_key_byte b) _ _ (Some found) e)

-- ---- what is left is shorter

full_spelling : (m : mark.Mark) → 0 < length (mark_spelling m)
full_spelling Open = omega arith
full_spelling Close = omega arith
full_spelling OpenBrace = omega arith
full_spelling CloseBrace = omega arith
full_spelling Comma = omega arith
full_spelling Equal = omega arith
full_spelling Unequal = omega arith
full_spelling Bang = omega arith
full_spelling Ands = omega arith
full_spelling Bars = omega arith

pub some_bytes : (t : Token) (bytes : List ℕ) → IsSpelling t bytes → 0 < length bytes
some_bytes (Word w) bytes h = omega (arith, ap length h.1, ltb-true 0 (length w) (and_true (nat_lt 0 (length w)) (nat_le (length w) 317) (and_true (nat_lt 0 (length w) && nat_le (length w) 317) (list_all is_key_byte w) h.0).0).0)
some_bytes (Quoted v) bytes h = omega (arith, ap length h.4)
some_bytes (Mark m) bytes h = omega (arith, ap length h, full_spelling m)

pub cut_shorter : (text : List ℕ) (found : Token × List ℕ) → first_token text ≡ Some found → length found.1 < length text
cut_shorter [] found e = absurd (cc)
cut_shorter (b ∷ text) found e =
    let cut = cut_token b text found e in
    omega (arith, ap length cut.whole, length-append cut.bytes found.1, some_bytes found.0 cut.bytes cut.spelling)

pub blanks_shorter : (text : List ℕ) → length (after_blanks text) ≤ length text
blanks_shorter text = omega (arith, length-drop (run_len is_blank text) text)

-- ---- token after token

same_before : (r : Option (List Token)) → r ≡ tokens_before [] r
same_before None = refl
same_before (Some ts) = refl

one_before : (all : List Token) (t : Token) (r : Option (List Token)) → tokens_before all (option_map (λ ts. t ∷ ts) r) ≡ tokens_before (all ++ t ∷ []) r
one_before all t None = refl
one_before all t (Some ts) = ap Some (sym (append_assoc all (t ∷ []) ts))

suc-minus-one : (n : ℕ) → suc n - 1 ≡ n
suc-minus-one n = omega arith

pub tokens_begin : (text : List ℕ) → tokens text ≡ tokens_before [] (tokens_step (tokens_within (length text)) (after_blanks text))
unfolding tokens tokens_within
tokens_begin text = rw add-one (same_before _)

-- a token, and then what the rest gives
pub tokens_go : (all : List Token) (n : ℕ) (text : List ℕ) (found : Token × List ℕ) → length text ≤ n → first_token text ≡ Some found →
    tokens_before all (tokens_step (tokens_within n) text) ≡ tokens_before (all ++ found.0 ∷ []) (tokens_step (tokens_within (n - 1)) (after_blanks found.1))
unfolding tokens_within
tokens_go all n [] found h e = absurd (cc)
tokens_go all zero (b ∷ text) found h e = absurd (omega arith)
tokens_go all (suc n) (b ∷ text) found h e = rw (e, suc-minus-one) (one_before all found.0 (tokens_within (suc n) found.1))

pub tokens_fail : (all : List Token) (n : ℕ) (text : List ℕ) → 0 < length text → first_token text ≡ None → tokens_before all (tokens_step (tokens_within n) text) ≡ None
tokens_fail all n [] h e = absurd (omega arith)
tokens_fail all n (b ∷ text) h e = rw e refl

pub tokens_end : (all : List Token) (n : ℕ) (text : List ℕ) → length text ≡ 0 → tokens_before all (tokens_step (tokens_within n) text) ≡ Some all
tokens_end all n [] h = ap Some (append-nil all)
tokens_end all n (b ∷ text) h = absurd (omega arith)
