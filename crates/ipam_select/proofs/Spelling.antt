-- A text is cut into the tokens that it spells, and into no others.
use Rattle.std.proofs.Common.{◌≡◌, ℕ, zero, suc, ◌+◌, ◌<◌, ◌≤◌, Bool, true, false, not, ◌&&◌, ⊎_elim, List, [], ◌∷◌, ◌++◌, length, take, drop, Option, Some, nat_le, nat_lt, ◌==◌, if◌then◌else◌, option_map, option_and_then, refl, sym, ap, ap₂, ◌∙◌, subst, arith, append_assoc, append-nil, length-append, le-leb, lt-ltb, leb-true, ltb-true, eq-eqb}
use Rattle.std.specs.List.{list_all}
use Rattle.std.proofs.lemmas.List.{take-append-drop}
use Rattle.std.proofs.lemmas.Bool.Decides.{nat_tests}
use Rattle.ipam_select.specs.Words.{is_blank, is_key_byte, is_key, is_value, lacks, begins}
use Rattle.ipam_select.specs.Lexing.{run_len, after_blanks, identifier, quoted, first_token, token_then, tokens_step, tokens_within, tokens}
use Rattle.ipam_select.specs.Grammar.{mark_spelling, IsSpelling, EndsAt, is_blank_text, Spells}
use Rattle.ipam_select.specs.declared.token.Token.{Token}
use Rattle.ipam_select.specs.declared.token.Token.TheVariants.{Word, Quoted, Mark}
use Rattle.ipam_select.specs.declared.token.Mark as mark
use Rattle.ipam_select.specs.declared.token.Mark.TheVariants.{Open, Close, OpenBrace, CloseBrace, Comma, Equal, Unequal, Bang, Ands, Bars}
use Rattle.ipam_select.proofs.Choices.{and_true, and_both, if_true, some_same, and_then_some, map_some}
use Rattle.ipam_select.proofs.Cutting.{cut_token, run_passes, run_found, take_front, drop_front, some_bytes}

-- ---- what is cut spells the text

spelled_step : (n : ℕ) → ((text : List ℕ) (ts : List Token) → tokens_within n text ≡ Some ts → Spells text ts) → (blanks after : List ℕ) (ts : List Token)
    → is_blank_text blanks ≡ true → tokens_step (tokens_within n) after ≡ Some ts → Spells (blanks ++ after) ts
spelled_step n more blanks [] ts h e =
    subst (Spells (blanks ++ [])) (some_same [] ts e) (ap is_blank_text (append-nil blanks) ∙ h)
spelled_step n more blanks (b ∷ text) ts h e =
    let found = and_then_some (token_then (tokens_within n)) (first_token (b ∷ text)) ts e in
    let others = map_some (λ us. found.0.0 ∷ us) (tokens_within n found.0.1) ts found.2 in
    let cut = cut_token b text found.0 found.1 in
    subst (Spells (blanks ++ (b ∷ text))) others.2 (
      blanks,
      cut.bytes,
      found.0.1,
      ap (λ xs. blanks ++ xs) cut.whole,
      h,
      cut.spelling,
      cut.ends,
      more found.0.1 others.0 others.1,
    )

spelled_within : (n : ℕ) (text : List ℕ) (ts : List Token) → tokens_within n text ≡ Some ts → Spells text ts
unfolding tokens_within
spelled_within zero text ts e = absurd (cc)
spelled_within (suc n) text ts e =
    let blanks = take (run_len is_blank text) text in
    subst (λ xs. Spells xs ts) (take-append-drop (run_len is_blank text) text) (spelled_step n (spelled_within n) blanks (after_blanks text) ts (run_passes is_blank text) e)

pub tokens_spelled : (text : List ℕ) (ts : List Token) → tokens text ≡ Some ts → Spells text ts
unfolding tokens
tokens_spelled text ts e = spelled_within (length text + 1) text ts e

-- ---- what a text spells is cut from it

key_is : (key : List ℕ) → is_key key ≡ true → (0 < length key) × (length key ≤ 317) × (list_all is_key_byte key ≡ true)
key_is key h =
    let both = and_true (nat_lt 0 (length key) && nat_le (length key) 317) (list_all is_key_byte key) h in
    let sizes = and_true (nat_lt 0 (length key)) (nat_le (length key) 317) both.0 in
    (ltb-true 0 (length key) sizes.0, leb-true (length key) 317 sizes.1, both.1)

word_found : (w rest : List ℕ) → is_key w ≡ true → begins is_key_byte rest ≡ false → first_token (w ++ rest) ≡ Some (Word w, rest)
word_found [] rest k e = absurd (omega (arith, (key_is [] k).0))
word_found (b ∷ w) rest k e =
    let key = key_is (b ∷ w) k in
    let first = and_true (is_key_byte b) (list_all is_key_byte w) key.2 in
    let n : run_len is_key_byte ((b ∷ w) ++ rest) ≡ length (b ∷ w) = run_found is_key_byte (b ∷ w) rest key.2 e in
    let cut : identifier (length (b ∷ w)) ((b ∷ w) ++ rest) ≡ Some (Word (b ∷ w), rest) =
    rw (le-leb (length (b ∷ w)) 317 key.1) (ap₂ (λ (x y : List ℕ). Some (Word x, y)) (take_front (b ∷ w) rest) (drop_front (b ∷ w) rest)) in
    if_true (is_key_byte b) (identifier (run_len is_key_byte ((b ∷ w) ++ rest)) ((b ∷ w) ++ rest)) _ first.0 ∙ ap (λ k. identifier k ((b ∷ w) ++ rest)) n ∙ cut

quoted_found : (q : ℕ) (v rest : List ℕ) → is_value v ≡ true → lacks q v ≡ true → quoted (run_len (λ c. not (c == q)) ((v ++ q ∷ []) ++ rest)) ((v ++ q ∷ []) ++ rest) ≡ Some (Quoted v, rest)
quoted_found q v rest k l =
    let text = (v ++ q ∷ []) ++ rest in
    let same : text ≡ v ++ (q ∷ rest) = append_assoc v (q ∷ []) rest in
    let stop : begins (λ c. not (c == q)) (q ∷ rest) ≡ false = ap not (eq-eqb q q refl) in
    let n : run_len (λ c. not (c == q)) text ≡ length v = ap (run_len (λ c. not (c == q))) same ∙ run_found (λ c. not (c == q)) v (q ∷ rest) l stop in
    let within : length v < length text = omega (arith, ap length same, length-append v (q ∷ rest)) in
    let front : take (length v) text ≡ v = ap (take (length v)) same ∙ take_front v (q ∷ rest) in
    let back : drop (length v + 1) text ≡ rest = ap (λ (m : ℕ). drop m text) (sym (length-append v (q ∷ []))) ∙ drop_front (v ++ q ∷ []) rest in
    ap (λ m. quoted m text) n ∙ if_true (nat_lt (length v) (length text) && is_value (take (length v) text)) _ _ (and_both _ _ (lt-ltb (length v) (length text) within) (ap is_value front ∙ k))
    ∙ ap₂ (λ (x y : List ℕ). Some (Quoted x, y)) front back

mark_found : (m : mark.Mark) (rest : List ℕ) → EndsAt (Mark m) rest → first_token (mark_spelling m ++ rest) ≡ Some (Mark m, rest)
mark_found Open rest e = refl
mark_found Close rest e = refl
mark_found OpenBrace rest e = refl
mark_found CloseBrace rest e = refl
mark_found Comma rest e = refl
mark_found Equal rest e = refl
mark_found Unequal rest e = refl
mark_found Bang rest e = ap (λ (v : Bool). Some (if v then (Mark Unequal, drop 1 rest) else (Mark Bang, rest))) e
mark_found Ands rest e = refl
mark_found Bars rest e = refl

token_found : (t : Token) (bytes rest : List ℕ) → IsSpelling t bytes → EndsAt t rest → first_token (bytes ++ rest) ≡ Some (t, rest)
token_found (Word w) bytes rest h e = ap (λ xs. first_token (xs ++ rest)) h.1 ∙ word_found w rest h.0 e
token_found (Mark m) bytes rest h e = ap (λ xs. first_token (xs ++ rest)) h ∙ mark_found m rest e
token_found (Quoted v) bytes rest h e =
    ap (λ xs. first_token (xs ++ rest)) (h.4 ∙ ap (λ q. q ∷ (v ++ q ∷ [])) refl)
    ∙ ⊎_elim (λ q. subst (λ x. first_token ((x ∷ v ++ x ∷ []) ++ rest) ≡ Some (Quoted v, rest)) (sym q) (quoted_found 39 v rest h.0 (subst (λ x. lacks x v ≡ true) q h.3)))
    (λ q. subst (λ x. first_token ((x ∷ v ++ x ∷ []) ++ rest) ≡ Some (Quoted v, rest)) (sym q) (quoted_found 34 v rest h.0 (subst (λ x. lacks x v ≡ true) q h.3))) h.2

key_byte_not_blank : (b : ℕ) → is_key_byte b ≡ true → is_blank b ≡ false
key_byte_not_blank b h = grind (arith, nat_tests)

word_not_blank : (w rest : List ℕ) → is_key w ≡ true → begins is_blank (w ++ rest) ≡ false
word_not_blank [] rest k = absurd (omega (arith, (key_is [] k).0))
word_not_blank (b ∷ w) rest k = key_byte_not_blank b (and_true (is_key_byte b) (list_all is_key_byte w) (key_is (b ∷ w) k).2).0

mark_not_blank : (m : mark.Mark) (rest : List ℕ) → begins is_blank (mark_spelling m ++ rest) ≡ false
mark_not_blank Open rest = refl
mark_not_blank Close rest = refl
mark_not_blank OpenBrace rest = refl
mark_not_blank CloseBrace rest = refl
mark_not_blank Comma rest = refl
mark_not_blank Equal rest = refl
mark_not_blank Unequal rest = refl
mark_not_blank Bang rest = refl
mark_not_blank Ands rest = refl
mark_not_blank Bars rest = refl

token_not_blank : (t : Token) (bytes rest : List ℕ) → IsSpelling t bytes → begins is_blank (bytes ++ rest) ≡ false
token_not_blank (Word w) bytes rest h = ap (λ xs. begins is_blank (xs ++ rest)) h.1 ∙ word_not_blank w rest h.0
token_not_blank (Mark m) bytes rest h = ap (λ xs. begins is_blank (xs ++ rest)) h ∙ mark_not_blank m rest
token_not_blank (Quoted v) bytes rest h =
    ap (λ xs. begins is_blank (xs ++ rest)) h.4 ∙ ⊎_elim (λ q. ap is_blank q) (λ q. ap is_blank q) h.2

after_blanks_found : (blanks rest : List ℕ) → is_blank_text blanks ≡ true → begins is_blank rest ≡ false → after_blanks (blanks ++ rest) ≡ rest
after_blanks_found blanks rest h e = ap (λ (n : ℕ). drop n (blanks ++ rest)) (run_found is_blank blanks rest h e) ∙ drop_front blanks rest

-- a text that begins with some byte is a step
step_found : (more : List ℕ → Option (List Token)) (text : List ℕ) (found : Token × List ℕ) (ts : List Token) → 0 < length text → first_token text ≡ Some found → more found.1 ≡ Some ts → tokens_step more text ≡ Some (found.0 ∷ ts)
step_found more [] found ts h e f = absurd (omega arith)
step_found more (b ∷ text) found ts h e f = ap (option_and_then (token_then more)) e ∙ ap (option_map (λ us. found.0 ∷ us)) f

pub found_within : (ts : List Token) (n : ℕ) (text : List ℕ) → Spells text ts → length text < n → tokens_within n text ≡ Some ts
unfolding tokens_within
found_within ts zero text h l = absurd (omega arith)
found_within [] (suc n) text h l =
    let blank : after_blanks text ≡ [] = ap after_blanks (sym (append-nil text)) ∙ after_blanks_found text [] h refl in
    ap (tokens_step (tokens_within n)) blank
found_within (t ∷ ts) (suc n) text h l =
    let (blanks, bytes, rest, whole, blank, spelling, ends, others) = h in
    let after : after_blanks text ≡ bytes ++ rest = ap after_blanks whole ∙ after_blanks_found blanks (bytes ++ rest) blank (token_not_blank t bytes rest spelling) in
    let long : length text ≡ length blanks + (length bytes + length rest) = ap length whole ∙ length-append blanks (bytes ++ rest) ∙ ap (λ (k : ℕ). length blanks + k) (length-append bytes rest) in
    let some = some_bytes t bytes spelling in
    ap (tokens_step (tokens_within n)) after
    ∙ step_found (tokens_within n) (bytes ++ rest) (t, rest) ts (omega (arith, length-append bytes rest, some)) (token_found t bytes rest spelling ends)
    (found_within ts n rest others (omega (arith, long, some)))

pub tokens_found : (text : List ℕ) (ts : List Token) → Spells text ts → tokens text ≡ Some ts
unfolding tokens
tokens_found text ts h = found_within ts (length text + 1) text h (omega arith)
