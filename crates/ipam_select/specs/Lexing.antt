-- How a text is cut into tokens: one after another, each as long as it can be.
use Rattle.std.specs.Prelude.{ℕ, zero, suc, ◌+◌, Bool, false, not, ◌&&◌, ◌||◌, List, [], ◌∷◌, length, take, drop, ◌==◌, nat_le, nat_lt, if◌then◌else◌, Option, Some, None, option_map, option_and_then}
use Rattle.ipam_select.specs.Words.{is_blank, is_key_byte, is_value}
use Rattle.ipam_select.specs.declared.limits.TheConstants.{LABEL_KEY_BYTES_MAX}
use Rattle.ipam_select.specs.declared.token.Token.{Token}
use Rattle.ipam_select.specs.declared.token.Token.TheVariants.{Word, Quoted, Mark}
use Rattle.ipam_select.specs.declared.token.Mark as mark
use Rattle.ipam_select.specs.declared.token.Mark.TheVariants.{Open, Close, OpenBrace, CloseBrace, Comma, Equal, Unequal, Bang, Ands, Bars}
use Rattle.ipam_select.specs.declared.lexing.Class.{Class}
use Rattle.ipam_select.specs.declared.lexing.Class.TheVariants.{Blank, Key, Before}

abbrev pub in_class : Class → ℕ → Bool
in_class Blank b = is_blank b
in_class Key b = is_key_byte b
in_class (Before quote) b = not (b == quote)

-- how many bytes at the front pass the test
abbrev pub run_len : (ℕ → Bool) → List ℕ → ℕ
run_len test [] = 0
run_len test (b ∷ text) = if test b then suc (run_len test text) else 0

abbrev pub after_blanks : List ℕ → List ℕ
after_blanks text = drop (run_len is_blank text) text

abbrev pub is_at : ℕ → List ℕ → Bool
is_at byte [] = false
is_at byte (b ∷ text) = b == byte

-- `'` or `"`
abbrev pub is_quote : ℕ → Bool
is_quote b = b == 39 || b == 34

-- the name or keyword of so many bytes
abbrev pub identifier : ℕ → List ℕ → Option (Token × List ℕ)
identifier n text = if nat_le n LABEL_KEY_BYTES_MAX then Some (Word (take n text), drop n text) else None

-- a value of so many bytes and the quote after it
abbrev pub quoted : ℕ → List ℕ → Option (Token × List ℕ)
quoted n text =
    if nat_lt n (length text) && is_value (take n text) then Some (Quoted (take n text), drop (n + 1) text) else None

-- `!=`, or `!`
abbrev pub bang : List ℕ → Token × List ℕ
bang text = if is_at 61 text then (Mark Unequal, drop 1 text) else (Mark Bang, text)

-- the token of one byte
abbrev pub single : ℕ → Option mark.Mark
single b =
    if b == 40 then Some Open
    else if b == 41 then Some Close
    else if b == 123 then Some OpenBrace
    else if b == 125 then Some CloseBrace
    else if b == 44 then Some Comma
    else None

-- the token that is this byte twice
abbrev pub double : ℕ → Option mark.Mark
double b = if b == 61 then Some Equal else if b == 38 then Some Ands else if b == 124 then Some Bars else None

-- the second byte of a token
abbrev pub second : ℕ → List ℕ → mark.Mark → Option (Token × List ℕ)
second b text m = if is_at b text then Some (Mark m, drop 1 text) else None

abbrev pub marked : ℕ → List ℕ → Option mark.Mark → Option (Token × List ℕ)
marked b text (Some m) = Some (Mark m, text)
marked b text None = option_and_then (second b text) (double b)

-- the token at the front, where no blank stands, and what follows it
abbrev pub first_token : List ℕ → Option (Token × List ℕ)
first_token [] = None
first_token (b ∷ text) =
    if is_key_byte b then identifier (run_len is_key_byte (b ∷ text)) (b ∷ text)
    else if is_quote b then quoted (run_len (λ c. not (c == b)) text) text
    else if b == 33 then Some (bang text)
    else marked b text (single b)

abbrev pub token_then : (List ℕ → Option (List Token)) → Token × List ℕ → Option (List Token)
token_then more found = option_map (λ ts. found.0 ∷ ts) (more found.1)

abbrev pub tokens_step : (List ℕ → Option (List Token)) → List ℕ → Option (List Token)
tokens_step more [] = Some []
tokens_step more (b ∷ text) = option_and_then (token_then more) (first_token (b ∷ text))

-- The number bounds the turns. One more than the count of the bytes is always enough.
unfoldable pub tokens_within : ℕ → List ℕ → Option (List Token)
tokens_within zero text = None
tokens_within (suc n) text = tokens_step (tokens_within n) (after_blanks text)

-- the tokens of a text
unfoldable pub tokens : List ℕ → Option (List Token)
tokens text = tokens_within (length text + 1) text
