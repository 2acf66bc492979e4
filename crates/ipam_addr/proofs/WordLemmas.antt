-- A word by its first byte and the rest.
use Rattle.std.proofs.Common.{◌≡◌, ℕ, ◌-◌, ◌<◌, ◌≤◌, Bool, true, List, [], ◌∷◌, length, take, drop, get_or, ◌∙◌, ap, arith, le-leb}
use Rattle.std.proofs.lemmas.List.{take_all}
use Rattle.std.specs.List.{list_all}
use Rattle.std.specs.Char.{is_ascii_alphanumeric}
use Rattle.ipam_addr.specs.Names.{is_name_byte, is_name_within}

-- where the first byte and the length are right, the other bytes decide
pub is_word_text_from : (most : ℕ) (text : List ℕ) (r : Bool) → 0 < length text → is_ascii_alphanumeric (get_or text 0 0) ≡ true → length text ≤ most → r ≡ list_all is_name_byte (take (length text - 1) (drop 1 text)) → r ≡ is_name_within most text
is_word_text_from most [] r h front fits rest = absurd (omega arith)
is_word_text_from most (first ∷ others) r h front fits rest =
    let whole : take (length (first ∷ others) - 1) others ≡ others = take_all _ others (omega arith) in
    rw (front, le-leb _ most fits) (rest ∙ ap (λ t. list_all is_name_byte t) whole)
