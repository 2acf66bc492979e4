-- A word is split off and a number is read as the definitions say.
use Rattle.std.proofs.Common.{◌≡◌, ◌∙◌, ℕ, ◌^◌, ◌<◌, List, length, Bool, true, false, Option, Some, None, option_map, Result, Ok, Err, refl, sym, ap, subst, Bor, inl, inr, arith}
use Rattle.std.specs.Prelude.{nat_lt}
use Rattle.std.specs.Option.{MatchOption}
use Rattle.std.specs.Result.{result_ok}
use Rattle.std.specs.List.{before_first, after_first, position_or_len}
use Rattle.std.specs.Str.Parse.{ParsesUnsigned}
use Rattle.std.proofs.lemmas.Bool.{lt-ltb, le-ltb}
use Rattle.ipam_json.specs.Path.{is_index}
use Rattle.ipam_json.proofs.PathLemmas.{index_parsed}
use Rattle.ipam_answer_text.specs.Words.{is_space, split_word, number_of}

same_is_not_less : (n m : ℕ) → n ≡ m → nat_lt n m ≡ false
same_is_not_less n m e = le-ltb n m (omega (arith, e))

pub split_told : (text : List ℕ) (r : Option (Bor (List ℕ) × Bor (List ℕ))) → MatchOption r (position_or_len is_space text ≡ length text) (λ x. (position_or_len is_space text < length text) × (x.0.now ≡ before_first is_space text) × (x.1.now ≡ after_first is_space text)) → option_map (λ parts. (parts.0.now, parts.1.now)) r ≡ split_word text
split_told text None e =
    rw (same_is_not_less (position_or_len is_space text) (length text) e) refl
split_told text (Some x) h =
    rw (lt-ltb (position_or_len is_space text) (length text) h.0) (rw (h.1, h.2) refl)

pub parsed : {E : Type 0} (word : List ℕ) (r : Result ℕ E) → is_index word ≡ true → ParsesUnsigned 64 10 word r → result_ok r ≡ number_of word
parsed word r index h = rw index (index_parsed 64 word r index h)
