-- What stands before a slash.
use Rattle.std.proofs.Common.{◌≡◌, ℕ, ◌≤◌, List, length, take, Some, None, inl, inr, sym, ap, ◌∙◌}
use Rattle.std.specs.Prelude.{nat_lt}
use Rattle.std.specs.List.{before_first, position, position_or_len}
use Rattle.std.proofs.lemmas.Bool.{cases_lt, cond-true, lt-ltb}
use Rattle.std.proofs.lemmas.List.{take_all}
use Rattle.std.proofs.lemmas.Option.{cond_some, none-some}
use Rattle.ipam_words.specs.Kinds.{is_slash}

pub before-at : (text : List ℕ) (i : ℕ) → position is_slash text ≡ Some i → before_first is_slash text ≡ take i text
before-at text i e =
    let (within, same) = cond_some (nat_lt (position_or_len is_slash text) (length text)) (position_or_len is_slash text) i e in
    ap (λ n. take n text) same

pub before-none : (text : List ℕ) → position is_slash text ≡ None → before_first is_slash text ≡ text
before-none text e =
    let end : length text ≤ position_or_len is_slash text = elim (cases_lt (position_or_len is_slash text) (length text)) [
      | inl within ↦ absurd (none-some _ (sym e ∙ cond-true _ _ _ (lt-ltb _ _ within)))
      | inr end ↦ end
    ] in
    take_all (position_or_len is_slash text) text end
