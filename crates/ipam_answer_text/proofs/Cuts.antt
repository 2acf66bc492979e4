-- A script is cut at its line ends.
use Rattle.std.proofs.Common.{◌≡◌, ◌∙◌, ℕ, ◌+◌, List, [], ◌∷◌, ◌++◌, length, Bool, true, false, refl, sym, ap, arith}
use Rattle.std.specs.List.{list_any, slice_split}
use Rattle.std.proofs.lemmas.Bool.{or_parts}
use Rattle.ipam_answer_text.specs.Lines.{ScriptLine, is_line_end, lines_of, placed, told_line, without_empty_end}

pub cut : (line rest : List ℕ) → list_any is_line_end line ≡ false → slice_split is_line_end (line ++ 10 ∷ rest) ≡ line ∷ slice_split is_line_end rest
cut [] rest h = refl
cut (c ∷ line) rest h =
    let parts = or_parts (is_line_end c) (list_any is_line_end line) h in
    rw (parts.0, cut line rest parts.1) refl

pub uncut : (line : List ℕ) → list_any is_line_end line ≡ false → slice_split is_line_end line ≡ line ∷ []
uncut [] h = refl
uncut (c ∷ line) h =
    let parts = or_parts (is_line_end c) (list_any is_line_end line) h in
    rw (parts.0, uncut line parts.1) refl

pub split_some : (s : List ℕ) → (x : List ℕ) × (xs : List (List ℕ)) × (slice_split is_line_end s ≡ x ∷ xs)
split_some [] = ([], [], refl)
split_some (c ∷ s) = go (is_line_end c) refl (split_some s)
  where
    go : (b : Bool) → is_line_end c ≡ b → ((x : List ℕ) × (xs : List (List ℕ)) × (slice_split is_line_end s ≡ x ∷ xs)) → (x : List ℕ) × (xs : List (List ℕ)) × (slice_split is_line_end (c ∷ s) ≡ x ∷ xs)
    go true e (x, xs, same) = ([], slice_split is_line_end s, rw e refl)
    go false e (x, xs, same) = (c ∷ x, xs, rw (e, same) refl)

pub behind : (line x : List ℕ) (xs all : List (List ℕ)) → all ≡ x ∷ xs → without_empty_end (line ∷ all) ≡ line ∷ without_empty_end all
behind [] x xs all e = rw e refl
behind (c ∷ line) x xs all e = rw e refl

pub cut_first : (line rest : List ℕ) → list_any is_line_end line ≡ false → lines_of (line ++ 10 ∷ rest) ≡ told_line 0 line ∷ placed (length line + 1) (without_empty_end (slice_split is_line_end rest))
unfolding lines_of
cut_first line rest h =
    let some = split_some rest in
    let tail = without_empty_end (slice_split is_line_end rest) in
    ap (λ parts. placed 0 (without_empty_end parts)) (cut line rest h)
    ∙ ap (placed 0) (behind line some.0 some.1 (slice_split is_line_end rest) some.2)
    ∙ ap (λ n. told_line 0 line ∷ placed n tail) (omega arith)

pub cut_none : lines_of [] ≡ []
unfolding lines_of
cut_none = refl

pub cut_last : (byte : ℕ) (line : List ℕ) → list_any is_line_end (byte ∷ line) ≡ false → lines_of (byte ∷ line) ≡ told_line 0 (byte ∷ line) ∷ []
unfolding lines_of
cut_last byte line h = ap (λ parts. placed 0 (without_empty_end parts)) (uncut (byte ∷ line) h)
