-- The lines of bytes, taken one after another, and that there is one way to take them.
use Rattle.std.proofs.Common.{◌≡◌, ◌≢◌, ℕ, List, [], ◌∷◌, ◌++◌, length, refl, sym, ap, ◌∙◌, append_assoc, arith}
use Rattle.std.proofs.lemmas.List.Elements.{All-append, All-cons, All-nil, All-head, All-tail}
use Rattle.ipam_io.specs.Feeds.{HasNoFeed, IsLine, bytes_of_lines, AreLinesBefore}

-- the bytes of some lines and of more are those of all in order
pub bytes_of_lines-append : (xs ys : List (List ℕ)) → bytes_of_lines (xs ++ ys) ≡ bytes_of_lines xs ++ bytes_of_lines ys
bytes_of_lines-append [] ys = refl
bytes_of_lines-append (x ∷ xs) ys =
    ap (λ b. x ++ 10 ∷ b) (bytes_of_lines-append xs ys) ∙ sym (append_assoc x (10 ∷ bytes_of_lines xs) (bytes_of_lines ys))

-- one more line is taken off the front of the rest
pub AreLinesBefore-more : (limit : ℕ) (lines : List (List ℕ)) (line rest bytes : List ℕ) → AreLinesBefore limit lines (line ++ 10 ∷ rest) bytes → IsLine limit line → AreLinesBefore limit (lines ++ line ∷ []) rest bytes
AreLinesBefore-more limit lines line rest bytes before is_line = (
  All-append (IsLine limit) lines (line ∷ []) before.0 (All-cons (IsLine limit) line [] is_line (All-nil (IsLine limit))),
  before.1
      ∙ ap (λ b. bytes_of_lines lines ++ b) (sym (append_assoc line (10 ∷ []) rest))
      ∙ sym (append_assoc (bytes_of_lines lines) (line ++ 10 ∷ []) rest)
      ∙ ap (λ b. b ++ rest) (sym (bytes_of_lines-append lines (line ∷ []))),
)

-- there is one first line, and one rest after it
pub first_line_alone : (x y xs ys : List ℕ) → HasNoFeed x → HasNoFeed y → x ++ 10 ∷ xs ≡ y ++ 10 ∷ ys → (x ≡ y) × (xs ≡ ys)
first_line_alone [] [] xs ys no_feed no_feed' same = (refl, cc)
first_line_alone [] (b ∷ y) xs ys no_feed no_feed' same = absurd (All-head (λ byte. byte ≢ 10) b y no_feed' (cc))
first_line_alone (a ∷ x) [] xs ys no_feed no_feed' same = absurd (All-head (λ byte. byte ≢ 10) a x no_feed (cc))
first_line_alone (a ∷ x) (b ∷ y) xs ys no_feed no_feed' same =
    let head : a ≡ b = cc in
    let tail = first_line_alone x y xs ys (All-tail (λ byte. byte ≢ 10) a x no_feed) (All-tail (λ byte. byte ≢ 10) b y no_feed') (cc) in
    (cc (head, tail.0), tail.1)

-- as many lines of the same bytes are the same lines, and leave the same rest
pub AreLinesBefore-alone : (limit : ℕ) (xs ys : List (List ℕ)) (rest rest' bytes : List ℕ) → AreLinesBefore limit xs rest bytes → AreLinesBefore limit ys rest' bytes → length xs ≡ length ys → (xs ≡ ys) × (rest ≡ rest')
AreLinesBefore-alone limit [] [] rest rest' bytes before before' same = (refl, sym before.1 ∙ before'.1)
AreLinesBefore-alone limit [] (y ∷ ys) rest rest' bytes before before' same = absurd (omega arith)
AreLinesBefore-alone limit (x ∷ xs) [] rest rest' bytes before before' same = absurd (omega arith)
AreLinesBefore-alone limit (x ∷ xs) (y ∷ ys) rest rest' bytes before before' same =
    let split : x ++ 10 ∷ (bytes_of_lines xs ++ rest) ≡ y ++ 10 ∷ (bytes_of_lines ys ++ rest') =
    sym (append_assoc x (10 ∷ bytes_of_lines xs) rest) ∙ sym before.1 ∙ before'.1 ∙ append_assoc y (10 ∷ bytes_of_lines ys) rest' in
    let first = first_line_alone x y (bytes_of_lines xs ++ rest) (bytes_of_lines ys ++ rest') (All-head (IsLine limit) x xs before.0).0 (All-head (IsLine limit) y ys before'.0).0 split in
    let others = AreLinesBefore-alone limit xs ys rest rest' (bytes_of_lines xs ++ rest)
    (All-tail (IsLine limit) x xs before.0, refl) (All-tail (IsLine limit) y ys before'.0, first.1) (omega arith) in
    (cc (first.0, others.0), others.1)
