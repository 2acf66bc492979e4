-- What an answer says of the bytes to come: those held, and those left of the source where it tells them.
use Rattle.std.proofs.Common.{◌≡◌, ◌≢◌, ℕ, ◌+◌, ◌<◌, ◌≤◌, get_or, List, [], ◌∷◌, ◌++◌, length, take, drop, Option, None, Some, Err, refl, sym, ap, subst, ◌∙◌, append_assoc, append-nil, arith, length-append}
use Rattle.std.proofs.lemmas.List.{length-take, take-append-le, get_or-take}
use Rattle.std.proofs.Math.Seq.{get_or-append_seam}
use Rattle.std.specs.Prelude.{IfSome, IsErr, Result, Ok}
use Rattle.ipam_io.specs.declared.lines.Got.{Got}
use Rattle.ipam_io.specs.declared.lines.Got.TheVariants.{Line, End, Cut}
use Rattle.std.specs.Io.KnownBytes.{prepend_known, IsAtEnd}
use Rattle.ipam_io.specs.Feeds.{HasNoFeed, IsLine, IsTooLong, IsFirstFeed}
use Rattle.ipam_io.specs.Lines.{IsAnswerTo, OnTooLong}
use Rattle.ipam_io.specs.declared.lines.LinesFault.{LinesFault}
use Rattle.ipam_io.specs.declared.lines.LinesFault.TheVariants.{TooLong, Read, Memory}

-- what holds of the bytes held, whatever is left after them, holds of the bytes to come
pub told : (known left : Option (List ℕ)) (held : List ℕ) (P : List ℕ → Type 0) → known ≡ prepend_known held left → ((rest : List ℕ) → left ≡ Some rest → P (held ++ rest)) → IfSome known P
told known None held P same holds = subst (λ k. IfSome k P) (sym same) tt
told known (Some rest) held P same holds = subst (λ k. IfSome k P) (sym same) (holds rest refl)

-- the line before the first line feed
pub line_before : (limit : ℕ) (bytes line : List ℕ) (place : ℕ) → place < limit → IsFirstFeed bytes place → line ≡ take place bytes → IsLine limit line
line_before limit bytes line place short first same =
    let within : length (take place bytes) < limit = simp length-take (omega arith) in
    subst (IsLine limit) (sym same) (first.before, within)

-- it is the first of the bytes to come
pub begins_with_line : (bytes left line : List ℕ) (place : ℕ) → IsFirstFeed bytes place → line ≡ take place bytes → bytes ++ left ≡ line ++ 10 ∷ (drop (place + 1) bytes ++ left)
begins_with_line bytes left line place first same =
    ap (λ b. b ++ left) first.splits ∙ append_assoc (take place bytes) (10 ∷ drop (place + 1) bytes) left
    ∙ ap (λ b. b ++ 10 ∷ (drop (place + 1) bytes ++ left)) (sym same)

-- at the end nothing is left
pub nothing_left : (left : Option (List ℕ)) (rest : List ℕ) → IsAtEnd left → left ≡ Some rest → rest ≡ []
nothing_left left rest ended same = subst IsAtEnd same ended

-- nothing is to come at the end of a line
pub ends_between : (held rest : List ℕ) → held ≡ [] → rest ≡ [] → held ++ rest ≡ []
ends_between held rest none ended = ap (λ b. b ++ rest) none ∙ ended

-- a part of a line is all that is to come
pub ends_inside : (limit : ℕ) (held rest : List ℕ) → IsLine limit held → held ≢ [] → rest ≡ [] → IsLine limit (held ++ rest) × (held ++ rest ≢ [])
ends_inside limit held rest line some ended =
    let same : held ++ rest ≡ held = ap (λ b. held ++ b) ended ∙ append-nil held in
    (subst (IsLine limit) (sym same) line, λ none. some (sym same ∙ none))

-- a line that is too long stays so, whatever comes after it
pub stays_too_long : (limit : ℕ) (held rest : List ℕ) → IsTooLong limit held → IsTooLong limit (held ++ rest)
stays_too_long limit held rest long =
    (subst HasNoFeed (sym (take-append-le limit held rest long.1)) long.0, simp length-append (omega arith))

-- a fault answers the bytes to come
pub fault_answers : (limit : ℕ) (T : Type 0) (fault : LinesFault) (held rest : List ℕ) → OnTooLong {T = T} (Err fault) (IsTooLong limit held) → IsAnswerTo limit (held ++ rest) (Err fault)
fault_answers limit T TooLong held rest long = stays_too_long limit held rest long
fault_answers limit T Read held rest long = tt
fault_answers limit T Memory held rest long = tt

-- bytes that begin with a line are not too long
pub line_not_long : (limit : ℕ) (line rest : List ℕ) → IsLine limit line → IsTooLong limit (line ++ 10 ∷ rest) → ⊥
line_not_long limit line rest is_line long =
    let short : length line < limit = is_line.1 in
    let enough : limit ≤ length (line ++ 10 ∷ rest) = long.1 in
    let inside : length line < length (take limit (line ++ 10 ∷ rest)) = simp length-take (omega arith) in
    let there : get_or (take limit (line ++ 10 ∷ rest)) (length line) 0 ≡ 10 =
    get_or-take limit (line ++ 10 ∷ rest) (length line) 0 short ∙ get_or-append_seam line 10 rest 0 in
    long.0 (length line) 0 inside there

-- where a line is too long, no answer but a fault
pub long_refused : (limit : ℕ) → 0 < limit → (bytes : List ℕ) (result : Result Got LinesFault) → IsAnswerTo limit bytes result → IsTooLong limit bytes → IsErr result
long_refused limit some bytes (Ok (Line line)) answer long =
    absurd (line_not_long limit line.items answer.1 answer.0 (subst (IsTooLong limit) answer.2 long))
long_refused limit some bytes (Ok End) answer long =
    let none : length bytes ≡ 0 = ap length answer in
    let enough : limit ≤ length bytes = long.1 in
    absurd (omega arith)
long_refused limit some bytes (Ok Cut) answer long =
    let short : length bytes < limit = answer.0.1 in
    let enough : limit ≤ length bytes = long.1 in
    absurd (omega arith)
long_refused limit some bytes (Err fault) answer long = refl

-- the same of the bytes to come, where they are known
pub known_long_refused : (limit : ℕ) → 0 < limit → (known : Option (List ℕ)) (result : Result Got LinesFault) → IfSome known (λ bytes. IsAnswerTo limit bytes result) → IfSome known (λ bytes. IsTooLong limit bytes → IsErr result)
known_long_refused limit some None result answer = tt
known_long_refused limit some (Some bytes) result answer = long_refused limit some bytes result answer
