-- What the bytes to come say of the readings to come.
use Rattle.std.proofs.Common.{◌≡◌, ◌≢◌, ◌∙◌, ℕ, zero, suc, ◌+◌, ◌≤◌, Bool, true, false, List, [], ◌∷◌, ◌++◌, ◌<◌, length, take, drop, slice_index, map, refl, sym, ap, subst, arith, eqb-true, Option, Some, None, append_assoc, append-nil, inl, inr}
use Rattle.std.specs.Prelude.{Ok, Err, IfErr, IfOk, OnErr, OnOk, nat_lt, option_map, option_and_then, ◌==◌, ◌||◌, ◌&&◌, if◌then◌else◌}
use Rattle.std.specs.Io.KnownBytes.{prepend_known, IsAtEnd}
use Rattle.std.specs.List.{list_any, slice_split}
use Rattle.std.proofs.lemmas.List.Elements.{All-head, All-tail}
use Rattle.std.proofs.lemmas.Bool.{lt-ltb, ltb-true}
use Rattle.std.proofs.lemmas.List.{length-append, take-append-drop}
use Rattle.std.proofs.Math.Seq.{drop-cons, take-append_seam}
use Rattle.ipam_io.specs.Feeds.{HasNoFeed, IsTooLong}
use Rattle.ipam_io.proofs.AnswerLemmas.{stays_too_long}
use Rattle.ipam_answer_text.specs.Lines.{Long as LongLine, Whole, is_line_end, is_long, told_line, placed, without_empty_end}
use Rattle.std.specs.Str.{is_utf8}
use Rattle.ipam_json.specs.Members.{only_if}
use Rattle.ipam_answer_text.specs.Reading.{line_reading, text_reading}
use Rattle.ipam_answer_text.proofs.Cuts.{cut, uncut, split_some, behind}
use Rattle.ipam_play.specs.declared.refusal.LineRefusal.TheVariants.{Long, Unreadable}
use Rattle.ipam_play.specs.declared.lines.Next.{Next}
use Rattle.ipam_play.specs.declared.lines.Next.TheVariants as next
use Rattle.ipam_play.specs.declared.lines.ScriptFault.{ScriptFault}
use Rattle.ipam_play.specs.declared.lines.ScriptFault.TheVariants.{Read, Memory}
use Rattle.ipam_play.specs.declared.lines.ScriptLines.{ScriptLines}
use Rattle.ipam_play.specs.Readings.{Answer, LineReading, read_or_not, line_reading_of, readings_from, IsLineEnd, IsNext, IsNextOf, IsTold, IsLastTold, OnLine, Takes}

nothing_read : line_reading [] ≡ None
unfolding line_reading text_reading
nothing_read = by (is_utf8 [])
  where
    by : (b : Bool) → option_and_then text_reading (only_if b []) ≡ None
    by true = refl
    by false = refl

pub none_to_come : (before : ℕ) → readings_from before [] ≡ []
unfolding readings_from
none_to_come before = refl

pub nothing_asked : (before : ℕ) (bytes : List ℕ) → length bytes ≡ 0 → Err Unreadable ≡ line_reading_of (told_line before bytes)
nothing_asked before [] none = sym (ap read_or_not nothing_read)
nothing_asked before (c ∷ bytes) none = absurd (omega arith)

no_end : (line : List ℕ) → HasNoFeed line → list_any is_line_end line ≡ false
no_end [] h = refl
no_end (c ∷ line) h = by (c == 10) refl (no_end line (All-tail (λ byte. byte ≢ 10) c line h))
  where
    by : (b : Bool) → (c == 10) ≡ b → list_any is_line_end line ≡ false → list_any is_line_end (c ∷ line) ≡ false
    by true e rest = absurd (All-head (λ byte. byte ≢ 10) c line h (eqb-true c 10 e))
    by false e rest = rw e rest

-- the first line, and the readings after it
pub readings-line : (before : ℕ) (line rest : List ℕ) → HasNoFeed line → readings_from before (line ++ 10 ∷ rest) ≡ line_reading_of (told_line before line) ∷ readings_from (before + length line + 1) rest
unfolding readings_from
readings-line before line rest none =
    let some = split_some rest in
    ap (λ parts. map line_reading_of (placed before (without_empty_end parts))) (cut line rest (no_end line none))
    ∙ ap (λ parts. map line_reading_of (placed before parts)) (behind line some.0 some.1 (slice_split is_line_end rest) some.2)

-- the last line
readings-last : (before : ℕ) (line : List ℕ) → HasNoFeed line → line ≢ [] → readings_from before line ≡ line_reading_of (told_line before line) ∷ []
unfolding readings_from
readings-last before [] none some = absurd (some refl)
readings-last before (c ∷ line) none some = ap (λ parts. map line_reading_of (placed before (without_empty_end parts))) (uncut (c ∷ line) (no_end (c ∷ line) none))

told-next : (answer : Answer) (reading : LineReading) (now after : List LineReading) → IsTold answer reading → now ≡ reading ∷ after → IsNext answer now after
told-next (Ok (next.Line line)) reading now after is same = cc
told-next (Ok (next.Last line)) reading now after is same = absurd is
told-next (Ok (next.Refused why)) reading now after is same = (after, cc)
told-next (Ok next.End) reading now after is same = absurd is
told-next (Err fault) reading now after is same = tt

last-next : (answer : Answer) (reading : LineReading) (now after : List LineReading) → IsLastTold answer reading → now ≡ reading ∷ [] → IsNext answer now after
last-next (Ok (next.Line line)) reading now after is same = absurd is
last-next (Ok (next.Last line)) reading now after is same = cc
last-next (Ok (next.Refused why)) reading now after is same = ([], cc)
last-next (Ok next.End) reading now after is same = absurd is
last-next (Err fault) reading now after is same = tt

line-next : (answer : Answer) (before after : ℕ) (line rest : List ℕ) → HasNoFeed line → IsTold answer (line_reading_of (told_line before line)) → OnLine answer (after ≡ before + length line + 1)
    → IsNext answer (readings_from before (line ++ 10 ∷ rest)) (readings_from after rest)
line-next (Ok (next.Line l)) before after line rest none is at = readings-line before line rest none ∙ cc
line-next (Ok (next.Last l)) before after line rest none is at = absurd is
line-next (Ok (next.Refused why)) before after line rest none is at = (readings_from (before + length line + 1) rest, readings-line before line rest none ∙ ap (λ r. r ∷ readings_from (before + length line + 1) rest) is)
line-next (Ok next.End) before after line rest none is at = absurd is
line-next (Err fault) before after line rest none is at = tt

-- ---- what is to come, where the source tells it

known-next : (answer : Answer) (before after : ℕ) (known left : Option (List ℕ)) (taken held : List ℕ) → known ≡ prepend_known (taken ++ held) left
    → ((rest : List ℕ) → left ≡ Some rest → IsNext answer (readings_from before (taken ++ (held ++ rest))) (readings_from after (held ++ rest)))
    → IsNextOf answer (option_map (readings_from before) known) (option_map (readings_from after) (prepend_known held left))
known-next answer before after known None taken held same next_of = subst (λ k. IsNextOf answer (option_map (readings_from before) k) None) (sym same) tt
known-next answer before after known (Some rest) taken held same next_of =
    subst (λ k. IsNextOf answer (option_map (readings_from before) k) (Some (readings_from after (held ++ rest)))) (sym same)
    (readings_from after (held ++ rest), refl, subst (λ (b : List ℕ). IsNext answer (readings_from before b) (readings_from after (held ++ rest))) (sym (append_assoc taken held rest)) (next_of rest refl))

pub line_comes : (answer : Answer) (before after : ℕ) (known left : Option (List ℕ)) (line held : List ℕ) → known ≡ prepend_known ((line ++ 10 ∷ []) ++ held) left → HasNoFeed line
    → IsTold answer (line_reading_of (told_line before line)) → OnLine answer (after ≡ before + length line + 1)
    → IsNextOf answer (option_map (readings_from before) known) (option_map (readings_from after) (prepend_known held left))
line_comes answer before after known left line held same none asks at =
    known-next answer before after known left (line ++ 10 ∷ []) held same (λ rest is.
    subst (λ (b : List ℕ). IsNext answer (readings_from before b) (readings_from after (held ++ rest))) (sym (append_assoc line (10 ∷ []) (held ++ rest)))
    (line-next answer before after line (held ++ rest) none asks at))

pub last_comes : (answer : Answer) (before : ℕ) (known left : Option (List ℕ)) (line : List ℕ) → known ≡ prepend_known line left → IsAtEnd left → HasNoFeed line → line ≢ []
    → IsLastTold answer (line_reading_of (told_line before line))
    → IsNextOf answer (option_map (readings_from before) known) (option_map (readings_from before) (prepend_known line left))
last_comes answer before known None line same ended none some is = subst (λ k. IsNextOf answer (option_map (readings_from before) k) None) (sym same) tt
last_comes answer before known (Some rest) line same ended none some is =
    let all : line ++ rest ≡ line = ap (λ (r : List ℕ). line ++ r) ended ∙ append-nil line in
    subst (λ k. IsNextOf answer (option_map (readings_from before) k) (Some (readings_from before (line ++ rest)))) (sym same) (
      readings_from before (line ++ rest),
      refl,
      last-next answer (line_reading_of (told_line before line)) (readings_from before (line ++ rest)) (readings_from before (line ++ rest)) is
          (ap (readings_from before) all ∙ readings-last before line none some),
    )

pub end_comes : (before : ℕ) (known left : Option (List ℕ)) (held : List ℕ) → known ≡ prepend_known held left → held ≡ [] → IsAtEnd left
    → IsNextOf (Ok next.End) (option_map (readings_from before) known) (option_map (readings_from before) (prepend_known held left))
end_comes before known None held same none ended = subst (λ k. IsNextOf (Ok next.End) (option_map (readings_from before) k) None) (sym same) tt
end_comes before known (Some rest) held same none ended =
    let all : held ++ rest ≡ [] = ap (λ (h : List ℕ). h ++ rest) none ∙ ended in
    subst (λ k. IsNextOf (Ok next.End) (option_map (readings_from before) k) (Some (readings_from before (held ++ rest)))) (sym same)
    (readings_from before (held ++ rest), refl, ap (readings_from before) all ∙ none_to_come before)

-- ---- a line that is too long is refused, whatever comes after it

first-part : (n : ℕ) (bytes : List ℕ) → HasNoFeed (take n bytes) → n ≤ length bytes → (line : List ℕ) × (more : List (List ℕ)) × (slice_split is_line_end bytes ≡ line ∷ more) × (n ≤ length line)
first-part zero bytes none long =
    let some = split_some bytes in
    (some.0, some.1, some.2, omega arith)
first-part (suc n) [] none long = absurd (omega arith)
first-part (suc n) (c ∷ bytes) none long =
    by (c == 10) refl (first-part n bytes (All-tail (λ byte. byte ≢ 10) c (take n bytes) none) (omega arith))
  where
    by : (b : Bool) → (c == 10) ≡ b → ((line : List ℕ) × (more : List (List ℕ)) × (slice_split is_line_end bytes ≡ line ∷ more) × (n ≤ length line))
        → (line : List ℕ) × (more : List (List ℕ)) × (slice_split is_line_end (c ∷ bytes) ≡ line ∷ more) × (suc n ≤ length line)
    by true e rest = absurd (All-head (λ byte. byte ≢ 10) c (take n bytes) none (eqb-true c 10 e))
    by false e (line, more, same, enough) = (c ∷ line, more, rw (e, same) refl, omega arith)

stays-first : (line : List ℕ) (more : List (List ℕ)) → 1 ≤ length line → (rest : List (List ℕ)) × (without_empty_end (line ∷ more) ≡ line ∷ rest)
stays-first [] more some = absurd (omega arith)
stays-first (c ∷ line) [] some = ([], refl)
stays-first (c ∷ line) (other ∷ more) some = (without_empty_end (other ∷ more), refl)

is-long-line : (before : ℕ) (line : List ℕ) → 1048577 ≤ length line → line_reading_of (told_line before line) ≡ Err Long
is-long-line before line enough = rw (lt-ltb 1048576 (length line) (omega arith)) refl

long-readings : (before : ℕ) (bytes : List ℕ) → IsTooLong 1048577 bytes → (more : List LineReading) × (readings_from before bytes ≡ Err Long ∷ more)
unfolding readings_from
long-readings before bytes long =
    let (line, more, same, enough) = first-part 1048577 bytes long.0 long.1 in
    let (rest, kept) = stays-first line more (omega arith) in
    let behind_it = map line_reading_of (placed (before + length line + 1) rest) in (
      behind_it,
      ap (λ parts. map line_reading_of (placed before (without_empty_end parts))) same
          ∙ ap (λ parts. map line_reading_of (placed before parts)) kept
          ∙ ap (λ r. r ∷ behind_it) (is-long-line before line enough),
    )

too-long-on : (held rest : List ℕ) → IsTooLong 1048577 held → IsTooLong 1048577 (held ++ rest)
too-long-on held rest long = stays_too_long 1048577 held rest long

pub long_comes : (before : ℕ) (known left : Option (List ℕ)) (held : List ℕ) → known ≡ prepend_known held left → IsTooLong 1048577 held
    → IsNextOf (Ok (next.Refused Long)) (option_map (readings_from before) known) (option_map (readings_from before) (prepend_known held left))
long_comes before known None held same long = subst (λ k. IsNextOf (Ok (next.Refused Long)) (option_map (readings_from before) k) None) (sym same) tt
long_comes before known (Some rest) held same long =
    subst (λ k. IsNextOf (Ok (next.Refused Long)) (option_map (readings_from before) k) (Some (readings_from before (held ++ rest)))) (sym same)
    (readings_from before (held ++ rest), refl, long-readings before (held ++ rest) (too-long-on held rest long))

-- ---- a line whose bytes so far are too many is refused, whatever comes after them

longer-line : (before : ℕ) (part line : List ℕ) → length part ≤ length line → is_long before part ≡ true → is_long before line ≡ true
longer-line before part line more long = by (nat_lt 1048576 (length part)) (nat_lt 0 (length part)) (nat_lt 67108864 (before + length part)) refl refl refl long
  where
    or_true : (b : Bool) → (b || true) ≡ true
    or_true true = refl
    or_true false = refl

    by : (many some late : Bool) → nat_lt 1048576 (length part) ≡ many → nat_lt 0 (length part) ≡ some → nat_lt 67108864 (before + length part) ≡ late
        → (many || (some && late)) ≡ true → is_long before line ≡ true
    by true some late e f g h =
        let above = ltb-true 1048576 (length part) e in
        rw (lt-ltb 1048576 (length line) (omega arith)) refl
    by false true true e f g h =
        let one = ltb-true 0 (length part) f in
        let past = ltb-true 67108864 (before + length part) g in
        rw (lt-ltb 0 (length line) (omega arith), lt-ltb 67108864 (before + length line) (omega arith)) (or_true (nat_lt 1048576 (length line)))
    by false true false e f g h = absurd (cc h)
    by false false late e f g h = absurd (cc h)

long-part : (before : ℕ) (part rest : List ℕ) → HasNoFeed part → is_long before part ≡ true → (more : List LineReading) × (readings_from before (part ++ rest) ≡ Err Long ∷ more)
unfolding readings_from
long-part before [] rest none long = absurd (cc long)
long-part before (c ∷ part) rest none long =
    let bytes = (c ∷ part) ++ rest in
    let n = length (c ∷ part) in
    let lengths = length-append (c ∷ part) rest in
    let (line, more, same, enough) = first-part n bytes (subst HasNoFeed (sym (take-append_seam (c ∷ part) rest)) none) (omega arith) in
    let (others, kept) = stays-first line more (omega arith) in
    let behind_it = map line_reading_of (placed (before + length line + 1) others) in (
      behind_it,
      ap (λ parts. map line_reading_of (placed before (without_empty_end parts))) same
          ∙ ap (λ parts. map line_reading_of (placed before parts)) kept
          ∙ ap (λ r. r ∷ behind_it) (ap (λ b. line_reading_of (if b then LongLine else Whole line)) (longer-line before (c ∷ part) line enough long)),
    )

pub part_comes : (before : ℕ) (known left : Option (List ℕ)) (held part rest : List ℕ) → known ≡ prepend_known held left → held ≡ part ++ rest → HasNoFeed part → is_long before part ≡ true
    → IsNextOf (Ok (next.Refused Long)) (option_map (readings_from before) known) (option_map (readings_from before) (prepend_known held left))
part_comes before known None held part rest same joined none long = subst (λ k. IsNextOf (Ok (next.Refused Long)) (option_map (readings_from before) k) None) (sym same) tt
part_comes before known (Some left) held part rest same joined none long =
    let whole : held ++ left ≡ part ++ (rest ++ left) = ap (λ (h : List ℕ). h ++ left) joined ∙ append_assoc part rest left in
    let l = long-part before part (rest ++ left) none long in
    subst (λ k. IsNextOf (Ok (next.Refused Long)) (option_map (readings_from before) k) (Some (readings_from before (held ++ left)))) (sym same)
    (readings_from before (held ++ left), refl, (l.0, ap (readings_from before) whole ∙ l.1))

-- ---- a line that was cut at its first line end

pub cut_at : (bytes : List ℕ) (place : ℕ) → place < length bytes → slice_index bytes place ≡ 10 → (rest : List ℕ) × (bytes ≡ take place bytes ++ rest) × IsLineEnd rest
cut_at bytes place within found =
    let behind : drop place bytes ≡ 10 ∷ drop (suc place) bytes = drop-cons bytes place 0 within ∙ ap (λ b. b ∷ drop (suc place) bytes) found in
    (drop place bytes, sym (take-append-drop place bytes), inr (drop (suc place) bytes, behind))

-- ---- what is taken

pub takes_line : (answer : Answer) (old new : ScriptLines) (was left : Option (List ℕ)) (bytes held : List ℕ) → HasNoFeed bytes → IsTold answer (line_reading_of (told_line old.before.bytes bytes))
    → OnLine answer (new.before.bytes ≡ old.before.bytes + length bytes + 1) → OnErr answer (told_line old.before.bytes bytes ≡ Whole bytes) → new.lines ≡ held
    → prepend_known old.lines was ≡ prepend_known ((bytes ++ 10 ∷ []) ++ held) left → Takes answer old new was left
takes_line (Ok (next.Line line)) old new was left bytes held none is at short same taken = record {
  bytes = bytes;
  no_feed = none;
  is_line = is;
  behind = at;
  taken = taken ∙ ap (λ (l : List ℕ). prepend_known l left) (append_assoc bytes (10 ∷ []) held ∙ ap (λ (h : List ℕ). bytes ++ 10 ∷ h) (sym same));
}
takes_line (Ok (next.Last line)) old new was left bytes held none is at short same taken = tt
takes_line (Ok (next.Refused why)) old new was left bytes held none is at short same taken = tt
takes_line (Ok next.End) old new was left bytes held none is at short same taken = tt
takes_line (Err Read) old new was left bytes held none is at short same taken = absurd (cc is)
takes_line (Err Memory) old new was left bytes held none is at short same taken = record {
  bytes = bytes;
  rest = 10 ∷ held;
  no_feed = none;
  is_rest = inr (held, refl);
  not_long = short;
  taken = taken ∙ ap (λ (l : List ℕ). prepend_known l left) (append_assoc bytes (10 ∷ []) held);
}

pub takes_last : (answer : Answer) (old new : ScriptLines) (was left : Option (List ℕ)) (held : List ℕ) → HasNoFeed held → IsLastTold answer (line_reading_of (told_line old.before.bytes held))
    → OnErr answer (told_line old.before.bytes held ≡ Whole held) → prepend_known old.lines was ≡ prepend_known held left → Takes answer old new was left
takes_last (Ok (next.Line line)) old new was left held none is short taken = absurd is
takes_last (Ok (next.Last line)) old new was left held none is short taken = tt
takes_last (Ok (next.Refused why)) old new was left held none is short taken = tt
takes_last (Ok next.End) old new was left held none is short taken = tt
takes_last (Err Read) old new was left held none is short taken = absurd (cc is)
takes_last (Err Memory) old new was left held none is short taken = record {
  bytes = held;
  rest = [];
  no_feed = none;
  is_rest = inl refl;
  not_long = short;
  taken = taken ∙ ap (λ (l : List ℕ). prepend_known l left) (sym (append-nil held));
}

-- ---- there was no memory

-- what is held of the next line, whose bytes are too many already where it is refused
abbrev pub Wanting : Answer → (before : ℕ) → List ℕ → Type 0
Wanting answer before held =
    (bytes rest : List ℕ) × (held ≡ bytes ++ rest) × IsLineEnd rest × HasNoFeed bytes
    × OnOk answer (is_long before bytes ≡ true) × OnErr answer (told_line before bytes ≡ Whole bytes)

pub wanting_comes : (answer : Answer) (before : ℕ) (known left : Option (List ℕ)) (held : List ℕ) → known ≡ prepend_known held left → Wanting answer before held → IfOk answer (λ n. n ≡ next.Refused Long)
    → IsNextOf answer (option_map (readings_from before) known) (option_map (readings_from before) (prepend_known held left))
wanting_comes (Ok n) before known left held same (bytes, rest, joined, end, none, long, short) refused =
    subst (λ (a : Next). IsNextOf (Ok a) (option_map (readings_from before) known) (option_map (readings_from before) (prepend_known held left))) (sym refused)
    (part_comes before known left held bytes rest same joined none long)
wanting_comes (Err e) before known left held same wanting refused = known-next (Err e) before before known left [] held same (λ rest is. tt)

pub wanting_takes : (answer : Answer) (old new : ScriptLines) (was left : Option (List ℕ)) (held : List ℕ) → prepend_known old.lines was ≡ prepend_known held left → Wanting answer old.before.bytes held
    → IfOk answer (λ n. n ≡ next.Refused Long) → IfErr answer (λ e. e ≡ Memory) → Takes answer old new was left
wanting_takes (Ok n) old new was left held taken wanting refused fault = subst (λ (a : Next). Takes (Ok a) old new was left) (sym refused) tt
wanting_takes (Err e) old new was left held taken (bytes, rest, joined, end, none, long, short) refused fault =
    subst (λ (f : ScriptFault). Takes (Err f) old new was left) (sym fault) (record {
      bytes = bytes;
      rest = rest;
      no_feed = none;
      is_rest = end;
      not_long = short;
      taken = taken ∙ ap (λ (l : List ℕ). prepend_known l left) joined;
    })
