-- What is written where a script that is played ends.
use Rattle.std.proofs.Common.{◌≡◌, ℕ, suc, ◌+◌, ◌≤◌, List, [], ◌∷◌, ◌++◌, length, take, drop, Option, Some, None, refl, sym, ap, ◌∙◌, subst, arith, get_or, ◌<◌, append_assoc, append-nil, inl, inr}
use Rattle.std.specs.Prelude.{Result, Ok, Err, OnErr, OnOk}
use Rattle.std.specs.Io.KnownBytes.{append_known}
use Rattle.std.proofs.lemmas.List.{length-append, take-append-drop, take-append-le, take_more}
use Rattle.std.proofs.lemmas.Grind.{flat_map-append}
use denote.Ref.{Bor}
use Rattle.ipam_io.specs.Streams.{AppendsPrefix}
use Rattle.ipam_model.specs.declared.entry.Entry.{Entry}
use Rattle.ipam_answer_text.specs.Entries.{entry_line}
use Rattle.ipam_play.specs.Output.{play_ending_text, journal_text, output_text}
use Rattle.ipam_play.specs.Played.{Ending, IsPlayed}
use Rattle.ipam_play.specs.Script.{Script}
use Rattle.ipam_play.specs.Writing.{IsFront, OfAll, OfFront, WritesAll, WritesFront, WritesPart, Wrote, joined, read_fault_text}

pub journal-append : (first second : List Entry) → journal_text (first ++ second) ≡ journal_text first ++ journal_text second
unfolding journal_text
journal-append [] second = refl
journal-append (new ∷ first) second = ap (λ (l : List ℕ). entry_line new ++ l) (journal-append first second) ∙ sym (append_assoc (entry_line new) (journal_text first) (journal_text second))

pub append-twice : (known : Option (List ℕ)) (first second : List ℕ) → append_known (append_known known first) second ≡ append_known known (first ++ second)
append-twice None first second = refl
append-twice (Some bytes) first second = ap Some (append_assoc bytes first second)

-- what is written, and then what is held, are all the lines
pub all-lines : (first now : Option (List ℕ)) (held : List ℕ) (past : List Entry) (last : List ℕ) → Wrote first now held past → append_known now (held ++ last) ≡ append_known first (journal_text past ++ last)
all-lines first now held past last w =
    ap (λ (k : Option (List ℕ)). append_known k (held ++ last)) w.written
    ∙ append-twice first (journal_text w.done) (held ++ last)
    ∙ ap (append_known first) (
    sym (append_assoc (journal_text w.done) held last)
    ∙ ap (λ (l : List ℕ). (journal_text w.done ++ l) ++ last) w.is_held
    ∙ ap (λ (l : List ℕ). l ++ last) (sym (journal-append w.done w.kept) ∙ ap journal_text (sym w.is_past))
    )

take-more : (n : ℕ) (xs ys : List ℕ) → take (length xs + n) (xs ++ ys) ≡ xs ++ take n ys
take-more n [] ys = ap (λ (m : ℕ). take m ys) (omega arith)
take-more n (x ∷ xs) ys = ap (λ (m : ℕ). take m (x ∷ (xs ++ ys))) (one-more (length xs)) ∙ ap (λ (l : List ℕ). x ∷ l) (take-more n xs ys)
  where
    one-more : (m : ℕ) → suc m + n ≡ suc (m + n)
    one-more m = omega arith

whole-lines : (first now : Option (List ℕ)) (held : List ℕ) (past : List Entry) (last more : List ℕ) (w : Wrote first now held past) → journal_text past ++ (last ++ more) ≡ journal_text w.done ++ ((held ++ last) ++ more)
whole-lines first now held past last more w =
    ap (λ (l : List ℕ). l ++ (last ++ more)) (ap journal_text w.is_past ∙ journal-append w.done w.kept ∙ ap (λ (l : List ℕ). journal_text w.done ++ l) (sym w.is_held))
    ∙ append_assoc (journal_text w.done) held (last ++ more)
    ∙ ap (λ (l : List ℕ). journal_text w.done ++ l) (sym (append_assoc held last more))

-- a front part of what is held and of the last line is one of all that is to be written
pub part-lines : (first now after : Option (List ℕ)) (held : List ℕ) (past : List Entry) (last more : List ℕ) → Wrote first now held past → AppendsPrefix now after (held ++ last)
    → AppendsPrefix first after (journal_text past ++ (last ++ more))
part-lines first now after held past last more w (n, below, is) =
    let front = journal_text w.done in
    let piece = held ++ last in
    let whole = whole-lines first now held past last more w in
    let lengths = length-append front (piece ++ more) in
    let inner = length-append piece more in
    let cut : take (length front + n) (journal_text past ++ (last ++ more)) ≡ front ++ take n piece =
    ap (take (length front + n)) whole ∙ take-more n front (piece ++ more) ∙ ap (λ (l : List ℕ). front ++ l) (take-append-le n piece more below) in (
      length front + n,
      subst (λ (l : List ℕ). length front + n ≤ length l) (sym whole) (omega arith),
      is ∙ ap (λ (k : Option (List ℕ)). append_known k (take n piece)) w.written ∙ append-twice first front (take n piece) ∙ ap (append_known first) (sym cut),
    )

-- ---- the ends

pub front_stays : (script : Script) (first now : Option (List ℕ)) (held : List ℕ) (past : List Entry) → Wrote first now held past → IsFront script past → WritesFront script first now []
front_stays script first now held past w front = record {
  done = w.done;
  is_front = by front;
  written = w.written ∙ ap (append_known first) (sym (append-nil (journal_text w.done)));
}
  where
    by : IsFront script past → IsFront script w.done
    by (inl none) = inl (first-none w.done w.kept (sym w.is_past ∙ none))
      where
        first-none : (a b : List Entry) → a ++ b ≡ [] → a ≡ []
        first-none [] b e = refl
        first-none (x ∷ a) b e = absurd (cc e)
    by (inr part) = inr (record {
      more = w.kept ++ part.more;
      ending = part.ending;
      is_played = subst (λ (l : List Entry). IsPlayed script l part.ending) (ap (λ (l : List Entry). l ++ part.more) w.is_past ∙ append_assoc w.done w.kept part.more) part.is_played;
    })

pub writes_all : (script : Script) (first now after : Option (List ℕ)) (held : List ℕ) (past : List Entry) (ending : Ending) (IsEnding : Ending → Type 0) → Wrote first now held past → IsPlayed script past ending → IsEnding ending
    → after ≡ append_known now (held ++ play_ending_text ending) → WritesAll script first after IsEnding
writes_all script first now after held past ending IsEnding w played is_ending written = record {
  entries = past;
  ending = ending;
  is_played = played;
  is_ending = is_ending;
  written = written ∙ all-lines first now held past (play_ending_text ending) w;
}

pub writes_part : (script : Script) (first now after : Option (List ℕ)) (held : List ℕ) (past : List Entry) (ending : Ending) → Wrote first now held past → IsPlayed script past ending
    → AppendsPrefix now after (held ++ play_ending_text ending) → WritesPart script first after
writes_part script first now after held past ending w played part = record {
  text = output_text past ending;
  is_text = OfAll past ending played;
  written = subst (λ (l : List ℕ). AppendsPrefix first after (journal_text past ++ l)) (append-nil (play_ending_text ending)) (part-lines first now after held past (play_ending_text ending) [] w part);
}

-- a write in the middle of a script, with the lines of these new entries
pub writes_middle : (script : Script) (first now after : Option (List ℕ)) (held : List ℕ) (past new more : List Entry) (ending : Ending) → Wrote first now held past → IsPlayed script ((past ++ new) ++ more) ending
    → AppendsPrefix now after (held ++ journal_text new) → WritesPart script first after
writes_middle script first now after held past new more ending w played part = record {
  text = output_text ((past ++ new) ++ more) ending;
  is_text = OfAll ((past ++ new) ++ more) ending played;
  written = subst (λ (l : List ℕ). AppendsPrefix first after l) whole (part-lines first now after held past (journal_text new) (journal_text more ++ play_ending_text ending) w part);
}
  where
    whole : journal_text past ++ (journal_text new ++ (journal_text more ++ play_ending_text ending)) ≡ output_text ((past ++ new) ++ more) ending
    whole = sym (append_assoc (journal_text past) (journal_text new) (journal_text more ++ play_ending_text ending))
        ∙ ap (λ (l : List ℕ). l ++ (journal_text more ++ play_ending_text ending)) (sym (journal-append past new))
        ∙ sym (append_assoc (journal_text (past ++ new)) (journal_text more) (play_ending_text ending))
        ∙ ap (λ (l : List ℕ). l ++ play_ending_text ending) (sym (journal-append (past ++ new) more))

pub writes_fault : (script : Script) (first now after : Option (List ℕ)) (held : List ℕ) (past : List Entry) → Wrote first now held past → IsFront script past
    → after ≡ append_known now (held ++ read_fault_text) → WritesFront script first after read_fault_text
writes_fault script first now after held past w front written = record {
  done = past;
  is_front = front;
  written = written ∙ all-lines first now held past read_fault_text w;
}

pub writes_fault_part : (script : Script) (first now after : Option (List ℕ)) (held : List ℕ) (past : List Entry) → Wrote first now held past → IsFront script past
    → AppendsPrefix now after (held ++ read_fault_text) → WritesPart script first after
writes_fault_part script first now after held past w front part = record {
  text = journal_text past ++ read_fault_text;
  is_text = OfFront past front;
  written = subst (λ (l : List ℕ). AppendsPrefix first after (journal_text past ++ l)) (append-nil read_fault_text) (part-lines first now after held past read_fault_text [] w part);
}

-- ---- writes

-- a front part of a piece is one of the piece and what stands after it
pub front-part : (now after : Option (List ℕ)) (piece more : List ℕ) → AppendsPrefix now after piece → AppendsPrefix now after (piece ++ more)
front-part now after piece more (n, below, is) =
    let lengths = length-append piece more in
    (n, omega arith, is ∙ ap (append_known now) (sym (take-append-le n piece more below)))

-- the piece was written, and then a front part of what stands after it
pub next-part : (now mid after : Option (List ℕ)) (piece more : List ℕ) → mid ≡ append_known now piece → AppendsPrefix mid after more → AppendsPrefix now after (piece ++ more)
next-part now mid after piece more written (n, below, is) =
    let lengths = length-append piece more in (
      length piece + n,
      omega arith,
      is ∙ ap (λ (k : Option (List ℕ)). append_known k (take n more)) written ∙ append-twice now piece (take n more) ∙ ap (append_known now) (sym (take-more n piece more)),
    )

-- what is held was written
pub wrote_all : (first now : Option (List ℕ)) (held : List ℕ) (past : List Entry) → Wrote first now held past → Wrote first (append_known now held) [] past
unfolding journal_text
wrote_all first now held past w = record {
  done = past;
  kept = [];
  is_past = sym (append-nil past);
  written = ap (append_known now) (sym (append-nil held)) ∙ all-lines first now held past [] w ∙ ap (append_known first) (append-nil (journal_text past));
  is_held = refl;
}

-- more entries are held
pub wrote_more : (first now : Option (List ℕ)) (held : List ℕ) (past new : List Entry) → Wrote first now held past → Wrote first now (held ++ journal_text new) (past ++ new)
wrote_more first now held past new w = record {
  done = w.done;
  kept = w.kept ++ new;
  is_past = ap (λ (l : List Entry). l ++ new) w.is_past ∙ append_assoc w.done w.kept new;
  written = w.written;
  is_held = ap (λ (l : List ℕ). l ++ journal_text new) w.is_held ∙ sym (journal-append w.kept new);
}

-- nothing was written yet
pub wrote_none : (first : Option (List ℕ)) → Wrote first first [] []
unfolding journal_text
wrote_none None = record { done = []; kept = []; is_past = refl; written = refl; is_held = refl }
wrote_none (Some bytes) = record { done = []; kept = []; is_past = refl; written = ap Some (sym (append-nil bytes)); is_held = refl }

pub next_part_or : {T E : Type 0} (r : Result T E) (now mid after : Option (List ℕ)) (piece more : List ℕ) → mid ≡ append_known now piece → OnErr r (AppendsPrefix mid after more) → OnErr r (AppendsPrefix now after (piece ++ more))
next_part_or (Ok done) now mid after piece more written part = tt
next_part_or (Err e) now mid after piece more written part = next-part now mid after piece more written part

pub next_whole_or : {T E : Type 0} (r : Result T E) (now mid after : Option (List ℕ)) (piece more : List ℕ) → mid ≡ append_known now piece → OnOk r (after ≡ append_known mid more) → OnOk r (after ≡ append_known now (piece ++ more))
next_whole_or (Ok done) now mid after piece more written whole = whole ∙ ap (λ (k : Option (List ℕ)). append_known k more) written ∙ append-twice now piece more
next_whole_or (Err e) now mid after piece more written whole = tt

-- ---- pieces

-- what was written, where none was
pub append-none : (known : Option (List ℕ)) → known ≡ append_known known []
append-none None = refl
append-none (Some bytes) = ap Some (sym (append-nil bytes))

pub on_err : {T E : Type 0} {P : Type 0} (r : Result T E) → P → OnErr r P
on_err (Ok done) p = tt
on_err (Err e) p = p

joined-more : (pieces : List (Bor (List ℕ))) (i : ℕ) (blank : Bor (List ℕ)) → i < length pieces → joined (take (i + 1) pieces) ≡ joined (take i pieces) ++ (get_or pieces i blank).now
joined-more pieces i blank below =
    ap joined (take_more pieces i blank below)
    ∙ flat_map-append (λ (p : Bor (List ℕ)). p.now) (take i pieces) (get_or pieces i blank ∷ [])
    ∙ ap (λ (l : List ℕ). joined (take i pieces) ++ l) (append-nil (get_or pieces i blank).now)

-- one piece more was written
pub next_piece : (first now : Option (List ℕ)) (pieces : List (Bor (List ℕ))) (i : ℕ) (blank : Bor (List ℕ)) (said : List ℕ) → i < length pieces → said ≡ (get_or pieces i blank).now
    → now ≡ append_known first (joined (take i pieces)) → append_known now said ≡ append_known first (joined (take (i + 1) pieces))
next_piece first now pieces i blank said below same written =
    ap (λ (k : Option (List ℕ)). append_known k said) written
    ∙ append-twice first (joined (take i pieces)) said
    ∙ ap (append_known first) (ap (λ (l : List ℕ). joined (take i pieces) ++ l) same ∙ sym (joined-more pieces i blank below))

-- a front part of the next piece was written
pub piece_part : (first now after : Option (List ℕ)) (pieces : List (Bor (List ℕ))) (i : ℕ) (blank : Bor (List ℕ)) (said : List ℕ) → i < length pieces → said ≡ (get_or pieces i blank).now
    → now ≡ append_known first (joined (take i pieces)) → AppendsPrefix now after said → AppendsPrefix first after (joined pieces)
piece_part first now after pieces i blank said below same written part =
    subst (λ (l : List ℕ). AppendsPrefix first after l) (sym whole)
    (front-part first after (joined (take i pieces) ++ (get_or pieces i blank).now) (joined (drop (i + 1) pieces))
    (next-part first now after (joined (take i pieces)) (get_or pieces i blank).now written (subst (λ (l : List ℕ). AppendsPrefix now after l) same part)))
  where
    whole : joined pieces ≡ (joined (take i pieces) ++ (get_or pieces i blank).now) ++ joined (drop (i + 1) pieces)
    whole =
        ap joined (sym (take-append-drop (i + 1) pieces))
        ∙ flat_map-append (λ (p : Bor (List ℕ)). p.now) (take (i + 1) pieces) (drop (i + 1) pieces)
        ∙ ap (λ (l : List ℕ). l ++ joined (drop (i + 1) pieces)) (joined-more pieces i blank below)

-- the lines of one entry more
pub journal_push : (entries : List Entry) (i : ℕ) (entry : Entry) → i < length entries → entry ≡ get_or entries i entry → journal_text (take (i + 1) entries) ≡ journal_text (take i entries) ++ entry_line entry
unfolding journal_text
journal_push entries i entry below is =
    ap journal_text (take_more entries i entry below)
    ∙ journal-append (take i entries) (get_or entries i entry ∷ [])
    ∙ ap (λ (l : List ℕ). journal_text (take i entries) ++ l) (append-nil (entry_line (get_or entries i entry)))
    ∙ ap (λ (e : Entry). journal_text (take i entries) ++ entry_line e) (sym is)
