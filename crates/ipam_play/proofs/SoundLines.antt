-- What is read of a line is sound.
use Rattle.std.proofs.Common.{◌≡◌, ℕ, ◌<◌, ◌≤◌, Bool, true, false, List, Option, Some, None, refl, sym, ap, ◌∙◌, subst}
use Rattle.std.specs.Prelude.{◌&&◌, bytes_eq, codes, cond, length, nat_le, nat_lt, option_and_then, option_map, IfSome}
use Rattle.std.specs.Str.{is_utf8}
use Rattle.std.proofs.lemmas.Bool.{ltb-true, leb-true}
use Rattle.std.proofs.lemmas.List.Elements.{All-from_recursion}
use Rattle.std.proofs.lemmas.Option.{option_and_then_some, cond_some}
use Rattle.ipam_select.proofs.Choices.{and_true}
use Rattle.ipam_records.specs.Sound.{IsHandleId}
use Rattle.ipam_json.specs.Members.{only_if}
use Rattle.ipam_request_text.specs.Live.{live_reading}
use Rattle.ipam_request_text.specs.Reading.{request_reading}
use Rattle.ipam_request_text.proofs.Lives.{live_reading-is}
use Rattle.ipam_request_text.proofs.ReadBack.{read_sound}
use Rattle.ipam_answer_text.specs.declared.line.Line.{Line}
use Rattle.ipam_answer_text.specs.declared.line.Line.TheVariants as line
use Rattle.ipam_answer_text.specs.Reading.{begin_in, feed_in, feed_listed, line_parts, line_reading, lone_word, named_call, named_line, one_turn, row_in, row_line_of, text_reading, timed_feed, turn_in, turn_parts, turns_said}
use Rattle.ipam_answer_text.specs.Words.{number_of, slot_number_in, slot_named, split_word, turns_in, turns_of}
use Rattle.ipam_play.specs.SoundLine.{IsSoundLine}

-- the line is sound, where there is one
abbrev IsSoundOrNone : Option Line → Type 0
IsSoundOrNone found = IfSome found IsSoundLine

bound : {A : Type 0} (o : Option A) (f : A → Option Line) → ((a : A) → o ≡ Some a → IsSoundOrNone (f a)) → IsSoundOrNone (option_and_then f o)
bound None f each = tt
bound (Some a) f each = each a refl

mapped : {A : Type 0} (o : Option A) (f : A → Line) → ((a : A) → o ≡ Some a → IsSoundLine (f a)) → IsSoundOrNone (option_map f o)
mapped None f each = tt
mapped (Some a) f each = each a refl

chosen : (b : Bool) (one other : Option Line) → IsSoundOrNone one → IsSoundOrNone other → IsSoundOrNone (cond b one other)
chosen true one other h k = h
chosen false one other h k = k

slot_below : (word : List ℕ) (slot : ℕ) → slot_named word ≡ Some slot → slot < 64
slot_below word slot e =
    option_and_then_some slot_number_in (number_of word) slot e (λ n found e1.
    let parts = cond_some (nat_lt n 64) n slot e1 in
    subst (λ (m : ℕ). m < 64) parts.1 (ltb-true n 64 parts.0))

some_turns : (word : List ℕ) (count : ℕ) → turns_of word ≡ Some count → 1 ≤ count
some_turns word count e =
    option_and_then_some turns_in (number_of word) count e (λ n found e1.
    let parts = cond_some (nat_le 1 n && nat_le n 100000) n count e1 in
    subst (λ (m : ℕ). 1 ≤ m) parts.1 (leb-true 1 n (and_true (nat_le 1 n) (nat_le n 100000) parts.0).0))

row_sound : (text : List ℕ) → IsSoundOrNone (row_in text)
unfolding row_in
row_sound text =
    bound (split_word text) _ (λ first e1.
    bound (number_of first.0) _ (λ revision e2.
    bound (split_word first.1) _ (λ second e3.
    chosen (nat_lt 0 (length second.0)) _ None tt tt)))

begin_sound : (text : List ℕ) → IsSoundOrNone (begin_in text)
unfolding begin_in
begin_sound text =
    bound (split_word text) _ (λ first e1.
    bound (slot_named first.0) _ (λ slot e2.
    bound (request_reading first.1) _ (λ request e3.
    (slot_below first.0 slot e2, read_sound first.1 request e3))))

said_sound : (word turns : List ℕ) → IsSoundOrNone (turns_said word turns)
unfolding turns_said
said_sound word turns =
    bound (slot_named word) _ (λ slot e1.
    bound (turns_of turns) _ (λ count e2.
    (slot_below word slot e1, some_turns turns count e2)))

turn_sound : (text : List ℕ) → IsSoundOrNone (turn_in text)
turn_sound text = by (split_word text)
  where
    by : (o : Option (List ℕ × List ℕ)) → IsSoundOrNone (turn_parts text o)
    by None = mapped (slot_named text) _ (λ slot e. (slot_below text slot e, leb-true 1 1 refl))
    by (Some parts) = said_sound parts.0 parts.1

timed_sound : (slot : ℕ) (text : List ℕ) → slot < 64 → IsSoundOrNone (timed_feed slot text)
unfolding timed_feed
timed_sound slot text below =
    bound (split_word text) _ (λ parts e1.
    bound (number_of parts.0) _ (λ at e2.
    bound (live_reading parts.1) _ (λ live e3.
    (below, All-from_recursion IsHandleId live (live_reading-is parts.1 live e3)))))

feed_sound : (text : List ℕ) → IsSoundOrNone (feed_in text)
unfolding feed_in
feed_sound text =
    bound (split_word text) _ (λ first e1.
    bound (slot_named first.0) _ (λ slot e2.
    by slot first.1 (slot_below first.0 slot e2) (live_reading first.1) refl))
  where
    by : (slot : ℕ) (rest : List ℕ) → slot < 64 → (o : Option (List (List ℕ))) → live_reading rest ≡ o → IsSoundOrNone (feed_listed slot rest o)
    by slot rest below None e = timed_sound slot rest below
    by slot rest below (Some live) e = (below, All-from_recursion IsHandleId live (live_reading-is rest live e))

call_sound : (word rest : List ℕ) → IsSoundOrNone (named_call word rest)
call_sound word rest =
    chosen (bytes_eq word (codes "fail")) _ _ (mapped (slot_named rest) _ (slot_below rest))
    (chosen (bytes_eq word (codes "lose")) _ _ (mapped (slot_named rest) _ (slot_below rest))
    (chosen (bytes_eq word (codes "stop")) _ None (mapped (slot_named rest) _ (slot_below rest)) tt))

named_sound : (word rest : List ℕ) → IsSoundOrNone (named_line word rest)
named_sound word rest =
    chosen (bytes_eq word (codes "row")) _ _ (row_sound rest)
    (chosen (bytes_eq word (codes "counter")) _ _ (mapped (number_of rest) _ (λ n e. tt))
    (chosen (bytes_eq word (codes "begin")) _ _ (begin_sound rest)
    (chosen (bytes_eq word (codes "turn")) _ _ (turn_sound rest)
    (chosen (bytes_eq word (codes "feed")) _ _ (feed_sound rest) (call_sound word rest)))))

text_sound : (text : List ℕ) → IsSoundOrNone (text_reading text)
unfolding text_reading
text_sound text = by (split_word text)
  where
    by : (o : Option (List ℕ × List ℕ)) → IsSoundOrNone (line_parts text o)
    by None = chosen (bytes_eq text (codes "restart")) _ None tt tt
    by (Some parts) = named_sound parts.0 parts.1

pub reading_sound : (bytes : List ℕ) (asked : Line) → line_reading bytes ≡ Some asked → IsSoundLine asked
unfolding line_reading
reading_sound bytes asked e =
    subst (λ (o : Option Line). IsSoundOrNone o) e (bound (only_if (is_utf8 bytes) bytes) text_reading (λ text is. text_sound text))
