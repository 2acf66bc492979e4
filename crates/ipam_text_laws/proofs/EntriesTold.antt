-- What the line of an entry tells.
use Rattle.std.proofs.Common.{◌≡◌, ◌≢◌, ℕ, ◌<◌, List, [], ◌∷◌, ◌++◌, Bool, true, false, ◌||◌, codes, decimal, bytes_eq, is_some, Option, Some, None, refl, sym, ap, ap₂, ◌∙◌, arith, append_assoc, append-nil}
use Rattle.std.proofs.lemmas.Fmt.{decimal_injective}
use Rattle.std.proofs.lemmas.List.{append_cancel_left, append_cancel_right}
use Rattle.json.specs.Print.{quoted, escape}
use Rattle.serde_json.specs.Data.{Data, null, boolean, number, array, Members, no_members, member, object, string}
use Rattle.serde_json.specs.Written.{comma_if, compact_text, members_text}
use Rattle.ipam_block_text.specs.Body.{block_body, block_data, parts_data}
use Rattle.ipam_record_text.specs.Config.{config_body, config_data}
use Rattle.ipam_record_text.specs.Pools.{pools_body, pools_data}
use Rattle.ipam_record_text.specs.Reservations.{reservations_body, reservations_data}
use Rattle.ipam_record_text.specs.Affinity.{affinity_body, affinity_data}
use Rattle.ipam_record_text.specs.Handle.{handle_body, handle_data}
use Rattle.ipam_records.specs.Body.{body_of}
use Rattle.ipam_records.specs.declared.record.Record.{Record}
use Rattle.ipam_records.specs.declared.record.Record.TheVariants as record_of
use Rattle.ipam_records.specs.KeyText.{key_bytes}
use Rattle.ipam_records.specs.declared.key.Kind.{Kind}
use Rattle.ipam_records.specs.declared.key.Kind.TheVariants as kind
use Rattle.ipam_model.specs.declared.answer.Answer.{Answer}
use Rattle.ipam_model.specs.declared.answer.Answer.TheVariants as answer
use Rattle.ipam_model.specs.declared.entry.CallName.{CallName}
use Rattle.ipam_model.specs.declared.entry.CallName.TheVariants as name
use Rattle.ipam_model.specs.declared.entry.Called.{Called}
use Rattle.ipam_model.specs.declared.entry.Entry.{Entry}
use Rattle.ipam_model.specs.declared.entry.Entry.TheVariants as entry
use Rattle.ipam_model.specs.declared.entry.Fate.{Fate}
use Rattle.ipam_model.specs.declared.entry.Fate.TheVariants.{Well, Before, After}
use Rattle.ipam_model.specs.declared.entry.Told.{Told}
use Rattle.ipam_model.specs.declared.entry.Told.TheVariants as told
use Rattle.ipam_model.specs.Course.{slot_count}
use Rattle.ipam_model.specs.History.{slot_of_entry}
use Rattle.ipam_request_text.specs.Requests.{request_text, live_text}
use Rattle.ipam_answer_text.specs.Answers.{answer_data, answer_text}
use Rattle.ipam_answer_text.specs.Entries.{kind_text, call_text, fate_text, told_text, written_text, ending_text, at_text, began_line, fed_line, stopped_line, asked_text, heard_text, called_line, entry_line}
use Rattle.ipam_text_laws.specs.Journals.{kind_word, CallsAgree}
use Rattle.ipam_text_laws.specs.Names.{IsAboutName}
use Rattle.ipam_text_laws.proofs.ObjectEnds.{behind_object, object-behind}
use Rattle.ipam_text_laws.proofs.Plain.{is_visible, IsVisible, lacks-passed, visible-text, visible-decimal}
use Rattle.ipam_text_laws.proofs.PlainKeys.{key-visible}
use Rattle.ipam_text_laws.proofs.WholeLines.{first_of, cut_at}

-- ---- words before a space

-- two texts that go on after a space
pub cut-words : (x y r s : List ℕ) → IsVisible x → IsVisible y → x ++ 32 ∷ r ≡ y ++ 32 ∷ s → (x ≡ y) × (r ≡ s)
cut-words x y r s h k same = cut_at 32 x y r s (lacks-passed is_visible 32 refl x h) (lacks-passed is_visible 32 refl y k) same

-- a number after a space, or nothing
abbrev pub number_part : Bool → ℕ → List ℕ
number_part false n = []
number_part true n = 32 ∷ decimal n

-- what stands after the first space, where this follows
abbrev pub after_word : Bool → ℕ → List ℕ → List ℕ
after_word false n r = r
after_word true n r = decimal n ++ 32 ∷ r

pub phrase-parts : (b : Bool) (x : List ℕ) (n : ℕ) (r : List ℕ) → (x ++ number_part b n) ++ 32 ∷ r ≡ x ++ 32 ∷ after_word b n r
phrase-parts false x n r = ap (λ (t : List ℕ). t ++ 32 ∷ r) (append-nil x)
phrase-parts true x n r = append_assoc x (32 ∷ decimal n) (32 ∷ r)

pub cut-numbers : (b c : Bool) (m n : ℕ) (r s : List ℕ) → b ≡ c → after_word b m r ≡ after_word c n s → (number_part b m ≡ number_part c n) × (r ≡ s)
cut-numbers false false m n r s e same = (refl, same)
cut-numbers true true m n r s e same =
    let both = cut-words (decimal m) (decimal n) r s (visible-decimal m) (visible-decimal n) same in
    (ap (λ (t : List ℕ). 32 ∷ t) both.0, both.1)
cut-numbers false true m n r s e same = absurd (cc e)
cut-numbers true false m n r s e same = absurd (cc e)

-- a word with a number or with none, as the word has it
cut-phrases : (b c : Bool) (x y : List ℕ) (m n : ℕ) (r s : List ℕ) → (x ≡ y → b ≡ c) → IsVisible x → IsVisible y → (x ++ number_part b m) ++ 32 ∷ r ≡ (y ++ number_part c n) ++ 32 ∷ s → (x ++ number_part b m ≡ y ++ number_part c n) × (r ≡ s)
cut-phrases b c x y m n r s has h k same =
    let words = cut-words x y (after_word b m r) (after_word c n s) h k (sym (phrase-parts b x m r) ∙ same ∙ phrase-parts c y n s) in
    let numbers = cut-numbers b c m n r s (has words.0) words.1 in
    (ap₂ (λ (u v : List ℕ). u ++ v) words.0 numbers.0, numbers.1)

-- ---- slots and kinds

-- what stands after the slot and a space
unfoldable pub behind_slot : Entry → List ℕ
behind_slot (entry.Began slot request) = codes "began " ++ (request_text request ++ codes "\n")
behind_slot (entry.Fed slot at live) = codes "fed " ++ (at_text at ++ (live_text live ++ codes "\n"))
behind_slot (entry.Called c) = codes "called " ++ (asked_text c ++ (codes " " ++ (heard_text c ++ codes "\n")))
behind_slot (entry.Stopped slot) = codes "stopped\n"

slot-first : (new : Entry) → entry_line new ≡ decimal (slot_of_entry new) ++ 32 ∷ behind_slot new
unfolding began_line fed_line stopped_line called_line behind_slot
slot-first (entry.Began slot request) = refl
slot-first (entry.Fed slot at live) = refl
slot-first (entry.Called c) = refl
slot-first (entry.Stopped slot) = refl

pub cut-slots : (one other : Entry) → entry_line one ≡ entry_line other → (decimal (slot_of_entry one) ≡ decimal (slot_of_entry other)) × (behind_slot one ≡ behind_slot other)
cut-slots one other same =
    cut-words (decimal (slot_of_entry one)) (decimal (slot_of_entry other)) (behind_slot one) (behind_slot other) (visible-decimal (slot_of_entry one)) (visible-decimal (slot_of_entry other))
    (sym (slot-first one) ∙ same ∙ slot-first other)

pub slot_told : (one other : Entry) → slot_of_entry one < slot_count → slot_of_entry other < slot_count → entry_line one ≡ entry_line other → slot_of_entry one ≡ slot_of_entry other
slot_told one other h k same = decimal_injective (slot_of_entry one) (slot_of_entry other) (omega arith) (omega arith) (cut-slots one other same).0

kind-of : (one other : Entry) → behind_slot one ≡ behind_slot other → kind_word one ≡ kind_word other
unfolding behind_slot
kind-of (entry.Began slot request) (entry.Began other further) e = refl
kind-of (entry.Began slot request) (entry.Fed other at live) e = absurd (omega (arith, ap first_of e))
kind-of (entry.Began slot request) (entry.Called d) e = absurd (omega (arith, ap first_of e))
kind-of (entry.Began slot request) (entry.Stopped other) e = absurd (omega (arith, ap first_of e))
kind-of (entry.Fed slot at live) (entry.Began other request) e = absurd (omega (arith, ap first_of e))
kind-of (entry.Fed slot at live) (entry.Fed other later further) e = refl
kind-of (entry.Fed slot at live) (entry.Called d) e = absurd (omega (arith, ap first_of e))
kind-of (entry.Fed slot at live) (entry.Stopped other) e = absurd (omega (arith, ap first_of e))
kind-of (entry.Called c) (entry.Began other request) e = absurd (omega (arith, ap first_of e))
kind-of (entry.Called c) (entry.Fed other at live) e = absurd (omega (arith, ap first_of e))
kind-of (entry.Called c) (entry.Called d) e = refl
kind-of (entry.Called c) (entry.Stopped other) e = absurd (omega (arith, ap first_of e))
kind-of (entry.Stopped slot) (entry.Began other request) e = absurd (omega (arith, ap first_of e))
kind-of (entry.Stopped slot) (entry.Fed other at live) e = absurd (omega (arith, ap first_of e))
kind-of (entry.Stopped slot) (entry.Called d) e = absurd (omega (arith, ap first_of e))
kind-of (entry.Stopped slot) (entry.Stopped other) e = refl

pub kind_told : (one other : Entry) → entry_line one ≡ entry_line other → kind_word one ≡ kind_word other
kind_told one other same = kind-of one other (cut-slots one other same).1

-- ---- calls

call_word : CallName → List ℕ
call_word (name.Get key) = codes "get"
call_word (name.List kind) = codes "list"
call_word (name.Create key) = codes "create"
call_word (name.Update key revision) = codes "update"
call_word (name.Delete key revision) = codes "delete"

object_word : CallName → List ℕ
object_word (name.Get key) = key_bytes key
object_word (name.List kind) = kind_text kind
object_word (name.Create key) = key_bytes key
object_word (name.Update key revision) = key_bytes key
object_word (name.Delete key revision) = key_bytes key

revision_of : CallName → ℕ
revision_of (name.Get key) = 0
revision_of (name.List kind) = 0
revision_of (name.Create key) = 0
revision_of (name.Update key revision) = revision
revision_of (name.Delete key revision) = revision

names_revision : List ℕ → Bool
names_revision word = bytes_eq word (codes "update") || bytes_eq word (codes "delete")

rest_of_call : CallName → List ℕ
rest_of_call c = object_word c ++ number_part (names_revision (call_word c)) (revision_of c)

call-parts : (c : CallName) → call_text c ≡ call_word c ++ 32 ∷ rest_of_call c
unfolding call_word object_word revision_of names_revision rest_of_call
call-parts (name.Get key) = ap (λ (t : List ℕ). codes "get " ++ t) (sym (append-nil (key_bytes key)))
call-parts (name.List kind) = ap (λ (t : List ℕ). codes "list " ++ t) (sym (append-nil (kind_text kind)))
call-parts (name.Create key) = ap (λ (t : List ℕ). codes "create " ++ t) (sym (append-nil (key_bytes key)))
call-parts (name.Update key revision) = refl
call-parts (name.Delete key revision) = refl

call_word-visible : (c : CallName) → IsVisible (call_word c)
unfolding call_word
call_word-visible (name.Get key) = visible-text (codes "get") refl
call_word-visible (name.List kind) = visible-text (codes "list") refl
call_word-visible (name.Create key) = visible-text (codes "create") refl
call_word-visible (name.Update key revision) = visible-text (codes "update") refl
call_word-visible (name.Delete key revision) = visible-text (codes "delete") refl

kind-visible : (k : Kind) → IsVisible (kind_text k)
kind-visible kind.Block = visible-text (codes "block") refl
kind-visible kind.Affinity = visible-text (codes "affinity") refl
kind-visible kind.Handle = visible-text (codes "handle") refl

object-visible : (c : CallName) → IsAboutName c → IsVisible (object_word c)
unfolding object_word
object-visible (name.Get key) h = key-visible key h
object-visible (name.List kind) h = kind-visible kind
object-visible (name.Create key) h = key-visible key h
object-visible (name.Update key revision) h = key-visible key h
object-visible (name.Delete key revision) h = key-visible key h

call-goes_on : (c : CallName) (r : List ℕ) → call_text c ++ 32 ∷ r ≡ call_word c ++ 32 ∷ (rest_of_call c ++ 32 ∷ r)
call-goes_on c r = ap (λ (t : List ℕ). t ++ 32 ∷ r) (call-parts c) ∙ append_assoc (call_word c) (32 ∷ rest_of_call c) (32 ∷ r)

cut-calls : (c d : CallName) (r s : List ℕ) → IsAboutName c → IsAboutName d → call_text c ++ 32 ∷ r ≡ call_text d ++ 32 ∷ s → (call_text c ≡ call_text d) × (r ≡ s)
unfolding rest_of_call
cut-calls c d r s h k same =
    let words = cut-words (call_word c) (call_word d) (rest_of_call c ++ 32 ∷ r) (rest_of_call d ++ 32 ∷ s) (call_word-visible c) (call_word-visible d) (sym (call-goes_on c r) ∙ same ∙ call-goes_on d s) in
    let rest = cut-phrases (names_revision (call_word c)) (names_revision (call_word d)) (object_word c) (object_word d) (revision_of c) (revision_of d) r s
    (λ e. ap names_revision words.0) (object-visible c h) (object-visible d k) words.1 in
    (call-parts c ∙ ap₂ (λ (u v : List ℕ). u ++ 32 ∷ v) words.0 rest.0 ∙ sym (call-parts d), rest.1)

-- ---- fates

fate-visible : (fate : Fate) → IsVisible (fate_text fate)
fate-visible Well = visible-text (codes "well") refl
fate-visible Before = visible-text (codes "before") refl
fate-visible After = visible-text (codes "after") refl

fate-of : (one other : Fate) → fate_text one ≡ fate_text other → one ≡ other
fate-of Well Well e = refl
fate-of Well Before e = absurd (omega (arith, ap first_of e))
fate-of Well After e = absurd (omega (arith, ap first_of e))
fate-of Before Well e = absurd (omega (arith, ap first_of e))
fate-of Before Before e = refl
fate-of Before After e = absurd (omega (arith, ap first_of e))
fate-of After Well e = absurd (omega (arith, ap first_of e))
fate-of After Before e = absurd (omega (arith, ap first_of e))
fate-of After After e = refl

-- ---- replies

unfoldable pub told_word : Told → List ℕ
told_word told.Nothing = codes "none"
told_word (told.Found revision) = codes "found"
told_word told.Missing = codes "missing"
told_word (told.Listed count) = codes "listed"
told_word (told.Done revision) = codes "done"
told_word (told.Exists revision) = codes "exists"
told_word (told.Conflict revision) = codes "conflict"
told_word told.Full = codes "full"
told_word told.Spent = codes "spent"

unfoldable pub told_number : Told → ℕ
told_number told.Nothing = 0
told_number (told.Found revision) = revision
told_number told.Missing = 0
told_number (told.Listed count) = count
told_number (told.Done revision) = revision
told_number (told.Exists revision) = revision
told_number (told.Conflict revision) = revision
told_number told.Full = 0
told_number told.Spent = 0

unfoldable pub has_number : List ℕ → Bool
has_number word = bytes_eq word (codes "found") || bytes_eq word (codes "listed") || bytes_eq word (codes "done") || bytes_eq word (codes "exists") || bytes_eq word (codes "conflict")

pub told-parts : (t : Told) → told_text t ≡ told_word t ++ number_part (has_number (told_word t)) (told_number t)
unfolding told_word told_number has_number
told-parts told.Nothing = refl
told-parts other = refl

pub told_word-visible : (t : Told) → IsVisible (told_word t)
unfolding told_word
told_word-visible told.Nothing = visible-text (codes "none") refl
told_word-visible (told.Found revision) = visible-text (codes "found") refl
told_word-visible told.Missing = visible-text (codes "missing") refl
told_word-visible (told.Listed count) = visible-text (codes "listed") refl
told_word-visible (told.Done revision) = visible-text (codes "done") refl
told_word-visible (told.Exists revision) = visible-text (codes "exists") refl
told_word-visible (told.Conflict revision) = visible-text (codes "conflict") refl
told_word-visible told.Full = visible-text (codes "full") refl
told_word-visible told.Spent = visible-text (codes "spent") refl

cut-told : (t u : Told) (r s : List ℕ) → told_text t ++ 32 ∷ r ≡ told_text u ++ 32 ∷ s → (told_text t ≡ told_text u) × (r ≡ s)
cut-told t u r s same =
    let both = cut-phrases (has_number (told_word t)) (has_number (told_word u)) (told_word t) (told_word u) (told_number t) (told_number u) r s
    (λ e. ap has_number e) (told_word-visible t) (told_word-visible u) (sym (ap (λ (x : List ℕ). x ++ 32 ∷ r) (told-parts t)) ∙ same ∙ ap (λ (x : List ℕ). x ++ 32 ∷ s) (told-parts u)) in
    (told-parts t ∙ both.0 ∙ sym (told-parts u), both.1)

-- ---- the last byte

abbrev last_from : ℕ → List ℕ → ℕ
last_from x [] = x
last_from x (y ∷ ys) = last_from y ys

abbrev last_byte : List ℕ → ℕ
last_byte [] = 0
last_byte (x ∷ xs) = last_from x xs

last_from-push : (x : ℕ) (xs : List ℕ) (z : ℕ) → last_from x (xs ++ z ∷ []) ≡ z
last_from-push x [] z = refl
last_from-push x (y ∷ ys) z = last_from-push y ys z

last_byte-push : (xs : List ℕ) (z : ℕ) → last_byte (xs ++ z ∷ []) ≡ z
last_byte-push [] z = refl
last_byte-push (x ∷ xs) z = last_from-push x xs z

-- the text ends by the byte
record EndsBy (z : ℕ) (text : List ℕ) : Type 0 where
  before : List ℕ
  whole : text ≡ before ++ z ∷ []

ends-behind : (z : ℕ) (xs ys : List ℕ) → EndsBy z ys → EndsBy z (xs ++ ys)
ends-behind z xs ys h = record { before = xs ++ h.before; whole = ap (λ (t : List ℕ). xs ++ t) h.whole ∙ sym (append_assoc xs h.before (z ∷ [])) }

ends-last : (z : ℕ) (text : List ℕ) → EndsBy z text → last_byte text ≡ z
ends-last z text h = ap last_byte h.whole ∙ last_byte-push h.before z

members-end : (later : Bool) (ms : Members) → EndsBy 125 (members_text later ms)
members-end later no_members = record { before = []; whole = refl }
members-end later (member k d ms) =
    ends-behind 125 (comma_if later) _ (ends-behind 125 (quoted k) _ (ends-behind 125 (58 ∷ []) _ (ends-behind 125 (compact_text d) _ (members-end true ms))))

object-ends : (ms : Members) → EndsBy 125 (compact_text (object ms))
object-ends ms = ends-behind 125 (123 ∷ []) _ (members-end false ms)

quoted-ends : (s : List ℕ) → EndsBy 34 (quoted s)
quoted-ends s = ends-behind 34 (34 ∷ []) _ (ends-behind 34 (escape s) _ (record { before = []; whole = refl }))

-- an object or a text
abbrev is_closed : Data → Bool
is_closed null = false
is_closed (boolean b) = false
is_closed (number n) = false
is_closed (string s) = true
is_closed (array ds) = false
is_closed (object ms) = true

-- it does not end as `-` does
record EndsOtherwise (text : List ℕ) : Type 0 where
  by : ℕ
  other : by ≢ 45
  ends : EndsBy by text

closed-ends : (d : Data) → is_closed d ≡ true → EndsOtherwise (compact_text d)
closed-ends null e = absurd (cc e)
closed-ends (boolean b) e = absurd (cc e)
closed-ends (number n) e = absurd (cc e)
closed-ends (string s) e = record { by = 34; other = λ same. omega arith; ends = quoted-ends s }
closed-ends (array ds) e = absurd (cc e)
closed-ends (object ms) e = record { by = 125; other = λ same. omega arith; ends = object-ends ms }

answer-closed : (a : Answer) → is_closed (answer_data a) ≡ true
answer-closed (answer.Added givens) = refl
answer-closed other = refl

answer-ends : (a : Answer) → EndsOtherwise (answer_text a)
unfolding answer_text
answer-ends a = closed-ends (answer_data a) (answer-closed a)

otherwise : (x y : List ℕ) (a : Answer) → x ++ (codes " " ++ codes "-") ≡ y ++ (codes " " ++ answer_text a) → ⊥
otherwise x y a same =
    let text = answer-ends a in
    let right = ends-last text.by (y ++ (codes " " ++ answer_text a)) (ends-behind text.by y _ (ends-behind text.by (codes " ") (answer_text a) text.ends)) in
    let left = ends-last 45 (x ++ (codes " " ++ codes "-")) (ends-behind 45 x _ (record { before = codes " "; whole = refl })) in
    text.other (sym right ∙ sym (ap last_byte same) ∙ left)

same-ended : (x y : List ℕ) (v w : Option Answer) → x ++ (codes " " ++ ending_text v) ≡ y ++ (codes " " ++ ending_text w) → is_some v ≡ is_some w
same-ended x y None None same = refl
same-ended x y None (Some a) same = absurd (otherwise x y a same)
same-ended x y (Some a) None same = absurd (otherwise y x a (sym same))
same-ended x y (Some a) (Some b) same = refl

-- ---- what was written

body-first : (r : Record) (rest : List ℕ) → first_of (body_of r ++ rest) ≡ 123
unfolding config_body config_data pools_body pools_data reservations_body reservations_data block_body parts_data affinity_body affinity_data handle_body handle_data
body-first (record_of.Config config) rest = refl
body-first (record_of.Pools pools) rest = refl
body-first (record_of.Reservations reservations) rest = refl
body-first (record_of.Block block) rest = refl
body-first (record_of.Affinity affinity) rest = refl
body-first (record_of.Handle handle) rest = refl

same-written : (v w : Option Record) (r s : List ℕ) → written_text v ++ r ≡ written_text w ++ s → is_some v ≡ is_some w
same-written None None r s same = refl
same-written None (Some b) r s same = absurd (omega (arith, ap first_of same ∙ body-first b s))
same-written (Some a) None r s same = absurd (omega (arith, sym (ap first_of same) ∙ body-first a r))
same-written (Some a) (Some b) r s same = refl

body-behind : (r : Record) (t : List ℕ) → behind_object (body_of r ++ t) ≡ t
unfolding config_body config_data pools_body pools_data reservations_body reservations_data block_body parts_data affinity_body affinity_data handle_body handle_data
body-behind (record_of.Config config) t = object-behind (config_data config) t refl
body-behind (record_of.Pools pools) t = object-behind (pools_data pools) t refl
body-behind (record_of.Reservations reservations) t = object-behind (reservations_data reservations) t refl
body-behind (record_of.Block block) t = object-behind (block_data block) t refl
body-behind (record_of.Affinity affinity) t = object-behind (affinity_data affinity) t refl
body-behind (record_of.Handle handle) t = object-behind (handle_data handle) t refl

-- what was written shows its end
cut-written : (v w : Option Record) (r s : List ℕ) → written_text v ++ (codes " " ++ r) ≡ written_text w ++ (codes " " ++ s) → (written_text v ≡ written_text w) × (r ≡ s)
cut-written None None r s same = (refl, append_cancel_left (codes "- ") r s same)
cut-written None (Some b) r s same = absurd (omega (arith, ap first_of same ∙ body-first b (codes " " ++ s)))
cut-written (Some a) None r s same = absurd (omega (arith, sym (ap first_of same) ∙ body-first a (codes " " ++ r)))
cut-written (Some a) (Some b) r s same =
    let rest : codes " " ++ r ≡ codes " " ++ s = sym (body-behind a (codes " " ++ r)) ∙ ap behind_object same ∙ body-behind b (codes " " ++ s) in
    let left : body_of a ++ (codes " " ++ r) ≡ body_of b ++ (codes " " ++ r) = same ∙ ap (λ (t : List ℕ). body_of b ++ t) (sym rest) in
    (append_cancel_right (body_of a) (body_of b) (codes " " ++ r) left, append_cancel_left (codes " ") r s rest)

-- ---- the whole call

-- what was written, and the answer
left_of_call : Called → List ℕ
left_of_call c = written_text c.written ++ (codes " " ++ ending_text c.answer)

called-goes_on : (c : Called) → behind_slot (entry.Called c) ≡ codes "called " ++ (call_text c.call ++ 32 ∷ (fate_text c.fate ++ 32 ∷ (told_text c.reply ++ 32 ∷ (left_of_call c ++ codes "\n"))))
unfolding behind_slot asked_text heard_text left_of_call
called-goes_on c =
    ap (λ (t : List ℕ). codes "called " ++ t)
    (append_assoc (call_text c.call) (codes " " ++ fate_text c.fate) (codes " " ++ (heard_text c ++ codes "\n"))
    ∙ ap (λ (t : List ℕ). call_text c.call ++ 32 ∷ (fate_text c.fate ++ 32 ∷ t)) (append_assoc (told_text c.reply) (codes " " ++ left_of_call c) (codes "\n")))

pub calls_agree : (c d : Called) → IsAboutName c.call → IsAboutName d.call → called_line c ≡ called_line d → CallsAgree c d
unfolding left_of_call
calls_agree c d h k same =
    let behind = append_cancel_left (codes "called ") _ _ (sym (called-goes_on c) ∙ (cut-slots (entry.Called c) (entry.Called d) same).1 ∙ called-goes_on d) in
    let calls = cut-calls c.call d.call _ _ h k behind in
    let fates = cut-words (fate_text c.fate) (fate_text d.fate) _ _ (fate-visible c.fate) (fate-visible d.fate) calls.1 in
    let replies = cut-told c.reply d.reply _ _ fates.1 in
    let rest = append_cancel_right (left_of_call c) (left_of_call d) (codes "\n") replies.1 in
    let texts = cut-written c.written d.written (ending_text c.answer) (ending_text d.answer) rest in
    record {
      call = calls.0;
      fate = fate-of c.fate d.fate fates.0;
      reply = replies.0;
      written = texts.0;
      answer = texts.1;
      wrote = same-written c.written d.written _ _ rest;
      ended = same-ended (written_text c.written) (written_text d.written) c.answer d.answer rest;
    }
