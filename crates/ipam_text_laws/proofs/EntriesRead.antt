-- An entry that begins or feeds is told whole by its line, and so are the name and the reply of a call.
use Rattle.std.proofs.Common.{◌≡◌, ◌≢◌, ℕ, ◌<◌, ◌^◌, List, [], ◌∷◌, ◌++◌, length, Bool, true, false, codes, decimal, bytes_eq, if◌then◌else◌, Some, refl, sym, ap, ap₂, ◌∙◌, arith, append_assoc, eqb-true}
use Rattle.std.specs.Prelude.{◌==◌}
use Rattle.std.specs.List.{AllByRecursion}
use Rattle.std.specs.Str.Parse.{AllDigits}
use Rattle.std.proofs.lemmas.Fmt.{decimal_injective, decimal_is_IsNumeral}
use Rattle.std.proofs.lemmas.List.{append_cancel_left, append_cancel_right}
use Rattle.std.proofs.lemmas.Str.Parse.{digit_from_value}
use Rattle.ipam_records.specs.declared.key.Key.{Key}
use Rattle.ipam_records.specs.declared.key.Kind.{Kind}
use Rattle.ipam_records.specs.declared.key.Kind.TheVariants as kind
use Rattle.ipam_records.specs.KeyText.{IsKey, key_bytes}
use Rattle.ipam_records.specs.Sound.{IsHandleId}
use Rattle.ipam_records.proofs.KeyTextLemmas.{key_bytes_injective}
use Rattle.ipam_model.specs.declared.entry.CallName.{CallName}
use Rattle.ipam_model.specs.declared.entry.CallName.TheVariants as name
use Rattle.ipam_model.specs.declared.entry.Entry.TheVariants as entry
use Rattle.ipam_model.specs.declared.entry.Told.{Told}
use Rattle.ipam_model.specs.declared.entry.Told.TheVariants as told
use Rattle.ipam_model.specs.declared.request.Request.{Request}
use Rattle.ipam_model.specs.SoundRequest.{IsSoundRequest}
use Rattle.ipam_request_text.specs.Live.{live_reading}
use Rattle.ipam_request_text.specs.Reading.{request_reading}
use Rattle.ipam_request_text.specs.Requests.{request_text, live_text}
use Rattle.ipam_request_text.proofs.Lives.{live_reads_back}
use Rattle.ipam_request_text.proofs.ReadBack.{request_reads_back}
use Rattle.ipam_answer_text.specs.Entries.{kind_text, call_text, told_text, at_text, at_text_unless, began_line, fed_line}
use Rattle.ipam_text_laws.specs.Limits.{IsSoundName, IsSoundTold}
use Rattle.ipam_text_laws.proofs.NamedHistories.{HasName-key}
use Rattle.ipam_text_laws.proofs.Plain.{visible-decimal}
use Rattle.ipam_text_laws.proofs.PlainKeys.{key-visible}
use Rattle.ipam_text_laws.proofs.WholeLines.{first_of}
use Rattle.ipam_text_laws.proofs.EntriesTold.{after_word, behind_slot, cut-numbers, cut-slots, cut-words, has_number, number_part, phrase-parts, told-parts, told_number, told_word, told_word-visible}

-- ---- requests

pub began_told : (slot other : ℕ) (request further : Request) → IsSoundRequest request → IsSoundRequest further → began_line slot request ≡ began_line other further → request ≡ further
unfolding behind_slot
began_told slot other request further h k same =
    let behind = append_cancel_left (codes "began ") _ _ (cut-slots (entry.Began slot request) (entry.Began other further) same).1 in
    let texts = append_cancel_right (request_text request) (request_text further) (codes "\n") behind in
    let both : Some request ≡ Some further = sym (request_reads_back request h) ∙ ap request_reading texts ∙ request_reads_back further k in
    cc

-- ---- second lists

digit-first : (ds rest : List ℕ) → 0 < length ds → AllDigits 10 ds → first_of (ds ++ rest) ≢ 91
digit-first [] rest some h = absurd (omega arith)
digit-first (c ∷ ds) rest some h = λ e. omega (arith, digit_from_value c h.0)

decimal-first : (n : ℕ) (rest : List ℕ) → n < 2 ^ 64 → first_of (decimal n ++ rest) ≢ 91
decimal-first n rest h = let numeral = (decimal_is_IsNumeral n h).0 in digit-first (decimal n) rest numeral.0 numeral.1

time-other : (r s : List ℕ) (n : ℕ) → n < 2 ^ 64 → first_of r ≡ 91 → r ≡ (decimal n ++ codes " ") ++ s → ⊥
time-other r s n h first same =
    decimal-first n (codes " " ++ s) h (sym (ap first_of (same ∙ append_assoc (decimal n) (codes " ") s)) ∙ first)

cut-times : (at later : ℕ) (r s : List ℕ) → at < 2 ^ 64 → later < 2 ^ 64 → first_of r ≡ 91 → first_of s ≡ 91 → at_text at ++ r ≡ at_text later ++ s → (at ≡ later) × (r ≡ s)
cut-times at later r s h k one two same = by (at == 0) refl (later == 0) refl same
  where
    by : (a : Bool) → (at == 0) ≡ a → (b : Bool) → (later == 0) ≡ b → at_text_unless a at ++ r ≡ at_text_unless b later ++ s → (at ≡ later) × (r ≡ s)
    by true e true f t = (eqb-true at 0 e ∙ sym (eqb-true later 0 f), t)
    by true e false f t = absurd (time-other r s later k one t)
    by false e true f t = absurd (time-other s r at h two (sym t))
    by false e false f t =
        let both = cut-words (decimal at) (decimal later) r s (visible-decimal at) (visible-decimal later) (sym (append_assoc (decimal at) (codes " ") r) ∙ t ∙ append_assoc (decimal later) (codes " ") s) in
        (decimal_injective at later h k both.0, both.1)

live-first : (live : List (List ℕ)) (rest : List ℕ) → first_of (live_text live ++ rest) ≡ 91
unfolding live_text
live-first live rest = refl

pub fed_told : (slot other at later : ℕ) (live further : List (List ℕ)) → at < 2 ^ 64 → later < 2 ^ 64 → AllByRecursion IsHandleId live → AllByRecursion IsHandleId further → fed_line slot at live ≡ fed_line other later further → (at ≡ later) × (live ≡ further)
unfolding behind_slot
fed_told slot other at later live further small few h k same =
    let behind = append_cancel_left (codes "fed ") _ _ (cut-slots (entry.Fed slot at live) (entry.Fed other later further) same).1 in
    let times = cut-times at later (live_text live ++ codes "\n") (live_text further ++ codes "\n") small few (live-first live (codes "\n")) (live-first further (codes "\n")) behind in
    let texts = append_cancel_right (live_text live) (live_text further) (codes "\n") times.1 in
    let both : Some live ≡ Some further = sym (live_reads_back live h) ∙ ap live_reading texts ∙ live_reads_back further k in
    (times.0, cc)

-- ---- names of calls

kind-told : (one other : Kind) → kind_text one ≡ kind_text other → one ≡ other
kind-told kind.Block kind.Block e = refl
kind-told kind.Block kind.Affinity e = absurd (omega (arith, ap first_of e))
kind-told kind.Block kind.Handle e = absurd (omega (arith, ap first_of e))
kind-told kind.Affinity kind.Block e = absurd (omega (arith, ap first_of e))
kind-told kind.Affinity kind.Affinity e = refl
kind-told kind.Affinity kind.Handle e = absurd (omega (arith, ap first_of e))
kind-told kind.Handle kind.Block e = absurd (omega (arith, ap first_of e))
kind-told kind.Handle kind.Affinity e = absurd (omega (arith, ap first_of e))
kind-told kind.Handle kind.Handle e = refl

-- a key and a revision
cut-revisions : (k l : Key) (m n : ℕ) → IsKey k → IsKey l → m < 2 ^ 64 → n < 2 ^ 64 → key_bytes k ++ (codes " " ++ decimal m) ≡ key_bytes l ++ (codes " " ++ decimal n) → (k ≡ l) × (m ≡ n)
cut-revisions k l m n h j small few same =
    let both = cut-words (key_bytes k) (key_bytes l) (decimal m) (decimal n) (key-visible k (HasName-key k h)) (key-visible l (HasName-key l j)) same in
    (key_bytes_injective k l h j both.0, decimal_injective m n small few both.1)

pub name_told : (c d : CallName) → IsSoundName c → IsSoundName d → call_text c ≡ call_text d → c ≡ d
name_told (name.Get k) (name.Get l) h j e = ap name.Get (key_bytes_injective k l h j (append_cancel_left (codes "get ") (key_bytes k) (key_bytes l) e))
name_told (name.Get k) (name.List other) h j e = absurd (omega (arith, ap first_of e))
name_told (name.Get k) (name.Create l) h j e = absurd (omega (arith, ap first_of e))
name_told (name.Get k) (name.Update l n) h j e = absurd (omega (arith, ap first_of e))
name_told (name.Get k) (name.Delete l n) h j e = absurd (omega (arith, ap first_of e))
name_told (name.List one) (name.Get l) h j e = absurd (omega (arith, ap first_of e))
name_told (name.List one) (name.List other) h j e = ap name.List (kind-told one other (append_cancel_left (codes "list ") (kind_text one) (kind_text other) e))
name_told (name.List one) (name.Create l) h j e = absurd (omega (arith, ap first_of e))
name_told (name.List one) (name.Update l n) h j e = absurd (omega (arith, ap first_of e))
name_told (name.List one) (name.Delete l n) h j e = absurd (omega (arith, ap first_of e))
name_told (name.Create k) (name.Get l) h j e = absurd (omega (arith, ap first_of e))
name_told (name.Create k) (name.List other) h j e = absurd (omega (arith, ap first_of e))
name_told (name.Create k) (name.Create l) h j e = ap name.Create (key_bytes_injective k l h j (append_cancel_left (codes "create ") (key_bytes k) (key_bytes l) e))
name_told (name.Create k) (name.Update l n) h j e = absurd (omega (arith, ap first_of e))
name_told (name.Create k) (name.Delete l n) h j e = absurd (omega (arith, ap first_of e))
name_told (name.Update k m) (name.Get l) h j e = absurd (omega (arith, ap first_of e))
name_told (name.Update k m) (name.List other) h j e = absurd (omega (arith, ap first_of e))
name_told (name.Update k m) (name.Create l) h j e = absurd (omega (arith, ap first_of e))
name_told (name.Update k m) (name.Update l n) h j e =
    let both = cut-revisions k l m n h.0 j.0 h.1 j.1 (append_cancel_left (codes "update ") (key_bytes k ++ (codes " " ++ decimal m)) (key_bytes l ++ (codes " " ++ decimal n)) e) in
    ap₂ name.Update both.0 both.1
name_told (name.Update k m) (name.Delete l n) h j e = absurd (omega (arith, ap first_of e))
name_told (name.Delete k m) (name.Get l) h j e = absurd (omega (arith, ap first_of e))
name_told (name.Delete k m) (name.List other) h j e = absurd (omega (arith, ap first_of e))
name_told (name.Delete k m) (name.Create l) h j e = absurd (omega (arith, ap first_of e))
name_told (name.Delete k m) (name.Update l n) h j e = absurd (omega (arith, ap first_of e))
name_told (name.Delete k m) (name.Delete l n) h j e =
    let both = cut-revisions k l m n h.0 j.0 h.1 j.1 (append_cancel_left (codes "delete ") (key_bytes k ++ (codes " " ++ decimal m)) (key_bytes l ++ (codes " " ++ decimal n)) e) in
    ap₂ name.Delete both.0 both.1

-- ---- replies

-- the reply of this word with this number
told_from : List ℕ → ℕ → Told
told_from word n =
    if bytes_eq word (codes "none") then told.Nothing
    else (if bytes_eq word (codes "found") then told.Found n
    else (if bytes_eq word (codes "missing") then told.Missing
    else (if bytes_eq word (codes "listed") then told.Listed n
    else (if bytes_eq word (codes "done") then told.Done n
    else (if bytes_eq word (codes "exists") then told.Exists n
    else (if bytes_eq word (codes "conflict") then told.Conflict n
    else (if bytes_eq word (codes "full") then told.Full else told.Spent)))))))

told-from : (t : Told) → told_from (told_word t) (told_number t) ≡ t
unfolding told_from told_word told_number
told-from told.Nothing = refl
told-from other = refl

no-number : (t : Told) → has_number (told_word t) ≡ false → told_number t ≡ 0
unfolding told_word told_number has_number
no-number told.Nothing e = refl
no-number (told.Found revision) e = absurd (cc e)
no-number told.Missing e = refl
no-number (told.Listed count) e = absurd (cc e)
no-number (told.Done revision) e = absurd (cc e)
no-number (told.Exists revision) e = absurd (cc e)
no-number (told.Conflict revision) e = absurd (cc e)
no-number told.Full e = refl
no-number told.Spent e = refl

abbrev rest_of : List ℕ → List ℕ
rest_of [] = []
rest_of (x ∷ xs) = xs

same-number : (t u : Told) (b c : Bool) → has_number (told_word t) ≡ b → has_number (told_word u) ≡ c → b ≡ c → told_number t < 2 ^ 64 → told_number u < 2 ^ 64 → number_part b (told_number t) ≡ number_part c (told_number u) → told_number t ≡ told_number u
same-number t u false false e f same small few parts = no-number t e ∙ sym (no-number u f)
same-number t u true true e f same small few parts = decimal_injective (told_number t) (told_number u) small few (ap rest_of parts)
same-number t u false true e f same small few parts = absurd (cc same)
same-number t u true false e f same small few parts = absurd (cc same)

told-small : (t : Told) → IsSoundTold t → told_number t < 2 ^ 64
unfolding told_number
told-small told.Nothing h = omega arith
told-small (told.Found revision) h = h
told-small told.Missing h = omega arith
told-small (told.Listed count) h = h
told-small (told.Done revision) h = h
told-small (told.Exists revision) h = h
told-small (told.Conflict revision) h = h
told-small told.Full h = omega arith
told-small told.Spent h = omega arith

pub reply_told : (t u : Told) → IsSoundTold t → IsSoundTold u → told_text t ≡ told_text u → t ≡ u
reply_told t u h k same =
    let x = told_word t in
    let y = told_word u in
    let b = has_number x in
    let c = has_number y in
    let texts : (x ++ number_part b (told_number t)) ++ 32 ∷ [] ≡ (y ++ number_part c (told_number u)) ++ 32 ∷ [] = ap (λ (s : List ℕ). s ++ 32 ∷ []) (sym (told-parts t) ∙ same ∙ told-parts u) in
    let words = cut-words x y (after_word b (told_number t) []) (after_word c (told_number u) []) (told_word-visible t) (told_word-visible u) (sym (phrase-parts b x (told_number t) []) ∙ texts ∙ phrase-parts c y (told_number u) []) in
    let has : b ≡ c = ap has_number words.0 in
    let numbers = cut-numbers b c (told_number t) (told_number u) [] [] has words.1 in
    let number = same-number t u b c refl refl has (told-small t h) (told-small u k) numbers.0 in
    sym (told-from t) ∙ ap₂ told_from words.0 number ∙ told-from u
