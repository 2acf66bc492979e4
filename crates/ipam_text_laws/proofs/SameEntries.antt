-- Lawful histories of one journal are the same entries.
use Rattle.std.proofs.Common.{◌≡◌, ℕ, ◌<◌, true, false, List, [], ◌∷◌, ◌++◌, is_some, Option, Some, None, refl, sym, ap, ap₂, ◌∙◌}
use Rattle.std.specs.Prelude.{bytes_eq}
use Rattle.std.specs.List.{AllByRecursion}
use Rattle.std.proofs.lemmas.Slice.Eq.{bytes_eq-Decides}
use Rattle.ipam_records.specs.declared.record.Record.{Record}
use Rattle.ipam_records.specs.Key.{key_of}
use Rattle.ipam_records.specs.Sound.{IsDatastore}
use Rattle.ipam_model.specs.declared.answer.Answer.{Answer}
use Rattle.ipam_model.specs.declared.entry.CallName.{CallName}
use Rattle.ipam_model.specs.declared.entry.Called.{Called}
use Rattle.ipam_model.specs.declared.entry.Entry.{Entry}
use Rattle.ipam_model.specs.declared.entry.Entry.TheVariants as entry
use Rattle.ipam_model.specs.Consistent.{IsWithinLimits}
use Rattle.ipam_model.specs.Course.{slot_count}
use Rattle.ipam_model.specs.History.{Base, Lawful, MayCome, cluster_at, slot_of_entry}
use Rattle.ipam_answer_text.specs.Entries.{ending_text, entry_line, written_text}
use Rattle.ipam_text_laws.specs.Journals.{CallsAgree, journal_of, kind_word, lines_of}
use Rattle.ipam_text_laws.specs.Names.{HasNames}
use Rattle.ipam_text_laws.proofs.EntriesRead.{began_told, fed_told, name_told, reply_told}
use Rattle.ipam_text_laws.proofs.EntriesTold.{calls_agree, kind_told, slot_told}
use Rattle.ipam_text_laws.proofs.Journals.{same_histories}
use Rattle.ipam_text_laws.proofs.NamedHistories.{history_named}
use Rattle.ipam_text_laws.specs.Entries.{HasTime, IsSoundCall, IsSoundEnding, IsSoundEntry, IsSoundWritten, key_written}
use Rattle.ipam_text_laws.proofs.AnswerTexts.{answer_told}
use Rattle.ipam_text_laws.proofs.RecordBodies.{record_told}
use Rattle.ipam_text_laws.proofs.SoundEntries.{history_sound}

-- ---- calls

-- records that one call wrote
written-same : (call other : CallName) (v w : Option Record) → call ≡ other → IsSoundWritten call v → IsSoundWritten other w → is_some v ≡ is_some w → written_text v ≡ written_text w → v ≡ w
written-same call other None None one h k some e = refl
written-same call other None (Some s) one h k some e = absurd (cc some)
written-same call other (Some r) None one h k some e = absurd (cc some)
written-same call other (Some r) (Some s) one h k some e =
    let keys : Some (key_of r) ≡ Some (key_of s) = sym h.1 ∙ ap key_written one ∙ k.1 in
    let same : key_of r ≡ key_of s = cc keys in
    ap Some (record_told r s h.0 k.0 same e)

ending-same : (v w : Option Answer) → IsSoundEnding v → IsSoundEnding w → is_some v ≡ is_some w → ending_text v ≡ ending_text w → v ≡ w
ending-same None None h k some e = refl
ending-same None (Some b) h k some e = absurd (cc some)
ending-same (Some a) None h k some e = absurd (cc some)
ending-same (Some a) (Some b) h k some e = ap Some (answer_told a b h k e)

calls-same : (c d : Called) → c.slot ≡ d.slot → IsSoundCall c → IsSoundCall d → CallsAgree c d → c ≡ d
calls-same c d slot h k agree =
    let call = name_told c.call d.call h.call k.call agree.call in
    let reply = reply_told c.reply d.reply h.reply k.reply agree.reply in
    let written = written-same c.call d.call c.written d.written call h.written k.written agree.wrote agree.written in
    let answer = ending-same c.answer d.answer h.answer k.answer agree.ended agree.answer in
    λ i. record { slot = slot i; call = call i; fate = agree.fate i; reply = reply i; written = written i; answer = answer i }

-- ---- entries

-- lines of two kinds differ
other-kind : (one other : Entry) → bytes_eq (kind_word one) (kind_word other) ≡ false → entry_line one ≡ entry_line other → ⊥
other-kind one other differ same =
    let equal : bytes_eq (kind_word one) (kind_word other) ≡ true = (bytes_eq-Decides (kind_word one) (kind_word other)).1 (kind_told one other same) in
    let both : true ≡ false = sym equal ∙ differ in
    cc both

entry-same : (one other : Entry) → slot_of_entry one ≡ slot_of_entry other → HasNames one → HasNames other → IsSoundEntry one → IsSoundEntry other → entry_line one ≡ entry_line other → one ≡ other
entry-same (entry.Began slot request) (entry.Began other further) slots named also h k same =
    ap₂ entry.Began slots (began_told slot other request further h k same)
entry-same (entry.Began slot request) (entry.Fed other at live) slots named also h k same = absurd (other-kind (entry.Began slot request) (entry.Fed other at live) refl same)
entry-same (entry.Began slot request) (entry.Called d) slots named also h k same = absurd (other-kind (entry.Began slot request) (entry.Called d) refl same)
entry-same (entry.Began slot request) (entry.Stopped other) slots named also h k same = absurd (other-kind (entry.Began slot request) (entry.Stopped other) refl same)
entry-same (entry.Fed slot at live) (entry.Began other further) slots named also h k same = absurd (other-kind (entry.Fed slot at live) (entry.Began other further) refl same)
entry-same (entry.Fed slot at live) (entry.Fed other later further) slots named also h k same =
    let both = fed_told slot other at later live further h.0 k.0 h.1 k.1 same in
    λ i. entry.Fed (slots i) (both.0 i) (both.1 i)
entry-same (entry.Fed slot at live) (entry.Called d) slots named also h k same = absurd (other-kind (entry.Fed slot at live) (entry.Called d) refl same)
entry-same (entry.Fed slot at live) (entry.Stopped other) slots named also h k same = absurd (other-kind (entry.Fed slot at live) (entry.Stopped other) refl same)
entry-same (entry.Called c) (entry.Began other further) slots named also h k same = absurd (other-kind (entry.Called c) (entry.Began other further) refl same)
entry-same (entry.Called c) (entry.Fed other at live) slots named also h k same = absurd (other-kind (entry.Called c) (entry.Fed other at live) refl same)
entry-same (entry.Called c) (entry.Called d) slots named also h k same =
    ap entry.Called (calls-same c d slots h k (calls_agree c d named also same))
entry-same (entry.Called c) (entry.Stopped other) slots named also h k same = absurd (other-kind (entry.Called c) (entry.Stopped other) refl same)
entry-same (entry.Stopped slot) (entry.Began other further) slots named also h k same = absurd (other-kind (entry.Stopped slot) (entry.Began other further) refl same)
entry-same (entry.Stopped slot) (entry.Fed other at live) slots named also h k same = absurd (other-kind (entry.Stopped slot) (entry.Fed other at live) refl same)
entry-same (entry.Stopped slot) (entry.Called d) slots named also h k same = absurd (other-kind (entry.Stopped slot) (entry.Called d) refl same)
entry-same (entry.Stopped slot) (entry.Stopped other) slots named also h k same = ap entry.Stopped slots

-- ---- the last of a list

no-push : (ys : List (List ℕ)) (b : List ℕ) → [] ≡ ys ++ b ∷ [] → ⊥
no-push [] b e = cc
no-push (y ∷ ys) b e = cc

push-same : (xs ys : List (List ℕ)) (a b : List ℕ) → xs ++ a ∷ [] ≡ ys ++ b ∷ [] → (xs ≡ ys) × (a ≡ b)
push-same [] [] a b e = (refl, cc)
push-same [] (y ∷ ys) a b e = let rest : [] ≡ ys ++ b ∷ [] = cc in absurd (no-push ys b rest)
push-same (x ∷ xs) [] a b e = let rest : [] ≡ xs ++ a ∷ [] = cc in absurd (no-push xs a rest)
push-same (x ∷ xs) (y ∷ ys) a b e =
    let first : x ≡ y = cc in
    let rest : xs ++ a ∷ [] ≡ ys ++ b ∷ [] = cc in
    let both = push-same xs ys a b rest in
    ((λ i. first i ∷ both.0 i), both.1)

-- ---- histories

slot-there : (base : Base) (history : List Entry) (new : Entry) → MayCome (cluster_at base history) new → slot_of_entry new < slot_count
slot-there base history (entry.Began slot request) h = h.turn.slot_exists
slot-there base history (entry.Fed slot at live) h = h.turn.slot_exists
slot-there base history (entry.Called c) h = h.turn.slot_exists
slot-there base history (entry.Stopped slot) h = h.slot_exists

lines-same : (base other : Base) (history further : List Entry) → Lawful base history → Lawful other further → AllByRecursion HasNames history → AllByRecursion HasNames further → AllByRecursion IsSoundEntry history → AllByRecursion IsSoundEntry further → lines_of history ≡ lines_of further → history ≡ further
unfolding Lawful
lines-same base other [] [] h k named also sound again same = refl
lines-same base other [] (new ∷ further) h k named also sound again same = absurd (no-push (lines_of further) (entry_line new) same)
lines-same base other (new ∷ history) [] h k named also sound again same = absurd (no-push (lines_of history) (entry_line new) (sym same))
lines-same base other (new ∷ history) (next ∷ further) h k named also sound again same =
    let both = push-same (lines_of history) (lines_of further) (entry_line new) (entry_line next) same in
    let slots = slot_told new next (slot-there base history new h.1) (slot-there other further next k.1) both.1 in
    let first = entry-same new next slots named.0 also.0 sound.0 again.0 both.1 in
    let rest = lines-same base other history further h.0 k.0 named.1 also.1 sound.1 again.1 both.0 in
    λ i. first i ∷ rest i

pub histories_same : (base other : Base) (history further : List Entry) → IsDatastore base.store → IsWithinLimits base.store → IsDatastore other.store → IsWithinLimits other.store → Lawful base history → Lawful other further → AllByRecursion HasTime history → AllByRecursion HasTime further → journal_of history ≡ journal_of further → history ≡ further
histories_same base other history further sound limits also few h k times later same =
    lines-same base other history further h k (history_named base history sound h) (history_named other further also k)
    (history_sound base history sound limits h times) (history_sound other further also few k later)
    (same_histories base other history further sound also h k same)
