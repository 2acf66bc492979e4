-- Each entry's text is a whole line.
use Rattle.std.proofs.Common.{◌≡◌, ℕ, List, [], ◌∷◌, ◌++◌, map, Bool, true, false, codes, decimal, Option, Some, None, refl}
use Rattle.std.specs.Prelude.{◌==◌}
use Rattle.std.specs.List.{concat, list_all, AllByRecursion}
use Rattle.ipam_block_text.specs.Body.{block_body}
use Rattle.ipam_record_text.specs.Config.{config_body}
use Rattle.ipam_record_text.specs.Pools.{pools_body}
use Rattle.ipam_record_text.specs.Reservations.{reservations_body}
use Rattle.ipam_record_text.specs.Affinity.{affinity_body}
use Rattle.ipam_record_text.specs.Handle.{handle_body}
use Rattle.ipam_records.specs.Body.{body_of}
use Rattle.ipam_records.specs.declared.key.Key.{Key}
use Rattle.ipam_records.specs.declared.key.Kind.{Kind}
use Rattle.ipam_records.specs.declared.key.Kind.TheVariants as kind
use Rattle.ipam_records.specs.declared.record.Record.{Record}
use Rattle.ipam_records.specs.declared.record.Record.TheVariants as record_of
use Rattle.ipam_records.specs.KeyText.{key_bytes}
use Rattle.ipam_model.specs.declared.answer.Answer.{Answer}
use Rattle.ipam_model.specs.declared.request.Request.{Request}
use Rattle.ipam_model.specs.declared.entry.CallName.{CallName}
use Rattle.ipam_model.specs.declared.entry.CallName.TheVariants as name
use Rattle.ipam_model.specs.declared.entry.Called.{Called}
use Rattle.ipam_model.specs.declared.entry.Entry.{Entry}
use Rattle.ipam_model.specs.declared.entry.Entry.TheVariants as entry
use Rattle.ipam_model.specs.declared.entry.Fate.{Fate}
use Rattle.ipam_model.specs.declared.entry.Fate.TheVariants.{Well, Before, After}
use Rattle.ipam_model.specs.declared.entry.Told.{Told}
use Rattle.ipam_model.specs.declared.entry.Told.TheVariants as told
use Rattle.ipam_request_text.specs.Parts.{texts_data}
use Rattle.ipam_request_text.specs.Requests.{request_text, live_text}
use Rattle.ipam_answer_text.specs.Answers.{answer_text}
use Rattle.ipam_answer_text.specs.Entries.{kind_text, call_text, fate_text, told_text, written_text, ending_text, at_text, at_text_unless, began_line, fed_line, stopped_line, asked_text, heard_text, called_line, entry_line}
use Rattle.ipam_text_laws.specs.Whole.{IsWholeLine}
use Rattle.ipam_text_laws.specs.Names.{HasName, IsAboutName, HasNames}
use Rattle.ipam_text_laws.proofs.Plain.{is_no_feed, IsPlain, passes-append, plain-text, plain-visible, plain-decimal}
use Rattle.ipam_text_laws.proofs.PlainJson.{plain-compact_text}
use Rattle.ipam_text_laws.proofs.PlainKeys.{key-visible}
use Rattle.ipam_text_laws.proofs.WholeLines.{whole-plain, whole-behind, cut_lines, same-lines}

kind-plain : (k : Kind) → IsPlain (kind_text k)
kind-plain kind.Block = plain-text (codes "block") refl
kind-plain kind.Affinity = plain-text (codes "affinity") refl
kind-plain kind.Handle = plain-text (codes "handle") refl

key-plain : (k : Key) → HasName k → IsPlain (key_bytes k)
key-plain k h = plain-visible (key_bytes k) (key-visible k h)

-- a word, and what stands after it
behind-plain : (word : List ℕ) (rest : List ℕ) → list_all is_no_feed word ≡ true → IsPlain rest → IsPlain (word ++ rest)
behind-plain word rest h k = passes-append word rest (plain-text word h) k

spaced-plain : (text : List ℕ) (n : ℕ) → IsPlain text → IsPlain (text ++ (codes " " ++ decimal n))
spaced-plain text n h = passes-append text _ h (behind-plain (codes " ") (decimal n) refl (plain-decimal n))

pub call-plain : (c : CallName) → IsAboutName c → IsPlain (call_text c)
call-plain (name.Get key) h = behind-plain (codes "get ") (key_bytes key) refl (key-plain key h)
call-plain (name.List kind) h = behind-plain (codes "list ") (kind_text kind) refl (kind-plain kind)
call-plain (name.Create key) h = behind-plain (codes "create ") (key_bytes key) refl (key-plain key h)
call-plain (name.Update key revision) h = behind-plain (codes "update ") _ refl (spaced-plain (key_bytes key) revision (key-plain key h))
call-plain (name.Delete key revision) h = behind-plain (codes "delete ") _ refl (spaced-plain (key_bytes key) revision (key-plain key h))

fate-plain : (fate : Fate) → IsPlain (fate_text fate)
fate-plain Well = plain-text (codes "well") refl
fate-plain Before = plain-text (codes "before") refl
fate-plain After = plain-text (codes "after") refl

told-plain : (reply : Told) → IsPlain (told_text reply)
told-plain told.Nothing = plain-text (codes "none") refl
told-plain (told.Found revision) = behind-plain (codes "found ") (decimal revision) refl (plain-decimal revision)
told-plain told.Missing = plain-text (codes "missing") refl
told-plain (told.Listed count) = behind-plain (codes "listed ") (decimal count) refl (plain-decimal count)
told-plain (told.Done revision) = behind-plain (codes "done ") (decimal revision) refl (plain-decimal revision)
told-plain (told.Exists revision) = behind-plain (codes "exists ") (decimal revision) refl (plain-decimal revision)
told-plain (told.Conflict revision) = behind-plain (codes "conflict ") (decimal revision) refl (plain-decimal revision)
told-plain told.Full = plain-text (codes "full") refl
told-plain told.Spent = plain-text (codes "spent") refl

body-plain : (r : Record) → IsPlain (body_of r)
unfolding config_body pools_body reservations_body block_body affinity_body handle_body
body-plain (record_of.Config config) = plain-compact_text _
body-plain (record_of.Pools pools) = plain-compact_text _
body-plain (record_of.Reservations reservations) = plain-compact_text _
body-plain (record_of.Block block) = plain-compact_text _
body-plain (record_of.Affinity affinity) = plain-compact_text _
body-plain (record_of.Handle handle) = plain-compact_text _

written-plain : (written : Option Record) → IsPlain (written_text written)
written-plain None = plain-text (codes "-") refl
written-plain (Some one) = body-plain one

answer-plain : (answer : Answer) → IsPlain (answer_text answer)
unfolding answer_text
answer-plain answer = plain-compact_text _

ending-plain : (answer : Option Answer) → IsPlain (ending_text answer)
ending-plain None = plain-text (codes "-") refl
ending-plain (Some answer) = answer-plain answer

at-plain : (at : ℕ) → IsPlain (at_text at)
at-plain at = by (at == 0)
  where
    by : (b : Bool) → IsPlain (at_text_unless b at)
    by true = plain-text [] refl
    by false = passes-append (decimal at) (codes " ") (plain-decimal at) (plain-text (codes " ") refl)

request-plain : (request : Request) → IsPlain (request_text request)
unfolding request_text
request-plain request = plain-compact_text _

live-plain : (live : List (List ℕ)) → IsPlain (live_text live)
unfolding live_text
live-plain live = plain-compact_text (texts_data live)

asked-plain : (c : Called) → IsAboutName c.call → IsPlain (asked_text c)
unfolding asked_text
asked-plain c h = passes-append (call_text c.call) _ (call-plain c.call h) (behind-plain (codes " ") (fate_text c.fate) refl (fate-plain c.fate))

heard-plain : (c : Called) → IsPlain (heard_text c)
unfolding heard_text
heard-plain c =
    passes-append (told_text c.reply) _ (told-plain c.reply) (behind-plain (codes " ") _ refl
    (passes-append (written_text c.written) _ (written-plain c.written) (behind-plain (codes " ") (ending_text c.answer) refl (ending-plain c.answer))))

-- a word, and a whole line after it
word-whole : (word line : List ℕ) → list_all is_no_feed word ≡ true → IsWholeLine line → IsWholeLine (word ++ line)
word-whole word line h k = whole-behind word line (plain-text word h) k

called-whole : (c : Called) → IsAboutName c.call → IsWholeLine (called_line c)
unfolding called_line
called-whole c h =
    whole-behind (decimal c.slot) _ (plain-decimal c.slot) (word-whole (codes " called ") _ refl
    (whole-behind (asked_text c) _ (asked-plain c h) (word-whole (codes " ") _ refl (whole-plain (heard_text c) (heard-plain c)))))

pub entry_whole : (new : Entry) → HasNames new → IsWholeLine (entry_line new)
unfolding began_line fed_line stopped_line
entry_whole (entry.Began slot request) h =
    whole-behind (decimal slot) _ (plain-decimal slot) (word-whole (codes " began ") _ refl (whole-plain (request_text request) (request-plain request)))
entry_whole (entry.Fed slot at live) h =
    whole-behind (decimal slot) _ (plain-decimal slot) (word-whole (codes " fed ") _ refl
    (whole-behind (at_text at) _ (at-plain at) (whole-plain (live_text live) (live-plain live))))
entry_whole (entry.Called c) h = called-whole c h
entry_whole (entry.Stopped slot) h = whole-behind (decimal slot) _ (plain-decimal slot) (whole-plain (codes " stopped") (plain-text (codes " stopped") refl))

lines-whole : (entries : List Entry) → AllByRecursion HasNames entries → AllByRecursion IsWholeLine (map entry_line entries)
lines-whole [] h = tt
lines-whole (new ∷ entries) h = (entry_whole new h.0, lines-whole entries h.1)

pub same_journals : (entries others : List Entry) → AllByRecursion HasNames entries → AllByRecursion HasNames others → concat (map entry_line entries) ≡ concat (map entry_line others) → map entry_line entries ≡ map entry_line others
same_journals entries others h k same = same-lines (map entry_line entries) (map entry_line others) (lines-whole entries h) (lines-whole others k) same

pub entries_cut : (one other : Entry) (rest others : List ℕ) → HasNames one → HasNames other → entry_line one ++ rest ≡ entry_line other ++ others → (entry_line one ≡ entry_line other) × (rest ≡ others)
entries_cut one other rest others h k same = cut_lines (entry_line one) (entry_line other) rest others (entry_whole one h) (entry_whole other k) same
