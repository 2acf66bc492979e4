-- The line of each entry of a journal, with its line feed.
use Rattle.std.specs.Prelude.{ℕ, List, [], ◌++◌, codes, decimal, Bool, true, false, ◌==◌, Option, Some, None}
use Rattle.ipam_records.specs.Body.{body_of}
use Rattle.ipam_records.specs.KeyText.{key_bytes}
use Rattle.ipam_records.specs.declared.key.Kind.{Kind}
use Rattle.ipam_records.specs.declared.key.Kind.TheVariants as kind
use Rattle.ipam_records.specs.declared.record.Record.{Record}
use Rattle.ipam_model.specs.declared.answer.Answer.{Answer}
use Rattle.ipam_model.specs.declared.request.Request.{Request}
use Rattle.ipam_model.specs.declared.entry.CallName.{CallName}
use Rattle.ipam_model.specs.declared.entry.CallName.TheVariants as name
use Rattle.ipam_model.specs.declared.entry.Called.{Called}
use Rattle.ipam_model.specs.declared.entry.Entry.{Entry}
use Rattle.ipam_model.specs.declared.entry.Entry.TheVariants as entry
use Rattle.ipam_model.specs.declared.entry.Fate.{Fate}
use Rattle.ipam_model.specs.declared.entry.Fate.TheVariants.{Well, Before, After}
use Rattle.ipam_model.specs.declared.entry.Told.{Told}
use Rattle.ipam_model.specs.declared.entry.Told.TheVariants as told
use Rattle.ipam_request_text.specs.Requests.{request_text, live_text}
use Rattle.ipam_answer_text.specs.Answers.{answer_text}

-- the word, which ends by a space, and the number
abbrev pub numbered : List ℕ → ℕ → List ℕ
numbered word n = word ++ decimal n

-- the text, a space and the number
abbrev pub spaced : List ℕ → ℕ → List ℕ
spaced text n = text ++ (codes " " ++ decimal n)

abbrev pub kind_text : Kind → List ℕ
kind_text kind.Block = codes "block"
kind_text kind.Affinity = codes "affinity"
kind_text kind.Handle = codes "handle"

abbrev pub call_text : CallName → List ℕ
call_text (name.Get key) = codes "get " ++ key_bytes key
call_text (name.List kind) = codes "list " ++ kind_text kind
call_text (name.Create key) = codes "create " ++ key_bytes key
call_text (name.Update key revision) = codes "update " ++ spaced (key_bytes key) revision
call_text (name.Delete key revision) = codes "delete " ++ spaced (key_bytes key) revision

abbrev pub fate_text : Fate → List ℕ
fate_text Well = codes "well"
fate_text Before = codes "before"
fate_text After = codes "after"

abbrev pub told_text : Told → List ℕ
told_text told.Nothing = codes "none"
told_text (told.Found revision) = numbered (codes "found ") revision
told_text told.Missing = codes "missing"
told_text (told.Listed count) = numbered (codes "listed ") count
told_text (told.Done revision) = numbered (codes "done ") revision
told_text (told.Exists revision) = numbered (codes "exists ") revision
told_text (told.Conflict revision) = numbered (codes "conflict ") revision
told_text told.Full = codes "full"
told_text told.Spent = codes "spent"

-- the body of the record that was written, or `-`
abbrev pub written_text : Option Record → List ℕ
written_text (Some one) = body_of one
written_text None = codes "-"

-- the answer that the call ended its request with, or `-`
abbrev pub ending_text : Option Answer → List ℕ
ending_text (Some answer) = answer_text answer
ending_text None = codes "-"

abbrev pub at_text_unless : Bool → ℕ → List ℕ
at_text_unless true at = []
at_text_unless false at = decimal at ++ codes " "

-- the time of a list and a space, where the time is not 0
abbrev pub at_text : ℕ → List ℕ
at_text at = at_text_unless (at == 0) at

unfoldable pub began_line : ℕ → Request → List ℕ
began_line slot request =
    decimal slot ++ (codes " began " ++ (request_text request ++ codes "\n"))

unfoldable pub fed_line : (slot at : ℕ) → List (List ℕ) → List ℕ
fed_line slot at live =
    decimal slot ++ (codes " fed " ++ (at_text at ++ (live_text live ++ codes "\n")))

unfoldable pub stopped_line : ℕ → List ℕ
stopped_line slot = decimal slot ++ codes " stopped\n"

-- the call and its fate
unfoldable pub asked_text : Called → List ℕ
asked_text c = call_text c.call ++ (codes " " ++ fate_text c.fate)

-- the reply, what was written and the answer
unfoldable pub heard_text : Called → List ℕ
heard_text c =
    told_text c.reply
    ++ (codes " " ++ (written_text c.written ++ (codes " " ++ ending_text c.answer)))

unfoldable pub called_line : Called → List ℕ
called_line c =
    decimal c.slot
    ++ (codes " called " ++ (asked_text c ++ (codes " " ++ (heard_text c ++ codes "\n"))))

-- the line of an entry
abbrev pub entry_line : Entry → List ℕ
entry_line (entry.Began slot request) = began_line slot request
entry_line (entry.Fed slot at live) = fed_line slot at live
entry_line (entry.Called called) = called_line called
entry_line (entry.Stopped slot) = stopped_line slot
