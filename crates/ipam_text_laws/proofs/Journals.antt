-- Journals of histories, and the lines of replies.
use Rattle.std.proofs.Common.{◌≡◌, ℕ, List, [], ◌∷◌, ◌++◌, map}
use Rattle.std.specs.List.{concat, AllByRecursion}
use Rattle.ipam_records.specs.Sound.{IsDatastore}
use Rattle.ipam_model.specs.declared.entry.Entry.{Entry}
use Rattle.ipam_model.specs.History.{Base, Lawful}
use Rattle.ipam_answer_text.specs.Entries.{entry_line}
use Rattle.serde_json.specs.Written.{compact_text}
use Rattle.ipam_session.specs.declared.replies.Reply.{Reply}
use Rattle.ipam_session.specs.Replies.{reply_data, reply_line}
use Rattle.ipam_text_laws.specs.Journals.{lines_of, journal_of}
use Rattle.ipam_text_laws.specs.Names.{HasNames}
use Rattle.ipam_text_laws.specs.Whole.{IsWholeLine}
use Rattle.ipam_text_laws.proofs.EntryLines.{entry_whole}
use Rattle.ipam_text_laws.proofs.NamedHistories.{history_named}
use Rattle.ipam_text_laws.proofs.PlainJson.{plain-compact_text}
use Rattle.ipam_text_laws.proofs.WholeLines.{whole-plain, cut_lines, same-lines}

-- ---- histories

push-whole : (lines : List (List ℕ)) (line : List ℕ) → AllByRecursion IsWholeLine lines → IsWholeLine line → AllByRecursion IsWholeLine (lines ++ line ∷ [])
push-whole [] line h k = (k, tt)
push-whole (first ∷ lines) line h k = (h.0, push-whole lines line h.1 k)

named-whole : (history : List Entry) → AllByRecursion HasNames history → AllByRecursion IsWholeLine (lines_of history)
named-whole [] h = tt
named-whole (new ∷ history) h = push-whole (lines_of history) (entry_line new) (named-whole history h.1) (entry_whole new h.0)

pub history_whole : (base : Base) (history : List Entry) → IsDatastore base.store → Lawful base history → AllByRecursion IsWholeLine (lines_of history)
history_whole base history sound h = named-whole history (history_named base history sound h)

pub same_histories : (base other : Base) (history further : List Entry) → IsDatastore base.store → IsDatastore other.store → Lawful base history → Lawful other further → journal_of history ≡ journal_of further → lines_of history ≡ lines_of further
same_histories base other history further sound also h k same =
    same-lines (lines_of history) (lines_of further) (history_whole base history sound h) (history_whole other further also k) same

-- ---- replies

pub reply_whole : (one : Reply) → IsWholeLine (reply_line one)
unfolding reply_line
reply_whole one = whole-plain (compact_text (reply_data one)) (plain-compact_text (reply_data one))

pub replies_cut : (one other : Reply) (rest others : List ℕ) → reply_line one ++ rest ≡ reply_line other ++ others → (reply_line one ≡ reply_line other) × (rest ≡ others)
replies_cut one other rest others same = cut_lines (reply_line one) (reply_line other) rest others (reply_whole one) (reply_whole other) same

replies-whole : (replies : List Reply) → AllByRecursion IsWholeLine (map reply_line replies)
replies-whole [] = tt
replies-whole (one ∷ replies) = (reply_whole one, replies-whole replies)

pub same_replies : (replies others : List Reply) → concat (map reply_line replies) ≡ concat (map reply_line others) → map reply_line replies ≡ map reply_line others
same_replies replies others same = same-lines (map reply_line replies) (map reply_line others) (replies-whole replies) (replies-whole others) same
