-- The text of what comes of a script.
use Rattle.std.specs.Prelude.{ℕ, List, [], ◌∷◌, ◌++◌, codes, decimal}
use Rattle.ipam_answer_text.specs.Entries.{entry_line}
use Rattle.ipam_model.specs.declared.entry.Entry.{Entry}
use Rattle.ipam_play.specs.declared.refusal.LineRefusal.{LineRefusal}
use Rattle.ipam_play.specs.declared.refusal.LineRefusal.TheVariants.{Long, Unreadable, Base, Busy, Idle, Waiting, NotWaiting, TooSoon, Worn}
use Rattle.ipam_play.specs.Played.{Ending, Whole, LineRefused, NotOpened}

abbrev pub line_refusal_text : LineRefusal → List ℕ
line_refusal_text Long = codes "long"
line_refusal_text Unreadable = codes "unreadable"
line_refusal_text Base = codes "base"
line_refusal_text Busy = codes "busy"
line_refusal_text Idle = codes "idle"
line_refusal_text Waiting = codes "waiting"
line_refusal_text NotWaiting = codes "not waiting"
line_refusal_text TooSoon = codes "too soon"
line_refusal_text Worn = codes "worn"

-- the line that is written last, where there is one
abbrev pub play_ending_text : Ending → List ℕ
play_ending_text Whole = []
play_ending_text (LineRefused number why) = codes "line " ++ decimal number ++ codes ": " ++ line_refusal_text why ++ codes "\n"
play_ending_text (NotOpened rule about) = codes "datastore OR" ++ decimal rule ++ codes " " ++ about ++ codes "\n"

-- the journal: a line for each entry, the oldest first
unfoldable pub journal_text : List Entry → List ℕ
journal_text [] = []
journal_text (new ∷ entries) = entry_line new ++ journal_text entries

-- all that is written
abbrev pub output_text : List Entry → Ending → List ℕ
output_text entries ending = journal_text entries ++ play_ending_text ending
