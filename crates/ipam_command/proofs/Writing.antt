-- What is written of a script tells of a right history.
use Rattle.std.proofs.Common.{ℕ, inl, inr, List, sym, subst}
use Rattle.std.specs.Prelude.{◌++◌}
use Rattle.ipam_model.specs.declared.entry.Entry.{Entry}
use Rattle.ipam_play.specs.Played.{Whole}
use Rattle.ipam_play.specs.declared.end.PlayEnd.TheVariants as end
use Rattle.ipam_play.specs.Writing.{IsFront, IsSoFar, IsText, OfAll, OfFront, Opened, Unopened}
use Rattle.ipam_command.specs.Headline.{IsRightOf, IsRightText, SoFarRightLaw, WrittenRightLaw, script_in}
use Rattle.ipam_command.proofs.Playing.{front_lawful, lawful_right, nothing_right, played_lawful, played_right}

front-right : (bytes : List ℕ) (done : List Entry) → IsFront (script_in bytes) done → IsRightOf (script_in bytes) done
front-right bytes done (inl none) = subst (λ (l : List Entry). IsRightOf (script_in bytes) l) (sym none) (nothing_right (script_in bytes))
front-right bytes done (inr part) =
    lawful_right (script_in bytes) done
    (front_lawful (script_in bytes) done part.more (played_lawful bytes (done ++ part.more) part.ending part.is_played))

text-right : (bytes text : List ℕ) (is : IsText (script_in bytes) text) → IsRightText (script_in bytes) text is
text-right bytes _ (OfAll entries ending is_played) = played_right bytes entries ending is_played
text-right bytes _ (OfFront done is_front) = front-right bytes done is_front

pub written_right : WrittenRightLaw
written_right bytes end.Done first now w = (w, played_right bytes w.entries w.ending w.is_played)
written_right bytes end.LineRefused first now w = (w, played_right bytes w.entries w.ending w.is_played)
written_right bytes end.NotOpened first now w = (w, played_right bytes w.entries w.ending w.is_played)
written_right bytes end.ReadFault first now w = (w, front-right bytes w.done w.is_front)
written_right bytes end.NoMemory first now w = (w, front-right bytes w.done w.is_front)
written_right bytes end.WriteFault first now w = (w, text-right bytes w.text w.is_text)

so-far-right : (bytes : List ℕ) (entries : List Entry) → IsSoFar (script_in bytes) entries → IsRightOf (script_in bytes) entries
so-far-right bytes _ (Unopened none stops) = nothing_right (script_in bytes)
so-far-right bytes _ (Opened entries is_played) = played_right bytes entries Whole is_played

pub so_far_right : SoFarRightLaw
so_far_right was left first now w = (w, so-far-right w.lines w.wrote.entries w.wrote.is_so_far)
