-- What the calls say, from the laws on lists.
use Rattle.std.proofs.Common.{◌≡◌, ℕ, ◌<◌, ◌↔◌, true, false, ◌&&◌, ◌⊎◌, List, length, nat_le, Option, Some, None, IsTrue, refl, sym, ◌∙◌, arith, leb-true, le-leb}
use Rattle.std.proofs.lemmas.Bool.Decides.{nat_tests}
use Rattle.ipam_select.specs.Formula.{Formula}
use Rattle.ipam_select.specs.Grammar.{Reads}
use Rattle.ipam_select.specs.Reading.{reading}
use Rattle.ipam_select.specs.Printing.{printed}
use Rattle.ipam_select.specs.Sound.{is_formed, is_short, is_sound, IsUnreadable, IsReadAs, AreShort, IsTooLong, IsReadOfSome, IsLongReading}
use Rattle.ipam_select.proofs.Choices.{and_true, and_both, some_same, none_is_not_some}
use Rattle.ipam_select.proofs.Formed.{reads_formed}
use Rattle.ipam_select.proofs.Printed.{printed_reads}
use Rattle.ipam_select.proofs.Whole.{reading_sound, reading_complete}

pub read_as : (text : List ℕ) (f : Formula) → Reads text f → IsReadAs text f
read_as text f h = (h, λ g other. some_same g f (sym (reading_complete text g other) ∙ reading_complete text f h))

pub read_as-reading : (text : List ℕ) (f : Formula) → reading text ≡ Some f → IsReadAs text f
read_as-reading text f e = read_as text f (reading_sound text f e)

pub read_again : (text : List ℕ) (f : Formula) → Reads text f → Reads (printed f) f
read_again text f h = printed_reads f (reads_formed text f h)

pub are_short : (text : List ℕ) (f : Formula) → is_short text ≡ true → is_short (printed f) ≡ true → AreShort text f
are_short text f a b = (leb-true (length text) 1024 a, leb-true (length (printed f)) 1024 b)

pub unreadable : (text : List ℕ) → reading text ≡ None → IsUnreadable text
unreadable text none f h = none_is_not_some f (sym none ∙ reading_complete text f h)

one_is_long : (n m : ℕ) → (nat_le n 1024 && nat_le m 1024) ≡ false → (1024 < n) ⊎ (1024 < m)
one_is_long n m e = grind (arith, nat_tests)

too_long-by : (text : List ℕ) (found : Option Formula) → reading text ≡ found → IsLongReading text found → IsTooLong text
too_long-by text None e h = absurd h
too_long-by text (Some f) e h = (f, reading_sound text f e, one_is_long (length text) (length (printed f)) h)

pub too_long : (text : List ℕ) → IsLongReading text (reading text) → IsTooLong text
too_long text h = too_long-by text (reading text) refl h

pub sound_reads : (f : Formula) → is_sound f ≡ true → Reads (printed f) f
sound_reads f h = printed_reads f (and_true (is_formed 32 f) (is_short (printed f)) h).0

pub sound_is : (f : Formula) → IsTrue (is_sound f) ↔ IsReadOfSome f
sound_is f = (
  λ h.
      let short = (and_true (is_formed 32 f) (is_short (printed f)) h).1 in
      (printed f, read_as (printed f) f (sound_reads f h), are_short (printed f) f short short),
  λ h. and_both (is_formed 32 f) (is_short (printed f)) (reads_formed h.0 f h.1.0) (le-leb (length (printed f)) 1024 h.2.1),
)
