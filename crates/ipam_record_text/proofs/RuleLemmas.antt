-- A selector that is read of a text is sound, and a sound one is read of its printed form.
use Rattle.std.proofs.Common.{◌≡◌, ℕ, ◌<◌, ◌≤◌, ◌⊎◌, List, length, true, false, ◌&&◌, nat_le, Some, None, refl, sym, ap, ◌∙◌, arith}
use Rattle.std.proofs.lemmas.Bool.{and_parts, le-leb}
use Rattle.std.proofs.lemmas.Bool.Decides.{nat_tests}
use Rattle.std.proofs.lemmas.Option.{option_and_then_some, cond_some}
use Rattle.ipam_select.specs.Formula.{Formula, every}
use Rattle.ipam_select.specs.Every.{is_every}
use Rattle.ipam_select.specs.Printing.{printed}
use Rattle.ipam_select.specs.Reading.{reading}
use Rattle.ipam_select.specs.Sound.{is_formed, is_short, is_sound, IsTooLong}
use Rattle.ipam_select.proofs.Exact.{read_as-reading, are_short, sound_reads, sound_is}
use Rattle.ipam_select.proofs.Whole.{reading_complete}
use Rattle.std.specs.Prelude.{if◌then◌else◌}
use Rattle.ipam_record_text.specs.Rules.{selector_of}

pub selector_of-is : (text : List ℕ) (f : Formula) → selector_of text ≡ Some f → is_sound f ≡ true
unfolding selector_of
selector_of-is text f e =
    option_and_then_some _ (reading text) f e (λ g found e'.
    let (short, same) = cond_some (is_short text && is_short (printed g)) g f e' in
    let parts = and_parts _ _ short in
    let is_read : reading text ≡ Some f = found ∙ ap Some same in
    (sound_is f).1 (text, read_as-reading text f is_read, are_short text f parts.0 (sym (ap (λ h. is_short (printed h)) same) ∙ parts.1)))

pub selector_of-printed : (f : Formula) → is_sound f ≡ true → selector_of (printed f) ≡ Some f
unfolding selector_of
selector_of-printed f h =
    let short : is_short (printed f) ≡ true = (and_parts (is_formed 32 f) (is_short (printed f)) h).1 in
    rw (reading_complete (printed f) f (sound_reads f h), short) refl

one_is_long : (n m : ℕ) → (1024 < n) ⊎ (1024 < m) → (nat_le n 1024 && nat_le m 1024) ≡ false
one_is_long n m h = grind (arith, nat_tests)

pub selector_of-long : (text : List ℕ) → IsTooLong text → selector_of text ≡ None
unfolding selector_of
selector_of-long text (f, h, long) =
    rw (reading_complete text f h, one_is_long (length text) (length (printed f)) long) refl

pub selector_of-unread : (text : List ℕ) → reading text ≡ None → selector_of text ≡ None
unfolding selector_of
selector_of-unread text none = rw none refl

pub selector_of-read : (text : List ℕ) (f : Formula) → reading text ≡ Some f → length text ≤ 1024 → length (printed f) ≤ 1024 → selector_of text ≡ Some f
unfolding selector_of
selector_of-read text f found a b = rw (found, le-leb (length text) 1024 a, le-leb (length (printed f)) 1024 b) refl

-- the selector, or the one for all nodes where it is that
pub every_or : (f : Formula) → (if is_every f then every else f) ≡ f
every_or every = refl
every_or _ = refl
