-- A line that is read, and one that is broken off.
use Rattle.std.proofs.Common.{◌≡◌, ℕ, List, [], ◌∷◌, ◌++◌, Option, Some, None, Err, refl, ap, subst, ◌∙◌, append_assoc}
use Rattle.std.specs.Io.KnownBytes.{prepend_known}
use Rattle.ipam_io.specs.Counts.{Rose}
use Rattle.ipam_session.specs.declared.replies.Reply.{Reply}
use Rattle.ipam_serve.specs.declared.ran.Broken.{Broken}
use Rattle.ipam_serve.specs.declared.ran.Broken.TheVariants.{Halted, Worn, Memory}
use Rattle.ipam_serve.specs.Faults.{Halts}
use Rattle.ipam_serve.specs.Sessions.{RoseIf, end_of, is_halted, is_read_fault, is_write_fault}

pub taken-line : (bytes held : List ℕ) (left : Option (List ℕ)) → prepend_known ((bytes ++ 10 ∷ []) ++ held) left ≡ prepend_known (bytes ++ 10 ∷ []) (prepend_known held left)
taken-line bytes held None = refl
taken-line bytes held (Some left) = ap Some (append_assoc (bytes ++ 10 ∷ []) held left)

pub broken-reads : (broken : Broken) (old new : ℕ) → new ≡ old → RoseIf (is_read_fault (end_of broken)) old new
broken-reads Halted old new same = same
broken-reads Worn old new same = same
broken-reads Memory old new same = same

pub broken-writes : (broken : Broken) (old new : ℕ) → new ≡ old → RoseIf (is_write_fault (end_of broken)) old new
broken-writes Halted old new same = same
broken-writes Worn old new same = same
broken-writes Memory old new same = same

pub broken-stops : (broken : Broken) (old middle new : ℕ) → middle ≡ old → Halts {T = Reply} (Err broken) middle new → RoseIf (is_halted (end_of broken)) old new
broken-stops Halted old middle new same h = subst (λ (n : ℕ). Rose n new) same h
broken-stops Worn old middle new same h = h ∙ same
broken-stops Memory old middle new same h = h ∙ same
