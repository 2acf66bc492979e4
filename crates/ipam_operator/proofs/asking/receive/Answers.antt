use Rattle.std.proofs.Common.{◌≡◌, ℕ, List, [], ◌∷◌, ◌++◌, Option, Some, None, refl, ap, ◌∙◌, append_assoc}
use Rattle.std.specs.Prelude.{IfSome}
use Rattle.std.specs.Io.KnownBytes.{prepend_known}
use Rattle.ipam_io.specs.Feeds.{IsTooLong}
use Rattle.ipam_operator.specs.declared.asking.TheConstants.{REPLY_BYTES}
use Rattle.ipam_operator.specs.Asking.{HasNoLine, too_long}
use Rattle.ipam_operator.proofs.asking.receive.Goals as goal

known-append : (xs ys : List ℕ) (known : Option (List ℕ)) → prepend_known (xs ++ ys) known ≡ prepend_known xs (prepend_known ys known)
known-append xs ys None = refl
known-append xs ys (Some bytes) = ap Some (append_assoc xs ys bytes)

too-long-told : (coming : Option (List ℕ)) → IfSome coming (IsTooLong REPLY_BYTES) → IfSome coming HasNoLine
too-long-told None h = h
too-long-told (Some bytes) h = too_long h

pub returns-in-Ok-Line-clause-came : goal.returns-in-Ok-Line-clause-came
returns-in-Ok-Line-clause-came g c = record {
  is_line = rw c.in-Ok-Line.field-0-is at c.in-Ok-Line.ensures.line;
  bytes = (rw c.in-Ok-Line.field-0-is at c.in-Ok-Line.ensures.bytes)
      ∙ known-append (c.in-Ok-Line.line.items ++ 10 ∷ []) c.next.new.self (g.L.Source.left c.next.new.source);
}

pub returns-in-Err-TooLong-clause-fault : goal.returns-in-Err-TooLong-clause-fault
returns-in-Err-TooLong-clause-fault g c = (
  too-long-told (prepend_known c.args.lines.now (g.L.Source.left c.args.link.now)) (rw c.in-Err-TooLong.field-0-is at c.in-Err-TooLong.ensures.answer),
  rw c.in-Err-TooLong.field-0-is at c.in-Err-TooLong.ensures.no_fault,
)
