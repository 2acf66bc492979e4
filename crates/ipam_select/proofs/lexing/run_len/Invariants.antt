use Rattle.std.proofs.Common.{◌≡◌, ◌+◌, drop}
use Rattle.ipam_select.specs.Lexing.{in_class, run_len}
use Rattle.ipam_select.proofs.lexing.run_len.Given as goal

abbrev pub invariant-loop-byte : goal.invariant-loop-byte
invariant-loop-byte l =
    (l.count ≡ l.byte-index) × (run_len (in_class l.class) l.text ≡ l.count + run_len (in_class l.class) (drop l.count l.text))
