use Rattle.std.proofs.Common.{◌≡◌, length}
use denote.Shadow.{shadow}
use denote.Text.{Utf8}
use Rattle.cni_types.specs.Environment.{items_of, argument, argument_from}
use Rattle.cni_types.proofs.arguments.argument.Given as goal

abbrev pub invariant-items : goal.invariant-items
invariant-items l = record {
  same : argument_from l.key l.found (items_of l.rest) ≡ argument l.key l.fn.text;
  rest_utf8 : shadow (Utf8 l.rest);
  found_utf8 : shadow (Utf8 l.found);
}

abbrev pub decreases-items : goal.decreases-items
decreases-items l = length l.rest
