use Rattle.std.proofs.Common.{◌≡◌, length}
use denote.Shadow.{shadow}
use denote.Text.{Utf8}
use Rattle.std.specs.List.{list_all}
use Rattle.cni_types.specs.Environment.{items_of, is_argument}
use Rattle.cni_types.proofs.arguments.are_items.Given as goal

abbrev pub invariant-items : goal.invariant-items
invariant-items l = record {
  same : list_all is_argument (items_of l.fn.text) ≡ list_all is_argument (items_of l.rest);
  utf8 : shadow (Utf8 l.rest);
}

abbrev pub decreases-items : goal.decreases-items
decreases-items l = length l.rest
