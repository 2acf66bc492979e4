use Rattle.std.proofs.Common.{◌≡◌, drop}
use denote.Shadow.{shadow}
use denote.Text.{Utf8}
use Rattle.cni_types.specs.Environment.{value_from, variable}
use Rattle.cni_types.proofs.environment.value_of.Given as goal

-- what was found so far, and what the other pairs make of it
abbrev pub invariant-loop-pair : goal.invariant-loop-pair
invariant-loop-pair l = record {
  same : value_from l.name l.value (drop l.pair-index l.env) ≡ variable l.fn.variable l.env;
  utf8 : shadow (Utf8 l.value);
}
