use Rattle.std.proofs.Common.{refl}
use Rattle.ipam_play.specs.declared.gathering.Counter.TheVariants.{Greatest}
use Rattle.ipam_play.proofs.Gatherings.{gathers_nothing}
use Rattle.ipam_play.proofs.player.Player.new.Goals as goal

pub returns-clause-gathering : goal.returns-clause-gathering
returns-clause-gathering c = record {
  gathering = record { rows = c.new.result; counter = 0; from = Greatest };
  is = refl;
  gathers = gathers_nothing _ c.new.ensures.empty refl refl;
  nothing = c.new-2.ensures.items;
}
