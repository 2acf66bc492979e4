use Rattle.std.proofs.Common.{refl}
use Rattle.ipam_play.proofs.game.Game.turn.Goals as goal

pub returns-clause-turn : goal.returns-clause-turn
returns-clause-turn g c = λ script first number events rest at. c.step-played.ensures.event script first number _ events rest refl at
