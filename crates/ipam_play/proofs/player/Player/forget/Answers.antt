use Rattle.std.proofs.Common.{refl}
use Rattle.ipam_play.proofs.Players.{forgets, still_gathering}
use Rattle.ipam_play.proofs.player.Player.forget.Goals as goal

pub returns-clause-gathering : goal.returns-clause-gathering
returns-clause-gathering c = λ base h. still_gathering _ _ base h refl c.clear.ensures.items

pub returns-clause-playing : goal.returns-clause-playing
returns-clause-playing c = λ base store past h. forgets _ _ base store past h refl c.clear.ensures.items
