use Rattle.std.proofs.Common.{sym, subst}
use Rattle.ipam_collect.specs.Leaks.{AreSoundRows}
use Rattle.ipam_collect.proofs.HeardLemmas.{heard_sound}
use Rattle.ipam_collect.proofs.collect.CollectProcProcedure.took.Goals as goal

pub listed-requires : goal.listed-requires
listed-requires c =
    subst AreSoundRows (sym c.listing_in-listing.ensures) (heard_sound c.args.self.now.request c.args.self.now.stage _ _ c.in-ListsAgain.is c.requires)
