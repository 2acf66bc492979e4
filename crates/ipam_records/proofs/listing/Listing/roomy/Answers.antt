use Rattle.std.proofs.Common.{sym}
use Rattle.ipam_records.proofs.BlockListLemmas.{cidrs_where-none, list-ascends, none-ascends}
use Rattle.ipam_records.proofs.listing.Listing.roomy.Goals as goal

pub returns-in-None-clause-value : goal.returns-in-None-clause-value
returns-in-None-clause-value c = sym (cidrs_where-none _ _ (c.args.self.now.none c.in-None.is))

pub returns-in-Some-clause-ascending : goal.returns-in-Some-clause-ascending
returns-in-Some-clause-ascending c = list-ascends _ _ _ (c.args.self.now.indexed _ c.in-Some.is).roomy_is (c.args.self.now.blocks _ c.in-Some.is)

pub returns-in-None-clause-ascending : goal.returns-in-None-clause-ascending
returns-in-None-clause-ascending c = none-ascends
