use Rattle.std.proofs.Common.{ap}
use Rattle.std.specs.Option.{option_copied}
use Rattle.ipam_shared.proofs.feed.push.Goals as goal

pub push-requires : goal.push-requires
push-requires c = c.requires c.in-Some.write.now (ap option_copied c.in-Some.is)
