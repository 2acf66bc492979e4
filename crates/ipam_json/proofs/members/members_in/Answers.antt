use Rattle.std.proofs.Common.{Some}
use Rattle.serde_json.specs.View.{view}
use Rattle.ipam_json.proofs.Listed.{members_listed}
use Rattle.ipam_json.proofs.members.members_in.Goals as goal

pub returns : goal.returns
returns c = members_listed c.as_object.result (Some (view c.args.value.now)) c.as_object.ensures
