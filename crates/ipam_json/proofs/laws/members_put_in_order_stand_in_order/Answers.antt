use Rattle.ipam_json.proofs.Constructors.{put-members_from, items_view-push}
use Rattle.ipam_json.proofs.laws.members_put_in_order_stand_in_order.Goals as goal

pub returns : goal.returns
returns c = record { put = put-members_from; push = items_view-push }
