use Rattle.ipam_json.proofs.Constructors.{item_list-items_view, member_list-members_view, IsAscending-fields_of}
use Rattle.ipam_json.proofs.laws.parts_of_values_are_listed.Goals as goal

pub returns : goal.returns
returns c = record { items = item_list-items_view; members = member_list-members_view; ascending = IsAscending-fields_of }
