use Rattle.ipam_json.proofs.Constructors.{items_in-array_of, get_item-items_of, members_in-object_of, get-object_of, counts_in-counts_object, counts_in-read}
use Rattle.ipam_json.proofs.laws.built_json_gives_its_parts_back.Goals as goal

pub returns : goal.returns
returns c = record {
  items = items_in-array_of;
  item = get_item-items_of;
  members = members_in-object_of;
  member = get-object_of;
  counts = counts_in-counts_object;
  counts_text = counts_in-read;
}
