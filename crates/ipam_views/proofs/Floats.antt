-- No JSON that is shown has a float, so that its compact text is written.
use Rattle.std.proofs.Common.{◌≡◌, ℕ, List, false, refl}
use Rattle.std.specs.Prelude.{option_map}
use Rattle.serde_json.specs.Written.{has_float}
use Rattle.ipam_block.specs.State.{state_text}
use Rattle.ipam_json.proofs.Floatless.{items_without}
use Rattle.ipam_records.specs.Datastore.{Datastore}
use Rattle.ipam_words.specs.Views.{BorrowedBy, OfHandle}
use Rattle.ipam_show.specs.declared.counting.BlockCount.{BlockCount}
use Rattle.ipam_show.specs.Addresses.{use_data}
use Rattle.ipam_show.specs.Blocks.{block_state}
use Rattle.ipam_show.specs.InUse.{uses_kept}
use Rattle.ipam_show.proofs.Floats.{text_without, use_without}
use Rattle.ipam_views.specs.declared.high_counts.HighCount.{HighCount}
use Rattle.ipam_views.specs.declared.config_shown.InForce.{InForce}
use Rattle.ipam_views.specs.Config.{setting_data, settings_data}
use Rattle.ipam_views.specs.Handle.{handle_data, high_data}
use Rattle.ipam_views.specs.Node.{node_data, own_data}

own_without : (store : Datastore) (count : BlockCount) → has_float (own_data store count) ≡ false
unfolding own_data
own_without store count = rw (text_without (option_map state_text (block_state store count))) refl

pub node_without : (node : List ℕ) (store : Datastore) (counts : List BlockCount) → has_float (node_data node store counts) ≡ false
unfolding node_data
node_without node store counts =
    rw (items_without (own_data store) (own_without store) counts, items_without use_data use_without (uses_kept (BorrowedBy node) store)) refl

high_without : (high : HighCount) → has_float (high_data high) ≡ false
unfolding high_data
high_without high = refl

pub handle_without : (handle : List ℕ) (store : Datastore) (counts : List HighCount) → has_float (handle_data handle store counts) ≡ false
unfolding handle_data
handle_without handle store counts =
    rw (items_without use_data use_without (uses_kept (OfHandle handle) store), items_without high_data high_without counts) refl

pub settings_without : (shown : InForce) → has_float (settings_data shown) ≡ false
unfolding settings_data setting_data
settings_without shown = refl
