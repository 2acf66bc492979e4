-- What `show` tells.
use Rattle.std.specs.Prelude.{ℕ, List}
use Rattle.ipam_records.specs.Datastore.{Datastore}
use Rattle.ipam_show.specs.Address.{address_shown}
use Rattle.ipam_show.specs.Addresses.{addresses_text}
use Rattle.ipam_show.specs.Blocks.{blocks_text}
use Rattle.ipam_show.specs.Json.{json_text}
use Rattle.ipam_show.specs.Pools.{pools_text}
use Rattle.ipam_views.specs.Config.{config_text}
use Rattle.ipam_views.specs.Handle.{handle_text}
use Rattle.ipam_views.specs.Metrics.{metrics_text}
use Rattle.ipam_views.specs.Node.{node_text}
use Rattle.ipam_words.specs.Views.{AskedView, Pools, Json, Blocks, Address, Node, Handle, Config, Metrics, Addresses}

abbrev pub shown_text : AskedView → Datastore → List ℕ
shown_text Pools store = pools_text store
shown_text Json store = json_text store
shown_text Blocks store = blocks_text store
shown_text (Address address) store = address_shown address store
shown_text (Node node form) store = node_text node form store
shown_text (Handle handle form) store = handle_text handle form store
shown_text (Config form) store = config_text form store
shown_text Metrics store = metrics_text store
shown_text (Addresses chosen form) store = addresses_text chosen form store
