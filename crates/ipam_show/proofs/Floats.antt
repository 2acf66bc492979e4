-- No JSON that is shown has a float, so that its compact text is written.
use Rattle.std.proofs.Common.{◌≡◌, ℕ, List, Option, Some, None, false, refl}
use Rattle.std.specs.Prelude.{codes}
use Rattle.serde_json.specs.Written.{has_float}
use Rattle.ipam_json.proofs.Floatless.{items_without}
use Rattle.ipam_pool.specs.declared.pools.Pool.{Pool}
use Rattle.ipam_show.specs.declared.counting.BlockCount.{BlockCount}
use Rattle.ipam_show.specs.Addresses.{text_or_null, use_data, uses_data}
use Rattle.ipam_show.specs.declared.in_use.InUse.{InUse}
use Rattle.ipam_show.specs.InUse.{value_in_use}
use Rattle.ipam_show.specs.Json.{pool_shown_data, pools_shown_data}

pool_without : (counts : List BlockCount) (pool : Pool) → has_float (pool_shown_data counts pool) ≡ false
unfolding pool_shown_data
pool_without counts pool = refl

pub pools_without : (counts : List BlockCount) (pools : List Pool) → has_float (pools_shown_data counts pools) ≡ false
unfolding pools_shown_data
pools_without counts pools = rw (items_without (pool_shown_data counts) (pool_without counts) pools) refl

pub text_without : (text : Option (List ℕ)) → has_float (text_or_null text) ≡ false
text_without None = refl
text_without (Some text) = refl

pub use_without : (u : InUse) → has_float (use_data u) ≡ false
unfolding use_data
use_without u =
    let node = text_without u.block_node in
    let namespace = text_without (value_in_use (codes "namespace") u) in
    let network = text_without (value_in_use (codes "network") u) in
    let own = text_without (value_in_use (codes "node") u) in
    let pod = text_without (value_in_use (codes "pod") u) in
    rw (node, namespace, network, own, pod) refl

pub uses_without : (uses : List InUse) → has_float (uses_data uses) ≡ false
unfolding uses_data
uses_without uses = rw (items_without use_data use_without uses) refl
