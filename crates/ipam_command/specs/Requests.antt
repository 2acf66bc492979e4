-- The generator's base, and the requests that it makes.
use Rattle.std.specs.Prelude.{ℕ, ◌+◌, ◌%◌, ◌==◌, zero, suc, true, false, List, [], ◌∷◌, ◌++◌, codes, decimal, None, if◌then◌else◌}
use Rattle.ipam_addr.specs.declared.address.Family.TheVariants.{V4}
use Rattle.ipam_block.specs.declared.allocation.Attributes.{Attributes}
use Rattle.ipam_pool.specs.declared.pools.Mode.TheVariants.{Automatic}
use Rattle.ipam_pool.specs.declared.pools.Pool.{Pool}
use Rattle.ipam_select.specs.Formula.{every}
use Rattle.ipam_records.specs.declared.record.Record.TheVariants.{Pools}
use Rattle.ipam_model.specs.declared.request.AddRequest.{AddRequest}
use Rattle.ipam_model.specs.declared.request.CollectRequest.{CollectRequest}
use Rattle.ipam_model.specs.declared.request.Request.{Request}
use Rattle.ipam_model.specs.declared.request.Request.TheVariants.{Add, Del, Collect}
use Rattle.ipam_model.specs.History.{Base}
use Rattle.ipam_command.specs.Draws.{draw}

-- ---- the base

-- the pool `g`, 10.0.0.0/16 with blocks of 64
unfoldable pub pool : Pool
pool = record {
  name = codes "g";
  cidr = record { family = V4; base = 167772160; prefix = 16 };
  size = 26;
  disabled = false;
  mode = Automatic;
  selector = every;
}

-- the pool at revision 1, and nothing else; no entry was made before
unfoldable pub base : Base
base = record { store = record { rows = (1, Pools (pool ∷ [])) ∷ []; counter = 1 }; first = 0 }

-- ---- the requests

abbrev pub generated_handle : (number : ℕ) → List ℕ
generated_handle number = codes "g.c" ++ decimal number

abbrev pub node_of : (number : ℕ) → List ℕ
node_of number = codes "n" ++ decimal number

-- the ADD of an IPv4 address for the handle of this number, on the node of that number
unfoldable pub generated_add : (handle node : ℕ) → Request
generated_add handle node = Add (record {
  node = node_of node;
  attributes = record { handle = generated_handle handle; secondary = [] };
  ipv4 = true;
  ipv6 = false;
  labels = [];
  pools4 = [];
  pools6 = [];
})

-- The request of this number, drawn from this state: each fourth is a DEL of a handle of a number
-- below its own, the others are ADDs for the handle of their own number, on one of four nodes.
unfoldable pub request_of : (number x : ℕ) → Request
request_of number x =
    if number % 4 == 3 then Del (generated_handle (draw number x)) else generated_add number (draw 4 x)

-- ---- the collection

-- the handle of this number, where the number is even
abbrev pub even_handle : (number : ℕ) → List (List ℕ)
even_handle number = if number % 2 == 0 then generated_handle number ∷ [] else []

-- the handles of the even numbers below this one, ascending
unfoldable pub live_below : (count : ℕ) → List (List ℕ)
live_below zero = []
live_below (suc number) = live_below number ++ even_handle number

-- the collection whose live handles these are; its second list may be made at once
unfoldable pub collection : (count : ℕ) → CollectRequest
collection count = record { live = live_below count; at = 0; grace = 0; scope = None }
