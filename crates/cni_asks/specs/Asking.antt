-- Which request a call begins.
use Rattle.std.specs.Prelude.{Bool, true, false, Option, Some, None}
use Rattle.ipam_addr.specs.Shape.{AddrValue}
use Rattle.ipam_model.specs.declared.request.AddRequest.{AddRequest}
use Rattle.ipam_model.specs.declared.request.Request.{Request}
use Rattle.ipam_model.specs.declared.request.Request.TheVariants as request
use Rattle.ipam_model.specs.SoundRequest.{IsSoundRequest}
use Rattle.cni_types.specs.declared.calls.CniAdd.{CniAdd}
use Rattle.cni_types.specs.declared.calls.Look.{Look}
use Rattle.cni_types.specs.declared.calls.Look.TheVariants.{Version, Add, Del, Check, Gc, Status}
use Rattle.cni_types.specs.Texts.{versions_text}
use Rattle.cni_asks.specs.declared.asks.Ask.{Ask}
use Rattle.cni_asks.specs.declared.asks.Ask.TheVariants.{Tell, Begin}

abbrev pub is_neither_gc_nor_status : Look → Bool
is_neither_gc_nor_status (Version version) = true
is_neither_gc_nor_status (Add add) = true
is_neither_gc_nor_status (Del del) = true
is_neither_gc_nor_status (Check check) = true
is_neither_gc_nor_status (Gc gc) = false
is_neither_gc_nor_status (Status status) = false

-- the handle and the pairs are what an address is recorded with
abbrev pub add_of : CniAdd → AddRequest
add_of add = record {
  node = add.node;
  attributes = record { handle = add.handle; secondary = add.secondary };
  ipv4 = add.ipv4;
  ipv6 = add.ipv6;
  labels = add.labels;
  pools4 = add.pools4;
  pools6 = add.pools6;
}

-- for the address that is asked for and no other, where one is
abbrev pub wanting : Option AddrValue → AddRequest → Request
wanting None add = request.Add add
wanting (Some address) add = request.AddThis add address

-- What a call begins: its request with its version, or the text of the versions at once. GC and
-- STATUS are not asked here.
abbrev pub ask_of : Look → Option Ask
ask_of (Version version) = Some (Tell (versions_text version))
ask_of (Add add) = Some (Begin (wanting add.address (add_of add)) add.version)
ask_of (Del del) = Some (Begin (request.Del del.handle) del.version)
ask_of (Check check) = Some (Begin (request.Check check.handle check.addresses) check.version)
ask_of (Gc gc) = None
ask_of (Status status) = None

abbrev pub IsSoundAsk : Ask → Type 0
IsSoundAsk (Tell text) = Unit {0}
IsSoundAsk (Begin begun version) = IsSoundRequest begun
