-- Which requests GC and STATUS begin.
use Rattle.std.specs.Prelude.{Some}
use Rattle.ipam_model.specs.declared.request.CollectRequest.{CollectRequest}
use Rattle.ipam_model.specs.declared.request.ProbeRequest.{ProbeRequest}
use Rattle.cni_types.specs.declared.calls.CniGc.{CniGc}
use Rattle.cni_types.specs.declared.calls.CniStatus.{CniStatus}

-- both lists are the call's, made at once, and only what the network holds on the node is collected
abbrev pub collect_of : CniGc → CollectRequest
collect_of call = record {
  live = call.live;
  at = 0;
  grace = 0;
  scope = Some (call.network, call.node);
}

abbrev pub probe_of : CniStatus → ProbeRequest
probe_of call = record {
  node = call.node;
  labels = call.labels;
  ipv4 = call.ipv4;
  ipv6 = call.ipv6;
  pools4 = call.pools4;
  pools6 = call.pools6;
}
