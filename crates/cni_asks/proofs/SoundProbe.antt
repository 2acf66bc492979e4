-- What a good STATUS asks is sound: the limits of calls are those of requests.
use Rattle.std.proofs.Common.{◌≡◌, subst, sym}
use Rattle.ipam_model.specs.declared.request.ProbeRequest.{ProbeRequest}
use Rattle.ipam_model.specs.SoundRequest as request
use Rattle.cni_types.specs.declared.calls.CniStatus.{CniStatus}
use Rattle.cni_types.specs.Sound as call
use Rattle.cni_asks.proofs.SoundCalls.{labels_sound, pools_sound}
use Rattle.cni_asks.specs.GcAsking.{probe_of}

probe_sound : (status : CniStatus) → call.IsSoundStatus status → request.IsSoundProbe (probe_of status)
probe_sound status h = record {
  node = h.node;
  labels = labels_sound status.labels h.labels;
  pools4 = pools_sound status.pools4 h.pools4;
  pools6 = pools_sound status.pools6 h.pools6;
  some_family = h.some_family;
}

pub copy_sound : (status : CniStatus) (asked : ProbeRequest) → asked ≡ probe_of status → call.IsSoundStatus status → request.IsSoundProbe asked
copy_sound status asked same h = subst request.IsSoundProbe (sym same) (probe_sound status h)
