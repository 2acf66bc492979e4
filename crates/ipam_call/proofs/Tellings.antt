-- The version in which the end of a call is told.
use Rattle.std.proofs.Common.{◌≡◌, inr, subst}
use Rattle.cni_types.specs.declared.version.Version.{Version}
use Rattle.ipam_call.specs.declared.end.CallEnd.{CallEnd}
use Rattle.ipam_call.specs.declared.end.CallEnd.TheVariants.{Replied, Failed}
use Rattle.ipam_call.specs.declared.end.CallFault.TheVariants.{Read, Undecodable, Link, Reply, Memory}
use Rattle.ipam_call.specs.Calls.{IsExchanged, IsInVersion, IsToldVersion, outcome}

in_version : (same : Type 0) (end : CallEnd) (version : Version) → IsExchanged (outcome end) → IsInVersion end version → IsToldVersion same end version
in_version same (Replied reply) version came is = tt
in_version same (Failed told Read) version came is = absurd came
in_version same (Failed told Undecodable) version came is = is
in_version same (Failed told Link) version came is = is
in_version same (Failed told Reply) version came is = is
in_version same (Failed told Memory) version came is = inr is

-- a call that was made once the version was read is told in it
pub told_in : (same : Type 0) (end : CallEnd) (version told : Version) → IsExchanged (outcome end) → IsInVersion end version → version ≡ told → IsToldVersion same end told
told_in same end version told came is e = subst (λ (v : Version). IsToldVersion same end v) e (in_version same end version came is)
