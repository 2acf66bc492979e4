-- How a call ends that doesn't reach the daemon.
use Rattle.std.specs.Prelude.{◌≡◌, ◌⊎◌, ℕ, List, Option, IfSome, Result, Ok, Err}
use Rattle.ipam_io.specs.Counts.{Rose}
use Rattle.cni_types.specs.declared.version.Version.{Version}
use Rattle.cni_types.specs.declared.version.Version.TheVariants.{V1_0_0}
use Rattle.ipam_call.specs.declared.end.CallEnd.{CallEnd}
use Rattle.ipam_call.specs.declared.end.CallEnd.TheVariants.{Replied, Failed}
use Rattle.ipam_call.specs.declared.end.CallFault.TheVariants.{Read, Undecodable, Link, Reply, Memory}
use Rattle.ipam_call.specs.Versions.{version_for}

-- the link failed, in this version; or there was no memory to read the version
abbrev pub unreached_end : {E : Type 0} → Result Version E → CallEnd
unreached_end (Ok version) = Failed version Link
unreached_end (Err none) = Failed V1_0_0 Memory

-- The version of standard input, where its bytes are known; or 1.0.0, since reading it failed.
abbrev pub IsVersionRead : (left : Option (List ℕ)) → (faults faults' : ℕ) → Version → Type 0
IsVersionRead left faults faults' version =
    ((faults' ≡ faults) × IfSome left (λ input. version ≡ version_for input)) ⊎ (Rose faults faults' × (version ≡ V1_0_0))

-- The link failed, and the end says so, or says want of memory to read the version, which is written in
-- 1.0.0.
abbrev pub IsUnreached : (left : Option (List ℕ)) → (faults faults' : ℕ) → CallEnd → Type 0
IsUnreached left faults faults' (Replied reply) = ⊥
IsUnreached left faults faults' (Failed version Read) = ⊥
IsUnreached left faults faults' (Failed version Undecodable) = ⊥
IsUnreached left faults faults' (Failed version Link) = IsVersionRead left faults faults' version
IsUnreached left faults faults' (Failed version Reply) = ⊥
IsUnreached left faults faults' (Failed version Memory) = (faults' ≡ faults) × (version ≡ V1_0_0)
