-- How calls end, and what they write.
use Rattle.std.specs.Prelude.{◌≡◌, ℕ, ◌≤◌, ◌⊎◌, List, Option}
use Rattle.std.specs.Io.KnownBytes.{append_known}
use Rattle.ipam_io.specs.Counts.{Rose}
use Rattle.ipam_io.specs.Streams.{AppendsPrefix}
use Rattle.cni_types.specs.Texts.{error_text}
use Rattle.ipam_call.specs.declared.end.CallEnd.{CallEnd}
use Rattle.ipam_call.specs.declared.end.CallEnd.TheVariants.{Replied, Failed}
use Rattle.ipam_call.specs.declared.end.CallFault.{CallFault}
use Rattle.ipam_call.specs.declared.end.CallFault.TheVariants.{Read, Undecodable, Link, Reply, Memory}
use Rattle.ipam_call.specs.declared.fixed.FixedError.{FixedError}
use Rattle.ipam_call.specs.declared.fixed.FixedError.TheVariants as fixed
use Rattle.ipam_call.specs.Fixed.{fixed_error}

-- the error of a fault
abbrev pub fixed_of : CallFault → FixedError
fixed_of Read = fixed.Read
fixed_of Undecodable = fixed.Undecodable
fixed_of Link = fixed.Link
fixed_of Reply = fixed.Reply
fixed_of Memory = fixed.Memory

-- what is written: what the daemon replied, or the error
abbrev pub end_text : CallEnd → List ℕ
end_text (Replied reply) = reply.stdout
end_text (Failed version fault) = error_text (fixed_error version (fixed_of fault))

abbrev pub end_status : CallEnd → ℕ
end_status (Replied reply) = reply.status
end_status (Failed version fault) = 1

-- What is written, what the count of faults comes to and the status: all is written; or a write
-- failed, the status 4.
pub data WritesCallEnd (end : CallEnd) (old new : Option (List ℕ)) (faults faults' : ℕ) : ℕ → Type 0 where
  whole : new ≡ append_known old (end_text end) → faults' ≡ faults → WritesCallEnd end old new faults faults' (end_status end)
  cut : AppendsPrefix old new (end_text end) → Rose faults faults' → WritesCallEnd end old new faults faults' 4

-- the statuses of a call: of a reply or an error, and of a sink that failed
abbrev pub IsStatus : ℕ → Type 0
IsStatus status = (status ≤ 1) ⊎ (status ≡ 4)
