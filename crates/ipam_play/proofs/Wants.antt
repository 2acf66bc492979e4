-- Want of memory of one that is that of either.
use Rattle.std.proofs.Common.{◌≡◌, Result, Ok, Err, ap}
use Rattle.std.specs.Prelude.{IfErr}
use Rattle.ipam_play.specs.declared.fault.PlayFault.{PlayFault}
use Rattle.ipam_play.specs.declared.fault.PlayFault.TheVariants as fault

pub either_wants : {O : Type 0} (p q : Type 0) (result : Result O PlayFault) → (p → q) → (result ≡ Err fault.Memory → p) → IfErr result (λ told. told ≡ fault.Memory → q)
either_wants p q (Ok opened) then found = tt
either_wants p q (Err why) then found = λ is. then (found (ap Err is))
