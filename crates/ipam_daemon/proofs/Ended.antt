-- How the daemon ends, and what its listener's count of faults comes to.
use Rattle.std.proofs.Common.{◌≡◌, ◌⊎◌, ℕ, None, refl, sym, subst}
use Rattle.ipam_shared.specs.declared.kept.Kept.{Kept}
use Rattle.ipam_shared.specs.declared.kept.KeptFault.{KeptFault}
use Rattle.ipam_shared.specs.declared.kept.KeptFault.TheVariants.{Keeper, Refused, Memory}
use Rattle.ipam_shared.specs.Kept.{Tells}
use Rattle.ipam_shared.specs.Opening.{IsOpened}
use Rattle.ipam_daemon.specs.declared.served.Served.{Served}
use Rattle.ipam_daemon.specs.declared.served.Served.TheVariants.{KeeperFault, NoMemory, ListenFault}
use Rattle.ipam_daemon.specs.Opening.{IsEnd, IsUnopened, end_of}
use Rattle.ipam_daemon.specs.Served.{ListenFaults}

pub served_out : {D : Type 0} (tells : Tells D) (faults name : D → ℕ) (keeper : D) (kept : Kept D) (served : Served)
    → IsOpened tells faults name keeper 0 kept → (served ≡ NoMemory) ⊎ (served ≡ ListenFault) ⊎ (served ≡ KeeperFault) → IsEnd tells faults name keeper served None
served_out tells faults name keeper kept served opened told = record { kept = kept; opened = opened; told = told }

of_end : (fault : KeptFault) (n n' : ℕ) → n' ≡ n → ListenFaults (end_of fault) n n'
of_end Keeper n n' e = e
of_end (Refused number about) n n' e = e
of_end Memory n n' e = e

pub unopened : {D : Type 0} (tells : Tells D) (faults name : D → ℕ) (keeper after : D) (served : Served) (n n' : ℕ)
    → IsUnopened tells faults name keeper after served → n' ≡ n → ListenFaults served n n'
unopened tells faults name keeper after served n n' is e = subst (λ s. ListenFaults s n n') (sym is.told) (of_end is.fault n n' e)

-- the end is want of memory only where the rows were not opened for it
pub of_want : (fault : KeptFault) → end_of fault ≡ NoMemory → fault ≡ Memory
of_want Keeper is = absurd (cc is)
of_want (Refused number about) is = absurd (cc is)
of_want Memory is = refl
