-- How the daemon ends where the keeper's rows are not opened.
use Rattle.std.specs.Prelude.{◌≡◌, ◌⊎◌, ℕ, Option, Some, None}
use Rattle.ipam_shared.specs.declared.kept.Kept.{Kept}
use Rattle.ipam_shared.specs.declared.kept.KeptFault.{KeptFault}
use Rattle.ipam_shared.specs.declared.kept.KeptFault.TheVariants.{Keeper, Refused, Memory}
use Rattle.ipam_shared.specs.Kept.{Tells}
use Rattle.ipam_shared.specs.Opening.{IsNotOpened, IsOpened}
use Rattle.ipam_daemon.specs.declared.served.Served.{Served}
use Rattle.ipam_daemon.specs.declared.served.Served.TheVariants.{KeeperFault, NoMemory, BrokenRows, ListenFault}

abbrev pub end_of : KeptFault → Served
end_of Keeper = KeeperFault
end_of (Refused number about) = BrokenRows number about
end_of Memory = NoMemory

-- the keeper's rows were not opened, for the reason that this end tells, and the keeper came back
pub record IsUnopened {D : Type 0} (tells : Tells D) (faults name : D → ℕ) (keeper after : D) (served : Served) : Type 0 where
  pub fault : KeptFault
  pub not_opened : IsNotOpened tells faults name keeper (after, fault)
  pub told : served ≡ end_of fault

-- the rows were opened, and serving them ended: there was no memory, listening failed, or the keeper failed to
-- make sure of what a session did
pub record IsServedOut {D : Type 0} (tells : Tells D) (faults name : D → ℕ) (keeper : D) (served : Served) : Type 0 where
  pub kept : Kept D
  pub opened : IsOpened tells faults name keeper 0 kept
  pub told : (served ≡ NoMemory) ⊎ (served ≡ ListenFault) ⊎ (served ≡ KeeperFault)

-- how the daemon ends: its rows were not opened, and the keeper came back; or they were, and it serves no more
abbrev pub IsEnd : {D : Type 0} → Tells D → (faults name : D → ℕ) → D → Served → Option D → Type 0
IsEnd tells faults name keeper served (Some after) = IsUnopened tells faults name keeper after served
IsEnd tells faults name keeper served None = IsServedOut tells faults name keeper served
