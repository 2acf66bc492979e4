-- Which answers are sound: their numbers fit 64 bits, and their addresses and CIDRs are of their family.
use Rattle.std.specs.Prelude.{ℕ, ◌^◌, ◌<◌, ⊤}
use Rattle.std.specs.List.{AllByRecursion}
use Rattle.ipam_addr.specs.Width.{IsAddress, IsCidr}
use Rattle.ipam_model.specs.declared.answer.Answer.{Answer}
use Rattle.ipam_model.specs.declared.answer.Answer.TheVariants.{Added, AddedThis, Exhausted, NoPool, NotInPool, Taken, NotAffine, Deleted, Checked, NotRecorded, Released, NoAffinity, Collected, Done, Refused, Again, Full, CountFull, Spent, Fault, Ready}
use Rattle.ipam_model.specs.declared.answer.Collected.{Collected as Collection}
use Rattle.ipam_model.specs.declared.answer.Given.{Given}
use Rattle.ipam_model.specs.declared.answer.GivenThis.{GivenThis}
use Rattle.ipam_model.specs.declared.answer.Item.{Item}
use Rattle.ipam_model.specs.declared.answer.Scan.{Scan}

-- a moment, a revision, a stamp or a count that 64 bits hold
abbrev pub FitsIn64 : ℕ → Type 0
FitsIn64 n = n < 2 ^ 64

pub record IsSoundScan (s : Scan) : Type 0 where
  pub b : FitsIn64 s.b
  pub c : FitsIn64 s.c
  pub f : FitsIn64 s.f
  pub p : FitsIn64 s.p
  pub r : FitsIn64 s.r

pub record IsSoundGiven (g : Given) : Type 0 where
  pub address : IsAddress g.address
  pub b : FitsIn64 g.b
  pub c : FitsIn64 g.c
  pub f : FitsIn64 g.f
  pub p : FitsIn64 g.p
  pub r : FitsIn64 g.r
  pub w : FitsIn64 g.w

pub record IsSoundGivenThis (g : GivenThis) : Type 0 where
  pub address : IsAddress g.address
  pub b : FitsIn64 g.b
  pub c : FitsIn64 g.c
  pub p : FitsIn64 g.p
  pub w : FitsIn64 g.w

pub record IsSoundItem (i : Item) : Type 0 where
  pub address : IsAddress i.address
  pub stamp : FitsIn64 i.stamp

pub record IsSoundCollection (c : Collection) : Type 0 where
  pub b1 : FitsIn64 c.b1
  pub b2 : FitsIn64 c.b2
  pub items : AllByRecursion IsSoundItem c.items

-- names and handles may be any text
abbrev pub IsSoundAnswer : Answer → Type 0
IsSoundAnswer (Added givens) = AllByRecursion IsSoundGiven givens
IsSoundAnswer (AddedThis given) = IsSoundGivenThis given
IsSoundAnswer (Exhausted scan) = IsSoundScan scan
IsSoundAnswer (NoPool name moment) = FitsIn64 moment
IsSoundAnswer (NotInPool moment) = FitsIn64 moment
IsSoundAnswer (Taken holder moment) = FitsIn64 moment
IsSoundAnswer (NotAffine cidr moment) = IsCidr cidr × FitsIn64 moment
IsSoundAnswer (Deleted moment) = FitsIn64 moment
IsSoundAnswer Checked = ⊤
IsSoundAnswer (NotRecorded address moment) = IsAddress address × FitsIn64 moment
IsSoundAnswer Released = ⊤
IsSoundAnswer (NoAffinity moment) = FitsIn64 moment
IsSoundAnswer (Collected collection) = IsSoundCollection collection
IsSoundAnswer (Done revision) = FitsIn64 revision
IsSoundAnswer (Refused refusal name) = FitsIn64 refusal
IsSoundAnswer (Again lost claims) = FitsIn64 lost × FitsIn64 claims
IsSoundAnswer Full = ⊤
IsSoundAnswer (CountFull moment) = FitsIn64 moment
IsSoundAnswer Spent = ⊤
IsSoundAnswer Fault = ⊤
IsSoundAnswer (Ready scans) = AllByRecursion IsSoundScan scans
