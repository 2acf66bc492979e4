-- What is made sure of.
use Rattle.std.proofs.Common.{◌≡◌, ◌↔◌, ◌⊎◌, ◌<◌, ◌≤◌, ℕ, ◌+◌, arith, Bool, false, IsTrue, inl, inr, List, [], Option, Result, Ok, Err, refl, sym, subst, ap}
use Rattle.std.specs.Prelude.{IfErr, OnErr}
use Rattle.ipam_io.specs.Streams.{AppendsPrefix}
use Rattle.ipam_keeper.specs.declared.keeper.KeepFault.{KeepFault}
use Rattle.ipam_keeper.specs.declared.keeper.KeepFault.TheVariants.{Failed, Memory}
use Rattle.ipam_shared.specs.Giving.{Gives}
use Rattle.ipam_shared.specs.Kept.{Tells}
use Rattle.ipam_model.specs.declared.entry.Entry.{Entry}
use Rattle.ipam_session.specs.declared.replies.Reply.{Reply}
use Rattle.ipam_session.specs.Replies.{reply_line}
use Rattle.ipam_shared.specs.declared.faults.SharedFault.{SharedFault}
use Rattle.ipam_shared.specs.declared.faults.SharedFault.TheVariants.{Inner, SpentPass}
use Rattle.ipam_shared.specs.PassValue.{PassValue}
use Rattle.ipam_shared.specs.Passes.{IsSamePass}
use Rattle.ipam_shared.specs.Settling.{IsSure, KnowsSure, SettlesAs}
use Rattle.ipam_shared.specs.Turning.{SeesNext, UnlessSpent, WasDone}
use Rattle.ipam_shared.proofs.Settled.{still-sure}
use Rattle.ipam_serve.specs.declared.ends.SessionEnd.{SessionEnd}
use Rattle.ipam_serve.specs.declared.ends.SessionEnd.TheVariants as end
use Rattle.ipam_serve.specs.Gains.{Settles, TookTurns}
use Rattle.ipam_serve.specs.Keeping.{AtKeeper, at_keeper}
use Rattle.ipam_serve.specs.Sessions.{CantSettle, EndsReply, RoseAt, RoseIf, Unsettles, is_halted, is_read_fault, is_write_fault}
use Rattle.ipam_serve.proofs.Entries.{of_slot-told}
use Rattle.ipam_serve.proofs.Slots.{untold-runs}
use Rattle.ipam_serve.proofs.Turning.{took-nothing}

-- no turn was taken
pub settles-none : (pass : PassValue) → Settles pass pass
settles-none pass = record { same = refl; gained = (took-nothing pass).gained; runs = refl; at_least = omega arith; at_most = omega arith; one_stays = λ some. some; moment = refl }

pub settles-turn : (old new : PassValue) → IsSamePass old new → SeesNext old [] new → new.left + 1 ≡ old.left → 2 ≤ old.left → new.moment ≡ old.moment → Settles old new
settles-turn old new same sees left enough moment = record {
  same = same;
  gained = record { more = sees.between; grew = sees.seen; own = of_slot-told old.slot [] sees.between sees.own sees.others };
  runs = untold-runs old new same sees;
  at_least = omega arith;
  at_most = omega arith;
  one_stays = λ some. omega arith;
  moment = moment;
}

-- it asked whether that is sure, and no turn is left
pub cant-settle : (pass : PassValue) (sure : Bool) → (IsTrue sure ↔ KnowsSure pass) → sure ≡ false → pass.left < 2 → CantSettle pass
cant-settle pass sure asked is_not few = record {
  few = few;
  unsure = λ knows. let is = asked.1 knows in absurd (cc (is, is_not));
}

-- what it knew to be sure is so after turns too
pub took-sure : {D : Type 0} (tells sure : Tells D) (old new : PassValue) (entries : List Entry) (spared : ℕ) → TookTurns old entries spared new → IsSure tells sure old → IsSure tells sure new
took-sure tells sure old new entries spared t is = still-sure tells sure old new (ap (λ (p : PassValue). p.base) t.same) (t.gained.more, t.gained.grew) t.sure is

module _ {D : Type 0} (tells sure : Tells D) (gives : Gives D) (faults : D → ℕ) (broken : D → Type 0) where
  -- the end tells why it was not settled
  pub ends-so : (old new : PassValue) (fault : SharedFault KeepFault) (how : SessionEnd) → (fault ≡ SpentPass → ⊥) → (how ≡ end.KeeperFault → fault ≡ Inner Failed) → (how ≡ end.Memory → fault ≡ Inner Memory) → (how ≡ end.KeeperFault) ⊎ (how ≡ end.Memory)
      → SeesNext old [] new → UnlessSpent {T = Unit {0}} {E = KeepFault} (Err fault) (WasDone tells (SettlesAs tells sure faults broken old.moment {T = Unit {0}} (Err fault)) [] new)
      → Unsettles (at_keeper tells sure gives faults broken) how old new
  ends-so old new SpentPass how not failed memory others sees done = absurd (not refl)
  ends-so old new (Inner Failed) how not failed memory (inl e) sees done = rw e (record { sees = sees; done = done })
  ends-so old new (Inner Memory) how not failed memory (inl e) sees done = absurd (cc (failed e))
  ends-so old new (Inner Failed) how not failed memory (inr e) sees done = absurd (cc (memory e))
  ends-so old new (Inner Memory) how not failed memory (inr e) sees done = rw e (record { sees = sees; done = done })

  -- nothing of the link was asked by then
  pub unsettles-plain : (how : SessionEnd) (old new : PassValue) → Unsettles (at_keeper tells sure gives faults broken) how old new → (is_read_fault how ≡ false) × (is_write_fault how ≡ false) × (is_halted how ≡ false)
  unsettles-plain end.Closed old new why = absurd why
  unsettles-plain end.Cut old new why = absurd why
  unsettles-plain end.LineTooLong old new why = absurd why
  unsettles-plain end.ReadFault old new why = absurd why
  unsettles-plain end.WriteFault old new why = absurd why
  unsettles-plain end.Halted old new why = absurd why
  unsettles-plain end.Worn old new why = (refl, refl, refl)
  unsettles-plain end.Memory old new why = (refl, refl, refl)
  unsettles-plain end.KeeperFault old new why = (refl, refl, refl)

-- ---- a reply that is written

-- a count stands as it was
pub rose-none : (which : SessionEnd → Bool) (how : SessionEnd) (count : ℕ) → which how ≡ false → RoseIf (which how) count count
rose-none which how count is = subst (λ b. RoseIf b count count) (sym is) refl

-- a count that stood as it was before
pub rose-after : (which : SessionEnd → Bool) (r : Result (Unit {0}) SessionEnd) (old middle new : ℕ) → middle ≡ old → RoseAt which r middle new → RoseAt which r old new
rose-after which r old middle new same rose = subst (λ n. RoseAt which r n new) same rose

pub rose-halts : (r : Result (Unit {0}) SessionEnd) (old new : ℕ) → IfErr r (λ how. is_halted how ≡ false) → new ≡ old → RoseAt is_halted r old new
rose-halts (Ok done) old new plain same = same
rose-halts (Err how) old new plain same = subst (λ b. RoseIf b old new) (sym plain) same

pub write-reads : (r : Result (Unit {0}) SessionEnd) (old new : ℕ) → IfErr r (λ how. (how ≡ end.WriteFault) ⊎ (how ≡ end.Memory)) → new ≡ old → RoseAt is_read_fault r old new
write-reads (Ok done) old new cause same = same
write-reads (Err how) old new (inl e) same = subst (λ h. RoseIf (is_read_fault h) old new) (sym e) same
write-reads (Err how) old new (inr e) same = subst (λ h. RoseIf (is_read_fault h) old new) (sym e) same

pub write-halts : (r : Result (Unit {0}) SessionEnd) → IfErr r (λ how. (how ≡ end.WriteFault) ⊎ (how ≡ end.Memory)) → IfErr r (λ how. is_halted how ≡ false)
write-halts (Ok done) cause = tt
write-halts (Err how) (inl e) = ap is_halted e
write-halts (Err how) (inr e) = ap is_halted e

pub untold-so : (at : AtKeeper) (reply : Reply) (old new : PassValue) (written written' : Option (List ℕ)) (r : Result (Unit {0}) SessionEnd) → at.settled new → OnErr r (AppendsPrefix written written' (reply_line reply)) → IfErr r (λ how. (how ≡ end.WriteFault) ⊎ (how ≡ end.Memory))
    → IfErr r (λ how. EndsReply at how reply old written new written')
untold-so at reply old new written written' (Ok done) settled part cause = tt
untold-so at reply old new written written' (Err how) settled part cause = inr (settled, part, cause)
