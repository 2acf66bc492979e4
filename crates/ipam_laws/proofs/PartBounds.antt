-- The parts of requests: each lost race costs so many calls, and each part leaves what it does not need.
use Rattle.std.proofs.Common.{ℕ, zero, suc, ◌+◌, ◌*◌, ◌-◌, ◌≤◌, true, false, Bool, cond, List, Option, Some, None, arith}
use Rattle.std.specs.Prelude.{nat_le}
use Rattle.std.specs.List.{count_by}
use Rattle.ipam_addr.specs.Shape.{CidrValue}
use Rattle.ipam_block.specs.Shape as block
use Rattle.ipam_records.specs.Label.{Credit}
use Rattle.ipam_records.specs.Said.{Said}
use Rattle.ipam_records.specs.Word.{Word}
use Rattle.ipam_block.specs.HandleOperations.{count_of}
use Rattle.ipam_addr.specs.declared.address.Family.{Family}
use Rattle.ipam_model.specs.declared.answer.Scan.{Scan}
use Rattle.ipam_model.specs.Add.{five_reads}
use Rattle.ipam_model.specs.Choice.{Seen}
use Rattle.ipam_model.specs.Reads.{handle_said, block_said}
use Rattle.ipam_model.specs.declared.part.Left.{Left}
use Rattle.ipam_model.specs.declared.part.Outcome.{Outcome}
use Rattle.ipam_model.specs.declared.part.Stop.TheVariants.{OutOfTries, NoRoom, NoRevisions, CountAtLimit}
use Rattle.ipam_model.specs.declared.part.Outcome.TheVariants.{Went, Stops}
use Rattle.ipam_model.specs.Step.{left_of, Part, goes, stops, tries}
use Rattle.ipam_model.specs.Counting.{most_count, raise, raise_once, raise_write, lower, lower_once, FreedOfHandle, free, free_once, free_found, free_these, credit_of}
use Rattle.ipam_laws.proofs.SeenReads.{seen_by_replies}
use Rattle.ipam_laws.proofs.Within.{Within, Within-followed, Within-after_write}

-- so many calls for each race that may still be lost, and for each claim that may be confirmed
abbrev pub worth : (each claim : ℕ) → Left → ℕ
worth each claim left = each * left.races + claim * left.claims

-- these are left, and so many more
abbrev pub Leaves : {A : Type 0} → (each claim more : ℕ) → Outcome A → ℕ → Type 0
Leaves each claim more (Went left done) count = worth each claim left + more ≤ count
Leaves each claim more (Stops left why) count = worth each claim left + more ≤ count

module _ (each claim more : ℕ) where
  -- ---- raising

  raise_read-within : (left : Left) (count : ℕ) (id : List ℕ) (cidr : CidrValue) (again : Part (Unit {0})) (moment : ℕ) (said : Said) (b : Bool) → worth each claim left + more + 1 ≤ count → Within (Leaves each claim more) again (count - 1) → Within (Leaves each claim more) (cond b (stops left (CountAtLimit moment)) (raise_write id cidr again left said)) count
  raise_read-within left count id cidr again moment said true h a = omega arith
  raise_read-within left count id cidr again moment said false h a = (
    omega arith,
    λ second reply.
        Within-after_write (Leaves each claim more) reply (λ revision. goes left tt) again (stops left NoRoom) (stops left NoRevisions) (count - 1)
        (λ revision. omega arith) a (omega arith) (omega arith),
  )

  raise_once-within : (left : Left) (count : ℕ) (id : List ℕ) (cidr : CidrValue) (again : Part (Unit {0})) → worth each claim left + more + 2 ≤ count → Within (Leaves each claim more) again (count - 1 - 1) → Within (Leaves each claim more) (raise_once id cidr again left) count
  raise_once-within left count id cidr again h a = (
    omega arith,
    λ moment said.
        raise_read-within left (count - 1) id cidr again moment said (nat_le most_count (count_of (handle_said id said) cidr)) (omega arith) a,
  )

  raise_tries-within : (races claims count : ℕ) (id : List ℕ) (cidr : CidrValue) → 2 ≤ each → each * races + claim * claims + more + 2 ≤ count → Within (Leaves each claim more) (tries (raise_once id cidr) races claims) count
  unfolding tries
  raise_tries-within zero claims count id cidr two h = raise_once-within (left_of zero claims) count id cidr (stops (left_of zero claims) OutOfTries) h (omega arith)
  raise_tries-within (suc races) claims count id cidr two h =
      raise_once-within (left_of (suc races) claims) count id cidr (tries (raise_once id cidr) races claims) h
      (raise_tries-within races claims (count - 1 - 1) id cidr two (omega arith))

  pub raise-within : (left : Left) (count : ℕ) (id : List ℕ) (cidr : CidrValue) → 2 ≤ each → worth each claim left + more + 2 ≤ count → Within (Leaves each claim more) (raise id cidr left) count
  raise-within left count id cidr two h = raise_tries-within left.races left.claims count id cidr two h

  -- ---- lowering

  lower_once-within : (left : Left) (count : ℕ) (credit : Credit) (again : Part (Unit {0})) → worth each claim left + more + 2 ≤ count → Within (Leaves each claim more) again (count - 1 - 1) → Within (Leaves each claim more) (lower_once credit again left) count
  lower_once-within left count credit again h a = (
    omega arith,
    λ moment said. (
      omega arith,
      λ second reply.
          Within-after_write (Leaves each claim more) reply (λ revision. goes left tt) again (stops left NoRoom) (stops left NoRevisions) (count - 1 - 1)
          (λ revision. omega arith) a (omega arith) (omega arith),
    ),
  )

  lower_tries-within : (races claims count : ℕ) (credit : Credit) → 2 ≤ each → each * races + claim * claims + more + 2 ≤ count → Within (Leaves each claim more) (tries (lower_once credit) races claims) count
  unfolding tries
  lower_tries-within zero claims count credit two h = lower_once-within (left_of zero claims) count credit (stops (left_of zero claims) OutOfTries) h (omega arith)
  lower_tries-within (suc races) claims count credit two h =
      lower_once-within (left_of (suc races) claims) count credit (tries (lower_once credit) races claims) h
      (lower_tries-within races claims (count - 1 - 1) credit two (omega arith))

  pub lower-within : (left : Left) (count : ℕ) (credit : Credit) → 2 ≤ each → worth each claim left + more + 2 ≤ count → Within (Leaves each claim more) (lower credit left) count
  lower-within left count credit two h = lower_tries-within left.races left.claims count credit two h

  -- ---- freeing

  free_these-within : (left : Left) (count : ℕ) (what : FreedOfHandle) (again : Part ℕ) (amount : ℕ) (found : ℕ × block.BlockValue) → 2 ≤ each → worth each claim left + more + 3 ≤ count → Within (Leaves each claim more) again (count - 1) → Within (Leaves each claim more) (free_these what again left amount found) count
  free_these-within left count what again zero found two h a = omega arith
  free_these-within left count what again (suc amount) (revision, b) two h a = (
    omega arith,
    λ moment reply.
        Within-after_write (Leaves each claim more) reply _ again (stops left NoRoom) (stops left NoRevisions) (count - 1)
        (λ taken. Within-followed (Leaves each claim more) (Leaves each claim more) (lower (credit_of what.handle what.block (suc amount)) left) (λ now done. goes now (suc amount)) (count - 1)
        (lower-within left (count - 1) (credit_of what.handle what.block (suc amount)) two (omega arith))
        (λ now done rest k. k) (λ now why rest k. k))
        a (omega arith) (omega arith),
  )

  free_found-within : (left : Left) (count : ℕ) (what : FreedOfHandle) (again : Part ℕ) (found : Option (ℕ × block.BlockValue)) → 2 ≤ each → worth each claim left + more + 3 ≤ count → Within (Leaves each claim more) again (count - 1) → Within (Leaves each claim more) (free_found what again left found) count
  free_found-within left count what again None two h a = omega arith
  free_found-within left count what again (Some found) two h a =
      free_these-within left count what again (count_by what.picks found.1.allocations) found two h a

  free_once-within : (left : Left) (count : ℕ) (what : FreedOfHandle) (again : Part ℕ) → 2 ≤ each → worth each claim left + more + 4 ≤ count → Within (Leaves each claim more) again (count - 1 - 1) → Within (Leaves each claim more) (free_once what again left) count
  free_once-within left count what again two h a = (
    omega arith,
    λ moment said.
        free_found-within left (count - 1) what again (block_said said) two (omega arith) a,
  )

  free_tries-within : (races claims count : ℕ) (what : FreedOfHandle) → 2 ≤ each → each * races + claim * claims + more + 4 ≤ count → Within (Leaves each claim more) (tries (free_once what) races claims) count
  unfolding tries
  free_tries-within zero claims count what two h = free_once-within (left_of zero claims) count what (stops (left_of zero claims) OutOfTries) two h (omega arith)
  free_tries-within (suc races) claims count what two h =
      free_once-within (left_of (suc races) claims) count what (tries (free_once what) races claims) two h
      (free_tries-within races claims (count - 1 - 1) what two (omega arith))

  pub free-within : (left : Left) (count : ℕ) (what : FreedOfHandle) → 2 ≤ each → worth each claim left + more + 4 ≤ count → Within (Leaves each claim more) (free what left) count
  free-within left count what two h = free_tries-within left.races left.claims count what two h

-- ---- the five reads of a round

pub five_reads-within : {A : Type 0} → (P : A → ℕ → Type 0) (family : Family) (follows : Scan → Seen → Word A) (count : ℕ) → 5 ≤ count → ((scan : Scan) (seen : Seen) → Within P (follows scan seen) (count - 1 - 1 - 1 - 1 - 1)) → Within P (five_reads family follows) count
five_reads-within P family follows count h k = (
  omega arith,
  λ c config. (
    omega arith,
    λ p pools. (
      omega arith,
      λ r reservations. (
        omega arith,
        λ f affinities. (
          omega arith,
          λ b blocks.
              k (record { family = family; c = c; p = p; r = r; f = f; b = b })
              (seen_by_replies config pools reservations affinities blocks),
        ),
      ),
    ),
  ),
)
