-- Raising and lowering a handle's count of a block, and freeing what a handle holds in a block.
use Rattle.std.specs.Prelude.{ℕ, zero, suc, ◌-◌, ◌^◌, Bool, nat_le, List, [], ◌∷◌, Option, Some, None, if◌then◌else◌}
use Rattle.std.specs.List.{count_by}
use Rattle.ipam_addr.specs.Shape.{CidrValue}
use Rattle.ipam_block.specs.declared.allocation.Allocation.{Allocation}
use Rattle.ipam_block.specs.Shape as block
use Rattle.ipam_block.specs.Operations.{next_block, block_without, is_owned, is_stamped}
use Rattle.ipam_block.specs.HandleShape as handle
use Rattle.ipam_block.specs.HandleOperations.{count_of, with_raised_count, with_lowered_count}
use Rattle.ipam_records.specs.declared.key.Key.TheVariants as key
use Rattle.ipam_records.specs.declared.call.Call.{Call}
use Rattle.ipam_records.specs.declared.call.Call.TheVariants.{Get, Update, Delete}
use Rattle.ipam_records.specs.declared.record.Record.TheVariants as record_of
use Rattle.ipam_records.specs.Said.{Said, Found}
use Rattle.ipam_records.specs.Label.{Credit, idle, owing}
use Rattle.ipam_records.specs.Word.{Asks}
use Rattle.ipam_model.specs.Reads.{handle_said, block_said}
use Rattle.ipam_model.specs.declared.part.Left.{Left}
use Rattle.ipam_model.specs.declared.part.Stop.TheVariants.{CountAtLimit}
use Rattle.ipam_model.specs.Step.{Part, goes, stops, part_then, write_back, on_write, with_retries}

-- the highest count of a block in a handle
abbrev pub most_count : ℕ
most_count = 2 ^ 32 - 1

-- ---- raising the count by one

abbrev pub raise_write : (id : List ℕ) (cidr : CidrValue) → (again : Part (Unit {0})) → Left → Said → Part (Unit {0})
raise_write id cidr again left said =
    Asks idle (write_back said (record_of.Handle (with_raised_count (handle_said id said) cidr 1)))
    (λ moment reply. on_write reply left (λ revision. goes left tt) again)

abbrev pub raise_once : (id : List ℕ) (cidr : CidrValue) → (again : Part (Unit {0})) → Left → Part (Unit {0})
raise_once id cidr again left =
    Asks idle (Get (key.Handle id)) (λ moment said.
    if nat_le most_count (count_of (handle_said id said) cidr) then stops left (CountAtLimit moment)
    else raise_write id cidr again left said)

abbrev pub raise : (id : List ℕ) (cidr : CidrValue) → Left → Part (Unit {0})
raise id cidr left = with_retries (raise_once id cidr) left

-- ---- lowering it by what there is a credit for

-- the revision of what was found
abbrev pub revision_said : Said → ℕ
revision_said (Found revision found) = revision
revision_said _ = 0

-- a handle without counts is deleted
abbrev pub written_or_deleted : handle.HandleValue → (counts : List (CidrValue × ℕ)) → ℕ → Call
written_or_deleted h [] revision = Delete (key.Handle h.id) revision
written_or_deleted h (count ∷ counts) revision = Update (record_of.Handle h) revision

abbrev pub lowering : handle.HandleValue → ℕ → Call
lowering h revision = written_or_deleted h h.counts revision

abbrev pub lower_write : Credit → (again : Part (Unit {0})) → Left → Said → Part (Unit {0})
lower_write credit again left said =
    Asks (owing credit)
    (lowering (with_lowered_count (handle_said credit.handle said) credit.block credit.amount) (revision_said said))
    (λ moment reply. on_write reply left (λ revision. goes left tt) again)

abbrev pub lower_once : Credit → (again : Part (Unit {0})) → Left → Part (Unit {0})
lower_once credit again left =
    Asks (owing credit) (Get (key.Handle credit.handle)) (λ moment said. lower_write credit again left said)

abbrev pub lower : Credit → Left → Part (Unit {0})
lower credit left = with_retries (lower_once credit) left

-- ---- freeing

abbrev pub credit_of : List ℕ → CidrValue → ℕ → Credit
credit_of id cidr amount = record { handle = id; block = cidr; amount = amount }

-- what is freed: the allocations of a block that are picked, which the handle of this id holds
pub record FreedOfHandle : Type 0 where
  pub handle : List ℕ
  pub block : CidrValue
  pub picks : Allocation → Bool

-- all that the handle holds
abbrev pub freeing_all : List ℕ → CidrValue → FreedOfHandle
freeing_all id cidr = record { handle = id; block = cidr; picks = is_owned id }

-- the ordinal, where it is held with this stamp
abbrev pub freeing_one : List ℕ → CidrValue → (ordinal stamp : ℕ) → FreedOfHandle
freeing_one id cidr ordinal stamp = record { handle = id; block = cidr; picks = is_stamped ordinal id stamp }

-- so many are freed: the block is written without them, and the count is lowered
abbrev pub free_these : FreedOfHandle → (again : Part ℕ) → Left → (amount : ℕ) → ℕ × block.BlockValue → Part ℕ
free_these what again left zero found = goes left 0
free_these what again left (suc more) (revision, b) =
    Asks idle (Update (record_of.Block (block_without what.picks (next_block b))) revision)
    (λ moment reply. on_write reply left
    (λ taken. part_then (lower (credit_of what.handle what.block (suc more)) left) (λ now done. goes now (suc more)))
    again)

abbrev pub free_found : FreedOfHandle → (again : Part ℕ) → Left → Option (ℕ × block.BlockValue) → Part ℕ
free_found what again left None = goes left 0
free_found what again left (Some found) =
    free_these what again left (count_by what.picks found.1.allocations) found

abbrev pub free_once : FreedOfHandle → (again : Part ℕ) → Left → Part ℕ
free_once what again left =
    Asks idle (Get (key.Block what.block)) (λ moment said. free_found what again left (block_said said))

-- It comes to how many were freed. Where there are none, nothing is written.
abbrev pub free : FreedOfHandle → Left → Part ℕ
free what left = with_retries (free_once what) left
