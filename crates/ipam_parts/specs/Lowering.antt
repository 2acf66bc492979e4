-- What is left of the lowering of a count at each of its stages.
use Rattle.std.specs.Prelude.{ℕ, List}
use Rattle.ipam_addr.specs.Shape.{CidrValue}
use Rattle.ipam_records.specs.Label.{owing}
use Rattle.ipam_records.specs.Said.{Said}
use Rattle.ipam_records.specs.Word.{Ends, Asks}
use Rattle.ipam_model.specs.declared.part.Left.{Left}
use Rattle.ipam_model.specs.Counting.{credit_of, lower_once, lowering}
use Rattle.ipam_model.specs.Step.{Part, goes as went, on_write}
use Rattle.ipam_parts.specs.Tries.{again_of}
use Rattle.ipam_parts.specs.declared.lowering.Stage.{Stage}
use Rattle.ipam_parts.specs.declared.lowering.Stage.TheVariants.{Reads, Writes}
use Rattle.ipam_parts.specs.declared.lowering.Goes.{Goes}
use Rattle.ipam_parts.specs.declared.lowering.Goes.TheVariants as goes
use Rattle.ipam_parts.specs.declared.lowering.Lowering.{Lowering}
use Rattle.ipam_parts.specs.declared.lowering.LoweringTurned.{LoweringTurned}

abbrev pub lowering_again : List ℕ → CidrValue → (amount : ℕ) → Left → Part (Unit {0})
lowering_again id cidr amount left = again_of (lower_once (credit_of id cidr amount)) left

-- what follows the write
abbrev pub lowering_written : List ℕ → CidrValue → (amount : ℕ) → Left → Said → Part (Unit {0})
lowering_written id cidr amount left reply = on_write reply left (λ revision. went left tt) (lowering_again id cidr amount left)

abbrev pub lowering_at : List ℕ → CidrValue → (amount : ℕ) → Left → Stage → Part (Unit {0})
lowering_at id cidr amount left Reads = lower_once (credit_of id cidr amount) (lowering_again id cidr amount left) left
lowering_at id cidr amount left (Writes lowered) =
    Asks (owing (credit_of id cidr amount)) (lowering lowered.handle lowered.revision)
    (λ moment reply. lowering_written id cidr amount left reply)

abbrev pub lowering_rest : List ℕ → Lowering → Part (Unit {0})
lowering_rest id l = lowering_at id l.cidr l.amount l.left l.stage

-- what is left once it goes there
abbrev pub lowering_goes : List ℕ → Lowering → Goes → Part (Unit {0})
lowering_goes id l (goes.Writes lowered) = lowering_at id l.cidr l.amount l.left (Writes lowered)
lowering_goes id l (goes.Again left) = lowering_at id l.cidr l.amount left Reads
lowering_goes id l (goes.Ends outcome) = Ends outcome

abbrev pub lowering_leaves : List ℕ → Lowering → LoweringTurned → Part (Unit {0})
lowering_leaves id l turned = lowering_goes id l turned.goes
