-- What is left of an assignment at each of its stages.
use Rattle.std.specs.Prelude.{ℕ, List, Option, Some, None}
use Rattle.ipam_block.specs.Shape.{BlockValue}
use Rattle.ipam_records.specs.declared.call.Call.TheVariants.{Update}
use Rattle.ipam_records.specs.declared.record.Record.TheVariants as record_of
use Rattle.ipam_records.specs.Label.{owing}
use Rattle.ipam_records.specs.Said.{Said}
use Rattle.ipam_records.specs.Word.{Ends, Asks}
use Rattle.ipam_model.specs.declared.part.Assigned.{Assigned}
use Rattle.ipam_model.specs.declared.part.Left.{Left}
use Rattle.ipam_model.specs.declared.part.Outcome.{Outcome}
use Rattle.ipam_model.specs.declared.part.Outcome.TheVariants.{Went, Stops}
use Rattle.ipam_model.specs.Counting.{credit_of, lower}
use Rattle.ipam_model.specs.Step.{Part, goes as went, part_then, after_lost, on_write}
use Rattle.ipam_parts.specs.Lowering.{lowering_rest, lowering_leaves}
use Rattle.ipam_parts.specs.Raising.{raising_rest, raising_leaves}
use Rattle.ipam_parts.specs.declared.lowering.LoweringTurned.{LoweringTurned}
use Rattle.ipam_parts.specs.declared.raising.RaisingTurned.{RaisingTurned}
use Rattle.ipam_assign.specs.declared.assigning.Stage.{Stage}
use Rattle.ipam_assign.specs.declared.assigning.Stage.TheVariants.{Raises, Writes, Lowers}
use Rattle.ipam_assign.specs.declared.assigning.Goes.{Goes}
use Rattle.ipam_assign.specs.declared.assigning.Goes.TheVariants as goes
use Rattle.ipam_assign.specs.declared.assigning.Assigning.{Assigning}
use Rattle.ipam_assign.specs.declared.assigning.AssigningTurned.{AssigningTurned}

abbrev pub PartAssigned : Type 0
PartAssigned = Part (Option Assigned)

-- after the lowering, nothing was assigned
abbrev pub nothing : Left → Unit {0} → PartAssigned
nothing now done = went now None

-- what follows a lost write of the block, which was to be written so
abbrev pub lost_at : List ℕ → BlockValue → Left → PartAssigned
lost_at id b left =
    after_lost left.races left.claims (λ less. part_then (lower (credit_of id b.cidr 1) less) nothing)

-- what follows the write of the block
abbrev pub written_at : List ℕ → BlockValue → Left → (moment : ℕ) → Said → PartAssigned
written_at id b left moment said =
    on_write said left (λ taken. went left (Some (record { moment = moment; stamp = b.sequence }))) (lost_at id b left)

abbrev pub writes : List ℕ → BlockValue → (revision : ℕ) → Left → PartAssigned
writes id b revision left =
    Asks (owing (credit_of id b.cidr 1)) (Update (record_of.Block b) revision)
    (λ moment said. written_at id b left moment said)

-- after the raising, the block is written
abbrev pub write_after : List ℕ → BlockValue → (revision : ℕ) → Left → Unit {0} → PartAssigned
write_after id b revision now done = writes id b revision now

abbrev pub assigning_at : List ℕ → BlockValue → (revision : ℕ) → Stage → PartAssigned
assigning_at id b revision (Raises raising) = part_then (raising_rest id raising) (write_after id b revision)
assigning_at id b revision (Writes left) = writes id b revision left
assigning_at id b revision (Lowers lowering) = part_then (lowering_rest id lowering) nothing

abbrev pub assigning_rest : List ℕ → Assigning → PartAssigned
assigning_rest id a = assigning_at id a.block a.revision a.stage

-- what is left once the raising goes where a reply led it; no other stage has one
abbrev pub raises_leaves : List ℕ → BlockValue → (revision : ℕ) → Stage → RaisingTurned → PartAssigned
raises_leaves id b revision (Raises raising) turned =
    part_then (raising_leaves id raising turned) (write_after id b revision)
raises_leaves id b revision stage turned = assigning_at id b revision stage

-- what is left once the lowering goes where a reply led it; no other stage has one
abbrev pub lowers_leaves : List ℕ → BlockValue → (revision : ℕ) → Stage → LoweringTurned → PartAssigned
lowers_leaves id b revision (Lowers lowering) turned = part_then (lowering_leaves id lowering turned) nothing
lowers_leaves id b revision stage turned = assigning_at id b revision stage

-- what is left once it goes there
abbrev pub assigning_goes : List ℕ → Assigning → Goes → PartAssigned
assigning_goes id a (goes.Raise turned) = raises_leaves id a.block a.revision a.stage turned
assigning_goes id a (goes.Lower turned) = lowers_leaves id a.block a.revision a.stage turned
assigning_goes id a (goes.Lowers lowering) = assigning_at id a.block a.revision (Lowers lowering)
assigning_goes id a (goes.Ends outcome) = Ends outcome

abbrev pub assigning_leaves : List ℕ → Assigning → AssigningTurned → PartAssigned
assigning_leaves id a turned = assigning_goes id a turned.goes

-- what the whole came to, where the lowering came to this
abbrev pub none_after : Outcome (Unit {0}) → Outcome (Option Assigned)
none_after (Went left done) = Went left None
none_after (Stops left why) = Stops left why
