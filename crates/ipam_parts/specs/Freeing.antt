-- What is left of the freeing of addresses at each of its stages.
use Rattle.std.specs.Prelude.{ℕ, Bool, List, Option}
use Rattle.ipam_addr.specs.Shape.{CidrValue}
use Rattle.ipam_block.specs.declared.allocation.Allocation.{Allocation}
use Rattle.ipam_block.specs.Shape.{BlockValue}
use Rattle.ipam_block.specs.Operations.{is_owned, is_stamped}
use Rattle.ipam_records.specs.declared.call.Call.TheVariants.{Update}
use Rattle.ipam_records.specs.declared.record.Record.TheVariants as record_of
use Rattle.ipam_records.specs.Label.{idle}
use Rattle.ipam_records.specs.Said.{Said}
use Rattle.ipam_records.specs.Word.{Ends, Asks}
use Rattle.ipam_model.specs.declared.part.Left.{Left}
use Rattle.ipam_model.specs.declared.part.Outcome.{Outcome}
use Rattle.ipam_model.specs.declared.part.Outcome.TheVariants.{Went, Stops}
use Rattle.ipam_model.specs.Counting.{FreedOfHandle as What, free_found, free_once, lower, credit_of}
use Rattle.ipam_model.specs.Step.{Part, goes as went, part_then, on_write}
use Rattle.ipam_parts.specs.Tries.{again_of}
use Rattle.ipam_parts.specs.Lowering.{lowering_rest, lowering_leaves}
use Rattle.ipam_parts.specs.declared.lowering.LoweringTurned.{LoweringTurned}
use Rattle.ipam_parts.specs.declared.freeing.Picks.{Picks}
use Rattle.ipam_parts.specs.declared.freeing.Picks.TheVariants.{All, Stamped}
use Rattle.ipam_parts.specs.declared.freeing.Stage.{Stage}
use Rattle.ipam_parts.specs.declared.freeing.Stage.TheVariants.{Reads, Writes, Lowers}
use Rattle.ipam_parts.specs.declared.freeing.Goes.{Goes}
use Rattle.ipam_parts.specs.declared.freeing.Goes.TheVariants as goes
use Rattle.ipam_parts.specs.declared.freeing.Freeing.{Freeing}
use Rattle.ipam_parts.specs.declared.freeing.FreeingTurned.{FreeingTurned}

abbrev pub picked : List ℕ → Picks → Allocation → Bool
picked id All = is_owned id
picked id (Stamped ordinal stamp) = is_stamped ordinal id stamp

abbrev pub what_of : List ℕ → CidrValue → Picks → What
what_of id cidr picks = record { handle = id; block = cidr; picks = picked id picks }

abbrev pub freeing_again : List ℕ → CidrValue → Picks → Left → Part ℕ
freeing_again id cidr picks left = again_of (free_once (what_of id cidr picks)) left

-- what follows the lowering
abbrev pub with_amount : (amount : ℕ) → Left → Unit {0} → Part ℕ
with_amount amount now done = went now amount

-- what follows the write
abbrev pub freeing_written : List ℕ → CidrValue → Picks → Left → (amount : ℕ) → Said → Part ℕ
freeing_written id cidr picks left amount reply =
    on_write reply left
    (λ taken. part_then (lower (credit_of id cidr amount) left) (with_amount amount))
    (freeing_again id cidr picks left)

-- what follows the read
abbrev pub freeing_found : List ℕ → CidrValue → Picks → Left → Option (ℕ × BlockValue) → Part ℕ
freeing_found id cidr picks left found =
    free_found (what_of id cidr picks) (freeing_again id cidr picks left) left found

abbrev pub freeing_at : List ℕ → CidrValue → Picks → Left → Stage → Part ℕ
freeing_at id cidr picks left Reads = free_once (what_of id cidr picks) (freeing_again id cidr picks left) left
freeing_at id cidr picks left (Writes freed) =
    Asks idle (Update (record_of.Block freed.block) freed.revision)
    (λ moment reply. freeing_written id cidr picks left freed.amount reply)
freeing_at id cidr picks left (Lowers amount lowering) = part_then (lowering_rest id lowering) (with_amount amount)

abbrev pub freeing_rest : List ℕ → Freeing → Part ℕ
freeing_rest id f = freeing_at id f.cidr f.picks f.left f.stage

-- what is left once the lowering goes where a reply led it; no other stage has one
abbrev pub lowers_leaves : List ℕ → CidrValue → Picks → Left → Stage → LoweringTurned → Part ℕ
lowers_leaves id cidr picks left (Lowers amount lowering) turned =
    part_then (lowering_leaves id lowering turned) (with_amount amount)
lowers_leaves id cidr picks left stage turned = freeing_at id cidr picks left stage

-- what is left once it goes there
abbrev pub freeing_goes : List ℕ → Freeing → Goes → Part ℕ
freeing_goes id f (goes.To stage) = freeing_at id f.cidr f.picks f.left stage
freeing_goes id f (goes.Again left) = freeing_at id f.cidr f.picks left Reads
freeing_goes id f (goes.Lower turned) = lowers_leaves id f.cidr f.picks f.left f.stage turned
freeing_goes id f (goes.Ends outcome) = Ends outcome

abbrev pub freeing_leaves : List ℕ → Freeing → FreeingTurned → Part ℕ
freeing_leaves id f turned = freeing_goes id f turned.goes

-- what the whole came to, where the lowering came to this
abbrev pub amount_in : (amount : ℕ) → Outcome (Unit {0}) → Outcome ℕ
amount_in amount (Went left done) = Went left amount
amount_in amount (Stops left why) = Stops left why
