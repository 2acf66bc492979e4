-- What is left of a DEL at each of its stages.
use Rattle.std.specs.Prelude.{ℕ, List}
use Rattle.ipam_addr.specs.Shape.{CidrValue}
use Rattle.ipam_records.specs.Word.{Word, Ends}
use Rattle.ipam_model.specs.declared.outcome.DelAnswer.{DelAnswer}
use Rattle.ipam_model.specs.declared.part.Left.{Left}
use Rattle.ipam_model.specs.Remove.{del_word, del_stops, del_blocks}
use Rattle.ipam_model.specs.Step.{Part, part_then, as_word}
use Rattle.ipam_parts.specs.declared.freeing.FreeingTurned.{FreeingTurned}
use Rattle.ipam_parts.specs.Freeing.{freeing_rest, freeing_leaves}
use Rattle.ipam_release.specs.declared.del.DelProc.{DelProc}
use Rattle.ipam_release.specs.declared.del.DelTurned.{DelTurned}
use Rattle.ipam_release.specs.declared.del.Frees.{Frees as Freed}
use Rattle.ipam_release.specs.declared.del.Stage.{Stage}
use Rattle.ipam_release.specs.declared.del.Stage.TheVariants.{Reads, Frees}
use Rattle.ipam_release.specs.declared.del.Goes.{Goes}
use Rattle.ipam_release.specs.declared.del.Goes.TheVariants as goes

-- what is left while these blocks are
abbrev pub blocks_left : (id : List ℕ) (moment : ℕ) → List CidrValue → Left → Word DelAnswer
blocks_left id moment blocks left = as_word del_stops (del_blocks id moment blocks left)

-- what follows the freeing in a block, with these blocks left
abbrev pub then_blocks : (id : List ℕ) (moment : ℕ) → List CidrValue → Left → (amount : ℕ) → Part DelAnswer
then_blocks id moment blocks left amount = del_blocks id moment blocks left

abbrev pub parts_at : List ℕ → Freed → Word DelAnswer
parts_at id f =
    as_word del_stops (part_then (freeing_rest id f.freeing) (then_blocks id f.moment f.blocks.items))

abbrev pub parts_leaves : List ℕ → Freed → FreeingTurned → Word DelAnswer
parts_leaves id f turned =
    as_word del_stops (part_then (freeing_leaves id f.freeing turned) (then_blocks id f.moment f.blocks.items))

abbrev pub del_at : List ℕ → Stage → Word DelAnswer
del_at id Reads = del_word id
del_at id (Frees f) = parts_at id f

-- what is left once the freeing goes where a reply led it; no other stage has one
abbrev pub frees_leaves : List ℕ → Stage → FreeingTurned → Word DelAnswer
frees_leaves id Reads turned = del_word id
frees_leaves id (Frees f) turned = parts_leaves id f turned

abbrev pub del_rest : DelProc → Word DelAnswer
del_rest p = del_at p.id p.stage

-- what is left once the DEL goes there
abbrev pub del_goes : DelProc → Goes → Word DelAnswer
del_goes p (goes.To stage) = del_at p.id stage
del_goes p (goes.Frees turned) = frees_leaves p.id p.stage turned
del_goes p (goes.Answers answer) = Ends answer

abbrev pub del_leaves : DelProc → DelTurned → Word DelAnswer
del_leaves p turned = del_goes p turned.goes
