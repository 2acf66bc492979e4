-- What is left of a DEL while it frees in a block, and when it comes to the next.
use Rattle.std.proofs.Common.{◌≡◌, refl, sym, ap, ◌∙◌, subst, ℕ, List, [], ◌∷◌, Some, None, IsSome}
use Rattle.ipam_addr.specs.Shape.{CidrValue}
use Rattle.ipam_records.specs.Hearing.{MayHear}
use Rattle.ipam_records.specs.Said.{Said}
use Rattle.ipam_records.specs.Word.{Word, Ends, Asks, Waits, next_call, after_reply, answer_in}
use Rattle.ipam_model.specs.declared.outcome.DelAnswer.TheVariants.{Deleted}
use Rattle.ipam_model.specs.declared.part.Left.{Left}
use Rattle.ipam_model.specs.declared.part.Stop.{Stop}
use Rattle.ipam_model.specs.declared.part.Outcome.TheVariants.{Went, Stops}
use Rattle.ipam_model.specs.Counting.{freeing_all, free}
use Rattle.ipam_model.specs.Remove.{del_stops, del_blocks}
use Rattle.ipam_model.specs.Step.{Part, part_then, as_word, stop_answer}
use Rattle.ipam_parts.specs.declared.freeing.Freeing.{Freeing}
use Rattle.ipam_parts.specs.declared.freeing.FreeingTurned.{FreeingTurned}
use Rattle.ipam_parts.specs.Freeing.{freeing_rest, freeing_leaves}
use Rattle.ipam_parts.proofs.FreeingAsks.{freeing_asks, asks_freeing, hears_freeing, may_hear_freeing}
use Rattle.ipam_parts.proofs.SettledLaws.{goes_on_settled, ended_settled}
use Rattle.ipam_release.specs.declared.del.Frees.{Frees as Freed}
use Rattle.ipam_release.specs.declared.del.Stage.{Stage}
use Rattle.ipam_release.specs.declared.del.Stage.TheVariants.{Frees}
use Rattle.ipam_release.specs.Del.{blocks_left, then_blocks, parts_at, parts_leaves, del_at, frees_leaves}

pub asks : (id : List ℕ) (moment : ℕ) (blocks : List CidrValue) (f : Freeing)
    → next_call (as_word del_stops (part_then (freeing_rest id f) (then_blocks id moment blocks))) ≡ next_call (freeing_rest id f)
asks id moment blocks f = asks_freeing del_stops (then_blocks id moment blocks) id f

pub may_hear : (id : List ℕ) (moment : ℕ) (blocks : List CidrValue) (f : Freeing) (said : Said)
    → MayHear (as_word del_stops (part_then (freeing_rest id f) (then_blocks id moment blocks))) said
    → MayHear (freeing_rest id f) said
may_hear id moment blocks f said may = may_hear_freeing del_stops (then_blocks id moment blocks) id f said may

pub hears : (id : List ℕ) (at : ℕ) (blocks : List CidrValue) (f : Freeing) (turned : FreeingTurned) (moment : ℕ) (said : Said)
    → freeing_leaves id f turned ≡ after_reply (freeing_rest id f) moment said
    → as_word del_stops (part_then (freeing_leaves id f turned) (then_blocks id at blocks))
    ≡ after_reply (as_word del_stops (part_then (freeing_rest id f) (then_blocks id at blocks))) moment said
hears id at blocks f turned moment said is =
    hears_freeing del_stops (then_blocks id at blocks) id f turned moment said is

pub goes_on : (id : List ℕ) (moment : ℕ) (blocks : List CidrValue) (part : Part ℕ) → None ≡ answer_in part
    → None ≡ answer_in (as_word del_stops (part_then part (then_blocks id moment blocks)))
goes_on id moment blocks part none = goes_on_settled del_stops part (then_blocks id moment blocks) none

-- where the freeing stopped, so does the DEL
pub stops : (id : List ℕ) (moment : ℕ) (blocks : List CidrValue) (part : Part ℕ) (left : Left) (why : Stop)
    → Some (Stops left why) ≡ answer_in part
    → Some (stop_answer del_stops left why) ≡ answer_in (as_word del_stops (part_then part (then_blocks id moment blocks)))
stops id moment blocks part left why is =
    ap answer_in (ended_settled del_stops part (then_blocks id moment blocks) (Stops left why) is)

-- and where it came to something, the other blocks are left
pub went : (id : List ℕ) (moment : ℕ) (blocks : List CidrValue) (part : Part ℕ) (left : Left) (amount : ℕ)
    → Some (Went left amount) ≡ answer_in part
    → blocks_left id moment blocks left ≡ as_word del_stops (part_then part (then_blocks id moment blocks))
went id moment blocks part left amount is =
    ended_settled del_stops part (then_blocks id moment blocks) (Went left amount) is

not_ended : {A : Type 0} (word : Word A) → IsSome (next_call word) → None ≡ answer_in word
not_ended (Ends answer) some = absurd (cc some)
not_ended (Asks label call next) some = refl
not_ended (Waits next) some = absurd (cc some)

asks_none : (id : List ℕ) (f : Freeing) → None ≡ answer_in (freeing_rest id f)
asks_none id f = not_ended (freeing_rest id f) (freeing_asks id f)

pub none_left : (id : List ℕ) (moment : ℕ) (blocks : List CidrValue) (left : Left) → blocks ≡ []
    → Ends (Deleted moment) ≡ blocks_left id moment blocks left
unfolding del_blocks
none_left id moment blocks left none = ap (λ list. blocks_left id moment list left) (sym none)

next_block : (id : List ℕ) (moment : ℕ) (cidr : CidrValue) (rest : List CidrValue) (left : Left)
    → as_word del_stops (part_then (free (freeing_all id cidr) left) (then_blocks id moment rest))
    ≡ blocks_left id moment (cidr ∷ rest) left
unfolding del_blocks
next_block id moment cidr rest left = refl

-- the freeing in the next block, with the others left
pub begins : (id : List ℕ) (moment : ℕ) (cidr : CidrValue) (rest : List CidrValue) (left : Left) (f : Freeing)
    → freeing_rest id f ≡ free (freeing_all id cidr) left
    → as_word del_stops (part_then (freeing_rest id f) (then_blocks id moment rest)) ≡ blocks_left id moment (cidr ∷ rest) left
begins id moment cidr rest left f begun =
    ap (λ part. as_word del_stops (part_then part (then_blocks id moment rest))) begun
    ∙ next_block id moment cidr rest left

-- the same, where the others were taken from a list of all
pub begins_next : (id : List ℕ) (moment : ℕ) (blocks rest : List CidrValue) (cidr : CidrValue) (left : Left) (f : Freeing)
    → blocks ≡ cidr ∷ rest → freeing_rest id f ≡ free (freeing_all id cidr) left
    → as_word del_stops (part_then (freeing_rest id f) (then_blocks id moment rest)) ≡ blocks_left id moment blocks left
begins_next id moment blocks rest cidr left f is begun =
    begins id moment cidr rest left f begun ∙ ap (λ list. blocks_left id moment list left) (sym is)

pub goes_on_next : (id : List ℕ) (moment : ℕ) (blocks rest : List CidrValue) (cidr : CidrValue) (left : Left) (f : Freeing)
    → blocks ≡ cidr ∷ rest → freeing_rest id f ≡ free (freeing_all id cidr) left
    → None ≡ answer_in (blocks_left id moment blocks left)
goes_on_next id moment blocks rest cidr left f is begun =
    goes_on id moment rest (freeing_rest id f) (asks_none id f)
    ∙ ap answer_in (begins_next id moment blocks rest cidr left f is begun)

-- ---- the stage

pub hears_in : (lent id : List ℕ) (stage : Stage) (f : Freed) (turned : FreeingTurned) (moment : ℕ) (said : Said)
    → lent ≡ id → stage ≡ Frees f → parts_leaves lent f turned ≡ after_reply (parts_at lent f) moment said
    → frees_leaves id stage turned ≡ after_reply (del_at id stage) moment said
hears_in lent id stage f turned moment said same is leaves =
    let P : Stage → Type 0 = λ s. frees_leaves lent s turned ≡ after_reply (del_at lent s) moment said in
    let Q : List ℕ → Type 0 = λ i. frees_leaves i stage turned ≡ after_reply (del_at i stage) moment said in
    subst Q same (subst P (sym is) leaves)
