-- A freeing that is under way has a call to make.
use Rattle.std.proofs.Common.{◌≡◌, refl, ◌∙◌, ap, ℕ, List, IsSome}
use Rattle.ipam_addr.specs.Shape.{CidrValue}
use Rattle.ipam_records.specs.Hearing.{MayHear}
use Rattle.ipam_records.specs.Said.{Said}
use Rattle.ipam_records.specs.Word.{next_call, after_reply}
use Rattle.ipam_model.specs.declared.part.Left.{Left}
use Rattle.ipam_model.specs.Step.{Part, StopAnswers, as_word, part_then}
use Rattle.ipam_parts.specs.declared.freeing.Freeing.{Freeing}
use Rattle.ipam_parts.specs.declared.freeing.FreeingTurned.{FreeingTurned}
use Rattle.ipam_parts.specs.declared.freeing.Picks.{Picks}
use Rattle.ipam_parts.specs.declared.freeing.Stage.{Stage}
use Rattle.ipam_parts.specs.declared.freeing.Stage.TheVariants.{Reads, Writes, Lowers}
use Rattle.ipam_parts.specs.Freeing.{freeing_at, freeing_rest, freeing_leaves}
use Rattle.ipam_parts.proofs.FreeingLemmas.{asks_lowering, lowering_asks}
use Rattle.ipam_parts.proofs.SettledLaws.{asked_settled, heard_settled, may_hear_settled}

asks_at : (id : List ℕ) (cidr : CidrValue) (picks : Picks) (left : Left) (stage : Stage)
    → IsSome (next_call (freeing_at id cidr picks left stage))
asks_at id cidr picks left Reads = refl
asks_at id cidr picks left (Writes freed) = refl
asks_at id cidr picks left (Lowers amount lowering) =
    let whole = asks_lowering id lowering amount in
    let part = lowering_asks id lowering in
    cc (whole, part)

pub freeing_asks : (id : List ℕ) (f : Freeing) → IsSome (next_call (freeing_rest id f))
freeing_asks id f = asks_at id f.cidr f.picks f.left f.stage

-- ---- a freeing with others after it that ends in an answer

pub asks_freeing : {B : Type 0} (answers : StopAnswers B) (follows : Left → ℕ → Part B) (id : List ℕ) (f : Freeing)
    → next_call (as_word answers (part_then (freeing_rest id f) follows)) ≡ next_call (freeing_rest id f)
asks_freeing answers follows id f = asked_settled answers (freeing_rest id f) follows (freeing_asks id f)

pub hears_freeing : {B : Type 0} (answers : StopAnswers B) (follows : Left → ℕ → Part B) (id : List ℕ) (f : Freeing)
    (turned : FreeingTurned) (moment : ℕ) (said : Said)
    → freeing_leaves id f turned ≡ after_reply (freeing_rest id f) moment said
    → as_word answers (part_then (freeing_leaves id f turned) follows)
    ≡ after_reply (as_word answers (part_then (freeing_rest id f) follows)) moment said
hears_freeing answers follows id f turned moment said is =
    ap (λ part. as_word answers (part_then part follows)) is
    ∙ heard_settled answers (freeing_rest id f) follows moment said (freeing_asks id f)

pub may_hear_freeing : {B : Type 0} (answers : StopAnswers B) (follows : Left → ℕ → Part B) (id : List ℕ) (f : Freeing)
    (said : Said) → MayHear (as_word answers (part_then (freeing_rest id f) follows)) said → MayHear (freeing_rest id f) said
may_hear_freeing answers follows id f said may =
    may_hear_settled answers (freeing_rest id f) follows said (freeing_asks id f) may
