-- What is left of the freeing of one assignment, where its part asks, hears or has come to an end.
use Rattle.std.proofs.Common.{◌≡◌, refl, sym, ap, ◌∙◌, ◌-◌, ℕ, List, Some, None}
use Rattle.ipam_addr.specs.Shape.{CidrValue}
use Rattle.ipam_records.specs.Hearing.{MayHear}
use Rattle.ipam_records.specs.Said.{Said}
use Rattle.ipam_records.specs.Word.{next_call, after_reply, answer_in}
use Rattle.ipam_model.specs.declared.part.Outcome.{Outcome}
use Rattle.ipam_model.specs.declared.part.Outcome.TheVariants.{Went, Stops}
use Rattle.ipam_model.specs.Counting.{freeing_one, free}
use Rattle.ipam_model.specs.Remove.{free_stops, free_word}
use Rattle.ipam_model.specs.Owners.{Owner}
use Rattle.ipam_model.specs.Step.{Part, all_left, part_then, onward, as_word}
use Rattle.ipam_parts.specs.declared.freeing.Freeing.{Freeing}
use Rattle.ipam_parts.specs.declared.freeing.FreeingTurned.{FreeingTurned}
use Rattle.ipam_parts.specs.Freeing.{freeing_rest, freeing_leaves}
use Rattle.ipam_parts.proofs.FreeingAsks.{asks_freeing, hears_freeing, may_hear_freeing}
use Rattle.ipam_parts.proofs.SettledLaws.{goes_on_settled, ended_settled}
use Rattle.ipam_release.specs.Free.{freed_as, free_answer_of}

pub asks : (id : List ℕ) (f : Freeing)
    → next_call (as_word free_stops (part_then (freeing_rest id f) freed_as)) ≡ next_call (freeing_rest id f)
asks id f = asks_freeing free_stops freed_as id f

pub may_hear : (id : List ℕ) (f : Freeing) (said : Said)
    → MayHear (as_word free_stops (part_then (freeing_rest id f) freed_as)) said → MayHear (freeing_rest id f) said
may_hear id f said may = may_hear_freeing free_stops freed_as id f said may

pub hears : (id : List ℕ) (f : Freeing) (turned : FreeingTurned) (moment : ℕ) (said : Said)
    → freeing_leaves id f turned ≡ after_reply (freeing_rest id f) moment said
    → as_word free_stops (part_then (freeing_leaves id f turned) freed_as)
    ≡ after_reply (as_word free_stops (part_then (freeing_rest id f) freed_as)) moment said
hears id f turned moment said is = hears_freeing free_stops freed_as id f turned moment said is

pub goes_on : (part : Part ℕ) → None ≡ answer_in part → None ≡ answer_in (as_word free_stops (part_then part freed_as))
goes_on part none = goes_on_settled free_stops part freed_as none

onward_ends : (outcome : Outcome ℕ)
    → Some (free_answer_of outcome) ≡ answer_in (as_word free_stops (onward freed_as outcome))
onward_ends (Went left amount) = refl
onward_ends (Stops left why) = refl

-- once the freeing has come to something, that is answered
pub ends : (part : Part ℕ) (outcome : Outcome ℕ) → Some outcome ≡ answer_in part
    → Some (free_answer_of outcome) ≡ answer_in (as_word free_stops (part_then part freed_as))
ends part outcome is = onward_ends outcome ∙ ap answer_in (ended_settled free_stops part freed_as outcome is)

-- the freeing of the owner's address
pub begins : (id : List ℕ) (owner : Owner) (cidr : CidrValue) (ordinal : ℕ) (f : Freeing) → id ≡ owner.handle
    → ordinal ≡ owner.address.number - cidr.base
    → freeing_rest id f ≡ free (freeing_one id cidr ordinal owner.stamp) all_left
    → as_word free_stops (part_then (freeing_rest id f) freed_as) ≡ free_word owner cidr
begins id owner cidr ordinal f same is begun =
    ap (λ part. as_word free_stops (part_then part freed_as)) begun
    ∙ ap (λ i. as_word free_stops (part_then (free (freeing_one i cidr ordinal owner.stamp) all_left) freed_as)) same
    ∙ ap (λ n. as_word free_stops (part_then (free (freeing_one owner.handle cidr n owner.stamp) all_left) freed_as)) is
