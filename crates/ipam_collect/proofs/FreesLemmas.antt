-- What is left of a collection while its leaks are freed.
use Rattle.std.proofs.Common.{◌≡◌, refl, sym, ap, ◌∙◌, subst, ℕ, Bool, List, [], ◌∷◌, Some, None, IsSome}
use Rattle.std.specs.Prelude.{nat_lt}
use Rattle.ipam_records.specs.Hearing.{MayHear}
use Rattle.ipam_records.specs.Said.{Said}
use Rattle.ipam_records.specs.Word.{Word, Ends, Asks, Waits, next_call, after_reply, answer_in}
use Rattle.ipam_model.specs.declared.answer.Item.{Item}
use Rattle.ipam_model.specs.declared.outcome.CollectAnswer.TheVariants.{Collected}
use Rattle.ipam_model.specs.declared.part.Left.{Left}
use Rattle.ipam_model.specs.declared.part.Stop.{Stop}
use Rattle.ipam_model.specs.declared.part.Outcome.TheVariants.{Went, Stops}
use Rattle.ipam_model.specs.Counting.{free}
use Rattle.ipam_model.specs.Remove.{Leak, collect_stops, free_leaks, freeing_owner}
use Rattle.ipam_model.specs.Step.{Part, part_then, as_word, stop_answer}
use Rattle.ipam_parts.specs.declared.freeing.Freeing.{Freeing}
use Rattle.ipam_parts.specs.declared.freeing.FreeingTurned.{FreeingTurned}
use Rattle.ipam_parts.specs.Freeing.{freeing_rest, freeing_leaves}
use Rattle.ipam_parts.proofs.FreeingAsks.{freeing_asks, asks_freeing, hears_freeing, may_hear_freeing}
use Rattle.ipam_parts.proofs.SettledLaws.{goes_on_settled, ended_settled}
use Rattle.ipam_collect.specs.Frees.{done_of, leaks_left, then_left, frees_at, frees_leaves}
use Rattle.ipam_collect.specs.Tally.{first_in, id_in, finished}
use Rattle.ipam_collect.specs.declared.frees.Frees.{Frees}

pub asks : (lent : List ℕ) (f : Frees) → lent ≡ id_in f.tally.1 → next_call (frees_at f) ≡ next_call (freeing_rest lent f.freeing)
asks lent f same =
    asks_freeing collect_stops (then_left f.b1 f.b2 f.tally) (id_in f.tally.1) f.freeing
    ∙ ap (λ id. next_call (freeing_rest id f.freeing)) (sym same)

pub may_hear : (lent : List ℕ) (f : Frees) (said : Said) → lent ≡ id_in f.tally.1 → MayHear (frees_at f) said
    → MayHear (freeing_rest lent f.freeing) said
may_hear lent f said same may =
    let P : List ℕ → Type 0 = λ id. MayHear (freeing_rest id f.freeing) said in
    subst P (sym same) (may_hear_freeing collect_stops (then_left f.b1 f.b2 f.tally) (id_in f.tally.1) f.freeing said may)

pub hears : (lent : List ℕ) (f : Frees) (turned : FreeingTurned) (moment : ℕ) (said : Said) → lent ≡ id_in f.tally.1
    → freeing_leaves lent f.freeing turned ≡ after_reply (freeing_rest lent f.freeing) moment said
    → frees_leaves f turned ≡ after_reply (frees_at f) moment said
hears lent f turned moment said same is =
    let P : List ℕ → Type 0 = λ id. freeing_leaves id f.freeing turned ≡ after_reply (freeing_rest id f.freeing) moment said in
    hears_freeing collect_stops (then_left f.b1 f.b2 f.tally) (id_in f.tally.1) f.freeing turned moment said (subst P same is)

pub goes_on : (f : Frees) (turned : FreeingTurned) → None ≡ answer_in (freeing_leaves (id_in f.tally.1) f.freeing turned)
    → None ≡ answer_in (frees_leaves f turned)
goes_on f turned none =
    goes_on_settled collect_stops (freeing_leaves (id_in f.tally.1) f.freeing turned) (then_left f.b1 f.b2 f.tally) none

pub stops : (f : Frees) (turned : FreeingTurned) (left : Left) (why : Stop)
    → Some (Stops left why) ≡ answer_in (freeing_leaves (id_in f.tally.1) f.freeing turned)
    → Some (stop_answer collect_stops left why) ≡ answer_in (frees_leaves f turned)
stops f turned left why is =
    ap answer_in (ended_settled collect_stops (freeing_leaves (id_in f.tally.1) f.freeing turned) (then_left f.b1 f.b2 f.tally) (Stops left why) is)

-- once a leak was freed, or found gone, the others are left
pub went : (f : Frees) (turned : FreeingTurned) (left : Left) (amount : ℕ)
    → Some (Went left amount) ≡ answer_in (freeing_leaves (id_in f.tally.1) f.freeing turned)
    → leaks_left f.b1 f.b2 (finished (nat_lt 0 amount) f.tally.0 f.tally.1) left ≡ frees_leaves f turned
went f turned left amount is =
    ended_settled collect_stops (freeing_leaves (id_in f.tally.1) f.freeing turned) (then_left f.b1 f.b2 f.tally) (Went left amount) is

-- ---- the next of the leaks

begins_at : (b1 b2 : ℕ) (items : List Item) (leaks : List Leak) (freeing : Freeing) (left : Left) (leak : Leak) → first_in leaks ≡ Some leak
    → freeing_rest leak.owner.handle freeing ≡ free (freeing_owner leak.owner leak.block) left
    → as_word collect_stops (part_then (freeing_rest (id_in leaks) freeing) (then_left b1 b2 (items, leaks)))
    ≡ leaks_left b1 b2 (items, leaks) left
unfolding free_leaks
begins_at b1 b2 items [] freeing left leak is begun = absurd (cc is)
begins_at b1 b2 items (first ∷ rest) freeing left leak is begun =
    let same : leak ≡ first = cc is in
    let P : Leak → Type 0 = λ l. freeing_rest l.owner.handle freeing ≡ free (freeing_owner l.owner l.block) left in
    ap (λ part. as_word collect_stops (part_then part (then_left b1 b2 (items, first ∷ rest)))) (subst P same begun)

-- the freeing of the first of the leaks
pub begins : (f : Frees) (left : Left) (leak : Leak) → first_in f.tally.1 ≡ Some leak
    → freeing_rest leak.owner.handle f.freeing ≡ free (freeing_owner leak.owner leak.block) left
    → frees_at f ≡ leaks_left f.b1 f.b2 f.tally left
begins f left leak is begun = begins_at f.b1 f.b2 f.tally.0 f.tally.1 f.freeing left leak is begun

-- it goes on
pub asks_on : (f : Frees) → None ≡ answer_in (frees_at f)
asks_on f =
    goes_on_settled collect_stops (freeing_rest (id_in f.tally.1) f.freeing) (then_left f.b1 f.b2 f.tally)
    (none_ended (freeing_rest (id_in f.tally.1) f.freeing) (freeing_asks (id_in f.tally.1) f.freeing))
  where
    none_ended : {A : Type 0} (word : Word A) → IsSome (next_call word) → None ≡ answer_in word
    none_ended (Ends answer) some = absurd (cc some)
    none_ended (Asks label call next) some = refl
    none_ended (Waits next) some = absurd (cc some)

pub none_left : (b1 b2 : ℕ) (items : List Item) (leaks : List Leak) (left : Left) → first_in leaks ≡ None
    → Ends (Collected (done_of b1 b2 items)) ≡ leaks_left b1 b2 (items, leaks) left
unfolding free_leaks
none_left b1 b2 items [] left none = refl
none_left b1 b2 items (first ∷ rest) left none = absurd (cc none)

pub begins_new : (f : Frees) (b1 b2 : ℕ) (tally : List Item × List Leak) (freeing : Freeing) (left now : Left) (leak : Leak)
    → f.b1 ≡ b1 → f.b2 ≡ b2 → f.tally ≡ tally → f.freeing ≡ freeing → first_in tally.1 ≡ Some leak
    → freeing_rest leak.owner.handle freeing ≡ free (freeing_owner leak.owner leak.block) left → left ≡ now
    → frees_at f ≡ leaks_left b1 b2 tally now
begins_new f b1 b2 tally freeing left now leak at again told same is begun all =
    begins f left leak (ap (λ t. first_in t.1) told ∙ is) (ap (freeing_rest leak.owner.handle) same ∙ begun)
    ∙ ap (λ b. leaks_left b f.b2 f.tally left) at ∙ ap (λ b. leaks_left b1 b f.tally left) again
    ∙ ap (λ t. leaks_left b1 b2 t left) told ∙ ap (leaks_left b1 b2 tally) all
