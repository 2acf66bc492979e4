-- What runs has not answered, and nothing but a collection waits.
use Rattle.std.proofs.Common.{◌≡◌, ℕ, true, false, List, Some, None, IsSome, refl, ap, subst, sym, ◌∙◌}
use Rattle.std.specs.Prelude.{option_map}
use Rattle.ipam_records.specs.Word.{Word, Ends, Asks, Waits, next_call, answer_in, waits, bound}
use Rattle.ipam_model.specs.declared.answer.Answer.{Answer}
use Rattle.ipam_model.specs.declared.request.CollectRequest.{CollectRequest}
use Rattle.ipam_model.specs.Told.{of_collect}
use Rattle.ipam_model.specs.Affinities.{release}
use Rattle.ipam_parts.proofs.FreeingAsks.{asks_freeing, freeing_asks}
use Rattle.ipam_assign.proofs.AddLemmas.{stage_asks as stage_asks_add}
use Rattle.ipam_assign.specs.Adding.{add_rest}
use Rattle.ipam_release.specs.declared.admin.Stage.{Stage as AdminStage}
use Rattle.ipam_release.specs.declared.admin.Stage.TheVariants as admin
use Rattle.ipam_release.specs.Admin.{admin_rest, admin_at}
use Rattle.ipam_assign.specs.AddThis.{this_rest, this_going}
use Rattle.ipam_assign.specs.declared.add_this.Stage.{Stage as ThisStage}
use Rattle.ipam_assign.specs.declared.add_this.Stage.TheVariants as this
use Rattle.ipam_assign.specs.declared.assigning.Stage.{Stage as AssignStage}
use Rattle.ipam_assign.specs.declared.assigning.Stage.TheVariants as assign
use Rattle.ipam_assign.specs.Assigning.{assigning_at, write_after, nothing}
use Rattle.ipam_assign.specs.AddThis.{ThisGoing, this_then_next, this_next, wanted_at, looked_of, this_part, this_at}
use Rattle.ipam_block.specs.Shape.{BlockValue}
use Rattle.ipam_addr.specs.Shape.{CidrValue}
use Rattle.ipam_parts.specs.declared.claim.Stage.{Stage as ClaimStage}
use Rattle.ipam_parts.specs.declared.claim.Stage.TheVariants as claim
use Rattle.ipam_parts.specs.declared.claim.Writing.TheVariants as claim_writing
use Rattle.ipam_parts.specs.Claim.{claim_at, claim_rest}
use Rattle.ipam_model.specs.Affinities.{BlockRead, claim as claim_word}
use Rattle.ipam_model.specs.AddThis as model
use Rattle.ipam_model.specs.Assigning.{after_claim}
use Rattle.ipam_model.specs.Step.{onward}
use Rattle.ipam_parts.proofs.BoundLaws.{asked_bound}
use Rattle.ipam_parts.specs.declared.raising.Stage.{Stage as RaiseStage}
use Rattle.ipam_parts.specs.declared.raising.Stage.TheVariants as raise
use Rattle.ipam_parts.specs.declared.lowering.Stage.{Stage as LowerStage}
use Rattle.ipam_parts.specs.declared.lowering.Stage.TheVariants as lower
use Rattle.ipam_parts.specs.Raising.{raising_at, raising_rest}
use Rattle.ipam_parts.specs.Lowering.{lowering_at, lowering_rest}
use Rattle.ipam_assign.specs.declared.scanning.Stage.{Stage as ScanStage}
use Rattle.ipam_assign.specs.declared.scanning.Stage.TheVariants.{ReadsConfig, ReadsPools, ReadsReservations, ListsAffinities, ListsBlocks}
use Rattle.ipam_assign.specs.Probe.{probe_rest, probe_at}
use Rattle.ipam_assign.specs.declared.probe.Turn.{Turn}
use Rattle.ipam_model.specs.declared.request.ProbeRequest.{ProbeRequest}
use Rattle.ipam_model.specs.declared.request.Admin.{Admin}
use Rattle.ipam_model.specs.declared.part.Left.{Left}
use Rattle.ipam_parts.specs.declared.release.Reading.TheVariants as reading
use Rattle.ipam_parts.specs.declared.release.Writing.TheVariants as writing
use Rattle.ipam_parts.specs.declared.release.Stage.{Stage as ReleaseStage}
use Rattle.ipam_parts.specs.declared.release.Stage.TheVariants as release_stage
use Rattle.ipam_parts.specs.Release.{release_rest, release_at, tie_of}
use Rattle.ipam_model.specs.Affinities.{Tie}
use Rattle.ipam_release.specs.declared.check.Stage.{Stage as CheckStage}
use Rattle.ipam_release.specs.declared.check.Stage.TheVariants as check
use Rattle.ipam_release.specs.Check.{check_rest, check_at}
use Rattle.ipam_release.specs.declared.del.Stage.{Stage as DelStage}
use Rattle.ipam_release.specs.declared.del.Stage.TheVariants as del
use Rattle.ipam_release.specs.Del.{del_rest, del_at, then_blocks}
use Rattle.ipam_model.specs.Remove.{del_stops, collect_stops}
use Rattle.ipam_cluster.specs.declared.running.Kept.{Kept}
use Rattle.ipam_cluster.specs.declared.running.Kept.TheVariants as kept
use Rattle.ipam_collect.specs.declared.collect.CollectProc.{CollectProc}
use Rattle.ipam_collect.specs.declared.collect.Grace.{Grace}
use Rattle.ipam_collect.specs.declared.collect.Stage.{Stage as CollectStage}
use Rattle.ipam_collect.specs.declared.collect.Stage.TheVariants as collect
use Rattle.ipam_collect.specs.Collect.{collect_at, collect_rest, grace_in}
use Rattle.ipam_collect.specs.declared.frees.Frees.{Frees}
use Rattle.ipam_collect.specs.Frees.{frees_at as collect_frees_at, then_left}
use Rattle.ipam_collect.specs.Tally.{id_in}
use Rattle.ipam_cluster.specs.declared.running.Running.{Running}
use Rattle.ipam_cluster.specs.Running.{rest_of, grace_kept, running_rest, running_grace, telling}
use Rattle.ipam_cluster.proofs.AbsentLemmas.{absent_asks}
use Rattle.ipam_cluster.proofs.TellingLemmas.{asked_telling, ended_telling}

still : {A : Type 0} (word : Word A) → IsSome (next_call word) → waits word ≡ false
still (Ends answer) some = refl
still (Asks label call next) some = refl
still (Waits next) some = absurd (cc some)

not_ended : {A : Type 0} (word : Word A) → IsSome (next_call word) → answer_in word ≡ None
not_ended (Ends answer) some = absurd (cc some)
not_ended (Asks label call next) some = refl
not_ended (Waits next) some = refl

told_asks : {A : Type 0} (tell : A → Answer) (word : Word A) → IsSome (next_call word) → IsSome (next_call (telling tell word))
told_asks tell word some = subst (λ call. IsSome call) (sym (asked_telling tell word)) some

del_asks : (id : List ℕ) (stage : DelStage) → IsSome (next_call (del_at id stage))
del_asks id del.Reads = refl
del_asks id (del.Frees f) =
    subst (λ call. IsSome call) (sym (asks_freeing del_stops (then_blocks id f.moment f.blocks.items) id f.freeing)) (freeing_asks id f.freeing)

check_asks : (id : List ℕ) (stage : CheckStage) → IsSome (next_call (check_at id stage))
check_asks id (check.Reads addresses) = refl
check_asks id (check.Looks l) = refl

release_asks : (tie : Tie) (left : Left) (stage : ReleaseStage) → IsSome (next_call (release_at tie left stage))
release_asks tie left (release_stage.Reads reading.Affinity) = refl
release_asks tie left (release_stage.Reads (reading.Block mark)) = refl
release_asks tie left (release_stage.Reads (reading.Again seen)) = refl
release_asks tie left (release_stage.Writes (writing.Marks revision)) = refl
release_asks tie left (release_stage.Writes (writing.Bares seen)) = refl
release_asks tie left (release_stage.Writes (writing.Deletes mark)) = refl

admin_asks : (request : Admin) (left : Left) (stage : AdminStage) → IsSome (next_call (admin_at request left stage))
admin_asks request left admin.Reads = refl
admin_asks request left (admin.Writes w) = refl

probe_asks : (request : ProbeRequest) (turn : Turn) (stage : ScanStage) → IsSome (next_call (probe_at request turn stage))
probe_asks request turn ReadsConfig = refl
probe_asks request turn (ReadsPools configured) = refl
probe_asks request turn (ReadsReservations pooled) = refl
probe_asks request turn (ListsAffinities reserving) = refl
probe_asks request turn (ListsBlocks gathered) = refl

-- ---- an ADD of one address

asks_on : {A B : Type 0} (word : Word A) (follows : A → Word B) → IsSome (next_call word) → IsSome (next_call (bound word follows))
asks_on word follows some = subst (λ call. IsSome call) (sym (asked_bound word follows some)) some

claim_asks : (node : List ℕ) (cidr : CidrValue) (read : BlockRead) (stage : ClaimStage) → IsSome (next_call (claim_at node cidr read stage))
unfolding claim_word
claim_asks node cidr read claim.Looks = refl
claim_asks node cidr read (claim.Writes claim_writing.Creates) = refl
claim_asks node cidr read (claim.Writes (claim_writing.TakesBack revision)) = refl
claim_asks node cidr read (claim.Writes (claim_writing.Claims kept)) = refl
claim_asks node cidr read (claim.Writes (claim_writing.Confirms kept)) = refl

raising_asks : (id : List ℕ) (cidr : CidrValue) (left : Left) (stage : RaiseStage) → IsSome (next_call (raising_at id cidr left stage))
raising_asks id cidr left raise.Reads = refl
raising_asks id cidr left (raise.Writes raised) = refl

lowering_asks : (id : List ℕ) (cidr : CidrValue) (amount : ℕ) (left : Left) (stage : LowerStage) → IsSome (next_call (lowering_at id cidr amount left stage))
lowering_asks id cidr amount left lower.Reads = refl
lowering_asks id cidr amount left (lower.Writes lowered) = refl

assigning_asks : (id : List ℕ) (b : BlockValue) (revision : ℕ) (stage : AssignStage) → IsSome (next_call (assigning_at id b revision stage))
assigning_asks id b revision (assign.Raises raising) =
    asks_on (raising_rest id raising) (onward (write_after id b revision)) (raising_asks id raising.cidr raising.left raising.stage)
assigning_asks id b revision (assign.Writes left) = refl
assigning_asks id b revision (assign.Lowers lowering) =
    asks_on (lowering_rest id lowering) (onward nothing) (lowering_asks id lowering.cidr lowering.amount lowering.left lowering.stage)

part_asks : (g : ThisGoing) (left : Left) (stage : ThisStage) → IsSome (next_call (this_part g left stage))
part_asks g left this.ReadsConfig = refl
part_asks g left (this.ReadsPools configured) = refl
part_asks g left (this.ReadsBlock ruled) = refl
part_asks g left (this.Claims claims) =
    asks_on (bound (claim_rest claims) (after_claim left)) (onward (this_then_next g))
    (asks_on (claim_rest claims) (after_claim left) (claim_asks claims.node claims.cidr claims.read claims.stage))
part_asks g left (this.Assigns looked a) =
    asks_on (assigning_at g.request.attributes.handle a.block a.revision a.stage)
    (onward (model.this_assigned (wanted_at g.request looked.address) (this_next g) (looked_of looked)))
    (assigning_asks g.request.attributes.handle a.block a.revision a.stage)

stage_asks : (g : ThisGoing) (left : Left) (stage : ThisStage) → IsSome (next_call (this_at (this_part g left stage)))
stage_asks g left stage = asks_on (this_part g left stage) _ (part_asks g left stage)

-- ---- whichever it is

abbrev IsCollection : Kept → Type 0
IsCollection k = (p : CollectProc) × (k ≡ kept.Collect p)

-- everything but a collection has a next call
asks : (k : Kept) → (IsCollection k → ⊥) → IsSome (next_call (rest_of k))
asks (kept.Add p) other = told_asks _ (add_rest p) (stage_asks_add p.request p.turn p.stage)
asks (kept.AddThis p) other = told_asks _ (this_rest p) (stage_asks (this_going p) p.left p.stage)
asks (kept.Del p) other = told_asks _ (del_rest p) (del_asks p.id p.stage)
asks (kept.Check p) other = told_asks _ (check_rest p) (check_asks p.id p.stage)
asks (kept.Release p) other = told_asks _ (release_rest p) (release_asks (tie_of p) p.left p.stage)
asks (kept.Absent p) other = told_asks _ (release p.node p.cidr) (subst (λ call. IsSome call) (sym (absent_asks p.node p.cidr)) refl)
asks (kept.Collect p) other = absurd (other (p, refl))
asks (kept.Admin p) other = told_asks _ (admin_rest p) (admin_asks p.request p.left p.stage)
asks (kept.Probe p) other = told_asks _ (probe_rest p) (probe_asks p.request p.turn p.scanning.stage)

pub never_waits : (k : Kept) → ((p : CollectProc) → k ≡ kept.Collect p → ⊥) → waits (rest_of k) ≡ false
never_waits k other = still (rest_of k) (asks k (λ it. other it.0 it.1))

collect_frees : (f : Frees) → IsSome (next_call (collect_frees_at f))
collect_frees f =
    subst (λ call. IsSome call) (sym (asks_freeing collect_stops (then_left f.b1 f.b2 f.tally) (id_in f.tally.1) f.freeing))
    (freeing_asks (id_in f.tally.1) f.freeing)

collect_runs_on : (request : CollectRequest) (stage : CollectStage) → answer_in (collect_at request stage) ≡ None
collect_runs_on request collect.Lists = refl
collect_runs_on request (collect.Waits found) = refl
collect_runs_on request (collect.ListsAgain found) = refl
collect_runs_on request (collect.Frees f) = not_ended (collect_frees_at f) (collect_frees f)

-- what is kept has not answered
runs_on_kept : (k : Kept) → answer_in (rest_of k) ≡ None
runs_on_kept (kept.Collect p) = ended_telling _ (collect_rest p) ∙ ap (option_map of_collect) (collect_runs_on p.request p.stage)
runs_on_kept (kept.Add p) = not_ended _ (asks (kept.Add p) (λ it. cc (it.1)))
runs_on_kept (kept.AddThis p) = not_ended _ (asks (kept.AddThis p) (λ it. cc (it.1)))
runs_on_kept (kept.Del p) = not_ended _ (asks (kept.Del p) (λ it. cc (it.1)))
runs_on_kept (kept.Check p) = not_ended _ (asks (kept.Check p) (λ it. cc (it.1)))
runs_on_kept (kept.Release p) = not_ended _ (asks (kept.Release p) (λ it. cc (it.1)))
runs_on_kept (kept.Absent p) = not_ended _ (asks (kept.Absent p) (λ it. cc (it.1)))
runs_on_kept (kept.Admin p) = not_ended _ (asks (kept.Admin p) (λ it. cc (it.1)))
runs_on_kept (kept.Probe p) = not_ended _ (asks (kept.Probe p) (λ it. cc (it.1)))

pub runs_on : (r : Running) → answer_in (running_rest r) ≡ None
unfolding running_rest
runs_on r = runs_on_kept r.kept

-- what waits is a collection, which has its times
waits_kept : (k : Kept) → waits (rest_of k) ≡ true → (grace : Grace) × (grace_kept k ≡ Some grace)
waits_kept (kept.Collect p) waiting = (grace_in p, refl)
waits_kept (kept.Add p) waiting = let no = never_waits (kept.Add p) (λ q e. cc e) in absurd (cc (no, waiting))
waits_kept (kept.AddThis p) waiting = let no = never_waits (kept.AddThis p) (λ q e. cc e) in absurd (cc (no, waiting))
waits_kept (kept.Del p) waiting = let no = never_waits (kept.Del p) (λ q e. cc e) in absurd (cc (no, waiting))
waits_kept (kept.Check p) waiting = let no = never_waits (kept.Check p) (λ q e. cc e) in absurd (cc (no, waiting))
waits_kept (kept.Release p) waiting = let no = never_waits (kept.Release p) (λ q e. cc e) in absurd (cc (no, waiting))
waits_kept (kept.Absent p) waiting = let no = never_waits (kept.Absent p) (λ q e. cc e) in absurd (cc (no, waiting))
waits_kept (kept.Admin p) waiting = let no = never_waits (kept.Admin p) (λ q e. cc e) in absurd (cc (no, waiting))
waits_kept (kept.Probe p) waiting = let no = never_waits (kept.Probe p) (λ q e. cc e) in absurd (cc (no, waiting))

pub waits_with : (r : Running) → waits (running_rest r) ≡ true → (grace : Grace) × (running_grace r ≡ Some grace)
unfolding running_rest running_grace
waits_with r waiting = waits_kept r.kept waiting
