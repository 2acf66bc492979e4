-- What runs in slot 0, and how entries count.
use Rattle.std.proofs.Common.{◌≡◌, ◌≢◌, ℕ, ◌+◌, inl, inr, List, [], ◌∷◌, ◌++◌, Option, Some, None, refl, sym, ap, ◌∙◌, subst}
use Rattle.std.specs.Prelude.{option_map}
use Rattle.ipam_records.specs.Word.{waits}
use Rattle.ipam_model.specs.declared.answer.Answer.TheVariants.{Fault}
use Rattle.ipam_model.specs.declared.entry.Called.{Called}
use Rattle.ipam_model.specs.declared.entry.Entry.{Entry}
use Rattle.ipam_model.specs.declared.entry.Entry.TheVariants as entry
use Rattle.ipam_model.specs.declared.entry.Fate.{Fate}
use Rattle.ipam_model.specs.declared.entry.Fate.TheVariants.{Well, Before, After}
use Rattle.ipam_model.specs.declared.entry.SlotState.{SlotState}
use Rattle.ipam_model.specs.declared.entry.SlotState.TheVariants as state
use Rattle.ipam_model.specs.declared.request.CollectRequest.{CollectRequest}
use Rattle.ipam_model.specs.declared.request.Request.{Request}
use Rattle.ipam_model.specs.declared.request.Request.TheVariants.{Del, Collect}
use Rattle.ipam_model.specs.Answered.{Answered}
use Rattle.ipam_model.specs.Cluster as model
use Rattle.ipam_model.specs.Cluster.{after}
use Rattle.ipam_model.specs.History.{cluster_at}
use Rattle.ipam_laws.proofs.Fates.{faults}
use Rattle.ipam_cluster.specs.declared.running.Running.{Running}
use Rattle.ipam_collect.specs.Collect.{grace_asked}
use Rattle.ipam_cluster.specs.Running.{running_rest, running_grace, grace_of}
use Rattle.ipam_cluster.proofs.StillLemmas.{waits_with}
use Rattle.ipam_cluster.proofs.Waiting.{asks-times, is-waiting, not-idle}
use Rattle.ipam_cluster.specs.Cluster.{IsSlot, StandsFor, grace_in, slot_of_cluster, state_in, WaitsWith}
use Rattle.ipam_shared.specs.declared.kept.Kept.{Kept}
use Rattle.ipam_shared.specs.Kept.{IsKept, KeepsWith, KeptFor, Tells}
use Rattle.ipam_shared.specs.Solo.{HasNoGrace}
use Rattle.ipam_shared.specs.Steps.{Runs}

-- ---- what runs in slot 0

-- something runs there, with the times of the request
pub record There {D : Type 0} (request : Request) (kept : Kept D) : Type 0 where
  pub running : Running
  pub is : slot_of_cluster kept.cluster 0 ≡ Some running
  pub grace : running_grace running ≡ grace_of request

abbrev asked_in : Option model.RunningRequest → Option Request
asked_in = option_map (λ (one : model.RunningRequest). one.request)

found : (o : Option Running) (one : Option model.RunningRequest) (request : Request) → IsSlot o one → asked_in one ≡ Some request
    → (running : Running) × (o ≡ Some running) × (running_grace running ≡ grace_of request)
found None None request is e = absurd (cc e)
found None (Some one) request is e = absurd is
found (Some running) None request is e = absurd is
found (Some running) (Some one) request is e =
    let same : one.request ≡ request = cc e in
    (running, refl, is.grace ∙ ap grace_of same)

pub there : {D : Type 0} (tells : Tells D) (request : Request) (kept : Kept D) → Runs tells request kept → There request kept
there tells request kept runs =
    let (running, is, grace) = found (slot_of_cluster kept.cluster 0) ((cluster_at runs.base runs.history).slots 0) request (runs.kept_for.cluster.is_cluster.slots 0) runs.runs in
    record { running = running; is = is; grace = grace }

pub runs-kept : {D : Type 0} (tells : Tells D) (request : Request) (kept : Kept D) → Runs tells request kept → IsKept tells kept
runs-kept tells request kept runs = (runs.base, (runs.history, runs.kept_for))

pub never-idle : {D : Type 0} (request : Request) (kept : Kept D) → There request kept → state_in (slot_of_cluster kept.cluster 0) ≢ state.Idle
never-idle request kept at = λ e. not-idle (waits (running_rest at.running)) (sym (ap state_in at.is) ∙ e)

-- what waits is a collection
pub waits-collect : {D : Type 0} (request : Request) (kept : Kept D) → There request kept → state_in (slot_of_cluster kept.cluster 0) ≡ state.Waiting → (c : CollectRequest) × (request ≡ Collect c)
waits-collect request kept at e =
    let (grace, is) = waits_with at.running (is-waiting (waits (running_rest at.running)) (sym (ap state_in at.is) ∙ e)) in
    asks-times request grace (sym at.grace ∙ is)

-- with its times
pub times-are : {D : Type 0} (c : CollectRequest) (kept : Kept D) → There (Collect c) kept → grace_in (slot_of_cluster kept.cluster 0) ≡ Some (grace_asked c)
times-are c kept at = ap grace_in at.is ∙ at.grace

-- so it waits with its own time and without a grace
pub first-waits : {D : Type 0} (request : Request) (kept : Kept D) (c : CollectRequest) → There request kept → request ≡ Collect c → HasNoGrace request → state_in (slot_of_cluster kept.cluster 0) ≡ state.Waiting → WaitsWith (slot_of_cluster kept.cluster 0) (record { at = c.at; grace = 0 })
first-waits request kept c at is none waiting =
    let own = subst (λ (r : Request). There r kept) is at in
    let no_grace : c.grace ≡ 0 = subst (λ (r : Request). HasNoGrace r) is none in
    (waiting, times-are c kept own ∙ ap (λ (n : ℕ). Some (record { at = c.at; grace = n })) no_grace)

-- ---- entries count

after-counts : (one : model.ClusterState) (new : Entry) → (after one new).entries ≡ one.entries + 1
unfolding after
after-counts one (entry.Began slot request) = refl
after-counts one (entry.Fed slot at live) = refl
after-counts one (entry.Called c) = refl
after-counts one (entry.Stopped slot) = refl

pub one-more : {D : Type 0} (tells : Tells D) (old new : Kept D) (added : Entry) → IsKept tells old → KeepsWith tells old new added → new.cluster.entries ≡ old.cluster.entries + 1
unfolding cluster_at
one-more tells old new added (base, (history, kept)) keeps =
    (keeps base history kept).cluster.is_cluster.entries ∙ after-counts (cluster_at base history) added
    ∙ ap (λ (n : ℕ). n + 1) (sym kept.cluster.is_cluster.entries)

-- ---- a call that failed is answered so

pub failed-fault : {D : Type 0} (tells : Tells D) (old new : Kept D) (c : Called) → IsKept tells old → KeepsWith tells old new (entry.Called c) → c.fate ≡ Before → c.answer ≡ Some Fault
failed-fault tells old new c (base, (history, kept)) keeps failed =
    let a : Answered = record { base = base; earlier = history; call = c; request = Del [] } in
    (faults a (keeps base history kept).cluster.stands.lawful).1 (λ well. not-before c.fate failed well)
  where
    not-before : (fate : Fate) → fate ≡ Before → fate ≡ Well → ⊥
    not-before fate e f = cc (e, f)
