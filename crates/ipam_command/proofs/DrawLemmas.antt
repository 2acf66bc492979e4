-- How far the draws have come.
use Rattle.std.proofs.Common.{◌≡◌, ℕ, ◌+◌, ◌<◌, ◌≤◌, List, [], ◌∷◌, Option, Some, None, refl, sym, ap, ◌∙◌, subst, arith}
use Rattle.ipam_model.specs.declared.entry.Entry.{Entry}
use Rattle.ipam_model.specs.declared.entry.Fate.TheVariants.{Well}
use Rattle.ipam_model.specs.declared.entry.SlotState.TheVariants as state
use Rattle.ipam_model.specs.Cluster as model
use Rattle.ipam_model.specs.Course.{Begin, Turn}
use Rattle.ipam_records.specs.Word.{waits}
use Rattle.ipam_cluster.specs.Running.{running_rest}
use Rattle.ipam_cluster.specs.declared.running.Running.{Running}
use Rattle.ipam_cluster.specs.declared.cluster.Cluster.{Cluster}
use Rattle.ipam_cluster.specs.Cluster.{IsSlot, StandsFor, slot_of_cluster, state_in}
use Rattle.ipam_cluster.proofs.Adding.{none_there}
use Rattle.ipam_cluster.proofs.Waiting.{not-idle}
use Rattle.ipam_command.specs.declared.gen_counted.Counted.{Counted}
use Rattle.ipam_command.specs.Counted.{Happens, HappensAs, IsCounted, IsDrawing, IsNoCollection, IsPlain, IsSomewhere}
use Rattle.ipam_command.specs.Draws.{next_state}
use Rattle.ipam_command.specs.Generated.{IsDrawn, NothingDrawn, RequestDrawn, TurnDrawn, slot_at, slot_drawn}
use Rattle.ipam_command.specs.Requests.{base, request_of}
use Rattle.ipam_command.proofs.AddLemmas.{makes}
use Rattle.ipam_command.proofs.NameLemmas.{plain-request}
use Rattle.ipam_command.proofs.RunLemmas.{begin-runs, never-waits, none-run, turn-runs}

-- ---- slots of both

pub idle-there : (counted : Counted) (history : List Entry) (slot : ℕ) → IsCounted counted history → slot_of_cluster counted.cluster slot ≡ None → slot_at history slot ≡ None
idle-there counted history slot h idle = none_there (slot_of_cluster counted.cluster slot) (slot_at history slot) (h.stands.is_cluster.slots slot) idle

pub idle-state : (held : Option Running) → state_in held ≡ state.Idle → held ≡ None
idle-state None is = refl
idle-state (Some running) is = absurd (not-idle (waits (running_rest running)) is)

running-in : (held : Option Running) (one : Option model.RunningRequest) → IsSlot held one → state_in held ≡ state.Running → (running : model.RunningRequest) × (one ≡ Some running)
running-in None one is runs = absurd (cc runs)
running-in (Some running) None is runs = absurd is
running-in (Some running) (Some one) is runs = (one, refl)

running-there : (counted : Counted) (history : List Entry) (slot : ℕ) → IsCounted counted history → state_in (slot_of_cluster counted.cluster slot) ≡ state.Running
    → (running : model.RunningRequest) × (slot_at history slot ≡ Some running)
running-there counted history slot h runs = running-in (slot_of_cluster counted.cluster slot) (slot_at history slot) (h.stands.is_cluster.slots slot) runs

-- ---- the draws

pub drawing-first : (counted : Counted) (count x : ℕ) → x ≡ 1 → IsCounted counted [] → IsDrawing count counted x 0
drawing-first counted count x first h =
    subst (λ (n : ℕ). IsDrawing count counted n 0) (sym first)
    (record { history = []; is_counted = h; drawn = NothingDrawn; plain = none-run IsNoCollection })

pub drawing-somewhere : (counted : Counted) (x begun : ℕ) → ((count : ℕ) × IsDrawing count counted x begun) → IsSomewhere counted
drawing-somewhere counted x begun (count, d) = (d.history, d.is_counted)

pub drawing-never-waits : (counted : Counted) (x begun slot : ℕ) → ((count : ℕ) × IsDrawing count counted x begun) → ¬ (state_in (slot_of_cluster counted.cluster slot) ≡ state.Waiting)
drawing-never-waits counted x begun slot (count, d) = never-waits counted.cluster d.history slot d.is_counted.stands d.plain

pub drawn-turn : (old new : Counted) (count x y begun slot : ℕ) (made : Entry) → slot ≡ slot_drawn x → y ≡ next_state x → begun < count → IsDrawing count old x begun
    → state_in (slot_of_cluster old.cluster slot) ≡ state.Running → HappensAs old new (Turn slot Well) made → IsDrawing count new y begun
drawn-turn old new count x y begun slot made same next less d runs happens =
    let own = subst (λ s. HappensAs old new (Turn s Well) made) same happens in
    let (running, is) = running-there old d.history (slot_drawn x) d.is_counted (subst (λ s. state_in (slot_of_cluster old.cluster s) ≡ state.Running) same runs) in
    subst (λ n. IsDrawing count new n begun) (sym next)
    (record {
      history = made ∷ d.history;
      is_counted = own.counted d.history d.is_counted;
      drawn = TurnDrawn x begun d.history running made d.drawn less is (makes old new (Turn (slot_drawn x) Well) made d.history own d.is_counted);
      plain = turn-runs IsNoCollection d.history made (slot_drawn x) d.plain own.is_event;
    })

pub drawn-request : (old new : Counted) (count x y z begun slot : ℕ) → slot ≡ slot_drawn x → y ≡ next_state x → z ≡ next_state y → begun < count → IsDrawing count old x begun
    → slot_of_cluster old.cluster slot ≡ None → Happens old new (Begin slot (request_of begun y)) → IsDrawing count new z (begun + 1)
drawn-request old new count x y z begun slot same next last less d idle (made, happens) =
    let here = subst (λ s. HappensAs old new (Begin s (request_of begun y)) made) same happens in
    let own = subst (λ n. HappensAs old new (Begin (slot_drawn x) (request_of begun n)) made) next here in
    let none = idle-there old d.history (slot_drawn x) d.is_counted (subst (λ s. slot_of_cluster old.cluster s ≡ None) same idle) in
    subst (λ n. IsDrawing count new n (begun + 1)) (sym (last ∙ ap next_state next))
    (record {
      history = made ∷ d.history;
      is_counted = own.counted d.history d.is_counted;
      drawn = RequestDrawn x begun d.history made d.drawn less none
          (makes old new (Begin (slot_drawn x) (request_of begun (next_state x))) made d.history own d.is_counted);
      plain = begin-runs IsNoCollection d.history made (slot_drawn x) (request_of begun (next_state x)) d.plain
          (plain-request begun (next_state x)) own.is_event;
    })

pub drawn-all : (counted : Counted) (count x begun : ℕ) → begun ≡ count → IsDrawing count counted x begun → IsPlain counted (λ history. (y : ℕ) × IsDrawn count y count history)
drawn-all counted count x begun all d = record {
  history = d.history;
  is_counted = d.is_counted;
  plain = d.plain;
  holds = (x, subst (λ n. IsDrawn count x n d.history) all d.drawn);
}
