-- What runs is stopped slot by slot.
use Rattle.std.proofs.Common.{◌≡◌, ◌≢◌, ℕ, zero, suc, ◌+◌, ◌≤◌, Bool, true, false, cond, List, [], ◌∷◌, ◌++◌, map, Option, Some, None, refl, sym, ap, ◌∙◌, subst, arith, append_assoc, append-nil}
use Rattle.std.specs.Prelude.{is_some, Ok}
use Rattle.std.specs.List.{filter, range_with_len}
use Rattle.std.proofs.Math.Path.{fun_ext}
use Rattle.std.proofs.lemmas.List.{map-append}
use Rattle.std.proofs.lemmas.List.Elements.{filter-append}
use Rattle.ipam_model.specs.declared.entry.Entry.{Entry}
use Rattle.ipam_model.specs.declared.entry.Entry.TheVariants as entry
use Rattle.ipam_model.specs.Cluster as model
use Rattle.ipam_model.specs.Course.{Restart, entries_of}
use Rattle.ipam_model.specs.History.{Base, cluster_at}
use Rattle.ipam_cluster.specs.declared.running.Running.{Running}
use Rattle.ipam_cluster.specs.declared.cluster.Cluster.{Cluster}
use Rattle.ipam_cluster.specs.Cluster.{AddsTo, IsSlot, StandsFor, slot_of_cluster}
use Rattle.ipam_play.specs.Events.{Happens, Keeps, onto}
use Rattle.ipam_play.proofs.Happenings.{course-one, onto-append}

range-more : (from many : ℕ) → range_with_len from (many + 1) ≡ range_with_len from many ++ (from + many) ∷ []
range-more from zero = ap (λ (n : ℕ). n ∷ []) (none-more from)
  where
    none-more : (n : ℕ) → n ≡ n + 0
    none-more n = omega arith
range-more from (suc many) =
    ap (range_with_len from) (one-later many)
    ∙ ap (λ (l : List ℕ). from ∷ l) (range-more (from + 1) many)
    ∙ ap (λ (n : ℕ). from ∷ (range_with_len (from + 1) many ++ n ∷ [])) (shifted from many)
  where
    one-later : (n : ℕ) → suc n + 1 ≡ suc (n + 1)
    one-later n = omega arith

    shifted : (a n : ℕ) → (a + 1) + n ≡ a + suc n
    shifted a n = omega arith

-- what is stopped in the slots before this one
unfoldable pub stops_below : Cluster → ℕ → List Entry
stops_below cluster many = map entry.Stopped (filter (λ slot. is_some (slot_of_cluster cluster slot)) (range_with_len 0 many))

stops-more : (cluster : Cluster) (slot : ℕ) → stops_below cluster (slot + 1) ≡ stops_below cluster slot ++ cond (is_some (slot_of_cluster cluster slot)) (entry.Stopped slot ∷ []) []
unfolding stops_below
stops-more cluster slot =
    ap (λ (l : List ℕ). map entry.Stopped (filter busy l)) (range-more 0 slot ∙ ap (λ (n : ℕ). range_with_len 0 slot ++ n ∷ []) (none-less slot))
    ∙ ap (map entry.Stopped) (filter-append busy (range_with_len 0 slot) (slot ∷ []))
    ∙ map-append entry.Stopped (filter busy (range_with_len 0 slot)) (filter busy (slot ∷ []))
    ∙ ap (λ (l : List Entry). map entry.Stopped (filter busy (range_with_len 0 slot)) ++ l) (by (busy slot))
  where
    busy : ℕ → Bool
    busy s = is_some (slot_of_cluster cluster s)

    none-less : (n : ℕ) → 0 + n ≡ n
    none-less n = omega arith

    by : (b : Bool) → map entry.Stopped (cond b (slot ∷ []) []) ≡ cond b (entry.Stopped slot ∷ []) []
    by true = refl
    by false = refl

-- the slots before this one are stopped, and the others are as they were
pub record Cleared (old new : Cluster) (before after : List Entry) (slot : ℕ) : Type 0 where
  pub added : after ≡ before ++ stops_below old slot
  pub others : (other : ℕ) → slot ≤ other → slot_of_cluster new other ≡ slot_of_cluster old other
  pub stands : (base : Base) (history : List Entry) → StandsFor old base history → StandsFor new base (onto (stops_below old slot) history)

pub nothing_cleared : (old : Cluster) (before : List Entry) → Cleared old old before before 0
unfolding stops_below
nothing_cleared old before = record {
  added = sym (append-nil before);
  others = λ other above. refl;
  stands = λ base history h. h;
}

pub idle_cleared : (old mid new : Cluster) (before between : List Entry) (slot : ℕ) → Cleared old mid before between slot → slot_of_cluster mid slot ≡ None → Keeps mid new
    → ((other : ℕ) → other ≢ slot → slot_of_cluster new other ≡ slot_of_cluster mid other) → Cleared old new before between (slot + 1)
idle_cleared old mid new before between slot h idle keeps others =
    let none : is_some (slot_of_cluster old slot) ≡ false = ap is_some (sym (h.others slot (omega arith)) ∙ idle) in
    let same : stops_below old (slot + 1) ≡ stops_below old slot =
    stops-more old slot ∙ ap (λ b. stops_below old slot ++ cond b (entry.Stopped slot ∷ []) []) none ∙ append-nil (stops_below old slot) in
    record {
      added = h.added ∙ ap (λ (l : List Entry). before ++ l) (sym same);
      others = λ other above. others other (λ e. absurd (omega arith)) ∙ h.others other (omega arith);
      stands = λ base history k. subst (λ (l : List Entry). StandsFor new base (onto l history)) (sym same) (keeps base (onto (stops_below old slot) history) (h.stands base history k));
    }

pub busy_cleared : (old mid new : Cluster) (before between after : List Entry) (slot : ℕ) (stopped : Entry) → Cleared old mid before between slot → (slot_of_cluster mid slot ≡ None → ⊥) → stopped ≡ entry.Stopped slot → AddsTo mid new stopped
    → ((other : ℕ) → other ≢ slot → slot_of_cluster new other ≡ slot_of_cluster mid other) → after ≡ between ++ stopped ∷ [] → Cleared old new before after (slot + 1)
busy_cleared old mid new before between after slot stopped h busy is adds others added =
    let some : is_some (slot_of_cluster old slot) ≡ true = not-none (slot_of_cluster old slot) (λ e. busy (h.others slot (omega arith) ∙ e)) in
    let more : stops_below old (slot + 1) ≡ stops_below old slot ++ stopped ∷ [] =
    stops-more old slot ∙ ap (λ b. stops_below old slot ++ cond b (entry.Stopped slot ∷ []) []) some ∙ ap (λ (e : Entry). stops_below old slot ++ e ∷ []) (sym is) in
    record {
      added = added ∙ ap (λ (l : List Entry). l ++ stopped ∷ []) h.added ∙ append_assoc before (stops_below old slot) (stopped ∷ []) ∙ ap (λ (l : List Entry). before ++ l) (sym more);
      others = λ other above. others other (λ e. absurd (omega arith)) ∙ h.others other (omega arith);
      stands = λ base history k. subst (λ (l : List Entry). StandsFor new base l)
          (sym (ap (λ (l : List Entry). onto l history) more ∙ onto-append (stops_below old slot) (stopped ∷ []) history))
          (adds base (onto (stops_below old slot) history) (h.stands base history k));
    }
  where
    not-none : (held : Option Running) → (held ≡ None → ⊥) → is_some held ≡ true
    not-none None never = absurd (never refl)
    not-none (Some running) never = refl

-- ---- all slots

same-busy : (held : Option Running) (o : Option model.RunningRequest) → IsSlot held o → is_some held ≡ is_some o
same-busy None None is = refl
same-busy None (Some there) is = absurd is
same-busy (Some running) None is = absurd is
same-busy (Some running) (Some there) is = refl

restarts : (old : Cluster) (base : Base) (history : List Entry) → StandsFor old base history → entries_of (cluster_at base history) Restart ≡ Ok (stops_below old 64)
unfolding stops_below
restarts old base history k =
    let same : (λ (slot : ℕ). is_some ((cluster_at base history).slots slot)) ≡ (λ (slot : ℕ). is_some (slot_of_cluster old slot)) =
    fun_ext (λ (slot : ℕ). sym (same-busy (slot_of_cluster old slot) ((cluster_at base history).slots slot) (k.is_cluster.slots slot))) in
    ap (λ (p : ℕ → Bool). Ok (map entry.Stopped (filter p (range_with_len 0 64)))) same

all_cleared : (old new : Cluster) (before after : List Entry) → Cleared old new before after 64 → Happens old new before after (Restart ∷ [])
all_cleared old new before after h = record {
  made = stops_below old 64;
  added = h.added;
  plays = record {
    stands = h.stands;
    made_by = λ base history k. course-one (cluster_at base history) Restart (stops_below old 64) (restarts old base history k);
  };
}

pub restarted : (old new : Cluster) (before between after : List Entry) (slot : ℕ) → Cleared old new between after slot → slot ≡ 64 → between ≡ before → Happens old new before after (Restart ∷ [])
restarted old new before between after slot h all same =
    all_cleared old new before after
    (subst (λ (l : List Entry). Cleared old new l after 64) same (subst (λ (n : ℕ). Cleared old new between after n) all h))
