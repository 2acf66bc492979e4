-- How far the slots have run out.
use Rattle.std.proofs.Common.{◌≡◌, ℕ, ◌+◌, ◌<◌, ◌⊎◌, inl, inr, List, [], ◌∷◌, Option, Some, None, refl, sym, ap, ◌∙◌, subst, arith, nat_lt, true, false, ltb-true, ltb-false}
use Rattle.std.proofs.lemmas.Bool.{cases_Bool}
use Rattle.ipam_model.specs.declared.entry.Entry.{Entry}
use Rattle.ipam_model.specs.declared.entry.Fate.TheVariants.{Well}
use Rattle.ipam_model.specs.declared.entry.SlotState.TheVariants as state
use Rattle.ipam_model.specs.Course.{Turn}
use Rattle.ipam_cluster.specs.Cluster.{slot_of_cluster, state_in}
use Rattle.ipam_command.specs.declared.gen_counted.Counted.{Counted}
use Rattle.ipam_command.specs.Counted.{AllRun, HappensAs, IsCounted, IsNoCollection, IsPlain, IsSomewhere, Leads}
use Rattle.ipam_command.specs.Generated.{AreRunOut, NoSlot, NoTurn, OneSlot, OneTurn, RunsOut, TakesTurns}
use Rattle.ipam_command.proofs.AddLemmas.{makes}
use Rattle.ipam_command.proofs.DrawLemmas.{idle-there}
use Rattle.ipam_command.proofs.RunLemmas.{never-waits, turn-runs}

pub plain-somewhere : (counted : Counted) (Holds : List Entry → Type 0) → IsPlain counted Holds → IsSomewhere counted
plain-somewhere counted Holds at = (at.history, at.is_counted)

pub plain-any : (counted : Counted) (Holds : List Entry → Type 0) → IsPlain counted Holds → IsPlain counted (λ history. Unit {0})
plain-any counted Holds at = record { history = at.history; is_counted = at.is_counted; plain = at.plain; holds = tt }

pub led : (old new : Counted) (Holds : List Entry → List Entry → Type 0) → IsPlain old (λ history. Unit {0}) → Leads old new Holds → IsPlain new (λ history. Unit {0})
led old new Holds at leads = plain-any new (Holds at.history) (leads at.history at.is_counted at.plain)

pub plain-never-waits : (counted : Counted) (slot : ℕ) → IsPlain counted (λ history. Unit {0}) → ¬ (state_in (slot_of_cluster counted.cluster slot) ≡ state.Waiting)
plain-never-waits counted slot at = never-waits counted.cluster at.history slot at.is_counted.stands at.plain

-- ---- one slot

pub no-turn : (counted : Counted) (slot : ℕ) → Leads counted counted (TakesTurns slot)
no-turn counted slot before h plain = record { history = before; is_counted = h; plain = plain; holds = NoTurn }

pub one-turn : (old mid new : Counted) (slot : ℕ) (made : Entry) → Leads old mid (TakesTurns slot) → HappensAs mid new (Turn slot Well) made → Leads old new (TakesTurns slot)
one-turn old mid new slot made leads happens before h plain =
    let at = leads before h plain in
    record {
      history = made ∷ at.history;
      is_counted = happens.counted at.history at.is_counted;
      plain = turn-runs IsNoCollection at.history made slot at.plain happens.is_event;
      holds = OneTurn at.history made at.holds (makes mid new (Turn slot Well) made at.history happens at.is_counted);
    }

pub ran-out : (old new : Counted) (slot : ℕ) → slot_of_cluster new.cluster slot ≡ None → Leads old new (TakesTurns slot) → Leads old new (RunsOut slot)
ran-out old new slot idle leads before h plain =
    let at = leads before h plain in
    record {
      history = at.history;
      is_counted = at.is_counted;
      plain = at.plain;
      holds = record { turns = at.holds; ended = idle-there new at.history slot at.is_counted idle };
    }

-- ---- all slots

pub no-slot : (counted : Counted) → Leads counted counted (λ before. AreRunOut before 0)
no-slot counted before h plain = record { history = before; is_counted = h; plain = plain; holds = NoSlot }

pub one-slot : (old mid new : Counted) (slot : ℕ) → Leads old mid (λ before. AreRunOut before slot) → Leads mid new (RunsOut slot) → Leads old new (λ before. AreRunOut before (slot + 1))
one-slot old mid new slot leads more before h plain =
    let at = leads before h plain in
    let then = more at.history at.is_counted at.plain in
    record {
      history = then.history;
      is_counted = then.is_counted;
      plain = then.plain;
      holds = OneSlot slot at.history then.history at.holds then.holds;
    }

pub idle-more : (old new : Counted) (slot : ℕ) → ((other : ℕ) → other < slot → slot_of_cluster old.cluster other ≡ None) → slot_of_cluster new.cluster slot ≡ None
    → ((other : ℕ) → ¬ (other ≡ slot) → slot_of_cluster new.cluster other ≡ slot_of_cluster old.cluster other) → (other : ℕ) → other < slot + 1 → slot_of_cluster new.cluster other ≡ None
idle-more old new slot idle own others other less = from (cases_Bool (nat_lt other slot))
  where
    from : (nat_lt other slot ≡ true) ⊎ (nat_lt other slot ≡ false) → slot_of_cluster new.cluster other ≡ None
    from (inl below) =
        let under : other < slot = ltb-true other slot below in
        others other (λ e. absurd (omega arith)) ∙ idle other under
    from (inr not) =
        let over = ltb-false other slot not in
        let same : other ≡ slot = omega arith in
        subst (λ n. slot_of_cluster new.cluster n ≡ None) (sym same) own
