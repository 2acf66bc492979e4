-- A pass as one of the lock's.
use Rattle.std.proofs.Common.{◌≡◌, ◌↔◌, ◌-◌, ◌<◌, ℕ, List, [], ◌∷◌, ◌++◌, Option, None, Bool, false, is_some, IsSome, IsTrue, length, drop, append_assoc, refl, sym, ap, ◌∙◌, subst, arith}
use Rattle.turn_lock.specs.Histories.{NoneBy, GrewPast}
use Rattle.turn_lock.specs.Passes.{Pass as Turns, StandsPast, Stood, Turned}
use Rattle.ipam_model.specs.declared.entry.Entry.{Entry}
use Rattle.ipam_model.specs.Consistent.{IsConsistent}
use Rattle.ipam_model.specs.History.{Lawful, cluster_at, moment_of, slot_of_entry}
use Rattle.ipam_cluster.specs.Cluster.{slot_of_cluster}
use Rattle.ipam_shared.specs.declared.kept.Kept.{Kept}
use Rattle.ipam_shared.specs.Kept.{KeptFor, Tells}
use Rattle.ipam_shared.specs.Sure.{HeldFor, SureFor}
use Rattle.ipam_shared.specs.declared.locked.Locked.{Locked}
use Rattle.ipam_shared.specs.declared.opened.Opened.{Opened}
use Rattle.ipam_shared.specs.Origins.{base_in, base_opened}
use Rattle.ipam_shared.specs.PassValue.{PassValue}
use Rattle.ipam_shared.specs.Passes.{IsLawfulPass, IsNewlyKept, IsPass, IsReached, IsSeenLawful, KeptPast, own_base, runs_at, runs_in, value_of}
use Rattle.ipam_shared.specs.Turning.{HadTurn, met}
use Rattle.ipam_laws.proofs.StandsFor.{entries-are}
use Rattle.ipam_shared.proofs.Slots.{runs-past, runs-unused, same-some}
use Rattle.ipam_shared.proofs.Turning.{drop-told}

-- for which histories the value of the lock stands
abbrev pub Standing : {D : Type 0} → (tells sure : Tells D) → Locked D → Opened → List Entry → Type 0
Standing tells sure locked opened history = HeldFor tells sure locked.kept (base_opened opened) history

-- ---- a pass on an idle slot

idle-known : (pass : PassValue) → runs_in pass ≡ None → IsTrue false ↔ IsSome (runs_in pass)
idle-known pass idle = ((λ e. cc), λ e. let same = ap is_some idle in cc)

module _ (turns : Turns Opened Entry) (moment : ℕ) (sure : Option ℕ) where
  pub unused-idle : NoneBy slot_of_entry turns.number turns.seen → runs_in (value_of turns moment sure) ≡ None
  unused-idle unused = runs-unused (base_in turns.origin) turns.seen turns.number unused

  pub idle-pass : IsLawfulPass (value_of turns moment sure) → IsReached (value_of turns moment sure) → NoneBy slot_of_entry turns.number turns.seen → IsPass (value_of turns moment sure) false
  idle-pass lawful reached unused = record { seen = lawful; reached = reached; knows = idle-known (value_of turns moment sure) (unused-idle unused) }

  -- it was told of all that it has seen
  pub reached-all : moment ≡ moment_of (base_in turns.origin) turns.seen → IsReached (value_of turns moment sure)
  reached-all all = record { later = []; earlier = turns.seen; is_seen = refl; others = tt; is_moment = all }

-- then the number of entries is that with which the history starts
pub own-history : {D : Type 0} (tells sure : Tells D) (kept : Kept D) → IsNewlyKept tells sure kept → HeldFor tells sure kept (own_base kept) []
unfolding cluster_at
own-history tells sure kept new =
    subst (λ first. HeldFor tells sure kept (record { store = kept.cluster.store.store; first = first }) []) (sym new.1.fed.kept_for.cluster.is_cluster.entries) new.1

pub first-pass : {D : Type 0} (tells sure : Tells D) (kept : Kept D) (turns : Turns Opened Entry) → HeldFor tells sure kept (own_base kept) []
    → turns.origin ≡ (record { store = kept.cluster.store; first = kept.cluster.entries }) ∷ [] → turns.seen ≡ [] → (moment : ℕ) → moment ≡ kept.cluster.entries → IsPass (value_of turns moment None) false
first-pass tells sure kept turns new origin seen moment counted =
    idle-pass turns moment None
    (record {
      consistent = subst (λ o. IsConsistent (base_in o).store) (sym origin) new.fed.kept_for.cluster.stands.consistent;
      lawful = subst (λ h. Lawful (base_in turns.origin) h) (sym seen) (subst (λ o. Lawful (base_in o) []) (sym origin) new.fed.kept_for.cluster.stands.lawful);
    })
    (reached-all turns moment None
    (subst (λ h. moment ≡ moment_of (base_in turns.origin) h) (sym seen) (subst (λ o. moment ≡ moment_of (base_in o) []) (sym origin) (omega (arith, counted)))))
    (subst (λ h. NoneBy slot_of_entry turns.number h) (sym seen) tt)

-- of a history of which a slot has no entry, it has none of the later part
none-later : (later earlier : List Entry) (slot : ℕ) → NoneBy slot_of_entry slot (later ++ earlier) → NoneBy slot_of_entry slot later
none-later [] earlier slot none = tt
none-later (new ∷ later) earlier slot none = (none.0, none-later later earlier slot none.1)

both-none : (later earlier : List Entry) (slot : ℕ) → NoneBy slot_of_entry slot later → NoneBy slot_of_entry slot earlier → NoneBy slot_of_entry slot (later ++ earlier)
both-none [] earlier slot first second = second
both-none (new ∷ later) earlier slot first second = (first.0, both-none later earlier slot first.1 second)

-- it has the base, the moment and the entries of the pass that was split
pub split-pass : (turns other : Turns Opened Entry) (moment : ℕ) (sure : Option ℕ) → IsLawfulPass (value_of turns moment sure) → IsReached (value_of turns moment sure)
    → other.origin ≡ turns.origin → other.seen ≡ turns.seen → NoneBy slot_of_entry other.number other.seen → IsPass (value_of other moment None) false
split-pass turns other moment sure lawful reached origin seen unused =
    idle-pass other moment None (subst (λ h. IsSeenLawful (base_in other.origin) h) (sym seen) (subst (λ o. IsSeenLawful (base_in o) turns.seen) (sym origin) lawful))
    (record {
      later = reached.later;
      earlier = reached.earlier;
      is_seen = seen ∙ reached.is_seen;
      others = none-later reached.later reached.earlier other.number (subst (λ h. NoneBy slot_of_entry other.number h) (seen ∙ reached.is_seen) unused);
      is_moment = subst (λ o. moment ≡ moment_of (base_in o) reached.earlier) (sym origin) reached.is_moment;
    })
    unused

-- ---- a pass that another was joined into

pub grown-runs : (old new : Turns Opened Entry) (moment : ℕ) (sure : Option ℕ) → new ≡ record old { made = new.made; joined = new.joined; seen = new.seen } → GrewPast slot_of_entry old.number old.seen new.seen
    → runs_in (value_of new moment sure) ≡ runs_in (value_of old moment sure)
grown-runs old new moment sure same grew =
    ap (λ (t : Turns Opened Entry). runs_at (base_in t.origin) new.seen t.number) same
    ∙ (ap (λ s. runs_at (base_in old.origin) s old.number) grew.1 ∙ runs-past (base_in old.origin) grew.0 old.seen old.number grew.2)

-- it has seen entries of others alone since it was told of all
pub grown-reached : (old new : PassValue) → new.base ≡ old.base → new.slot ≡ old.slot → new.moment ≡ old.moment → GrewPast slot_of_entry old.slot old.seen new.seen → IsReached old → IsReached new
grown-reached old new base slot moment (gained, grew, others) reached = record {
  later = gained ++ reached.later;
  earlier = reached.earlier;
  is_seen = grew ∙ (ap (λ h. gained ++ h) reached.is_seen ∙ sym (append_assoc gained reached.later reached.earlier));
  others = subst (λ n. NoneBy slot_of_entry n (gained ++ reached.later)) (sym slot) (both-none gained reached.later old.slot others reached.others);
  is_moment = moment ∙ (reached.is_moment ∙ ap (λ b. moment_of b reached.earlier) (sym base));
}

pub stood-lawful : {D : Type 0} (tells sure : Tells D) (turns : Turns Opened Entry) (moment : ℕ) (known : Option ℕ) → Stood (Standing tells sure) turns.origin turns.seen → IsLawfulPass (value_of turns moment known)
stood-lawful tells sure turns moment known stood =
    let stands = stood.2.1.fed.kept_for.cluster.stands in
    subst (λ o. IsSeenLawful (base_in o) turns.seen) (sym stood.1) (record { consistent = stands.consistent; lawful = stands.lawful })

pub joined-pass : {D : Type 0} (tells sure : Tells D) (old new : Turns Opened Entry) (moment : ℕ) (known : Option ℕ) (running : Bool) → IsPass (value_of old moment known) running
    → new ≡ record old { made = new.made; joined = new.joined; seen = new.seen } → GrewPast slot_of_entry old.number old.seen new.seen → Stood (Standing tells sure) new.origin new.seen → IsPass (value_of new moment known) running
joined-pass tells sure old new moment known running was same grew stood = record {
  seen = stood-lawful tells sure new moment known stood;
  reached = grown-reached (value_of old moment known) (value_of new moment known) (ap (λ (t : Turns Opened Entry). base_in t.origin) same) (ap (λ (t : Turns Opened Entry). t.number) same) refl grew was.reached;
  knows = subst (λ r. IsTrue running ↔ IsSome r) (sym (grown-runs old new moment known same grew)) was.knows;
}

-- ---- the last pass

-- what lay under the lock is kept for what the pass had seen, with entries of others
pub closed-past : {D : Type 0} (tells sure : Tells D) (locked : Locked D) (turns : Turns Opened Entry) (moment : ℕ) (known : Option ℕ) (passed : PassValue) → value_of turns moment known ≡ passed
    → StandsPast (Standing tells sure) slot_of_entry locked turns.number turns.origin turns.seen → KeptPast tells locked.kept passed
closed-past tells sure locked turns moment known passed view (from, origin, (later, stands, others)) =
    let held : HeldFor tells sure locked.kept (base_in turns.origin) (later ++ turns.seen) = subst (λ o. HeldFor tells sure locked.kept (base_in o) (later ++ turns.seen)) (sym origin) stands in
    subst (λ p. KeptPast tells locked.kept p) view (record { later = later; others = others; stands = held.fed.kept_for; fed = held.fed })

-- ---- a pass that took a turn

module _ {D : Type 0} (tells sure : Tells D) (does : Locked D → Locked D → Type 0) (told : List Entry) (passed : PassValue) (old new : Turns Opened Entry)
    (moment entries : ℕ) (known : Option ℕ) (view : value_of old moment known ≡ passed) (some_left : 0 < old.left) (same : new ≡ record old { left = old.left - 1; seen = new.seen })
    (t : Turned (Standing tells sure) slot_of_entry does (λ before after. told) old.number old.origin old.seen new.seen) where
  own-origin : new.origin ≡ t.from ∷ []
  own-origin = ap (λ (u : Turns Opened Entry). u.origin) same ∙ t.origin_is

  held-now : HeldFor tells sure t.after.kept (base_in new.origin) new.seen
  held-now = subst (λ o. HeldFor tells sure t.after.kept (base_in o) new.seen) (sym own-origin) t.stands_now

  -- it is told of as many entries as there are
  pub told-all : entries ≡ t.after.kept.cluster.entries → entries ≡ moment_of (base_in new.origin) new.seen
  told-all counted = counted ∙ (held-now.fed.kept_for.cluster.is_cluster.entries ∙ entries-are (base_in new.origin) new.seen)

  pub had-turn : (did : Kept D → Kept D → Type 0) → ((before after : Locked D) → does before after → did before.kept after.kept) → entries ≡ t.after.kept.cluster.entries → HadTurn tells sure did passed told (value_of new entries known)
  had-turn did f counted =
      let left : new.left ≡ old.left - 1 = ap (λ (u : Turns Opened Entry). u.left) same in
      let seen : new.seen ≡ told ++ (t.between ++ old.seen) = t.seen_is ∙ append_assoc told t.between old.seen in
      let met_is : met told (value_of new entries known) ≡ t.between ++ old.seen = ap (drop (length told)) seen ∙ drop-told told (t.between ++ old.seen) in
      let before : HeldFor tells sure t.before.kept (base_in new.origin) (met told (value_of new entries known)) = subst (λ o. HeldFor tells sure t.before.kept (base_in o) (met told (value_of new entries known))) (sym own-origin) (subst (λ h. HeldFor tells sure t.before.kept (base_opened t.from) h) (sym met_is) t.stood) in
      subst (λ p. HadTurn tells sure did p told (value_of new entries known)) view (record {
        left = omega arith;
        same = ap (λ (u : Turns Opened Entry). record (value_of u entries known) { left = new.left; seen = new.seen }) same;
        sees = record { between = t.between; seen = seen; others = t.others; own = t.adds_own };
        knows = record { moment = told-all counted; sure = refl };
        done = record {
          before = t.before.kept;
          after = t.after.kept;
          stood = before.fed.kept_for;
          fed = before.fed;
          deed = f t.before t.after t.did;
          stands = held-now.fed.kept_for;
        };
        is_sure = held-now.is_sure;
      })

  -- the pass after it knows whether something runs in its slot
  pub turned-pass : (running : Bool) → (IsTrue running ↔ IsSome (slot_of_cluster t.after.kept.cluster new.number)) → entries ≡ t.after.kept.cluster.entries → IsPass (value_of new entries known) running
  turned-pass running runs counted =
      let stands = held-now.fed.kept_for.cluster in
      let some = same-some _ _ (stands.is_cluster.slots new.number) in
      record {
        seen = record { consistent = stands.stands.consistent; lawful = stands.stands.lawful };
        reached = reached-all new entries known (told-all counted);
        knows = ((λ e. some.0 (runs.0 e)), λ e. runs.1 (some.1 e));
      }
