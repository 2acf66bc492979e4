-- What is sure of what a pass has seen, and what a settling turn leaves.
use Rattle.std.proofs.Common.{◌≡◌, ◌↔◌, ◌⊎◌, inl, inr, ℕ, ◌+◌, ◌<◌, ◌≤◌, List, [], ◌++◌, Option, Some, None, Result, Ok, Err, IsNone, IfSome, IfNone, append_assoc, refl, sym, ap, ◌∙◌, subst, arith}
use Rattle.turn_lock.specs.Histories.{Grew}
use Rattle.ipam_keeper.specs.declared.keeper.KeepFault.{KeepFault}
use Rattle.ipam_keeper.specs.declared.keeper.KeepFault.TheVariants.{Failed, Memory}
use Rattle.ipam_model.specs.declared.entry.Entry.{Entry}
use Rattle.ipam_model.specs.History.{Base, moment_of}
use Rattle.ipam_laws.proofs.StandsFor.{entries-are}
use Rattle.ipam_shared.specs.declared.kept.Kept.{Kept}
use Rattle.ipam_shared.specs.Kept.{KeptFor, Tells}
use Rattle.ipam_shared.specs.Sure.{SureFor}
use Rattle.ipam_shared.proofs.SureStanding.{moment-later}
use Rattle.ipam_shared.specs.declared.faults.SharedFault.{SharedFault}
use Rattle.ipam_shared.specs.declared.faults.SharedFault.TheVariants.{SpentPass, Inner}
use Rattle.ipam_shared.specs.PassValue.{PassValue}
use Rattle.ipam_shared.specs.Passes.{IsReached, IsSamePass}
use Rattle.ipam_shared.specs.Settling.{HadSettled, IsMadeSure, IsSure, IsWithin, KnowsSure, Settles, SettlesAs, WasSettled}
use Rattle.ipam_shared.specs.Turning.{HadTurn, OnSpent, SeesNext, UnlessSpent, WasDone, answer_of}
use Rattle.ipam_shared.proofs.Passing.{grown-reached}

-- ---- what is known of a pass

module _ {D : Type 0} (tells sure : Tells D) where
  fewer-settled : (pass : PassValue) (count few : ℕ) → few ≤ count → HadSettled tells sure pass count → HadSettled tells sure pass few
  fewer-settled pass count few below h = record {
    kept = h.kept;
    later = h.later;
    earlier = h.earlier;
    is_seen = h.is_seen;
    stood = h.stood;
    is_sure = h.is_sure;
    enough = (let enough = h.enough in omega arith);
  }

  within-settled : (pass : PassValue) (known : Option ℕ) → IfSome known (HadSettled tells sure pass) → IsWithin pass.moment known → HadSettled tells sure pass pass.moment
  within-settled pass None was within = absurd within
  within-settled pass (Some count) was within = fewer-settled pass count pass.moment within was

  -- a pass that knows all to be sure that it was told of: it was
  pub known-settled : (pass : PassValue) → IsSure tells sure pass → KnowsSure pass → IsReached pass → WasSettled tells sure pass
  known-settled pass was knows reached = record { had = within-settled pass pass.sure was knows; reached = reached }

  grown-settled : (old new : PassValue) (count : ℕ) → new.base ≡ old.base → Grew old.seen new.seen → HadSettled tells sure old count → HadSettled tells sure new count
  grown-settled old new count base (gained, grew) h = record {
    kept = h.kept;
    later = gained ++ h.later;
    earlier = h.earlier;
    is_seen = grew ∙ (ap (λ (l : List Entry). gained ++ l) h.is_seen ∙ sym (append_assoc gained h.later h.earlier));
    stood = subst (λ (b : Base). KeptFor tells h.kept b h.earlier) (sym base) h.stood;
    is_sure = subst (λ (b : Base). SureFor sure h.kept b h.earlier) (sym base) h.is_sure;
    enough = h.enough;
  }

  known-still : (old new : PassValue) (known : Option ℕ) → new.base ≡ old.base → Grew old.seen new.seen → IfSome known (HadSettled tells sure old) → IfSome known (HadSettled tells sure new)
  known-still old new None base grew was = tt
  known-still old new (Some count) base grew was = grown-settled old new count base grew was

  -- what was sure still is once more was seen
  pub still-sure : (old new : PassValue) → new.base ≡ old.base → Grew old.seen new.seen → new.sure ≡ old.sure → IsSure tells sure old → IsSure tells sure new
  still-sure old new base grew same was =
      subst (λ (k : Option ℕ). IfSome k (HadSettled tells sure new)) (sym same) (known-still old new old.sure base grew was)

-- ---- a settling turn

-- what it answers
abbrev pub made_as : Result (Unit {0}) (SharedFault KeepFault)
made_as = Ok tt

abbrev pub unmade_as : SharedFault KeepFault → Result (Unit {0}) (SharedFault KeepFault)
unmade_as fault = Err fault

-- the pass after it, which was told of no more than before
abbrev pub settled_to : (old mid : PassValue) → (known : Option ℕ) → PassValue
settled_to old mid known = record mid { moment = old.moment; sure = known }

module _ {D : Type 0} (tells sure : Tells D) (faults : D → ℕ) (broken : D → Type 0) (old mid : PassValue) where
  abbrev Did : Result ℕ KeepFault → (before after : Kept D) → Type 0
  Did given before after = Settles tells sure faults broken old.moment before given after

  module _ {did : Kept D → Kept D → Type 0} (h : HadTurn tells sure did old [] mid) where
    pub turn-base : mid.base ≡ old.base
    turn-base = ap (λ (p : PassValue). p.base) h.same

    turn-reached : IsReached old → IsReached (settled_to old mid mid.sure)
    turn-reached reached = grown-reached old (settled_to old mid mid.sure) turn-base (ap (λ (p : PassValue). p.slot) h.same) refl (h.sees.between, h.sees.seen, h.sees.others) reached

    module _ (known : Option ℕ) where
      pub turn-same : IsSamePass old (settled_to old mid known)
      turn-same = ap (λ (p : PassValue). settled_to old p known) h.same

      pub turn-sees : SeesNext old [] (settled_to old mid known)
      turn-sees = record { between = h.sees.between; seen = h.sees.seen; others = h.sees.others; own = h.sees.own }

      pub turn-done : {did' : Kept D → Kept D → Type 0} → ((before after : Kept D) → did before after → did' before after) → WasDone tells did' [] (settled_to old mid known)
      turn-done f = record { before = h.done.before; after = h.done.after; stood = h.done.stood; fed = h.done.fed; deed = f h.done.before h.done.after h.done.deed; stands = h.done.stands }

      -- as many entries were sure as the cluster had it
      pub turn-settled : (count : ℕ) → count ≤ h.done.after.settled → HadSettled tells sure (settled_to old mid known) count
      turn-settled count enough = record {
        kept = h.done.after;
        later = [];
        earlier = mid.seen;
        is_seen = refl;
        stood = h.done.stands;
        is_sure = h.is_sure;
        enough = enough;
      }

  -- as many are sure then as there were when the pass was told of all
  enough-sure : {did : Kept D → Kept D → Type 0} (h : HadTurn tells sure did old [] mid) → IsReached old → IsMadeSure tells sure faults broken old.moment h.done.before h.done.after → old.moment ≤ h.done.after.settled
  enough-sure h reached (inl was) = subst (λ (k : Kept D). old.moment ≤ k.settled) (sym was.same) was.enough
  enough-sure h reached (inr made) =
      let entries : h.done.after.cluster.entries ≡ moment_of mid.base mid.seen = h.done.stands.cluster.is_cluster.entries ∙ entries-are mid.base mid.seen in
      let counted = made.counted in
      let told = reached.is_moment in
      let first = moment-later old.base reached.later reached.earlier in
      let seen : moment_of old.base old.seen ≡ moment_of old.base (reached.later ++ reached.earlier) = ap (λ (l : List Entry). moment_of old.base l) reached.is_seen in
      let second = moment-later old.base h.sees.between old.seen in
      let now : moment_of mid.base mid.seen ≡ moment_of old.base (h.sees.between ++ old.seen) =
      ap (λ (b : Base). moment_of b mid.seen) (turn-base h) ∙ ap (λ (l : List Entry). moment_of old.base l) h.sees.seen in
      omega arith

  -- there was no turn, or one with this fault
  abbrev pub Unmade : SharedFault KeepFault → Type 0
  Unmade SpentPass = (mid ≡ old) × (old.left ≡ 0)
  Unmade (Inner why) = HadTurn tells sure (Did (Err why)) old [] mid

  -- ---- by what the turn answered

  module _ (answer : Option (Result ℕ KeepFault)) (result : Result ℕ (SharedFault KeepFault)) (is : result ≡ answer_of answer) (spent : IsNone answer ↔ (old.left ≡ 0)) (unchanged : IfNone answer (mid ≡ old))
      (turned : IfSome answer (λ given. HadTurn tells sure (Did given) old [] mid)) (reached : IsReached old) where
    reached-by : (a : Option (Result ℕ KeepFault)) → IfNone a (mid ≡ old) → IfSome a (λ given. HadTurn tells sure (Did given) old [] mid) → IsReached (settled_to old mid mid.sure)
    reached-by None same h = subst (λ (p : PassValue). IsReached (settled_to old p p.sure)) (sym same) reached
    reached-by (Some given) same h = turn-reached h reached

    pub settle-reached : IsReached (settled_to old mid mid.sure)
    settle-reached = reached-by answer unchanged turned

    -- it made sure
    pub record Made (count : ℕ) : Type 0 where
      pub turn : HadTurn tells sure (Did (Ok count)) old [] mid
      pub settled : WasSettled tells sure (settled_to old mid (Some count))
      pub knows : KnowsSure (settled_to old mid (Some count))
      pub is_sure : IsSure tells sure (settled_to old mid (Some count))

    made-by : (a : Option (Result ℕ KeepFault)) (count : ℕ) → answer_of a ≡ Ok count → IfSome a (λ given. HadTurn tells sure (Did given) old [] mid) → HadTurn tells sure (Did (Ok count)) old [] mid
    made-by None count e h = absurd (cc e)
    made-by (Some (Ok other)) count e h = subst (λ (n : ℕ). HadTurn tells sure (Did (Ok n)) old [] mid) (let same : other ≡ count = cc e in same) h
    made-by (Some (Err why)) count e h = absurd (cc e)

    pub settle-made : (count : ℕ) → result ≡ Ok count → Made count
    settle-made count e =
        let h = made-by answer count (sym is ∙ e) turned in
        let enough = enough-sure h reached h.done.deed.1 in
        let told : old.moment ≤ count = subst (λ (n : ℕ). old.moment ≤ n) (sym h.done.deed.0) enough in
        record {
          turn = h;
          settled = record {
            had = turn-settled h (Some count) old.moment enough;
            reached = turn-reached h reached;
          };
          knows = told;
          is_sure = turn-settled h (Some count) count (subst (λ (n : ℕ). n ≤ h.done.after.settled) (sym h.done.deed.0) (omega arith));
        }

    unmade-by : (a : Option (Result ℕ KeepFault)) (fault : SharedFault KeepFault) → answer_of a ≡ Err fault → (IsNone a ↔ (old.left ≡ 0)) → IfNone a (mid ≡ old) → IfSome a (λ given. HadTurn tells sure (Did given) old [] mid) → Unmade fault
    unmade-by None fault e none same h = subst (λ (f : SharedFault KeepFault). Unmade f) (let is_spent : SpentPass ≡ fault = cc e in is_spent) (same, none.0 refl)
    unmade-by (Some (Ok count)) fault e none same h = absurd (cc e)
    unmade-by (Some (Err why)) fault e none same h = subst (λ (f : SharedFault KeepFault). Unmade f) (let is_inner : Inner why ≡ fault = cc e in is_inner) h

    pub settle-unmade : (fault : SharedFault KeepFault) → result ≡ Err fault → Unmade fault
    settle-unmade fault e = unmade-by answer fault (sym is ∙ e) spent unchanged turned

  -- ---- where it did not make sure

  abbrev left_pass : PassValue
  left_pass = settled_to old mid mid.sure

  pub unmade-spent : (fault : SharedFault KeepFault) → Unmade fault → (unmade_as fault ≡ unmade_as SpentPass) ↔ (old.left ≡ 0)
  unmade-spent SpentPass (same, none) = ((λ e. none), λ e. refl)
  unmade-spent (Inner why) h = ((λ e. absurd (cc e)), λ none. let left = h.left in absurd (omega arith))

  pub unmade-unchanged : (fault : SharedFault KeepFault) → Unmade fault → OnSpent (unmade_as fault) (left_pass ≡ old)
  unmade-unchanged SpentPass (same, none) = ap (λ (p : PassValue). settled_to old p p.sure) same
  unmade-unchanged (Inner why) h = tt

  pub unmade-left : (fault : SharedFault KeepFault) → Unmade fault → UnlessSpent (unmade_as fault) (left_pass.left + 1 ≡ old.left)
  unmade-left SpentPass (same, none) = tt
  unmade-left (Inner why) h = h.left

  pub unmade-same : (fault : SharedFault KeepFault) → Unmade fault → IsSamePass old left_pass
  unmade-same SpentPass (same, none) = ap (λ (p : PassValue). settled_to old p p.sure) same ∙ subst (λ (p : PassValue). old ≡ record old { left = p.left; seen = p.seen; moment = old.moment; sure = p.sure }) (sym same) refl
  unmade-same (Inner why) h = turn-same h mid.sure

  pub unmade-sees : (fault : SharedFault KeepFault) → Unmade fault → UnlessSpent (unmade_as fault) (SeesNext old [] left_pass)
  unmade-sees SpentPass (same, none) = tt
  unmade-sees (Inner why) h = turn-sees h mid.sure

  pub unmade-sure : (fault : SharedFault KeepFault) → Unmade fault → mid.sure ≡ old.sure
  unmade-sure SpentPass (same, none) = ap (λ (p : PassValue). p.sure) same
  unmade-sure (Inner why) h = h.knows.sure

  pub unmade-done : (fault : SharedFault KeepFault) → Unmade fault → UnlessSpent (unmade_as fault) (WasDone tells (SettlesAs tells sure faults broken old.moment (unmade_as fault)) [] left_pass)
  unmade-done SpentPass (same, none) = tt
  unmade-done (Inner Failed) h = turn-done h mid.sure (λ before after did. did)
  unmade-done (Inner Memory) h = turn-done h mid.sure (λ before after did. did)
