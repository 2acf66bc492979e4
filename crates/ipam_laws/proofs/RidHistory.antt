-- What was rid of is owned no more, in the span.
use Rattle.std.proofs.Common.{◌≡◌, ℕ, ◌+◌, ◌≤◌, inl, inr, Bool, true, not, List, [], ◌∷◌, length, Some, refl, sym, ap, ◌∙◌, subst, arith}
use Rattle.std.specs.Prelude.{Contains}
use Rattle.std.specs.List.{count_by, filter}
use Rattle.std.proofs.lemmas.List.Sums.{length-filter}
use Rattle.ipam_addr.specs.Shape.{CidrValue}
use Rattle.ipam_block.specs.declared.allocation.Allocation.{Allocation}
use Rattle.ipam_block.specs.Operations.{block_without, next_block}
use Rattle.ipam_block.specs.Shape.{BlockValue}
use Rattle.ipam_records.specs.declared.call.Call.{Call}
use Rattle.ipam_records.specs.declared.call.Call.TheVariants.{Get}
use Rattle.ipam_records.specs.declared.key.Key.TheVariants as key
use Rattle.ipam_records.specs.declared.record.Record.TheVariants as record_of
use Rattle.ipam_records.specs.Datastore.{Datastore, reply_of, reply_to_get}
use Rattle.ipam_records.specs.Said.{Can}
use Rattle.ipam_model.specs.AffinityLaw.{HasAt}
use Rattle.ipam_model.specs.Consistent.{IsConsistent}
use Rattle.ipam_model.specs.Counting.{FreedOfHandle}
use Rattle.ipam_model.specs.History.{Lawful, RequestSpan, now, seen_at, seen_now}
use Rattle.ipam_model.specs.Moments.{Owns}
use Rattle.ipam_model.specs.Owners.{Owner, owner_of}
use Rattle.ipam_model.specs.Reads.{block_said}
use Rattle.ipam_laws.proofs.ActParts.{IsCurrent, freeing_call}
use Rattle.ipam_laws.proofs.Acts.{Since}
use Rattle.ipam_laws.proofs.BlockHistory.{block-later}
use Rattle.ipam_laws.proofs.FreeTrails.{Freed, NoneThere, Rid}
use Rattle.ipam_laws.proofs.Lift.{behind}
use Rattle.ipam_laws.proofs.Members.{filter-in, in-filter, in-nothing}
use Rattle.ipam_laws.proofs.NoReturn.{consistent-before, no_return}
use Rattle.ipam_laws.proofs.Owned.{HeldIn, held-inside, held-owns, one-block, owns-held}
use Rattle.ipam_laws.proofs.OwnersEffects.{Rewrites, not-true, owns-cases}
use Rattle.ipam_laws.proofs.OwnersHistory.{part-of}
use Rattle.ipam_laws.proofs.OwnersMoves.{rewrites}
use Rattle.ipam_laws.proofs.Recorded.{since-before}
use Rattle.ipam_laws.proofs.Trails.{Did, IsTrail, Trail, seen-now}

-- what is counted none is not there
pub none-counted : (picks : Allocation → Bool) (list : List Allocation) (a : Allocation) → count_by picks list ≡ 0 → Contains list a → picks a ≡ true → ⊥
none-counted picks list a e there is = by (filter picks list) (length-filter picks list ∙ e) (filter-in picks a list there is)
  where
    by : (kept : List Allocation) → length kept ≡ 0 → Contains kept a → ⊥
    by [] none among = in-nothing a among
    by (x ∷ kept) none among = absurd (omega (arith, none))

-- whoever the block's allocation is recorded to is picked
abbrev pub PicksOwner : FreedOfHandle → Owner → Type 0
PicksOwner what o = (a : Allocation) → owner_of what.block a ≡ o → what.picks a ≡ true

module _ (span : RequestSpan) (consistent : IsConsistent span.base.store) (lawful : Lawful span.base span.history) (what : FreedOfHandle) (o : Owner) (picks : PicksOwner what o) (first : ℕ) (held : HeldIn (seen_at span first) what.block o) where
  -- the owner's block is there later, and whoever owns there is held in it
  held-later : (m : ℕ) → first ≤ m → Owns (seen_at span m) o → HeldIn (seen_at span m) what.block o
  held-later m later owns =
      let now_there = consistent-before span.base span.history m consistent lawful in
      let early = consistent-before span.base span.history first consistent lawful in
      let (cidr, is) = owns-held (seen_at span m) o now_there.sound owns in
      let (stays, keeps) = block-later span.base span.history consistent.sound lawful first m later what.block held.holding in
      let same : cidr ≡ what.block = one-block (seen_at span m) cidr what.block o.address now_there is.holding stays
      (held-inside (seen_at span m) cidr o now_there.sound is) (held-inside (seen_at span first) what.block o early.sound held) in
      subst (λ (x : CidrValue). HeldIn (seen_at span m) x o) same is

  -- read, and none was there
  none-there : (m : ℕ) (store : Datastore) → first ≤ m → seen_at span m ≡ store → ((found : ℕ × BlockValue) → block_said (reply_of store (Get (key.Block what.block))) ≡ Some found → count_by what.picks found.1.allocations ≡ 0) → ¬ (Owns (seen_at span m) o)
  none-there m store later at none owns =
      let there = held-later m later owns in
      let row : HasAt store (key.Block what.block) there.holding.revision (record_of.Block there.holding.b) = subst (λ (s : Datastore). HasAt s (key.Block what.block) there.holding.revision (record_of.Block there.holding.b)) at there.holding.there in
      let count = none (there.holding.revision, there.holding.b) (ap (λ r. block_said (reply_to_get r)) row) in
      none-counted what.picks there.holding.b.allocations there.a count there.among (picks there.a there.is_owner)

  -- freed, and so not there
  freed-there : (m : ℕ) (store : Datastore) (b : BlockValue) (old revision : ℕ) → first ≤ m → seen_at span m ≡ store → seen_at span (m + 1) ≡ behind store (freeing_call what b old) → reply_of store (freeing_call what b old) ≡ Can revision → IsCurrent store old b → b.cidr ≡ what.block → ¬ (Owns (seen_at span (m + 1)) o)
  freed-there m store b old revision later at left done current same owns =
      let next = seen_at span (m + 1) in
      let then = consistent-before span.base span.history (m + 1) consistent lawful in
      let before_it : IsConsistent store = subst (λ (s : Datastore). IsConsistent s) at (consistent-before span.base span.history m consistent lawful) in
      let w : Rewrites store next b (block_without what.picks (next_block b)) = rewrites store next b (block_without what.picks (next_block b)) old revision before_it then refl done current left in
      let there = held-later (m + 1) (omega arith) owns in
      elim (owns-cases next (block_without what.picks (next_block b)) b.cidr w.next_revision then w.there_then o owns) [
        | inl (a, among, is) ↦
            let (was, kept) = in-filter (λ x. not (what.picks x)) a b.allocations among in
            not-true (what.picks a) kept (picks a (ap (λ (x : CidrValue). owner_of x a) (sym same) ∙ is))
        | inr (other, differ, elsewhere) ↦
            let one : other ≡ what.block = one-block next other what.block o.address then elsewhere.holding there.holding (held-inside next other o then.sound elsewhere) (held-inside next what.block o then.sound there) in
            absurd (differ (ap key.Block (same ∙ sym one)))
      ]

  -- it never came back
  never : (m : ℕ) → first ≤ m → m ≤ now span → ¬ (Owns (seen_at span m) o) → ¬ (Owns (seen_now span) o)
  never m later early gone owns =
      gone (no_return span.base span.history consistent lawful first m (now span) later early o (held-owns (seen_at span first) what.block o held) (subst (λ (s : Datastore). Owns s o) (sym (seen-now span)) owns))

  -- after a step that lies at the first moment, or just before it
  pub rid-gone : (head_at : ℕ) → first ≤ head_at + 1 → (trail origin before : Trail) (amount : ℕ) (store : Datastore) (asked : Call) → origin ≡ Did head_at store asked ∷ before → IsTrail span (now span) trail → Rid what origin amount trail → ¬ (Owns (seen_now span) o)
  unfolding IsTrail
  rid-gone head_at near trail origin before amount store asked head is (NoneThere m at earlier there later none_amount none) =
      let (until, part) = part-of span (Did m at (Get (key.Block what.block)) ∷ earlier) trail (now span) there is in
      let behind_it = since-before span head_at store asked before earlier m (subst (λ (t : Trail). Since t earlier) head later) part.2 in
      let inside = part.0.in_span.before_now in
      never m (omega arith) (omega arith) (none-there m at (omega arith) part.0.before_it none)
  rid-gone head_at near trail origin before amount store asked head is (Freed m at earlier b old revision more there later some done current same count) =
      let (until, part) = part-of span (Did m at (freeing_call what b old) ∷ earlier) trail (now span) there is in
      let behind_it = since-before span head_at store asked before earlier m (subst (λ (t : Trail). Since t earlier) head later) part.2 in
      let inside = part.0.in_span.before_now in
      never (m + 1) (omega arith) (omega arith) (freed-there m at b old revision (omega arith) part.0.before_it part.0.behind_it done current same)
