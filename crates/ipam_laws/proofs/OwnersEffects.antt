-- What freeing and assigning in one block make of the owners.
use Rattle.std.proofs.Common.{◌≡◌, ◌≢◌, ◌⊎◌, inl, inr, ℕ, zero, suc, ◌+◌, Bool, true, false, not, List, [], ◌∷◌, refl, sym, ap, ◌∙◌, subst, arith}
use Rattle.std.specs.Prelude.{Contains, insert, nat_lt}
use Rattle.std.specs.List.{count_by}
use Rattle.std.proofs.lemmas.Bool.{cases_Bool}
use Rattle.ipam_addr.specs.Shape.{CidrValue}
use Rattle.ipam_block.specs.declared.allocation.Allocation.{Allocation}
use Rattle.ipam_block.specs.declared.allocation.Attributes.{Attributes}
use Rattle.ipam_block.specs.Operations.{block_with_ordinal, block_without, next_block}
use Rattle.ipam_block.specs.Shape.{BlockValue}
use Rattle.ipam_records.specs.declared.key.Key.TheVariants as key
use Rattle.ipam_records.specs.declared.record.Record.TheVariants as record_of
use Rattle.ipam_records.specs.Datastore.{Datastore, row_of}
use Rattle.ipam_model.specs.AffinityLaw.{HasAt}
use Rattle.ipam_model.specs.BlockLaw.{BlockAt}
use Rattle.ipam_model.specs.Consistent.{IsConsistent}
use Rattle.ipam_model.specs.Moments.{Gains, Loses, Owns}
use Rattle.ipam_model.specs.Owners.{Owner, owner_of}
use Rattle.ipam_laws.proofs.BlockHistory.{same-block}
use Rattle.ipam_laws.proofs.BlockSteps.{in-insert}
use Rattle.ipam_laws.proofs.Members.{filter-in, in-filter, in-here, in-nothing, in-there, in-cons}
use Rattle.ipam_laws.proofs.NoReturn.{held-stamped}
use Rattle.ipam_laws.proofs.OneRecord.{key_cases}
use Rattle.ipam_laws.proofs.Owned.{HeldIn, held-in, held-inside, held-owns, one-block, owns-held}
use Rattle.ipam_laws.proofs.OwnersOrder.{same-owner}

-- ---- a block that is written

-- the block is another, and all blocks elsewhere are as they were
pub record Rewrites (store next : Datastore) (b new : BlockValue) : Type 0 where
  pub consistent : IsConsistent store
  pub then_consistent : IsConsistent next
  pub revision : ℕ
  pub there : HasAt store (key.Block b.cidr) revision (record_of.Block b)
  pub next_revision : ℕ
  pub there_then : HasAt next (key.Block b.cidr) next_revision (record_of.Block new)
  pub elsewhere : (cidr : CidrValue) → key.Block b.cidr ≢ key.Block cidr → row_of (key.Block cidr) next.rows ≡ row_of (key.Block cidr) store.rows

-- an allocation of the block records the owner
abbrev pub IsBy : BlockValue → CidrValue → Owner → Type 0
IsBy b cidr o = (a : Allocation) × Contains b.allocations a × (owner_of cidr a ≡ o)

-- in another block
abbrev pub IsElsewhere : Datastore → CidrValue → Owner → Type 0
IsElsewhere store cidr o = (other : CidrValue) × (key.Block cidr ≢ key.Block other) × HeldIn store other o

-- who owns by the block that is there, or by another
pub owns-cases : (store : Datastore) (b : BlockValue) (cidr : CidrValue) (revision : ℕ) → IsConsistent store → HasAt store (key.Block cidr) revision (record_of.Block b) → (o : Owner) → Owns store o → IsBy b cidr o ⊎ IsElsewhere store cidr o
owns-cases store b cidr revision c there o owns =
    let (other, held) = owns-held store o c.sound owns in
    elim (key_cases (key.Block cidr) (key.Block other)) [
      | inl same ↦
          let is : cidr ≡ other = cc same in
          let at : HeldIn store cidr o = subst (λ (x : CidrValue). HeldIn store x o) (sym is) held in
          let block : at.holding.b ≡ b = same-block store (key.Block cidr) at.holding.revision revision at.holding.b b at.holding.there there in
          inl (at.a, subst (λ (x : BlockValue). Contains x.allocations at.a) block at.among, at.is_owner)
      | inr differ ↦ inr (other, differ, held)
    ]

pub owns-by : (store : Datastore) (b : BlockValue) (cidr : CidrValue) (revision : ℕ) → HasAt store (key.Block cidr) revision (record_of.Block b) → (o : Owner) → IsBy b cidr o → Owns store o
owns-by store b cidr revision there o (a, among, is) =
    subst (λ (x : Owner). Owns store x) is
    (held-owns store cidr (owner_of cidr a) (held-in store cidr (record { revision = revision; b = b; there = there }) a among))

-- who is held elsewhere owns in the other store too
pub moves : (old new : Datastore) (cidr : CidrValue) (o : Owner) → row_of (key.Block cidr) new.rows ≡ row_of (key.Block cidr) old.rows → HeldIn old cidr o → HeldIn new cidr o
moves old new cidr o same h = record {
  holding = record { revision = h.holding.revision; b = h.holding.b; there = same ∙ h.holding.there };
  named = h.named;
  a = h.a;
  among = h.among;
  is_owner = h.is_owner;
}

-- who is recorded in the block isn't elsewhere
not-elsewhere : (store : Datastore) (b : BlockValue) (cidr other : CidrValue) (revision : ℕ) → IsConsistent store → HasAt store (key.Block cidr) revision (record_of.Block b) → (o : Owner) → IsBy b cidr o → key.Block cidr ≢ key.Block other → HeldIn store other o → ⊥
not-elsewhere store b cidr other revision c there o (a, among, is) differ held =
    let at : BlockAt store cidr = record { revision = revision; b = b; there = there } in
    let here : HeldIn store cidr o = subst (λ (x : Owner). HeldIn store cidr x) is (held-in store cidr at a among) in
    let same = one-block store cidr other o.address c at held.holding (held-inside store cidr o c.sound here) (held-inside store other o c.sound held) in
    differ (ap key.Block same)

-- ---- freeing

-- whether an allocation is picked depends on the owner that it records
abbrev pub IsByOwner : CidrValue → (Allocation → Bool) → Type 0
IsByOwner cidr picks = (a other : Allocation) → owner_of cidr a ≡ owner_of cidr other → picks a ≡ true → picks other ≡ true

-- an owner of the block that is picked
abbrev pub IsPickedIn : BlockValue → (Allocation → Bool) → Owner → Type 0
IsPickedIn b picks o = (a : Allocation) × Contains b.allocations a × (picks a ≡ true) × (owner_of b.cidr a ≡ o)

some-picked : (picks : Allocation → Bool) (list : List Allocation) (amount : ℕ) → count_by picks list ≡ suc amount → (a : Allocation) × Contains list a × (picks a ≡ true)
some-picked picks [] amount e = absurd (omega (arith, e))
some-picked picks (a ∷ list) amount e = elim (cases_Bool (picks a)) [
  | inl is ↦ (a, in-here a list, is)
  | inr not_it ↦
      let rest : count_by picks list ≡ suc amount = rw not_it at e in
      let (other, among, chosen) = some-picked picks list amount rest in
      (other, in-there other a list among, chosen)
]

pub not-true : (b : Bool) → not b ≡ true → b ≡ true → ⊥
not-true true e f = cc e
not-true false e f = cc f

pub freed-loses : (store next : Datastore) (b : BlockValue) (picks : Allocation → Bool) (amount : ℕ) → Rewrites store next b (block_without picks (next_block b)) → IsByOwner b.cidr picks → count_by picks b.allocations ≡ suc amount → Loses store next (IsPickedIn b picks)
freed-loses store next b picks amount w by_owner count = record {
  some = owner_of b.cidr first.0;
  was_there = owns-by store b b.cidr w.revision w.there (owner_of b.cidr first.0) (first.0, first.1, refl);
  is_lost = (first.0, first.1, first.2, refl);
  are = λ o. (to o, from o);
}
  where
    first : (a : Allocation) × Contains b.allocations a × (picks a ≡ true)
    first = some-picked picks b.allocations amount count

    to : (o : Owner) → Owns next o → Owns store o × ¬ (IsPickedIn b picks o)
    to o owns = elim (owns-cases next (block_without picks (next_block b)) b.cidr w.next_revision w.then_consistent w.there_then o owns) [
      | inl (a, among, is) ↦
          let (was, kept) = in-filter (λ x. not (picks x)) a b.allocations among in (
            owns-by store b b.cidr w.revision w.there o (a, was, is),
            λ lost. not-true (picks a) kept (by_owner lost.0 a (lost.3 ∙ sym is) lost.2),
          )
      | inr (other, differ, held) ↦
          let was = moves next store other o (sym (w.elsewhere other differ)) held in (
            held-owns store other o was,
            λ lost. not-elsewhere store b b.cidr other w.revision w.consistent w.there o (lost.0, lost.1, lost.3) differ was,
          )
    ]

    from : (o : Owner) → Owns store o × ¬ (IsPickedIn b picks o) → Owns next o
    from o (owns, not_lost) = elim (owns-cases store b b.cidr w.revision w.consistent w.there o owns) [
      | inl (a, among, is) ↦ elim (cases_Bool (picks a)) [
        | inl chosen ↦ absurd (not_lost (a, among, chosen, is))
        | inr other ↦ owns-by next (block_without picks (next_block b)) b.cidr w.next_revision w.there_then o (a, filter-in (λ x. not (picks x)) a b.allocations among (ap not other), is)
      ]
      | inr (other, differ, held) ↦ held-owns next other o (moves store next other o (w.elsewhere other differ) held)
    ]

-- the same owners in other words
pub loses-as : (store next : Datastore) (Lost Other : Owner → Type 0) → Loses store next Lost → ((o : Owner) → Owns store o → Lost o → Other o) → ((o : Owner) → Owns store o → Other o → Lost o) → Loses store next Other
loses-as store next Lost Other h to from = record {
  some = h.some;
  was_there = h.was_there;
  is_lost = to h.some h.was_there h.is_lost;
  are = λ o. (
    λ owns. let (was, not_lost) = (h.are o).0 owns in (was, λ other. not_lost (from o was other)),
    λ both. (h.are o).1 (both.0, λ lost. both.1 (to o both.0 lost)),
  );
}

-- ---- assigning

pub in-inserted : {X : Type 0} → (xs : List X) (place : ℕ) (x : X) → Contains (insert xs place x) x
in-inserted xs zero x = in-here x xs
in-inserted [] (suc place) x = in-here x []
in-inserted (y ∷ ys) (suc place) x = in-there x y (insert ys place x) (in-inserted ys place x)

pub in-still : {X : Type 0} → (xs : List X) (place : ℕ) (x z : X) → Contains xs z → Contains (insert xs place x) z
in-still xs zero x z h = in-there z x xs h
in-still [] (suc place) x z h = absurd (in-nothing z h)
in-still (y ∷ ys) (suc place) x z h = elim (in-cons z y ys h) [
  | inl is ↦ subst (λ w. Contains (y ∷ insert ys place x) w) is (in-here y (insert ys place x))
  | inr there ↦ in-there z y (insert ys place x) (in-still ys place x z there)
]

-- the owner that is recorded
abbrev pub new_owner : BlockValue → (ordinal : ℕ) → Attributes → Owner
new_owner b ordinal attributes = owner_of b.cidr (record { ordinal = ordinal; attributes = attributes; stamp = b.sequence + 1 })

pub assigned-gains : (store next : Datastore) (b : BlockValue) (ordinal : ℕ) (attributes : Attributes) → Rewrites store next b (block_with_ordinal (next_block b) ordinal attributes) → Gains store next (new_owner b ordinal attributes)
assigned-gains store next b ordinal attributes w = record {
  was_free = free;
  are = λ o. (to o, from o);
}
  where
    new : BlockValue
    new = block_with_ordinal (next_block b) ordinal attributes

    a : Allocation
    a = record { ordinal = ordinal; attributes = attributes; stamp = b.sequence + 1 }

    place : ℕ
    place = count_by (λ (x : Allocation). nat_lt x.ordinal ordinal) b.allocations

    owner : Owner
    owner = new_owner b ordinal attributes

    among_new : Contains new.allocations a
    among_new = in-inserted b.allocations place a

    still : (o : Owner) → Owns store o → Owns next o
    still o owns = elim (owns-cases store b b.cidr w.revision w.consistent w.there o owns) [
      | inl (x, among, is) ↦ owns-by next new b.cidr w.next_revision w.there_then o (x, in-still b.allocations place a x among, is)
      | inr (other, differ, held) ↦ held-owns next other o (moves store next other o (w.elsewhere other differ) held)
    ]

    owns_now : Owns next owner
    owns_now = owns-by next new b.cidr w.next_revision w.there_then owner (a, among_new, refl)

    free : (o : Owner) → Owns store o → o.address ≢ owner.address
    free o owns same =
        let is : o ≡ owner = same-owner next w.then_consistent o owner (still o owns) owns_now same in
        let was : Owns store owner = subst (λ (x : Owner). Owns store x) is owns in
        elim (owns-cases store b b.cidr w.revision w.consistent w.there owner was) [
          | inl (x, among, same_owner) ↦
              let at : BlockAt store b.cidr = record { revision = w.revision; b = b; there = w.there } in
              let held : HeldIn store b.cidr owner = subst (λ (y : Owner). HeldIn store b.cidr y) same_owner (held-in store b.cidr at x among) in
              let block : held.holding.b ≡ b = same-block store (key.Block b.cidr) held.holding.revision w.revision held.holding.b b held.holding.there w.there in
              let sequence = ap (λ (y : BlockValue). y.sequence) block in
              let stamped = held-stamped store b.cidr owner w.consistent.sound held in
              absurd (omega (arith, sequence))
          | inr (other, differ, held) ↦
              let then = moves store next other owner (w.elsewhere other differ) held in
              not-elsewhere next new b.cidr other w.next_revision w.then_consistent w.there_then owner (a, among_new, refl) differ then
        ]

    to : (o : Owner) → Owns next o → Owns store o ⊎ (o ≡ owner)
    to o owns = elim (owns-cases next new b.cidr w.next_revision w.then_consistent w.there_then o owns) [
      | inl (x, among, is) ↦ elim (in-insert b.allocations place a x among) [
        | inl same ↦ inr (sym is ∙ ap (owner_of b.cidr) (sym same))
        | inr was ↦ inl (owns-by store b b.cidr w.revision w.there o (x, was, is))
      ]
      | inr (other, differ, held) ↦ inl (held-owns store other o (moves next store other o (sym (w.elsewhere other differ)) held))
    ]

    from : (o : Owner) → Owns store o ⊎ (o ≡ owner) → Owns next o
    from o (inl owns) = still o owns
    from o (inr is) = subst (λ (x : Owner). Owns next x) (sym is) owns_now
