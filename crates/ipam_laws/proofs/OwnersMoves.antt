-- What a call that assigns or frees makes of the owners.
use Rattle.std.proofs.Common.{◌≡◌, ◌≢◌, ℕ, suc, inl, inr, Bool, true, false, List, Some, None, refl, sym, ap, ◌∙◌, subst, arith, eqb-true}
use Rattle.std.specs.Prelude.{◌&&◌, ◌==◌}
use Rattle.std.specs.List.{count_by}
use Rattle.ipam_addr.specs.Shape.{CidrValue}
use Rattle.ipam_block.specs.declared.allocation.Allocation.{Allocation}
use Rattle.ipam_block.specs.Operations.{ordinal_address, is_owned, is_stamped, block_without, next_block}
use Rattle.ipam_block.specs.Shape.{BlockValue}
use Rattle.ipam_records.specs.declared.call.Call.{Call}
use Rattle.ipam_records.specs.declared.call.Call.TheVariants.{Get, List as ListAll, Create, Update, Delete}
use Rattle.ipam_records.specs.declared.call.Write.TheVariants.{Put}
use Rattle.ipam_records.specs.declared.key.Key.{Key}
use Rattle.ipam_records.specs.declared.key.Key.TheVariants as key
use Rattle.ipam_records.specs.declared.record.Record.{Record}
use Rattle.ipam_records.specs.declared.record.Record.TheVariants as record_of
use Rattle.ipam_records.specs.Datastore.{Datastore, reply_of, row_of, write_granted, write_of, written}
use Rattle.ipam_records.specs.Key.{key_of}
use Rattle.ipam_records.specs.Said.{Said, Found, Missing, Listed, Can, Exists, Conflict, Full, Spent}
use Rattle.ipam_records.proofs.DatastoreLemmas.{row_of-with_row, row_of-with_row-other, row_of-without_row-other}
use Rattle.ipam_model.specs.AffinityLaw.{HasAt}
use Rattle.ipam_model.specs.BlockLaw.{BlockAt}
use Rattle.ipam_model.specs.Cluster.{store_with}
use Rattle.ipam_model.specs.Consistent.{IsConsistent}
use Rattle.ipam_model.specs.Moments.{Loses, Owns}
use Rattle.ipam_model.specs.OwnerLaw.{IsHeldIn}
use Rattle.ipam_model.specs.Owners.{Owner, owner_of}
use Rattle.ipam_laws.proofs.ActParts.{IsApart, IsCurrent}
use Rattle.ipam_laws.proofs.BlockSteps.{IsNoBlock}
use Rattle.ipam_laws.proofs.Calls.{update-can}
use Rattle.ipam_laws.proofs.CountLemmas.{same_text, text_cases}
use Rattle.ipam_laws.proofs.Lift.{behind}
use Rattle.ipam_laws.proofs.Owned.{HeldIn, held-in, held-inside, one-block}
use Rattle.ipam_laws.proofs.OwnersEffects.{IsByOwner, IsPickedIn, Rewrites, freed-loses, loses-as, owns-cases}

-- ---- what a call makes of the store

-- a call that was not granted makes nothing of it
pub data Granted (store : Datastore) (asked : Call) : Type 0 where
  Given : (revision : ℕ) → reply_of store asked ≡ Can revision → Granted store asked
  NotGiven : behind store asked ≡ store → Granted store asked

pub granted-cases : (store : Datastore) (asked : Call) → Granted store asked
granted-cases store asked = by (reply_of store asked) refl
  where
    none : (said : Said) → reply_of store asked ≡ said → write_granted asked said ≡ None → Granted store asked
    none said e f = NotGiven (ap (λ w. store_with w store) (ap (write_granted asked) e ∙ f))

    by : (said : Said) → reply_of store asked ≡ said → Granted store asked
    by (Can revision) e = Given revision e
    by Missing e = none Missing e refl
    by (Exists revision) e = none (Exists revision) e refl
    by (Conflict revision) e = none (Conflict revision) e refl
    by Full e = none Full e refl
    by Spent e = none Spent e refl
    by (Found revision found) e = none (Found revision found) e refl
    by (Listed rows) e = none (Listed rows) e refl

no-block : (k : Key) (cidr : CidrValue) → IsNoBlock k → k ≢ key.Block cidr
no-block k cidr h e = subst (λ (x : Key). IsNoBlock x) e h

-- a call that writes no block leaves each block
pub apart-leaves : (store : Datastore) (asked : Call) (cidr : CidrValue) → IsApart asked → row_of (key.Block cidr) (behind store asked).rows ≡ row_of (key.Block cidr) store.rows
apart-leaves store asked cidr h = elim (granted-cases store asked) [
  | NotGiven same ↦ ap (λ (s : Datastore). row_of (key.Block cidr) s.rows) same
  | Given revision e ↦
      ap (λ (said : Said). row_of (key.Block cidr) (store_with (write_granted asked said) store).rows) e ∙ by asked revision h
]
  where
    by : (c : Call) (revision : ℕ) → IsApart c → row_of (key.Block cidr) (store_with (write_of c revision) store).rows ≡ row_of (key.Block cidr) store.rows
    by (Get k) revision apart = refl
    by (ListAll kind) revision apart = refl
    by (Create new) revision apart = row_of-with_row-other (key.Block cidr) (revision, new) store.rows (no-block (key_of new) cidr apart)
    by (Update new old) revision apart = row_of-with_row-other (key.Block cidr) (revision, new) store.rows (no-block (key_of new) cidr apart)
    by (Delete k old) revision apart = row_of-without_row-other (key.Block cidr) k store.rows (no-block k cidr apart)

-- a block that was changed is another, and each other block is as it was
pub rewrites : (store next : Datastore) (b new : BlockValue) (old revision : ℕ) → IsConsistent store → IsConsistent next → new.cidr ≡ b.cidr → reply_of store (Update (record_of.Block new) old) ≡ Can revision → IsCurrent store old b → next ≡ behind store (Update (record_of.Block new) old) → Rewrites store next b new
rewrites store next b new old revision c d named e current is =
    let put : next ≡ written store (Put revision (record_of.Block new)) = is ∙ ap (λ (said : Said). store_with (write_granted (Update (record_of.Block new) old) said) store) e in
    let (found, there) = update-can store (record_of.Block new) old revision e in
    let at : HasAt store (key.Block b.cidr) old found = subst (λ (x : CidrValue). HasAt store (key.Block x) old found) named there in
    let whole = current found at in
    let then : HasAt next (key.Block new.cidr) revision (record_of.Block new) = ap (λ (s : Datastore). row_of (key.Block new.cidr) s.rows) put ∙ row_of-with_row (revision, record_of.Block new) store.rows in
    record {
      consistent = c;
      then_consistent = d;
      revision = old;
      there = at ∙ ap (λ (x : Record). Some (old, x)) whole;
      next_revision = revision;
      there_then = subst (λ (x : CidrValue). HasAt next (key.Block x) revision (record_of.Block new)) named then;
      elsewhere = λ cidr differ.
          ap (λ (s : Datastore). row_of (key.Block cidr) s.rows) put
          ∙ row_of-with_row-other (key.Block cidr) (revision, record_of.Block new) store.rows (λ f. differ (ap key.Block (sym named) ∙ f));
    }

-- ---- all that a handle holds in a block

same-handle : (a : Allocation) (id : List ℕ) → is_owned id a ≡ true → a.attributes.handle ≡ id
same-handle a id e = elim (text_cases a.attributes.handle id) [
  | inl (t, same) ↦ same
  | inr (f, differ) ↦ absurd (cc (e, f))
]

owned-by_owner : (cidr : CidrValue) (id : List ℕ) → IsByOwner cidr (is_owned id)
owned-by_owner cidr id a other same e =
    let handle : other.attributes.handle ≡ id = ap (λ (o : Owner). o.handle) (sym same) ∙ same-handle a id e in
    subst (λ (x : List ℕ). is_owned x other ≡ true) handle (same_text other.attributes.handle)

pub loses-all : (store next : Datastore) (b : BlockValue) (id : List ℕ) (amount : ℕ) → Rewrites store next b (block_without (is_owned id) (next_block b)) → count_by (is_owned id) b.allocations ≡ suc amount → Loses store next (IsHeldIn b.cidr id)
loses-all store next b id amount w count =
    loses-as store next (IsPickedIn b (is_owned id)) (IsHeldIn b.cidr id) (freed-loses store next b (is_owned id) amount w (owned-by_owner b.cidr id) count) to from
  where
    at : BlockAt store b.cidr
    at = record { revision = w.revision; b = b; there = w.there }

    to : (o : Owner) → Owns store o → IsPickedIn b (is_owned id) o → IsHeldIn b.cidr id o
    to o owns (a, among, picked, is) =
        let held : HeldIn store b.cidr o = subst (λ (x : Owner). HeldIn store b.cidr x) is (held-in store b.cidr at a among) in
        record {
          inside = held-inside store b.cidr o w.consistent.sound held;
          own = ap (λ (x : Owner). x.handle) (sym is) ∙ same-handle a id picked;
        }

    from : (o : Owner) → Owns store o → IsHeldIn b.cidr id o → IsPickedIn b (is_owned id) o
    from o owns h = elim (owns-cases store b b.cidr w.revision w.consistent w.there o owns) [
      | inl (a, among, is) ↦
          let handle : a.attributes.handle ≡ id = ap (λ (x : Owner). x.handle) is ∙ h.own in
          (a, among, subst (λ (x : List ℕ). is_owned x a ≡ true) handle (same_text a.attributes.handle), is)
      | inr (other, differ, held) ↦
          let same = one-block store b.cidr other o.address w.consistent at held.holding h.inside (held-inside store other o w.consistent.sound held) in
          absurd (differ (ap key.Block same))
    ]

-- ---- one address

and-three : (a b c : Bool) → (a && b && c) ≡ true → (a ≡ true) × (b ≡ true) × (c ≡ true)
and-three true true true e = (refl, refl, refl)
and-three true true false e = absurd (cc e)
and-three true false c e = absurd (cc e)
and-three false b c e = absurd (cc e)

-- the owner that the ordinal, the handle and the stamp say
abbrev pub stamped_owner : CidrValue → (ordinal : ℕ) → List ℕ → (stamp : ℕ) → Owner
stamped_owner cidr ordinal handle stamp = record { address = ordinal_address cidr ordinal; handle = handle; stamp = stamp }

stamped-is : (cidr : CidrValue) (ordinal : ℕ) (handle : List ℕ) (stamp : ℕ) (a : Allocation) → is_stamped ordinal handle stamp a ≡ true → owner_of cidr a ≡ stamped_owner cidr ordinal handle stamp
stamped-is cidr ordinal handle stamp a e =
    let (first, second, third) = and-three (a.ordinal == ordinal) (a.stamp == stamp) (is_owned handle a) e in
    let at = eqb-true a.ordinal ordinal first in
    let stamped = eqb-true a.stamp stamp second in
    let own = same-handle a handle third in
    λ i. record { address = ordinal_address cidr (at i); handle = own i; stamp = stamped i }

pub stamped-by_owner : (cidr : CidrValue) (ordinal : ℕ) (handle : List ℕ) (stamp : ℕ) → IsByOwner cidr (is_stamped ordinal handle stamp)
stamped-by_owner cidr ordinal handle stamp a other same e =
    let number = ap (λ (o : Owner). o.address.number) same in
    let at : a.ordinal ≡ other.ordinal = omega arith in
    let stamps = ap (λ (o : Owner). o.stamp) same in
    let handles = ap (λ (o : Owner). o.handle) same in
    let moved : is_stamped ordinal handle stamp a ≡ is_stamped ordinal handle stamp other =
    λ i. is_stamped ordinal handle stamp (record { ordinal = at i; attributes = record a.attributes { handle = handles i }; stamp = stamps i }) in
    sym moved ∙ e

pub loses-one : (store next : Datastore) (b : BlockValue) (ordinal : ℕ) (handle : List ℕ) (stamp amount : ℕ) → Rewrites store next b (block_without (is_stamped ordinal handle stamp) (next_block b)) → count_by (is_stamped ordinal handle stamp) b.allocations ≡ suc amount
    → Loses store next (λ o. o ≡ stamped_owner b.cidr ordinal handle stamp)
loses-one store next b ordinal handle stamp amount w count =
    let h = freed-loses store next b (is_stamped ordinal handle stamp) amount w (stamped-by_owner b.cidr ordinal handle stamp) count in
    let some_is = to h.some h.is_lost in
    loses-as store next (IsPickedIn b (is_stamped ordinal handle stamp)) (λ o. o ≡ stamped_owner b.cidr ordinal handle stamp) h (λ o owns picked. to o picked)
    (λ o owns is. subst (λ (x : Owner). IsPickedIn b (is_stamped ordinal handle stamp) x) (some_is ∙ sym is) h.is_lost)
  where
    to : (o : Owner) → IsPickedIn b (is_stamped ordinal handle stamp) o → o ≡ stamped_owner b.cidr ordinal handle stamp
    to o (a, among, picked, is) = sym is ∙ stamped-is b.cidr ordinal handle stamp a picked
