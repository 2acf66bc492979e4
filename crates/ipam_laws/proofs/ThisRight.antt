-- What an ADD of one address is answered is right.
use Rattle.std.proofs.Common.{◌≡◌, ℕ, ◌+◌, ◌-◌, inr, Bool, true, false, List, Option, Some, None, refl, sym, ◌∙◌, subst, arith}
use Rattle.std.specs.Prelude.{◌&&◌}
use Rattle.std.specs.List.{All}
use Rattle.std.proofs.lemmas.List.Elements.{All-contains}
use Rattle.ipam_addr.specs.Shape.{AddrValue, CidrValue}
use Rattle.ipam_addr.specs.Holding.{Holds, holds_address}
use Rattle.ipam_addr.specs.Slots.{HasSlots}
use Rattle.ipam_addr.proofs.HoldingLemmas.{holds_from}
use Rattle.ipam_addr.proofs.SlotLemmas.{slot_number_holds}
use Rattle.ipam_block.specs.Operations.{ordinal_address, holder}
use Rattle.ipam_block.specs.Shape as block
use Rattle.ipam_pool.specs.declared.pools.Pool.{Pool}
use Rattle.ipam_pool.specs.Slots.{IsSlotOf}
use Rattle.ipam_records.specs.declared.call.Call.TheVariants.{Get}
use Rattle.ipam_records.specs.declared.key.Key.TheVariants as key
use Rattle.ipam_records.specs.declared.record.Record.{Record}
use Rattle.ipam_records.specs.declared.record.Record.TheVariants as record_of
use Rattle.ipam_records.specs.Datastore.{Datastore, reply_of, reply_to_get, row_of}
use Rattle.ipam_records.specs.Sound.{IsDatastore}
use Rattle.ipam_model.specs.declared.request.AddRequest.{AddRequest}
use Rattle.ipam_model.specs.AddLaw.{HasFound, HasNothing, IsNotAffine, IsNotInPool, IsTaken, LookRevisions}
use Rattle.ipam_model.specs.AddThis as this
use Rattle.ipam_model.specs.Answered.{Answered, history_of, span_of}
use Rattle.ipam_model.specs.Choice.{share_of}
use Rattle.ipam_model.specs.Consistent.{IsConsistent}
use Rattle.ipam_model.specs.History.{Lawful, now}
use Rattle.ipam_model.specs.Reads.{config_said, pools_said}
use Rattle.ipam_model.specs.Usable.{Asked, is_usable, usable_pool_of}
use Rattle.ipam_laws.proofs.AddTrails.{Calmly}
use Rattle.ipam_laws.proofs.CalmHistory.{calm-gains-none}
use Rattle.ipam_laws.proofs.FamilyHistory.{heard}
use Rattle.ipam_laws.proofs.Members.{in-find}
use Rattle.ipam_laws.proofs.NoReturn.{consistent-before}
use Rattle.ipam_laws.proofs.SoundBlocks.{holding-number, slot-of-pool}
use Rattle.ipam_laws.proofs.SoundSteps.{row-there}
use Rattle.ipam_laws.proofs.ThisTrails.{HasFoundBlock, IsHeldBy, IsLeftAlone, IsUnpooled}
use Rattle.ipam_laws.proofs.Trails.{IsTrail, Trail}

and-both : (a b : Bool) → (a && b) ≡ true → b ≡ true
and-both true b e = e
and-both false b e = absurd (cc e)

-- the slot of a usable pool that was read is one, and holds the address
pub slot-there : (store : Datastore) → IsDatastore store → (asked : Asked) (address : AddrValue) (pool : Pool) → usable_pool_of asked address (pools_said (reply_of store (Get key.Pools))) ≡ Some pool
    → IsSlotOf pool (this.slot_holding pool address) × Holds (this.slot_holding pool address) address × (holds_address pool.cidr address ≡ true)
slot-there store sound asked address pool e = from (row_of key.Pools store.rows) refl e
  where
    among : (pools : List Pool) → All (λ (p : Pool). HasSlots p.cidr p.size) pools → usable_pool_of asked address pools ≡ Some pool → IsSlotOf pool (this.slot_holding pool address) × Holds (this.slot_holding pool address) address × (holds_address pool.cidr address ≡ true)
    among pools sizes f =
        let (there, test) = in-find (λ (p : Pool). is_usable asked p && holds_address p.cidr address) pool pools f in
        let holds = and-both (is_usable asked pool) (holds_address pool.cidr address) test in
        let has = All-contains (λ (p : Pool). HasSlots p.cidr p.size) pools pool sizes there in
        let inside = slot_number_holds pool.cidr pool.size address (holds_from pool.cidr address holds) in (
          slot-of-pool pool (this.slot_holding pool address) has (inr (address, holds, refl)),
          subst (λ (c : CidrValue). Holds c address) (sym (holding-number pool address holds)) inside,
          holds,
        )

    from : (o : Option (ℕ × Record)) → row_of key.Pools store.rows ≡ o → usable_pool_of asked address (pools_said (reply_to_get o)) ≡ Some pool → IsSlotOf pool (this.slot_holding pool address) × Holds (this.slot_holding pool address) address × (holds_address pool.cidr address ≡ true)
    from None row f = absurd (cc f)
    from (Some (revision, record_of.Pools pools)) row f = among pools (row-there store key.Pools revision (record_of.Pools pools) sound row).is_record.table.sizes f
    from (Some (revision, record_of.Config config)) row f = absurd (cc f)
    from (Some (revision, record_of.Reservations reservations)) row f = absurd (cc f)
    from (Some (revision, record_of.Block b)) row f = absurd (cc f)
    from (Some (revision, record_of.Affinity affinity)) row f = absurd (cc f)
    from (Some (revision, record_of.Handle handle)) row f = absurd (cc f)

own-ordinal : (cidr : CidrValue) (address : AddrValue) → Holds cidr address → address ≡ ordinal_address cidr (address.number - cidr.base)
own-ordinal cidr address holds =
    let from = holds.from_base in
    let sum : address.number ≡ cidr.base + (address.number - cidr.base) = omega arith in
    λ i. record { family = holds.same_family i; number = sum i }

abbrev pub looks_at : this.LookedAtBlock → LookRevisions
looks_at looked = record { c = looked.rules.c; p = looked.rules.p; b = looked.b }

module _ (a : Answered) (request : AddRequest) (address : AddrValue) (consistent : IsConsistent a.base.store) (lawful : Lawful a.base (history_of a)) where
  -- what was read, in the span
  pub record IsSeen (looked : this.LookedAtBlock) (found : ℕ × block.BlockValue) : Type 0 where
    pub has : HasFound a request address (looks_at looked)
    pub read : has.read ≡ found
    pub ordinal : has.ordinal ≡ address.number - looked.cidr.base
    pub cidr : has.looked.cidr ≡ looked.cidr
    pub config : config_said has.looked.config ≡ looked.rules.config

  pub seen-block : (looked : this.LookedAtBlock) (found : ℕ × block.BlockValue) (trail : Trail) (upto : ℕ) → IsTrail (span_of a) upto trail → HasFoundBlock request address looked found trail → IsSeen looked found
  unfolding IsTrail
  seen-block looked found trail upto is h =
      let span = span_of a in
      let r = h.read in
      let (at_b, next_b, (at_p, then_b, (at_c, then_p, rest))) = subst (λ (t : Trail). IsTrail span upto t) r.is is in
      let there = consistent-before a.base (history_of a) looked.rules.p consistent lawful in
      let sound : IsDatastore r.pools = subst (λ (s : Datastore). IsDatastore s) at_p.before_it there.sound in
      let (slot, holds, inside) = slot-there r.pools sound (this.asked_of_this request address) address r.pool r.usable in
      let holds_there : Holds looked.cidr address = subst (λ (c : CidrValue). Holds c address) (sym r.at_slot) holds in
      record {
        has = record {
          looked = record {
            config = reply_of r.config (Get key.Config);
            pools = reply_of r.pools (Get key.Pools);
            block = reply_of r.block (Get (key.Block looked.cidr));
            pool = r.pool;
            cidr = looked.cidr;
            at_c = heard span looked.rules.c r.config (Get key.Config) at_c;
            at_p = heard span looked.rules.p r.pools (Get key.Pools) at_p;
            at_b = heard span looked.b r.block (Get (key.Block looked.cidr)) at_b;
            then_p = then_p;
            then_b = then_b;
            is_usable = r.usable;
            is_slot = subst (λ (c : CidrValue). IsSlotOf r.pool c) (sym r.at_slot) slot;
            holds = holds_there;
          };
          read = found;
          was_read = h.there;
          ordinal = address.number - looked.cidr.base;
          is_ordinal = own-ordinal looked.cidr address holds_there;
        };
        read = refl;
        ordinal = refl;
        cidr = refl;
        config = sym r.by_config;
      }

  pub unpooled-right : (moment : ℕ) (trail : Trail) → IsTrail (span_of a) (now (span_of a)) trail → IsUnpooled request address moment trail → IsNotInPool a request address moment
  unfolding IsTrail
  unpooled-right moment trail is h =
      let there = subst (λ (t : Trail). IsTrail (span_of a) (now (span_of a)) t) h.is is in
      record { pools = reply_of h.pools (Get key.Pools); at_p = heard (span_of a) moment h.pools (Get key.Pools) there.0; unusable = h.none }

  -- the holder in the words of what was seen
  pub holder-seen : (looked : this.LookedAtBlock) (found : ℕ × block.BlockValue) (s : IsSeen looked found) → holder s.has.read.1 s.has.ordinal ≡ holder found.1 (address.number - looked.cidr.base)
  holder-seen looked found s = λ i. holder (s.read i).1 (s.ordinal i)

  pub held-right : (id : List ℕ) (moment : ℕ) (trail : Trail) → IsTrail (span_of a) (now (span_of a)) trail → IsHeldBy request address id moment trail → IsTaken a request address id moment
  held-right id moment trail is h =
      let s = seen-block h.looked h.found trail (now (span_of a)) is h.has in
      record {
        at = looks_at h.looked;
        at_b = h.at;
        found = s.has;
        held = h.held;
        is_held = holder-seen h.looked h.found s ∙ h.is_held;
        is_holder = h.is_holder;
      }

  pub left-right : (cidr : CidrValue) (moment : ℕ) (trail : Trail) → IsTrail (span_of a) (now (span_of a)) trail → IsLeftAlone request address cidr moment trail → IsNotAffine a request address cidr moment
  left-right cidr moment trail is h =
      let s = seen-block h.looked h.found trail (now (span_of a)) is h.has in
      record {
        at = looks_at h.looked;
        at_b = h.at;
        found = s.has;
        is_block = h.is_block ∙ sym s.cidr;
        was_free = holder-seen h.looked h.found s ∙ h.was_free;
        is_left = (λ i. share_of (s.config i).strict request.node (s.read i).1) ∙ h.leaves;
      }

-- a request whose calls are all calm has nothing
pub calm-nothing : (a : Answered) (trail : Trail) → IsConsistent a.base.store → Lawful a.base (history_of a) → IsTrail (span_of a) (now (span_of a)) trail → Calmly trail → HasNothing a
calm-nothing a trail c h is calm owner (moment, gained) owns =
    calm-gains-none (span_of a) trail (now (span_of a)) moment owner c h is calm gained.in_span.before_now gained
