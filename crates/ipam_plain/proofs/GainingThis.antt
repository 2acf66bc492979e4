-- What an ADD of one address that runs alone makes of the owners.
use Rattle.std.proofs.Common.{◌≡◌, ◌≢◌, ◌⊎◌, ℕ, ◌+◌, ◌-◌, ◌/◌, inl, inr, Bool, true, false, List, [], ◌∷◌, Option, Some, None, refl, sym, ap, ◌∙◌, subst, arith}
use Rattle.std.specs.Prelude.{◌&&◌}
use Rattle.ipam_addr.specs.Holding.{holds_address}
use Rattle.ipam_addr.specs.Shape.{AddrValue, CidrValue}
use Rattle.ipam_addr.specs.Slots.{slot_of}
use Rattle.ipam_addr.specs.Width.{size_of}
use Rattle.ipam_addr.proofs.HoldingLemmas.{holds_from}
use Rattle.ipam_addr.proofs.SlotLemmas.{slot_number_holds}
use Rattle.ipam_pool.specs.declared.pools.Pool.{Pool}
use Rattle.ipam_block.specs.declared.state.State.TheVariants.{Confirmed}
use Rattle.ipam_block.specs.declared.allocation.Allocation.{Allocation}
use Rattle.ipam_block.specs.Operations.{ordinal_address, holder}
use Rattle.ipam_block.specs.Shape.{BlockValue}
use Rattle.ipam_records.specs.declared.key.Key.TheVariants as key
use Rattle.ipam_records.specs.declared.record.Record.TheVariants as record_of
use Rattle.ipam_records.specs.Datastore.{Datastore}
use Rattle.ipam_records.specs.Word.{Ends}
use Rattle.ipam_model.specs.declared.answer.Answer.{Answer}
use Rattle.ipam_model.specs.declared.answer.Answer.TheVariants as answer
use Rattle.ipam_model.specs.declared.answer.GivenThis.{GivenThis}
use Rattle.ipam_model.specs.declared.outcome.AddThisAnswer.{AddThisAnswer}
use Rattle.ipam_model.specs.declared.outcome.AddThisAnswer.TheVariants as add
use Rattle.ipam_model.specs.declared.request.AddRequest.{AddRequest}
use Rattle.ipam_model.specs.declared.request.Request.TheVariants.{AddThis}
use Rattle.ipam_model.specs.AddThis.{Wanted, add_this_word, asked_of_this, slot_holding}
use Rattle.ipam_model.specs.Affinities.{BlockRead, affinity}
use Rattle.ipam_model.specs.AffinityLaw.{HasAt}
use Rattle.ipam_model.specs.Alone.{alone_over}
use Rattle.ipam_model.specs.Choice.{Claims, Leaves, Share, Takes, by_share, share_of}
use Rattle.ipam_model.specs.Consistent.{IsConsistent}
use Rattle.ipam_model.specs.History.{Base}
use Rattle.ipam_model.specs.Plain.{Gives, HasSpare, IsAnothers, PlainAnswer, PlainGift, PlainResult, Rows, block_in_rows, claimed_block, plain_add_this, plain_gift, plain_of, plain_this, plain_this_block, plain_this_claimed, plain_this_free, plain_this_held, plain_this_pool, put, records, seen_in, with_assigned, with_claimed}
use Rattle.ipam_model.specs.Requests.{word_of}
use Rattle.ipam_model.specs.SoundRequest.{IsSoundRequest}
use Rattle.ipam_model.specs.Told.{of_add_this}
use Rattle.ipam_model.specs.Usable.{is_usable, usable_pool_of}
use Rattle.ipam_laws.proofs.AloneCalls.{Runs-bound, runs-alone}
use Rattle.ipam_laws.proofs.AloneThis.{NotAgainThis, this-runs}
use Rattle.ipam_laws.proofs.Members.{in-find}
use Rattle.ipam_laws.proofs.RequestSteps.{word-lawful}
use Rattle.ipam_records.proofs.RowWrites.{sorted-with_row}
use Rattle.ipam_laws.proofs.SoundBlocks.{holding-number}
use Rattle.ipam_plain.specs.Gains.{AddThisOwnersLaw, GainsThese}
use Rattle.ipam_plain.proofs.Alike.{IsSorted, block_from, block_of-record, record_at, value_in}
use Rattle.ipam_plain.proofs.Claiming.{plain-claimed}
use Rattle.ipam_plain.proofs.Gaining.{gains-more, gains-none, gains-owners}
use Rattle.ipam_plain.proofs.Given.{GivesOne, assigned-gives, claimed-gives}
use Rattle.ipam_plain.proofs.Held.{found-record, named, same-owners}
use Rattle.ipam_plain.proofs.Readying.{assigned-sorted, claimed-cidr}
use Rattle.ipam_plain.proofs.Whole.{add_this_alone}
use Rattle.ipam_addr.specs.declared.address.Family.TheVariants.{V4}

module _ (request : AddRequest) (address : AddrValue) (rows : Rows) (sorted : IsSorted rows) where
  abbrev wanted : Wanted
  wanted = record { request = request; address = address }

  -- the address was given
  record GivesThis (result : PlainResult) : Type 0 where
    is : result.0 ≡ Gives (address ∷ [])
    gift : PlainGift
    is_address : gift.address ≡ address
    gives : GivesOne request.attributes rows gift result.1
    ordered : IsSorted result.1

  -- it was not, and nothing changes
  record LeavesAll (result : PlainResult) : Type 0 where
    none : (addresses : List AddrValue) → result.0 ≢ Gives addresses
    same : result.1 ≡ rows

  abbrev Comes : PlainResult → Type 0
  Comes result = GivesThis result ⊎ LeavesAll result

  -- the address of the slot that holds it
  own-address : (pool : Pool) → holds_address pool.cidr address ≡ true → ordinal_address (slot_holding pool address) (address.number - (slot_holding pool address).base) ≡ address
  own-address pool holds =
      let number = holding-number pool address holds in
      let inside = slot_number_holds pool.cidr pool.size address (holds_from pool.cidr address holds) in
      let slot = slot_of pool.cidr pool.size ((address.number - pool.cidr.base) / size_of pool.cidr.family pool.size) in
      let from = inside.from_base in
      let sum : slot.base + (address.number - slot.base) ≡ address.number = omega arith in
      let there : ordinal_address slot (address.number - slot.base) ≡ address = λ i. record { family = sym inside.same_family i; number = sum i } in
      subst (λ (c : CidrValue). ordinal_address c (address.number - c.base) ≡ address) (sym number) there

  module _ (pool : Pool) (holds : holds_address pool.cidr address ≡ true) where
    abbrev cidr : CidrValue
    cidr = slot_holding pool address

    taken-ends : (found : ℕ × BlockValue) → record_at (key.Block cidr) rows ≡ Some (record_of.Block found.1) → Comes (plain_this wanted cidr (Some found) rows)
    taken-ends found at =
        let own = named rows cidr found.1 at in
        let there = subst (λ (c : CidrValue). record_at (key.Block c) rows ≡ Some (record_of.Block found.1)) (sym own) at in
        inl (record {
          is = refl;
          gift = plain_gift found (address.number - cidr.base);
          is_address = ap (λ (c : CidrValue). ordinal_address c (address.number - cidr.base)) own ∙ own-address pool holds;
          gives = assigned-gives request.attributes rows found.0 found.1 (address.number - cidr.base) there;
          ordered = assigned-sorted request V4 rows found.1 (address.number - cidr.base) sorted;
        })

    claimed-ends : Comes (plain_this_claimed wanted cidr rows)
    claimed-ends =
        let own = claimed-cidr request V4 cidr rows in
        let after = with_claimed request.node cidr rows in
        let b = claimed_block request.node cidr (block_in_rows cidr rows) in
        let h = plain-claimed request.node cidr rows own in
        let confirmed = record_of.Affinity (affinity request.node cidr Confirmed) in
        let ordered = sorted-with_row (0, record_of.Block b) (put confirmed rows) (sorted-with_row (0, confirmed) rows sorted) in
        let there = subst (λ (c : CidrValue). record_at (key.Block c) after ≡ Some (record_of.Block b)) (sym own) h.has_block in
        let gives = claimed-gives request.attributes request.node cidr rows after (with_assigned request.attributes b (address.number - cidr.base) after) (plain_gift (0, b) (address.number - cidr.base)) h
        (assigned-gives request.attributes after 0 b (address.number - cidr.base) there) in
        let ends : Comes (plain_this wanted cidr (Some (0, b)) after) = inl (record {
          is = refl;
          gift = plain_gift (0, b) (address.number - cidr.base);
          is_address = ap (λ (c : CidrValue). ordinal_address c (address.number - cidr.base)) own ∙ own-address pool holds;
          gives = gives;
          ordered = assigned-sorted request V4 after b (address.number - cidr.base) ordered;
        }) in
        by (block_in_rows cidr after) (block_of-record cidr after ∙ ap block_from h.has_block) ends
      where
        by : (o : BlockRead) → value_in o ≡ Some (claimed_block request.node cidr (block_in_rows cidr rows)) → Comes (plain_this wanted cidr (Some (0, claimed_block request.node cidr (block_in_rows cidr rows))) (with_claimed request.node cidr rows))
            → Comes (plain_this wanted cidr o (with_claimed request.node cidr rows))
        by None e ends = absurd (cc e)
        by (Some found) e ends =
            let same : found.1 ≡ claimed_block request.node cidr (block_in_rows cidr rows) = cc e in
            subst (λ (x : BlockValue). Comes (plain_this wanted cidr (Some (0, x)) (with_claimed request.node cidr rows))) (sym same) ends

    free-ends : (strict : Bool) (found : ℕ × BlockValue) → record_at (key.Block cidr) rows ≡ Some (record_of.Block found.1) → Comes (plain_this_free strict wanted cidr found rows)
    free-ends strict found at = by (share_of strict request.node found.1)
      where
        by : (share : Share) → Comes (by_share share (plain_this wanted cidr (Some found) rows) (plain_this_claimed wanted cidr rows) (IsAnothers cidr, rows))
        by Takes = taken-ends found at
        by Claims = claimed-ends
        by Leaves = inr (record { none = λ addresses e. cc e; same = refl })

    block-ends : (strict : Bool) (o : BlockRead) → block_in_rows cidr rows ≡ o → Comes (plain_this_block strict wanted cidr o rows)
    block-ends strict None e = claimed-ends
    block-ends strict (Some found) e = by (holder found.1 (address.number - cidr.base))
      where
        by : (o : Option Allocation) → Comes (plain_this_held (plain_this_free strict wanted cidr found rows) rows o)
        by None = free-ends strict found (found-record rows cidr found.1 (ap value_in e))
        by (Some held) = inr (record { none = λ addresses e. cc e; same = refl })

  pool-ends : (strict : Bool) (o : Option Pool) → usable_pool_of (asked_of_this request address) address (seen_in rows).pools ≡ o → Comes (plain_this_pool strict wanted o rows)
  pool-ends strict None e = inr (record { none = λ addresses f. cc f; same = refl })
  pool-ends strict (Some pool) e =
      let (among, test) = in-find (λ (p : Pool). is_usable (asked_of_this request address) p && holds_address p.cidr address) pool (seen_in rows).pools e in
      block-ends pool (second (is_usable (asked_of_this request address) pool) (holds_address pool.cidr address) test) strict (block_in_rows (slot_holding pool address) rows) refl
    where
      second : (one two : Bool) → one && two ≡ true → two ≡ true
      second true two f = f
      second false two f = absurd (cc f)

  this-ends : Comes (plain_add_this wanted rows)
  this-ends = pool-ends (seen_in rows).config.strict (usable_pool_of (asked_of_this request address) address (seen_in rows).pools) refl

-- ---- the answers

this-told : (base : Base) (request : AddRequest) (address : AddrValue) → IsConsistent base.store → IsSoundRequest (AddThis request address) → (a : AddThisAnswer) × ((alone_over base (AddThis request address)).0 ≡ of_add_this a)
unfolding word_of
this-told base request address consistent sound =
    let lawful = word-lawful (AddThis request address) sound (λ k revision found. HasAt base.store k revision found) in
    let Q : Datastore → Answer → Type 0 = λ then told. (a : AddThisAnswer) × (told ≡ of_add_this a) in
    runs-alone [] Q (word_of (AddThis request address)) base.store (base.first + 1) consistent.sound consistent.covered lawful.0 lawful.1
    (Runs-bound [] (λ then a. NotAgainThis a) Q (λ one. Ends (of_add_this one)) (add_this_word request address) base.store (base.first + 1) (this-runs request address base.store (base.first + 1)) (λ then later a fine. (a, refl)))

this-added : (told : Answer) (a : AddThisAnswer) (addresses : List AddrValue) → told ≡ of_add_this a → plain_of told ≡ Some (Gives addresses) → (given : GivenThis) × (told ≡ answer.AddedThis given)
this-added told (add.AddedThis given) addresses is says = (given, is)
this-added told (add.NotInPool moment) addresses is says = let e = sym says ∙ ap plain_of is in absurd (cc e)
this-added told (add.Taken id moment) addresses is says = let e = sym says ∙ ap plain_of is in absurd (cc e)
this-added told (add.NotAffine cidr moment) addresses is says = let e = sym says ∙ ap plain_of is in absurd (cc e)
this-added told (add.Again lost claims) addresses is says = let e = sym says ∙ ap plain_of is in absurd (cc e)
this-added told add.Full addresses is says = let e = sym says ∙ ap plain_of is in absurd (cc e)
this-added told (add.CountFull moment) addresses is says = let e = sym says ∙ ap plain_of is in absurd (cc e)
this-added told add.Spent addresses is says = let e = sym says ∙ ap plain_of is in absurd (cc e)

module _ (base : Base) (request : AddRequest) (address : AddrValue) (consistent : IsConsistent base.store) (sound : IsSoundRequest (AddThis request address)) (spare : HasSpare base.store (AddThis request address)) where
  abbrev result : PlainResult
  result = plain_add_this (record { request = request; address = address }) base.store.rows

  abbrev then : Datastore
  then = (alone_over base (AddThis request address)).1

  told : plain_of (alone_over base (AddThis request address)).0 ≡ Some result.0
  told = (add_this_alone request address base result consistent sound spare refl).0

  left : records then.rows ≡ records result.1
  left = (add_this_alone request address base result consistent sound spare refl).1

  ends : GivesThis request address base.store.rows consistent.sound.ascending result ⊎ LeavesAll request address base.store.rows consistent.sound.ascending result
  ends = this-ends request address base.store.rows consistent.sound.ascending

  gained : (given : GivenThis) → (alone_over base (AddThis request address)).0 ≡ answer.AddedThis given → GainsThese base.store then request.attributes.handle (address ∷ [])
  gained given is =
      let both : Some result.0 ≡ Some (Gives (given.address ∷ [])) = sym told ∙ ap plain_of is in
      let gives : result.0 ≡ Gives (given.address ∷ []) = cc both in
      elim ends [
        | inr nothing ↦ absurd (nothing.none (given.address ∷ []) gives)
        | inl some ↦
            let gains = gains-more request.attributes base.store.rows base.store.rows result.1 [] some.gift (gains-none request.attributes base.store.rows) some.gives in
            subst (λ (a : AddrValue). GainsThese base.store then request.attributes.handle (a ∷ [])) some.is_address
            (gains-owners request.attributes base.store then result.1 (some.gift ∷ []) consistent.sound.ascending some.ordered (same-owners then.rows result.1 left) gains)
      ]

  kept : ¬ ((given : GivenThis) × ((alone_over base (AddThis request address)).0 ≡ answer.AddedThis given)) → records then.rows ≡ records base.store.rows
  kept none = elim ends [
    | inl some ↦
        let a = this-told base request address consistent sound in
        absurd (none (this-added (alone_over base (AddThis request address)).0 a.0 (address ∷ []) a.1 (told ∙ ap (λ (p : PlainAnswer). Some p) some.is)))
    | inr nothing ↦ left ∙ ap records nothing.same
  ]

pub add_this_owners : AddThisOwnersLaw
add_this_owners base request address consistent sound spare = (gained base request address consistent sound spare, kept base request address consistent sound spare)
