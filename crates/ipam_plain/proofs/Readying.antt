-- A probe that runs alone is ready exactly where the ADD that runs alone with spare gives addresses.
use Rattle.std.proofs.Common.{◌≡◌, ◌≢◌, ℕ, ◌+◌, Bool, true, false, List, [], ◌∷◌, ◌++◌, map, Some, None, refl, sym, ap, ◌∙◌, subst}
use Rattle.std.specs.Prelude.{◌&&◌, ◌↔◌, IsTrue}
use Rattle.ipam_addr.specs.declared.address.Family.{Family}
use Rattle.ipam_addr.specs.declared.address.Family.TheVariants.{V4, V6}
use Rattle.ipam_addr.specs.Holding.{is_same_family}
use Rattle.ipam_addr.specs.Shape.{AddrValue, CidrValue}
use Rattle.ipam_block.specs.declared.state.State.TheVariants.{Confirmed}
use Rattle.ipam_block.specs.Operations.{block_with_ordinal, next_block}
use Rattle.ipam_block.specs.Shape.{BlockValue}
use Rattle.ipam_block.specs.HandleOperations.{with_raised_count}
use Rattle.ipam_records.specs.declared.key.Key.{Key}
use Rattle.ipam_records.specs.declared.key.Key.TheVariants as key
use Rattle.ipam_records.specs.declared.record.Record.{Record}
use Rattle.ipam_records.specs.declared.record.Record.TheVariants as record_of
use Rattle.ipam_records.specs.Datastore.{Datastore, row_key}
use Rattle.ipam_records.specs.Key.{key_of}
use Rattle.ipam_records.specs.Word.{Ends}
use Rattle.ipam_model.specs.declared.answer.Answer.{Answer}
use Rattle.ipam_model.specs.declared.answer.Answer.TheVariants as answer
use Rattle.ipam_model.specs.declared.answer.Given.{Given}
use Rattle.ipam_model.specs.declared.outcome.AddAnswer.{AddAnswer}
use Rattle.ipam_model.specs.declared.outcome.AddAnswer.TheVariants as add
use Rattle.ipam_model.specs.declared.request.AddRequest.{AddRequest}
use Rattle.ipam_model.specs.declared.request.ProbeRequest.{ProbeRequest}
use Rattle.ipam_model.specs.declared.request.Request.TheVariants.{Add, Probe}
use Rattle.ipam_model.specs.Add.{add_word, asked_of}
use Rattle.ipam_model.specs.Affinities.{BlockRead, affinity}
use Rattle.ipam_model.specs.AffinityLaw.{HasAt}
use Rattle.ipam_model.specs.Alone.{alone_over}
use Rattle.ipam_model.specs.Choice.{Foreign, Lacks as NoneLeft, Own, Pick, Picks, Rank, Ranked, Unclaimed, Unconfirmed, Unknown, block_at, choice_in, choice_of, chosen, is_block_of, pick_of, rank_at, room_of}
use Rattle.ipam_model.specs.Consistent.{IsConsistent}
use Rattle.ipam_model.specs.History.{Base}
use Rattle.ipam_model.specs.Plain.{CanGive, Gives, PlainAnswer, PlainGift, PlainServed, Rows, Served, block_in_rows, claimed_block, handle_of, plain_add, plain_after, plain_claim, plain_each, plain_family, plain_gift, plain_of, plain_pick, plain_probe, plain_probe_next, put, seen_in, with_assigned, with_claimed}
use Rattle.ipam_model.specs.Reads.{StoredRecord}
use Rattle.ipam_model.specs.Requests.{word_of}
use Rattle.ipam_model.specs.SoundRequest.{IsSoundRequest}
use Rattle.ipam_model.specs.Told.{of_add}
use Rattle.ipam_model.specs.Usable.{Asked, families_if}
use Rattle.ipam_model.proofs.ChoiceLemmas.{pick-ranked}
use Rattle.ipam_laws.specs.AlonePlain.{AsksSame, IsReady}
use Rattle.ipam_laws.proofs.AddRounds.{HasRead, picked-read, family-same}
use Rattle.ipam_laws.proofs.AloneAdds.{NotAgain, add-runs}
use Rattle.ipam_laws.proofs.AloneCalls.{Runs-bound, runs-alone}
use Rattle.ipam_laws.proofs.AloneChoice.{claim-room}
use Rattle.ipam_laws.proofs.AloneLooks.{probe_alone}
use Rattle.ipam_laws.proofs.AloneProbe.{asked-same}
use Rattle.ipam_laws.proofs.RequestSteps.{word-lawful}
use Rattle.ipam_records.proofs.RowWrites.{sorted-with_row}
use Rattle.ipam_laws.proofs.Steps.{taken}
use Rattle.ipam_plain.specs.Ready.{ReadyAddsLaw}
use Rattle.ipam_plain.proofs.Alike.{IsSorted, block_from, block_of-record, record_at, record_at-other, same-pools, value_in}
use Rattle.ipam_plain.proofs.Behind.{picked-family}
use Rattle.ipam_plain.proofs.Claiming.{claimed-taken, plain-claimed, taken-same}
use Rattle.ipam_plain.proofs.Counted.{AreSoundCounts, Follows, assigned-follows, claimed-follows, follows-trans}
use Rattle.ipam_plain.proofs.Given.{GivesOne, assigned-gives, claimed-gives}
use Rattle.ipam_plain.proofs.Held.{found-record, named}
use Rattle.ipam_plain.proofs.Ranks.{SamePick, SeesSame, pick-itself, same-pick, same-room}
use Rattle.ipam_plain.proofs.Seeing.{block-named, block_at-record, count-put, same-block, same-config, same-confirmed, same-reservations}
use Rattle.ipam_plain.proofs.Serving.{Keeps, plain-claimed-take}
use Rattle.ipam_plain.proofs.Whole.{add_alone}
use Rattle.ipam_records.specs.BlockLists.{is_node}

-- ---- records that a choice in a family does not see

abbrev IsApart : Family → Record → Type 0
IsApart family (record_of.Block b) = b.cidr.family ≢ family
IsApart family (record_of.Affinity a) = a.cidr.family ≢ family
IsApart family (record_of.Handle h) = Unit {0}
IsApart family _ = ⊥

abbrev IsSeenKey : Family → Key → Type 0
IsSeenKey family (key.Block cidr) = cidr.family ≡ family
IsSeenKey family (key.Affinity node cidr) = cidr.family ≡ family
IsSeenKey family (key.Handle id) = ⊥
IsSeenKey family _ = Unit {0}

apart-not : (family : Family) (r : Record) → IsApart family r → ¬ (IsSeenKey family (key_of r))
apart-not family (record_of.Block b) apart seen = apart seen
apart-not family (record_of.Affinity a) apart seen = apart seen
apart-not family (record_of.Handle h) apart seen = seen
apart-not family (record_of.Config config) apart seen = apart
apart-not family (record_of.Pools pools) apart seen = apart
apart-not family (record_of.Reservations reservations) apart seen = apart

apart-key : (family : Family) (r : Record) (k : Key) → IsApart family r → IsSeenKey family k → key_of r ≢ k
apart-key family r k apart seen e = apart-not family r apart (subst (λ (x : Key). IsSeenKey family x) (sym e) seen)

-- a row with the key of such a record is no block of the node in the family
apart-count : (asked : Asked) (r : Record) → IsApart asked.family r → (row : StoredRecord) → row_key row ≡ key_of r → is_block_of asked (0, row.1) ≡ false
apart-count asked r apart row same = by row.1 (subst (λ (k : Key). ¬ (IsSeenKey asked.family k)) (sym same) (apart-not asked.family r apart))
  where
    other-family : (one two : Bool) → ¬ (IsTrue two) → one && two ≡ false
    other-family true true unseen = absurd (unseen refl)
    other-family true false unseen = refl
    other-family false two unseen = refl

    by : (found : Record) → ¬ (IsSeenKey asked.family (key_of found)) → is_block_of asked (0, found) ≡ false
    by (record_of.Block b) unseen = other-family (is_node asked.node b.node) (is_same_family asked.family b.cidr.family) (λ t. unseen (sym (family-same asked.family b.cidr.family t)))
    by (record_of.Config config) unseen = refl
    by (record_of.Pools pools) unseen = refl
    by (record_of.Reservations reservations) unseen = refl
    by (record_of.Affinity a) unseen = refl
    by (record_of.Handle h) unseen = refl

-- a choice in the family sees the same after the write of such a record
put-sees : (asked : Asked) (rows : Rows) (r : Record) → IsSorted rows → IsApart asked.family r → SeesSame asked (seen_in rows) (seen_in (put r rows))
put-sees asked rows r sorted apart =
    let then = put r rows in
    let other : (k : Key) → IsSeenKey asked.family k → record_at k rows ≡ record_at k then = λ k seen. sym (record_at-other k (0, r) rows (apart-key asked.family r k apart seen)) in
    record {
      config = same-config rows then (other key.Config tt);
      pools = same-pools rows then (other key.Pools tt);
      reservations = same-reservations rows then (other key.Reservations tt);
      blocks = λ cidr own. same-block rows then cidr (other (key.Block cidr) own);
      named = block-named rows;
      confirmed = λ cidr own. same-confirmed asked.node cidr rows then sorted (sorted-with_row (0, r) rows sorted) (other (key.Affinity asked.node cidr) own);
      count = sym (count-put asked (0, r) rows (apart-count asked r apart));
    }

sees-trans : (asked : Asked) (one two three : Rows) → SeesSame asked (seen_in one) (seen_in two) → SeesSame asked (seen_in two) (seen_in three) → SeesSame asked (seen_in one) (seen_in three)
sees-trans asked one two three h g = record {
  config = h.config ∙ g.config;
  pools = h.pools ∙ g.pools;
  reservations = h.reservations ∙ g.reservations;
  blocks = λ cidr own. h.blocks cidr own ∙ g.blocks cidr own;
  named = h.named;
  confirmed = λ cidr own. h.confirmed cidr own ∙ g.confirmed cidr own;
  count = h.count ∙ g.count;
}

-- ---- a family of which something is picked

-- it is served, and a choice in another family sees the same
pub record IsServedPlain (request : AddRequest) (family : Family) (rows : Rows) : Type 0 where
  pub gift : PlainGift
  pub after : Rows
  pub is : plain_family request family rows ≡ Served gift after
  pub sorted : IsSorted after
  pub gives : GivesOne request.attributes rows gift after
  pub follows : AreSoundCounts rows → Follows rows after
  pub sees : (asked : Asked) → asked.family ≢ family → SeesSame asked (seen_in rows) (seen_in after)

module _ (request : AddRequest) (family : Family) where
  -- what an assignment leaves
  assigned-sees : (rows : Rows) (b : BlockValue) (ordinal : ℕ) (asked : Asked) → IsSorted rows → b.cidr.family ≡ family → asked.family ≢ family → SeesSame asked (seen_in rows) (seen_in (with_assigned request.attributes b ordinal rows))
  assigned-sees rows b ordinal asked sorted own other =
      let handle = record_of.Handle (with_raised_count (handle_of request.attributes.handle rows) b.cidr 1) in
      let block = record_of.Block (block_with_ordinal (next_block b) ordinal request.attributes) in
      sees-trans asked rows (put handle rows) (put block (put handle rows)) (put-sees asked rows handle sorted tt)
      (put-sees asked (put handle rows) block (sorted-with_row (0, handle) rows sorted) (λ e. other (sym e ∙ own)))

  pub assigned-sorted : (rows : Rows) (b : BlockValue) (ordinal : ℕ) → IsSorted rows → IsSorted (with_assigned request.attributes b ordinal rows)
  assigned-sorted rows b ordinal sorted =
      let handle = record_of.Handle (with_raised_count (handle_of request.attributes.handle rows) b.cidr 1) in
      let block = record_of.Block (block_with_ordinal (next_block b) ordinal request.attributes) in
      sorted-with_row (0, block) (put handle rows) (sorted-with_row (0, handle) rows sorted)

  taken-plain : (rows : Rows) (found : ℕ × BlockValue) (ordinal : ℕ) → plain_family request family rows ≡ Served (plain_gift found ordinal) (with_assigned request.attributes found.1 ordinal rows) → found.1.cidr.family ≡ family → record_at (key.Block found.1.cidr) rows ≡ Some (record_of.Block found.1) → IsSorted rows → IsServedPlain request family rows
  taken-plain rows found ordinal is own there sorted = record {
    gift = plain_gift found ordinal;
    after = with_assigned request.attributes found.1 ordinal rows;
    is = is;
    sorted = assigned-sorted rows found.1 ordinal sorted;
    gives = assigned-gives request.attributes rows found.0 found.1 ordinal there;
    follows = assigned-follows request.attributes rows found.1 ordinal there;
    sees = λ asked other. assigned-sees rows found.1 ordinal asked sorted own other;
  }

  pub claimed-cidr : (slot : CidrValue) (rows : Rows) → (claimed_block request.node slot (block_in_rows slot rows)).cidr ≡ slot
  claimed-cidr slot rows = by (block_in_rows slot rows) refl
    where
      by : (o : BlockRead) → block_in_rows slot rows ≡ o → (claimed_block request.node slot o).cidr ≡ slot
      by None e = refl
      by (Some found) e = named rows slot found.1 (found-record rows slot found.1 (ap value_in e))

  no_keeps : Keeps
  no_keeps = record { revisions = 0; rows = 0; blocks = 0 }

  claimed-plain : (rows : Rows) (slot : CidrValue) (rank : Rank) → plain_family request family rows ≡ plain_claim request family slot rows → rank_at (asked_of request family) (seen_in rows) slot (block_at (seen_in rows) slot) ≡ Some rank → slot.family ≡ family → IsSorted rows → IsServedPlain request family rows
  claimed-plain rows slot rank is ranks own sorted =
      let asked = asked_of request family in
      let node = request.node in
      let read = block_at (seen_in rows) slot in
      let b = claimed_block node slot (block_in_rows slot rows) in
      let cidr = claimed-cidr slot rows in
      let after = with_claimed node slot rows in
      let confirmed = record_of.Affinity (affinity node slot Confirmed) in
      let claims = plain-claimed node slot rows cidr in
      let values : value_in read ≡ value_in (block_in_rows slot rows) = block_at-record rows slot ∙ sym (block_of-record slot rows) in
      let same : taken node slot read ≡ b = taken-same node slot read (block_in_rows slot rows) values ∙ sym (claimed-taken node slot (block_in_rows slot rows)) in
      let (ordinal, room) = claim-room asked (seen_in rows) slot read rank ranks in
      let kept = same-reservations after rows (claims.others key.Reservations (λ e. cc e) (λ e. cc e)) in
      let rooms : room_of (seen_in after) b ≡ Some ordinal = same-room (seen_in after) (seen_in rows) b kept ∙ (ap (room_of (seen_in rows)) (sym same) ∙ room) in
      let shown : value_in (block_in_rows slot after) ≡ Some b = block_of-record slot after ∙ ap block_from claims.has_block in
      let says = is ∙ plain-claimed-take request family no_keeps (block_in_rows slot after) b ordinal after shown rooms in
      let first = sorted-with_row (0, confirmed) rows sorted in
      let ordered = sorted-with_row (0, record_of.Block b) (put confirmed rows) first in
      record {
        gift = plain_gift (0, b) ordinal;
        after = with_assigned request.attributes b ordinal after;
        is = says;
        sorted = assigned-sorted after b ordinal ordered;
        gives = claimed-gives request.attributes node slot rows after (with_assigned request.attributes b ordinal after) (plain_gift (0, b) ordinal) claims
            (assigned-gives request.attributes after 0 b ordinal (subst (λ (c : CidrValue). record_at (key.Block c) after ≡ Some (record_of.Block b)) (sym cidr) claims.has_block));
        follows = λ sound.
            let first = claimed-follows node slot rows after claims sound in
            follows-trans rows after (with_assigned request.attributes b ordinal after) first
            (assigned-follows request.attributes after b ordinal (subst (λ (c : CidrValue). record_at (key.Block c) after ≡ Some (record_of.Block b)) (sym cidr) claims.has_block) first.sound);
        sees = λ asked other.
            sees-trans asked rows after (with_assigned request.attributes b ordinal after)
            (sees-trans asked rows (put confirmed rows) after (put-sees asked rows confirmed sorted (λ e. other (sym e ∙ own)))
            (put-sees asked (put confirmed rows) (record_of.Block b) first (λ e. other (sym e ∙ (ap (λ (c : CidrValue). c.family) cidr ∙ own)))))
            (assigned-sees after b ordinal asked ordered (ap (λ (c : CidrValue). c.family) cidr ∙ own) other);
      }

  pub served-plain : (rows : Rows) (ranked : Ranked) → IsSorted rows → pick_of (asked_of request family) (seen_in rows) ≡ Picks ranked → IsServedPlain request family rows
  served-plain rows ranked sorted picked = by ranked.rank picked (picked-read (λ (read : BlockRead). block_at (seen_in rows) ranked.slot ≡ read) (asked_of request family) (seen_in rows) ranked picked refl)
    where
      own : ranked.slot.family ≡ family
      own = picked-family (asked_of request family) (seen_in rows) ranked picked

      ranks : rank_at (asked_of request family) (seen_in rows) ranked.slot (block_at (seen_in rows) ranked.slot) ≡ Some ranked.rank
      ranks = pick-ranked (asked_of request family) (seen_in rows) ranked picked

      -- the block that was listed there
      listed-there : (found : ℕ × BlockValue) → block_at (seen_in rows) ranked.slot ≡ Some found → record_at (key.Block found.1.cidr) rows ≡ Some (record_of.Block found.1)
      listed-there found read =
          let there = found-record rows ranked.slot found.1 (block_of-record ranked.slot rows ∙ (sym (block_at-record rows ranked.slot) ∙ ap value_in read)) in
          subst (λ (c : CidrValue). record_at (key.Block c) rows ≡ Some (record_of.Block found.1)) (sym (block-named rows ranked.slot found read)) there

      by : (rank : Rank) → pick_of (asked_of request family) (seen_in rows) ≡ Picks (record { slot = ranked.slot; rank = rank }) → HasRead (λ (read : BlockRead). block_at (seen_in rows) ranked.slot ≡ read) rank → IsServedPlain request family rows
      by (Own found ordinal) is read = taken-plain rows found ordinal (ap (λ (p : Pick). plain_pick request family p rows) is) (ap (λ (c : CidrValue). c.family) (block-named rows ranked.slot found read) ∙ own) (listed-there found read) sorted
      by (Foreign found ordinal) is read = taken-plain rows found ordinal (ap (λ (p : Pick). plain_pick request family p rows) is) (ap (λ (c : CidrValue). c.family) (block-named rows ranked.slot found read) ∙ own) (listed-there found read) sorted
      by (Unconfirmed found) is read = claimed-plain rows ranked.slot ranked.rank (ap (λ (p : Pick). plain_pick request family p rows) is) ranks own sorted
      by (Unclaimed was) is read = claimed-plain rows ranked.slot ranked.rank (ap (λ (p : Pick). plain_pick request family p rows) is) ranks own sorted

-- ---- what the probe says

-- the answer gives addresses
abbrev GivesSome : PlainAnswer → Type 0
GivesSome told = (addresses : List AddrValue) × (told ≡ Gives addresses)

picked-next : (rest : PlainAnswer) (asked : Asked) (ranked : Ranked) → plain_probe_next rest asked (chosen ranked) ≡ rest
picked-next rest asked ranked = by ranked.rank
  where
    by : (rank : Rank) → plain_probe_next rest asked (chosen (record { slot = ranked.slot; rank = rank })) ≡ rest
    by (Own found ordinal) = refl
    by (Unconfirmed found) = refl
    by (Unclaimed read) = refl
    by (Foreign found ordinal) = refl

module _ (probe : ProbeRequest) (request : AddRequest) (asks : AsksSame probe request) where
  -- One family, and others after it: the probe looks at the base, and the ADD at what is there now, of
  -- which the same is picked.
  family-ready : (family : Family) (families : List Family) (gifts : List PlainGift) (base now : Rows) → IsSorted now → SamePick (pick_of (asked_of request family) (seen_in base)) (pick_of (asked_of request family) (seen_in now))
      → ((s : IsServedPlain request family now) → (plain_probe probe families base ≡ CanGive) ↔ GivesSome (plain_each request (gifts ++ s.gift ∷ []) families s.after).0)
      → (plain_probe probe (family ∷ families) base ≡ CanGive) ↔ GivesSome (plain_each request gifts (family ∷ families) now).0
  family-ready family families gifts base now sorted same rest =
      subst (λ (a : Asked). (plain_probe_next (plain_probe probe families base) a (choice_of a (seen_in base)) ≡ CanGive) ↔ GivesSome (plain_each request gifts (family ∷ families) now).0) (asked-same probe request asks family)
      (by (pick_of (asked_of request family) (seen_in base)) (pick_of (asked_of request family) (seen_in now)) refl same)
    where
      -- what the ADD comes to, by what is picked
      by-pick : (there : Pick) → pick_of (asked_of request family) (seen_in now) ≡ there → GivesSome (plain_each request gifts (family ∷ families) now).0
          → GivesSome (plain_after request gifts (λ gift later. plain_each request (gifts ++ gift ∷ []) families later) (plain_pick request family there now)).0
      by-pick there is g =
          subst (λ (p : Pick). GivesSome (plain_after request gifts (λ gift later. plain_each request (gifts ++ gift ∷ []) families later) (plain_pick request family p now)).0) is g

      by : (pick there : Pick) → pick_of (asked_of request family) (seen_in now) ≡ there → SamePick pick there
          → (plain_probe_next (plain_probe probe families base) (asked_of request family) (choice_in pick) ≡ CanGive) ↔ GivesSome (plain_each request gifts (family ∷ families) now).0
      by (Picks ranked) (Picks other) is k =
          let s = served-plain request family now other sorted is in
          let gives : GivesSome (plain_each request (gifts ++ s.gift ∷ []) families s.after).0 → GivesSome (plain_each request gifts (family ∷ families) now).0 =
          λ g. subst (λ (p : PlainServed). GivesSome (plain_after request gifts (λ gift later. plain_each request (gifts ++ gift ∷ []) families later) p).0) (sym s.is) g in
          let given : GivesSome (plain_each request gifts (family ∷ families) now).0 → GivesSome (plain_each request (gifts ++ s.gift ∷ []) families s.after).0 =
          λ g. subst (λ (p : PlainServed). GivesSome (plain_after request gifts (λ gift later. plain_each request (gifts ++ gift ∷ []) families later) p).0) s.is g in
          let next = picked-next (plain_probe probe families base) (asked_of request family) ranked in
          (λ e. gives ((rest s).0 (sym next ∙ e)), λ g. next ∙ (rest s).1 (given g))
      by NoneLeft NoneLeft is k = (λ e. absurd (cc e), λ g. let lacks = by-pick NoneLeft is g in let e = lacks.1 in absurd (cc e))
      by (Unknown place) (Unknown other) is k = (λ e. absurd (cc e), λ g. let lacks = by-pick (Unknown other) is g in let e = lacks.1 in absurd (cc e))
      by (Picks ranked) NoneLeft is k = absurd k
      by (Picks ranked) (Unknown other) is k = absurd k
      by NoneLeft (Picks other) is k = absurd k
      by NoneLeft (Unknown other) is k = absurd k
      by (Unknown place) (Picks other) is k = absurd k
      by (Unknown place) NoneLeft is k = absurd k

  none-ready : (gifts : List PlainGift) (base now : Rows) → (plain_probe probe [] base ≡ CanGive) ↔ GivesSome (plain_each request gifts [] now).0
  none-ready gifts base now = (λ e. (map (λ (gift : PlainGift). gift.address) gifts, refl), λ g. refl)

  all-ready : (rows : Rows) → IsSorted rows → (four six : Bool) → (plain_probe probe (families_if four six) rows ≡ CanGive) ↔ GivesSome (plain_each request [] (families_if four six) rows).0
  all-ready rows sorted true true =
      family-ready V4 (V6 ∷ []) [] rows rows sorted (pick-itself (pick_of (asked_of request V4) (seen_in rows)))
      (λ s. family-ready V6 [] (s.gift ∷ []) rows s.after s.sorted (same-pick (asked_of request V6) (seen_in rows) (seen_in s.after) (s.sees (asked_of request V6) (λ e. cc e))) (λ t. none-ready (s.gift ∷ t.gift ∷ []) rows t.after))
  all-ready rows sorted true false = family-ready V4 [] [] rows rows sorted (pick-itself (pick_of (asked_of request V4) (seen_in rows))) (λ s. none-ready (s.gift ∷ []) rows s.after)
  all-ready rows sorted false true = family-ready V6 [] [] rows rows sorted (pick-itself (pick_of (asked_of request V6) (seen_in rows))) (λ s. none-ready (s.gift ∷ []) rows s.after)
  all-ready rows sorted false false = none-ready [] rows rows

-- ---- the answers

-- an ADD is told as an ADD is
pub add-told : (base : Base) (request : AddRequest) → IsConsistent base.store → IsSoundRequest (Add request) → (a : AddAnswer) × ((alone_over base (Add request)).0 ≡ of_add a)
unfolding word_of
add-told base request consistent sound =
    let lawful = word-lawful (Add request) sound (λ k revision found. HasAt base.store k revision found) in
    let Q : Datastore → Answer → Type 0 = λ then told. (a : AddAnswer) × (told ≡ of_add a) in
    runs-alone [] Q (word_of (Add request)) base.store (base.first + 1) consistent.sound consistent.covered lawful.0 lawful.1
    (Runs-bound [] (λ then a. NotAgain a) Q (λ one. Ends (of_add one)) (add_word request) base.store (base.first + 1) (add-runs request base.store (base.first + 1)) (λ then later a not. (a, refl)))

pub gives-added : (told : Answer) (a : AddAnswer) (addresses : List AddrValue) → told ≡ of_add a → plain_of told ≡ Some (Gives addresses) → (given : List Given) × (told ≡ answer.Added given)
gives-added told (add.Added given) addresses is says = (given, is)
gives-added told (add.Exhausted scan) addresses is says = let e = sym says ∙ ap plain_of is in absurd (cc e)
gives-added told (add.NoPool name moment) addresses is says = let e = sym says ∙ ap plain_of is in absurd (cc e)
gives-added told (add.Again lost claims) addresses is says = let e = sym says ∙ ap plain_of is in absurd (cc e)
gives-added told add.Full addresses is says = let e = sym says ∙ ap plain_of is in absurd (cc e)
gives-added told (add.CountFull moment) addresses is says = let e = sym says ∙ ap plain_of is in absurd (cc e)
gives-added told add.Spent addresses is says = let e = sym says ∙ ap plain_of is in absurd (cc e)

pub ready_adds : ReadyAddsLaw
ready_adds base probe request consistent sound asks spare = (to, from)
  where
    families : families_if request.ipv4 request.ipv6 ≡ families_if probe.ipv4 probe.ipv6
    families = let four = asks.ipv4 in let six = asks.ipv6 in λ i. families_if (four i) (six i)

    ready : (plain_probe probe (families_if request.ipv4 request.ipv6) base.store.rows ≡ CanGive) ↔ GivesSome (plain_add request base.store.rows).0
    ready = all-ready probe request asks base.store.rows consistent.sound.ascending request.ipv4 request.ipv6

    probed : plain_of (alone_over base (Probe probe)).0 ≡ Some (plain_probe probe (families_if request.ipv4 request.ipv6) base.store.rows)
    probed = (probe_alone base probe).0 ∙ ap (λ (l : List Family). Some (plain_probe probe l base.store.rows)) (sym families)

    added : plain_of (alone_over base (Add request)).0 ≡ Some (plain_add request base.store.rows).0
    added = (add_alone request base (plain_add request base.store.rows) consistent sound spare refl).0

    to : IsReady base probe → (given : List Given) × ((alone_over base (Add request)).0 ≡ answer.Added given)
    to is =
        let both : Some (plain_probe probe (families_if request.ipv4 request.ipv6) base.store.rows) ≡ Some CanGive = sym probed ∙ is in
        let gives = ready.0 (cc both) in
        let told = add-told base request consistent sound in
        gives-added (alone_over base (Add request)).0 told.0 gives.0 told.1 (added ∙ ap (λ (p : PlainAnswer). Some p) gives.1)

    from : (given : List Given) × ((alone_over base (Add request)).0 ≡ answer.Added given) → IsReady base probe
    from (given, is) =
        let both : Some (plain_add request base.store.rows).0 ≡ Some (Gives (map (λ (g : Given). g.address) given)) = sym added ∙ ap plain_of is in
        probed ∙ ap (λ (p : PlainAnswer). Some p) (ready.1 (map (λ (g : Given). g.address) given, cc both))
