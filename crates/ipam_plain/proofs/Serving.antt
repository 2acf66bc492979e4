-- What the rounds of a family come to, alone.
use Rattle.std.proofs.Common.{◌≡◌, ◌≢◌, ℕ, zero, suc, ◌+◌, ◌-◌, ◌<◌, inl, inr, Bool, true, false, List, [], Option, Some, None, refl, sym, ap, ◌∙◌, subst, arith}
use Rattle.ipam_addr.specs.declared.address.Family.{Family}
use Rattle.ipam_addr.specs.Shape.{CidrValue}
use Rattle.ipam_block.specs.Shape.{BlockValue}
use Rattle.ipam_block.specs.HandleOperations.{count_of, with_raised_count}
use Rattle.ipam_block.specs.HandleShape.{HandleValue}
use Rattle.ipam_records.specs.declared.call.Call.TheVariants.{Get, List as ListAll}
use Rattle.ipam_records.specs.declared.key.Key.TheVariants as key
use Rattle.ipam_records.specs.declared.key.Kind.TheVariants as kind
use Rattle.ipam_records.specs.declared.record.Record.TheVariants as record_of
use Rattle.ipam_records.specs.Datastore.{Datastore, reply_of}
use Rattle.ipam_records.specs.Label.{idle}
use Rattle.ipam_records.specs.Word.{Word}
use Rattle.ipam_model.specs.declared.answer.Scan.{Scan}
use Rattle.ipam_model.specs.declared.outcome.AddAnswer.{AddAnswer}
use Rattle.ipam_model.specs.declared.outcome.Gift.{Gift}
use Rattle.ipam_model.specs.declared.outcome.Served.{Served as Rounds}
use Rattle.ipam_model.specs.declared.outcome.Served.TheVariants.{Gave, Refused}
use Rattle.ipam_model.specs.declared.part.Assigned.{Assigned}
use Rattle.ipam_model.specs.declared.part.Left.{Left}
use Rattle.ipam_model.specs.declared.part.Outcome.{Outcome}
use Rattle.ipam_model.specs.declared.part.Outcome.TheVariants.{Went}
use Rattle.ipam_model.specs.declared.part.Stop.TheVariants.{OutOfTries}
use Rattle.ipam_model.specs.declared.request.AddRequest.{AddRequest}
use Rattle.ipam_model.specs.Add.{NextRound, Round, after_assign, asked_of, claim_in, five_reads, follow_pick, follow_rank, gift_of, name_in_place, round_of, serve, take_in}
use Rattle.ipam_model.specs.Counting.{most_count}
use Rattle.ipam_model.specs.Affinities.{BlockRead}
use Rattle.ipam_model.specs.AffinityLaw.{HasAt}
use Rattle.ipam_model.specs.Assigning.{assign, claim_for, names_for, target_in}
use Rattle.ipam_model.specs.Choice.{Foreign, Lacks as NoneLeft, Own, Pick, Picks, Rank, Ranked, Seen, Unclaimed, Unconfirmed, Unknown, block_at, choice_in, choice_of, pick_of, rank_number, room_of}
use Rattle.ipam_model.specs.Plain.{KnowsNoPool, Lacks, PlainAnswer, PlainGift, PlainServed, Rows, Served, Unserved, block_in_rows, claimed_block, handle_of, plain_claim, plain_family, plain_gift, plain_of, plain_pick, plain_rank, plain_take, plain_take_claimed, room_in, seen_in, with_assigned, with_claimed}
use Rattle.ipam_model.specs.Step.{left_of, rounds, stops}
use Rattle.ipam_model.specs.Told.{of_add}
use Rattle.ipam_model.specs.Usable.{Asked}
use Rattle.ipam_model.proofs.ChoiceLemmas.{choice_is}
use Rattle.ipam_laws.proofs.AddRounds.{HasRead, chosen-family, picked-read}
use Rattle.ipam_laws.proofs.AloneAdds.{listed-as_read, Spends}
use Rattle.ipam_laws.proofs.AloneCalls.{Runs, runs-get, runs-list}
use Rattle.ipam_laws.proofs.AloneLooks.{next1, next2, next3, next4, next5}
use Rattle.ipam_laws.proofs.AloneParts.{taken-cidr}
use Rattle.ipam_laws.proofs.CountLemmas.{count-elsewhere}
use Rattle.ipam_laws.proofs.Steps.{IsAsRead, taken}
use Rattle.ipam_plain.proofs.Alike.{block_from, block_of-record, handle_from, handle_of-record, record_at, same-handle, value_in}
use Rattle.ipam_plain.proofs.Behind.{picks-claimed}
use Rattle.ipam_plain.proofs.Budget.{Enough, enough-less}
use Rattle.ipam_plain.proofs.Claiming.{IsClaimed, claim_for-comes, claimed-as, claimed-taken, taken-same}
use Rattle.ipam_plain.proofs.Ranks.{SamePick, SameRank, same-room}
use Rattle.ipam_plain.proofs.Seeing.{block_at-record, same-reservations}
use Rattle.ipam_plain.proofs.Taking.{IsAssigned, IsBelow, RoomFor, as-assigned, assign-comes, assigned_in, enough-assigned, handle-there, with_handle}
use Rattle.ipam_plain.proofs.Writes.{IsAs, comes-followed}

-- ---- what a round reads

five-runs : {A : Type 0} → (family : Family) (follows : Scan → Seen → Word A) (Q : Datastore → A → Type 0) (store : Datastore) (moment : ℕ) → ((scan : Scan) → scan.family ≡ family → Runs [] Q store (moment + 1 + 1 + 1 + 1 + 1) (follows scan (seen_in store.rows))) → Runs [] Q store moment (five_reads family follows)
five-runs family follows Q store moment h =
    let config = reply_of store (Get key.Config) in
    let pools = reply_of store (Get key.Pools) in
    let reservations = reply_of store (Get key.Reservations) in
    let affinities = reply_of store (ListAll kind.Affinity) in
    runs-get [] Q store moment idle key.Config (next1 family follows) (λ g1.
    runs-get [] Q store (moment + 1) idle key.Pools (next2 family follows moment config) (λ g2.
    runs-get [] Q store (moment + 1 + 1) idle key.Reservations (next3 family follows moment (moment + 1) config pools) (λ g3.
    runs-list [] Q store (moment + 1 + 1 + 1) idle kind.Affinity (next4 family follows moment (moment + 1) (moment + 1 + 1) config pools reservations) (λ g4.
    runs-list [] Q store (moment + 1 + 1 + 1 + 1) idle kind.Block (next5 family follows moment (moment + 1) (moment + 1 + 1) (moment + 1 + 1 + 1) config pools reservations affinities) (λ g5.
    h (record { family = family; c = moment; p = moment + 1; r = moment + 1 + 1; f = moment + 1 + 1 + 1; b = moment + 1 + 1 + 1 + 1 }) refl)))))

-- ---- what a family comes to

-- the gift is the one that the records say
pub record IsGiftOf (gift : Gift) (plain : PlainGift) : Type 0 where
  pub address : gift.given.address ≡ plain.address
  pub block : gift.block ≡ plain.block
  pub ordinal : gift.given.address.number - gift.block.base ≡ plain.ordinal
  pub stamp : gift.stamp ≡ plain.stamp

-- how much is left after a family
pub record Keeps : Type 0 where
  pub revisions : ℕ
  pub rows : ℕ
  pub blocks : ℕ

module _ (request : AddRequest) (family : Family) (keeps : Keeps) where
  abbrev id : List ℕ
  id = request.attributes.handle

  abbrev asked : Asked
  asked = asked_of request family

  -- an address was given, and the store stands for the rows
  pub record IsServed (base : Datastore) (first : Left) (plain : PlainGift) (after : Rows) (then : Datastore) (now : Left) (gift : Gift) : Type 0 where
    pub is_gift : IsGiftOf gift plain
    pub is_as : IsAs then after
    pub spends : Spends first now
    pub enough : Enough keeps.revisions keeps.rows keeps.blocks then
    pub handle : RoomFor false then id
    pub counts : (c : CidrValue) → c.family ≢ family → count_of (handle_of id then.rows) c ≡ count_of (handle_of id base.rows) c

  -- there is none, and this is the answer
  pub record IsUnserved (base : Datastore) (why : PlainAnswer) (after : Rows) (then : Datastore) (told : AddAnswer) : Type 0 where
    pub says : plain_of (of_add told) ≡ Some why
    pub same : then ≡ base
    pub is_as : IsAs then after

  abbrev pub Serves : PlainServed → Datastore → Left → Datastore → Outcome Rounds → Type 0
  Serves (Served gift after) base first then (Went now (Gave given)) = IsServed base first gift after then now given
  Serves (Unserved why after) base first then (Went now (Refused told)) = IsUnserved base why after then told
  Serves _ base first then _ = ⊥

  -- what is known of the store from which an address is taken
  record MayTake (base store : Datastore) (rows : Rows) (missing : Bool) : Type 0 where
    is_as : IsAs store rows
    room : RoomFor missing store id
    enough : Enough (suc (suc keeps.revisions)) (with_handle missing keeps.rows) keeps.blocks store
    same : handle_of id store.rows ≡ handle_of id base.rows

  -- what is left once the address is assigned
  served : (base : Datastore) (missing : Bool) (scan : Scan) (first left : Left) (found : ℕ × BlockValue) (ordinal at : ℕ) (store : Datastore) (rows : Rows) → HasAt store (key.Block found.1.cidr) found.0 (record_of.Block found.1) → found.1.cidr.family ≡ family → Spends first left → MayTake base store rows missing
      → IsServed base first (plain_gift (0, found.1) ordinal) (with_assigned request.attributes found.1 ordinal rows) (assigned_in store request.attributes found.1 ordinal) left (gift_of scan (target_in found ordinal) (record { moment = at; stamp = found.1.sequence + 1 }))
  served base missing scan first left found ordinal at store rows there of spends may =
      let b = found.1 in
      let h = handle_of id store.rows in
      let then = assigned_in store request.attributes b ordinal in
      let has = handle-there store request.attributes b ordinal in
      let now : handle_of id then.rows ≡ with_raised_count h b.cidr 1 = handle_of-record id then.rows ∙ ap (handle_from id) has in
      record {
        is_gift = record { address = refl; block = refl; ordinal = omega arith; stamp = refl };
        is_as = as-assigned store rows request.attributes b ordinal may.is_as;
        spends = spends;
        enough = enough-assigned missing store request.attributes b found.0 ordinal keeps.revisions keeps.rows keeps.blocks may.is_as.sorted_store there may.room may.enough;
        handle = (record_of.Handle (with_raised_count h b.cidr 1), has);
        counts = λ c other.
            ap (λ (g : HandleValue). count_of g c) now
            ∙ (count-elsewhere h.counts b.cidr c (count_of h b.cidr + 1) (λ e. other (ap (λ (r : CidrValue). r.family) (sym e) ∙ of)) ∙ ap (λ (g : HandleValue). count_of g c) may.same);
      }

  take-serves : (base : Datastore) (below : (c : CidrValue) → c.family ≡ family → IsBelow base id c) (missing : Bool) (scan : Scan) (next : NextRound) (first left : Left) (found there : ℕ × BlockValue) (ordinal place : ℕ) (store : Datastore) (moment : ℕ) (rows : Rows)
      → found.1 ≡ there.1 → ordinal ≡ place → HasAt store (key.Block found.1.cidr) found.0 (record_of.Block found.1) → found.1.cidr.family ≡ family → Spends first left → MayTake base store rows missing
      → Runs [] (Serves (plain_take request there place rows) base first) store moment (take_in (record { request = request; scan = scan; next = next }) left (target_in found ordinal))
  take-serves base below missing scan next first left found there ordinal place store moment rows same places at of spends may =
      let target = target_in found ordinal in
      let b = found.1 in
      let round : Round = record { request = request; scan = scan; next = next } in
      let Q = Serves (plain_take request (0, b) ordinal rows) base first in
      let fits : IsBelow store id b.cidr = subst (λ (h : HandleValue). count_of h b.cidr < most_count) (sym may.same) (below b.cidr of) in
      let runs : Runs [] Q store moment (take_in round left target) =
      comes-followed [] left (IsAssigned [] store request.attributes target) Q (after_assign round target) (assign request.attributes target left) store moment
      (assign-comes [] request.attributes target left store moment missing keeps.revisions keeps.rows keeps.blocks at fits may.room may.enough)
      (λ then later done h.
      subst (λ (d : Option Assigned). Runs [] Q then later (after_assign round target left d)) (sym h.is_done)
      (subst (λ (s : Datastore). IsServed base first (plain_gift (0, b) ordinal) (with_assigned request.attributes b ordinal rows) s left (gift_of scan target (record { moment = h.at; stamp = b.sequence + 1 }))) (sym h.is_store)
      (served base missing scan first left found ordinal h.at store rows at of spends may))) in
      subst (λ (s : PlainServed). Runs [] (Serves s base first) store moment (take_in round left target)) (λ i. plain_take request (0, same i) (places i) rows) runs

  -- ---- a round that claims nothing

  own-family : (seen : Seen) (slot : CidrValue) (found : ℕ × BlockValue) (ordinal : ℕ) → pick_of asked seen ≡ Picks (record { slot = slot; rank = Own found ordinal }) → slot.family ≡ family
  own-family seen slot found ordinal e = chosen-family asked seen (choice_of asked seen) (choice_is asked seen) slot ordinal (inl (ap choice_in e))

  foreign-family : (seen : Seen) (slot : CidrValue) (found : ℕ × BlockValue) (ordinal : ℕ) → pick_of asked seen ≡ Picks (record { slot = slot; rank = Foreign found ordinal }) → slot.family ≡ family
  foreign-family seen slot found ordinal e = chosen-family asked seen (choice_of asked seen) (choice_is asked seen) slot ordinal (inr (ap choice_in e))

  -- the block that is taken from is there as it was read
  taken-at : (store : Datastore) (slot : CidrValue) (found : ℕ × BlockValue) → IsAsRead store slot (Some found) → HasAt store (key.Block found.1.cidr) found.0 (record_of.Block found.1)
  taken-at store slot found as_read = subst (λ (c : CidrValue). HasAt store (key.Block c) found.0 (record_of.Block found.1)) (sym as_read.0) as_read.1

  settled-round : (base : Datastore) (below : (c : CidrValue) → c.family ≡ family → IsBelow base id c) (missing : Bool) (next : NextRound) (first left : Left) (slot : CidrValue) (found there : ℕ × BlockValue) (ordinal : ℕ) (store : Datastore) (moment : ℕ) (rows : Rows)
      → pick_of asked (seen_in store.rows) ≡ Picks (record { slot = slot; rank = Own found ordinal }) → found.1 ≡ there.1 → Spends first left → MayTake base store rows missing
      → Runs [] (Serves (plain_take request there ordinal rows) base first) store moment (round_of request family next left)
  settled-round base below missing next first left slot found there ordinal store moment rows picked same spends may =
      let Q = Serves (plain_take request there ordinal rows) base first in
      let as_read = picked-read (IsAsRead store slot) asked (seen_in store.rows) (record { slot = slot; rank = Own found ordinal }) picked (listed-as_read store slot) in
      five-runs family (λ scan seen. follow_pick (record { request = request; scan = scan; next = next }) left (pick_of asked seen)) Q store moment
      (λ scan own. subst (λ (p : Pick). Runs [] Q store (moment + 1 + 1 + 1 + 1 + 1) (follow_pick (record { request = request; scan = scan; next = next }) left p)) (sym picked)
      (take-serves base below missing scan next first left found there ordinal ordinal store (moment + 1 + 1 + 1 + 1 + 1) rows same refl (taken-at store slot found as_read)
      (ap (λ (c : CidrValue). c.family) as_read.0 ∙ own-family (seen_in store.rows) slot found ordinal picked) spends may))

  settled-rounds : (base : Datastore) (below : (c : CidrValue) → c.family ≡ family → IsBelow base id c) (missing : Bool) (more : ℕ) (first left : Left) (slot : CidrValue) (found there : ℕ × BlockValue) (ordinal : ℕ) (store : Datastore) (moment : ℕ) (rows : Rows)
      → pick_of asked (seen_in store.rows) ≡ Picks (record { slot = slot; rank = Own found ordinal }) → found.1 ≡ there.1 → Spends first left → MayTake base store rows missing
      → Runs [] (Serves (plain_take request there ordinal rows) base first) store moment (rounds (round_of request family) more left)
  unfolding rounds
  settled-rounds base below missing zero first left slot found there ordinal store moment rows picked same spends may = settled-round base below missing (λ now. stops now OutOfTries) first left slot found there ordinal store moment rows picked same spends may
  settled-rounds base below missing (suc more) first left slot found there ordinal store moment rows picked same spends may = settled-round base below missing (rounds (round_of request family) more) first left slot found there ordinal store moment rows picked same spends may

  -- ---- what the records say after a claim

  pub plain-claimed-take : (o : BlockRead) (b : BlockValue) (ordinal : ℕ) (rows : Rows) → value_in o ≡ Some b → room_of (seen_in rows) b ≡ Some ordinal
      → plain_take_claimed request family (room_in (seen_in rows) o) o rows ≡ plain_take request (0, b) ordinal rows
  plain-claimed-take None b ordinal rows e room = absurd (cc e)
  plain-claimed-take (Some found) b ordinal rows e room =
      let same : found.1 ≡ b = cc e in
      ap (λ (r : Option ℕ). plain_take_claimed request family r (Some found) rows) (ap (room_of (seen_in rows)) same ∙ room)
      ∙ ap (λ (x : BlockValue). plain_take request (0, x) ordinal rows) same

  -- ---- the first round

  module _ (next : NextRound) (races claims : ℕ) (base : Datastore) (rows : Rows) (missing : Bool) (is : IsAs base rows) (room : RoomFor missing base id) (below : (c : CidrValue) → c.family ≡ family → IsBelow base id c)
      (enough : Enough (suc (suc (suc (suc (suc keeps.revisions))))) (suc (suc (with_handle missing keeps.rows))) (suc keeps.blocks) base)
      (on : (slot : CidrValue) (found there : ℕ × BlockValue) (ordinal : ℕ) (then : Datastore) (later : ℕ) (after : Rows)
      → pick_of asked (seen_in then.rows) ≡ Picks (record { slot = slot; rank = Own found ordinal }) → found.1 ≡ there.1 → MayTake base then after missing
      → Runs [] (Serves (plain_take request there ordinal after) base (left_of races (suc claims))) then later (next (left_of races claims))) where
    abbrev first : Left
    first = left_of races (suc claims)

    at-first : MayTake base base rows missing
    at-first = record { is_as = is; room = room; enough = enough-less (suc (suc keeps.revisions)) (with_handle missing keeps.rows) keeps.blocks (suc (suc (suc (suc (suc keeps.revisions))))) (suc (suc (with_handle missing keeps.rows))) (suc keeps.blocks) base (omega arith) (omega arith) (omega arith) enough; same = refl }

    -- one round more after the claim
    behind-claim : (ranked : Ranked) (other : CidrValue) (then : Datastore) (later : ℕ) → ranked.slot ≡ other → pick_of asked (seen_in base.rows) ≡ Picks ranked → rank_number ranked.rank ≢ 0 → IsAsRead base ranked.slot (block_at (seen_in base.rows) ranked.slot)
        → IsClaimed base.rows request.node ranked.slot (block_at (seen_in base.rows) ranked.slot) (suc (suc keeps.revisions)) (with_handle missing keeps.rows) keeps.blocks then
        → Runs [] (Serves (plain_claim request family other rows) base first) then later (next (left_of races claims))
    behind-claim ranked other then later slots picked some as_read h =
        let slot = ranked.slot in
        let node = request.node in
        let read = block_at (seen_in base.rows) slot in
        let b = taken node slot read in
        let own = taken-cidr [] node slot read base as_read in
        let after = with_claimed node slot rows in
        let values : value_in read ≡ value_in (block_in_rows slot rows) = block_at-record base.rows slot ∙ (ap block_from (is.alike (key.Block slot)) ∙ sym (block_of-record slot rows)) in
        let same : b ≡ claimed_block node slot (block_in_rows slot rows) = taken-same node slot read (block_in_rows slot rows) values ∙ sym (claimed-taken node slot (block_in_rows slot rows)) in
        let is_then = claimed-as base then rows node slot read b is same own h.is_in h.sorted in
        let handle_row = h.is_in.others (key.Handle id) (λ e. cc e) (λ e. cc e) in
        let picks = picks-claimed asked base.rows then.rows ranked read is.sorted_store h.sorted picked some refl h.is_in own in
        let shown : value_in (block_in_rows slot after) ≡ Some b = block_of-record slot after ∙ ap block_from (sym (is_then.alike (key.Block slot)) ∙ h.is_in.has_block) in
        let rooms : room_of (seen_in after) b ≡ Some picks.ordinal = same-room (seen_in after) (seen_in then.rows) b (same-reservations after then.rows (sym (is_then.alike key.Reservations))) ∙ picks.room in
        let says : plain_claim request family slot rows ≡ plain_take request (0, b) picks.ordinal after = plain-claimed-take (block_in_rows slot after) b picks.ordinal after shown rooms in
        let runs = on slot (picks.revision, b) (0, b) picks.ordinal then later after picks.picked refl (record {
          is_as = is_then;
          room = kept-room missing base then handle_row room;
          enough = h.enough;
          same = same-handle id then.rows base.rows handle_row;
        }) in
        subst (λ (c : CidrValue). Runs [] (Serves (plain_claim request family c rows) base first) then later (next (left_of races claims))) slots
        (subst (λ (s : PlainServed). Runs [] (Serves s base first) then later (next (left_of races claims))) (sym says) runs)
      where
        kept-room : (m : Bool) (store then : Datastore) → record_at (key.Handle id) then.rows ≡ record_at (key.Handle id) store.rows → RoomFor m store id → RoomFor m then id
        kept-room true store then e r = tt
        kept-room false store then e r = (r.0, e ∙ r.1)

    claim-serves : (scan : Scan) (ranked : Ranked) (other : CidrValue) (read : BlockRead) (moment : ℕ) → ranked.slot ≡ other → pick_of asked (seen_in base.rows) ≡ Picks ranked → rank_number ranked.rank ≢ 0 → IsAsRead base ranked.slot read → block_at (seen_in base.rows) ranked.slot ≡ read
        → Runs [] (Serves (plain_claim request family other rows) base first) base moment (claim_in (record { request = request; scan = scan; next = next }) first ranked.slot read)
    claim-serves scan ranked other read moment slots picked some as_read is_read =
        let node = request.node in
        let Q = Serves (plain_claim request family other rows) base first in
        comes-followed [] (left_of races claims) (λ then (done : Unit {0}). IsClaimed base.rows node ranked.slot read (suc (suc keeps.revisions)) (with_handle missing keeps.rows) keeps.blocks then) Q (λ now done. next now) (claim_for node ranked.slot read first) base moment
        (claim_for-comes [] node ranked.slot read (taken-cidr [] node ranked.slot read base as_read) base.rows (suc (suc keeps.revisions)) (with_handle missing keeps.rows) keeps.blocks races claims base moment as_read (λ k a b. refl) is.sorted_store enough)
        (λ then later done h. behind-claim ranked other then later slots picked some (subst (λ (r : BlockRead). IsAsRead base ranked.slot r) (sym is_read) as_read)
        (subst (λ (r : BlockRead). IsClaimed base.rows node ranked.slot r (suc (suc keeps.revisions)) (with_handle missing keeps.rows) keeps.blocks then) (sym is_read) h))

    same-start : Spends first first
    same-start = record { races = refl; claims = omega arith }

    -- the block that made the slot a candidate is as it was read, and as it is listed
    abbrev Reads : CidrValue → BlockRead → Type 0
    Reads slot read = IsAsRead base slot read × (block_at (seen_in base.rows) slot ≡ read)

    rank-serves : (scan : Scan) (moment : ℕ) (slot other : CidrValue) (rank there : Rank) → pick_of asked (seen_in base.rows) ≡ Picks (record { slot = slot; rank = rank }) → slot ≡ other → SameRank rank there → HasRead (Reads slot) rank
        → Runs [] (Serves (plain_rank request family other there rows) base first) base moment (follow_rank (record { request = request; scan = scan; next = next }) first slot rank)
    rank-serves scan moment slot other (Own found ordinal) (Own seen place) picked slots same read =
        take-serves base below missing scan next first first found seen ordinal place base moment rows same.0 same.1 (taken-at base slot found read.0) (ap (λ (c : CidrValue). c.family) read.0.0 ∙ own-family (seen_in base.rows) slot found ordinal picked) same-start at-first
    rank-serves scan moment slot other (Foreign found ordinal) (Foreign seen place) picked slots same read =
        take-serves base below missing scan next first first found seen ordinal place base moment rows same.0 same.1 (taken-at base slot found read.0) (ap (λ (c : CidrValue). c.family) read.0.0 ∙ foreign-family (seen_in base.rows) slot found ordinal picked) same-start at-first
    rank-serves scan moment slot other (Unconfirmed found) (Unconfirmed seen) picked slots same read =
        claim-serves scan (record { slot = slot; rank = Unconfirmed found }) other (Some found) moment slots picked (λ e. cc e) read.0 read.1
    rank-serves scan moment slot other (Unclaimed was) (Unclaimed seen) picked slots same read =
        claim-serves scan (record { slot = slot; rank = Unclaimed was }) other was moment slots picked (λ e. cc e) read.0 read.1
    rank-serves scan moment slot other (Own found ordinal) (Unconfirmed seen) picked slots same read = absurd same
    rank-serves scan moment slot other (Own found ordinal) (Unclaimed seen) picked slots same read = absurd same
    rank-serves scan moment slot other (Own found ordinal) (Foreign seen place) picked slots same read = absurd same
    rank-serves scan moment slot other (Unconfirmed found) (Own seen place) picked slots same read = absurd same
    rank-serves scan moment slot other (Unconfirmed found) (Unclaimed seen) picked slots same read = absurd same
    rank-serves scan moment slot other (Unconfirmed found) (Foreign seen place) picked slots same read = absurd same
    rank-serves scan moment slot other (Unclaimed was) (Own seen place) picked slots same read = absurd same
    rank-serves scan moment slot other (Unclaimed was) (Unconfirmed seen) picked slots same read = absurd same
    rank-serves scan moment slot other (Unclaimed was) (Foreign seen place) picked slots same read = absurd same
    rank-serves scan moment slot other (Foreign found ordinal) (Own seen place) picked slots same read = absurd same
    rank-serves scan moment slot other (Foreign found ordinal) (Unconfirmed seen) picked slots same read = absurd same
    rank-serves scan moment slot other (Foreign found ordinal) (Unclaimed seen) picked slots same read = absurd same

    pick-serves : (scan : Scan) → scan.family ≡ family → (moment : ℕ) (pick there : Pick) → pick_of asked (seen_in base.rows) ≡ pick → SamePick pick there
        → Runs [] (Serves (plain_pick request family there rows) base first) base moment (follow_pick (record { request = request; scan = scan; next = next }) first pick)
    pick-serves scan own moment (Picks ranked) (Picks other) picked same =
        rank-serves scan moment ranked.slot other.slot ranked.rank other.rank picked same.0 same.1 (picked-read (Reads ranked.slot) asked (seen_in base.rows) ranked picked (listed-as_read base ranked.slot, refl))
    pick-serves scan own moment NoneLeft NoneLeft picked same = record { says = ap (λ (f : Family). Some (Lacks f)) own; same = refl; is_as = is }
    pick-serves scan own moment (Unknown place) (Unknown other) picked same =
        record { says = λ i. Some (KnowsNoPool (name_in_place (names_for (own i) request) (same i))); same = refl; is_as = is }
    pick-serves scan own moment (Picks ranked) NoneLeft picked same = absurd same
    pick-serves scan own moment (Picks ranked) (Unknown other) picked same = absurd same
    pick-serves scan own moment NoneLeft (Picks other) picked same = absurd same
    pick-serves scan own moment NoneLeft (Unknown other) picked same = absurd same
    pick-serves scan own moment (Unknown place) (Picks other) picked same = absurd same
    pick-serves scan own moment (Unknown place) NoneLeft picked same = absurd same

    first-round : (moment : ℕ) → SamePick (pick_of asked (seen_in base.rows)) (pick_of asked (seen_in rows)) → Runs [] (Serves (plain_family request family rows) base first) base moment (round_of request family next first)
    first-round moment same =
        five-runs family (λ scan seen. follow_pick (record { request = request; scan = scan; next = next }) first (pick_of asked seen)) (Serves (plain_family request family rows) base first) base moment
        (λ scan own. pick-serves scan own (moment + 1 + 1 + 1 + 1 + 1) (pick_of asked (seen_in base.rows)) (pick_of asked (seen_in rows)) refl same)

  pub serve-comes : (races claims : ℕ) (base : Datastore) (rows : Rows) (missing : Bool) (moment : ℕ) → IsAs base rows → SamePick (pick_of asked (seen_in base.rows)) (pick_of asked (seen_in rows)) → RoomFor missing base id → ((c : CidrValue) → c.family ≡ family → IsBelow base id c)
      → Enough (suc (suc (suc (suc (suc keeps.revisions))))) (suc (suc (with_handle missing keeps.rows))) (suc keeps.blocks) base
      → Runs [] (Serves (plain_family request family rows) base (left_of races (suc claims))) base moment (serve request family (left_of races (suc claims)))
  unfolding rounds
  serve-comes races claims base rows missing moment is same room below enough =
      let many : suc (races + claims) ≡ races + suc claims = omega arith in
      let first = left_of races (suc claims) in
      subst (λ (n : ℕ). Runs [] (Serves (plain_family request family rows) base first) base moment (rounds (round_of request family) n first)) many
      (first-round (rounds (round_of request family) (races + claims)) races claims base rows missing is room below enough
      (λ slot found there ordinal then later after picked values may. settled-rounds base below missing (races + claims) first (left_of races claims) slot found there ordinal then later after picked values (record { races = refl; claims = omega arith }) may) moment same)
