-- Behind a claim the choice is the block that was claimed.
use Rattle.std.proofs.Common.{◌≡◌, ◌≢◌, ℕ, inl, inr, Bool, true, false, cond, Option, Some, None, refl, sym, ap, ◌∙◌, subst}
use Rattle.std.specs.Prelude.{slice_get, ◌&&◌}
use Rattle.std.specs.List.{list_any}
use Rattle.ipam_addr.specs.Shape.{CidrValue}
use Rattle.ipam_block.specs.Shape.{BlockValue}
use Rattle.ipam_records.specs.declared.key.Key.TheVariants as key
use Rattle.ipam_records.specs.declared.record.Record.TheVariants as record_of
use Rattle.ipam_model.specs.Affinities.{BlockRead}
use Rattle.ipam_model.specs.Choice.{Candidate, FirstCandidate, Foreign, IsBest, IsCandidate, Lacks, Own, Pick, Picks, Rank, Ranked, Seen, Unclaimed, Unconfirmed, Unknown, block_at, choice_in, choice_of, has_free_address, is_confirmed_for, is_unowned_and_empty, may_claim, pick_of, rank_at, rank_in, rank_number, rank_of, rank_of_block, room_of}
use Rattle.ipam_model.specs.Plain.{Rows, seen_in}
use Rattle.ipam_model.specs.Usable.{Asked, unknown_name}
use Rattle.ipam_model.proofs.ChoiceLemmas.{pick-ranked}
use Rattle.ipam_laws.proofs.AloneChoice.{claim-room}
use Rattle.ipam_laws.proofs.ChosenSlots.{best-choice, chosen-slot, least-rank, none-unknown, slot_in}
use Rattle.ipam_laws.proofs.CountLemmas.{cidr_cases, same_text}
use Rattle.ipam_laws.proofs.Steps.{taken}
use Rattle.ipam_plain.proofs.Alike.{IsSorted, record-row, same-pools, value_in}
use Rattle.ipam_plain.proofs.Claiming.{IsClaimedIn}
use Rattle.ipam_laws.proofs.AddRounds.{usable-family}
use Rattle.ipam_plain.proofs.Ranks.{same-room}
use Rattle.ipam_plain.proofs.Seeing.{block-listed, block-named, confirmed-record, confirmed_from, same-block, same-confirmed, same-reservations}
use Rattle.ipam_records.specs.BlockLists.{is_node}

-- ---- the node's own confirmed block

-- what makes a slot the node's own
record IsOwnAt (asked : Asked) (seen : Seen) (slot : CidrValue) (found : ℕ × BlockValue) (ordinal : ℕ) : Type 0 where
  at : block_at seen slot ≡ Some found
  room : room_of seen found.1 ≡ Some ordinal
  own : is_node asked.node found.1.node ≡ true
  confirmed : list_any (is_confirmed_for asked.node found.1.cidr) seen.affinities ≡ true

own-rank : (asked : Asked) (seen : Seen) (slot : CidrValue) (found : ℕ × BlockValue) (ordinal : ℕ) → IsOwnAt asked seen slot found ordinal → rank_of asked seen slot ≡ Some (Own found ordinal)
own-rank asked seen slot found ordinal h =
    let own = h.own in
    let confirmed = h.confirmed in
    let ranks : rank_of_block asked seen found (Some ordinal) ≡ Some (Own found ordinal) = rw (own, confirmed) refl in
    ap (rank_at asked seen slot) h.at ∙ (ap (rank_of_block asked seen found) h.room ∙ ranks)

-- a slot of the first rank is such
rank-own : (asked : Asked) (seen : Seen) (slot : CidrValue) (rank : Rank) → rank_of asked seen slot ≡ Some rank → rank_number rank ≡ 0 → (found : ℕ × BlockValue) × (ordinal : ℕ) × IsOwnAt asked seen slot found ordinal
rank-own asked seen slot rank e zero_is = by (block_at seen slot) refl e
  where
    in_block : (found : ℕ × BlockValue) → block_at seen slot ≡ Some found → (o : Option ℕ) → room_of seen found.1 ≡ o → rank_of_block asked seen found o ≡ Some rank → (there : ℕ × BlockValue) × (ordinal : ℕ) × IsOwnAt asked seen slot there ordinal
    in_block found at None room f = absurd (cc f)
    in_block found at (Some ordinal) room f = tests (is_node asked.node found.1.node) (list_any (is_confirmed_for asked.node found.1.cidr) seen.affinities) (is_unowned_and_empty found.1 && may_claim asked seen) seen.config.strict refl refl f
      where
        other : (r : Rank) → rank_number r ≢ 0 → Some r ≡ Some rank → (there : ℕ × BlockValue) × (place : ℕ) × IsOwnAt asked seen slot there place
        other r some g = let same : r ≡ rank = cc g in absurd (some (ap rank_number same ∙ zero_is))

        tests : (own confirmed free strict : Bool) → is_node asked.node found.1.node ≡ own → list_any (is_confirmed_for asked.node found.1.cidr) seen.affinities ≡ confirmed
            → cond own (cond confirmed (Some (Own found ordinal)) (Some (Unconfirmed found))) (cond free (Some (Unclaimed (Some found))) (cond strict None (Some (Foreign found ordinal)))) ≡ Some rank
            → (there : ℕ × BlockValue) × (place : ℕ) × IsOwnAt asked seen slot there place
        tests true true free strict is_own is_confirmed g = (found, ordinal, record { at = at; room = room; own = is_own; confirmed = is_confirmed })
        tests true false free strict is_own is_confirmed g = other (Unconfirmed found) (λ n. cc n) g
        tests false confirmed true strict is_own is_confirmed g = other (Unclaimed (Some found)) (λ n. cc n) g
        tests false confirmed false true is_own is_confirmed g = absurd (cc g)
        tests false confirmed false false is_own is_confirmed g = other (Foreign found ordinal) (λ n. cc n) g

    by : (o : Option (ℕ × BlockValue)) → block_at seen slot ≡ o → rank_at asked seen slot o ≡ Some rank → (found : ℕ × BlockValue) × (ordinal : ℕ) × IsOwnAt asked seen slot found ordinal
    by (Some found) at f = in_block found at (room_of seen found.1) refl f
    by None at f = none (may_claim asked seen && has_free_address seen slot) f
      where
        none : (b : Bool) → cond b (Some (Unclaimed None)) None ≡ Some rank → (found : ℕ × BlockValue) × (ordinal : ℕ) × IsOwnAt asked seen slot found ordinal
        none true g = let same : Unclaimed None ≡ rank = cc g in let n : 2 ≡ 0 = ap rank_number same ∙ zero_is in absurd (cc n)
        none false g = absurd (cc g)

-- ---- the first candidate

-- what is picked is the first candidate
record IsFirst (asked : Asked) (seen : Seen) (ranked : Ranked) : Type 0 where
  best : FirstCandidate asked seen
  slot : best.best.ranked.slot ≡ ranked.slot
  rank : best.best.ranked.rank ≡ ranked.rank

first-best : (asked : Asked) (seen : Seen) (ranked : Ranked) (best : FirstCandidate asked seen) → best.best.ranked.slot ≡ ranked.slot → rank_of asked seen ranked.slot ≡ Some ranked.rank → IsFirst asked seen ranked
first-best asked seen ranked best slot ranks =
    let somes : Some best.best.ranked.rank ≡ Some ranked.rank = sym best.candidate.has_rank ∙ (ap (rank_of asked seen) slot ∙ ranks) in
    record { best = best; slot = slot; rank = cc somes }

picked-first : (asked : Asked) (seen : Seen) (ranked : Ranked) → pick_of asked seen ≡ Picks ranked → IsFirst asked seen ranked
picked-first asked seen ranked e = by (best-choice asked seen (none-unknown asked seen ranked e))
  where
    is : slot_in (choice_of asked seen) ≡ Some ranked.slot
    is = ap (λ pick. slot_in (choice_in pick)) e ∙ chosen-slot ranked.slot ranked.rank

    by : IsBest asked seen (choice_of asked seen) → IsFirst asked seen ranked
    by (inl (none, nothing)) = let no_slot = ap slot_in nothing in absurd (cc (no_slot, is))
    by (inr (first, same)) =
        let slots : Some first.best.ranked.slot ≡ Some ranked.slot = sym (chosen-slot first.best.ranked.slot first.best.ranked.rank) ∙ (sym (ap slot_in same) ∙ is) in
        first-best asked seen ranked first (cc slots) (pick-ranked asked seen ranked e)

-- what is picked is of the family
pub picked-family : (asked : Asked) (seen : Seen) (ranked : Ranked) → pick_of asked seen ≡ Picks ranked → ranked.slot.family ≡ asked.family
picked-family asked seen ranked e =
    let first = picked-first asked seen ranked e in
    let candidate = first.best.candidate in
    ap (λ (c : CidrValue). c.family) (sym first.slot ∙ candidate.is_slot) ∙ sym (usable-family asked candidate.pool candidate.usable)

-- a choice at a slot is of a pick at the slot
pick-slot : (pick : Pick) (slot : CidrValue) → slot_in (choice_in pick) ≡ Some slot → (ranked : Ranked) × (pick ≡ Picks ranked) × (ranked.slot ≡ slot)
pick-slot Lacks slot e = absurd (cc e)
pick-slot (Unknown place) slot e = absurd (cc e)
pick-slot (Picks ranked) slot e = let same : Some ranked.slot ≡ Some slot = sym (chosen-slot ranked.slot ranked.rank) ∙ e in (ranked, refl, cc same)

-- ---- after a claim

-- the block that was claimed is picked
pub record PicksClaimed (asked : Asked) (seen : Seen) (slot : CidrValue) (b : BlockValue) : Type 0 where
  pub revision : ℕ
  pub ordinal : ℕ
  pub room : room_of seen b ≡ Some ordinal
  pub picked : pick_of asked seen ≡ Picks (record { slot = slot; rank = Own (revision, b) ordinal })

module _ (asked : Asked) (rows then : Rows) (ranked : Ranked) (read : BlockRead) (sorted : IsSorted rows) (later : IsSorted then)
    (picked : pick_of asked (seen_in rows) ≡ Picks ranked) (some : rank_number ranked.rank ≢ 0) (is_read : block_at (seen_in rows) ranked.slot ≡ read)
    (h : IsClaimedIn rows then asked.node ranked.slot (taken asked.node ranked.slot read)) (of : (taken asked.node ranked.slot read).cidr ≡ ranked.slot) where
  abbrev slot : CidrValue
  slot = ranked.slot

  abbrev b : BlockValue
  b = taken asked.node ranked.slot read

  abbrev seen : Seen
  seen = seen_in rows

  abbrev after : Seen
  after = seen_in then

  kept-reservations : after.reservations ≡ seen.reservations
  kept-reservations = same-reservations then rows (h.others key.Reservations (λ e. cc e) (λ e. cc e))

  kept-pools : after.pools ≡ seen.pools
  kept-pools = same-pools then rows (h.others key.Pools (λ e. cc e) (λ e. cc e))

  -- the claimed slot is the node's own
  own-claimed : (revision : ℕ) × (ordinal : ℕ) × IsOwnAt asked after slot (revision, b) ordinal
  own-claimed =
      let (revision, there) = record-row (key.Block slot) then (record_of.Block b) h.has_block in
      let (ordinal, room) = claim-room asked seen slot read ranked.rank (ap (rank_at asked seen slot) (sym is_read) ∙ pick-ranked asked seen ranked picked) in (
        revision,
        ordinal,
        record {
          at = block-listed then slot revision b there;
          room = same-room after seen b kept-reservations ∙ room;
          own = own read;
          confirmed = subst (λ (c : CidrValue). list_any (is_confirmed_for asked.node c) after.affinities ≡ true) (sym of) (confirmed-record asked.node slot then later ∙ ap confirmed_from h.confirmed);
        },
      )
    where
      own : (r : BlockRead) → is_node asked.node (taken asked.node ranked.slot r).node ≡ true
      own None = same_text asked.node
      own (Some found) = same_text asked.node

  -- another slot that is the node's own was so before
  own-before : (c : CidrValue) (found : ℕ × BlockValue) (ordinal : ℕ) → c ≢ slot → IsOwnAt asked after c found ordinal → (there : ℕ × BlockValue) × IsOwnAt asked seen c there ordinal
  own-before c found ordinal other own =
      let kept = h.others (key.Block c) (λ e. other (cc e)) (λ e. cc e) in
      let shown : value_in (block_at seen c) ≡ Some found.1 = sym (same-block then rows c kept) ∙ ap value_in own.at in
      by (block_at seen c) refl shown
    where
      by : (o : Option (ℕ × BlockValue)) → block_at seen c ≡ o → value_in o ≡ Some found.1 → (there : ℕ × BlockValue) × IsOwnAt asked seen c there ordinal
      by None e f = absurd (cc f)
      by (Some there) e f =
          let same : there.1 ≡ found.1 = cc f in
          let cidrs : found.1.cidr ≡ c = block-named then c found own.at in
          let room : room_of seen there.1 ≡ Some ordinal = ap (room_of seen) same ∙ (sym (same-room after seen found.1 kept-reservations) ∙ own.room) in
          let affinities = same-confirmed asked.node c then rows later sorted (h.others (key.Affinity asked.node c) (λ f. cc f) (λ f. other (cc f))) in
          let was : list_any (is_confirmed_for asked.node found.1.cidr) seen.affinities ≡ true =
          subst (λ (x : CidrValue). list_any (is_confirmed_for asked.node x) seen.affinities ≡ true) (sym cidrs) (sym affinities ∙ subst (λ (x : CidrValue). list_any (is_confirmed_for asked.node x) after.affinities ≡ true) cidrs own.confirmed) in (
            there,
            record {
              at = e;
              room = room;
              own = ap (λ (x : BlockValue). is_node asked.node x.node) same ∙ own.own;
              confirmed = subst (λ (x : BlockValue). list_any (is_confirmed_for asked.node x.cidr) seen.affinities ≡ true) (sym same) was;
            },
          )

  -- no slot had the first rank before
  none-before : (c : Candidate) → IsCandidate asked seen c → rank_in c ≡ 0 → ⊥
  none-before c candidate zero_is =
      let first = picked-first asked seen ranked picked in
      let least = least-rank first.best.best c (first.best.first c candidate) zero_is in
      some (ap rank_number (sym first.rank) ∙ least)

  pub picks-claimed : PicksClaimed asked after slot b
  picks-claimed =
      let (revision, ordinal, own) = own-claimed in
      let first = picked-first asked seen ranked picked in
      let c = first.best.best in
      let is_candidate = first.best.candidate in
      let ranks = own-rank asked after slot (revision, b) ordinal own in
      let again : Candidate = record { ranked = record { slot = c.ranked.slot; rank = Own (revision, b) ordinal }; place = c.place; number = c.number } in
      let candidate : IsCandidate asked after again = record {
        pool = is_candidate.pool;
        at_place = ap (λ l. slice_get l c.place) kept-pools ∙ is_candidate.at_place;
        usable = is_candidate.usable;
        within = is_candidate.within;
        is_slot = is_candidate.is_slot;
        has_rank = ap (rank_of asked after) first.slot ∙ ranks;
      } in
      let known : unknown_name asked after.pools ≡ None = ap (unknown_name asked) kept-pools ∙ none-unknown asked seen ranked picked in
      by revision ordinal own ranks again candidate refl (best-choice asked after known)
    where
      at-slot : (revision ordinal : ℕ) → IsOwnAt asked (seen_in then) slot (revision, b) ordinal → rank_of asked (seen_in then) slot ≡ Some (Own (revision, b) ordinal) → slot_in (choice_of asked (seen_in then)) ≡ Some slot → PicksClaimed asked (seen_in then) slot b
      at-slot revision ordinal own ranks chosen_is =
          let (found, is, same) = pick-slot (pick_of asked (seen_in then)) slot chosen_is in
          let somes : Some found.rank ≡ Some (Own (revision, b) ordinal) = sym (pick-ranked asked (seen_in then) found is) ∙ (ap (rank_of asked (seen_in then)) same ∙ ranks) in
          let rank : found.rank ≡ Own (revision, b) ordinal = cc somes in
          let whole : found ≡ record { slot = slot; rank = Own (revision, b) ordinal } = λ i. record { slot = same i; rank = rank i } in
          record { revision = revision; ordinal = ordinal; room = own.room; picked = is ∙ ap Picks whole }

      first-slot : (best : FirstCandidate asked (seen_in then)) → rank_in best.best ≡ 0 → best.best.ranked.slot ≡ slot
      first-slot best zero_is = elim (cidr_cases best.best.ranked.slot slot) [
        | inl (t, same) ↦ same
        | inr (f, other) ↦
            let (found, ordinal, own) = rank-own asked (seen_in then) best.best.ranked.slot best.best.ranked.rank best.candidate.has_rank zero_is in
            let (there, was) = own-before best.best.ranked.slot found ordinal other own in
            let d = best.best in
            let before : Candidate = record { ranked = record { slot = d.ranked.slot; rank = Own there ordinal }; place = d.place; number = d.number } in
            absurd (none-before before (record {
              pool = best.candidate.pool;
              at_place = ap (λ l. slice_get l d.place) (sym kept-pools) ∙ best.candidate.at_place;
              usable = best.candidate.usable;
              within = best.candidate.within;
              is_slot = best.candidate.is_slot;
              has_rank = own-rank asked (seen_in rows) d.ranked.slot there ordinal was;
            }) refl)
      ]

      by : (revision ordinal : ℕ) → IsOwnAt asked (seen_in then) slot (revision, b) ordinal → rank_of asked (seen_in then) slot ≡ Some (Own (revision, b) ordinal) → (again : Candidate) → IsCandidate asked (seen_in then) again → rank_in again ≡ 0
          → IsBest asked (seen_in then) (choice_of asked (seen_in then)) → PicksClaimed asked (seen_in then) slot b
      by revision ordinal own ranks again candidate zero_is (inl (none, nothing)) = absurd (none again candidate)
      by revision ordinal own ranks again candidate zero_is (inr (best, same)) =
          let least = least-rank best.best again (best.first again candidate) zero_is in
          at-slot revision ordinal own ranks (ap slot_in same ∙ (chosen-slot best.best.ranked.slot best.best.ranked.rank ∙ ap (λ (c : CidrValue). Some c) (first-slot best least)))
