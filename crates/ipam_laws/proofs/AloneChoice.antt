-- Behind a claim the choice is not to claim again.
use Rattle.std.proofs.Common.{◌≡◌, ℕ, zero, suc, ◌+◌, ◌⊎◌, inl, inr, Bool, true, false, cond, List, [], ◌∷◌, Option, Some, None, refl, sym, ap, ◌∙◌, subst}
use Rattle.std.specs.Prelude.{Contains, slice_get, not, ◌&&◌, ◌||◌, is_some}
use Rattle.std.specs.List.{filter, find, list_any, range_with_len}
use Rattle.ipam_addr.specs.Shape.{AddrValue, CidrValue}
use Rattle.ipam_addr.specs.Width.{cidr_size}
use Rattle.ipam_block.specs.declared.state.State.TheVariants.{Confirmed}
use Rattle.ipam_block.specs.Operations.{ordinal_address}
use Rattle.ipam_pool.specs.Union.{is_in_union}
use Rattle.ipam_records.specs.declared.key.Key.TheVariants as key
use Rattle.ipam_records.specs.declared.key.Kind.TheVariants as kind
use Rattle.ipam_records.specs.declared.record.Record.TheVariants as record_of
use Rattle.ipam_records.specs.Datastore.{reply_to_get, row_key, row_of}
use Rattle.ipam_records.specs.KeyOrder.{is_of_kind, keys_equal}
use Rattle.ipam_model.specs.declared.choice.Choice.{Choice}
use Rattle.ipam_model.specs.declared.choice.Choice.TheVariants.{Claim}
use Rattle.ipam_model.specs.Affinities.{BlockRead, affinity}
use Rattle.ipam_model.specs.Choice.{Candidate, Foreign, IsBest, IsCandidate, Lacks, Own, Pick, Picks, Rank, Ranked, Seen, Unclaimed, Unconfirmed, Unknown, block_at, block_in_found, choice_in, choice_of, chosen, first_found, free_address, has_free_address, is_confirmed_for, is_reserved, may_claim, pick_of, rank_at, rank_in, rank_number, rank_of, rank_of_block, room_of}
use Rattle.ipam_model.specs.Plain.{seen_in}
use Rattle.ipam_model.specs.Reads.{StoredRecord, pools_said, reservations_said}
use Rattle.ipam_model.specs.Usable.{Asked, unknown_name}
use Rattle.ipam_model.proofs.ChoiceLemmas.{pick-ranked}
use Rattle.ipam_laws.proofs.ChosenSlots.{best-choice, chosen-slot, least-rank, none-unknown, slot_in}
use Rattle.ipam_laws.proofs.CountLemmas.{same_itself, same_text}
use Rattle.ipam_laws.proofs.Members.{filter-in, in-cons, in-find, in-nothing}
use Rattle.ipam_laws.proofs.Steps.{taken}
use Rattle.ipam_laws.proofs.WordSteps.{listed-block}
use Rattle.ipam_records.specs.BlockLists.{is_node}

-- what is picked is not to be claimed
abbrev pub IsTaken : Rank → Type 0
IsTaken (Own found ordinal) = Unit {0}
IsTaken (Unconfirmed found) = ⊥
IsTaken (Unclaimed read) = ⊥
IsTaken (Foreign found ordinal) = Unit {0}

abbrev pub NoClaim : Pick → Type 0
NoClaim (Picks ranked) = IsTaken ranked.rank
NoClaim Lacks = Unit {0}
NoClaim (Unknown place) = Unit {0}

-- something is picked
abbrev pub IsPicked : Pick → Type 0
IsPicked (Picks ranked) = Unit {0}
IsPicked Lacks = ⊥
IsPicked (Unknown place) = ⊥

-- ---- room

-- an address that is not reserved is found among the ordinals
found-free : (seen : Seen) (cidr : CidrValue) (many from : ℕ) → is_some (first_found (free_address seen cidr) many from) ≡ true → (ordinal : ℕ) × (find (λ o. not (is_reserved seen (ordinal_address cidr o))) (range_with_len from many) ≡ Some ordinal)
unfolding first_found
found-free seen cidr zero from e = absurd (cc e)
found-free seen cidr (suc many) from e = by (λ f. found-free seen cidr many (from + 1) f) (is_reserved seen (ordinal_address cidr from)) e
  where
    by : (is_some (first_found (free_address seen cidr) many (from + 1)) ≡ true → (ordinal : ℕ) × (find (λ o. not (is_reserved seen (ordinal_address cidr o))) (range_with_len (from + 1) many) ≡ Some ordinal))
        → (b : Bool) → is_some (elim (cond b None (Some (ordinal_address cidr from))) as (λ o. Option (ℕ × AddrValue)) [ Some found ↦ Some (from, found) | None ↦ first_found (free_address seen cidr) many (from + 1) ]) ≡ true
        → (ordinal : ℕ) × (cond (not b) (Some from) (find (λ o. not (is_reserved seen (ordinal_address cidr o))) (range_with_len (from + 1) many)) ≡ Some ordinal)
    by rest true f = rest f
    by rest false f = (from, refl)

-- a slot that has a rank has room once it is claimed
pub claim-room : (asked : Asked) (seen : Seen) (slot : CidrValue) (read : BlockRead) (rank : Rank) → rank_at asked seen slot read ≡ Some rank → (ordinal : ℕ) × (room_of seen (taken asked.node slot read) ≡ Some ordinal)
claim-room asked seen slot None rank e = by (may_claim asked seen) (has_free_address seen slot) refl e
  where
    by : (may free : Bool) → has_free_address seen slot ≡ free → cond (may && free) (Some (Unclaimed None)) None ≡ Some rank → (ordinal : ℕ) × (room_of seen (taken asked.node slot None) ≡ Some ordinal)
    by true true is f = found-free seen slot (cidr_size slot) 0 is
    by true false is f = absurd (cc f)
    by false free is f = absurd (cc f)
claim-room asked seen slot (Some found) rank e = by (room_of seen found.1) refl e
  where
    by : (o : Option ℕ) → room_of seen found.1 ≡ o → rank_of_block asked seen found o ≡ Some rank → (ordinal : ℕ) × (room_of seen (taken asked.node slot (Some found)) ≡ Some ordinal)
    by None is f = absurd (cc f)
    by (Some ordinal) is f = (ordinal, is)

-- ---- confirmed

any-in : (test : StoredRecord → Bool) (row : StoredRecord) (rows : List StoredRecord) → Contains rows row → test row ≡ true → list_any test rows ≡ true
any-in test row [] there is = absurd (in-nothing row there)
any-in test row (first ∷ rest) there is = by (test first) refl (in-cons row first rest there) (any-in test row rest)
  where
    by : (b : Bool) → test first ≡ b → (first ≡ row) ⊎ Contains rest row → (Contains rest row → test row ≡ true → list_any test rest ≡ true) → b || list_any test rest ≡ true
    by true e h k = refl
    by false e (inl same) k = let own = ap test same in absurd (cc (own, is, e))
    by false e (inr further) k = k further is

is-confirmed : (node : List ℕ) (cidr : CidrValue) (rows : List StoredRecord) (mark : ℕ) → row_of (key.Affinity node cidr) rows ≡ Some (mark, record_of.Affinity (affinity node cidr Confirmed)) → list_any (is_confirmed_for node cidr) (filter (λ row. is_of_kind kind.Affinity (row_key row)) rows) ≡ true
is-confirmed node cidr rows mark e =
    let row : StoredRecord = (mark, record_of.Affinity (affinity node cidr Confirmed)) in
    let there = (in-find (λ (r : StoredRecord). keys_equal (row_key r) (key.Affinity node cidr)) row rows e).0 in
    let t = same_text node in
    let u = same_itself cidr in
    any-in (is_confirmed_for node cidr) row (filter (λ row. is_of_kind kind.Affinity (row_key row)) rows)
    (filter-in (λ (r : StoredRecord). is_of_kind kind.Affinity (row_key r)) row rows there refl) (rw (t, u) refl)

-- ---- the candidate

-- the slot that is picked is a candidate's
picked-candidate : (asked : Asked) (seen : Seen) (ranked : Ranked) → pick_of asked seen ≡ Picks ranked → (c : Candidate) × IsCandidate asked seen c × (c.ranked.slot ≡ ranked.slot)
picked-candidate asked seen ranked e = by (best-choice asked seen (none-unknown asked seen ranked e))
  where
    is : slot_in (choice_of asked seen) ≡ Some ranked.slot
    is = ap (λ pick. slot_in (choice_in pick)) e ∙ chosen-slot ranked.slot ranked.rank

    by : IsBest asked seen (choice_of asked seen) → (c : Candidate) × IsCandidate asked seen c × (c.ranked.slot ≡ ranked.slot)
    by (inl (none, nothing)) = let no_slot = ap slot_in nothing in absurd (cc (no_slot, is))
    by (inr (first, same)) =
        let slots : Some first.best.ranked.slot ≡ Some ranked.slot = sym (chosen-slot first.best.ranked.slot first.best.ranked.rank) ∙ (sym (ap slot_in same) ∙ is) in
        (first.best, first.candidate, cc slots)

-- a candidate of the first rank comes first
abbrev IsClaimChoice : Choice → Type 0
IsClaimChoice (Claim slot) = Unit {0}
IsClaimChoice _ = ⊥

own-taken : (slot : CidrValue) (rank : Rank) → rank_number rank ≡ 0 → ¬ (IsClaimChoice (chosen (record { slot = slot; rank = rank })))
own-taken slot (Own found ordinal) e t = t
own-taken slot (Unconfirmed found) e t = absurd (cc e)
own-taken slot (Unclaimed read) e t = absurd (cc e)
own-taken slot (Foreign found ordinal) e t = t

picks-no_claim : (pick : Pick) → ¬ (IsClaimChoice (choice_in pick)) → NoClaim pick
picks-no_claim Lacks none = tt
picks-no_claim (Unknown place) none = tt
picks-no_claim (Picks ranked) none = by ranked.rank none
  where
    by : (rank : Rank) → ¬ (IsClaimChoice (chosen (record { slot = ranked.slot; rank = rank }))) → IsTaken rank
    by (Own found ordinal) h = tt
    by (Unconfirmed found) h = h tt
    by (Unclaimed read) h = h tt
    by (Foreign found ordinal) h = tt

picks-some : (pick : Pick) (slot : CidrValue) → slot_in (choice_in pick) ≡ Some slot → IsPicked pick
picks-some Lacks slot e = absurd (cc e)
picks-some (Unknown place) slot e = absurd (cc e)
picks-some (Picks ranked) slot e = tt

first-rank : (asked : Asked) (seen : Seen) (c : Candidate) → IsCandidate asked seen c → rank_in c ≡ 0 → unknown_name asked seen.pools ≡ None → NoClaim (pick_of asked seen) × IsPicked (pick_of asked seen)
first-rank asked seen c candidate zero_is none = (picks-no_claim (pick_of asked seen) (λ t. by (best-choice asked seen none) t), some (best-choice asked seen none))
  where
    by : IsBest asked seen (choice_of asked seen) → ¬ (IsClaimChoice (choice_of asked seen))
    by (inl (no_candidate, nothing)) t = no_candidate c candidate
    by (inr (first, same)) t =
        let least = least-rank first.best c (first.first c candidate) zero_is in
        own-taken first.best.ranked.slot first.best.ranked.rank least (subst (λ (choice : Choice). IsClaimChoice choice) same t)

    some : IsBest asked seen (choice_of asked seen) → IsPicked (pick_of asked seen)
    some (inl (no_candidate, nothing)) = absurd (no_candidate c candidate)
    some (inr (first, same)) = picks-some (pick_of asked seen) first.best.ranked.slot (ap slot_in same ∙ chosen-slot first.best.ranked.slot first.best.ranked.rank)

-- ---- after a claim

-- what a claim leaves of the rows that a choice sees
pub record IsClaimed (rows then : List StoredRecord) (node : List ℕ) (slot : CidrValue) (read : BlockRead) : Type 0 where
  pub revision : ℕ
  pub has_block : row_of (key.Block slot) then ≡ Some (revision, record_of.Block (taken node slot read))
  pub mark : ℕ
  pub confirmed : row_of (key.Affinity node slot) then ≡ Some (mark, record_of.Affinity (affinity node slot Confirmed))
  pub same_pools : row_of key.Pools then ≡ row_of key.Pools rows
  pub same_reservations : row_of key.Reservations then ≡ row_of key.Reservations rows
  pub cidr : (taken node slot read).cidr ≡ slot

own-rank : (asked : Asked) (rows then : List StoredRecord) (slot : CidrValue) (read : BlockRead) (rank : Rank) → rank_at asked (seen_in rows) slot read ≡ Some rank → IsClaimed rows then asked.node slot read
    → (own : Rank) × (rank_of asked (seen_in then) slot ≡ Some own) × (rank_number own ≡ 0)
own-rank asked rows then slot read rank ranked h =
    let seen = seen_in rows in
    let later = seen_in then in
    let b = taken asked.node slot read in
    let (ordinal, room) = claim-room asked seen slot read rank ranked in
    let at : block_at later slot ≡ Some (h.revision, b) = ap block_in_found (listed-block then slot ∙ h.has_block) in
    let room_then : room_of later b ≡ Some ordinal = ap (λ (o : Option StoredRecord). find (λ k. not (is_in_union (reservations_said (reply_to_get o)) (ordinal_address b.cidr k))) b.queue) h.same_reservations ∙ room in
    let confirmed : list_any (is_confirmed_for asked.node b.cidr) later.affinities ≡ true =
    subst (λ (c : CidrValue). list_any (is_confirmed_for asked.node c) later.affinities ≡ true) (sym h.cidr) (is-confirmed asked.node slot then h.mark h.confirmed) in
    let own : is_node asked.node b.node ≡ true = taken-own asked.node slot read in
    let ranks : rank_of_block asked later (h.revision, b) (Some ordinal) ≡ Some (Own (h.revision, b) ordinal) = rw (own, confirmed) refl in
    (Own (h.revision, b) ordinal, ap (rank_at asked later slot) at ∙ (ap (rank_of_block asked later (h.revision, b)) room_then ∙ ranks), refl)
  where
    taken-own : (node : List ℕ) (slot : CidrValue) (read : BlockRead) → is_node node (taken node slot read).node ≡ true
    taken-own node slot None = same_text node
    taken-own node slot (Some found) = same_text node

pub claimed-no_claim : (asked : Asked) (rows then : List StoredRecord) (ranked : Ranked) (read : BlockRead) → pick_of asked (seen_in rows) ≡ Picks ranked → block_at (seen_in rows) ranked.slot ≡ read → IsClaimed rows then asked.node ranked.slot read → NoClaim (pick_of asked (seen_in then)) × IsPicked (pick_of asked (seen_in then))
claimed-no_claim asked rows then ranked read picked is h =
    let seen = seen_in rows in
    let later = seen_in then in
    let pools : later.pools ≡ seen.pools = ap (λ (o : Option StoredRecord). pools_said (reply_to_get o)) h.same_pools in
    let (c, candidate, slot) = picked-candidate asked seen ranked picked in
    let rank = pick-ranked asked seen ranked picked in
    let (own, owns, zero_is) = own-rank asked rows then ranked.slot read ranked.rank (ap (rank_at asked seen ranked.slot) (sym is) ∙ rank) h in
    let again : Candidate = record { ranked = record { slot = c.ranked.slot; rank = own }; place = c.place; number = c.number } in
    first-rank asked later again
    (record {
      pool = candidate.pool;
      at_place = ap (λ l. slice_get l c.place) pools ∙ candidate.at_place;
      usable = candidate.usable;
      within = candidate.within;
      is_slot = candidate.is_slot;
      has_rank = ap (rank_of asked later) slot ∙ owns;
    })
    zero_is (ap (unknown_name asked) pools ∙ none-unknown asked seen ranked picked)
