-- In every lawful history an ADD claims what it may, by what it had read last.
use Rattle.std.proofs.Common.{◌≡◌, ◌≢◌, ◌⊎◌, inl, inr, ℕ, ◌-◌, ◌<◌, ◌≤◌, Bool, true, false, cond, List, ◌∷◌, Option, Some, None, refl, sym, ap, ◌∙◌, subst, arith}
use Rattle.std.specs.Prelude.{◌&&◌, IsTrue, MatchOption}
use Rattle.std.specs.List.{find, list_any}
use Rattle.ipam_addr.specs.Holding.{Holds}
use Rattle.ipam_addr.specs.Shape.{CidrValue}
use Rattle.ipam_pool.specs.Slots.{IsSlotOf}
use Rattle.ipam_block.specs.declared.state.State.{State}
use Rattle.ipam_block.specs.declared.state.State.TheVariants.{PendingDeletion}
use Rattle.ipam_block.specs.Shape as block
use Rattle.ipam_records.specs.declared.call.Call.TheVariants.{Get}
use Rattle.ipam_records.specs.declared.key.Key.TheVariants as key
use Rattle.ipam_records.specs.declared.key.Kind.TheVariants as kind
use Rattle.ipam_records.specs.declared.record.Record.{Record}
use Rattle.ipam_records.specs.declared.record.Record.TheVariants as record_of
use Rattle.ipam_records.specs.BlockLists.{is_node}
use Rattle.ipam_records.specs.Datastore.{Datastore, reply_of, reply_to_get, row_of, rows_of_kind}
use Rattle.ipam_records.specs.Sound.{IsDatastore}
use Rattle.ipam_model.specs.declared.answer.Scan.{Scan}
use Rattle.ipam_model.specs.declared.choice.Choice.{Choice}
use Rattle.ipam_model.specs.declared.choice.Choice.TheVariants.{Claim, NoPool}
use Rattle.ipam_model.specs.declared.entry.CallName.TheVariants as name
use Rattle.ipam_model.specs.declared.entry.Called.{Called}
use Rattle.ipam_model.specs.declared.entry.Entry.{Entry}
use Rattle.ipam_model.specs.declared.entry.Entry.TheVariants as entry
use Rattle.ipam_model.specs.declared.request.Request.{Request}
use Rattle.ipam_model.specs.Add.{asked_of}
use Rattle.ipam_model.specs.AddThis.{asked_of_this}
use Rattle.ipam_model.specs.Affinities.{BlockRead}
use Rattle.ipam_model.specs.Choice.{Candidate, FirstCandidate, Foreign, IsBest, IsCandidate, IsChoice, IsNotBehind, Own, Rank, Seen, Unclaimed, Unconfirmed, block_at, block_in_found, by_number, by_place, by_rank, choice_at, chosen, has_free_address, is_block_at, is_confirmed_for, is_unowned_and_empty, may_claim, rank_at, rank_in, rank_number, rank_of_block, room_of}
use Rattle.ipam_model.specs.Cluster.{after}
use Rattle.ipam_model.specs.Credits.{call_key_written}
use Rattle.ipam_model.specs.History.{Base, InSpan, Lawful, RequestSpan, before, cluster_at, now, seen_at, seen_now, store_at}
use Rattle.ipam_model.specs.Moments.{IsNext}
use Rattle.ipam_model.specs.Reads.{StoredRecord, block_said, rows_said}
use Rattle.ipam_model.specs.Rounds.{HasScanned}
use Rattle.ipam_model.specs.Usable.{Asked, unknown_name}
use Rattle.ipam_model.proofs.ChoiceLemmas.{choice_is}
use Rattle.ipam_laws.specs.Claims.{ByAddress, ByChoice, ClaimsLaw, ClaimsOnlyRight, ClaimsRight, IsBareRead, IsClaimed, IsLastRound, IsOwnRead, OfAffinity, OfBlock}
use Rattle.ipam_laws.specs.Writes.{node_in_row, node_of}
use Rattle.ipam_laws.proofs.Acting.{ByLook, ByRound, GoesBy}
use Rattle.ipam_laws.proofs.ActParts.{Begins, Goes, InClaim}
use Rattle.ipam_laws.proofs.Calls.{found-block, found-key}
use Rattle.ipam_laws.proofs.CountLemmas.{text_cases}
use Rattle.ipam_laws.proofs.FamilyHistory.{heard, reads-before, same-call, three}
use Rattle.ipam_laws.proofs.OneRecord.{drop-lawful}
use Rattle.ipam_laws.proofs.SoundHistory.{sound_law}
use Rattle.ipam_laws.proofs.Steps.{IsAsRead}
use Rattle.ipam_laws.proofs.ThisRight.{slot-there}
use Rattle.ipam_laws.proofs.Trails.{IsTrail, Trail, span_at}
use Rattle.ipam_laws.proofs.WordSteps.{listed-block}
use Rattle.ipam_laws.proofs.WritesHistory.{EntryWrites, entry-writes}
use Rattle.ipam_laws.proofs.Writing.{AffinityWrite, BlockWrite, ByClaim, ByRelease, GetsNode, IsClaiming, KeepsNode, LosesNode}

-- ---- what a choice to claim says

is-own : (node : List ℕ) (held : Option (List ℕ)) → is_node node held ≡ true → held ≡ Some node
is-own node None e = absurd (cc e)
is-own node (Some other) e = elim (text_cases other node) [
  | inl (t, same) ↦ ap Some same
  | inr (f, differ) ↦ absurd (cc (e, f))
]

both-true : (a b : Bool) → a && b ≡ true → (a ≡ true) × (b ≡ true)
both-true true true e = (refl, refl)
both-true true false e = absurd (cc e)
both-true false b e = absurd (cc e)

-- why a slot that is to be claimed is a candidate
record IsClaimRank (asked : Asked) (seen : Seen) (rank : Rank) (read : BlockRead) : Type 0 where
  behind_own : 0 < rank_number rank
  own_or_more : IsOwnRead asked.node read ⊎ (IsBareRead read × IsTrue (may_claim asked seen))

abbrev IsToClaim : Rank → CidrValue → CidrValue → Type 0
IsToClaim rank slot cidr = choice_at slot rank ≡ Claim cidr

true-is : (b : Bool) → b ≡ true → IsTrue b
true-is true e = cc
true-is false e = absurd (cc e)

block-rank : (asked : Asked) (seen : Seen) (found : ℕ × block.BlockValue) (room : Option ℕ) (rank : Rank) (slot cidr : CidrValue) → IsToClaim rank slot cidr → rank_of_block asked seen found room ≡ Some rank → IsClaimRank asked seen rank (Some found)
block-rank asked seen found None rank slot cidr is e = absurd (cc e)
block-rank asked seen found (Some ordinal) rank slot cidr is e =
    by (is_node asked.node found.1.node) refl (list_any (is_confirmed_for asked.node found.1.cidr) seen.affinities) (is_unowned_and_empty found.1 && may_claim asked seen) refl seen.config.strict e
  where
    moved : (other : Rank) → Some other ≡ Some rank → IsToClaim other slot cidr
    moved other f = let same : other ≡ rank = cc f in ap (choice_at slot) same ∙ is

    at : (other : Rank) → Some other ≡ Some rank → IsClaimRank asked seen other (Some found) → IsClaimRank asked seen rank (Some found)
    at other f h = let same : other ≡ rank = cc f in subst (λ (r : Rank). IsClaimRank asked seen r (Some found)) same h

    by : (own : Bool) → is_node asked.node found.1.node ≡ own → (confirmed free : Bool) → is_unowned_and_empty found.1 && may_claim asked seen ≡ free → (strict : Bool)
        → cond own (cond confirmed (Some (Own found ordinal)) (Some (Unconfirmed found))) (cond free (Some (Unclaimed (Some found))) (cond strict None (Some (Foreign found ordinal)))) ≡ Some rank → IsClaimRank asked seen rank (Some found)
    by true o true free n strict f = let g = moved (Own found ordinal) f in absurd (cc g)
    by true o false free n strict f = at (Unconfirmed found) f (record { behind_own = omega arith; own_or_more = inl (is-own asked.node found.1.node o) })
    by false o confirmed true n strict f =
        let (bare, more) = both-true (is_unowned_and_empty found.1) (may_claim asked seen) n in
        at (Unclaimed (Some found)) f (record { behind_own = omega arith; own_or_more = inr (bare, true-is (may_claim asked seen) more) })
    by false o confirmed false n true f = absurd (cc f)
    by false o confirmed false n false f = let g = moved (Foreign found ordinal) f in absurd (cc g)

slot-rank : (asked : Asked) (seen : Seen) (rank : Rank) (slot cidr : CidrValue) (read : BlockRead) → IsToClaim rank slot cidr → rank_at asked seen slot read ≡ Some rank → IsClaimRank asked seen rank read
slot-rank asked seen rank slot cidr (Some found) is e = block-rank asked seen found (room_of seen found.1) rank slot cidr is e
slot-rank asked seen rank slot cidr None is e = by (may_claim asked seen) refl (has_free_address seen slot) e
  where
    by : (more : Bool) → may_claim asked seen ≡ more → (free : Bool) → cond (more && free) (Some (Unclaimed None)) None ≡ Some rank → IsClaimRank asked seen rank None
    by true m true f =
        let same : Unclaimed None ≡ rank = cc f in
        subst (λ (r : Rank). IsClaimRank asked seen r None) same (record { behind_own = omega arith; own_or_more = inr (tt, true-is (may_claim asked seen) m) })
    by true m false f = absurd (cc f)
    by false m free f = absurd (cc f)

claim-slot : (rank : Rank) (slot cidr : CidrValue) → IsToClaim rank slot cidr → slot ≡ cidr
claim-slot (Own found ordinal) slot cidr e = absurd (cc e)
claim-slot (Unconfirmed found) slot cidr e = cc e
claim-slot (Unclaimed read) slot cidr e = cc e
claim-slot (Foreign found ordinal) slot cidr e = absurd (cc e)

-- what it says of the choice
record IsClaimChoice (asked : Asked) (seen : Seen) (cidr : CidrValue) : Type 0 where
  none_with_room : (c : Candidate) → IsCandidate asked seen c → 0 < rank_in c
  own_or_more : IsOwnRead asked.node (block_at seen cidr) ⊎ (IsBareRead (block_at seen cidr) × IsTrue (may_claim asked seen))

behind-first : (best other : Candidate) → 0 < rank_in best → IsNotBehind best other → 0 < rank_in other
behind-first best other some (by_rank below) = omega arith
behind-first best other some (by_place same below) = omega arith
behind-first best other some (by_number same place least) = omega arith

first-claims : (asked : Asked) (seen : Seen) (cidr : CidrValue) (c : FirstCandidate asked seen) → Claim cidr ≡ chosen c.best.ranked → IsClaimChoice asked seen cidr
first-claims asked seen cidr c e =
    let ranked = c.best.ranked in
    let is : IsToClaim ranked.rank ranked.slot cidr = sym e in
    let at = claim-slot ranked.rank ranked.slot cidr is in
    let rank = slot-rank asked seen ranked.rank ranked.slot cidr (block_at seen ranked.slot) is c.candidate.has_rank in
    record {
      none_with_room = λ other candidate. behind-first c.best other rank.behind_own (c.first other candidate);
      own_or_more = subst (λ (s : CidrValue). IsOwnRead asked.node (block_at seen s) ⊎ (IsBareRead (block_at seen s) × IsTrue (may_claim asked seen))) at rank.own_or_more;
    }

claim-choice : (asked : Asked) (seen : Seen) (cidr : CidrValue) → IsChoice asked seen (Claim cidr) → IsClaimChoice asked seen cidr
claim-choice asked seen cidr is = by (unknown_name asked seen.pools) is
  where
    by : (o : Option ℕ) → MatchOption o (IsBest asked seen (Claim cidr)) (λ place. Claim cidr ≡ NoPool place) → IsClaimChoice asked seen cidr
    by (Some place) e = absurd (cc e)
    by None (inl none) = let n = none.1 in absurd (cc n)
    by None (inr (c, e)) = first-claims asked seen cidr c e

-- ---- the last round

-- the trail up to which a claim came, since when no round began
record IsOrigin (span : RequestSpan) (origin : Trail) (upto : ℕ) : Type 0 where
  until : ℕ
  is_trail : IsTrail span until origin
  no_round : (k : ℕ) (c : Called) → until ≤ k → k < upto → InSpan span k (entry.Called c) → c.call ≢ name.Get key.Config

claim-origin : (span : RequestSpan) (origin trail : Trail) (upto : ℕ) → InClaim origin trail → IsTrail span upto trail → IsOrigin span origin upto
unfolding IsTrail
claim-origin span origin trail upto Begins h = record { until = upto; is_trail = h; no_round = λ k c above below inside. absurd (omega arith) }
claim-origin span origin trail upto (Goes moment store asked longer differs earlier) h =
    let there = claim-origin span origin longer moment earlier h.2 in
    record {
      until = there.until;
      is_trail = there.is_trail;
      no_round = λ k c above below inside. elim (three k moment) [
        | inl early ↦ there.no_round k c above early inside
        | inr (inl same) ↦
            let call : c ≡ h.0.c = same-call span moment c h.0.c (subst (λ (n : ℕ). InSpan span n (entry.Called c)) same inside) h.0.in_span in
            λ config. differs (sym h.0.is_call ∙ ap (λ (x : Called). x.call) (sym call) ∙ config)
        | inr (inr late) ↦ absurd (h.1.nothing_between k (entry.Called c) late below inside)
      ];
    }

last-round : (span : RequestSpan) (origin : Trail) (moment : ℕ) (there : IsOrigin span origin (now span)) → IsNext span moment there.until → IsLastRound span moment
last-round span origin moment there next later c above inside = elim (three later there.until) [
  | inl early ↦ absurd (next.nothing_between later (entry.Called c) above early inside)
  | inr (inl same) ↦ there.no_round later c (omega arith) inside.before_now inside
  | inr (inr late) ↦ there.no_round later c (omega arith) inside.before_now inside
]

-- ---- the block as it was read

-- what is found at a block's key
found-read : (store : Datastore) (cidr : CidrValue) (read : BlockRead) → block_in_found (row_of (key.Block cidr) store.rows) ≡ read → IsAsRead store cidr read
found-read store cidr read e = by (row_of (key.Block cidr) store.rows) refl read e
  where
    by : (o : Option StoredRecord) → row_of (key.Block cidr) store.rows ≡ o → (read : BlockRead) → block_in_found o ≡ read → IsAsRead store cidr read
    by None row None f = row
    by None row (Some found) f = absurd (cc f)
    by (Some there) row read f =
        let (b, is, same) = found-block cidr there.1 (found-key store (key.Block cidr) there.0 there.1 row) in
        let said : Some (there.0, b) ≡ read = ap (λ (x : Record). block_in_found (Some (there.0, x))) (sym is) ∙ f in
        subst (λ (r : BlockRead). IsAsRead store cidr r) said (same, row ∙ ap (λ (x : Record). Some (there.0, x)) is)

said-found : (o : Option StoredRecord) → block_said (reply_to_get o) ≡ block_in_found o
said-found None = refl
said-found (Some (revision, record_of.Block b)) = refl
said-found (Some (revision, record_of.Config config)) = refl
said-found (Some (revision, record_of.Pools pools)) = refl
said-found (Some (revision, record_of.Reservations reservations)) = refl
said-found (Some (revision, record_of.Affinity affinity)) = refl
said-found (Some (revision, record_of.Handle handle)) = refl

-- it was read so at both moments
same-row : (one other : Datastore) (cidr : CidrValue) (read : BlockRead) → IsAsRead one cidr read → IsAsRead other cidr read → row_of (key.Block cidr) one.rows ≡ row_of (key.Block cidr) other.rows
same-row one other cidr None a b = a ∙ sym b
same-row one other cidr (Some found) a b = a.1 ∙ sym b.1

listed-read : (span : RequestSpan) (scan : Scan) (seen : Seen) (cidr : CidrValue) (read : BlockRead) → (h : HasScanned span scan seen) → block_at seen cidr ≡ read → IsAsRead (seen_at span scan.b) cidr read
listed-read span scan seen cidr read h e =
    let store = seen_at span scan.b in
    let blocks : seen.blocks ≡ rows_of_kind kind.Block store = h.saw_blocks ∙ ap rows_said h.at_b.is_reply in
    found-read store cidr read (ap block_in_found (sym (listed-block store.rows cidr)) ∙ sym (ap (λ (rows : List StoredRecord). block_in_found (find (is_block_at cidr) rows)) blocks) ∙ e)

-- ---- the claim of an entry

module _ (base : Base) (history : List Entry) (c : Called) (sound : IsDatastore base.store) (lawful : Lawful base history) where
  abbrev span : RequestSpan
  span = span_at base history c.slot

  -- where the block gets the node, it was as it was read
  abbrev IsTakenSo : Datastore → CidrValue → BlockRead → Type 0
  IsTakenSo later cidr read = node_of later cidr ≢ node_of (seen_now span) cidr → IsAsRead (seen_now span) cidr read

  claims-right : (request : Request) (trail : Trail) (later : Datastore) (node : List ℕ) (cidr : CidrValue) (claim : IsClaiming request trail (seen_now span) node cidr) → IsTrail span (now span) trail → IsTakenSo later cidr claim.read → ClaimsRight span later request node cidr
  unfolding IsTrail
  claims-right request trail later node cidr claim is taken = by claim.by
    where
      by : GoesBy request claim.add cidr claim.read claim.origin → ClaimsRight span later request node cidr
      by (ByRound scan seen earlier of reads wanted chose listed) =
          let there = claim-origin span claim.origin trail (now span) claim.within is in
          let (scanned, rest) = reads-before span scan seen earlier claim.origin there.until reads there.is_trail in
          let asked = asked_of claim.add scan.family in
          let choice = subst (λ (x : Choice). IsChoice asked seen x) chose (choice_is asked seen) in
          let says = claim-choice asked seen cidr choice in
          ByChoice claim.add of claim.of_node (record {
            scan = scan;
            seen = seen;
            scanned = scanned;
            is_last = last-round span claim.origin scan.b there rest.last;
            wanted = wanted;
            chosen = choice;
            none_with_room = says.none_with_room;
            own_or_more = says.own_or_more;
            still_there = λ moved. same-row (seen_now span) (seen_at span scan.b) cidr claim.read (taken moved) (listed-read span scan seen cidr claim.read scanned listed);
          })
      by (ByLook address of looked) =
          let there = claim-origin span claim.origin trail (now span) claim.within is in
          let (at_b, next_b, (at_p, then_b, (at_c, then_p, rest))) = subst (λ (t : Trail). IsTrail span there.until t) looked.is there.is_trail in
          let at = looked.at in
          let pools_sound = subst (λ (s : Datastore). IsDatastore s) at_p.before_it (sound_law base (before base history at.p) sound (drop-lawful base (now span - at.p) history lawful)) in
          let (slot, holds, inside) = slot-there looked.pools pools_sound (asked_of_this claim.add address) address looked.pool looked.usable in
          let get = Get (key.Block cidr) in
          ByAddress claim.add address of claim.of_node (record {
            at = at;
            looked = record {
              config = reply_of looked.config (Get key.Config);
              pools = reply_of looked.pools (Get key.Pools);
              block = reply_of looked.block get;
              pool = looked.pool;
              cidr = cidr;
              at_c = heard span at.c looked.config (Get key.Config) at_c;
              at_p = heard span at.p looked.pools (Get key.Pools) at_p;
              at_b = heard span at.b looked.block get at_b;
              then_p = then_p;
              then_b = then_b;
              is_usable = looked.usable;
              is_slot = subst (λ (s : CidrValue). IsSlotOf looked.pool s) (sym looked.at_slot) slot;
              holds = subst (λ (s : CidrValue). Holds s address) (sym looked.at_slot) holds;
            };
            is_block = refl;
            is_last = last-round span claim.origin at.b there next_b;
            was_bare = subst IsBareRead (sym looked.was_read) looked.bare;
            still_there = λ moved.
                same-row (seen_now span) (seen_at span at.b) cidr claim.read (taken moved)
                (found-read (seen_at span at.b) cidr claim.read
                (ap (λ (s : Datastore). block_in_found (row_of (key.Block cidr) s.rows)) at_b.before_it
                ∙ sym (said-found (row_of (key.Block cidr) looked.block.rows)) ∙ looked.was_read));
          })

  -- ---- by what was claimed

  module _ (w : EntryWrites base history c) where
    abbrev later : Datastore
    later = store_at base (entry.Called c ∷ history)

    abbrev Right : List ℕ → CidrValue → Type 0
    Right node cidr = ClaimsRight span later w.request node cidr

    -- a block that was written so
    block-right : (node : List ℕ) (cidr : CidrValue) → node_of later cidr ≡ Some node → node_of (seen_now span) cidr ≢ Some node → BlockWrite w.request w.trail (seen_now span) later cidr → Right node cidr
    block-right node cidr then before (KeepsNode same) = absurd (before (sym same ∙ then))
    block-right node cidr then before (GetsNode other claim is was) =
        let same : Some other ≡ Some node = sym is ∙ then in
        let nodes : other ≡ node = cc same in
        subst (λ (n : List ℕ). Right n cidr) nodes (claims-right w.request w.trail later other cidr claim w.is_trail (λ moved. was))
    block-right node cidr then before (LosesNode other of was none) = absurd (cc (none, then))

    -- an affinity that was written so: no block was written
    affinity-right : (node : List ℕ) (cidr : CidrValue) (state : State) → state ≢ PendingDeletion → call_key_written c.call ≡ Some (key.Affinity node cidr) → AffinityWrite w.request w.trail (seen_now span) node cidr state → Right node cidr
    affinity-right node cidr state kept wrote (ByRelease is of) = absurd (kept is)
    affinity-right node cidr state kept wrote (ByClaim differs claim) =
        claims-right w.request w.trail later node cidr claim w.is_trail (λ moved. absurd (elim (w.rows (key.Block cidr)) [
          | inl same ↦ moved (ap node_in_row same)
          | inr other ↦ let o = other.0 in absurd (cc (wrote, o))
        ]))

    entry-claims : ClaimsOnlyRight span later
    entry-claims node cidr (OfBlock then before) = (
      w.request,
      w.requested,
      elim (w.rows (key.Block cidr)) [
        | inl same ↦ absurd (before (sym (ap node_in_row same) ∙ then))
        | inr own ↦ block-right node cidr then before (own.1.block cidr refl)
      ],
    )
    entry-claims node cidr (OfAffinity state has kept changed) = (
      w.request,
      w.requested,
      elim (w.rows (key.Affinity node cidr)) [
        | inl same ↦ absurd (changed same)
        | inr own ↦ affinity-right node cidr state kept own.0 (own.1.affinity node cidr state refl has)
      ],
    )

-- ---- the law

-- nothing is claimed where the store stays
none-claimed : (store : Datastore) (node : List ℕ) (cidr : CidrValue) → IsClaimed store store node cidr → ⊥
none-claimed store node cidr (OfBlock then before) = before then
none-claimed store node cidr (OfAffinity state has kept changed) = changed refl

pub claims_law : ClaimsLaw
unfolding cluster_at after Lawful
claims_law base history (entry.Began slot request) sound h node cidr claimed = absurd (none-claimed (store_at base history) node cidr claimed)
claims_law base history (entry.Fed slot at live) sound h node cidr claimed = absurd (none-claimed (store_at base history) node cidr claimed)
claims_law base history (entry.Stopped slot) sound h node cidr claimed = absurd (none-claimed (store_at base history) node cidr claimed)
claims_law base history (entry.Called c) sound h node cidr claimed = entry-claims base history c sound h.0 (entry-writes base history c sound h) node cidr claimed
