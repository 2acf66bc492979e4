-- An ADD that runs alone loses no race, and claims one block of each family at most.
use Rattle.std.proofs.Common.{◌≡◌, ◌≢◌, ℕ, zero, suc, ◌+◌, ◌-◌, ◌≤◌, Bool, true, false, List, [], ◌∷◌, ◌++◌, length, Option, Some, None, refl, sym, ap, ◌∙◌, subst, arith}
use Rattle.ipam_addr.specs.declared.address.Family.{Family}
use Rattle.ipam_addr.specs.Shape.{CidrValue}
use Rattle.ipam_block.specs.Shape.{BlockValue}
use Rattle.ipam_records.specs.declared.call.Call.TheVariants.{Get, List as ListAll}
use Rattle.ipam_records.specs.declared.key.Key.TheVariants as key
use Rattle.ipam_records.specs.declared.key.Kind.TheVariants as kind
use Rattle.ipam_records.specs.declared.record.Record.{Record}
use Rattle.ipam_records.specs.declared.record.Record.TheVariants as record_of
use Rattle.ipam_records.specs.Datastore.{Datastore, reply_of, row_of}
use Rattle.ipam_records.specs.Label.{idle}
use Rattle.ipam_records.specs.Word.{Ends, Word}
use Rattle.ipam_records.proofs.DatastoreLemmas.{row_key-row_of}
use Rattle.ipam_model.specs.declared.answer.Scan.{Scan}
use Rattle.ipam_model.specs.declared.outcome.AddAnswer.{AddAnswer}
use Rattle.ipam_model.specs.declared.outcome.AddAnswer.TheVariants as add
use Rattle.ipam_model.specs.declared.outcome.Gift.{Gift}
use Rattle.ipam_model.specs.declared.outcome.Served.{Served}
use Rattle.ipam_model.specs.declared.outcome.Served.TheVariants.{Gave, Refused}
use Rattle.ipam_model.specs.declared.part.Assigned.{Assigned}
use Rattle.ipam_model.specs.declared.part.Left.{Left}
use Rattle.ipam_model.specs.declared.part.Outcome.{Outcome}
use Rattle.ipam_model.specs.declared.part.Outcome.TheVariants.{Went, Stops}
use Rattle.ipam_model.specs.declared.part.Stop.{Stop}
use Rattle.ipam_model.specs.declared.part.Stop.TheVariants.{OutOfTries, OutOfClaims, NoRoom, CountAtLimit, NoRevisions}
use Rattle.ipam_model.specs.declared.request.AddRequest.{AddRequest}
use Rattle.ipam_model.specs.Add.{NextRound, add_each, add_stops, add_word, after_assign, after_family, after_stop, asked_of, claim_in, five_reads, follow_pick, follow_rank, free_gift, refuse, round_of, serve, take_in}
use Rattle.ipam_model.specs.Affinities.{BlockRead}
use Rattle.ipam_model.specs.AffinityLaw.{HasAt}
use Rattle.ipam_model.specs.Assigning.{assign, claim_for, target_in}
use Rattle.ipam_model.specs.Choice.{Foreign, Lacks, Own, Pick, Picks, Rank, Ranked, Seen, Unclaimed, Unconfirmed, Unknown, block_at, block_in_found, pick_of}
use Rattle.ipam_model.specs.Counting.{freeing_one}
use Rattle.ipam_model.specs.Plain.{seen_in}
use Rattle.ipam_model.specs.Reads.{StoredRecord}
use Rattle.ipam_model.specs.Step.{Part, all_left, answer_of, left_of, onward, rounds, stops}
use Rattle.ipam_model.specs.Usable.{families_if}
use Rattle.ipam_laws.proofs.AddRounds.{HasRead, picked-read}
use Rattle.ipam_laws.proofs.AloneCalls.{Runs, Runs-bound, runs-get, runs-list}
use Rattle.ipam_laws.proofs.AloneLooks.{next1, next2, next3, next4, next5}
use Rattle.ipam_laws.proofs.AloneChoice.{IsPicked, IsTaken, NoClaim, claimed-no_claim}
use Rattle.ipam_laws.proofs.AloneParts.{AssignEnds, ClaimForEnds, IsWant, Unlost, assign-runs, claim_for-runs, free-runs, taken-cidr}
use Rattle.ipam_laws.proofs.Calls.{found-block}
use Rattle.ipam_laws.proofs.Steps.{IsAsRead}
use Rattle.ipam_laws.proofs.WordSteps.{listed-block}

-- ---- what a round reads

-- a block is as a list of blocks shows it
pub listed-as_read : (store : Datastore) (slot : CidrValue) → IsAsRead store slot (block_at (seen_in store.rows) slot)
listed-as_read store slot = subst (λ (o : Option StoredRecord). IsAsRead store slot (block_in_found o)) (sym (listed-block store.rows slot)) (by (row_of (key.Block slot) store.rows) refl)
  where
    by : (o : Option StoredRecord) → row_of (key.Block slot) store.rows ≡ o → IsAsRead store slot (block_in_found o)
    by None e = e
    by (Some row) e =
        let (b, is, same) = found-block slot row.1 (row_key-row_of (key.Block slot) store.rows row e) in
        let there : HasAt store (key.Block slot) row.0 (record_of.Block b) = e ∙ ap (λ (x : Record). Some (row.0, x)) is in
        subst (λ (x : Record). IsAsRead store slot (block_in_found (Some (row.0, x)))) (sym is) (same, there)

five-runs : {A : Type 0} → (family : Family) (follows : Scan → Seen → Word A) (live : List (List ℕ)) (Q : Datastore → A → Type 0) (store : Datastore) (moment : ℕ) → ((scan : Scan) → Runs live Q store (moment + 1 + 1 + 1 + 1 + 1) (follows scan (seen_in store.rows))) → Runs live Q store moment (five_reads family follows)
five-runs family follows live Q store moment h =
    let config = reply_of store (Get key.Config) in
    let pools = reply_of store (Get key.Pools) in
    let reservations = reply_of store (Get key.Reservations) in
    let affinities = reply_of store (ListAll kind.Affinity) in
    runs-get live Q store moment idle key.Config (next1 family follows) (λ g1.
    runs-get live Q store (moment + 1) idle key.Pools (next2 family follows moment config) (λ g2.
    runs-get live Q store (moment + 1 + 1) idle key.Reservations (next3 family follows moment (moment + 1) config pools) (λ g3.
    runs-list live Q store (moment + 1 + 1 + 1) idle kind.Affinity (next4 family follows moment (moment + 1) (moment + 1 + 1) config pools reservations) (λ g4.
    runs-list live Q store (moment + 1 + 1 + 1 + 1) idle kind.Block (next5 family follows moment (moment + 1) (moment + 1 + 1) (moment + 1 + 1 + 1) config pools reservations affinities) (λ g5.
    h (record { family = family; c = moment; p = moment + 1; r = moment + 1 + 1; f = moment + 1 + 1 + 1; b = moment + 1 + 1 + 1 + 1 }))))))

-- ---- a family

abbrev pub NotAgain : AddAnswer → Type 0
NotAgain answer = (lost claims : ℕ) → answer ≢ add.Again lost claims

-- no race was lost, and one claim was made at most
pub record Spends (left now : Left) : Type 0 where
  pub races : now.races ≡ left.races
  pub claims : left.claims ≤ now.claims + 1

-- the answer says that there is nothing to choose
abbrev pub IsLacking : AddAnswer → Type 0
IsLacking (add.Exhausted scan) = Unit {0}
IsLacking (add.NoPool name moment) = Unit {0}
IsLacking _ = ⊥

-- an address was given where something could be picked at first, and there is nothing to choose where not
abbrev pub ServeEnds : (some : Type 0) → Left → Datastore → Outcome Served → Type 0
ServeEnds some left then (Went now (Gave gift)) = Spends left now × some
ServeEnds some left then (Went now (Refused answer)) = NotAgain answer × ¬ (some) × IsLacking answer
ServeEnds some left then (Stops now why) = IsWant why

module _ (request : AddRequest) where
  abbrev Serves : (some : Type 0) → Left → Datastore → ℕ → Part Served → Type 0
  Serves some first store moment part = Runs [] (ServeEnds some first) store moment part

  take-runs : (some : Type 0) (has : some) (scan : Scan) (next : NextRound) (first left : Left) (slot : CidrValue) (found : ℕ × BlockValue) (ordinal : ℕ) (store : Datastore) (moment : ℕ) → Spends first left → IsAsRead store slot (Some found)
      → Serves some first store moment (take_in (record { request = request; scan = scan; next = next }) left (target_in found ordinal))
  take-runs some has scan next first left slot found ordinal store moment spends as_read =
      Runs-bound [] (AssignEnds left) (ServeEnds some first) (onward (after_assign (record { request = request; scan = scan; next = next }) (target_in found ordinal))) (assign request.attributes (target_in found ordinal) left) store moment
      (assign-runs [] request.attributes (target_in found ordinal) left store moment (subst (λ (c : CidrValue). HasAt store (key.Block c) found.0 (record_of.Block found.1)) (sym as_read.0) as_read.1)) ends
    where
      ends : (then : Datastore) (later : ℕ) (outcome : Outcome (Option Assigned)) → AssignEnds left then outcome → Serves some first then later (onward (after_assign (record { request = request; scan = scan; next = next }) (target_in found ordinal)) outcome)
      ends then later (Went now (Some done)) k = (subst (λ (l : Left). Spends first l) (sym k) spends, has)
      ends then later (Went now None) k = absurd k
      ends then later (Stops now why) k = k

  -- a round that claims nothing
  settled-round : (some : Type 0) → some → (family : Family) (next : NextRound) (first left : Left) (store : Datastore) (moment : ℕ) → Spends first left → NoClaim (pick_of (asked_of request family) (seen_in store.rows)) × IsPicked (pick_of (asked_of request family) (seen_in store.rows)) → Serves some first store moment (round_of request family next left)
  settled-round some has family next first left store moment spends none =
      five-runs family (λ scan seen. follow_pick (record { request = request; scan = scan; next = next }) left (pick_of (asked_of request family) seen)) [] (ServeEnds some first) store moment
      (λ scan. by scan (pick_of (asked_of request family) (seen_in store.rows)) refl none.0 none.1)
    where
      taken-rank : (scan : Scan) (slot : CidrValue) (rank : Rank) → HasRead (IsAsRead store slot) rank → IsTaken rank → Serves some first store (moment + 1 + 1 + 1 + 1 + 1) (follow_rank (record { request = request; scan = scan; next = next }) left slot rank)
      taken-rank scan slot (Own found ordinal) read t = take-runs some has scan next first left slot found ordinal store (moment + 1 + 1 + 1 + 1 + 1) spends read
      taken-rank scan slot (Unconfirmed found) read t = absurd t
      taken-rank scan slot (Unclaimed found) read t = absurd t
      taken-rank scan slot (Foreign found ordinal) read t = take-runs some has scan next first left slot found ordinal store (moment + 1 + 1 + 1 + 1 + 1) spends read

      by : (scan : Scan) (pick : Pick) → pick_of (asked_of request family) (seen_in store.rows) ≡ pick → NoClaim pick → IsPicked pick → Serves some first store (moment + 1 + 1 + 1 + 1 + 1) (follow_pick (record { request = request; scan = scan; next = next }) left pick)
      by scan (Picks ranked) is t p =
          taken-rank scan ranked.slot ranked.rank (picked-read (IsAsRead store ranked.slot) (asked_of request family) (seen_in store.rows) ranked is (listed-as_read store ranked.slot)) t
      by scan Lacks is t p = absurd p
      by scan (Unknown place) is t p = absurd p

  -- a round that may claim, where the next claims nothing
  first-round : (family : Family) (next : NextRound) (races claims : ℕ) (store : Datastore) (moment : ℕ)
      → ((then : Datastore) (later : ℕ) → IsPicked (pick_of (asked_of request family) (seen_in store.rows)) → NoClaim (pick_of (asked_of request family) (seen_in then.rows)) × IsPicked (pick_of (asked_of request family) (seen_in then.rows)) → Serves (IsPicked (pick_of (asked_of request family) (seen_in store.rows))) (left_of races (suc claims)) then later (next (left_of races claims)))
      → Serves (IsPicked (pick_of (asked_of request family) (seen_in store.rows))) (left_of races (suc claims)) store moment (round_of request family next (left_of races (suc claims)))
  first-round family next races claims store moment on =
      five-runs family (λ scan seen. follow_pick (record { request = request; scan = scan; next = next }) left (pick_of (asked_of request family) seen)) [] (ServeEnds (IsPicked (pick_of (asked_of request family) (seen_in store.rows))) left) store moment
      (λ scan. by scan (pick_of (asked_of request family) (seen_in store.rows)) refl)
    where
      left : Left
      left = left_of races (suc claims)

      same : Spends (left_of races (suc claims)) (left_of races (suc claims))
      same = record { races = refl; claims = omega arith }

      picked-some : (ranked : Ranked) → pick_of (asked_of request family) (seen_in store.rows) ≡ Picks ranked → IsPicked (pick_of (asked_of request family) (seen_in store.rows))
      picked-some ranked picked = subst (λ (x : Pick). IsPicked x) (sym picked) tt

      -- what is known of the block that is claimed
      Reads : CidrValue → BlockRead → Type 0
      Reads slot read = IsAsRead store slot read × (block_at (seen_in store.rows) slot ≡ read)

      claims-runs : (scan : Scan) (ranked : Ranked) (read : BlockRead) → pick_of (asked_of request family) (seen_in store.rows) ≡ Picks ranked → IsAsRead store ranked.slot read → block_at (seen_in store.rows) ranked.slot ≡ read
          → Serves (IsPicked (pick_of (asked_of request family) (seen_in store.rows))) (left_of races (suc claims)) store (moment + 1 + 1 + 1 + 1 + 1) (claim_in (record { request = request; scan = scan; next = next }) (left_of races (suc claims)) ranked.slot read)
      claims-runs scan ranked read picked as_read is =
          Runs-bound [] (ClaimForEnds [] races claims store request.node ranked.slot read) (ServeEnds (IsPicked (pick_of (asked_of request family) (seen_in store.rows))) (left_of races (suc claims))) (onward (λ now done. next now)) (claim_for request.node ranked.slot read (left_of races (suc claims))) store (moment + 1 + 1 + 1 + 1 + 1)
          (claim_for-runs [] request.node ranked.slot read races claims store (moment + 1 + 1 + 1 + 1 + 1) as_read) ends
        where
          ends : (then : Datastore) (later : ℕ) (outcome : Outcome (Unit {0})) → ClaimForEnds [] races claims store request.node ranked.slot read then outcome → Serves (IsPicked (pick_of (asked_of request family) (seen_in store.rows))) (left_of races (suc claims)) then later (onward (λ now done. next now) outcome)
          ends then later (Stops now why) k = k
          ends then later (Went now done) k =
              let c = k.1 in
              subst (λ (l : Left). Serves (IsPicked (pick_of (asked_of request family) (seen_in store.rows))) (left_of races (suc claims)) then later (next l)) (sym k.0)
              (on then later (picked-some ranked picked) (claimed-no_claim (asked_of request family) store.rows then.rows ranked read picked is (record {
                revision = c.revision;
                has_block = c.has_block;
                mark = c.mark;
                confirmed = c.confirmed;
                same_pools = c.settings key.Pools tt;
                same_reservations = c.settings key.Reservations tt;
                cidr = taken-cidr [] request.node ranked.slot read store as_read;
              })))

      by-rank : (scan : Scan) (ranked : Ranked) → pick_of (asked_of request family) (seen_in store.rows) ≡ Picks ranked → (rank : Rank) → HasRead (Reads ranked.slot) rank → Serves (IsPicked (pick_of (asked_of request family) (seen_in store.rows))) (left_of races (suc claims)) store (moment + 1 + 1 + 1 + 1 + 1) (follow_rank (record { request = request; scan = scan; next = next }) (left_of races (suc claims)) ranked.slot rank)
      by-rank scan ranked picked (Own found ordinal) h = take-runs (IsPicked (pick_of (asked_of request family) (seen_in store.rows))) (picked-some ranked picked) scan next (left_of races (suc claims)) (left_of races (suc claims)) ranked.slot found ordinal store (moment + 1 + 1 + 1 + 1 + 1) same h.0
      by-rank scan ranked picked (Unconfirmed found) h = claims-runs scan ranked (Some found) picked h.0 h.1
      by-rank scan ranked picked (Unclaimed read) h = claims-runs scan ranked read picked h.0 h.1
      by-rank scan ranked picked (Foreign found ordinal) h = take-runs (IsPicked (pick_of (asked_of request family) (seen_in store.rows))) (picked-some ranked picked) scan next (left_of races (suc claims)) (left_of races (suc claims)) ranked.slot found ordinal store (moment + 1 + 1 + 1 + 1 + 1) same h.0

      by : (scan : Scan) (pick : Pick) → pick_of (asked_of request family) (seen_in store.rows) ≡ pick → Serves (IsPicked (pick_of (asked_of request family) (seen_in store.rows))) (left_of races (suc claims)) store (moment + 1 + 1 + 1 + 1 + 1) (follow_pick (record { request = request; scan = scan; next = next }) (left_of races (suc claims)) pick)
      by scan (Picks ranked) is =
          by-rank scan ranked is ranked.rank (picked-read (Reads ranked.slot) (asked_of request family) (seen_in store.rows) ranked is (listed-as_read store ranked.slot, refl))
      by scan Lacks is = ((λ lost more e. cc e), (λ p. subst (λ (x : Pick). IsPicked x) is p), tt)
      by scan (Unknown place) is = ((λ lost more e. cc e), (λ p. subst (λ (x : Pick). IsPicked x) is p), tt)

  -- rounds of which none claims
  settled-rounds : (some : Type 0) → some → (family : Family) (more : ℕ) (first left : Left) (store : Datastore) (moment : ℕ) → Spends first left → NoClaim (pick_of (asked_of request family) (seen_in store.rows)) × IsPicked (pick_of (asked_of request family) (seen_in store.rows)) → Serves some first store moment (rounds (round_of request family) more left)
  unfolding rounds
  settled-rounds some has family zero first left store moment = settled-round some has family (λ now. stops now OutOfTries) first left store moment
  settled-rounds some has family (suc more) first left store moment = settled-round some has family (rounds (round_of request family) more) first left store moment

  pub serve-runs : (family : Family) (races claims : ℕ) (store : Datastore) (moment : ℕ) → Serves (IsPicked (pick_of (asked_of request family) (seen_in store.rows))) (left_of races (suc claims)) store moment (serve request family (left_of races (suc claims)))
  unfolding rounds
  serve-runs family races claims store moment =
      let many : suc (races + claims) ≡ races + suc claims = omega arith in
      subst (λ (n : ℕ). Serves (IsPicked (pick_of (asked_of request family) (seen_in store.rows))) (left_of races (suc claims)) store moment (rounds (round_of request family) n (left_of races (suc claims)))) many
      (first-round family (rounds (round_of request family) (races + claims)) races claims store moment
      (λ then later has none. settled-rounds (IsPicked (pick_of (asked_of request family) (seen_in store.rows))) has family (races + claims) (left_of races (suc claims)) (left_of races claims) then later (record { races = refl; claims = omega arith }) none))

  -- ---- each family

  abbrev AddEnds : Datastore → Outcome AddAnswer → Type 0
  AddEnds then (Went now answer) = NotAgain answer
  AddEnds then (Stops now why) = IsWant why

  refuse-runs : (gifts : List Gift) (answer : AddAnswer) (left : Left) (store : Datastore) (moment : ℕ) → NotAgain answer → Runs [] AddEnds store moment (refuse request gifts answer left)
  refuse-runs [] answer left store moment not = not
  refuse-runs (gift ∷ gifts) answer left store moment not =
      Runs-bound [] (Unlost left) AddEnds (onward (λ now amount. refuse request gifts answer now)) (free_gift request gift left) store moment
      (free-runs [] (freeing_one request.attributes.handle gift.block (gift.given.address.number - gift.block.base) gift.stamp) left store moment) (λ then later outcome k. ends then later outcome k (λ now. refuse-runs gifts answer now then later not))
    where
      ends : (then : Datastore) (later : ℕ) (outcome : Outcome ℕ) → Unlost left then outcome → ((now : Left) → Runs [] AddEnds then later (refuse request gifts answer now)) → Runs [] AddEnds then later (onward (λ now amount. refuse request gifts answer now) outcome)
      ends then later (Went now amount) k rest = rest now
      ends then later (Stops now why) k rest = k

  stop-runs : (gifts : List Gift) (left : Left) (why : Stop) (store : Datastore) (moment : ℕ) → IsWant why → Runs [] AddEnds store moment (after_stop request gifts left why)
  stop-runs gifts left OutOfTries store moment want = absurd want
  stop-runs gifts left OutOfClaims store moment want = absurd want
  stop-runs gifts left NoRoom store moment want = refuse-runs gifts add.Full left store moment (λ lost claims e. cc e)
  stop-runs gifts left (CountAtLimit at) store moment want = refuse-runs gifts (add.CountFull at) left store moment (λ lost claims e. cc e)
  stop-runs gifts left NoRevisions store moment want = tt

  each-runs : (families : List Family) (gifts : List Gift) (races claims : ℕ) (store : Datastore) (moment : ℕ) → length families ≤ claims → Runs [] AddEnds store moment (add_each request gifts families (left_of races claims))
  unfolding add_each
  each-runs [] gifts races claims store moment enough = λ lost more e. cc e
  each-runs (family ∷ families) gifts races zero store moment enough = absurd (omega arith)
  each-runs (family ∷ families) gifts races (suc claims) store moment enough =
      Runs-bound [] (ServeEnds (IsPicked (pick_of (asked_of request family) (seen_in store.rows))) (left_of races (suc claims))) AddEnds (after_family request gifts (λ gift now. add_each request (gifts ++ gift ∷ []) families now)) (serve request family (left_of races (suc claims))) store moment
      (serve-runs family races claims store moment)
      (λ then later outcome k. ends then later outcome k (λ gift now more. each-runs families (gifts ++ gift ∷ []) now.races now.claims then later more))
    where
      ends : (then : Datastore) (later : ℕ) (outcome : Outcome Served) → ServeEnds (IsPicked (pick_of (asked_of request family) (seen_in store.rows))) (left_of races (suc claims)) then outcome → ((gift : Gift) (now : Left) → length families ≤ now.claims → Runs [] AddEnds then later (add_each request (gifts ++ gift ∷ []) families now))
          → Runs [] AddEnds then later (after_family request gifts (λ gift now. add_each request (gifts ++ gift ∷ []) families now) outcome)
      ends then later (Went now (Gave gift)) k rest = let most = k.0.claims in rest gift now (omega arith)
      ends then later (Went now (Refused answer)) k rest = refuse-runs gifts answer now then later k.0
      ends then later (Stops now why) k rest = stop-runs gifts now why then later k

  pub add-runs : (store : Datastore) (moment : ℕ) → Runs [] (λ then answer. NotAgain answer) store moment (add_word request)
  add-runs store moment =
      Runs-bound [] AddEnds (λ then answer. NotAgain answer) (λ outcome. Ends (answer_of add_stops outcome)) (add_each request [] (families_if request.ipv4 request.ipv6) all_left) store moment
      (each-runs (families_if request.ipv4 request.ipv6) [] 63 63 store moment (few request.ipv4 request.ipv6)) ends
    where
      few : (four six : Bool) → length (families_if four six) ≤ 63
      few true true = omega arith
      few true false = omega arith
      few false true = omega arith
      few false false = omega arith

      ends : (then : Datastore) (later : ℕ) (outcome : Outcome AddAnswer) → AddEnds then outcome → NotAgain (answer_of add_stops outcome)
      ends then later (Went now answer) k = k
      ends then later (Stops now OutOfTries) k = absurd k
      ends then later (Stops now OutOfClaims) k = absurd k
      ends then later (Stops now NoRoom) k = λ lost claims e. cc e
      ends then later (Stops now (CountAtLimit at)) k = λ lost claims e. cc e
      ends then later (Stops now NoRevisions) k = λ lost claims e. cc e
