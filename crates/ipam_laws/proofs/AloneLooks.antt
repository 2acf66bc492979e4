-- A CHECK and a probe that run alone come to what the records say.
use Rattle.std.proofs.Common.{◌≡◌, ℕ, ◌+◌, Bool, true, false, List, [], ◌∷◌, ◌++◌, Option, Some, None, refl, sym, ap, ◌∙◌}
use Rattle.ipam_addr.specs.declared.address.Family.{Family}
use Rattle.ipam_addr.specs.declared.address.Family.TheVariants.{V4, V6}
use Rattle.ipam_addr.specs.Shape.{AddrValue}
use Rattle.ipam_pool.specs.declared.pools.Pool.{Pool}
use Rattle.ipam_records.specs.declared.call.Call.TheVariants.{Get, List as ListAll}
use Rattle.ipam_records.specs.declared.key.Key.TheVariants as key
use Rattle.ipam_records.specs.declared.key.Kind.TheVariants as kind
use Rattle.ipam_records.specs.Datastore.{Datastore, reply_of}
use Rattle.ipam_records.specs.Label.{idle}
use Rattle.ipam_records.specs.Word.{Asks, Ends, Word, bound}
use Rattle.ipam_records.specs.Said.{Said}
use Rattle.ipam_model.specs.declared.answer.Answer.{Answer}
use Rattle.ipam_model.specs.declared.answer.Scan.{Scan}
use Rattle.ipam_model.specs.declared.choice.Choice.{Choice}
use Rattle.ipam_model.specs.declared.choice.Choice.TheVariants.{Use, Borrow, Claim, Nothing, NoPool}
use Rattle.ipam_model.specs.declared.outcome.CheckAnswer.{CheckAnswer}
use Rattle.ipam_model.specs.declared.request.ProbeRequest.{ProbeRequest}
use Rattle.ipam_model.specs.declared.request.Request.TheVariants.{Check, Probe}
use Rattle.ipam_model.specs.Add.{five_reads}
use Rattle.ipam_model.specs.AddThis.{slot_holding}
use Rattle.ipam_model.specs.Choice.{Seen, choice_of}
use Rattle.ipam_model.specs.Look.{asked_of_probe, check_each, check_held, check_in_pool, check_word, holds_at, probe_choice, probe_each, probe_word}
use Rattle.ipam_model.specs.Plain.{PlainAnswer, Lacks, holds_in, plain_check, plain_check_next, plain_of, plain_probe, plain_probe_next, seen_in}
use Rattle.ipam_model.specs.Reads.{block_said, pools_said}
use Rattle.ipam_model.specs.Requests.{word_of}
use Rattle.ipam_model.specs.Told.{of_check, of_probe}
use Rattle.ipam_model.specs.Usable.{families_if, pool_of}
use Rattle.ipam_laws.specs.AlonePlain.{CheckAloneLaw, ProbeAloneLaw}
use Rattle.ipam_laws.proofs.SeenReads.{seen_by_replies}
use Rattle.ipam_laws.proofs.AloneRuns.{RunsTo, RunsTo-bound, runs-alone, runs-get, runs-list}

-- the store stays, and the answer says this
abbrev ComesTo : {A : Type 0} → (A → Answer) → Datastore → PlainAnswer → Datastore → A → Type 0
ComesTo told store plain then answer = (then ≡ store) × (plain_of (told answer) ≡ Some plain)

-- ---- a CHECK

check-held : (store : Datastore) (moment : ℕ) (rest : Word CheckAnswer) (plain : PlainAnswer) (address : AddrValue) (at : ℕ) (b : Bool) → RunsTo [] (ComesTo of_check store plain) store moment rest
    → RunsTo [] (ComesTo of_check store (plain_check_next plain address b)) store moment (check_held rest address at b)
check-held store moment rest plain address at true h = h
check-held store moment rest plain address at false h = (refl, refl)

check-runs : (store : Datastore) (id : List ℕ) (p : ℕ) (addresses : List AddrValue) (moment : ℕ) → RunsTo [] (ComesTo of_check store (plain_check id addresses store.rows)) store moment (check_each id p (pools_said (reply_of store (Get key.Pools))) addresses)
unfolding check_each
check-runs store id p [] moment = (refl, refl)
check-runs store id p (address ∷ rest) moment = by (pool_of address (pools_said (reply_of store (Get key.Pools)))) (λ later. check-runs store id p rest later)
  where
    by : (o : Option Pool) → ((later : ℕ) → RunsTo [] (ComesTo of_check store (plain_check id rest store.rows)) store later (check_each id p (pools_said (reply_of store (Get key.Pools))) rest))
        → RunsTo [] (ComesTo of_check store (plain_check_next (plain_check id rest store.rows) address (holds_in id address o store.rows))) store moment (check_in_pool (check_each id p (pools_said (reply_of store (Get key.Pools))) rest) id address p o)
    by None h = (refl, refl)
    by (Some pool) h =
        let k = key.Block (slot_holding pool address) in
        runs-get [] (ComesTo of_check store (plain_check_next (plain_check id rest store.rows) address (holds_in id address (Some pool) store.rows))) store moment idle k
        (λ at said. check_held (check_each id p (pools_said (reply_of store (Get key.Pools))) rest) address at (holds_at id address (block_said said)))
        (check-held store (moment + 1) (check_each id p (pools_said (reply_of store (Get key.Pools))) rest) (plain_check id rest store.rows) address moment (holds_at id address (block_said (reply_of store (Get k)))) (h (moment + 1)))

-- what is told of an answer is said of what is told
told-runs : {A : Type 0} → (live : List (List ℕ)) (told : A → Answer) (store : Datastore) (plain : PlainAnswer) (from : Datastore) (moment : ℕ) (w : Word A) → RunsTo live (ComesTo told store plain) from moment w
    → RunsTo live (λ then (answer : Answer). (then ≡ store) × (plain_of answer ≡ Some plain)) from moment (bound w (λ one. Ends (told one)))
told-runs live told store plain from moment w h =
    RunsTo-bound live (ComesTo told store plain) (λ then (answer : Answer). (then ≡ store) × (plain_of answer ≡ Some plain)) (λ one. Ends (told one)) w from moment h (λ then later a r. r)

pub check_alone : CheckAloneLaw
unfolding word_of
check_alone base id addresses =
    let store = base.store in
    let plain = plain_check id addresses store.rows in
    let runs = runs-get [] (ComesTo of_check store plain) store (base.first + 1) idle key.Pools (λ p said. check_each id p (pools_said said) addresses) (check-runs store id (base.first + 1) addresses (base.first + 1 + 1)) in
    let whole = runs-alone [] (λ then (answer : Answer). (then ≡ store) × (plain_of answer ≡ Some plain)) (word_of (Check id addresses)) store (base.first + 1) (told-runs [] of_check store plain store (base.first + 1) (check_word id addresses) runs) in
    (whole.1, whole.0)

-- ---- a probe

probe-family : (request : ProbeRequest) (family : Family) → (asked_of_probe request family).family ≡ family
probe-family request V4 = refl
probe-family request V6 = refl

-- the five reads of a round see what the rows show
module _ {A : Type 0} (family : Family) (follows : Scan → Seen → Word A) where
  abbrev pub next5 : (c p r f : ℕ) → (config pools reservations affinities : Said) → ℕ → Said → Word A
  next5 c p r f config pools reservations affinities b blocks =
      follows
      (record { family = family; c = c; p = p; r = r; f = f; b = b })
      (seen_by_replies config pools reservations affinities blocks)

  abbrev pub next4 : (c p r : ℕ) → (config pools reservations : Said) → ℕ → Said → Word A
  next4 c p r config pools reservations f affinities = Asks idle (ListAll kind.Block) (next5 c p r f config pools reservations affinities)

  abbrev pub next3 : (c p : ℕ) → (config pools : Said) → ℕ → Said → Word A
  next3 c p config pools r reservations = Asks idle (ListAll kind.Affinity) (next4 c p r config pools reservations)

  abbrev pub next2 : (c : ℕ) → (config : Said) → ℕ → Said → Word A
  next2 c config p pools = Asks idle (Get key.Reservations) (next3 c p config pools)

  abbrev pub next1 : ℕ → Said → Word A
  next1 c config = Asks idle (Get key.Pools) (next2 c config)

  pub five-run : (live : List (List ℕ)) (Q : Datastore → A → Type 0) (store : Datastore) (moment : ℕ)
      → ((scan : Scan) → scan.family ≡ family → RunsTo live Q store (moment + 1 + 1 + 1 + 1 + 1) (follows scan (seen_in store.rows))) → RunsTo live Q store moment (five_reads family follows)
  five-run live Q store moment h =
      let config = reply_of store (Get key.Config) in
      let pools = reply_of store (Get key.Pools) in
      let reservations = reply_of store (Get key.Reservations) in
      let affinities = reply_of store (ListAll kind.Affinity) in
      runs-get live Q store moment idle key.Config next1
      (runs-get live Q store (moment + 1) idle key.Pools (next2 moment config)
      (runs-get live Q store (moment + 1 + 1) idle key.Reservations (next3 moment (moment + 1) config pools)
      (runs-list live Q store (moment + 1 + 1 + 1) idle kind.Affinity (next4 moment (moment + 1) (moment + 1 + 1) config pools reservations)
      (runs-list live Q store (moment + 1 + 1 + 1 + 1) idle kind.Block (next5 moment (moment + 1) (moment + 1 + 1) (moment + 1 + 1 + 1) config pools reservations affinities)
      (h (record { family = family; c = moment; p = moment + 1; r = moment + 1 + 1; f = moment + 1 + 1 + 1; b = moment + 1 + 1 + 1 + 1 }) refl)))))

probe-runs : (request : ProbeRequest) (store : Datastore) (scans : List Scan) (families : List Family) (moment : ℕ) → RunsTo [] (ComesTo of_probe store (plain_probe request families store.rows)) store moment (probe_each request scans families)
unfolding probe_each
probe-runs request store scans [] moment = (refl, refl)
probe-runs request store scans (family ∷ families) moment =
    five-run family (λ scan seen. probe_choice (probe_each request (scans ++ scan ∷ []) families) (asked_of_probe request family) scan (choice_of (asked_of_probe request family) seen))
    [] (ComesTo of_probe store (plain_probe request (family ∷ families) store.rows)) store moment
    (λ scan same. by scan same (choice_of (asked_of_probe request family) (seen_in store.rows)) (probe-runs request store (scans ++ scan ∷ []) families (moment + 1 + 1 + 1 + 1 + 1)))
  where
    by : (scan : Scan) → scan.family ≡ family → (choice : Choice) → RunsTo [] (ComesTo of_probe store (plain_probe request families store.rows)) store (moment + 1 + 1 + 1 + 1 + 1) (probe_each request (scans ++ scan ∷ []) families)
        → RunsTo [] (ComesTo of_probe store (plain_probe_next (plain_probe request families store.rows) (asked_of_probe request family) choice)) store (moment + 1 + 1 + 1 + 1 + 1)
        (probe_choice (probe_each request (scans ++ scan ∷ []) families) (asked_of_probe request family) scan choice)
    by scan same Nothing h = (refl, ap (λ f. Some (Lacks f)) (same ∙ sym (probe-family request family)))
    by scan same (NoPool place) h = (refl, refl)
    by scan same (Use slot ordinal) h = h
    by scan same (Claim slot) h = h
    by scan same (Borrow slot ordinal) h = h

pub probe_alone : ProbeAloneLaw
unfolding word_of
probe_alone base request =
    let store = base.store in
    let families = families_if request.ipv4 request.ipv6 in
    let plain = plain_probe request families store.rows in
    let whole = runs-alone [] (λ then (answer : Answer). (then ≡ store) × (plain_of answer ≡ Some plain)) (word_of (Probe request)) store (base.first + 1)
    (told-runs [] of_probe store plain store (base.first + 1) (probe_word request) (probe-runs request store [] families (base.first + 1))) in
    (whole.1, whole.0)
