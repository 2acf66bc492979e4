-- A probe alone tells of an ADD alone of one family.
use Rattle.std.proofs.Common.{◌≡◌, ◌≢◌, ℕ, ◌+◌, false, List, [], ◌∷◌, ◌++◌, Some, refl, sym, ap, ◌∙◌, subst}
use Rattle.ipam_addr.specs.declared.address.Family.{Family}
use Rattle.ipam_addr.specs.declared.address.Family.TheVariants.{V4, V6}
use Rattle.ipam_records.specs.Datastore.{Datastore}
use Rattle.ipam_records.specs.Word.{Ends}
use Rattle.ipam_model.specs.declared.answer.Answer.{Answer}
use Rattle.ipam_model.specs.declared.answer.Answer.TheVariants as answer
use Rattle.ipam_model.specs.declared.answer.Given.{Given}
use Rattle.ipam_model.specs.declared.outcome.AddAnswer.{AddAnswer}
use Rattle.ipam_model.specs.declared.outcome.AddAnswer.TheVariants as add
use Rattle.ipam_model.specs.declared.outcome.Served.{Served}
use Rattle.ipam_model.specs.declared.outcome.Served.TheVariants.{Gave, Refused}
use Rattle.ipam_model.specs.declared.part.Left.{Left}
use Rattle.ipam_model.specs.declared.part.Outcome.{Outcome}
use Rattle.ipam_model.specs.declared.part.Outcome.TheVariants.{Went, Stops}
use Rattle.ipam_model.specs.declared.part.Stop.{Stop}
use Rattle.ipam_model.specs.declared.part.Stop.TheVariants.{OutOfTries, OutOfClaims, NoRoom, CountAtLimit, NoRevisions}
use Rattle.ipam_model.specs.declared.request.AddRequest.{AddRequest}
use Rattle.ipam_model.specs.declared.request.ProbeRequest.{ProbeRequest}
use Rattle.ipam_model.specs.declared.request.Request.TheVariants.{Add, Probe}
use Rattle.ipam_model.specs.Add.{add_each, add_stops, add_word, after_family, after_stop, asked_of, serve}
use Rattle.ipam_model.specs.AffinityLaw.{HasAt}
use Rattle.ipam_model.specs.Alone.{alone_over}
use Rattle.ipam_model.specs.Choice.{Foreign, Lacks, Own, Pick, Picks, Rank, Unclaimed, Unconfirmed, Unknown, choice_in, choice_of, chosen, pick_of}
use Rattle.ipam_model.specs.Look.{asked_of_probe}
use Rattle.ipam_model.specs.Plain.{CanGive, plain_of, plain_probe, plain_probe_next, seen_in}
use Rattle.ipam_model.specs.Requests.{told_as, word_of}
use Rattle.ipam_model.specs.Step.{all_left, answer_of}
use Rattle.ipam_model.specs.Told.{of_add}
use Rattle.ipam_model.specs.Usable.{Asked, families_if}
use Rattle.ipam_laws.specs.AlonePlain.{AsksSame, IsGiven, IsGivenOrWants, IsReady, ProbeTellsLaw, WantsCount, WantsRevisions, WantsRoom}
use Rattle.ipam_laws.proofs.AloneAdds.{IsLacking, ServeEnds, serve-runs}
use Rattle.ipam_laws.proofs.AloneCalls.{Runs, Runs-bound, runs-alone}
use Rattle.ipam_laws.proofs.AloneChoice.{IsPicked}
use Rattle.ipam_laws.proofs.AloneLooks.{probe_alone}
use Rattle.ipam_laws.proofs.AloneParts.{IsWant}
use Rattle.ipam_laws.proofs.RequestSteps.{word-lawful}

-- ---- the ADD

-- it is answered as it should be, where something could be picked at first and where not
record Tells (some : Type 0) (told : Answer) : Type 0 where
  given : some → IsGivenOrWants told
  none : ¬ (some) → (given : List Given) → told ≢ answer.Added given

lacking-tells : (some : Type 0) (told : AddAnswer) → ¬ (some) → IsLacking told → Tells some (of_add told)
lacking-tells some (add.Exhausted scan) not t = record { given = λ has. absurd (not has); none = λ n given e. cc e }
lacking-tells some (add.NoPool name moment) not t = record { given = λ has. absurd (not has); none = λ n given e. cc e }
lacking-tells some (add.Added given) not t = absurd t
lacking-tells some (add.Again lost claims) not t = absurd t
lacking-tells some add.Full not t = absurd t
lacking-tells some (add.CountFull moment) not t = absurd t
lacking-tells some add.Spent not t = absurd t

abbrev Fine : Type 0 → Datastore → Outcome AddAnswer → Type 0
Fine some then (Went now told) = Tells some (of_add told)
Fine some then (Stops now why) = IsWant why

wants-tells : (some : Type 0) (told : Answer) → IsGivenOrWants told → ((given : List Given) → told ≢ answer.Added given) → Tells some told
wants-tells some told wants other = record { given = λ has. wants; none = λ n. other }

module _ (request : AddRequest) (family : Family) (one : families_if request.ipv4 request.ipv6 ≡ family ∷ []) (store : Datastore) where
  abbrev Something : Type 0
  Something = IsPicked (pick_of (asked_of request family) (seen_in store.rows))

  stop-tells : (left : Left) (why : Stop) (then : Datastore) (later : ℕ) → IsWant why → Runs [] (Fine Something) then later (after_stop request [] left why)
  stop-tells left OutOfTries then later want = absurd want
  stop-tells left OutOfClaims then later want = absurd want
  stop-tells left NoRoom then later want = wants-tells Something answer.Full WantsRoom (λ given e. cc e)
  stop-tells left (CountAtLimit at) then later want = wants-tells Something (answer.CountFull at) (WantsCount at) (λ given e. cc e)
  stop-tells left NoRevisions then later want = tt

  one-runs : (moment : ℕ) → Runs [] (Fine Something) store moment (add_each request [] (family ∷ []) all_left)
  unfolding add_each
  one-runs moment =
      Runs-bound [] (ServeEnds Something all_left) (Fine Something) (after_family request [] (λ gift now. add_each request ([] ++ gift ∷ []) [] now)) (serve request family all_left) store moment (serve-runs request family 63 62 store moment) ends
    where
      ends : (then : Datastore) (later : ℕ) (outcome : Outcome Served) → ServeEnds Something all_left then outcome → Runs [] (Fine Something) then later (after_family request [] (λ gift now. add_each request ([] ++ gift ∷ []) [] now) outcome)
      ends then later (Went now (Gave gift)) k = record { given = λ has. IsGiven _; none = λ not. absurd (not k.1) }
      ends then later (Went now (Refused told)) k = lacking-tells Something told k.1 k.2
      ends then later (Stops now why) k = stop-tells now why then later k

  add-tells : (moment : ℕ) → Runs [] (λ then told. Tells Something told) store moment (told_as of_add (add_word request))
  add-tells moment =
      Runs-bound [] (λ then told. Tells Something (of_add told)) (λ then told. Tells Something told) (λ one. Ends (of_add one)) (add_word request) store moment
      (Runs-bound [] (Fine Something) (λ then told. Tells Something (of_add told)) (λ outcome. Ends (answer_of add_stops outcome)) (add_each request [] (families_if request.ipv4 request.ipv6) all_left) store moment
      (subst (λ (l : List Family). Runs [] (Fine Something) store moment (add_each request [] l all_left)) (sym one) (one-runs moment)) ends)
      (λ then later told k. k)
    where
      ends : (then : Datastore) (later : ℕ) (outcome : Outcome AddAnswer) → Fine Something then outcome → Tells Something (of_add (answer_of add_stops outcome))
      ends then later (Went now told) k = k
      ends then later (Stops now OutOfTries) k = absurd k
      ends then later (Stops now OutOfClaims) k = absurd k
      ends then later (Stops now NoRoom) k = wants-tells Something answer.Full WantsRoom (λ given e. cc e)
      ends then later (Stops now (CountAtLimit at)) k = wants-tells Something (answer.CountFull at) (WantsCount at) (λ given e. cc e)
      ends then later (Stops now NoRevisions) k = wants-tells Something answer.Spent WantsRevisions (λ given e. cc e)

-- ---- the probe

-- the probe asks of a family what the ADD asks
pub asked-same : (probe : ProbeRequest) (request : AddRequest) → AsksSame probe request → (family : Family) → asked_of request family ≡ asked_of_probe probe family
asked-same probe request same V4 =
    let nodes = same.node in
    let names = same.pools4 in
    let labels = same.labels in
    λ i. record { node = nodes i; family = V4; names = names i; labels = labels i; one_address = false }
asked-same probe request same V6 =
    let nodes = same.node in
    let names = same.pools6 in
    let labels = same.labels in
    λ i. record { node = nodes i; family = V6; names = names i; labels = labels i; one_address = false }

-- the choice is something where a slot is picked, and else the probe says what is lacking
picked-ready : (asked : Asked) (pick : Pick) → IsPicked pick → plain_probe_next CanGive asked (choice_in pick) ≡ CanGive
picked-ready asked (Picks ranked) t = by ranked.rank
  where
    by : (rank : Rank) → plain_probe_next CanGive asked (chosen (record { slot = ranked.slot; rank = rank })) ≡ CanGive
    by (Own found ordinal) = refl
    by (Unconfirmed found) = refl
    by (Unclaimed read) = refl
    by (Foreign found ordinal) = refl
picked-ready asked Lacks t = absurd t
picked-ready asked (Unknown place) t = absurd t

ready-picked : (asked : Asked) (pick : Pick) → plain_probe_next CanGive asked (choice_in pick) ≡ CanGive → IsPicked pick
ready-picked asked (Picks ranked) e = tt
ready-picked asked Lacks e = absurd (cc e)
ready-picked asked (Unknown place) e = absurd (cc e)

pub probe_tells : ProbeTellsLaw
unfolding word_of
probe_tells base probe request family consistent sound same one =
    let store = base.store in
    let lawful = word-lawful (Add request) sound (λ k revision found. HasAt store k revision found) in
    let some : Type 0 = IsPicked (pick_of (asked_of request family) (seen_in store.rows)) in
    let tells = runs-alone [] (λ then told. Tells some told) (word_of (Add request)) store (base.first + 1) consistent.sound consistent.covered lawful.0 lawful.1 (add-tells request family one store (base.first + 1)) in
    let asked = asked_of_probe probe family in
    let families : families_if probe.ipv4 probe.ipv6 ≡ family ∷ [] = (λ i. families_if (sym same.ipv4 i) (sym same.ipv6 i)) ∙ one in
    let said : plain_of (alone_over base (Probe probe)).0 ≡ Some (plain_probe_next CanGive asked (choice_of asked (seen_in store.rows))) = (probe_alone base probe).0 ∙ ap (λ l. Some (plain_probe probe l store.rows)) families in
    let asks = asked-same probe request same family in
    let ready : some → IsReady base probe = λ has.
    said ∙ ap Some (picked-ready asked (pick_of asked (seen_in store.rows)) (subst (λ (a : Asked). IsPicked (pick_of a (seen_in store.rows))) asks has)) in
    let picked : IsReady base probe → some = λ r.
    let both : Some (plain_probe_next CanGive asked (choice_of asked (seen_in store.rows))) ≡ Some CanGive = sym said ∙ r in
    subst (λ (a : Asked). IsPicked (pick_of a (seen_in store.rows))) (sym asks) (ready-picked asked (pick_of asked (seen_in store.rows)) (cc both)) in
    (λ r. tells.given (picked r), λ not. tells.none (λ has. not (ready has)))
