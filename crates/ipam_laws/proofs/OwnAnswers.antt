-- Each request is answered as its procedure can.
use Rattle.std.proofs.Common.{◌≡◌, ℕ, inl, inr, List, Option, Some, None, refl, sym, ap, ◌∙◌, subst}
use Rattle.std.specs.Prelude.{option_map}
use Rattle.ipam_records.specs.declared.call.Call.{Call}
use Rattle.ipam_records.specs.Datastore.{Datastore, reply_of}
use Rattle.ipam_records.specs.Said.{Said}
use Rattle.ipam_records.specs.Word.{Word, Ends, Asks, Waits, answer_in, after_feed}
use Rattle.ipam_model.specs.declared.answer.Answer.{Answer}
use Rattle.ipam_model.specs.declared.answer.Answer.TheVariants.{Fault}
use Rattle.ipam_model.specs.declared.entry.Called.{Called}
use Rattle.ipam_model.specs.declared.entry.Fate.{Fate}
use Rattle.ipam_model.specs.declared.entry.Fate.TheVariants.{Well, Before, After}
use Rattle.ipam_model.specs.declared.request.Request.{Request}
use Rattle.ipam_model.specs.declared.request.Request.TheVariants.{Add, AddThis, Del, Check, Release, Collect, Admin, Probe}
use Rattle.ipam_model.specs.Add.{add_word}
use Rattle.ipam_model.specs.AddThis.{add_this_word}
use Rattle.ipam_model.specs.Admin.{admin_word}
use Rattle.ipam_model.specs.Affinities.{release as release_word}
use Rattle.ipam_model.specs.CanAnswer.{IsOneAnswer, IsOwnAnswer, CanAnswer, CanAnswerLaw}
use Rattle.ipam_model.specs.Cluster.{RunningRequest, word_after_reply, call_entry, call_made}
use Rattle.ipam_model.specs.History.{Lawful, cluster_at}
use Rattle.ipam_model.specs.Look.{check_word, probe_word}
use Rattle.ipam_model.specs.Remove.{del_word, collect_word}
use Rattle.ipam_model.specs.Requests.{told_as, word_of}
use Rattle.ipam_model.specs.Told.{of_add, of_add_this, of_del, of_check, of_release, of_collect, of_admin, of_probe}
use Rattle.ipam_laws.proofs.KeptRequests.{IsKeptOf, running-kept}

-- it is true of each answer in which the word may end
EndsIn : (Answer → Type 0) → Word Answer → Type 0
EndsIn P (Ends answer) = P answer
EndsIn P (Asks label asked next) = (moment : ℕ) (said : Said) → EndsIn P (next moment said)
EndsIn P (Waits next) = (live : List (List ℕ)) → EndsIn P (next live)

told-ends : {A : Type 0} → (of_one : A → Answer) (w : Word A) → EndsIn (IsOneAnswer of_one) (told_as of_one w)
unfolding EndsIn
told-ends of_one (Ends a) = (a, refl)
told-ends of_one (Asks label asked next) = λ moment said. told-ends of_one (next moment said)
told-ends of_one (Waits next) = λ live. told-ends of_one (next live)

words-end : (request : Request) → EndsIn (IsOwnAnswer request) (word_of request)
unfolding word_of
words-end (Add request) = told-ends of_add (add_word request)
words-end (AddThis request address) = told-ends of_add_this (add_this_word request address)
words-end (Del id) = told-ends of_del (del_word id)
words-end (Check id addresses) = told-ends of_check (check_word id addresses)
words-end (Release node cidr) = told-ends of_release (release_word node cidr)
words-end (Collect request) = told-ends of_collect (collect_word request)
words-end (Admin request) = told-ends of_admin (admin_word request)
words-end (Probe request) = told-ends of_probe (probe_word request)

answered-ends : (P : Answer → Type 0) (store : Datastore) (moment : ℕ) (word : Word Answer) → EndsIn P word → EndsIn P (word_after_reply store moment word)
unfolding EndsIn
answered-ends P store moment (Ends answer) h = h
answered-ends P store moment (Asks label asked next) h = h moment (reply_of store asked)
answered-ends P store moment (Waits next) h = h

fed-ends : (P : Answer → Type 0) (live : List (List ℕ)) (word : Word Answer) → EndsIn P word → EndsIn P (after_feed word live)
unfolding EndsIn
fed-ends P live (Ends answer) h = h
fed-ends P live (Asks label asked next) h = h
fed-ends P live (Waits next) h = h live

OwnEnds : Request → Word Answer → Type 0
OwnEnds request word = EndsIn (IsOwnAnswer request) word

own-kept : IsKeptOf OwnEnds
unfolding OwnEnds
own-kept = record {
  begins = words-end;
  hears = λ request store moment word h. answered-ends (IsOwnAnswer request) store moment word h;
  is_fed = λ request live word h. fed-ends (IsOwnAnswer request) live word h;
}

-- the answer of a word that ends
ended-own : (P : Answer → Type 0) (word : Word Answer) (told : Answer) → EndsIn P word → answer_in word ≡ Some told → P told
unfolding EndsIn
ended-own P (Ends answer) told h e = let is : answer ≡ told = cc e in subst P is h
ended-own P (Asks label asked next) told h e = absurd (cc e)
ended-own P (Waits next) told h e = absurd (cc e)

called-own : (request : Request) (slot : ℕ) (fate : Fate) (asked : Call) (reply : Said) (word : Word Answer) (told : Answer) → OwnEnds request word → (call_made slot fate asked reply (answer_in word)).answer ≡ Some told → CanAnswer request told
unfolding OwnEnds
called-own request slot Well asked reply word told h e = inl (ended-own (IsOwnAnswer request) word told h e)
called-own request slot Before asked reply word told h e = let is : Fault ≡ told = cc e in inr (sym is)
called-own request slot After asked reply word told h e = let is : Fault ≡ told = cc e in inr (sym is)

entry-own : (request : Request) (slot : ℕ) (fate : Fate) (store : Datastore) (moment : ℕ) (word : Word Answer) (c : Called) (told : Answer) → OwnEnds request word → call_entry slot fate store moment word ≡ Some c → c.answer ≡ Some told → CanAnswer request told
unfolding OwnEnds EndsIn
entry-own request slot fate store moment (Ends answer) c told h e f = absurd (cc e)
entry-own request slot fate store moment (Waits next) c told h e f = absurd (cc e)
entry-own request slot fate store moment (Asks label asked next) c told h e f =
    let is : call_made slot fate asked (reply_of store asked) (answer_in (next moment (reply_of store asked))) ≡ c = cc e in
    called-own request slot fate asked (reply_of store asked) (next moment (reply_of store asked)) told (h moment (reply_of store asked)) (ap (λ (x : Called). x.answer) is ∙ f)

-- the request that runs
runs-it : (o : Option RunningRequest) (running : RunningRequest) (request : Request) → o ≡ Some running → option_map (λ (r : RunningRequest). r.request) o ≡ Some request → running.request ≡ request
runs-it None running request is e = absurd (cc is)
runs-it (Some other) running request is e =
    let same : other ≡ running = cc is in
    let its : other.request ≡ request = cc e in
    ap (λ (r : RunningRequest). r.request) (sym same) ∙ its

pub own_answers : CanAnswerLaw
unfolding Lawful
own_answers a told h runs e =
    let may = h.1 in
    let own = running-kept OwnEnds own-kept a.base a.earlier a.call.slot may.running may.runs in
    let request = runs-it ((cluster_at a.base a.earlier).slots a.call.slot) may.running a.request may.runs runs in
    subst (λ (r : Request). CanAnswer r told) request
    (entry-own may.running.request a.call.slot a.call.fate (cluster_at a.base a.earlier).store (cluster_at a.base a.earlier).entries may.running.word a.call told own may.is_called e)
