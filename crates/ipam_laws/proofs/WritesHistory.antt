-- In every lawful history each request writes what it may.
use Rattle.std.proofs.Common.{◌≡◌, ◌≢◌, ◌⊎◌, inl, inr, ℕ, List, ◌∷◌, Option, Some, refl, sym, ap, ◌∙◌, subst}
use Rattle.std.specs.Prelude.{option_map}
use Rattle.ipam_addr.specs.Shape.{CidrValue}
use Rattle.ipam_block.specs.declared.state.State.{State}
use Rattle.ipam_block.specs.declared.state.State.TheVariants.{Confirmed, Pending, PendingDeletion}
use Rattle.ipam_records.specs.declared.call.Call.{Call}
use Rattle.ipam_records.specs.declared.key.Key.{Key}
use Rattle.ipam_records.specs.Datastore.{Datastore, reply_of, row_of}
use Rattle.ipam_records.specs.Sound.{IsDatastore}
use Rattle.ipam_records.specs.Said.{Said}
use Rattle.ipam_records.specs.Word.{Asks, Word, answer_in}
use Rattle.ipam_model.specs.declared.answer.Answer.{Answer}
use Rattle.ipam_model.specs.declared.entry.Called.{Called}
use Rattle.ipam_model.specs.declared.entry.Entry.{Entry}
use Rattle.ipam_model.specs.declared.entry.Entry.TheVariants as entry
use Rattle.ipam_model.specs.declared.entry.Fate.{Fate}
use Rattle.ipam_model.specs.declared.entry.Fate.TheVariants.{Well, Before, After}
use Rattle.ipam_model.specs.declared.request.Request.{Request}
use Rattle.ipam_model.specs.Cluster.{RunningRequest, after, call_made}
use Rattle.ipam_model.specs.Credits.{call_key_written}
use Rattle.ipam_model.specs.History.{Base, Lawful, cluster_at, moment_of, now, store_at}
use Rattle.ipam_model.specs.Moments.{request_in}
use Rattle.ipam_model.specs.Named.{name_of}
use Rattle.ipam_laws.specs.Writes.{Gets, IsAddOf, IsOwnWrite, Keeps, Loses, MaySet, NodeMove, WritesLaw}
use Rattle.ipam_laws.proofs.Acting.{Act, ByLook, ByRound, GoesBy}
use Rattle.ipam_laws.proofs.ActParts.{Any}
use Rattle.ipam_laws.proofs.Acts.{Acts}
use Rattle.ipam_laws.proofs.OwnersHistory.{all-act, failed-before, next-is}
use Rattle.ipam_laws.proofs.Trails.{IsMade, IsTrail, SlotComes, Trail, made, slot-comes, span_at, trail-agrees}
use Rattle.ipam_laws.proofs.Writing.{AffinityWrite, BlockWrite, ByClaim, ByRelease, GetsNode, IsClaiming, KeepsNode, LosesNode, OwnWrite, Stays, Writes, own-write, row-moves}

-- ---- one call

-- each row stays, or the request that runs wrote it as it may
pub record EntryWrites (base : Base) (history : List Entry) (c : Called) : Type 0 where
  pub request : Request
  pub requested : request_in (cluster_at base history) c.slot ≡ Some request
  pub trail : Trail
  pub is_trail : IsTrail (span_at base history c.slot) (moment_of base history) trail
  pub rows : (k : Key) → (row_of k (store_at base (entry.Called c ∷ history)).rows ≡ row_of k (store_at base history).rows)
      ⊎ ((call_key_written c.call ≡ Some k) × OwnWrite request trail (store_at base history) (store_at base (entry.Called c ∷ history)) k)

called-name : (fate : Fate) (c : Called) (asked : Call) (reply : Said) (answer : Option Answer) → call_made c.slot fate asked reply answer ≡ c → c.call ≡ name_of asked
called-name Well c asked reply answer e = sym (ap (λ (x : Called). x.call) e)
called-name Before c asked reply answer e = sym (ap (λ (x : Called). x.call) e)
called-name After c asked reply answer e = sym (ap (λ (x : Called). x.call) e)

pub entry-writes : (base : Base) (history : List Entry) (c : Called) → IsDatastore base.store → Lawful base (entry.Called c ∷ history) → EntryWrites base history c
unfolding Lawful
entry-writes base history c sound h =
    let may = h.1 in
    let span = span_at base history c.slot in
    let store = store_at base history in
    let later = store_at base (entry.Called c ∷ history) in
    let run = subst (λ (o : Option RunningRequest). SlotComes (λ request trail word. Acts (Act request) Any trail word) all-act base history c.slot o) may.runs (slot-comes (λ request trail word. Acts (Act request) Any trail word) all-act base history sound h.0 c.slot) in
    let is = made c store (cluster_at base history).entries may.running.word may.is_called in
    let acts : Acts (Act may.running.request) Any run.trail (Asks is.label is.asked is.next) = subst (λ w. Acts (Act may.running.request) Any run.trail w) is.is_word run.comes in
    let act = (acts (cluster_at base history).entries store (trail-agrees span sound h.0 run.trail (now span) run.is_trail)).0 in
    let named = called-name c.fate c is.asked (reply_of store is.asked) (answer_in (is.next (cluster_at base history).entries (reply_of store is.asked))) is.is_call in
    record {
      request = may.running.request;
      requested = ap (λ (o : Option RunningRequest). option_map (λ (r : RunningRequest). r.request) o) may.runs;
      trail = run.trail;
      is_trail = run.is_trail;
      rows = λ k. by k c.fate refl is act named;
    }
  where
    done : (k : Key) → c.fate ≢ Before → (word : Word Answer) → (is : IsMade c (store_at base history) (cluster_at base history).entries word) → (request : Request) (trail : Trail) → Act request trail (store_at base history) is.label is.asked → c.call ≡ name_of is.asked
        → (row_of k (store_at base (entry.Called c ∷ history)).rows ≡ row_of k (store_at base history).rows)
        ⊎ ((call_key_written c.call ≡ Some k) × OwnWrite request trail (store_at base history) (store_at base (entry.Called c ∷ history)) k)
    done k well word is request trail act named =
        let store = store_at base history in
        let later = next-is base history c is.asked (answer_in (is.next (cluster_at base history).entries (reply_of store is.asked))) is.is_call well in
        elim (row-moves store is.asked k) [
          | Stays same ↦ inl (ap (λ (s : Datastore). row_of k s.rows) later ∙ same)
          | Writes revision e wrote ↦ inr (
            ap call_key_written named ∙ wrote,
            subst (λ (s : Datastore). OwnWrite request trail store s k) (sym later) (own-write request trail store is.label is.asked revision e k wrote act),
          )
        ]

    by : (k : Key) (fate : Fate) → c.fate ≡ fate → {word : Word Answer} → (is : IsMade c (store_at base history) (cluster_at base history).entries word) → {request : Request} {trail : Trail} → Act request trail (store_at base history) is.label is.asked → c.call ≡ name_of is.asked
        → (row_of k (store_at base (entry.Called c ∷ history)).rows ≡ row_of k (store_at base history).rows)
        ⊎ ((call_key_written c.call ≡ Some k) × OwnWrite request trail (store_at base history) (store_at base (entry.Called c ∷ history)) k)
    by k Well fate {word} is {request} {trail} act named = done k (λ e. cc (e, fate)) word is request trail act named
    by k After fate {word} is {request} {trail} act named = done k (λ e. cc (e, fate)) word is request trail act named
    by k Before fate {word} is {request} {trail} act named =
        let store = store_at base history in
        inl (ap (λ (s : Datastore). row_of k s.rows) (failed-before base history c is.asked (answer_in (is.next (cluster_at base history).entries (reply_of store is.asked))) is.is_call fate))

-- ---- the law

add-of : (request : Request) (trail : Trail) (store : Datastore) (node : List ℕ) (cidr : CidrValue) → IsClaiming request trail store node cidr → IsAddOf request node
add-of request trail store node cidr c = by c.by
  where
    by : GoesBy request c.add cidr c.read c.origin → IsAddOf request node
    by (ByRound scan seen before is reads wanted chosen listed) = (c.add, inl is, c.of_node)
    by (ByLook address is looked) = (c.add, inr (address, is), c.of_node)

may-set : (request : Request) (trail : Trail) (store : Datastore) (node : List ℕ) (cidr : CidrValue) (state : State) → AffinityWrite request trail store node cidr state → MaySet request node cidr state
may-set request trail store node cidr Pending (ByClaim kept c) = add-of request trail store node cidr c
may-set request trail store node cidr Confirmed (ByClaim kept c) = add-of request trail store node cidr c
may-set request trail store node cidr PendingDeletion (ByClaim kept c) = absurd (kept refl)
may-set request trail store node cidr Pending (ByRelease is of) = absurd (cc is)
may-set request trail store node cidr Confirmed (ByRelease is of) = absurd (cc is)
may-set request trail store node cidr PendingDeletion (ByRelease is of) = of

node-moves : (request : Request) (trail : Trail) (store later : Datastore) (cidr : CidrValue) → BlockWrite request trail store later cidr → NodeMove request store later cidr
node-moves request trail store later cidr (KeepsNode same) = Keeps same
node-moves request trail store later cidr (GetsNode node c then was) = Gets node (add-of request trail store node cidr c) then
node-moves request trail store later cidr (LosesNode node of before then) = Loses node of before then

own-is : (request : Request) (trail : Trail) (store later : Datastore) (k : Key) → OwnWrite request trail store later k → IsOwnWrite request store later k
own-is request trail store later k own = record {
  may_write = own.may_write;
  may_delete = own.may_delete;
  affinity = λ node cidr state e has. may-set request trail store node cidr state (own.affinity node cidr state e has);
  node = λ cidr e. node-moves request trail store later cidr (own.block cidr e);
}

pub writes_law : WritesLaw
unfolding cluster_at after
writes_law base history (entry.Began slot request) sound h written = inl refl
writes_law base history (entry.Fed slot at live) sound h written = inl refl
writes_law base history (entry.Stopped slot) sound h written = inl refl
writes_law base history (entry.Called c) sound h written =
    let w = entry-writes base history c sound h in
    elim (w.rows written) [
      | inl same ↦ inl same
      | inr own ↦ inr (w.request, w.requested, own-is w.request w.trail (store_at base history) (store_at base (entry.Called c ∷ history)) written own.1)
    ]
