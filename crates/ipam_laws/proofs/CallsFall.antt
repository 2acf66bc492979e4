-- The number of calls that are left falls at each call.
use Rattle.std.proofs.Common.{◌≡◌, ℕ, ◌+◌, ◌*◌, ◌-◌, ◌<◌, ◌≤◌, ◌⊎◌, inl, inr, Bool, true, false, cond, List, [], ◌∷◌, length, Some, IsTrue, refl, ap, ◌∙◌, arith}
use Rattle.std.specs.List.{filter}
use Rattle.ipam_records.specs.declared.call.Call.{Call}
use Rattle.ipam_records.specs.Bound.{AtMost}
use Rattle.ipam_records.specs.Said.{Said}
use Rattle.ipam_records.specs.Word.{Word, Ends, Asks, Waits, next_call, waits, after_reply, after_feed}
use Rattle.ipam_model.specs.declared.answer.Answer.{Answer}
use Rattle.ipam_model.specs.declared.request.CollectRequest.{CollectRequest}
use Rattle.ipam_model.specs.declared.request.Request.{Request}
use Rattle.ipam_model.specs.declared.request.Request.TheVariants.{Add, AddThis, Del, Check, Release, Collect, Admin, Probe}
use Rattle.ipam_model.specs.CallsLeft.{Falls, IsUnread, CallsLeft, CallsLeftLaw, calls_at_first}
use Rattle.ipam_model.specs.Reads.{handle_said, rows_said}
use Rattle.ipam_model.specs.Remove.{Leak, suspects, leaks}
use Rattle.ipam_model.specs.Requests.{word_of}
use Rattle.ipam_laws.proofs.RequestBounds.{bounds, collect_bounds}

-- a bound of all calls falls, whatever the word is fed
bound-falls : {A : Type 0} → (w : Word A) (count : ℕ) → AtMost w count → Falls w count
bound-falls (Ends answer) count h = tt
bound-falls (Asks label next_call next) count h = (h.0, λ moment said. bound-falls (next moment said) (count - 1) (h.1 moment said))
bound-falls (Waits next) count h = λ live. (count, bound-falls (next live) count (h live))

AtMost-more : {A : Type 0} → (w : Word A) (count more : ℕ) → count ≤ more → AtMost w count → AtMost w more
AtMost-more (Ends answer) count more less h = tt
AtMost-more (Asks label next_call next) count more less h = (omega (arith, h.0), λ moment said. AtMost-more (next moment said) (count - 1) (more - 1) (omega arith) (h.1 moment said))
AtMost-more (Waits next) count more less h = λ live. AtMost-more (next live) count more less (h live)

falls-some : {A : Type 0} → (w : Word A) (count : ℕ) → Falls w count → (c : Call) → next_call w ≡ Some c → 0 < count
falls-some (Ends answer) count h c e = absurd (cc e)
falls-some (Asks label next_call next) count h c e = h.0
falls-some (Waits next) count h c e = absurd (cc e)

falls-left : (request : Request) (w : Word Answer) (count : ℕ) → Falls w count → CallsLeft request w count
falls-left request w count h = record { some_left = falls-some w count h; is_bound = inr h }

heard-falls : {A : Type 0} → (w : Word A) (count moment : ℕ) (said : Said) (c : Call) → next_call w ≡ Some c → Falls w count → Falls (after_reply w moment said) (count - 1)
heard-falls (Ends answer) count moment said c e h = absurd (cc e)
heard-falls (Asks label next_call next) count moment said c e h = h.1 moment said
heard-falls (Waits next) count moment said c e h = absurd (cc e)

fed-falls : {A : Type 0} → (w : Word A) (count : ℕ) (live : List (List ℕ)) → IsTrue (waits w) → Falls w count → (more : ℕ) × Falls (after_feed w live) more
fed-falls (Ends answer) count live e h = absurd (cc e)
fed-falls (Asks label next_call next) count live e h = absurd (cc e)
fed-falls (Waits next) count live e h = h live

fewer : {A : Type 0} → (picks : A → Bool) (list : List A) → length (filter picks list) ≤ length list
fewer picks [] = omega arith
fewer picks (x ∷ list) = by (picks x) (fewer picks list)
  where
    by : (b : Bool) → length (filter picks list) ≤ length list → length (cond b (x ∷ filter picks list) (filter picks list)) ≤ length (x ∷ list)
    by true h = omega arith
    by false h = omega arith

-- what leaks was suspected
leaks-few : (kept : List Leak) (live : List (List ℕ)) (second : Said) → length (leaks kept live (rows_said second)) ≤ length kept
leaks-few kept live second = fewer _ kept

collect-falls : (request : CollectRequest) (moment : ℕ) (first : Said) (live : List (List ℕ)) → Falls (after_feed (after_reply (word_of (Collect request)) moment first) live) (199 + 4 * length (suspects request (rows_said first)))
unfolding word_of
collect-falls request moment first live = (
  omega arith,
  λ b2 second.
      let few = leaks-few (suspects request (rows_said first)) live second in
      bound-falls _ (199 + 4 * length (suspects request (rows_said first)) - 1)
      (AtMost-more _ (198 + 4 * length (leaks (suspects request (rows_said first)) live (rows_said second))) (199 + 4 * length (suspects request (rows_said first)) - 1) (omega arith) (collect_bounds request moment b2 first second live)),
)

begun : (request : Request) → CallsLeft request (word_of request) (calls_at_first request)
unfolding word_of
begun (Add request) = falls-left (Add request) _ 2000 (bound-falls _ 2000 (bounds.add request))
begun (AddThis request address) = falls-left (AddThis request address) _ 2000 (bound-falls _ 2000 (bounds.add_this request address))
begun (Del id) = record { some_left = λ c e. omega arith; is_bound = inl (record { id = id; is_del = refl; is_whole = refl }) }
begun (Check id addresses) = falls-left (Check id addresses) _ (1 + length addresses) (bound-falls (word_of (Check id addresses)) (1 + length addresses) (bounds.check id addresses))
begun (Release node cidr) = falls-left (Release node cidr) _ 400 (bound-falls _ 400 (bounds.release node cidr))
begun (Collect request) = falls-left (Collect request) _ 1 (omega arith, λ moment first live. (199 + 4 * length (suspects request (rows_said first)), collect-falls request moment first live))
begun (Admin request) = falls-left (Admin request) _ 200 (bound-falls _ 200 (bounds.admin request))
begun (Probe request) = falls-left (Probe request) _ 10 (bound-falls _ 10 (bounds.probe request))

called : (request : Request) (w : Word Answer) (count : ℕ) → CallsLeft request w count → (moment : ℕ) (said : Said) (c : Call) → next_call w ≡ Some c → (0 < count) × (IsUnread request w ⊎ CallsLeft request (after_reply w moment said) (count - 1))
called request w count h moment said c e = (h.some_left c e, by h.is_bound)
  where
    by : IsUnread request w ⊎ Falls w count → IsUnread request w ⊎ CallsLeft request (after_reply w moment said) (count - 1)
    by (inl unread) = inl unread
    by (inr falls) = inr (falls-left request (after_reply w moment said) (count - 1) (heard-falls w count moment said c e falls))

-- a DEL that has not read its handle does not wait
unread-asks : (request : Request) (w : Word Answer) → IsUnread request w → waits w ≡ false
unfolding word_of
unread-asks request w unread = ap waits unread.is_whole ∙ ap (λ (r : Request). waits (word_of r)) unread.is_del

fed-left : (request : Request) (w : Word Answer) (count : ℕ) → CallsLeft request w count → IsTrue (waits w) → (live : List (List ℕ)) → (more : ℕ) × CallsLeft request (after_feed w live) more
fed-left request w count h waiting live = by h.is_bound
  where
    by : IsUnread request w ⊎ Falls w count → (more : ℕ) × CallsLeft request (after_feed w live) more
    by (inl unread) = let no = unread-asks request w unread in absurd (cc (no, waiting))
    by (inr falls) = let (more, rest) = fed-falls w count live waiting falls in (more, falls-left request (after_feed w live) more rest)

pub calls_fall : CallsLeftLaw
calls_fall = record {
  is_begun = begun;
  is_called = called;
  is_read = λ id moment said. falls-left (Del id) _ (199 + 4 * length (handle_said id said).counts) (bound-falls _ (199 + 4 * length (handle_said id said).counts) (bounds.del id moment said));
  is_fed = fed-left;
  is_fed_first = λ request moment first live. falls-left (Collect request) _ (199 + 4 * length (suspects request (rows_said first))) (collect-falls request moment first live);
}
