-- For which causes lines are refused.
use Rattle.std.proofs.Common.{◌≡◌, ℕ, List, Bool, true, false, Option, Some, None, IsTrue, ◌↔◌, ◌⊎◌, inl, inr, refl, option_map, if◌then◌else◌}
use Rattle.ipam_json.specs.Members.{◌>>=◌}
use Rattle.ipam_model.specs.declared.answer.Answer.{Answer}
use Rattle.ipam_session.specs.declared.call.CallBegun.{CallBegun}
use Rattle.ipam_session.specs.declared.call.CallBegun.TheVariants.{Told, Runs}
use Rattle.ipam_session.specs.declared.refusal.Refusal.{Refusal}
use Rattle.ipam_session.specs.declared.refusal.Refusal.TheVariants.{Waiting, NotWaiting, TooSoon, Line}
use Rattle.ipam_session.specs.declared.replies.Reply.{Reply}
use Rattle.ipam_session.specs.declared.replies.Reply.TheVariants as reply
use Rattle.ipam_session.specs.declared.wish.Wish.{Wish}
use Rattle.ipam_session.specs.declared.wish.Wish.TheVariants as wish
use Rattle.ipam_session.specs.Calls.{call_begun, call_reply_told}
use Rattle.ipam_session.specs.Lines.{Standing, refused, answered, called_reply, call_replied, reply_to_wish, reply_unless_unread, reply_to_line, begins, feeds, stops}
use Rattle.ipam_session.specs.Wishes.{wish_of_line}

-- ---- what is no refusal

answer_no_refusal : (answer : Option Answer) (why : Refusal) → answered answer ≡ refused why → ⊥
answer_no_refusal None why e = cc
answer_no_refusal (Some found) why e = cc

told_no_refusal : (told : Option (ℕ × List ℕ)) (why : Refusal) → option_map called_reply told ≡ refused why → ⊥
told_no_refusal None why e = cc
told_no_refusal (Some told) why e = cc

begun_no_refusal : (begun : CallBegun) (answer : Option Answer) (why : Refusal) → call_replied begun answer ≡ refused why → ⊥
begun_no_refusal (Told status text) answer why e = cc
begun_no_refusal (Runs request version) None why e = cc
begun_no_refusal (Runs request version) (Some found) why e = told_no_refusal (call_reply_told request version found) why e

call_no_refusal : (begun : Option CallBegun) (answer : Option Answer) (why : Refusal) → (begun >>= λ one. call_replied one answer) ≡ refused why → ⊥
call_no_refusal None answer why e = cc
call_no_refusal (Some begun) answer why e = begun_no_refusal begun answer why e

-- ---- what refuses each wish

cni_refused : (waited : Bool) (begun : Option CallBegun) (answer : Option Answer) (why : Refusal) → (if waited then refused Waiting else (begun >>= λ one. call_replied one answer)) ≡ refused why → (waited ≡ true) × (why ≡ Waiting)
cni_refused true begun answer why e = (refl, cc)
cni_refused false begun answer why e = absurd (call_no_refusal begun answer why e)

request_refused : (waited waits : Bool) (answer : Option Answer) (why : Refusal) → (if waited then refused Waiting else (if waits then Some reply.Waiting else answered answer)) ≡ refused why → (waited ≡ true) × (why ≡ Waiting)
request_refused true waits answer why e = (refl, cc)
request_refused false true answer why e = absurd cc
request_refused false false answer why e = absurd (answer_no_refusal answer why e)

feed_refused : (waited soon : Bool) (answer : Option Answer) (why : Refusal) → (if waited then (if soon then refused TooSoon else answered answer) else refused NotWaiting) ≡ refused why → ((waited ≡ true) × (soon ≡ true) × (why ≡ TooSoon)) ⊎ ((waited ≡ false) × (why ≡ NotWaiting))
feed_refused true true answer why e = inl (refl, refl, cc)
feed_refused true false answer why e = absurd (answer_no_refusal answer why e)
feed_refused false soon answer why e = inr (refl, cc)

stop_refused : (waited : Bool) (why : Refusal) → (if waited then Some reply.Stopped else refused NotWaiting) ≡ refused why → (waited ≡ false) × (why ≡ NotWaiting)
stop_refused true why e = absurd cc
stop_refused false why e = (refl, cc)

-- ---- a line that asks nothing

line_cause : (found : Option Wish) (s : Standing) → reply_unless_unread found s ≡ refused Line → found ≡ None
line_cause None s e = refl
line_cause (Some (wish.Cni env stdin)) s e = let h = cni_refused s.waited (call_begun env stdin) s.answer Line e in absurd cc
line_cause (Some (wish.Request request)) s e = let h = request_refused s.waited s.waits s.answer Line e in absurd cc
line_cause (Some (wish.Feed live)) s e =
    elim (feed_refused s.waited s.too_soon s.answer Line e) [ inl h ↦ absurd cc | inr h ↦ absurd cc ]
line_cause (Some wish.Stop) s e = let h = stop_refused s.waited Line e in absurd cc
line_cause (Some wish.Routes) s e = absurd cc
line_cause (Some (wish.RoutesSince revision)) s e = absurd cc
line_cause (Some (wish.Rows kind key)) s e = absurd cc
line_cause (Some wish.Usage) s e = absurd cc
line_cause (Some wish.Opened) s e = absurd cc

pub line_refused : (line : List ℕ) (s : Standing) → (reply_to_line line s ≡ refused Line) ↔ (wish_of_line line ≡ None)
unfolding reply_to_line
line_refused line s = (line_cause (wish_of_line line) s, λ e. rw e refl)

-- ---- a line that would begin a request while a collection waits

waiting_cause : (found : Option Wish) (s : Standing) → reply_unless_unread found s ≡ refused Waiting → IsTrue (begins found) × IsTrue s.waited
waiting_cause None s e = absurd cc
waiting_cause (Some (wish.Cni env stdin)) s e = (refl, (cni_refused s.waited (call_begun env stdin) s.answer Waiting e).0)
waiting_cause (Some (wish.Request request)) s e = (refl, (request_refused s.waited s.waits s.answer Waiting e).0)
waiting_cause (Some (wish.Feed live)) s e =
    elim (feed_refused s.waited s.too_soon s.answer Waiting e) [ inl h ↦ absurd cc | inr h ↦ absurd cc ]
waiting_cause (Some wish.Stop) s e = let h = stop_refused s.waited Waiting e in absurd cc
waiting_cause (Some wish.Routes) s e = absurd cc
waiting_cause (Some (wish.RoutesSince revision)) s e = absurd cc
waiting_cause (Some (wish.Rows kind key)) s e = absurd cc
waiting_cause (Some wish.Usage) s e = absurd cc
waiting_cause (Some wish.Opened) s e = absurd cc

waiting_effect : (found : Option Wish) (s : Standing) → IsTrue (begins found) → IsTrue s.waited → reply_unless_unread found s ≡ refused Waiting
waiting_effect None s h w = absurd cc
waiting_effect (Some (wish.Cni env stdin)) s h w = let is : s.waited ≡ true = w in rw is refl
waiting_effect (Some (wish.Request request)) s h w = let is : s.waited ≡ true = w in rw is refl
waiting_effect (Some (wish.Feed live)) s h w = absurd cc
waiting_effect (Some wish.Stop) s h w = absurd cc
waiting_effect (Some wish.Routes) s h w = absurd cc
waiting_effect (Some (wish.RoutesSince revision)) s h w = absurd cc
waiting_effect (Some (wish.Rows kind key)) s h w = absurd cc
waiting_effect (Some wish.Usage) s h w = absurd cc
waiting_effect (Some wish.Opened) s h w = absurd cc

pub waiting_refused : (line : List ℕ) (s : Standing) → (reply_to_line line s ≡ refused Waiting) ↔ (IsTrue (begins (wish_of_line line)) × IsTrue s.waited)
unfolding reply_to_line
waiting_refused line s = (waiting_cause (wish_of_line line) s, λ h. waiting_effect (wish_of_line line) s h.0 h.1)

-- ---- a list or a stop that no collection waits for

idle_cause : (found : Option Wish) (s : Standing) → reply_unless_unread found s ≡ refused NotWaiting → (IsTrue (feeds found) ⊎ IsTrue (stops found)) × (s.waited ≡ false)
idle_cause None s e = absurd cc
idle_cause (Some (wish.Cni env stdin)) s e = let h = cni_refused s.waited (call_begun env stdin) s.answer NotWaiting e in absurd cc
idle_cause (Some (wish.Request request)) s e = let h = request_refused s.waited s.waits s.answer NotWaiting e in absurd cc
idle_cause (Some (wish.Feed live)) s e =
    elim (feed_refused s.waited s.too_soon s.answer NotWaiting e) [ inl h ↦ absurd cc | inr h ↦ (inl refl, h.0) ]
idle_cause (Some wish.Stop) s e = (inr refl, (stop_refused s.waited NotWaiting e).0)
idle_cause (Some wish.Routes) s e = absurd cc
idle_cause (Some (wish.RoutesSince revision)) s e = absurd cc
idle_cause (Some (wish.Rows kind key)) s e = absurd cc
idle_cause (Some wish.Usage) s e = absurd cc
idle_cause (Some wish.Opened) s e = absurd cc

feeds_idle : (found : Option Wish) (s : Standing) → IsTrue (feeds found) → s.waited ≡ false → reply_unless_unread found s ≡ refused NotWaiting
feeds_idle None s h w = absurd cc
feeds_idle (Some (wish.Cni env stdin)) s h w = absurd cc
feeds_idle (Some (wish.Request request)) s h w = absurd cc
feeds_idle (Some (wish.Feed live)) s h w = rw w refl
feeds_idle (Some wish.Stop) s h w = absurd cc
feeds_idle (Some wish.Routes) s h w = absurd cc
feeds_idle (Some (wish.RoutesSince revision)) s h w = absurd cc
feeds_idle (Some (wish.Rows kind key)) s h w = absurd cc
feeds_idle (Some wish.Usage) s h w = absurd cc
feeds_idle (Some wish.Opened) s h w = absurd cc

stops_idle : (found : Option Wish) (s : Standing) → IsTrue (stops found) → s.waited ≡ false → reply_unless_unread found s ≡ refused NotWaiting
stops_idle None s h w = absurd cc
stops_idle (Some (wish.Cni env stdin)) s h w = absurd cc
stops_idle (Some (wish.Request request)) s h w = absurd cc
stops_idle (Some (wish.Feed live)) s h w = absurd cc
stops_idle (Some wish.Stop) s h w = rw w refl
stops_idle (Some wish.Routes) s h w = absurd cc
stops_idle (Some (wish.RoutesSince revision)) s h w = absurd cc
stops_idle (Some (wish.Rows kind key)) s h w = absurd cc
stops_idle (Some wish.Usage) s h w = absurd cc
stops_idle (Some wish.Opened) s h w = absurd cc

idle_effect : (found : Option Wish) (s : Standing) → IsTrue (feeds found) ⊎ IsTrue (stops found) → s.waited ≡ false → reply_unless_unread found s ≡ refused NotWaiting
idle_effect found s (inl h) w = feeds_idle found s h w
idle_effect found s (inr h) w = stops_idle found s h w

pub idle_refused : (line : List ℕ) (s : Standing) → (reply_to_line line s ≡ refused NotWaiting) ↔ ((IsTrue (feeds (wish_of_line line)) ⊎ IsTrue (stops (wish_of_line line))) × (s.waited ≡ false))
unfolding reply_to_line
idle_refused line s = (idle_cause (wish_of_line line) s, λ h. idle_effect (wish_of_line line) s h.0 h.1)

-- ---- a list that comes before the grace is over

soon_cause : (found : Option Wish) (s : Standing) → reply_unless_unread found s ≡ refused TooSoon → IsTrue (feeds found) × IsTrue s.waited × IsTrue s.too_soon
soon_cause None s e = absurd cc
soon_cause (Some (wish.Cni env stdin)) s e = let h = cni_refused s.waited (call_begun env stdin) s.answer TooSoon e in absurd cc
soon_cause (Some (wish.Request request)) s e = let h = request_refused s.waited s.waits s.answer TooSoon e in absurd cc
soon_cause (Some (wish.Feed live)) s e =
    elim (feed_refused s.waited s.too_soon s.answer TooSoon e) [ inl h ↦ (refl, h.0, h.1) | inr h ↦ absurd cc ]
soon_cause (Some wish.Stop) s e = let h = stop_refused s.waited TooSoon e in absurd cc
soon_cause (Some wish.Routes) s e = absurd cc
soon_cause (Some (wish.RoutesSince revision)) s e = absurd cc
soon_cause (Some (wish.Rows kind key)) s e = absurd cc
soon_cause (Some wish.Usage) s e = absurd cc
soon_cause (Some wish.Opened) s e = absurd cc

soon_effect : (found : Option Wish) (s : Standing) → IsTrue (feeds found) → IsTrue s.waited → IsTrue s.too_soon → reply_unless_unread found s ≡ refused TooSoon
soon_effect None s h w t = absurd cc
soon_effect (Some (wish.Cni env stdin)) s h w t = absurd cc
soon_effect (Some (wish.Request request)) s h w t = absurd cc
soon_effect (Some (wish.Feed live)) s h w t = let is : s.waited ≡ true = w in let soon : s.too_soon ≡ true = t in rw (is, soon) refl
soon_effect (Some wish.Stop) s h w t = absurd cc
soon_effect (Some wish.Routes) s h w t = absurd cc
soon_effect (Some (wish.RoutesSince revision)) s h w t = absurd cc
soon_effect (Some (wish.Rows kind key)) s h w t = absurd cc
soon_effect (Some wish.Usage) s h w t = absurd cc
soon_effect (Some wish.Opened) s h w t = absurd cc

pub soon_refused : (line : List ℕ) (s : Standing) → (reply_to_line line s ≡ refused TooSoon) ↔ (IsTrue (feeds (wish_of_line line)) × IsTrue s.waited × IsTrue s.too_soon)
unfolding reply_to_line
soon_refused line s = (soon_cause (wish_of_line line) s, λ h. soon_effect (wish_of_line line) s h.0 h.1 h.2)
