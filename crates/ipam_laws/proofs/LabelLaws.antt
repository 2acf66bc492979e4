-- Credits and points by the calls that were made, since the labels say the same.
use Rattle.std.proofs.Common.{◌≡◌, ◌≢◌, ℕ, zero, suc, ◌+◌, ◌≤◌, inl, inr, List, Option, Some, None, refl, ap, ◌∙◌, arith}
use Rattle.std.specs.Prelude.{option_map}
use Rattle.std.specs.List.{range_with_len, sum_by}
use Rattle.std.proofs.lemmas.List.Sums.{sum_by-cons}
use Rattle.ipam_records.specs.Label.{Credit, Point, Nowhere, Claiming, Claimed, Releasing, Released}
use Rattle.ipam_records.specs.Sound.{IsDatastore}
use Rattle.ipam_model.specs.declared.entry.Entry.{Entry}
use Rattle.ipam_model.specs.declared.request.Request.{Request}
use Rattle.ipam_model.specs.declared.request.Request.TheVariants.{Release}
use Rattle.ipam_model.specs.AffinityLaw.{IsAt, IsLabelled, PointsAgree, PointsKeep, PointsLaw}
use Rattle.ipam_model.specs.Cluster.{RunningRequest}
use Rattle.ipam_model.specs.CountLaw.{amount_for, credit_of_slot}
use Rattle.ipam_model.specs.Course.{slot_count}
use Rattle.ipam_model.specs.Credits.{CreditsLaw, RunsWith}
use Rattle.ipam_model.specs.History.{Base, Lawful, cluster_at}
use Rattle.ipam_model.specs.Moments.{request_in}
use Rattle.ipam_laws.proofs.AffinityHistory.{label_points_law}
use Rattle.ipam_laws.proofs.CountHistory.{credit_law}
use Rattle.ipam_laws.proofs.CountSteps.{owed-own}
use Rattle.ipam_laws.proofs.LabelHistory.{labels_law}
use Rattle.ipam_laws.proofs.Trails.{span_at}

-- what runs, where a request runs
is-running : (base : Base) (history : List Entry) (slot : ℕ) (request : Request) → request_in (cluster_at base history) slot ≡ Some request → (running : RunningRequest) × ((cluster_at base history).slots slot ≡ Some running)
is-running base history slot request = by ((cluster_at base history).slots slot) refl
  where
    by : (o : Option RunningRequest) → (cluster_at base history).slots slot ≡ o → option_map (λ (r : RunningRequest). r.request) o ≡ Some request → (running : RunningRequest) × ((cluster_at base history).slots slot ≡ Some running)
    by None is e = absurd (cc e)
    by (Some running) is e = (running, is)

-- ---- credits

-- a sum of no more
sum-least : (f g : ℕ → ℕ) → ((slot : ℕ) → f slot ≤ g slot) → (many from : ℕ) → sum_by f (range_with_len from many) ≤ sum_by g (range_with_len from many)
sum-least f g least zero from = omega arith
sum-least f g least (suc many) from =
    let here = least from in
    let rest = sum-least f g least many (from + 1) in
    let one = sum_by-cons f from (range_with_len (from + 1) many) in
    let other = sum_by-cons g from (range_with_len (from + 1) many) in
    omega arith

-- a credit by calls is that of the label
credit-least : (base : Base) (history : List Entry) → IsDatastore base.store → Lawful base history → (slot : ℕ) (credit : Credit) → RunsWith (span_at base history slot) credit → credit.amount ≤ credit_of_slot credit.handle credit.block ((cluster_at base history).slots slot)
credit-least base history sound h slot credit r =
    let (running, runs) = is-running base history slot r.request r.runs in
    let label = (labels_law base history slot running sound h runs).credit credit in
    let is = label.1 r.has in
    let own : credit_of_slot credit.handle credit.block ((cluster_at base history).slots slot) ≡ credit.amount =
    ap (credit_of_slot credit.handle credit.block) runs ∙ (ap (λ (o : Option Credit). amount_for credit.handle credit.block o) is ∙ owed-own credit) in
    omega arith

pub credits_law : CreditsLaw
credits_law base history sound covered h id cidr ahead each =
    let least = sum-least ahead (λ slot. credit_of_slot id cidr ((cluster_at base history).slots slot)) by slot_count 0 in
    let within = credit_law base history sound covered h id cidr in
    omega arith
  where
    by : (slot : ℕ) → ahead slot ≤ credit_of_slot id cidr ((cluster_at base history).slots slot)
    by slot = elim (each slot) [
      | inl none ↦ omega arith
      | inr runs ↦ credit-least base history sound h slot (record { handle = id; block = cidr; amount = ahead slot }) runs
    ]

-- ---- points

-- what holds of the points that one relation says holds of those that another says, which says no more
agree-less : (base : Base) (history : List Entry) (Stands Other : (slot : ℕ) → Point → Type 0) → ((slot : ℕ) (point : Point) → point ≢ Nowhere → Other slot point → Stands slot point) → PointsAgree Stands base history → PointsAgree Other base history
agree-less base history Stands Other is h = record {
  claiming = λ slot node cidr read kept at. h.claiming slot node cidr read kept (is slot (Claiming node cidr read kept) (λ e. cc e) at);
  claiming_apart = λ slot other node cidr read kept mark at current there.
      h.claiming_apart slot other node cidr read kept mark (is slot (Claiming node cidr read kept) (λ e. cc e) at) current (is other (Released node cidr mark) (λ e. cc e) there);
  claimed = λ slot node cidr kept at. h.claimed slot node cidr kept (is slot (Claimed node cidr kept) (λ e. cc e) at);
  claimed_apart = λ slot other node cidr kept read mark at current there.
      h.claimed_apart slot other node cidr kept read mark (is slot (Claimed node cidr kept) (λ e. cc e) at) current (is other (Releasing node cidr read mark) (λ e. cc e) there);
  releasing = λ slot node cidr read mark at. h.releasing slot node cidr read mark (is slot (Releasing node cidr read mark) (λ e. cc e) at);
  released = λ slot node cidr mark at. h.released slot node cidr mark (is slot (Released node cidr mark) (λ e. cc e) at);
}

keep-less : (base : Base) (history : List Entry) (Stands Other : (slot : ℕ) → Point → Type 0) → ((slot : ℕ) (point : Point) → point ≢ Nowhere → Other slot point → Stands slot point) → PointsKeep Stands base history → PointsKeep Other base history
keep-less base history Stands Other is h = record {
  claims_own = λ slot node cidr read kept at. h.claims_own slot node cidr read kept (is slot (Claiming node cidr (Some read) kept) (λ e. cc e) at);
  claims_kept = λ slot node cidr read kept at. h.claims_kept slot node cidr read kept (is slot (Claiming node cidr read kept) (λ e. cc e) at);
  claimed_kept = λ slot node cidr kept at. h.claimed_kept slot node cidr kept (is slot (Claimed node cidr kept) (λ e. cc e) at);
  releasing_marks = λ slot node cidr read mark at. h.releasing_marks slot node cidr read mark (is slot (Releasing node cidr read mark) (λ e. cc e) at);
  released_marks = λ slot node cidr mark at. h.released_marks slot node cidr mark (is slot (Released node cidr mark) (λ e. cc e) at);
}

-- who stands at a point runs
stands-runs : (base : Base) (history : List Entry) (slot : ℕ) (point : Point) → point ≢ Nowhere → IsAt base history slot point → (request : Request) × (request_in (cluster_at base history) slot ≡ Some request)
stands-runs base history slot Nowhere some at = absurd (some refl)
stands-runs base history slot (Claiming node cidr read kept) some at = (at.request, at.runs)
stands-runs base history slot (Claimed node cidr kept) some at = (at.request, at.runs)
stands-runs base history slot (Releasing node cidr read mark) some at = (Release node cidr, at.runs)
stands-runs base history slot (Released node cidr mark) some at = (at.request, at.runs)

-- a point by calls is that of the label
at-labelled : (base : Base) (history : List Entry) → IsDatastore base.store → Lawful base history → (slot : ℕ) (point : Point) → point ≢ Nowhere → IsAt base history slot point → IsLabelled base history slot point
at-labelled base history sound h slot point some at =
    let (request, requested) = stands-runs base history slot point some at in
    let (running, runs) = is-running base history slot request requested in
    (running, runs, ((labels_law base history slot running sound h runs).point point some).1 at)

pub points_law : PointsLaw
points_law base history sound agrees h =
    let (agree, keep) = label_points_law base history sound agrees h in
    let is = at-labelled base history sound h in
    (agree-less base history (IsLabelled base history) (IsAt base history) is agree, keep-less base history (IsLabelled base history) (IsAt base history) is keep)
