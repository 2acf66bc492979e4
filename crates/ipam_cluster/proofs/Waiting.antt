-- Nothing but a collection has times, and the first list of one that waits is not too early.
use Rattle.std.proofs.Common.{◌≡◌, ◌<◌, ◌+◌, ℕ, arith, Bool, true, false, Option, Some, refl, sym, ap, ◌∙◌}
use Rattle.std.specs.Prelude.{if◌then◌else◌}
use Rattle.ipam_model.specs.declared.entry.SlotState.TheVariants as state
use Rattle.ipam_model.specs.declared.request.CollectRequest.{CollectRequest}
use Rattle.ipam_model.specs.declared.request.Request.{Request}
use Rattle.ipam_model.specs.declared.request.Request.TheVariants.{Add, AddThis, Del, Check, Release, Collect, Admin, Probe}
use Rattle.ipam_collect.specs.declared.collect.Grace.{Grace}
use Rattle.ipam_cluster.specs.declared.running.Running.{Running}
use Rattle.ipam_cluster.specs.Running.{grace_of}
use Rattle.ipam_cluster.specs.Cluster.{WaitsWith}

-- ---- the states of a slot in which something runs

pub is-waiting : (b : Bool) → (if b then state.Waiting else state.Running) ≡ state.Waiting → b ≡ true
is-waiting true e = refl
is-waiting false e = absurd (cc e)

pub not-idle : (b : Bool) → (if b then state.Waiting else state.Running) ≡ state.Idle → ⊥
not-idle true e = cc e
not-idle false e = cc e

-- ---- times

-- only a collection has times
pub asks-times : (request : Request) (grace : Grace) → grace_of request ≡ Some grace → (c : CollectRequest) × (request ≡ Collect c)
asks-times (Collect c) grace e = (c, refl)
asks-times (Add add) grace e = absurd (cc e)
asks-times (AddThis add address) grace e = absurd (cc e)
asks-times (Del id) grace e = absurd (cc e)
asks-times (Check id addresses) grace e = absurd (cc e)
asks-times (Release node cidr) grace e = absurd (cc e)
asks-times (Admin change) grace e = absurd (cc e)
asks-times (Probe probe) grace e = absurd (cc e)

injected : (one other : Grace) → Some one ≡ Some other → one ≡ other
injected one other e = cc e

-- what waits without a grace is fed a list at its own time
pub never-early : (held : Option Running) (at since grace : ℕ) → WaitsWith held (record { at = at; grace = 0 }) → WaitsWith held (record { at = since; grace = grace }) × (at < since + grace) → ⊥
never-early held at since grace own early =
    let same : Some (record { at = at; grace = 0 }) ≡ Some (record { at = since; grace = grace }) = sym own.1 ∙ early.0.1 in
    let times = injected _ _ same in
    let first : at ≡ since = ap (λ (g : Grace). g.at) times in
    let second : 0 ≡ grace = ap (λ (g : Grace). g.grace) times in
    let less = early.1 in
    absurd (omega arith)
