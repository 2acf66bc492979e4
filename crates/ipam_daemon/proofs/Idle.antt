-- Whether something runs, as an equation of truth values and as one of what runs.
use Rattle.std.proofs.Common.{◌≡◌, Option, Some, None, IsNone, refl}

pub is_idle : {A : Type 0} (runs : Option A) → runs ≡ None → IsNone runs
is_idle runs is = rw is refl

pub none_runs : {A : Type 0} (runs : Option A) → IsNone runs → runs ≡ None
none_runs None idle = refl
none_runs (Some running) idle = absurd (cc idle)
