-- What is told where nobody was reached.
use Rattle.std.proofs.Common.{◌≡◌, ℕ, ◌≤◌, List, length, inl, Option, Result, Ok, Err, refl}
use Rattle.std.specs.Prelude.{IfOk}
use Rattle.std.specs.Io.KnownBytes.{prepend_known, IsAtEnd}
use Rattle.cni_types.specs.declared.version.Version.{Version}
use Rattle.ipam_call.proofs.Wholes.{told_whole}
use Rattle.ipam_call.specs.Versions.{version_for}
use Rattle.ipam_call.specs.Unreached.{IsUnreached, unreached_end}

pub read_unreached : {E : Type 0} → (left left' : Option (List ℕ)) (f f' : ℕ) (input : List ℕ) (found : Result Version E) → left ≡ prepend_known input left' → (length input ≤ 1048576 → IsAtEnd left') → f' ≡ f
    → IfOk found (λ version. version ≡ version_for input) → IsUnreached left f f' (unreached_end found)
read_unreached left left' f f' input (Ok version) same whole faults is =
    inl (faults, told_whole (λ (v : Version). version ≡ v) left left' input same whole is)
read_unreached left left' f f' input (Err e) same whole faults is = (faults, refl)
