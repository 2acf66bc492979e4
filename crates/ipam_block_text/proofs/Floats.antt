-- Pairs have no float, so that their compact text is written.
use Rattle.std.proofs.Common.{◌≡◌, false, List, refl}
use Rattle.serde_json.specs.Data.{string, no_members}
use Rattle.serde_json.specs.Written.{has_float}
use Rattle.ipam_json.proofs.Floatless.{fold_without}
use Rattle.ipam_block_text.specs.Attributes.{Pair}
use Rattle.ipam_block_text.specs.Body.{secondary_data}

pub has_float-secondary_data : (ps : List Pair) → has_float (secondary_data ps) ≡ false
has_float-secondary_data ps = fold_without (λ p. p.0) (λ p. string p.1) (λ p. refl) no_members ps refl
