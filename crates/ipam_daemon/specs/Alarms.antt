-- How often the alarm is raised.
use Rattle.std.specs.Prelude.{◌≡◌, ℕ}
use Rattle.ipam_io.specs.Counts.{next_count}
use Rattle.ipam_serve.specs.declared.ends.SessionEnd.{SessionEnd}
use Rattle.ipam_serve.specs.declared.ends.SessionEnd.TheVariants as end

-- once where a session that ended so did since the keeper failed, and else not
abbrev pub IsHeeded : SessionEnd → (raises raises' : ℕ) → Type 0
IsHeeded end.KeeperFault raises raises' = raises' ≡ next_count raises
IsHeeded other raises raises' = raises' ≡ raises
