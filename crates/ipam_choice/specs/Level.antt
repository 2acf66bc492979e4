-- The numbers of ranks.
use Rattle.std.specs.Prelude.{ℕ}
use Rattle.ipam_choice.specs.declared.level.Level.{Level}
use Rattle.ipam_choice.specs.declared.level.Level.TheVariants.{Own, Unconfirmed, Unclaimed, Foreign}

abbrev pub level_number : Level → ℕ
level_number Own = 0
level_number Unconfirmed = 1
level_number Unclaimed = 2
level_number Foreign = 3
