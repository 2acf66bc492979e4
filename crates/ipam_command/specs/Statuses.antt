-- The statuses that the program ends with where it played or generated.
use Rattle.std.specs.Prelude.{ℕ}
use Rattle.ipam_command.specs.declared.gen_end.GenEnd.{GenEnd}
use Rattle.ipam_command.specs.declared.gen_end.GenEnd.TheVariants as gen
use Rattle.ipam_play.specs.declared.end.PlayEnd.{PlayEnd}
use Rattle.ipam_play.specs.declared.end.PlayEnd.TheVariants as play

abbrev pub code_of_play : PlayEnd → ℕ
code_of_play play.Done = 0
code_of_play play.ReadFault = 3
code_of_play play.WriteFault = 4
code_of_play play.NoMemory = 6
code_of_play play.NotOpened = 7
code_of_play play.LineRefused = 8

abbrev pub code_of_gen : GenEnd → ℕ
code_of_gen gen.Done = 0
code_of_gen gen.WriteFault = 4
code_of_gen gen.NoMemory = 6
