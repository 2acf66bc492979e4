-- The statuses by which a program reports how a command ended.
use Rattle.std.specs.Prelude.{ℕ}
use Rattle.ipam_commands.specs.declared.status.Status.{Status}
use Rattle.ipam_commands.specs.declared.status.Status.TheVariants as status

abbrev pub code_of_status : Status → ℕ
code_of_status status.Done = 0
code_of_status status.Refused = 1
code_of_status status.UnknownWords = 2
code_of_status status.ReadFault = 3
code_of_status status.WriteFault = 4
code_of_status status.KeeperFault = 5
code_of_status status.NoMemory = 6
code_of_status status.BrokenRows = 7
code_of_status status.LineRefused = 8
