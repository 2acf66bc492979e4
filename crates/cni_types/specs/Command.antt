-- The commands of CNI, their texts, and the versions that have them.
use Rattle.std.specs.Prelude.{ℕ, List, Bool, true, false, Option, Some, None, codes, bytes_eq, if◌then◌else◌}
use Rattle.cni_types.specs.declared.command.Command.{Command}
use Rattle.cni_types.specs.declared.command.Command.TheVariants.{Add, Del, Check, Version, Gc, Status}
use Rattle.cni_types.specs.declared.version.Version as versions
use Rattle.cni_types.specs.declared.version.Version.TheVariants.{V0_3_0, V0_3_1, V0_4_0, V1_0_0, V1_1_0}

abbrev pub command_text : Command → List ℕ
command_text Add = codes "ADD"
command_text Del = codes "DEL"
command_text Check = codes "CHECK"
command_text Version = codes "VERSION"
command_text Gc = codes "GC"
command_text Status = codes "STATUS"

-- the command of a text
abbrev pub command_of : List ℕ → Option Command
command_of text =
    if bytes_eq text (command_text Add) then Some Add
    else (if bytes_eq text (command_text Del) then Some Del
    else (if bytes_eq text (command_text Check) then Some Check
    else (if bytes_eq text (command_text Version) then Some Version
    else (if bytes_eq text (command_text Gc) then Some Gc
    else (if bytes_eq text (command_text Status) then Some Status else None)))))

-- CHECK came with 0.4.0
abbrev pub has_check : versions.Version → Bool
has_check V0_3_0 = false
has_check V0_3_1 = false
has_check V0_4_0 = true
has_check V1_0_0 = true
has_check V1_1_0 = true

-- GC and STATUS came with 1.1.0
abbrev pub has_gc : versions.Version → Bool
has_gc V0_3_0 = false
has_gc V0_3_1 = false
has_gc V0_4_0 = false
has_gc V1_0_0 = false
has_gc V1_1_0 = true

-- whether the version has the command
abbrev pub is_in : Command → versions.Version → Bool
is_in Add version = true
is_in Del version = true
is_in Check version = has_check version
is_in Version version = true
is_in Gc version = has_gc version
is_in Status version = has_gc version
