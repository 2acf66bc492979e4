-- What a word writes at its end, and its status.
use Rattle.std.specs.Prelude.{◌≡◌, ℕ, List, [], codes, Option}
use Rattle.std.specs.Io.KnownBytes.{append_known}
use Rattle.ipam_io.specs.Counts.{Rose}
use Rattle.ipam_io.specs.Streams.{AppendsPrefix}
use Rattle.ipam_operator.specs.declared.asking.AskFault.{AskFault}
use Rattle.ipam_operator.specs.declared.asking.AskFault.TheVariants as fault
use Rattle.ipam_operator.specs.declared.end.TheConstants.{LINK_FAULT, REPLY_FAULT}
use Rattle.ipam_operator.specs.declared.end.End.{End}
use Rattle.ipam_operator.specs.declared.end.End.TheVariants as end

-- What a sink took of a text, what its count of faults came to, and the end: all of it, with the text's
-- own end; or a front part, since the sink failed.
pub data WritesText (old new : Option (List ℕ)) (faults faults' : ℕ) (text : List ℕ) (own : End) : End → Type 0 where
  Whole : new ≡ append_known old text → faults' ≡ faults → WritesText old new faults faults' text own own
  Cut : AppendsPrefix old new text → Rose faults faults' → WritesText old new faults faults' text own end.WriteFault

-- What a sink took of a text, as `WritesText` has it; or nothing was written since there was no memory,
-- which is where `memory` is so.
pub data Says (memory : Type 0) (old new : Option (List ℕ)) (faults faults' : ℕ) (text : List ℕ) (own : End) : End → Type 0 where
  Said : (last : End) → WritesText old new faults faults' text own last → Says memory old new faults faults' text own last
  Untold : memory → new ≡ old → faults' ≡ faults → Says memory old new faults faults' text own end.NoMemory

-- ---- where no reply came

abbrev pub fault_line : AskFault → List ℕ
fault_line fault.Link = codes "link fault\n"
fault_line fault.Reply = codes "reply fault\n"
fault_line fault.Memory = []

abbrev pub fault_end : AskFault → End
fault_end fault.Link = end.LinkFault
fault_end fault.Reply = end.ReplyFault
fault_end fault.Memory = end.NoMemory

-- ---- statuses

abbrev pub code_of : End → ℕ
code_of end.Done = 0
code_of end.Refused = 1
code_of end.ReadFault = 3
code_of end.WriteFault = 4
code_of end.KeeperFault = 5
code_of end.NoMemory = 6
code_of end.LinkFault = LINK_FAULT
code_of end.ReplyFault = REPLY_FAULT
