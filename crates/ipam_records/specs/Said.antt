-- A reply as plain data.
use Rattle.std.specs.Prelude.{ℕ, List}
use Rattle.ipam_records.specs.declared.record.Record.{Record}
use Rattle.ipam_records.specs.declared.call.Reply.{Reply}
use Rattle.ipam_records.specs.declared.call.Reply.TheVariants as reply
use Rattle.ipam_records.specs.Listing.{rows_of}

-- a reply to a call, as `Reply` has it, with the records themselves in place of loans
pub data Said : Type 0 where
  Found : ℕ → Record → Said
  Missing : Said
  Listed : List (ℕ × Record) → Said
  Can : ℕ → Said
  Exists : ℕ → Said
  Conflict : ℕ → Said
  Full : Said
  Spent : Said

abbrev pub said : Reply → Said
said (reply.Found revision lent) = Found revision lent.now
said reply.Missing = Missing
said (reply.Listed listing) = Listed (rows_of listing)
said (reply.Can revision) = Can revision
said (reply.Exists revision) = Exists revision
said (reply.Conflict revision) = Conflict revision
said reply.Full = Full
said reply.Spent = Spent
