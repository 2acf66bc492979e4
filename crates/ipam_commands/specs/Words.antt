-- The words `audit N`.
use Rattle.std.specs.Prelude.{ℕ, List, Option, Some, None}
use Rattle.ipam_words.specs.Words.{AskedCommand, Audit, command_named}

-- how many workers are asked for, where an audit is
abbrev pub workers_named : Option AskedCommand → Option ℕ
workers_named (Some (Audit workers)) = Some workers
workers_named _ = None

abbrev pub workers_asked : List (List ℕ) → Option ℕ
workers_asked words = workers_named (command_named words)
