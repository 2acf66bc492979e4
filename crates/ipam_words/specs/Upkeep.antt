-- The upkeep that words name, and where.
use Rattle.std.specs.Prelude.{◌≡◌, ℕ, List, [], ◌∷◌, true, codes, bytes_eq, Option, Some, None, option_map, if◌then◌else◌}
use Rattle.ipam_addr.specs.Names.{is_name_text}
use Rattle.ipam_words.specs.Daemon.{address_before}
use Rattle.ipam_words.specs.Words.{AreWorkers, AskedCommand, command_named, is_option}
use Rattle.ipam_words.specs.Words as asked
use Rattle.ipam_words.specs.declared.upkeep.Upkeep.{Upkeep}
use Rattle.ipam_words.specs.declared.upkeep.Upkeep.TheVariants as upkeep
use Rattle.ipam_words.specs.declared.upkeep.UpkeepAsk.{UpkeepAsk}

-- what is asked, as `Upkeep` has it, with the text itself in place of a loan
pub data Upkept : Type 0 where
  Audit : ℕ → Upkept
  Backup : List ℕ → Upkept
  Unreserve : List ℕ → Upkept

abbrev pub of_upkeep : Upkeep → Upkept
of_upkeep (upkeep.Audit workers) = Audit workers
of_upkeep (upkeep.Backup path) = Backup path.now
of_upkeep (upkeep.Unreserve name) = Unreserve name.now

-- the daemon that is asked, if one is, and what
abbrev pub upkeep_of : UpkeepAsk → Option (List ℕ) × Upkept
upkeep_of ask = (option_map (λ t. t.now) ask.daemon, of_upkeep ask.upkeep)

-- there is a worker and no more than there may be, and a name has its form
abbrev pub IsFit : Upkept → Type 0
IsFit (Audit workers) = AreWorkers workers
IsFit (Backup path) = Unit {0}
IsFit (Unreserve name) = is_name_text name ≡ true

-- ---- the words

unfoldable pub unreserve_named : List ℕ → Option Upkept
unreserve_named name = if is_name_text name then Some (Unreserve name) else None

unfoldable pub backup_named : List ℕ → Option Upkept
backup_named path = if is_option path then None else Some (Backup path)

unfoldable pub pair_named : (word first : List ℕ) → Option Upkept
pair_named word first =
    if bytes_eq word (codes "backup") then backup_named first
    else (if bytes_eq word (codes "unreserve") then unreserve_named first
    else None)

abbrev pub named_beside : List (List ℕ) → Option Upkept
named_beside [] = None
named_beside (word ∷ []) = None
named_beside (word ∷ first ∷ []) = pair_named word first
named_beside (word ∷ first ∷ second ∷ more) = None

-- `audit N` is a command; no other is upkeep
abbrev pub by_command : Option AskedCommand → (beside : Option Upkept) → Option Upkept
by_command (Some (asked.Audit workers)) beside = Some (Audit workers)
by_command (Some other) beside = None
by_command None beside = beside

abbrev pub upkeep_named : List (List ℕ) → Option Upkept
upkeep_named words = by_command (command_named words) (named_beside words)

-- ---- where

abbrev pub upkeep_at : (daemon : Option (List ℕ)) → Option Upkept → Option (Option (List ℕ) × Upkept)
upkeep_at daemon None = None
upkeep_at daemon (Some found) = Some (daemon, found)

abbrev pub by_address : Option (List ℕ × List (List ℕ)) → (words : List (List ℕ)) → (named : Option (List ℕ)) → Option (Option (List ℕ) × Upkept)
by_address None words named = upkeep_at named (upkeep_named words)
by_address (Some found) words named = upkeep_at (Some found.0) (upkeep_named found.1)

-- The daemon whose address stands before the words behind `--daemon`, or else the one that is named, or else
-- none; and the upkeep that it is asked, where the words name one.
abbrev pub upkeep_asked : (words : List (List ℕ)) → (named : Option (List ℕ)) → Option (Option (List ℕ) × Upkept)
upkeep_asked words named = by_address (address_before words) words named

-- ---- help

-- the word before `--help`
abbrev pub help_asked : List (List ℕ) → Option (List ℕ)
help_asked [] = None
help_asked (word ∷ []) = None
help_asked (word ∷ help ∷ []) = if bytes_eq help (codes "--help") then Some word else None
help_asked (word ∷ help ∷ other ∷ more) = None
