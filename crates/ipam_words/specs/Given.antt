-- The words that a process was given.
use Rattle.std.specs.Prelude.{◌≡◌, ℕ, List, [], ◌∷◌, Option, Some, None}
use Rattle.ipam_words.specs.Daemon.{daemon_asked}
use Rattle.ipam_words.specs.Words.{command_named}
use Rattle.ipam_words.specs.Upkeep.{help_asked, upkeep_asked}

-- the words after the program's name
abbrev pub after_name : List (List ℕ) → List (List ℕ)
after_name [] = []
after_name (name ∷ words) = words

-- whichever daemon is named, the words name no command, no upkeep and no word of the help, and ask no daemon
pub record NameNothing (words : List (List ℕ)) : Type 0 where
  pub command : command_named words ≡ None
  pub daemon : (named : Option (List ℕ)) → daemon_asked words named ≡ None
  pub upkeep : (named : Option (List ℕ)) → upkeep_asked words named ≡ None
  pub help : help_asked words ≡ None

-- the words after the program's name; or, where a word is no text, words that name nothing
abbrev pub IsGiven : (args : Option (List (List ℕ))) (words : List (List ℕ)) → Type 0
IsGiven (Some args) words = words ≡ after_name args
IsGiven None words = NameNothing words
