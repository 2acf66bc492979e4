-- Which daemon is asked, and what.
use Rattle.std.specs.Prelude.{ℕ, List, [], ◌∷◌, Bool, true, false, codes, bytes_eq, Option, Some, None, option_map, if◌then◌else◌}
use Rattle.ipam_words.specs.declared.daemon.DaemonAsk.{DaemonAsk}
use Rattle.ipam_words.specs.Words.{AskedCommand, Cni, Play, Apply, Get, Show, Routes, Release, Gen, Audit, Serve, Call, Help, Version, asked_by, command_named, is_option}

-- the address of a daemon, and what it is asked
abbrev pub ask_of : DaemonAsk → List ℕ × Option AskedCommand
ask_of ask = (ask.address.now, option_map asked_by ask.command)

-- what a daemon can be asked
abbrev pub is_of_daemon : AskedCommand → Bool
is_of_daemon Cni = false
is_of_daemon Play = false
is_of_daemon Apply = true
is_of_daemon (Get kind) = true
is_of_daemon (Show view) = true
is_of_daemon (Routes node) = true
is_of_daemon (Release node cidr) = true
is_of_daemon (Gen count) = false
is_of_daemon (Audit workers) = false
is_of_daemon (Serve address workers) = false
is_of_daemon (Call address) = false
is_of_daemon Help = false
is_of_daemon Version = false

abbrev pub only_of_daemon : Option AskedCommand → Option AskedCommand
only_of_daemon None = None
only_of_daemon (Some asked) = if is_of_daemon asked then Some asked else None

-- what the words ask of a daemon
abbrev pub asked_of_daemon : List (List ℕ) → Option AskedCommand
asked_of_daemon words = only_of_daemon (command_named words)

abbrev pub address_and : (address : List ℕ) (rest : List (List ℕ)) → Option (List ℕ × List (List ℕ))
address_and address rest = if is_option address then None else Some (address, rest)

-- the address and the words after it, where the words begin with `--daemon`
abbrev pub address_before : List (List ℕ) → Option (List ℕ × List (List ℕ))
address_before [] = None
address_before (first ∷ []) = None
address_before (first ∷ address ∷ rest) = if bytes_eq first (codes "--daemon") then address_and address rest else None

-- The daemon that is named is asked what can be asked of one, and nothing else.
abbrev pub by_name : (named : Option (List ℕ)) → Option AskedCommand → Option (List ℕ × Option AskedCommand)
by_name None asked = None
by_name (Some address) None = None
by_name (Some address) (Some asked) = Some (address, Some asked)

abbrev pub by_address : Option (List ℕ × List (List ℕ)) → (words : List (List ℕ)) → (named : Option (List ℕ)) → Option (List ℕ × Option AskedCommand)
by_address None words named = by_name named (asked_of_daemon words)
by_address (Some found) words named = Some (found.0, asked_of_daemon found.1)

-- The address of the daemon that is asked, and what it is asked: where the words begin with
-- `--daemon ADDRESS`, the words after it, if they can be asked of a daemon; and else the words, of the
-- daemon that is named, if one is and they can be.
abbrev pub daemon_asked : (words : List (List ℕ)) → (named : Option (List ℕ)) → Option (List ℕ × Option AskedCommand)
daemon_asked words named = by_address (address_before words) words named
