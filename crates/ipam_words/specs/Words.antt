-- The commands that words name.
use Rattle.std.specs.Prelude.{◌≡◌, ℕ, ◌^◌, ◌<◌, ◌≤◌, ◌==◌, nat_le, nat_lt, List, [], ◌∷◌, ◌&&◌, Bool, true, false, codes, bytes_eq, Option, Some, None, option_and_then, option_map, Result, Ok, Err, if◌then◌else◌}
use Rattle.std.specs.Str.Parse.{digits_value}
use Rattle.std.specs.Option.{option_or}
use Rattle.ipam_json.specs.Path.{is_index}
use Rattle.ipam_addr.specs.declared.cidrs.AddrFault.{AddrFault}
use Rattle.ipam_addr.specs.Names.{is_handle_text, is_name_text}
use Rattle.ipam_addr.specs.Shape.{AddrValue, CidrValue}
use Rattle.ipam_addr.specs.Text.{address_of, cidr_reading}
use Rattle.ipam_words.specs.declared.command.Command.{Command}
use Rattle.ipam_words.specs.declared.command.Command.TheVariants as command
use Rattle.ipam_words.specs.declared.kind.RowKind.{RowKind}
use Rattle.ipam_words.specs.declared.reading.TheConstants.{MOST_GENERATED, MOST_WORKERS}
use Rattle.ipam_words.specs.Kinds.{kind_named}
use Rattle.ipam_words.specs.declared.view.Form.{Form}
use Rattle.ipam_words.specs.declared.view.Form.TheVariants as form
use Rattle.ipam_words.specs.Views.{AskedChoice, AskedView, seen_by}
use Rattle.ipam_words.specs.Views as seen

-- what is asked, as `Command` has it, with the name itself in place of a loan
pub data AskedCommand : Type 0 where
  Cni : AskedCommand
  Play : AskedCommand
  Apply : AskedCommand
  Get : Option RowKind → AskedCommand
  Show : AskedView → AskedCommand
  Routes : List ℕ → AskedCommand
  Release : List ℕ → CidrValue → AskedCommand
  Gen : ℕ → AskedCommand
  Audit : ℕ → AskedCommand
  Serve : List ℕ → ℕ → AskedCommand
  Call : List ℕ → AskedCommand
  Help : AskedCommand
  Version : AskedCommand

abbrev pub asked_by : Command → AskedCommand
asked_by command.Cni = Cni
asked_by command.Play = Play
asked_by command.Apply = Apply
asked_by (command.Get kind) = Get kind
asked_by (command.Show view) = Show (seen_by view)
asked_by (command.Routes node) = Routes node.now
asked_by (command.Release node cidr) = Release node.now cidr
asked_by (command.Gen count) = Gen count
asked_by (command.Audit workers) = Audit workers
asked_by (command.Serve address workers) = Serve address.now workers
asked_by (command.Call address) = Call address.now
asked_by command.Help = Help
asked_by command.Version = Version

-- a word that begins with `-`, which names no file and no address
abbrev pub is_option : List ℕ → Bool
is_option [] = false
is_option (first ∷ more) = first == 45

-- ---- one word

unfoldable pub word_named : List ℕ → Option AskedCommand
word_named word =
    if bytes_eq word (codes "cni") then Some Cni
    else (if bytes_eq word (codes "play") then Some Play
    else (if bytes_eq word (codes "apply") then Some Apply
    else (if bytes_eq word (codes "get") then Some (Get None)
    else (if bytes_eq word (codes "show") then Some (Show seen.Pools)
    else (if bytes_eq word (codes "--help") then Some Help
    else (if bytes_eq word (codes "--version") then Some Version
    else None))))))

-- ---- two words

abbrev pub get_of : Option RowKind → Option AskedCommand
get_of None = None
get_of (Some kind) = Some (Get (Some kind))

abbrev pub get_named : List ℕ → Option AskedCommand
get_named word = get_of (kind_named word)

abbrev pub address_seen : Option AddrValue → Option AskedCommand
address_seen (Some address) = Some (Show (seen.Address address))
address_seen None = None

-- the pools as JSON, the numbers for Prometheus, the blocks, the configuration, or the address that the word writes
unfoldable pub view_named : List ℕ → Option AskedCommand
view_named word =
    if bytes_eq word (codes "--json") then Some (Show seen.Json)
    else (if bytes_eq word (codes "--metrics") then Some (Show seen.Metrics)
    else (if bytes_eq word (codes "blocks") then Some (Show seen.Blocks)
    else (if bytes_eq word (codes "config") then Some (Show (seen.Config form.Table))
    else address_seen (address_of word))))

unfoldable pub routes_named : List ℕ → Option AskedCommand
routes_named node = if is_name_text node then Some (Routes node) else None

abbrev pub number_in_32_bits : ℕ → Option ℕ
number_in_32_bits n = if nat_lt n (2 ^ 32) then Some n else None

-- the number that the word writes in decimal, with no `0` before another digit, where 32 bits hold it
abbrev pub small_number_of : List ℕ → Option ℕ
small_number_of word = if is_index word then number_in_32_bits (digits_value 10 word) else None

-- as many requests as may be generated
abbrev pub generated_within : ℕ → Option ℕ
generated_within n = if nat_le n MOST_GENERATED then Some n else None

abbrev pub generated_of : List ℕ → Option ℕ
generated_of word = option_and_then generated_within (small_number_of word)

abbrev pub count_named : List ℕ → Option AskedCommand
count_named word = option_map Gen (generated_of word)

-- as many workers as there may be
abbrev pub workers_within : ℕ → Option ℕ
workers_within n = if nat_le 1 n && nat_le n MOST_WORKERS then Some n else None

abbrev pub workers_of : List ℕ → Option ℕ
workers_of word = option_and_then workers_within (small_number_of word)

abbrev pub audit_named : List ℕ → Option AskedCommand
audit_named word = option_map Audit (workers_of word)

unfoldable pub call_named : List ℕ → Option AskedCommand
call_named address = if is_option address then None else Some (Call address)

unfoldable pub first_named : (word first : List ℕ) → Option AskedCommand
first_named word first =
    if bytes_eq word (codes "get") then get_named first
    else (if bytes_eq word (codes "routes") then routes_named first
    else (if bytes_eq word (codes "gen") then count_named first
    else (if bytes_eq word (codes "audit") then audit_named first
    else (if bytes_eq word (codes "call") then call_named first
    else None))))

-- ---- three words

abbrev pub release_of : List ℕ → Result CidrValue AddrFault → Option AskedCommand
release_of node (Ok cidr) = Some (Release node cidr)
release_of node (Err fault) = None

unfoldable pub release_named : (node block : List ℕ) → Option AskedCommand
release_named node block = if is_name_text node then release_of node (cidr_reading block) else None

unfoldable pub serve_named : (address word : List ℕ) → Option AskedCommand
serve_named address word = if is_option address then None else option_map (Serve address) (workers_of word)

unfoldable pub second_named : (word first second : List ℕ) → Option AskedCommand
second_named word first second =
    if bytes_eq word (codes "release") then release_named first second
    else (if bytes_eq word (codes "serve") then serve_named first second
    else None)

-- ---- words after `show`

-- whether the last word asks for JSON
abbrev pub is_json : (last : List ℕ) → Bool
is_json last = bytes_eq last (codes "--json")

-- which of the addresses in use are shown
unfoldable pub one_chosen : (word : List ℕ) → Option AskedChoice
one_chosen word =
    if bytes_eq word (codes "addresses") then Some seen.All
    else (if bytes_eq word (codes "borrowed") then Some seen.Borrowed
    else None)

abbrev pub within_of : Result CidrValue AddrFault → Option AskedChoice
within_of (Ok cidr) = Some (seen.Within cidr)
within_of (Err fault) = None

unfoldable pub two_chosen : (word block : List ℕ) → Option AskedChoice
two_chosen word block = if bytes_eq word (codes "addresses") then within_of (cidr_reading block) else None

unfoldable pub three_chosen : (word option node : List ℕ) → Option AskedChoice
three_chosen word option node =
    if bytes_eq word (codes "addresses") && bytes_eq option (codes "--node") && is_name_text node
    then Some (seen.OfNode node) else None

-- the addresses that are chosen, in this form
abbrev pub listed : Form → Option AskedChoice → Option AskedCommand
listed form None = None
listed form (Some chosen) = Some (Show (seen.Addresses chosen form))

unfoldable pub two_listed : (word last : List ℕ) → Option AskedCommand
two_listed word last =
    if is_json last then listed form.Json (one_chosen word) else listed form.Table (two_chosen word last)

unfoldable pub three_listed : (word first last : List ℕ) → Option AskedCommand
three_listed word first last =
    if is_json last then listed form.Json (two_chosen word first) else listed form.Table (three_chosen word first last)

unfoldable pub four_listed : (word first second last : List ℕ) → Option AskedCommand
four_listed word first second last = if is_json last then listed form.Json (three_chosen word first second) else None

-- the addresses of a choice, in a table, or as JSON where the last word is `--json`
abbrev pub listing_named : List (List ℕ) → Option AskedCommand
listing_named [] = None
listing_named (word ∷ []) = listed form.Table (one_chosen word)
listing_named (word ∷ last ∷ []) = two_listed word last
listing_named (word ∷ first ∷ last ∷ []) = three_listed word first last
listing_named (word ∷ first ∷ second ∷ last ∷ []) = four_listed word first second last
listing_named (word ∷ first ∷ second ∷ third ∷ fourth ∷ more) = None

-- the node or the handle of the name, in this form
unfoldable pub holder_named : Form → (word name : List ℕ) → Option AskedCommand
holder_named form word name =
    if bytes_eq word (codes "node") && is_name_text name then Some (Show (seen.Node name form))
    else (if bytes_eq word (codes "handle") && is_handle_text name then Some (Show (seen.Handle name form))
    else None)

unfoldable pub config_as_json : (word : List ℕ) → Option AskedCommand
config_as_json word = if bytes_eq word (codes "config") then Some (Show (seen.Config form.Json)) else None

unfoldable pub pair_looked : (word name : List ℕ) → Option AskedCommand
pair_looked word name = if is_json name then config_as_json word else holder_named form.Table word name

unfoldable pub holder_as_json : (word name last : List ℕ) → Option AskedCommand
holder_as_json word name last = if is_json last then holder_named form.Json word name else None

-- pools, numbers, blocks, the configuration, an address, a node or a handle
abbrev pub look_named : List (List ℕ) → Option AskedCommand
look_named [] = None
look_named (word ∷ []) = view_named word
look_named (word ∷ name ∷ []) = pair_looked word name
look_named (word ∷ name ∷ last ∷ []) = holder_as_json word name last
look_named (word ∷ name ∷ last ∷ other ∷ more) = None

abbrev pub show_named : List (List ℕ) → Option AskedCommand
show_named words = option_or (look_named words) (listing_named words)

-- ---- all words

-- what the first word and those after it ask
abbrev pub other_named : (word : List ℕ) → List (List ℕ) → Option AskedCommand
other_named word [] = None
other_named word (first ∷ []) = first_named word first
other_named word (first ∷ second ∷ []) = second_named word first second
other_named word (first ∷ second ∷ third ∷ more) = None

unfoldable pub more_named : (word : List ℕ) → List (List ℕ) → Option AskedCommand
more_named word more = if bytes_eq word (codes "show") then show_named more else other_named word more

-- what the words ask, where they have a command's form
abbrev pub command_named : List (List ℕ) → Option AskedCommand
command_named [] = Some Cni
command_named (word ∷ []) = word_named word
command_named (word ∷ first ∷ more) = more_named word (first ∷ more)

-- ---- what is so of whatever is asked

-- there is a worker, and there are no more than there may be
abbrev pub AreWorkers : ℕ → Type 0
AreWorkers workers = (0 < workers) × (workers ≤ MOST_WORKERS)

-- a node that gives up a block has a name's form, and workers are as many as there may be
abbrev pub IsSound : AskedCommand → Type 0
IsSound (Release node cidr) = is_name_text node ≡ true
IsSound (Audit workers) = AreWorkers workers
IsSound (Serve address workers) = AreWorkers workers
IsSound _ = Unit {0}
