-- What words ask is sound.
use Rattle.std.proofs.Common.{◌≡◌, ℕ, ◌&&◌, Bool, true, false, List, [], ◌∷◌, Option, Some, None, refl, sym, subst}
use Rattle.std.specs.Prelude.{bytes_eq, codes, nat_le, option_map, option_and_then, IfSome, Result, Ok, Err, if◌then◌else◌}
use Rattle.std.specs.Option.{option_or}
use Rattle.std.proofs.lemmas.Bool.{leb-true}
use Rattle.ipam_addr.specs.declared.cidrs.AddrFault.{AddrFault}
use Rattle.ipam_addr.specs.Names.{is_handle_text, is_name_text}
use Rattle.ipam_addr.specs.Shape.{AddrValue, CidrValue}
use Rattle.ipam_addr.specs.Text.{address_of, cidr_reading}
use Rattle.ipam_words.specs.declared.command.Command.{Command}
use Rattle.ipam_words.specs.declared.kind.RowKind.{RowKind}
use Rattle.ipam_words.specs.declared.reading.TheConstants.{MOST_WORKERS}
use Rattle.ipam_words.specs.Kinds.{kind_named}
use Rattle.ipam_words.specs.declared.view.Form.{Form}
use Rattle.ipam_words.specs.declared.view.Form.TheVariants as form
use Rattle.ipam_words.specs.Views.{AskedChoice}
use Rattle.ipam_words.specs.Views as seen
use Rattle.ipam_words.specs.Words.{AreWorkers, AskedCommand, call_named, is_option, Cni, Play, Apply, Get, Routes, Gen, Show, Audit, Serve, Call, Help, Version, IsSound, address_seen, asked_by, audit_named, count_named, generated_of, first_named, get_named, get_of, small_number_of, release_named, release_of, routes_named, second_named, serve_named, view_named, word_named, workers_of, workers_within, four_listed, is_json, listed, listing_named, config_as_json, holder_as_json, holder_named, look_named, pair_looked, more_named, one_chosen, other_named, show_named, three_chosen, three_listed, two_chosen, two_listed}

-- what is asked, if anything, is sound
abbrev AllSound : Option AskedCommand → Type 0
AllSound None = Unit {0}
AllSound (Some asked) = IsSound asked

if-sound : (b : Bool) (one other : Option AskedCommand) → AllSound one → AllSound other → AllSound (if b then one else other)
if-sound true one other h k = h
if-sound false one other h k = k

one-word : (word : List ℕ) → AllSound (word_named word)
unfolding word_named
one-word word =
    if-sound (bytes_eq word (codes "cni")) (Some Cni) _ tt
    (if-sound (bytes_eq word (codes "play")) (Some Play) _ tt
    (if-sound (bytes_eq word (codes "apply")) (Some Apply) _ tt
    (if-sound (bytes_eq word (codes "get")) (Some (Get None)) _ tt
    (if-sound (bytes_eq word (codes "show")) (Some (Show seen.Pools)) _ tt
    (if-sound (bytes_eq word (codes "--help")) (Some Help) _ tt
    (if-sound (bytes_eq word (codes "--version")) (Some Version) None tt tt))))))

get-sound : (kind : Option RowKind) → AllSound (get_of kind)
get-sound None = tt
get-sound (Some kind) = tt

gen-sound : (count : Option ℕ) → AllSound (option_map Gen count)
gen-sound None = tt
gen-sound (Some count) = tt

routes-sound : (node : List ℕ) → AllSound (routes_named node)
unfolding routes_named
routes-sound node = if-sound (is_name_text node) (Some (Routes node)) None tt tt

address-sound : (address : Option AddrValue) → AllSound (address_seen address)
address-sound None = tt
address-sound (Some address) = tt

view-sound : (word : List ℕ) → AllSound (view_named word)
unfolding view_named
view-sound word =
    if-sound (bytes_eq word (codes "--json")) (Some (Show seen.Json)) _ tt
    (if-sound (bytes_eq word (codes "--metrics")) (Some (Show seen.Metrics)) _ tt
    (if-sound (bytes_eq word (codes "blocks")) (Some (Show seen.Blocks)) _ tt
    (if-sound (bytes_eq word (codes "config")) (Some (Show (seen.Config form.Table))) (address_seen (address_of word)) tt (address-sound (address_of word)))))

-- ---- workers

abbrev AllWorkers : Option ℕ → Type 0
AllWorkers None = Unit {0}
AllWorkers (Some n) = AreWorkers n

within : (n : ℕ) → AllWorkers (workers_within n)
within n = by (nat_le 1 n) (nat_le n MOST_WORKERS) refl refl
  where
    by : (some few : Bool) → nat_le 1 n ≡ some → nat_le n MOST_WORKERS ≡ few → AllWorkers (if some && few then Some n else None)
    by true true some few = (leb-true 1 n some, leb-true n MOST_WORKERS few)
    by true false some few = tt
    by false few some is = tt

number-workers : (number : Option ℕ) → AllWorkers (option_and_then workers_within number)
number-workers None = tt
number-workers (Some n) = within n

audit-sound : (workers : Option ℕ) → AllWorkers workers → AllSound (option_map Audit workers)
audit-sound None h = tt
audit-sound (Some n) h = h

serve-sound : (address : List ℕ) (workers : Option ℕ) → AllWorkers workers → AllSound (option_map (Serve address) workers)
serve-sound address None h = tt
serve-sound address (Some n) h = h

address-served : (address : List ℕ) (word : List ℕ) → AllSound (serve_named address word)
unfolding serve_named
address-served address word =
    if-sound (is_option address) None (option_map (Serve address) (workers_of word)) tt
    (serve-sound address (workers_of word) (number-workers (small_number_of word)))

call-sound : (address : List ℕ) → AllSound (call_named address)
unfolding call_named
call-sound address = if-sound (is_option address) None (Some (Call address)) tt tt

-- ---- two words, and three

two-words : (word first : List ℕ) → AllSound (first_named word first)
unfolding first_named
two-words word first =
    if-sound (bytes_eq word (codes "get")) (get_named first) _ (get-sound (kind_named first))
    (if-sound (bytes_eq word (codes "routes")) (routes_named first) _ (routes-sound first)
    (if-sound (bytes_eq word (codes "gen")) (count_named first) _ (gen-sound (generated_of first))
    (if-sound (bytes_eq word (codes "audit")) (audit_named first) _ (audit-sound (workers_of first) (number-workers (small_number_of first)))
    (if-sound (bytes_eq word (codes "call")) (call_named first) None (call-sound first) tt))))

block-sound : (node : List ℕ) (read : Result CidrValue AddrFault) → is_name_text node ≡ true → AllSound (release_of node read)
block-sound node (Ok cidr) named = named
block-sound node (Err fault) named = tt

release-sound : (node block : List ℕ) → AllSound (release_named node block)
unfolding release_named
release-sound node block = by (is_name_text node) refl
  where
    by : (b : Bool) → is_name_text node ≡ b → AllSound (if b then release_of node (cidr_reading block) else None)
    by true named = block-sound node (cidr_reading block) named
    by false named = tt

three-words : (word first second : List ℕ) → AllSound (second_named word first second)
unfolding second_named
three-words word first second =
    if-sound (bytes_eq word (codes "release")) (release_named first second) _ (release-sound first second)
    (if-sound (bytes_eq word (codes "serve")) (serve_named first second) None (address-served first second) tt)

-- ---- words after `show`

or-sound : (one other : Option AskedCommand) → AllSound one → AllSound other → AllSound (option_or one other)
or-sound None other h k = k
or-sound (Some asked) other h k = h

listed-sound : (form : Form) (chosen : Option AskedChoice) → AllSound (listed form chosen)
listed-sound form None = tt
listed-sound form (Some chosen) = tt

two-listed : (word last : List ℕ) → AllSound (two_listed word last)
unfolding two_listed
two-listed word last =
    if-sound (is_json last) (listed form.Json (one_chosen word)) (listed form.Table (two_chosen word last)) (listed-sound form.Json (one_chosen word)) (listed-sound form.Table (two_chosen word last))

three-listed : (word first last : List ℕ) → AllSound (three_listed word first last)
unfolding three_listed
three-listed word first last =
    if-sound (is_json last) (listed form.Json (two_chosen word first)) (listed form.Table (three_chosen word first last)) (listed-sound form.Json (two_chosen word first)) (listed-sound form.Table (three_chosen word first last))

four-listed : (word first second last : List ℕ) → AllSound (four_listed word first second last)
unfolding four_listed
four-listed word first second last =
    if-sound (is_json last) (listed form.Json (three_chosen word first second)) None (listed-sound form.Json (three_chosen word first second)) tt

listing-sound : (words : List (List ℕ)) → AllSound (listing_named words)
listing-sound [] = tt
listing-sound (word ∷ []) = listed-sound form.Table (one_chosen word)
listing-sound (word ∷ last ∷ []) = two-listed word last
listing-sound (word ∷ first ∷ last ∷ []) = three-listed word first last
listing-sound (word ∷ first ∷ second ∷ last ∷ []) = four-listed word first second last
listing-sound (word ∷ first ∷ second ∷ third ∷ fourth ∷ more) = tt

holder-sound : (form : Form) (word name : List ℕ) → AllSound (holder_named form word name)
unfolding holder_named
holder-sound form word name =
    if-sound (bytes_eq word (codes "node") && is_name_text name) (Some (Show (seen.Node name form))) _ tt
    (if-sound (bytes_eq word (codes "handle") && is_handle_text name) (Some (Show (seen.Handle name form))) None tt tt)

config-sound : (word : List ℕ) → AllSound (config_as_json word)
unfolding config_as_json
config-sound word = if-sound (bytes_eq word (codes "config")) (Some (Show (seen.Config form.Json))) None tt tt

pair-sound : (word name : List ℕ) → AllSound (pair_looked word name)
unfolding pair_looked
pair-sound word name =
    if-sound (is_json name) (config_as_json word) (holder_named form.Table word name) (config-sound word) (holder-sound form.Table word name)

json-sound : (word name last : List ℕ) → AllSound (holder_as_json word name last)
unfolding holder_as_json
json-sound word name last =
    if-sound (is_json last) (holder_named form.Json word name) None (holder-sound form.Json word name) tt

look-sound : (words : List (List ℕ)) → AllSound (look_named words)
look-sound [] = tt
look-sound (word ∷ []) = view-sound word
look-sound (word ∷ name ∷ []) = pair-sound word name
look-sound (word ∷ name ∷ last ∷ []) = json-sound word name last
look-sound (word ∷ name ∷ last ∷ other ∷ more) = tt

-- ---- all words

other-sound : (word : List ℕ) (more : List (List ℕ)) → AllSound (other_named word more)
other-sound word [] = tt
other-sound word (first ∷ []) = two-words word first
other-sound word (first ∷ second ∷ []) = three-words word first second
other-sound word (first ∷ second ∷ third ∷ more) = tt

more-sound : (word : List ℕ) (more : List (List ℕ)) → AllSound (more_named word more)
unfolding more_named
more-sound word more =
    if-sound (bytes_eq word (codes "show")) (show_named more) (other_named word more) (or-sound (look_named more) (listing_named more) (look-sound more) (listing-sound more)) (other-sound word more)

-- ---- what was read

if-some : (read : Option Command) (named : Option AskedCommand) → option_map asked_by read ≡ named → AllSound named → IfSome read (λ command. IsSound (asked_by command))
if-some None named is h = tt
if-some (Some command) named is h = subst (λ (o : Option AskedCommand). AllSound o) (sym is) h

pub one_sound : (word : List ℕ) (read : Option Command) → option_map asked_by read ≡ word_named word → IfSome read (λ command. IsSound (asked_by command))
one_sound word read is = if-some read (word_named word) is (one-word word)

pub more_sound : (word : List ℕ) (more : List (List ℕ)) (read : Option Command) → option_map asked_by read ≡ more_named word more → IfSome read (λ command. IsSound (asked_by command))
more_sound word more read is = if-some read (more_named word more) is (more-sound word more)
