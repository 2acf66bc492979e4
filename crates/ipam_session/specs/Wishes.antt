-- What a line of a session asks.
use Rattle.std.specs.Prelude.{ℕ, List, codes, Bool, true, false, ◌&&◌, ◌||◌, not, is_some, bytes_eq, Option, Some, None, option_map, option_and_then, unwrap_or, if◌then◌else◌}
use Rattle.std.specs.List.{AllByRecursion}
use Rattle.std.specs.Str.{is_utf8}
use Rattle.serde_json.specs.Data.{Data, Members, no_members, member}
use Rattle.serde_json.specs.Find.{get, as_bool, as_object, as_str}
use Rattle.serde_json.specs.Read.{read}
use Rattle.ipam_json.specs.Path.{as_whole}
use Rattle.ipam_json.specs.Members.{◌>>=◌, only_if, text_at, only_member}
use Rattle.ipam_records.specs.KeyText.{key_read}
use Rattle.ipam_records.specs.Sound.{IsHandleId}
use Rattle.ipam_words.specs.Kinds.{is_key_of_kind, kind_named}
use Rattle.ipam_model.specs.SoundRequest.{IsSoundRequest}
use Rattle.ipam_request_text.specs.Fields.{pairs_in}
use Rattle.ipam_request_text.specs.Live.{live_in}
use Rattle.ipam_request_text.specs.Reading.{sound_request_in}
use Rattle.ipam_session.specs.declared.wish.Wish.{Wish}
use Rattle.ipam_session.specs.declared.wish.Wish.TheVariants as wish

-- ---- lines of one member

-- a collection says when its first list was made
abbrev pub says_time : Data → Bool
says_time d = is_some (option_and_then (get (codes "at")) (get (codes "collect") d))

-- the time of a collection is the session's clock's, so a line does not say it
unfoldable pub request_wish : Data → Option Wish
request_wish d = do
  untimed ← only_if (not (says_time d)) d
  request ← sound_request_in untimed
  Some (wish.Request request)

abbrev pub is_true : Data → Bool
is_true d = unwrap_or (as_bool d) false

-- the first page of the kind that the value names
unfoldable pub rows_wish : Data → Option Wish
rows_wish d = do
  word ← as_str d
  kind ← kind_named word
  Some (wish.Rows kind None)

-- what the members ask whose value is no more than `true`, a number or a word
abbrev pub short_wish : List ℕ → Data → Option Wish
short_wish name d =
    if bytes_eq name (codes "stop") then only_if (is_true d) wish.Stop
    else (if bytes_eq name (codes "routes") then only_if (is_true d) wish.Routes
    else (if bytes_eq name (codes "routesSince") then option_map wish.RoutesSince (as_whole d)
    else (if bytes_eq name (codes "rows") then rows_wish d
    else (if bytes_eq name (codes "usage") then only_if (is_true d) wish.Usage
    else (if bytes_eq name (codes "opened") then only_if (is_true d) wish.Opened
    else None)))))

-- what the one member asks
abbrev pub named_wish : List ℕ → Data → Option Wish
named_wish name d =
    if bytes_eq name (codes "request") then request_wish d
    else (if bytes_eq name (codes "feed") then option_map wish.Feed (live_in d)
    else short_wish name d)

-- ---- pages of rows

abbrev pub in_page : List ℕ → Bool
in_page name = bytes_eq name (codes "rows") || bytes_eq name (codes "after")

-- no member is unknown
abbrev pub are_of_page : Members → Bool
are_of_page no_members = true
are_of_page (member name d ms) = in_page name && are_of_page ms

-- the page after a key of the kind
unfoldable pub page_wish : Data → Option Wish
page_wish d = do
  members ← as_object d
  known ← only_if (are_of_page members) d
  word ← text_at (codes "rows") known
  kind ← kind_named word
  after ← text_at (codes "after") known
  own ← only_if (is_key_of_kind kind after) after
  key ← key_read own
  Some (wish.Rows kind (Some key))

-- ---- calls

abbrev pub in_call : List ℕ → Bool
in_call name = bytes_eq name (codes "env") || bytes_eq name (codes "stdin")

-- no member is unknown
abbrev pub are_of_call : Members → Bool
are_of_call no_members = true
are_of_call (member name d ms) = in_call name && are_of_call ms

-- the call with this environment and this standard input
unfoldable pub call_wish : Data → Option Wish
call_wish d = do
  members ← as_object d
  known ← only_if (are_of_call members) d
  stdin ← text_at (codes "stdin") known
  found ← get (codes "env") known
  env ← pairs_in found
  Some (wish.Cni env stdin)

-- ---- lines

-- what several members ask
abbrev pub parts_wish : Data → Option Wish
parts_wish d = if is_some (get (codes "rows") d) then page_wish d else call_wish d

abbrev pub wish_of_members : Option (List ℕ × Data) → Data → Option Wish
wish_of_members (Some only) d = named_wish only.0 only.1
wish_of_members None d = parts_wish d

-- an object of one member, a page after a key, or a call
unfoldable pub wish_in : Data → Option Wish
wish_in d = do
  members ← as_object d
  wish_of_members (only_member members) d

-- what the line asks
unfoldable pub wish_of_line : List ℕ → Option Wish
wish_of_line line = do
  text ← only_if (is_utf8 line) line
  d ← read text
  wish_in d

-- ---- soundness

-- a request that is begun and a list that is fed keep every limit
abbrev pub IsSoundWish : Wish → Type 0
IsSoundWish (wish.Cni env stdin) = Unit {0}
IsSoundWish (wish.Request request) = IsSoundRequest request
IsSoundWish (wish.Feed live) = AllByRecursion IsHandleId live
IsSoundWish wish.Stop = Unit {0}
IsSoundWish wish.Routes = Unit {0}
IsSoundWish (wish.RoutesSince revision) = Unit {0}
IsSoundWish (wish.Rows kind after) = Unit {0}
IsSoundWish wish.Usage = Unit {0}
IsSoundWish wish.Opened = Unit {0}
