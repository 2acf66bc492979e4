-- The reply lines of a session. The members of an object stand by the bytes of their names.
use Rattle.std.specs.Prelude.{ℕ, List, [], ◌∷◌, ◌++◌, codes, map, Bool, true, false}
use Rattle.serde_json.specs.Data.{Data, boolean, number, unsigned, string}
use Rattle.serde_json.specs.Written.{compact_text}
use Rattle.ipam_json.specs.Built.{Field, object_of, array_of, whole_data, tagged}
use Rattle.ipam_addr.specs.Text.{cidr_text_of}
use Rattle.ipam_answer_text.specs.Answers.{answer_data}
use Rattle.ipam_session.specs.declared.refusal.Refusal.{Refusal}
use Rattle.ipam_session.specs.declared.refusal.Refusal.TheVariants as refusal
use Rattle.ipam_records.specs.declared.record.Record.{Record}
use Rattle.ipam_records.specs.Body.{body_of}
use Rattle.ipam_records.specs.Key.{key_of}
use Rattle.ipam_records.specs.KeyText.{key_bytes}
use Rattle.ipam_session.specs.declared.page.Page.{Page}
use Rattle.ipam_show.specs.declared.usage.PoolUsage.{PoolUsage}
use Rattle.ipam_store.specs.declared.route.Route.{Route as OneRoute}
use Rattle.ipam_store.specs.declared.change.Change.{Change}
use Rattle.ipam_session.specs.declared.route.Since.{Since}
use Rattle.ipam_session.specs.declared.route.Since.TheVariants.{Changes, Compacted, Ahead}
use Rattle.ipam_session.specs.declared.replies.Reply.{Reply}
use Rattle.ipam_session.specs.declared.replies.Reply.TheVariants as reply

abbrev pub refusal_name : Refusal → List ℕ
refusal_name refusal.Waiting = codes "waiting"
refusal_name refusal.NotWaiting = codes "not waiting"
refusal_name refusal.TooSoon = codes "too soon"
refusal_name refusal.Line = codes "line"

-- ---- calls

-- what a call ends with: its status and its standard output
unfoldable pub call_reply_data : ℕ → List ℕ → Data
call_reply_data status stdout =
    object_of ((codes "status", whole_data status) ∷ (codes "stdout", string stdout) ∷ [])

unfoldable pub call_text : ℕ → List ℕ → List ℕ
call_text status stdout = compact_text (call_reply_data status stdout)

-- ---- routes

unfoldable pub route_data : OneRoute → Data
route_data route =
    object_of ((codes "cidr", string (cidr_text_of route.cidr)) ∷ (codes "node", string route.node) ∷ [])

unfoldable pub route_change_data : Change → Data
route_change_data change =
    object_of ((codes "cidr", string (cidr_text_of change.route.cidr))
    ∷ (codes "node", string change.route.node)
    ∷ (codes "revision", whole_data change.revision)
    ∷ (codes "up", boolean change.up) ∷ [])

unfoldable pub routes_data : ℕ → List OneRoute → Data
routes_data revision routes =
    object_of ((codes "revision", whole_data revision)
    ∷ (codes "routes", array_of (map route_data routes)) ∷ [])

unfoldable pub changes_data : ℕ → List Change → Data
changes_data revision changes =
    object_of ((codes "changes", array_of (map route_change_data changes))
    ∷ (codes "revision", whole_data revision) ∷ [])

abbrev pub since_data : Since → Data
since_data (Changes revision changes) = changes_data revision changes
since_data (Compacted revision) = tagged (codes "compacted") (whole_data revision)
since_data (Ahead revision) = tagged (codes "ahead") (whole_data revision)

-- ---- pages of rows

-- a row as `get` writes it, with a name for each part
unfoldable pub row_data : ℕ × Record → Data
row_data row =
    object_of ((codes "body", string (body_of row.1))
    ∷ (codes "key", string (key_bytes (key_of row.1)))
    ∷ (codes "revision", whole_data row.0) ∷ [])

-- the members, where there are more rows with the one that says so
abbrev pub with_more : Bool → List Field → List Field
with_more true fields = (codes "more", boolean true) ∷ fields
with_more false fields = fields

unfoldable pub page_data : Page → Data
page_data page =
    object_of (with_more page.more
    ((codes "revision", whole_data page.revision) ∷ (codes "rows", array_of (map row_data page.rows)) ∷ []))

-- ---- usage

-- a pool, and what its blocks come to
unfoldable pub pool_usage_data : PoolUsage → Data
pool_usage_data pool =
    object_of ((codes "addresses", string pool.addresses)
    ∷ (codes "blocks", whole_data pool.blocks)
    ∷ (codes "cidr", string (cidr_text_of pool.cidr))
    ∷ (codes "disabled", boolean pool.disabled)
    ∷ (codes "free", whole_data pool.free)
    ∷ (codes "name", string pool.name)
    ∷ (codes "reserved", whole_data pool.reserved)
    ∷ (codes "used", whole_data pool.used) ∷ [])

unfoldable pub usage_data : ℕ → List PoolUsage → Data
usage_data revision pools =
    object_of ((codes "pools", array_of (map pool_usage_data pools)) ∷ (codes "revision", whole_data revision) ∷ [])

-- ---- replies

abbrev pub reply_data : Reply → Data
reply_data (reply.Called status stdout) = call_reply_data status stdout
reply_data (reply.Answered answer) = tagged (codes "answer") (answer_data answer)
reply_data reply.Waiting = tagged (codes "waiting") (boolean true)
reply_data reply.Stopped = tagged (codes "stopped") (boolean true)
reply_data (reply.Refused why) = tagged (codes "refused") (string (refusal_name why))
reply_data (reply.Routes revision routes) = routes_data revision routes
reply_data (reply.RoutesSince since) = since_data since
reply_data (reply.Rows page) = page_data page
reply_data (reply.Usage revision pools) = usage_data revision pools
reply_data (reply.Opened text) = tagged (codes "opened") (string text)

-- the line of a reply, with its line feed
unfoldable pub reply_line : Reply → List ℕ
reply_line one = compact_text (reply_data one) ++ codes "\n"
