-- No reply's JSON has a float, so that its compact text is written.
use Rattle.std.proofs.Common.{◌≡◌, ℕ, Bool, true, false, List, [], ◌∷◌, codes, map, refl}
use Rattle.serde_json.specs.Written.{has_float}
use Rattle.ipam_json.specs.Built.{Field, array_of, object_of, whole_data}
use Rattle.ipam_json.proofs.Floatless.{items_without}
use Rattle.ipam_answer_text.proofs.Floats.{has_float-answer_data}
use Rattle.ipam_records.specs.declared.record.Record.{Record}
use Rattle.ipam_session.specs.declared.page.Page.{Page}
use Rattle.ipam_show.specs.declared.usage.PoolUsage.{PoolUsage}
use Rattle.ipam_store.specs.declared.route.Route.{Route as OneRoute}
use Rattle.ipam_store.specs.declared.change.Change.{Change}
use Rattle.ipam_session.specs.declared.route.Since.{Since}
use Rattle.ipam_session.specs.declared.route.Since.TheVariants.{Changes, Compacted, Ahead}
use Rattle.ipam_session.specs.declared.replies.Reply.{Reply}
use Rattle.ipam_session.specs.declared.replies.Reply.TheVariants.{Called, Answered, Waiting, Stopped, Refused, Routes, RoutesSince, Rows, Usage, Opened}
use Rattle.ipam_session.specs.Replies.{call_reply_data, route_data, route_change_data, routes_data, changes_data, since_data, row_data, with_more, page_data, pool_usage_data, usage_data, reply_data}

pub call_without : (status : ℕ) (stdout : List ℕ) → has_float (call_reply_data status stdout) ≡ false
unfolding call_reply_data
call_without status stdout = refl

route_without : (route : OneRoute) → has_float (route_data route) ≡ false
unfolding route_data
route_without route = refl

change_without : (change : Change) → has_float (route_change_data change) ≡ false
unfolding route_change_data
change_without change = refl

routes_without : (revision : ℕ) (routes : List OneRoute) → has_float (routes_data revision routes) ≡ false
unfolding routes_data
routes_without revision routes = rw (items_without route_data route_without routes) refl

changes_without : (revision : ℕ) (changes : List Change) → has_float (changes_data revision changes) ≡ false
unfolding changes_data
changes_without revision changes = rw (items_without route_change_data change_without changes) refl

since_without : (since : Since) → has_float (since_data since) ≡ false
since_without (Changes revision changes) = changes_without revision changes
since_without (Compacted revision) = refl
since_without (Ahead revision) = refl

row_without : (row : ℕ × Record) → has_float (row_data row) ≡ false
unfolding row_data
row_without row = refl

more_without : (more : Bool) (fields : List Field) → has_float (object_of fields) ≡ false → has_float (object_of (with_more more fields)) ≡ false
more_without true fields h = h
more_without false fields h = h

rows_without : (revision : ℕ) (rows : List (ℕ × Record)) → has_float (object_of ((codes "revision", whole_data revision) ∷ (codes "rows", array_of (map row_data rows)) ∷ [])) ≡ false
rows_without revision rows = rw (items_without row_data row_without rows) refl

page_without : (page : Page) → has_float (page_data page) ≡ false
unfolding page_data
page_without page = more_without page.more _ (rows_without page.revision page.rows)

pool_without : (pool : PoolUsage) → has_float (pool_usage_data pool) ≡ false
unfolding pool_usage_data
pool_without pool = refl

usage_without : (revision : ℕ) (pools : List PoolUsage) → has_float (usage_data revision pools) ≡ false
unfolding usage_data
usage_without revision pools = rw (items_without pool_usage_data pool_without pools) refl

pub reply_without : (reply : Reply) → has_float (reply_data reply) ≡ false
reply_without (Called status stdout) = call_without status stdout
reply_without (Answered answer) = rw (has_float-answer_data answer) refl
reply_without Waiting = refl
reply_without Stopped = refl
reply_without (Refused why) = refl
reply_without (Routes revision routes) = routes_without revision routes
reply_without (RoutesSince since) = since_without since
reply_without (Rows page) = page_without page
reply_without (Usage revision pools) = usage_without revision pools
reply_without (Opened text) = refl
