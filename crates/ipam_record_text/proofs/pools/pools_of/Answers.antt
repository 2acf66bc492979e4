use Rattle.std.proofs.Common.{◌≡◌, Some, None, rules, ◌∙◌, ap}
use Rattle.std.proofs.lemmas.Result.{IfOk-weaker, IfErr-at_err}
use Rattle.ipam_json.specs.Held.{held}
use Rattle.ipam_record_text.specs.Pools.{pools_reading, pools_body, pool_list_in, table_of}
use Rattle.ipam_record_text.proofs.PoolTables.{pools_read, unheld_form, held_refused, form_unread, table_unread}
use Rattle.ipam_record_text.proofs.pools.pools_of.Goals as goal

pub returns-in-Ok-Some-clause-read : goal.returns-in-Ok-Some-clause-read
unfolding pools_reading
returns-in-Ok-Some-clause-read c =
    let found : held pool_list_in pools_body c.args.body.now ≡ Some c.in-Ok-Some.pools.items = search rules in
    IfOk-weaker c.table_of.result _ _ (λ t read. let is = pools_read _ t (ap table_of found ∙ read) in (is.1, is.0)) c.table_of.ensures.ok

pub returns-in-Ok-None-clause-form : goal.returns-in-Ok-None-clause-form
returns-in-Ok-None-clause-form c =
    let none : held pool_list_in pools_body c.args.body.now ≡ None = search rules in
    λ e. form_unread _ (unheld_form _ none)

pub returns-in-Ok-Some-clause-form : goal.returns-in-Ok-Some-clause-form
returns-in-Ok-Some-clause-form c =
    let found : held pool_list_in pools_body c.args.body.now ≡ Some c.in-Ok-Some.pools.items = search rules in
    λ e. form_unread _ (IfErr-at_err _ e (held_refused _ _ c.table_of.result found c.table_of.ensures.err) (λ k. cc))

pub returns-in-Ok-Some-clause-table : goal.returns-in-Ok-Some-clause-table
returns-in-Ok-Some-clause-table c =
    let found : held pool_list_in pools_body c.args.body.now ≡ Some c.in-Ok-Some.pools.items = search rules in
    λ e. table_unread _ (IfErr-at_err _ e (held_refused _ _ c.table_of.result found c.table_of.ensures.err) (λ k. cc))
