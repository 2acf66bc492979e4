use Rattle.std.proofs.Common.{◌∙◌, ap, length}
use Rattle.ipam_commands.specs.Reported.{excess_in}
use Rattle.ipam_commands.proofs.Bounds.{owners_small}
use Rattle.ipam_commands.proofs.Listing.{report_is}
use Rattle.ipam_commands.proofs.auditing.report_on.Goals as goal

pub owners-requires-clause-few : goal.owners-requires-clause-few
owners-requires-clause-few g c = λ κs within. owners_small c.args.store.now.store c.listing-handles.ensures.sound c.requires.few_blocks

pub returns : goal.returns
returns g c =
    let store = c.args.store.now.store in
    report_is store _
    (c.of.ensures ∙ (c.in_ok-excess.ensures ∙ ap (excess_in store) (c.pages.ensures ∙ c.listing-handles.ensures.rows)))
    (c.of-2.ensures ∙ c.in_ok-stale.ensures) (c.of-3.ensures ∙ c.in_ok-stray.ensures)
    (c.len.ensures ∙ ap length c.listing.ensures.rows) c.in_ok-owners.ensures (c.len-2.ensures ∙ ap length c.listing-handles.ensures.rows)
