use Rattle.std.proofs.Common.{ℕ, ◌<◌, ◌^◌, ◌∙◌, ap, refl, sym, subst, List, length}
use Rattle.std.specs.Global.{Vec}
use Rattle.ipam_records.specs.declared.record.Record.{Record}
use Rattle.ipam_records.specs.Pages.{rows_of_pages}
use Rattle.ipam_model.specs.Owners.{owners_in}
use Rattle.ipam_commands.proofs.Counting.{owners_in_parts, part_fits}
use Rattle.ipam_commands.proofs.Sharing.{few-counted}
use Rattle.ipam_commands.proofs.audit_counted.counts.Goals as goal

pub map_chunks-requires-clause-accepts : goal.map_chunks-requires-clause-accepts
map_chunks-requires-clause-accepts g c = λ κs within start p is.
    let fits = part_fits c.args.store.now.store c.part_size-size.result start c.pages-pages.result.now (c.pages-pages.ensures ∙ c.listing.ensures.rows) c.requires.few in
    subst (λ (ps : List (Vec (ℕ × Record))). length (owners_in (rows_of_pages ps)) < 2 ^ 64) (sym is.value) fits

pub returns-clause-all : goal.returns-clause-all
returns-clause-all g c =
    let ok = c.in_ok-parts.parts.ok in
    let len = c.in_ok-parts.ensures.len in
    owners_in_parts c.args.store.now.store c.part_size-size.result c.pages-pages.result.now c.in_ok-parts.parts.items (c.pages-pages.ensures ∙ c.listing.ensures.rows) c.part_size-size.ensures.some (cc) (λ n h. let k = (c.in_ok-parts.ensures.each n 0 h).1 in k.call ∙ ap (λ (ps : List (Vec (ℕ × Record))). length (owners_in (rows_of_pages ps))) k.argument_is.value)

pub returns-clause-few : goal.returns-clause-few
returns-clause-few g c =
    let ok = c.in_ok-parts.parts.ok in
    let len = c.in_ok-parts.ensures.len in
    few-counted (length c.in_ok-parts.parts.items) (length c.pages-pages.result.now) (length c.pages-pages.result.now) c.part_size-size.result c.args.workers (cc) refl c.part_size-size.ensures.few
