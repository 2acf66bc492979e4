use Rattle.std.proofs.Common.{ap, sym, ◌∙◌}
use Rattle.ipam_records.specs.declared.key.Kind.TheVariants as kind
use Rattle.ipam_records.specs.Datastore.{rows_of_kind}
use Rattle.ipam_store.specs.Shape.{StoreValue}
use Rattle.ipam_store.specs.Keeping.{lists_in}
use Rattle.ipam_store.proofs.Shelves.{listed-shelved}
use Rattle.ipam_store.proofs.store.Store.pages.Goals as goal

pub returns-in-Block-clause-rows : goal.returns-in-Block-clause-rows
returns-in-Block-clause-rows c =
    c.pages.ensures.rows
    ∙ sym (listed-shelved kind.Block (lists_in c.self.inside) c.self.invariant.shelved)
    ∙ ap (λ (v : StoreValue). rows_of_kind kind.Block v.store) c.self.view_is
    ∙ ap (λ k. rows_of_kind k c.args.self.now.store) (sym c.in-Block.is)

pub returns-in-Affinity-clause-rows : goal.returns-in-Affinity-clause-rows
returns-in-Affinity-clause-rows c =
    c.pages-in-Affinity.ensures.rows
    ∙ sym (listed-shelved kind.Affinity (lists_in c.self.inside) c.self.invariant.shelved)
    ∙ ap (λ (v : StoreValue). rows_of_kind kind.Affinity v.store) c.self.view_is
    ∙ ap (λ k. rows_of_kind k c.args.self.now.store) (sym c.in-Affinity.is)

pub returns-in-Handle-clause-rows : goal.returns-in-Handle-clause-rows
returns-in-Handle-clause-rows c =
    c.pages-in-Handle.ensures.rows
    ∙ sym (listed-shelved kind.Handle (lists_in c.self.inside) c.self.invariant.shelved)
    ∙ ap (λ (v : StoreValue). rows_of_kind kind.Handle v.store) c.self.view_is
    ∙ ap (λ k. rows_of_kind k c.args.self.now.store) (sym c.in-Handle.is)
