use Rattle.std.proofs.Common.{ap, sym, ◌∙◌}
use Rattle.ipam_records.specs.declared.key.Kind.TheVariants as kind
use Rattle.ipam_records.specs.Datastore.{rows_of_kind}
use Rattle.ipam_store.specs.Shape.{StoreValue}
use Rattle.ipam_store.specs.Keeping.{lists_in}
use Rattle.ipam_store.proofs.Shelves.{listed-shelved}
use Rattle.ipam_store.proofs.store.Store.listed.Goals as goal

pub returns-in-Block : goal.returns-in-Block
returns-in-Block c =
    c.listing.ensures
    ∙ sym (listed-shelved kind.Block (lists_in c.self.inside) c.self.invariant.shelved)
    ∙ ap (λ (v : StoreValue). rows_of_kind kind.Block v.store) c.self.view_is
    ∙ ap (λ k. rows_of_kind k c.args.self.now.store) (sym c.in-Block.is)

pub returns-in-Affinity : goal.returns-in-Affinity
returns-in-Affinity c =
    c.over.ensures ∙ c.pages.ensures.rows
    ∙ sym (listed-shelved kind.Affinity (lists_in c.self.inside) c.self.invariant.shelved)
    ∙ ap (λ (v : StoreValue). rows_of_kind kind.Affinity v.store) c.self.view_is
    ∙ ap (λ k. rows_of_kind k c.args.self.now.store) (sym c.in-Affinity.is)

pub returns-in-Handle : goal.returns-in-Handle
returns-in-Handle c =
    c.over-in-Handle.ensures ∙ c.pages-in-Handle.ensures.rows
    ∙ sym (listed-shelved kind.Handle (lists_in c.self.inside) c.self.invariant.shelved)
    ∙ ap (λ (v : StoreValue). rows_of_kind kind.Handle v.store) c.self.view_is
    ∙ ap (λ k. rows_of_kind k c.args.self.now.store) (sym c.in-Handle.is)
