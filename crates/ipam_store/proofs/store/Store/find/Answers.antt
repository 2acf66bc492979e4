use Rattle.std.proofs.Common.{ap, sym, ◌∙◌}
use Rattle.ipam_records.specs.Datastore.{row_of}
use Rattle.ipam_store.specs.declared.shelf.Shelf.TheVariants.{Singles, Blocks, Affinities, Handles}
use Rattle.ipam_store.specs.Shape.{StoreValue}
use Rattle.ipam_store.specs.Keeping.{lists_in}
use Rattle.ipam_records.specs.KeyRef.{owned_key}
use Rattle.ipam_store.proofs.Shelves.{row_of-shelved}
use Rattle.ipam_store.proofs.Keeping.{Ascend-list}
use Rattle.ipam_store.proofs.store.Store.find.Goals as goal

pub find-requires : goal.find-requires
find-requires c = Ascend-list (lists_in c.self.inside) c.self.invariant.sound.ascending Singles

pub returns-in-Singles : goal.returns-in-Singles
returns-in-Singles c =
    c.find.ensures
    ∙ sym (row_of-shelved (lists_in c.self.inside) c.self.invariant.shelved _ Singles (sym c.of.ensures ∙ c.in-Singles.is))
    ∙ ap (λ (v : StoreValue). row_of (owned_key c.args.key.now) v.store.rows) c.self.view_is

pub returns-in-Blocks : goal.returns-in-Blocks
returns-in-Blocks c =
    c.find-in-Blocks.ensures
    ∙ sym (row_of-shelved (lists_in c.self.inside) c.self.invariant.shelved _ Blocks (sym c.of.ensures ∙ c.in-Blocks.is))
    ∙ ap (λ (v : StoreValue). row_of (owned_key c.args.key.now) v.store.rows) c.self.view_is

pub find-requires-in-Affinities : goal.find-requires-in-Affinities
find-requires-in-Affinities c = Ascend-list (lists_in c.self.inside) c.self.invariant.sound.ascending Affinities

pub returns-in-Affinities : goal.returns-in-Affinities
returns-in-Affinities c =
    c.find-in-Affinities.ensures
    ∙ sym (row_of-shelved (lists_in c.self.inside) c.self.invariant.shelved _ Affinities (sym c.of.ensures ∙ c.in-Affinities.is))
    ∙ ap (λ (v : StoreValue). row_of (owned_key c.args.key.now) v.store.rows) c.self.view_is

pub find-requires-in-Handles : goal.find-requires-in-Handles
find-requires-in-Handles c = Ascend-list (lists_in c.self.inside) c.self.invariant.sound.ascending Handles

pub returns-in-Handles : goal.returns-in-Handles
returns-in-Handles c =
    c.find-in-Handles.ensures
    ∙ sym (row_of-shelved (lists_in c.self.inside) c.self.invariant.shelved _ Handles (sym c.of.ensures ∙ c.in-Handles.is))
    ∙ ap (λ (v : StoreValue). row_of (owned_key c.args.key.now) v.store.rows) c.self.view_is
