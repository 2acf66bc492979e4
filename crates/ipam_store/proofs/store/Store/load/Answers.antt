use Rattle.std.proofs.Common.{ap, sym, ◌∙◌}
use Rattle.ipam_records.specs.Key.{key_of}
use Rattle.ipam_store.specs.declared.shelf.Shelf.TheVariants.{Singles, Blocks, Affinities, Handles}
use Rattle.ipam_store.specs.Keeping.{lists_in}
use Rattle.ipam_store.specs.Shelf.{shelf_of}
use Rattle.ipam_store.proofs.Keeping.{Ascend-list}
use Rattle.ipam_store.proofs.Kept.{load-keeps, load-stores, load-there, list-few}
use Rattle.ipam_store.proofs.store.Store.load.Goals as goal

pub add-requires-clause-ascend : goal.add-requires-clause-ascend
add-requires-clause-ascend c = Ascend-list (lists_in c.self.inside) c.self.invariant.sound.ascending Singles

pub add-requires-clause-few : goal.add-requires-clause-few
add-requires-clause-few c = list-few (lists_in c.self.inside) Singles c.self.invariant.few

pub add-requires-in-Blocks-clause-few : goal.add-requires-in-Blocks-clause-few
add-requires-in-Blocks-clause-few c = list-few (lists_in c.self.inside) Blocks c.self.invariant.few

pub add-requires-in-Affinities-clause-ascend : goal.add-requires-in-Affinities-clause-ascend
add-requires-in-Affinities-clause-ascend c = Ascend-list (lists_in c.self.inside) c.self.invariant.sound.ascending Affinities

pub add-requires-in-Affinities-clause-few : goal.add-requires-in-Affinities-clause-few
add-requires-in-Affinities-clause-few c = list-few (lists_in c.self.inside) Affinities c.self.invariant.few

pub add-requires-in-Handles-clause-ascend : goal.add-requires-in-Handles-clause-ascend
add-requires-in-Handles-clause-ascend c = Ascend-list (lists_in c.self.inside) c.self.invariant.sound.ascending Handles

pub add-requires-in-Handles-clause-few : goal.add-requires-in-Handles-clause-few
add-requires-in-Handles-clause-few c = list-few (lists_in c.self.inside) Handles c.self.invariant.few

pub invariant_of-self : goal.invariant_of-self
invariant_of-self c = load-keeps c.self.inside _ c.self.view_is c.self.invariant (c.args.revision, c.args.value) c.requires.sound c.requires.room Singles (ap shelf_of (sym c.of_record.ensures) ∙ sym c.of-shelf.ensures ∙ c.in-Singles.is) _ c.add.result c.add.ensures.ok c.add.ensures.grown c.add.ensures.err

pub invariant_of-self-in-Blocks : goal.invariant_of-self-in-Blocks
invariant_of-self-in-Blocks c = load-keeps c.self.inside _ c.self.view_is c.self.invariant (c.args.revision, c.args.value) c.requires.sound c.requires.room Blocks (ap shelf_of (sym c.of_record.ensures) ∙ sym c.of-shelf.ensures ∙ c.in-Blocks.is) _ c.add-in-Blocks.result c.add-in-Blocks.ensures.ok c.add-in-Blocks.ensures.grown c.add-in-Blocks.ensures.err

pub invariant_of-self-in-Affinities : goal.invariant_of-self-in-Affinities
invariant_of-self-in-Affinities c = load-keeps c.self.inside _ c.self.view_is c.self.invariant (c.args.revision, c.args.value) c.requires.sound c.requires.room Affinities (ap shelf_of (sym c.of_record.ensures) ∙ sym c.of-shelf.ensures ∙ c.in-Affinities.is) _ c.add-in-Affinities.result c.add-in-Affinities.ensures.ok c.add-in-Affinities.ensures.grown c.add-in-Affinities.ensures.err

pub invariant_of-self-in-Handles : goal.invariant_of-self-in-Handles
invariant_of-self-in-Handles c = load-keeps c.self.inside _ c.self.view_is c.self.invariant (c.args.revision, c.args.value) c.requires.sound c.requires.room Handles (ap shelf_of (sym c.of_record.ensures) ∙ sym c.of-shelf.ensures ∙ c.in-Handles.is) _ c.add-in-Handles.result c.add-in-Handles.ensures.ok c.add-in-Handles.ensures.grown c.add-in-Handles.ensures.err

pub returns-in-Singles-clause-ok : goal.returns-in-Singles-clause-ok
returns-in-Singles-clause-ok c = load-stores c.self.inside _ c.self.view_is c.self.invariant.shelved (c.args.revision, c.args.value) Singles (ap shelf_of (sym c.of_record.ensures) ∙ sym c.of-shelf.ensures ∙ c.in-Singles.is) c.add.new.self.rows c.add.result c.add.ensures.ok

pub returns-in-Blocks-clause-ok : goal.returns-in-Blocks-clause-ok
returns-in-Blocks-clause-ok c = load-stores c.self.inside _ c.self.view_is c.self.invariant.shelved (c.args.revision, c.args.value) Blocks (ap shelf_of (sym c.of_record.ensures) ∙ sym c.of-shelf.ensures ∙ c.in-Blocks.is) c.add-in-Blocks.new.self.rows c.add-in-Blocks.result c.add-in-Blocks.ensures.ok

pub returns-in-Affinities-clause-ok : goal.returns-in-Affinities-clause-ok
returns-in-Affinities-clause-ok c = load-stores c.self.inside _ c.self.view_is c.self.invariant.shelved (c.args.revision, c.args.value) Affinities (ap shelf_of (sym c.of_record.ensures) ∙ sym c.of-shelf.ensures ∙ c.in-Affinities.is) c.add-in-Affinities.new.self.rows c.add-in-Affinities.result c.add-in-Affinities.ensures.ok

pub returns-in-Handles-clause-ok : goal.returns-in-Handles-clause-ok
returns-in-Handles-clause-ok c = load-stores c.self.inside _ c.self.view_is c.self.invariant.shelved (c.args.revision, c.args.value) Handles (ap shelf_of (sym c.of_record.ensures) ∙ sym c.of-shelf.ensures ∙ c.in-Handles.is) c.add-in-Handles.new.self.rows c.add-in-Handles.result c.add-in-Handles.ensures.ok

pub returns-in-Singles-clause-there : goal.returns-in-Singles-clause-there
returns-in-Singles-clause-there c = load-there c.self.inside _ c.self.view_is c.self.invariant.shelved (key_of c.args.value) Singles (ap shelf_of (sym c.of_record.ensures) ∙ sym c.of-shelf.ensures ∙ c.in-Singles.is) c.add.result c.add.ensures.there

pub returns-in-Blocks-clause-there : goal.returns-in-Blocks-clause-there
returns-in-Blocks-clause-there c = load-there c.self.inside _ c.self.view_is c.self.invariant.shelved (key_of c.args.value) Blocks (ap shelf_of (sym c.of_record.ensures) ∙ sym c.of-shelf.ensures ∙ c.in-Blocks.is) c.add-in-Blocks.result c.add-in-Blocks.ensures.there

pub returns-in-Affinities-clause-there : goal.returns-in-Affinities-clause-there
returns-in-Affinities-clause-there c = load-there c.self.inside _ c.self.view_is c.self.invariant.shelved (key_of c.args.value) Affinities (ap shelf_of (sym c.of_record.ensures) ∙ sym c.of-shelf.ensures ∙ c.in-Affinities.is) c.add-in-Affinities.result c.add-in-Affinities.ensures.there

pub returns-in-Handles-clause-there : goal.returns-in-Handles-clause-there
returns-in-Handles-clause-there c = load-there c.self.inside _ c.self.view_is c.self.invariant.shelved (key_of c.args.value) Handles (ap shelf_of (sym c.of_record.ensures) ∙ sym c.of-shelf.ensures ∙ c.in-Handles.is) c.add-in-Handles.result c.add-in-Handles.ensures.there
