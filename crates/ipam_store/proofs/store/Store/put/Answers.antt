use Rattle.std.proofs.Common.{ap, sym, ◌∙◌}
use Rattle.ipam_store.specs.declared.shelf.Shelf.TheVariants.{Singles, Blocks, Affinities, Handles}
use Rattle.ipam_store.specs.Keeping.{lists_in}
use Rattle.ipam_store.specs.Shelf.{shelf_of}
use Rattle.ipam_store.proofs.Keeping.{Ascend-list}
use Rattle.ipam_store.proofs.Kept.{put-keeps, put-stores, list-few}
use Rattle.ipam_store.proofs.store.Store.put.Goals as goal

pub put-requires-clause-ascend : goal.put-requires-clause-ascend
put-requires-clause-ascend c = Ascend-list (lists_in c.self.inside) c.self.invariant.sound.ascending Singles

pub put-requires-clause-few : goal.put-requires-clause-few
put-requires-clause-few c = list-few (lists_in c.self.inside) Singles c.self.invariant.few

pub put-requires-in-Blocks-clause-few : goal.put-requires-in-Blocks-clause-few
put-requires-in-Blocks-clause-few c = list-few (lists_in c.self.inside) Blocks c.self.invariant.few

pub put-requires-in-Affinities-clause-ascend : goal.put-requires-in-Affinities-clause-ascend
put-requires-in-Affinities-clause-ascend c = Ascend-list (lists_in c.self.inside) c.self.invariant.sound.ascending Affinities

pub put-requires-in-Affinities-clause-few : goal.put-requires-in-Affinities-clause-few
put-requires-in-Affinities-clause-few c = list-few (lists_in c.self.inside) Affinities c.self.invariant.few

pub put-requires-in-Handles-clause-ascend : goal.put-requires-in-Handles-clause-ascend
put-requires-in-Handles-clause-ascend c = Ascend-list (lists_in c.self.inside) c.self.invariant.sound.ascending Handles

pub put-requires-in-Handles-clause-few : goal.put-requires-in-Handles-clause-few
put-requires-in-Handles-clause-few c = list-few (lists_in c.self.inside) Handles c.self.invariant.few

pub invariant_of-self : goal.invariant_of-self
invariant_of-self c = put-keeps c.self.inside _ c.self.view_is c.self.invariant c.args.revision c.args.value c.requires.granted c.requires.sound Singles (ap shelf_of (sym c.of_record.ensures) ∙ sym c.of-shelf.ensures ∙ c.in-Singles.is) _ c.put.ensures.rows c.put.ensures.replaced c.put.ensures.added

pub invariant_of-self-in-Blocks : goal.invariant_of-self-in-Blocks
invariant_of-self-in-Blocks c = put-keeps c.self.inside _ c.self.view_is c.self.invariant c.args.revision c.args.value c.requires.granted c.requires.sound Blocks (ap shelf_of (sym c.of_record.ensures) ∙ sym c.of-shelf.ensures ∙ c.in-Blocks.is) _ c.put-in-Blocks.ensures.rows c.put-in-Blocks.ensures.replaced c.put-in-Blocks.ensures.added

pub invariant_of-self-in-Affinities : goal.invariant_of-self-in-Affinities
invariant_of-self-in-Affinities c = put-keeps c.self.inside _ c.self.view_is c.self.invariant c.args.revision c.args.value c.requires.granted c.requires.sound Affinities (ap shelf_of (sym c.of_record.ensures) ∙ sym c.of-shelf.ensures ∙ c.in-Affinities.is) _ c.put-in-Affinities.ensures.rows c.put-in-Affinities.ensures.replaced c.put-in-Affinities.ensures.added

pub invariant_of-self-in-Handles : goal.invariant_of-self-in-Handles
invariant_of-self-in-Handles c = put-keeps c.self.inside _ c.self.view_is c.self.invariant c.args.revision c.args.value c.requires.granted c.requires.sound Handles (ap shelf_of (sym c.of_record.ensures) ∙ sym c.of-shelf.ensures ∙ c.in-Handles.is) _ c.put-in-Handles.ensures.rows c.put-in-Handles.ensures.replaced c.put-in-Handles.ensures.added

pub returns-in-Singles-clause-store : goal.returns-in-Singles-clause-store
returns-in-Singles-clause-store c = put-stores c.self.inside _ c.self.view_is c.self.invariant.shelved c.args.revision c.args.value Singles (ap shelf_of (sym c.of_record.ensures) ∙ sym c.of-shelf.ensures ∙ c.in-Singles.is) _ c.put.ensures.rows

pub returns-in-Blocks-clause-store : goal.returns-in-Blocks-clause-store
returns-in-Blocks-clause-store c = put-stores c.self.inside _ c.self.view_is c.self.invariant.shelved c.args.revision c.args.value Blocks (ap shelf_of (sym c.of_record.ensures) ∙ sym c.of-shelf.ensures ∙ c.in-Blocks.is) _ c.put-in-Blocks.ensures.rows

pub returns-in-Affinities-clause-store : goal.returns-in-Affinities-clause-store
returns-in-Affinities-clause-store c = put-stores c.self.inside _ c.self.view_is c.self.invariant.shelved c.args.revision c.args.value Affinities (ap shelf_of (sym c.of_record.ensures) ∙ sym c.of-shelf.ensures ∙ c.in-Affinities.is) _ c.put-in-Affinities.ensures.rows

pub returns-in-Handles-clause-store : goal.returns-in-Handles-clause-store
returns-in-Handles-clause-store c = put-stores c.self.inside _ c.self.view_is c.self.invariant.shelved c.args.revision c.args.value Handles (ap shelf_of (sym c.of_record.ensures) ∙ sym c.of-shelf.ensures ∙ c.in-Handles.is) _ c.put-in-Handles.ensures.rows
