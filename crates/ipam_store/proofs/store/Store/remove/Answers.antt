use Rattle.std.proofs.Common.{sym, ◌∙◌}
use Rattle.ipam_store.specs.declared.shelf.Shelf.TheVariants.{Singles, Blocks, Affinities, Handles}
use Rattle.ipam_store.specs.Keeping.{lists_in}
use Rattle.ipam_records.specs.KeyRef.{owned_key}
use Rattle.ipam_store.proofs.Keeping.{Ascend-list}
use Rattle.ipam_store.proofs.Kept.{remove-keeps, remove-stores}
use Rattle.ipam_store.proofs.store.Store.remove.Goals as goal

pub remove-requires : goal.remove-requires
remove-requires c = Ascend-list (lists_in c.self.inside) c.self.invariant.sound.ascending Singles

pub remove-requires-in-Affinities : goal.remove-requires-in-Affinities
remove-requires-in-Affinities c = Ascend-list (lists_in c.self.inside) c.self.invariant.sound.ascending Affinities

pub remove-requires-in-Handles : goal.remove-requires-in-Handles
remove-requires-in-Handles c = Ascend-list (lists_in c.self.inside) c.self.invariant.sound.ascending Handles

pub invariant_of-self : goal.invariant_of-self
invariant_of-self c = remove-keeps c.self.inside _ c.self.view_is c.self.invariant c.args.revision (owned_key c.args.key.now) c.requires.granted Singles (sym c.of.ensures ∙ c.in-Singles.is) _ c.remove.ensures.rows c.remove.ensures.fewer

pub invariant_of-self-in-Blocks : goal.invariant_of-self-in-Blocks
invariant_of-self-in-Blocks c = remove-keeps c.self.inside _ c.self.view_is c.self.invariant c.args.revision (owned_key c.args.key.now) c.requires.granted Blocks (sym c.of.ensures ∙ c.in-Blocks.is) _ c.remove-in-Blocks.ensures.rows c.remove-in-Blocks.ensures.fewer

pub invariant_of-self-in-Affinities : goal.invariant_of-self-in-Affinities
invariant_of-self-in-Affinities c = remove-keeps c.self.inside _ c.self.view_is c.self.invariant c.args.revision (owned_key c.args.key.now) c.requires.granted Affinities (sym c.of.ensures ∙ c.in-Affinities.is) _ c.remove-in-Affinities.ensures.rows c.remove-in-Affinities.ensures.fewer

pub invariant_of-self-in-Handles : goal.invariant_of-self-in-Handles
invariant_of-self-in-Handles c = remove-keeps c.self.inside _ c.self.view_is c.self.invariant c.args.revision (owned_key c.args.key.now) c.requires.granted Handles (sym c.of.ensures ∙ c.in-Handles.is) _ c.remove-in-Handles.ensures.rows c.remove-in-Handles.ensures.fewer

pub returns-in-Singles-clause-store : goal.returns-in-Singles-clause-store
returns-in-Singles-clause-store c = remove-stores c.self.inside _ c.self.view_is c.self.invariant.shelved c.args.revision (owned_key c.args.key.now) Singles (sym c.of.ensures ∙ c.in-Singles.is) _ c.remove.ensures.rows

pub returns-in-Blocks-clause-store : goal.returns-in-Blocks-clause-store
returns-in-Blocks-clause-store c = remove-stores c.self.inside _ c.self.view_is c.self.invariant.shelved c.args.revision (owned_key c.args.key.now) Blocks (sym c.of.ensures ∙ c.in-Blocks.is) _ c.remove-in-Blocks.ensures.rows

pub returns-in-Affinities-clause-store : goal.returns-in-Affinities-clause-store
returns-in-Affinities-clause-store c = remove-stores c.self.inside _ c.self.view_is c.self.invariant.shelved c.args.revision (owned_key c.args.key.now) Affinities (sym c.of.ensures ∙ c.in-Affinities.is) _ c.remove-in-Affinities.ensures.rows

pub returns-in-Handles-clause-store : goal.returns-in-Handles-clause-store
returns-in-Handles-clause-store c = remove-stores c.self.inside _ c.self.view_is c.self.invariant.shelved c.args.revision (owned_key c.args.key.now) Handles (sym c.of.ensures ∙ c.in-Handles.is) _ c.remove-in-Handles.ensures.rows
