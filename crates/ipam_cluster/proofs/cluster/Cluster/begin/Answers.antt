use Rattle.std.proofs.Common.{◌≡◌, Some, None, arith, ap, sym, subst}
use Rattle.std.proofs.lemmas.Grind.{common_steps}
use Rattle.ipam_cluster.specs.Cluster.{slot_of_cluster, AddsTo}
use Rattle.ipam_model.specs.declared.entry.Entry.TheVariants as entry
use Rattle.ipam_model.specs.declared.request.Request.{Request}
use Rattle.ipam_cluster.proofs.Adding.{begins, stays_right}
use Rattle.ipam_cluster.proofs.SlotLemmas.{put_room}
use Rattle.ipam_cluster.proofs.cluster.Cluster.begin.Goals as goal

pub put-requires-clause-room : goal.put-requires-clause-room
put-requires-clause-room c =
    put_room c.args.self.now.slots.items c.args.slot c.args.self.now.entries (Some c.in-Ok-of.running) c.args.self.now.all_slots c.if-self-ge-MOST_ENTRIES.false

pub returns-clause-adds : goal.returns-clause-adds
returns-clause-adds c =
    let idle : slot_of_cluster c.args.self.now c.args.slot ≡ None = grind (arith, common_steps) in
    let added : AddsTo c.args.self.now c.put.new.self (entry.Began c.args.slot c.args.request.now) =
    begins c.args.self.now c.put.new.self c.args.slot c.in-Ok-of.running c.args.request.now
    c.requires.slot c.args.self.now.all_slots c.if-self-ge-MOST_ENTRIES.false idle c.requires.sound
    c.in-Ok-of.ensures.word c.in-Ok-of.ensures.grace (ap (λ s. s.store) c.put.ensures.store) c.put.ensures.entries c.put.ensures.slots in
    subst (λ (r : Request). AddsTo c.args.self.now c.put.new.self (entry.Began c.args.slot r)) (sym c.in-Ok.ensures) added

pub returns-clause-right : goal.returns-clause-right
returns-clause-right c =
    stays_right c.args.self.now c.put.new.self (entry.Began c.args.slot c.in-Ok.copy) (returns-clause-adds c)
