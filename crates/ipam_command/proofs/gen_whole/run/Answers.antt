use Rattle.std.proofs.Common.{length, refl, ap, ◌∙◌}
use Rattle.ipam_model.specs.Owners.{owners}
use Rattle.ipam_store.specs.Shape.{StoreValue}
use Rattle.ipam_command.proofs.CourseLemmas.{course}
use Rattle.ipam_command.proofs.gen_whole.run.Goals as goal

pub returns : goal.returns
returns c =
    course c.draw_all.new.counted c.run_all_out.new.counted c.collect.new.counted c.args.requests c.in_ok-freed.freed
    (record {
      requests = c.args.requests;
      entries = c.entries.result;
      owners = c.owners.result;
      again = c.run_all_out.new.counted.again;
      exhausted = c.run_all_out.new.counted.exhausted;
      freed = c.in_ok-freed.freed;
    })
    c.in_ok-draw_all.ensures c.in_ok-run_all_out.ensures.runs_out c.in_ok-freed.ensures refl c.entries.ensures
    (c.owners.ensures ∙ ap (λ (s : StoreValue). length (owners s.store)) c.store.ensures) refl refl refl
