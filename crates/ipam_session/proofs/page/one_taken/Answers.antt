use Rattle.std.proofs.Common.{◌≡◌, ℕ, ◌∙◌, Option, Some, None, option_to_list, sym, ap}
use Rattle.ipam_records.specs.declared.record.Record.{Record}
use Rattle.ipam_records.specs.Datastore.{reply_to_get}
use Rattle.ipam_records.specs.Said.{Found}
use Rattle.ipam_session.specs.Page.{SoFar, first_taken, taken_from, with_next}
use Rattle.ipam_session.proofs.page.one_taken.Goals as goal

row-found : (revision : ℕ) (found : Record) (row : Option (ℕ × Record)) → Found revision found ≡ reply_to_get row → row ≡ Some (revision, found)
row-found revision found (Some (other, kept)) e = cc
row-found revision found None e = cc

pub returns-in-Found : goal.returns-in-Found
returns-in-Found c =
    let row = row-found c.in-Found.revision c.in-Found.found.now _ c.in-Found.ensures.reply in
    c.in_ok-take_row-in-Found.ensures
    ∙ ap (λ (t : SoFar). with_next c.args.after.now t (c.in-Found.revision, c.in-Found.found.now)) c.first-taken.ensures
    ∙ sym (ap (λ (o : Option (ℕ × Record)). taken_from c.args.after.now first_taken (option_to_list o)) row)
