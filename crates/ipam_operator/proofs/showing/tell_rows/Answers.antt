use Rattle.std.proofs.Common.{Some, None, refl}
use Rattle.ipam_operator.specs.Telling.{Said, Untold}
use Rattle.ipam_views.specs.Shown.{shown_text}
use Rattle.ipam_words.specs.Views.{seen_by}
use Rattle.ipam_operator.proofs.ShowSaying.{says_of}
use Rattle.ipam_operator.proofs.showing.tell_rows.Goals as goal

pub returns-in-Ok-Some-clause-told : goal.returns-in-Ok-Some-clause-told
returns-in-Ok-Some-clause-told g c =
    says_of (seen_by c.args.view.now) (Some c.in-Ok-Some.store.store) _ (rw c.in-Ok-Some.field-0-is at c.in-Ok-Some.ensures.store) _ _ _ _ _
    (c.tell_made.ensures.written (shown_text (seen_by c.args.view.now) c.in-Ok-Some.store.store) c.shown_text.ensures)

pub returns-in-Ok-None-clause-told : goal.returns-in-Ok-None-clause-told
returns-in-Ok-None-clause-told g c =
    says_of (seen_by c.args.view.now) None _ (rw c.in-Ok-None.field-0-is at c.in-Ok-None.ensures.store) _ _ _ _ _ (Said _ c.tell.ensures.written)

pub returns-in-Err-clause-told : goal.returns-in-Err-clause-told
returns-in-Err-clause-told g c = Untold tt refl refl
