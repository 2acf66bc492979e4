use Rattle.std.proofs.Common.{ap, sym, ◌∙◌, subst}
use Rattle.ipam_model.specs.Choice.{IsChoice, choice_in}
use Rattle.ipam_model.proofs.ChoiceLemmas.{choice_is}
use Rattle.ipam_choice.specs.Viewed.{asked_of, seen_of}
use Rattle.ipam_choice.proofs.choosing.choose.Goals as goal

pub returns-in-Ok : goal.returns-in-Ok
returns-in-Ok c reservations all =
    let asked = asked_of c.args.wanted.now in
    let seen = seen_of c.args.view.now reservations in
    let picked = c.in-Ok.ensures reservations all in
    subst (IsChoice asked seen) (sym (c.choice.ensures ∙ ap choice_in picked)) (choice_is asked seen)
