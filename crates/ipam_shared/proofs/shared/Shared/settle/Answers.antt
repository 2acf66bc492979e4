use Rattle.std.proofs.Common.{◌≡◌, ◌↔◌, ℕ, ◌+◌, [], Some, IfSome, Ok, Err, Result, refl, sym, ap, ◌∙◌, subst, arith}
use Rattle.ipam_shared.specs.PassValue.{PassValue}
use Rattle.ipam_shared.specs.Passes.{IsReached, IsSamePass, IsLawfulPass}
use Rattle.ipam_shared.specs.Settling.{IsSure, KnowsSure, Settles, SettlesAs, WasSettled}
use Rattle.ipam_shared.specs.Turning.{HadTurn, OnSpent, SeesNext, UnlessSpent, WasDone}
use Rattle.ipam_shared.proofs.Settled.{made_as, settle-made, settle-reached, settle-unmade, settled_to, turn-done, turn-same, turn-sees, unmade_as, unmade-done, unmade-left, unmade-same, unmade-sees, unmade-spent, unmade-sure, unmade-unchanged}
use Rattle.ipam_shared.proofs.shared.Shared.settle.Goals as goal

pub tell-requires : goal.tell-requires
tell-requires g c =
    subst (λ (n : ℕ). IsReached (record c.take_turn.new.pass { moment = n })) (sym c.moment-moment.ensures.is)
    (settle-reached g.D.Keeper.rows g.D.Keeper.settled g.D.Keeper.faults g.D.Keeper.broken c.args.pass.now c.take_turn.new.pass c.take_turn.result c.answered-settled.result c.answered-settled.ensures c.take_turn.ensures.spent c.take_turn.ensures.unchanged
    (subst (λ (n : ℕ). IfSome c.take_turn.result (λ given. HadTurn g.D.Keeper.rows g.D.Keeper.settled (λ before after. Settles g.D.Keeper.rows g.D.Keeper.settled g.D.Keeper.faults g.D.Keeper.broken n before given after) c.args.pass.now [] c.take_turn.new.pass)) c.moment-moment.ensures.is c.take_turn.ensures.turned)
    c.moment-moment.ensures.reached)

pub returns-in-Ok-clause-spent : goal.returns-in-Ok-clause-spent
returns-in-Ok-clause-spent g c =
    let made = settle-made g.D.Keeper.rows g.D.Keeper.settled g.D.Keeper.faults g.D.Keeper.broken c.args.pass.now c.take_turn.new.pass c.take_turn.result c.answered-settled.result c.answered-settled.ensures c.take_turn.ensures.spent c.take_turn.ensures.unchanged
    (subst (λ (n : ℕ). IfSome c.take_turn.result (λ given. HadTurn g.D.Keeper.rows g.D.Keeper.settled (λ before after. Settles g.D.Keeper.rows g.D.Keeper.settled g.D.Keeper.faults g.D.Keeper.broken n before given after) c.args.pass.now [] c.take_turn.new.pass)) c.moment-moment.ensures.is c.take_turn.ensures.turned)
    c.moment-moment.ensures.reached c.in-Ok.count c.in-Ok.is in
    let left = made.turn.left in
    ((λ e. absurd (cc e)), λ none. absurd (omega arith))

pub returns-in-Ok-clause-left : goal.returns-in-Ok-clause-left
returns-in-Ok-clause-left g c =
    let is : c.know_sure.new.self ≡ settled_to c.args.pass.now c.take_turn.new.pass (Some c.in-Ok.count) = c.know_sure.ensures ∙ ap (λ (p : PassValue). record p { sure = Some c.in-Ok.count }) (c.tell.ensures ∙ ap (λ (n : ℕ). record c.take_turn.new.pass { moment = n }) c.moment-moment.ensures.is) in
    let made = settle-made g.D.Keeper.rows g.D.Keeper.settled g.D.Keeper.faults g.D.Keeper.broken c.args.pass.now c.take_turn.new.pass c.take_turn.result c.answered-settled.result c.answered-settled.ensures c.take_turn.ensures.spent c.take_turn.ensures.unchanged
    (subst (λ (n : ℕ). IfSome c.take_turn.result (λ given. HadTurn g.D.Keeper.rows g.D.Keeper.settled (λ before after. Settles g.D.Keeper.rows g.D.Keeper.settled g.D.Keeper.faults g.D.Keeper.broken n before given after) c.args.pass.now [] c.take_turn.new.pass)) c.moment-moment.ensures.is c.take_turn.ensures.turned)
    c.moment-moment.ensures.reached c.in-Ok.count c.in-Ok.is in
    subst (λ (p : PassValue). p.left + 1 ≡ c.args.pass.now.left) (sym is) (made.turn.left)

pub returns-in-Ok-clause-same : goal.returns-in-Ok-clause-same
returns-in-Ok-clause-same g c =
    let is : c.know_sure.new.self ≡ settled_to c.args.pass.now c.take_turn.new.pass (Some c.in-Ok.count) = c.know_sure.ensures ∙ ap (λ (p : PassValue). record p { sure = Some c.in-Ok.count }) (c.tell.ensures ∙ ap (λ (n : ℕ). record c.take_turn.new.pass { moment = n }) c.moment-moment.ensures.is) in
    let made = settle-made g.D.Keeper.rows g.D.Keeper.settled g.D.Keeper.faults g.D.Keeper.broken c.args.pass.now c.take_turn.new.pass c.take_turn.result c.answered-settled.result c.answered-settled.ensures c.take_turn.ensures.spent c.take_turn.ensures.unchanged
    (subst (λ (n : ℕ). IfSome c.take_turn.result (λ given. HadTurn g.D.Keeper.rows g.D.Keeper.settled (λ before after. Settles g.D.Keeper.rows g.D.Keeper.settled g.D.Keeper.faults g.D.Keeper.broken n before given after) c.args.pass.now [] c.take_turn.new.pass)) c.moment-moment.ensures.is c.take_turn.ensures.turned)
    c.moment-moment.ensures.reached c.in-Ok.count c.in-Ok.is in
    subst (λ (p : PassValue). IsSamePass c.args.pass.now p) (sym is) (turn-same g.D.Keeper.rows g.D.Keeper.settled g.D.Keeper.faults g.D.Keeper.broken c.args.pass.now c.take_turn.new.pass made.turn (Some c.in-Ok.count))

pub returns-in-Ok-clause-moment : goal.returns-in-Ok-clause-moment
returns-in-Ok-clause-moment g c =
    let is : c.know_sure.new.self ≡ settled_to c.args.pass.now c.take_turn.new.pass (Some c.in-Ok.count) = c.know_sure.ensures ∙ ap (λ (p : PassValue). record p { sure = Some c.in-Ok.count }) (c.tell.ensures ∙ ap (λ (n : ℕ). record c.take_turn.new.pass { moment = n }) c.moment-moment.ensures.is) in
    subst (λ (p : PassValue). p.moment ≡ c.args.pass.now.moment) (sym is) (refl)

pub returns-in-Ok-clause-seen : goal.returns-in-Ok-clause-seen
returns-in-Ok-clause-seen g c =
    let is : c.know_sure.new.self ≡ settled_to c.args.pass.now c.take_turn.new.pass (Some c.in-Ok.count) = c.know_sure.ensures ∙ ap (λ (p : PassValue). record p { sure = Some c.in-Ok.count }) (c.tell.ensures ∙ ap (λ (n : ℕ). record c.take_turn.new.pass { moment = n }) c.moment-moment.ensures.is) in
    let made = settle-made g.D.Keeper.rows g.D.Keeper.settled g.D.Keeper.faults g.D.Keeper.broken c.args.pass.now c.take_turn.new.pass c.take_turn.result c.answered-settled.result c.answered-settled.ensures c.take_turn.ensures.spent c.take_turn.ensures.unchanged
    (subst (λ (n : ℕ). IfSome c.take_turn.result (λ given. HadTurn g.D.Keeper.rows g.D.Keeper.settled (λ before after. Settles g.D.Keeper.rows g.D.Keeper.settled g.D.Keeper.faults g.D.Keeper.broken n before given after) c.args.pass.now [] c.take_turn.new.pass)) c.moment-moment.ensures.is c.take_turn.ensures.turned)
    c.moment-moment.ensures.reached c.in-Ok.count c.in-Ok.is in
    subst (λ (p : PassValue). SeesNext c.args.pass.now [] p) (sym is) (turn-sees g.D.Keeper.rows g.D.Keeper.settled g.D.Keeper.faults g.D.Keeper.broken c.args.pass.now c.take_turn.new.pass made.turn (Some c.in-Ok.count))

pub returns-in-Ok-clause-lawful : goal.returns-in-Ok-clause-lawful
returns-in-Ok-clause-lawful g c =
    let is : c.know_sure.new.self ≡ settled_to c.args.pass.now c.take_turn.new.pass (Some c.in-Ok.count) = c.know_sure.ensures ∙ ap (λ (p : PassValue). record p { sure = Some c.in-Ok.count }) (c.tell.ensures ∙ ap (λ (n : ℕ). record c.take_turn.new.pass { moment = n }) c.moment-moment.ensures.is) in
    subst (λ (p : PassValue). IsLawfulPass p) (sym is) (c.take_turn.ensures.lawful)

pub returns-in-Ok-clause-settled : goal.returns-in-Ok-clause-settled
returns-in-Ok-clause-settled g c =
    let is : c.know_sure.new.self ≡ settled_to c.args.pass.now c.take_turn.new.pass (Some c.in-Ok.count) = c.know_sure.ensures ∙ ap (λ (p : PassValue). record p { sure = Some c.in-Ok.count }) (c.tell.ensures ∙ ap (λ (n : ℕ). record c.take_turn.new.pass { moment = n }) c.moment-moment.ensures.is) in
    let made = settle-made g.D.Keeper.rows g.D.Keeper.settled g.D.Keeper.faults g.D.Keeper.broken c.args.pass.now c.take_turn.new.pass c.take_turn.result c.answered-settled.result c.answered-settled.ensures c.take_turn.ensures.spent c.take_turn.ensures.unchanged
    (subst (λ (n : ℕ). IfSome c.take_turn.result (λ given. HadTurn g.D.Keeper.rows g.D.Keeper.settled (λ before after. Settles g.D.Keeper.rows g.D.Keeper.settled g.D.Keeper.faults g.D.Keeper.broken n before given after) c.args.pass.now [] c.take_turn.new.pass)) c.moment-moment.ensures.is c.take_turn.ensures.turned)
    c.moment-moment.ensures.reached c.in-Ok.count c.in-Ok.is in
    subst (λ (p : PassValue). WasSettled g.D.Keeper.rows g.D.Keeper.settled p) (sym is) (made.settled)

pub returns-in-Ok-clause-knows : goal.returns-in-Ok-clause-knows
returns-in-Ok-clause-knows g c =
    let is : c.know_sure.new.self ≡ settled_to c.args.pass.now c.take_turn.new.pass (Some c.in-Ok.count) = c.know_sure.ensures ∙ ap (λ (p : PassValue). record p { sure = Some c.in-Ok.count }) (c.tell.ensures ∙ ap (λ (n : ℕ). record c.take_turn.new.pass { moment = n }) c.moment-moment.ensures.is) in
    let made = settle-made g.D.Keeper.rows g.D.Keeper.settled g.D.Keeper.faults g.D.Keeper.broken c.args.pass.now c.take_turn.new.pass c.take_turn.result c.answered-settled.result c.answered-settled.ensures c.take_turn.ensures.spent c.take_turn.ensures.unchanged
    (subst (λ (n : ℕ). IfSome c.take_turn.result (λ given. HadTurn g.D.Keeper.rows g.D.Keeper.settled (λ before after. Settles g.D.Keeper.rows g.D.Keeper.settled g.D.Keeper.faults g.D.Keeper.broken n before given after) c.args.pass.now [] c.take_turn.new.pass)) c.moment-moment.ensures.is c.take_turn.ensures.turned)
    c.moment-moment.ensures.reached c.in-Ok.count c.in-Ok.is in
    subst (λ (p : PassValue). KnowsSure p × IsSure g.D.Keeper.rows g.D.Keeper.settled p) (sym is) ((made.knows, made.is_sure))

pub returns-in-Ok-clause-keeper : goal.returns-in-Ok-clause-keeper
returns-in-Ok-clause-keeper g c =
    let is : c.know_sure.new.self ≡ settled_to c.args.pass.now c.take_turn.new.pass (Some c.in-Ok.count) = c.know_sure.ensures ∙ ap (λ (p : PassValue). record p { sure = Some c.in-Ok.count }) (c.tell.ensures ∙ ap (λ (n : ℕ). record c.take_turn.new.pass { moment = n }) c.moment-moment.ensures.is) in
    let made = settle-made g.D.Keeper.rows g.D.Keeper.settled g.D.Keeper.faults g.D.Keeper.broken c.args.pass.now c.take_turn.new.pass c.take_turn.result c.answered-settled.result c.answered-settled.ensures c.take_turn.ensures.spent c.take_turn.ensures.unchanged
    (subst (λ (n : ℕ). IfSome c.take_turn.result (λ given. HadTurn g.D.Keeper.rows g.D.Keeper.settled (λ before after. Settles g.D.Keeper.rows g.D.Keeper.settled g.D.Keeper.faults g.D.Keeper.broken n before given after) c.args.pass.now [] c.take_turn.new.pass)) c.moment-moment.ensures.is c.take_turn.ensures.turned)
    c.moment-moment.ensures.reached c.in-Ok.count c.in-Ok.is in
    subst (λ (p : PassValue). WasDone g.D.Keeper.rows (SettlesAs g.D.Keeper.rows g.D.Keeper.settled g.D.Keeper.faults g.D.Keeper.broken c.args.pass.now.moment made_as) [] p) (sym is) (turn-done g.D.Keeper.rows g.D.Keeper.settled g.D.Keeper.faults g.D.Keeper.broken c.args.pass.now c.take_turn.new.pass made.turn (Some c.in-Ok.count) (λ before after did. did.1))

pub returns-in-Err-clause-spent : goal.returns-in-Err-clause-spent
returns-in-Err-clause-spent g c =
    let unmade = settle-unmade g.D.Keeper.rows g.D.Keeper.settled g.D.Keeper.faults g.D.Keeper.broken c.args.pass.now c.take_turn.new.pass c.take_turn.result c.answered-settled.result c.answered-settled.ensures c.take_turn.ensures.spent c.take_turn.ensures.unchanged
    (subst (λ (n : ℕ). IfSome c.take_turn.result (λ given. HadTurn g.D.Keeper.rows g.D.Keeper.settled (λ before after. Settles g.D.Keeper.rows g.D.Keeper.settled g.D.Keeper.faults g.D.Keeper.broken n before given after) c.args.pass.now [] c.take_turn.new.pass)) c.moment-moment.ensures.is c.take_turn.ensures.turned)
    c.moment-moment.ensures.reached c.in-Err.fault c.in-Err.is in
    unmade-spent g.D.Keeper.rows g.D.Keeper.settled g.D.Keeper.faults g.D.Keeper.broken c.args.pass.now c.take_turn.new.pass c.in-Err.fault unmade

pub returns-in-Err-clause-unchanged : goal.returns-in-Err-clause-unchanged
returns-in-Err-clause-unchanged g c =
    let is : c.tell.new.self ≡ settled_to c.args.pass.now c.take_turn.new.pass c.take_turn.new.pass.sure = c.tell.ensures ∙ ap (λ (n : ℕ). record c.take_turn.new.pass { moment = n }) c.moment-moment.ensures.is in
    let unmade = settle-unmade g.D.Keeper.rows g.D.Keeper.settled g.D.Keeper.faults g.D.Keeper.broken c.args.pass.now c.take_turn.new.pass c.take_turn.result c.answered-settled.result c.answered-settled.ensures c.take_turn.ensures.spent c.take_turn.ensures.unchanged
    (subst (λ (n : ℕ). IfSome c.take_turn.result (λ given. HadTurn g.D.Keeper.rows g.D.Keeper.settled (λ before after. Settles g.D.Keeper.rows g.D.Keeper.settled g.D.Keeper.faults g.D.Keeper.broken n before given after) c.args.pass.now [] c.take_turn.new.pass)) c.moment-moment.ensures.is c.take_turn.ensures.turned)
    c.moment-moment.ensures.reached c.in-Err.fault c.in-Err.is in
    subst (λ (p : PassValue). OnSpent (unmade_as c.in-Err.fault) (p ≡ c.args.pass.now)) (sym is) (unmade-unchanged g.D.Keeper.rows g.D.Keeper.settled g.D.Keeper.faults g.D.Keeper.broken c.args.pass.now c.take_turn.new.pass c.in-Err.fault unmade)

pub returns-in-Err-clause-left : goal.returns-in-Err-clause-left
returns-in-Err-clause-left g c =
    let is : c.tell.new.self ≡ settled_to c.args.pass.now c.take_turn.new.pass c.take_turn.new.pass.sure = c.tell.ensures ∙ ap (λ (n : ℕ). record c.take_turn.new.pass { moment = n }) c.moment-moment.ensures.is in
    let unmade = settle-unmade g.D.Keeper.rows g.D.Keeper.settled g.D.Keeper.faults g.D.Keeper.broken c.args.pass.now c.take_turn.new.pass c.take_turn.result c.answered-settled.result c.answered-settled.ensures c.take_turn.ensures.spent c.take_turn.ensures.unchanged
    (subst (λ (n : ℕ). IfSome c.take_turn.result (λ given. HadTurn g.D.Keeper.rows g.D.Keeper.settled (λ before after. Settles g.D.Keeper.rows g.D.Keeper.settled g.D.Keeper.faults g.D.Keeper.broken n before given after) c.args.pass.now [] c.take_turn.new.pass)) c.moment-moment.ensures.is c.take_turn.ensures.turned)
    c.moment-moment.ensures.reached c.in-Err.fault c.in-Err.is in
    subst (λ (p : PassValue). UnlessSpent (unmade_as c.in-Err.fault) (p.left + 1 ≡ c.args.pass.now.left)) (sym is) (unmade-left g.D.Keeper.rows g.D.Keeper.settled g.D.Keeper.faults g.D.Keeper.broken c.args.pass.now c.take_turn.new.pass c.in-Err.fault unmade)

pub returns-in-Err-clause-same : goal.returns-in-Err-clause-same
returns-in-Err-clause-same g c =
    let is : c.tell.new.self ≡ settled_to c.args.pass.now c.take_turn.new.pass c.take_turn.new.pass.sure = c.tell.ensures ∙ ap (λ (n : ℕ). record c.take_turn.new.pass { moment = n }) c.moment-moment.ensures.is in
    let unmade = settle-unmade g.D.Keeper.rows g.D.Keeper.settled g.D.Keeper.faults g.D.Keeper.broken c.args.pass.now c.take_turn.new.pass c.take_turn.result c.answered-settled.result c.answered-settled.ensures c.take_turn.ensures.spent c.take_turn.ensures.unchanged
    (subst (λ (n : ℕ). IfSome c.take_turn.result (λ given. HadTurn g.D.Keeper.rows g.D.Keeper.settled (λ before after. Settles g.D.Keeper.rows g.D.Keeper.settled g.D.Keeper.faults g.D.Keeper.broken n before given after) c.args.pass.now [] c.take_turn.new.pass)) c.moment-moment.ensures.is c.take_turn.ensures.turned)
    c.moment-moment.ensures.reached c.in-Err.fault c.in-Err.is in
    subst (λ (p : PassValue). IsSamePass c.args.pass.now p) (sym is) (unmade-same g.D.Keeper.rows g.D.Keeper.settled g.D.Keeper.faults g.D.Keeper.broken c.args.pass.now c.take_turn.new.pass c.in-Err.fault unmade)

pub returns-in-Err-clause-moment : goal.returns-in-Err-clause-moment
returns-in-Err-clause-moment g c =
    let is : c.tell.new.self ≡ settled_to c.args.pass.now c.take_turn.new.pass c.take_turn.new.pass.sure = c.tell.ensures ∙ ap (λ (n : ℕ). record c.take_turn.new.pass { moment = n }) c.moment-moment.ensures.is in
    subst (λ (p : PassValue). p.moment ≡ c.args.pass.now.moment) (sym is) (refl)

pub returns-in-Err-clause-seen : goal.returns-in-Err-clause-seen
returns-in-Err-clause-seen g c =
    let is : c.tell.new.self ≡ settled_to c.args.pass.now c.take_turn.new.pass c.take_turn.new.pass.sure = c.tell.ensures ∙ ap (λ (n : ℕ). record c.take_turn.new.pass { moment = n }) c.moment-moment.ensures.is in
    let unmade = settle-unmade g.D.Keeper.rows g.D.Keeper.settled g.D.Keeper.faults g.D.Keeper.broken c.args.pass.now c.take_turn.new.pass c.take_turn.result c.answered-settled.result c.answered-settled.ensures c.take_turn.ensures.spent c.take_turn.ensures.unchanged
    (subst (λ (n : ℕ). IfSome c.take_turn.result (λ given. HadTurn g.D.Keeper.rows g.D.Keeper.settled (λ before after. Settles g.D.Keeper.rows g.D.Keeper.settled g.D.Keeper.faults g.D.Keeper.broken n before given after) c.args.pass.now [] c.take_turn.new.pass)) c.moment-moment.ensures.is c.take_turn.ensures.turned)
    c.moment-moment.ensures.reached c.in-Err.fault c.in-Err.is in
    subst (λ (p : PassValue). UnlessSpent (unmade_as c.in-Err.fault) (SeesNext c.args.pass.now [] p)) (sym is) (unmade-sees g.D.Keeper.rows g.D.Keeper.settled g.D.Keeper.faults g.D.Keeper.broken c.args.pass.now c.take_turn.new.pass c.in-Err.fault unmade)

pub returns-in-Err-clause-lawful : goal.returns-in-Err-clause-lawful
returns-in-Err-clause-lawful g c =
    let is : c.tell.new.self ≡ settled_to c.args.pass.now c.take_turn.new.pass c.take_turn.new.pass.sure = c.tell.ensures ∙ ap (λ (n : ℕ). record c.take_turn.new.pass { moment = n }) c.moment-moment.ensures.is in
    subst (λ (p : PassValue). IsLawfulPass p) (sym is) (c.take_turn.ensures.lawful)

pub returns-in-Err-clause-not_known : goal.returns-in-Err-clause-not_known
returns-in-Err-clause-not_known g c =
    let is : c.tell.new.self ≡ settled_to c.args.pass.now c.take_turn.new.pass c.take_turn.new.pass.sure = c.tell.ensures ∙ ap (λ (n : ℕ). record c.take_turn.new.pass { moment = n }) c.moment-moment.ensures.is in
    let unmade = settle-unmade g.D.Keeper.rows g.D.Keeper.settled g.D.Keeper.faults g.D.Keeper.broken c.args.pass.now c.take_turn.new.pass c.take_turn.result c.answered-settled.result c.answered-settled.ensures c.take_turn.ensures.spent c.take_turn.ensures.unchanged
    (subst (λ (n : ℕ). IfSome c.take_turn.result (λ given. HadTurn g.D.Keeper.rows g.D.Keeper.settled (λ before after. Settles g.D.Keeper.rows g.D.Keeper.settled g.D.Keeper.faults g.D.Keeper.broken n before given after) c.args.pass.now [] c.take_turn.new.pass)) c.moment-moment.ensures.is c.take_turn.ensures.turned)
    c.moment-moment.ensures.reached c.in-Err.fault c.in-Err.is in
    subst (λ (p : PassValue). p.sure ≡ c.args.pass.now.sure) (sym is) (unmade-sure g.D.Keeper.rows g.D.Keeper.settled g.D.Keeper.faults g.D.Keeper.broken c.args.pass.now c.take_turn.new.pass c.in-Err.fault unmade)

pub returns-in-Err-clause-keeper : goal.returns-in-Err-clause-keeper
returns-in-Err-clause-keeper g c =
    let is : c.tell.new.self ≡ settled_to c.args.pass.now c.take_turn.new.pass c.take_turn.new.pass.sure = c.tell.ensures ∙ ap (λ (n : ℕ). record c.take_turn.new.pass { moment = n }) c.moment-moment.ensures.is in
    let unmade = settle-unmade g.D.Keeper.rows g.D.Keeper.settled g.D.Keeper.faults g.D.Keeper.broken c.args.pass.now c.take_turn.new.pass c.take_turn.result c.answered-settled.result c.answered-settled.ensures c.take_turn.ensures.spent c.take_turn.ensures.unchanged
    (subst (λ (n : ℕ). IfSome c.take_turn.result (λ given. HadTurn g.D.Keeper.rows g.D.Keeper.settled (λ before after. Settles g.D.Keeper.rows g.D.Keeper.settled g.D.Keeper.faults g.D.Keeper.broken n before given after) c.args.pass.now [] c.take_turn.new.pass)) c.moment-moment.ensures.is c.take_turn.ensures.turned)
    c.moment-moment.ensures.reached c.in-Err.fault c.in-Err.is in
    subst (λ (p : PassValue). UnlessSpent (unmade_as c.in-Err.fault) (WasDone g.D.Keeper.rows (SettlesAs g.D.Keeper.rows g.D.Keeper.settled g.D.Keeper.faults g.D.Keeper.broken c.args.pass.now.moment (unmade_as c.in-Err.fault)) [] p)) (sym is) (unmade-done g.D.Keeper.rows g.D.Keeper.settled g.D.Keeper.faults g.D.Keeper.broken c.args.pass.now c.take_turn.new.pass c.in-Err.fault unmade)
