use Rattle.std.proofs.Common.{ap, sym, subst}
use Rattle.ipam_session.specs.declared.page.Page.{Page}
use Rattle.ipam_session.specs.Page.{IsFrontPage, page_with}
use Rattle.ipam_session.proofs.Fronts.{front-page}
use Rattle.ipam_session.proofs.page.page_of.Goals as goal

pub returns-clause-exact : goal.returns-clause-exact
returns-clause-exact c =
    rw (c.counter.ensures.value, c.of.ensures) (ap (page_with c.args.store.now.store.counter) c.in_ok-taken.ensures)

pub returns-clause-front : goal.returns-clause-front
returns-clause-front c =
    let front = front-page c.args.store.now.store c.args.kind c.args.after.now in
    subst (λ (p : Page). IsFrontPage c.args.store.now.store c.args.kind c.args.after.now p) (sym (returns-clause-exact c)) front
