use Rattle.std.proofs.Common.{Ok, Err, rules}
use Rattle.ipam_operator.specs.Rows.{NoPage}
use Rattle.ipam_operator.proofs.Pages.{asks_first, asks_last, asks_next}
use Rattle.ipam_operator.proofs.paging.ask_kind.Goals as goal

pub pages-init : goal.pages-init
pages-init g c = λ came last asks. asks_first c.args.kind _ (search rules) came _ last asks

pub pages-preserved : goal.pages-preserved
pages-preserved g c = λ came last asks.
    c.pages.invariant came last (asks_next c.args.kind c.pages.rows.items c.ask_page.new.rows.items c.in-Ok.more (search rules) came _ _ last c.in-Ok.ensures.asked asks)

pub returns-then-not-more : goal.returns-then-not-more
returns-then-not-more g c = record {
  asked = c.pages.invariant (Ok c.ask_page.new.rows.items) _
      (asks_last c.args.kind c.pages.rows.items c.ask_page.new.rows.items c.in-Ok.more (search rules) _ _ c.in-Ok.ensures.asked);
}

pub returns-in-Err : goal.returns-in-Err
returns-in-Err g c = record {
  asked = c.pages.invariant (Err c.in-Err.fault) _ (NoPage c.pages.rows.items c.in-Err.fault _ _ c.in-Err.ensures.asked);
}
