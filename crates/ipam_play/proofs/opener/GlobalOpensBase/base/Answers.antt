use Rattle.std.proofs.Common.{List, sym, subst}
use Rattle.std.specs.List.Sorted.{IsPermutation}
use Rattle.ipam_records.specs.declared.call.Row.{Row}
use Rattle.ipam_model.specs.Opened.{AreByKey}
use Rattle.ipam_play.proofs.opener.GlobalOpensBase.base.Goals as goal

pub returns-clause-by_key : goal.returns-clause-by_key
returns-clause-by_key c = subst AreByKey (sym c.in_ok-listed.ensures.rows) c.in_ok-listed.ensures.by_key

pub returns-clause-texts : goal.returns-clause-texts
returns-clause-texts c = λ gathered h. record {
  by_key = subst AreByKey (sym c.in_ok-listed.ensures.rows) c.in_ok-listed.ensures.by_key;
  same_rows = subst (λ (l : List Row). IsPermutation gathered.rows l) (sym c.in_ok-listed.ensures.rows) h.same_rows;
  counter = h.counter;
}
