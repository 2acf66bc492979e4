use Rattle.std.proofs.Common.{◌∙◌, sym, arith}
use Rattle.ipam_select.proofs.Ascending.{put_less, put_equal, put_greater}
use Rattle.ipam_select.proofs.values.place.Goals as goal

pub returns-in-Less : goal.returns-in-Less
returns-in-Less c = (
  omega arith,
  c.loop-at.invariant ∙ put_less c.args.text.now c.args.all.now c.loop-at.at c.index-all-at.result c.loop-at-test.true c.index-all-at.is (sym c.cmp.ensures ∙ c.in-Less.is),
)

pub returns-in-Equal : goal.returns-in-Equal
returns-in-Equal c =
    c.loop-at.invariant ∙ put_equal c.args.text.now c.args.all.now c.loop-at.at c.index-all-at.result c.loop-at-test.true c.index-all-at.is (sym c.cmp.ensures ∙ c.in-Equal.is)

pub loop-at-preserved : goal.loop-at-preserved
loop-at-preserved c =
    c.loop-at.invariant ∙ put_greater c.args.text.now c.args.all.now c.loop-at.at c.index-all-at.result c.loop-at-test.true c.index-all-at.is (sym c.cmp.ensures ∙ c.in-Greater.is)
