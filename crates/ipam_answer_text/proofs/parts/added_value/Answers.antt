use Rattle.std.proofs.Common.{codes, ap, ◌∙◌}
use Rattle.std.proofs.lemmas.Result.{IfOk-weaker}
use Rattle.ipam_json.specs.Built.{tagged}
use Rattle.ipam_answer_text.specs.Answers.{given_data}
use Rattle.ipam_json.proofs.Steps.{written_more, written_all}
use Rattle.ipam_answer_text.proofs.parts.added_value.Goals as goal

pub loop-given-preserved : goal.loop-given-preserved
loop-given-preserved c =
    let l = c.loop-given in
    written_more given_data c.args.givens.now l.given-index c.given-item.result c.in_ok-given_value.field-0 l.list.items c.push.new.self.items c.loop-given-test.true c.given-item.is c.in_ok-given_value.ensures c.in_ok-push.ensures.items l.invariant

pub returns : goal.returns
returns c =
    let l = c.loop-given in
    IfOk-weaker c.tagged.result _ _ (λ v told. told ∙ ap (tagged (codes "added")) (written_all given_data c.args.givens.now l.given-index l.list c.loop-given-test.false l.invariant)) c.tagged.ensures
