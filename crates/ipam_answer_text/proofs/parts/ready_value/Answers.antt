use Rattle.std.proofs.Common.{codes, ap, ◌∙◌}
use Rattle.std.proofs.lemmas.Result.{IfOk-weaker}
use Rattle.ipam_json.specs.Built.{tagged}
use Rattle.ipam_answer_text.specs.Answers.{scan_data}
use Rattle.ipam_json.proofs.Steps.{written_all}
use Rattle.ipam_answer_text.proofs.parts.ready_value.Goals as goal

pub returns : goal.returns
returns c =
    let l = c.loop-scan in
    IfOk-weaker c.tagged.result _ _ (λ v told. told ∙ ap (tagged (codes "ready")) (written_all scan_data c.args.scans.now l.scan-index l.list c.loop-scan-test.false l.invariant)) c.tagged.ensures
