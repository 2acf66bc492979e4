use Rattle.std.proofs.Common.{sym, ap, ◌∙◌, arith, option_map}
use Rattle.serde_json.specs.View.{view}
use Rattle.ipam_resources.proofs.DocumentParts.{on_err, readable}
use Rattle.ipam_resources.proofs.document.document_reading.Goals as goal

pub returns-in-Some-clause-memory : goal.returns-in-Some-clause-memory
returns-in-Some-clause-memory c =
    on_err c.object_reading.result
    (readable c.args.document.now (view c.in-Some.json) (omega arith)
    (ap (λ o. option_map view o) (sym c.in-Some.is) ∙ c.in_ok-json.ensures.found))
