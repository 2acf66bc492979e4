use Rattle.std.proofs.Common.{sym, ◌∙◌}
use Rattle.ipam_json.proofs.PathLemmas.{parse_none}
use Rattle.ipam_json.proofs.path.index_of.Goals as goal

pub returns-then-is_index-clause-too_large : goal.returns-then-is_index-clause-too_large
returns-then-is_index-clause-too_large c =
    let index = rw c.as_bytes.ensures.value at (sym c.is_index.ensures ∙ c.if-is_index.true) in
    rw c.ok.ensures.value (parse_none c.args.name.now c.parse.result index c.parse.ensures.value.0)
