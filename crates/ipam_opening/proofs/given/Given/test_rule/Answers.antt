use Rattle.std.specs.Prelude.{IfErr, OnOk}
use Rattle.ipam_opening.specs.Given.{texts_given}
use Rattle.ipam_opening.specs.Rules.{number_of}
use Rattle.ipam_opening.specs.Told.{first_by}
use Rattle.ipam_opening.proofs.Telling.{first-is, outcome-ok, outcome-refused}
use Rattle.ipam_opening.proofs.given.Given.test_rule.Goals as goal

pub returns-clause-ok : goal.returns-clause-ok
returns-clause-ok c =
    let texts = texts_given c.args.self.now in
    let rule = c.args.rule in
    let first = first-is texts c.requires.read.by_key rule c.requires.clear in
    rw c.told.ensures (outcome-ok texts (number_of rule) (first_by rule texts) c.first_by.result c.requires.clear first c.first_by.ensures)

pub returns-clause-refused : goal.returns-clause-refused
returns-clause-refused c =
    let texts = texts_given c.args.self.now in
    let rule = c.args.rule in
    let first = first-is texts c.requires.read.by_key rule c.requires.clear in
    rw c.told.ensures (outcome-refused texts (number_of rule) (first_by rule texts) c.first_by.result c.requires.clear first c.first_by.ensures)
