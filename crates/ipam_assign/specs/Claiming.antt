-- What a claim came to.
use Rattle.std.specs.Prelude.{Result, Ok, Err}
use Rattle.ipam_model.specs.declared.part.Left.{Left}
use Rattle.ipam_model.specs.declared.part.Stop.{Stop}
use Rattle.ipam_model.specs.declared.part.Outcome.{Outcome}
use Rattle.ipam_model.specs.declared.part.Outcome.TheVariants.{Went, Stops}

abbrev pub outcome_in : Left → Result Left Stop → Outcome (Unit {0})
outcome_in before (Ok now) = Went now tt
outcome_in before (Err why) = Stops before why
