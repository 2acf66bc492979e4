use Rattle.std.proofs.Common.{refl}
use Rattle.ipam_plain.proofs.Unfolded.{runs_computed}
use Rattle.ipam_plain.specs.Limits.{lost_rounds, claim_rounds}
use Rattle.ipam_plain.proofs.runs.requests_at_a_limit.Goals as goal

pub returns-clause-revisions_spent : goal.returns-clause-revisions_spent
unfolding runs_computed
returns-clause-revisions_spent c = refl

pub returns-clause-sixty_four_lost_races : goal.returns-clause-sixty_four_lost_races
unfolding runs_computed lost_rounds
returns-clause-sixty_four_lost_races c = refl

pub returns-clause-sixty_four_claims : goal.returns-clause-sixty_four_claims
unfolding runs_computed claim_rounds
returns-clause-sixty_four_claims c = refl

pub returns-clause-count_at_its_limit : goal.returns-clause-count_at_its_limit
unfolding runs_computed
returns-clause-count_at_its_limit c = refl

pub returns-clause-worn_at_first : goal.returns-clause-worn_at_first
unfolding runs_computed
returns-clause-worn_at_first c = refl

pub returns-clause-worn_after_one : goal.returns-clause-worn_after_one
unfolding runs_computed
returns-clause-worn_after_one c = refl

pub returns-clause-worn_and_stopped : goal.returns-clause-worn_and_stopped
unfolding runs_computed
returns-clause-worn_and_stopped c = refl

pub returns-clause-claim_and_lost_races : goal.returns-clause-claim_and_lost_races
unfolding runs_computed lost_rounds
returns-clause-claim_and_lost_races c = refl
