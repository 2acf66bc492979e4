use Rattle.ipam_laws.proofs.SlotsHistory.{slots_law}
use Rattle.ipam_laws.proofs.records.blocks_and_affinities_stay_at_slots.Goals as goal

pub returns : goal.returns
returns c = slots_law
