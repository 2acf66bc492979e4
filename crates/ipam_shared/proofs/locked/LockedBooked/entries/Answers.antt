use Rattle.std.proofs.Common.{ap, ◌∙◌}
use Rattle.ipam_laws.proofs.StandsFor.{entries-are}
use Rattle.ipam_shared.specs.Origins.{base_opened}
use Rattle.ipam_shared.proofs.locked.LockedBooked.entries.Goals as goal

pub returns : goal.returns
returns g c = λ origin history h.
    c.entries.ensures ∙ (ap (λ cluster. cluster.entries) c.cluster.ensures ∙ (h.fed.kept_for.cluster.is_cluster.entries ∙ entries-are (base_opened origin) history))
