-- What is left of a change before its first try.
use Rattle.std.proofs.Common.{◌≡◌, sym, ap}
use Rattle.ipam_model.specs.declared.request.Admin.{Admin}
use Rattle.ipam_model.specs.Admin.{admin_word, admin_once, admin_stops}
use Rattle.ipam_model.specs.Step.{all_left, as_word}
use Rattle.ipam_release.specs.declared.admin.Stage.TheVariants.{Reads}
use Rattle.ipam_release.specs.Admin.{admin_at}
use Rattle.ipam_parts.proofs.TryLaws.{retried_once}

pub begins : (request : Admin) → admin_at request all_left Reads ≡ admin_word request
begins request = ap (as_word admin_stops) (sym (retried_once (admin_once request) all_left))
