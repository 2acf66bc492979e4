use Rattle.std.proofs.Common.{refl}
use Rattle.ipam_opening.specs.declared.fault.OpenFault.TheVariants as opening
use Rattle.ipam_shared.proofs.Openings.{told-refused}
use Rattle.ipam_shared.proofs.opener.open_loaded.Goals as goal

pub returns-in-Err-Refused : goal.returns-in-Err-Refused
returns-in-Err-Refused g c =
    told-refused (g.O.Opens.opens c.args.opener) (g.O.Opens.refuses c.args.opener) c.args.loaded c.in-Ok.rows (opening.Refused c.in-Err-Refused.number c.in-Err-Refused.about) _ c.in-Ok.is
    (rw c.in-Err-Refused.field-0-is at c.in-Err-Refused.ensures.refused) refl
