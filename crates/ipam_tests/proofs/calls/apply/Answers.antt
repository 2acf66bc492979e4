use Rattle.std.proofs.Common.{IsTrue, sym, ◌∙◌, rules}
use Rattle.ipam_store.proofs.Grants.{IsGranted-can}
use Rattle.ipam_tests.proofs.SoundWrites.{IsSoundWrite-asked}
use Rattle.ipam_tests.proofs.calls.apply.Goals as goal

pub apply-requires-clause-granted : goal.apply-requires-clause-granted
apply-requires-clause-granted c =
    IsGranted-can _ c.args.call c.in-Some.revision c.in-Some-into_write.write
    (c.granted.ensures c.in-Some.revision c.in-Some.is)
    (sym c.into_write.ensures ∙ c.in-Some-into_write.is)

pub apply-requires-clause-sound : goal.apply-requires-clause-sound
apply-requires-clause-sound c =
    let counted : IsTrue c.is_counted.result = search rules in
    IsSoundWrite-asked c.args.call c.in-Some.revision c.in-Some-into_write.write c.requires
    (sym c.into_write.ensures ∙ c.in-Some-into_write.is) (c.is_counted.ensures counted)
