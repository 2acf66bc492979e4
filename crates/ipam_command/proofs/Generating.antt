-- What is generated is a right history.
use Rattle.ipam_laws.proofs.RightWhole.{right_law}
use Rattle.ipam_command.proofs.BaseLemmas.{consistent}
use Rattle.ipam_command.specs.Requests.{base}
use Rattle.ipam_command.specs.declared.gen_end.GenEnd.TheVariants as end
use Rattle.ipam_command.specs.Generating.{CountedRightLaw, GeneratedRightLaw}

pub generated_right : GeneratedRightLaw
generated_right count answered whole generated = right_law base whole consistent generated.lawful

pub counted_right : CountedRightLaw
counted_right count end.Done first now w =
    (w, generated_right count w.is_text.answered w.is_text.whole w.is_text.generated)
counted_right count end.WriteFault first now w =
    (w, generated_right count w.is_text.answered w.is_text.whole w.is_text.generated)
counted_right count end.NoMemory first now w = w
