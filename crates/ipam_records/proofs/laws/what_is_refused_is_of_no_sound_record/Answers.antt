use Rattle.ipam_records.specs.declared.fault.TextFault.TheVariants as fault
use Rattle.ipam_records.proofs.RecordTexts.{refused_exact, form_exact, fault_told}
use Rattle.ipam_records.proofs.laws.what_is_refused_is_of_no_sound_record.Goals as goal

pub returns : goal.returns
returns c = record {
  exact = refused_exact;
  form = form_exact;
  another_key = λ key body refused. fault_told key body fault.Key refused;
  table = λ key body refused. fault_told key body fault.Table refused;
  unsound = λ key body refused. fault_told key body fault.Unsound refused;
}
