-- How calls end, and what they write.
use Rattle.std.specs.Prelude.{◌≡◌, ℕ, ◌⊎◌, List, Option}
use Rattle.std.specs.Io.KnownBytes.{append_known}
use Rattle.ipam_io.specs.Counts.{Rose}
use Rattle.ipam_io.specs.Streams.{AppendsPrefix}
use Rattle.cni_types.specs.declared.error.CniError.{CniError}
use Rattle.cni_types.specs.declared.version.Version.{Version}
use Rattle.cni_types.specs.Texts.{error_text}
use Rattle.ipam_call.specs.declared.fixed.FixedError.{FixedError}
use Rattle.ipam_call.specs.declared.fixed.FixedError.TheVariants as fixed
use Rattle.ipam_call.specs.Fixed.{fixed_error}
use Rattle.ipam_command.specs.declared.cni_end.CniEnd.{CniEnd}
use Rattle.ipam_command.specs.declared.cni_end.CniEnd.TheVariants.{Told, Failed}
use Rattle.ipam_command.specs.declared.cni_end.CniFault.{CniFault}
use Rattle.ipam_command.specs.declared.cni_end.CniFault.TheVariants.{Read, Undecodable, Keeper, Memory}

-- the error of a fault
abbrev pub fixed_of : CniFault → FixedError
fixed_of Read = fixed.Read
fixed_of Undecodable = fixed.Undecodable
fixed_of Keeper = fixed.Keeper
fixed_of Memory = fixed.Memory

abbrev pub fault_error : Version → CniFault → CniError
fault_error version fault = fixed_error version (fixed_of fault)

-- the text was written, and the sink did not fail
pub record IsWritten (text : List ℕ) (old new : Option (List ℕ)) (faults faults' : ℕ) : Type 0 where
  pub bytes : new ≡ append_known old text
  pub no_fault : faults' ≡ faults

-- a front part of it was written, and the sink failed
pub record IsPartWritten (text : List ℕ) (old new : Option (List ℕ)) (faults faults' : ℕ) : Type 0 where
  pub bytes : AppendsPrefix old new text
  pub fault : Rose faults faults'

-- the status of a text that was written is the call's, and 4 where the sink failed
abbrev pub WritesWith : (own : ℕ) → List ℕ → (old new : Option (List ℕ)) → (faults faults' : ℕ) → (status : ℕ) → Type 0
WritesWith own text old new faults faults' status =
    (IsWritten text old new faults faults' × (status ≡ own)) ⊎ (IsPartWritten text old new faults faults' × (status ≡ 4))

-- What a call writes that ends so, and its status. The error of a fault takes no memory.
abbrev pub WritesCniEnd : CniEnd → (old new : Option (List ℕ)) → (faults faults' : ℕ) → (status : ℕ) → Type 0
WritesCniEnd (Told own text) old new faults faults' status = WritesWith own text old new faults faults' status
WritesCniEnd (Failed version fault) old new faults faults' status =
    WritesWith 1 (error_text (fault_error version fault)) old new faults faults' status
