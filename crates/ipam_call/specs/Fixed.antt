-- The errors whose code and details are fixed.
use Rattle.std.specs.Prelude.{ℕ, List, [], codes}
use Rattle.cni_types.specs.declared.code.Code.{Code}
use Rattle.cni_types.specs.declared.code.Code.TheVariants.{InputOutput, TryAgain, Undecodable as CannotDecode, WantOfMemory, NoReply}
use Rattle.cni_types.specs.declared.error.CniError.{CniError}
use Rattle.cni_types.specs.declared.version.Version.{Version}
use Rattle.ipam_call.specs.declared.fixed.FixedError.{FixedError}
use Rattle.ipam_call.specs.declared.fixed.FixedError.TheVariants.{Read, Keeper, Busy, Undecodable, Link, Reply, Memory}

abbrev pub fixed_code : FixedError → Code
fixed_code Read = InputOutput
fixed_code Keeper = InputOutput
fixed_code Busy = TryAgain
fixed_code Undecodable = CannotDecode
fixed_code Link = NoReply
fixed_code Reply = NoReply
fixed_code Memory = WantOfMemory

abbrev pub fixed_details : FixedError → List ℕ
fixed_details Read = codes "read"
fixed_details Keeper = codes "keeper"
fixed_details Busy = codes "the database is busy"
fixed_details Undecodable = []
fixed_details Link = codes "link"
fixed_details Reply = codes "reply"
fixed_details Memory = []

abbrev pub fixed_error : Version → FixedError → CniError
fixed_error version error = record { version = version; code = fixed_code error; details = fixed_details error }
