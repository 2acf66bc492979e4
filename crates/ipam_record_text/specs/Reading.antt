-- Reading a body: what its JSON holds, where this is printed as that very body.
use Rattle.std.specs.Prelude.{ℕ, List, Option, Result}
use Rattle.std.specs.Option.{ok_or}
use Rattle.serde_json.specs.Data.{Data}
use Rattle.ipam_json.specs.Held.{held}
use Rattle.ipam_record_text.specs.declared.fault.BodyFault.{BodyFault}
use Rattle.ipam_record_text.specs.declared.fault.BodyFault.TheVariants.{Form}

-- what is held in the body, or else that the form is wrong
abbrev pub body_reading : {A : Type 0} → (Data → Option A) → (A → List ℕ) → List ℕ → Result A BodyFault
body_reading found text body = ok_or (held found text body) Form
