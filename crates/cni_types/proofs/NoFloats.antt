-- No answer's JSON has a float, so that its compact text is written.
use Rattle.std.proofs.Common.{◌≡◌, false, List, [], ◌∷◌, map, refl}
use Rattle.serde_json.specs.View.{items_of}
use Rattle.serde_json.specs.Written.{has_float, items_have_float}
use Rattle.ipam_addr.specs.Shape.{AddrValue}
use Rattle.cni_types.specs.declared.error.CniError.{CniError}
use Rattle.cni_types.specs.declared.version.Version.{Version}
use Rattle.cni_types.specs.declared.version.Version.TheVariants.{V0_3_0, V0_3_1, V0_4_0, V1_0_0, V1_1_0}
use Rattle.cni_types.specs.Texts.{error_data, entry_data, result_data, versions_data}

pub error_has_none : (error : CniError) → has_float (error_data error) ≡ false
unfolding error_data
error_has_none error = refl

entry_has_none : (version : Version) (address : AddrValue) → has_float (entry_data version address) ≡ false
unfolding entry_data
entry_has_none V0_3_0 address = refl
entry_has_none V0_3_1 address = refl
entry_has_none V0_4_0 address = refl
entry_has_none V1_0_0 address = refl
entry_has_none V1_1_0 address = refl

entries_have_none : (version : Version) (addresses : List AddrValue) → items_have_float (items_of (map (entry_data version) addresses)) ≡ false
entries_have_none version [] = refl
entries_have_none version (a ∷ rest) = rw (entry_has_none version a) (entries_have_none version rest)

pub result_has_none : (version : Version) (addresses : List AddrValue) → has_float (result_data version addresses) ≡ false
unfolding result_data
result_has_none version addresses = rw (entries_have_none version addresses) refl

pub versions_have_none : (version : Version) → has_float (versions_data version) ≡ false
unfolding versions_data
versions_have_none version = refl
