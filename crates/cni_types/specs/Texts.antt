-- The texts of answers: compact JSON and a line feed.
use Rattle.std.specs.Prelude.{ℕ, List, [], ◌∷◌, ◌++◌, map, codes, Bool, true, false}
use Rattle.serde_json.specs.Data.{Data, number, unsigned, string}
use Rattle.serde_json.specs.Written.{compact_text}
use Rattle.ipam_json.specs.Built.{Field, object_of, array_of}
use Rattle.ipam_addr.specs.declared.address.Family.{Family}
use Rattle.ipam_addr.specs.declared.address.Family.TheVariants.{V4, V6}
use Rattle.ipam_addr.specs.Shape.{AddrValue}
use Rattle.ipam_addr.specs.Text.{address_text}
use Rattle.cni_types.specs.declared.error.CniError.{CniError}
use Rattle.cni_types.specs.declared.version.Version.{Version}
use Rattle.cni_types.specs.declared.version.Version.TheVariants.{V0_3_0, V0_3_1, V0_4_0, V1_0_0, V1_1_0}
use Rattle.cni_types.specs.Version.{version_text, says_family}
use Rattle.cni_types.specs.Code.{code_number, message}

-- the text of a value, ended by a line feed
abbrev pub json_line : Data → List ℕ
json_line d = compact_text d ++ 10 ∷ []

abbrev pub version_data : Version → Data
version_data version = string (version_text version)

-- ---- errors

unfoldable pub error_data : CniError → Data
error_data error =
    object_of ((codes "cniVersion", version_data error.version)
    ∷ (codes "code", number (unsigned (code_number error.code)))
    ∷ (codes "details", string error.details)
    ∷ (codes "msg", string (message error.code)) ∷ [])

unfoldable pub error_text : CniError → List ℕ
error_text error = json_line (error_data error)

-- ---- results

-- the prefix of a single address
abbrev pub full_prefix : Family → List ℕ
full_prefix V4 = codes "/32"
full_prefix V6 = codes "/128"

abbrev pub family_text : Family → List ℕ
family_text V4 = codes "4"
family_text V6 = codes "6"

abbrev pub interface_text : AddrValue → List ℕ
interface_text address = address_text address ++ full_prefix address.family

-- the family, where the version has it
abbrev pub family_fields : Bool → Family → List Field
family_fields true family = (codes "version", string (family_text family)) ∷ []
family_fields false family = []

unfoldable pub entry_data : Version → AddrValue → Data
entry_data version address =
    object_of ((codes "address", string (interface_text address))
    ∷ family_fields (says_family version) address.family)

unfoldable pub result_data : Version → List AddrValue → Data
result_data version addresses =
    object_of ((codes "cniVersion", version_data version)
    ∷ (codes "ips", array_of (map (entry_data version) addresses)) ∷ [])

unfoldable pub result_text : Version → List AddrValue → List ℕ
result_text version addresses = json_line (result_data version addresses)

-- ---- versions

abbrev pub supported_versions : List Version
supported_versions = V0_3_0 ∷ V0_3_1 ∷ V0_4_0 ∷ V1_0_0 ∷ V1_1_0 ∷ []

unfoldable pub versions_data : Version → Data
versions_data version =
    object_of ((codes "cniVersion", version_data version)
    ∷ (codes "supportedVersions", array_of (map version_data supported_versions)) ∷ [])

unfoldable pub versions_text : Version → List ℕ
versions_text version = json_line (versions_data version)
