-- The versions of CNI and their texts.
use Rattle.std.specs.Prelude.{ℕ, List, Bool, true, false, Option, Some, None, codes, bytes_eq, if◌then◌else◌}
use Rattle.cni_types.specs.declared.version.Version.{Version}
use Rattle.cni_types.specs.declared.version.Version.TheVariants.{V0_3_0, V0_3_1, V0_4_0, V1_0_0, V1_1_0}

abbrev pub version_text : Version → List ℕ
version_text V0_3_0 = codes "0.3.0"
version_text V0_3_1 = codes "0.3.1"
version_text V0_4_0 = codes "0.4.0"
version_text V1_0_0 = codes "1.0.0"
version_text V1_1_0 = codes "1.1.0"

-- the version of a text, where it is supported
abbrev pub version_of : List ℕ → Option Version
version_of text =
    if bytes_eq text (version_text V0_3_0) then Some V0_3_0
    else (if bytes_eq text (version_text V0_3_1) then Some V0_3_1
    else (if bytes_eq text (version_text V0_4_0) then Some V0_4_0
    else (if bytes_eq text (version_text V1_0_0) then Some V1_0_0
    else (if bytes_eq text (version_text V1_1_0) then Some V1_1_0 else None))))

-- whether each address of a result has its family beside it
abbrev pub says_family : Version → Bool
says_family V0_3_0 = true
says_family V0_3_1 = true
says_family V0_4_0 = true
says_family V1_0_0 = false
says_family V1_1_0 = false
