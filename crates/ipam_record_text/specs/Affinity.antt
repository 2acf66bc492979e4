-- The body of an affinity.
use Rattle.std.specs.Prelude.{ℕ, List, [], ◌∷◌, codes, IsTrue, Option, Some, option_and_then, Result}
use Rattle.serde_json.specs.Data.{Data, string}
use Rattle.serde_json.specs.Written.{compact_text}
use Rattle.ipam_addr.specs.Text.{cidr_text_of}
use Rattle.ipam_addr.specs.Names.{is_name_text}
use Rattle.ipam_block.specs.State.{state_text, state_of}
use Rattle.ipam_block.specs.declared.state.State.{State}
use Rattle.ipam_block.specs.declared.record.Affinity.{Affinity}
use Rattle.ipam_json.specs.Built.{object_of}
use Rattle.ipam_record_text.specs.declared.fault.BodyFault.{BodyFault}
use Rattle.ipam_json.specs.Members.{◌>>=◌, text_at}
use Rattle.ipam_record_text.specs.Reading.{body_reading}
use Rattle.ipam_block.specs.Sound.{IsBlockCidr}
use Rattle.ipam_record_text.specs.Blocks.{block_cidr_at, name_at}

-- the JSON of an affinity
unfoldable pub affinity_data : Affinity → Data
affinity_data a =
    object_of ((codes "cidr", string (cidr_text_of a.cidr)) ∷ (codes "node", string a.node)
    ∷ (codes "state", string (state_text a.state)) ∷ [])

-- the body of an affinity
unfoldable pub affinity_body : Affinity → List ℕ
affinity_body a = compact_text (affinity_data a)

-- the node has a name, and the CIDR is that of a block
pub record IsAffinityRecord (a : Affinity) : Type 0 where
  pub node : IsTrue (is_name_text a.node)
  pub range : IsBlockCidr a.cidr

-- the state whose name has this name
abbrev pub state_at : List ℕ → Data → Option State
state_at name d = option_and_then state_of (text_at name d)

-- the affinity that the JSON holds
unfoldable pub affinity_in : Data → Option Affinity
affinity_in d = do
  cidr ← block_cidr_at (codes "cidr") d
  node ← name_at (codes "node") d
  state ← state_at (codes "state") d
  Some (record { node = node; cidr = cidr; state = state })

-- what is read of an affinity's body
unfoldable pub affinity_reading : List ℕ → Result Affinity BodyFault
affinity_reading body = body_reading affinity_in affinity_body body
