-- The body of a handle.
use Rattle.std.specs.Prelude.{◌≡◌, ℕ, ◌==◌, List, [], ◌∷◌, codes, length, nat_lt, Option, Some, Result}
use Rattle.std.specs.BTreeMap.{insert_entry}
use Rattle.serde_json.specs.Data.{Data, number, unsigned, string, object, put, Members, no_members, member}
use Rattle.serde_json.specs.Written.{compact_text}
use Rattle.ipam_addr.specs.Shape.{CidrValue}
use Rattle.ipam_addr.specs.Text.{cidr_text_of}
use Rattle.ipam_block.specs.HandleShape.{HandleValue}
use Rattle.ipam_block.specs.HandleOperations.{content, count_in}
use Rattle.ipam_block.specs.Order.{cidr_cmp}
use Rattle.ipam_json.specs.Built.{object_of}
use Rattle.ipam_json.specs.Path.{as_whole}
use Rattle.ipam_record_text.specs.declared.fault.BodyFault.{BodyFault}
use Rattle.ipam_json.specs.Members.{◌>>=◌, only_if, in_32_bits, members_at}
use Rattle.ipam_record_text.specs.Reading.{body_reading}
use Rattle.ipam_record_text.specs.Blocks.{block_cidr_of, id_at}

-- the members, and each block's text with its count at its place among them
abbrev pub with_counts : Members → List (CidrValue × ℕ) → Members
with_counts ms [] = ms
with_counts ms (c ∷ cs) = with_counts (put (cidr_text_of c.0) (number (unsigned c.1)) ms) cs

-- the JSON of a handle
unfoldable pub handle_data : HandleValue → Data
handle_data h =
    object_of ((codes "block", object (with_counts no_members h.counts))
    ∷ (codes "handleID", string h.id) ∷ [])

-- the body of a handle
unfoldable pub handle_body : HandleValue → List ℕ
handle_body h = compact_text (handle_data h)

-- the count that the JSON is, from 1 to 4,294,967,295
unfoldable pub count_of_json : Data → Option ℕ
count_of_json d = do
  whole ← as_whole d
  n ← in_32_bits whole
  only_if (nat_lt 0 n) n

-- the block and the count that a member is
unfoldable pub block_counted : List ℕ → Data → Option (CidrValue × ℕ)
block_counted name d = do
  block ← block_cidr_of name
  n ← count_of_json d
  Some (block, n)

-- the counts with this one, where the block has none
unfoldable pub with_new : List (CidrValue × ℕ) → CidrValue → ℕ → Option (List (CidrValue × ℕ))
with_new counts block n = only_if (count_in counts block == 0) (insert_entry cidr_cmp counts block n)

-- the new counts are the old ones with this one of a block that had none
pub record AddsCount (old new : List (CidrValue × ℕ)) (block : CidrValue) (count : ℕ) : Type 0 where
  pub counts : new ≡ insert_entry cidr_cmp old block count
  pub absent : count_in old block ≡ 0

-- the counts with those that the members are
abbrev pub counts_after : List (CidrValue × ℕ) → Members → Option (List (CidrValue × ℕ))
counts_after counts no_members = Some counts
counts_after counts (member name d ms) = do
  c ← block_counted name d
  more ← with_new counts c.0 c.1
  counts_after more ms

-- the handle of these counts, where there are some
unfoldable pub handle_of_counts : List ℕ → List (CidrValue × ℕ) → Option HandleValue
handle_of_counts id counts = only_if (nat_lt 0 (length counts)) (content id counts)

-- the handle that the JSON holds
unfoldable pub handle_in : Data → Option HandleValue
handle_in d = do
  members ← members_at (codes "block") d
  id ← id_at (codes "handleID") d
  counts ← counts_after [] members
  handle_of_counts id counts

-- what is read of a handle's body
unfoldable pub handle_reading : List ℕ → Result HandleValue BodyFault
handle_reading body = body_reading handle_in handle_body body
