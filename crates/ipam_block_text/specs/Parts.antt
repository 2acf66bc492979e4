-- What the text of a block says, but for the stamps.
use Rattle.std.specs.Prelude.{ℕ, List, Option, map, position, option_and_then}
use Rattle.ipam_addr.specs.Width.{cidr_size}
use Rattle.ipam_block.specs.declared.allocation.Attributes.{Attributes}
use Rattle.ipam_block.specs.Shape.{BlockValue}
use Rattle.ipam_block.specs.Operations.{holder}
use Rattle.ipam_block.specs.Sound.{ordinals_below}
use Rattle.ipam_block_text.specs.declared.parts.Parts.{Parts}
use Rattle.ipam_block_text.specs.Attributes.{are_same, distinct_attributes}

-- where an ordinal is held, the index of its attributes among those in use
unfoldable pub holder_place : List Attributes → BlockValue → ℕ → Option ℕ
holder_place attributes b o =
    option_and_then (λ a. position (are_same a.attributes) attributes) (holder b o)

-- the parts of a block
abbrev pub block_parts : BlockValue → Parts
block_parts b =
    record {
      node = b.node;
      places = map (holder_place (distinct_attributes b.allocations) b) (ordinals_below (cidr_size b.cidr));
      attributes = distinct_attributes b.allocations;
      cidr = b.cidr;
      sequence = b.sequence;
      queue = b.queue;
    }
