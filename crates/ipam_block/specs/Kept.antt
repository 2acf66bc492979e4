-- The attributes, whether copies share them or not.
use Rattle.std.specs.Arc.{arc_value}
use Rattle.ipam_block.specs.declared.allocation.Attributes.{Attributes}
use Rattle.ipam_block.specs.declared.allocation.Kept.{Kept}
use Rattle.ipam_block.specs.declared.allocation.Kept.TheVariants.{Own, Shared}

abbrev pub attributes_kept : Kept → Attributes
attributes_kept (Own attributes alloc) = attributes
attributes_kept (Shared shared) = arc_value shared
