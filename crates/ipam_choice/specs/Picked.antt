-- What was picked, as the specification has it.
use Rattle.std.specs.Prelude.{ℕ, Option, option_map}
use Rattle.ipam_block.specs.Shape as block
use Rattle.ipam_choice.specs.declared.picked.Listed.{Listed}
use Rattle.ipam_choice.specs.declared.picked.Rank.{Rank}
use Rattle.ipam_choice.specs.declared.picked.Rank.TheVariants.{Own, Unconfirmed, Unclaimed, Foreign}
use Rattle.ipam_choice.specs.declared.picked.Candidate.{Candidate}
use Rattle.ipam_choice.specs.declared.picked.Picked.{Picked}
use Rattle.ipam_choice.specs.declared.picked.Picked.TheVariants.{NoPool, Nothing, Slot}
use Rattle.ipam_model.specs.Choice as model

abbrev pub found_of : Listed → ℕ × block.BlockValue
found_of listed = (listed.revision, listed.block.now)

abbrev pub found_in : Option Listed → Option (ℕ × block.BlockValue)
found_in = option_map found_of

abbrev pub rank_as : Rank → model.Rank
rank_as (Own listed ordinal) = model.Own (found_of listed) ordinal
rank_as (Unconfirmed listed) = model.Unconfirmed (found_of listed)
rank_as (Unclaimed listed) = model.Unclaimed (found_in listed)
rank_as (Foreign listed ordinal) = model.Foreign (found_of listed) ordinal

abbrev pub ranked_as : Candidate → model.Ranked
ranked_as candidate = record { slot = candidate.slot; rank = rank_as candidate.rank }

abbrev pub ranked_in : Option Candidate → Option model.Ranked
ranked_in = option_map ranked_as

abbrev pub pick_as : Picked → model.Pick
pick_as (NoPool place) = model.Unknown place
pick_as Nothing = model.Lacks
pick_as (Slot candidate) = model.Picks (ranked_as candidate)
