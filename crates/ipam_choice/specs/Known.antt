-- What a request takes by what it knows once the blocks are listed.
use Rattle.std.specs.Prelude.{ℕ, Bool, List, [], ◌∷◌, Option, Some, None}
use Rattle.ipam_addr.specs.Shape.{AddrValue, CidrValue}
use Rattle.ipam_pool.specs.declared.pools.Pool.{Pool}
use Rattle.ipam_record_text.specs.declared.config.Config.{Config}
use Rattle.ipam_pool.specs.Spans.{is_reserved_by}
use Rattle.ipam_records.specs.Listing.{rows_of}
use Rattle.ipam_model.specs.Choice.{may_claim, Pick, Unknown}
use Rattle.ipam_model.specs.Reads.{StoredRecord}
use Rattle.ipam_model.specs.Usable.{Asked, unknown_name}
use Rattle.ipam_choice.specs.Confirmed.{has_confirmed}
use Rattle.ipam_choice.specs.First.{first_of}
use Rattle.ipam_choice.specs.Scanned.{first_usable, pick_from}
use Rattle.ipam_choice.specs.Sight.{Sight}
use Rattle.ipam_choice.specs.declared.view.Known.{Known}

abbrev pub unless_unknown : Option ℕ → Pick → Pick
unless_unknown (Some place) pick = Unknown place
unless_unknown None pick = pick

-- the first name that no pool has, or else the first candidate
abbrev pub pick_in : Asked → List Pool → Sight → Pick
pick_in asked pools sight =
    unless_unknown (unknown_name asked pools)
    (pick_from (first_of (first_usable asked sight pools) (0 ∷ 1 ∷ 2 ∷ 3 ∷ [])))

abbrev pub sight_known : Asked → Config → (confirmed : CidrValue → Bool) → (reserved : AddrValue → Bool) → List StoredRecord → Sight
sight_known asked config confirmed reserved blocks = record {
  node = asked.node;
  strict = config.strict;
  may_claim = may_claim asked (record { config = config; pools = []; reservations = []; affinities = []; blocks = blocks });
  confirmed = confirmed;
  reserved = reserved;
  blocks = blocks;
}

abbrev pub sight_of_known : Asked → Known → Sight
sight_of_known asked known =
    sight_known asked known.config (has_confirmed known.confirmed.now) (is_reserved_by known.reserved.now) (rows_of known.blocks)
