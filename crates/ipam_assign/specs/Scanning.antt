-- What is left of the five reads of a round at each of their stages: the moments of the reads, and
-- what is picked by them.
use Rattle.std.specs.Prelude.{ℕ, Bool}
use Rattle.std.specs.List.{list_any}
use Rattle.ipam_addr.specs.Shape.{CidrValue}
use Rattle.ipam_choice.specs.Confirmed.{has_confirmed}
use Rattle.ipam_choice.specs.Known.{pick_in, sight_known}
use Rattle.ipam_choice.specs.Picked.{pick_as}
use Rattle.ipam_records.specs.declared.call.Call.TheVariants.{Get, List as ListAll}
use Rattle.ipam_records.specs.declared.key.Key.TheVariants as key
use Rattle.ipam_records.specs.declared.key.Kind.TheVariants as kind
use Rattle.ipam_records.specs.Label.{idle}
use Rattle.ipam_records.specs.Word.{Word, Ends, Asks}
use Rattle.ipam_pool.specs.Spans.{is_reserved_by}
use Rattle.ipam_model.specs.declared.answer.Scan.{Scan}
use Rattle.ipam_model.specs.Add.{five_reads}
use Rattle.ipam_model.specs.Choice.{Pick, Seen, is_confirmed_for, pick_of}
use Rattle.ipam_model.specs.Reads.{pools_said, reservations_said, rows_said}
use Rattle.ipam_model.specs.Usable.{Asked}
use Rattle.ipam_assign.specs.declared.scanning.Configured.{Configured}
use Rattle.ipam_assign.specs.declared.scanning.Pooled.{Pooled}
use Rattle.ipam_assign.specs.declared.scanning.Reserving.{Reserving}
use Rattle.ipam_assign.specs.declared.scanning.Scanned.{Scanned}
use Rattle.ipam_assign.specs.declared.scanning.Scanned.TheVariants.{Learned as TheLearned, Chosen}
use Rattle.ipam_assign.specs.declared.scanning.Learned.{Learned}
use Rattle.ipam_assign.specs.declared.scanning.Read.{Read}
use Rattle.ipam_assign.specs.declared.scanning.Read.TheVariants.{Config, Pools, Reserved, Confirmed}
use Rattle.ipam_assign.specs.declared.scanning.Stage.{Stage}
use Rattle.ipam_assign.specs.declared.scanning.Stage.TheVariants.{ReadsConfig, ReadsPools, ReadsReservations, ListsAffinities, ListsBlocks}

-- the moments of the reads, and what is picked by them
abbrev pub Chose : Type 0
Chose = Scan × Pick

abbrev pub chose : Asked → Scan → Seen → Word Chose
chose asked scan seen = Ends (scan, pick_of asked seen)

abbrev pub with_pools_read : Asked → Configured → Word Chose
with_pools_read asked configured =
    Asks idle (Get key.Pools) (λ p pools.
    Asks idle (Get key.Reservations) (λ r reservations.
    Asks idle (ListAll kind.Affinity) (λ f affinities.
    Asks idle (ListAll kind.Block) (λ b blocks.
    chose asked
    (record { family = asked.family; c = configured.c; p = p; r = r; f = f; b = b })
    (record {
      config = configured.config;
      pools = pools_said pools;
      reservations = reservations_said reservations;
      affinities = rows_said affinities;
      blocks = rows_said blocks;
    })))))

abbrev pub reservations_read : Asked → Pooled → Word Chose
reservations_read asked pooled =
    Asks idle (Get key.Reservations) (λ r reservations.
    Asks idle (ListAll kind.Affinity) (λ f affinities.
    Asks idle (ListAll kind.Block) (λ b blocks.
    chose asked
    (record { family = asked.family; c = pooled.configured.c; p = pooled.p; r = r; f = f; b = b })
    (record {
      config = pooled.configured.config;
      pools = pooled.pools;
      reservations = reservations_said reservations;
      affinities = rows_said affinities;
      blocks = rows_said blocks;
    }))))

-- the moments, once the affinities and the blocks were listed at these
abbrev pub scan_of_reserving : Asked → Reserving → (f b : ℕ) → Scan
scan_of_reserving asked reserving f b = record {
  family = asked.family;
  c = reserving.pooled.configured.c;
  p = reserving.pooled.p;
  r = reserving.r;
  f = f;
  b = b;
}

-- the blocks are listed, where these affinities of the node are confirmed
abbrev pub blocks_listed : Asked → Reserving → (f : ℕ) → (confirmed : CidrValue → Bool) → Word Chose
blocks_listed asked reserving f confirmed =
    Asks idle (ListAll kind.Block) (λ b blocks.
    Ends (
      scan_of_reserving asked reserving f b,
      pick_in asked reserving.pooled.pools
          (sight_known asked reserving.pooled.configured.config confirmed (is_reserved_by reserving.reserved) (rows_said blocks)),
    ))

abbrev pub affinities_listed : Asked → Reserving → Word Chose
affinities_listed asked reserving =
    Asks idle (ListAll kind.Affinity) (λ f affinities.
    blocks_listed asked reserving f (λ cidr. list_any (is_confirmed_for asked.node cidr) (rows_said affinities)))

abbrev pub scanning_at : Asked → Stage → Word Chose
scanning_at asked ReadsConfig = five_reads asked.family (chose asked)
scanning_at asked (ReadsPools configured) = with_pools_read asked configured
scanning_at asked (ReadsReservations pooled) = reservations_read asked pooled
scanning_at asked (ListsAffinities reserving) = affinities_listed asked reserving
scanning_at asked (ListsBlocks gathered) =
    blocks_listed asked gathered.reserving gathered.f (has_confirmed gathered.confirmed)

-- the stage after what was learned; what belongs to another stage changes nothing
abbrev pub learn_at : Stage → (moment : ℕ) → Read → Stage
learn_at ReadsConfig moment (Config config) = ReadsPools (record { config = config; c = moment })
learn_at (ReadsPools configured) moment (Pools pools) =
    ReadsReservations (record { configured = configured; pools = pools; p = moment })
learn_at (ReadsReservations pooled) moment (Reserved reserved) =
    ListsAffinities (record { pooled = pooled; reserved = reserved; r = moment })
learn_at (ListsAffinities reserving) moment (Confirmed confirmed) =
    ListsBlocks (record { reserving = reserving; confirmed = confirmed; f = moment })
learn_at stage moment read = stage

abbrev pub learn : Stage → Learned → Stage
learn stage learned = learn_at stage learned.moment learned.read

abbrev pub scanned_as : Asked → Stage → Scanned → Word Chose
scanned_as asked stage (TheLearned learned) = scanning_at asked (learn stage learned)
scanned_as asked stage (Chosen scan picked) = Ends (scan, pick_as picked)
