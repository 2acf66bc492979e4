-- What is left of the five reads after each of them.
use Rattle.std.proofs.Common.{◌≡◌, refl, ℕ}
use Rattle.std.specs.List.{list_any}
use Rattle.ipam_addr.specs.Shape.{AddrValue, CidrValue}
use Rattle.ipam_choice.proofs.PickLemmas.{known_pick}
use Rattle.ipam_choice.specs.Confirmed.{has_confirmed}
use Rattle.ipam_choice.specs.declared.confirmed.Confirmed.{Confirmed}
use Rattle.ipam_records.specs.declared.call.Call.TheVariants.{List as ListAll}
use Rattle.ipam_records.specs.declared.key.Kind.TheVariants as kind
use Rattle.ipam_records.specs.Label.{idle}
use Rattle.ipam_records.specs.Said.{Said}
use Rattle.ipam_records.specs.Word.{Ends, Asks, after_reply}
use Rattle.ipam_pool.specs.Spans.{ReservedValue, is_reserved_by}
use Rattle.ipam_pool.specs.Union.{is_in_union}
use Rattle.ipam_model.specs.Choice.{Seen, is_confirmed_for}
use Rattle.ipam_model.specs.Reads.{reservations_said, rows_said}
use Rattle.ipam_model.specs.Usable.{Asked}
use Rattle.ipam_assign.specs.declared.scanning.Pooled.{Pooled}
use Rattle.ipam_assign.specs.declared.scanning.Reserving.{Reserving}
use Rattle.ipam_assign.specs.Scanning.{reservations_read, affinities_listed, blocks_listed, scan_of_reserving}

seen_by : Pooled → Said → Said → Said → Seen
seen_by pooled reservations affinities blocks = record {
  config = pooled.configured.config;
  pools = pooled.pools;
  reservations = reservations_said reservations;
  affinities = rows_said affinities;
  blocks = rows_said blocks;
}

pub reserved_known : (asked : Asked) (pooled : Pooled) (reserved : ReservedValue) (moment : ℕ) (said : Said)
    → ((a : AddrValue) → is_reserved_by reserved a ≡ is_in_union (reservations_said said) a)
    → affinities_listed asked (record { pooled = pooled; reserved = reserved; r = moment })
    ≡ after_reply (reservations_read asked pooled) moment said
unfolding seen_by
reserved_known asked pooled reserved moment said same =
    λ i. Asks idle (ListAll kind.Affinity) (λ f affinities.
    Asks idle (ListAll kind.Block) (λ b blocks.
    Ends (
      scan_of_reserving asked (record { pooled = pooled; reserved = reserved; r = moment }) f b,
      known_pick asked (seen_by pooled said affinities blocks)
          (λ cidr. list_any (is_confirmed_for asked.node cidr) (rows_said affinities)) (is_reserved_by reserved)
          (λ cidr. refl) same i,
    )))

pub confirmed_known : (asked : Asked) (reserving : Reserving) (confirmed : Confirmed) (moment : ℕ) (said : Said)
    → ((cidr : CidrValue) → has_confirmed confirmed cidr ≡ list_any (is_confirmed_for asked.node cidr) (rows_said said))
    → blocks_listed asked reserving moment (has_confirmed confirmed)
    ≡ after_reply (affinities_listed asked reserving) moment said
confirmed_known asked reserving confirmed moment said same =
    λ i. blocks_listed asked reserving moment (λ cidr. same cidr i)
