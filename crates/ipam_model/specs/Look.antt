-- The requests that write nothing: CHECK and the probe.
use Rattle.std.specs.Prelude.{ℕ, ◌-◌, Bool, true, false, List, [], ◌∷◌, ◌++◌, Option, Some, None, bytes_eq}
use Rattle.ipam_addr.specs.declared.address.Family.{Family}
use Rattle.ipam_addr.specs.declared.address.Family.TheVariants.{V4, V6}
use Rattle.ipam_addr.specs.Shape.{AddrValue}
use Rattle.ipam_pool.specs.declared.pools.Pool.{Pool}
use Rattle.ipam_block.specs.declared.allocation.Allocation.{Allocation}
use Rattle.ipam_block.specs.Shape as block
use Rattle.ipam_block.specs.Operations.{holder}
use Rattle.ipam_records.specs.declared.key.Key.TheVariants as key
use Rattle.ipam_records.specs.declared.call.Call.TheVariants.{Get}
use Rattle.ipam_records.specs.Label.{idle}
use Rattle.ipam_records.specs.Word.{Word, Ends, Asks}
use Rattle.ipam_model.specs.declared.answer.Scan.{Scan}
use Rattle.ipam_model.specs.declared.choice.Choice.{Choice}
use Rattle.ipam_model.specs.declared.choice.Choice.TheVariants.{Nothing, NoPool}
use Rattle.ipam_model.specs.declared.outcome.CheckAnswer.{CheckAnswer}
use Rattle.ipam_model.specs.declared.outcome.CheckAnswer.TheVariants as check
use Rattle.ipam_model.specs.declared.outcome.ProbeAnswer.{ProbeAnswer}
use Rattle.ipam_model.specs.declared.outcome.ProbeAnswer.TheVariants as probe
use Rattle.ipam_model.specs.declared.request.ProbeRequest.{ProbeRequest}
use Rattle.ipam_model.specs.Add.{five_reads, name_in_place}
use Rattle.ipam_model.specs.AddThis.{slot_holding}
use Rattle.ipam_model.specs.Choice.{choice_of}
use Rattle.ipam_model.specs.Reads.{pools_said, block_said}
use Rattle.ipam_model.specs.Usable.{Asked, families_if, pool_of}

-- ---- CHECK

abbrev pub is_recorded_to : List ℕ → Option Allocation → Bool
is_recorded_to id None = false
is_recorded_to id (Some held) = bytes_eq held.attributes.handle id

abbrev pub holds_at : List ℕ → AddrValue → Option (ℕ × block.BlockValue) → Bool
holds_at id address None = false
holds_at id address (Some found) = is_recorded_to id (holder found.1 (address.number - found.1.cidr.base))

abbrev pub check_held : (rest : Word CheckAnswer) → AddrValue → (moment : ℕ) → Bool → Word CheckAnswer
check_held rest address moment true = rest
check_held rest address moment false = Ends (check.NotRecorded address moment)

abbrev pub check_in_pool : (rest : Word CheckAnswer) → List ℕ → AddrValue → (p : ℕ) → Option Pool → Word CheckAnswer
check_in_pool rest id address p None = Ends (check.NotRecorded address p)
check_in_pool rest id address p (Some pool) =
    Asks idle (Get (key.Block (slot_holding pool address))) (λ moment said.
    check_held rest address moment (holds_at id address (block_said said)))

unfoldable pub check_each : List ℕ → (p : ℕ) → List Pool → List AddrValue → Word CheckAnswer
check_each id p pools [] = Ends check.Checked
check_each id p pools (address ∷ rest) =
    check_in_pool (check_each id p pools rest) id address p (pool_of address pools)

-- Whether the handle holds each of the addresses. Pools that are disabled count here.
abbrev pub check_word : List ℕ → List AddrValue → Word CheckAnswer
check_word id addresses =
    Asks idle (Get key.Pools) (λ p said. check_each id p (pools_said said) addresses)

-- ---- the probe

abbrev pub asked_of_probe : ProbeRequest → Family → Asked
asked_of_probe request V4 = record {
  node = request.node;
  family = V4;
  names = request.pools4;
  labels = request.labels;
  one_address = false;
}
asked_of_probe request V6 = record {
  node = request.node;
  family = V6;
  names = request.pools6;
  labels = request.labels;
  one_address = false;
}

abbrev pub probe_choice : (rest : Word ProbeAnswer) → Asked → Scan → Choice → Word ProbeAnswer
probe_choice rest asked scan Nothing = Ends (probe.Exhausted scan)
probe_choice rest asked scan (NoPool place) = Ends (probe.NoPool (name_in_place asked.names place) scan.p)
probe_choice rest asked scan _ = rest

-- each of the families, after what was read for those before
unfoldable pub probe_each : ProbeRequest → List Scan → List Family → Word ProbeAnswer
probe_each request scans [] = Ends (probe.Ready scans)
probe_each request scans (family ∷ families) =
    let asked = asked_of_probe request family in
    five_reads family (λ scan seen.
    probe_choice (probe_each request (scans ++ scan ∷ []) families) asked scan (choice_of asked seen))

-- Whether an address of each wanted family could be given, IPv4 first.
abbrev pub probe_word : ProbeRequest → Word ProbeAnswer
probe_word request = probe_each request [] (families_if request.ipv4 request.ipv6)
