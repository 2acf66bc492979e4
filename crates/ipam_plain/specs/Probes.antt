-- Probes where the node a has a ready block.
use Rattle.std.specs.Prelude.{ℕ, true, false, List, [], ◌∷◌, ◌++◌, Some, codes}
use Rattle.ipam_addr.specs.declared.address.Family.TheVariants.{V4, V6}
use Rattle.ipam_model.specs.declared.answer.Answer.{Answer}
use Rattle.ipam_model.specs.declared.answer.Answer.TheVariants as answer
use Rattle.ipam_model.specs.declared.entry.Entry.TheVariants as entry
use Rattle.ipam_model.specs.declared.request.Request.{Request}
use Rattle.ipam_model.specs.declared.request.Request.TheVariants.{Probe}
use Rattle.ipam_model.specs.Course.{Begin}
use Rattle.ipam_model.specs.History.{Base}
use Rattle.ipam_plain.specs.Setting.{ready_base, five_reads, turns, scan_from, goes, round_reads}

abbrev pub probe : (node : List ℕ) (pools : List (List ℕ)) → Request
probe node pools = Probe (record {
  node = node;
  labels = [];
  ipv4 = true;
  ipv6 = false;
  pools4 = pools;
  pools6 = [];
})

-- a probe reads five times, and is answered at the last
abbrev pub ProbedOver : Base → (node : List ℕ) (pools : List (List ℕ)) → Answer → Type 0
ProbedOver base node pools answer = goes base
    (Begin 0 (probe node pools) ∷ turns 0 5)
    (entry.Began 0 (probe node pools) ∷ round_reads 0 1 1 (Some answer))

abbrev pub Probed : (node : List ℕ) (pools : List (List ℕ)) → Answer → Type 0
Probed = ProbedOver ready_base

abbrev pub ReadyFromAny : Type 0
ReadyFromAny = Probed (codes "a") [] (answer.Ready (scan_from V4 1 ∷ []))

abbrev pub ReadyFromNamed : Type 0
ReadyFromNamed = Probed (codes "a") (codes "p" ∷ []) (answer.Ready (scan_from V4 1 ∷ []))

-- a node is ready too where it must claim a block first
abbrev pub ReadyForAnotherNode : Type 0
ReadyForAnotherNode = Probed (codes "b") [] (answer.Ready (scan_from V4 1 ∷ []))

abbrev pub ProbeOfUnknownName : Type 0
ProbeOfUnknownName = Probed (codes "a") (codes "x" ∷ []) (answer.NoPool (codes "x") 2)

abbrev pub probe_both : Request
probe_both = Probe (record {
  node = codes "a";
  labels = [];
  ipv4 = true;
  ipv6 = true;
  pools4 = [];
  pools6 = [];
})

-- there is no IPv6 pool
abbrev pub ExhaustedInOneFamily : Type 0
ExhaustedInOneFamily = goes ready_base
    (Begin 0 probe_both ∷ turns 0 10)
    (entry.Began 0 probe_both
    ∷ five_reads 0 1 1
    ++ round_reads 0 1 1 (Some (answer.Exhausted (scan_from V6 6))))
