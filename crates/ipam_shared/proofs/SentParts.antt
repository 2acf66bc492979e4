-- Which parts of a request that runs may cross threads.
use denote.Param.Send.{IsSend}
use Rattle.std.proofs.Crossing.{frees, send as heap_send}
use Rattle.std.proofs.MapsCrossingOver.{BTreeSet-send}
use Rattle.ipam_pool.specs.contracts.reserved_set.Reserved as Reserved
use Rattle.ipam_choice.specs.contracts.confirmed.Confirmed as Confirmed
use Rattle.ipam_model.specs.contracts.request.AddRequest as AddRequest
use Rattle.ipam_parts.specs.contracts.found.BlockCidr as BlockCidr
use Rattle.ipam_parts.specs.contracts.found.FoundBlock as FoundBlock
use Rattle.ipam_parts.specs.contracts.lowering.Lowering as Lowering
use Rattle.ipam_parts.specs.contracts.raising.Raising as Raising
use Rattle.ipam_parts.specs.contracts.freeing.Picks as Picks
use Rattle.ipam_parts.specs.contracts.freeing.Freed as Freed
use Rattle.ipam_parts.specs.contracts.freeing.Stage as FreeingStage
use Rattle.ipam_parts.specs.contracts.freeing.Freeing as Freeing
use Rattle.ipam_parts.specs.contracts.claim.Stage as ClaimStage
use Rattle.ipam_parts.specs.contracts.claim.ClaimProc as ClaimProc
use Rattle.ipam_assign.specs.contracts.place.Place as Place
use Rattle.ipam_assign.specs.contracts.assigning.Assigning as Assigning
use Rattle.ipam_assign.specs.contracts.scanning.Configured as Configured
use Rattle.ipam_assign.specs.contracts.scanning.Pooled as Pooled
use Rattle.ipam_assign.specs.contracts.scanning.Reserving as Reserving
use Rattle.ipam_assign.specs.contracts.scanning.Gathered as Gathered
use Rattle.ipam_assign.specs.contracts.scanning.Scanning as Scanning
use Rattle.ipam_shared.proofs.SentRows.{pools_send, block_send, handle_send, attributes_send, parts}

reserved_send : IsSend Reserved.the_row
reserved_send = search (parts) depth 20 fits 100000

confirmed_send : IsSend Confirmed.the_row
confirmed_send = search (BTreeSet-send, frees, heap_send, parts) depth 20 fits 100000

pub add_request_send : IsSend AddRequest.the_row
add_request_send = search (attributes_send, parts) depth 20 fits 100000

-- ---- parts of several requests

pub block_cidr_send : IsSend BlockCidr.the_row
block_cidr_send = search (parts) depth 20 fits 100000

pub found_send : IsSend FoundBlock.the_row
found_send = search (block_send, parts) depth 20 fits 100000

lowering_send : IsSend Lowering.the_row
lowering_send = search (handle_send, parts) depth 20 fits 100000

raising_send : IsSend Raising.the_row
raising_send = search (handle_send, parts) depth 20 fits 100000

freed_send : IsSend Freed.the_row
freed_send = search (block_send, parts) depth 20 fits 100000

freeing_stage_send : IsSend FreeingStage.the_row
freeing_stage_send = search (lowering_send, freed_send, parts) depth 20 fits 100000

picks_send : IsSend Picks.the_row
picks_send = search (parts) depth 20 fits 100000

pub freeing_send : IsSend Freeing.the_row
freeing_send = search (freeing_stage_send, picks_send, parts) depth 20 fits 100000

claim_stage_send : IsSend ClaimStage.the_row
claim_stage_send = search (parts) depth 20 fits 100000

pub claim_send : IsSend ClaimProc.the_row
claim_send = search (block_cidr_send, found_send, claim_stage_send, parts) depth 20 fits 100000

-- ---- how an address is chosen and assigned

pub place_send : IsSend Place.the_row
place_send = search (parts) depth 20 fits 100000

pub assigning_send : IsSend Assigning.the_row
assigning_send = search (block_send, raising_send, lowering_send, parts) depth 20 fits 100000

configured_send : IsSend Configured.the_row
configured_send = search (parts) depth 20 fits 100000

pooled_send : IsSend Pooled.the_row
pooled_send = search (configured_send, pools_send, parts) depth 20 fits 100000

reserving_send : IsSend Reserving.the_row
reserving_send = search (pooled_send, reserved_send, parts) depth 20 fits 100000

gathered_send : IsSend Gathered.the_row
gathered_send = search (reserving_send, confirmed_send, parts) depth 20 fits 100000

pub scanning_send : IsSend Scanning.the_row
scanning_send = search (configured_send, pooled_send, reserving_send, gathered_send, parts) depth 20 fits 100000
