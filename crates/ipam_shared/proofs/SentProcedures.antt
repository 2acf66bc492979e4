-- Which requests that run may cross threads.
use denote.Param.Send.{IsSend}
use Rattle.ipam_model.specs.contracts.answer.Scan as Scan
use Rattle.ipam_model.specs.contracts.answer.Item as Item
use Rattle.ipam_model.specs.contracts.answer.Given as Given
use Rattle.ipam_model.specs.contracts.outcome.AddAnswer as AddAnswer
use Rattle.ipam_model.specs.contracts.request.Admin as Admin
use Rattle.ipam_model.specs.contracts.request.CollectRequest as CollectRequest
use Rattle.ipam_model.specs.contracts.request.ProbeRequest as ProbeRequest
use Rattle.ipam_assign.specs.contracts.grant.Spot as Spot
use Rattle.ipam_assign.specs.contracts.grant.Grant as Grant
use Rattle.ipam_assign.specs.contracts.serving.Serving as Serving
use Rattle.ipam_assign.specs.contracts.add.AddProc as AddProc
use Rattle.ipam_assign.specs.contracts.add_this.Configured as Configured
use Rattle.ipam_assign.specs.contracts.add_this.Stage as AddThisStage
use Rattle.ipam_assign.specs.contracts.add_this.Ruled as Ruled
use Rattle.ipam_assign.specs.contracts.add_this.Looked as Looked
use Rattle.ipam_assign.specs.contracts.add_this.AddThisProc as AddThisProc
use Rattle.ipam_assign.specs.contracts.probe.ProbeProc as ProbeProc
use Rattle.ipam_release.specs.contracts.del.Frees as DelFrees
use Rattle.ipam_release.specs.contracts.del.DelProc as DelProc
use Rattle.ipam_release.specs.contracts.check.Looks as Looks
use Rattle.ipam_release.specs.contracts.check.CheckProc as CheckProc
use Rattle.ipam_parts.specs.contracts.release.Marked as Marked
use Rattle.ipam_parts.specs.contracts.release.Reading as Reading
use Rattle.ipam_parts.specs.contracts.release.Writing as Writing
use Rattle.ipam_parts.specs.contracts.release.ReleaseAffinityProc as ReleaseAffinityProc
use Rattle.ipam_collect.specs.contracts.suspect.Suspect as Suspect
use Rattle.ipam_collect.specs.contracts.tally.Tally as Tally
use Rattle.ipam_collect.specs.contracts.frees.Frees as Frees
use Rattle.ipam_collect.specs.contracts.collect.Found as Found
use Rattle.ipam_collect.specs.contracts.collect.FoundTwice as FoundTwice
use Rattle.ipam_collect.specs.contracts.collect.Stage as CollectStage
use Rattle.ipam_collect.specs.contracts.collect.CollectProc as CollectProc
use Rattle.ipam_release.specs.contracts.admin.Writes as Writes
use Rattle.ipam_release.specs.contracts.admin.Stage as AdminStage
use Rattle.ipam_release.specs.contracts.admin.AdminProc as AdminProc
use Rattle.ipam_cluster.specs.contracts.absent.AbsentRelease as AbsentRelease
use Rattle.ipam_cluster.specs.contracts.running.Running as Running
use Rattle.ipam_shared.proofs.SentRows.{pool_send, reservation_send, parts}
use Rattle.ipam_shared.proofs.SentStore.{record_send}
use Rattle.ipam_shared.proofs.SentParts.{add_request_send, block_cidr_send, found_send, freeing_send, claim_send, place_send, assigning_send, scanning_send}

-- ---- an address is added

scan_send : IsSend Scan.the_row
scan_send = search (parts) depth 20 fits 100000

given_send : IsSend Given.the_row
given_send = search (parts) depth 20 fits 100000

answer_send : IsSend AddAnswer.the_row
answer_send = search (given_send, scan_send, parts) depth 20 fits 100000

spot_send : IsSend Spot.the_row
spot_send = search (scan_send, place_send, parts) depth 20 fits 100000

grant_send : IsSend Grant.the_row
grant_send = search (spot_send, parts) depth 20 fits 100000

serving_send : IsSend Serving.the_row
serving_send = search (scanning_send, claim_send, spot_send, assigning_send, parts) depth 20 fits 100000

add_send : IsSend AddProc.the_row
add_send = search (add_request_send, grant_send, serving_send, freeing_send, answer_send, parts) depth 20 fits 100000

ruled_send : IsSend Ruled.the_row
ruled_send = search (place_send, parts) depth 20 fits 100000

looked_send : IsSend Looked.the_row
looked_send = search (parts) depth 20 fits 100000

read_config_send : IsSend Configured.the_row
read_config_send = search (parts) depth 20 fits 100000

add_this_stage_send : IsSend AddThisStage.the_row
add_this_stage_send = search (read_config_send, ruled_send, claim_send, looked_send, assigning_send, parts) depth 20 fits 100000

add_this_send : IsSend AddThisProc.the_row
add_this_send = search (add_request_send, add_this_stage_send, parts) depth 20 fits 100000

probe_request_send : IsSend ProbeRequest.the_row
probe_request_send = search (parts) depth 20 fits 100000

probe_send : IsSend ProbeProc.the_row
probe_send = search (probe_request_send, scan_send, scanning_send, parts) depth 20 fits 100000

-- ---- addresses and blocks are given back

del_frees_send : IsSend DelFrees.the_row
del_frees_send = search (freeing_send, parts) depth 20 fits 100000

del_send : IsSend DelProc.the_row
del_send = search (del_frees_send, parts) depth 20 fits 100000

looks_send : IsSend Looks.the_row
looks_send = search (parts) depth 20 fits 100000

check_send : IsSend CheckProc.the_row
check_send = search (looks_send, parts) depth 20 fits 100000

marked_send : IsSend Marked.the_row
marked_send = search (found_send, parts) depth 20 fits 100000

reading_send : IsSend Reading.the_row
reading_send = search (marked_send, parts) depth 20 fits 100000

writing_send : IsSend Writing.the_row
writing_send = search (marked_send, parts) depth 20 fits 100000

release_send : IsSend ReleaseAffinityProc.the_row
release_send = search (block_cidr_send, reading_send, writing_send, parts) depth 20 fits 100000

absent_send : IsSend AbsentRelease.the_row
absent_send = search (parts) depth 20 fits 100000

suspect_send : IsSend Suspect.the_row
suspect_send = search (parts) depth 20 fits 100000

item_send : IsSend Item.the_row
item_send = search (parts) depth 20 fits 100000

tally_send : IsSend Tally.the_row
tally_send = search (item_send, suspect_send, parts) depth 20 fits 100000

frees_send : IsSend Frees.the_row
frees_send = search (tally_send, freeing_send, parts) depth 20 fits 100000

collect_request_send : IsSend CollectRequest.the_row
collect_request_send = search (parts) depth 20 fits 100000

found_leaks_send : IsSend Found.the_row
found_leaks_send = search (suspect_send, parts) depth 20 fits 100000

found_twice_send : IsSend FoundTwice.the_row
found_twice_send = search (suspect_send, parts) depth 20 fits 100000

collect_stage_send : IsSend CollectStage.the_row
collect_stage_send = search (found_leaks_send, found_twice_send, frees_send, parts) depth 20 fits 100000

collect_send : IsSend CollectProc.the_row
collect_send = search (collect_request_send, collect_stage_send, parts) depth 20 fits 100000

-- ---- the operator's requests

admin_request_send : IsSend Admin.the_row
admin_request_send = search (pool_send, reservation_send, parts) depth 20 fits 100000

writes_send : IsSend Writes.the_row
writes_send = search (record_send, parts) depth 20 fits 100000

admin_stage_send : IsSend AdminStage.the_row
admin_stage_send = search (writes_send, parts) depth 20 fits 100000

admin_send : IsSend AdminProc.the_row
admin_send = search (admin_request_send, admin_stage_send, parts) depth 20 fits 100000

pub running_send : IsSend Running.the_row
running_send = search (add_send, add_this_send, del_send, check_send, release_send, absent_send, collect_send, admin_send, probe_send, parts) depth 20 fits 100000
