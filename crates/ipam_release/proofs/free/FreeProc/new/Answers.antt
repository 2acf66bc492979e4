use Rattle.std.proofs.Common.{◌∙◌, ap}
use Rattle.ipam_model.specs.Counting.{free, freeing_one}
use Rattle.ipam_release.proofs.FreeLemmas.{begins}
use Rattle.ipam_release.proofs.free.FreeProc.new.Goals as goal

pub returns : goal.returns
returns c =
    let ordinal = c.ordinal_in-ordinal.result in
    let what = freeing_one c.in_ok-id.id c.args.cidr ordinal c.args.stamp in
    begins c.in_ok-id.id (record { address = c.args.address; handle = c.args.handle.now; stamp = c.args.stamp }) c.args.cidr
    ordinal c.new-freeing.result c.in_ok-id.ensures c.ordinal_in-ordinal.ensures
    (c.new-freeing.ensures c.in_ok-id.id ∙ ap (free what) c.all_left.ensures)
