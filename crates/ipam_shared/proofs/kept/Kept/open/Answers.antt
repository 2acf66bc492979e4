use Rattle.std.proofs.Common.{◌≡◌, [], None, Ok, Err, refl, ◌∙◌, arith}
use Rattle.ipam_cluster.specs.declared.cluster.Cluster.{Cluster}
use Rattle.ipam_store.specs.FeedShape.{RingValue}
use Rattle.ipam_shared.specs.Faults.{IsOpening, IsWhyNot}
use Rattle.ipam_shared.specs.Opening.{IsFed}
use Rattle.ipam_shared.proofs.Openings.{has-cause, were-loaded, why-not}
use Rattle.ipam_shared.proofs.Standing.{opened-kept}
use Rattle.ipam_shared.proofs.SureStanding.{all-sure}
use Rattle.ipam_shared.proofs.kept.Kept.open.Goals as goal

pub returns-in-Ok-clause-opened : goal.returns-in-Ok-clause-opened
returns-in-Ok-clause-opened g c =
    let both : Cluster × RingValue = (c.in-Ok.cluster, c.in-Ok.ring) in
    let opening : IsOpening (IsFed c.args.first) (IsWhyNot (g.T.OpensKept.wants c.args.alloc)) c.load_sure-loaded.result (Ok both) = rw c.in-Ok.is at c.open_loaded.ensures in
    let (rows, is, fed) = were-loaded (IsFed c.args.first) (IsWhyNot (g.T.OpensKept.wants c.args.alloc)) c.load_sure-loaded.result both opening in
    let ascending = rw is at c.load_sure-loaded.ensures.ascending in
    let told = rw is at c.load_sure-loaded.ensures.told in
    let load = c.load_sure-loaded.ensures in
    record {
      loaded = rows.items;
      told = told;
      opens = fed.opens;
      entries = fed.entries;
      idle = fed.idle;
      stands = opened-kept g.D.Keeper.rows c.args.keeper c.args.first (record { cluster = c.in-Ok.cluster; keeper = c.load_sure-loaded.new.keeper; doubt = None; ring = c.in-Ok.ring; settled = c.args.first }) rows.items ascending told fed.opens fed.stands refl load.kept fed.fed.counter;
      sure = refl;
      same_rows = load.kept;
      no_fault = rw is at load.no_fault;
      same = load.same;
    }

pub returns-in-Ok-clause-fed : goal.returns-in-Ok-clause-fed
returns-in-Ok-clause-fed g c =
    let both : Cluster × RingValue = (c.in-Ok.cluster, c.in-Ok.ring) in
    let opening : IsOpening (IsFed c.args.first) (IsWhyNot (g.T.OpensKept.wants c.args.alloc)) c.load_sure-loaded.result (Ok both) = rw c.in-Ok.is at c.open_loaded.ensures in
    let (rows, is, fed) = were-loaded (IsFed c.args.first) (IsWhyNot (g.T.OpensKept.wants c.args.alloc)) c.load_sure-loaded.result both opening in
    let ascending = rw is at c.load_sure-loaded.ensures.ascending in
    let told = rw is at c.load_sure-loaded.ensures.told in
    record {
      kept_for = opened-kept g.D.Keeper.rows c.args.keeper c.args.first (record { cluster = c.in-Ok.cluster; keeper = c.load_sure-loaded.new.keeper; doubt = None; ring = c.in-Ok.ring; settled = c.args.first }) rows.items ascending told fed.opens fed.stands refl c.load_sure-loaded.ensures.kept fed.fed.counter;
      follows = fed.fed;
    }

pub returns-in-Ok-clause-sure : goal.returns-in-Ok-clause-sure
returns-in-Ok-clause-sure g c =
    let both : Cluster × RingValue = (c.in-Ok.cluster, c.in-Ok.ring) in
    let opening : IsOpening (IsFed c.args.first) (IsWhyNot (g.T.OpensKept.wants c.args.alloc)) c.load_sure-loaded.result (Ok both) = rw c.in-Ok.is at c.open_loaded.ensures in
    let (rows, is, fed) = were-loaded (IsFed c.args.first) (IsWhyNot (g.T.OpensKept.wants c.args.alloc)) c.load_sure-loaded.result both opening in
    all-sure g.D.Keeper.rows g.D.Keeper.settled (record { cluster = c.in-Ok.cluster; keeper = c.load_sure-loaded.new.keeper; doubt = None; ring = c.in-Ok.ring; settled = c.args.first }) (record { store = c.in-Ok.cluster.store.store; first = c.args.first }) []
    (returns-in-Ok-clause-fed g c).kept_for (omega arith) (rw is at c.load_sure-loaded.ensures.settled)

pub returns-in-Ok-clause-settled : goal.returns-in-Ok-clause-settled
returns-in-Ok-clause-settled g c =
    let both : Cluster × RingValue = (c.in-Ok.cluster, c.in-Ok.ring) in
    let opening : IsOpening (IsFed c.args.first) (IsWhyNot (g.T.OpensKept.wants c.args.alloc)) c.load_sure-loaded.result (Ok both) = rw c.in-Ok.is at c.open_loaded.ensures in
    let (rows, is, fed) = were-loaded (IsFed c.args.first) (IsWhyNot (g.T.OpensKept.wants c.args.alloc)) c.load_sure-loaded.result both opening in
    rw is at c.load_sure-loaded.ensures.settled

pub returns-in-Err-clause-refused : goal.returns-in-Err-clause-refused
returns-in-Err-clause-refused g c =
    let load = c.load_sure-loaded.ensures in
    record {
      same_rows = load.kept;
      same = load.same;
      fault = why-not (IsFed c.args.first) (g.T.OpensKept.wants c.args.alloc) g.D.Keeper.rows g.D.Keeper.faults c.args.keeper c.load_sure-loaded.new.keeper c.load_sure-loaded.result c.in-Err.fault (rw c.in-Err.is at c.open_loaded.ensures) load.told load.fault load.no_fault;
    }

pub returns-in-Err-clause-want_of_memory_has_its_cause : goal.returns-in-Err-clause-want_of_memory_has_its_cause
returns-in-Err-clause-want_of_memory_has_its_cause g c =
    has-cause (IsFed c.args.first) (g.T.OpensKept.wants c.args.alloc) c.load_sure-loaded.result c.in-Err.fault (rw c.in-Err.is at c.open_loaded.ensures) c.load_sure-loaded.ensures.wants
