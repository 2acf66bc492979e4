-- What was given so far is applied and told, and the cluster is ready.
use Rattle.std.proofs.Common.{◌≡◌, None}
use Rattle.ipam_commands.specs.Applying.{AreApplied, applied_lines}
use Rattle.ipam_commands.specs.Outside.{Took}
use Rattle.ipam_commands.specs.Ready.{IsReady}
use Rattle.ipam_commands.proofs.resources.run.Given as goal

abbrev pub invariant-loop-resource : goal.invariant-loop-resource
invariant-loop-resource g l = record {
  applied : AreApplied l.initial.kept.cluster.store.store l.yielded l.kept.cluster.store.store;
  took : Took (record {
    left = None;
    read_faults = 0;
    written = g.K.Sink.written l.initial.sink;
    write_faults = g.K.Sink.write_faults l.initial.sink;
    rows = g.D.Keeper.rows l.initial.kept.keeper;
    keeper_faults = g.D.Keeper.faults l.initial.kept.keeper;
  }) (record {
    left = None;
    read_faults = 0;
    written = g.K.Sink.written l.sink;
    write_faults = g.K.Sink.write_faults l.sink;
    rows = g.D.Keeper.rows l.kept.keeper;
    keeper_faults = g.D.Keeper.faults l.kept.keeper;
  }) (applied_lines l.yielded);
  ready : IsReady g.D.Keeper.rows l.kept;
  same : g.D.Keeper.name l.kept.keeper ≡ g.D.Keeper.name l.initial.kept.keeper;
  rest : g.K.Sink.write_rest l.sink ≡ g.K.Sink.write_rest l.initial.sink;
}
