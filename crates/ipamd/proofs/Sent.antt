-- That what keeps rows in a file may be handed to a thread.
use denote.RattleType.{RattleType}
use denote.Param.Send.{IsSend, sendable}
use denote.Param.SendFields.{declared_send, variants_send}
use Rattle.std.proofs.Crossing.{crosses}
use Rattle.std.proofs.MapsCrossing as maps
use Rattle.sqlite.specs.contracts.FileStore as FileStore
use Rattle.sqlite_store.specs.contracts.catalog.Wanted as Wanted
use Rattle.sqlite_store.specs.contracts.saved.Listed as Listed
use Rattle.sqlite_store.specs.contracts.saved.Saved as Saved
use Rattle.sqlite_disk.specs.contracts.modelled.Modelled as Modelled
use Rattle.sqlite_disk.specs.contracts.modelled.ModelledDisk.TheImpl as disk
use Rattle.sqlite_disk.specs.contracts.start.Unknown as Unknown
use Rattle.sqlite_disk.specs.contracts.start.UnknownStart.TheImpl as start
use Rattle.sqlite_std_file.specs.contracts.host.Host as File
use Rattle.sqlite_std_file.specs.contracts.host.HostCalls.TheImpl as calls

-- what a type holds may cross threads where each part may
ruleset parts = (crosses, maps.crosses, declared_send, variants_send, sendable)

abbrev on_disk : RattleType
on_disk = Modelled.the_row File.the_row Unknown.the_row calls.ghosts start.ghosts

abbrev pub file_store : RattleType
file_store = FileStore.the_row on_disk
    (disk.ghosts File.the_row Unknown.the_row calls.ghosts disk.no_dict start.ghosts disk.no_dict disk.no_dict)

file_send : IsSend File.the_row
file_send = search (parts) depth 20 fits 100000

disk_send : IsSend on_disk
disk_send = search (file_send, parts) depth 20 fits 100000

wanted_send : IsSend Wanted.the_row
wanted_send = search (parts) depth 20 fits 100000

listed_send : IsSend Listed.the_row
listed_send = search (wanted_send, parts) depth 20 fits 100000

saved_send : IsSend Saved.the_row
saved_send = search (wanted_send, listed_send, parts) depth 20 fits 100000

-- field by field: one search of them all takes too many steps
pub file_store_send : IsSend file_store
file_store_send = declared_send (FileStore.the_type on_disk
    (disk.ghosts File.the_row Unknown.the_row calls.ghosts disk.no_dict start.ghosts disk.no_dict disk.no_dict)) (
      search (disk_send, parts) depth 60 fits 100000,
      (
        search (parts) depth 20 fits 100000,
        (
          search (wanted_send, parts) depth 20 fits 100000,
          (
            search (parts) depth 20 fits 100000,
            (
              search (saved_send, parts) depth 20 fits 100000,
              (
                search (parts) depth 20 fits 100000,
                (
                  search (parts) depth 20 fits 100000,
                  (
                    search (parts) depth 20 fits 100000,
                    (
                      search (parts) depth 20 fits 100000,
                      (
                        search (parts) depth 20 fits 100000,
                        (
                          search (parts) depth 20 fits 100000,
                          (search (parts) depth 20 fits 100000, tt),
                        ),
                      ),
                    ),
                  ),
                ),
              ),
            ),
          ),
        ),
      ),
    )
