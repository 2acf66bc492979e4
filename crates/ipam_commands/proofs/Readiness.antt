-- A kept cluster in which nothing runs, and of which nothing is in doubt, is ready for the next request.
use Rattle.std.proofs.Common.{◌≡◌, List, [], Option, Some, None, refl, sym, subst}
use Rattle.ipam_model.specs.declared.entry.Entry.{Entry}
use Rattle.ipam_model.specs.Consistent.{IsConsistent}
use Rattle.ipam_model.specs.History.{Base, Lawful, cluster_at}
use Rattle.ipam_laws.proofs.SlotsHistory.{consistent_law}
use Rattle.ipam_cluster.specs.declared.running.Running.{Running}
use Rattle.ipam_cluster.specs.Cluster.{IsSlot, StandsFor, slot_of_cluster}
use Rattle.ipam_shared.specs.declared.kept.Kept.{Kept}
use Rattle.ipam_shared.specs.declared.write.RowWrite.{RowWrite}
use Rattle.ipam_shared.specs.Doubt.{IsDoubt}
use Rattle.ipam_shared.specs.Kept.{IsKept, KeptFor, Tells}
use Rattle.ipam_shared.specs.Rows.{AreToldKept}
use Rattle.ipam_shared.specs.Solo.{NothingRuns, base_of}
use Rattle.ipam_commands.specs.Courses.{AreRowsOf}
use Rattle.ipam_commands.specs.Ready.{IsReady}

idle-slot : (o : Option Running) → o ≡ None → IsSlot o None
idle-slot None is = tt
idle-slot (Some running) is = absurd (cc is)

still-consistent : {D : Type 0} (tells : Tells D) (kept : Kept D) (base : Base) (history : List Entry) → KeptFor tells kept base history → IsConsistent kept.cluster.store.store
still-consistent tells kept base history is =
    subst IsConsistent (sym is.cluster.is_cluster.store) (consistent_law base history is.cluster.stands.consistent is.cluster.stands.lawful)

-- it stands for its own datastore and number of entries
stands-anew : {D : Type 0} (kept : Kept D) → IsConsistent kept.cluster.store.store → NothingRuns kept → StandsFor kept.cluster (base_of kept) []
unfolding Lawful cluster_at
stands-anew kept consistent nothing = record {
  is_cluster = record { store = refl; entries = refl; slots = λ slot. idle-slot (slot_of_cluster kept.cluster slot) (nothing slot) };
  stands = record { consistent = consistent; lawful = tt; is_cluster = refl };
}

pub ready-again : {D : Type 0} (tells : Tells D) (kept : Kept D) → IsKept tells kept → NothingRuns kept → kept.doubt ≡ None → IsReady tells kept
ready-again tells kept (base, (history, is)) nothing sure = record {
  idle = nothing;
  sure = sure;
  kept_for = record {
    cluster = stands-anew kept (still-consistent tells kept base history is) nothing;
    rows = is.rows;
    doubt = subst (λ (d : Option RowWrite). IsDoubt d (base_of kept) []) (sym sure) tt;
    counter = is.counter;
  };
}

-- the keeper has its rows
pub ready-rows : {D : Type 0} (tells : Tells D) (kept : Kept D) → IsReady tells kept → AreRowsOf (tells kept.keeper) kept.cluster.store.store
ready-rows tells kept h = subst (λ (d : Option RowWrite). AreToldKept (tells kept.keeper) kept.cluster.store.store d) h.sure h.kept_for.rows
