-- What a cluster makes is made in each history that it stands for.
use Rattle.std.proofs.Common.{◌≡◌, ℕ, [], ◌∷◌, subst}
use Rattle.std.specs.Prelude.{Ok}
use Rattle.ipam_model.specs.declared.entry.Entry.{Entry}
use Rattle.ipam_model.specs.declared.entry.Fate.{Fate}
use Rattle.ipam_model.specs.Course.{Event, Turn, entries_of}
use Rattle.ipam_model.specs.CourseLaw.{event_of}
use Rattle.ipam_model.specs.History.{cluster_at}
use Rattle.ipam_cluster.specs.declared.cluster.Cluster.{Cluster}
use Rattle.ipam_cluster.specs.Cluster.{AddsTo, IsUnchanged}
use Rattle.ipam_cluster.specs.Turns.{IsTurn}
use Rattle.ipam_cluster.proofs.Events as cluster_events
use Rattle.ipam_cluster.proofs.Standing.{unchanged_stands}
use Rattle.ipam_play.specs.Events.{Makes}

pub makes : (old new : Cluster) (event : Event) (made : Entry) → event_of made ≡ event → AddsTo old new made → Makes old new event made
makes old new event made is adds = record {
  stands = adds;
  made_by = λ base history h. subst (λ (e : Event). entries_of (cluster_at base history) e ≡ Ok (made ∷ [])) is
      (cluster_events.made new base history made (adds base history h));
}

-- a call that was prepared, and then made
pub turn_made : (old mid new : Cluster) (slot prepared : ℕ) (fate : Fate) (made : Entry) → prepared ≡ slot → IsUnchanged old mid → IsTurn prepared fate made → AddsTo mid new made
    → Makes old new (Turn slot fate) made
turn_made old mid new slot prepared fate made same unchanged is adds = record {
  stands = λ base history h. adds base history (unchanged_stands old mid unchanged base history h);
  made_by = λ base history h. subst (λ (s : ℕ). entries_of (cluster_at base history) (Turn s fate) ≡ Ok (made ∷ [])) same
      (cluster_events.turn_made new base history prepared fate made is (adds base history (unchanged_stands old mid unchanged base history h)));
}
