-- What an event adds.
use Rattle.std.proofs.Common.{◌≡◌, ℕ, ◌+◌, ◌^◌, ◌<◌, ◌≤◌, nat_lt, true, false, List, refl, sym, ap, ◌∙◌, subst, inl, inr, ◌⊎◌, ltb-true, ltb-false}
use Rattle.std.proofs.lemmas.Bool.{cases_Bool}
use Rattle.ipam_model.specs.declared.entry.Entry.{Entry}
use Rattle.ipam_model.specs.declared.entry.Entry.TheVariants as entry
use Rattle.ipam_model.specs.declared.entry.Fate.{Fate}
use Rattle.ipam_model.specs.declared.entry.Fate.TheVariants.{Well}
use Rattle.ipam_model.specs.declared.request.Request.{Request}
use Rattle.ipam_model.specs.Cluster as model
use Rattle.ipam_model.specs.Cluster.{after}
use Rattle.ipam_model.specs.Course.{Event, Begin, Turn, Feed}
use Rattle.ipam_model.specs.CourseLaw.{event_of}
use Rattle.ipam_model.specs.History.{cluster_at}
use Rattle.ipam_cluster.specs.declared.cluster.Cluster.{Cluster}
use Rattle.ipam_cluster.specs.Cluster.{AddsTo, IsUnchanged, Stood}
use Rattle.ipam_cluster.specs.Turns.{IsTurn}
use Rattle.ipam_cluster.proofs.Events as cluster_events
use Rattle.ipam_cluster.proofs.Standing.{unchanged_stands}
use Rattle.ipam_command.specs.declared.gen_counted.Counted.{Counted}
use Rattle.ipam_command.specs.Counted.{Adds, CountsOne, HappensAs, IsCounted}
use Rattle.ipam_command.specs.Generated.{Makes}
use Rattle.ipam_command.specs.Requests.{base}

pub adds-begun : (old new : Cluster) (slot : ℕ) (request : Request) (made : Entry) → made ≡ entry.Began slot request → AddsTo old new made → Adds old new (Begin slot request) made
adds-begun old new slot request made is adds = record { is_event = ap event_of is; adds = adds }

pub adds-fed : (old new : Cluster) (slot at : ℕ) (live : List (List ℕ)) (made : Entry) → made ≡ entry.Fed slot at live → AddsTo old new made → Adds old new (Feed slot at live) made
adds-fed old new slot at live made is adds = record { is_event = ap event_of is; adds = adds }

-- a call that was prepared, and then made
pub adds-turned : (old mid new : Cluster) (slot prepared : ℕ) (made : Entry) → prepared ≡ slot → IsUnchanged old mid → IsTurn prepared Well made → AddsTo mid new made
    → Adds old new (Turn slot Well) made
adds-turned old mid new slot prepared made same unchanged is adds = record {
  is_event = ap event_of is.is_called ∙ ap (λ s. Turn s is.told.fate) (is.own ∙ same) ∙ ap (λ (f : Fate). Turn slot f) is.has_fate;
  adds = λ base history h. adds base history (unchanged_stands old mid unchanged base history h);
}

-- ---- entries count

after-counts : (one : model.ClusterState) (new : Entry) → (after one new).entries ≡ one.entries + 1
unfolding after
after-counts one (entry.Began slot request) = refl
after-counts one (entry.Fed slot at live) = refl
after-counts one (entry.Called c) = refl
after-counts one (entry.Stopped slot) = refl

one-more : (old new : Cluster) (event : Event) (made : Entry) → Stood old → Adds old new event made → new.entries ≡ old.entries + 1
unfolding cluster_at
one-more old new event made (base, (history, h)) adds =
    (adds.adds base history h).is_cluster.entries ∙ after-counts (cluster_at base history) made
    ∙ ap (λ (n : ℕ). n + 1) (sym h.is_cluster.entries)

pub few : (n : ℕ) → ¬ (2 ^ 62 ≤ n) → n < 2 ^ 62
few n not = from (cases_Bool (nat_lt n (2 ^ 62)))
  where
    from : (nat_lt n (2 ^ 62) ≡ true) ⊎ (nat_lt n (2 ^ 62) ≡ false) → n < 2 ^ 62
    from (inl less) = ltb-true n (2 ^ 62) less
    from (inr more) = absurd (not (ltb-false n (2 ^ 62) more))

-- there was room, since it was not refused, and there is one entry more
pub counts-one : (old new : Cluster) (event : Event) (made : Entry) → Stood old → Adds old new event made → ¬ (2 ^ 62 ≤ old.entries) → CountsOne old new
counts-one old new event made stood adds not = record {
  few = few old.entries not;
  one_more = one-more old new event made stood adds;
}

-- ---- what is made

-- what happens is what the event makes
pub makes : (old new : Counted) (event : Event) (made : Entry) (history : List Entry) → HappensAs old new event made → IsCounted old history → Makes history event made
makes old new event made history h counted =
    subst (λ (e : Event). Makes history e made) h.is_event
    (cluster_events.made new.cluster base history made (h.counted history counted).stands)
