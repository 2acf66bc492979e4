-- What a line does to a player.
use Rattle.std.proofs.Common.{◌≡◌, ℕ, zero, suc, List, [], ◌∷◌, ◌++◌, length, Some, None, refl, sym, ap, ◌∙◌, subst, arith, append_assoc, append-nil, inl, inr, ◌⊎◌}
use Rattle.std.specs.Prelude.{Result, Ok, Err, IfOk, IfErr, OnErr, replicate}
use Rattle.std.proofs.lemmas.List.{length-append}
use Rattle.ipam_records.specs.Datastore.{Datastore}
use Rattle.ipam_model.specs.declared.entry.Entry.{Entry}
use Rattle.ipam_model.specs.declared.entry.Fate.TheVariants.{Well}
use Rattle.ipam_model.specs.Cluster as model
use Rattle.ipam_model.specs.Course.{Course, Event, Turn, course, entries_of}
use Rattle.ipam_model.specs.History.{Base, cluster_at, start}
use Rattle.ipam_cluster.specs.Cluster.{StandsFor}
use Rattle.ipam_answer_text.specs.declared.line.Line.{Line}
use Rattle.ipam_answer_text.specs.declared.line.Line.TheVariants as line
use Rattle.ipam_play.specs.declared.fault.PlayFault.{PlayFault}
use Rattle.ipam_play.specs.declared.fault.PlayFault.TheVariants as fault
use Rattle.ipam_play.specs.declared.cluster.OpenCluster.{OpenCluster}
use Rattle.ipam_play.specs.declared.player.Player.{Player}
use Rattle.ipam_play.specs.declared.player.Stage.TheVariants as stage
use Rattle.ipam_play.specs.Events.{ComesOf, IsCause, Keeps, Stops, onto}
use Rattle.ipam_play.specs.Played.{base_of}
use Rattle.ipam_play.specs.Player.{HasHappened, IsBegunWith, IsCauseAtFirst, IsCauseOnceOpened, IsGathering, IsBaseOpened, IsPlaying, IsRefusal, IsWanting, cluster_of, journal_of}
use Rattle.ipam_play.specs.Script.{Gathered, events_of}
use Rattle.ipam_play.proofs.Happenings.{course-cons, course_from, course-nothing, onto-append}

-- ---- lines after the base

still-playing : (new : Player) (o : OpenCluster) (base : Gathered) (store : Datastore) (past before made : List Entry) → new.stage ≡ stage.Playing o → IsBaseOpened base store
    → StandsFor o.cluster (base_of store) (onto made (onto (past ++ before) [])) → journal_of new ≡ before ++ made → IsPlaying new base store past
still-playing new o base store past before made is opened stands added = record {
  open_cluster = o;
  is = is;
  opened = opened;
  stands = subst (λ (entries : List Entry). StandsFor o.cluster (base_of store) entries)
      (sym (onto-append (past ++ before) made []) ∙ ap (λ (l : List Entry). onto l []) (append_assoc past before made ∙ ap (λ (l : List Entry). past ++ l) (sym added))) stands;
}

-- where it stands
stood-at : (old : Player) (o : OpenCluster) (base : Gathered) (store : Datastore) (past : List Entry) → old.stage ≡ stage.Playing o → IsPlaying old base store past
    → StandsFor o.cluster (base_of store) (onto (past ++ journal_of old) [])
stood-at old o base store past is h =
    let same : h.open_cluster ≡ o = cc (sym h.is ∙ is) in
    subst (λ (p : OpenCluster). StandsFor p.cluster (base_of store) (onto (past ++ journal_of old) [])) same h.stands

behind-all : (store : Datastore) (past before made after : List Entry) → after ≡ before ++ made → cluster_at (base_of store) (onto made (onto (past ++ before) [])) ≡ cluster_of store (past ++ after)
behind-all store past before made after added =
    ap (cluster_at (base_of store)) (sym (onto-append (past ++ before) made []) ∙ ap (λ (l : List Entry). onto l []) (append_assoc past before made ∙ ap (λ (l : List Entry). past ++ l) (sym added)))

module _ (old new : Player) (o n : OpenCluster) (was : old.stage ≡ stage.Playing o) (is : new.stage ≡ stage.Playing n) where
  pub line_happened : {T : Type 0} (result : Result T PlayFault) (base : Gathered) (store : Datastore) (past : List Entry) (events : List Event) → IsPlaying old base store past
      → ComesOf result o.cluster n.cluster (journal_of old) (journal_of new) events → HasHappened result old new store past events
  line_happened (Ok done) base store past events h comes = record {
    made = comes.made;
    added = comes.added;
    made_by = comes.plays.made_by (base_of store) (onto (past ++ journal_of old) []) (stood-at old o base store past was h);
  }
  line_happened (Err told) base store past events h comes = record {
    first = comes.first;
    next = comes.next;
    rest = comes.rest;
    is_first = comes.is_first;
    made = comes.made;
    added = comes.added;
    made_by = comes.plays.made_by (base_of store) (onto (past ++ journal_of old) []) (stood-at old o base store past was h);
    cause = by comes.cause;
  }
    where
      by : IsCause o.cluster comes.made comes.next told → IsWanting (cluster_of store (past ++ journal_of new)) comes.next told ⊎ IsRefusal (cluster_of store (past ++ journal_of new)) comes.next told
      by (inl (memory, may)) =
          let made = may (base_of store) (onto (past ++ journal_of old) []) (stood-at old o base store past was h) in
          inl (record {
            is_told = memory;
            would_make = made.0;
            makes = subst (λ (c : model.ClusterState). entries_of c comes.next ≡ Ok made.0) (behind-all store past (journal_of old) comes.made (journal_of new) comes.added) made.1;
          })
      by (inr because) = inr (record {
        refusal = because.refusal;
        is_told = because.is_told;
        refuses = subst (λ (c : model.ClusterState). entries_of c comes.next ≡ Err because.refusal) (behind-all store past (journal_of old) comes.made (journal_of new) comes.added)
            (because.refuses (base_of store) (onto (past ++ journal_of old) []) (stood-at old o base store past was h));
      })

  pub line_keeps : {T : Type 0} (result : Result T PlayFault) (base : Gathered) (store : Datastore) (past : List Entry) (events : List Event) → IsPlaying old base store past
      → ComesOf result o.cluster n.cluster (journal_of old) (journal_of new) events → IsPlaying new base store past
  line_keeps (Ok done) base store past events h comes =
      still-playing new n base store past (journal_of old) comes.made is h.opened
      (comes.plays.stands (base_of store) (onto (past ++ journal_of old) []) (stood-at old o base store past was h)) comes.added
  line_keeps (Err told) base store past events h comes =
      still-playing new n base store past (journal_of old) comes.made is h.opened
      (comes.plays.stands (base_of store) (onto (past ++ journal_of old) []) (stood-at old o base store past was h)) comes.added

  pub base_keeps : (base : Gathered) (store : Datastore) (past : List Entry) → IsPlaying old base store past → Keeps o.cluster n.cluster → journal_of new ≡ journal_of old → IsPlaying new base store past
  base_keeps base store past h keeps same =
      still-playing new n base store past (journal_of old) [] is h.opened
      (keeps (base_of store) (onto (past ++ journal_of old) []) (stood-at old o base store past was h)) (same ∙ sym (append-nil (journal_of old)))

-- ---- the first line after the base

single-front : (event next : Event) (first rest : List Event) → event ∷ [] ≡ first ++ next ∷ rest → first ≡ []
single-front event next [] rest e = refl
single-front event next (f ∷ first) rest e = absurd (too-long (ap length e))
  where
    too-long : 1 ≡ suc (length (first ++ next ∷ rest)) → ⊥
    too-long k = let l = length-append first (next ∷ rest) in omega arith

-- nothing runs yet, so that no turn happens
idle-first : (base : Base) (slot count : ℕ) (next : Event) (first rest : List Event) (made : List Entry) → replicate count (Turn slot Well) ≡ first ++ next ∷ rest
    → course (start base) first ≡ record { entries = made; refused = None } → first ≡ []
unfolding course_from
idle-first base slot count next [] rest made e f = refl
idle-first base slot zero next (event ∷ first) rest made e f = absurd (cc e)
idle-first base slot (suc count) next (event ∷ first) rest made e f =
    let same : Turn slot Well ≡ event = cc e in
    let g : course (start base) (Turn slot Well ∷ first) ≡ record { entries = made; refused = None } = subst (λ (t : Event). course (start base) (t ∷ first) ≡ record { entries = made; refused = None }) (sym same) f in
    absurd (cc (ap (λ (c : Course). c.refused) (sym (course-cons (start base) (Turn slot Well) first) ∙ g)))

some-is : (one other : List Event) → Some one ≡ Some other → one ≡ other
some-is one other e = cc e

pub none-first : (base : Base) (asked : Line) (events first rest : List Event) (next : Event) (made : List Entry) → events_of asked ≡ Some events → events ≡ first ++ next ∷ rest
    → course (start base) first ≡ record { entries = made; refused = None } → first ≡ []
none-first base (line.Row row) events first rest next made is e f = absurd (cc is)
none-first base (line.Counter counter) events first rest next made is e f = absurd (cc is)
none-first base (line.Begin slot request) events first rest next made is e f = single-front _ next first rest (some-is _ events is ∙ e)
none-first base (line.Turn slot count) events first rest next made is e f = idle-first base slot count next first rest made (some-is _ events is ∙ e) f
none-first base (line.Fail slot) events first rest next made is e f = single-front _ next first rest (some-is _ events is ∙ e)
none-first base (line.Lose slot) events first rest next made is e f = single-front _ next first rest (some-is _ events is ∙ e)
none-first base (line.Feed slot at live) events first rest next made is e f = single-front _ next first rest (some-is _ events is ∙ e)
none-first base (line.Stop slot) events first rest next made is e f = single-front _ next first rest (some-is _ events is ∙ e)
none-first base line.Restart events first rest next made is e f = single-front _ next first rest (some-is _ events is ∙ e)

-- a line over what was just opened
module _ (base : Gathered) (store : Datastore) (o n : OpenCluster) (before after : List Entry) (opened : IsBaseOpened base store) (stands : StandsFor o.cluster (base_of store) []) where
  pub first_begins : {T : Type 0} (result : Result T PlayFault) (events : List Event) → ComesOf result o.cluster n.cluster before after events → IfOk result (λ done. IsBegunWith n before after base events)
  first_begins (Ok done) events comes = record {
    store = store;
    opened = opened;
    made = comes.made;
    added = comes.added;
    stands = comes.plays.stands (base_of store) [] stands;
    made_by = comes.plays.made_by (base_of store) [] stands;
  }
  first_begins (Err told) events comes = tt

  -- the event that did not happen is the first
  record Is-first (told : PlayFault) (events : List Event) (next : Event) (rest : List Event) : Type 0 where
    pub none : after ≡ before
    pub whole : events ≡ next ∷ rest
    pub cause : IsWanting (cluster_of store []) next told ⊎ IsRefusal (cluster_of store []) next told

  stopped-first : (told : PlayFault) (asked : Line) (events : List Event) → events_of asked ≡ Some events → (stops : Stops o.cluster n.cluster before after events told) → Is-first told events stops.next stops.rest
  unfolding cluster_at
  stopped-first told asked events is stops =
      let made_by = stops.plays.made_by (base_of store) [] stands in
      let first : stops.first ≡ [] = none-first (base_of store) asked events stops.first stops.rest stops.next stops.made is stops.is_first made_by in
      let nothing : stops.made ≡ [] = ap (λ (c : Course). c.entries) (sym made_by ∙ ap (course (start (base_of store))) first ∙ course-nothing (start (base_of store))) in
      record {
        none = stops.added ∙ ap (λ (l : List Entry). before ++ l) nothing ∙ append-nil before;
        whole = stops.is_first ∙ ap (λ (l : List Event). l ++ stops.next ∷ stops.rest) first;
        cause = by nothing stops.cause;
      }
    where
      by : stops.made ≡ [] → IsCause o.cluster stops.made stops.next told → IsWanting (cluster_of store []) stops.next told ⊎ IsRefusal (cluster_of store []) stops.next told
      by nothing (inl (memory, may)) =
          let made = may (base_of store) [] stands in
          inl (record {
            is_told = memory;
            would_make = made.0;
            makes = subst (λ (l : List Entry). entries_of (cluster_at (base_of store) (onto l [])) stops.next ≡ Ok made.0) nothing made.1;
          })
      by nothing (inr because) = inr (record {
        refusal = because.refusal;
        is_told = because.is_told;
        refuses = subst (λ (l : List Entry). entries_of (cluster_at (base_of store) (onto l [])) stops.next ≡ Err because.refusal) nothing (because.refuses (base_of store) [] stands);
      })

  pub first_cause : {T : Type 0} (result : Result T PlayFault) (asked : Line) (events : List Event) → events_of asked ≡ Some events → ComesOf result o.cluster n.cluster before after events
      → IfErr result (IsCauseOnceOpened base store events)
  first_cause (Ok done) asked events is comes = tt
  first_cause (Err told) asked events is comes =
      let first = stopped-first told asked events is comes in
      by first.whole first.cause
    where
      by : events ≡ comes.next ∷ comes.rest → IsWanting (cluster_of store []) comes.next told ⊎ IsRefusal (cluster_of store []) comes.next told → IsCauseOnceOpened base store events told
      by whole (inl wanting) = inl (record { next = comes.next; rest = comes.rest; is_first = whole; wanting = wanting })
      by whole (inr refusal) = inr (record { store = store; opened = opened; next = comes.next; rest = comes.rest; is_first = whole; refusal = refusal })

  pub first_keeps : {T : Type 0} (result : Result T PlayFault) (asked : Line) (events : List Event) → events_of asked ≡ Some events → ComesOf result o.cluster n.cluster before after events
      → OnErr result (after ≡ before)
  first_keeps (Ok done) asked events is comes = tt
  first_keeps (Err told) asked events is comes = (stopped-first told asked events is comes).none

pub cause_at_first : {T : Type 0} (result : Result T PlayFault) (base : Gathered) (store : Datastore) (events : List Event) → IfErr result (IsCauseOnceOpened base store events)
    → IfErr result (IsCauseAtFirst base events)
cause_at_first (Ok done) base store events cause = tt
cause_at_first (Err told) base store events (inl want) = inl want.wanting.is_told
cause_at_first (Err told) base store events (inr refused) = inr (inr refused)

-- ---- a journal that is forgotten

pub still_gathering : (old new : Player) (base : Gathered) → IsGathering old base → new.stage ≡ old.stage → journal_of new ≡ [] → IsGathering new base
still_gathering old new base h same none = record { gathering = h.gathering; is = same ∙ h.is; gathers = h.gathers; nothing = none }

pub forgets : (old new : Player) (base : Gathered) (store : Datastore) (past : List Entry) → IsPlaying old base store past → new.stage ≡ old.stage → journal_of new ≡ [] → IsPlaying new base store (past ++ journal_of old)
forgets old new base store past h same none = record {
  open_cluster = h.open_cluster;
  is = same ∙ h.is;
  opened = h.opened;
  stands = subst (λ (l : List Entry). StandsFor h.open_cluster.cluster (base_of store) (onto l []))
      (sym (append-nil (past ++ journal_of old)) ∙ ap (λ (l : List Entry). (past ++ journal_of old) ++ l) (sym none)) h.stands;
}
