-- Events that happen one after another.
use Rattle.std.proofs.Common.{◌≡◌, ℕ, ◌+◌, ◌-◌, ◌<◌, List, [], ◌∷◌, ◌++◌, None, refl, sym, ap, ◌∙◌, subst, arith, append_assoc, append-nil, inl, inr}
use Rattle.std.specs.Prelude.{replicate, length, option_map, Ok, Err, Result}
use Rattle.std.specs.Result.{IsErrAnd}
use Rattle.std.proofs.lemmas.Result.{err_from_is_err_and}
use Rattle.std.proofs.lemmas.List.{replicate-append-replicate, replicate_more}
use Rattle.ipam_model.specs.declared.entry.Entry.{Entry}
use Rattle.ipam_model.specs.Cluster as model
use Rattle.ipam_model.specs.Cluster.{after}
use Rattle.ipam_model.specs.Course.{Course, Event, EventRefusal, after_all, course, behind, refused_at_once, entries_of}
use Rattle.ipam_model.specs.History.{Base, cluster_at}
use Rattle.ipam_laws.proofs.CourseParts.{course-append, joined, later}
use Rattle.ipam_cluster.specs.declared.cluster.Cluster.{Cluster}
use Rattle.ipam_cluster.specs.Cluster.{StandsFor, Stood}
use Rattle.ipam_play.specs.declared.fault.PlayFault.{PlayFault}
use Rattle.ipam_play.specs.Events.{ComesOf, Happens, IsCause, Keeps, Makes, Plays, Stops, onto}

pub onto-append : (first second history : List Entry) → onto (first ++ second) history ≡ onto second (onto first history)
onto-append [] second history = refl
onto-append (new ∷ first) second history = onto-append first second (new ∷ history)

pub cluster-onto : (base : Base) (made history : List Entry) → cluster_at base (onto made history) ≡ after_all (cluster_at base history) made
unfolding cluster_at after_all
cluster-onto base [] history = refl
cluster-onto base (new ∷ made) history = cluster-onto base made (new ∷ history)

-- ---- courses

-- the course from the entries of its first event
unfoldable pub course_from : model.ClusterState → List Event → Result (List Entry) EventRefusal → Course
course_from cluster events r = elim r [
  | Ok entries ↦ behind entries (course (after_all cluster entries) events)
  | Err refusal ↦ refused_at_once refusal
]

pub course-cons : (cluster : model.ClusterState) (event : Event) (events : List Event) → course cluster (event ∷ events) ≡ course_from cluster events (entries_of cluster event)
unfolding course course_from
course-cons cluster event events = refl

all-happened : List Entry → Course
all-happened made = record { entries = made; refused = None }

pub course-nothing : (cluster : model.ClusterState) → course cluster [] ≡ record { entries = []; refused = None }
unfolding course
course-nothing cluster = refl

pub course-one : (cluster : model.ClusterState) (event : Event) (made : List Entry) → entries_of cluster event ≡ Ok made → course cluster (event ∷ []) ≡ record { entries = made; refused = None }
unfolding course course_from
course-one cluster event made is =
    ap (course_from cluster []) is ∙ ap (λ (entries : List Entry). record { entries = entries; refused = None }) (append-nil made)

-- events after others that all happened
pub course-then : (cluster : model.ClusterState) (first second : List Event) (made more : List Entry) → course cluster first ≡ record { entries = made; refused = None }
    → course (after_all cluster made) second ≡ record { entries = more; refused = None } → course cluster (first ++ second) ≡ record { entries = made ++ more; refused = None }
course-then cluster first second made more e f =
    course-append cluster first second (ap (λ (c : Course). c.refused) e)
    ∙ ap (λ (c : Course). joined_from second c) e
    ∙ ap (λ (c : Course). record { entries = made ++ c.entries; refused = option_map (later (length first)) c.refused }) f
  where
    joined_from : List Event → Course → Course
    joined_from events c = joined (length first) c (course (after_all cluster c.entries) events)

-- ---- clusters

pub plays_nothing : (old new : Cluster) → Keeps old new → Plays old new [] []
plays_nothing old new keeps = record {
  stands = keeps;
  made_by = λ base history h. course-nothing (cluster_at base history);
}

pub plays_one : (old new : Cluster) (event : Event) (made : Entry) → Makes old new event made → Plays old new (event ∷ []) (made ∷ [])
plays_one old new event made is = record {
  stands = is.stands;
  made_by = λ base history h. course-one (cluster_at base history) event (made ∷ []) (is.made_by base history h);
}

pub plays_then : (old mid new : Cluster) (first second : List Event) (made more : List Entry) → Plays old mid first made → Plays mid new second more → Plays old new (first ++ second) (made ++ more)
plays_then old mid new first second made more p q = record {
  stands = λ base history h. subst (λ (entries : List Entry). StandsFor new base entries) (sym (onto-append made more history)) (q.stands base (onto made history) (p.stands base history h));
  made_by = λ base history h. course-then (cluster_at base history) first second made more (p.made_by base history h)
      (subst (λ (c : model.ClusterState). course c second ≡ record { entries = more; refused = None }) (cluster-onto base made history) (q.made_by base (onto made history) (p.stands base history h)));
}

-- ---- with a journal

pub nothing_happens : (old : Cluster) (before : List Entry) → Happens old old before before []
nothing_happens old before = record {
  made = [];
  added = sym (append-nil before);
  plays = plays_nothing old old (λ base history h. h);
}

pub one_happens : (old new : Cluster) (before after : List Entry) (event : Event) (made : Entry) → Makes old new event made → after ≡ before ++ made ∷ [] → Happens old new before after (event ∷ [])
one_happens old new before after event made is added = record {
  made = made ∷ [];
  added = added;
  plays = plays_one old new event made is;
}

-- the entry is noted after those for which room was made
pub one_noted : (old new : Cluster) (before room after : List Entry) (event : Event) (made : Entry) → Makes old new event made → after ≡ room ++ made ∷ [] → room ≡ before → Happens old new before after (event ∷ [])
one_noted old new before room after event made is added same =
    one_happens old new before after event made is (added ∙ ap (λ (l : List Entry). l ++ made ∷ []) same)

pub happens_then : (old mid new : Cluster) (before between after : List Entry) (first second : List Event) → Happens old mid before between first → Happens mid new between after second
    → Happens old new before after (first ++ second)
happens_then old mid new before between after first second h k = record {
  made = h.made ++ k.made;
  added = k.added ∙ ap (λ (entries : List Entry). entries ++ k.made) h.added ∙ append_assoc before h.made k.made;
  plays = plays_then old mid new first second h.made k.made h.plays k.plays;
}

-- it still stands for some history
pub happens_stood : (old new : Cluster) (before after : List Entry) (events : List Event) → Stood old → Happens old new before after events → Stood new
happens_stood old new before after events (base, (history, h)) k = (base, (onto k.made history, k.plays.stands base history h))

-- the event did not happen, and nothing changed
pub one_stops : (old new : Cluster) (before after : List Entry) (event : Event) (told : PlayFault) → Keeps old new → after ≡ before → IsCause old [] event told → Stops old new before after (event ∷ []) told
one_stops old new before after event told keeps same cause = record {
  first = [];
  next = event;
  rest = [];
  is_first = refl;
  made = [];
  added = same ∙ sym (append-nil before);
  plays = plays_nothing old new keeps;
  cause = cause;
}

-- the exit of a `?` tells of it
pub exit_stops : {T : Type 0} (result : Result T PlayFault) (old new : Cluster) (before after : List Entry) (event : Event) (told : PlayFault) → IsErrAnd result (λ fault. fault ≡ told) → Keeps old new → after ≡ before → IsCause old [] event told → ComesOf result old new before after (event ∷ [])
exit_stops result old new before after event told is keeps same cause =
    let p = err_from_is_err_and result is in
    rw (p.1, p.2) (one_stops old new before after event told keeps same cause)

cause-behind : (old mid : Cluster) (made more : List Entry) (event : Event) (told : PlayFault)
    → ((base : Base) (history : List Entry) → StandsFor old base history → StandsFor mid base (onto made history))
    → IsCause mid more event told → IsCause old (made ++ more) event told
cause-behind old mid made more event told stands (inl (memory, may)) = inl (
  memory,
  λ base history h.
      subst (λ (entries : List Entry). (most : List Entry) × (entries_of (cluster_at base entries) event ≡ Ok most)) (sym (onto-append made more history))
      (may base (onto made history) (stands base history h)),
)
cause-behind old mid made more event told stands (inr is) = inr (record {
  refusal = is.refusal;
  is_told = is.is_told;
  refuses = λ base history h. subst (λ (entries : List Entry). entries_of (cluster_at base entries) event ≡ Err is.refusal) (sym (onto-append made more history))
      (is.refuses base (onto made history) (stands base history h));
})

-- events happened, and then others stopped
pub stops_then : (old mid new : Cluster) (before between after : List Entry) (first second : List Event) (told : PlayFault) → Happens old mid before between first
    → Stops mid new between after second told → Stops old new before after (first ++ second) told
stops_then old mid new before between after first second told h k = record {
  first = first ++ k.first;
  next = k.next;
  rest = k.rest;
  is_first = ap (λ (events : List Event). first ++ events) k.is_first ∙ sym (append_assoc first k.first (k.next ∷ k.rest));
  made = h.made ++ k.made;
  added = k.added ∙ ap (λ (entries : List Entry). entries ++ k.made) h.added ∙ append_assoc before h.made k.made;
  plays = plays_then old mid new first k.first h.made k.made h.plays k.plays;
  cause = cause-behind old mid h.made k.made k.next told h.plays.stands k.cause;
}

-- with more events after the one that did not happen
pub stops_before : (old new : Cluster) (before after : List Entry) (events more : List Event) (told : PlayFault) → Stops old new before after events told → Stops old new before after (events ++ more) told
stops_before old new before after events more told k = record {
  first = k.first;
  next = k.next;
  rest = k.rest ++ more;
  is_first = ap (λ (es : List Event). es ++ more) k.is_first ∙ append_assoc k.first (k.next ∷ k.rest) more;
  made = k.made;
  added = k.added;
  plays = k.plays;
  cause = k.cause;
}

-- ---- the same event again and again

pub happens_again : (old mid new : Cluster) (before between after : List Entry) (event : Event) (done : ℕ) → Happens old mid before between (replicate done event) → Happens mid new between after (event ∷ [])
    → Happens old new before after (replicate (done + 1) event)
happens_again old mid new before between after event done h k =
    subst (λ (events : List Event). Happens old new before after events) (replicate_more done event)
    (happens_then old mid new before between after (replicate done event) (event ∷ []) h k)

pub stops_again : (old mid new : Cluster) (before between after : List Entry) (event : Event) (done count : ℕ) (told : PlayFault) → done < count → Happens old mid before between (replicate done event)
    → Stops mid new between after (event ∷ []) told → Stops old new before after (replicate count event) told
stops_again old mid new before between after event done count told below h k =
    let left = count - (done + 1) in
    let whole : replicate (done + 1) event ++ replicate left event ≡ replicate count event =
    replicate-append-replicate (done + 1) left event ∙ ap (λ n. replicate n event) (omega arith) in
    subst (λ (events : List Event). Stops old new before after events told) whole
    (stops_before old new before after (replicate (done + 1) event) (replicate left event) told
    (subst (λ (events : List Event). Stops old new before after events told) (replicate_more done event)
    (stops_then old mid new before between after (replicate done event) (event ∷ []) told h k)))
