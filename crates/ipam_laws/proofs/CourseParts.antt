-- The course of some events, and then of others.
use Rattle.std.proofs.Common.{◌≡◌, ℕ, suc, ◌+◌, List, [], ◌∷◌, ◌++◌, length, Option, Some, None, refl, sym, ap, ap₂, ◌∙◌, arith, append_assoc}
use Rattle.std.specs.Prelude.{Result, Ok, Err, option_map}
use Rattle.ipam_model.specs.declared.entry.Entry.{Entry}
use Rattle.ipam_model.specs.Cluster.{ClusterState, after}
use Rattle.ipam_model.specs.Course.{Course, Event, EventRefusal, Refused, one_later, behind, refused_at_once, entries_of, after_all, course}

-- the course from the entries of its first event
unfoldable pub course_next : ClusterState → List Event → Result (List Entry) EventRefusal → Course
course_next cluster events r = elim r [
  | Ok entries ↦ behind entries (course (after_all cluster entries) events)
  | Err refusal ↦ refused_at_once refusal
]

-- the same refusal with so many events more before it
abbrev pub later : ℕ → Refused → Refused
later many refused = record { place = refused.place + many; why = refused.why }

pub after_all-append : (cluster : ClusterState) (first second : List Entry) → after_all cluster (first ++ second) ≡ after_all (after_all cluster first) second
unfolding after_all
after_all-append cluster [] second = refl
after_all-append cluster (new ∷ first) second = after_all-append (after cluster new) first second

-- the events of the second list happen after those of the first
abbrev pub joined : (many : ℕ) → (first second : Course) → Course
joined many first second = record {
  entries = first.entries ++ second.entries;
  refused = option_map (later many) second.refused;
}

course-same : (c d : Course) → c.entries ≡ d.entries → c.refused ≡ d.refused → c ≡ d
course-same c d e f = ap₂ (λ (es : List Entry) (r : Option Refused). record { entries = es; refused = r }) e f

one-more : (n many : ℕ) → (n + many) + 1 ≡ n + suc many
one-more n many = omega arith

none-more : (n : ℕ) → n + 0 ≡ n
none-more n = omega arith

later-one : (many : ℕ) (o : Option Refused) → option_map one_later (option_map (later many) o) ≡ option_map (later (suc many)) o
later-one many None = refl
later-one many (Some refused) = ap (λ (n : ℕ). Some (record { place = n; why = refused.why })) (one-more refused.place many)

later-none : (o : Option Refused) → option_map (later 0) o ≡ o
later-none None = refl
later-none (Some refused) = ap (λ (n : ℕ). Some (record { place = n; why = refused.why })) (none-more refused.place)

one-later-none : (o : Option Refused) → option_map one_later o ≡ None → o ≡ None
one-later-none None e = refl
one-later-none (Some refused) e = cc

-- where nothing of the first list is refused
pub course-append : (cluster : ClusterState) (first second : List Event) → (course cluster first).refused ≡ None
    → course cluster (first ++ second)
    ≡ joined (length first) (course cluster first) (course (after_all cluster (course cluster first).entries) second)
unfolding course course_next after_all
course-append cluster [] second none = course-same _ _ refl (sym (later-none _))
course-append cluster (event ∷ first) second none =
    by (entries_of cluster event) none (λ entries. course-append (after_all cluster entries) first second)
  where
    by : (r : Result (List Entry) EventRefusal) → (course_next cluster first r).refused ≡ None
        → ((entries : List Entry) → (course (after_all cluster entries) first).refused ≡ None
        → course (after_all cluster entries) (first ++ second)
        ≡ joined (length first) (course (after_all cluster entries) first)
        (course (after_all (after_all cluster entries) (course (after_all cluster entries) first).entries) second))
        → course_next cluster (first ++ second) r
        ≡ joined (suc (length first)) (course_next cluster first r) (course (after_all cluster (course_next cluster first r).entries) second)
    by (Ok entries) e rest =
        let mid = course (after_all cluster entries) first in
        let at = after_all-append cluster entries mid.entries in
        let same = rest entries (one-later-none mid.refused e) in
        let last = course (after_all (after_all cluster entries) mid.entries) second in
        ap (λ (c : Course). behind entries c) same
        ∙ course-same (behind entries (joined (length first) mid last)) (joined (suc (length first)) (behind entries mid) last) (sym (append_assoc entries mid.entries last.entries)) (later-one (length first) last.refused)
        ∙ ap (λ (c : ClusterState). joined (suc (length first)) (behind entries mid) (course c second)) (sym at)
    by (Err refusal) e rest = cc

-- where something of the first list is refused, the second list does not matter
pub course-refused : (cluster : ClusterState) (first second : List Event) (refused : Refused) → (course cluster first).refused ≡ Some refused
    → course cluster (first ++ second) ≡ course cluster first
unfolding course course_next
course-refused cluster [] second refused e = cc
course-refused cluster (event ∷ first) second refused e =
    by (entries_of cluster event) e (λ entries r. course-refused (after_all cluster entries) first second r)
  where
    earlier : (o : Option Refused) (r : Refused) → option_map one_later o ≡ Some r → (before : Refused) × (o ≡ Some before)
    earlier None r f = cc
    earlier (Some before) r f = (before, refl)

    by : (r : Result (List Entry) EventRefusal) → (course_next cluster first r).refused ≡ Some refused
        → ((entries : List Entry) (r : Refused) → (course (after_all cluster entries) first).refused ≡ Some r
        → course (after_all cluster entries) (first ++ second) ≡ course (after_all cluster entries) first)
        → course_next cluster (first ++ second) r ≡ course_next cluster first r
    by (Ok entries) f rest =
        let before = earlier (course (after_all cluster entries) first).refused refused f in
        ap (λ (c : Course). behind entries c) (rest entries before.0 before.1)
    by (Err refusal) f rest = refl
