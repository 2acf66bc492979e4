-- How far the collection has come.
use Rattle.std.proofs.Common.{◌≡◌, ℕ, List, [], ◌∷◌, Option, Some, None, refl, sym, ap, ◌∙◌, subst}
use Rattle.ipam_model.specs.declared.answer.Answer.{Answer}
use Rattle.ipam_model.specs.declared.entry.Entry.{Entry}
use Rattle.ipam_model.specs.declared.entry.Entry.TheVariants as entry
use Rattle.ipam_model.specs.declared.entry.Fate.TheVariants.{Well}
use Rattle.ipam_model.specs.declared.request.Request.{Request}
use Rattle.ipam_model.specs.declared.request.Request.TheVariants.{Collect}
use Rattle.ipam_model.specs.Course.{Event, Begin, Feed, Turn}
use Rattle.ipam_model.specs.CourseLaw.{event_of}
use Rattle.ipam_cluster.specs.Cluster.{slot_of_cluster}
use Rattle.ipam_command.specs.declared.gen_counted.Counted.{Counted}
use Rattle.ipam_command.specs.Counted.{AllRun, Goes, Happens, HappensAs, HasCollected, IsAtOnce, IsCounted, IsNoCollection, IsSomewhere, IsStart, Turns}
use Rattle.ipam_command.specs.Generated.{Collects, ListFed, NothingCollected, TurnTaken}
use Rattle.ipam_command.specs.Requests.{collection, live_below}
use Rattle.ipam_command.specs.Summary.{answer_told, freed_count, freed_in}
use Rattle.ipam_command.proofs.AddLemmas.{makes}
use Rattle.ipam_command.proofs.DrawLemmas.{idle-there}
use Rattle.ipam_command.proofs.RunLemmas.{all-at-once, begin-runs, feed-runs, turn-runs}

-- only a call tells an answer
begun-tells : (made : Entry) (slot : ℕ) (request : Request) → event_of made ≡ Begin slot request → answer_told made ≡ None
begun-tells (entry.Began s r) slot request is = refl
begun-tells (entry.Fed s at live) slot request is = absurd (cc is)
begun-tells (entry.Called c) slot request is = absurd (cc is)
begun-tells (entry.Stopped s) slot request is = absurd (cc is)

fed-tells : (made : Entry) (slot at : ℕ) (live : List (List ℕ)) → event_of made ≡ Feed slot at live → answer_told made ≡ None
fed-tells (entry.Began s r) slot at live is = absurd (cc is)
fed-tells (entry.Fed s t l) slot at live is = refl
fed-tells (entry.Called c) slot at live is = absurd (cc is)
fed-tells (entry.Stopped s) slot at live is = absurd (cc is)

-- ---- from where it begins

pub goes-first : (counted : Counted) (live : List (List ℕ)) → Goes counted counted live 0
goes-first counted live before start = record {
  history = before;
  is_counted = start.is_counted;
  at_once = start.at_once;
  collects = NothingCollected;
  is_freed = sym start.nothing;
}

pub goes-turn : (old mid new : Counted) (live : List (List ℕ)) (freed now : ℕ) → Goes old mid live freed → Turns mid new now → Goes old new live now
goes-turn old mid new live freed now goes turns before start =
    let at = goes before start in
    record {
      history = turns.made ∷ at.history;
      is_counted = turns.happens.counted at.history at.is_counted;
      at_once = turn-runs IsAtOnce at.history turns.made 0 at.at_once turns.happens.is_event;
      collects = TurnTaken at.history turns.made at.collects (makes mid new (Turn 0 Well) turns.made at.history turns.happens at.is_counted);
      is_freed = turns.is_freed;
    }

pub goes-feed : (old mid new : Counted) (live : List (List ℕ)) (freed : ℕ) → Goes old mid live freed → Happens mid new (Feed 0 0 live) → Goes old new live 0
goes-feed old mid new live freed goes (made, happens) before start =
    let at = goes before start in
    record {
      history = made ∷ at.history;
      is_counted = happens.counted at.history at.is_counted;
      at_once = feed-runs IsAtOnce at.history made 0 0 live at.at_once happens.is_event;
      collects = ListFed at.history made at.collects (makes mid new (Feed 0 0 live) made at.history happens at.is_counted);
      is_freed = sym (ap freed_in (fed-tells made 0 0 live happens.is_event));
    }

pub goes-somewhere : (old new : Counted) (live : List (List ℕ)) (freed : ℕ) → ((before : List Entry) × IsStart old before) → Goes old new live freed → IsSomewhere new
goes-somewhere old new live freed (before, start) goes = let at = goes before start in (at.history, at.is_counted)

-- ---- all of it

-- the collection's beginning is a start
pub starts : (old new : Counted) (count : ℕ) (before : List Entry) (h : Happens old new (Begin 0 (Collect (collection count)))) → IsCounted old before → AllRun IsNoCollection before
    → IsStart new (h.0 ∷ before)
unfolding collection
starts old new count before (made, happens) counted plain = record {
  is_counted = happens.counted before counted;
  at_once = begin-runs IsAtOnce before made 0 (Collect (collection count)) (all-at-once before plain) (refl, refl) happens.is_event;
  nothing = ap freed_in (begun-tells made 0 (Collect (collection count)) happens.is_event);
}

pub has-collected : (old mid new : Counted) (count : ℕ) (live : List (List ℕ)) (freed : ℕ) → live ≡ live_below count
    → Happens old mid (Begin 0 (Collect (collection count))) → Goes mid new live freed → slot_of_cluster new.cluster 0 ≡ None
    → (before : List Entry) → IsCounted old before → AllRun IsNoCollection before → HasCollected new count before freed
has-collected old mid new count live freed is (made, happens) goes idle before counted plain =
    let at = goes (made ∷ before) (starts old mid count before (made, happens) counted plain) in
    record {
      history = at.history;
      is_counted = at.is_counted;
      collected = record {
        made = made;
        begins = makes old mid (Begin 0 (Collect (collection count))) made before happens counted;
        collects = subst (λ (l : List (List ℕ)). Collects l (made ∷ before) at.history) is at.collects;
        ended = idle-there new at.history 0 at.is_counted idle;
      };
      is_freed = at.is_freed;
    }
