-- Requests whose 64th lost race ends them.
use Rattle.std.specs.Prelude.{◌≡◌, ℕ, zero, suc, true, false, List, [], ◌∷◌, ◌++◌, Option, Some, None, codes}
use Rattle.ipam_records.specs.declared.key.Key.TheVariants as key
use Rattle.ipam_model.specs.declared.answer.Answer.{Answer}
use Rattle.ipam_model.specs.declared.answer.Answer.TheVariants as answer
use Rattle.ipam_model.specs.declared.entry.CallName.{CallName}
use Rattle.ipam_model.specs.declared.entry.CallName.TheVariants as name
use Rattle.ipam_model.specs.declared.entry.Entry.{Entry}
use Rattle.ipam_model.specs.declared.entry.Told.TheVariants as told
use Rattle.ipam_model.specs.declared.request.Admin.TheVariants as change
use Rattle.ipam_model.specs.declared.request.Request.{Request}
use Rattle.ipam_model.specs.declared.request.Request.TheVariants.{Admin, Del, Release}
use Rattle.ipam_model.specs.Course.{Event, Begin, Stop}
use Rattle.ipam_model.specs.History.{Base}
use Rattle.ipam_plain.specs.Families.{add_both}
use Rattle.ipam_plain.specs.Setting.{v4, slot0, ready_base, held_base, add_this, turns, did, run, excerpt}

-- so many times the same events
unfoldable pub repeated : (many : ℕ) → List Event → List Event
repeated zero events = []
repeated (suc many) events = events ++ repeated many events

abbrev pub lost : CallName → (current : ℕ) → Option Answer → Entry
lost asked current answer = did 0 asked (told.Conflict current) None answer

abbrev pub again : Option Answer
again = Some (answer.Again 64 0)

-- the 63rd lost race goes on and the 64th ends the request, at these places of so many entries
abbrev pub EndsAgain : Base → List Event → (first second : ℕ × Entry) → (count : ℕ) → Type 0
EndsAgain base events first second count =
    excerpt (first.0 ∷ second.0 ∷ []) (run base events) ≡ record {
      entries = Some first.1 ∷ Some second.1 ∷ [];
      count = count;
      refused = None;
    }

-- ---- a change by an operator

abbrev pub set_disabled : Request
set_disabled = Admin (change.Disable (codes "p") true)

-- the pools are read, another sets them, and the write is lost
abbrev pub change_lost : List Event
change_lost = turns 0 1 ++ Begin 1 (Admin (change.Disable (codes "p") false)) ∷ turns 1 2 ++ turns 0 1

abbrev pub ChangeAgain : Type 0
ChangeAgain = EndsAgain ready_base
    (Begin 0 set_disabled ∷ repeated 64 change_lost)
    (315, lost (name.Update key.Pools 65) 66 None)
    (320, lost (name.Update key.Pools 66) 67 again)
    321

-- ---- a DEL

-- The block is read, another takes an address of it and gives it back between the tries, and the
-- writes are lost.
abbrev pub block_lost_twice : List Event
block_lost_twice =
    turns 0 1 ++ Begin 1 (add_this (codes "n.x") (codes "a") (v4 3)) ∷ turns 1 6
    ++ turns 0 2 ++ Begin 1 (Del (codes "n.x")) ∷ turns 1 5 ++ turns 0 1

abbrev pub DelAgain : Type 0
DelAgain = EndsAgain held_base
    (Begin 0 (Del (codes "n.c1")) ∷ turns 0 1 ++ repeated 32 block_lost_twice)
    (537, lost (name.Update (key.Block slot0) 127) 130 None)
    (545, lost (name.Update (key.Block slot0) 130) 131 again)
    546

-- ---- the first address is to be freed, since the second family has none

abbrev pub UndoingAgain : Type 0
UndoingAgain = EndsAgain ready_base
    (Begin 0 add_both ∷ turns 0 13 ++ repeated 32 block_lost_twice)
    (549, lost (name.Update (key.Block slot0) 128) 131 None)
    (557, lost (name.Update (key.Block slot0) 131) 132 again)
    558

-- ---- a release

-- another marks the affinity, and is stopped
abbrev pub marked_by_another : List Event
marked_by_another = Begin 1 (Release (codes "a") slot0) ∷ turns 1 2 ++ Stop 1 ∷ []

-- before the release has marked it
abbrev pub ReleaseAgain : Type 0
ReleaseAgain = EndsAgain ready_base
    (Begin 0 (Release (codes "a") slot0) ∷ repeated 64 (turns 0 1 ++ marked_by_another ++ turns 0 1))
    (378, lost (name.Update (key.Affinity (codes "a") slot0) 65) 66 None)
    (384, lost (name.Update (key.Affinity (codes "a") slot0) 66) 67 again)
    385

-- after that, so the second read does not find the mark
abbrev pub MarkAgain : Type 0
MarkAgain = EndsAgain ready_base
    (Begin 0 (Release (codes "a") slot0) ∷ repeated 64 (turns 0 2 ++ marked_by_another ++ turns 0 2))
    (504, did 0 (name.Get (key.Affinity (codes "a") slot0)) (told.Found 129) None None)
    (512, did 0 (name.Get (key.Affinity (codes "a") slot0)) (told.Found 131) None again)
    513
