-- Histories of one journal are told alike, entry by entry.
use Rattle.std.proofs.Common.{◌≡◌, ℕ, ◌<◌, List, [], ◌∷◌, ◌++◌, refl, sym}
use Rattle.std.specs.List.{AllByRecursion}
use Rattle.ipam_records.specs.Sound.{IsDatastore}
use Rattle.ipam_model.specs.declared.entry.Entry.{Entry}
use Rattle.ipam_model.specs.declared.entry.Entry.TheVariants as entry
use Rattle.ipam_model.specs.Course.{slot_count}
use Rattle.ipam_model.specs.History.{Base, Lawful, MayCome, cluster_at, slot_of_entry}
use Rattle.ipam_answer_text.specs.Entries.{entry_line}
use Rattle.ipam_text_laws.specs.Journals.{AreToldAlike, CallsAlike, IsToldAlike, journal_of, lines_of}
use Rattle.ipam_text_laws.specs.Names.{HasNames}
use Rattle.ipam_text_laws.proofs.EntriesTold.{calls_agree, kind_told, slot_told}
use Rattle.ipam_text_laws.proofs.Journals.{same_histories}
use Rattle.ipam_text_laws.proofs.NamedHistories.{history_named}

-- ---- the last of a list

no-push : (ys : List (List ℕ)) (b : List ℕ) → [] ≡ ys ++ b ∷ [] → ⊥
no-push [] b e = cc
no-push (y ∷ ys) b e = cc

push-same : (xs ys : List (List ℕ)) (a b : List ℕ) → xs ++ a ∷ [] ≡ ys ++ b ∷ [] → (xs ≡ ys) × (a ≡ b)
push-same [] [] a b e = (refl, cc)
push-same [] (y ∷ ys) a b e = let rest : [] ≡ ys ++ b ∷ [] = cc in absurd (no-push ys b rest)
push-same (x ∷ xs) [] a b e = let rest : [] ≡ xs ++ a ∷ [] = cc in absurd (no-push xs a rest)
push-same (x ∷ xs) (y ∷ ys) a b e =
    let first : x ≡ y = cc in
    let rest : xs ++ a ∷ [] ≡ ys ++ b ∷ [] = cc in
    let both = push-same xs ys a b rest in
    ((λ i. first i ∷ both.0 i), both.1)

-- ---- entries

slot-there : (base : Base) (history : List Entry) (new : Entry) → MayCome (cluster_at base history) new → slot_of_entry new < slot_count
slot-there base history (entry.Began slot request) h = h.turn.slot_exists
slot-there base history (entry.Fed slot at live) h = h.turn.slot_exists
slot-there base history (entry.Called c) h = h.turn.slot_exists
slot-there base history (entry.Stopped slot) h = h.slot_exists

told-alike : (one other : Entry) → slot_of_entry one < slot_count → slot_of_entry other < slot_count → HasNames one → HasNames other → entry_line one ≡ entry_line other → IsToldAlike one other
told-alike one other h k named also same = record { slot = slot_told one other h k same; kind = kind_told one other same; calls = by one other named also same }
  where
    by : (one other : Entry) → HasNames one → HasNames other → entry_line one ≡ entry_line other → CallsAlike one other
    by (entry.Called c) (entry.Called d) named also same = calls_agree c d named also same
    by (entry.Called c) (entry.Began slot request) named also same = tt
    by (entry.Called c) (entry.Fed slot at live) named also same = tt
    by (entry.Called c) (entry.Stopped slot) named also same = tt
    by (entry.Began slot request) other named also same = tt
    by (entry.Fed slot at live) other named also same = tt
    by (entry.Stopped slot) other named also same = tt

lines-alike : (base other : Base) (history further : List Entry) → IsDatastore base.store → IsDatastore other.store → Lawful base history → Lawful other further → AllByRecursion HasNames history → AllByRecursion HasNames further → lines_of history ≡ lines_of further → AreToldAlike history further
unfolding Lawful
lines-alike base other [] [] sound also h k named again same = tt
lines-alike base other [] (new ∷ further) sound also h k named again same = absurd (no-push (lines_of further) (entry_line new) same)
lines-alike base other (new ∷ history) [] sound also h k named again same = absurd (no-push (lines_of history) (entry_line new) (sym same))
lines-alike base other (new ∷ history) (next ∷ further) sound also h k named again same =
    let both = push-same (lines_of history) (lines_of further) (entry_line new) (entry_line next) same in (
      told-alike new next (slot-there base history new h.1) (slot-there other further next k.1) named.0 again.0 both.1,
      lines-alike base other history further sound also h.0 k.0 named.1 again.1 both.0,
    )

pub histories_alike : (base other : Base) (history further : List Entry) → IsDatastore base.store → IsDatastore other.store → Lawful base history → Lawful other further → journal_of history ≡ journal_of further → AreToldAlike history further
histories_alike base other history further sound also h k same =
    lines-alike base other history further sound also h k (history_named base history sound h) (history_named other further also k)
    (same_histories base other history further sound also h k same)
