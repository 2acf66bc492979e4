-- What is counted of a history, entry by entry.
use Rattle.std.proofs.Common.{◌≡◌, ◌+◌, ◌<◌, ◌≤◌, ◌^◌, List, ◌∷◌, length, sym, ap, ◌∙◌, subst, arith, zero-add}
use Rattle.std.specs.Prelude.{if◌then◌else◌}
use Rattle.std.proofs.lemmas.List.Sums.{count_by-le-length, sum_by-cons}
use Rattle.ipam_model.specs.declared.entry.Entry.{Entry}
use Rattle.ipam_model.specs.Course.{Event}
use Rattle.ipam_laws.proofs.StandsFor.{entries-are}
use Rattle.ipam_cluster.specs.declared.cluster.Cluster.{Cluster}
use Rattle.ipam_cluster.specs.Cluster.{StandsFor, Stood}
use Rattle.ipam_command.specs.declared.gen_counted.Counted.{Counted}
use Rattle.ipam_command.specs.Counted.{Adds, HappensAs, IsCounted, IsSomewhere}
use Rattle.ipam_command.specs.Requests.{base}
use Rattle.ipam_command.proofs.AddLemmas.{few}
use Rattle.ipam_command.specs.Summary.{again_count, answer_told, exhausted_count, is_again, is_exhausted}

again-more : (made : Entry) (history : List Entry) → again_count (made ∷ history) ≡ (if is_again (answer_told made) then 1 else 0) + again_count history
again-more made history = sum_by-cons (λ (new : Entry). if is_again (answer_told new) then 1 else 0) made history

exhausted-more : (made : Entry) (history : List Entry) → exhausted_count (made ∷ history) ≡ (if is_exhausted (answer_told made) then 1 else 0) + exhausted_count history
exhausted-more made history = sum_by-cons (λ (new : Entry). if is_exhausted (answer_told new) then 1 else 0) made history

pub stood : (counted : Counted) → IsSomewhere counted → Stood counted.cluster
stood counted (history, h) = (base, (history, h.stands))

-- there are as many entries as the history has
pub entries-length : (counted : Counted) (history : List Entry) → IsCounted counted history → counted.cluster.entries ≡ length history
unfolding base
entries-length counted history h =
    let all = entries-are base history in
    h.stands.is_cluster.entries ∙ all ∙ zero-add (length history)

-- no more answers than entries
few-again : (counted : Counted) → IsSomewhere counted → counted.again ≤ counted.cluster.entries
few-again counted (history, h) =
    let all = entries-length counted history h in
    let few = count_by-le-length (λ (new : Entry). is_again (answer_told new)) history in
    let is = h.again in
    omega arith

few-exhausted : (counted : Counted) → IsSomewhere counted → counted.exhausted ≤ counted.cluster.entries
few-exhausted counted (history, h) =
    let all = entries-length counted history h in
    let few = count_by-le-length (λ (new : Entry). is_exhausted (answer_told new)) history in
    let is = h.exhausted in
    omega arith

-- so there is room for one answer more, where there is for one entry
pub room-again : (counted : Counted) → IsSomewhere counted → ¬ (2 ^ 62 ≤ counted.cluster.entries) → counted.again < 2 ^ 63
room-again counted there not =
    let less = few-again counted there in
    let room = few counted.cluster.entries not in
    omega arith

pub room-exhausted : (counted : Counted) → IsSomewhere counted → ¬ (2 ^ 62 ≤ counted.cluster.entries) → counted.exhausted < 2 ^ 63
room-exhausted counted there not =
    let less = few-exhausted counted there in
    let room = few counted.cluster.entries not in
    omega arith

pub happens : (old new : Counted) (mid : Cluster) (event : Event) (made : Entry) → new.cluster ≡ mid → Adds old.cluster mid event made
    → new.again ≡ (if is_again (answer_told made) then 1 else 0) + old.again
    → new.exhausted ≡ (if is_exhausted (answer_told made) then 1 else 0) + old.exhausted
    → HappensAs old new event made
happens old new mid event made same adds again exhausted = record {
  is_event = adds.is_event;
  counted = λ history h. record {
    stands = subst (λ (cluster : Cluster). StandsFor cluster base (made ∷ history)) (sym same) (adds.adds base history h.stands);
    again = again ∙ ap (λ n. (if is_again (answer_told made) then 1 else 0) + n) h.again ∙ sym (again-more made history);
    exhausted = exhausted ∙ ap (λ n. (if is_exhausted (answer_told made) then 1 else 0) + n) h.exhausted ∙ sym (exhausted-more made history);
  };
}
