-- All of the generator's course.
use Rattle.std.proofs.Common.{◌≡◌, ℕ, List, length, refl, sym, ap, ◌∙◌}
use Rattle.ipam_model.specs.declared.entry.Entry.{Entry}
use Rattle.ipam_model.specs.Owners.{owners}
use Rattle.ipam_command.specs.declared.gen_counted.Counted.{Counted}
use Rattle.ipam_command.specs.declared.gen_summary.Numbers.{Numbers}
use Rattle.ipam_command.specs.Counted.{AllRun, HasCollected, IsCounted, IsNoCollection, IsPlain, Leads}
use Rattle.ipam_command.specs.Generated.{AreRunOut, IsDrawn}
use Rattle.ipam_command.specs.Numbers.{IsCourse, summary_in}
use Rattle.ipam_command.specs.Summary.{Summary, summary_text}
use Rattle.ipam_command.proofs.CountLemmas.{entries-length}

same-summary : (n e e' o o' a a' x x' f f' : ℕ) → e ≡ e' → o ≡ o' → a ≡ a' → x ≡ x' → f ≡ f' → (one other : Summary)
    → one ≡ record { requests = n; entries = e; owners = o; again = a; exhausted = x; freed = f }
    → other ≡ record { requests = n; entries = e'; owners = o'; again = a'; exhausted = x'; freed = f' } → one ≡ other
same-summary n e e' o o' a a' x x' f f' p q r s t one other is are = cc

pub course : (drawn answered whole : Counted) (count freed : ℕ) (numbers : Numbers)
    → IsPlain drawn (λ history. (x : ℕ) × IsDrawn count x count history) → Leads drawn answered (λ before. AreRunOut before 8)
    → ((before : List Entry) → IsCounted answered before → AllRun IsNoCollection before → HasCollected whole count before freed)
    → numbers.requests ≡ count → numbers.entries ≡ whole.cluster.entries → numbers.owners ≡ length (owners whole.cluster.store.store)
    → numbers.again ≡ answered.again → numbers.exhausted ≡ answered.exhausted → numbers.freed ≡ freed
    → IsCourse count (summary_in numbers)
course drawn answered whole count freed numbers draws leads collects requests entries owned again exhausted told =
    let at = leads draws.history draws.is_counted draws.plain in
    let all = collects at.history at.is_counted at.plain in
    record {
      answered = at.history;
      whole = all.history;
      generated = record {
        x = draws.holds.0;
        drawn = draws.history;
        draws = draws.holds.1;
        runs_out = at.holds;
        collected = all.collected;
        lawful = all.is_counted.stands.stands.lawful;
      };
      is = same-summary count numbers.entries _ numbers.owners _ numbers.again _ numbers.exhausted _ numbers.freed _
          (entries ∙ entries-length whole all.history all.is_counted)
          (owned ∙ ap (λ store. length (owners store)) all.is_counted.stands.is_cluster.store)
          (again ∙ at.is_counted.again) (exhausted ∙ at.is_counted.exhausted) (told ∙ all.is_freed) _ _
          (ap (λ n. record { requests = n; entries = numbers.entries; owners = numbers.owners; again = numbers.again; exhausted = numbers.exhausted; freed = numbers.freed }) requests)
          refl;
    }
