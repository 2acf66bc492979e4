-- What a turn takes, and turns one after another.
use Rattle.std.proofs.Common.{◌≡◌, ◌⊎◌, ◌<◌, ◌≤◌, ℕ, inl, inr, ◌+◌, arith, length-append, List, [], ◌∷◌, ◌++◌, length, Option, Some, None, refl, sym, ap, ◌∙◌, subst, append_assoc}
use Rattle.std.specs.Prelude.{option_map}
use Rattle.ipam_model.specs.declared.answer.Answer.{Answer}
use Rattle.ipam_model.specs.declared.entry.Called.{Called as OneCall}
use Rattle.ipam_model.specs.declared.entry.Entry.{Entry}
use Rattle.ipam_model.specs.declared.entry.Entry.TheVariants as entry
use Rattle.ipam_model.specs.declared.request.Request.{Request}
use Rattle.ipam_model.specs.Answered.{Answered}
use Rattle.ipam_model.specs.CanAnswer.{CanAnswer}
use Rattle.ipam_model.specs.History.{Lawful, cluster_at, moment_of}
use Rattle.ipam_model.specs.Moments.{request_in}
use Rattle.ipam_laws.proofs.OwnAnswers.{own_answers}
use Rattle.ipam_shared.specs.PassValue.{PassValue}
use Rattle.ipam_shared.specs.Passes.{IsSamePass, IsTold, runs_in}
use Rattle.ipam_shared.specs.Turning.{SeesNext}
use Rattle.ipam_serve.specs.Gains.{Gained, Passed, Settles, Spends, TookTurns, asked_after, request_running, calls_in, counted, of_slot}
use Rattle.ipam_serve.proofs.Entries.{asked_after-append, calls_in-append, mapped-add, of_slot-append, of_slot-told}
use Rattle.ipam_shared.proofs.Slots.{runs-past}
use Rattle.ipam_serve.proofs.Slots.{next-asked}

-- ---- one turn

-- a turn that tells of so many entries
took-told : (old new : PassValue) (told : List Entry) (spared : ℕ) → IsSamePass old new → SeesNext old told new → IsTold old new → new.left + 1 ≡ old.left → 2 ≤ old.left → length told + spared ≡ 1 → TookTurns old told spared new
took-told old new told spared same sees knows left enough one = record {
  same = same;
  gained = record {
    more = told ++ sees.between;
    grew = sees.seen ∙ sym (append_assoc told sees.between old.seen);
    own = of_slot-told old.slot told sees.between sees.own sees.others;
  };
  runs = next-asked old new same told sees;
  at_least = omega arith;
  at_most = omega arith;
  one_stays = λ some. omega arith;
  sure = knows.sure;
  told = inr knows.moment;
}

pub took-one : (old new : PassValue) (told : Entry) → IsSamePass old new → SeesNext old (told ∷ []) new → IsTold old new → new.left + 1 ≡ old.left → 2 ≤ old.left → TookTurns old (told ∷ []) 0 new
took-one old new told same sees knows left enough = took-told old new (told ∷ []) 0 same sees knows left enough refl

pub took-none : (old new : PassValue) → IsSamePass old new → SeesNext old [] new → IsTold old new → new.left + 1 ≡ old.left → 2 ≤ old.left → TookTurns old [] 1 new
took-none old new same sees knows left enough = took-told old new [] 1 same sees knows left enough refl

pub took-known : (old new : PassValue) (told known : Entry) → told ≡ known → IsSamePass old new → SeesNext old (told ∷ []) new → IsTold old new → new.left + 1 ≡ old.left → 2 ≤ old.left → TookTurns old (known ∷ []) 0 new
took-known old new told known is same sees knows left enough =
    subst (λ (e : Entry). TookTurns old (e ∷ []) 0 new) is (took-one old new told same sees knows left enough)

-- no turn
pub took-nothing : (pass : PassValue) → TookTurns pass [] 0 pass
unfolding of_slot asked_after
took-nothing pass = record {
  same = refl;
  gained = record { more = []; grew = refl; own = refl };
  runs = refl;
  at_least = omega arith;
  at_most = omega arith;
  one_stays = λ some. some;
  sure = refl;
  told = inl refl;
}

pub took-spared : (old new : PassValue) (entries : List Entry) (few more : ℕ) → few ≤ more → TookTurns old entries few new → TookTurns old entries more new
took-spared old new entries few more less t = record {
  same = t.same;
  gained = t.gained;
  runs = t.runs;
  at_least = t.at_least;
  at_most = let most = t.at_most in omega arith;
  one_stays = t.one_stays;
  sure = t.sure;
  told = t.told;
}

pub took-rest : (pass : PassValue) → TookTurns pass [] 1 pass
took-rest pass = took-spared pass pass [] 0 1 (omega arith) (took-nothing pass)

-- ---- turns one after another

pub took-slot : (old new : PassValue) (entries : List Entry) (spared : ℕ) → TookTurns old entries spared new → new.slot ≡ old.slot
took-slot old new entries spared t = ap (λ (p : PassValue). p.slot) t.same

pub took-lock : (old new : PassValue) (entries : List Entry) (spared : ℕ) → TookTurns old entries spared new → new.lock ≡ old.lock
took-lock old new entries spared t = ap (λ (p : PassValue). p.lock) t.same

pub then-gained : (slot : ℕ) (one two three earlier later : List Entry) → Gained slot one earlier two → Gained slot two later three → Gained slot one (later ++ earlier) three
then-gained slot one two three earlier later a b = record {
  more = b.more ++ a.more;
  grew = b.grew ∙ ap (λ s. b.more ++ s) a.grew ∙ sym (append_assoc b.more a.more one);
  own = of_slot-append slot b.more a.more ∙ ap (λ l. l ++ of_slot slot a.more) b.own ∙ ap (λ l. later ++ l) a.own;
}

-- what the turns come to, be it known what is sure or not
pub record Went (old : PassValue) (entries : List Entry) (spared : ℕ) (new : PassValue) : Type 0 where
  pub same : IsSamePass old new
  pub gained : Gained old.slot old.seen entries new.seen
  pub runs : request_running (runs_in new) ≡ asked_after (request_running (runs_in old)) entries
  pub at_least : new.left + length entries ≤ old.left
  pub at_most : old.left ≤ new.left + length entries + spared
  pub one_stays : 0 < old.left → 0 < new.left

pub went-took : (old new : PassValue) (entries : List Entry) (spared : ℕ) → TookTurns old entries spared new → Went old entries spared new
went-took old new entries spared t = record { same = t.same; gained = t.gained; runs = t.runs; at_least = t.at_least; at_most = t.at_most; one_stays = t.one_stays }

pub went-settles : (old new : PassValue) → Settles old new → Went old [] 1 new
unfolding asked_after
went-settles old new s = record {
  same = s.same;
  gained = s.gained;
  runs = ap request_running s.runs;
  at_least = let least = s.at_least in omega arith;
  at_most = let most = s.at_most in omega arith;
  one_stays = s.one_stays;
}

pub went-spared : (old new : PassValue) (entries : List Entry) (few more : ℕ) → few ≤ more → Went old entries few new → Went old entries more new
went-spared old new entries few more less w = record {
  same = w.same;
  gained = w.gained;
  runs = w.runs;
  at_least = w.at_least;
  at_most = let most = w.at_most in omega arith;
  one_stays = w.one_stays;
}

pub went-slot : (old new : PassValue) (entries : List Entry) (spared : ℕ) → Went old entries spared new → new.slot ≡ old.slot
went-slot old new entries spared w = ap (λ (p : PassValue). p.slot) w.same

pub went-then : (one two three : PassValue) (earlier later : List Entry) (m n : ℕ) → Went one earlier m two → Went two later n three → Went one (later ++ earlier) (m + n) three
went-then one two three earlier later m n a b =
    let least = a.at_least in
    let least' = b.at_least in
    let most = a.at_most in
    let most' = b.at_most in
    record {
      same = b.same ∙ ap (λ (p : PassValue). record p { left = three.left; seen = three.seen; moment = three.moment; sure = three.sure }) a.same;
      gained = then-gained one.slot one.seen two.seen three.seen earlier later a.gained (subst (λ (s : ℕ). Gained s two.seen later three.seen) (went-slot one two earlier m a) b.gained);
      runs = b.runs ∙ ap (λ o. asked_after o later) a.runs ∙ sym (asked_after-append (request_running (runs_in one)) later earlier);
      at_least = simp length-append (omega arith);
      at_most = simp length-append (omega arith);
      one_stays = λ some. b.one_stays (a.one_stays some);
    }

-- all that was seen was told of by then
told-then : (one two three : PassValue) → (two ≡ one) ⊎ (two.moment ≡ moment_of two.base two.seen) → (three ≡ two) ⊎ (three.moment ≡ moment_of three.base three.seen) → (three ≡ one) ⊎ (three.moment ≡ moment_of three.base three.seen)
told-then one two three a (inr is) = inr is
told-then one two three (inl first) (inl second) = inl (second ∙ first)
told-then one two three (inr is) (inl second) = inr (subst (λ (p : PassValue). p.moment ≡ moment_of p.base p.seen) (sym second) is)

pub took-then : (one two three : PassValue) (earlier later : List Entry) (m n : ℕ) → TookTurns one earlier m two → TookTurns two later n three → TookTurns one (later ++ earlier) (m + n) three
took-then one two three earlier later m n a b =
    let w = went-then one two three earlier later m n (went-took one two earlier m a) (went-took two three later n b) in
    record {
      same = w.same;
      gained = w.gained;
      runs = w.runs;
      at_least = w.at_least;
      at_most = w.at_most;
      one_stays = w.one_stays;
      sure = b.sure ∙ a.sure;
      told = told-then one two three a.told b.told;
    }

-- ---- turns of which some were spared an entry

pub spends-same : (old new : PassValue) → new ≡ old → Spends 0 old new
spends-same old new same = subst (λ (p : PassValue). Spends 0 old p) (sym same) (record { entries = []; took = took-nothing old })

pub spends-more : (old new : PassValue) (few more : ℕ) → few ≤ more → Spends few old new → Spends more old new
spends-more old new few more less s = record { entries = s.entries; took = took-spared old new s.entries few more less s.took }

pub spends-then : (one two three : PassValue) (earlier : List Entry) (m n : ℕ) → TookTurns one earlier m two → Spends n two three → Spends (m + n) one three
spends-then one two three earlier m n took s = record { entries = s.entries ++ earlier; took = took-then one two three earlier s.entries m n took s.took }

pub passed-nothing : (turns : Option ℕ) → Passed [] turns turns
unfolding calls_in counted
passed-nothing None = record { passes = 0; enough = omega arith; counts = refl }
passed-nothing (Some count) = record { passes = 0; enough = omega arith; counts = refl }

pub passed-then : (one two three : Option ℕ) (earlier later : List Entry) → Passed earlier one two → Passed later two three → Passed (later ++ earlier) one three
passed-then one two three earlier later a b =
    let enough = a.enough in
    let enough' = b.enough in
    record {
      passes = b.passes + a.passes;
      enough = subst (λ n. n ≤ b.passes + a.passes) (sym (calls_in-append later earlier)) (omega arith);
      counts = b.counts ∙ ap (option_map (counted b.passes)) a.counts ∙ mapped-add b.passes a.passes one;
    }

-- ---- an answer

-- it is one that the request can have
pub told-can : (old new : PassValue) (c : OneCall) (told : Answer) (request : Request) → IsSamePass old new → SeesNext old (entry.Called c ∷ []) new → Lawful new.base new.seen → c.slot ≡ old.slot → c.answer ≡ Some told → request_running (runs_in old) ≡ Some request → CanAnswer request told
told-can old new c told request same sees lawful own is asked =
    let base : new.base ≡ old.base = ap (λ (p : PassValue). p.base) same in
    let earlier = sees.between ++ old.seen in
    let whole : Lawful old.base (entry.Called c ∷ earlier) = subst (λ b. Lawful b (entry.Called c ∷ earlier)) base (subst (λ s. Lawful new.base s) sees.seen lawful) in
    let runs : request_in (cluster_at old.base earlier) old.slot ≡ Some request = ap request_running (runs-past old.base sees.between old.seen old.slot sees.others) ∙ asked in
    let a : Answered = record { base = old.base; earlier = earlier; call = c; request = request } in
    own_answers a told whole (subst (λ (s : ℕ). request_in (cluster_at old.base earlier) s ≡ Some request) (sym own) runs) is
