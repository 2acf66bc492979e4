-- Words one after another, and how many calls they have.
use Rattle.std.proofs.Common.{◌≡◌, ℕ, ◌+◌, ◌-◌, ◌<◌, ◌≤◌, Some, refl, subst, arith}
use Rattle.ipam_records.specs.declared.call.Call.{Call}
use Rattle.ipam_records.specs.Said.{Said}
use Rattle.ipam_records.specs.Word.{Word, Ends, Asks, Waits, next_call, after_reply, bound}
use Rattle.ipam_records.specs.Bound.{AtMost}

pub bound-Ends : {A : Type 0} (word : Word A) → bound word (λ answer. Ends answer) ≡ word
bound-Ends (Ends answer) = refl
bound-Ends (Asks label call next) = λ i. Asks label call (λ moment said. bound-Ends (next moment said) i)
bound-Ends (Waits next) = λ i. Waits (λ live. bound-Ends (next live) i)

pub bound-bound : {A B C : Type 0} (word : Word A) (f : A → Word B) (g : B → Word C) → bound (bound word f) g ≡ bound word (λ answer. bound (f answer) g)
bound-bound (Ends answer) f g = refl
bound-bound (Asks label call next) f g = λ i. Asks label call (λ moment said. bound-bound (next moment said) f g i)
bound-bound (Waits next) f g = λ i. Waits (λ live. bound-bound (next live) f g i)

-- while the first word asks, the reply goes to it alone
pub asked-bound : {A B : Type 0} (word : Word A) (f : A → Word B) (call : Call) → next_call word ≡ Some call → next_call (bound word f) ≡ Some call
asked-bound (Ends answer) f call e = cc
asked-bound (Asks label other next) f call e = e
asked-bound (Waits next) f call e = cc

pub heard-bound : {A B : Type 0} (word : Word A) (f : A → Word B) (call : Call) (moment : ℕ) (said : Said) → next_call word ≡ Some call → after_reply (bound word f) moment said ≡ bound (after_reply word moment said) f
heard-bound (Ends answer) f call moment said e = cc
heard-bound (Asks label other next) f call moment said e = refl
heard-bound (Waits next) f call moment said e = cc

-- a bound may be raised
pub AtMost-more : {A : Type 0} (word : Word A) (m n : ℕ) → m ≤ n → AtMost word m → AtMost word n
AtMost-more (Ends answer) m n le h = tt
AtMost-more (Asks label call next) m n le h =
    let some : 0 < m = h.0 in
    (omega arith, λ moment said. AtMost-more (next moment said) (m - 1) (n - 1) (omega arith) (h.1 moment said))
AtMost-more (Waits next) m n le h = λ live. AtMost-more (next live) m n le (h live)

-- a reply leaves one call less
pub AtMost-heard : {A : Type 0} (word : Word A) (n : ℕ) (call : Call) (moment : ℕ) (said : Said) → next_call word ≡ Some call → AtMost word n → AtMost (after_reply word moment said) (n - 1)
AtMost-heard (Ends answer) n call moment said e h = cc
AtMost-heard (Asks label other next) n call moment said e h = h.1 moment said
AtMost-heard (Waits next) n call moment said e h = cc

-- the calls of two words, one after the other
pub AtMost-bound : {A B : Type 0} (word : Word A) (f : A → Word B) (m n : ℕ) → AtMost word m → ((answer : A) → AtMost (f answer) n) → AtMost (bound word f) (m + n)
AtMost-bound (Ends answer) f m n h k = AtMost-more (f answer) n (m + n) (omega arith) (k answer)
AtMost-bound (Asks label call next) f m n h k =
    let some : 0 < m = h.0 in
    let left : m - 1 + n ≡ m + n - 1 = omega arith in
    (omega arith, λ moment said. subst (λ (count : ℕ). AtMost (bound (next moment said) f) count) left (AtMost-bound (next moment said) f (m - 1) n (h.1 moment said) k))
AtMost-bound (Waits next) f m n h k = λ live. AtMost-bound (next live) f m n (h live) k
