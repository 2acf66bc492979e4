-- A literal, by its first token.
use Rattle.std.proofs.Common.{◌≡◌, ℕ, zero, suc, ◌-◌, ◌<◌, Bool, List, [], ◌∷◌, None, nat_lt, refl, sym, ap, arith, lt-ltb}
use Rattle.ipam_select.specs.Formula.{negation}
use Rattle.ipam_select.specs.Reading.{parse_map, behind_mark, call_or_key, closed, choice_with, literal, after_mark}
use Rattle.ipam_select.specs.declared.token.Token.{Token}
use Rattle.ipam_select.specs.declared.token.Token.TheVariants.{Word, Quoted}
use Rattle.ipam_select.specs.declared.token.Mark as mark
use Rattle.ipam_select.specs.declared.token.Mark.TheVariants.{Open, Bang}

pub literal-nil : (n : ℕ) → literal n [] ≡ None
unfolding literal
literal-nil zero = refl
literal-nil (suc n) = refl

pub literal-Quoted : (n : ℕ) (v : List ℕ) (ts : List Token) → literal n (Quoted v ∷ ts) ≡ None
unfolding literal
literal-Quoted zero v ts = refl
literal-Quoted (suc n) v ts = refl

pub literal-Word : (n : ℕ) (w : List ℕ) (ts : List Token) → literal n (Word w ∷ ts) ≡ call_or_key (nat_lt 0 n) w ts (behind_mark Open ts)
unfolding literal
literal-Word zero w ts = refl
literal-Word (suc n) w ts = ap (λ (more : Bool). call_or_key more w ts (behind_mark Open ts)) (sym (lt-ltb 0 (suc n) (omega arith)))

pub literal-mark : (n : ℕ) (m : mark.Mark) (ts : List Token) → (m ≡ Bang → ⊥) → (m ≡ Open → ⊥) → after_mark n m ts ≡ None
unfolding literal
literal-mark n Bang ts b o = absurd (b refl)
literal-mark n Open ts b o = absurd (o refl)
literal-mark zero _ ts b o = refl
literal-mark (suc n) _ ts b o = refl

pub literal-Bang-zero : (ts : List Token) → after_mark 0 Bang ts ≡ None
unfolding literal
literal-Bang-zero ts = refl

pub literal-Open-zero : (ts : List Token) → after_mark 0 Open ts ≡ None
unfolding literal
literal-Open-zero ts = refl

less : (n : ℕ) → suc n - 1 ≡ n
less n = omega arith

pub literal-Bang : (n : ℕ) (ts : List Token) → 0 < n → after_mark n Bang ts ≡ parse_map negation (literal (n - 1) ts)
unfolding literal
literal-Bang zero ts h = absurd (omega arith)
literal-Bang (suc n) ts h = rw less refl

pub literal-Open : (n : ℕ) (ts : List Token) → 0 < n → after_mark n Open ts ≡ closed (choice_with (literal (n - 1)) ts)
unfolding literal
literal-Open zero ts h = absurd (omega arith)
literal-Open (suc n) ts h = rw less refl
