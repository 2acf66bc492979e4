-- Numbers that are read are within their bits.
use Rattle.std.proofs.Common.{◌≡◌, ℕ, ◌^◌, ◌<◌, ltb-true, List, Option, Some, None, option_and_then}
use Rattle.std.proofs.lemmas.Option.{cond_some}
use Rattle.serde_json.specs.Data.{Data}
use Rattle.ipam_json.specs.Members.{whole_at, in_32_bits, number_at}

pub then-is : {A B : Type 0} (f : A → Option B) (P : B → Type 0) → ((x : A) (y : B) → f x ≡ Some y → P y) → (o : Option A) (y : B) → option_and_then f o ≡ Some y → P y
then-is f P h (Some x) y e = h x y e
then-is f P h None y e = cc

pub in_32_bits-is : (n m : ℕ) → in_32_bits n ≡ Some m → m < 2 ^ 32
in_32_bits-is n m e = let (small, same) = cond_some _ n m e in rw (← same) (ltb-true _ _ small)

pub number_at-is : (name : List ℕ) (d : Data) (n : ℕ) → number_at name d ≡ Some n → n < 2 ^ 32
number_at-is name d n e = then-is in_32_bits (λ k. k < 2 ^ 32) in_32_bits-is (whole_at name d) n e
