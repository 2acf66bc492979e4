-- How many parts there are.
use Rattle.std.proofs.Common.{arith, ◌≡◌, ℕ, suc, ◌+◌, ◌*◌, ◌/◌, ◌%◌, ◌<◌, ◌≤◌, min, sym, subst}
use Rattle.std.specs.Prelude.{max}
use Rattle.std.proofs.lemmas.Grind.{div_ceil_times}
use Rattle.std.proofs.Math.Nat.{mul-le-mul_right, mul_comm, suc-mul}
use mathlib.Core.Logic.{dite}
use native.Mathlib.Decide.{dec_le}

-- so many parts of this size are no more than the workers, where so many workers take all
few-parts : (pages workers size share parts : ℕ) → pages ≤ share * workers → share ≤ size → parts * size < pages + size → parts ≤ workers
few-parts pages workers size share parts all wide cut =
    let shares : share * workers ≤ size * workers = mul-le-mul_right workers wide in
    let turned : size * workers ≡ workers * size = mul_comm size workers in
    dite (dec_le parts workers) (λ few. few)
    (λ many.
    let over : suc workers ≤ parts = omega arith in
    let more : suc workers * size ≤ parts * size = mul-le-mul_right size over in
    let sum : suc workers * size ≡ workers * size + size = suc-mul workers size in
    absurd (omega arith))

at-least : (share size : ℕ) → size ≡ max share 1 → (share ≤ size) × (0 < size)
at-least share size is = (omega arith, omega arith)

-- parts of so many pages are no more than the workers
pub parts_few : (pages workers size : ℕ) → 0 < workers → size ≡ max (pages / workers + min 1 (pages % workers)) 1 → pages / size + min 1 (pages % size) ≤ workers
parts_few pages workers size some is =
    let least = at-least (pages / workers + min 1 (pages % workers)) size is in
    few-parts pages workers size (pages / workers + min 1 (pages % workers)) (pages / size + min 1 (pages % size))
    (div_ceil_times pages workers some).0 least.0 (div_ceil_times pages size least.1).1

-- so are the counts of them
pub few-counted : (counts pages given size workers : ℕ) → counts ≡ pages / size + min 1 (pages % size) → given ≡ pages → given / size + min 1 (given % size) ≤ workers → counts ≤ workers
few-counted counts pages given size workers is same few = subst (λ n. n ≤ workers) (sym is) (subst (λ p. p / size + min 1 (p % size) ≤ workers) same few)
