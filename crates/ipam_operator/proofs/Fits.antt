-- What a page before others is known to have.
use Rattle.std.proofs.Common.{◌≡◌, ℕ, ◌<◌, ◌≤◌, ◌&&◌, Bool, true, false, nat_le, nat_lt, refl, arith}
use Rattle.std.proofs.lemmas.Bool.Decides.{nat_tests}
use Rattle.ipam_records.specs.Datastore.{most_rows}
use Rattle.ipam_operator.specs.Page.{fits}

both_true : (a b : Bool) → (a && b) ≡ true → (a ≡ true) × (b ≡ true)
both_true true b h = (refl, h)
both_true false b h = cc h

less_told : (n m : ℕ) → nat_lt n m ≡ true → n < m
less_told n m h = grind (arith, nat_tests)

most_told : (n m : ℕ) → nat_le n m ≡ true → n ≤ m
most_told n m h = grind (arith, nat_tests)

pub fits_told : (before after : ℕ) → fits before after true ≡ true → (before < after) × (after ≤ most_rows)
fits_told before after h =
    let parts = both_true (nat_le after most_rows) (nat_lt before after) h in
    (less_told before after parts.1, most_told after most_rows parts.0)
