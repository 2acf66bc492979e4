use Rattle.std.proofs.Common.{◌≡◌, true, Option, Some, None, is_none, refl, sym, rules}
use Rattle.ipam_records.proofs.BlockListLemmas.{row_of-none}
use Rattle.ipam_records.proofs.listing.Listing.find.Goals as goal

none_is : {X : Type 0} (o : Option X) → is_none o ≡ true → o ≡ None
none_is None e = refl
none_is (Some x) e = cc e

pub returns-then-is_none : goal.returns-then-is_none
returns-then-is_none c =
    let none : is_none c.args.self.now.index ≡ true = search rules in
    sym (row_of-none c.args.cidr _ (c.args.self.now.none (none_is c.args.self.now.index none)))
