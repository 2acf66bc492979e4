-- Reading the members of a resource: what each is read as, or else that it is the bad one.
use Rattle.std.specs.Prelude.{ℕ, List, Option, Some, None, option_and_then, Result, Ok, Err}
use Rattle.std.specs.Option.{ok_or}
use Rattle.serde_json.specs.Data.{Data}
use Rattle.serde_json.specs.Find.{get}
use Rattle.ipam_resources.specs.declared.member.Member.{Member}
use Rattle.ipam_resources.specs.Naming.{part_of, member_name}

infixl 10 ◌>>=◌
abbrev pub ◌>>=◌ : {A B E : Type 0} → Result A E → (A → Result B E) → Result B E
Ok x >>= f = f x
Err e >>= f = Err e

abbrev pub part_in : Option (List ℕ) → Data → Option Data
part_in None d = Some d
part_in (Some part) d = get part d

-- what stands at the member's path, if anything does
unfoldable pub found_at : Member → Data → Option Data
found_at m d = option_and_then (get (member_name m)) (part_in (part_of m) d)

-- what the member is read as: it must be there
unfoldable pub required : {A : Type 0} → (Data → Option A) → Member → Data → Result A Member
required found m d = ok_or (option_and_then found (found_at m d)) m

abbrev pub read_or : {A : Type 0} → (Data → Option A) → A → Member → Option Data → Result A Member
read_or found default m None = Ok default
read_or found default m (Some v) = ok_or (found v) m

-- what the member is read as, or the default where it is missing
unfoldable pub optional : {A : Type 0} → (Data → Option A) → A → Member → Data → Result A Member
optional found default m d = read_or found default m (found_at m d)
