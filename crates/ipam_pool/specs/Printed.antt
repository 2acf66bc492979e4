-- What is printed of a refusal.
use Rattle.std.specs.Prelude.{ℕ, List, ◌++◌, codes, decimal}
use Rattle.ipam_pool.specs.declared.pools.PoolRefusal.{PoolRefusal}
use Rattle.ipam_pool.specs.declared.pools.PoolRefusal.TheVariants.{NameTaken, Overlap, Size, Prefix, TooMany, Memory}

abbrev pub refusal_text : PoolRefusal → List ℕ
refusal_text NameTaken = codes "a pool of this name exists"
refusal_text (Overlap place) = codes "overlaps the pool at place " ++ decimal place
refusal_text Size = codes "slot size out of range"
refusal_text Prefix = codes "prefix longer than the slot size"
refusal_text TooMany = codes "too many pools"
refusal_text Memory = codes "out of memory"

abbrev pub no_such_pool_text : List ℕ
no_such_pool_text = codes "no pool of this name"
