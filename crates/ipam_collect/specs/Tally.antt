-- The items of leaks that are done with, and the leaks that are left.
use Rattle.std.specs.Prelude.{ℕ, Bool, List, [], ◌∷◌, ◌++◌, Option, Some, None}
use Rattle.ipam_model.specs.declared.answer.Item.{Item}
use Rattle.ipam_model.specs.Remove.{Leak}

abbrev pub first_in : List Leak → Option Leak
first_in [] = None
first_in (leak ∷ rest) = Some leak

-- the item of a leak
abbrev pub item_of_leak : Leak → (freed : Bool) → Item
item_of_leak leak freed = record {
  address = leak.owner.address;
  handle = leak.owner.handle;
  stamp = leak.owner.stamp;
  freed = freed;
}

-- the first of the leaks is done with
abbrev pub finished : (freed : Bool) → List Item → List Leak → List Item × List Leak
finished freed items [] = (items, [])
finished freed items (leak ∷ rest) = (items ++ item_of_leak leak freed ∷ [], rest)

-- the handle of the first of the leaks
abbrev pub id_in : List Leak → List ℕ
id_in [] = []
id_in (leak ∷ rest) = leak.owner.handle
