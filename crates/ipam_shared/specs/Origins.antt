-- The base with which a lock's history starts.
use Rattle.std.specs.Prelude.{List, [], ◌∷◌}
use Rattle.ipam_model.specs.History.{Base}
use Rattle.ipam_shared.specs.declared.opened.Opened.{Opened}

abbrev pub base_opened : Opened → Base
base_opened opened = record { store = opened.store.store; first = opened.first }

-- the base of the one origin that a pass has
abbrev pub base_in : List Opened → Base
base_in [] = record { store = record { rows = []; counter = 0 }; first = 0 }
base_in (opened ∷ others) = base_opened opened
