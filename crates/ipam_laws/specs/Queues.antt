-- The free ordinals of a block over a whole history, in the order in which they are given.
use Rattle.std.specs.Prelude.{◌≡◌, ◌≢◌, ℕ, ◌≤◌, ◌==◌, Bool, true, false, Contains, List, [], ◌∷◌, Some}
use Rattle.ipam_addr.specs.Shape.{AddrValue, CidrValue}
use Rattle.ipam_block.specs.Operations.{is_held, ordinal_address, room}
use Rattle.ipam_records.specs.Sound.{IsDatastore}
use Rattle.ipam_model.specs.declared.entry.Entry.{Entry}
use Rattle.ipam_model.specs.BlockLaw.{BlockAt}
use Rattle.ipam_model.specs.History.{Base, Lawful, moment_of, store_before}

-- the first, and those that are ahead among the rest, unless the first is the one that is asked about
abbrev pub ahead_from : (is_it : Bool) → (first : ℕ) → (rest : List ℕ) → List ℕ
ahead_from true first rest = []
ahead_from false first rest = first ∷ rest

-- the ordinals that are queued before this one
abbrev pub ahead_of : ℕ → List ℕ → List ℕ
ahead_of free [] = []
ahead_of free (first ∷ queue) = ahead_from (first == free) first (ahead_of free queue)

-- the ordinal is free in the block at each moment from the first to the second
abbrev pub IsFreeThrough : Base → List Entry → CidrValue → (free first second : ℕ) → Type 0
IsFreeThrough base history cidr free first second =
    (moment : ℕ) → first ≤ moment → moment ≤ second → (at : BlockAt (store_before base history moment) cidr) → Contains at.b.queue free

-- While an ordinal stays free, those that are queued before it were queued before it all along. What is
-- taken leaves the queue, and what is freed goes to its end.
abbrev pub NoneComesAheadLaw : Type 0
NoneComesAheadLaw =
    (base : Base) (history : List Entry) → IsDatastore base.store → Lawful base history
    → (first second : ℕ) → first ≤ second → second ≤ moment_of base history
    → (cidr : CidrValue) (old : BlockAt (store_before base history first) cidr) (new : BlockAt (store_before base history second) cidr)
    → (free : ℕ) → IsFreeThrough base history cidr free first second
    → (other : ℕ) → Contains (ahead_of free new.b.queue) other → Contains (ahead_of free old.b.queue) other

-- An ordinal is held at the first moment, and another one is free from then to the second moment, and
-- not reserved. Then the room that an ADD finds in the block at the second moment is not the ordinal that
-- was held: it is given again only after each one that was free when it was freed.
abbrev pub GivenAgainLateLaw : Type 0
GivenAgainLateLaw =
    (base : Base) (history : List Entry) → IsDatastore base.store → Lawful base history
    → (first second : ℕ) → first ≤ second → second ≤ moment_of base history
    → (cidr : CidrValue) (old : BlockAt (store_before base history first) cidr) (new : BlockAt (store_before base history second) cidr)
    → (free held : ℕ) → IsFreeThrough base history cidr free first second → is_held old.b held ≡ true
    → (reserved : AddrValue → Bool) → reserved (ordinal_address new.b.cidr free) ≡ false
    → room reserved new.b ≢ Some held
