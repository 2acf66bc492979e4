-- What contracts see of a ring: plain data.
use Rattle.std.specs.Prelude.{ℕ, List, Option}
use Rattle.ipam_store.specs.declared.route.Route.{Route}
use Rattle.ipam_store.specs.declared.change.Change.{Change}

-- the routes now, by node, family, base and prefix; the changes that are kept, the newest first; the
-- lowest revision since which they are all changes; the revision of the last write; and where a
-- write was prepared, the change that it makes, if it makes one
pub record RingValue : Type 0 where
  pub routes : List Route
  pub changes : List Change
  pub floor : ℕ
  pub counter : ℕ
  pub ready : Option (Option Change)
