-- Lines with their line feed.
use Rattle.std.specs.Prelude.{◌≡◌, ℕ, List, ◌++◌, codes}
use Rattle.ipam_io.specs.Feeds.{HasNoFeed}

-- the text ends by a line feed, and has none before
abbrev pub IsWholeLine : List ℕ → Type 0
IsWholeLine text = (line : List ℕ) × HasNoFeed line × (text ≡ line ++ codes "\n")
