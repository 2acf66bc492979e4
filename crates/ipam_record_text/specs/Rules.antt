-- How the mode and the selector of a pool stand in its object.
use Rattle.std.specs.Prelude.{ℕ, List, [], ◌∷◌, codes, Bool, true, false, ◌&&◌, bytes_eq, Option, Some, None, if◌then◌else◌}
use Rattle.serde_json.specs.Data.{Data, string, put, Members}
use Rattle.ipam_json.specs.Built.{Field}
use Rattle.ipam_select.specs.Formula.{Formula, every}
use Rattle.ipam_select.specs.Every.{is_every}
use Rattle.ipam_select.specs.Printing.{printed}
use Rattle.ipam_select.specs.Reading.{reading}
use Rattle.ipam_select.specs.Sound.{is_short}
use Rattle.ipam_pool.specs.declared.pools.Mode.{Mode}
use Rattle.ipam_pool.specs.declared.pools.Mode.TheVariants.{Automatic, Manual}
use Rattle.ipam_json.specs.Members.{◌>>=◌, only_if, text_at}

-- the mode, where it is manual
abbrev pub mode_fields : Mode → List Field
mode_fields Automatic = []
mode_fields Manual = (codes "assignmentMode", string (codes "Manual")) ∷ []

abbrev pub selector_fields_unless : (all : Bool) → Formula → List Field
selector_fields_unless true f = []
selector_fields_unless false f = (codes "nodeSelector", string (printed f)) ∷ []

-- the printed selector, where it is not the one for all nodes
abbrev pub selector_fields : Formula → List Field
selector_fields f = selector_fields_unless (is_every f) f

-- the members with these fields, each at its place among them
abbrev pub with_fields : List Field → Members → Members
with_fields [] ms = ms
with_fields (f ∷ fs) ms = with_fields fs (put f.0 f.1 ms)

-- A text that is not one of a manual pool is refused later, since it is not what is printed.
abbrev pub mode_kept : List ℕ → Mode
mode_kept text = if bytes_eq text (codes "Manual") then Manual else Automatic

abbrev pub mode_said : Option (List ℕ) → Mode
mode_said None = Automatic
mode_said (Some text) = mode_kept text

-- the mode that the JSON holds
abbrev pub mode_kept_in : Data → Mode
mode_kept_in d = mode_said (text_at (codes "assignmentMode") d)

-- the selector that the text is read as, where neither it nor its printed form is too long
unfoldable pub selector_of : List ℕ → Option Formula
selector_of text = do
  f ← reading text
  only_if (is_short text && is_short (printed f)) f

abbrev pub selector_said : Option (List ℕ) → Option Formula
selector_said None = Some every
selector_said (Some text) = selector_of text

-- the selector that the JSON holds
abbrev pub node_selector_in : Data → Option Formula
node_selector_in d = selector_said (text_at (codes "nodeSelector") d)
