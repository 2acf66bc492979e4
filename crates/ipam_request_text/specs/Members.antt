-- Members of a request's object, each put at its place by the bytes of its name. Those of most
-- names stand there only where they are not what a request has without them.
use Rattle.std.specs.Prelude.{ℕ, List, [], codes, length, Bool, true, false, ◌==◌, Option, Some, None}
use Rattle.serde_json.specs.Data.{Data, boolean, string, Members, put}
use Rattle.ipam_select.specs.Formula.{Formula}
use Rattle.ipam_select.specs.Every.{is_every}
use Rattle.ipam_pool.specs.declared.pools.Mode.{Mode}
use Rattle.ipam_pool.specs.declared.pools.Mode.TheVariants.{Automatic, Manual}
use Rattle.ipam_model.specs.Pairs.{Pair}
use Rattle.ipam_json.specs.Built.{whole_data}
use Rattle.ipam_request_text.specs.Parts.{texts_data, pairs_data, scope_data, selector_data}

abbrev pub with_text : (name text : List ℕ) → Members → Members
with_text name text ms = put name (string text) ms

-- the members with this one, unless its value goes without saying
abbrev pub unless : Bool → List ℕ → Data → Members → Members
unless true name d ms = ms
unless false name d ms = put name d ms

abbrev pub where_true : Bool → List ℕ → Members → Members
where_true true name ms = put name (boolean true) ms
where_true false name ms = ms

abbrev pub where_false : Bool → List ℕ → Members → Members
where_false true name ms = ms
where_false false name ms = put name (boolean false) ms

abbrev pub where_some_number : ℕ → List ℕ → Members → Members
where_some_number n name ms = unless (n == 0) name (whole_data n) ms

abbrev pub where_some_texts : List (List ℕ) → List ℕ → Members → Members
where_some_texts texts name ms = unless (length texts == 0) name (texts_data texts) ms

abbrev pub where_some_pairs : List Pair → List ℕ → Members → Members
where_some_pairs pairs name ms = unless (length pairs == 0) name (pairs_data pairs) ms

abbrev pub where_manual : Mode → Members → Members
where_manual Automatic ms = ms
where_manual Manual ms = put (codes "mode") (string (codes "Manual")) ms

abbrev pub where_selective : Formula → Members → Members
where_selective f ms = unless (is_every f) (codes "selector") (selector_data f) ms

abbrev pub where_scope : Option (List ℕ × List ℕ) → Members → Members
where_scope None ms = ms
where_scope (Some scope) ms = put (codes "scope") (scope_data scope) ms

-- which families and pools are wanted, and the labels of the node
unfoldable pub wishes : (ipv4 ipv6 : Bool) (labels : List Pair) (pools4 pools6 : List (List ℕ)) → Members → Members
wishes ipv4 ipv6 labels pools4 pools6 ms =
    where_some_texts pools6 (codes "pools6")
    (where_some_texts pools4 (codes "pools4")
    (where_some_pairs labels (codes "labels")
    (where_true ipv6 (codes "ipv6")
    (where_false ipv4 (codes "ipv4") ms))))
