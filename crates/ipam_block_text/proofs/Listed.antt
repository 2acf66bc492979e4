-- The pairs that the entries of an object are read as, one after another.
use Rattle.std.proofs.Common.{◌≡◌, ◌∙◌, ◌∷◌, ◌++◌, [], List, Option, Some, None, ap, sym, string_bytes}
use Rattle.serde_json.specs.View.{view}
use Rattle.serde_json.proofs.Views.{Entry}
use Rattle.ipam_json.specs.Built.{fields_of}
use Rattle.ipam_block_text.specs.Attributes.{Pair}
use Rattle.ipam_block_text.specs.Reading.{each, pair_in}
use Rattle.ipam_block_text.proofs.Each.{onto, each_more, each_none, each_done}

pub entry_more : (e : Entry) (y : Pair) (done after : List Pair) (entries left : List Entry) (all : Option (List Pair)) → entries ≡ e ∷ left → Some y ≡ pair_in (string_bytes e.0, view e.1) → after ≡ done ++ y ∷ [] → onto done (each pair_in (fields_of entries)) ≡ all → onto after (each pair_in (fields_of left)) ≡ all
entry_more e y done after entries left all step is pushed h =
    ap (λ l. onto l (each pair_in (fields_of left))) pushed
    ∙ each_more pair_in (string_bytes e.0, view e.1) y done (fields_of left) all (sym is) (sym (ap (λ l. onto done (each pair_in (fields_of l))) step) ∙ h)

pub entry_none : (e : Entry) (done : List Pair) (entries left : List Entry) (all : Option (List Pair)) → entries ≡ e ∷ left → None ≡ pair_in (string_bytes e.0, view e.1) → onto done (each pair_in (fields_of entries)) ≡ all → None ≡ all
entry_none e done entries left all step is h =
    each_none pair_in (string_bytes e.0, view e.1) done (fields_of left) all (sym is) (sym (ap (λ l. onto done (each pair_in (fields_of l))) step) ∙ h)

pub entry_done : (done : List Pair) (entries : List Entry) (all : Option (List Pair)) → entries ≡ [] → onto done (each pair_in (fields_of entries)) ≡ all → Some done ≡ all
entry_done done entries all end h = each_done pair_in done (fields_of entries) all (ap fields_of end) h
