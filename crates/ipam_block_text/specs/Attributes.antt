-- The attributes in use in a block.
use Rattle.std.specs.Prelude.{Bool, ◌&&◌, List, [], ◌∷◌, ◌++◌, fold, bytes_eq, if◌then◌else◌}
use Rattle.std.specs.Cmp.{IsEquivalence, and_equiv, on_equiv}
use Rattle.std.specs.Cmp.Lexicographic.{pointwise, lists_equiv, on_texts_equal}
use Rattle.std.specs.List.{list_any}
use Rattle.ipam_block.specs.declared.allocation.Allocation.{Allocation}
use Rattle.ipam_block.specs.declared.allocation.Attributes.{Attributes}
pub use Rattle.ipam_block.specs.Pairs.{Pair}

abbrev pub is_same_pair : Pair → Pair → Bool
is_same_pair p q = bytes_eq p.0 q.0 && bytes_eq p.1 q.1

-- whether two attributes have one handle and one list of pairs
abbrev pub are_same : Attributes → Attributes → Bool
are_same a b = bytes_eq a.handle b.handle && pointwise is_same_pair a.secondary b.secondary

pub are_same_equiv : IsEquivalence are_same
are_same_equiv =
    and_equiv (on_texts_equal (λ a. a.handle))
    (on_equiv (λ a. a.secondary) (lists_equiv (and_equiv (on_texts_equal (λ (p : Pair). p.0)) (on_texts_equal (λ (p : Pair). p.1)))))

-- the attributes, and these if they are not there
abbrev pub with_attributes : List Attributes → Attributes → List Attributes
with_attributes found own = if list_any (are_same own) found then found else found ++ own ∷ []

abbrev pub with_those_of : List Attributes → Allocation → List Attributes
with_those_of found a = with_attributes found a.attributes

-- the attributes in use, each once, by the first allocation that has them
abbrev pub distinct_attributes : List Allocation → List Attributes
distinct_attributes allocations = fold with_those_of [] allocations
