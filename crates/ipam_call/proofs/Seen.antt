-- A call sees of each variable its last value.
use Rattle.std.proofs.Common.{◌≡◌, ℕ, List, [], ◌∷◌, ◌++◌, Option, Some, None, false, true, bytes_eq, refl, ap, ◌∙◌}
use Rattle.std.specs.Prelude.{if◌then◌else◌}
use Rattle.cni_types.specs.Environment.{value_from}
use Rattle.cni_types.specs.Reading.{Pair}
use Rattle.ipam_call.specs.declared.variable.Variable.{Variable}
use Rattle.ipam_call.specs.declared.variable.Variable.TheVariants.{Command, ContainerId, Netns, Ifname, Args}
use Rattle.ipam_call.specs.CallVariables.{call_pairs, pair_of, pair_seen, seen, value_looked_at, variable_name}
use Rattle.ipam_call.specs.Values.{last_value}

-- pairs that are joined are looked through one after the other
joined : (name found : List ℕ) (xs ys : List Pair) → value_from name found (xs ++ ys) ≡ value_from name (value_from name found xs) ys
joined name found [] ys = refl
joined name found (pair ∷ xs) ys = joined name (if bytes_eq pair.0 name then pair.1 else found) xs ys

all-joined : (name : List ℕ) (a b c d e : List Pair) → value_from name [] (a ++ b ++ c ++ d ++ e)
    ≡ value_from name (value_from name (value_from name (value_from name (value_from name [] a) b) c) d) e
all-joined name a b c d e =
    joined name [] (a ++ b ++ c ++ d) e
    ∙ ap (λ (f : List ℕ). value_from name f e) (joined name [] (a ++ b ++ c) d
    ∙ ap (λ (f : List ℕ). value_from name f d) (joined name [] (a ++ b) c
    ∙ ap (λ (f : List ℕ). value_from name f c) (joined name [] a b)))

-- another variable is passed over
passed : (v w : Variable) (o : Option (List ℕ)) (found : List ℕ) → bytes_eq (variable_name w) (variable_name v) ≡ false → value_from (variable_name v) found (pair_seen w o) ≡ found
passed v w None found other = refl
passed v w (Some bytes) found other = rw other refl

-- the variable itself is found, where nothing was before
own : (v : Variable) (o : Option (List ℕ)) → bytes_eq (variable_name v) (variable_name v) ≡ true → value_from (variable_name v) [] (pair_seen v o) ≡ seen v o
own v None same = refl
own v (Some bytes) same = rw same refl

-- what is found behind an earlier value that is none
own_after : (v : Variable) (o : Option (List ℕ)) (found : List ℕ) → found ≡ [] → bytes_eq (variable_name v) (variable_name v) ≡ true → value_from (variable_name v) found (pair_seen v o) ≡ seen v o
own_after v o found none same = ap (λ (f : List ℕ). value_from (variable_name v) f (pair_seen v o)) none ∙ own v o same

module _ (v : Variable) (entries : List (List ℕ)) where
  in_order : value_looked_at v (call_pairs entries)
      ≡ value_from (variable_name v) (value_from (variable_name v) (value_from (variable_name v) (value_from (variable_name v) (value_from (variable_name v) []
      (pair_of Command entries)) (pair_of ContainerId entries)) (pair_of Netns entries)) (pair_of Ifname entries)) (pair_of Args entries)
  in_order = all-joined (variable_name v) (pair_of Command entries) (pair_of ContainerId entries) (pair_of Netns entries) (pair_of Ifname entries) (pair_of Args entries)

  over : (w : Variable) (found : List ℕ) → bytes_eq (variable_name w) (variable_name v) ≡ false → value_from (variable_name v) found (pair_of w entries) ≡ found
  over w found other = passed v w (last_value (variable_name w) entries) found other

pub is_seen : (v : Variable) (entries : List (List ℕ)) → value_looked_at v (call_pairs entries) ≡ seen v (last_value (variable_name v) entries)
is_seen Command entries =
    in_order Command entries ∙ over Command entries Args _ refl ∙ over Command entries Ifname _ refl
    ∙ over Command entries Netns _ refl ∙ over Command entries ContainerId _ refl
    ∙ own Command (last_value (variable_name Command) entries) refl
is_seen ContainerId entries =
    in_order ContainerId entries ∙ over ContainerId entries Args _ refl ∙ over ContainerId entries Ifname _ refl
    ∙ over ContainerId entries Netns _ refl
    ∙ own_after ContainerId (last_value (variable_name ContainerId) entries) _ (over ContainerId entries Command [] refl) refl
is_seen Netns entries =
    in_order Netns entries ∙ over Netns entries Args _ refl ∙ over Netns entries Ifname _ refl
    ∙ own_after Netns (last_value (variable_name Netns) entries) _ (over Netns entries ContainerId _ refl ∙ over Netns entries Command [] refl) refl
is_seen Ifname entries =
    in_order Ifname entries ∙ over Ifname entries Args _ refl
    ∙ own_after Ifname (last_value (variable_name Ifname) entries) _ (over Ifname entries Netns _ refl ∙ over Ifname entries ContainerId _ refl ∙ over Ifname entries Command [] refl) refl
is_seen Args entries =
    in_order Args entries
    ∙ own_after Args (last_value (variable_name Args) entries) _ (over Args entries Ifname _ refl ∙ over Args entries Netns _ refl ∙ over Args entries ContainerId _ refl ∙ over Args entries Command [] refl) refl
