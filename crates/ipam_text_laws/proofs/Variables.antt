-- The variables of what is sent are those of the environment.
use Rattle.std.proofs.Common.{◌≡◌, ℕ, List, [], ◌∷◌, ◌++◌, codes, Bool, true, false, Option, Some, None, refl, sym, ap, ◌∙◌, bytes_eq, unwrap_or, if◌then◌else◌}
use Rattle.cni_types.specs.Environment.{value_from}
use Rattle.cni_types.specs.Reading.{Pair}
use Rattle.ipam_call.specs.Requests.{last_from, last_of}
use Rattle.ipam_text_laws.specs.Sent.{pair_if, pairs_sent}
use Rattle.ipam_text_laws.proofs.Looks.{Same}

either : (b : Bool) (v : List ℕ) (o : Option (List ℕ)) → (if b then v else unwrap_or o []) ≡ unwrap_or (if b then Some v else o) []
either true v o = refl
either false v o = refl

-- the last value, or the empty one
value_last : (name : List ℕ) (o : Option (List ℕ)) (env : List Pair) → value_from name (unwrap_or o []) env ≡ unwrap_or (last_from name o env) []
value_last name o [] = refl
value_last name o (pair ∷ env) =
    ap (λ found. value_from name found env) (either (bytes_eq pair.0 name) pair.1 o)
    ∙ value_last name (if bytes_eq pair.0 name then Some pair.1 else o) env

value_both : (name found : List ℕ) (ps qs : List Pair) → value_from name found (ps ++ qs) ≡ value_from name (value_from name found ps) qs
value_both name found [] qs = refl
value_both name found (p ∷ ps) qs = value_both name (if bytes_eq p.0 name then p.1 else found) ps qs

value_other : (name other found : List ℕ) (o : Option (List ℕ)) → bytes_eq other name ≡ false → value_from name found (pair_if other o) ≡ found
value_other name other found None e = refl
value_other name other found (Some v) e = rw e refl

value_own : (name found : List ℕ) (o : Option (List ℕ)) → bytes_eq name name ≡ true → value_from name found (pair_if name o) ≡ unwrap_or o found
value_own name found None e = refl
value_own name found (Some v) e = rw e refl

value_five : (name : List ℕ) (a b c d e : List Pair) → value_from name [] (a ++ b ++ c ++ d ++ e) ≡ value_from name (value_from name (value_from name (value_from name (value_from name [] a) b) c) d) e
value_five name a b c d e =
    value_both name [] (a ++ b ++ c ++ d) e
    ∙ ap (λ found. value_from name found e) (value_both name [] (a ++ b ++ c) d
    ∙ ap (λ found. value_from name found d) (value_both name [] (a ++ b) c
    ∙ ap (λ found. value_from name found c) (value_both name [] a b)))

abbrev pub one : List ℕ → List Pair → List Pair
one name env = pair_if name (last_of name env)

pub args_same : (env : List Pair) → Same (codes "CNI_ARGS") (pairs_sent env) env
args_same env =
    let name = codes "CNI_ARGS" in
    value_five name (one name env) (one (codes "CNI_COMMAND") env) (one (codes "CNI_CONTAINERID") env) (one (codes "CNI_IFNAME") env) (one (codes "CNI_NETNS") env)
    ∙ value_other name (codes "CNI_NETNS") _ (last_of (codes "CNI_NETNS") env) refl
    ∙ value_other name (codes "CNI_IFNAME") _ (last_of (codes "CNI_IFNAME") env) refl
    ∙ value_other name (codes "CNI_CONTAINERID") _ (last_of (codes "CNI_CONTAINERID") env) refl
    ∙ value_other name (codes "CNI_COMMAND") _ (last_of (codes "CNI_COMMAND") env) refl
    ∙ value_own name [] (last_of name env) refl ∙ sym (value_last name None env)

pub command_same : (env : List Pair) → Same (codes "CNI_COMMAND") (pairs_sent env) env
command_same env =
    let name = codes "CNI_COMMAND" in
    value_five name (one (codes "CNI_ARGS") env) (one name env) (one (codes "CNI_CONTAINERID") env) (one (codes "CNI_IFNAME") env) (one (codes "CNI_NETNS") env)
    ∙ value_other name (codes "CNI_NETNS") _ (last_of (codes "CNI_NETNS") env) refl
    ∙ value_other name (codes "CNI_IFNAME") _ (last_of (codes "CNI_IFNAME") env) refl
    ∙ value_other name (codes "CNI_CONTAINERID") _ (last_of (codes "CNI_CONTAINERID") env) refl
    ∙ value_own name _ (last_of name env) refl
    ∙ ap (unwrap_or (last_of name env)) (value_other name (codes "CNI_ARGS") [] (last_of (codes "CNI_ARGS") env) refl)
    ∙ sym (value_last name None env)

pub container_same : (env : List Pair) → Same (codes "CNI_CONTAINERID") (pairs_sent env) env
container_same env =
    let name = codes "CNI_CONTAINERID" in
    value_five name (one (codes "CNI_ARGS") env) (one (codes "CNI_COMMAND") env) (one name env) (one (codes "CNI_IFNAME") env) (one (codes "CNI_NETNS") env)
    ∙ value_other name (codes "CNI_NETNS") _ (last_of (codes "CNI_NETNS") env) refl
    ∙ value_other name (codes "CNI_IFNAME") _ (last_of (codes "CNI_IFNAME") env) refl
    ∙ value_own name _ (last_of name env) refl
    ∙ ap (unwrap_or (last_of name env)) (value_other name (codes "CNI_COMMAND") _ (last_of (codes "CNI_COMMAND") env) refl
    ∙ value_other name (codes "CNI_ARGS") [] (last_of (codes "CNI_ARGS") env) refl)
    ∙ sym (value_last name None env)

pub interface_same : (env : List Pair) → Same (codes "CNI_IFNAME") (pairs_sent env) env
interface_same env =
    let name = codes "CNI_IFNAME" in
    value_five name (one (codes "CNI_ARGS") env) (one (codes "CNI_COMMAND") env) (one (codes "CNI_CONTAINERID") env) (one name env) (one (codes "CNI_NETNS") env)
    ∙ value_other name (codes "CNI_NETNS") _ (last_of (codes "CNI_NETNS") env) refl
    ∙ value_own name _ (last_of name env) refl
    ∙ ap (unwrap_or (last_of name env)) (value_other name (codes "CNI_CONTAINERID") _ (last_of (codes "CNI_CONTAINERID") env) refl
    ∙ value_other name (codes "CNI_COMMAND") _ (last_of (codes "CNI_COMMAND") env) refl
    ∙ value_other name (codes "CNI_ARGS") [] (last_of (codes "CNI_ARGS") env) refl)
    ∙ sym (value_last name None env)

pub namespace_same : (env : List Pair) → Same (codes "CNI_NETNS") (pairs_sent env) env
namespace_same env =
    let name = codes "CNI_NETNS" in
    value_five name (one (codes "CNI_ARGS") env) (one (codes "CNI_COMMAND") env) (one (codes "CNI_CONTAINERID") env) (one (codes "CNI_IFNAME") env) (one name env)
    ∙ value_own name _ (last_of name env) refl
    ∙ ap (unwrap_or (last_of name env)) (value_other name (codes "CNI_IFNAME") _ (last_of (codes "CNI_IFNAME") env) refl
    ∙ value_other name (codes "CNI_CONTAINERID") _ (last_of (codes "CNI_CONTAINERID") env) refl
    ∙ value_other name (codes "CNI_COMMAND") _ (last_of (codes "CNI_COMMAND") env) refl
    ∙ value_other name (codes "CNI_ARGS") [] (last_of (codes "CNI_ARGS") env) refl)
    ∙ sym (value_last name None env)
