-- What of an environment is sent.
use Rattle.std.specs.Prelude.{ℕ, List, [], ◌∷◌, ◌++◌, codes, Option, Some, None, IsUtf8}
use Rattle.std.specs.List.{AllByRecursion}
use Rattle.cni_types.specs.Reading.{Pair}
use Rattle.ipam_call.specs.Requests.{last_of}

-- the values are texts
abbrev pub HasTextValues : List Pair → Type 0
HasTextValues env = AllByRecursion (λ (pair : Pair). IsUtf8 pair.1) env

abbrev pub pair_if : List ℕ → Option (List ℕ) → List Pair
pair_if name None = []
pair_if name (Some value) = (name, value) ∷ []

-- the variables that CNI knows, of those that are there, each with its last value
abbrev pub pairs_sent : List Pair → List Pair
pairs_sent env =
    pair_if (codes "CNI_ARGS") (last_of (codes "CNI_ARGS") env)
    ++ pair_if (codes "CNI_COMMAND") (last_of (codes "CNI_COMMAND") env)
    ++ pair_if (codes "CNI_CONTAINERID") (last_of (codes "CNI_CONTAINERID") env)
    ++ pair_if (codes "CNI_IFNAME") (last_of (codes "CNI_IFNAME") env)
    ++ pair_if (codes "CNI_NETNS") (last_of (codes "CNI_NETNS") env)
