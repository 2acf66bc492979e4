-- The line of a call is read as the call.
use Rattle.std.proofs.Common.{◌≡◌, ℕ, ◌≤◌, ◌<◌, List, [], ◌∷◌, ◌++◌, codes, true, Option, Some, None, IsUtf8, refl, sym, ap, ◌∙◌, arith, option_and_then, Greater}
use Rattle.std.specs.Str.{is_utf8}
use Rattle.std.proofs.lemmas.Str.{is_utf8-from_IsUtf8}
use Rattle.serde_json.specs.Data.{Data, object, string, Members, no_members}
use Rattle.std.specs.Ordering.{nat_cmp}
use Rattle.std.specs.Cmp.Lexicographic.{slice_cmp}
use Rattle.serde_json.specs.Read.{read}
use Rattle.serde_json.specs.Written.{compact_text}
use Rattle.ipam_json.specs.Canonical.{IsCanonical, HasTexts, MembersHaveTexts, IsCanonicalWithin}
use Rattle.ipam_json.proofs.Constructors.{IsCanonicalWithin-object, IsCanonicalWithin-string, IsCanonicalWithin-more}
use Rattle.ipam_json.proofs.ReadsBack.{read-compact_text}
use Rattle.ipam_json.proofs.Utf8Texts.{IsUtf8-compact_text}
use Rattle.json.proofs.Printed.Utf8.{IsUtf8-are_ascii}
use Rattle.ipam_json.specs.Members.{◌>>=◌, only_if}
use Rattle.cni_types.specs.Reading.{Pair}
use Rattle.ipam_request_text.specs.Fields.{pairs_in}
use Rattle.ipam_call.specs.Requests.{last_of, with_value, env_members, call_data, cni_call_text}
use Rattle.ipam_session.specs.declared.wish.Wish.{Wish}
use Rattle.ipam_session.specs.declared.wish.Wish.TheVariants.{Cni}
use Rattle.ipam_session.specs.Wishes.{wish_in, call_wish, wish_of_line}
use Rattle.ipam_text_laws.specs.Sent.{HasTextValues, pair_if, pairs_sent}
use Rattle.ipam_text_laws.proofs.Pairs.{members_of, IsPast, with_last_put, past_one, past_both, pairs_read, canonical_with, canonical_none, texts_with, last_is_text}

-- ---- the variables

abbrev pub args : List ℕ
args = codes "CNI_ARGS"

abbrev pub command : List ℕ
command = codes "CNI_COMMAND"

abbrev pub container : List ℕ
container = codes "CNI_CONTAINERID"

abbrev pub interface : List ℕ
interface = codes "CNI_IFNAME"

two_past : (k : List ℕ) (a b : Option (List ℕ)) → slice_cmp nat_cmp k args ≡ Greater → slice_cmp nat_cmp k command ≡ Greater → IsPast k (pair_if args a ++ pair_if command b)
two_past k a b e f = past_both k (pair_if args a) (pair_if command b) (past_one k args a e) (past_one k command b f)

three_past : (k : List ℕ) (a b c : Option (List ℕ)) → slice_cmp nat_cmp k args ≡ Greater → slice_cmp nat_cmp k command ≡ Greater → slice_cmp nat_cmp k container ≡ Greater → IsPast k (pair_if args a ++ pair_if command b ++ pair_if container c)
three_past k a b c e f g = past_both k (pair_if args a ++ pair_if command b) (pair_if container c) (two_past k a b e f) (past_one k container c g)

four_past : (k : List ℕ) (a b c d : Option (List ℕ)) → slice_cmp nat_cmp k args ≡ Greater → slice_cmp nat_cmp k command ≡ Greater → slice_cmp nat_cmp k container ≡ Greater → slice_cmp nat_cmp k interface ≡ Greater → IsPast k (pair_if args a ++ pair_if command b ++ pair_if container c ++ pair_if interface d)
four_past k a b c d e f g h = past_both k (pair_if args a ++ pair_if command b ++ pair_if container c) (pair_if interface d) (three_past k a b c e f g) (past_one k interface d h)

-- the variables stand by the bytes of their names
in_order : (a b c d e : Option (List ℕ)) → with_value (codes "CNI_NETNS") e (with_value interface d (with_value container c (with_value command b (with_value args a no_members)))) ≡ members_of (pair_if args a ++ pair_if command b ++ pair_if container c ++ pair_if interface d ++ pair_if (codes "CNI_NETNS") e)
in_order a b c d e =
    let one : with_value args a no_members ≡ members_of (pair_if args a) = with_last_put args a [] tt in
    let two = with_last_put command b (pair_if args a) (past_one command args a refl) in
    let three = with_last_put container c (pair_if args a ++ pair_if command b) (two_past container a b refl refl) in
    let four = with_last_put interface d (pair_if args a ++ pair_if command b ++ pair_if container c) (three_past interface a b c refl refl refl) in
    let five = with_last_put (codes "CNI_NETNS") e (pair_if args a ++ pair_if command b ++ pair_if container c ++ pair_if interface d) (four_past (codes "CNI_NETNS") a b c d refl refl refl refl) in
    ap (λ ms. with_value (codes "CNI_NETNS") e (with_value interface d (with_value container c (with_value command b ms)))) one
    ∙ ap (λ ms. with_value (codes "CNI_NETNS") e (with_value interface d (with_value container c ms))) two
    ∙ ap (λ ms. with_value (codes "CNI_NETNS") e (with_value interface d ms)) three
    ∙ ap (with_value (codes "CNI_NETNS") e) four ∙ five

sent_members : (env : List Pair) → env_members env ≡ members_of (pairs_sent env)
unfolding env_members
sent_members env = in_order (last_of _ env) (last_of _ env) (last_of _ env) (last_of _ env) (last_of _ env)

-- ---- the text

data_canonical : (env : List Pair) (input : List ℕ) → IsCanonical (call_data env input)
unfolding call_data env_members
data_canonical env input =
    let members = canonical_with _ (last_of _ env) _ (canonical_with _ (last_of _ env) _ (canonical_with _ (last_of _ env) _ (canonical_with _ (last_of _ env) _ (canonical_with _ (last_of _ env) no_members canonical_none)))) in
    IsCanonicalWithin-object 1 _ ((codes "env", object (env_members env)) ∷ (codes "stdin", string input) ∷ []) (omega arith) (refl, tt) (members, (IsCanonicalWithin-string 1 input, tt))

data_texts : (env : List Pair) (input : List ℕ) → HasTextValues env → IsUtf8 input → HasTexts (call_data env input)
unfolding call_data env_members
data_texts env input values text =
    let one = texts_with args (last_of args env) no_members (IsUtf8-are_ascii args refl) (last_is_text args env values) tt in
    let two = texts_with command (last_of command env) _ (IsUtf8-are_ascii command refl) (last_is_text command env values) one in
    let three = texts_with container (last_of container env) _ (IsUtf8-are_ascii container refl) (last_is_text container env values) two in
    let four = texts_with interface (last_of interface env) _ (IsUtf8-are_ascii interface refl) (last_is_text interface env values) three in
    let five = texts_with (codes "CNI_NETNS") (last_of (codes "CNI_NETNS") env) _ (IsUtf8-are_ascii (codes "CNI_NETNS") refl) (last_is_text (codes "CNI_NETNS") env values) four in
    (IsUtf8-are_ascii (codes "env") refl, five, (IsUtf8-are_ascii (codes "stdin") refl, text, tt))

-- ---- the line

data_read : (env : List Pair) (input : List ℕ) → wish_in (call_data env input) ≡ Some (Cni (pairs_sent env) input)
unfolding call_data wish_in call_wish
data_read env input =
    ap (λ ms. option_and_then (λ found. Some (Cni found input)) (pairs_in (object ms))) (sent_members env)
    ∙ ap (option_and_then (λ found. Some (Cni found input))) (pairs_read [] (pairs_sent env))

pub sent_read : (env : List Pair) (input : List ℕ) → HasTextValues env → IsUtf8 input → wish_of_line (cni_call_text env input) ≡ Some (Cni (pairs_sent env) input)
unfolding wish_of_line cni_call_text
sent_read env input values text =
    let utf8 = is_utf8-from_IsUtf8 (compact_text (call_data env input)) (IsUtf8-compact_text (call_data env input) (data_canonical env input) (data_texts env input values text)) in
    rw (utf8, read-compact_text (call_data env input) (data_canonical env input)) (data_read env input)
