-- The members of an object whose values are texts.
use Rattle.std.proofs.Common.{◌≡◌, ℕ, ◌<◌, ◌≤◌, List, [], ◌∷◌, ◌++◌, codes, Bool, true, false, Option, Some, None, IsUtf8, refl, sym, ap, ◌∙◌, arith, append_assoc, append-nil, Ordering, Less, Equal, Greater, bytes_eq, if◌then◌else◌}
use Rattle.std.specs.List.{AllByRecursion}
use Rattle.std.specs.Ordering.{nat_cmp, match_ordering}
use Rattle.std.specs.Cmp.Lexicographic.{slice_cmp}
use Rattle.serde_json.specs.Data.{Data, object, string, Members, no_members, member, put}
use Rattle.ipam_json.specs.Canonical.{IsCanonicalWithin, MembersHaveTexts, HasTexts}
use Rattle.ipam_json.proofs.Constructors.{IsCanonicalWithin-put, IsCanonicalWithin-string, IsCanonicalWithin-object}
use Rattle.cni_types.specs.Reading.{Pair}
use Rattle.ipam_call.specs.Requests.{last_from, last_of, with_value}
use Rattle.ipam_request_text.specs.Fields.{pairs_after}
use Rattle.ipam_text_laws.specs.Sent.{HasTextValues, pair_if}

abbrev pub members_of : List Pair → Members
members_of [] = no_members
members_of (p ∷ ps) = member p.0 (string p.1) (members_of ps)

-- each name comes before this one
abbrev pub IsPast : List ℕ → List Pair → Type 0
IsPast k ps = AllByRecursion (λ (p : Pair). slice_cmp nat_cmp k p.0 ≡ Greater) ps

put_last : (k v : List ℕ) (ps : List Pair) → IsPast k ps → put k (string v) (members_of ps) ≡ members_of (ps ++ (k, v) ∷ [])
put_last k v [] h = refl
put_last k v (p ∷ ps) h = rw h.0 (ap (member p.0 (string p.1)) (put_last k v ps h.1))

-- a variable whose name comes after the others goes last
pub with_last_put : (k : List ℕ) (o : Option (List ℕ)) (ps : List Pair) → IsPast k ps → with_value k o (members_of ps) ≡ members_of (ps ++ pair_if k o)
with_last_put k None ps h = ap members_of (sym (append-nil ps))
with_last_put k (Some v) ps h = put_last k v ps h

pub past_one : (k name : List ℕ) (o : Option (List ℕ)) → slice_cmp nat_cmp k name ≡ Greater → IsPast k (pair_if name o)
past_one k name None h = tt
past_one k name (Some v) h = (h, tt)

pub past_both : (k : List ℕ) (ps qs : List Pair) → IsPast k ps → IsPast k qs → IsPast k (ps ++ qs)
past_both k [] qs h g = g
past_both k (p ∷ ps) qs h g = (h.0, past_both k ps qs h.1 g)

-- the pairs are read of the members
pub pairs_read : (there ps : List Pair) → pairs_after there (members_of ps) ≡ Some (there ++ ps)
pairs_read there [] = ap Some (sym (append-nil there))
pairs_read there (p ∷ ps) = pairs_read (there ++ p ∷ []) ps ∙ ap Some (append_assoc there (p ∷ []) ps)

-- ---- canonical texts

pub canonical_with : (k : List ℕ) (o : Option (List ℕ)) (ms : Members) → IsCanonicalWithin 1 (object ms) → IsCanonicalWithin 1 (object (with_value k o ms))
canonical_with k None ms h = h
canonical_with k (Some v) ms h = IsCanonicalWithin-put 0 1 k (string v) ms (omega arith) (IsCanonicalWithin-string 0 v) h

pub canonical_none : IsCanonicalWithin 1 (object no_members)
canonical_none = IsCanonicalWithin-object 0 1 [] (omega arith) tt tt

texts_put : (k : List ℕ) (d : Data) (ms : Members) → IsUtf8 k → HasTexts d → MembersHaveTexts ms → MembersHaveTexts (put k d ms)
texts_put k d no_members hk hd h = (hk, hd, tt)
texts_put k d (member l e ms) hk hd h = at (slice_cmp nat_cmp k l) (texts_put k d ms hk hd h.2)
  where
    at : (o : Ordering) → MembersHaveTexts (put k d ms) → MembersHaveTexts (match_ordering o (member k d (member l e ms)) (member l d ms) (member l e (put k d ms)))
    at Less later = (hk, hd, h)
    at Equal later = (h.0, hd, h.2)
    at Greater later = (h.0, h.1, later)

abbrev pub IsTextIfSome : Option (List ℕ) → Type 0
IsTextIfSome None = Unit {0}
IsTextIfSome (Some v) = IsUtf8 v

pub texts_with : (k : List ℕ) (o : Option (List ℕ)) (ms : Members) → IsUtf8 k → IsTextIfSome o → MembersHaveTexts ms → MembersHaveTexts (with_value k o ms)
texts_with k None ms hk ho h = h
texts_with k (Some v) ms hk ho h = texts_put k (string v) ms hk ho h

last_text : (k : List ℕ) (found : Option (List ℕ)) (env : List Pair) → IsTextIfSome found → HasTextValues env → IsTextIfSome (last_from k found env)
last_text k found [] h g = h
last_text k found (pair ∷ env) h g = go (bytes_eq pair.0 k) (last_text k (Some pair.1) env g.0 g.1) (last_text k found env h g.1)
  where
    go : (b : Bool) → IsTextIfSome (last_from k (Some pair.1) env) → IsTextIfSome (last_from k found env) → IsTextIfSome (last_from k (if b then Some pair.1 else found) env)
    go true taken left = taken
    go false taken left = left

pub last_is_text : (k : List ℕ) (env : List Pair) → HasTextValues env → IsTextIfSome (last_of k env)
last_is_text k env g = last_text k None env tt g
