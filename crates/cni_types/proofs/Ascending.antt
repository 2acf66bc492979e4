-- The names of each object that is read ascend.
use Rattle.std.proofs.Common.{◌≡◌, ℕ, List, [], ◌∷◌, ◌++◌, map, Option, Some, None, option_map, option_and_then, Less, Equal, Greater, Ordering, nat_cmp, refl, sym, ap, ◌∙◌, append_assoc, append-nil}
use Rattle.std.proofs.lemmas.Cmp.{nat_list_cmp_total}
use Rattle.std.proofs.lemmas.List.{map_push}
use Rattle.std.specs.Cmp.Lexicographic.{slice_cmp}
use Rattle.std.specs.List.{AllByRecursion}
use Rattle.std.specs.List.Sorted.{IsStrictlySortedBy}
use Rattle.std.specs.Ordering.{ordering_reverse, match_ordering}
use Rattle.json.specs.Json as json
use Rattle.json.specs.Lex.{tokens}
use Rattle.serde_json.specs.Data.{Data, Num, null, boolean, number, string, array, object, Items, no_items, item, Members, no_members, member, put}
use Rattle.serde_json.specs.Find.{get, get_member}
use Rattle.serde_json.specs.Read.{read, max_depth, of_json, of_items, of_members, number_of}
use Rattle.ipam_json.specs.Canonical.{IsBeforeFirst}
use Rattle.ipam_json.proofs.Constructors.{good-put}
use Rattle.cni_types.specs.Reading.{Pair, text_or_empty}
use Rattle.cni_types.specs.Asked.{labels_after}
use Rattle.cni_types.specs.Sound.{KeysAscend}

abbrev mutual
  pub NamesAscend : Data → Type 0
  NamesAscend null = Unit {0}
  NamesAscend (boolean b) = Unit {0}
  NamesAscend (number n) = Unit {0}
  NamesAscend (string s) = Unit {0}
  NamesAscend (array ds) = ItemsAscend ds
  NamesAscend (object ms) = MembersAscend ms

  pub ItemsAscend : Items → Type 0
  ItemsAscend no_items = Unit {0}
  ItemsAscend (item d ds) = NamesAscend d × ItemsAscend ds

  pub MembersAscend : Members → Type 0
  MembersAscend no_members = Unit {0}
  MembersAscend (member k d ms) = IsBeforeFirst k ms × NamesAscend d × MembersAscend ms

ascend-put : (k : List ℕ) (d : Data) (ms : Members) → NamesAscend d → MembersAscend ms → MembersAscend (put k d ms)
ascend-put = good-put NamesAscend MembersAscend tt (λ k d ms before value old. (before, value, old)) (λ k d ms h. h)

-- ---- what is read of each form

number_case : (d : Data) (o : Option Num) → option_map number o ≡ Some d → NamesAscend d
number_case d (Some n) e = let same : number n ≡ d = cc in rw (← same) tt
number_case d None e = absurd cc

array_case : (d : Data) (o : Option Items) → option_map array o ≡ Some d → ((ds : Items) → o ≡ Some ds → ItemsAscend ds) → NamesAscend d
array_case d (Some ds) e each = let same : array ds ≡ d = cc in rw (← same) (each ds refl)
array_case d None e each = absurd cc

object_case : (d : Data) (o : Option Members) → option_map object o ≡ Some d → ((ms : Members) → o ≡ Some ms → MembersAscend ms) → NamesAscend d
object_case d (Some ms) e each = let same : object ms ≡ d = cc in rw (← same) (each ms refl)
object_case d None e each = absurd cc

item_case : (o : Option Data) (p : Option Items) (ds : Items) → option_and_then (λ d. option_map (item d) p) o ≡ Some ds → ((d : Data) → o ≡ Some d → NamesAscend d) → ((ms : Items) → p ≡ Some ms → ItemsAscend ms) → ItemsAscend ds
item_case (Some d) (Some more) ds e one rest = let same : item d more ≡ ds = cc in rw (← same) (one d refl, rest more refl)
item_case (Some d) None ds e one rest = absurd cc
item_case None p ds e one rest = absurd cc

member_case : (k : List ℕ) (found ms : Members) (js : json.Members) (o : Option Data) → option_and_then (λ d. of_members js (put k d found)) o ≡ Some ms → ((d : Data) → o ≡ Some d → of_members js (put k d found) ≡ Some ms → MembersAscend ms) → MembersAscend ms
member_case k found ms js (Some d) e next = next d refl e
member_case k found ms js None e next = absurd cc

mutual
  of_json-ascends : (j : json.Json) (d : Data) → of_json j ≡ Some d → NamesAscend d
  of_json-ascends json.null d e = let same : null ≡ d = cc in rw (← same) tt
  of_json-ascends (json.boolean b) d e = let same : boolean b ≡ d = cc in rw (← same) tt
  of_json-ascends (json.number s) d e = number_case d (number_of s) e
  of_json-ascends (json.string s) d e = let same : string s ≡ d = cc in rw (← same) tt
  of_json-ascends (json.array js) d e = array_case d (of_items js) e (λ ds is. of_items-ascends js ds is)
  of_json-ascends (json.object js) d e = object_case d (of_members js no_members) e (λ ms is. of_members-ascends js no_members ms is tt)

  of_items-ascends : (js : json.Items) (ds : Items) → of_items js ≡ Some ds → ItemsAscend ds
  of_items-ascends json.no_items ds e = let same : no_items ≡ ds = cc in rw (← same) tt
  of_items-ascends (json.item j js) ds e = item_case (of_json j) (of_items js) ds e (λ d is. of_json-ascends j d is) (λ more is. of_items-ascends js more is)

  of_members-ascends : (js : json.Members) (found ms : Members) → of_members js found ≡ Some ms → MembersAscend found → MembersAscend ms
  of_members-ascends json.no_members found ms e h = let same : found ≡ ms = cc in rw (← same) h
  of_members-ascends (json.member k j js) found ms e h =
      member_case k found ms js (of_json j) e (λ d is e'. of_members-ascends js (put k d found) ms e' (ascend-put k d found (of_json-ascends j d is) h))

read_case : (o : Option json.Json) (d : Data) → option_and_then of_json o ≡ Some d → NamesAscend d
read_case (Some j) d e = of_json-ascends j d e
read_case None d e = absurd cc

-- the names of each object in what is read ascend
pub read-ascends : (text : List ℕ) (d : Data) → read text ≡ Some d → NamesAscend d
read-ascends text d e = read_case (option_and_then (λ p. json.if_last p.0 p.1) (json.value max_depth (tokens text))) d e

get_member-ascends : (k : List ℕ) (ms : Members) (x : Data) → MembersAscend ms → get_member k ms ≡ Some x → NamesAscend x
get_member-ascends k no_members x h e = absurd cc
get_member-ascends k (member l d ms) x h e = at (slice_cmp nat_cmp k l) e (get_member-ascends k ms x h.2)
  where
    at : (o : Ordering) → match_ordering o (get_member k ms) (Some d) (get_member k ms) ≡ Some x → (get_member k ms ≡ Some x → NamesAscend x) → NamesAscend x
    at Less e' later = later e'
    at Equal e' later = let same : d ≡ x = cc in rw (← same) h.1
    at Greater e' later = later e'

-- the names of an object that is a member ascend
pub get-ascends : (k : List ℕ) (d x : Data) → NamesAscend d → get k d ≡ Some x → NamesAscend x
get-ascends k null x h e = absurd cc
get-ascends k (boolean b) x h e = absurd cc
get-ascends k (number n) x h e = absurd cc
get-ascends k (string s) x h e = absurd cc
get-ascends k (array ds) x h e = absurd cc
get-ascends k (object ms) x h e = get_member-ascends k ms x h e

-- ---- the keys of labels

keys : Members → List (List ℕ)
keys no_members = []
keys (member k d ms) = k ∷ keys ms

before_later : (k : List ℕ) (l : List ℕ) (ms : Members) → slice_cmp nat_cmp k l ≡ Less → IsBeforeFirst l ms → IsBeforeFirst k ms
before_later k l no_members e h = tt
before_later k l (member m d ms) e h = nat_list_cmp_total.trans k l m e h

before_all : (k : List ℕ) (ms : Members) → IsBeforeFirst k ms → MembersAscend ms → AllByRecursion (λ l. slice_cmp nat_cmp k l ≡ Less) (keys ms)
unfolding keys
before_all k no_members b h = tt
before_all k (member l d ms) b h = (b, before_all k ms (before_later k l ms b h.0) h.2)

keys-ascend : (ms : Members) → MembersAscend ms → IsStrictlySortedBy (slice_cmp nat_cmp) (keys ms)
unfolding keys IsStrictlySortedBy
keys-ascend no_members h = tt
keys-ascend (member k d ms) h = (before_all k ms h.0 h.2, keys-ascend ms h.2)

keys-labels_after : (labels : List Pair) (ms : Members) → map (λ (p : Pair). p.0) (labels_after labels ms) ≡ map (λ (p : Pair). p.0) labels ++ keys ms
unfolding keys
keys-labels_after labels no_members = sym (append-nil (map (λ (p : Pair). p.0) labels))
keys-labels_after labels (member k d ms) =
    keys-labels_after (labels ++ (k, text_or_empty d) ∷ []) ms
    ∙ ap (λ ks. ks ++ keys ms) (map_push (λ (p : Pair). p.0) labels (k, text_or_empty d))
    ∙ append_assoc (map (λ (p : Pair). p.0) labels) (k ∷ []) (keys ms)

pub labels-ascend : (ms : Members) → MembersAscend ms → KeysAscend (labels_after [] ms)
labels-ascend ms h = rw (keys-labels_after [] ms) (keys-ascend ms h)
