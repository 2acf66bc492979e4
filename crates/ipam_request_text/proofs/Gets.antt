-- What is found of a member after others that were put or left out.
use Rattle.std.proofs.Common.{◌≡◌, ◌∙◌, ℕ, ◌<◌, ◌==◌, Bool, true, false, ◌&&◌, List, [], ◌∷◌, ◌++◌, codes, length, map, Option, Some, None, Ordering, Less, Equal, Greater, nat_cmp, refl, sym, ap, arith, append_assoc, append-nil}
use Rattle.std.specs.Prelude.{bytes_eq, if◌then◌else◌}
use Rattle.std.specs.List.{AllByRecursion}
use Rattle.std.specs.Ordering.{match_ordering}
use Rattle.std.specs.Cmp.Lexicographic.{slice_cmp}
use Rattle.std.proofs.lemmas.Bool.{and_parts, and_from, eqb-true}
use Rattle.serde_json.specs.Data.{Data, boolean, string, array, object, Items, no_items, item, Members, no_members, member, put}
use Rattle.serde_json.specs.Find.{get_member, as_bool}
use Rattle.serde_json.specs.View.{items_of}
use Rattle.serde_json.proofs.Views.{get_member-put, get_member-put_other}
use Rattle.ipam_json.specs.Path.{as_whole}
use Rattle.ipam_json.specs.Built.{members_from, whole_data}
use Rattle.ipam_addr.specs.Shape.{AddrValue}
use Rattle.ipam_addr.specs.Width.{IsAddress}
use Rattle.ipam_addr.proofs.PrintLemmas.{address_of-address_text}
use Rattle.ipam_block_text.specs.Limits.{keys_ascend}
use Rattle.ipam_block_text.proofs.PairKeys.{pair_field, pairs_members}
use Rattle.ipam_select.specs.Formula.{Formula, every}
use Rattle.ipam_select.specs.Every.{is_every}
use Rattle.ipam_select.specs.Sound.{is_sound}
use Rattle.ipam_pool.specs.declared.pools.Mode.{Mode}
use Rattle.ipam_pool.specs.declared.pools.Mode.TheVariants.{Automatic, Manual}
use Rattle.ipam_json.specs.Members.{◌>>=◌}
use Rattle.ipam_record_text.proofs.RuleLemmas.{selector_of-printed, every_or}
use Rattle.ipam_model.specs.Pairs.{Pair}
use Rattle.ipam_request_text.specs.Parts.{texts_data, pairs_data, address_data, scope_data, selector_data}
use Rattle.ipam_request_text.specs.Members.{unless, where_true, where_false, where_some_number, where_some_texts, where_some_pairs, where_manual, where_selective, where_scope}
use Rattle.ipam_request_text.specs.Fields.{found_or, texts_after, texts_in, pairs_after, pairs_in, address_in, addresses_after, number_in, mode_in, selector_in, named_scope, scope_in}
use Rattle.ipam_request_text.specs.declared.shape.Shape.{Shape}
use Rattle.ipam_request_text.specs.Shapes.{may_have, are_known}

-- ---- other names

-- by their bytes, where they are known
abbrev pub Apart : List ℕ → List ℕ → Type 0
Apart q k = (bytes_eq q q ≡ true) × (bytes_eq q k ≡ false)

pub apart : (q k : List ℕ) → Apart q k → q ≡ k → ⊥
apart q k h same =
    let test : true ≡ false = sym h.0 ∙ ap (bytes_eq q) same ∙ h.1 in
    cc test

pub past_put : (q k : List ℕ) (d : Data) (ms : Members) → Apart q k → get_member q (put k d ms) ≡ get_member q ms
past_put q k d ms h = get_member-put_other q k d ms (apart q k h)

pub past_unless : (q k : List ℕ) (b : Bool) (d : Data) (ms : Members) → Apart q k → get_member q (unless b k d ms) ≡ get_member q ms
past_unless q k true d ms h = refl
past_unless q k false d ms h = past_put q k d ms h

pub past_true : (q k : List ℕ) (b : Bool) (ms : Members) → Apart q k → get_member q (where_true b k ms) ≡ get_member q ms
past_true q k true ms h = past_put q k (boolean true) ms h
past_true q k false ms h = refl

pub past_false : (q k : List ℕ) (b : Bool) (ms : Members) → Apart q k → get_member q (where_false b k ms) ≡ get_member q ms
past_false q k true ms h = refl
past_false q k false ms h = past_put q k (boolean false) ms h

pub past_mode : (q : List ℕ) (mode : Mode) (ms : Members) → Apart q (codes "mode") → get_member q (where_manual mode ms) ≡ get_member q ms
past_mode q Automatic ms h = refl
past_mode q Manual ms h = past_put q (codes "mode") (string (codes "Manual")) ms h

-- ---- what each is read as

pub true_read : (b : Bool) (k : List ℕ) (ms : Members) → get_member k ms ≡ None → found_or false as_bool (get_member k (where_true b k ms)) ≡ Some b
true_read true k ms none = rw (get_member-put k (boolean true) ms) refl
true_read false k ms none = rw none refl

pub false_read : (b : Bool) (k : List ℕ) (ms : Members) → get_member k ms ≡ None → found_or true as_bool (get_member k (where_false b k ms)) ≡ Some b
false_read true k ms none = rw none refl
false_read false k ms none = rw (get_member-put k (boolean false) ms) refl

pub number_read : (n : ℕ) (k : List ℕ) (ms : Members) → get_member k ms ≡ None → found_or 0 as_whole (get_member k (where_some_number n k ms)) ≡ Some n
number_read n k ms none = go (n == 0) refl
  where
    go : (b : Bool) → (n == 0) ≡ b → found_or 0 as_whole (get_member k (unless b k (whole_data n) ms)) ≡ Some n
    go true e = ap (found_or 0 as_whole) none ∙ ap Some (sym (eqb-true n 0 e))
    go false e = ap (found_or 0 as_whole) (get_member-put k (whole_data n) ms)

texts_after-texts : (there ts : List (List ℕ)) → texts_after there (items_of (map string ts)) ≡ Some (there ++ ts)
texts_after-texts there [] = rw (append-nil there) refl
texts_after-texts there (t ∷ ts) = texts_after-texts (there ++ t ∷ []) ts ∙ ap Some (append_assoc there (t ∷ []) ts)

pub texts_in-texts : (ts : List (List ℕ)) → texts_in (texts_data ts) ≡ Some ts
texts_in-texts ts = texts_after-texts [] ts

pub texts_read : (ts : List (List ℕ)) (k : List ℕ) (ms : Members) → get_member k ms ≡ None → found_or [] texts_in (get_member k (where_some_texts ts k ms)) ≡ Some ts
texts_read [] k ms none = ap (found_or [] texts_in) none
texts_read (t ∷ ts) k ms none = go (length (t ∷ ts) == 0) refl
  where
    go : (b : Bool) → (length (t ∷ ts) == 0) ≡ b → found_or [] texts_in (get_member k (unless b k (texts_data (t ∷ ts)) ms)) ≡ Some (t ∷ ts)
    go true e =
        let empty : length (t ∷ ts) ≡ 0 = eqb-true (length (t ∷ ts)) 0 e in absurd (omega (arith, empty))
    go false e =
        ap (found_or [] texts_in) (get_member-put k (texts_data (t ∷ ts)) ms) ∙ texts_in-texts (t ∷ ts)

pairs_after-fields : (there ps : List Pair) → pairs_after there (members_from (map pair_field ps)) ≡ Some (there ++ ps)
unfolding pair_field
pairs_after-fields there [] = rw (append-nil there) refl
pairs_after-fields there (p ∷ ps) = pairs_after-fields (there ++ p ∷ []) ps ∙ ap Some (append_assoc there (p ∷ []) ps)

pairs_in-pairs : (ps : List Pair) → keys_ascend ps ≡ true → pairs_in (pairs_data ps) ≡ Some ps
pairs_in-pairs ps up =
    ap (pairs_after []) (pairs_members ps up) ∙ pairs_after-fields [] ps

pub pairs_read : (ps : List Pair) (k : List ℕ) (ms : Members) → keys_ascend ps ≡ true → get_member k ms ≡ None → found_or [] pairs_in (get_member k (where_some_pairs ps k ms)) ≡ Some ps
pairs_read [] k ms up none = ap (found_or [] pairs_in) none
pairs_read (p ∷ ps) k ms up none = go (length (p ∷ ps) == 0) refl
  where
    go : (b : Bool) → (length (p ∷ ps) == 0) ≡ b → found_or [] pairs_in (get_member k (unless b k (pairs_data (p ∷ ps)) ms)) ≡ Some (p ∷ ps)
    go true e =
        let empty : length (p ∷ ps) ≡ 0 = eqb-true (length (p ∷ ps)) 0 e in absurd (omega (arith, empty))
    go false e =
        ap (found_or [] pairs_in) (get_member-put k (pairs_data (p ∷ ps)) ms) ∙ pairs_in-pairs (p ∷ ps) up

pub mode_read : (mode : Mode) (ms : Members) → get_member (codes "mode") ms ≡ None → found_or Automatic mode_in (get_member (codes "mode") (where_manual mode ms)) ≡ Some mode
mode_read Automatic ms none = ap (found_or Automatic mode_in) none
mode_read Manual ms none = ap (found_or Automatic mode_in) (get_member-put (codes "mode") (string (codes "Manual")) ms)

pub selector_read : (f : Formula) (ms : Members) → is_sound f ≡ true → get_member (codes "selector") ms ≡ None → found_or every selector_in (get_member (codes "selector") (where_selective f ms)) ≡ Some f
selector_read f ms sound none = go (is_every f) refl
  where
    go : (b : Bool) → is_every f ≡ b → found_or every selector_in (get_member (codes "selector") (unless b (codes "selector") (selector_data f) ms)) ≡ Some f
    go true e =
        ap (found_or every selector_in) none ∙ ap Some (ap (λ (b : Bool). if b then every else f) (sym e) ∙ every_or f)
    go false e =
        ap (found_or every selector_in) (get_member-put (codes "selector") (selector_data f) ms) ∙ selector_of-printed f sound

pub scope_read : (s : Option (List ℕ × List ℕ)) (ms : Members) → get_member (codes "scope") ms ≡ None → found_or None scope_in (get_member (codes "scope") (where_scope s ms)) ≡ Some s
unfolding named_scope
scope_read None ms none = ap (found_or None scope_in) none
scope_read (Some scope) ms none = ap (found_or None scope_in) (get_member-put (codes "scope") (scope_data scope) ms)

-- ---- addresses

pub address_read : (a : AddrValue) → IsAddress a → address_in (address_data a) ≡ Some a
address_read a h = address_of-address_text a h

addresses_after-addresses : (there all : List AddrValue) → AllByRecursion IsAddress all → addresses_after there (items_of (map address_data all)) ≡ Some (there ++ all)
addresses_after-addresses there [] h = rw (append-nil there) refl
addresses_after-addresses there (a ∷ all) h =
    ap (λ o. o >>= λ c. addresses_after (there ++ c ∷ []) (items_of (map address_data all))) (address_read a h.0)
    ∙ addresses_after-addresses (there ++ a ∷ []) all h.1
    ∙ ap Some (append_assoc there (a ∷ []) all)

pub addresses_read : (all : List AddrValue) → AllByRecursion IsAddress all → addresses_after [] (items_of (map address_data all)) ≡ Some all
addresses_read all h = addresses_after-addresses [] all h

-- ---- known members

pub known_put : (shape : Shape) (k : List ℕ) (d : Data) (ms : Members) → may_have shape k ≡ true → are_known shape ms ≡ true → are_known shape (put k d ms) ≡ true
known_put shape k d no_members h g = and_from (may_have shape k) true h refl
known_put shape k d (member l e ms) h g =
    at (slice_cmp nat_cmp k l) (and_parts (may_have shape l) (are_known shape ms) g) (known_put shape k d ms h)
  where
    at : (o : Ordering) → (may_have shape l ≡ true) × (are_known shape ms ≡ true) → (are_known shape ms ≡ true → are_known shape (put k d ms) ≡ true) → are_known shape (match_ordering o (member k d (member l e ms)) (member l d ms) (member l e (put k d ms))) ≡ true
    at Less parts later = and_from (may_have shape k) _ h (and_from (may_have shape l) _ parts.0 parts.1)
    at Equal parts later = and_from (may_have shape l) _ parts.0 parts.1
    at Greater parts later = and_from (may_have shape l) _ parts.0 (later parts.1)

pub known_unless : (shape : Shape) (b : Bool) (k : List ℕ) (d : Data) (ms : Members) → may_have shape k ≡ true → are_known shape ms ≡ true → are_known shape (unless b k d ms) ≡ true
known_unless shape true k d ms h g = g
known_unless shape false k d ms h g = known_put shape k d ms h g

pub known_true : (shape : Shape) (b : Bool) (k : List ℕ) (ms : Members) → may_have shape k ≡ true → are_known shape ms ≡ true → are_known shape (where_true b k ms) ≡ true
known_true shape true k ms h g = known_put shape k (boolean true) ms h g
known_true shape false k ms h g = g

pub known_false : (shape : Shape) (b : Bool) (k : List ℕ) (ms : Members) → may_have shape k ≡ true → are_known shape ms ≡ true → are_known shape (where_false b k ms) ≡ true
known_false shape true k ms h g = g
known_false shape false k ms h g = known_put shape k (boolean false) ms h g

pub known_mode : (shape : Shape) (mode : Mode) (ms : Members) → may_have shape (codes "mode") ≡ true → are_known shape ms ≡ true → are_known shape (where_manual mode ms) ≡ true
known_mode shape Automatic ms h g = g
known_mode shape Manual ms h g = known_put shape (codes "mode") (string (codes "Manual")) ms h g

pub known_scope : (shape : Shape) (s : Option (List ℕ × List ℕ)) (ms : Members) → may_have shape (codes "scope") ≡ true → are_known shape ms ≡ true → are_known shape (where_scope s ms) ≡ true
known_scope shape None ms h g = g
known_scope shape (Some scope) ms h g = known_put shape (codes "scope") (scope_data scope) ms h g
