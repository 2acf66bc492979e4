-- What is read of values has its form.
use Rattle.std.proofs.Common.{◌≡◌, ℕ, ◌^◌, ◌<◌, ◌==◌, List, [], ◌∷◌, ◌++◌, length, true, Option, Some, None, option_map, refl, arith, ltb-true}
use Rattle.std.specs.Option.{option_or}
use Rattle.std.specs.List.{AllByRecursion}
use Rattle.std.specs.Str.{IsUtf8, is_utf8}
use Rattle.std.proofs.Math.Nat.{mod-one}
use Rattle.std.proofs.lemmas.Bool.{cases_Bool}
use Rattle.std.proofs.lemmas.Bool.Decides.{nat_tests}
use Rattle.std.proofs.Common.{inl, inr}
use Rattle.std.proofs.lemmas.Option.{option_and_then_some, cond_some}
use Rattle.std.proofs.lemmas.Str.{IsUtf8-from_is_utf8, is_utf8-from_IsUtf8}
use Rattle.serde_json.specs.Data.{Data, Items, no_items, item}
use Rattle.serde_json.specs.Find.{as_str, as_array}
use Rattle.serde_json.specs.Read.{read}
use Rattle.serde_json.specs.View.{items_view}
use Rattle.serde_json.specs.declared.value.Value.{Value}
use Rattle.ipam_json.specs.Path.{as_whole}
use Rattle.ipam_addr.specs.declared.address.Family.{Family}
use Rattle.ipam_addr.specs.declared.address.Family.TheVariants.{V4, V6}
use Rattle.ipam_addr.specs.Shape.{AddrValue, CidrValue}
use Rattle.ipam_addr.specs.Names.{is_name_text}
use Rattle.ipam_addr.specs.Text.{address_of}
use Rattle.ipam_addr.specs.Width.{width, address_count, IsAddress, IsCidr}
use Rattle.ipam_addr.proofs.SpelledLemmas.{IsAddress-spelled}
use Rattle.ipam_addr.proofs.TextLemmas.{spelled-address_of}
use Rattle.ipam_select.specs.Formula.{Formula}
use Rattle.ipam_select.specs.Sound.{is_sound}
use Rattle.ipam_json.specs.Members.{◌>>=◌, in_32_bits}
use Rattle.ipam_record_text.specs.Blocks.{cidr_of, name_read}
use Rattle.ipam_record_text.specs.Rules.{selector_of}
use Rattle.ipam_json.proofs.MemberLemmas.{then-is, in_32_bits-is}
use Rattle.ipam_record_text.proofs.Parts.{cidr_of-is, name_of-is}
use Rattle.ipam_record_text.proofs.RuleLemmas.{selector_of-is}
use Rattle.ipam_resources.specs.Documents.{json_of}
use Rattle.ipam_resources.specs.Values.{name_in, size_in, bound_in, selector_value_in, has_no_items, cidr_of_address, range_of, range_in, ranges_after, ranges_in}

pub is_empty_view : (vs : List Value) → has_no_items (items_view vs) ≡ (length vs == 0)
is_empty_view [] = refl
is_empty_view (v ∷ vs) = grind (arith, nat_tests)

pub json_of_text : (bytes : List ℕ) → IsUtf8 bytes → json_of bytes ≡ read bytes
unfolding json_of
json_of_text bytes h = rw (is_utf8-from_IsUtf8 bytes h) refl

pub text_is_utf8 : (bytes : List ℕ) → IsUtf8 bytes → is_utf8 bytes ≡ true
text_is_utf8 bytes h = is_utf8-from_IsUtf8 bytes h

pub json_of_bytes : (bytes : List ℕ) → ¬ (IsUtf8 bytes) → json_of bytes ≡ None
unfolding json_of
json_of_bytes bytes h = elim (cases_Bool (is_utf8 bytes)) [
  | inl is ↦ absurd (h (IsUtf8-from_is_utf8 bytes is))
  | inr other ↦ rw other refl
]

pub name_in-is : (d : Data) (name : List ℕ) → name_in d ≡ Some name → is_name_text name ≡ true
unfolding name_in
name_in-is d name e = then-is name_read (λ t. is_name_text t ≡ true) name_of-is (as_str d) name e

pub size_in-is : (d : Data) (n : ℕ) → size_in d ≡ Some n → n < 2 ^ 8
unfolding size_in
size_in-is d n e =
    option_and_then_some _ (as_whole d) n e (λ k found e'.
    let (small, same) = cond_some _ k n e' in
    rw (← same) (ltb-true _ _ small))

pub bound_in-is : (d : Data) (n : ℕ) → bound_in d ≡ Some n → n < 2 ^ 32
unfolding bound_in
bound_in-is d n e = then-is in_32_bits (λ k. k < 2 ^ 32) in_32_bits-is (as_whole d) n e

pub selector_in-is : (d : Data) (f : Formula) → selector_value_in d ≡ Some f → is_sound f ≡ true
unfolding selector_value_in
selector_in-is d f e = then-is selector_of (λ g. is_sound g ≡ true) selector_of-is (as_str d) f e

-- ---- ranges

address_alone : (family : Family) (n : ℕ) → n < address_count family → IsCidr (record { family = family; base = n; prefix = width family })
address_alone V4 n h = record { prefix_fits = omega arith; base_fits = h; no_host_bits = mod-one n }
address_alone V6 n h = record { prefix_fits = omega arith; base_fits = h; no_host_bits = mod-one n }

address_of-is : (text : List ℕ) (a : AddrValue) → address_of text ≡ Some a → IsAddress a
address_of-is text a e = IsAddress-spelled text a (spelled-address_of text a e)

range_of-is : (text : List ℕ) (r : CidrValue) → range_of text ≡ Some r → IsCidr r
unfolding range_of
range_of-is text r e = go (cidr_of text) (address_of text) refl refl e
  where
    go : (c : Option CidrValue) (a : Option AddrValue) → cidr_of text ≡ c → address_of text ≡ a → option_or c (option_map cidr_of_address a) ≡ Some r → IsCidr r
    go (Some c) a is_c is_a e' = let same : c ≡ r = cc in rw (← same) (cidr_of-is text c is_c)
    go None (Some a) is_c is_a e' =
        let same : cidr_of_address a ≡ r = cc in
        rw (← same) (address_alone a.family a.number (address_of-is text a is_a))
    go None None is_c is_a e' = cc

range_in-is : (d : Data) (r : CidrValue) → range_in d ≡ Some r → IsCidr r
unfolding range_in
range_in-is d r e = then-is range_of IsCidr range_of-is (as_str d) r e

push_range : (ranges : List CidrValue) (r : CidrValue) → AllByRecursion IsCidr ranges → IsCidr r → AllByRecursion IsCidr (ranges ++ r ∷ [])
push_range [] r h k = (k, tt)
push_range (q ∷ ranges) r h k = (h.0, push_range ranges r h.1 k)

ranges_after-is : (there : List CidrValue) (ds : Items) (ranges : List CidrValue) → ranges_after there ds ≡ Some ranges → AllByRecursion IsCidr there → AllByRecursion IsCidr ranges
ranges_after-is there no_items ranges e h = let same : there ≡ ranges = cc in rw (← same) h
ranges_after-is there (item d ds) ranges e h =
    next (range_in d) refl e (λ r k e'. ranges_after-is (there ++ r ∷ []) ds ranges e' k)
  where
    next : (found : Option CidrValue) → range_in d ≡ found → (found >>= λ r. ranges_after (there ++ r ∷ []) ds) ≡ Some ranges → ((r : CidrValue) → AllByRecursion IsCidr (there ++ r ∷ []) → ranges_after (there ++ r ∷ []) ds ≡ Some ranges → AllByRecursion IsCidr ranges) → AllByRecursion IsCidr ranges
    next (Some r) is e' more = more r (push_range there r h (range_in-is d r is)) e'
    next None is e' more = cc

pub ranges_in-is : (d : Data) (ranges : List CidrValue) → ranges_in d ≡ Some ranges → AllByRecursion IsCidr ranges
unfolding ranges_in
ranges_in-is d ranges e = then-is (ranges_after []) (AllByRecursion IsCidr) (λ ds found e'. ranges_after-is [] ds found e' tt) (as_array d) ranges e
