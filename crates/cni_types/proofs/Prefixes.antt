-- A text without a slash has no prefix.
use Rattle.std.proofs.Common.{◌≡◌, ℕ, ◌+◌, List, [], length, Option, Some, None, false, refl, ap, ◌∙◌, arith}
use Rattle.std.proofs.lemmas.List.{drop_all}
use Rattle.std.specs.List.{position_or_len, before_first, after_first}
use Rattle.ipam_addr.specs.Shape.{AddrValue}
use Rattle.ipam_addr.specs.Text.{is_slash, address_of, prefix_of, cidr_from_parts, cidr_reading}
use Rattle.cni_types.specs.Configuration.{has_prefix}

no_parts : (a : Option AddrValue) → has_prefix (cidr_from_parts a (prefix_of [])) ≡ false
unfolding prefix_of
no_parts None = refl
no_parts (Some a) = refl

pub has_prefix-no_slash : (text : List ℕ) → position_or_len is_slash text ≡ length text → has_prefix (cidr_reading text) ≡ false
unfolding cidr_reading
has_prefix-no_slash text e =
    let after : after_first is_slash text ≡ [] = drop_all (position_or_len is_slash text + 1) text (omega (arith, e)) in
    ap (λ digits. has_prefix (cidr_from_parts (address_of (before_first is_slash text)) (prefix_of digits))) after
    ∙ no_parts (address_of (before_first is_slash text))
