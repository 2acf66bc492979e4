-- What a value says of a block, where it can be read.
use Rattle.std.proofs.Common.{◌≡◌, ◌∙◌, ℕ, ◌≤◌, true, false, List, Some, Result, Ok, Err, refl, sym, ap, subst}
use Rattle.std.specs.Prelude.{codes, is_some, nat_le}
use Rattle.std.specs.List.{list_all}
use Rattle.std.proofs.lemmas.Option.{cond_some}
use Rattle.std.proofs.lemmas.Bool.{and_parts, leb-true}
use Rattle.serde_json.specs.Data.{Data, unsigned, negative, float, null, boolean, number, string, array, object, Members, no_members, member}
use Rattle.serde_json.specs.Written.{has_float, members_have_float}
use Rattle.ipam_addr.specs.Shape.{CidrValue}
use Rattle.ipam_addr.specs.Text.{cidr_reading}
use Rattle.ipam_addr.specs.Width.{IsCidr, cidr_size}
use Rattle.ipam_addr.specs.declared.cidrs.AddrFault.{AddrFault}
use Rattle.ipam_addr.proofs.CidrTextLemmas.{spelled-cidr_reading}
use Rattle.ipam_json.specs.Path.{as_whole}
use Rattle.ipam_json.specs.Built.{member_list}
use Rattle.ipam_block.specs.declared.limits.TheConstants.{ADDRESSES_MAX}
use Rattle.ipam_block_text.specs.declared.parts.Parts.{Parts}
use Rattle.ipam_block_text.specs.Reading.{node_in, places_in, all_attributes_in, small_cidr_in, small_cidr, sequence_in, queue_in, parts_in, is_stamp, are_stamps, stamps_in}
use Rattle.ipam_json.specs.Members.{text_at}
use Rattle.ipam_block_text.proofs.Options.{and_then_some, map_some, passed_some}

-- ---- the parts

pub record Says (d : Data) (p : Parts) : Type 0 where
  pub node : node_in d ≡ Some p.node
  pub places : places_in d ≡ Some p.places
  pub attributes : all_attributes_in d ≡ Some p.attributes
  pub cidr : small_cidr_in d ≡ Some p.cidr
  pub sequence : sequence_in d ≡ Some p.sequence
  pub queue : queue_in d ≡ Some p.queue

pub parts_said : (d : Data) (p : Parts) → parts_in d ≡ Some p → Says d p
unfolding parts_in
parts_said d p e =
    let a = and_then_some _ (node_in d) p e in
    let b = and_then_some _ (places_in d) p a.2 in
    let f = and_then_some _ (all_attributes_in d) p b.2 in
    let g = and_then_some _ (small_cidr_in d) p f.2 in
    let h = and_then_some _ (sequence_in d) p g.2 in
    let k = map_some _ (queue_in d) p h.2 in
    record {
      node = a.1 ∙ ap (λ q. Some q.node) k.2;
      places = b.1 ∙ ap (λ q. Some q.places) k.2;
      attributes = f.1 ∙ ap (λ q. Some q.attributes) k.2;
      cidr = g.1 ∙ ap (λ q. Some q.cidr) k.2;
      sequence = h.1 ∙ ap (λ q. Some q.sequence) k.2;
      queue = k.1 ∙ ap (λ q. Some q.queue) k.2;
    }

small_some : (text : List ℕ) (o : Result CidrValue AddrFault) (r : CidrValue) → cidr_reading text ≡ o → small_cidr o ≡ Some r → IsCidr r × (cidr_size r ≤ ADDRESSES_MAX)
small_some text (Err fault) r e h = absurd cc
small_some text (Ok q) r e h =
    let parts = cond_some (nat_le (cidr_size q) ADDRESSES_MAX) q r h in
    let spelled = spelled-cidr_reading text q e in
    let P : CidrValue → Type 0 = λ x. IsCidr x × (cidr_size x ≤ ADDRESSES_MAX) in
    subst P parts.1 (spelled.sound, leb-true _ _ parts.0)

pub cidr_sound : (d : Data) (r : CidrValue) → small_cidr_in d ≡ Some r → IsCidr r × (cidr_size r ≤ ADDRESSES_MAX)
unfolding small_cidr_in
cidr_sound d r e =
    let read = and_then_some (λ text. small_cidr (cidr_reading text)) (text_at (codes "cidr") d) r e in
    small_some read.0 (cidr_reading read.0) r refl read.2

pub small_said : (d : Data) (p : Parts) → parts_in d ≡ Some p → cidr_size p.cidr ≤ ADDRESSES_MAX
small_said d p e = (cidr_sound d p.cidr (parts_said d p e).cidr).1

-- ---- the stamps

whole_without : (d : Data) → is_some (as_whole d) ≡ true → has_float d ≡ false
whole_without null h = refl
whole_without (boolean b) h = refl
whole_without (number (unsigned n)) h = refl
whole_without (number (negative z)) h = refl
whole_without (number (float x)) h = absurd cc
whole_without (string s) h = refl
whole_without (array ds) h = absurd cc
whole_without (object ms) h = absurd cc

members_without : (ms : Members) → list_all is_stamp (member_list ms) ≡ true → members_have_float ms ≡ false
members_without no_members h = refl
members_without (member k d ms) h =
    let parts = and_parts (is_stamp (k, d)) (list_all is_stamp (member_list ms)) h in
    let here = and_parts _ (is_some (as_whole d)) parts.0 in
    rw (whole_without d here.1) (members_without ms parts.1)

pub stamps_without : (s : Data) → are_stamps s ≡ true → has_float s ≡ false
stamps_without null h = refl
stamps_without (boolean b) h = refl
stamps_without (number n) h = absurd cc
stamps_without (string s) h = refl
stamps_without (array ds) h = absurd cc
stamps_without (object ms) h = members_without ms h

pub stamps_said : (d s : Data) → stamps_in d ≡ Some s → are_stamps s ≡ true
unfolding stamps_in
stamps_said d s e = (passed_some are_stamps _ s e).1

pub said_without : (d s : Data) → Some s ≡ stamps_in d → has_float s ≡ false
said_without d s e = stamps_without s (stamps_said d s (sym e))
