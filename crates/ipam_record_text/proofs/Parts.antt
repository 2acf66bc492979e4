-- Names and CIDRs that are read of a text are sound, and are read of their own texts.
use Rattle.std.proofs.Common.{◌≡◌, ℕ, true, List, Some, Result, Ok, Err, refl, ap, ◌∙◌, le-leb}
use Rattle.std.proofs.lemmas.Bool.{leb-true}
use Rattle.std.proofs.lemmas.Option.{option_and_then_some, cond_some}
use Rattle.serde_json.specs.Data.{Data}
use Rattle.ipam_addr.specs.declared.cidrs.AddrFault.{AddrFault}
use Rattle.ipam_addr.specs.Shape.{CidrValue}
use Rattle.ipam_addr.specs.Text.{cidr_text_of}
use Rattle.ipam_addr.specs.Width.{IsCidr}
use Rattle.ipam_addr.specs.Names.{is_name_text, is_handle_text}
use Rattle.ipam_addr.proofs.CidrTextLemmas.{cidr_reading-cidr_text_of, spelled-cidr_reading}
use Rattle.ipam_block.specs.Sound.{IsBlockCidr}
use Rattle.ipam_record_text.specs.Blocks.{ok_cidr, cidr_of, block_cidr_of, name_read, id_of, cidr_at, block_cidr_at, name_at, id_at}
use Rattle.ipam_json.specs.Members.{text_at}
use Rattle.ipam_json.proofs.MemberLemmas.{then-is}

value_of-some : (r : Result CidrValue AddrFault) (c : CidrValue) → ok_cidr r ≡ Some c → r ≡ Ok c
value_of-some (Ok r) c e = cc
value_of-some (Err fault) c e = cc

pub cidr_of-is : (text : List ℕ) (r : CidrValue) → cidr_of text ≡ Some r → IsCidr r
unfolding cidr_of
cidr_of-is text r e = (spelled-cidr_reading text r (value_of-some _ r e)).sound

pub cidr_of-text : (r : CidrValue) → IsCidr r → cidr_of (cidr_text_of r) ≡ Some r
unfolding cidr_of
cidr_of-text r h = ap ok_cidr (cidr_reading-cidr_text_of r h)

pub block_of-is : (text : List ℕ) (r : CidrValue) → block_cidr_of text ≡ Some r → IsBlockCidr r
unfolding block_cidr_of
block_of-is text r e =
    option_and_then_some _ _ r e (λ c is_cidr e'.
    let (small, same) = cond_some _ c r e' in
    record {
      range = cidr_of-is text r (is_cidr ∙ ap Some same);
      small = rw (← same) (leb-true _ _ small);
    })

pub block_of-text : (r : CidrValue) → IsBlockCidr r → block_cidr_of (cidr_text_of r) ≡ Some r
unfolding block_cidr_of
block_of-text r h = rw (cidr_of-text r h.range, le-leb _ _ h.small) refl

pub name_of-is : (text name : List ℕ) → name_read text ≡ Some name → is_name_text name ≡ true
unfolding name_read
name_of-is text name e = let (is, same) = cond_some _ text name e in rw (← same) is

pub name_of-name : (name : List ℕ) → is_name_text name ≡ true → name_read name ≡ Some name
unfolding name_read
name_of-name name h = rw h refl

pub id_of-is : (text id : List ℕ) → id_of text ≡ Some id → is_handle_text id ≡ true
unfolding id_of
id_of-is text id e = let (is, same) = cond_some _ text id e in rw (← same) is

pub id_of-id : (id : List ℕ) → is_handle_text id ≡ true → id_of id ≡ Some id
unfolding id_of
id_of-id id h = rw h refl

-- ---- by name

pub cidr_at-is : (name : List ℕ) (d : Data) (r : CidrValue) → cidr_at name d ≡ Some r → IsCidr r
cidr_at-is name d r e = then-is cidr_of IsCidr cidr_of-is (text_at name d) r e

pub block_at-is : (name : List ℕ) (d : Data) (r : CidrValue) → block_cidr_at name d ≡ Some r → IsBlockCidr r
block_at-is name d r e = then-is block_cidr_of IsBlockCidr block_of-is (text_at name d) r e

pub name_at-is : (name : List ℕ) (d : Data) (found : List ℕ) → name_at name d ≡ Some found → is_name_text found ≡ true
name_at-is name d found e = then-is name_read (λ t. is_name_text t ≡ true) name_of-is (text_at name d) found e

pub id_at-is : (name : List ℕ) (d : Data) (found : List ℕ) → id_at name d ≡ Some found → is_handle_text found ≡ true
id_at-is name d found e = then-is id_of (λ t. is_handle_text t ≡ true) id_of-is (text_at name d) found e
