-- The text of a block is put together of its pieces.
use Rattle.std.proofs.Common.{◌≡◌, ◌∙◌, ℕ, List, [], ◌∷◌, ◌++◌, Bool, true, ◌<◌, ◌≤◌, ◌+◌, ◌%◌, ◌^◌, length, get_or, drop, Option, Ok, Err, refl, ap, ap₂, sym, append_assoc, arith, codes, decimal, map}
use Rattle.std.proofs.lemmas.Fmt.{decimal_by_steps}
use Rattle.json.specs.Print.{escape, escape_byte, quoted}
use Rattle.json.proofs.Printed.Strings.{escape_byte_plain}
use Rattle.serde_json.specs.Data.{Data, string}
use Rattle.ipam_addr.specs.Text.{cidr_text_of}
use Rattle.serde_json.specs.View.{items_of}
use Rattle.std.proofs.lemmas.List.{at_drop_more, drop_all}
use Rattle.serde_json.specs.Written.{compact_text, comma_if, items_text, members_text}
use Rattle.ipam_json.specs.Built.{Field, array_of, members_from}
use Rattle.std.specs.Borrow.{Bor}
use Rattle.std.specs.Prelude.{OnOk, Result}
use Rattle.std.proofs.lemmas.Grind.{flat_map-append}
use Rattle.ipam_addr.specs.Shape.{CidrValue}
use Rattle.ipam_block.specs.declared.allocation.Attributes.{Attributes}
use Rattle.ipam_block_text.specs.declared.parts.Parts.{Parts}
use Rattle.ipam_block_text.specs.Body.{host_data, place_data, attributes_data, secondary_data, parts_data}
use Rattle.ipam_block_text.specs.Numbering.{borrowed}
use Rattle.ipam_block_text.specs.Pieces.{holders_text, sequence_text, queue_text, rest_text}

-- ---- texts that are appended

-- what follows from a success
pub on_ok : {T E P Q : Type 0} (r : Result T E) → OnOk r P → (P → Q) → OnOk r Q
on_ok (Ok v) p f = f p
on_ok (Err e) p f = tt

pub then_more : (out mid after text rest : List ℕ) → mid ≡ out ++ text → after ≡ mid ++ rest → after ≡ out ++ (text ++ rest)
then_more out mid after text rest first second =
    second ∙ ap (λ s. s ++ rest) first ∙ append_assoc out text rest

-- ---- the pieces of a block's text

regroup : (a b c d e f r : List ℕ) → a ++ (b ++ (c ++ (d ++ (e ++ (f ++ r))))) ≡ (a ++ (b ++ (c ++ (d ++ (e ++ f))))) ++ r
regroup a b c d e f r = simp append_assoc

-- the text of the parts and the stamps, piece by piece
text_of_parts : (p : Parts) (stamps : Data) → compact_text (parts_data p stamps)
    ≡ holders_text p.node p.places p.attributes ++ (codes ",\"cidr\":" ++ (compact_text (string (cidr_text_of p.cidr)) ++ rest_text p.sequence (compact_text stamps) p.queue))
unfolding parts_data escape_byte
text_of_parts p stamps =
    regroup (codes "{\"affinity\":") (compact_text (host_data p.node)) (codes ",\"allocations\":")
    (compact_text (array_of (map place_data p.places))) (codes ",\"attributes\":")
    (compact_text (array_of (map attributes_data p.attributes)))
    (codes ",\"cidr\":" ++ (compact_text (string (cidr_text_of p.cidr)) ++ rest_text p.sequence (compact_text stamps) p.queue))

-- what is written one after the other
pub parts_written : (p : Parts) (stamps : Data) (o0 o1 o2 o3 : List ℕ) (node : Option (List ℕ)) (places : List (Option ℕ)) (attributes : List Attributes) (cidr : CidrValue) (sequence : ℕ) (shown queue : List ℕ)
    → o0 ≡ [] → node ≡ p.node → places ≡ p.places → attributes ≡ p.attributes → cidr ≡ p.cidr → sequence ≡ p.sequence → shown ≡ compact_text stamps → queue ≡ p.queue
    → o1 ≡ o0 ++ holders_text node places attributes
    → o2 ≡ o1 ++ (codes ",\"cidr\":" ++ compact_text (string (cidr_text_of cidr)))
    → o3 ≡ o2 ++ rest_text sequence shown queue
    → o3 ≡ compact_text (parts_data p stamps)
parts_written p stamps o0 o1 o2 o3 node places attributes cidr sequence shown queue empty n l a r s t q first second third =
    let name = codes ",\"cidr\":" in
    let said = compact_text (string (cidr_text_of p.cidr)) in
    let front = holders_text p.node p.places p.attributes in
    let rest = rest_text p.sequence (compact_text stamps) p.queue in
    let is_front = ap (λ x. holders_text x places attributes) n ∙ ap (λ x. holders_text p.node x attributes) l ∙ ap (holders_text p.node p.places) a in
    let is_rest = ap (λ x. rest_text x shown queue) s ∙ ap (λ x. rest_text p.sequence x queue) t ∙ ap (rest_text p.sequence (compact_text stamps)) q in
    let to_1 = first ∙ ap₂ (λ x y. x ++ y) empty is_front in
    let to_2 = second ∙ ap₂ (λ x y. x ++ (name ++ compact_text (string (cidr_text_of y)))) to_1 r in
    third
    ∙ ap₂ (λ x y. x ++ y) to_2 is_rest
    ∙ append_assoc front (name ++ said) rest
    ∙ ap (λ x. front ++ x) (append_assoc name said rest)
    ∙ sym (text_of_parts p stamps)

-- the last members, piece by piece
pub rest_written : (o0 o1 o2 o3 : List ℕ) (sequence : ℕ) (stamps queue : List ℕ)
    → o1 ≡ o0 ++ sequence_text sequence → o2 ≡ o1 ++ stamps → o3 ≡ o2 ++ queue_text queue → o3 ≡ o0 ++ rest_text sequence stamps queue
rest_written o0 o1 o2 o3 sequence stamps queue first second third =
    let name = codes ",\"sequenceNumber\":" in
    let next = codes ",\"sequenceNumberForAllocation\":" in
    let rest = stamps ++ queue_text queue in
    then_more o0 o1 o3 (sequence_text sequence) rest first (then_more o1 o2 o3 stamps (queue_text queue) second third)
    ∙ ap (λ x. o0 ++ x) (append_assoc name (decimal sequence ++ next) rest ∙ ap (λ x. name ++ x) (append_assoc (decimal sequence) next rest))

-- the text of attributes, piece by piece
pub attributes_text : (a : Attributes) → compact_text (attributes_data a)
    ≡ codes "{\"handle_id\":" ++ (quoted a.handle ++ (codes ",\"secondary\":" ++ (compact_text (secondary_data a.secondary) ++ codes "}")))
unfolding escape_byte
attributes_text a = refl

pub data_of_borrowed : (found : List (Bor Attributes)) → map (λ a. attributes_data a.now) found ≡ map attributes_data (borrowed found)
data_of_borrowed [] = refl
data_of_borrowed (a ∷ rest) = ap (λ ds. attributes_data a.now ∷ ds) (data_of_borrowed rest)

-- ---- a plain text

pub plain_more : (front after : List ℕ) (x : ℕ) → after ≡ front ++ x ∷ [] → escape_byte x ≡ x ∷ [] → escape front ≡ front → escape after ≡ after
plain_more front after x more is before =
    ap escape more
    ∙ flat_map-append escape_byte front (x ∷ [])
    ∙ ap (λ s. s ++ (escape_byte x ++ [])) before
    ∙ ap (λ s. front ++ (s ++ [])) is
    ∙ sym more

-- ---- a list is written item by item

module _ {A : Type 0} (f : A → Data) where
  -- the text of the items that are left, with the closing bracket
  abbrev pub left_text : Bool → List A → List ℕ
  left_text later xs = items_text later (items_of (map f xs))

  split : (out comma item rest : List ℕ) → ((out ++ comma) ++ item) ++ rest ≡ out ++ (comma ++ (item ++ rest))
  split out comma item rest = simp append_assoc

  pub item_written : (out mid after whole : List ℕ) (later : Bool) (xs : List A) (i : ℕ) (d : A)
      → i < length xs → mid ≡ out ++ comma_if later → after ≡ mid ++ compact_text (f (get_or xs i d))
      → out ++ left_text later (drop i xs) ≡ whole → after ++ left_text true (drop (i + 1) xs) ≡ whole
  item_written out mid after whole later xs i d within comma item before =
      ap (λ s. s ++ left_text true (drop (i + 1) xs)) (item ∙ ap (λ s. s ++ compact_text (f (get_or xs i d))) comma)
      ∙ split out (comma_if later) (compact_text (f (get_or xs i d))) (left_text true (drop (i + 1) xs))
      ∙ sym (ap (λ s. out ++ s) (at_drop_more (left_text later) xs i d within))
      ∙ before

  pub list_ended : (out after whole : List ℕ) (later : Bool) (xs : List A) (i : ℕ)
      → length xs ≤ i → out ++ left_text later (drop i xs) ≡ whole → after ≡ out ++ 93 ∷ [] → after ≡ whole
  list_ended out after whole later xs i past before closed =
      closed ∙ sym (ap (λ ys. out ++ left_text later ys) (drop_all i xs past)) ∙ before

-- ---- members are written one by one

member_split : (out comma key value rest : List ℕ) → (out ++ (comma ++ (key ++ 58 ∷ value))) ++ rest ≡ out ++ (comma ++ (key ++ 58 ∷ (value ++ rest)))
member_split out comma key value rest =
    append_assoc out (comma ++ (key ++ 58 ∷ value)) rest
    ∙ ap (λ s. out ++ s) (append_assoc comma (key ++ 58 ∷ value) rest ∙ ap (λ s. comma ++ s) (append_assoc key (58 ∷ value) rest))

module _ {A : Type 0} (field : A → Field) where
  -- the text of the members that are left, with the closing brace
  abbrev pub left_members : Bool → List A → List ℕ
  left_members later xs = members_text later (members_from (map field xs))

  pub member_written : (out after whole : List ℕ) (later : Bool) (xs : List A) (i : ℕ) (d : A)
      → i < length xs → after ≡ out ++ (comma_if later ++ (quoted (field (get_or xs i d)).0 ++ 58 ∷ compact_text (field (get_or xs i d)).1))
      → out ++ left_members later (drop i xs) ≡ whole → after ++ left_members true (drop (i + 1) xs) ≡ whole
  member_written out after whole later xs i d within more before =
      let rest = left_members true (drop (i + 1) xs) in
      ap (λ s. s ++ rest) more
      ∙ member_split out (comma_if later) (quoted (field (get_or xs i d)).0) (compact_text (field (get_or xs i d)).1) rest
      ∙ sym (ap (λ s. out ++ s) (at_drop_more (left_members later) xs i d within))
      ∙ before

  pub members_ended : (out after whole : List ℕ) (later : Bool) (xs : List A) (i : ℕ)
      → length xs ≤ i → out ++ left_members later (drop i xs) ≡ whole → after ≡ out ++ 125 ∷ [] → after ≡ whole
  members_ended out after whole later xs i past before closed =
      closed ∙ sym (ap (λ ys. out ++ left_members later ys) (drop_all i xs past)) ∙ before

-- ---- the name of a stamp has no escape

plain_digit : (d : ℕ) → d < 10 → escape_byte (48 + d) ≡ (48 + d) ∷ []
plain_digit d small = escape_byte_plain (48 + d) (λ e. omega arith) (λ e. omega arith) (omega arith)

escape_decimal : (n : ℕ) → n < 2 ^ 64 → escape (decimal n) ≡ decimal n
escape_decimal =
    decimal_by_steps (λ n ds. escape ds ≡ ds)
    (λ n small. ap (λ s. s ++ []) (plain_digit n small))
    (λ n ds large same. flat_map-append escape_byte ds ((48 + n % 10) ∷ []) ∙ ap₂ (λ s t. s ++ (t ++ [])) same (plain_digit (n % 10) (omega arith)))

pub stamp_text : (o s : ℕ) → o < 2 ^ 64 → 34 ∷ (decimal o ++ 34 ∷ 58 ∷ decimal s) ≡ quoted (decimal o) ++ 58 ∷ decimal s
stamp_text o s fits =
    ap (λ x. 34 ∷ x) (sym (append_assoc (decimal o) (34 ∷ []) (58 ∷ decimal s)) ∙ ap (λ e. (e ++ 34 ∷ []) ++ 58 ∷ decimal s) (sym (escape_decimal o fits)))
