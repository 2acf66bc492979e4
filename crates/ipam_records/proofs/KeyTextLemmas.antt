-- A sound key's text is read back, and what is read has the text.
use Rattle.std.proofs.Common.{◌≡◌, ℕ, ◌+◌, ◌<◌, ◌≤◌, true, false, List, [], ◌∷◌, ◌++◌, length, take, drop, codes, bytes_eq, Option, Some, None, option_map, Result, Ok, Err, IfOk, decimal, ◌↔◌, refl, sym, ap, ◌∙◌, subst, arith, inl, inr, length-append, lt-ltb, nat_lt}
use Rattle.std.proofs.lemmas.Bool.{cases_Bool, cases_lt, cond-true}
use Rattle.std.proofs.lemmas.List.{take-append-drop, drop_all}
use Rattle.std.proofs.lemmas.Option.{cond_some, none-some}
use Rattle.std.proofs.lemmas.Slice.Eq.{bytes_eq-Decides}
use Rattle.std.specs.Cmp.Lexicographic.{nat_list_eq_equiv}
use Rattle.std.specs.List.{before_first, after_first, position, position_or_len}
use Rattle.ipam_addr.specs.declared.cidrs.AddrFault.{AddrFault}
use Rattle.ipam_addr.specs.Shape.{CidrValue}
use Rattle.ipam_addr.specs.Width.{IsCidr}
use Rattle.ipam_addr.specs.Names.{is_name_text, is_handle_text}
use Rattle.ipam_addr.specs.Holding.{first_address}
use Rattle.ipam_addr.specs.Text.{is_slash, address_text, cidr_reading, cidr_text_of}
use Rattle.ipam_addr.proofs.CidrTextLemmas.{cidr_reading-cidr_text_of, spelled-cidr_reading, cidr_reading-no_slash}
use Rattle.ipam_records.specs.declared.key.Key.{Key}
use Rattle.ipam_records.specs.declared.key.Key.TheVariants.{Config, Pools, Reservations, Block, Affinity, Handle}
use Rattle.ipam_records.specs.KeyText.{key_bytes, IsKey, IsTextOf, cidr_printed, cidr_read, block_read, affinity_of_parts, affinity_read, handle_read, text_behind, key_of_kind, key_read}
use Rattle.ipam_addr.proofs.SlashLemmas.{NoSlash-name, before_slash, after_slash, around_slash}

text_is : (xs ys : List ℕ) → bytes_eq xs ys ≡ true → xs ≡ ys
text_is xs ys e = (bytes_eq-Decides xs ys).0 e

-- ---- a CIDR in its printed spelling
pub cidr_read-cidr_text_of : (r : CidrValue) → IsCidr r → cidr_read (cidr_text_of r) ≡ Some r
cidr_read-cidr_text_of r h = rw (cidr_reading-cidr_text_of r h, nat_list_eq_equiv.refl (cidr_text_of r)) refl

pub cidr_text_of-cidr_read : (text : List ℕ) (r : CidrValue) → cidr_read text ≡ Some r → IsCidr r × (cidr_text_of r ≡ text)
cidr_text_of-cidr_read text r e = from (cidr_reading text) refl e
  where
    from : (o : Result CidrValue AddrFault) → cidr_reading text ≡ o → cidr_printed text o ≡ Some r → IsCidr r × (cidr_text_of r ≡ text)
    from (Ok s) read found =
        let (test, same) = cond_some (bytes_eq (cidr_text_of s) text) s r found in
        (subst (λ (x : CidrValue). IsCidr x) same (spelled-cidr_reading text s read).sound, ap cidr_text_of (sym same) ∙ text_is (cidr_text_of s) text test)
    from (Err fault) read found = cc

-- ---- what stands after a beginning
pub behind_text : (start text rest : List ℕ) → bytes_eq (take (length start) text) start ≡ true → rest ≡ drop (length start) text → text ≡ start ++ rest
behind_text start text rest test same = sym (take-append-drop (length start) text) ∙ (λ i. text_is (take (length start) text) start test i ++ sym same i)

-- ---- a key's text is read back
pub key_read-config : key_read (codes "config") ≡ Some Config
unfolding key_read
key_read-config = refl

pub key_read-pools : key_read (codes "pools") ≡ Some Pools
unfolding key_read
key_read-pools = refl

pub key_read-reservations : key_read (codes "reservations") ≡ Some Reservations
unfolding key_read
key_read-reservations = refl

pub key_read-block : (rest : List ℕ) → key_read (codes "block/" ++ rest) ≡ block_read rest
unfolding key_read
key_read-block rest = refl

pub key_read-affinity : (rest : List ℕ) → key_read (codes "affinity/" ++ rest) ≡ affinity_read rest
unfolding key_read
key_read-affinity rest = refl

pub key_read-handle : (rest : List ℕ) → key_read (codes "handle/" ++ rest) ≡ handle_read rest
unfolding key_read
key_read-handle rest = refl

-- the text of no single record's key
pub key_read-kind : (text : List ℕ) → bytes_eq text (codes "config") ≡ false → bytes_eq text (codes "pools") ≡ false → bytes_eq text (codes "reservations") ≡ false → key_read text ≡ key_of_kind (text_behind (codes "block/") text) (text_behind (codes "affinity/") text) (text_behind (codes "handle/") text)
unfolding key_read
key_read-kind text a b c = rw (a, b, c) refl

pub affinity_read-parts : (node block : List ℕ) → is_name_text node ≡ true → affinity_read (node ++ (codes "/" ++ block)) ≡ affinity_of_parts node block
affinity_read-parts node block name =
    let none = NoSlash-name 253 node name in
    rw (before_slash node block none, after_slash node block none) refl

pub key_read-key_bytes : (key : Key) → IsKey key → key_read (key_bytes key) ≡ Some key
key_read-key_bytes Config h = key_read-config
key_read-key_bytes Pools h = key_read-pools
key_read-key_bytes Reservations h = key_read-reservations
key_read-key_bytes (Block cidr) h = key_read-block (cidr_text_of cidr) ∙ ap (option_map Block) (cidr_read-cidr_text_of cidr h)
key_read-key_bytes (Affinity node cidr) h =
    key_read-affinity (node ++ (codes "/" ++ cidr_text_of cidr))
    ∙ (affinity_read-parts node (cidr_text_of cidr) h.0
    ∙ (rw (h.0, cidr_read-cidr_text_of cidr h.1) refl))
key_read-key_bytes (Handle id) h = key_read-handle id ∙ (rw h refl)

-- sound keys have texts of their own
pub key_bytes_injective : (key other : Key) → IsKey key → IsKey other → key_bytes key ≡ key_bytes other → key ≡ other
key_bytes_injective key other h g same =
    let read : ◌≡◌ {A = Option Key} (Some key) (Some other) = sym (key_read-key_bytes key h) ∙ ap key_read same ∙ key_read-key_bytes other g in
    cc

-- ---- what is read has the text
exactly : (text : List ℕ) (one key : Key) → IsKey one → text ≡ key_bytes one → ◌≡◌ {A = Option Key} (Some one) (Some key) → IsTextOf text key
exactly text one key sound spelled e =
    let same : one ≡ key = cc in
    subst (λ (k : Key). IsTextOf text k) same (record { sound = sound; spelled = sym spelled })

cidr_text_some : (r : CidrValue) → 0 < length (cidr_text_of r)
unfolding cidr_text_of
cidr_text_some r = omega (arith, length-append (address_text (first_address r) ++ codes "/") (decimal r.prefix), length-append (address_text (first_address r)) (codes "/"))

block_text : (text rest : List ℕ) (key : Key) → text ≡ codes "block/" ++ rest → block_read rest ≡ Some key → IsTextOf text key
block_text text rest key split e = from (cidr_read rest) refl e
  where
    from : (o : Option CidrValue) → cidr_read rest ≡ o → option_map Block o ≡ Some key → IsTextOf text key
    from (Some r) read found =
        let (sound, printed) = cidr_text_of-cidr_read rest r read in
        exactly text (Block r) key sound (split ∙ ap (λ t. codes "block/" ++ t) (sym printed)) found
    from None read found = cc

affinity_text : (text rest : List ℕ) (key : Key) → text ≡ codes "affinity/" ++ rest → affinity_read rest ≡ Some key → IsTextOf text key
affinity_text text rest key split e = elim (cases_Bool (is_name_text (before_first is_slash rest))) [
  | inl name ↦ let k = rw name at e in from name (cidr_read (after_first is_slash rest)) refl k
  | inr no_name ↦ let k = rw no_name at e in cc
]
  where
    from : is_name_text (before_first is_slash rest) ≡ true → (o : Option CidrValue) → cidr_read (after_first is_slash rest) ≡ o → option_map (Affinity (before_first is_slash rest)) o ≡ Some key → IsTextOf text key
    from name (Some r) read found =
        let (sound, printed) = cidr_text_of-cidr_read (after_first is_slash rest) r read in
        let some : 0 < length (after_first is_slash rest) = omega (arith, cidr_text_some r, ap length printed) in
        let whole = around_slash rest some in
        exactly text (Affinity (before_first is_slash rest) r) key (name, sound)
        (split ∙ ap (λ t. codes "affinity/" ++ t) (whole ∙ ap (λ t. before_first is_slash rest ++ 47 ∷ t) (sym printed))) found
    from name None read found = cc

handle_text : (text rest : List ℕ) (key : Key) → text ≡ codes "handle/" ++ rest → handle_read rest ≡ Some key → IsTextOf text key
handle_text text rest key split e = elim (cases_Bool (is_handle_text rest)) [
  | inl id ↦ let k = rw id at e in exactly text (Handle rest) key id split k
  | inr no_id ↦ let k = rw no_id at e in cc
]

kind_text : (text : List ℕ) (key : Key) → key_of_kind (text_behind (codes "block/") text) (text_behind (codes "affinity/") text) (text_behind (codes "handle/") text) ≡ Some key → IsTextOf text key
kind_text text key e = elim (cases_Bool (bytes_eq (take (length (codes "block/")) text) (codes "block/"))) [
  | inl block ↦ let k = rw block at e in block_text text (drop (length (codes "block/")) text) key (behind_text (codes "block/") text _ block refl) k
  | inr no_block ↦ elim (cases_Bool (bytes_eq (take (length (codes "affinity/")) text) (codes "affinity/"))) [
    | inl affinity ↦ let k = rw (no_block, affinity) at e in affinity_text text (drop (length (codes "affinity/")) text) key (behind_text (codes "affinity/") text _ affinity refl) k
    | inr no_affinity ↦ elim (cases_Bool (bytes_eq (take (length (codes "handle/")) text) (codes "handle/"))) [
      | inl handle ↦ let k = rw (no_block, no_affinity, handle) at e in handle_text text (drop (length (codes "handle/")) text) key (behind_text (codes "handle/") text _ handle refl) k
      | inr no_handle ↦ let k = rw (no_block, no_affinity, no_handle) at e in cc
    ]
  ]
]

pub IsTextOf-key_read : (text : List ℕ) (key : Key) → key_read text ≡ Some key → IsTextOf text key
unfolding key_read
IsTextOf-key_read text key e = elim (cases_Bool (bytes_eq text (codes "config"))) [
  | inl config ↦ let k = rw config at e in exactly text Config key tt (text_is text (codes "config") config) k
  | inr no_config ↦ elim (cases_Bool (bytes_eq text (codes "pools"))) [
    | inl pools ↦ let k = rw (no_config, pools) at e in exactly text Pools key tt (text_is text (codes "pools") pools) k
    | inr no_pools ↦ elim (cases_Bool (bytes_eq text (codes "reservations"))) [
      | inl reservations ↦ let k = rw (no_config, no_pools, reservations) at e in exactly text Reservations key tt (text_is text (codes "reservations") reservations) k
      | inr no_reservations ↦ let k = rw (no_config, no_pools, no_reservations) at e in kind_text text key k
    ]
  ]
]

pub IsTextOf-when : (text : List ℕ) (found : Option Key) → found ≡ key_read text → (key : Key) → (found ≡ Some key) ↔ IsTextOf text key
IsTextOf-when text found same key =
    (λ e. IsTextOf-key_read text key (sym same ∙ e), λ h. same ∙ (ap key_read (sym h.spelled) ∙ key_read-key_bytes key h.sound))

pub IfOk-along : {A E : Type 0} (f : A → Option Key) (r : Result A E) (x y : Option Key) → x ≡ y → IfOk r (λ found. f found ≡ x) → IfOk r (λ found. f found ≡ y)
IfOk-along f r x y same h = subst (λ (z : Option Key). IfOk r (λ found. f found ≡ z)) same h

pub affinity_read-at : (text : List ℕ) (i : ℕ) → position is_slash text ≡ Some i → affinity_read text ≡ affinity_of_parts (take i text) (drop (i + 1) text)
affinity_read-at text i e =
    let (within, same) = cond_some (nat_lt (position_or_len is_slash text) (length text)) (position_or_len is_slash text) i e in
    rw same refl

cidr_read-empty : cidr_read [] ≡ None
cidr_read-empty = rw (cidr_reading-no_slash [] refl) refl

affinity_of_no_block : (node block : List ℕ) → block ≡ [] → affinity_of_parts node block ≡ None
affinity_of_no_block node block none =
    let empty : cidr_read block ≡ None = ap cidr_read none ∙ cidr_read-empty in
    elim (cases_Bool (is_name_text node)) [
      | inl name ↦ rw (name, empty) refl
      | inr no_name ↦ rw no_name refl
    ]

pub affinity_read-none : (text : List ℕ) → position is_slash text ≡ None → affinity_read text ≡ None
affinity_read-none text e =
    let end : length text ≤ position_or_len is_slash text = elim (cases_lt (position_or_len is_slash text) (length text)) [
      | inl within ↦ absurd (none-some _ (sym e ∙ cond-true _ _ _ (lt-ltb _ _ within)))
      | inr end ↦ end
    ] in
    let rest : after_first is_slash text ≡ [] = drop_all (position_or_len is_slash text + 1) text (omega arith) in
    affinity_of_no_block (before_first is_slash text) (after_first is_slash text) rest

-- no record but one of a kind has the text as its key's
pub record IsOfKind (text : List ℕ) : Type 0 where
  pub no_config : bytes_eq text (codes "config") ≡ false
  pub no_pools : bytes_eq text (codes "pools") ≡ false
  pub no_reservations : bytes_eq text (codes "reservations") ≡ false

pub key_read-parts : (text : List ℕ) (block affinity handle : Option (List ℕ)) → IsOfKind text → text_behind (codes "block/") text ≡ block → text_behind (codes "affinity/") text ≡ affinity → text_behind (codes "handle/") text ≡ handle → key_of_kind block affinity handle ≡ key_read text
key_read-parts text block affinity handle h a b c = sym (key_read-kind text h.no_config h.no_pools h.no_reservations ∙ (λ i. key_of_kind (a i) (b i) (c i)))
