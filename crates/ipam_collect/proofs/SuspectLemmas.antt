-- What is found in one row more, and the value of a key.
use native.Mathlib.Omega.{arith}
use Rattle.std.proofs.Common.{◌≡◌, ◌+◌, ◌<◌, ◌≤◌, ◌^◌, ◌≢◌, ◌||◌, ne_eqb, refl, ap, ◌∙◌, sym, ℕ, Bool, true, false, List, [], ◌∷◌, ◌++◌, length, map, take, drop, get_or, append_assoc, Some, None}
use Rattle.std.specs.Prelude.{◌&&◌, position, bytes_eq, option_map, unwrap_or}
use Rattle.std.specs.Global.{Vec}
use Rattle.std.specs.List.{list_any}
use Rattle.std.proofs.lemmas.Grind.{flat_map-append}
use Rattle.std.proofs.lemmas.List.{take_more, append-nil}
use Rattle.ipam_records.specs.declared.record.Record.{Record}
use Rattle.ipam_records.specs.Pages.{rows_of_pages}
use Rattle.ipam_records.proofs.PageLemmas.{rows_of_pages-drop}
use Rattle.ipam_model.specs.declared.request.CollectRequest.{CollectRequest}
use Rattle.ipam_addr.specs.Holding.{is_same_family}
use Rattle.ipam_addr.specs.Shape.{AddrValue, CidrValue}
use Rattle.ipam_block.specs.Operations.{ordinal_address}
use Rattle.ipam_model.specs.Owners.{same_address}
use Rattle.ipam_model.specs.Pairs.{Pair, has_value}
use Rattle.ipam_model.specs.Reads.{StoredRecord}
use Rattle.ipam_model.specs.Remove.{Leak, suspects, leaks_in_row}
use Rattle.ipam_parts.proofs.PlaceFacts.{find_placed, find_nowhere}

-- what a row adds to what the rows in front of it gave
pub one_row_more : (request : CollectRequest) (rows : List StoredRecord) (place : ℕ) (row : StoredRecord) → row ≡ get_or rows place row → place < length rows
    → suspects request (take place rows) ++ leaks_in_row request row ≡ suspects request (take (place + 1) rows)
one_row_more request rows place row is within =
    sym (ap (suspects request) (take_more rows place row within ∙ ap (λ r. take place rows ++ r ∷ []) (sym is))
    ∙ (flat_map-append (leaks_in_row request) (take place rows) (row ∷ [])
    ∙ ap (λ more. suspects request (take place rows) ++ more) (append-nil (leaks_in_row request row))))

-- and a page to what is still to be added
pub one_page_more : (request : CollectRequest) (old new : List Leak) (pages : List (Vec (ℕ × Record))) (place : ℕ) (page : Vec (ℕ × Record)) → page ≡ get_or pages place page → place < length pages
    → new ≡ old ++ suspects request page.items
    → new ++ suspects request (rows_of_pages (drop (place + 1) pages)) ≡ old ++ suspects request (rows_of_pages (drop place pages))
one_page_more request old new pages place page is within added =
    let rest = suspects request (rows_of_pages (drop (place + 1) pages)) in
    ap (λ found. found ++ rest) added
    ∙ (append_assoc old (suspects request page.items) rest
    ∙ ap (λ more. old ++ more) (sym (ap (suspects request) (rows_of_pages-drop pages place page is within)
    ∙ flat_map-append (leaks_in_row request) page.items (rows_of_pages (drop (place + 1) pages)))))

pub value_found : (pairs : List Pair) (key value : List ℕ) (place : ℕ) (d : Pair)
    → position (λ p. bytes_eq p.0 key) pairs ≡ Some place
    → bytes_eq value (get_or pairs place d).1 ≡ has_value key (bytes_eq value) pairs
value_found pairs key value place d is =
    ap (λ found. unwrap_or (option_map (bytes_eq value) (option_map (λ p. p.1) found)) false)
    (sym (find_placed (λ p. bytes_eq p.0 key) pairs place d is))

pub no_value : (pairs : List Pair) (key value : List ℕ) → position (λ p. bytes_eq p.0 key) pairs ≡ None
    → false ≡ has_value key (bytes_eq value) pairs
no_value pairs key value none =
    ap (λ found. unwrap_or (option_map (bytes_eq value) (option_map (λ p. p.1) found)) false)
    (sym (find_nowhere (λ p. bytes_eq p.0 key) pairs none))

-- ---- an owner in a row

pub list_any_map : {A B : Type 0} (test : B → Bool) (f : A → B) (list : List A)
    → list_any (λ x. test (f x)) list ≡ list_any test (map f list)
list_any_map test f [] = refl
list_any_map test f (first ∷ rest) = ap (λ b. test (f first) || b) (list_any_map test f rest)

and_false : (a : Bool) → false ≡ a && false
and_false true = refl
and_false false = refl

-- an ordinal after all addresses
pub too_far : (address : AddrValue) (cidr : CidrValue) (ordinal : ℕ) → address.number < 2 ^ 128 → 2 ^ 128 ≤ cidr.base + ordinal
    → false ≡ same_address address (ordinal_address cidr ordinal)
too_far address cidr ordinal small far =
    let differs : address.number ≢ cidr.base + ordinal = λ same. omega arith in
    rw (ne_eqb address.number (cidr.base + ordinal) differs) (and_false (is_same_family address.family cidr.family))
