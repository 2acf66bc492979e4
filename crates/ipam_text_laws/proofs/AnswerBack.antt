-- The answer that JSON tells: each answer's own JSON tells that answer.
use Rattle.std.proofs.Common.{◌≡◌, ℕ, zero, suc, List, [], ◌∷◌, codes, map, Bool, false, bytes_eq, if◌then◌else◌, Option, Some, None, refl, ap, ◌∙◌}
use Rattle.std.specs.Prelude.{◌==◌}
use Rattle.std.specs.List.{AllByRecursion}
use Rattle.serde_json.specs.Data.{Data, null, boolean, number, string, array, object, unsigned, Members, no_members, member}
use Rattle.ipam_json.specs.Built.{array_of, item_list, whole_data}
use Rattle.ipam_json.proofs.Constructors.{item_list-items_of}
use Rattle.ipam_addr.specs.declared.address.Family.{Family}
use Rattle.ipam_addr.specs.declared.address.Family.TheVariants.{V4, V6}
use Rattle.ipam_addr.specs.Shape.{AddrValue, CidrValue}
use Rattle.ipam_addr.specs.Text.{address_of}
use Rattle.ipam_addr.specs.Width.{IsAddress, IsCidr}
use Rattle.ipam_addr.proofs.PrintLemmas.{address_of-address_text}
use Rattle.ipam_record_text.specs.Reservations.{cidr_in, cidr_data}
use Rattle.ipam_record_text.proofs.ReservationLists.{cidr_in-cidr_data}
use Rattle.ipam_request_text.specs.Parts.{address_data}
use Rattle.ipam_model.specs.declared.answer.Answer.{Answer}
use Rattle.ipam_model.specs.declared.answer.Answer.TheVariants.{Added, AddedThis, Exhausted, NoPool, NotInPool, Taken, NotAffine, Deleted, Checked, NotRecorded, Released, NoAffinity, Collected, Done, Refused, Again, Full, CountFull, Spent, Fault, Ready}
use Rattle.ipam_model.specs.declared.answer.Collected.{Collected as Collection}
use Rattle.ipam_model.specs.declared.answer.Given.{Given}
use Rattle.ipam_model.specs.declared.answer.GivenThis.{GivenThis}
use Rattle.ipam_model.specs.declared.answer.Item.{Item}
use Rattle.ipam_model.specs.declared.answer.Scan.{Scan}
use Rattle.ipam_answer_text.specs.Answers.{family_number, scan_data, given_data, given_this_data, item_data, answer_data}
use Rattle.ipam_text_laws.specs.Answers.{IsSoundScan, IsSoundGiven, IsSoundItem, IsSoundAnswer}

-- ---- what data holds

-- the values of the members, in their order
values_in : Members → List Data
values_in no_members = []
values_in (member name d ms) = d ∷ values_in ms

values : Data → List Data
values (object ms) = values_in ms
values _ = []

-- the value of this place
at : ℕ → List Data → Data
at n [] = null
at zero (d ∷ ds) = d
at (suc n) (d ∷ ds) = at n ds

first_value : Data → Data
first_value d = at 0 (values d)

second_value : Data → Data
second_value d = at 1 (values d)

number_in : Data → ℕ
number_in (number (unsigned n)) = n
number_in _ = 0

text_in : Data → List ℕ
text_in (string text) = text
text_in _ = []

truth_in : Data → Bool
truth_in (boolean b) = b
truth_in _ = false

list_in : Data → List Data
list_in (array ds) = item_list ds
list_in _ = []

-- ---- parts of answers

family_in : Data → Family
family_in d = if number_in d == 4 then V4 else V6

or_zero : Option AddrValue → AddrValue
or_zero (Some address) = address
or_zero None = record { family = V4; number = 0 }

address_in : Data → AddrValue
address_in d = or_zero (address_of (text_in d))

or_all : Option CidrValue → CidrValue
or_all (Some cidr) = cidr
or_all None = record { family = V4; base = 0; prefix = 0 }

cidr_or_all : Data → CidrValue
cidr_or_all d = or_all (cidr_in d)

scan_in : Data → Scan
scan_in d =
    let vs = values d in record {
      b = number_in (at 0 vs);
      c = number_in (at 1 vs);
      f = number_in (at 2 vs);
      family = family_in (at 3 vs);
      p = number_in (at 4 vs);
      r = number_in (at 5 vs);
    }

given_in : Data → Given
given_in d =
    let vs = values d in record {
      address = address_in (at 0 vs);
      b = number_in (at 1 vs);
      c = number_in (at 2 vs);
      f = number_in (at 3 vs);
      p = number_in (at 4 vs);
      r = number_in (at 5 vs);
      w = number_in (at 6 vs);
    }

given_this_in : Data → GivenThis
given_this_in d =
    let vs = values d in record {
      address = address_in (at 0 vs);
      b = number_in (at 1 vs);
      c = number_in (at 2 vs);
      p = number_in (at 3 vs);
      w = number_in (at 4 vs);
    }

item_in : Data → Item
item_in d =
    let vs = values d in record {
      address = address_in (at 0 vs);
      freed = truth_in (at 1 vs);
      handle = text_in (at 2 vs);
      stamp = number_in (at 3 vs);
    }

collection_in : Data → Collection
collection_in d =
    let vs = values d in record {
      b1 = number_in (at 0 vs);
      b2 = number_in (at 1 vs);
      items = map item_in (list_in (at 2 vs));
    }

family-back : (family : Family) → family_in (whole_data (family_number family)) ≡ family
unfolding family_in number_in
family-back V4 = refl
family-back V6 = refl

address-back : (address : AddrValue) → IsAddress address → address_in (address_data address) ≡ address
unfolding address_in text_in or_zero
address-back address h = ap or_zero (address_of-address_text address h)

cidr-back : (cidr : CidrValue) → IsCidr cidr → cidr_or_all (cidr_data cidr) ≡ cidr
unfolding cidr_or_all or_all
cidr-back cidr h = ap or_all (cidr_in-cidr_data cidr h)

scan-back : (s : Scan) → scan_in (scan_data s) ≡ s
unfolding scan_in scan_data values values_in at number_in
scan-back s = λ i. record { b = s.b; c = s.c; f = s.f; family = family-back s.family i; p = s.p; r = s.r }

given-back : (g : Given) → IsAddress g.address → given_in (given_data g) ≡ g
unfolding given_in given_data values values_in at number_in
given-back g h = λ i. record { address = address-back g.address h i; b = g.b; c = g.c; f = g.f; p = g.p; r = g.r; w = g.w }

given_this-back : (g : GivenThis) → IsAddress g.address → given_this_in (given_this_data g) ≡ g
unfolding given_this_in given_this_data values values_in at number_in
given_this-back g h = λ i. record { address = address-back g.address h i; b = g.b; c = g.c; p = g.p; w = g.w }

item-back : (o : Item) → IsAddress o.address → item_in (item_data o) ≡ o
unfolding item_in item_data values values_in at number_in truth_in text_in
item-back o h = λ i. record { address = address-back o.address h i; freed = o.freed; handle = o.handle; stamp = o.stamp }

-- ---- lists

items-back : (ds : List Data) → list_in (array_of ds) ≡ ds
unfolding list_in
items-back ds = item_list-items_of ds

-- what is read of each value's own JSON is the value
back-each : {A : Type 0} → (P : A → Type 0) (told : A → Data) (read : Data → A) → ((a : A) → P a → read (told a) ≡ a) → (all : List A) → AllByRecursion P all → map read (map told all) ≡ all
back-each P told read back [] h = refl
back-each P told read back (a ∷ all) h = λ i. back a h.0 i ∷ back-each P told read back all h.1 i

list-back : {A : Type 0} → (P : A → Type 0) (told : A → Data) (read : Data → A) → ((a : A) → P a → read (told a) ≡ a) → (all : List A) → AllByRecursion P all → map read (list_in (array_of (map told all))) ≡ all
list-back P told read back all h = ap (map read) (items-back (map told all)) ∙ back-each P told read back all h

-- ---- answers

-- the answer that has only a name
plain_in : List ℕ → Answer
plain_in name =
    if bytes_eq name (codes "checked") then Checked
    else (if bytes_eq name (codes "released") then Released
    else (if bytes_eq name (codes "full") then Full
    else (if bytes_eq name (codes "spent") then Spent else Fault)))

-- the answer of the name that holds this
named_in : List ℕ → Data → Answer
named_in name d =
    if bytes_eq name (codes "added") then Added (map given_in (list_in d))
    else (if bytes_eq name (codes "addedThis") then AddedThis (given_this_in d)
    else (if bytes_eq name (codes "exhausted") then Exhausted (scan_in d)
    else (if bytes_eq name (codes "noPool") then NoPool (text_in (first_value d)) (number_in (second_value d))
    else (if bytes_eq name (codes "notInPool") then NotInPool (number_in (first_value d))
    else (if bytes_eq name (codes "taken") then Taken (text_in (second_value d)) (number_in (first_value d))
    else (if bytes_eq name (codes "notAffine") then NotAffine (cidr_or_all (second_value d)) (number_in (first_value d))
    else (if bytes_eq name (codes "deleted") then Deleted (number_in (first_value d))
    else (if bytes_eq name (codes "notRecorded") then NotRecorded (address_in (first_value d)) (number_in (second_value d))
    else (if bytes_eq name (codes "noAffinity") then NoAffinity (number_in (first_value d))
    else (if bytes_eq name (codes "collected") then Collected (collection_in d)
    else (if bytes_eq name (codes "done") then Done (number_in (first_value d))
    else (if bytes_eq name (codes "refused") then Refused (number_in (second_value d)) (text_in (first_value d))
    else (if bytes_eq name (codes "again") then Again (number_in (second_value d)) (number_in (first_value d))
    else (if bytes_eq name (codes "countFull") then CountFull (number_in (first_value d))
    else Ready (map scan_in (list_in d))))))))))))))))

-- the answer that the data tells
pub answer_in : Data → Answer
answer_in (string name) = plain_in name
answer_in (object (member name d ms)) = named_in name d
answer_in _ = Fault

pub answer_back : (a : Answer) → IsSoundAnswer a → answer_in (answer_data a) ≡ a
unfolding answer_in plain_in named_in first_value second_value values values_in at number_in text_in collection_in
answer_back (Added givens) h = ap Added (list-back IsSoundGiven given_data given_in (λ g sound. given-back g sound.address) givens h)
answer_back (AddedThis given) h = ap AddedThis (given_this-back given h.address)
answer_back (Exhausted scan) h = ap Exhausted (scan-back scan)
answer_back (NoPool name moment) h = refl
answer_back (NotInPool moment) h = refl
answer_back (Taken holder moment) h = refl
answer_back (NotAffine cidr moment) h = ap (λ (found : CidrValue). NotAffine found moment) (cidr-back cidr h.0)
answer_back (Deleted moment) h = refl
answer_back Checked h = refl
answer_back (NotRecorded address moment) h = ap (λ (found : AddrValue). NotRecorded found moment) (address-back address h.0)
answer_back Released h = refl
answer_back (NoAffinity moment) h = refl
answer_back (Collected c) h =
    ap (λ (found : List Item). Collected (record { b1 = c.b1; b2 = c.b2; items = found }))
    (list-back IsSoundItem item_data item_in (λ o sound. item-back o sound.address) c.items h.items)
answer_back (Done revision) h = refl
answer_back (Refused refusal name) h = refl
answer_back (Again lost claims) h = refl
answer_back Full h = refl
answer_back (CountFull moment) h = refl
answer_back Spent h = refl
answer_back Fault h = refl
answer_back (Ready scans) h = ap Ready (list-back IsSoundScan scan_data scan_in (λ s sound. scan-back s) scans h)
