-- No two sound answers have one text.
use Rattle.std.proofs.Common.{◌≡◌, ◌∙◌, ℕ, ◌<◌, List, [], ◌∷◌, codes, map, Some, refl, sym, ap, arith}
use Rattle.std.specs.List.{AllByRecursion}
use Rattle.serde_json.specs.Data.{Data, boolean, string}
use Rattle.serde_json.specs.Read.{read}
use Rattle.serde_json.specs.Written.{compact_text}
use Rattle.ipam_json.specs.Built.{Field, names, IsAscending, object_of, array_of, tagged, whole_data}
use Rattle.ipam_json.specs.Canonical.{IsCanonical, IsCanonicalWithin}
use Rattle.ipam_json.proofs.Constructors.{IsCanonicalWithin-array, IsCanonicalWithin-boolean, IsCanonicalWithin-number, IsCanonicalWithin-object, IsCanonicalWithin-string}
use Rattle.ipam_json.proofs.ReadsBack.{read-compact_text}
use Rattle.ipam_addr.specs.declared.address.Family.{Family}
use Rattle.ipam_addr.specs.declared.address.Family.TheVariants.{V4, V6}
use Rattle.ipam_model.specs.declared.answer.Answer.{Answer}
use Rattle.ipam_model.specs.declared.answer.Answer.TheVariants.{Added, AddedThis, Exhausted, NoPool, NotInPool, Taken, NotAffine, Deleted, Checked, NotRecorded, Released, NoAffinity, Collected, Done, Refused, Again, Full, CountFull, Spent, Fault, Ready}
use Rattle.ipam_model.specs.declared.answer.Given.{Given}
use Rattle.ipam_model.specs.declared.answer.GivenThis.{GivenThis}
use Rattle.ipam_model.specs.declared.answer.Item.{Item}
use Rattle.ipam_model.specs.declared.answer.Scan.{Scan}
use Rattle.ipam_addr.specs.Text.{address_text, cidr_text_of}
use Rattle.ipam_request_text.specs.Parts.{address_data}
use Rattle.ipam_answer_text.specs.Answers.{family_number, scan_data, given_data, given_this_data, item_data, answer_data, answer_text}
use Rattle.ipam_text_laws.specs.Answers.{FitsIn64, IsSoundScan, IsSoundGiven, IsSoundGivenThis, IsSoundItem, IsSoundAnswer}
use Rattle.ipam_text_laws.proofs.AnswerBack.{answer_in, answer_back}

-- ---- the JSON of a sound answer is canonical

-- a number or a text
whole : (n : ℕ) → FitsIn64 n → IsCanonicalWithin 0 (whole_data n)
whole n h = IsCanonicalWithin-number 0 n h

text : (s : List ℕ) → IsCanonicalWithin 0 (string s)
text s = IsCanonicalWithin-string 0 s

flat : (ms : List Field) → IsAscending (names ms) → AllByRecursion (λ m. IsCanonicalWithin 0 m.1) ms → IsCanonicalWithin 1 (object_of ms)
flat ms up h = IsCanonicalWithin-object 0 1 ms (omega arith) up h

family-fits : (family : Family) → FitsIn64 (family_number family)
family-fits V4 = omega arith
family-fits V6 = omega arith

scan-canonical : (s : Scan) → IsSoundScan s → IsCanonicalWithin 1 (scan_data s)
unfolding scan_data
scan-canonical s h =
    flat ((codes "b", whole_data s.b) ∷ (codes "c", whole_data s.c) ∷ (codes "f", whole_data s.f) ∷ (codes "family", whole_data (family_number s.family)) ∷ (codes "p", whole_data s.p) ∷ (codes "r", whole_data s.r) ∷ [])
    (refl, (refl, (refl, (refl, (refl, tt)))))
    (whole s.b h.b, (whole s.c h.c, (whole s.f h.f, (whole (family_number s.family) (family-fits s.family), (whole s.p h.p, (whole s.r h.r, tt))))))

given-canonical : (g : Given) → IsSoundGiven g → IsCanonicalWithin 1 (given_data g)
unfolding given_data
given-canonical g h =
    flat ((codes "address", address_data g.address) ∷ (codes "b", whole_data g.b) ∷ (codes "c", whole_data g.c) ∷ (codes "f", whole_data g.f) ∷ (codes "p", whole_data g.p) ∷ (codes "r", whole_data g.r) ∷ (codes "w", whole_data g.w) ∷ [])
    (refl, (refl, (refl, (refl, (refl, (refl, tt))))))
    (text (address_text g.address), (whole g.b h.b, (whole g.c h.c, (whole g.f h.f, (whole g.p h.p, (whole g.r h.r, (whole g.w h.w, tt)))))))

given_this-canonical : (g : GivenThis) → IsSoundGivenThis g → IsCanonicalWithin 1 (given_this_data g)
unfolding given_this_data
given_this-canonical g h =
    flat ((codes "address", address_data g.address) ∷ (codes "b", whole_data g.b) ∷ (codes "c", whole_data g.c) ∷ (codes "p", whole_data g.p) ∷ (codes "w", whole_data g.w) ∷ [])
    (refl, (refl, (refl, (refl, tt)))) (text (address_text g.address), (whole g.b h.b, (whole g.c h.c, (whole g.p h.p, (whole g.w h.w, tt)))))

item-canonical : (o : Item) → IsSoundItem o → IsCanonicalWithin 1 (item_data o)
unfolding item_data
item-canonical o h =
    flat ((codes "address", address_data o.address) ∷ (codes "freed", boolean o.freed) ∷ (codes "handle", string o.handle) ∷ (codes "stamp", whole_data o.stamp) ∷ [])
    (refl, (refl, (refl, tt))) (text (address_text o.address), (IsCanonicalWithin-boolean 0 o.freed, (text o.handle, (whole o.stamp h.stamp, tt))))

each-canonical : {A : Type 0} → (P : A → Type 0) (told : A → Data) → ((a : A) → P a → IsCanonicalWithin 1 (told a)) → (all : List A) → AllByRecursion P all → AllByRecursion (IsCanonicalWithin 1) (map told all)
each-canonical P told is [] h = tt
each-canonical P told is (a ∷ all) h = (is a h.0, each-canonical P told is all h.1)

list-canonical : {A : Type 0} → (P : A → Type 0) (told : A → Data) → ((a : A) → P a → IsCanonicalWithin 1 (told a)) → (all : List A) → AllByRecursion P all → IsCanonicalWithin 2 (array_of (map told all))
list-canonical P told is all h = IsCanonicalWithin-array 1 2 (map told all) (omega arith) (each-canonical P told is all h)

tagged-canonical : (levels : ℕ) (name : List ℕ) (d : Data) → levels < 4 → IsCanonicalWithin levels d → IsCanonical (tagged name d)
tagged-canonical levels name d few h = IsCanonicalWithin-object levels _ ((name, d) ∷ []) (omega arith) tt (h, tt)

plain-canonical : (s : List ℕ) → IsCanonical (string s)
plain-canonical s = IsCanonicalWithin-string _ s

-- the object of this name with one number
one-canonical : (name member : List ℕ) (n : ℕ) → FitsIn64 n → IsCanonical (tagged name (tagged member (whole_data n)))
one-canonical name member n h = tagged-canonical 1 name (tagged member (whole_data n)) (omega arith) (flat ((member, whole_data n) ∷ []) tt (whole n h, tt))

pair-canonical : (name one other : List ℕ) (d e : Data) → IsAscending (one ∷ other ∷ []) → IsCanonicalWithin 0 d → IsCanonicalWithin 0 e → IsCanonical (tagged name (object_of ((one, d) ∷ (other, e) ∷ [])))
pair-canonical name one other d e up h k = tagged-canonical 1 name (object_of ((one, d) ∷ (other, e) ∷ [])) (omega arith) (flat ((one, d) ∷ (other, e) ∷ []) up (h, (k, tt)))

pub answer_canonical : (a : Answer) → IsSoundAnswer a → IsCanonical (answer_data a)
answer_canonical (Added givens) h = tagged-canonical 2 (codes "added") _ (omega arith) (list-canonical IsSoundGiven given_data given-canonical givens h)
answer_canonical (AddedThis given) h = tagged-canonical 1 (codes "addedThis") _ (omega arith) (given_this-canonical given h)
answer_canonical (Exhausted scan) h = tagged-canonical 1 (codes "exhausted") _ (omega arith) (scan-canonical scan h)
answer_canonical (NoPool name moment) h = pair-canonical (codes "noPool") (codes "name") (codes "p") (string name) (whole_data moment) (refl, tt) (text name) (whole moment h)
answer_canonical (NotInPool moment) h = one-canonical (codes "notInPool") (codes "p") moment h
answer_canonical (Taken holder moment) h = pair-canonical (codes "taken") (codes "b") (codes "holder") (whole_data moment) (string holder) (refl, tt) (whole moment h) (text holder)
answer_canonical (NotAffine cidr moment) h = pair-canonical (codes "notAffine") (codes "b") (codes "cidr") (whole_data moment) (string (cidr_text_of cidr)) (refl, tt) (whole moment h.1) (text (cidr_text_of cidr))
answer_canonical (Deleted moment) h = one-canonical (codes "deleted") (codes "k") moment h
answer_canonical Checked h = plain-canonical (codes "checked")
answer_canonical (NotRecorded address moment) h = pair-canonical (codes "notRecorded") (codes "address") (codes "moment") (address_data address) (whole_data moment) (refl, tt) (text (address_text address)) (whole moment h.1)
answer_canonical Released h = plain-canonical (codes "released")
answer_canonical (NoAffinity moment) h = one-canonical (codes "noAffinity") (codes "moment") moment h
answer_canonical (Collected c) h =
    let items = list-canonical IsSoundItem item_data item-canonical c.items h.items in
    tagged-canonical 3 (codes "collected") _ (omega arith)
    (IsCanonicalWithin-object 2 3 ((codes "b1", whole_data c.b1) ∷ (codes "b2", whole_data c.b2) ∷ (codes "items", array_of (map item_data c.items)) ∷ []) (omega arith)
    (refl, (refl, tt)) (IsCanonicalWithin-number 2 c.b1 h.b1, (IsCanonicalWithin-number 2 c.b2 h.b2, (items, tt))))
answer_canonical (Done revision) h = one-canonical (codes "done") (codes "revision") revision h
answer_canonical (Refused refusal name) h = pair-canonical (codes "refused") (codes "name") (codes "number") (string name) (whole_data refusal) (refl, tt) (text name) (whole refusal h)
answer_canonical (Again lost claims) h = pair-canonical (codes "again") (codes "claims") (codes "lost") (whole_data claims) (whole_data lost) (refl, tt) (whole claims h.1) (whole lost h.0)
answer_canonical Full h = plain-canonical (codes "full")
answer_canonical (CountFull moment) h = one-canonical (codes "countFull") (codes "moment") moment h
answer_canonical Spent h = plain-canonical (codes "spent")
answer_canonical Fault h = plain-canonical (codes "fault")
answer_canonical (Ready scans) h = tagged-canonical 2 (codes "ready") _ (omega arith) (list-canonical IsSoundScan scan_data scan-canonical scans h)

-- ---- answers of one text

same-data : (d e : Data) → IsCanonical d → IsCanonical e → compact_text d ≡ compact_text e → d ≡ e
same-data d e h k same =
    let both : Some d ≡ Some e = sym (read-compact_text d h) ∙ ap read same ∙ read-compact_text e k in
    cc

pub answer_told : (a b : Answer) → IsSoundAnswer a → IsSoundAnswer b → answer_text a ≡ answer_text b → a ≡ b
unfolding answer_text
answer_told a b h k same =
    sym (answer_back a h)
    ∙ ap answer_in (same-data (answer_data a) (answer_data b) (answer_canonical a h) (answer_canonical b k) same)
    ∙ answer_back b k
