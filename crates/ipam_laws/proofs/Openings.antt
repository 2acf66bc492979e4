-- Rows that may be opened open as one datastore, and a datastore's own rows as that datastore.
use Rattle.std.proofs.Common.{◌≡◌, ◌≢◌, ℕ, inl, inr, List, [], ◌∷◌, map, Ok, refl, sym, ap, ◌∙◌, subst}
use Rattle.std.specs.Prelude.{Contains}
use Rattle.std.specs.declared.cmp.Ordering.TheVariants.{Less}
use Rattle.std.specs.List.{AllByRecursion}
use Rattle.std.specs.List.Sorted.{IsStrictlySortedBy}
use Rattle.std.specs.Cmp.{tied_itself}
use Rattle.std.proofs.lemmas.List.Elements.{All-contains}
use Rattle.std.proofs.lemmas.List.Sorted.{Contains-permutation, IsPermutation-sym}
use Rattle.ipam_records.specs.declared.call.Row.{Row as RowText}
use Rattle.ipam_records.specs.declared.key.Key.{Key}
use Rattle.ipam_records.specs.Datastore.{Datastore, row_key}
use Rattle.ipam_records.specs.KeyOrder.{key_cmp}
use Rattle.ipam_records.specs.KeyOrderLaws.{key_cmp_total}
use Rattle.ipam_records.specs.Sound.{IsDatastore, IsRow}
use Rattle.ipam_records.proofs.RecordTexts.{record_reads_back}
use Rattle.ipam_model.specs.Opened.{IsTextOf, OneOpenedLaw, OpensAs, SameRecordsLaw, Texts, reading_of, text_of, texts_of}
use Rattle.ipam_model.specs.Reads.{StoredRecord}
use Rattle.ipam_laws.proofs.Members.{in-cons, in-here, in-there, in-nothing, in-map, out-map}

-- ---- rows by ascending keys with the same members are the same

pub less-than : (k : Key) (rows : List StoredRecord) (row : StoredRecord) → AllByRecursion (λ other. key_cmp k other ≡ Less) (map row_key rows) → Contains rows row → key_cmp k (row_key row) ≡ Less
less-than k [] row all h = absurd (in-nothing row h)
less-than k (first ∷ rest) row all h = elim (in-cons row first rest h) [
  | inl is ↦ ap (λ (r : StoredRecord). key_cmp k (row_key r)) (sym is) ∙ all.0
  | inr there ↦ less-than k rest row all.1 there
]

pub never-less : (k : Key) → key_cmp k k ≢ Less
never-less k e = let t = tied_itself key_cmp_total k in cc

Within : List StoredRecord → List StoredRecord → Type 0
Within xs ys = (row : StoredRecord) → Contains xs row → Contains ys row

-- the heads are the same, and a member of one rest is one of the other
same-heads : (x y : StoredRecord) (xs ys : List StoredRecord) → IsStrictlySortedBy key_cmp (map row_key (x ∷ xs)) → IsStrictlySortedBy key_cmp (map row_key (y ∷ ys)) → Within (x ∷ xs) (y ∷ ys) → Within (y ∷ ys) (x ∷ xs) → y ≡ x
unfolding Within IsStrictlySortedBy
same-heads x y xs ys sx sy one other = elim (in-cons x y ys (one x (in-here x xs))) [
  | inl is ↦ is
  | inr x_there ↦ elim (in-cons y x xs (other y (in-here y ys))) [
    | inl is ↦ sym is
    | inr y_there ↦
        let a = less-than (row_key y) ys x sy.0 x_there in
        let b = less-than (row_key x) xs y sx.0 y_there in
        absurd (never-less (row_key x) (key_cmp_total.trans (row_key x) (row_key y) (row_key x) b a))
  ]
]

rests : (x : StoredRecord) (xs ys : List StoredRecord) → IsStrictlySortedBy key_cmp (map row_key (x ∷ xs)) → Within (x ∷ xs) (x ∷ ys) → Within xs ys
unfolding Within IsStrictlySortedBy
rests x xs ys sx within row h = elim (in-cons row x ys (within row (in-there row x xs h))) [
  | inl is ↦ absurd (never-less (row_key x) (ap (λ (r : StoredRecord). key_cmp (row_key x) (row_key r)) is ∙ less-than (row_key x) xs row sx.0 h))
  | inr there ↦ there
]

same-rows : (xs ys : List StoredRecord) → IsStrictlySortedBy key_cmp (map row_key xs) → IsStrictlySortedBy key_cmp (map row_key ys) → Within xs ys → Within ys xs → xs ≡ ys
unfolding Within IsStrictlySortedBy
same-rows [] [] sx sy one other = refl
same-rows [] (y ∷ ys) sx sy one other = absurd (in-nothing y (other y (in-here y ys)))
same-rows (x ∷ xs) [] sx sy one other = absurd (in-nothing x (one x (in-here x xs)))
same-rows (x ∷ xs) (y ∷ ys) sx sy one other =
    let head = same-heads x y xs ys sx sy one other in
    let sorted : IsStrictlySortedBy key_cmp (map row_key (x ∷ ys)) = subst (λ (r : StoredRecord). IsStrictlySortedBy key_cmp (map row_key (r ∷ ys))) head sy in
    let forth : Within (x ∷ xs) (x ∷ ys) = subst (λ (r : StoredRecord). Within (x ∷ xs) (r ∷ ys)) head one in
    let back : Within (x ∷ ys) (x ∷ xs) = subst (λ (r : StoredRecord). Within (r ∷ ys) (x ∷ xs)) head other in
    let tails = same-rows xs ys sx.1 sy.1 (rests x xs ys sx forth) (rests x ys xs sorted back) in
    ap (λ rows. x ∷ rows) tails ∙ ap (λ (r : StoredRecord). r ∷ ys) (sym head)

-- ---- one datastore

opened-within : (texts : Texts) (one other : Datastore) → OpensAs texts one → OpensAs texts other → Within one.rows other.rows
unfolding Within
opened-within texts one other a b row h =
    let (text, there, revision, reads) = a.nothing_else row.0 row.1 h in
    subst (λ (r : ℕ). Contains other.rows (r, row.1)) revision (b.all_read text row.1 there reads)

pub opens_as_one : OneOpenedLaw
opens_as_one texts one other a b =
    let rows = same-rows one.rows other.rows a.sound.ascending b.sound.ascending (opened-within texts one other a b) (opened-within texts other one b a) in
    let counter : one.counter ≡ other.counter = a.counter ∙ sym b.counter in
    λ i. record { rows = rows i; counter = counter i }

-- ---- a datastore's own rows

pub reads-back : (store : Datastore) → IsDatastore store → (row : StoredRecord) → Contains store.rows row → reading_of (text_of row) ≡ Ok row.1
reads-back store sound row h = record_reads_back row.1 (All-contains (IsRow store.counter) store.rows row sound.rows h).is_record

opened-own : (texts : Texts) (store opened : Datastore) → IsDatastore store → IsTextOf texts store → OpensAs texts opened → Within opened.rows store.rows
unfolding Within
opened-own texts store opened sound is o row h =
    let (text, there, revision, reads) = o.nothing_else row.0 row.1 h in
    let own = Contains-permutation texts.rows (texts_of store) text (IsPermutation-sym (texts_of store) texts.rows is.same_rows) there in
    let (found, among, same) = out-map text_of text store.rows own in
    let back = reads-back store sound found among in
    let read : reading_of (text_of found) ≡ Ok row.1 = ap reading_of same ∙ reads in
    let records : found.1 ≡ row.1 = cc (back, read) in
    let revisions : found.0 ≡ row.0 = ap (λ (t : RowText). t.revision) same ∙ revision in
    let pair : found ≡ row = λ i. (revisions i, records i) in
    subst (λ (r : StoredRecord). Contains store.rows r) pair among

own-opened : (texts : Texts) (store opened : Datastore) → IsDatastore store → IsTextOf texts store → OpensAs texts opened → Within store.rows opened.rows
unfolding Within
own-opened texts store opened sound is o row h =
    let there = Contains-permutation (texts_of store) texts.rows (text_of row) is.same_rows (in-map text_of row store.rows h) in
    o.all_read (text_of row) row.1 there (reads-back store sound row h)

pub opens_the_same : SameRecordsLaw
opens_the_same texts store opened sound is o =
    same-rows opened.rows store.rows o.sound.ascending sound.ascending (opened-own texts store opened sound is o) (own-opened texts store opened sound is o)
