-- Blocks in the order of their rows, page by page.
use Rattle.std.proofs.Common.{◌≡◌, ℕ, ◌+◌, ◌<◌, ◌⊎◌, inl, inr, true, List, [], ◌∷◌, ◌++◌, length, get_or, take, drop, Option, Some, None, refl, sym, ap, ◌∙◌, subst, append_assoc}
use Rattle.std.proofs.lemmas.List.{append-nil, take_more}
use Rattle.std.proofs.lemmas.List.Elements.{filter_map-append}
use Rattle.std.specs.declared.cmp.Ordering.{Ordering}
use Rattle.std.specs.declared.cmp.Ordering.TheVariants.{Less, Equal, Greater}
use Rattle.std.specs.Ordering.{is_lt}
use Rattle.std.specs.Global.{Vec}
use Rattle.std.specs.List.{AllByRecursion, cons_option}
use Rattle.std.specs.List.Sorted.{IsStrictlySortedBy}
use Rattle.ipam_addr.specs.Shape.{CidrValue}
use Rattle.ipam_block.specs.Order.{cidr_cmp}
use Rattle.ipam_records.specs.declared.record.Record.{Record}
use Rattle.ipam_records.specs.declared.record.Record.TheVariants as record_of
use Rattle.ipam_records.specs.declared.listing.Listing.{Listing}
use Rattle.ipam_records.specs.KeyOrderLaws.{cidr_cmp_total}
use Rattle.ipam_records.specs.Listing.{rows_of}
use Rattle.ipam_records.specs.Pages.{rows_of_pages}
use Rattle.ipam_records.specs.BlockLists.{cidr_if}
use Rattle.ipam_records.proofs.BlockListLemmas.{cidrs_where-none, cidrs_where-ascends, none-ascends}
use Rattle.ipam_records.proofs.RowSearch.{rows-take-drop}
use Rattle.ipam_model.specs.Reads.{StoredRecord}
use Rattle.ipam_choice.specs.First.{Has}
use Rattle.ipam_choice.specs.Blocks.{cidr_in, cidrs_in, is_in_before, EndsBefore, IsPartFrom}

abbrev Ascend : List CidrValue → Type 0
Ascend = IsStrictlySortedBy cidr_cmp

-- ---- what stands where in a list that ascends
all-has : (P : CidrValue → Type 0) (xs : List CidrValue) → AllByRecursion P xs → (x : CidrValue) → Has x xs → P x
all-has P [] all x has = absurd has
all-has P (y ∷ ys) all x (inl same) = subst P same all.0
all-has P (y ∷ ys) all x (inr later) = all-has P ys all.1 x later

all-at : (P : CidrValue → Type 0) (xs : List CidrValue) (c : CidrValue) (ys : List CidrValue) → AllByRecursion P (xs ++ c ∷ ys) → P c
all-at P [] c ys all = all.0
all-at P (x ∷ xs) c ys all = all-at P xs c ys all.1

pub stands_before : (xs : List CidrValue) (c : CidrValue) (ys : List CidrValue) → IsStrictlySortedBy cidr_cmp (xs ++ c ∷ ys) → (x : CidrValue) → Has x xs → cidr_cmp x c ≡ Less
unfolding IsStrictlySortedBy
stands_before [] c ys s x has = absurd has
stands_before (y ∷ xs) c ys s x (inl same) =
    subst (λ (z : CidrValue). cidr_cmp z c ≡ Less) same (all-at (λ z. cidr_cmp y z ≡ Less) xs c ys s.0)
stands_before (y ∷ xs) c ys s x (inr later) = stands_before xs c ys s.1 x later

pub stands_behind : (xs : List CidrValue) (c : CidrValue) (ys : List CidrValue) → IsStrictlySortedBy cidr_cmp (xs ++ c ∷ ys) → (y : CidrValue) → Has y ys → cidr_cmp c y ≡ Less
unfolding IsStrictlySortedBy
stands_behind [] c ys s y has = all-has (λ z. cidr_cmp c z ≡ Less) ys s.0 y has
stands_behind (x ∷ xs) c ys s y has = stands_behind xs c ys s.1 y has

pub has_parted : (xs ys : List CidrValue) (x : CidrValue) → Has x (xs ++ ys) → Has x xs ⊎ Has x ys
has_parted [] ys x has = inr has
has_parted (y ∷ xs) ys x (inl same) = inl (inl same)
has_parted (y ∷ xs) ys x (inr later) = elim (has_parted xs ys x later) [
  | inl own ↦ inl (inr own)
  | inr other ↦ inr other
]

-- ---- the blocks of rows
cidr_of_row : (revision : ℕ) (kept : Record) → cidr_if (λ b. true) (revision, kept) ≡ cidr_in kept
cidr_of_row revision (record_of.Config c) = refl
cidr_of_row revision (record_of.Pools p) = refl
cidr_of_row revision (record_of.Reservations r) = refl
cidr_of_row revision (record_of.Block b) = refl
cidr_of_row revision (record_of.Affinity a) = refl
cidr_of_row revision (record_of.Handle h) = refl

-- those of a row and more after it
pub cidrs_from_row : (row : StoredRecord) (rest : List StoredRecord) (o : Option CidrValue) → o ≡ cidr_in row.1 → cidrs_in (row ∷ rest) ≡ cons_option o (cidrs_in rest)
cidrs_from_row row rest o is = ap (λ (p : Option CidrValue). cons_option p (cidrs_in rest)) (cidr_of_row row.0 row.1 ∙ sym is)

pub next_is : (old new : List StoredRecord) (row : StoredRecord) (o : Option CidrValue) (cidr : CidrValue) → old ≡ row ∷ new → o ≡ cidr_in row.1 → o ≡ Some cidr → cidrs_in old ≡ cidr ∷ cidrs_in new
next_is old new row o cidr parted is there =
    ap cidrs_in parted ∙ (cidrs_from_row row new o is ∙ ap (λ (p : Option CidrValue). cons_option p (cidrs_in new)) there)

pub next_none : (old new : List StoredRecord) (row : StoredRecord) (o : Option CidrValue) → old ≡ row ∷ new → o ≡ cidr_in row.1 → o ≡ None → cidrs_in old ≡ cidrs_in new
next_none old new row o parted is none =
    ap cidrs_in parted ∙ (cidrs_from_row row new o is ∙ ap (λ (p : Option CidrValue). cons_option p (cidrs_in new)) none)

either : {X A : Type 0} → (o : Option X) → (o ≡ None → A) → ((x : X) → o ≡ Some x → A) → A
either None none some = none refl
either (Some x) none some = some x refl

pub blocks_ascend : (listing : Listing) → IsStrictlySortedBy cidr_cmp (cidrs_in (rows_of listing))
blocks_ascend listing = either listing.index
    (λ is. subst Ascend (sym (cidrs_where-none (λ b. true) (rows_of listing) (listing.none is))) none-ascends)
    (λ lists is. cidrs_where-ascends (λ b. true) (rows_of listing) (listing.blocks lists is).ascending)

-- ---- the blocks of pages
abbrev Pages : Type 0
Pages = List (Vec (ℕ × Record))

abbrev cidrs_of : Pages → List CidrValue
cidrs_of pages = cidrs_in (rows_of_pages pages)

-- the blocks of the first pages stand before this one
abbrev pub AllBefore : CidrValue → Pages → ℕ → Type 0
AllBefore first pages i = (x : CidrValue) → Has x (cidrs_of (take i pages)) → cidr_cmp x first ≡ Less

rows-append : (xs ys : Pages) → rows_of_pages (xs ++ ys) ≡ rows_of_pages xs ++ rows_of_pages ys
rows-append [] ys = refl
rows-append (p ∷ xs) ys =
    ap (λ (rows : List StoredRecord). p.items ++ rows) (rows-append xs ys) ∙ sym (append_assoc p.items (rows_of_pages xs) (rows_of_pages ys))

cidrs-append : (xs ys : List StoredRecord) → cidrs_in (xs ++ ys) ≡ cidrs_in xs ++ cidrs_in ys
cidrs-append = filter_map-append (cidr_if (λ b. true))

pub pages_parted : (pages : Pages) (i : ℕ) → cidrs_of pages ≡ cidrs_of (take i pages) ++ cidrs_of (drop i pages)
pages_parted pages i =
    ap cidrs_in (rows-take-drop pages i) ∙ cidrs-append (rows_of_pages (take i pages)) (rows_of_pages (drop i pages))

is_before : (o : Ordering) → is_lt o ≡ true → o ≡ Less
is_before Less e = refl
is_before Equal e = absurd (cc e)
is_before Greater e = absurd (cc e)

-- the last block of rows that end before this one
pub record LastBefore (first : CidrValue) (rows : List StoredRecord) : Type 0 where
  pub front : List CidrValue
  pub last : CidrValue
  pub parted : cidrs_in rows ≡ front ++ last ∷ []
  pub before : cidr_cmp last first ≡ Less

last_before : (first : CidrValue) (rows : List StoredRecord) → EndsBefore first rows → LastBefore first rows
last_before first rows ends = by (cidr_in ends.row.1) refl ends.before
  where
    by : (o : Option CidrValue) → o ≡ cidr_in ends.row.1 → is_in_before first o ≡ true → LastBefore first rows
    by None is test = absurd (cc test)
    by (Some last) is test = record {
      front = cidrs_in ends.front;
      last = last;
      parted = ap cidrs_in ends.parted ∙ (cidrs-append ends.front (ends.row ∷ []) ∙ ap (λ (cidrs : List CidrValue). cidrs_in ends.front ++ cidrs) (cidrs_from_row ends.row [] (Some last) is));
      before = is_before (cidr_cmp last first) test;
    }

-- where a page ends before a block, so do all pages up to it
pub pages_before : (first : CidrValue) (pages : Pages) (i : ℕ) (page : Vec (ℕ × Record)) → page ≡ get_or pages i page → i < length pages
    → EndsBefore first page.items → IsStrictlySortedBy cidr_cmp (cidrs_of pages) → AllBefore first pages (i + 1)
pages_before first pages i page at within ends ascends x has =
    let end = last_before first page.items ends in
    let seen = cidrs_of (take i pages) ++ end.front in
    let rest = cidrs_of (drop (i + 1) pages) in
    let more : take (i + 1) pages ≡ take i pages ++ page ∷ [] =
    take_more pages i page within ∙ ap (λ (p : Vec (ℕ × Record)). take i pages ++ p ∷ []) (sym at) in
    let rows : rows_of_pages (take (i + 1) pages) ≡ rows_of_pages (take i pages) ++ page.items =
    ap rows_of_pages more ∙ (rows-append (take i pages) (page ∷ []) ∙ ap (λ (r : List StoredRecord). rows_of_pages (take i pages) ++ r) (append-nil page.items)) in
    let front : cidrs_of (take (i + 1) pages) ≡ seen ++ end.last ∷ [] =
    ap cidrs_in rows ∙ (cidrs-append (rows_of_pages (take i pages)) page.items
    ∙ (ap (λ (cs : List CidrValue). cidrs_of (take i pages) ++ cs) end.parted
    ∙ sym (append_assoc (cidrs_of (take i pages)) end.front (end.last ∷ [])))) in
    let all : cidrs_of pages ≡ seen ++ end.last ∷ rest =
    pages_parted pages (i + 1) ∙ (ap (λ (cs : List CidrValue). cs ++ rest) front ∙ append_assoc seen (end.last ∷ []) rest) in
    elim (has_parted seen (end.last ∷ []) x (subst (λ (cs : List CidrValue). Has x cs) front has)) [
      | inl earlier ↦ cidr_cmp_total.trans x end.last first (stands_before seen end.last rest (subst Ascend all ascends) x earlier) end.before
      | inr last ↦ elim last [
        | inl same ↦ subst (λ (z : CidrValue). cidr_cmp z first ≡ Less) same end.before
        | inr none ↦ absurd none
      ]
    ]

pub part_from : (first : CidrValue) (all : List CidrValue) (pages behind : Pages) (i : ℕ) → cidrs_of pages ≡ all → behind ≡ drop i pages → AllBefore first pages i → IsPartFrom first all (cidrs_of behind)
part_from first all pages behind i same is before = record {
  seen = cidrs_of (take i pages);
  parted = sym same ∙ (pages_parted pages i ∙ ap (λ (ps : Pages). cidrs_of (take i pages) ++ cidrs_of ps) (sym is));
  before = before;
}
