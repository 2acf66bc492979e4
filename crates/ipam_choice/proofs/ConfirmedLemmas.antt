-- The set of the blocks whose affinity is confirmed.
use Rattle.std.proofs.Common.{◌≡◌, ℕ, ◌||◌, Bool, true, false, cond, List, ◌∷◌, Some, None, refl, sym, ap, ◌∙◌, subst, ◌&&◌, bytes_eq, suc, ◌+◌, ◌<◌, length, get_or, drop, add-one, drop-cons}
use Rattle.std.specs.List.{list_any}
use Rattle.std.specs.Global.{Vec}
use Rattle.std.proofs.lemmas.List.Folds.{list_any-append}
use Rattle.ipam_records.specs.Pages.{rows_of_pages}
use Rattle.std.specs.declared.cmp.Ordering.{Ordering}
use Rattle.std.specs.BTreeSet.{BTreeSet, contains, Updates}
use Rattle.std.specs.BTreeMap.{is_at}
use Rattle.ipam_addr.specs.Shape.{CidrValue}
use Rattle.ipam_addr.specs.contracts.cidrs.CidrOrd.TheImpl.{ghosts}
use Rattle.ipam_block.specs.Order.{cidr_cmp}
use Rattle.ipam_records.proofs.KeysCompared.{cidrs_compared}
use Rattle.ipam_records.specs.declared.record.Record.{Record}
use Rattle.ipam_records.specs.declared.record.Record.TheVariants as record_of
use Rattle.ipam_model.specs.Usable.{is_same_cidr}
use Rattle.ipam_model.specs.Choice.{is_confirmed_for, is_confirmed_state}
use Rattle.ipam_choice.specs.Confirmed.{confirmed_in, is_there}

pub one_order : ghosts.cmp ≡ cidr_cmp
one_order i r s = cidrs_compared r s i

cond_or : (b x : Bool) → cond b true x ≡ (x || b)
cond_or true true = refl
cond_or true false = refl
cond_or false true = refl
cond_or false false = refl

pub has_added : (old new : BTreeSet CidrValue) (cidr other : CidrValue) → Updates ghosts.cmp old new cidr true → contains cidr_cmp new other ≡ (contains cidr_cmp old other || is_same_cidr cidr other)
has_added old new cidr other updates =
    subst (λ (cmp : CidrValue → CidrValue → Ordering). contains cmp new other ≡ cond (is_at (cmp cidr) other) true (contains cmp old other)) one_order (updates.0 other)
    ∙ cond_or (is_same_cidr cidr other) (contains cidr_cmp old other)

tested : (a b : Bool) (cidr other : CidrValue) → is_there (cond (a && b) (Some cidr) None) other ≡ (a && is_same_cidr cidr other && b)
tested true true cidr other = and-true (is_same_cidr cidr other)
  where
    and-true : (b : Bool) → b ≡ (b && true)
    and-true true = refl
    and-true false = refl
tested true false cidr other = and-false (is_same_cidr cidr other)
  where
    and-false : (b : Bool) → false ≡ (b && false)
    and-false true = refl
    and-false false = refl
tested false b cidr other = refl

pub is_there-confirmed : (node : List ℕ) (revision : ℕ) (kept : Record) (other : CidrValue) → is_there (confirmed_in node kept) other ≡ is_confirmed_for node other (revision, kept)
is_there-confirmed node revision (record_of.Config c) other = refl
is_there-confirmed node revision (record_of.Pools p) other = refl
is_there-confirmed node revision (record_of.Reservations r) other = refl
is_there-confirmed node revision (record_of.Block b) other = refl
is_there-confirmed node revision (record_of.Affinity a) other =
    tested (bytes_eq a.node node) (is_confirmed_state a.state) a.cidr other
is_there-confirmed node revision (record_of.Handle h) other = refl

pub or-assoc : (a b c : Bool) → ((a || b) || c) ≡ (a || (b || c))
or-assoc true b c = refl
or-assoc false b c = refl

drop_step : {X : Type 0} (xs : List X) (i : ℕ) (x : X) → x ≡ get_or xs i x → i < length xs → drop i xs ≡ x ∷ drop (i + 1) xs
drop_step xs i x is within = rw (add-one, drop-cons xs i x) (ap (λ y. y ∷ drop (suc i) xs) (sym is))

-- what is still to be added once a row was
pub row_passed : (node : List ℕ) (cidr : CidrValue) (rows : List (ℕ × Record)) (i : ℕ) (row : ℕ × Record) → row ≡ get_or rows i row → i < length rows
    → (old new : Bool) → new ≡ (old || is_there (confirmed_in node row.1) cidr)
    → (new || list_any (is_confirmed_for node cidr) (drop (i + 1) rows)) ≡ (old || list_any (is_confirmed_for node cidr) (drop i rows))
row_passed node cidr rows i row is within old new added =
    ap (λ b. b || list_any (is_confirmed_for node cidr) (drop (i + 1) rows)) (added ∙ ap (λ b. old || b) (is_there-confirmed node row.0 row.1 cidr))
    ∙ (or-assoc old (is_confirmed_for node cidr row) (list_any (is_confirmed_for node cidr) (drop (i + 1) rows))
    ∙ ap (λ xs. old || list_any (is_confirmed_for node cidr) xs) (sym (drop_step rows i row is within)))

-- and once a page was
pub page_passed : (node : List ℕ) (cidr : CidrValue) (pages : List (Vec (ℕ × Record))) (i : ℕ) (page : Vec (ℕ × Record)) → page ≡ get_or pages i page → i < length pages
    → (old new : Bool) → new ≡ (old || list_any (is_confirmed_for node cidr) page.items)
    → (new || list_any (is_confirmed_for node cidr) (rows_of_pages (drop (i + 1) pages))) ≡ (old || list_any (is_confirmed_for node cidr) (rows_of_pages (drop i pages)))
page_passed node cidr pages i page is within old new added =
    ap (λ b. b || list_any (is_confirmed_for node cidr) (rows_of_pages (drop (i + 1) pages))) added
    ∙ (or-assoc old (list_any (is_confirmed_for node cidr) page.items) (list_any (is_confirmed_for node cidr) (rows_of_pages (drop (i + 1) pages)))
    ∙ ap (λ b. old || b) (sym (list_any-append (is_confirmed_for node cidr) page.items (rows_of_pages (drop (i + 1) pages)))
    ∙ ap (λ (xs : List (Vec (ℕ × Record))). list_any (is_confirmed_for node cidr) (rows_of_pages xs)) (sym (drop_step pages i page is within))))
