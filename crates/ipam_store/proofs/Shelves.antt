-- Four lists of rows, one after the other, are read and written at the list of a key alone.
use Rattle.std.proofs.Common.{◌≡◌, ℕ, ◌<◌, ◌≤◌, List, [], ◌∷◌, ◌++◌, filter, Bool, true, false, cond, ap, ◌∙◌, arith, refl}
use Rattle.std.proofs.lemmas.List.{append-nil}
use Rattle.std.specs.declared.cmp.Ordering.TheVariants.{Less}
use Rattle.std.specs.Ordering.{ordering_reverse}
use Rattle.std.specs.List.{All}
use Rattle.std.proofs.lemmas.List.Elements.{All-head, All-tail, All-append, filter-append}
use Rattle.ipam_records.specs.declared.key.Key.{Key}
use Rattle.ipam_records.specs.declared.key.Key.TheVariants as key
use Rattle.ipam_records.specs.declared.key.Kind.{Kind}
use Rattle.ipam_records.specs.declared.key.Kind.TheVariants as kind
use Rattle.ipam_records.specs.declared.record.Record.{Record}
use Rattle.ipam_records.specs.KeyOrder.{key_cmp, key_rank, is_of_kind}
use Rattle.ipam_records.specs.Datastore.{row_key, row_of, with_row, without_row}
use Rattle.ipam_store.specs.declared.shelf.Shelf.{Shelf}
use Rattle.ipam_store.specs.declared.shelf.Shelf.TheVariants.{Singles, Blocks, Affinities, Handles}
use Rattle.ipam_store.specs.Shelf.{shelf_of}
use Rattle.ipam_store.specs.Places.{IsBehind, AllBefore, AllBehind}
use Rattle.ipam_store.specs.Lists.{Lists, all_rows, list_on, with_list, IsOn, AreShelved}
use Rattle.ipam_records.specs.KeyOrderLaws.{key_cmp_total}
use Rattle.ipam_store.proofs.Order.{rank_below}
use Rattle.ipam_store.proofs.Parts.{row_of-right, row_of-left, with_row-right, with_row-left, without-right, without-left}

-- the least and the greatest rank of a list's keys
abbrev least : Shelf → ℕ
least Singles = 0
least Blocks = 3
least Affinities = 4
least Handles = 5

abbrev greatest : Shelf → ℕ
greatest Singles = 2
greatest Blocks = 3
greatest Affinities = 4
greatest Handles = 5

ranked : (k : Key) → (least (shelf_of k) ≤ key_rank k) × (key_rank k ≤ greatest (shelf_of k))
ranked key.Config = (omega arith, omega arith)
ranked key.Pools = (omega arith, omega arith)
ranked key.Reservations = (omega arith, omega arith)
ranked (key.Block cidr) = (omega arith, omega arith)
ranked (key.Affinity node cidr) = (omega arith, omega arith)
ranked (key.Handle id) = (omega arith, omega arith)

apart : (s t : Shelf) → greatest s < least t → (k l : Key) → shelf_of k ≡ s → shelf_of l ≡ t → key_cmp k l ≡ Less
apart s t h k l on_s on_t =
    let from = ranked k in
    let to = ranked l in
    let top = ap greatest on_s in
    let bottom = ap least on_t in
    rank_below k l (omega arith)

before : (s t : Shelf) → greatest s < least t → (rows : List (ℕ × Record)) → All (IsOn s) rows → (k : Key) → shelf_of k ≡ t → AllBefore k rows
before s t h rows all k on_t = λ i d l. apart s t h _ k (all i d l).is on_t

behind : (s t : Shelf) → greatest s < least t → (rows : List (ℕ × Record)) → All (IsOn t) rows → (k : Key) → shelf_of k ≡ s → AllBehind k rows
behind s t h rows all k on_s = λ i d l. key_cmp_total.antisymm _ k ∙ ap ordering_reverse (apart s t h k _ on_s (all i d l).is)

-- ---- of four lists
module _ (lists : Lists) (shelved : AreShelved lists) (k : Key) where
  abbrev affinities_on : List (ℕ × Record)
  affinities_on = lists.affinities ++ lists.handles

  abbrev blocks_on : List (ℕ × Record)
  blocks_on = lists.blocks ++ affinities_on

  singles_before : (t : Shelf) → 2 < least t → shelf_of k ≡ t → AllBefore k lists.singles
  singles_before t h on = before Singles t h lists.singles shelved.singles k on

  blocks_before : (t : Shelf) → 3 < least t → shelf_of k ≡ t → AllBefore k lists.blocks
  blocks_before t h on = before Blocks t h lists.blocks shelved.blocks k on

  affinities_before : shelf_of k ≡ Handles → AllBefore k lists.affinities
  affinities_before on = before Affinities Handles (omega arith) lists.affinities shelved.affinities k on

  handles_behind : (s : Shelf) → greatest s < 5 → shelf_of k ≡ s → AllBehind k lists.handles
  handles_behind s h on = behind s Handles h lists.handles shelved.handles k on

  affinities_behind : (s : Shelf) → greatest s < 4 → shelf_of k ≡ s → AllBehind k affinities_on
  affinities_behind s h on =
      All-append (IsBehind k) lists.affinities lists.handles (behind s Affinities h lists.affinities shelved.affinities k on) (handles_behind s (omega arith) on)

  blocks_behind : (s : Shelf) → greatest s < 3 → shelf_of k ≡ s → AllBehind k blocks_on
  blocks_behind s h on =
      All-append (IsBehind k) lists.blocks affinities_on (behind s Blocks h lists.blocks shelved.blocks k on) (affinities_behind s (omega arith) on)

  pub row_of-shelved : (s : Shelf) → shelf_of k ≡ s → row_of k (all_rows lists) ≡ row_of k (list_on s lists)
  row_of-shelved Singles on = row_of-left k lists.singles blocks_on (blocks_behind Singles (omega arith) on)
  row_of-shelved Blocks on =
      row_of-right k lists.singles blocks_on (singles_before Blocks (omega arith) on)
      ∙ row_of-left k lists.blocks affinities_on (affinities_behind Blocks (omega arith) on)
  row_of-shelved Affinities on =
      row_of-right k lists.singles blocks_on (singles_before Affinities (omega arith) on)
      ∙ row_of-right k lists.blocks affinities_on (blocks_before Affinities (omega arith) on)
      ∙ row_of-left k lists.affinities lists.handles (handles_behind Affinities (omega arith) on)
  row_of-shelved Handles on =
      row_of-right k lists.singles blocks_on (singles_before Handles (omega arith) on)
      ∙ row_of-right k lists.blocks affinities_on (blocks_before Handles (omega arith) on)
      ∙ row_of-right k lists.affinities lists.handles (affinities_before on)

  pub without_row-shelved : (s : Shelf) → shelf_of k ≡ s → without_row k (all_rows lists) ≡ all_rows (with_list s (without_row k (list_on s lists)) lists)
  without_row-shelved Singles on = without-left k lists.singles blocks_on (blocks_behind Singles (omega arith) on)
  without_row-shelved Blocks on =
      without-right k lists.singles blocks_on (singles_before Blocks (omega arith) on)
      ∙ ap (λ x. lists.singles ++ x) (without-left k lists.blocks affinities_on (affinities_behind Blocks (omega arith) on))
  without_row-shelved Affinities on =
      without-right k lists.singles blocks_on (singles_before Affinities (omega arith) on)
      ∙ ap (λ x. lists.singles ++ x) (without-right k lists.blocks affinities_on (blocks_before Affinities (omega arith) on)
      ∙ ap (λ x. lists.blocks ++ x) (without-left k lists.affinities lists.handles (handles_behind Affinities (omega arith) on)))
  without_row-shelved Handles on =
      without-right k lists.singles blocks_on (singles_before Handles (omega arith) on)
      ∙ ap (λ x. lists.singles ++ x) (without-right k lists.blocks affinities_on (blocks_before Handles (omega arith) on)
      ∙ ap (λ x. lists.blocks ++ x) (without-right k lists.affinities lists.handles (affinities_before on)))

pub with_row-shelved : (lists : Lists) → AreShelved lists → (new : ℕ × Record) (s : Shelf) → shelf_of (row_key new) ≡ s → with_row new (all_rows lists) ≡ all_rows (with_list s (with_row new (list_on s lists)) lists)
with_row-shelved lists sh new Singles on = with_row-left new lists.singles _ (blocks_behind lists sh (row_key new) Singles (omega arith) on)
with_row-shelved lists sh new Blocks on =
    with_row-right new lists.singles _ (singles_before lists sh (row_key new) Blocks (omega arith) on)
    ∙ ap (λ x. lists.singles ++ x) (with_row-left new lists.blocks _ (affinities_behind lists sh (row_key new) Blocks (omega arith) on))
with_row-shelved lists sh new Affinities on =
    with_row-right new lists.singles _ (singles_before lists sh (row_key new) Affinities (omega arith) on)
    ∙ ap (λ x. lists.singles ++ x) (with_row-right new lists.blocks _ (blocks_before lists sh (row_key new) Affinities (omega arith) on)
    ∙ ap (λ x. lists.blocks ++ x) (with_row-left new lists.affinities lists.handles (handles_behind lists sh (row_key new) Affinities (omega arith) on)))
with_row-shelved lists sh new Handles on =
    with_row-right new lists.singles _ (singles_before lists sh (row_key new) Handles (omega arith) on)
    ∙ ap (λ x. lists.singles ++ x) (with_row-right new lists.blocks _ (blocks_before lists sh (row_key new) Handles (omega arith) on)
    ∙ ap (λ x. lists.blocks ++ x) (with_row-right new lists.affinities lists.handles (affinities_before lists sh (row_key new) on)))

-- ---- the rows of a kind
abbrev pub shelf_for : Kind → Shelf
shelf_for kind.Block = Blocks
shelf_for kind.Affinity = Affinities
shelf_for kind.Handle = Handles

abbrev is_shelf_for : Kind → Shelf → Bool
is_shelf_for kind.Block Blocks = true
is_shelf_for kind.Affinity Affinities = true
is_shelf_for kind.Handle Handles = true
is_shelf_for _ _ = false

of_kind : (n : Kind) (k : Key) → is_of_kind n k ≡ is_shelf_for n (shelf_of k)
of_kind kind.Block key.Config = refl
of_kind kind.Block key.Pools = refl
of_kind kind.Block key.Reservations = refl
of_kind kind.Block (key.Block cidr) = refl
of_kind kind.Block (key.Affinity node cidr) = refl
of_kind kind.Block (key.Handle id) = refl
of_kind kind.Affinity key.Config = refl
of_kind kind.Affinity key.Pools = refl
of_kind kind.Affinity key.Reservations = refl
of_kind kind.Affinity (key.Block cidr) = refl
of_kind kind.Affinity (key.Affinity node cidr) = refl
of_kind kind.Affinity (key.Handle id) = refl
of_kind kind.Handle key.Config = refl
of_kind kind.Handle key.Pools = refl
of_kind kind.Handle key.Reservations = refl
of_kind kind.Handle (key.Block cidr) = refl
of_kind kind.Handle (key.Affinity node cidr) = refl
of_kind kind.Handle (key.Handle id) = refl

abbrev of : Kind → List (ℕ × Record) → List (ℕ × Record)
of n rows = filter (λ row. is_of_kind n (row_key row)) rows

none_kept : (b : Bool) (none : List (ℕ × Record)) → none ≡ [] → none ≡ cond b none []
none_kept true none e = refl
none_kept false none e = e

one_kept : (b : Bool) (r : ℕ × Record) (rs kept : List (ℕ × Record)) → kept ≡ cond b rs [] → cond b (r ∷ kept) kept ≡ cond b (r ∷ rs) []
one_kept true r rs kept e = ap (λ x. r ∷ x) e
one_kept false r rs kept e = e

of_list : (n : Kind) (s : Shelf) (rows : List (ℕ × Record)) → All (IsOn s) rows → of n rows ≡ cond (is_shelf_for n s) rows []
of_list n s [] all = none_kept (is_shelf_for n s) [] refl
of_list n s (r ∷ rs) all =
    let test : is_of_kind n (row_key r) ≡ is_shelf_for n s = of_kind n (row_key r) ∙ ap (is_shelf_for n) (All-head (IsOn s) r rs all).is in
    ap (λ b. cond b (r ∷ of n rs) (of n rs)) test
    ∙ one_kept (is_shelf_for n s) r rs (of n rs) (of_list n s rs (All-tail (IsOn s) r rs all))

of_four : (n : Kind) (lists : Lists) → AreShelved lists → of n (all_rows lists) ≡ cond (is_shelf_for n Singles) lists.singles [] ++ (cond (is_shelf_for n Blocks) lists.blocks [] ++ (cond (is_shelf_for n Affinities) lists.affinities [] ++ cond (is_shelf_for n Handles) lists.handles []))
of_four n lists sh =
    rw (
      filter-append (λ row. is_of_kind n (row_key row)) lists.singles (lists.blocks ++ (lists.affinities ++ lists.handles)),
      filter-append (λ row. is_of_kind n (row_key row)) lists.blocks (lists.affinities ++ lists.handles),
      filter-append (λ row. is_of_kind n (row_key row)) lists.affinities lists.handles,
      of_list n Singles lists.singles sh.singles,
      of_list n Blocks lists.blocks sh.blocks,
      of_list n Affinities lists.affinities sh.affinities,
      of_list n Handles lists.handles sh.handles,
    ) refl

pub listed-shelved : (n : Kind) (lists : Lists) → AreShelved lists → filter (λ row. is_of_kind n (row_key row)) (all_rows lists) ≡ list_on (shelf_for n) lists
listed-shelved kind.Block lists sh = of_four kind.Block lists sh ∙ append-nil lists.blocks
listed-shelved kind.Affinity lists sh = of_four kind.Affinity lists sh ∙ append-nil lists.affinities
listed-shelved kind.Handle lists sh = of_four kind.Handle lists sh
