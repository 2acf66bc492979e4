-- A store that keeps its rows keeps them when one is put in or taken out.
use Rattle.std.proofs.Common.{Result, Ok, Err, OnOk, OnErr, ◌⊎◌, inl, inr, None, IsSome, ◌≡◌, ◌↔◌, ℕ, ◌+◌, ◌^◌, ◌<◌, ◌≤◌, List, [], length, not, ◌&&◌, ◌||◌, nat_lt, Bool, true, ap, sym, ◌∙◌, arith, refl, subst}
use Rattle.std.proofs.lemmas.Bool.Decides.{nat_tests}
use Rattle.std.specs.List.Sorted.{IsStrictlySortedBy}
use Rattle.std.proofs.lemmas.List.Elements.{All-nil}
use Rattle.std.proofs.lemmas.List.{length-append}
use Rattle.std.specs.List.{All}
use Rattle.ipam_records.specs.declared.record.Record.{Record}
use Rattle.ipam_records.specs.declared.key.Key.{Key}
use Rattle.ipam_records.specs.declared.key.Key.TheVariants as key
use Rattle.ipam_records.specs.declared.key.Kind.TheVariants as kind
use Rattle.ipam_records.specs.declared.call.Write.TheVariants.{Put, Remove}
use Rattle.ipam_records.specs.Key.{key_of}
use Rattle.ipam_records.specs.KeyOrder.{is_of_kind}
use Rattle.ipam_records.specs.Datastore.{Datastore, row_key, row_of, with_row, without_row, written, rows_of_kind, granted, last_revision, most_rows, most_blocks}
use Rattle.ipam_records.specs.Sound.{IsRow}
use Rattle.ipam_store.specs.Shelf.{shelf_of}
use Rattle.ipam_store.specs.Granted.{IsGranted, IsSoundWrite, HasRoomFor}
use Rattle.ipam_store.specs.Places.{Ascend}
use Rattle.ipam_records.proofs.RowWrites.{All-with_row, All-without_row}
use Rattle.ipam_store.proofs.Keeping.{Ascend-with_row, Ascend-without_row}
use Rattle.ipam_store.proofs.Granting.{facts-from_granted}
use Rattle.ipam_store.proofs.Paging.{by_cases}
use Rattle.ipam_store.proofs.Shelves.{row_of-shelved, with_row-shelved, without_row-shelved, listed-shelved}
use Rattle.ipam_store.specs.declared.shelf.Shelf.{Shelf}
use Rattle.ipam_store.specs.declared.shelf.Shelf.TheVariants.{Singles, Blocks, Affinities, Handles}
use Rattle.ipam_store.specs.Lists.{Lists, all_rows, list_on, with_list, IsOn, AreShelved}
use Rattle.ipam_store.specs.Keeping.{IsKept, content_in, lists_in}
use Rattle.ipam_store.specs.Shape.{StoreValue}
use Rattle.ipam_store.specs.declared.store.LoadFault.{LoadFault}
use Rattle.ipam_store.specs.declared.store.LoadFault.TheVariants.{There}
use Rattle.ipam_store.specs.declared.store.Store.TheInside.{Inside}

pub IsKept-none : (counter : ℕ) → counter ≤ 2 ^ 62 → IsKept (record { singles = []; blocks = []; affinities = []; handles = [] }) counter
unfolding IsStrictlySortedBy
IsKept-none counter small = record {
  shelved = record {
    singles = All-nil (IsOn Singles);
    blocks = All-nil (IsOn Blocks);
    affinities = All-nil (IsOn Affinities);
    handles = All-nil (IsOn Handles);
  };
  sound = record {
    rows = All-nil (IsRow counter);
    ascending = tt;
    counted = small;
  };
  few = omega arith;
  few_blocks = omega arith;
}

less_is : (n m : ℕ) → n < m → nat_lt n m ≡ true
less_is n m h = grind (arith, nat_tests)

-- where the rows are few, the blocks alone decide of a block
pub room_left : (n blocks : ℕ) (block : Bool) → n < 262144 → block ≡ true → (nat_lt n 262144 && (not block || nat_lt blocks 16384)) ≡ nat_lt blocks 16384
room_left n blocks block few is =
    ap (λ b. nat_lt n 262144 && (not b || nat_lt blocks 16384)) is ∙ ap (λ b. b && nat_lt blocks 16384) (less_is n 262144 few)

-- ---- how many rows there are
count_of-all : (lists : Lists) → length (all_rows lists) ≡ length lists.singles + (length lists.blocks + (length lists.affinities + length lists.handles))
count_of-all lists = simp length-append

-- a list has no more rows than there may be
pub list-few : (lists : Lists) (s : Shelf) → length (all_rows lists) ≤ most_rows → length (list_on s lists) < 2 ^ 32
list-few lists Singles few = omega (arith, count_of-all lists)
list-few lists Blocks few = omega (arith, count_of-all lists)
list-few lists Affinities few = omega (arith, count_of-all lists)
list-few lists Handles few = omega (arith, count_of-all lists)

length-with_list : (s : Shelf) (rows : List (ℕ × Record)) (lists : Lists) → length (all_rows (with_list s rows lists)) + length (list_on s lists) ≡ length (all_rows lists) + length rows
length-with_list Singles rows lists = omega (arith, count_of-all lists, count_of-all (with_list Singles rows lists))
length-with_list Blocks rows lists = omega (arith, count_of-all lists, count_of-all (with_list Blocks rows lists))
length-with_list Affinities rows lists = omega (arith, count_of-all lists, count_of-all (with_list Affinities rows lists))
length-with_list Handles rows lists = omega (arith, count_of-all lists, count_of-all (with_list Handles rows lists))

blocks-with_list : (s : Shelf) (rows : List (ℕ × Record)) (lists : Lists) → length lists.blocks ≤ most_blocks → (s ≡ Blocks → length rows ≤ most_blocks) → length (with_list s rows lists).blocks ≤ most_blocks
blocks-with_list Singles rows lists old h = old
blocks-with_list Blocks rows lists old h = h refl
blocks-with_list Affinities rows lists old h = old
blocks-with_list Handles rows lists old h = old

block_is : (k : Key) → shelf_of k ≡ Blocks → is_of_kind kind.Block k ≡ true
block_is key.Config on = cc on
block_is key.Pools on = cc on
block_is key.Reservations on = cc on
block_is (key.Block cidr) on = refl
block_is (key.Affinity node cidr) on = cc on
block_is (key.Handle id) on = cc on

abbrev pub store_of : Lists → ℕ → Datastore
store_of lists counter = record { rows = all_rows lists; counter = counter }

-- ---- a row is put in
shelved-with : (s : Shelf) (rows : List (ℕ × Record)) (lists : Lists) → AreShelved lists → All (IsOn s) rows → AreShelved (with_list s rows lists)
shelved-with Singles rows lists sh all = record { singles = all; blocks = sh.blocks; affinities = sh.affinities; handles = sh.handles }
shelved-with Blocks rows lists sh all = record { singles = sh.singles; blocks = all; affinities = sh.affinities; handles = sh.handles }
shelved-with Affinities rows lists sh all = record { singles = sh.singles; blocks = sh.blocks; affinities = all; handles = sh.handles }
shelved-with Handles rows lists sh all = record { singles = sh.singles; blocks = sh.blocks; affinities = sh.affinities; handles = all }

list_shelved : (s : Shelf) (lists : Lists) → AreShelved lists → All (IsOn s) (list_on s lists)
list_shelved Singles lists sh = sh.singles
list_shelved Blocks lists sh = sh.blocks
list_shelved Affinities lists sh = sh.affinities
list_shelved Handles lists sh = sh.handles

later_row : (old new : ℕ) → old ≤ new → (row : ℕ × Record) → IsRow old row → IsRow new row
later_row old new up row r = record { is_record = r.is_record; some = r.some; given = omega (arith, r.given); counted = r.counted }

pub later_rows : (old new : ℕ) → old ≤ new → (rows : List (ℕ × Record)) → All (IsRow old) rows → All (IsRow new) rows
later_rows old new up rows all = λ i d l. later_row old new up _ (all i d l)

stored-put : (lists : Lists) → AreShelved lists → (new : ℕ × Record) (s : Shelf) → shelf_of (row_key new) ≡ s → (rows : List (ℕ × Record)) → rows ≡ with_row new (list_on s lists) → all_rows (with_list s rows lists) ≡ with_row new (all_rows lists)
stored-put lists sh new s on rows e = ap (λ r. all_rows (with_list s r lists)) e ∙ sym (with_row-shelved lists sh new s on)

stored-remove : (lists : Lists) → AreShelved lists → (k : Key) (s : Shelf) → shelf_of k ≡ s → (rows : List (ℕ × Record)) → rows ≡ without_row k (list_on s lists) → all_rows (with_list s rows lists) ≡ without_row k (all_rows lists)
stored-remove lists sh k s on rows e = ap (λ r. all_rows (with_list s r lists)) e ∙ sym (without_row-shelved lists sh k s on)

-- the row has room, or stands for another
abbrev pub Fits : Lists → ℕ → Shelf → List (ℕ × Record) → Record → Type 0
Fits lists counter s rows value = HasRoomFor (store_of lists counter) value ⊎ (length rows ≡ length (list_on s lists))

fits_blocks : (lists : Lists) (counter : ℕ) → IsKept lists counter → (value : Record) (s : Shelf) → shelf_of (key_of value) ≡ s → (rows : List (ℕ × Record)) → length rows ≤ length (list_on s lists) + 1 → Fits lists counter s rows value → s ≡ Blocks → length rows ≤ most_blocks
fits_blocks lists counter kept value s on rows grown (inl room) is =
    let few = room.few_blocks (block_is (key_of value) (on ∙ is)) in
    let same : length (rows_of_kind kind.Block (store_of lists counter)) ≡ length lists.blocks = ap length (listed-shelved kind.Block lists kept.shelved) in
    let here : length (list_on s lists) ≡ length lists.blocks = ap (λ t. length (list_on t lists)) is in
    omega (arith, few, same, here)
fits_blocks lists counter kept value s on rows grown (inr e) is =
    let here : length (list_on s lists) ≡ length lists.blocks = ap (λ t. length (list_on t lists)) is in
    let few = kept.few_blocks in
    omega (arith, e, here, few)

fits_few : (lists : Lists) (counter : ℕ) → IsKept lists counter → (value : Record) (s : Shelf) (rows : List (ℕ × Record)) → length rows ≤ length (list_on s lists) + 1 → Fits lists counter s rows value → length (all_rows (with_list s rows lists)) ≤ most_rows
fits_few lists counter kept value s rows grown (inl room) =
    let sum = length-with_list s rows lists in
    let few = room.few in
    omega (arith, sum, few)
fits_few lists counter kept value s rows grown (inr e) =
    let sum = length-with_list s rows lists in
    let few = kept.few in
    omega (arith, sum, few, e)

pub kept-put : (lists : Lists) (counter : ℕ) → IsKept lists counter → (revision : ℕ) → counter ≤ revision → revision ≤ last_revision → (new : ℕ × Record) → IsRow revision new → (s : Shelf) → shelf_of (row_key new) ≡ s → (rows : List (ℕ × Record)) → rows ≡ with_row new (list_on s lists) → length rows ≤ length (list_on s lists) + 1 → Fits lists counter s rows new.1 → IsKept (with_list s rows lists) revision
kept-put lists counter kept revision up top new row s on rows e grown fits =
    let stored = stored-put lists kept.shelved new s on rows e in
    let ordered : Ascend (all_rows lists) = record { keys = kept.sound.ascending } in
    record {
      shelved = shelved-with s rows lists kept.shelved (subst (All (IsOn s)) (sym e) (All-with_row (IsOn s) new (list_on s lists) (record { is = on }) (list_shelved s lists kept.shelved)));
      sound = record {
        rows = subst (All (IsRow revision)) (sym stored) (All-with_row (IsRow revision) new (all_rows lists) row (later_rows counter revision up (all_rows lists) kept.sound.rows));
        ascending = (subst Ascend (sym stored) (Ascend-with_row new (all_rows lists) ordered)).keys;
        counted = top;
      };
      few = fits_few lists counter kept new.1 s rows grown fits;
      few_blocks = blocks-with_list s rows lists kept.few_blocks (fits_blocks lists counter kept new.1 s on rows grown fits);
    }

pub kept-remove : (lists : Lists) (counter : ℕ) → IsKept lists counter → (revision : ℕ) → counter ≤ revision → revision ≤ last_revision → (k : Key) (s : Shelf) → shelf_of k ≡ s → (rows : List (ℕ × Record)) → rows ≡ without_row k (list_on s lists) → length rows ≤ length (list_on s lists) → IsKept (with_list s rows lists) revision
kept-remove lists counter kept revision up top k s on rows e fewer =
    let stored = stored-remove lists kept.shelved k s on rows e in
    let ordered : Ascend (all_rows lists) = record { keys = kept.sound.ascending } in
    let sum = length-with_list s rows lists in
    let few = kept.few in
    let few_blocks = kept.few_blocks in
    record {
      shelved = shelved-with s rows lists kept.shelved (subst (All (IsOn s)) (sym e) (All-without_row (IsOn s) k (list_on s lists) (list_shelved s lists kept.shelved)));
      sound = record {
        rows = subst (All (IsRow revision)) (sym stored) (All-without_row (IsRow revision) k (all_rows lists) (later_rows counter revision up (all_rows lists) kept.sound.rows));
        ascending = (subst Ascend (sym stored) (Ascend-without_row k (all_rows lists) ordered)).keys;
        counted = top;
      };
      few = omega arith;
      few_blocks = blocks-with_list s rows lists kept.few_blocks (λ is. let here : length (list_on s lists) ≡ length lists.blocks = ap (λ t. length (list_on t lists)) is in omega (arith, here));
    }

-- ---- what the calls of a store keep
put_fits : (lists : Lists) (counter : ℕ) → IsKept lists counter → (value : Record) (s : Shelf) → shelf_of (key_of value) ≡ s → (rows : List (ℕ × Record)) → (IsSome (row_of (key_of value) (list_on s lists)) → length rows ≡ length (list_on s lists)) → HasRoomFor (store_of lists counter) value ⊎ IsSome (row_of (key_of value) (all_rows lists)) → Fits lists counter s rows value
put_fits lists counter kept value s on rows replaced (inl room) = inl room
put_fits lists counter kept value s on rows replaced (inr there) =
    inr (replaced (subst IsSome (row_of-shelved lists kept.shelved (key_of value) s on) there))

put-kept : (lists : Lists) (counter : ℕ) → IsKept lists counter → (revision : ℕ) (value : Record) → IsGranted (store_of lists counter) (Put revision value) → IsSoundWrite (Put revision value) → (s : Shelf) → shelf_of (key_of value) ≡ s → (rows : List (ℕ × Record)) → rows ≡ with_row (revision, value) (list_on s lists) → (IsSome (row_of (key_of value) (list_on s lists)) → length rows ≡ length (list_on s lists)) → (row_of (key_of value) (list_on s lists) ≡ None → length rows ≡ length (list_on s lists) + 1) → IsKept (with_list s rows lists) revision
put-kept lists counter kept revision value granted sound s on rows e replaced added =
    let grown : length rows ≤ length (list_on s lists) + 1 =
    by_cases (row_of (key_of value) (list_on s lists))
    (λ some. let same = replaced some in omega (arith, same)) (λ none. let more = added none in omega (arith, more)) in
    let facts = facts-from_granted (store_of lists counter) (Put revision value) granted in
    let is : revision ≡ counter + 1 = facts.next.is in
    let below : counter < last_revision = facts.next.below in
    let row : IsRow revision (revision, value) = record { is_record = sound.0; some = omega arith; given = omega arith; counted = sound.1 } in
    kept-put lists counter kept revision (omega arith) (omega arith) (revision, value) row s on rows e grown
    (put_fits lists counter kept value s on rows replaced facts.may)

remove-kept : (lists : Lists) (counter : ℕ) → IsKept lists counter → (revision : ℕ) (k : Key) → IsGranted (store_of lists counter) (Remove revision k) → (s : Shelf) → shelf_of k ≡ s → (rows : List (ℕ × Record)) → rows ≡ without_row k (list_on s lists) → length rows ≤ length (list_on s lists) → IsKept (with_list s rows lists) revision
remove-kept lists counter kept revision k granted s on rows e fewer =
    let facts = facts-from_granted (store_of lists counter) (Remove revision k) granted in
    let is : revision ≡ counter + 1 = facts.next.is in
    let below : counter < last_revision = facts.next.below in
    kept-remove lists counter kept revision (omega arith) (omega arith) k s on rows e fewer

same_list : (s : Shelf) (lists : Lists) (counter : ℕ) → IsKept lists counter → IsKept (with_list s (list_on s lists) lists) counter
same_list Singles lists counter kept = kept
same_list Blocks lists counter kept = kept
same_list Affinities lists counter kept = kept
same_list Handles lists counter kept = kept

load-kept : {E : Type 0} (lists : Lists) (counter : ℕ) → IsKept lists counter → (new : ℕ × Record) → IsRow counter new → HasRoomFor (store_of lists counter) new.1 → (s : Shelf) → shelf_of (row_key new) ≡ s → (rows : List (ℕ × Record)) (r : Result (Unit {0}) E) → OnOk r (rows ≡ with_row new (list_on s lists)) → OnOk r (length rows ≡ length (list_on s lists) + 1) → OnErr r (rows ≡ list_on s lists) → IsKept (with_list s rows lists) counter
load-kept lists counter kept new row room s on rows (Ok x) e grown none =
    kept-put lists counter kept counter (omega arith) kept.sound.counted new row s on rows e (omega (arith, grown)) (inl room)
load-kept lists counter kept new row room s on rows (Err x) none grown e =
    subst (λ r. IsKept (with_list s r lists) counter) (sym e) (same_list s lists counter kept)

load-stored : {E : Type 0} (lists : Lists) → AreShelved lists → (counter : ℕ) (new : ℕ × Record) (s : Shelf) → shelf_of (row_key new) ≡ s → (rows : List (ℕ × Record)) (r : Result (Unit {0}) E) → OnOk r (rows ≡ with_row new (list_on s lists)) → OnOk r (store_of (with_list s rows lists) counter ≡ record { rows = with_row new (all_rows lists); counter = counter })
load-stored lists sh counter new s on rows (Ok x) e =
    let same = stored-put lists sh new s on rows e in
    λ i. record { rows = same i; counter = counter }
load-stored lists sh counter new s on rows (Err x) e = tt

-- ---- the same, of what contracts see of a store
abbrev rows_at : ℕ → List (ℕ × Record) → Datastore
rows_at counter rows = record { rows = rows; counter = counter }

module _ (inside : Inside) (view : StoreValue) (view_is : content_in inside ≡ view) where
  abbrev lists : Lists
  lists = lists_in inside

  pub load-keeps : {E : Type 0} → IsKept lists inside.counter → (new : ℕ × Record) → IsRow view.store.counter new → HasRoomFor view.store new.1 → (s : Shelf) → shelf_of (row_key new) ≡ s → (rows : List (ℕ × Record)) (r : Result (Unit {0}) E) → OnOk r (rows ≡ with_row new (list_on s lists)) → OnOk r (length rows ≡ length (list_on s lists) + 1) → OnErr r (rows ≡ list_on s lists) → IsKept (with_list s rows lists) inside.counter
  load-keeps kept new row room s on rows r ok grown err =
      let here = subst (λ (v : StoreValue). IsRow v.store.counter new) (sym view_is) row in
      let fits = subst (λ (v : StoreValue). HasRoomFor v.store new.1) (sym view_is) room in
      load-kept lists inside.counter kept new here fits s on rows r ok grown err

  pub load-stores : {E : Type 0} → AreShelved lists → (new : ℕ × Record) (s : Shelf) → shelf_of (row_key new) ≡ s → (rows : List (ℕ × Record)) (r : Result (Unit {0}) E) → OnOk r (rows ≡ with_row new (list_on s lists)) → OnOk r (store_of (with_list s rows lists) inside.counter ≡ record view.store { rows = with_row new view.store.rows })
  load-stores sh new s on rows r ok =
      subst (λ (v : StoreValue). OnOk r (store_of (with_list s rows lists) inside.counter ≡ record v.store { rows = with_row new v.store.rows })) view_is (load-stored lists sh inside.counter new s on rows r ok)

  pub load-there : AreShelved lists → (k : Key) (s : Shelf) → shelf_of k ≡ s → (r : Result (Unit {0}) LoadFault) → ((r ≡ Err There) ↔ IsSome (row_of k (list_on s lists))) → (r ≡ Err There) ↔ IsSome (row_of k view.store.rows)
  load-there sh k s on r there =
      subst (λ o. (r ≡ Err There) ↔ IsSome o) (sym (row_of-shelved lists sh k s on) ∙ ap (λ (v : StoreValue). row_of k v.store.rows) view_is) there

  pub put-keeps : IsKept lists inside.counter → (revision : ℕ) (value : Record) → IsGranted view.store (Put revision value) → IsSoundWrite (Put revision value) → (s : Shelf) → shelf_of (key_of value) ≡ s → (rows : List (ℕ × Record)) → rows ≡ with_row (revision, value) (list_on s lists) → (IsSome (row_of (key_of value) (list_on s lists)) → length rows ≡ length (list_on s lists)) → (row_of (key_of value) (list_on s lists) ≡ None → length rows ≡ length (list_on s lists) + 1) → IsKept (with_list s rows lists) revision
  put-keeps kept revision value granted =
      put-kept lists inside.counter kept revision value (subst (λ (v : StoreValue). IsGranted v.store (Put revision value)) (sym view_is) granted)

  pub put-stores : AreShelved lists → (revision : ℕ) (value : Record) (s : Shelf) → shelf_of (key_of value) ≡ s → (rows : List (ℕ × Record)) → rows ≡ with_row (revision, value) (list_on s lists) → store_of (with_list s rows lists) revision ≡ written view.store (Put revision value)
  put-stores sh revision value s on rows e =
      ap (rows_at revision) (stored-put lists sh (revision, value) s on rows e) ∙ ap (λ (v : StoreValue). written v.store (Put revision value)) view_is

  pub remove-keeps : IsKept lists inside.counter → (revision : ℕ) (k : Key) → IsGranted view.store (Remove revision k) → (s : Shelf) → shelf_of k ≡ s → (rows : List (ℕ × Record)) → rows ≡ without_row k (list_on s lists) → length rows ≤ length (list_on s lists) → IsKept (with_list s rows lists) revision
  remove-keeps kept revision k granted =
      remove-kept lists inside.counter kept revision k (subst (λ (v : StoreValue). IsGranted v.store (Remove revision k)) (sym view_is) granted)

  pub remove-stores : AreShelved lists → (revision : ℕ) (k : Key) (s : Shelf) → shelf_of k ≡ s → (rows : List (ℕ × Record)) → rows ≡ without_row k (list_on s lists) → store_of (with_list s rows lists) revision ≡ written view.store (Remove revision k)
  remove-stores sh revision k s on rows e =
      ap (rows_at revision) (stored-remove lists sh k s on rows e) ∙ ap (λ (v : StoreValue). written v.store (Remove revision k)) view_is
