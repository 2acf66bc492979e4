-- A DEL and a collection without a grace that run alone come to what the records say.
use Rattle.std.proofs.Common.{◌≡◌, ℕ, ◌+◌, ◌*◌, ◌≤◌, Bool, true, false, cond, List, [], ◌∷◌, ◌++◌, length, map, Some, refl, sym, ap, ◌∙◌, subst, arith}
use Rattle.std.specs.Prelude.{not, ◌&&◌}
use Rattle.std.specs.List.{filter, flat_map, list_any}
use Rattle.std.proofs.lemmas.List.{append-nil, length-map}
use Rattle.ipam_addr.specs.Shape.{CidrValue}
use Rattle.ipam_records.specs.declared.call.Call.TheVariants.{List as ListAll}
use Rattle.ipam_records.specs.declared.key.Key.TheVariants as key
use Rattle.ipam_records.specs.declared.key.Kind.TheVariants as kind
use Rattle.ipam_records.specs.declared.record.Record.TheVariants as record_of
use Rattle.ipam_records.specs.Datastore.{Datastore, last_revision, rows_of_kind, row_key}
use Rattle.ipam_records.specs.KeyOrder.{is_of_kind}
use Rattle.ipam_records.specs.Label.{idle}
use Rattle.ipam_records.specs.Word.{Asks, Waits}
use Rattle.ipam_model.specs.declared.answer.Collected.{Collected}
use Rattle.ipam_model.specs.declared.answer.Item.{Item}
use Rattle.ipam_model.specs.declared.outcome.CollectAnswer.{CollectAnswer}
use Rattle.ipam_model.specs.declared.outcome.DelAnswer.{DelAnswer}
use Rattle.ipam_model.specs.declared.part.Left.{Left}
use Rattle.ipam_model.specs.declared.request.CollectRequest.{CollectRequest}
use Rattle.ipam_model.specs.Counting.{free, freeing_all}
use Rattle.ipam_model.specs.OtherLaws.{owner_in}
use Rattle.ipam_model.specs.Owners.{Owner, is_owner_in, owners_in, owners_in_row, same_owner}
use Rattle.ipam_model.specs.Plain.{Collects, Deletes, Rows, handle_of, plain_collect, plain_del, plain_of, with_all_freed, with_freed, with_leaks_freed}
use Rattle.ipam_model.specs.Reads.{StoredRecord, handle_said, rows_said}
use Rattle.ipam_model.specs.Remove.{Leak, collect_stops, collect_word, del_blocks, del_stops, del_word, free_leaks, freeing_owner, is_live, item_of, leaks, leaks_in_row, suspects, with_item}
use Rattle.ipam_model.specs.Step.{all_left, as_word}
use Rattle.ipam_model.specs.Told.{of_collect, of_del}
use Rattle.ipam_laws.proofs.AloneCalls.{Runs, runs-get, runs-list}
use Rattle.ipam_plain.proofs.Freeing.{Became, free-comes}
use Rattle.ipam_plain.proofs.Writes.{Comes, IsAs, comes-followed, comes-settled}

-- ---- DEL

-- deleted, with the store that stands for the rows
pub record IsDeleted (rows : Rows) (then : Datastore) (told : DelAnswer) : Type 0 where
  pub says : plain_of (of_del told) ≡ Some Deletes
  pub is_as : IsAs then rows

del-blocks : (id : List ℕ) (at : ℕ) (list : List CidrValue) (left : Left) (store : Datastore) (moment : ℕ) (rows : Rows) → IsAs store rows → store.counter + 2 * length list ≤ last_revision
    → Runs [] (Comes left (IsDeleted (with_all_freed id list rows))) store moment (del_blocks id at list left)
unfolding del_blocks
del-blocks id at [] left store moment rows is spare = (refl, record { says = refl; is_as = is })
del-blocks id at (cidr ∷ rest) left store moment rows is spare =
    comes-followed [] left (λ then (many : ℕ). Became (with_freed (freeing_all id cidr) rows) (store.counter + 2) then) (Comes left (IsDeleted (with_all_freed id rest (with_freed (freeing_all id cidr) rows)))) (λ now amount. del_blocks id at rest now) (free (freeing_all id cidr) left) store moment
    (free-comes [] (freeing_all id cidr) left store moment rows is (omega arith))
    (λ then later many b. let most = b.taken in del-blocks id at rest left then later (with_freed (freeing_all id cidr) rows) b.is_as (omega arith))

pub del-comes : (id : List ℕ) (store : Datastore) (moment : ℕ) → IsAs store store.rows → store.counter + 2 * length (handle_of id store.rows).counts ≤ last_revision
    → Runs [] (IsDeleted (plain_del id store.rows).1) store moment (del_word id)
del-comes id store moment is spare =
    let Q = IsDeleted (plain_del id store.rows).1 in
    let cidrs = map (λ (count : CidrValue × ℕ). count.0) (handle_of id store.rows).counts in
    runs-get [] Q store moment idle (key.Handle id) (λ at said. as_word del_stops (del_blocks id at (map (λ count. count.0) (handle_said id said).counts) all_left))
    (λ good. comes-settled [] all_left Q del_stops (del_blocks id moment cidrs all_left) store (moment + 1)
    (del-blocks id moment cidrs all_left store (moment + 1) store.rows is (subst (λ (n : ℕ). store.counter + 2 * n ≤ last_revision) (sym (length-map (handle_of id store.rows).counts (λ (count : CidrValue × ℕ). count.0))) spare)))

-- ---- what a collection finds

-- what only blocks have is had by the blocks that are listed
listed-all : {X : Type 0} → (f : StoredRecord → List X) → ((row : StoredRecord) → is_of_kind kind.Block (row_key row) ≡ false → f row ≡ []) → (rows : Rows) → flat_map f (filter (λ row. is_of_kind kind.Block (row_key row)) rows) ≡ flat_map f rows
listed-all f none [] = refl
listed-all {X} f none (row ∷ rows) = by (is_of_kind kind.Block (row_key row)) refl (listed-all f none rows)
  where
    by : (b : Bool) → is_of_kind kind.Block (row_key row) ≡ b → flat_map f (filter (λ r. is_of_kind kind.Block (row_key r)) rows) ≡ flat_map f rows
        → flat_map f (cond b (row ∷ filter (λ r. is_of_kind kind.Block (row_key r)) rows) (filter (λ r. is_of_kind kind.Block (row_key r)) rows)) ≡ f row ++ flat_map f rows
    by true e rest = ap (λ (l : List X). f row ++ l) rest
    by false e rest = rest ∙ ap (λ (l : List X). l ++ flat_map f rows) (sym (none row e))

no-owners : (row : StoredRecord) → is_of_kind kind.Block (row_key row) ≡ false → owners_in_row row ≡ []
no-owners (revision, record_of.Block b) e = absurd (cc e)
no-owners (revision, record_of.Config config) e = refl
no-owners (revision, record_of.Pools pools) e = refl
no-owners (revision, record_of.Reservations reservations) e = refl
no-owners (revision, record_of.Affinity a) e = refl
no-owners (revision, record_of.Handle h) e = refl

no-leaks : (request : CollectRequest) (row : StoredRecord) → is_of_kind kind.Block (row_key row) ≡ false → leaks_in_row request row ≡ []
no-leaks request (revision, record_of.Block b) e = absurd (cc e)
no-leaks request (revision, record_of.Config config) e = refl
no-leaks request (revision, record_of.Pools pools) e = refl
no-leaks request (revision, record_of.Reservations reservations) e = refl
no-leaks request (revision, record_of.Affinity a) e = refl
no-leaks request (revision, record_of.Handle h) e = refl

filter-same : {X : Type 0} → (p q : X → Bool) → ((x : X) → p x ≡ q x) → (xs : List X) → filter p xs ≡ filter q xs
filter-same p q same [] = refl
filter-same p q same (x ∷ xs) = let here = same x in let rest = filter-same p q same xs in λ i. cond (here i) (x ∷ rest i) (rest i)

abbrev found_in_rows : CollectRequest → Rows → List Leak
found_in_rows request rows = leaks (suspects request rows) request.live rows

-- what is found in the lists of blocks is what is found in the rows
found-same : (request : CollectRequest) (store : Datastore) → leaks (suspects request (rows_of_kind kind.Block store)) request.live (rows_of_kind kind.Block store) ≡ found_in_rows request store.rows
found-same request store =
    let kept : suspects request (rows_of_kind kind.Block store) ≡ suspects request store.rows = listed-all (leaks_in_row request) (no-leaks request) store.rows in
    let owned : owners_in (rows_of_kind kind.Block store) ≡ owners_in store.rows = listed-all owners_in_row no-owners store.rows in
    ap (λ (l : List Leak). leaks l request.live (rows_of_kind kind.Block store)) kept
    ∙ filter-same (λ (leak : Leak). is_owner_in (rows_of_kind kind.Block store) leak.owner && not (is_live request.live leak.owner.handle)) (λ (leak : Leak). is_owner_in store.rows leak.owner && not (is_live request.live leak.owner.handle))
    (λ leak. ap (λ (l : List Owner). list_any (same_owner leak.owner) l && not (is_live request.live leak.owner.handle)) owned) (suspects request store.rows)

-- ---- a collection

abbrev owners_of : List Leak → List Owner
owners_of = map (λ (leak : Leak). leak.owner)

-- these were collected, and the store stands for the rows
pub record IsCollectedOf (found : List Owner) (rows : Rows) (then : Datastore) (told : CollectAnswer) : Type 0 where
  pub says : plain_of (of_collect told) ≡ Some (Collects found)
  pub is_as : IsAs then rows

items-more : (done : Collected) (leak : Leak) (amount : ℕ) (rest : List Owner) → map owner_in (with_item done (item_of leak amount)).items ++ rest ≡ map owner_in done.items ++ leak.owner ∷ rest
items-more done leak amount rest = by done.items
  where
    by : (items : List Item) → map owner_in (items ++ item_of leak amount ∷ []) ++ rest ≡ map owner_in items ++ leak.owner ∷ rest
    by [] = refl
    by (item ∷ more) = ap (λ (l : List Owner). owner_in item ∷ l) (by more)

free-leaks : (live : List (List ℕ)) (done : Collected) (list : List Leak) (left : Left) (store : Datastore) (moment : ℕ) (rows : Rows) → IsAs store rows → store.counter + 2 * length list ≤ last_revision
    → Runs live (Comes left (IsCollectedOf (map owner_in done.items ++ owners_of list) (with_leaks_freed list rows))) store moment (free_leaks done list left)
unfolding free_leaks
free-leaks live done [] left store moment rows is spare =
    (refl, record { says = ap (λ (l : List Owner). Some (Collects l)) (sym (append-nil (map owner_in done.items))); is_as = is })
free-leaks live done (leak ∷ rest) left store moment rows is spare =
    let what = freeing_owner leak.owner leak.block in
    let whole = map owner_in done.items ++ leak.owner ∷ owners_of rest in
    comes-followed live left (λ then (many : ℕ). Became (with_freed what rows) (store.counter + 2) then) (Comes left (IsCollectedOf whole (with_leaks_freed rest (with_freed what rows)))) (λ now amount. free_leaks (with_item done (item_of leak amount)) rest now) (free what left) store moment
    (free-comes live what left store moment rows is (omega arith))
    (λ then later many b.
    let most = b.taken in
    subst (λ (l : List Owner). Runs live (Comes left (IsCollectedOf l (with_leaks_freed rest (with_freed what rows)))) then later (free_leaks (with_item done (item_of leak many)) rest left)) (items-more done leak many (owners_of rest))
    (free-leaks live (with_item done (item_of leak many)) rest left then later (with_freed what rows) b.is_as (omega arith)))

pub collect-comes : (request : CollectRequest) (store : Datastore) (moment : ℕ) → IsAs store store.rows → store.counter + 2 * length (leaks (suspects request store.rows) request.live store.rows) ≤ last_revision
    → Runs request.live (IsCollectedOf (owners_of (leaks (suspects request store.rows) request.live store.rows)) (plain_collect request store.rows).1) store moment (collect_word request)
collect-comes request store moment is spare =
    let live = request.live in
    let Q = IsCollectedOf (owners_of (found_in_rows request store.rows)) (plain_collect request store.rows).1 in
    let blocks = rows_of_kind kind.Block store in
    let done : Collected = record { b1 = moment; b2 = moment + 1 + 1; items = [] } in
    runs-list live Q store moment idle kind.Block
    (λ b1 first. Waits (λ list. Asks idle (ListAll kind.Block) (λ b2 said. as_word collect_stops (free_leaks (record { b1 = b1; b2 = b2; items = [] }) (leaks (suspects request (rows_said first)) list (rows_said said)) all_left))))
    (λ g1. runs-list live Q store (moment + 1 + 1) idle kind.Block
    (λ b2 said. as_word collect_stops (free_leaks (record { b1 = moment; b2 = b2; items = [] }) (leaks (suspects request blocks) live (rows_said said)) all_left))
    (λ g2. comes-settled live all_left Q collect_stops (free_leaks done (leaks (suspects request blocks) live blocks) all_left) store (moment + 1 + 1 + 1)
    (subst (λ (l : List Leak). Runs live (Comes all_left Q) store (moment + 1 + 1 + 1) (free_leaks done l all_left)) (sym (found-same request store))
    (free-leaks live done (found_in_rows request store.rows) all_left store (moment + 1 + 1 + 1) store.rows is spare))))
