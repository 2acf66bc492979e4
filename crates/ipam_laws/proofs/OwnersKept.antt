-- Which steps leave the owners as they are.
use Rattle.std.proofs.Common.{◌≡◌, ℕ, ◌+◌, inl, inr, false, List, [], ◌∷◌, ◌++◌, map, Option, Some, None, refl, sym, ap, ◌∙◌, subst}
use Rattle.std.specs.declared.cmp.Ordering.{Ordering}
use Rattle.std.specs.declared.cmp.Ordering.TheVariants.{Less, Equal, Greater}
use Rattle.std.specs.Ordering.{is_eq}
use Rattle.std.specs.List.Sorted.{IsStrictlySortedBy}
use Rattle.std.proofs.lemmas.Bool.{cases_Bool}
use Rattle.ipam_addr.specs.Shape.{CidrValue}
use Rattle.ipam_block.specs.Operations.{block_without, block_with_ordinal, next_block}
use Rattle.ipam_block.specs.Shape.{BlockValue}
use Rattle.ipam_records.specs.declared.call.Write.TheVariants.{Remove}
use Rattle.ipam_records.specs.declared.key.Key.{Key}
use Rattle.ipam_records.specs.declared.key.Key.TheVariants as key
use Rattle.ipam_records.specs.declared.record.Record.{Record}
use Rattle.ipam_records.specs.declared.record.Record.TheVariants as record_of
use Rattle.ipam_records.specs.Datastore.{Datastore, reply_to_get, row_at, row_key, row_of, with_row, without_row, written}
use Rattle.ipam_records.specs.Key.{key_of}
use Rattle.ipam_records.specs.KeyOrder.{key_cmp, keys_equal}
use Rattle.ipam_records.specs.KeyOrderLaws.{keys_equal-itself, keys_equal-other, same-keys_equal}
use Rattle.ipam_records.specs.Label.{CallLabel, Credit, idle, owing}
use Rattle.ipam_model.specs.Admin.{key_changed}
use Rattle.ipam_model.specs.Affinities.{BlockRead}
use Rattle.ipam_model.specs.AffinityLaw.{HasAt}
use Rattle.ipam_model.specs.Owners.{Owner, owners, owners_in, owners_in_row}
use Rattle.ipam_model.specs.Reads.{StoredRecord}
use Rattle.ipam_laws.proofs.BlockSteps.{IsNoBlock, changed-no-block}
use Rattle.ipam_laws.proofs.Calls.{found-key}
use Rattle.ipam_laws.proofs.Lift.{Known}
use Rattle.ipam_laws.proofs.RequestSteps.{key-changed}
use Rattle.ipam_records.proofs.RowWrites.{later}
use Rattle.ipam_laws.proofs.RowOrder.{below-absent}
use Rattle.ipam_laws.proofs.Steps.{IsAsRead, IsPut, taken, bared, Step, Idles, Owes, Finds, Starts, Takes, Confirms, Marks, Looks, Bares, Deletes, Raises, Lowers, LowersOut, Frees, Assigns, Changes}

-- ---- rows that record the same owners

owners_at : Option StoredRecord → List Owner
owners_at None = []
owners_at (Some row) = owners_in_row row

put-same : (new : StoredRecord) (rows : List StoredRecord) → IsStrictlySortedBy key_cmp (map row_key rows) → owners_in_row new ≡ owners_at (row_of (row_key new) rows) → owners_in (with_row new rows) ≡ owners_in rows
unfolding IsStrictlySortedBy owners_at
put-same new [] s e = ap (λ (l : List Owner). l ++ []) e
put-same new (r ∷ rs) s e = by (key_cmp (row_key new) (row_key r)) refl (put-same new rs s.1)
  where
    by : (o : Ordering) → key_cmp (row_key new) (row_key r) ≡ o → (owners_in_row new ≡ owners_at (row_of (row_key new) rs) → owners_in (with_row new rs) ≡ owners_in rs)
        → owners_in (row_at o new r rs (with_row new rs)) ≡ owners_in_row r ++ owners_in rs
    by Less o rest =
        let none = below-absent (row_key new) (r ∷ rs) (o, later (row_key new) (row_key r) o rs s.0) in
        let empty : owners_in_row new ≡ [] = e ∙ ap owners_at none in
        ap (λ (l : List Owner). l ++ (owners_in_row r ++ owners_in rs)) empty
    by Equal o rest =
        let is = same-keys_equal (row_key new) (row_key r) (ap is_eq o) in
        let here : row_of (row_key new) (r ∷ rs) ≡ Some r = subst (λ (k : Key). row_of k (r ∷ rs) ≡ Some r) (sym is) (rw (keys_equal-itself (row_key r)) refl) in
        ap (λ (l : List Owner). l ++ owners_in rs) (e ∙ ap owners_at here)
    by Greater o rest =
        let differ : keys_equal (row_key r) (row_key new) ≡ false = keys_equal-other (row_key r) (row_key new) (λ same.
        let itself = keys_equal-itself (row_key new) in
        let greater : key_cmp (row_key new) (row_key new) ≡ Greater = ap (key_cmp (row_key new)) (sym same) ∙ o in
        let not_equal : keys_equal (row_key new) (row_key new) ≡ false = ap is_eq greater in
        cc (itself, not_equal)) in
        let beyond : row_of (row_key new) (r ∷ rs) ≡ row_of (row_key new) rs = rw differ refl in
        ap (λ (l : List Owner). owners_in_row r ++ l) (rest (e ∙ ap owners_at beyond))

-- a record that is no block records nobody
nobody : (revision : ℕ) (found : Record) → IsNoBlock (key_of found) → owners_in_row (revision, found) ≡ []
nobody revision (record_of.Block b) h = absurd h
nobody revision (record_of.Config config) h = refl
nobody revision (record_of.Pools pools) h = refl
nobody revision (record_of.Reservations reservations) h = refl
nobody revision (record_of.Affinity a) h = refl
nobody revision (record_of.Handle handle) h = refl

without-same : (k : Key) (rows : List StoredRecord) → IsNoBlock k → owners_in (without_row k rows) ≡ owners_in rows
without-same k [] h = refl
without-same k ((revision, found) ∷ rs) h = elim (cases_Bool (keys_equal (key_of found) k)) [
  | inl same ↦
      let is = same-keys_equal (key_of found) k same in
      let none = nobody revision found (subst (λ (x : Key). IsNoBlock x) (sym is) h) in
      rw same (without-same k rs h ∙ sym (ap (λ (l : List Owner). l ++ owners_in rs) none))
  | inr differ ↦ rw differ (ap (λ (l : List Owner). owners_in_row (revision, found) ++ l) (without-same k rs h))
]

-- ---- steps

abbrev pub IsSorted : Datastore → Type 0
IsSorted store = IsStrictlySortedBy key_cmp (map row_key store.rows)

abbrev SameOwners : (store next : Datastore) → Type 0
SameOwners store next = owners next ≡ owners store

stays : (store next : Datastore) → next ≡ store → SameOwners store next
stays store next e = ap owners e

puts : (store next : Datastore) (new : Record) → IsSorted store → IsPut store next new → IsNoBlock (key_of new) → SameOwners store next
unfolding owners_at
puts store next new sorted e h =
    ap owners e ∙ put-same (store.counter + 1, new) store.rows sorted (nobody (store.counter + 1) new h ∙ sym (none (row_of (key_of new) store.rows) refl))
  where
    none : (o : Option StoredRecord) → row_of (key_of new) store.rows ≡ o → owners_at o ≡ []
    none None f = refl
    none (Some (revision, found)) f = nobody revision found (subst (λ (k : Key). IsNoBlock k) (sym (found-key store (key_of new) revision found f)) h)

removes : (store next : Datastore) (gone : Key) → next ≡ written store (Remove (store.counter + 1) gone) → IsNoBlock gone → SameOwners store next
removes store next gone e h = ap owners e ∙ without-same gone store.rows h

taken-same : (store next : Datastore) (node : List ℕ) (cidr : CidrValue) (read : BlockRead) → IsSorted store → IsAsRead store cidr read → IsPut store next (record_of.Block (taken node cidr read)) → SameOwners store next
unfolding owners_at
taken-same store next node cidr None sorted there e = ap owners e ∙ put-same _ store.rows sorted (sym (ap owners_at there))
taken-same store next node cidr (Some (revision, b)) sorted (same, there) e =
    let at : HasAt store (key.Block b.cidr) revision (record_of.Block b) = subst (λ (x : CidrValue). HasAt store (key.Block x) revision (record_of.Block b)) (sym same) there in
    ap owners e ∙ put-same _ store.rows sorted (sym (ap owners_at at))

bared-same : (store next : Datastore) (node : List ℕ) (cidr : CidrValue) (read : BlockRead) → IsSorted store → IsAsRead store cidr read → IsPut store next (record_of.Block (bared node cidr read)) → SameOwners store next
unfolding owners_at
bared-same store next node cidr None sorted there e = ap owners e ∙ put-same _ store.rows sorted (sym (ap owners_at there))
bared-same store next node cidr (Some (revision, b)) sorted (same, there) e =
    let at : HasAt store (key.Block b.cidr) revision (record_of.Block b) = subst (λ (x : CidrValue). HasAt store (key.Block x) revision (record_of.Block b)) (sym same) there in
    ap owners e ∙ put-same _ store.rows sorted (sym (ap owners_at at))

-- ---- all kinds

-- the owners stay, or a block is written by a request that stands nowhere or owes
pub data OwnersStep (store next : Datastore) (label : CallLabel) : Type 0 where
  Stay : owners next ≡ owners store → OwnersStep store next label
  ByIdle : (new : BlockValue) → label ≡ idle → IsPut store next (record_of.Block new) → OwnersStep store next label
  ByOwing : (new : BlockValue) (credit : Credit) → label ≡ owing credit → IsPut store next (record_of.Block new) → OwnersStep store next label

pub step-owners : (known : Known) (store next : Datastore) (label after : CallLabel) → IsSorted store → Step known store next label after → OwnersStep store next label
step-owners known store next label after sorted (Idles a b) = Stay (stays store next a)
step-owners known store next label after sorted (Owes credit a b c) = Stay (stays store next a)
step-owners known store next label after sorted (Finds tie read kept state a b c d e f) = Stay (stays store next a)
step-owners known store next label after sorted (Starts tie read a b c d) = Stay (puts store next _ sorted a tt)
step-owners known store next label after sorted (Takes tie read kept a b c d e) = Stay (taken-same store next tie.node tie.block read sorted d a)
step-owners known store next label after sorted (Confirms tie kept found a b c d) = Stay (puts store next _ sorted a tt)
step-owners known store next label after sorted (Marks tie revision found a b c d) = Stay (puts store next _ sorted a tt)
step-owners known store next label after sorted (Looks tie read mark a b c d e) = Stay (stays store next a)
step-owners known store next label after sorted (Bares tie read mark a b c d e) = Stay (bared-same store next tie.node tie.block read sorted d a)
step-owners known store next label after sorted (Deletes tie mark found a b c d) = Stay (removes store next (key.Affinity tie.node tie.block) a tt)
step-owners known store next label after sorted (Raises id cidr h a b c d e f) = Stay (puts store next _ sorted a tt)
step-owners known store next label after sorted (Lowers credit h revision first rest a b c d e f) = Stay (puts store next _ sorted a tt)
step-owners known store next label after sorted (LowersOut credit h revision a b c d e f) = Stay (removes store next (key.Handle h.id) a tt)
step-owners known store next label after sorted (Frees what amount revision b s t u v w x y) = ByIdle (block_without what.picks (next_block b)) t s
step-owners known store next label after sorted (Assigns attributes target a b c d e f) = ByOwing (block_with_ordinal (next_block target.block) target.ordinal attributes) _ b a
step-owners known store next label after sorted (Changes request new a b c d e) =
    Stay (puts store next new sorted a (subst (λ (k : Key). IsNoBlock k) (sym (key-changed request (reply_to_get (row_of (key_changed request) store.rows)) new d)) (changed-no-block request)))
