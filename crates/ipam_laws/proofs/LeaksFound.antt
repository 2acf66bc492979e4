-- What the leaks that a collection found are, by its lists.
use Rattle.std.proofs.Common.{◌≡◌, ℕ, inl, inr, Bool, true, false, not, List, [], ◌∷◌, refl, sym, subst, eqb-true}
use Rattle.std.specs.Prelude.{Contains, IsTrue, ◌&&◌, ◌==◌, bytes_eq}
use Rattle.std.specs.List.{filter, list_any}
use Rattle.std.proofs.lemmas.Bool.{cases_Bool}
use Rattle.std.proofs.lemmas.List.Elements.{Contains-append_cases}
use Rattle.ipam_addr.proofs.HoldingLemmas.{same_family_from}
use Rattle.ipam_addr.specs.Holding.{is_same_family}
use Rattle.ipam_block.specs.declared.allocation.Allocation.{Allocation}
use Rattle.ipam_block.specs.Shape.{BlockValue}
use Rattle.ipam_records.specs.declared.key.Kind.TheVariants as kind
use Rattle.ipam_records.specs.declared.record.Record.{Record}
use Rattle.ipam_records.specs.declared.record.Record.TheVariants as record_of
use Rattle.ipam_records.specs.Datastore.{Datastore, rows_of_kind, row_key}
use Rattle.ipam_records.specs.KeyOrder.{is_of_kind}
use Rattle.ipam_model.specs.declared.request.CollectRequest.{CollectRequest}
use Rattle.ipam_model.specs.Moments.{Owns, Recorded}
use Rattle.ipam_model.specs.Owners.{Owner, is_owner_in, owners_in, same_address, same_owner}
use Rattle.ipam_model.specs.Reads.{StoredRecord}
use Rattle.ipam_model.specs.Remove.{Leak, is_in_scope, is_live, leak_of, leaks, leaks_in_row, may_leak, suspects}
use Rattle.ipam_laws.proofs.CountLemmas.{text_cases}
use Rattle.ipam_laws.proofs.Members.{in-filter, in-here, in-nothing, in-there, out-map}
use Rattle.ipam_laws.proofs.Owned.{owner-row, row-owner}

-- ---- tests

both : (a b : Bool) → (a && b) ≡ true → (a ≡ true) × (b ≡ true)
both true true e = (refl, refl)
both true false e = absurd (cc e)
both false b e = absurd (cc e)

not-so : (b : Bool) → not b ≡ true → b ≡ false
not-so true e = absurd (cc e)
not-so false e = refl

is-true : (b : Bool) → b ≡ true → IsTrue b
is-true b e = e

pub same-owner-is : (o p : Owner) → same_owner o p ≡ true → o ≡ p
same-owner-is o p e =
    let (front, stamps) = both (same_address o.address p.address && bytes_eq o.handle p.handle) (o.stamp == p.stamp) e in
    let (address, handles) = both (same_address o.address p.address) (bytes_eq o.handle p.handle) front in
    let (families, numbers) = both (is_same_family o.address.family p.address.family) (o.address.number == p.address.number) address in
    let family = same_family_from o.address.family p.address.family families in
    let number = eqb-true o.address.number p.address.number numbers in
    let handle : o.handle ≡ p.handle = elim (text_cases o.handle p.handle) [
      | inl same ↦ same.1
      | inr differ ↦ let f = differ.0 in absurd (cc (handles, f))
    ] in
    let stamp = eqb-true o.stamp p.stamp stamps in
    λ i. record { address = record { family = family i; number = number i }; handle = handle i; stamp = stamp i }

any-in : {X : Type 0} → (test : X → Bool) (list : List X) → list_any test list ≡ true → (x : X) × Contains list x × (test x ≡ true)
any-in test [] e = absurd (cc e)
any-in test (x ∷ list) e = elim (cases_Bool (test x)) [
  | inl is ↦ (x, in-here x list, is)
  | inr differ ↦
      let rest : list_any test list ≡ true = rw differ at e in
      let (y, among, is) = any-in test list rest in
      (y, in-there y x list among, is)
]

-- ---- owners that are listed

-- who is an owner in the blocks that are listed owns
pub listed-owns : (store : Datastore) (owner : Owner) → is_owner_in (rows_of_kind kind.Block store) owner ≡ true → Owns store owner
listed-owns store owner e =
    let (found, among, same) = any-in (same_owner owner) (owners_in (rows_of_kind kind.Block store)) e in
    let (row, in_list, own) = owner-row (rows_of_kind kind.Block store) found among in
    let in_rows = (in-filter (λ (r : StoredRecord). is_of_kind kind.Block (row_key r)) row store.rows in_list).0 in
    subst (λ (o : Owner). Owns store o) (sym (same-owner-is owner found same)) (row-owner store.rows row found in_rows own)

-- ---- suspects

-- the row and the allocation of a suspect
pub record IsSuspect (store : Datastore) (collect : CollectRequest) (leak : Leak) : Type 0 where
  pub a : Allocation
  pub holding : BlockValue
  pub revision : ℕ
  pub in_rows : Contains store.rows (revision, record_of.Block holding)
  pub held : Contains holding.allocations a
  pub recorded : Recorded store leak.owner a
  pub in_scope : IsTrue (is_in_scope collect.scope a)
  pub not_live : is_live collect.live leak.owner.handle ≡ false
  pub is : leak ≡ leak_of holding.cidr a

suspect-row : (collect : CollectRequest) (rows : List StoredRecord) (leak : Leak) → Contains (suspects collect rows) leak → (row : StoredRecord) × Contains rows row × Contains (leaks_in_row collect row) leak
suspect-row collect [] leak h = absurd (in-nothing leak h)
suspect-row collect (row ∷ rows) leak h = elim (Contains-append_cases (leaks_in_row collect row) (suspects collect rows) leak h) [
  | inl own ↦ (row, in-here row rows, own)
  | inr other ↦ let (found, among, own) = suspect-row collect rows leak other in (found, in-there found row rows among, own)
]

suspect-in : (store : Datastore) (collect : CollectRequest) (leak : Leak) (revision : ℕ) (found : Record) → Contains store.rows (revision, found) → Contains (leaks_in_row collect (revision, found)) leak → IsSuspect store collect leak
suspect-in store collect leak revision (record_of.Block b) among own =
    let (a, kept, is) = out-map (leak_of b.cidr) leak (filter (may_leak collect) b.allocations) own in
    let (there, may) = in-filter (may_leak collect) a b.allocations kept in
    let (scope, live) = both (is_in_scope collect.scope a) (not (is_live collect.live a.attributes.handle)) may in
    subst (λ (x : Leak). IsSuspect store collect x) is (record {
      a = a;
      holding = b;
      revision = revision;
      in_rows = among;
      held = there;
      recorded = record { revision = revision; holding = b; in_rows = among; held = there; is_owner = refl };
      in_scope = is-true (is_in_scope collect.scope a) scope;
      not_live = not-so (is_live collect.live a.attributes.handle) live;
      is = refl;
    })
suspect-in store collect leak revision (record_of.Config config) among own = absurd (in-nothing leak own)
suspect-in store collect leak revision (record_of.Pools pools) among own = absurd (in-nothing leak own)
suspect-in store collect leak revision (record_of.Reservations reservations) among own = absurd (in-nothing leak own)
suspect-in store collect leak revision (record_of.Affinity a) among own = absurd (in-nothing leak own)
suspect-in store collect leak revision (record_of.Handle handle) among own = absurd (in-nothing leak own)

pub suspect-is : (store : Datastore) (collect : CollectRequest) (leak : Leak) → Contains (suspects collect (rows_of_kind kind.Block store)) leak → IsSuspect store collect leak
suspect-is store collect leak h =
    let (row, in_list, own) = suspect-row collect (rows_of_kind kind.Block store) leak h in
    let in_rows = (in-filter (λ (r : StoredRecord). is_of_kind kind.Block (row_key r)) row store.rows in_list).0 in
    suspect-in store collect leak row.0 row.1 in_rows own

-- a suspect that owns still and isn't live
pub record IsFoundLeak (first second : Datastore) (collect : CollectRequest) (live : List (List ℕ)) (leak : Leak) : Type 0 where
  pub suspect : IsSuspect first collect leak
  pub owns : Owns second leak.owner
  pub not_live_still : is_live live leak.owner.handle ≡ false

pub found-leak : (first second : Datastore) (collect : CollectRequest) (live : List (List ℕ)) (leak : Leak) → Contains (leaks (suspects collect (rows_of_kind kind.Block first)) live (rows_of_kind kind.Block second)) leak → IsFoundLeak first second collect live leak
found-leak first second collect live leak h =
    let (among, test) = in-filter (λ (x : Leak). is_owner_in (rows_of_kind kind.Block second) x.owner && not (is_live live x.owner.handle)) leak (suspects collect (rows_of_kind kind.Block first)) h in
    let (owner, dead) = both (is_owner_in (rows_of_kind kind.Block second) leak.owner) (not (is_live live leak.owner.handle)) test in
    record {
      suspect = suspect-is first collect leak among;
      owns = listed-owns second leak.owner owner;
      not_live_still = not-so (is_live live leak.owner.handle) dead;
    }
