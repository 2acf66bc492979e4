-- The routes of a datastore after a write.
use Rattle.std.proofs.Common.{◌≡◌, ℕ, Bool, true, false, not, cond, Option, Some, None, List, map, sym, ap, ◌∙◌, refl, subst}
use Rattle.std.specs.Option.{option_to_list}
use Rattle.std.specs.List.Sorted.{IsStrictlySortedBy}
use Rattle.ipam_records.specs.declared.key.Key.TheVariants as key
use Rattle.ipam_records.specs.declared.record.Record.{Record}
use Rattle.ipam_records.specs.declared.record.Record.TheVariants as record_of
use Rattle.ipam_records.specs.declared.call.Write.{Write}
use Rattle.ipam_records.specs.declared.call.Write.TheVariants.{Put, Remove}
use Rattle.ipam_records.specs.KeyOrder.{key_cmp}
use Rattle.ipam_records.specs.Datastore.{Datastore, row_key, written}
use Rattle.ipam_records.proofs.RowWrites.{sorted-with_row, sorted-without_row}
use Rattle.ipam_store.specs.declared.route.Route.{Route}
use Rattle.ipam_store.specs.declared.change.Change.{Change}
use Rattle.ipam_store.specs.Route.{is_confirmed, routes_in, route_cmp, has_route}
use Rattle.ipam_store.specs.Change.{differences, Leads}
use Rattle.ipam_store.specs.Feed.{write_revision}
use Rattle.ipam_store.specs.Turned.{change_meant, if_change, change_of, turned, turned_by}
use Rattle.ipam_store.proofs.Routes.{with-here, with-new, without-here, without-absent}
use Rattle.ipam_store.proofs.Differences.{differences-up, differences-down, differences-none}
use Rattle.ipam_store.proofs.FeedRows.{routes-with_row, routes-with_other, routes-without_row, routes-without_other, some_same}

-- ---- the order of rows
abbrev pub Ascend : List (ℕ × Record) → Type 0
Ascend rows = IsStrictlySortedBy key_cmp (map row_key rows)

pub ascend-written : (store : Datastore) (write : Write) → Ascend store.rows → Ascend (written store write).rows
ascend-written store (Put revision new) s = sorted-with_row (revision, new) store.rows s
ascend-written store (Remove revision k) s = sorted-without_row k store.rows s

pub counter-written : (store : Datastore) (write : Write) → (written store write).counter ≡ write_revision write
counter-written store (Put revision new) = refl
counter-written store (Remove revision k) = refl

-- ---- what a write makes of the routes
pub routes-written : (store : Datastore) (write : Write) → Ascend store.rows → routes_in (written store write) ≡ turned_by (change_meant write) (routes_in store)
routes-written store (Put revision (record_of.Config c)) s = routes-with_other (revision, record_of.Config c) refl store.rows
routes-written store (Put revision (record_of.Pools p)) s = routes-with_other (revision, record_of.Pools p) refl store.rows
routes-written store (Put revision (record_of.Reservations r)) s = routes-with_other (revision, record_of.Reservations r) refl store.rows
routes-written store (Put revision (record_of.Block b)) s = routes-with_other (revision, record_of.Block b) refl store.rows
routes-written store (Put revision (record_of.Affinity a)) s = routes-with_row (revision, record_of.Affinity a) (record { node = a.node; cidr = a.cidr }) (is_confirmed a.state) refl refl store.rows s
routes-written store (Put revision (record_of.Handle h)) s = routes-with_other (revision, record_of.Handle h) refl store.rows
routes-written store (Remove revision key.Config) s = routes-without_other key.Config refl store.rows
routes-written store (Remove revision key.Pools) s = routes-without_other key.Pools refl store.rows
routes-written store (Remove revision key.Reservations) s = routes-without_other key.Reservations refl store.rows
routes-written store (Remove revision (key.Block cidr)) s = routes-without_other (key.Block cidr) refl store.rows
routes-written store (Remove revision (key.Affinity node cidr)) s = routes-without_row (record { node = node; cidr = cidr }) store.rows
routes-written store (Remove revision (key.Handle id)) s = routes-without_other (key.Handle id) refl store.rows

pub revision-meant : (write : Write) (change : Change) → change_meant write ≡ Some change → change.revision ≡ write_revision write
revision-meant (Put revision (record_of.Config c)) change e = absurd (cc e)
revision-meant (Put revision (record_of.Pools p)) change e = absurd (cc e)
revision-meant (Put revision (record_of.Reservations r)) change e = absurd (cc e)
revision-meant (Put revision (record_of.Block b)) change e = absurd (cc e)
revision-meant (Put revision (record_of.Affinity a)) change e = ap (λ (c : Change). c.revision) (some_same change (record { revision = revision; route = record { node = a.node; cidr = a.cidr }; up = is_confirmed a.state }) (sym e))
revision-meant (Put revision (record_of.Handle h)) change e = absurd (cc e)
revision-meant (Remove revision key.Config) change e = absurd (cc e)
revision-meant (Remove revision key.Pools) change e = absurd (cc e)
revision-meant (Remove revision key.Reservations) change e = absurd (cc e)
revision-meant (Remove revision (key.Block cidr)) change e = absurd (cc e)
revision-meant (Remove revision (key.Affinity node cidr)) change e = ap (λ (c : Change). c.revision) (some_same change (record { revision = revision; route = record { node = node; cidr = cidr }; up = false }) (sym e))
revision-meant (Remove revision (key.Handle id)) change e = absurd (cc e)

-- ---- the change that a write makes
abbrev pub RoutesAscend : List Route → Type 0
RoutesAscend = IsStrictlySortedBy route_cmp

pub record IsChangeOf (revision : ℕ) (routes after : List Route) (change : Option Change) : Type 0 where
  pub after_is : after ≡ turned_by change routes
  pub differ : differences revision routes after ≡ option_to_list change
  pub leads : Leads routes (option_to_list change) after

module _ (revision : ℕ) (routes : List Route) (ascend : RoutesAscend routes) (route : Route) where
  abbrev change_to : Bool → Change
  change_to up = record { revision = revision; route = route; up = up }

  coming : (b : Bool) → has_route routes route ≡ b → IsChangeOf revision routes (turned true route routes) (cond (not b) (Some (change_to true)) None)
  coming true there = record {
    after_is = with-here route routes ascend there;
    differ = ap (differences revision routes) (with-here route routes ascend there) ∙ differences-none revision routes;
    leads = sym (with-here route routes ascend there);
  }
  coming false absent = record {
    after_is = refl;
    differ = differences-up revision route routes (turned true route routes) (with-new route routes absent);
    leads = (turned true route routes, with-new route routes absent, refl);
  }

  going : (b : Bool) → has_route routes route ≡ b → IsChangeOf revision routes (turned false route routes) (cond b (Some (change_to false)) None)
  going true there = record {
    after_is = refl;
    differ = differences-down revision route routes (turned false route routes) (without-here route routes ascend there);
    leads = (turned false route routes, without-here route routes ascend there, refl);
  }
  going false absent = record {
    after_is = without-absent route routes absent;
    differ = ap (differences revision routes) (without-absent route routes absent) ∙ differences-none revision routes;
    leads = sym (without-absent route routes absent);
  }

  pub changing : (up : Bool) → IsChangeOf revision routes (turned up route routes) (if_change routes (Some (change_to up)))
  changing true = coming (has_route routes route) refl
  changing false = going (has_route routes route) refl

pub IsChangeOf-meant : (revision : ℕ) (routes : List Route) → RoutesAscend routes → (meant : Option Change) → ((change : Change) → meant ≡ Some change → change.revision ≡ revision) → IsChangeOf revision routes (turned_by meant routes) (if_change routes meant)
IsChangeOf-meant revision routes ascend None own = record { after_is = refl; differ = differences-none revision routes; leads = refl }
IsChangeOf-meant revision routes ascend (Some change) own =
    let P : ℕ → Type 0 = λ v. IsChangeOf v routes (turned change.up change.route routes) (if_change routes (Some change)) in
    subst P (own change refl) (changing change.revision routes ascend change.route change.up)

pub write-changes : (store : Datastore) (write : Write) → Ascend store.rows → RoutesAscend (routes_in store) → IsChangeOf (write_revision write) (routes_in store) (routes_in (written store write)) (change_of (routes_in store) write)
write-changes store write s ascend =
    let P : List Route → Type 0 = λ after. IsChangeOf (write_revision write) (routes_in store) after (change_of (routes_in store) write) in
    subst P (sym (routes-written store write s)) (IsChangeOf-meant (write_revision write) (routes_in store) ascend (change_meant write) (revision-meant write))
