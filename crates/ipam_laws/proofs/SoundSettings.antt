-- Which pools and reservations that an operator's change writes are sound.
use Rattle.std.proofs.Common.{◌≡◌, ◌≢◌, ℕ, zero, suc, ◌<◌, Bool, true, false, cond, List, [], ◌∷◌, ◌++◌, map, length, get_or, Option, Some, None, refl, sym, ◌∙◌, subst, arith, bytes_eq}
use Rattle.std.specs.Prelude.{All, AllPairs, not, nat_le, IsTrue}
use Rattle.std.specs.List.{list_any, filter}
use Rattle.std.proofs.lemmas.Bool.{leb-false}
use Rattle.std.proofs.lemmas.List.{length-append}
use Rattle.std.proofs.lemmas.List.Elements.{All-append, All-cons, All-filter, All-head, All-tail}
use Rattle.std.proofs.lemmas.List.Filters.{length-filter_both}
use Rattle.std.proofs.lemmas.List.Kept.{AllPairs-filter}
use Rattle.std.proofs.lemmas.List.Quantifiers.{all_pairs_push}
use Rattle.std.proofs.lemmas.Slice.Eq.{bytes_eq-Decides}
use Rattle.ipam_addr.specs.Names.{is_name_text}
use Rattle.ipam_pool.specs.declared.pools.Pool.{Pool}
use Rattle.ipam_pool.specs.declared.pools.PoolRefusal.{PoolRefusal}
use Rattle.ipam_pool.specs.declared.pools.PoolRefusal.TheVariants.{NameTaken, Overlap, Size, Prefix, TooMany, Memory}
use Rattle.ipam_pool.specs.Changes.{has_name, refusal_of, with_disabled, with_named_disabled, with_rules, with_named_rules}
use Rattle.ipam_pool.proofs.Accepting.{IsPoolTable-push, none_passes}
use Rattle.ipam_pool.proofs.Changing.{IsPoolTable-with_disabled, IsPoolTable-with_rules}
use Rattle.ipam_select.specs.Formula.{Formula}
use Rattle.ipam_select.specs.Sound.{is_sound}
use Rattle.ipam_pool.specs.declared.pools.Mode.{Mode}
use Rattle.ipam_pool.specs.Shape.{ReservationValue}
use Rattle.ipam_records.specs.declared.record.Record.{Record}
use Rattle.ipam_records.specs.declared.record.Record.TheVariants as record_of
use Rattle.ipam_records.specs.Datastore.{reply_to_get}
use Rattle.ipam_records.specs.Sound.{IsRecord, IsPoolsRecord, IsReservation, IsReservationsRecord}
use Rattle.ipam_model.specs.declared.request.Admin.{Admin}
use Rattle.ipam_model.specs.declared.request.Admin.TheVariants as change_of
use Rattle.ipam_model.specs.Admin as change
use Rattle.ipam_model.specs.Reads.{StoredRecord, pools_said, reservations_said}
use Rattle.ipam_model.specs.SoundRequest.{IsSoundChange}
use Rattle.ipam_record_text.specs.Pools.{IsSoundPool}

-- ---- pools

no-pools : IsPoolsRecord []
no-pools = record {
  table = record {
    few = omega arith;
    ranges = λ k d within. absurd (omega arith);
    sizes = λ k d within. absurd (omega arith);
    names = λ i j d below within. absurd (omega arith);
    apart = λ i j d below within. absurd (omega arith);
  };
  names = λ k d within. absurd (omega arith);
  selectors = λ k d within. absurd (omega arith);
}

pushed-pools : (pools : List Pool) (pool : Pool) → IsPoolsRecord pools → IsSoundPool pool → refusal_of pools pool ≡ None → IsPoolsRecord (pools ++ pool ∷ [])
pushed-pools pools pool h sound none = record {
  table = IsPoolTable-push pools pool h.table sound.cidr none;
  names = All-append (λ (p : Pool). IsTrue (is_name_text p.name)) pools (pool ∷ []) h.names (All-cons (λ (p : Pool). IsTrue (is_name_text p.name)) pool [] sound.name (λ k d within. absurd (omega arith)));
  selectors = All-append (λ (p : Pool). IsTrue (is_sound p.selector)) pools (pool ∷ []) h.selectors (All-cons (λ (p : Pool). IsTrue (is_sound p.selector)) pool [] sound.selector (λ k d within. absurd (omega arith)));
}

-- what a change of each pool keeps of it holds of all
kept-each : (P : Pool → Type 0) (change : Pool → Pool) → ((p : Pool) → P p → P (change p)) → (pools : List Pool) → All P pools → All P (map change pools)
kept-each P change keeps [] h = λ k d within. absurd (omega arith)
kept-each P change keeps (p ∷ pools) h = All-cons P (change p) (map change pools) (keeps p (All-head P p pools h)) (kept-each P change keeps pools (All-tail P p pools h))

disabled-pools : (name : List ℕ) (disabled : Bool) (pools : List Pool) → IsPoolsRecord pools → IsPoolsRecord (with_disabled name disabled pools)
disabled-pools name disabled pools h = record {
  table = IsPoolTable-with_disabled name disabled pools h.table;
  names = kept-each (λ (p : Pool). IsTrue (is_name_text p.name)) (with_named_disabled name disabled) (λ p named. named) pools h.names;
  selectors = kept-each (λ (p : Pool). IsTrue (is_sound p.selector)) (with_named_disabled name disabled) (λ p sound. sound) pools h.selectors;
}

-- a selector that is given is sound, or the one that was there is
given-selector : (name : List ℕ) (disabled : Bool) (mode : Mode) (selector : Formula) → is_sound selector ≡ true → (p : Pool) → IsTrue (is_sound p.selector) → IsTrue (is_sound (with_named_rules name disabled mode selector p).selector)
given-selector name disabled mode selector sound p h = by (has_name name p)
  where
    by : (b : Bool) → IsTrue (is_sound (cond b selector p.selector))
    by true = sound
    by false = h

ruled-pools : (name : List ℕ) (disabled : Bool) (mode : Mode) (selector : Formula) (pools : List Pool) → is_sound selector ≡ true → IsPoolsRecord pools → IsPoolsRecord (with_rules name disabled mode selector pools)
ruled-pools name disabled mode selector pools sound h = record {
  table = IsPoolTable-with_rules name disabled mode selector pools h.table;
  names = kept-each (λ (p : Pool). IsTrue (is_name_text p.name)) (with_named_rules name disabled mode selector) (λ p named. named) pools h.names;
  selectors = kept-each (λ (p : Pool). IsTrue (is_sound p.selector)) (with_named_rules name disabled mode selector) (given-selector name disabled mode selector sound) pools h.selectors;
}

-- ---- reservations

no-reservations : IsReservationsRecord []
no-reservations = record { few = omega arith; each = λ k d within. absurd (omega arith); names = λ i j d below within. absurd (omega arith) }

replaced : ReservationValue → ReservationValue → ReservationValue
replaced new r = cond (change.is_named new.name r) new r

replaced-name : (new r : ReservationValue) → (replaced new r).name ≡ r.name
unfolding replaced
replaced-name new r = from (bytes_eq r.name new.name) refl
  where
    from : (b : Bool) → bytes_eq r.name new.name ≡ b → (cond b new r).name ≡ r.name
    from true e = sym ((bytes_eq-Decides r.name new.name).0 e)
    from false e = refl

replaced-each : (new : ReservationValue) (list : List ReservationValue) → IsReservation new → All IsReservation list → All IsReservation (change.with_reservation new list)
unfolding replaced
replaced-each new [] sound h = λ k d within. absurd (omega arith)
replaced-each new (r ∷ rs) sound h = All-cons IsReservation (replaced new r) (change.with_reservation new rs) (by (change.is_named new.name r)) (replaced-each new rs sound (All-tail IsReservation r rs h))
  where
    by : (b : Bool) → IsReservation (cond b new r)
    by true = sound
    by false = All-head IsReservation r rs h

replaced-length : (new : ReservationValue) (list : List ReservationValue) → length (change.with_reservation new list) ≡ length list
replaced-length new [] = refl
replaced-length new (r ∷ rs) = let rest = replaced-length new rs in omega arith

-- the names stand where they stood
replaced-at : (new : ReservationValue) (list : List ReservationValue) (k : ℕ) (d e : ReservationValue) → k < length list → (get_or (change.with_reservation new list) k d).name ≡ (get_or list k e).name
unfolding replaced
replaced-at new [] k d e within = absurd (omega arith)
replaced-at new (r ∷ rs) zero d e within = replaced-name new r
replaced-at new (r ∷ rs) (suc k) d e within = replaced-at new rs k d e (omega arith)

replaced-names : (new : ReservationValue) (list : List ReservationValue) → AllPairs (λ (r s : ReservationValue). r.name ≢ s.name) list → AllPairs (λ (r s : ReservationValue). r.name ≢ s.name) (change.with_reservation new list)
replaced-names new list h i j d below within same =
    let long = replaced-length new list in
    h i j d below (omega arith) (sym (replaced-at new list i d d (omega arith)) ∙ (same ∙ replaced-at new list j d d (omega arith)))

replaced-reservations : (new : ReservationValue) (list : List ReservationValue) → IsReservation new → IsReservationsRecord list → IsReservationsRecord (change.with_reservation new list)
replaced-reservations new list sound h =
    let long = replaced-length new list in
    let few = h.few in
    record { few = omega arith; each = replaced-each new list sound h.each; names = replaced-names new list h.names }

-- a reservation of another name
added-reservations : (new : ReservationValue) (list : List ReservationValue) → IsReservation new → IsReservationsRecord list → list_any (change.is_named new.name) list ≡ false → nat_le change.most_reservations (length list) ≡ false → IsReservationsRecord (list ++ new ∷ [])
added-reservations new list sound h other room =
    let long = length-append list (new ∷ []) in
    let below = leb-false change.most_reservations (length list) room in
    record {
      few = omega arith;
      each = All-append IsReservation list (new ∷ []) h.each (All-cons IsReservation new [] sound (λ k d within. absurd (omega arith)));
      names = all_pairs_push (λ (r s : ReservationValue). r.name ≢ s.name) list new h.names (λ k d within same.
          let fails = none_passes (change.is_named new.name) list other k d within in
          let passes = (bytes_eq-Decides (get_or list k d).name new.name).1 same in
          cc (fails, passes));
    }

removed-reservations : (name : List ℕ) (list : List ReservationValue) → IsReservationsRecord list → IsReservationsRecord (filter (λ r. not (change.is_named name r)) list)
removed-reservations name list h =
    let fewer = length-filter_both (λ (r : ReservationValue). not (change.is_named name r)) (λ (r : ReservationValue). not (not (change.is_named name r))) (λ r. refl) list in
    let few = h.few in
    record {
      few = omega arith;
      each = All-filter (λ r. not (change.is_named name r)) IsReservation list h.each;
      names = AllPairs-filter (λ (r s : ReservationValue). r.name ≢ s.name) (λ r. not (change.is_named name r)) list h.names;
    }

-- ---- changes

-- the row that was read, where there was one, is sound
abbrev pub IsSoundRow : Option StoredRecord → Type 0
IsSoundRow None = Unit {0}
IsSoundRow (Some row) = IsRecord row.1

pools-sound : (o : Option StoredRecord) → IsSoundRow o → IsPoolsRecord (pools_said (reply_to_get o))
pools-sound None h = no-pools
pools-sound (Some (revision, record_of.Pools pools)) h = h
pools-sound (Some (revision, record_of.Config config)) h = no-pools
pools-sound (Some (revision, record_of.Reservations reservations)) h = no-pools
pools-sound (Some (revision, record_of.Block b)) h = no-pools
pools-sound (Some (revision, record_of.Affinity a)) h = no-pools
pools-sound (Some (revision, record_of.Handle handle)) h = no-pools

reservations-sound : (o : Option StoredRecord) → IsSoundRow o → IsReservationsRecord (reservations_said (reply_to_get o))
reservations-sound None h = no-reservations
reservations-sound (Some (revision, record_of.Reservations reservations)) h = h
reservations-sound (Some (revision, record_of.Pools pools)) h = no-reservations
reservations-sound (Some (revision, record_of.Config config)) h = no-reservations
reservations-sound (Some (revision, record_of.Block b)) h = no-reservations
reservations-sound (Some (revision, record_of.Affinity a)) h = no-reservations
reservations-sound (Some (revision, record_of.Handle handle)) h = no-reservations

-- what a change becomes
becomes-sound : (one new : Record) → IsRecord one → change.Becomes one ≡ change.Becomes new → IsRecord new
becomes-sound one new h e = let same : one ≡ new = cc e in subst (λ (r : Record). IsRecord r) same h

pool-change : (pool : Pool) (pools : List Pool) (new : Record) → IsSoundPool pool → IsPoolsRecord pools → change.pool_changed pools pool ≡ change.Becomes new → IsRecord new
pool-change pool pools new sound h e = by (list_any (change.is_same_pool pool) pools) e
  where
    refused : (refusal : PoolRefusal) → change.pool_refused pools pool refusal ≡ change.Becomes new → IsRecord new
    refused NameTaken f = absurd (cc f)
    refused (Overlap place) f = absurd (cc f)
    refused Size f = absurd (cc f)
    refused Prefix f = absurd (cc f)
    refused TooMany f = absurd (cc f)
    refused Memory f = absurd (cc f)

    appended : (refusal : Option PoolRefusal) → refusal_of pools pool ≡ refusal → change.pool_appended pools pool refusal ≡ change.Becomes new → IsRecord new
    appended None none f = becomes-sound (record_of.Pools (pools ++ pool ∷ [])) new (pushed-pools pools pool h sound none) f
    appended (Some refusal) none f = refused refusal f

    by : (b : Bool) → cond b (change.Becomes (record_of.Pools (with_rules pool.name pool.disabled pool.mode pool.selector pools))) (change.pool_appended pools pool (refusal_of pools pool)) ≡ change.Becomes new → IsRecord new
    by true f = becomes-sound (record_of.Pools (with_rules pool.name pool.disabled pool.mode pool.selector pools)) new (ruled-pools pool.name pool.disabled pool.mode pool.selector pools sound.selector h) f
    by false f = appended (refusal_of pools pool) refl f

disable-change : (name : List ℕ) (disabled : Bool) (pools : List Pool) (new : Record) → IsPoolsRecord pools → change.disable_changed pools name disabled ≡ change.Becomes new → IsRecord new
disable-change name disabled pools new h e = by (list_any (has_name name) pools) e
  where
    by : (b : Bool) → cond b (change.Becomes (record_of.Pools (with_disabled name disabled pools))) (change.Refuses 6 name) ≡ change.Becomes new → IsRecord new
    by true f = becomes-sound (record_of.Pools (with_disabled name disabled pools)) new (disabled-pools name disabled pools h) f
    by false f = absurd (cc f)

reserve-change : (reserved : ReservationValue) (list : List ReservationValue) (new : Record) → IsReservation reserved → IsReservationsRecord list → change.reserve_changed list reserved ≡ change.Becomes new → IsRecord new
reserve-change reserved list new sound h e = by (list_any (change.is_named reserved.name) list) refl (nat_le change.most_reservations (length list)) refl e
  where
    by : (b : Bool) → list_any (change.is_named reserved.name) list ≡ b → (c : Bool) → nat_le change.most_reservations (length list) ≡ c
        → cond b (change.Becomes (record_of.Reservations (change.with_reservation reserved list))) (cond c (change.Refuses 7 reserved.name) (change.Becomes (record_of.Reservations (list ++ reserved ∷ [])))) ≡ change.Becomes new → IsRecord new
    by true there c room f = becomes-sound (record_of.Reservations (change.with_reservation reserved list)) new (replaced-reservations reserved list sound h) f
    by false there true room f = absurd (cc f)
    by false there false room f = becomes-sound (record_of.Reservations (list ++ reserved ∷ [])) new (added-reservations reserved list sound h there room) f

unreserve-change : (name : List ℕ) (list : List ReservationValue) (new : Record) → IsReservationsRecord list → change.unreserve_changed list name ≡ change.Becomes new → IsRecord new
unreserve-change name list new h e = by (list_any (change.is_named name) list) e
  where
    by : (b : Bool) → cond b (change.Becomes (record_of.Reservations (filter (λ r. not (change.is_named name r)) list))) (change.Refuses 8 name) ≡ change.Becomes new → IsRecord new
    by true f = becomes-sound (record_of.Reservations (filter (λ r. not (change.is_named name r)) list)) new (removed-reservations name list h) f
    by false f = absurd (cc f)

pub changed-sound : (request : Admin) (o : Option StoredRecord) (new : Record) → IsSoundChange request → IsSoundRow o → change.admin_change request (reply_to_get o) ≡ change.Becomes new → IsRecord new
changed-sound (change_of.Pool pool) o new sound h e = pool-change pool (pools_said (reply_to_get o)) new sound (pools-sound o h) e
changed-sound (change_of.Disable name disabled) o new sound h e = disable-change name disabled (pools_said (reply_to_get o)) new (pools-sound o h) e
changed-sound (change_of.Reserve reserved) o new sound h e = reserve-change reserved (reservations_said (reply_to_get o)) new sound (reservations-sound o h) e
changed-sound (change_of.Unreserve name) o new sound h e = unreserve-change name (reservations_said (reply_to_get o)) new (reservations-sound o h) e
changed-sound (change_of.Config config) o new sound h e = becomes-sound (record_of.Config config) new sound e
