-- What requests come to that run alone over a consistent base with spare.
use Rattle.std.proofs.Common.{◌≡◌, ◌≢◌, ℕ, ◌+◌, ◌<◌, ◌^◌, inl, inr, Bool, true, false, cond, List, [], ◌∷◌, Option, Some, None, unwrap_or, refl, sym, ap, subst, arith, eqb-true}
use Rattle.std.specs.Prelude.{All, ◌==◌}
use Rattle.std.specs.BTreeMap.{is_at}
use Rattle.std.specs.Map.{lookup}
use Rattle.std.proofs.lemmas.Bool.{cases_Bool, eqb-false}
use Rattle.std.proofs.lemmas.List.Elements.{All-head, All-tail}
use Rattle.ipam_addr.specs.Shape.{CidrValue}
use Rattle.ipam_block.specs.HandleOperations.{count_in, count_of}
use Rattle.ipam_block.specs.Order.{cidr_cmp}
use Rattle.ipam_block.specs.HandleSound.{IsCount}
use Rattle.ipam_records.specs.declared.key.Key.TheVariants as key
use Rattle.ipam_records.specs.declared.record.Record.{Record}
use Rattle.ipam_records.specs.Datastore.{Datastore, reply_to_get, row_of}
use Rattle.ipam_records.specs.Said.{Found}
use Rattle.ipam_records.specs.Sound.{IsDatastore, IsRecord}
use Rattle.ipam_records.specs.Word.{Ends, Word}
use Rattle.ipam_model.specs.declared.answer.Answer.{Answer}
use Rattle.ipam_model.specs.declared.request.Request.{Request}
use Rattle.ipam_model.specs.declared.request.Request.TheVariants.{Add, AddThis, Del, Check, Release, Collect, Admin, Probe}
use Rattle.ipam_model.specs.Add.{add_word}
use Rattle.ipam_model.specs.AddThis.{Wanted, add_this_word}
use Rattle.ipam_model.specs.AffinityLaw.{HasAt}
use Rattle.ipam_model.specs.Alone.{live_of}
use Rattle.ipam_model.specs.Consistent.{IsConsistent}
use Rattle.ipam_model.specs.Counting.{most_count}
use Rattle.ipam_model.specs.History.{Base}
use Rattle.ipam_model.specs.Plain.{AloneLaw, PlainResult, Rows, handle_of, plain_add, plain_add_this, plain_check, plain_collect, plain_del, plain_of, plain_probe, records}
use Rattle.ipam_model.specs.Reads.{StoredRecord, handle_said}
use Rattle.ipam_model.specs.Remove.{collect_word, del_word}
use Rattle.ipam_model.specs.Requests.{told_as, word_of}
use Rattle.ipam_model.specs.SoundRequest.{IsSoundRequest}
use Rattle.ipam_model.specs.Told.{of_add, of_add_this, of_collect, of_del}
use Rattle.ipam_model.specs.Usable.{families_if}
use Rattle.ipam_laws.proofs.AloneCalls.{Runs, Runs-bound, runs-alone}
use Rattle.ipam_laws.proofs.AloneLooks.{check_alone, probe_alone}
use Rattle.ipam_laws.proofs.Calls.{found-handle, found-key}
use Rattle.ipam_laws.proofs.RequestSteps.{word-lawful}
use Rattle.ipam_laws.proofs.SoundSteps.{row-there}
use Rattle.ipam_plain.specs.AloneLaws.{AddAloneLaw, AddThisAloneLaw, CollectAloneLaw, ComesToPlain, DelAloneLaw}
use Rattle.ipam_plain.proofs.Adding.{add-comes}
use Rattle.ipam_plain.proofs.Addressing.{this-comes}
use Rattle.ipam_plain.proofs.Alike.{alike-records}
use Rattle.ipam_plain.proofs.Removing.{collect-comes, del-comes}
use Rattle.ipam_plain.proofs.Taking.{IsBelow}
use Rattle.ipam_plain.proofs.Writes.{IsAs}

pub as-itself : (store : Datastore) → IsDatastore store → IsAs store store.rows
as-itself store sound = record { alike = λ k. refl; sorted_store = sound.ascending; sorted = sound.ascending }

pub as-records : (store : Datastore) (rows : Rows) → IsAs store rows → records store.rows ≡ records rows
as-records store rows is = alike-records store.rows rows is.sorted_store is.sorted is.alike

-- it is answered so, and leaves these records
abbrev pub IsPlain : PlainResult → Datastore → Answer → Type 0
IsPlain result then told = (plain_of told ≡ Some result.0) × (records then.rows ≡ records result.1)

-- a request whose word comes to this comes to it over the base
pub over : (base : Base) (request : Request) (result : PlainResult) → IsConsistent base.store → IsSoundRequest request → Runs (live_of request) (IsPlain result) base.store (base.first + 1) (word_of request) → ComesToPlain base request result
over base request result consistent sound h =
    let lawful = word-lawful request sound (λ k revision found. HasAt base.store k revision found) in
    runs-alone (live_of request) (IsPlain result) (word_of request) base.store (base.first + 1) consistent.sound consistent.covered lawful.0 lawful.1 h

-- what holds of an answer holds of what is told of it
pub told-plain : {A : Type 0} → (live : List (List ℕ)) (Q : Datastore → A → Type 0) (of_one : A → Answer) (result : PlainResult) → ((then : Datastore) (told : A) → Q then told → IsPlain result then (of_one told)) → (w : Word A) (store : Datastore) (moment : ℕ) → Runs live Q store moment w
    → Runs live (IsPlain result) store moment (told_as of_one w)
told-plain live Q of_one result so w store moment h = Runs-bound live Q (IsPlain result) (λ one. Ends (of_one one)) w store moment h (λ then later told q. so then told q)

pub del_alone : DelAloneLaw
unfolding word_of
del_alone id base result consistent sound spare is =
    let store = base.store in
    let comes : plain_del id store.rows ≡ result = cc is in
    subst (λ (r : PlainResult). ComesToPlain base (Del id) r) comes
    (over base (Del id) (plain_del id store.rows) consistent sound
    (told-plain [] _ of_del (plain_del id store.rows) (λ then told q. (q.says, as-records then (plain_del id store.rows).1 q.is_as)) (del_word id) store (base.first + 1)
    (del-comes id store (base.first + 1) (as-itself store consistent.sound) spare.for_all_blocks)))

pub collect_alone : CollectAloneLaw
unfolding word_of
collect_alone request base result consistent sound spare is = by (request.grace == 0) is
  where
    by : (b : Bool) → cond b (Some (plain_collect request base.store.rows)) None ≡ Some result → ComesToPlain base (Collect request) result
    by false e = absurd (cc e)
    by true e =
        let store = base.store in
        let comes : plain_collect request store.rows ≡ result = cc e in
        subst (λ (r : PlainResult). ComesToPlain base (Collect request) r) comes
        (over base (Collect request) (plain_collect request store.rows) consistent sound
        (told-plain request.live _ of_collect (plain_collect request store.rows) (λ then told q. (q.says, as-records then (plain_collect request store.rows).1 q.is_as)) (collect_word request) store (base.first + 1)
        (collect-comes request store (base.first + 1) (as-itself store consistent.sound) spare)))

-- ---- what a base with spare has

count-below : (id : List ℕ) (store : Datastore) → IsDatastore store → All (λ (entry : CidrValue × ℕ). entry.1 ≢ most_count) (handle_of id store.rows).counts → (c : CidrValue) → IsBelow store id c
count-below id store sound other c = by (row_of (key.Handle id) store.rows) refl other
  where
    by : (o : Option StoredRecord) → row_of (key.Handle id) store.rows ≡ o → All (λ (entry : CidrValue × ℕ). entry.1 ≢ most_count) (handle_said id (reply_to_get o)).counts → count_of (handle_said id (reply_to_get o)) c < most_count
    by None e differ = omega arith
    by (Some row) e differ =
        let (h, is, same) = found-handle id row.1 (found-key store (key.Handle id) row.0 row.1 e) in
        let kept = subst (λ (x : Record). IsRecord x) is (row-there store (key.Handle id) row.0 row.1 sound e).is_record in
        let others = subst (λ (x : Record). All (λ (entry : CidrValue × ℕ). entry.1 ≢ most_count) (handle_said id (Found row.0 x)).counts) is differ in
        subst (λ (x : Record). count_of (handle_said id (Found row.0 x)) c < most_count) (sym is) (each h.counts others kept.counts.each)
      where
        each : (counts : List (CidrValue × ℕ)) → All (λ (entry : CidrValue × ℕ). entry.1 ≢ most_count) counts → All IsCount counts → count_in counts c < most_count
        each [] differ small = omega arith
        each (entry ∷ rest) differ small = here (is_at (cidr_cmp c) entry.0) (each rest (All-tail (λ (e : CidrValue × ℕ). e.1 ≢ most_count) entry rest differ) (All-tail IsCount entry rest small))
          where
            here : (b : Bool) → count_in rest c < most_count → unwrap_or (cond b (Some entry.1) (lookup (is_at (cidr_cmp c)) rest)) 0 < most_count
            here true more =
                let least = (All-head IsCount entry rest small).small in
                let other = All-head (λ (e : CidrValue × ℕ). e.1 ≢ most_count) entry rest differ in
                below entry.1 other least
              where
                below : (n : ℕ) → n ≢ most_count → n < 2 ^ 32 → n < most_count
                below n other less = elim (cases_Bool (n == most_count)) [
                  | inl same ↦ absurd (other (eqb-true n most_count same))
                  | inr differs ↦ let apart = eqb-false n most_count differs in grind arith
                ]
            here false more = more

pub add_this_alone : AddThisAloneLaw
unfolding word_of
add_this_alone request address base result consistent sound spare is =
    let store = base.store in
    let wanted : Wanted = record { request = request; address = address } in
    let comes : plain_add_this wanted store.rows ≡ result = cc is in
    let a = spare.revisions in
    let b = spare.rows in
    let c = spare.blocks in
    subst (λ (r : PlainResult). ComesToPlain base (AddThis request address) r) comes
    (over base (AddThis request address) (plain_add_this wanted store.rows) consistent sound
    (told-plain [] _ of_add_this (plain_add_this wanted store.rows) (λ then told q. (q.says, as-records then (plain_add_this wanted store.rows).1 q.is_as)) (add_this_word request address) store (base.first + 1)
    (this-comes request address store (base.first + 1) (as-itself store consistent.sound) (count-below request.attributes.handle store consistent.sound spare.counts)
    (record { revisions_left = omega arith; rows_left = omega arith; blocks_left = omega arith }))))

pub add_alone : AddAloneLaw
unfolding word_of
add_alone request base result consistent sound spare is =
    let store = base.store in
    let comes : plain_add request store.rows ≡ result = cc is in
    let a = spare.revisions in
    let b = spare.rows in
    let c = spare.blocks in
    subst (λ (r : PlainResult). ComesToPlain base (Add request) r) comes
    (over base (Add request) (plain_add request store.rows) consistent sound
    (told-plain [] _ of_add (plain_add request store.rows) (λ then told q. (q.says, as-records then (plain_add request store.rows).1 q.is_as)) (add_word request) store (base.first + 1)
    (add-comes request store (base.first + 1) (as-itself store consistent.sound) (count-below request.attributes.handle store consistent.sound spare.counts)
    (record { revisions_left = omega arith; rows_left = omega arith; blocks_left = omega arith }))))

pub all_alone : AloneLaw
all_alone base (Add request) result c s spare is = add_alone request base result c s spare is
all_alone base (AddThis request address) result c s spare is = add_this_alone request address base result c s spare is
all_alone base (Del id) result c s spare is = del_alone id base result c s spare is
all_alone base (Check id addresses) result c s spare is =
    let comes : (plain_check id addresses base.store.rows, base.store.rows) ≡ result = cc is in
    let says = check_alone base id addresses in
    subst (λ (r : PlainResult). ComesToPlain base (Check id addresses) r) comes (says.0, ap (λ (store : Datastore). records store.rows) says.1)
all_alone base (Release node cidr) result c s spare is = absurd (cc is)
all_alone base (Collect request) result c s spare is = collect_alone request base result c s spare is
all_alone base (Admin change) result c s spare is = absurd (cc is)
all_alone base (Probe request) result c s spare is =
    let comes : (plain_probe request (families_if request.ipv4 request.ipv6) base.store.rows, base.store.rows) ≡ result = cc is in
    let says = probe_alone base request in
    subst (λ (r : PlainResult). ComesToPlain base (Probe request) r) comes (says.0, ap (λ (store : Datastore). records store.rows) says.1)
