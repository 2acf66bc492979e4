-- What a keeper has may be opened, and what a write that failed would have left.
use Rattle.std.proofs.Common.{◌≡◌, ℕ, ◌≤◌, inl, inr, List, [], ◌∷◌, Option, Some, None, refl, sym, ap, ◌∙◌, subst, arith}
use Rattle.std.specs.Prelude.{All, Contains, max}
use Rattle.std.proofs.lemmas.List.Elements.{All-cons, All-contains, All-head, All-tail}
use Rattle.std.proofs.lemmas.List.Sorted.{Contains-permutation, IsPermutation-sym}
use Rattle.ipam_records.specs.declared.call.Call.{Call}
use Rattle.ipam_records.specs.declared.call.Call.TheVariants as call
use Rattle.ipam_records.specs.declared.call.Row.{Row as RowText}
use Rattle.ipam_records.specs.declared.call.Write.{Write}
use Rattle.ipam_records.specs.declared.call.Write.TheVariants as write
use Rattle.ipam_records.specs.declared.key.Key.{Key}
use Rattle.ipam_records.specs.declared.record.Record.{Record}
use Rattle.ipam_records.specs.Datastore.{Datastore, last_revision, reply_of, reply_to_change, row_of, with_row, write_granted, written}
use Rattle.ipam_records.specs.Key.{key_of}
use Rattle.ipam_records.specs.KeyText.{IsKey}
use Rattle.ipam_records.specs.Said.{Said, Found, Missing, Listed, Can, Exists, Conflict, Full, Spent}
use Rattle.ipam_records.specs.Sound.{IsDatastore, IsRow}
use Rattle.ipam_records.specs.Word.{Word, Ends, Asks, Waits, next_call, answer_in}
use Rattle.ipam_records.proofs.DatastoreLemmas.{row_key-row_of, row_of-with_row}
use Rattle.ipam_model.specs.declared.answer.Answer.{Answer}
use Rattle.ipam_model.specs.declared.entry.CallName.{CallName}
use Rattle.ipam_model.specs.declared.entry.Called.{Called}
use Rattle.ipam_model.specs.declared.entry.Entry.{Entry}
use Rattle.ipam_model.specs.declared.entry.Entry.TheVariants as entry
use Rattle.ipam_model.specs.declared.entry.Fate.{Fate}
use Rattle.ipam_model.specs.declared.entry.Fate.TheVariants.{Before, After}
use Rattle.ipam_model.specs.Cluster.{RunningRequest, after, call_entry, call_made, store_after, store_with}
use Rattle.ipam_model.specs.Consistent.{IsConsistent}
use Rattle.ipam_model.specs.FateLaw.{IsSameCall}
use Rattle.ipam_model.specs.History.{Base, Lawful, cluster_at, store_at}
use Rattle.ipam_model.specs.Named.{name_of}
use Rattle.ipam_model.specs.Opened.{IsTextOf, OpensAs, text_of, texts_of}
use Rattle.ipam_model.specs.Reads.{StoredRecord}
use Rattle.ipam_laws.proofs.Fates.{any_fate}
use Rattle.ipam_laws.proofs.Members.{all-of, out-map}
use Rattle.ipam_laws.proofs.OpenedHistory.{opened_again}
use Rattle.ipam_laws.proofs.RowOrder.{found-member}
use Rattle.ipam_laws.proofs.SlotsHistory.{consistent_law}
use Rattle.ipam_laws.proofs.StoreSteps.{write_told-granted}
use Rattle.ipam_shared.specs.declared.write.RowWrite.{RowWrite}
use Rattle.ipam_shared.specs.Doubt.{FailedIn, IsDoubt, KeptOpensLaw, OpensAsLawful, WritesKeyOf}
use Rattle.ipam_shared.specs.Rows.{AreTextsOf, greatest, rows_after, texts_loaded, texts_written}
use Rattle.ipam_shared.proofs.StoreTexts.{IsNamed, key-sound, stand-after, stand-texts, texts-stand}

-- ---- what is kept may be opened

-- no revision is above the greatest
below-greatest : (rows : List RowText) → All (λ (row : RowText). row.revision ≤ greatest rows) rows
below-greatest [] = λ k d within. absurd (omega arith)
below-greatest (row ∷ rows) =
    All-cons (λ (r : RowText). r.revision ≤ max row.revision (greatest rows)) row rows (omega arith) (λ k d within. let rest = below-greatest rows k d within in omega arith)

greatest-below : (rows : List RowText) (n : ℕ) → All (λ (row : RowText). row.revision ≤ n) rows → greatest rows ≤ n
greatest-below [] n all = omega arith
greatest-below (row ∷ rows) n all =
    let first : row.revision ≤ n = All-head (λ (r : RowText). r.revision ≤ n) row rows all in
    let rest = greatest-below rows n (All-tail (λ (r : RowText). r.revision ≤ n) row rows all) in
    omega arith

revision-below : (rows : List RowText) (store : Datastore) → IsDatastore store → AreTextsOf rows store → (row : RowText) → Contains rows row → row.revision ≤ last_revision
revision-below rows store sound are row there =
    let among = Contains-permutation rows (texts_of store) row (IsPermutation-sym (texts_of store) rows are.same_rows) there in
    let (own, own_there, is) = out-map text_of row store.rows among in
    let given = (All-contains (IsRow store.counter) store.rows own sound.rows own_there).given in
    let counted = sound.counted in
    let same : own.0 ≡ row.revision = ap (λ (t : RowText). t.revision) is in
    omega arith

texts-loaded : (rows : List RowText) (store : Datastore) → IsDatastore store → AreTextsOf rows store → IsTextOf (texts_loaded rows) store
texts-loaded rows store sound are = record {
  by_key = are.by_key;
  same_rows = are.same_rows;
  counter = record {
    above = below-greatest rows;
    below_last = greatest-below rows last_revision (all-of (λ (row : RowText). row.revision ≤ last_revision) rows (revision-below rows store sound are));
  };
}

-- the rows of the datastore at the end of a lawful history open as it
pub opens-so : (base : Base) (history : List Entry) (rows : List RowText) → IsConsistent base.store → Lawful base history → AreTextsOf rows (store_at base history) → OpensAs (texts_loaded rows) (record {
  rows = (store_at base history).rows;
  counter = (texts_loaded rows).counter;
})
opens-so base history rows consistent lawful are =
    opened_again base history consistent lawful (texts_loaded rows) (texts-loaded rows (store_at base history) (consistent_law base history consistent lawful).sound are)

opens-lawful : (base : Base) (history : List Entry) (rows : List RowText) → IsConsistent base.store → Lawful base history → AreTextsOf rows (store_at base history) → OpensAsLawful rows base
opens-lawful base history rows consistent lawful are = record {
  history = history;
  lawful = lawful;
  opens = opens-so base history rows consistent lawful are;
}

pub kept_opens : KeptOpensLaw
kept_opens base history None rows consistent lawful doubt are = opens-lawful base history rows consistent lawful are
kept_opens base history (Some done) rows consistent lawful doubt (own, are, inl same) =
    opens-lawful base history rows consistent lawful (subst (λ (r : List RowText). AreTextsOf r (store_at base history)) (sym same) are)
kept_opens base history (Some done) rows consistent lawful doubt (own, are, inr same) =
    let left = doubt.leaves own are in
    opens-lawful base (entry.Called doubt.other ∷ doubt.earlier) rows consistent doubt.lawful
    (subst (λ (r : List RowText). AreTextsOf r (store_at base (entry.Called doubt.other ∷ doubt.earlier))) (sym same) left)

-- ---- what is in doubt stays in doubt while nothing is written

pub failed-later : (done : RowWrite) (base : Base) (history : List Entry) (new : Entry) → store_at base (new ∷ history) ≡ store_at base history → FailedIn done base history → FailedIn done base (new ∷ history)
failed-later done base history new same h = record {
  later = new ∷ h.later;
  call = h.call;
  earlier = h.earlier;
  is_history = ap (λ l. new ∷ l) h.is_history;
  failed = h.failed;
  own = h.own;
  other = h.other;
  same_call = h.same_call;
  lawful = h.lawful;
  leaves = λ rows are. h.leaves rows (subst (λ (s : Datastore). AreTextsOf rows s) same are);
}

pub doubt-later : (doubt : Option RowWrite) (base : Base) (history : List Entry) (new : Entry) → store_at base (new ∷ history) ≡ store_at base history → IsDoubt doubt base history → IsDoubt doubt base (new ∷ history)
doubt-later None base history new same h = tt
doubt-later (Some done) base history new same h = failed-later done base history new same h

-- ---- the write of a call

-- the write of a call is one of the key that the call names
writes-key : (own : Call) (said : Said) (done : Write) → write_granted own said ≡ Some done → WritesKeyOf (texts_written done) (name_of own)
writes-key (call.Create new) (Can revision) done e = subst (λ (w : Write). WritesKeyOf (texts_written w) (name_of (call.Create new))) (let same : write.Put revision new ≡ done = cc e in same) (record { key = key_of new; called = refl; own = refl })
writes-key (call.Update new seen) (Can revision) done e = subst (λ (w : Write). WritesKeyOf (texts_written w) (name_of (call.Update new seen))) (let same : write.Put revision new ≡ done = cc e in same) (record { key = key_of new; called = refl; own = refl })
writes-key (call.Delete key seen) (Can revision) done e = subst (λ (w : Write). WritesKeyOf (texts_written w) (name_of (call.Delete key seen))) (let same : write.Remove revision key ≡ done = cc e in same) (record { key = key; called = refl; own = refl })
writes-key (call.Get key) (Can revision) done e = absurd (cc e)
writes-key (call.List kind) (Can revision) done e = absurd (cc e)
writes-key own (Found revision found) done e = absurd (cc e)
writes-key own Missing done e = absurd (cc e)
writes-key own (Listed rows) done e = absurd (cc e)
writes-key own (Exists revision) done e = absurd (cc e)
writes-key own (Conflict revision) done e = absurd (cc e)
writes-key own Full done e = absurd (cc e)
writes-key own Spent done e = absurd (cc e)

-- the key that a granted write names is sound, where the datastore after it is
changed-there : (store : Datastore) (seen revision : ℕ) (o : Option StoredRecord) → reply_to_change store seen o ≡ Can revision → (row : StoredRecord) × (o ≡ Some row)
changed-there store seen revision None e = absurd (cc e)
changed-there store seen revision (Some row) e = (row, refl)

gone-named : (store : Datastore) (key : Key) (seen revision : ℕ) → IsDatastore store → reply_to_change store seen (row_of key store.rows) ≡ Can revision → IsKey key
gone-named store key seen revision sound e =
    let (row, found) = changed-there store seen revision (row_of key store.rows) e in
    subst (λ (k : Key). IsKey k) (row_key-row_of key store.rows row found) (key-sound store sound row (found-member key store.rows row found))

put-named : (store : Datastore) (revision : ℕ) (new : Record) → IsDatastore (written store (write.Put revision new)) → IsKey (key_of new)
put-named store revision new sound =
    key-sound (written store (write.Put revision new)) sound (revision, new)
    (found-member (key_of new) (with_row (revision, new) store.rows) (revision, new) (row_of-with_row (revision, new) store.rows))

can-named : (store : Datastore) (own : Call) (said : Said) (done : Write) → IsDatastore store → reply_of store own ≡ said → write_granted own said ≡ Some done → IsDatastore (written store done) → IsNamed done
can-named store own said (write.Put revision new) sound replied e after = put-named store revision new after
can-named store (call.Delete key seen) (Can given) (write.Remove revision gone) sound replied e after =
    let same : write.Remove given key ≡ write.Remove revision gone = cc e in
    let keys : key ≡ gone = cc same in
    subst (λ (k : Key). IsKey k) keys (gone-named store key seen given sound replied)
can-named store (call.Create new) (Can given) (write.Remove revision gone) sound replied e after = absurd (cc e)
can-named store (call.Update new seen) (Can given) (write.Remove revision gone) sound replied e after = absurd (cc e)
can-named store (call.Get key) (Can given) (write.Remove revision gone) sound replied e after = absurd (cc e)
can-named store (call.List kind) (Can given) (write.Remove revision gone) sound replied e after = absurd (cc e)
can-named store own (Found a b) (write.Remove revision gone) sound replied e after = absurd (cc e)
can-named store own Missing (write.Remove revision gone) sound replied e after = absurd (cc e)
can-named store own (Listed rows) (write.Remove revision gone) sound replied e after = absurd (cc e)
can-named store own (Exists a) (write.Remove revision gone) sound replied e after = absurd (cc e)
can-named store own (Conflict a) (write.Remove revision gone) sound replied e after = absurd (cc e)
can-named store own Full (write.Remove revision gone) sound replied e after = absurd (cc e)
can-named store own Spent (write.Remove revision gone) sound replied e after = absurd (cc e)

-- ---- the same call had it failed after

-- what a call that failed after leaves, and its name
record DoneOf (slot : ℕ) (store : Datastore) (own : Call) (c : Called) : Type 0 where
  pub store_is : store_after c store ≡ store_with (write_granted own (reply_of store own)) store
  pub name : c.call ≡ name_of own

done-of : (slot : ℕ) (store : Datastore) (moment : ℕ) (word : Word Answer) (own : Call) (c : Called) → next_call word ≡ Some own → call_entry slot After store moment word ≡ Some c → DoneOf slot store own c
done-of slot store moment (Ends answer) own c asks e = absurd (cc asks)
done-of slot store moment (Waits next) own c asks e = absurd (cc asks)
done-of slot store moment (Asks label first next) own c asks e =
    let same : first ≡ own = cc asks in
    let is : call_made slot After first (reply_of store first) (answer_in (next moment (reply_of store first))) ≡ c = cc e in
    subst (λ (x : Called). DoneOf slot store own x) is (subst (λ (o : Call). DoneOf slot store o (call_made slot After first (reply_of store first) (answer_in (next moment (reply_of store first))))) same (record {
      store_is = ap (λ w. store_with w store) (write_told-granted first (reply_of store first));
      name = refl;
    }))

pub after-store : (base : Base) (history : List Entry) (c : Called) → store_at base (entry.Called c ∷ history) ≡ store_after c (store_at base history)
unfolding cluster_at after
after-store base history c = refl

-- The write that a call asks for, had it been done: the history is lawful, the rows are the datastore's
-- with the write done, and its key is the one that the call names.
pub record DoneInstead (base : Base) (history : List Entry) (c : Called) (done : Write) : Type 0 where
  pub other : Called
  pub same_call : IsSameCall c other After
  pub lawful : Lawful base (entry.Called other ∷ history)
  pub store_is : store_at base (entry.Called other ∷ history) ≡ written (store_at base history) done
  pub named : IsNamed done
  pub own : WritesKeyOf (texts_written done) c.call

pub done-instead : (base : Base) (history : List Entry) (c : Called) (one : RunningRequest) (own : Call) (done : Write) → IsConsistent base.store → Lawful base (entry.Called c ∷ history)
    → (cluster_at base history).slots c.slot ≡ Some one → next_call one.word ≡ Some own → write_granted own (reply_of (store_at base history) own) ≡ Some done → DoneInstead base history c done
unfolding Lawful cluster_at
done-instead base history c one own done consistent lawful runs asks grants =
    let (other, same, other_lawful) = any_fate base history c After lawful in
    let may = other_lawful.1 in
    let store = store_at base history in
    let there : (cluster_at base history).slots c.slot ≡ Some may.running = subst (λ (s : ℕ). (cluster_at base history).slots s ≡ Some may.running) same.same_slot may.runs in
    let running : one ≡ may.running = cc (there, runs) in
    let asks_there : next_call may.running.word ≡ Some own = subst (λ (r : RunningRequest). next_call r.word ≡ Some own) running asks in
    let made : call_entry other.slot After store (cluster_at base history).entries may.running.word ≡ Some other = subst (λ (f : Fate). call_entry other.slot f store (cluster_at base history).entries may.running.word ≡ Some other) same.has_fate may.is_called in
    let is = done-of other.slot store (cluster_at base history).entries may.running.word own other asks_there made in
    let stores : store_after other store ≡ written store done = is.store_is ∙ ap (λ w. store_with w store) grants in
    let now = consistent_law base history consistent lawful.0 in
    let behind = consistent_law base (entry.Called other ∷ history) consistent other_lawful in
    let behind_sound : IsDatastore (written store done) = subst (λ (s : Datastore). IsDatastore s) (after-store base history other ∙ stores) behind.sound in
    record {
      other = other;
      same_call = same;
      lawful = other_lawful;
      store_is = after-store base history other ∙ stores;
      named = can-named store own (reply_of store own) done now.sound refl grants behind_sound;
      own = subst (λ (n : CallName). WritesKeyOf (texts_written done) n) (sym is.name ∙ same.same_call) (writes-key own (reply_of store own) done grants);
    }

-- a write of a call that failed
pub failed-in : (base : Base) (history : List Entry) (c : Called) (done : Write) → IsConsistent base.store → Lawful base history → c.fate ≡ Before → store_at base (entry.Called c ∷ history) ≡ store_at base history → DoneInstead base history c done
    → FailedIn (texts_written done) base (entry.Called c ∷ history)
failed-in base history c done consistent lawful before same h = record {
  later = [];
  call = c;
  earlier = history;
  is_history = refl;
  failed = before;
  own = h.own;
  other = h.other;
  same_call = h.same_call;
  lawful = h.lawful;
  leaves = λ rows are.
      let now = (consistent_law base history consistent lawful).sound in
      let behind : IsDatastore (written (store_at base history) done) = subst (λ (s : Datastore). IsDatastore s) h.store_is (consistent_law base (entry.Called h.other ∷ history) consistent h.lawful).sound in
      let own : AreTextsOf rows (store_at base history) = subst (λ (s : Datastore). AreTextsOf rows s) same are in
      subst (λ (s : Datastore). AreTextsOf (rows_after (texts_written done) rows) s) (sym h.store_is)
      (stand-texts (written (store_at base history) done) behind (rows_after (texts_written done) rows)
      (stand-after rows (store_at base history) done h.named (texts-stand (store_at base history) now rows own)));
}
