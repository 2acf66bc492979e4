-- What each call of a kept cluster leaves it kept for.
use Rattle.std.proofs.Common.{◌≡◌, ◌⊎◌, ℕ, inl, inr, List, [], ◌∷◌, Option, Some, None, Result, Ok, Err, refl, sym, ap, ◌∙◌, subst}
use Rattle.std.specs.Prelude.{IfOk, IfSome}
use Rattle.ipam_records.specs.declared.call.Call.{Call}
use Rattle.ipam_records.specs.declared.call.Row.{Row as RowText}
use Rattle.ipam_records.specs.declared.call.Write.{Write}
use Rattle.ipam_records.specs.Datastore.{Datastore, reply_of, write_granted, written}
use Rattle.ipam_records.specs.Sound.{IsDatastore}
use Rattle.ipam_records.specs.Word.{next_call}
use Rattle.ipam_model.specs.declared.entry.Called.{Called}
use Rattle.ipam_model.specs.declared.entry.Entry.{Entry}
use Rattle.ipam_model.specs.declared.entry.Entry.TheVariants as entry
use Rattle.ipam_model.specs.declared.entry.Fate.TheVariants.{Well, Before}
use Rattle.ipam_model.specs.declared.request.Request.{Request}
use Rattle.ipam_model.specs.Cluster.{after, store_with}
use Rattle.ipam_model.specs.Cluster as model
use Rattle.ipam_model.specs.History.{Base, Lawful, cluster_at, store_at}
use Rattle.ipam_model.specs.Opened.{OpensAs}
use Rattle.ipam_laws.proofs.SlotsHistory.{consistent_law}
use Rattle.ipam_keeper.specs.Keeping.{IsTold}
use Rattle.ipam_keeper.specs.Rows.{Ascend}
use Rattle.ipam_cluster.specs.declared.running.Running.{Running}
use Rattle.ipam_cluster.specs.Running.{running_rest}
use Rattle.ipam_cluster.specs.declared.cluster.Cluster.{Cluster}
use Rattle.ipam_cluster.specs.declared.turns.Prepared.{Prepared}
use Rattle.ipam_cluster.specs.Cluster.{AddsTo, IsSlot, IsUnchanged, StandsFor, slot_of_cluster}
use Rattle.ipam_cluster.specs.Preparing.{IsPrepared, write_asked, write_next}
use Rattle.ipam_cluster.specs.Turns.{IsTurn}
use Rattle.ipam_store.specs.FeedShape.{RingValue}
use Rattle.ipam_shared.specs.declared.kept.Kept.{Kept}
use Rattle.ipam_shared.specs.declared.write.RowWrite.{RowWrite}
use Rattle.ipam_shared.specs.Doubt.{FailedIn, IsDoubt}
use Rattle.ipam_shared.specs.Feed.{counter_with}
use Rattle.ipam_shared.specs.Giving.{FailsWith, Gives, StayKept, WereGiven, known_after, known_written}
use Rattle.ipam_shared.specs.Kept.{IsKept, KeepsWith, KeptFor, LeavesKeeper, Stays, Tells}
use Rattle.ipam_shared.specs.Rows.{AreTextsOf, AreToldKept, change_of, key_written, row_back, rows_after, texts_loaded, texts_written}
use Rattle.ipam_shared.specs.KeptTurning.{ComesInDoubt, IsDone, IsFailed, StaysInDoubt}
use Rattle.ipam_shared.proofs.Doubts.{DoneInstead, done-instead, doubt-later, failed-in}
use Rattle.ipam_shared.proofs.Fed.{counter-with}
use Rattle.ipam_shared.proofs.StoreTexts.{opened-stand, stand-after, stand-texts, texts-stand}
use Rattle.ipam_shared.proofs.TextRows.{ascend-by_key}

-- ---- a cluster and the history that it stands for

store-is : (cluster : Cluster) (base : Base) (history : List Entry) → StandsFor cluster base history → cluster.store.store ≡ store_at base history
store-is cluster base history h = h.is_cluster.store

pub sound-store : (cluster : Cluster) (base : Base) (history : List Entry) → StandsFor cluster base history → IsDatastore cluster.store.store
sound-store cluster base history h =
    subst (λ (s : Datastore). IsDatastore s) (sym (store-is cluster base history h)) (consistent_law base history h.stands.consistent h.stands.lawful).sound

-- a cluster that is the same stands for the same
pub unchanged-stands : (old new : Cluster) → IsUnchanged old new → (base : Base) (history : List Entry) → StandsFor old base history → StandsFor new base history
unchanged-stands old new same base history h = record {
  is_cluster = record {
    store = same.store ∙ h.is_cluster.store;
    entries = same.entries ∙ h.is_cluster.entries;
    slots = λ slot. subst (λ (held : Option Running). IsSlot held ((cluster_at base history).slots slot)) (sym (same.slots slot)) (h.is_cluster.slots slot);
  };
  stands = h.stands;
}

-- the store stays with an entry where the cluster's own does
same-store : (old new : Cluster) (base : Base) (history : List Entry) (told : Entry) → StandsFor old base history → StandsFor new base (told ∷ history) → new.store.store ≡ old.store.store → store_at base (told ∷ history) ≡ store_at base history
same-store old new base history told before behind same =
    sym (store-is new base (told ∷ history) behind) ∙ (same ∙ store-is old base history before)

-- ---- what stays

left-doubt : (doubt left : Option RowWrite) (base : Base) (history : List Entry) → (left ≡ doubt) ⊎ (left ≡ None) → IsDoubt doubt base history → IsDoubt left base history
left-doubt doubt left base history (inl same) h = subst (λ (d : Option RowWrite). IsDoubt d base history) (sym same) h
left-doubt doubt left base history (inr sure) h = subst (λ (d : Option RowWrite). IsDoubt d base history) (sym sure) tt

module _ {D : Type 0} (tells : Tells D) (old new : Kept D) where
  -- where nothing happened, but that a row may have been put back
  pub stays : IsUnchanged old.cluster new.cluster → StayKept old.cluster.store.store (tells old.keeper) old.doubt (tells new.keeper) new.doubt → (new.doubt ≡ old.doubt) ⊎ (new.doubt ≡ None) → new.ring.counter ≡ old.ring.counter → Stays tells old new
  stays same rows doubt counter = record {
    cluster = same;
    kept = λ base history h. record {
      cluster = unchanged-stands old.cluster new.cluster same base history h.cluster;
      rows = subst (λ (s : Datastore). AreToldKept (tells new.keeper) s new.doubt) (sym same.store) (rows (sound-store old.cluster base history h.cluster) h.rows);
      doubt = left-doubt old.doubt new.doubt base history doubt h.doubt;
      counter = counter ∙ (h.counter ∙ ap (λ (s : Datastore). s.counter) (sym same.store));
    };
  }

  pub stays-left : IsUnchanged old.cluster new.cluster → LeavesKeeper old new → new.ring ≡ old.ring → Stays tells old new
  stays-left same left ring =
      stays same (λ sound are. subst (λ (d : Option RowWrite). AreToldKept (tells new.keeper) old.cluster.store.store d) (sym left.doubt) (subst (λ (k : D). AreToldKept (tells k) old.cluster.store.store old.doubt) (sym left.keeper) are)) (inl left.doubt) (ap (λ (r : RingValue). r.counter) ring)

  -- an entry with which the store stays
  pub keeps-left : (told : Entry) → ((base : Base) (history : List Entry) → store_at base (told ∷ history) ≡ store_at base history) → LeavesKeeper old new → new.ring ≡ old.ring → AddsTo old.cluster new.cluster told → KeepsWith tells old new told
  keeps-left told same left ring adds base history h =
      let behind = adds base history h.cluster in
      let stores : new.cluster.store.store ≡ old.cluster.store.store = store-is new.cluster base (told ∷ history) behind ∙ (same base history ∙ sym (store-is old.cluster base history h.cluster)) in
      record {
        cluster = behind;
        rows = subst (λ (s : Datastore). AreToldKept (tells new.keeper) s new.doubt) (sym stores)
            (subst (λ (d : Option RowWrite). AreToldKept (tells new.keeper) old.cluster.store.store d) (sym left.doubt) (subst (λ (k : D). AreToldKept (tells k) old.cluster.store.store old.doubt) (sym left.keeper) h.rows));
        doubt = subst (λ (d : Option RowWrite). IsDoubt d base (told ∷ history)) (sym left.doubt) (doubt-later old.doubt base history told (same base history) h.doubt);
        counter = ap (λ (r : RingValue). r.counter) ring ∙ (h.counter ∙ ap (λ (s : Datastore). s.counter) (sym stores));
      }

pub keeps-over : {D : Type 0} (tells : Tells D) (old between new : Kept D) (told : Entry) → Stays tells old between → KeepsWith tells between new told → KeepsWith tells old new told
keeps-over tells old between new told stay keeps base history h = keeps base history (stay.kept base history h)

pub stays-over : {D : Type 0} (tells : Tells D) (old between new : Kept D) → Stays tells old between → Stays tells between new → Stays tells old new
stays-over tells old between new first second = record {
  cluster = record {
    store = second.cluster.store ∙ first.cluster.store;
    entries = second.cluster.entries ∙ first.cluster.entries;
    slots = λ slot. second.cluster.slots slot ∙ first.cluster.slots slot;
  };
  kept = λ base history h. second.kept base history (first.kept base history h);
}

pub kept-over : {D : Type 0} (tells : Tells D) (old new : Kept D) → Stays tells old new → IsKept tells old → IsKept tells new
kept-over tells old new stay (base, (history, h)) = (base, (history, stay.kept base history h))

-- ---- what begins, is fed and is stopped

began-store : (base : Base) (history : List Entry) (slot : ℕ) (request : Request) → store_at base (entry.Began slot request ∷ history) ≡ store_at base history
unfolding cluster_at after
began-store base history slot request = refl

fed-store : (base : Base) (history : List Entry) (slot at : ℕ) (live : List (List ℕ)) → store_at base (entry.Fed slot at live ∷ history) ≡ store_at base history
unfolding cluster_at after
fed-store base history slot at live = refl

stopped-store : (base : Base) (history : List Entry) (slot : ℕ) → store_at base (entry.Stopped slot ∷ history) ≡ store_at base history
unfolding cluster_at after
stopped-store base history slot = refl

module _ {D : Type 0} (tells : Tells D) (old new : Kept D) (left : LeavesKeeper old new) (ring : new.ring ≡ old.ring) where
  pub begin-keeps : {E : Type 0} (result : Result Entry E) (slot : ℕ) (request : Request) → IfOk result (λ began. began ≡ entry.Began slot request) → IfOk result (AddsTo old.cluster new.cluster) → IfOk result (KeepsWith tells old new)
  begin-keeps (Ok told) slot request is adds = keeps-left tells old new told (λ base history. subst (λ (e : Entry). store_at base (e ∷ history) ≡ store_at base history) (sym is) (began-store base history slot request)) left ring adds
  begin-keeps (Err e) slot request is adds = tt

  pub feed-keeps : {E : Type 0} (result : Result Entry E) (slot at : ℕ) (live : List (List ℕ)) → IfOk result (λ fed. fed ≡ entry.Fed slot at live) → IfOk result (AddsTo old.cluster new.cluster) → IfOk result (KeepsWith tells old new)
  feed-keeps (Ok told) slot at live is adds = keeps-left tells old new told (λ base history. subst (λ (e : Entry). store_at base (e ∷ history) ≡ store_at base history) (sym is) (fed-store base history slot at live)) left ring adds
  feed-keeps (Err e) slot at live is adds = tt

  pub stop-keeps : (result : Option Entry) (slot : ℕ) → IfSome result (λ stopped. stopped ≡ entry.Stopped slot) → IfSome result (AddsTo old.cluster new.cluster) → IfSome result (KeepsWith tells old new)
  stop-keeps (Some told) slot is adds = keeps-left tells old new told (λ base history. subst (λ (e : Entry). store_at base (e ∷ history) ≡ store_at base history) (sym is) (stopped-store base history slot)) left ring adds
  stop-keeps None slot is adds = tt

-- ---- the write of what is prepared

record Asking (store : Datastore) (done : Write) (one : model.RunningRequest) : Type 0 where
  pub call : Call
  pub asks : next_call one.word ≡ Some call
  pub grants : write_granted call (reply_of store call) ≡ Some done

asking : (store : Datastore) (done : Write) (held : Option Running) (there : Option model.RunningRequest) (one : model.RunningRequest) → IsSlot held there → there ≡ Some one → write_next held store ≡ Some done → Asking store done one
asking store done None there one is runs e = absurd (cc e)
asking store done (Some running) None one is runs e = absurd is
asking store done (Some running) (Some own) one is runs e = by (next_call (running_rest running)) refl e
  where
    same : own ≡ one
    same = cc runs

    by : (o : Option Call) → next_call (running_rest running) ≡ o → write_asked o store ≡ Some done → Asking store done one
    by None asks f = absurd (cc f)
    by (Some call) asks f = record {
      call = call;
      asks = subst (λ (r : model.RunningRequest). next_call r.word ≡ Some call) same (ap next_call (sym is.word) ∙ asks);
      grants = f;
    }

-- what a call in this slot would have left, had it been done
module _ (old new : Cluster) (prepared : Prepared) (is : IsPrepared old prepared) (done : Write) (writes : prepared.write ≡ Some done) (told : Entry) (c : Called) (called : told ≡ entry.Called c) (own : c.slot ≡ prepared.slot) (adds : AddsTo old new told) where
  pub instead : (base : Base) (history : List Entry) → StandsFor old base history → DoneInstead base history c done
  unfolding Lawful
  instead base history h =
      let behind = adds base history h in
      let lawful : Lawful base (entry.Called c ∷ history) = subst (λ (e : Entry). Lawful base (e ∷ history)) called behind.stands.lawful in
      let may = lawful.1 in
      let next : write_next (slot_of_cluster old c.slot) old.store.store ≡ Some done = ap (λ (s : ℕ). write_next (slot_of_cluster old s) old.store.store) own ∙ (sym is.write ∙ writes) in
      let ask = asking old.store.store done (slot_of_cluster old c.slot) ((cluster_at base history).slots c.slot) may.running (h.is_cluster.slots c.slot) may.runs next in
      let grants : write_granted ask.call (reply_of (store_at base history) ask.call) ≡ Some done = subst (λ (s : Datastore). write_granted ask.call (reply_of s ask.call) ≡ Some done) (store-is old base history h) ask.grants in
      done-instead base history c may.running ask.call done h.stands.consistent lawful may.runs ask.asks grants

-- ---- what comes of a call

module _ {D : Type 0} (tells : Tells D) (old new : Kept D) (prepared : Prepared) (is : IsPrepared old.cluster prepared) (told : Entry) (adds : AddsTo old.cluster new.cluster told) where
  -- one that was done
  pub keeps-done : IsTurn prepared.slot Well told → new.cluster.store.store ≡ store_with prepared.write old.cluster.store.store → WereGiven prepared.write old.cluster.store.store (tells old.keeper) old.doubt (tells new.keeper) → new.doubt ≡ None → new.ring.counter ≡ counter_with prepared.write old.ring.counter → KeepsWith tells old new told
  keeps-done turn stores given sure counter base history h =
      let behind = adds base history h.cluster in
      let (between, are, last) = given (sound-store old.cluster base history h.cluster) h.rows in
      record {
        cluster = behind;
        rows = subst (λ (d : Option RowWrite). AreToldKept (tells new.keeper) new.cluster.store.store d) (sym sure) (by prepared.write refl between are last);
        doubt = subst (λ (d : Option RowWrite). IsDoubt d base (told ∷ history)) (sym sure) tt;
        counter = counter ∙ (ap (counter_with prepared.write) h.counter
            ∙ (sym (counter-with prepared.write old.cluster.store.store) ∙ ap (λ (s : Datastore). s.counter) (sym stores)));
      }
    where
      rows-written : (done : Write) → prepared.write ≡ Some done → (between : Option (List RowText)) → AreToldKept between old.cluster.store.store None → AreToldKept (known_after (texts_written done) between) new.cluster.store.store None
      rows-written done writes None are = tt
      rows-written done writes (Some rows) are =
          let other = instead old.cluster new.cluster prepared is done writes told turn.told turn.is_called turn.own adds base history h.cluster in
          let same : new.cluster.store.store ≡ written old.cluster.store.store done = stores ∙ ap (λ (w : Option Write). store_with w old.cluster.store.store) writes in
          let sound = sound-store old.cluster base history h.cluster in
          let behind_sound : IsDatastore (written old.cluster.store.store done) = subst (λ (s : Datastore). IsDatastore s) same (sound-store new.cluster base (told ∷ history) (adds base history h.cluster)) in
          subst (λ (s : Datastore). AreTextsOf (rows_after (texts_written done) rows) s) (sym same)
          (stand-texts (written old.cluster.store.store done) behind_sound (rows_after (texts_written done) rows)
          (stand-after rows old.cluster.store.store done other.named (texts-stand old.cluster.store.store sound rows are)))

      by : (w : Option Write) → prepared.write ≡ w → (between : Option (List RowText)) → AreToldKept between old.cluster.store.store None → tells new.keeper ≡ known_written prepared.write between → AreToldKept (tells new.keeper) new.cluster.store.store None
      by None e between are last =
          let same : new.cluster.store.store ≡ old.cluster.store.store = stores ∙ ap (λ (w : Option Write). store_with w old.cluster.store.store) e in
          let rows : tells new.keeper ≡ between = last ∙ ap (λ (w : Option Write). known_written w between) e in
          subst (λ (s : Datastore). AreToldKept (tells new.keeper) s None) (sym same) (subst (λ (t : Option (List RowText)). AreToldKept t old.cluster.store.store None) (sym rows) are)
      by (Some done) e between are last =
          let rows : tells new.keeper ≡ known_after (texts_written done) between = last ∙ ap (λ (w : Option Write). known_written w between) e in
          subst (λ (t : Option (List RowText)). AreToldKept t new.cluster.store.store None) (sym rows) (rows-written done e between are)

  -- one that failed
  pub keeps-failed : (gives : Gives D) → IsTurn prepared.slot Before told → new.cluster.store.store ≡ old.cluster.store.store → StayKept old.cluster.store.store (tells old.keeper) old.doubt (tells new.keeper) new.doubt → FailsWith gives prepared.write old.cluster.store.store old.doubt new.doubt old.keeper new.keeper → new.ring.counter ≡ old.ring.counter → KeepsWith tells old new told
  keeps-failed gives turn stores stay fails counter base history h =
      let behind = adds base history h.cluster in
      let same = same-store old.cluster new.cluster base history told h.cluster behind stores in
      record {
        cluster = behind;
        rows = subst (λ (s : Datastore). AreToldKept (tells new.keeper) s new.doubt) (sym stores) (stay (sound-store old.cluster base history h.cluster) h.rows);
        doubt = by same fails;
        counter = counter ∙ (h.counter ∙ ap (λ (s : Datastore). s.counter) (sym stores));
      }
    where
      by : store_at base (told ∷ history) ≡ store_at base history → FailsWith gives prepared.write old.cluster.store.store old.doubt new.doubt old.keeper new.keeper → IsDoubt new.doubt base (told ∷ history)
      by same (inl back) = subst (λ (d : Option RowWrite). IsDoubt d base (told ∷ history)) (sym back.same) (doubt-later old.doubt base history told same h.doubt)
      by same (inr own) =
          let other = instead old.cluster new.cluster prepared is own.done own.asked told turn.told turn.is_called turn.own adds base history h.cluster in
          let stored : store_at base (entry.Called turn.told ∷ history) ≡ store_at base history = subst (λ (e : Entry). store_at base (e ∷ history) ≡ store_at base history) turn.is_called same in
          let failed = failed-in base history turn.told own.done h.cluster.stands.consistent h.cluster.stands.lawful turn.has_fate stored other in
          subst (λ (d : Option RowWrite). IsDoubt d base (told ∷ history)) (sym own.now) (subst (λ (e : Entry). FailedIn (texts_written own.done) base (e ∷ history)) (sym turn.is_called) failed)

  -- what is in doubt then
  pub in-doubt : (gives : Gives D) → IsKept tells old → IsTurn prepared.slot Before told → FailsWith gives prepared.write old.cluster.store.store old.doubt new.doubt old.keeper new.keeper
      → StaysInDoubt gives old new ⊎ ComesInDoubt gives prepared.slot old new told
  in-doubt gives kept turn (inl back) = inl (record { write = back.write; was = back.was; same = back.same; given = back.given })
  in-doubt gives (base, (history, h)) turn (inr own) =
      let other = instead old.cluster new.cluster prepared is own.done own.asked told turn.told turn.is_called turn.own adds base history h.cluster in
      inr (record {
        write = own.done;
        asked = sym is.write ∙ own.asked;
        doubt = own.now;
        between = own.between;
        first = own.first;
        given = own.given;
        call = turn.told;
        is_called = turn.is_called;
        own = other.own;
      })

-- what a call did on a cluster that is the same as another
module _ {D : Type 0} (gives : Gives D) (faults : D → ℕ) (slot : ℕ) (old : Kept D) (cluster : Cluster) (same : IsUnchanged old.cluster cluster) (new : Kept D) (told : Entry) where
  abbrev between : Kept D
  between = record { cluster = cluster; keeper = old.keeper; doubt = old.doubt; ring = old.ring; settled = old.settled }

  doubt-over : StaysInDoubt gives between new ⊎ ComesInDoubt gives slot between new told → StaysInDoubt gives old new ⊎ ComesInDoubt gives slot old new told
  doubt-over (inl stays) = inl (record {
    write = stays.write;
    was = stays.was;
    same = stays.same;
    given = subst (λ (s : Datastore). gives old.keeper (change_of (row_back (key_written stays.write) s)) new.keeper) same.store stays.given;
  })
  doubt-over (inr comes) = inr (record {
    write = comes.write;
    asked = subst (λ (s : Datastore). write_next (slot_of_cluster old.cluster slot) s ≡ Some comes.write) same.store
        (subst (λ (r : Option Running). write_next r cluster.store.store ≡ Some comes.write) (same.slots slot) comes.asked);
    doubt = comes.doubt;
    between = comes.between;
    first = comes.first;
    given = comes.given;
    call = comes.call;
    is_called = comes.is_called;
    own = comes.own;
  })

  pub turned-over : IsDone faults slot between new told ⊎ IsFailed gives faults slot between new told → IsDone faults slot old new told ⊎ IsFailed gives faults slot old new told
  turned-over (inl done) = inl (record { turn = done.turn; no_fault = done.no_fault; sure = done.sure })
  turned-over (inr failed) = inr (record { turn = failed.turn; fault = failed.fault; doubt = doubt-over failed.doubt })

-- ---- opening

-- rows that were opened are kept
pub opened-kept : {D : Type 0} (tells : Tells D) (keeper : D) (first : ℕ) (kept : Kept D) (loaded : List RowText) → Ascend loaded → IsTold (tells keeper) loaded → OpensAs (texts_loaded loaded) kept.cluster.store.store → StandsFor kept.cluster (record { store = kept.cluster.store.store; first = first }) [] → kept.doubt ≡ None → tells kept.keeper ≡ tells keeper → kept.ring.counter ≡ kept.cluster.store.store.counter
    → KeptFor tells kept (record { store = kept.cluster.store.store; first = first }) []
opened-kept tells keeper first kept loaded ascend told opens stands sure same counter = record {
  cluster = stands;
  rows = subst (λ (d : Option RowWrite). AreToldKept (tells kept.keeper) store d) (sym sure)
      (subst (λ (t : Option (List RowText)). AreToldKept t store None) (sym same) (by (tells keeper) told));
  doubt = subst (λ (d : Option RowWrite). IsDoubt d (record { store = store; first = first }) []) (sym sure) tt;
  counter = counter;
}
  where
    store : Datastore
    store = kept.cluster.store.store

    texts : AreTextsOf loaded store
    texts = stand-texts store opens.sound loaded (opened-stand loaded (texts_loaded loaded).counter store (ascend-by_key loaded ascend) opens)

    by : (t : Option (List RowText)) → IsTold t loaded → AreToldKept t store None
    by None is = tt
    by (Some rows) is = subst (λ (r : List RowText). AreTextsOf r store) is texts
