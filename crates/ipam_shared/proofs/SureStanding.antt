-- What the keeper is sure of after each call, and that it may be opened.
use Rattle.std.proofs.Common.{◌≡◌, ◌⊎◌, ℕ, ◌+◌, ◌≤◌, inl, inr, List, [], ◌∷◌, ◌++◌, length, Option, Some, None, Result, Ok, Err, append_assoc, length-append, refl, sym, ap, ◌∙◌, subst, arith}
use Rattle.std.specs.Prelude.{IfOk, IfSome, OnErr}
use Rattle.ipam_records.specs.declared.call.Row.{Row as RowText}
use Rattle.ipam_records.specs.Datastore.{Datastore}
use Rattle.ipam_keeper.specs.Keeping.{SettlesOrNot}
use Rattle.ipam_model.specs.declared.entry.Entry.{Entry}
use Rattle.ipam_model.specs.declared.entry.Entry.TheVariants as entry
use Rattle.ipam_model.specs.Consistent.{IsConsistent}
use Rattle.ipam_model.specs.History.{Base, Lawful, moment_of, store_at}
use Rattle.ipam_laws.proofs.SpanCalls.{first-lawful}
use Rattle.ipam_laws.proofs.StandsFor.{entries-are}
use Rattle.ipam_shared.specs.declared.kept.Kept.{Kept}
use Rattle.ipam_shared.specs.declared.write.RowWrite.{RowWrite}
use Rattle.ipam_shared.specs.Doubt.{IsDoubt}
use Rattle.ipam_shared.specs.Giving.{SettlesGiven}
use Rattle.ipam_shared.specs.Kept.{KeepsWith, KeptFor, Stays, Tells}
use Rattle.ipam_shared.specs.Rows.{AreKept, AreTextsOf, AreToldKept}
use Rattle.ipam_shared.specs.Sure.{AreSince, OpensAtEnd, StaysSure, SureFor, SureOpensLaw, SureWith}
use Rattle.ipam_shared.proofs.Doubts.{opens-so}
use Rattle.ipam_shared.proofs.Standing.{sound-store}

-- ---- moments

-- with later entries there are as many or more
pub moment-later : (base : Base) (later earlier : List Entry) → moment_of base earlier ≤ moment_of base (later ++ earlier)
moment-later base later earlier = let more = length-append later earlier in omega arith

pub moment-since : (count : ℕ) (told : Option (List RowText)) (base : Base) (history : List Entry) → AreSince count told base history → count ≤ moment_of base history
moment-since count told base history h =
    let few = h.enough in
    let more = moment-later base h.later h.earlier in
    let same : moment_of base history ≡ moment_of base (h.later ++ h.earlier) = ap (λ (l : List Entry). moment_of base l) h.is_history in
    omega arith

-- ---- what the keeper is sure of

module _ {D : Type 0} (tells sure : Tells D) where
  -- where it was made sure of all rows
  pub all-sure : (kept : Kept D) (base : Base) (history : List Entry) → KeptFor tells kept base history → kept.settled ≤ moment_of base history → sure kept.keeper ≡ tells kept.keeper → SureFor sure kept base history
  all-sure kept base history h few same = record {
    later = [];
    earlier = history;
    is_history = refl;
    enough = few;
    doubt = kept.doubt;
    is_doubt = h.doubt;
    rows = subst (λ (t : Option (List RowText)). AreToldKept t (store_at base history) kept.doubt) (sym same)
        (subst (λ (s : Datastore). AreToldKept (tells kept.keeper) s kept.doubt) h.cluster.is_cluster.store h.rows);
  }

  -- what was sure still is, whatever came since
  pub sure-stays : (old new : Kept D) (base : Base) (told history : List Entry) → new.settled ≡ old.settled → sure new.keeper ≡ sure old.keeper → SureFor sure old base history → SureFor sure new base (told ++ history)
  sure-stays old new base told history count same h = record {
    later = told ++ h.later;
    earlier = h.earlier;
    is_history = ap (λ (l : List Entry). told ++ l) h.is_history ∙ sym (append_assoc told h.later h.earlier);
    enough = subst (λ (n : ℕ). n ≤ moment_of base h.earlier) (sym count) h.enough;
    doubt = h.doubt;
    is_doubt = h.is_doubt;
    rows = subst (λ (t : Option (List RowText)). AreToldKept t (store_at base h.earlier) h.doubt) (sym same) h.rows;
  }

  -- after what a call gave
  pub sure-given : (old new : Kept D) (base : Base) (told history : List Entry) → KeptFor tells old base history → KeptFor tells new base (told ++ history) → new.settled ≡ old.settled
      → SettlesOrNot (sure old.keeper) (sure new.keeper) (tells new.keeper) ⊎ AreToldKept (sure new.keeper) old.cluster.store.store None
      → SureFor sure old base history → SureFor sure new base (told ++ history)
  sure-given old new base told history before behind count (inl (inl same)) h = sure-stays old new base told history count same h
  sure-given old new base told history before behind count (inl (inr all)) h =
      let few = moment-since old.settled (sure old.keeper) base history h in
      let more = moment-later base told history in
      all-sure new base (told ++ history) behind (let n = count in omega arith) all
  sure-given old new base told history before behind count (inr back) h = record {
    later = told;
    earlier = history;
    is_history = refl;
    enough = subst (λ (n : ℕ). n ≤ moment_of base history) (sym count) (moment-since old.settled (sure old.keeper) base history h);
    doubt = None;
    is_doubt = tt;
    rows = subst (λ (s : Datastore). AreToldKept (sure new.keeper) s None) before.cluster.is_cluster.store back;
  }

  module _ (old new : Kept D) (count : new.settled ≡ old.settled) where
    -- ---- what begins, is fed and is stopped

    left-sure : (told : Entry) → sure new.keeper ≡ sure old.keeper → SureWith tells sure old new told
    left-sure told same = record { settled = count; stays = λ base history before h. sure-stays old new base (told ∷ []) history count same h }

    pub entry-sure : {E : Type 0} (result : Result Entry E) → sure new.keeper ≡ sure old.keeper → IfOk result (SureWith tells sure old new)
    entry-sure (Ok told) same = left-sure told same
    entry-sure (Err e) same = tt

    pub stop-sure : (result : Option Entry) → sure new.keeper ≡ sure old.keeper → IfSome result (SureWith tells sure old new)
    stop-sure (Some told) same = left-sure told same
    stop-sure None same = tt

    -- ---- what comes of a call

    module _ (given : SettlesGiven old.cluster.store.store (tells old.keeper) old.doubt (sure old.keeper) (sure new.keeper) (tells new.keeper)) where
      -- one that was made
      pub made-sure : (told : Entry) → KeepsWith tells old new told → SureWith tells sure old new told
      made-sure told keeps = record {
        settled = count;
        stays = λ base history before h.
            sure-given old new base (told ∷ []) history before (keeps base history before) count (given (sound-store old.cluster base history before.cluster) before.rows) h;
      }

      -- one for which there was no memory
      pub unmade-sure : Stays tells old new → StaysSure tells sure old new
      unmade-sure stay base history before h =
          sure-given old new base [] history before (stay.kept base history before) count (given (sound-store old.cluster base history before.cluster) before.rows) h

    -- ---- a settling

    -- one that was not done
    pub unsettled-sure : SettlesOrNot (sure old.keeper) (sure new.keeper) (tells new.keeper) → Stays tells old new → StaysSure tells sure old new
    unsettled-sure given stay base history before h = sure-given old new base [] history before (stay.kept base history before) count (inl given) h

  -- one that was done
  pub settled-sure : (old new : Kept D) → new.settled ≡ new.cluster.entries → sure new.keeper ≡ tells new.keeper → Stays tells old new → StaysSure tells sure old new
  settled-sure old new count all stay base history before h =
      let behind = stay.kept base history before in
      let entries = behind.cluster.is_cluster.entries ∙ entries-are base history in
      all-sure new base history behind (let n = count in omega arith) all

  -- where a call was made on a cluster that is the same as another
  pub sure-over : {E : Type 0} (old between new : Kept D) → Stays tells old between → between.settled ≡ old.settled → ((base : Base) (history : List Entry) → SureFor sure old base history → SureFor sure between base history)
      → (result : Result Entry E) → IfOk result (SureWith tells sure between new) → IfOk result (SureWith tells sure old new)
  sure-over old between new stay count same (Ok told) behind = record {
    settled = behind.settled ∙ count;
    stays = λ base history before h. behind.stays base history (stay.kept base history before) (same base history h);
  }
  sure-over old between new stay count same (Err e) behind = tt

  pub unmade-over : {E : Type 0} (old between new : Kept D) → Stays tells old between → ((base : Base) (history : List Entry) → SureFor sure old base history → SureFor sure between base history)
      → (result : Result Entry E) → OnErr result (StaysSure tells sure between new) → OnErr result (StaysSure tells sure old new)
  unmade-over old between new stay same (Ok told) behind = tt
  unmade-over old between new stay same (Err e) behind = λ base history before h. behind base history (stay.kept base history before) (same base history h)

-- ---- what is sure may be opened

opens-at-end : (base : Base) (history : List Entry) (doubt : Option RowWrite) (rows : List RowText) → IsConsistent base.store → Lawful base history → IsDoubt doubt base history → AreKept rows (store_at base history) doubt → OpensAtEnd rows base history
opens-at-end base history None rows consistent lawful doubt are = record {
  ended = history;
  is_ended = inl refl;
  lawful = lawful;
  opens = opens-so base history rows consistent lawful are;
}
opens-at-end base history (Some done) rows consistent lawful doubt (own, are, inl same) = record {
  ended = history;
  is_ended = inl refl;
  lawful = lawful;
  opens = opens-so base history rows consistent lawful (subst (λ (r : List RowText). AreTextsOf r (store_at base history)) (sym same) are);
}
opens-at-end base history (Some done) rows consistent lawful doubt (own, are, inr same) = record {
  ended = entry.Called doubt.other ∷ doubt.earlier;
  is_ended = inr (record {
    later = doubt.later;
    call = doubt.call;
    earlier = doubt.earlier;
    is_history = doubt.is_history;
    failed = doubt.failed;
    other = doubt.other;
    same_call = doubt.same_call;
    is_instead = refl;
  });
  lawful = doubt.lawful;
  opens = opens-so base (entry.Called doubt.other ∷ doubt.earlier) rows consistent doubt.lawful
      (subst (λ (r : List RowText). AreTextsOf r (store_at base (entry.Called doubt.other ∷ doubt.earlier))) (sym same) (doubt.leaves own are));
}

pub sure_opens : SureOpensLaw
sure_opens base history count rows consistent lawful are = record {
  later = are.later;
  earlier = are.earlier;
  is_history = are.is_history;
  enough = are.enough;
  opens = opens-at-end base are.earlier are.doubt rows consistent
      (first-lawful base are.later are.earlier (subst (λ (l : List Entry). Lawful base l) are.is_history lawful)) are.is_doubt are.rows;
}
