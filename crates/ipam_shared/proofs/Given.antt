-- What is given to a keeper keeps its rows those of the datastore.
use Rattle.std.proofs.Common.{◌≡◌, inl, inr, List, Option, Some, None, Result, Ok, Err, refl, sym, ap, ◌∙◌, subst}
use Rattle.ipam_records.specs.declared.call.Row.{Row as RowText}
use Rattle.ipam_records.specs.declared.call.Write.{Write}
use Rattle.ipam_records.specs.Datastore.{Datastore}
use Rattle.ipam_records.specs.Sound.{IsDatastore}
use Rattle.ipam_keeper.specs.declared.keeper.KeepFault.{KeepFault}
use Rattle.ipam_keeper.specs.declared.keeper.KeepFault.TheVariants.{Failed, Memory}
use Rattle.ipam_keeper.specs.Keeping.{IsOldOrNew, OnFailed, OnMemory, SettlesOrNot, UnlessFailed}
use Rattle.ipam_shared.specs.declared.write.RowWrite.{RowWrite}
use Rattle.ipam_shared.specs.Giving.{SettlesGiven, StayKept, WereGiven, known_after, known_written}
use Rattle.ipam_shared.specs.Rows.{AreKept, AreTextsOf, AreToldKept, key_written, row_back, rows_after}
use Rattle.ipam_shared.proofs.StoreTexts.{back-after, back-own, texts-stand}

module _ (store : Datastore) (sound : IsDatastore store) (failed : RowWrite) where
  put-back-rows : (rows : List RowText) → AreKept rows store (Some failed) → (own : List RowText) × AreTextsOf own store × (rows_after (row_back (key_written failed) store) rows ≡ own)
  put-back-rows rows (own, are, inl same) =
      (own, are, ap (rows_after (row_back (key_written failed) store)) same ∙ back-own own store (key_written failed) (texts-stand store sound own are))
  put-back-rows rows (own, are, inr same) =
      (own, are, ap (rows_after (row_back (key_written failed) store)) same ∙ back-after own store failed (texts-stand store sound own are))

  -- once the row is put back, the rows are the datastore's
  pub put-back : (told : Option (List RowText)) → AreToldKept told store (Some failed) → AreToldKept (known_after (row_back (key_written failed) store) told) store None
  put-back None are = tt
  put-back (Some rows) are = let (own, texts, same) = put-back-rows rows are in subst (λ (r : List RowText). AreTextsOf r store) (sym same) texts

  -- where that failed, the row is in doubt as before
  pub put-back-failed : (told new : Option (List RowText)) → IsOldOrNew told (known_after (row_back (key_written failed) store) told) new → AreToldKept told store (Some failed) → AreToldKept new store (Some failed)
  put-back-failed told new (inl same) are = subst (λ (t : Option (List RowText)). AreToldKept t store (Some failed)) (sym same) are
  put-back-failed None new (inr same) are = subst (λ (t : Option (List RowText)). AreToldKept t store (Some failed)) (sym same) tt
  put-back-failed (Some rows) new (inr same) are =
      let (own, texts, back) = put-back-rows rows are in
      subst (λ (t : Option (List RowText)). AreToldKept t store (Some failed)) (sym same) (own, texts, inl back)

-- a write that failed is in doubt
pub write-failed : (store : Datastore) (done : RowWrite) (told new : Option (List RowText)) → IsOldOrNew told (known_after done told) new → AreToldKept told store None → AreToldKept new store (Some done)
write-failed store done None new (inl same) are = subst (λ (t : Option (List RowText)). AreToldKept t store (Some done)) (sym same) tt
write-failed store done None new (inr same) are = subst (λ (t : Option (List RowText)). AreToldKept t store (Some done)) (sym same) tt
write-failed store done (Some rows) new (inl same) are = subst (λ (t : Option (List RowText)). AreToldKept t store (Some done)) (sym same) (rows, are, inl refl)
write-failed store done (Some rows) new (inr same) are = subst (λ (t : Option (List RowText)). AreToldKept t store (Some done)) (sym same) (rows, are, inr refl)

-- rows that stay the same stay kept
pub stay-same : (store : Datastore) (told new : Option (List RowText)) (doubt left : Option RowWrite) → new ≡ told → left ≡ doubt → StayKept store told doubt new left
stay-same store told new doubt left rows same sound are =
    subst (λ (t : Option (List RowText)). AreToldKept t store left) (sym rows) (subst (λ (d : Option RowWrite). AreToldKept told store d) (sym same) are)

-- ---- one after the other

-- what was put back, and then a write that was done, that failed, or that found no memory
pub given-after : (store : Datastore) (write : Option Write) (told between new : Option (List RowText)) (doubt left : Option RowWrite) → StayKept store told doubt between left → left ≡ None → new ≡ known_written write between → WereGiven write store told doubt new
given-after store write told between new doubt left stay sure is sound are =
    (between, subst (λ (d : Option RowWrite). AreToldKept between store d) sure (stay sound are), is)

pub failed-after : (store : Datastore) (done : RowWrite) (told between new : Option (List RowText)) (doubt left last : Option RowWrite) → StayKept store told doubt between left → left ≡ None → last ≡ Some done → IsOldOrNew between (known_after done between) new → StayKept store told doubt new last
failed-after store done told between new doubt left last stay sure is old_or_new sound are =
    subst (λ (d : Option RowWrite). AreToldKept new store d) (sym is)
    (write-failed store done between new old_or_new (subst (λ (d : Option RowWrite). AreToldKept between store d) sure (stay sound are)))

pub same-after : (store : Datastore) (told between new : Option (List RowText)) (doubt left last : Option RowWrite) → StayKept store told doubt between left → last ≡ left → new ≡ between → StayKept store told doubt new last
same-after store told between new doubt left last stay same rows sound are =
    stay-same store between new left last rows same sound (stay sound are)

-- what is sure then
pub settles-after : (store : Datastore) (told between rows : Option (List RowText)) (doubt left : Option RowWrite) (old mid new : Option (List RowText)) → StayKept store told doubt between left → left ≡ None → SettlesOrNot old mid between → SettlesOrNot mid new rows → SettlesGiven store told doubt old new rows
settles-after store told between rows doubt left old mid new stay sure first (inr all) sound are = inl (inr all)
settles-after store told between rows doubt left old mid new stay sure (inl same) (inl also) sound are = inl (inl (also ∙ same))
settles-after store told between rows doubt left old mid new stay sure (inr all) (inl also) sound are =
    inr (subst (λ (t : Option (List RowText)). AreToldKept t store None) (sym (also ∙ all)) (subst (λ (d : Option RowWrite). AreToldKept between store d) sure (stay sound are)))

-- what a keeper answered when the row was put back
module _ (store : Datastore) (sound : IsDatastore store) (failed : RowWrite) (told new : Option (List RowText)) (are : AreToldKept told store (Some failed)) where
  pub put-back-done : new ≡ known_after (row_back (key_written failed) store) told → AreToldKept new store None
  put-back-done same = subst (λ (t : Option (List RowText)). AreToldKept t store None) (sym same) (put-back store sound failed told are)

  pub put-back-fault : (e : KeepFault) → OnFailed {T = Unit {0}} (Err e) (IsOldOrNew told (known_after (row_back (key_written failed) store) told) new) → OnMemory {T = Unit {0}} (Err e) (new ≡ told) → AreToldKept new store (Some failed)
  put-back-fault Failed old_or_new same = put-back-failed store sound failed told new old_or_new are
  put-back-fault Memory old_or_new same = subst (λ (t : Option (List RowText)). AreToldKept t store (Some failed)) (sym same) are

-- what is so where the keeper failed, and where it found no memory
pub failed-of : {P : Type 0} (e : KeepFault) → e ≡ Failed → OnFailed {T = Unit {0}} (Err e) P → P
failed-of {P} e is h = subst (λ (x : KeepFault). OnFailed {T = Unit {0}} (Err x) P) is h

pub memory-of : {P : Type 0} (e : KeepFault) → e ≡ Memory → OnMemory {T = Unit {0}} (Err e) P → P
memory-of {P} e is h = subst (λ (x : KeepFault). OnMemory {T = Unit {0}} (Err x) P) is h

pub unfailed-of : {P : Type 0} (e : KeepFault) → e ≡ Memory → UnlessFailed {T = Unit {0}} (Err e) P → P
unfailed-of {P} e is h = subst (λ (x : KeepFault). UnlessFailed {T = Unit {0}} (Err x) P) is h

-- what follows of a call that failed
failed-then : {P Q : Type 0} (e : KeepFault) → OnFailed {T = Unit {0}} (Err e) P → (P → Q) → OnFailed {T = Unit {0}} (Err e) Q
failed-then Failed h so = so h
failed-then Memory h so = tt

pub on-failed : {P Q : Type 0} (r : Result (Unit {0}) KeepFault) (e : KeepFault) → r ≡ Err e → OnFailed {T = Unit {0}} (Err e) P → (P → Q) → OnFailed r Q
on-failed {P} {Q} r e is h so = subst (λ (x : Result (Unit {0}) KeepFault). OnFailed x Q) (sym is) (failed-then e h so)

pub failed-both : {A B Q : Type 0} (r : Result (Unit {0}) KeepFault) → OnFailed r A → OnFailed r B → (A → B → Q) → OnFailed r Q
failed-both (Ok done) a b so = tt
failed-both (Err Failed) a b so = so a b
failed-both (Err Memory) a b so = tt
