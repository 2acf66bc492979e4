-- What is taken of rows is their front.
use Rattle.std.proofs.Common.{◌≡◌, ◌≢◌, ◌⊎◌, ℕ, zero, suc, ◌-◌, ◌<◌, Bool, true, false, nat_lt, List, [], ◌∷◌, ◌++◌, Option, cond, if◌then◌else◌, inl, inr, refl, sym, ap, ◌∙◌, append_assoc, append-nil, ltb-true, lt-ltb, arith}
use Rattle.ipam_records.specs.declared.key.Key.{Key}
use Rattle.ipam_records.specs.declared.record.Record.{Record}
use Rattle.ipam_records.specs.Datastore.{Datastore}
use Rattle.ipam_words.specs.declared.kind.RowKind.{RowKind}
use Rattle.ipam_session.specs.Page.{IsFrontPage, SoFar, first_taken, is_after, page_in, parts_of, rows_after, rows_kept, taken_from, with_taken}
use Rattle.ipam_session.proofs.Taking.{full-stays}

-- the page has what was taken before and the front of the rows, at least one of them where there is room
record Front (after : Option Key) (taken : SoFar) (rows : List (ℕ × Record)) (page : SoFar) : Type 0 where
  pub front : List (ℕ × Record)
  pub others : List (ℕ × Record)
  pub has : page.rows ≡ taken.rows ++ front
  pub whole : rows_after after rows ≡ front ++ others
  pub none : page.more ≡ false → others ≡ []
  pub some : page.more ≡ true → (taken.more ≡ true) ⊎ (others ≢ [])
  pub first : 0 < taken.room → front ≡ [] → others ≡ []

abbrev taking : SoFar → ℕ × Record → SoFar
taking taken row = record { rows = taken.rows ++ row ∷ []; room = taken.room - parts_of row.1; more = taken.more }

abbrev leaving : SoFar → SoFar
leaving taken = record taken { more = true }

module _ (after : Option Key) (taken : SoFar) (row : ℕ × Record) (rows : List (ℕ × Record)) where
  after-one : (b : Bool) → is_after after row.1 ≡ b → rows_after after (row ∷ rows) ≡ cond b (row ∷ rows_after after rows) (rows_after after rows)
  after-one b e = ap (λ (c : Bool). cond c (row ∷ rows_after after rows) (rows_after after rows)) e

  stays : (page : SoFar) → is_after after row.1 ≡ false → Front after taken rows page → Front after taken (row ∷ rows) page
  stays page e f = record {
    front = f.front;
    others = f.others;
    has = f.has;
    whole = after-one false e ∙ f.whole;
    none = f.none;
    some = f.some;
    first = f.first;
  }

  gains : (page : SoFar) → is_after after row.1 ≡ true → Front after (taking taken row) rows page → Front after taken (row ∷ rows) page
  gains page e f = record {
    front = row ∷ f.front;
    others = f.others;
    has = f.has ∙ append_assoc taken.rows (row ∷ []) f.front;
    whole = after-one true e ∙ ap (λ (l : List (ℕ × Record)). row ∷ l) f.whole;
    none = f.none;
    some = f.some;
    first = λ some none. absurd (cc none);
  }

  no-room : nat_lt 0 taken.room ≡ false → taken.room ≡ 0
  no-room h = by taken.room h
    where
      by : (n : ℕ) → nat_lt 0 n ≡ false → n ≡ 0
      by zero h = refl
      by (suc n) h = let told : nat_lt 0 (suc n) ≡ true = lt-ltb 0 (suc n) (omega arith) in absurd (cc (told, h))

  ends : nat_lt 0 taken.room ≡ false → is_after after row.1 ≡ true → Front after taken (row ∷ rows) (taken_from after (leaving taken) rows)
  ends h e =
      let same = full-stays after (leaving taken) rows (no-room h) refl in
      record {
        front = [];
        others = row ∷ rows_after after rows;
        has = ap (λ (t : SoFar). t.rows) same ∙ sym (append-nil taken.rows);
        whole = after-one true e;
        none = λ other. let told : (taken_from after (leaving taken) rows).more ≡ true = ap (λ (t : SoFar). t.more) same in absurd (cc (told, other));
        some = λ told. inr (λ e. cc e);
        first = λ some none. let none : taken.room ≡ 0 = no-room h in absurd (omega arith);
      }

front-of : (after : Option Key) (taken : SoFar) (rows : List (ℕ × Record)) → Front after taken rows (taken_from after taken rows)
front-of after taken [] = record {
  front = [];
  others = [];
  has = sym (append-nil taken.rows);
  whole = refl;
  none = λ other. refl;
  some = λ told. inl told;
  first = λ some none. refl;
}
front-of after taken (row ∷ rows) = by (is_after after row.1) (nat_lt 0 taken.room) refl refl (front-of after taken rows) (front-of after (taking taken row) rows)
  where
    by : (b c : Bool) → is_after after row.1 ≡ b → nat_lt 0 taken.room ≡ c → Front after taken rows (taken_from after taken rows) → Front after (taking taken row) rows (taken_from after (taking taken row) rows)
        → Front after taken (row ∷ rows) (taken_from after (if b then (if c then taking taken row else leaving taken) else taken) rows)
    by false c e h one other = stays after taken row rows (taken_from after taken rows) e one
    by true true e h one other = gains after taken row rows (taken_from after (taking taken row) rows) e other
    by true false e h one other = ends after taken row rows h e

pub front-page : (store : Datastore) (kind : RowKind) (after : Option Key) → IsFrontPage store kind after (page_in store kind after)
front-page store kind after =
    let f = front-of after first_taken (rows_kept kind store) in
    let page = page_in store kind after in
    record {
      others = f.others;
      revision = refl;
      whole = f.whole ∙ ap (λ (l : List (ℕ × Record)). l ++ f.others) (sym f.has);
      more = ((λ told. elim (f.some told) [ inl wrong ↦ let bad : false ≡ true = wrong in absurd (cc bad) | inr some ↦ some ]), λ some. by page.more refl f.none some);
      some = λ none. f.first (omega arith) (sym f.has ∙ none);
    }
  where
    by : {P : Type 0} {c : Bool} (b : Bool) → c ≡ b → (c ≡ false → P) → (P → ⊥) → c ≡ true
    by true e none some = e
    by false e none some = absurd (some (none e))
