-- What a DEL is answered is right.
use Rattle.std.proofs.Common.{◌≡◌, ℕ, zero, suc, ◌<◌, ◌⊎◌, inl, inr, Bool, true, false, cond, List, [], ◌∷◌, map, Option, Some, None, refl, sym, ap, ◌∙◌, subst, arith}
use Rattle.std.specs.Prelude.{Contains, unwrap_or}
use Rattle.std.specs.BTreeMap.{is_at}
use Rattle.std.specs.Cmp.{Equal-is}
use Rattle.std.specs.Map.{lookup}
use Rattle.ipam_addr.specs.Shape.{CidrValue}
use Rattle.ipam_block.specs.Operations.{is_owned}
use Rattle.ipam_block.specs.HandleOperations.{count_in}
use Rattle.ipam_block.specs.Order.{cidr_cmp}
use Rattle.ipam_block.proofs.Order.{cidr_cmp_exact}
use Rattle.ipam_records.specs.declared.call.Call.TheVariants.{Get}
use Rattle.ipam_records.specs.declared.key.Key.TheVariants as key
use Rattle.ipam_records.specs.declared.record.Record.{Record}
use Rattle.ipam_records.specs.declared.record.Record.TheVariants as record_of
use Rattle.ipam_records.specs.Datastore.{Datastore, reply_of, reply_to_get, row_of}
use Rattle.ipam_records.specs.Word.{Ends}
use Rattle.ipam_model.specs.declared.answer.Answer.{Answer}
use Rattle.ipam_model.specs.declared.answer.Answer.TheVariants as answer
use Rattle.ipam_model.specs.declared.outcome.DelAnswer.{DelAnswer}
use Rattle.ipam_model.specs.declared.outcome.DelAnswer.TheVariants as del
use Rattle.ipam_model.specs.declared.part.Left.{Left}
use Rattle.ipam_model.specs.declared.part.Outcome.{Outcome}
use Rattle.ipam_model.specs.declared.part.Outcome.TheVariants.{Went, Stops}
use Rattle.ipam_model.specs.declared.part.Stop.TheVariants.{OutOfTries, OutOfClaims, NoRoom, CountAtLimit, NoRevisions}
use Rattle.ipam_model.specs.Answered.{Answered, history_of, span_of}
use Rattle.ipam_model.specs.Consistent.{IsConsistent}
use Rattle.ipam_model.specs.CountLaw.{count_in_row, handle_count, held_count, held_in_row}
use Rattle.ipam_model.specs.Counting.{free, freeing_all}
use Rattle.ipam_model.specs.History.{Lawful, now, seen_at}
use Rattle.ipam_model.specs.OtherLaws.{IsDeleted}
use Rattle.ipam_model.specs.Owners.{Owner}
use Rattle.ipam_model.specs.Reads.{handle_said}
use Rattle.ipam_model.specs.Remove.{del_blocks, del_stops, del_word}
use Rattle.ipam_model.specs.Requests.{told_as}
use Rattle.ipam_model.specs.Step.{all_left, answer_of, onward}
use Rattle.ipam_model.specs.Told.{of_del}
use Rattle.ipam_laws.proofs.Acts.{Same, Since, since-since}
use Rattle.ipam_laws.proofs.CountLemmas.{same_text}
use Rattle.ipam_laws.proofs.FamilyHistory.{heard}
use Rattle.ipam_laws.proofs.FreeTrails.{FreedEnds, Rid, calmer-since, free-rids, rid-origin, rid-since}
use Rattle.ipam_laws.proofs.Members.{in-cons, in-here, in-nothing, in-there}
use Rattle.ipam_laws.proofs.NoReturn.{consistent-before}
use Rattle.ipam_laws.proofs.Owned.{HeldIn, owns-held}
use Rattle.ipam_laws.proofs.OwnersHistory.{part-of}
use Rattle.ipam_laws.proofs.RidHistory.{none-counted, rid-gone}
use Rattle.ipam_laws.proofs.Trails.{Comes, Comes-bound, Did, IsTrail, Trail}

-- ---- by the trail

-- the handle was read at the moment, and what it held in each of its blocks was rid of
pub record DidDelete (id : List ℕ) (moment : ℕ) (trail : Trail) : Type 0 where
  pub store : Datastore
  pub since : Since (Did moment store (Get (key.Handle id)) ∷ []) trail
  pub rid : (cidr : CidrValue) → Contains (map (λ (count : CidrValue × ℕ). count.0) (handle_said id (reply_of store (Get (key.Handle id)))).counts) cidr
      → (amount : ℕ) × Rid (freeing_all id cidr) (Did moment store (Get (key.Handle id)) ∷ []) amount trail

unfoldable IsDel : List ℕ → Trail → DelAnswer → Type 0
IsDel id trail (del.Deleted moment) = DidDelete id moment trail
IsDel id trail (del.Again lost) = Unit {0}
IsDel id trail del.Spent = Unit {0}

unfoldable DelEnds : List ℕ → Trail → Outcome DelAnswer → Type 0
DelEnds id trail (Went left told) = IsDel id trail told
DelEnds id trail (Stops left why) = Unit {0}

module _ (id : List ℕ) (moment : ℕ) (store : Datastore) where
  abbrev first : Trail
  first = Did moment store (Get (key.Handle id)) ∷ []

  abbrev whole : List CidrValue
  whole = map (λ (count : CidrValue × ℕ). count.0) (handle_said id (reply_of store (Get (key.Handle id)))).counts

  -- each block is rid of, or still to come
  abbrev Left-over : List CidrValue → Trail → Type 0
  Left-over list trail = (cidr : CidrValue) → Contains whole cidr → Contains list cidr ⊎ ((amount : ℕ) × Rid (freeing_all id cidr) first amount trail)

  blocks-come : (list : List CidrValue) (left : Left) (trail : Trail) → Since first trail → Left-over list trail → Comes (DelEnds id) trail (del_blocks id moment list left)
  unfolding del_blocks DelEnds IsDel FreedEnds
  blocks-come [] left trail since over = record { store = store; since = since; rid = λ cidr there. none (over cidr there) }
    where
      none : {cidr : CidrValue} → Contains [] cidr ⊎ ((amount : ℕ) × Rid (freeing_all id cidr) first amount trail) → (amount : ℕ) × Rid (freeing_all id cidr) first amount trail
      none {cidr} (inl nothing) = absurd (in-nothing cidr nothing)
      none (inr rid) = rid
  blocks-come (cidr ∷ rest) left trail since over =
      Comes-bound (FreedEnds (freeing_all id cidr) trail) (DelEnds id) (onward (λ now amount. del_blocks id moment rest now)) (free (freeing_all id cidr) left) trail (free-rids (freeing_all id cidr) trail left)
      (λ longer outcome k. ends longer outcome k (λ now further l. blocks-come rest now longer (since-since first trail longer since further) l))
    where
      unfolded : (longer : Trail) → Since trail longer → (amount : ℕ) → Rid (freeing_all id cidr) trail amount longer → Left-over rest longer
      unfolded longer further amount rid other there = elim (over other there) [
        | inl in_list ↦ elim (in-cons other cidr rest in_list) [
          | inl same ↦ inr (subst (λ (c : CidrValue). (n : ℕ) × Rid (freeing_all id c) first n longer) same (amount, rid-origin (freeing_all id cidr) first trail amount longer since rid))
          | inr later ↦ inl later
        ]
        | inr was ↦ inr (was.0, rid-since (freeing_all id other) first was.0 trail longer further was.1)
      ]

      ends : (longer : Trail) (outcome : Outcome ℕ) → FreedEnds (freeing_all id cidr) trail longer outcome → ((now : Left) → Since trail longer → Left-over rest longer → Comes (DelEnds id) longer (del_blocks id moment rest now))
          → Comes (DelEnds id) longer (onward (λ now amount. del_blocks id moment rest now) outcome)
      ends longer (Went now amount) k next = next now (calmer-since trail longer k.1) (unfolded longer (calmer-since trail longer k.1) amount k.0)
      ends longer (Stops now why) k next = tt

unfoldable pub OfDel : List ℕ → Trail → Answer → Type 0
OfDel id trail (answer.Deleted moment) = DidDelete id moment trail
OfDel id trail (answer.Again lost claims) = Unit {0}
OfDel id trail answer.Spent = Unit {0}
OfDel id trail _ = ⊥

pub told-del : (id : List ℕ) → Comes (OfDel id) [] (told_as of_del (del_word id))
unfolding DelEnds IsDel OfDel
told-del id = Comes-bound (IsDel id) (OfDel id) (λ one. Ends (of_del one)) (del_word id) [] word ends
  where
    settled-ends : (trail : Trail) (outcome : Outcome DelAnswer) → DelEnds id trail outcome → IsDel id trail (answer_of del_stops outcome)
    settled-ends trail (Went left told) k = k
    settled-ends trail (Stops left OutOfTries) k = tt
    settled-ends trail (Stops left OutOfClaims) k = tt
    settled-ends trail (Stops left NoRoom) k = tt
    settled-ends trail (Stops left (CountAtLimit moment)) k = tt
    settled-ends trail (Stops left NoRevisions) k = tt

    word : Comes (IsDel id) [] (del_word id)
    word = λ moment store agrees.
        let list = map (λ (count : CidrValue × ℕ). count.0) (handle_said id (reply_of store (Get (key.Handle id)))).counts in
        Comes-bound (DelEnds id) (IsDel id) (λ outcome. Ends (answer_of del_stops outcome)) (del_blocks id moment list all_left) (Did moment store (Get (key.Handle id)) ∷ [])
        (blocks-come id moment store list all_left (Did moment store (Get (key.Handle id)) ∷ []) Same (λ cidr there. inl there)) settled-ends

    ends : (longer : Trail) (one : DelAnswer) → IsDel id longer one → Comes (OfDel id) longer (Ends (of_del one))
    ends longer (del.Deleted moment) k = k
    ends longer (del.Again lost) k = tt
    ends longer del.Spent k = tt

-- ---- in the span

-- a block that has a count is among those of the handle
counted-there : (counts : List (CidrValue × ℕ)) (cidr : CidrValue) → 0 < count_in counts cidr → Contains (map (λ (count : CidrValue × ℕ). count.0) counts) cidr
counted-there [] cidr some = absurd (omega arith)
counted-there (entry ∷ counts) cidr some = by (is_at (cidr_cmp cidr) entry.0) refl some (λ less. counted-there counts cidr less)
  where
    by : (b : Bool) → is_at (cidr_cmp cidr) entry.0 ≡ b → 0 < unwrap_or (cond b (Some entry.1) (lookup (is_at (cidr_cmp cidr)) counts)) 0 → (0 < count_in counts cidr → Contains (map (λ (count : CidrValue × ℕ). count.0) counts) cidr)
        → Contains (map (λ (count : CidrValue × ℕ). count.0) (entry ∷ counts)) cidr
    by true e less rest = let same : cidr ≡ entry.0 = cidr_cmp_exact cidr entry.0 ((Equal-is (cidr_cmp cidr entry.0)).0 e) in subst (λ (c : CidrValue). Contains (map (λ (count : CidrValue × ℕ). count.0) (entry ∷ counts)) c) (sym same) (in-here entry.0 (map (λ (count : CidrValue × ℕ). count.0) counts))
    by false e less rest = in-there cidr entry.0 (map (λ (count : CidrValue × ℕ). count.0) counts) (rest less)

-- what the handle owns is in one of its blocks
owned-counted : (store : Datastore) (id : List ℕ) (o : Owner) (cidr : CidrValue) → IsConsistent store → o.handle ≡ id → HeldIn store cidr o → Contains (map (λ (count : CidrValue × ℕ). count.0) (handle_said id (reply_of store (Get (key.Handle id)))).counts) cidr
owned-counted store id o cidr c own held = by (row_of (key.Handle id) store.rows) refl
  where
    owned : is_owned id held.a ≡ true
    owned = subst (λ (x : List ℕ). is_owned x held.a ≡ true) (ap (λ (x : Owner). x.handle) held.is_owner ∙ own) (same_text held.a.attributes.handle)

    some-held : (n : ℕ) → held_count store id cidr ≡ n → 0 < n
    some-held zero e = absurd (none-counted (is_owned id) held.holding.b.allocations held.a (sym (ap (held_in_row id) held.holding.there) ∙ e) held.among owned)
    some-held (suc n) e = omega arith

    counted : 0 < handle_count store id cidr
    counted = let covered = c.covered id cidr in let some = some-held (held_count store id cidr) refl in omega arith

    by : (row : Option (ℕ × Record)) → row_of (key.Handle id) store.rows ≡ row → Contains (map (λ (count : CidrValue × ℕ). count.0) (handle_said id (reply_to_get row)).counts) cidr
    by row e = from row (subst (λ (r : Option (ℕ × Record)). 0 < count_in_row id cidr r) e counted)
      where
        from : (r : Option (ℕ × Record)) → 0 < count_in_row id cidr r → Contains (map (λ (count : CidrValue × ℕ). count.0) (handle_said id (reply_to_get r)).counts) cidr
        from None less = absurd (omega arith)
        from (Some (revision, record_of.Handle h)) less = counted-there h.counts cidr less
        from (Some (revision, record_of.Config config)) less = absurd (omega arith)
        from (Some (revision, record_of.Pools pools)) less = absurd (omega arith)
        from (Some (revision, record_of.Reservations list)) less = absurd (omega arith)
        from (Some (revision, record_of.Block b)) less = absurd (omega arith)
        from (Some (revision, record_of.Affinity affinity)) less = absurd (omega arith)

pub deleted-right : (a : Answered) (id : List ℕ) (moment : ℕ) (trail : Trail) → IsConsistent a.base.store → Lawful a.base (history_of a) → IsTrail (span_of a) (now (span_of a)) trail → DidDelete id moment trail → IsDeleted a id moment
unfolding IsTrail
deleted-right a id moment trail c h is d =
    let span = span_of a in
    let (until, there) = part-of span (Did moment d.store (Get (key.Handle id)) ∷ []) trail (now span) d.since is in
    let then = consistent-before a.base (history_of a) moment c h in
    record {
      found = reply_of d.store (Get (key.Handle id));
      read = heard span moment d.store (Get (key.Handle id)) there.0;
      gone = λ o own owns.
          let (cidr, held) = owns-held (seen_at span moment) o then.sound owns in
          let among = subst (λ (s : Datastore). Contains (map (λ (count : CidrValue × ℕ). count.0) (handle_said id (reply_of s (Get (key.Handle id)))).counts) cidr) there.0.before_it (owned-counted (seen_at span moment) id o cidr then own held) in
          let (amount, rid) = d.rid cidr among in
          rid-gone span c h (freeing_all id cidr) o (λ x recorded. subst (λ (t : List ℕ). is_owned t x ≡ true) (ap (λ (p : Owner). p.handle) recorded ∙ own) (same_text x.attributes.handle)) moment held moment (omega arith) trail
          (Did moment d.store (Get (key.Handle id)) ∷ []) [] amount d.store (Get (key.Handle id)) refl is rid;
    }
