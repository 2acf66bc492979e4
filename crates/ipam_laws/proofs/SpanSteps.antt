-- What the steps of a trail are in the span that it is of.
use Rattle.std.proofs.Common.{◌≡◌, ℕ, ◌+◌, ◌<◌, ◌⊎◌, inl, inr, List, [], ◌∷◌, Some, refl, sym, ap, ◌∙◌, subst, arith}
use Rattle.std.specs.Prelude.{◌↔◌}
use Rattle.ipam_addr.specs.Shape.{CidrValue}
use Rattle.ipam_records.specs.declared.call.Call.{Call}
use Rattle.ipam_records.specs.declared.call.Call.TheVariants.{Get, List as ListAll, Create, Update, Delete}
use Rattle.ipam_records.specs.declared.key.Key.{Key}
use Rattle.ipam_records.specs.declared.key.Key.TheVariants as key
use Rattle.ipam_records.specs.declared.key.Kind.{Kind}
use Rattle.ipam_records.specs.declared.record.Record.{Record}
use Rattle.ipam_records.specs.Datastore.{Datastore, reply_of}
use Rattle.ipam_records.specs.Label.{Credit}
use Rattle.ipam_records.specs.Said.{Said}
use Rattle.ipam_model.specs.declared.entry.CallName.TheVariants as name
use Rattle.ipam_model.specs.declared.entry.Called.{Called}
use Rattle.ipam_model.specs.declared.entry.Entry.TheVariants as entry
use Rattle.ipam_model.specs.Cluster.{record_written}
use Rattle.ipam_model.specs.CountLaw.{handle_count, held_count}
use Rattle.ipam_model.specs.Credits.{HasCredit, HasFreed, HasRaised, HasWritten, OfFreed, OfRaised, call_key_written}
use Rattle.ipam_model.specs.History.{HeardCall, InSpan, RequestSpan, now}
use Rattle.ipam_model.specs.Named.{name_of, told_of}
use Rattle.ipam_model.specs.Points.{HasPut}
use Rattle.ipam_laws.proofs.Debts.{Debt, Done, Freed, Frees, Lasts, Nothing, Owes, Raised, Raises, UsesRaised, credit_in}
use Rattle.ipam_laws.proofs.FamilyHistory.{fed-not-called, none-first, same-call, three, told-can}
use Rattle.ipam_laws.proofs.PointTrails.{Wrote}
use Rattle.ipam_laws.proofs.Trails.{Did, DidAt, Got, IsTrail, Trail}

-- ---- the call of a step

module _ (span : RequestSpan) (moment : ℕ) (store : Datastore) (asked : Call) (did : DidAt span moment store asked) where
  -- the entry's call is the step's
  abbrev IsDone : Called → Type 0
  IsDone c = (c.call ≡ name_of asked) × (c.reply ≡ told_of (reply_of store asked)) × (c.written ≡ record_written asked (reply_of store asked))

  pub step-called : (c : Called) → InSpan span moment (entry.Called c) → IsDone c
  step-called c inside =
      let same = same-call span moment did.c c did.in_span inside in
      subst (λ (x : Called). (x.call ≡ name_of asked) × (x.reply ≡ told_of (reply_of store asked)) × (x.written ≡ record_written asked (reply_of store asked))) same (did.is_call, did.is_reply, did.is_written)

  pub written-done : (k : Key) → HasWritten span moment k → Done store asked k
  written-done k w =
      let is = step-called w.c w.in_span in
      record { writes = ap call_key_written (sym is.0) ∙ w.is_of; revision = w.revision; can = told-can (reply_of store asked) w.revision (sym is.1 ∙ w.is_done) }

  pub done-written : (k : Key) → Done store asked k → HasWritten span moment k
  done-written k d = record { c = did.c; in_span = did.in_span; is_of = ap call_key_written did.is_call ∙ d.writes; revision = d.revision; is_done = did.is_reply ∙ ap told_of d.can }

  pub raised-raises : (id : List ℕ) (cidr : CidrValue) → HasRaised span moment id cidr → Raises store asked id cidr
  raised-raises id cidr h = record {
    done = written-done (key.Handle id) h.wrote;
    by_one = subst (λ (p : Datastore × Datastore). handle_count p.1 id cidr ≡ handle_count p.0 id cidr + 1) (λ i. (did.before_it i, did.behind_it i)) h.by_one;
  }

  pub raises-raised : (id : List ℕ) (cidr : CidrValue) → Raises store asked id cidr → HasRaised span moment id cidr
  raises-raised id cidr h = record {
    wrote = done-written (key.Handle id) h.done;
    by_one = subst (λ (p : Datastore × Datastore). handle_count p.1 id cidr ≡ handle_count p.0 id cidr + 1) (λ i. (sym did.before_it i, sym did.behind_it i)) h.by_one;
  }

  pub freed-frees : (credit : Credit) → HasFreed span moment credit → Frees store asked credit
  freed-frees credit h = record {
    done = written-done (key.Block credit.block) h.wrote;
    some = h.some;
    so_many = subst (λ (p : Datastore × Datastore). held_count p.0 credit.handle credit.block ≡ held_count p.1 credit.handle credit.block + credit.amount) (λ i. (did.before_it i, did.behind_it i)) h.so_many;
  }

  pub frees-freed : (credit : Credit) → Frees store asked credit → HasFreed span moment credit
  frees-freed credit h = record {
    wrote = done-written (key.Block credit.block) h.done;
    some = h.some;
    so_many = subst (λ (p : Datastore × Datastore). held_count p.0 credit.handle credit.block ≡ held_count p.1 credit.handle credit.block + credit.amount) (λ i. (sym did.before_it i, sym did.behind_it i)) h.so_many;
  }

  -- ---- reads and written records

  pub read-heard : (k : Key) (said : Said) → HeardCall span moment (Get k) said → (asked ≡ Get k) × (said ≡ reply_of store (Get k))
  read-heard k said h =
      let is = step-called h.entry_of_call h.in_span in
      (get-named asked k (sym is.0 ∙ h.is_call), h.is_reply ∙ ap (λ (s : Datastore). reply_of s (Get k)) did.before_it)
    where
      get-named : (c : Call) (k : Key) → name_of c ≡ name.Get k → c ≡ Get k
      get-named (Get other) k e = let same : other ≡ k = cc e in ap Get same
      get-named (ListAll kind) k e = absurd (cc e)
      get-named (Create new) k e = absurd (cc e)
      get-named (Update new revision) k e = absurd (cc e)
      get-named (Delete other revision) k e = absurd (cc e)

  pub list-heard : (kind : Kind) (said : Said) → HeardCall span moment (ListAll kind) said → asked ≡ ListAll kind
  list-heard kind said h = let is = step-called h.entry_of_call h.in_span in list-named asked kind (sym is.0 ∙ h.is_call)
    where
      list-named : (c : Call) (kind : Kind) → name_of c ≡ name.List kind → c ≡ ListAll kind
      list-named (ListAll other) kind e = let same : other ≡ kind = cc e in ap ListAll same
      list-named (Get k) kind e = absurd (cc e)
      list-named (Create new) kind e = absurd (cc e)
      list-named (Update new revision) kind e = absurd (cc e)
      list-named (Delete k revision) kind e = absurd (cc e)

  pub wrote-put : (new : Record) (revision : ℕ) → Wrote store asked new revision → HasPut span moment new revision
  wrote-put new revision w = record {
    c = did.c;
    in_span = did.in_span;
    is_written = did.is_written ∙ (ap (record_written asked) w.can ∙ w.is_new);
    is_done = did.is_reply ∙ ap told_of w.can;
  }

  pub put-wrote : (new : Record) (revision : ℕ) → HasPut span moment new revision → Wrote store asked new revision
  put-wrote new revision h =
      let is = step-called h.c h.in_span in
      let can = told-can (reply_of store asked) revision (sym is.1 ∙ h.is_done) in
      record { is_new = ap (record_written asked) (sym can) ∙ (sym is.2 ∙ h.is_written); can = can }

-- ---- the last of its kind

module _ (span : RequestSpan) (Event Kills : Datastore → Call → Type 0) (EventAt KilledAt : ℕ → Type 0)
    (event : (moment : ℕ) (store : Datastore) (asked : Call) → DidAt span moment store asked → Event store asked ↔ EventAt moment)
    (kills : (moment : ℕ) (store : Datastore) (asked : Call) → DidAt span moment store asked → Kills store asked ↔ KilledAt moment)
    (event_there : (moment : ℕ) → EventAt moment → (c : Called) × InSpan span moment (entry.Called c))
    (killed_there : (moment : ℕ) → KilledAt moment → (c : Called) × InSpan span moment (entry.Called c)) where
  -- it was done before, and nothing made up for it since
  pub record LastsTo (upto : ℕ) : Type 0 where
    pub moment : ℕ
    pub below : moment < upto
    pub at : EventAt moment
    pub since : (later : ℕ) → moment < later → later < upto → ¬ (KilledAt later)

  pub lasts-to : (trail : Trail) (upto : ℕ) → IsTrail span upto trail → Lasts Event Kills trail → LastsTo upto
  unfolding IsTrail Lasts
  lasts-to [] upto h lasts = absurd lasts
  lasts-to (Did m store asked ∷ trail) upto h (inl here) = record {
    moment = m;
    below = h.1.behind;
    at = (event m store asked h.0).0 here;
    since = λ later above below killed. let there = killed_there later killed in h.1.nothing_between later (entry.Called there.0) above below there.1;
  }
  lasts-to (Did m store asked ∷ trail) upto h (inr earlier) =
      let before = lasts-to trail m h.2 earlier.0 in
      let next = h.1.behind in
      let early = before.below in
      record {
        moment = before.moment;
        below = omega arith;
        at = before.at;
        since = λ later above below killed. elim (three later m) [
          | inl sooner ↦ before.since later above sooner killed
          | inr (inl same) ↦ earlier.1 ((kills m store asked h.0).1 (subst KilledAt same killed))
          | inr (inr behind_it) ↦ let there = killed_there later killed in h.1.nothing_between later (entry.Called there.0) behind_it below there.1
        ];
      }
  lasts-to (Got m at live ∷ trail) upto h lasts =
      let before = lasts-to trail m h.2 lasts in
      let next = h.1.behind in
      let early = before.below in
      record {
        moment = before.moment;
        below = omega arith;
        at = before.at;
        since = λ later above below killed.
            let there = killed_there later killed in
            elim (three later m) [
              | inl sooner ↦ before.since later above sooner killed
              | inr (inl same) ↦ fed-not-called span m at live there.0 h.0 (subst (λ (k : ℕ). InSpan span k (entry.Called there.0)) same there.1)
              | inr (inr behind_it) ↦ h.1.nothing_between later (entry.Called there.0) behind_it below there.1
            ];
      }

  pub to-lasts : (trail : Trail) (upto : ℕ) → IsTrail span upto trail → LastsTo upto → Lasts Event Kills trail
  unfolding IsTrail Lasts
  to-lasts [] upto h l = let there = event_there l.moment l.at in absurd (none-first span l.moment upto there.0 h.0 h.1 l.below there.1)
  to-lasts (Did m store asked ∷ trail) upto h l =
      let there = event_there l.moment l.at in
      let next = h.1.behind in
      elim (three l.moment m) [
        | inl sooner ↦ inr (
          to-lasts trail m h.2 (record { moment = l.moment; below = sooner; at = l.at; since = λ later above below. l.since later above (omega arith) }),
          λ killed. l.since m sooner h.1.behind ((kills m store asked h.0).0 killed),
        )
        | inr (inl same) ↦ inl ((event m store asked h.0).1 (subst EventAt same l.at))
        | inr (inr behind_it) ↦ absurd (h.1.nothing_between l.moment (entry.Called there.0) behind_it l.below there.1)
      ]
  to-lasts (Got m at live ∷ trail) upto h l =
      let there = event_there l.moment l.at in
      let next = h.1.behind in
      elim (three l.moment m) [
        | inl sooner ↦ to-lasts trail m h.2 (record { moment = l.moment; below = sooner; at = l.at; since = λ later above below. l.since later above (omega arith) })
        | inr (inl same) ↦ absurd (fed-not-called span m at live there.0 h.0 (subst (λ (k : ℕ). InSpan span k (entry.Called there.0)) same there.1))
        | inr (inr behind_it) ↦ absurd (h.1.nothing_between l.moment (entry.Called there.0) behind_it l.below there.1)
      ]

-- ---- credits

module _ (span : RequestSpan) (trail : Trail) (is_trail : IsTrail span (now span) trail) where
  UsedAt : List ℕ → CidrValue → ℕ → Type 0
  UsedAt id cidr moment = HasWritten span moment (key.Block cidr) ⊎ HasWritten span moment (key.Handle id)

  raised-event : (id : List ℕ) (cidr : CidrValue) (moment : ℕ) (store : Datastore) (asked : Call) → DidAt span moment store asked → Raises store asked id cidr ↔ HasRaised span moment id cidr
  raised-event id cidr moment store asked did = (raises-raised span moment store asked did id cidr, raised-raises span moment store asked did id cidr)

  used-event : (id : List ℕ) (cidr : CidrValue) (moment : ℕ) (store : Datastore) (asked : Call) → DidAt span moment store asked → UsesRaised id cidr store asked ↔ UsedAt id cidr moment
  unfolding UsedAt
  used-event id cidr moment store asked did = (
    λ u. elim u [ inl d ↦ inl (done-written span moment store asked did (key.Block cidr) d) | inr d ↦ inr (done-written span moment store asked did (key.Handle id) d) ],
    λ u. elim u [ inl w ↦ inl (written-done span moment store asked did (key.Block cidr) w) | inr w ↦ inr (written-done span moment store asked did (key.Handle id) w) ],
  )

  used-there : (id : List ℕ) (cidr : CidrValue) (moment : ℕ) → UsedAt id cidr moment → (c : Called) × InSpan span moment (entry.Called c)
  unfolding UsedAt
  used-there id cidr moment u = elim u [ inl w ↦ (w.c, w.in_span) | inr w ↦ (w.c, w.in_span) ]

  owes-credit : (debt : Debt) → Owes trail debt → (credit : Credit) → credit_in debt ≡ Some credit → HasCredit span credit
  unfolding UsedAt
  owes-credit Nothing owes credit e = absurd (cc e)
  owes-credit (Raised id cidr) owes credit e =
      let same : record { handle = id; block = cidr; amount = 1 } ≡ credit = cc e in
      let l = lasts-to span (λ store asked. Raises store asked id cidr) (UsesRaised id cidr) (λ moment. HasRaised span moment id cidr) (UsedAt id cidr) (raised-event id cidr) (used-event id cidr) (λ moment h. (h.wrote.c, h.wrote.in_span)) (used-there id cidr) trail (now span) is_trail ((owes.raised id cidr).0 refl) in
      subst (λ (c : Credit). HasCredit span c) same
      (OfRaised id cidr l.moment l.at (λ later above w. l.since later above w.in_span.before_now (inl w)) (λ later above w. l.since later above w.in_span.before_now (inr w)))
  owes-credit (Freed freed) owes credit e =
      let same : freed ≡ credit = cc e in
      let l = lasts-to span (λ store asked. Frees store asked freed) (λ store asked. Done store asked (key.Handle freed.handle)) (λ moment. HasFreed span moment freed) (λ moment. HasWritten span moment (key.Handle freed.handle))
      (λ moment store asked did. (frees-freed span moment store asked did freed, freed-frees span moment store asked did freed))
      (λ moment store asked did. (done-written span moment store asked did (key.Handle freed.handle), written-done span moment store asked did (key.Handle freed.handle)))
      (λ moment h. (h.wrote.c, h.wrote.in_span)) (λ moment w. (w.c, w.in_span)) trail (now span) is_trail ((owes.freed freed).0 refl) in
      subst (λ (c : Credit). HasCredit span c) same (OfFreed freed l.moment l.at (λ later above w. l.since later above w.in_span.before_now w))

  credit-owes : (debt : Debt) → Owes trail debt → (credit : Credit) → HasCredit span credit → credit_in debt ≡ Some credit
  unfolding UsedAt
  credit-owes debt owes credit (OfRaised id cidr moment raised no_block no_handle) =
      let by = to-lasts span (λ store asked. Raises store asked id cidr) (UsesRaised id cidr) (λ moment. HasRaised span moment id cidr) (UsedAt id cidr) (raised-event id cidr) (used-event id cidr) (λ moment h. (h.wrote.c, h.wrote.in_span)) (used-there id cidr) trail (now span) is_trail
      (record {
        moment = moment;
        below = raised.wrote.in_span.before_now;
        at = raised;
        since = λ later above below u. elim u [ inl w ↦ no_block later above w | inr w ↦ no_handle later above w ];
      }) in
      ap credit_in ((owes.raised id cidr).1 by)
  credit-owes debt owes credit (OfFreed same moment freed no_handle) =
      let by = to-lasts span (λ store asked. Frees store asked credit) (λ store asked. Done store asked (key.Handle credit.handle)) (λ moment. HasFreed span moment credit) (λ moment. HasWritten span moment (key.Handle credit.handle))
      (λ moment store asked did. (frees-freed span moment store asked did credit, freed-frees span moment store asked did credit))
      (λ moment store asked did. (done-written span moment store asked did (key.Handle credit.handle), written-done span moment store asked did (key.Handle credit.handle)))
      (λ moment h. (h.wrote.c, h.wrote.in_span)) (λ moment w. (w.c, w.in_span)) trail (now span) is_trail
      (record { moment = moment; below = freed.wrote.in_span.before_now; at = freed; since = λ later above below w. no_handle later above w }) in
      ap credit_in ((owes.freed credit).1 by)

  -- what is owed is the credit that the calls have made
  pub owes-exactly : (debt : Debt) → Owes trail debt → (credit : Credit) → (credit_in debt ≡ Some credit) ↔ HasCredit span credit
  owes-exactly debt owes credit = (owes-credit debt owes credit, credit-owes debt owes credit)
