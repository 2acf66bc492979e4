-- Where a request stands in a claim or a release, by the calls of its trail.
use Rattle.std.proofs.Common.{◌≡◌, ◌≢◌, ℕ, Bool, true, false, cond, List, [], ◌∷◌, Option, Some, None, refl, sym, ap, ◌∙◌, subst}
use Rattle.std.specs.Prelude.{◌↔◌, IsTrue}
use Rattle.ipam_addr.specs.Shape.{CidrValue}
use Rattle.ipam_block.specs.declared.record.Affinity.{Affinity}
use Rattle.ipam_block.specs.declared.state.State.TheVariants.{Pending, PendingDeletion}
use Rattle.ipam_block.specs.Shape.{BlockValue}
use Rattle.ipam_records.specs.declared.call.Call.{Call}
use Rattle.ipam_records.specs.declared.call.Call.TheVariants.{Get, List as ListAll}
use Rattle.ipam_records.specs.declared.key.Key.TheVariants as key
use Rattle.ipam_records.specs.declared.key.Kind.TheVariants as kind
use Rattle.ipam_records.specs.declared.record.Record.{Record}
use Rattle.ipam_records.specs.declared.record.Record.TheVariants as record_of
use Rattle.ipam_records.specs.Datastore.{Datastore, reply_of}
use Rattle.ipam_records.specs.Label.{Point, Nowhere, Claiming, Claimed, Releasing, Released}
use Rattle.ipam_records.specs.Said.{Found, Can}
use Rattle.ipam_model.specs.declared.request.Request.{Request}
use Rattle.ipam_model.specs.declared.request.Request.TheVariants.{Release}
use Rattle.ipam_model.specs.Affinities.{affinity}
use Rattle.ipam_model.specs.Cluster.{new_record}
use Rattle.ipam_model.specs.Moments.{revision_of}
use Rattle.ipam_model.specs.Tries.{is_add}
use Rattle.ipam_model.specs.Usable.{is_same_cidr}
use Rattle.ipam_laws.proofs.Trails.{Did, Got, Trail}

-- ---- what a call was

-- the call wrote this record, which took the revision
pub record Wrote (store : Datastore) (asked : Call) (new : Record) (revision : ℕ) : Type 0 where
  pub is_new : new_record asked ≡ Some new
  pub can : reply_of store asked ≡ Can revision

-- whether the call shows the block
abbrev pub shows : CidrValue → Call → Bool
shows cidr (ListAll kind.Block) = true
shows cidr (Get (key.Block other)) = is_same_cidr other cidr
shows cidr _ = false

-- the revision of the block where the trail saw it last
unfoldable pub seen_last : CidrValue → Trail → Option (Option ℕ)
seen_last cidr [] = None
seen_last cidr (Did moment store asked ∷ trail) = cond (shows cidr asked) (Some (revision_of store (key.Block cidr))) (seen_last cidr trail)
seen_last cidr (Got moment at live ∷ trail) = seen_last cidr trail

-- ---- the points

pub data Keeps (store : Datastore) (asked : Call) (node : List ℕ) (cidr : CidrValue) (kept : ℕ) : Type 0 where
  AsFound : (found : Affinity) → asked ≡ Get (key.Affinity node cidr) → reply_of store asked ≡ Found kept (record_of.Affinity found) → found.state ≢ PendingDeletion → Keeps store asked node cidr kept
  AsPut : Wrote store asked (record_of.Affinity (affinity node cidr Pending)) kept → Keeps store asked node cidr kept

-- the newest step of the trail is this call
pub record Newest (trail : Trail) : Type 0 where
  pub moment : ℕ
  pub store : Datastore
  pub asked : Call
  pub rest : Trail
  pub is : trail ≡ Did moment store asked ∷ rest

pub record ClaimingBy (request : Request) (trail : Trail) (node : List ℕ) (cidr : CidrValue) (read : Option ℕ) (kept : ℕ) : Type 0 where
  pub adds : IsTrue (is_add request)
  pub newest : Newest trail
  pub keeps : Keeps newest.store newest.asked node cidr kept
  pub saw : seen_last cidr trail ≡ Some read

pub record ReleasingBy (request : Request) (trail : Trail) (node : List ℕ) (cidr : CidrValue) (read : Option ℕ) (mark : ℕ) : Type 0 where
  pub releases : request ≡ Release node cidr
  pub at_mark : Newest trail
  pub looked : Newest at_mark.rest
  pub marked : Newest looked.rest
  pub found : Affinity
  pub finds : at_mark.asked ≡ Get (key.Affinity node cidr)
  pub found_at : reply_of at_mark.store at_mark.asked ≡ Found mark (record_of.Affinity found)
  pub looks : looked.asked ≡ Get (key.Block cidr)
  pub was : revision_of looked.store (key.Block cidr) ≡ read
  pub marks : Wrote marked.store marked.asked (record_of.Affinity (affinity node cidr PendingDeletion)) mark

pub record PutBlock (trail : Trail) (cidr : CidrValue) (Before : Trail → Type 0) : Type 0 where
  pub newest : Newest trail
  pub b : BlockValue
  pub is_of : b.cidr ≡ cidr
  pub revision : ℕ
  pub put : Wrote newest.store newest.asked (record_of.Block b) revision
  pub stood : Before newest.rest

abbrev pub StandsBy : Request → Trail → Point → Type 0
StandsBy request trail Nowhere = Unit {0}
StandsBy request trail (Claiming node cidr read kept) = ClaimingBy request trail node cidr read kept
StandsBy request trail (Claimed node cidr kept) = PutBlock trail cidr (λ rest. (read : Option ℕ) × ClaimingBy request rest node cidr read kept)
StandsBy request trail (Releasing node cidr read mark) = ReleasingBy request trail node cidr read mark
StandsBy request trail (Released node cidr mark) = PutBlock trail cidr (λ rest. (read : Option ℕ) × ReleasingBy request rest node cidr read mark)

-- it stands at this point and no other
abbrev pub IsAtPoint : Request → Trail → Point → Type 0
IsAtPoint request trail point = (other : Point) → other ≢ Nowhere → (point ≡ other) ↔ StandsBy request trail other

-- ---- standing nowhere

-- the call reads no affinity, and writes neither an affinity nor a block
pub record IsPlain (asked : Call) : Type 0 where
  pub reads_none : (node : List ℕ) (cidr : CidrValue) → asked ≢ Get (key.Affinity node cidr)
  pub writes_none : (a : Affinity) → new_record asked ≢ Some (record_of.Affinity a)
  pub puts_none : (b : BlockValue) → new_record asked ≢ Some (record_of.Block b)

-- what stands at no point does so in each of the four ways
nowhere : (request : Request) (trail : Trail)
    → ((node : List ℕ) (cidr : CidrValue) (read : Option ℕ) (kept : ℕ) → ¬ (ClaimingBy request trail node cidr read kept))
    → ((node : List ℕ) (cidr : CidrValue) (read : Option ℕ) (mark : ℕ) → ¬ (ReleasingBy request trail node cidr read mark))
    → ((cidr : CidrValue) (Before : Trail → Type 0) → ((rest : Trail) → Before rest → (point : Point) × (point ≢ Nowhere) × StandsBy request rest point) → ¬ (PutBlock trail cidr Before))
    → IsAtPoint request trail Nowhere
nowhere request trail claiming releasing putting Nowhere some = absurd (some refl)
nowhere request trail claiming releasing putting (Claiming node cidr read kept) some = (λ e. absurd (cc e), λ h. absurd (claiming node cidr read kept h))
nowhere request trail claiming releasing putting (Releasing node cidr read mark) some = (λ e. absurd (cc e), λ h. absurd (releasing node cidr read mark h))
nowhere request trail claiming releasing putting (Claimed node cidr kept) some = (
  λ e. absurd (cc e),
  λ h. absurd (putting cidr (λ rest. (read : Option ℕ) × ClaimingBy request rest node cidr read kept) (λ rest stood. (Claiming node cidr stood.0 kept, λ e. cc e, stood.1)) h),
)
nowhere request trail claiming releasing putting (Released node cidr mark) some = (
  λ e. absurd (cc e),
  λ h. absurd (putting cidr (λ rest. (read : Option ℕ) × ReleasingBy request rest node cidr read mark) (λ rest stood. (Releasing node cidr stood.0 mark, λ e. cc e, stood.1)) h),
)

pub begins-nowhere : (request : Request) → IsAtPoint request [] Nowhere
begins-nowhere request =
    nowhere request [] (λ node cidr read kept h. let e = h.newest.is in absurd (cc e)) (λ node cidr read mark h. let e = h.at_mark.is in absurd (cc e))
    (λ cidr Before back h. let e = h.newest.is in absurd (cc e))

pub fed-nowhere : (request : Request) (moment at : ℕ) (live : List (List ℕ)) (trail : Trail) → IsAtPoint request (Got moment at live ∷ trail) Nowhere
fed-nowhere request moment at live trail =
    nowhere request (Got moment at live ∷ trail) (λ node cidr read kept h. let e = h.newest.is in absurd (cc e)) (λ node cidr read mark h. let e = h.at_mark.is in absurd (cc e))
    (λ cidr Before back h. let e = h.newest.is in absurd (cc e))

module _ (request : Request) (moment : ℕ) (store : Datastore) (asked : Call) (trail : Trail) where
  abbrev longer : Trail
  longer = Did moment store asked ∷ trail

  -- the newest call is the one that was made, and the rest what was before
  pub same-asked : (newest : Newest longer) → newest.asked ≡ asked
  same-asked newest = let e = newest.is in cc e

  pub same-store : (newest : Newest longer) → newest.store ≡ store
  same-store newest = let e = newest.is in cc e

  pub same-rest : (newest : Newest longer) → newest.rest ≡ trail
  same-rest newest = let e = newest.is in cc e

  here-keeps : (newest : Newest longer) (node : List ℕ) (cidr : CidrValue) (kept : ℕ) → Keeps newest.store newest.asked node cidr kept → Keeps store asked node cidr kept
  here-keeps newest node cidr kept h =
      let one = same-store newest in
      let two = same-asked newest in
      subst (λ (p : Datastore × Call). Keeps p.0 p.1 node cidr kept) (λ i. (one i, two i)) h

  here-wrote : (newest : Newest longer) (new : Record) (revision : ℕ) → Wrote newest.store newest.asked new revision → Wrote store asked new revision
  here-wrote newest new revision h =
      let one = same-store newest in
      let two = same-asked newest in
      subst (λ (p : Datastore × Call). Wrote p.0 p.1 new revision) (λ i. (one i, two i)) h

  -- nowhere, by what the newest call is not
  call-nowhere : ((node : List ℕ) (cidr : CidrValue) (kept : ℕ) → IsTrue (is_add request) → ¬ (Keeps store asked node cidr kept))
      → ((node : List ℕ) (cidr : CidrValue) (read : Option ℕ) (mark : ℕ) → ¬ (ReleasingBy request longer node cidr read mark))
      → ((b : BlockValue) (revision : ℕ) → Wrote store asked (record_of.Block b) revision → IsAtPoint request trail Nowhere) → IsAtPoint request longer Nowhere
  call-nowhere keeps releasing puts =
      nowhere request longer (λ node cidr read kept h. keeps node cidr kept h.adds (here-keeps h.newest node cidr kept h.keeps)) releasing putting
    where
      putting : (cidr : CidrValue) (Before : Trail → Type 0) → ((rest : Trail) → Before rest → (point : Point) × (point ≢ Nowhere) × StandsBy request rest point) → ¬ (PutBlock longer cidr Before)
      putting cidr Before back h =
          let (point, some, stood) = back h.newest.rest h.stood in
          let at = puts h.b h.revision (here-wrote h.newest (record_of.Block h.b) h.revision h.put) in
          let there = subst (λ (t : Trail). StandsBy request t point) (same-rest h.newest) stood in
          let e = (at point some).1 there in
          some (sym e)

  -- a release stands between its writes after a read of the affinity alone
  pub release-reads : (node : List ℕ) (cidr : CidrValue) (read : Option ℕ) (mark : ℕ) → ReleasingBy request longer node cidr read mark → asked ≡ Get (key.Affinity node cidr)
  release-reads node cidr read mark h = sym (same-asked h.at_mark) ∙ h.finds

  pub plain-nowhere : IsPlain asked → IsAtPoint request longer Nowhere
  plain-nowhere plain =
      call-nowhere keeps (λ node cidr read mark h. plain.reads_none node cidr (release-reads node cidr read mark h)) (λ b revision w. absurd (plain.puts_none b w.is_new))
    where
      keeps : (node : List ℕ) (cidr : CidrValue) (kept : ℕ) → IsTrue (is_add request) → ¬ (Keeps store asked node cidr kept)
      keeps node cidr kept adds (AsFound found e reply state) = plain.reads_none node cidr e
      keeps node cidr kept adds (AsPut w) = plain.writes_none (affinity node cidr Pending) w.is_new

  -- a write of a block where the request stood nowhere
  pub block-nowhere : (b : BlockValue) → new_record asked ≡ Some (record_of.Block b) → IsAtPoint request trail Nowhere → IsAtPoint request longer Nowhere
  block-nowhere b is at =
      call-nowhere keeps (λ node cidr read mark h. reads node cidr (release-reads node cidr read mark h)) (λ other revision w. at)
    where
      reads : (node : List ℕ) (cidr : CidrValue) → asked ≢ Get (key.Affinity node cidr)
      reads node cidr e = let none = sym is ∙ ap new_record e in absurd (cc none)

      keeps : (node : List ℕ) (cidr : CidrValue) (kept : ℕ) → IsTrue (is_add request) → ¬ (Keeps store asked node cidr kept)
      keeps node cidr kept adds (AsFound found e reply state) = reads node cidr e
      keeps node cidr kept adds (AsPut w) = let other = sym is ∙ w.is_new in absurd (cc other)

  -- a write that was not done
  pub lost-nowhere : ((node : List ℕ) (cidr : CidrValue) → asked ≢ Get (key.Affinity node cidr)) → ((revision : ℕ) → reply_of store asked ≢ Can revision) → IsAtPoint request longer Nowhere
  lost-nowhere reads lost =
      call-nowhere keeps (λ node cidr read mark h. reads node cidr (release-reads node cidr read mark h)) (λ b revision w. absurd (lost revision w.can))
    where
      keeps : (node : List ℕ) (cidr : CidrValue) (kept : ℕ) → IsTrue (is_add request) → ¬ (Keeps store asked node cidr kept)
      keeps node cidr kept adds (AsFound found e reply state) = reads node cidr e
      keeps node cidr kept adds (AsPut w) = lost kept w.can

  -- a write of an affinity, but of a pending one by an ADD
  pub affinity-nowhere : (a : Affinity) → new_record asked ≡ Some (record_of.Affinity a) → (IsTrue (is_add request) → a.state ≢ Pending) → IsAtPoint request longer Nowhere
  affinity-nowhere a is state =
      call-nowhere keeps (λ node cidr read mark h. reads node cidr (release-reads node cidr read mark h)) (λ b revision w. let other = sym is ∙ w.is_new in absurd (cc other))
    where
      reads : (node : List ℕ) (cidr : CidrValue) → asked ≢ Get (key.Affinity node cidr)
      reads node cidr e = let none = sym is ∙ ap new_record e in absurd (cc none)

      keeps : (node : List ℕ) (cidr : CidrValue) (kept : ℕ) → IsTrue (is_add request) → ¬ (Keeps store asked node cidr kept)
      keeps node cidr kept adds (AsFound found e reply other) = reads node cidr e
      keeps node cidr kept adds (AsPut w) =
          let same : a ≡ affinity node cidr Pending = cc (is, w.is_new) in
          state adds (ap (λ (x : Affinity). x.state) same)

  -- a read of an affinity, but of one that an ADD keeps or that a release finds at its mark
  pub read-nowhere : (node : List ℕ) (cidr : CidrValue) → asked ≡ Get (key.Affinity node cidr)
      → (IsTrue (is_add request) → (kept : ℕ) (found : Affinity) → reply_of store asked ≡ Found kept (record_of.Affinity found) → found.state ≡ PendingDeletion)
      → ((node : List ℕ) (cidr : CidrValue) (read : Option ℕ) (mark : ℕ) → ¬ (ReleasingBy request longer node cidr read mark)) → IsAtPoint request longer Nowhere
  read-nowhere node cidr is gone releasing =
      call-nowhere keeps releasing (λ b revision w. let none = sym w.is_new ∙ ap new_record is in absurd (cc none))
    where
      keeps : (other : List ℕ) (c : CidrValue) (kept : ℕ) → IsTrue (is_add request) → ¬ (Keeps store asked other c kept)
      keeps other c kept adds (AsFound found e reply state) = state (gone adds kept found reply)
      keeps other c kept adds (AsPut w) = let none = sym w.is_new ∙ ap new_record is in absurd (cc none)

  -- ---- at a point

  -- two ways to keep an affinity are one
  same-kept : (node other : List ℕ) (cidr c : CidrValue) (kept k : ℕ) → Keeps store asked node cidr kept → Keeps store asked other c k → (node ≡ other) × (cidr ≡ c) × (kept ≡ k)
  same-kept node other cidr c kept k (AsFound found e reply state) (AsFound found' e' reply' state') = (cc (e, e'), cc (e, e'), cc (reply, reply'))
  same-kept node other cidr c kept k (AsFound found e reply state) (AsPut w) = let none = sym w.is_new ∙ ap new_record e in absurd (cc none)
  same-kept node other cidr c kept k (AsPut w) (AsFound found e reply state) = let none = sym w.is_new ∙ ap new_record e in absurd (cc none)
  same-kept node other cidr c kept k (AsPut w) (AsPut w') =
      let same : affinity node cidr Pending ≡ affinity other c Pending = cc (w.is_new, w'.is_new) in
      (ap (λ (a : Affinity). a.node) same, ap (λ (a : Affinity). a.cidr) same, cc (w.can, w'.can))

  -- what keeps an affinity puts no block
  keeps-no-block : (node : List ℕ) (cidr : CidrValue) (kept : ℕ) → Keeps store asked node cidr kept → (b : BlockValue) → new_record asked ≢ Some (record_of.Block b)
  keeps-no-block node cidr kept (AsFound found e reply state) b is = let none = sym is ∙ ap new_record e in absurd (cc none)
  keeps-no-block node cidr kept (AsPut w) b is = let other = sym is ∙ w.is_new in absurd (cc other)

  adds-no-release : IsTrue (is_add request) → (node : List ℕ) (cidr : CidrValue) → request ≢ Release node cidr
  adds-no-release adds node cidr e = let t = subst (λ (r : Request). IsTrue (is_add r)) e adds in absurd (cc t)

  pub keeps-claiming : (node : List ℕ) (cidr : CidrValue) (read : Option ℕ) (kept : ℕ) → IsTrue (is_add request) → Keeps store asked node cidr kept → seen_last cidr longer ≡ Some read → IsAtPoint request longer (Claiming node cidr read kept)
  keeps-claiming node cidr read kept adds keeps saw = by
    where
      newest_here : Newest longer
      newest_here = record { moment = moment; store = store; asked = asked; rest = trail; is = refl }

      no_block : (c : CidrValue) (Before : Trail → Type 0) → ¬ (PutBlock longer c Before)
      no_block c Before h = keeps-no-block node cidr kept keeps h.b (here-wrote h.newest (record_of.Block h.b) h.revision h.put).is_new

      by : IsAtPoint request longer (Claiming node cidr read kept)
      by Nowhere some = absurd (some refl)
      by (Claiming other c r k) some = (
        λ e.
            let there : StandsBy request longer (Claiming node cidr read kept) = record { adds = adds; newest = newest_here; keeps = keeps; saw = saw } in
            subst (λ (p : Point). StandsBy request longer p) e there,
        λ h.
            let (nodes, cidrs, revisions) = same-kept node other cidr c kept k keeps (here-keeps h.newest other c k h.keeps) in
            let saw_there : seen_last cidr longer ≡ Some r = subst (λ (x : CidrValue). seen_last x longer ≡ Some r) (sym cidrs) h.saw in
            let reads : read ≡ r = cc (saw, saw_there) in
            λ i. Claiming (nodes i) (cidrs i) (reads i) (revisions i),
      )
      by (Claimed other c k) some = (λ e. absurd (cc e), λ h. absurd (no_block c (λ rest. (r : Option ℕ) × ClaimingBy request rest other c r k) h))
      by (Releasing other c r m) some = (λ e. absurd (cc e), λ h. absurd (adds-no-release adds other c h.releases))
      by (Released other c m) some = (λ e. absurd (cc e), λ h. absurd (no_block c (λ rest. (r : Option ℕ) × ReleasingBy request rest other c r m) h))
