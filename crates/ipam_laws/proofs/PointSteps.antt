-- The points at which a claim and a release stand after their writes.
use Rattle.std.proofs.Common.{◌≡◌, ◌≢◌, ℕ, false, List, ◌∷◌, Option, Some, refl, sym, ap, ◌∙◌, subst}
use Rattle.std.specs.Prelude.{IsTrue, ◌==◌}
use Rattle.std.proofs.lemmas.Bool.{eqb-false}
use Rattle.ipam_addr.specs.Shape.{CidrValue}
use Rattle.ipam_block.specs.declared.record.Affinity.{Affinity}
use Rattle.ipam_block.specs.declared.state.State.TheVariants.{PendingDeletion}
use Rattle.ipam_block.specs.Shape.{BlockValue}
use Rattle.ipam_records.specs.declared.call.Call.{Call}
use Rattle.ipam_records.specs.declared.call.Call.TheVariants.{Get}
use Rattle.ipam_records.specs.declared.key.Key.TheVariants as key
use Rattle.ipam_records.specs.declared.record.Record.TheVariants as record_of
use Rattle.ipam_records.specs.Datastore.{Datastore, reply_of}
use Rattle.ipam_records.specs.Label.{Point, Nowhere, Claiming, Claimed, Releasing, Released}
use Rattle.ipam_records.specs.Said.{Said, Found}
use Rattle.ipam_model.specs.declared.request.Request.{Request}
use Rattle.ipam_model.specs.declared.request.Request.TheVariants.{Release}
use Rattle.ipam_model.specs.Affinities.{affinity, is_at_mark}
use Rattle.ipam_model.specs.Cluster.{new_record}
use Rattle.ipam_model.specs.Moments.{revision_of}
use Rattle.ipam_model.specs.Reads.{affinity_said}
use Rattle.ipam_model.specs.Tries.{is_add}
use Rattle.ipam_laws.proofs.PointTrails.{ClaimingBy, IsAtPoint, Keeps, AsFound, AsPut, Newest, PutBlock, ReleasingBy, StandsBy, Wrote, read-nowhere, release-reads, same-asked, same-rest, same-store}
use Rattle.ipam_laws.proofs.Trails.{Did, Trail}

-- the newest call of the trail read no block
abbrev pub NotLooked : Trail → Type 0
NotLooked trail = (newest : Newest trail) (cidr : CidrValue) → newest.asked ≢ Get (key.Block cidr)

pub not-looked : (request : Request) (moment : ℕ) (store : Datastore) (asked : Call) (trail : Trail) → ((cidr : CidrValue) → asked ≢ Get (key.Block cidr)) → NotLooked (Did moment store asked ∷ trail)
not-looked request moment store asked trail other newest cidr e = other cidr (sym (same-asked request moment store asked trail newest) ∙ e)

module _ (request : Request) (moment : ℕ) (store : Datastore) (asked : Call) (trail : Trail) where
  abbrev longer : Trail
  longer = Did moment store asked ∷ trail

  abbrev newest_here : Newest longer
  newest_here = record { moment = moment; store = store; asked = asked; rest = trail; is = refl }

  -- what puts a block keeps no affinity, and reads none
  putting-keeps_none : (b : BlockValue) → new_record asked ≡ Some (record_of.Block b) → (newest : Newest longer) (node : List ℕ) (cidr : CidrValue) (kept : ℕ) → ¬ (Keeps newest.store newest.asked node cidr kept)
  putting-keeps_none b is newest node cidr kept (AsFound found e reply state) =
      let none = sym is ∙ ap new_record (sym (same-asked request moment store asked trail newest) ∙ e) in absurd (cc none)
  putting-keeps_none b is newest node cidr kept (AsPut w) =
      let other = sym is ∙ (ap new_record (sym (same-asked request moment store asked trail newest)) ∙ w.is_new) in absurd (cc other)

  putting-releases_none : (b : BlockValue) → new_record asked ≡ Some (record_of.Block b) → (node : List ℕ) (cidr : CidrValue) (read : Option ℕ) (mark : ℕ) → ¬ (ReleasingBy request longer node cidr read mark)
  putting-releases_none b is node cidr read mark h =
      let none = sym is ∙ ap new_record (release-reads request moment store asked trail node cidr read mark h) in absurd (cc none)

  -- the block was put after what stood there
  put-here : (b : BlockValue) (revision : ℕ) (Before : Trail → Type 0) → Wrote store asked (record_of.Block b) revision → Before trail → PutBlock longer b.cidr Before
  put-here b revision Before w stood = record { newest = newest_here; b = b; is_of = refl; revision = revision; put = w; stood = stood }

  stood-before : (cidr : CidrValue) (Before : Trail → Type 0) → PutBlock longer cidr Before → Before trail
  stood-before cidr Before h = subst Before (same-rest request moment store asked trail h.newest) h.stood

  pub puts-claimed : (node : List ℕ) (b : BlockValue) (read : Option ℕ) (kept revision : ℕ) → Wrote store asked (record_of.Block b) revision → IsAtPoint request trail (Claiming node b.cidr read kept) → IsAtPoint request longer (Claimed node b.cidr kept)
  puts-claimed node b read kept revision w at = by
    where
      by : IsAtPoint request longer (Claimed node b.cidr kept)
      by Nowhere some = absurd (some refl)
      by (Claiming other c r k) some = (λ e. absurd (cc e), λ h. absurd (putting-keeps_none b w.is_new h.newest other c k h.keeps))
      by (Releasing other c r m) some = (λ e. absurd (cc e), λ h. absurd (putting-releases_none b w.is_new other c r m h))
      by (Claimed other c k) some = (
        λ e.
            let there : StandsBy request longer (Claimed node b.cidr kept) =
            put-here b revision (λ rest. (r : Option ℕ) × ClaimingBy request rest node b.cidr r kept) w (read, (at (Claiming node b.cidr read kept) (λ f. cc f)).0 refl) in
            subst (λ (p : Point). StandsBy request longer p) e there,
        λ h.
            let (r, stood) = stood-before c (λ rest. (r : Option ℕ) × ClaimingBy request rest other c r k) h in
            let e = (at (Claiming other c r k) (λ f. cc f)).1 stood in
            let nodes : node ≡ other = cc e in
            let cidrs : b.cidr ≡ c = cc e in
            let revisions : kept ≡ k = cc e in
            λ i. Claimed (nodes i) (cidrs i) (revisions i),
      )
      by (Released other c m) some = (
        λ e. absurd (cc e),
        λ h.
            let (r, stood) = stood-before c (λ rest. (r : Option ℕ) × ReleasingBy request rest other c r m) h in
            let e = (at (Releasing other c r m) (λ f. cc f)).1 stood in
            absurd (cc e),
      )

  pub puts-bared : (node : List ℕ) (b : BlockValue) (read : Option ℕ) (mark revision : ℕ) → Wrote store asked (record_of.Block b) revision → IsAtPoint request trail (Releasing node b.cidr read mark) → IsAtPoint request longer (Released node b.cidr mark)
  puts-bared node b read mark revision w at = by
    where
      by : IsAtPoint request longer (Released node b.cidr mark)
      by Nowhere some = absurd (some refl)
      by (Claiming other c r k) some = (λ e. absurd (cc e), λ h. absurd (putting-keeps_none b w.is_new h.newest other c k h.keeps))
      by (Releasing other c r m) some = (λ e. absurd (cc e), λ h. absurd (putting-releases_none b w.is_new other c r m h))
      by (Released other c m) some = (
        λ e.
            let there : StandsBy request longer (Released node b.cidr mark) =
            put-here b revision (λ rest. (r : Option ℕ) × ReleasingBy request rest node b.cidr r mark) w (read, (at (Releasing node b.cidr read mark) (λ f. cc f)).0 refl) in
            subst (λ (p : Point). StandsBy request longer p) e there,
        λ h.
            let (r, stood) = stood-before c (λ rest. (r : Option ℕ) × ReleasingBy request rest other c r m) h in
            let e = (at (Releasing other c r m) (λ f. cc f)).1 stood in
            let nodes : node ≡ other = cc e in
            let cidrs : b.cidr ≡ c = cc e in
            let revisions : mark ≡ m = cc e in
            λ i. Released (nodes i) (cidrs i) (revisions i),
      )
      by (Claimed other c k) some = (
        λ e. absurd (cc e),
        λ h.
            let (r, stood) = stood-before c (λ rest. (r : Option ℕ) × ClaimingBy request rest other c r k) h in
            let e = (at (Claiming other c r k) (λ f. cc f)).1 stood in
            absurd (cc e),
      )

-- ---- a release

module _ (node : List ℕ) (cidr : CidrValue) where
  abbrev releasing : Request
  releasing = Release node cidr

  -- no ADD
  pub releases-no-add : ¬ (IsTrue (is_add releasing))
  releases-no-add t = absurd (cc t)

  -- a read of the affinity after no read of the block
  pub first-read : (moment : ℕ) (store : Datastore) (trail : Trail) → NotLooked trail → IsAtPoint releasing (Did moment store (Get (key.Affinity node cidr)) ∷ trail) Nowhere
  first-read moment store trail not_looked =
      let asked = Get (key.Affinity node cidr) in
      read-nowhere releasing moment store asked trail node cidr refl (λ adds. absurd (releases-no-add adds))
      (λ other c read mark h.
      let rest = same-rest releasing moment store asked trail h.at_mark in
      let looked = subst (λ (t : Trail). (newest : Newest t) × (newest.asked ≡ Get (key.Block c))) rest (h.looked, h.looks) in
      not_looked looked.0 c looked.1)

  -- the three calls after which the block is to be written
  module _ (one two three mark : ℕ) (first second third : Datastore) (marking : Call) (origin : Trail) (wrote : Wrote first marking (record_of.Affinity (affinity node cidr PendingDeletion)) mark) where
    abbrev marked : Trail
    marked = Did one first marking ∷ origin

    abbrev looked : Trail
    looked = Did two second (Get (key.Block cidr)) ∷ marked

    abbrev again : Trail
    again = Did three third (Get (key.Affinity node cidr)) ∷ looked

    -- the three of a release are these
    record SameThree (other : List ℕ) (c : CidrValue) (read : Option ℕ) (m : ℕ) : Type 0 where
      nodes : node ≡ other
      cidrs : cidr ≡ c
      marks : mark ≡ m
      reads : revision_of second (key.Block cidr) ≡ read
      found : Affinity
      found_at : reply_of third (Get (key.Affinity node cidr)) ≡ Found m (record_of.Affinity found)

    same-three : (other : List ℕ) (c : CidrValue) (read : Option ℕ) (m : ℕ) → ReleasingBy releasing again other c read m → SameThree other c read m
    same-three other c read m h =
        let request_is = h.releases in
        let nodes : node ≡ other = cc request_is in
        let cidrs : cidr ≡ c = cc request_is in
        let asked = Get (key.Affinity node cidr) in
        let at_asked = same-asked releasing three third asked looked h.at_mark in
        let at_store = same-store releasing three third asked looked h.at_mark in
        let at_rest = same-rest releasing three third asked looked h.at_mark in
        let looked_is = sym at_rest ∙ h.looked.is in
        let looked_store : h.looked.store ≡ second = cc looked_is in
        let looked_rest : h.looked.rest ≡ marked = cc looked_is in
        let marked_is = sym looked_rest ∙ h.marked.is in
        let marked_store : h.marked.store ≡ first = cc marked_is in
        let marked_asked : h.marked.asked ≡ marking = cc marked_is in
        let w = subst (λ (p : Datastore × Call). Wrote p.0 p.1 (record_of.Affinity (affinity other c PendingDeletion)) m) (λ i. (marked_store i, marked_asked i)) h.marks in
        record {
          nodes = nodes;
          cidrs = cidrs;
          marks = cc (wrote.can, w.can);
          reads = subst (λ (p : Datastore × CidrValue). revision_of p.0 (key.Block p.1) ≡ read) (λ i. (looked_store i, sym cidrs i)) h.was;
          found = h.found;
          found_at = subst (λ (p : Datastore × Call). reply_of p.0 p.1 ≡ Found m (record_of.Affinity h.found)) (λ i. (at_store i, at_asked i)) h.found_at;
        }

    pub releasing-stands : (found : Affinity) → reply_of third (Get (key.Affinity node cidr)) ≡ Found mark (record_of.Affinity found) → IsAtPoint releasing again (Releasing node cidr (revision_of second (key.Block cidr)) mark)
    releasing-stands found there = by
      where
        no_put : (c : CidrValue) (Before : Trail → Type 0) → ¬ (PutBlock again c Before)
        no_put c Before h =
            let is = same-asked releasing three third (Get (key.Affinity node cidr)) looked h.newest in
            let none = sym h.put.is_new ∙ ap new_record is in
            absurd (cc none)

        by : IsAtPoint releasing again (Releasing node cidr (revision_of second (key.Block cidr)) mark)
        by Nowhere some = absurd (some refl)
        by (Claiming other c r k) some = (λ e. absurd (cc e), λ h. absurd (releases-no-add h.adds))
        by (Claimed other c k) some = (λ e. absurd (cc e), λ h. absurd (no_put c (λ rest. (r : Option ℕ) × ClaimingBy releasing rest other c r k) h))
        by (Released other c m) some = (λ e. absurd (cc e), λ h. absurd (no_put c (λ rest. (r : Option ℕ) × ReleasingBy releasing rest other c r m) h))
        by (Releasing other c r m) some = (
          λ e.
              let stands : StandsBy releasing again (Releasing node cidr (revision_of second (key.Block cidr)) mark) = record {
                releases = refl;
                at_mark = record { moment = three; store = third; asked = Get (key.Affinity node cidr); rest = looked; is = refl };
                looked = record { moment = two; store = second; asked = Get (key.Block cidr); rest = marked; is = refl };
                marked = record { moment = one; store = first; asked = marking; rest = origin; is = refl };
                found = found;
                finds = refl;
                found_at = there;
                looks = refl;
                was = refl;
                marks = wrote;
              } in
              subst (λ (p : Point). StandsBy releasing again p) e stands,
          λ h.
              let same = same-three other c r m h in
              let nodes = same.nodes in
              let cidrs = same.cidrs in
              let reads = same.reads in
              let marks = same.marks in
              λ i. Releasing (nodes i) (cidrs i) (reads i) (marks i),
        )

    -- an affinity that is not at its mark any more
    pub mark-lost : is_at_mark mark (affinity_said (reply_of third (Get (key.Affinity node cidr)))) ≡ false → IsAtPoint releasing again Nowhere
    mark-lost lost =
        let asked = Get (key.Affinity node cidr) in
        read-nowhere releasing three third asked looked node cidr refl (λ adds. absurd (releases-no-add adds))
        (λ other c read m h.
        let same = same-three other c read m h in
        let there : is_at_mark mark (affinity_said (reply_of third asked)) ≡ (m == mark) = ap (λ (said : Said). is_at_mark mark (affinity_said said)) same.found_at in
        let differ : m ≢ mark = eqb-false m mark (sym there ∙ lost) in
        differ (sym same.marks))
