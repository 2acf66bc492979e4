-- The release of an affinity: its labels say what its calls have made.
use Rattle.std.proofs.Common.{◌≡◌, ◌≢◌, ℕ, zero, suc, Bool, true, false, cond, List, ◌∷◌, Option, Some, None, refl, sym, ap, ◌∙◌, subst, arith, eqb-true}
use Rattle.ipam_addr.specs.Shape.{CidrValue}
use Rattle.ipam_block.specs.declared.record.Affinity.{Affinity}
use Rattle.ipam_block.specs.declared.state.State.TheVariants.{PendingDeletion}
use Rattle.ipam_block.specs.Shape.{BlockValue}
use Rattle.ipam_block.specs.Operations.{affine_to, fresh_block, next_block}
use Rattle.ipam_records.specs.declared.call.Call.{Call}
use Rattle.ipam_records.specs.declared.call.Call.TheVariants.{Get, Update, Delete}
use Rattle.ipam_records.specs.declared.key.Key.TheVariants as key
use Rattle.ipam_records.specs.declared.record.Record.TheVariants as record_of
use Rattle.ipam_records.specs.Datastore.{Datastore, reply_of}
use Rattle.ipam_records.specs.Label.{Nowhere, Releasing, Released}
use Rattle.ipam_records.specs.Said.{Found, Can}
use Rattle.ipam_model.specs.declared.outcome.ReleaseAnswer.{ReleaseAnswer}
use Rattle.ipam_model.specs.declared.outcome.ReleaseAnswer.TheVariants as released
use Rattle.ipam_model.specs.declared.part.Left.{Left}
use Rattle.ipam_model.specs.declared.part.Stop.TheVariants.{OutOfTries, NoRoom, NoRevisions}
use Rattle.ipam_model.specs.declared.request.Request.{Request}
use Rattle.ipam_model.specs.declared.request.Request.TheVariants.{Release}
use Rattle.ipam_model.specs.Affinities.{BlockRead, Tie, affinity, baring, is_at_mark, other_node, release_block, release_delete, release_found, release_look, release_once, revision_read}
use Rattle.ipam_model.specs.Cluster.{new_record}
use Rattle.ipam_model.specs.Reads.{affinity_said, block_said}
use Rattle.ipam_model.specs.Step.{Part, goes, left_of, stops, tries}
use Rattle.ipam_laws.proofs.DebtCalls.{apart-harmless, get-undone, update-puts}
use Rattle.ipam_laws.proofs.Debts.{Nothing, Owes, owes-none, owes-still}
use Rattle.ipam_laws.proofs.LookedBlocks.{KnowsRead, knows-more, looked-read, looked-revision}
use Rattle.ipam_laws.proofs.PointSteps.{NotLooked, first-read, mark-lost, not-looked, puts-bared, releases-no-add, releasing-stands}
use Rattle.ipam_laws.proofs.PointTrails.{IsAtPoint, Wrote, plain-nowhere}
use Rattle.ipam_laws.proofs.Says.{Clean, Rests, Says, delete-plain, rests-tells, stays-read, wrote}
use Rattle.ipam_laws.proofs.SaysClaims.{Begins, Goes, WritesBlock, affinity-found, affinity-rests, lost-rests, standing-tells, writes-harmless, writes-new}
use Rattle.ipam_laws.proofs.Trails.{Did, Trail}

module _ (node : List ℕ) (cidr : CidrValue) where
  abbrev request : Request
  request = Release node cidr

  abbrev tie : Tie
  tie = record { node = node; block = cidr }

  -- a try begins at rest, and not after a read of the block
  abbrev Again : Part ReleaseAnswer → Type 0
  Again again = (trail : Trail) → Rests request trail → NotLooked trail → Says request (Clean request) trail again

  release-delete : (again : Part ReleaseAnswer) (left : Left) (mark : ℕ) → Again again → (trail : Trail) → Owes trail Nothing → IsAtPoint request trail (Released node cidr mark) → Says request (Clean request) trail (release_delete tie again left mark)
  release-delete again left mark a trail owes at =
      let gone = key.Affinity node cidr in
      let asked = Delete gone mark in
      let tells = standing-tells request trail (Released node cidr mark) owes at in (
        tells,
        λ moment store agrees sound.
            let longer : Trail = Did moment store asked ∷ trail in
            let lost : ((r : ℕ) → reply_of store asked ≢ Can r) → Rests request longer = λ f. lost-rests request moment store asked trail (Released node cidr mark) tells (λ n c g. cc g) f in
            wrote request (Clean request) longer (reply_of store asked) (reply_of store asked) (λ revision. goes left released.Released) again (stops left NoRoom) (stops left NoRevisions) refl
            (λ r e. record {
              owes = owes-none moment store asked trail (apart-harmless store asked gone refl tt) owes;
              point = plain-nowhere request moment store asked trail (delete-plain gone mark);
            })
            (λ f. a longer (lost f) (not-looked request moment store asked trail (λ c g. cc g))) (λ full f. lost f) (λ f. tt),
      )

  -- what the release writes of the block that it read
  bared-block : BlockRead → BlockValue
  bared-block None = fresh_block cidr None
  bared-block (Some found) = affine_to (other_node node found.1.node) (next_block found.1)

  baring-writes : (read : BlockRead) (trail : Trail) → KnowsRead trail cidr read → WritesBlock trail (baring node cidr read) (bared-block read)
  unfolding bared-block
  baring-writes None trail knows = Begins refl
  baring-writes (Some (revision, b)) trail knows = Goes b revision refl refl (λ id. omega arith) knows.1

  bared-cidr : (read : BlockRead) (trail : Trail) → KnowsRead trail cidr read → (bared-block read).cidr ≡ cidr
  unfolding bared-block
  bared-cidr None trail knows = refl
  bared-cidr (Some (revision, b)) trail knows = knows.0

  release-block : (again : Part ReleaseAnswer) (left : Left) (mark : ℕ) (read : BlockRead) → Again again → (trail : Trail) → KnowsRead trail cidr read → Owes trail Nothing → IsAtPoint request trail (Releasing node cidr (revision_read read) mark)
      → Says request (Clean request) trail (release_block tie again left mark read)
  release-block again left mark read a trail knows owes at =
      let asked = baring node cidr read in
      let new = bared-block read in
      let writes = baring-writes read trail knows in
      let same = bared-cidr read trail knows in
      let is_new = writes-new trail asked new writes in
      let tells = standing-tells request trail (Releasing node cidr (revision_read read) mark) owes at in (
        tells,
        λ moment store agrees sound.
            let longer : Trail = Did moment store asked ∷ trail in
            let lost : ((r : ℕ) → reply_of store asked ≢ Can r) → Rests request longer = λ f. lost-rests request moment store asked trail (Releasing node cidr (revision_read read) mark) tells (λ n c g. let none = sym is_new ∙ ap new_record g in cc none) f in
            wrote request (Clean request) longer (reply_of store asked) (reply_of store asked) (λ revision. release_delete tie again left mark) again (stops left NoRoom) (stops left NoRevisions) refl
            (λ r e.
            let at_own = subst (λ (c : CidrValue). IsAtPoint request trail (Releasing node c (revision_read read) mark)) (sym same) at in
            let then = puts-bared request moment store asked trail node new (revision_read read) mark r (record { is_new = is_new; can = e }) at_own in
            release-delete again left mark a longer (owes-none moment store asked trail (writes-harmless trail store asked new agrees writes) owes)
            (subst (λ (c : CidrValue). IsAtPoint request longer (Released node c mark)) same then))
            (λ f. a longer (lost f) (not-looked request moment store asked trail (λ c g. let none = sym is_new ∙ ap new_record g in cc none))) (λ full f. lost f) (λ f. tt),
      )

  -- found at its mark
  at-mark : (mark : ℕ) (store : Datastore) → is_at_mark mark (affinity_said (reply_of store (Get (key.Affinity node cidr)))) ≡ true → (found : Affinity) × (reply_of store (Get (key.Affinity node cidr)) ≡ Found mark (record_of.Affinity found))
  at-mark mark store e = by (affinity_said (reply_of store (Get (key.Affinity node cidr)))) refl e
    where
      by : (o : Option (ℕ × Affinity)) → affinity_said (reply_of store (Get (key.Affinity node cidr))) ≡ o → is_at_mark mark o ≡ true → (found : Affinity) × (reply_of store (Get (key.Affinity node cidr)) ≡ Found mark (record_of.Affinity found))
      by None is f = absurd (cc f)
      by (Some found) is f =
          let same : found.0 ≡ mark = eqb-true found.0 mark f in
          (found.1, affinity-found (reply_of store (Get (key.Affinity node cidr))) found is ∙ ap (λ n. Found n (record_of.Affinity found.1)) same)

  release-look : (again : Part ReleaseAnswer) (left : Left) (mark one : ℕ) (first : Datastore) (marking : Call) (origin : Trail) → Again again → Wrote first marking (record_of.Affinity (affinity node cidr PendingDeletion)) mark → Rests request (Did one first marking ∷ origin)
      → Says request (Clean request) (Did one first marking ∷ origin) (release_look tie again left mark)
  release-look again left mark one first marking origin a w rests =
      let marked : Trail = Did one first marking ∷ origin in
      let look = Get (key.Block cidr) in
      let read_again = Get (key.Affinity node cidr) in (
        rests-tells request marked rests,
        λ two second agrees sound.
            let looked : Trail = Did two second look ∷ marked in
            let now = stays-read request two second marked Nothing rests (key.Block cidr) (λ n c e. cc e) in (
              rests-tells request looked now,
              λ three third agrees_then sound_then.
                  by two three second third now (is_at_mark mark (affinity_said (reply_of third read_again))) refl,
            ),
      )
    where
      by : (two three : ℕ) (second third : Datastore) → Rests request (Did two second (Get (key.Block cidr)) ∷ Did one first marking ∷ origin) → (b : Bool) → is_at_mark mark (affinity_said (reply_of third (Get (key.Affinity node cidr)))) ≡ b
          → Says request (Clean request) (Did three third (Get (key.Affinity node cidr)) ∷ Did two second (Get (key.Block cidr)) ∷ Did one first marking ∷ origin)
          (cond b (release_block tie again left mark (block_said (reply_of second (Get (key.Block cidr))))) again)
      by two three second third now true e =
          let marked : Trail = Did one first marking ∷ origin in
          let looked : Trail = Did two second (Get (key.Block cidr)) ∷ marked in
          let asked = Get (key.Affinity node cidr) in
          let longer : Trail = Did three third asked ∷ looked in
          let read = block_said (reply_of second (Get (key.Block cidr))) in
          let (found, there) = at-mark mark third e in
          let stands = releasing-stands node cidr one two three mark first second third marking origin w found there in
          release-block again left mark read a longer (knows-more looked cidr read three third asked (looked-read two second (Get (key.Block cidr)) marked cidr))
          (owes-still three third asked looked Nothing (get-undone third (key.Affinity node cidr)) now.owes)
          (subst (λ (o : Option ℕ). IsAtPoint request longer (Releasing node cidr o mark)) (looked-revision second cidr) stands)
      by two three second third now false e =
          let marked : Trail = Did one first marking ∷ origin in
          let looked : Trail = Did two second (Get (key.Block cidr)) ∷ marked in
          let asked = Get (key.Affinity node cidr) in
          a (Did three third asked ∷ looked)
          (record {
            owes = owes-still three third asked looked Nothing (get-undone third (key.Affinity node cidr)) now.owes;
            point = mark-lost node cidr one two three mark first second third marking origin w e;
          })
          (not-looked request three third asked looked (λ c g. cc g))

  release-found : (again : Part ReleaseAnswer) (left : Left) (moment : ℕ) (found : Option (ℕ × Affinity)) → Again again → (trail : Trail) → Rests request trail → Says request (Clean request) trail (release_found tie again left moment found)
  release-found again left moment None a trail rests = rests
  release-found again left moment (Some (revision, found)) a trail rests =
      let marking = affinity node cidr PendingDeletion in
      let asked = Update (record_of.Affinity marking) revision in (
        rests-tells request trail rests,
        λ second store agrees sound.
            let longer : Trail = Did second store asked ∷ trail in
            let lost : ((r : ℕ) → reply_of store asked ≢ Can r) → Rests request longer = λ f. lost-rests request second store asked trail Nowhere (rests-tells request trail rests) (λ n c g. cc g) f in
            wrote request (Clean request) longer (reply_of store asked) (reply_of store asked) (release_look tie again left) again (stops left NoRoom) (stops left NoRevisions) refl
            (λ r e. release-look again left r second store asked trail a (record { is_new = refl; can = e })
            (affinity-rests request second store asked marking trail (update-puts (record_of.Affinity marking) revision) refl (λ adds. absurd (releases-no-add node cidr adds)) rests.owes))
            (λ f. a longer (lost f) (not-looked request second store asked trail (λ c g. cc g))) (λ full f. lost f) (λ f. tt),
      )

  release-once : (again : Part ReleaseAnswer) (left : Left) → Again again → Again (release_once tie again left)
  release-once again left a trail rests not_looked = (
    rests-tells request trail rests,
    λ moment store agrees sound.
        let asked = Get (key.Affinity node cidr) in
        release-found again left moment (affinity_said (reply_of store asked)) a (Did moment store asked ∷ trail)
        (record {
          owes = owes-still moment store asked trail Nothing (get-undone store (key.Affinity node cidr)) rests.owes;
          point = first-read node cidr moment store trail not_looked;
        }),
  )

  pub release-tries : (races claims : ℕ) → Again (tries (release_once tie) races claims)
  unfolding tries
  release-tries zero claims = release-once (stops (left_of zero claims) OutOfTries) (left_of zero claims) (λ trail rests not_looked. tt)
  release-tries (suc races) claims = release-once (tries (release_once tie) races claims) (left_of (suc races) claims) (release-tries races claims)
