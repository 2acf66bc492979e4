-- A block as a trail has read it.
use Rattle.std.proofs.Common.{◌≡◌, ℕ, ◌∷◌, Option, Some, None, refl, sym, ap, ◌∙◌, subst}
use Rattle.std.specs.Prelude.{option_map}
use Rattle.std.specs.List.{find}
use Rattle.ipam_addr.specs.Shape.{CidrValue}
use Rattle.ipam_block.specs.Shape.{BlockValue}
use Rattle.ipam_records.specs.declared.call.Call.{Call}
use Rattle.ipam_records.specs.declared.call.Call.TheVariants.{Get}
use Rattle.ipam_records.specs.declared.key.Key.TheVariants as key
use Rattle.ipam_records.specs.declared.key.Kind.TheVariants as kind
use Rattle.ipam_records.specs.declared.record.Record.{Record}
use Rattle.ipam_records.specs.declared.record.Record.TheVariants as record_of
use Rattle.ipam_records.specs.Datastore.{Datastore, rows_of_kind, reply_of, reply_to_get, row_of}
use Rattle.ipam_records.specs.Said.{Found}
use Rattle.ipam_model.specs.Affinities.{BlockRead, revision_read}
use Rattle.ipam_model.specs.AffinityLaw.{HasAt}
use Rattle.ipam_model.specs.Choice.{block_in_found, is_block_at}
use Rattle.ipam_model.specs.Moments.{revision_of}
use Rattle.ipam_model.specs.Reads.{block_said}
use Rattle.ipam_laws.proofs.AddTrails.{Knows, knows-did}
use Rattle.ipam_laws.proofs.Calls.{found-block, found-key}
use Rattle.ipam_laws.proofs.Trails.{AgreesAll, Did, Trail}
use Rattle.ipam_laws.proofs.WordSteps.{listed-block}

-- the block is known after the trail, and lies at the CIDR, where it was not missing
abbrev pub KnowsRead : Trail → CidrValue → BlockRead → Type 0
KnowsRead trail cidr None = Unit {0}
KnowsRead trail cidr (Some found) = (found.1.cidr ≡ cidr) × Knows trail found.0 found.1

pub knows-more : (trail : Trail) (cidr : CidrValue) (read : BlockRead) (moment : ℕ) (store : Datastore) (asked : Call) → KnowsRead trail cidr read → KnowsRead (Did moment store asked ∷ trail) cidr read
knows-more trail cidr None moment store asked h = tt
knows-more trail cidr (Some found) moment store asked h = (h.0, knows-did trail found.0 found.1 moment store asked h.1)

-- a row that is there is the block's
there-knows : (moment : ℕ) (store : Datastore) (asked : Call) (trail : Trail) (cidr : CidrValue) (row : ℕ × Record) → row_of (key.Block cidr) store.rows ≡ Some row → (b : BlockValue) → row.1 ≡ record_of.Block b → b.cidr ≡ cidr → Knows (Did moment store asked ∷ trail) row.0 b
unfolding AgreesAll
there-knows moment store asked trail cidr row e b is same = λ later agrees found there.
    let at : HasAt store (key.Block cidr) row.0 (record_of.Block b) = e ∙ ap (λ (x : Record). Some (row.0, x)) is in
    let own = subst (λ (c : CidrValue). HasAt store (key.Block c) row.0 (record_of.Block b)) (sym same) at in
    sym (agrees.0 (key.Block b.cidr) row.0 (record_of.Block b) found own there)

pub looked-block : (moment : ℕ) (store : Datastore) (asked : Call) (trail : Trail) (cidr : CidrValue) (found : ℕ × BlockValue) → block_said (reply_of store (Get (key.Block cidr))) ≡ Some found → (found.1.cidr ≡ cidr) × Knows (Did moment store asked ∷ trail) found.0 found.1
looked-block moment store asked trail cidr found e = by (row_of (key.Block cidr) store.rows) refl e
  where
    by : (o : Option (ℕ × Record)) → row_of (key.Block cidr) store.rows ≡ o → block_said (reply_to_get o) ≡ Some found → (found.1.cidr ≡ cidr) × Knows (Did moment store asked ∷ trail) found.0 found.1
    by None row f = absurd (cc f)
    by (Some there) row f =
        let (b, is, same) = found-block cidr there.1 (found-key store (key.Block cidr) there.0 there.1 row) in
        let said : Some (there.0, b) ≡ Some found = ap (λ (x : Record). block_said (Found there.0 x)) (sym is) ∙ f in
        let whole : (there.0, b) ≡ found = cc said in
        subst (λ (p : ℕ × BlockValue). (p.1.cidr ≡ cidr) × Knows (Did moment store asked ∷ trail) p.0 p.1) whole
        (same, there-knows moment store asked trail cidr there row b is same)

pub looked-read : (moment : ℕ) (store : Datastore) (asked : Call) (trail : Trail) (cidr : CidrValue) → KnowsRead (Did moment store asked ∷ trail) cidr (block_said (reply_of store (Get (key.Block cidr))))
looked-read moment store asked trail cidr = by (block_said (reply_of store (Get (key.Block cidr)))) refl
  where
    by : (o : BlockRead) → block_said (reply_of store (Get (key.Block cidr))) ≡ o → KnowsRead (Did moment store asked ∷ trail) cidr o
    by None e = tt
    by (Some found) e = looked-block moment store asked trail cidr found e

-- its revision is that of the row
pub looked-revision : (store : Datastore) (cidr : CidrValue) → revision_of store (key.Block cidr) ≡ revision_read (block_said (reply_of store (Get (key.Block cidr))))
looked-revision store cidr = by (row_of (key.Block cidr) store.rows) refl
  where
    by : (o : Option (ℕ × Record)) → row_of (key.Block cidr) store.rows ≡ o → option_map (λ (row : ℕ × Record). row.0) o ≡ revision_read (block_said (reply_to_get o))
    by None e = refl
    by (Some there) e =
        let (b, is, same) = found-block cidr there.1 (found-key store (key.Block cidr) there.0 there.1 e) in
        ap (λ (x : Record). revision_read (block_said (Found there.0 x))) (sym is)

-- what a list of blocks shows at the slot is what a read of the block would
pub listed-read : (store : Datastore) (cidr : CidrValue) → block_in_found (find (is_block_at cidr) (rows_of_kind kind.Block store)) ≡ block_said (reply_of store (Get (key.Block cidr)))
listed-read store cidr = ap block_in_found (listed-block store.rows cidr) ∙ by (row_of (key.Block cidr) store.rows) refl
  where
    by : (o : Option (ℕ × Record)) → row_of (key.Block cidr) store.rows ≡ o → block_in_found o ≡ block_said (reply_to_get o)
    by None e = refl
    by (Some there) e =
        let (b, is, same) = found-block cidr there.1 (found-key store (key.Block cidr) there.0 there.1 e) in
        let P : Record → Type 0 = λ x. block_in_found (Some (there.0, x)) ≡ block_said (Found there.0 x) in
        subst P (sym is) refl
