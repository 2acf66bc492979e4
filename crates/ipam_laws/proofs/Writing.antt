-- What a call makes of each row, by the trail that led to it.
use Rattle.std.proofs.Common.{◌≡◌, ◌≢◌, inl, inr, ℕ, Bool, true, false, cond, List, Option, Some, None, refl, sym, ap, ◌∙◌, subst}
use Rattle.ipam_addr.specs.Shape.{CidrValue}
use Rattle.ipam_block.specs.declared.allocation.Attributes.{Attributes}
use Rattle.ipam_block.specs.declared.record.Affinity.{Affinity}
use Rattle.ipam_block.specs.declared.state.State.{State}
use Rattle.ipam_block.specs.declared.state.State.TheVariants.{Pending, PendingDeletion}
use Rattle.ipam_block.specs.Operations.{block_with_ordinal, block_without, next_block}
use Rattle.ipam_block.specs.Shape.{BlockValue}
use Rattle.ipam_records.specs.declared.call.Call.{Call}
use Rattle.ipam_records.specs.declared.call.Call.TheVariants.{Get, List as ListAll, Create, Update, Delete}
use Rattle.ipam_records.specs.declared.call.Write.TheVariants.{Remove}
use Rattle.ipam_records.specs.declared.key.Key.{Key}
use Rattle.ipam_records.specs.declared.key.Key.TheVariants as key
use Rattle.ipam_records.specs.declared.record.Record.{Record}
use Rattle.ipam_records.specs.declared.record.Record.TheVariants as record_of
use Rattle.ipam_records.specs.BlockLists.{is_node}
use Rattle.ipam_records.specs.Datastore.{Datastore, reply_of, row_of, write_granted, write_of, written}
use Rattle.ipam_records.specs.Key.{key_of}
use Rattle.ipam_records.specs.Label.{CallLabel}
use Rattle.ipam_records.specs.Said.{Said, Can}
use Rattle.ipam_records.proofs.DatastoreLemmas.{row_of-with_row, row_of-with_row-other, row_of-without_row, row_of-without_row-other}
use Rattle.ipam_model.specs.declared.request.AddRequest.{AddRequest}
use Rattle.ipam_model.specs.declared.request.Request.{Request}
use Rattle.ipam_model.specs.declared.request.Request.TheVariants.{Add, AddThis, Release}
use Rattle.ipam_model.specs.Affinities.{BlockRead, Tie, affinity, baring, claiming}
use Rattle.ipam_model.specs.AffinityLaw.{HasAffinity, HasAt}
use Rattle.ipam_model.specs.Cluster.{store_with}
use Rattle.ipam_model.specs.Counting.{FreedOfHandle}
use Rattle.ipam_model.specs.Credits.{call_key_written}
use Rattle.ipam_model.specs.Named.{name_of}
use Rattle.ipam_model.specs.OwnerLaw.{MayGain}
use Rattle.ipam_model.specs.Reads.{StoredRecord}
use Rattle.ipam_laws.specs.Writes.{IsForAdd, MayDelete, MayWrite, node_in_row, node_of}
use Rattle.ipam_laws.proofs.Acting.{Act, Assigns, ByLook, ByRound, Changes, Claims, Counts, CountsFor, ForAdd, ForCollect, ForDel, Frees, GoesBy, MayLose, OfAdd, OfCollect, OfDel, Reads, Releases}
use Rattle.ipam_laws.proofs.ActParts.{ClaimCall, InClaim, IsCurrent, OfAffinity, OfBared, OfBlock, OfDeleted, OfMark, ReleaseCall, WasRead}
use Rattle.ipam_laws.proofs.Calls.{create-can, update-can}
use Rattle.ipam_laws.proofs.CountLemmas.{text_cases}
use Rattle.ipam_laws.proofs.DebtCalls.{Puts, create-puts, update-puts}
use Rattle.ipam_laws.proofs.Lift.{behind}
use Rattle.ipam_laws.proofs.OneRecord.{key_cases}
use Rattle.ipam_laws.proofs.OwnersEffects.{new_owner}
use Rattle.ipam_laws.proofs.OwnersMoves.{Given, NotGiven, granted-cases}
use Rattle.ipam_laws.proofs.SaysWords.{IsSetting, changed-setting}
use Rattle.ipam_laws.proofs.Steps.{IsAsRead, bared, taken}
use Rattle.ipam_laws.proofs.Trails.{Trail}

-- ---- which row a call writes

-- the call leaves the row, or was done and wrote it
pub data RowMove (store : Datastore) (asked : Call) (k : Key) : Type 0 where
  Stays : row_of k (behind store asked).rows ≡ row_of k store.rows → RowMove store asked k
  Writes : (revision : ℕ) → reply_of store asked ≡ Can revision → call_key_written (name_of asked) ≡ Some k → RowMove store asked k

pub row-moves : (store : Datastore) (asked : Call) (k : Key) → RowMove store asked k
row-moves store asked k = elim (granted-cases store asked) [
  | NotGiven same ↦ Stays (ap (λ (s : Datastore). row_of k s.rows) same)
  | Given revision e ↦ by asked revision e refl
]
  where
    given : (c : Call) (revision : ℕ) → reply_of store c ≡ Can revision → row_of k (store_with (write_of c revision) store).rows ≡ row_of k store.rows → row_of k (behind store c).rows ≡ row_of k store.rows
    given c revision e same = ap (λ (said : Said). row_of k (store_with (write_granted c said) store).rows) e ∙ same

    by : (c : Call) (revision : ℕ) → reply_of store c ≡ Can revision → c ≡ asked → RowMove store c k
    by (Get other) revision e is = Stays (given (Get other) revision e refl)
    by (ListAll kind) revision e is = Stays (given (ListAll kind) revision e refl)
    by (Create new) revision e is = elim (key_cases (key_of new) k) [
      | inl same ↦ Writes revision e (ap Some same)
      | inr differ ↦ Stays (given (Create new) revision e (row_of-with_row-other k (revision, new) store.rows differ))
    ]
    by (Update new old) revision e is = elim (key_cases (key_of new) k) [
      | inl same ↦ Writes revision e (ap Some same)
      | inr differ ↦ Stays (given (Update new old) revision e (row_of-with_row-other k (revision, new) store.rows differ))
    ]
    by (Delete other old) revision e is = elim (key_cases other k) [
      | inl same ↦ Writes revision e (ap Some same)
      | inr differ ↦ Stays (given (Delete other old) revision e (row_of-without_row-other k other store.rows differ))
    ]

-- ---- what the request then wrote

-- the request claims the block, which it read so
pub record IsClaiming (request : Request) (trail : Trail) (now : Datastore) (node : List ℕ) (cidr : CidrValue) : Type 0 where
  pub add : AddRequest
  pub of_node : node ≡ add.node
  pub read : BlockRead
  pub origin : Trail
  pub by : GoesBy request add cidr read origin
  pub within : InClaim origin trail

-- an affinity that is written is claimed, or is to be deleted by its release
pub data AffinityWrite (request : Request) (trail : Trail) (now : Datastore) (node : List ℕ) (cidr : CidrValue) (state : State) : Type 0 where
  ByClaim : state ≢ PendingDeletion → IsClaiming request trail now node cidr → AffinityWrite request trail now node cidr state
  ByRelease : state ≡ PendingDeletion → request ≡ Release node cidr → AffinityWrite request trail now node cidr state

-- a block that is written keeps its node, or is claimed as it was read, or released
pub data BlockWrite (request : Request) (trail : Trail) (now later : Datastore) (cidr : CidrValue) : Type 0 where
  KeepsNode : node_of later cidr ≡ node_of now cidr → BlockWrite request trail now later cidr
  GetsNode : (node : List ℕ) → (c : IsClaiming request trail now node cidr) → node_of later cidr ≡ Some node → IsAsRead now cidr c.read → BlockWrite request trail now later cidr
  LosesNode : (node : List ℕ) → request ≡ Release node cidr → node_of now cidr ≡ Some node → node_of later cidr ≡ None → BlockWrite request trail now later cidr

pub record OwnWrite (request : Request) (trail : Trail) (now later : Datastore) (k : Key) : Type 0 where
  pub may_write : MayWrite request k
  pub may_delete : row_of k later.rows ≡ None → MayDelete request k
  pub affinity : (node : List ℕ) (cidr : CidrValue) (state : State) → k ≡ key.Affinity node cidr → HasAffinity later node cidr state → AffinityWrite request trail now node cidr state
  pub block : (cidr : CidrValue) → k ≡ key.Block cidr → BlockWrite request trail now later cidr

-- ---- by the key

handle-own : (request : Request) (trail : Trail) (now later : Datastore) (id : List ℕ) → MayWrite request (key.Handle id) → OwnWrite request trail now later (key.Handle id)
handle-own request trail now later id may = record {
  may_write = may;
  may_delete = λ gone. may;
  affinity = λ node cidr state e. absurd (cc e);
  block = λ cidr e. absurd (cc e);
}

no-row : (row : Option StoredRecord) (found : StoredRecord) → row ≡ Some found → row ≡ None → ⊥
no-row row found e f = cc (e, f)

setting-own : (request : Request) (trail : Trail) (now later : Datastore) (k : Key) (row : StoredRecord) → IsSetting k → MayWrite request k → row_of k later.rows ≡ Some row → OwnWrite request trail now later k
setting-own request trail now later k row setting may there = record {
  may_write = may;
  may_delete = λ gone. absurd (no-row (row_of k later.rows) row there gone);
  affinity = λ node cidr state e. absurd (subst (λ (x : Key). IsSetting x) e setting);
  block = λ cidr e. absurd (subst (λ (x : Key). IsSetting x) e setting);
}

affinity-own : (request : Request) (trail : Trail) (now later : Datastore) (node : List ℕ) (cidr : CidrValue) (state : State) (revision : ℕ) → MayWrite request (key.Affinity node cidr)
    → row_of (key.Affinity node cidr) later.rows ≡ Some (revision, record_of.Affinity (affinity node cidr state)) → AffinityWrite request trail now node cidr state → OwnWrite request trail now later (key.Affinity node cidr)
affinity-own request trail now later node cidr state revision may there by = record {
  may_write = may;
  may_delete = λ gone. absurd (no-row (row_of (key.Affinity node cidr) later.rows) (revision, record_of.Affinity (affinity node cidr state)) there gone);
  affinity = λ other block of e has.
      let nodes : node ≡ other = cc e in
      let blocks : cidr ≡ block = cc e in
      let states : state ≡ of = same-state (row_of (key.Affinity node cidr) later.rows) revision has.0 (affinity node cidr state) (affinity other block of) there (ap (λ (k : Key). row_of k later.rows) e ∙ has.1) in
      subst (λ (n : List ℕ). AffinityWrite request trail now n block of) nodes
      (subst (λ (c : CidrValue). AffinityWrite request trail now node c of) blocks
      (subst (λ (s : State). AffinityWrite request trail now node cidr s) states by));
  block = λ block e. absurd (cc e);
}
  where
    state_in : Option StoredRecord → State
    state_in (Some (revision, record_of.Affinity a)) = a.state
    state_in _ = Pending

    same-state : (row : Option StoredRecord) (r s : ℕ) (a b : Affinity) → row ≡ Some (r, record_of.Affinity a) → row ≡ Some (s, record_of.Affinity b) → a.state ≡ b.state
    same-state row r s a b e f = ap state_in (sym e ∙ f)

gone-own : (request : Request) (trail : Trail) (now later : Datastore) (node : List ℕ) (cidr : CidrValue) → request ≡ Release node cidr → row_of (key.Affinity node cidr) later.rows ≡ None → OwnWrite request trail now later (key.Affinity node cidr)
gone-own request trail now later node cidr is gone = record {
  may_write = subst (λ (r : Request). MayWrite r (key.Affinity node cidr)) (sym is) (inl refl);
  may_delete = λ e. is;
  affinity = λ other block state e has.
      absurd (no-row (row_of (key.Affinity node cidr) later.rows) (has.0, record_of.Affinity (affinity other block state)) (ap (λ (k : Key). row_of k later.rows) e ∙ has.1) gone);
  block = λ block e. absurd (cc e);
}

block-own : (request : Request) (trail : Trail) (now later : Datastore) (cidr : CidrValue) (row : StoredRecord) → MayWrite request (key.Block cidr) → row_of (key.Block cidr) later.rows ≡ Some row → BlockWrite request trail now later cidr → OwnWrite request trail now later (key.Block cidr)
block-own request trail now later cidr row may there by = record {
  may_write = may;
  may_delete = λ gone. absurd (no-row (row_of (key.Block cidr) later.rows) row there gone);
  affinity = λ node block state e. absurd (cc e);
  block = λ block e. let same : cidr ≡ block = cc e in subst (λ (c : CidrValue). BlockWrite request trail now later c) same by;
}

-- ---- whose rows

counts-may : (request : Request) (id : List ℕ) → CountsFor request id → MayWrite request (key.Handle id)
counts-may request id (ForAdd add (inl is) same) = subst (λ (r : Request). MayWrite r (key.Handle id)) (sym is) same
counts-may request id (ForAdd add (inr (address, is)) same) = subst (λ (r : Request). MayWrite r (key.Handle id)) (sym is) same
counts-may request id (ForDel is) = subst (λ (r : Request). MayWrite r (key.Handle id)) (sym is) refl
counts-may request id (ForCollect collect is) = subst (λ (r : Request). MayWrite r (key.Handle id)) (sym is) tt

goes-may : (request : Request) (add : AddRequest) (cidr : CidrValue) (read : BlockRead) (origin : Trail) (k : Key) → GoesBy request add cidr read origin → IsForAdd add k → MayWrite request k
goes-may request add cidr read origin k (ByRound scan seen before is reads wanted chosen listed) may = subst (λ (r : Request). MayWrite r k) (sym is) may
goes-may request add cidr read origin k (ByLook address is looked) may = subst (λ (r : Request). MayWrite r k) (sym is) may

gain-may : (request : Request) (cidr : CidrValue) (b : BlockValue) (ordinal : ℕ) (attributes : Attributes) → MayGain request (new_owner b ordinal attributes) → MayWrite request (key.Block cidr)
gain-may (Add add) cidr b ordinal attributes h = tt
gain-may (AddThis add address) cidr b ordinal attributes h = tt
gain-may _ cidr b ordinal attributes h = absurd h

lose-may : (request : Request) (trail : Trail) (what : FreedOfHandle) (cidr : CidrValue) → MayLose request trail what → MayWrite request (key.Block cidr)
lose-may request trail what cidr (OfDel id block is all) = subst (λ (r : Request). MayWrite r (key.Block cidr)) (sym is) tt
lose-may request trail what cidr (OfAdd add target is did one) = subst (λ (r : Request). MayWrite r (key.Block cidr)) (sym is) tt
lose-may request trail what cidr (OfCollect collect leak is listed one) = subst (λ (r : Request). MayWrite r (key.Block cidr)) (sym is) tt

-- ---- by the call

module _ (request : Request) (trail : Trail) (now : Datastore) (asked : Call) (revision : ℕ) (done : reply_of now asked ≡ Can revision) where
  -- the row that the call put
  put-row : (new : Record) → Puts asked new → row_of (key_of new) (behind now asked).rows ≡ Some (revision, new)
  put-row new puts = ap (λ (s : Datastore). row_of (key_of new) s.rows) (puts.puts now revision done) ∙ row_of-with_row (revision, new) now.rows

  -- of which key it is
  at-key : (k other : Key) → call_key_written (name_of asked) ≡ Some k → call_key_written (name_of asked) ≡ Some other → OwnWrite request trail now (behind now asked) other → OwnWrite request trail now (behind now asked) k
  at-key k other e f own = let same : other ≡ k = cc (e, f) in subst (λ (x : Key). OwnWrite request trail now (behind now asked) x) same own

claiming-puts : (node : List ℕ) (cidr : CidrValue) (read : BlockRead) → Puts (claiming node cidr read) (record_of.Block (taken node cidr read))
claiming-puts node cidr None = create-puts (record_of.Block (taken node cidr None))
claiming-puts node cidr (Some found) = update-puts (record_of.Block (taken node cidr (Some found))) found.0

baring-puts : (node : List ℕ) (cidr : CidrValue) (read : BlockRead) → Puts (baring node cidr read) (record_of.Block (bared node cidr read))
baring-puts node cidr None = create-puts (record_of.Block (bared node cidr None))
baring-puts node cidr (Some found) = update-puts (record_of.Block (bared node cidr (Some found))) found.0

-- a block that was updated at the revision at which it was read was there so
was-there : (now : Datastore) (new b : BlockValue) (old revision : ℕ) → new.cidr ≡ b.cidr → reply_of now (Update (record_of.Block new) old) ≡ Can revision → IsCurrent now old b → row_of (key.Block b.cidr) now.rows ≡ Some (old, record_of.Block b)
was-there now new b old revision same done current =
    let (found, there) = update-can now (record_of.Block new) old revision done in
    let at : HasAt now (key.Block b.cidr) old found = subst (λ (c : CidrValue). HasAt now (key.Block c) old found) same there in
    at ∙ ap (λ (x : Record). Some (old, x)) (current found at)

read-there : (now : Datastore) (node : List ℕ) (cidr : CidrValue) (read : BlockRead) (revision : ℕ) → reply_of now (claiming node cidr read) ≡ Can revision → WasRead now cidr read → IsAsRead now cidr read
read-there now node cidr None revision done was = create-can now (record_of.Block (taken node cidr None)) revision done
read-there now node cidr (Some found) revision done was = (
  was.0,
  subst (λ (c : CidrValue). HasAt now (key.Block c) found.0 (record_of.Block found.1)) was.0 (was-there now (taken node cidr (Some found)) found.1 found.0 revision refl done was.1),
)

-- ---- blocks

taken-cidr : (node : List ℕ) (cidr : CidrValue) (read : BlockRead) (now : Datastore) → WasRead now cidr read → (taken node cidr read).cidr ≡ cidr
taken-cidr node cidr None now was = refl
taken-cidr node cidr (Some found) now was = was.0

taken-node : (node : List ℕ) (cidr : CidrValue) (read : BlockRead) → (taken node cidr read).node ≡ Some node
taken-node node cidr None = refl
taken-node node cidr (Some found) = refl

bared-cidr : (node : List ℕ) (cidr : CidrValue) (read : BlockRead) (now : Datastore) → WasRead now cidr read → (bared node cidr read).cidr ≡ cidr
bared-cidr node cidr None now was = refl
bared-cidr node cidr (Some found) now was = was.0

-- what a release makes of the node
bared-write : (request : Request) (trail : Trail) (now later : Datastore) (node : List ℕ) (cidr : CidrValue) (read : BlockRead) (revision : ℕ) → request ≡ Release node cidr → reply_of now (baring node cidr read) ≡ Can revision → WasRead now cidr read
    → node_of later cidr ≡ (bared node cidr read).node → BlockWrite request trail now later cidr
bared-write request trail now later node cidr None revision is done was then =
    KeepsNode (then ∙ sym (ap node_in_row (create-can now (record_of.Block (bared node cidr None)) revision done)))
bared-write request trail now later node cidr (Some found) revision is done was then =
    let row = was-there now (bared node cidr (Some found)) found.1 found.0 revision refl done was.1 in
    let before : node_of now cidr ≡ found.1.node = subst (λ (c : CidrValue). node_of now c ≡ found.1.node) was.0 (ap node_in_row row) in
    by found.1.node before (is_node node found.1.node) refl then
  where
    by : (held : Option (List ℕ)) → node_of now cidr ≡ held → (b : Bool) → is_node node held ≡ b → node_of later cidr ≡ cond b None held → BlockWrite request trail now later cidr
    by None before true e f = absurd (cc e)
    by None before false e f = KeepsNode (f ∙ sym before)
    by (Some other) before true e f = elim (text_cases other node) [
      | inl (t, same) ↦ LosesNode node is (before ∙ ap Some same) f
      | inr (t, differ) ↦ absurd (cc (e, t))
    ]
    by (Some other) before false e f = KeepsNode (f ∙ sym before)

-- ---- all calls

module _ (request : Request) (trail : Trail) (now : Datastore) (label : CallLabel) (asked : Call) (revision : ℕ) (done : reply_of now asked ≡ Can revision) where
  abbrev later : Datastore
  later = behind now asked

  abbrev Owns : Key → Type 0
  Owns k = OwnWrite request trail now later k

  claim-own : (k : Key) → call_key_written (name_of asked) ≡ Some k → (add : AddRequest) (cidr : CidrValue) (read : BlockRead) (origin : Trail) → ClaimCall add.node cidr read label asked → WasRead now cidr read → GoesBy request add cidr read origin → InClaim origin trail → Owns k
  claim-own k e add cidr read origin (OfAffinity state kept puts) was by within =
      at-key request trail now asked revision done k (key.Affinity add.node cidr) e puts.writes
      (affinity-own request trail now later add.node cidr state revision (goes-may request add cidr read origin (key.Affinity add.node cidr) by refl)
      (put-row request trail now asked revision done (record_of.Affinity (affinity add.node cidr state)) puts)
      (ByClaim kept (record { add = add; of_node = refl; read = read; origin = origin; by = by; within = within })))
  claim-own k e add cidr read origin (OfBlock stands is) was by within =
      let new = taken add.node cidr read in
      let puts = subst (λ (c : Call). Puts c (record_of.Block new)) (sym is) (claiming-puts add.node cidr read) in
      let at = taken-cidr add.node cidr read now was in
      let row = subst (λ (c : CidrValue). row_of (key.Block c) later.rows ≡ Some (revision, record_of.Block new)) at (put-row request trail now asked revision done (record_of.Block new) puts) in
      let can = subst (λ (c : Call). reply_of now c ≡ Can revision) is done in
      at-key request trail now asked revision done k (key.Block cidr) e (puts.writes ∙ ap (λ (c : CidrValue). Some (key.Block c)) at)
      (block-own request trail now later cidr (revision, record_of.Block new) (goes-may request add cidr read origin (key.Block cidr) by tt) row
      (GetsNode add.node (record { add = add; of_node = refl; read = read; origin = origin; by = by; within = within })
      (ap node_in_row row ∙ taken-node add.node cidr read) (read-there now add.node cidr read revision can was)))

  release-own : (k : Key) → call_key_written (name_of asked) ≡ Some k → (tie : Tie) → request ≡ Release tie.node tie.block → ReleaseCall tie now label asked → Owns k
  release-own k e tie of (OfMark puts) =
      at-key request trail now asked revision done k (key.Affinity tie.node tie.block) e puts.writes
      (affinity-own request trail now later tie.node tie.block PendingDeletion revision (subst (λ (r : Request). MayWrite r (key.Affinity tie.node tie.block)) (sym of) (inl refl))
      (put-row request trail now asked revision done (record_of.Affinity (affinity tie.node tie.block PendingDeletion)) puts) (ByRelease refl of))
  release-own k e tie of (OfBared read stands is was) =
      let new = bared tie.node tie.block read in
      let puts = subst (λ (c : Call). Puts c (record_of.Block new)) (sym is) (baring-puts tie.node tie.block read) in
      let at = bared-cidr tie.node tie.block read now was in
      let row = subst (λ (c : CidrValue). row_of (key.Block c) later.rows ≡ Some (revision, record_of.Block new)) at (put-row request trail now asked revision done (record_of.Block new) puts) in
      let can = subst (λ (c : Call). reply_of now c ≡ Can revision) is done in
      at-key request trail now asked revision done k (key.Block tie.block) e (puts.writes ∙ ap (λ (c : CidrValue). Some (key.Block c)) at)
      (block-own request trail now later tie.block (revision, record_of.Block new) (subst (λ (r : Request). MayWrite r (key.Block tie.block)) (sym of) (inr refl)) row
      (bared-write request trail now later tie.node tie.block read revision of can was (ap node_in_row row)))
  release-own k e tie of (OfDeleted mark is) =
      let writes : call_key_written (name_of asked) ≡ Some (key.Affinity tie.node tie.block) = ap (λ (c : Call). call_key_written (name_of c)) is in
      let removed : later ≡ written now (Remove revision (key.Affinity tie.node tie.block)) =
      ap (λ (said : Said). store_with (write_granted asked said) now) done ∙ ap (λ (c : Call). store_with (write_of c revision) now) is in
      at-key request trail now asked revision done k (key.Affinity tie.node tie.block) e writes
      (gone-own request trail now later tie.node tie.block of
      (ap (λ (s : Datastore). row_of (key.Affinity tie.node tie.block) s.rows) removed ∙ row_of-without_row (key.Affinity tie.node tie.block) now.rows))

  -- a block that is updated as it was read, with the node that it had
  update-own : (k : Key) → call_key_written (name_of asked) ≡ Some k → (new b : BlockValue) (old : ℕ) → asked ≡ Update (record_of.Block new) old → new.cidr ≡ b.cidr → new.node ≡ b.node → IsCurrent now old b → MayWrite request (key.Block b.cidr) → Owns k
  update-own k e new b old is same kept current may =
      let puts = subst (λ (c : Call). Puts c (record_of.Block new)) (sym is) (update-puts (record_of.Block new) old) in
      let row = subst (λ (c : CidrValue). row_of (key.Block c) later.rows ≡ Some (revision, record_of.Block new)) same (put-row request trail now asked revision done (record_of.Block new) puts) in
      let can = subst (λ (c : Call). reply_of now c ≡ Can revision) is done in
      let before = was-there now new b old revision same can current in
      at-key request trail now asked revision done k (key.Block b.cidr) e (puts.writes ∙ ap (λ (c : CidrValue). Some (key.Block c)) same)
      (block-own request trail now later b.cidr (revision, record_of.Block new) may row (KeepsNode (ap node_in_row row ∙ kept ∙ sym (ap node_in_row before))))

  pub own-write : (k : Key) → call_key_written (name_of asked) ≡ Some k → Act request trail now label asked → Owns k
  own-write k e (Reads none) = absurd (cc (e, none))
  own-write k e (Counts id of for) = at-key request trail now asked revision done k (key.Handle id) e of (handle-own request trail now later id (counts-may request id for))
  own-write k e (Claims add cidr read origin call was by within) = claim-own k e add cidr read origin call was by within
  own-write k e (Releases tie of call) = release-own k e tie of call
  own-write k e (Changes setting new of puts same) =
      let is_setting = subst (λ (x : Key). IsSetting x) (sym same) (changed-setting setting) in
      at-key request trail now asked revision done k (key_of new) e puts.writes
      (setting-own request trail now later (key_of new) (revision, new) is_setting (subst (λ (r : Request). MayWrite r (key_of new)) (sym of) same) (put-row request trail now asked revision done new puts))
  own-write k e (Assigns attributes target is current may) =
      update-own k e (block_with_ordinal (next_block target.block) target.ordinal attributes) target.block target.revision is refl refl current (gain-may request target.block.cidr target.block target.ordinal attributes may)
  own-write k e (Frees what b old amount is current same count may) =
      update-own k e (block_without what.picks (next_block b)) b old is refl refl current (lose-may request trail what b.cidr may)
