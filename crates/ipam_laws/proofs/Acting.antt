-- Which calls a request may make, by the trail that led there.
use Rattle.std.proofs.Common.{◌≡◌, ◌≢◌, ◌⊎◌, inl, inr, ℕ, suc, ◌+◌, List, [], ◌∷◌, Some, sym, subst}
use Rattle.std.specs.Prelude.{Contains}
use Rattle.std.specs.List.{count_by}
use Rattle.ipam_addr.specs.Shape.{AddrValue, CidrValue}
use Rattle.ipam_pool.specs.declared.pools.Pool.{Pool}
use Rattle.ipam_block.specs.Shape.{BlockValue}
use Rattle.ipam_block.specs.declared.allocation.Attributes.{Attributes}
use Rattle.ipam_records.specs.declared.call.Call.{Call}
use Rattle.ipam_records.specs.declared.call.Call.TheVariants.{Get, List as ListAll, Create, Update, Delete}
use Rattle.ipam_records.specs.declared.key.Key.{Key}
use Rattle.ipam_records.specs.declared.key.Key.TheVariants as key
use Rattle.ipam_records.specs.declared.key.Kind.TheVariants as kind
use Rattle.ipam_records.specs.declared.record.Record.{Record}
use Rattle.ipam_records.specs.Datastore.{Datastore, reply_of}
use Rattle.ipam_records.specs.Key.{key_of}
use Rattle.ipam_records.specs.Label.{CallLabel, Nowhere}
use Rattle.ipam_model.specs.declared.answer.Scan.{Scan}
use Rattle.ipam_model.specs.declared.choice.Choice.TheVariants.{Claim}
use Rattle.ipam_model.specs.declared.request.AddRequest.{AddRequest}
use Rattle.ipam_model.specs.declared.request.Admin.{Admin as Setting}
use Rattle.ipam_model.specs.declared.request.CollectRequest.{CollectRequest}
use Rattle.ipam_model.specs.declared.request.Request.{Request}
use Rattle.ipam_model.specs.declared.request.Request.TheVariants.{Add, AddThis, Admin, Del, Collect, Release}
use Rattle.ipam_model.specs.Add.{asked_of}
use Rattle.ipam_model.specs.AddLaw.{LookRevisions, families_of}
use Rattle.ipam_model.specs.AddThis.{asked_of_this, slot_holding}
use Rattle.ipam_model.specs.Admin.{key_changed}
use Rattle.ipam_model.specs.Affinities.{BlockRead, Tie}
use Rattle.ipam_model.specs.AnswerLaw.{IsAddWith}
use Rattle.ipam_model.specs.Assigning.{Target}
use Rattle.ipam_model.specs.Choice.{Seen, block_at, choice_of}
use Rattle.ipam_model.specs.Counting.{FreedOfHandle, freeing_all, freeing_one}
use Rattle.ipam_model.specs.Credits.{call_key_written}
use Rattle.ipam_model.specs.Named.{name_of}
use Rattle.ipam_model.specs.OwnerLaw.{MayGain}
use Rattle.ipam_model.specs.Reads.{block_said, pools_said, rows_said}
use Rattle.ipam_model.specs.Remove.{Leak, freeing_owner, leaks, suspects}
use Rattle.ipam_model.specs.Usable.{usable_pool_of}
use Rattle.ipam_laws.specs.Claims.{IsBareRead}
use Rattle.ipam_laws.proofs.Acts.{Since}
use Rattle.ipam_laws.proofs.ActParts.{ClaimCall, DidAssign, InClaim, IsApart, IsCurrent, IsOfHandle, IsRead, OfAffinity, OfBared, OfBlock, OfDeleted, OfMark, ReleaseCall, WasRead, assigning_call, freeing_call}
use Rattle.ipam_laws.proofs.AddRounds.{FiveRead}
use Rattle.ipam_laws.proofs.BlockSteps.{IsNoBlock, changed-no-block}
use Rattle.ipam_laws.proofs.DebtCalls.{Puts}
use Rattle.ipam_laws.proofs.OwnersEffects.{new_owner}
use Rattle.ipam_laws.proofs.Trails.{Did, Got, Trail}

-- the two lists of blocks, and the second list of live handles between them
pub record HasListed (collect : CollectRequest) (leak : Leak) (trail : Trail) : Type 0 where
  pub b1 : ℕ
  pub b2 : ℕ
  pub fed_at : ℕ
  pub time : ℕ
  pub live : List (List ℕ)
  pub first : Datastore
  pub second : Datastore
  pub since : Since (Did b2 second (ListAll kind.Block) ∷ Got fed_at time live ∷ Did b1 first (ListAll kind.Block) ∷ []) trail
  pub is_leak : Contains (leaks (suspects collect (rows_said (reply_of first (ListAll kind.Block)))) live (rows_said (reply_of second (ListAll kind.Block)))) leak

-- what the request may free
pub data MayLose (request : Request) (trail : Trail) (what : FreedOfHandle) : Type 0 where
  OfDel : (id : List ℕ) (cidr : CidrValue) → request ≡ Del id → what ≡ freeing_all id cidr → MayLose request trail what
  OfAdd : (add : AddRequest) (target : Target) → request ≡ Add add → DidAssign add.attributes target trail
      → what ≡ freeing_one add.attributes.handle target.block.cidr target.ordinal (target.block.sequence + 1) → MayLose request trail what
  OfCollect : (collect : CollectRequest) (leak : Leak) → request ≡ Collect collect → HasListed collect leak trail
      → what ≡ freeing_owner leak.owner leak.block → MayLose request trail what

-- for which handle the request may count
pub data CountsFor (request : Request) (id : List ℕ) : Type 0 where
  ForAdd : (add : AddRequest) → IsAddWith request add → id ≡ add.attributes.handle → CountsFor request id
  ForDel : request ≡ Del id → CountsFor request id
  ForCollect : (collect : CollectRequest) → request ≡ Collect collect → CountsFor request id

-- the block of the slot that holds the address was read, in a round, and is to be claimed
pub record HasLookedAt (add : AddRequest) (address : AddrValue) (cidr : CidrValue) (read : BlockRead) (origin : Trail) : Type 0 where
  pub at : LookRevisions
  pub config : Datastore
  pub pools : Datastore
  pub block : Datastore
  pub pool : Pool
  pub before : Trail
  pub is : origin ≡ Did at.b block (Get (key.Block cidr)) ∷ Did at.p pools (Get key.Pools) ∷ Did at.c config (Get key.Config) ∷ before
  pub usable : usable_pool_of (asked_of_this add address) address (pools_said (reply_of pools (Get key.Pools))) ≡ Some pool
  pub at_slot : cidr ≡ slot_holding pool address
  pub was_read : block_said (reply_of block (Get (key.Block cidr))) ≡ read
  pub bare : IsBareRead read

-- what a claim goes by: the choice of a round, or the look at the block of one address
pub data GoesBy (request : Request) (add : AddRequest) (cidr : CidrValue) (read : BlockRead) (origin : Trail) : Type 0 where
  ByRound : (scan : Scan) (seen : Seen) (before : Trail) → request ≡ Add add → FiveRead scan seen before origin → Contains (families_of add) scan.family
      → choice_of (asked_of add scan.family) seen ≡ Claim cidr → block_at seen cidr ≡ read → GoesBy request add cidr read origin
  ByLook : (address : AddrValue) → request ≡ AddThis add address → HasLookedAt add address cidr read origin → GoesBy request add cidr read origin

-- The call reads; or writes a handle's record, that of a claim or a release, or a setting; or it
-- assigns an address to the request's handle, or frees what the request may free.
pub data Act (request : Request) (trail : Trail) (store : Datastore) (label : CallLabel) (asked : Call) : Type 0 where
  Reads : IsRead asked → Act request trail store label asked
  Counts : (id : List ℕ) → IsOfHandle id asked → CountsFor request id → Act request trail store label asked
  Claims : (add : AddRequest) (cidr : CidrValue) (read : BlockRead) (origin : Trail) → ClaimCall add.node cidr read label asked → WasRead store cidr read
      → GoesBy request add cidr read origin → InClaim origin trail → Act request trail store label asked
  Releases : (tie : Tie) → request ≡ Release tie.node tie.block → ReleaseCall tie store label asked → Act request trail store label asked
  Changes : (setting : Setting) (new : Record) → request ≡ Admin setting → Puts asked new → key_of new ≡ key_changed setting → Act request trail store label asked
  Assigns : (attributes : Attributes) (target : Target) → asked ≡ assigning_call attributes target → IsCurrent store target.revision target.block
      → MayGain request (new_owner target.block target.ordinal attributes) → Act request trail store label asked
  Frees : (what : FreedOfHandle) (b : BlockValue) (revision amount : ℕ) → asked ≡ freeing_call what b revision → IsCurrent store revision b → b.cidr ≡ what.block
      → count_by what.picks b.allocations ≡ suc amount → MayLose request trail what → Act request trail store label asked

-- ---- calls that change no owner

pub read-apart : (asked : Call) → IsRead asked → IsApart asked
read-apart (Get k) e = tt
read-apart (ListAll kind) e = tt
read-apart (Create new) e = absurd (cc e)
read-apart (Update new revision) e = absurd (cc e)
read-apart (Delete k revision) e = absurd (cc e)

pub written-apart : (asked : Call) (k : Key) → call_key_written (name_of asked) ≡ Some k → IsNoBlock k → IsApart asked
written-apart (Get other) k e h = tt
written-apart (ListAll kind) k e h = tt
written-apart (Create new) k e h = let same : k ≡ key_of new = cc e in subst (λ (x : Key). IsNoBlock x) same h
written-apart (Update new revision) k e h = let same : k ≡ key_of new = cc e in subst (λ (x : Key). IsNoBlock x) same h
written-apart (Delete other revision) k e h = let same : k ≡ other = cc e in subst (λ (x : Key). IsNoBlock x) same h

-- a call of a claim or a release writes no block, or its request stands between two writes
pub claim-apart : (node : List ℕ) (cidr : CidrValue) (read : BlockRead) (label : CallLabel) (asked : Call) → ClaimCall node cidr read label asked → IsApart asked ⊎ (label.point ≢ Nowhere)
claim-apart node cidr read label asked (OfAffinity state kept puts) = inl (written-apart asked (key.Affinity node cidr) puts.writes tt)
claim-apart node cidr read label asked (OfBlock stands is) = inr stands

pub release-apart : (tie : Tie) (store : Datastore) (label : CallLabel) (asked : Call) → ReleaseCall tie store label asked → IsApart asked ⊎ (label.point ≢ Nowhere)
release-apart tie store label asked (OfMark puts) = inl (written-apart asked (key.Affinity tie.node tie.block) puts.writes tt)
release-apart tie store label asked (OfBared read stands is was) = inr stands
release-apart tie store label asked (OfDeleted mark is) = inl (subst (λ (x : Call). IsApart x) (sym is) tt)

pub change-apart : (setting : Setting) (new : Record) (asked : Call) → Puts asked new → key_of new ≡ key_changed setting → IsApart asked
change-apart setting new asked puts same = written-apart asked (key_of new) puts.writes (subst (λ (k : Key). IsNoBlock k) (sym same) (changed-no-block setting))
