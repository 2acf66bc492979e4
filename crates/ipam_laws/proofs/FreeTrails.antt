-- What is freed is rid of: by the trail that led there.
use Rattle.std.proofs.Common.{◌≡◌, ◌≢◌, ℕ, zero, suc, List, [], ◌∷◌, not, Some, None, refl, sym, ap, ◌∙◌}
use Rattle.std.specs.List.{count_by}
use Rattle.ipam_addr.specs.Shape.{CidrValue}
use Rattle.ipam_block.specs.declared.allocation.Allocation.{Allocation}
use Rattle.ipam_block.specs.Operations.{block_without, next_block}
use Rattle.ipam_block.specs.Shape.{BlockValue}
use Rattle.ipam_block.specs.HandleShape as handle
use Rattle.ipam_block.specs.HandleOperations.{with_lowered_count}
use Rattle.ipam_records.specs.declared.call.Call.{Call}
use Rattle.ipam_records.specs.declared.call.Call.TheVariants.{Delete, Get, Update}
use Rattle.ipam_records.specs.declared.key.Key.TheVariants as key
use Rattle.ipam_records.specs.Datastore.{Datastore, reply_of}
use Rattle.ipam_records.specs.Label.{Credit}
use Rattle.ipam_records.specs.declared.record.Record.{Record}
use Rattle.ipam_records.specs.declared.record.Record.TheVariants as record_of
use Rattle.ipam_records.specs.Said.{Said, Found, Missing, Listed, Can, Exists, Conflict, Full, Spent}
use Rattle.ipam_records.specs.Word.{Word}
use Rattle.ipam_model.specs.declared.part.Left.{Left}
use Rattle.ipam_model.specs.declared.part.Outcome.{Outcome}
use Rattle.ipam_model.specs.declared.part.Outcome.TheVariants.{Went, Stops}
use Rattle.ipam_model.specs.declared.part.Stop.{Stop}
use Rattle.ipam_model.specs.declared.part.Stop.TheVariants.{OutOfTries, OutOfClaims, NoRoom, CountAtLimit, NoRevisions}
use Rattle.ipam_model.specs.Affinities.{BlockRead}
use Rattle.ipam_model.specs.Counting.{FreedOfHandle, credit_of, free, free_found, free_once, free_these, lower, lower_once, lowering, revision_said, written_or_deleted}
use Rattle.ipam_model.specs.Credits.{call_key_written}
use Rattle.ipam_model.specs.Named.{name_of}
use Rattle.ipam_model.specs.Reads.{block_said, handle_said}
use Rattle.ipam_model.specs.Step.{Part, after_write, part_then, goes, left_of, onward, stops, tries}
use Rattle.ipam_laws.proofs.ActParts.{IsCurrent, freeing_call, read-current}
use Rattle.ipam_laws.proofs.Acts.{Later, Same, Since, since-since}
use Rattle.ipam_laws.proofs.AddTrails.{Calm, Keeps, NoBlock, Undone}
use Rattle.ipam_laws.proofs.Losses.{full-creates}
use Rattle.ipam_laws.proofs.Members.{in-filter}
use Rattle.ipam_laws.proofs.Trails.{Comes, Comes-bound, Did, Trail}

-- after the origin, nothing that is picked was in the block when it was read, or it was freed then
pub data Rid (what : FreedOfHandle) (origin : Trail) (amount : ℕ) (trail : Trail) : Type 0 where
  NoneThere : (moment : ℕ) (store : Datastore) (before : Trail) → Since (Did moment store (Get (key.Block what.block)) ∷ before) trail → Since origin before → amount ≡ 0
      → ((found : ℕ × BlockValue) → block_said (reply_of store (Get (key.Block what.block))) ≡ Some found → count_by what.picks found.1.allocations ≡ 0) → Rid what origin amount trail
  Freed : (moment : ℕ) (store : Datastore) (before : Trail) (b : BlockValue) (old revision more : ℕ) → Since (Did moment store (freeing_call what b old) ∷ before) trail → Since origin before → amount ≡ suc more
      → reply_of store (freeing_call what b old) ≡ Can revision → IsCurrent store old b → b.cidr ≡ what.block → count_by what.picks b.allocations ≡ suc more → Rid what origin amount trail

-- a trail that goes on calmly
pub data Calmer (origin : Trail) : Trail → Type 0 where
  Still : Calmer origin origin
  Then : (moment : ℕ) (store : Datastore) (asked : Call) (longer : Trail) → Calm store asked → Calmer origin longer → Calmer origin (Did moment store asked ∷ longer)

pub calmer-since : (origin trail : Trail) → Calmer origin trail → Since origin trail
calmer-since origin trail Still = Same
calmer-since origin trail (Then moment store asked longer calm before) = Later (Did moment store asked) longer (calmer-since origin longer before)

pub calmer-calmer : (one two three : Trail) → Calmer one two → Calmer two three → Calmer one three
calmer-calmer one two three h Still = h
calmer-calmer one two three h (Then moment store asked longer calm before) = Then moment store asked longer calm (calmer-calmer one two longer h before)

pub rid-since : (what : FreedOfHandle) (origin : Trail) (amount : ℕ) (trail longer : Trail) → Since trail longer → Rid what origin amount trail → Rid what origin amount longer
rid-since what origin amount trail longer since (NoneThere moment store before there later zero_amount none) = NoneThere moment store before (since-since (Did moment store (Get (key.Block what.block)) ∷ before) trail longer there since) later zero_amount none
rid-since what origin amount trail longer since (Freed moment store before b old revision more there later is done current same count) =
    Freed moment store before b old revision more (since-since (Did moment store (freeing_call what b old) ∷ before) trail longer there since) later is done current same count

-- after what is earlier
pub rid-origin : (what : FreedOfHandle) (first origin : Trail) (amount : ℕ) (trail : Trail) → Since first origin → Rid what origin amount trail → Rid what first amount trail
rid-origin what first origin amount trail since (NoneThere moment store before there later zero_amount none) = NoneThere moment store before there (since-since first origin before since later) zero_amount none
rid-origin what first origin amount trail since (Freed moment store before b old revision more there later is done current same count) = Freed moment store before b old revision more there (since-since first origin before since later) is done current same count

-- ---- calls that change no block

-- the call writes no block, or it was not done
pub data Idle (store : Datastore) (asked : Call) : Type 0 where
  Elsewhere : ((cidr : CidrValue) → call_key_written (name_of asked) ≢ Some (key.Block cidr)) → Idle store asked
  NotDone : ((revision : ℕ) → reply_of store asked ≢ Can revision) → Idle store asked

idle-calm : (store : Datastore) (asked : Call) → Idle store asked → Calm store asked
idle-calm store asked (Elsewhere apart) = NoBlock apart
idle-calm store asked (NotDone not) = Undone not

-- a trail that goes on with such calls
pub data Idler (origin : Trail) : Trail → Type 0 where
  Stays : Idler origin origin
  Goes : (moment : ℕ) (store : Datastore) (asked : Call) (longer : Trail) → Idle store asked → Idler origin longer → Idler origin (Did moment store asked ∷ longer)

pub idler-calmer : (origin trail : Trail) → Idler origin trail → Calmer origin trail
idler-calmer origin trail Stays = Still
idler-calmer origin trail (Goes moment store asked longer idle before) = Then moment store asked longer (idle-calm store asked idle) (idler-calmer origin longer before)

-- after the origin nothing was freed, or one call freed so many
pub data FreeSteps (what : FreedOfHandle) (origin : Trail) (amount : ℕ) (trail : Trail) : Type 0 where
  NoSteps : amount ≡ 0 → Idler origin trail → FreeSteps what origin amount trail
  OneStep : (moment : ℕ) (store : Datastore) (before : Trail) (b : BlockValue) (old revision more : ℕ) → Idler origin before → Idler (Did moment store (freeing_call what b old) ∷ before) trail → amount ≡ suc more
      → reply_of store (freeing_call what b old) ≡ Can revision → IsCurrent store old b → b.cidr ≡ what.block → count_by what.picks b.allocations ≡ suc more → FreeSteps what origin amount trail

-- ---- stops

-- a stop that is not for want of room, and not for a count
unfoldable pub IsRaceOrSpent : Stop → Type 0
IsRaceOrSpent OutOfTries = Unit {0}
IsRaceOrSpent OutOfClaims = Unit {0}
IsRaceOrSpent NoRoom = ⊥
IsRaceOrSpent (CountAtLimit moment) = ⊥
IsRaceOrSpent NoRevisions = Unit {0}

-- what follows a write that finds room
after-change : {A : Type 0} → (Q : Trail → A → Type 0) (trail : Trail) (reply : Said) (took : ℕ → Word A) (lost full spent : Word A) → reply ≢ Full → ((revision : ℕ) → reply ≡ Can revision → Comes Q trail (took revision)) → (((revision : ℕ) → reply ≢ Can revision) → Comes Q trail lost) → Comes Q trail spent → Comes Q trail (after_write reply took lost full spent)
after-change Q trail (Can revision) took lost full spent not a b d = a revision refl
after-change Q trail Missing took lost full spent not a b d = b (λ revision e. cc e)
after-change Q trail (Exists revision) took lost full spent not a b d = b (λ taken e. cc e)
after-change Q trail (Conflict revision) took lost full spent not a b d = b (λ taken e. cc e)
after-change Q trail Full took lost full spent not a b d = absurd (not refl)
after-change Q trail Spent took lost full spent not a b d = d
after-change Q trail (Found revision found) took lost full spent not a b d = b (λ taken e. cc e)
after-change Q trail (Listed rows) took lost full spent not a b d = b (λ taken e. cc e)

-- an update finds room, and so does a deletion
update-room : (store : Datastore) (new : Record) (old : ℕ) → reply_of store (Update new old) ≢ Full
update-room store new old e = let (made, is) = full-creates store (Update new old) refl e in absurd (cc is)

lowering-room : (store : Datastore) (h : handle.HandleValue) (counts : List (CidrValue × ℕ)) (revision : ℕ) → reply_of store (written_or_deleted h counts revision) ≢ Full
lowering-room store h [] revision e = let (made, is) = full-creates store (Delete (key.Handle h.id) revision) refl e in absurd (cc is)
lowering-room store h (count ∷ counts) revision e = update-room store (record_of.Handle h) revision e

-- ---- lowering

unfoldable LowerEnds : Trail → Outcome (Unit {0}) → Trail → Type 0
LowerEnds origin (Went left done) trail = Idler origin trail
LowerEnds origin (Stops left why) trail = IsRaceOrSpent why

lowering-idle : (store : Datastore) (h : handle.HandleValue) (counts : List (CidrValue × ℕ)) (revision : ℕ) → Idle store (written_or_deleted h counts revision)
lowering-idle store h [] revision = Elsewhere (λ cidr e. cc e)
lowering-idle store h (count ∷ counts) revision = Elsewhere (λ cidr e. cc e)

lower-once : (credit : Credit) (origin : Trail) (again : Part (Unit {0})) (left : Left) → ((trail : Trail) → Idler origin trail → Comes (λ t o. LowerEnds origin o t) trail again) → (trail : Trail) → Idler origin trail → Comes (λ t o. LowerEnds origin o t) trail (lower_once credit again left)
unfolding LowerEnds IsRaceOrSpent
lower-once credit origin again left h trail calm = λ moment store agrees second other agrees_then.
    let read = Get (key.Handle credit.handle) in
    let said = reply_of store read in
    let less = with_lowered_count (handle_said credit.handle said) credit.block credit.amount in
    let asked = lowering less (revision_said said) in
    let behind = Goes second other asked (Did moment store read ∷ trail) (lowering-idle other less less.counts (revision_said said)) (Goes moment store read trail (Elsewhere (λ cidr e. cc e)) calm) in
    after-change (λ t o. LowerEnds origin o t) (Did second other asked ∷ Did moment store read ∷ trail) (reply_of other asked) (λ revision. goes left tt) again (stops left NoRoom) (stops left NoRevisions)
    (lowering-room other less less.counts (revision_said said)) (λ revision e. behind) (λ lost. h (Did second other asked ∷ Did moment store read ∷ trail) behind) tt

lower-tries : (credit : Credit) (origin : Trail) (races claims : ℕ) (trail : Trail) → Idler origin trail → Comes (λ t o. LowerEnds origin o t) trail (tries (lower_once credit) races claims)
unfolding tries LowerEnds IsRaceOrSpent
lower-tries credit origin zero claims trail calm = lower-once credit origin (stops (left_of zero claims) OutOfTries) (left_of zero claims) (λ longer k. tt) trail calm
lower-tries credit origin (suc races) claims trail calm = lower-once credit origin (tries (lower_once credit) races claims) (left_of (suc races) claims) (λ longer k. lower-tries credit origin races claims longer k) trail calm

-- ---- freeing

-- it was rid of, calmly
unfoldable pub FreedEnds : FreedOfHandle → Trail → Trail → Outcome ℕ → Type 0
FreedEnds what origin trail (Went left amount) = Rid what origin amount trail × Calmer origin trail × FreeSteps what origin amount trail
FreedEnds what origin trail (Stops left why) = IsRaceOrSpent why

freeing-calm : (store : Datastore) (what : FreedOfHandle) (b : BlockValue) (old : ℕ) → IsCurrent store old b → Calm store (freeing_call what b old)
freeing-calm store what b old current = Keeps b (block_without what.picks (next_block b)) old refl (λ found there. current found there) refl (λ a there. (in-filter (λ (x : Allocation). not (what.picks x)) a b.allocations there).0)

AgainFreed : FreedOfHandle → Trail → Part ℕ → Type 0
AgainFreed what origin again = (trail : Trail) → Idler origin trail → Comes (FreedEnds what origin) trail again

free-some : (what : FreedOfHandle) (origin : Trail) (again : Part ℕ) (left : Left) (moment : ℕ) (store : Datastore) (trail : Trail) (found : ℕ × BlockValue) (amount : ℕ) → AgainFreed what origin again → Idler origin trail → block_said (reply_of store (Get (key.Block what.block))) ≡ Some found → count_by what.picks found.1.allocations ≡ amount
    → Comes (FreedEnds what origin) (Did moment store (Get (key.Block what.block)) ∷ trail) (free_these what again left amount found)
unfolding FreedEnds LowerEnds AgainFreed IsRaceOrSpent
free-some what origin again left moment store trail found zero h calm e count = (
  NoneThere moment store trail Same (calmer-since origin trail (idler-calmer origin trail calm)) refl (λ other f. let same : found ≡ other = cc (e, f) in ap (λ (p : ℕ × BlockValue). count_by what.picks p.1.allocations) (sym same) ∙ count),
  Then moment store (Get (key.Block what.block)) trail (NoBlock (λ cidr f. cc f)) (idler-calmer origin trail calm),
  NoSteps refl (Goes moment store (Get (key.Block what.block)) trail (Elsewhere (λ cidr f. cc f)) calm),
)
free-some what origin again left moment store trail found (suc more) h calm e count = λ second other agrees.
    let read = Get (key.Block what.block) in
    let (same, current) = read-current moment store other trail what.block found e agrees in
    let asked = freeing_call what found.1 found.0 in
    let longer : Trail = Did second other asked ∷ Did moment store read ∷ trail in
    let read_there : Idler origin (Did moment store read ∷ trail) = Goes moment store read trail (Elsewhere (λ cidr f. cc f)) calm in
    let behind : Calmer origin longer = Then second other asked (Did moment store read ∷ trail) (freeing-calm other what found.1 found.0 current) (idler-calmer origin (Did moment store read ∷ trail) read_there) in
    after-change (FreedEnds what origin) longer (reply_of other asked) (λ taken. part_then (lower (credit_of what.handle what.block (suc more)) left) (λ now done. goes now (suc more))) again (stops left NoRoom) (stops left NoRevisions)
    (update-room other (record_of.Block (block_without what.picks (next_block found.1))) found.0)
    (λ revision done. lowers longer behind (Freed second other (Did moment store read ∷ trail) found.1 found.0 revision more Same (Later (Did moment store read) trail (calmer-since origin trail (idler-calmer origin trail calm))) refl done current same count)
    (λ further k. OneStep second other (Did moment store read ∷ trail) found.1 found.0 revision more read_there k refl done current same count))
    (λ not. h longer (Goes second other asked (Did moment store read ∷ trail) (NotDone not) read_there)) tt
  where
    lowers : (longer : Trail) → Calmer origin longer → Rid what origin (suc more) longer → ((further : Trail) → Idler longer further → FreeSteps what origin (suc more) further) → Comes (FreedEnds what origin) longer (part_then (lower (credit_of what.handle what.block (suc more)) left) (λ now done. goes now (suc more)))
    lowers longer behind rid steps =
        Comes-bound (λ t o. LowerEnds longer o t) (FreedEnds what origin) (onward (λ now done. goes now (suc more))) (lower (credit_of what.handle what.block (suc more)) left) longer
        (lower-tries (credit_of what.handle what.block (suc more)) longer left.races left.claims longer Stays) ends
      where
        ends : (further : Trail) (outcome : Outcome (Unit {0})) → LowerEnds longer outcome further → Comes (FreedEnds what origin) further (onward (λ now done. goes now (suc more)) outcome)
        ends further (Went now done) k =
            let calm = idler-calmer longer further k in
            (rid-since what origin (suc more) longer further (calmer-since longer further calm) rid, calmer-calmer origin longer further behind calm, steps further k)
        ends further (Stops now why) k = k

free-once : (what : FreedOfHandle) (origin : Trail) (again : Part ℕ) (left : Left) → AgainFreed what origin again → AgainFreed what origin (free_once what again left)
unfolding FreedEnds AgainFreed
free-once what origin again left h trail calm = λ moment store agrees. by moment store (block_said (reply_of store (Get (key.Block what.block)))) refl
  where
    by : (moment : ℕ) (store : Datastore) (read : BlockRead) → block_said (reply_of store (Get (key.Block what.block))) ≡ read → Comes (FreedEnds what origin) (Did moment store (Get (key.Block what.block)) ∷ trail) (free_found what again left read)
    by moment store None e = (
      NoneThere moment store trail Same (calmer-since origin trail (idler-calmer origin trail calm)) refl (λ found f. absurd (cc (e, f))),
      Then moment store (Get (key.Block what.block)) trail (NoBlock (λ cidr f. cc f)) (idler-calmer origin trail calm),
      NoSteps refl (Goes moment store (Get (key.Block what.block)) trail (Elsewhere (λ cidr f. cc f)) calm),
    )
    by moment store (Some found) e = free-some what origin again left moment store trail found (count_by what.picks found.1.allocations) h calm e refl

free-tries : (what : FreedOfHandle) (origin : Trail) (races claims : ℕ) → AgainFreed what origin (tries (free_once what) races claims)
unfolding tries FreedEnds AgainFreed IsRaceOrSpent
free-tries what origin zero claims = free-once what origin (stops (left_of zero claims) OutOfTries) (left_of zero claims) (λ trail calm. tt)
free-tries what origin (suc races) claims = free-once what origin (tries (free_once what) races claims) (left_of (suc races) claims) (free-tries what origin races claims)

pub free-rids : (what : FreedOfHandle) (origin : Trail) (left : Left) → Comes (FreedEnds what origin) origin (free what left)
unfolding AgainFreed
free-rids what origin left = free-tries what origin left.races left.claims origin Stays
