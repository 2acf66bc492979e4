-- A request that runs alone changes each count by as much as it changes what is held.
use Rattle.std.proofs.Common.{◌≡◌, ℕ, ◌-◌, Bool, true, false, cond, List, [], ◌∷◌, ◌++◌, map, Option, Some, None, refl, sym, ap, ◌∙◌, subst, arith}
use Rattle.std.specs.Prelude.{◌&&◌, ◌==◌}
use Rattle.std.specs.List.Sorted.{IsStrictlySortedBy}
use Rattle.std.specs.Map.{keys_of}
use Rattle.ipam_addr.specs.declared.address.Family.{Family}
use Rattle.ipam_addr.specs.declared.address.Family.TheVariants.{V4}
use Rattle.ipam_addr.specs.Shape.{AddrValue, CidrValue}
use Rattle.ipam_pool.specs.declared.pools.Pool.{Pool}
use Rattle.ipam_block.specs.declared.allocation.Allocation.{Allocation}
use Rattle.ipam_block.specs.Operations.{holder, is_owned}
use Rattle.ipam_block.specs.Shape.{BlockValue}
use Rattle.ipam_block.specs.HandleOperations.{count_of}
use Rattle.ipam_block.specs.Order.{cidr_cmp}
use Rattle.ipam_block.specs.HandleShape.{HandleValue}
use Rattle.ipam_records.specs.declared.key.Key.{Key}
use Rattle.ipam_records.specs.declared.key.Key.TheVariants as key
use Rattle.ipam_records.specs.declared.record.Record.{Record}
use Rattle.ipam_records.specs.declared.record.Record.TheVariants as record_of
use Rattle.ipam_records.specs.Datastore.{Datastore, reply_to_get, row_key, row_of}
use Rattle.ipam_records.specs.Key.{key_of}
use Rattle.ipam_records.specs.KeyOrder.{keys_equal}
use Rattle.ipam_records.specs.Said.{Found}
use Rattle.ipam_records.specs.Sound.{IsRecord}
use Rattle.ipam_model.specs.declared.request.AddRequest.{AddRequest}
use Rattle.ipam_model.specs.declared.request.Request.{Request}
use Rattle.ipam_model.specs.declared.request.Request.TheVariants.{Add, AddThis, Del, Check, Release, Collect, Admin, Probe}
use Rattle.ipam_model.specs.Add.{asked_of}
use Rattle.ipam_model.specs.AddThis.{Wanted, asked_of_this, slot_holding}
use Rattle.ipam_model.specs.Affinities.{BlockRead}
use Rattle.ipam_model.specs.Alone.{alone_over}
use Rattle.ipam_model.specs.Choice.{Claims, Lacks as NoneLeft, Leaves, Pick, Picks, Share, Takes, Unknown, by_share, pick_of, share_of}
use Rattle.ipam_model.specs.Consistent.{IsConsistent}
use Rattle.ipam_model.specs.Counting.{freeing_all}
use Rattle.ipam_model.specs.CountLaw.{handle_count, held_count}
use Rattle.ipam_model.specs.Plain.{IsAnothers, PlainGift, PlainServed, PlainResult, Rows, block_in_rows, claimed_block, freeing_gift, handle_of, plain, plain_add_this, plain_after, plain_check, plain_collect, plain_del, plain_each, plain_pick, plain_probe, plain_this, plain_this_block, plain_this_claimed, plain_this_free, plain_this_held, plain_this_pool, records, seen_in, with_all_freed, with_claimed, with_freed, with_gifts_freed, with_leaks_freed}
use Rattle.ipam_model.specs.Reads.{StoredRecord, handle_said}
use Rattle.ipam_model.specs.Remove.{Leak, freeing_owner, leaks, suspects}
use Rattle.ipam_model.specs.Usable.{families_if, usable_pool_of}
use Rattle.ipam_laws.proofs.Calls.{found-handle, found-key}
use Rattle.ipam_laws.proofs.SoundSteps.{row-there}
use Rattle.ipam_plain.specs.CountsFollow.{CountsFollowLaw}
use Rattle.ipam_plain.proofs.Alike.{IsSorted, block_from, block_of-record, record_at, record_in, same-handle, value_in}
use Rattle.ipam_plain.proofs.Claiming.{plain-claimed}
use Rattle.ipam_plain.proofs.Counted.{AreSoundCounts, Follows, assigned-follows, claimed-follows, counted-store, counted_at, follows-itself, follows-trans, freed-follows, held-store, held_at, held_from}
use Rattle.ipam_plain.proofs.Held.{found-record, named}
use Rattle.ipam_plain.proofs.Readying.{claimed-cidr, served-plain}
use Rattle.ipam_plain.proofs.Whole.{all_alone}

-- ---- the base

base-ascending : (store : Datastore) (id : List ℕ) → IsConsistent store → IsStrictlySortedBy cidr_cmp (keys_of (handle_of id store.rows).counts)
unfolding IsStrictlySortedBy
base-ascending store id c = by (row_of (key.Handle id) store.rows) refl
  where
    by : (o : Option StoredRecord) → row_of (key.Handle id) store.rows ≡ o → IsStrictlySortedBy cidr_cmp (keys_of (handle_said id (reply_to_get o)).counts)
    by None e = tt
    by (Some row) e =
        let (h, is, same) = found-handle id row.1 (found-key store (key.Handle id) row.0 row.1 e) in
        let kept = subst (λ (x : Record). IsRecord x) is (row-there store (key.Handle id) row.0 row.1 c.sound e).is_record in
        subst (λ (x : Record). IsStrictlySortedBy cidr_cmp (keys_of (handle_said id (Found row.0 x)).counts)) (sym is) kept.counts.ascending

base-sound : (store : Datastore) → IsConsistent store → AreSoundCounts store.rows
base-sound store c = record {
  ascending = λ id. base-ascending store id c;
  covered = λ id cidr. let least = c.covered id cidr in let count = counted-store store id cidr in let held = held-store store id cidr in omega arith;
}

-- ---- records that are the same have the same counts

find_record : Key → List Record → Option Record
find_record k [] = None
find_record k (r ∷ rest) = cond (keys_equal (key_of r) k) (Some r) (find_record k rest)

record-found : (k : Key) (rows : Rows) → record_at k rows ≡ find_record k (records rows)
unfolding find_record
record-found k [] = refl
record-found k (row ∷ rows) = by (keys_equal (row_key row) k) (record-found k rows)
  where
    by : (b : Bool) → record_at k rows ≡ find_record k (records rows) → record_in (cond b (Some row) (row_of k rows)) ≡ cond b (Some row.1) (find_record k (records rows))
    by true rest = refl
    by false rest = rest

same-records : (k : Key) (one other : Rows) → records one ≡ records other → record_at k one ≡ record_at k other
same-records k one other e = record-found k one ∙ (ap (find_record k) e ∙ sym (record-found k other))

-- ---- DEL and collection

all-follow : (id : List ℕ) (list : List CidrValue) (rows : Rows) → AreSoundCounts rows → Follows rows (with_all_freed id list rows)
all-follow id [] rows sound = follows-itself rows sound
all-follow id (cidr ∷ rest) rows sound =
    let first = freed-follows (freeing_all id cidr) (λ a picked. picked) rows sound in
    follows-trans rows (with_freed (freeing_all id cidr) rows) (with_all_freed id rest (with_freed (freeing_all id cidr) rows)) first (all-follow id rest (with_freed (freeing_all id cidr) rows) first.sound)

last-of : (one two three : Bool) → one && two && three ≡ true → three ≡ true
last-of true true three e = e
last-of true false three e = absurd (cc e)
last-of false two three e = absurd (cc e)

leaks-follow : (list : List Leak) (rows : Rows) → AreSoundCounts rows → Follows rows (with_leaks_freed list rows)
leaks-follow [] rows sound = follows-itself rows sound
leaks-follow (leak ∷ rest) rows sound =
    let what = freeing_owner leak.owner leak.block in
    let first = freed-follows what (λ a picked. last-of (a.ordinal == (leak.owner.address.number - leak.block.base)) (a.stamp == leak.owner.stamp) (is_owned leak.owner.handle a) picked) rows sound in
    follows-trans rows (with_freed what rows) (with_leaks_freed rest (with_freed what rows)) first (leaks-follow rest (with_freed what rows) first.sound)

-- ---- ADD

module _ (request : AddRequest) where
  gifts-follow : (gifts : List PlainGift) (rows : Rows) → AreSoundCounts rows → Follows rows (with_gifts_freed request gifts rows)
  gifts-follow [] rows sound = follows-itself rows sound
  gifts-follow (gift ∷ rest) rows sound =
      let what = freeing_gift request gift in
      let first = freed-follows what (λ a picked. last-of (a.ordinal == gift.ordinal) (a.stamp == gift.stamp) (is_owned request.attributes.handle a) picked) rows sound in
      follows-trans rows (with_freed what rows) (with_gifts_freed request rest (with_freed what rows)) first (gifts-follow rest (with_freed what rows) first.sound)

  each-follows : (families : List Family) (gifts : List PlainGift) (now : Rows) → IsSorted now → AreSoundCounts now → Follows now (plain_each request gifts families now).1
  each-follows [] gifts now sorted sound = follows-itself now sound
  each-follows (family ∷ families) gifts now sorted sound =
      by (pick_of (asked_of request family) (seen_in now)) refl (λ gift after order fine. each-follows families (gifts ++ gift ∷ []) after order fine)
    where
      by : (pick : Pick) → pick_of (asked_of request family) (seen_in now) ≡ pick
          → ((gift : PlainGift) (after : Rows) → IsSorted after → AreSoundCounts after → Follows after (plain_each request (gifts ++ gift ∷ []) families after).1)
          → Follows now (plain_after request gifts (λ gift later. plain_each request (gifts ++ gift ∷ []) families later) (plain_pick request family pick now)).1
      by (Picks ranked) is on =
          let s = served-plain request family now ranked sorted is in
          let same = ap (λ (p : Pick). plain_pick request family p now) (sym is) ∙ s.is in
          let first = s.follows sound in
          subst (λ (p : PlainServed). Follows now (plain_after request gifts (λ gift later. plain_each request (gifts ++ gift ∷ []) families later) p).1) (sym same)
          (follows-trans now s.after (plain_each request (gifts ++ s.gift ∷ []) families s.after).1 first (on s.gift s.after s.sorted first.sound))
      by NoneLeft is on = gifts-follow gifts now sound
      by (Unknown place) is on = gifts-follow gifts now sound

-- ---- ADD of one address

module _ (request : AddRequest) (address : AddrValue) (rows : Rows) (sound : AreSoundCounts rows) where
  abbrev wanted : Wanted
  wanted = record { request = request; address = address }

  taken-follows : (cidr : CidrValue) (found : ℕ × BlockValue) (now : Rows) → AreSoundCounts now → record_at (key.Block found.1.cidr) now ≡ Some (record_of.Block found.1) → Follows now (plain_this wanted cidr (Some found) now).1
  taken-follows cidr found now fine there = assigned-follows request.attributes now found.1 (address.number - cidr.base) there fine

  claimed-this : (cidr : CidrValue) → Follows rows (plain_this_claimed wanted cidr rows).1
  claimed-this cidr =
      let own = claimed-cidr request V4 cidr rows in
      let after = with_claimed request.node cidr rows in
      let b = claimed_block request.node cidr (block_in_rows cidr rows) in
      let h = plain-claimed request.node cidr rows own in
      let first = claimed-follows request.node cidr rows after h sound in
      by (block_in_rows cidr after) (block_of-record cidr after ∙ ap block_from h.has_block) first (subst (λ (c : CidrValue). record_at (key.Block c) after ≡ Some (record_of.Block b)) (sym own) h.has_block)
    where
      by : (o : BlockRead) → value_in o ≡ Some (claimed_block request.node cidr (block_in_rows cidr rows)) → Follows rows (with_claimed request.node cidr rows)
          → record_at (key.Block (claimed_block request.node cidr (block_in_rows cidr rows)).cidr) (with_claimed request.node cidr rows) ≡ Some (record_of.Block (claimed_block request.node cidr (block_in_rows cidr rows)))
          → Follows rows (plain_this wanted cidr o (with_claimed request.node cidr rows)).1
      by None e first there = absurd (cc e)
      by (Some found) e first there =
          let same : found.1 ≡ claimed_block request.node cidr (block_in_rows cidr rows) = cc e in
          let at = subst (λ (x : BlockValue). record_at (key.Block x.cidr) (with_claimed request.node cidr rows) ≡ Some (record_of.Block x)) (sym same) there in
          let after = with_claimed request.node cidr rows in
          follows-trans rows after (plain_this wanted cidr (Some found) after).1 first (taken-follows cidr found after first.sound at)

  this-follows : (strict : Bool) (o : Option Pool) → Follows rows (plain_this_pool strict wanted o rows).1
  this-follows strict None = follows-itself rows sound
  this-follows strict (Some pool) = by (block_in_rows (slot_holding pool address) rows) refl
    where
      shared : (found : ℕ × BlockValue) → record_at (key.Block found.1.cidr) rows ≡ Some (record_of.Block found.1) → (share : Share)
          → Follows rows (by_share share (plain_this wanted (slot_holding pool address) (Some found) rows) (plain_this_claimed wanted (slot_holding pool address) rows) (IsAnothers (slot_holding pool address), rows)).1
      shared found there Takes = taken-follows (slot_holding pool address) found rows sound there
      shared found there Claims = claimed-this (slot_holding pool address)
      shared found there Leaves = follows-itself rows sound

      held : (found : ℕ × BlockValue) → record_at (key.Block found.1.cidr) rows ≡ Some (record_of.Block found.1) → (o : Option Allocation)
          → Follows rows (plain_this_held (plain_this_free strict wanted (slot_holding pool address) found rows) rows o).1
      held found there (Some holds) = follows-itself rows sound
      held found there None = shared found there (share_of strict request.node found.1)

      by : (o : BlockRead) → block_in_rows (slot_holding pool address) rows ≡ o → Follows rows (plain_this_block strict wanted (slot_holding pool address) o rows).1
      by None e = claimed-this (slot_holding pool address)
      by (Some found) e =
          let at = found-record rows (slot_holding pool address) found.1 (ap value_in e) in
          held found (subst (λ (c : CidrValue). record_at (key.Block c) rows ≡ Some (record_of.Block found.1)) (sym (named rows (slot_holding pool address) found.1 at)) at)
          (holder found.1 (address.number - (slot_holding pool address).base))

-- ---- all of them

plain-follows : (request : Request) (rows : Rows) (result : PlainResult) → IsSorted rows → AreSoundCounts rows → plain request rows ≡ Some result → Follows rows result.1
plain-follows (Add request) rows result sorted sound is =
    let same : plain_each request [] (families_if request.ipv4 request.ipv6) rows ≡ result = cc is in
    subst (λ (r : PlainResult). Follows rows r.1) same (each-follows request (families_if request.ipv4 request.ipv6) [] rows sorted sound)
plain-follows (AddThis request address) rows result sorted sound is =
    let same : plain_add_this (record { request = request; address = address }) rows ≡ result = cc is in
    subst (λ (r : PlainResult). Follows rows r.1) same (this-follows request address rows sound (seen_in rows).config.strict (usable_pool_of (asked_of_this request address) address (seen_in rows).pools))
plain-follows (Del id) rows result sorted sound is =
    let same : plain_del id rows ≡ result = cc is in
    subst (λ (r : PlainResult). Follows rows r.1) same (all-follow id (map (λ (count : CidrValue × ℕ). count.0) (handle_of id rows).counts) rows sound)
plain-follows (Check id addresses) rows result sorted sound is =
    let same : (plain_check id addresses rows, rows) ≡ result = cc is in
    subst (λ (r : PlainResult). Follows rows r.1) same (follows-itself rows sound)
plain-follows (Release node cidr) rows result sorted sound is = absurd (cc is)
plain-follows (Collect request) rows result sorted sound is = by (request.grace == 0) is
  where
    by : (b : Bool) → cond b (Some (plain_collect request rows)) None ≡ Some result → Follows rows result.1
    by false e = absurd (cc e)
    by true e =
        let same : plain_collect request rows ≡ result = cc e in
        subst (λ (r : PlainResult). Follows rows r.1) same (leaks-follow (leaks (suspects request rows) request.live rows) rows sound)
plain-follows (Admin change) rows result sorted sound is = absurd (cc is)
plain-follows (Probe request) rows result sorted sound is =
    let same : (plain_probe request (families_if request.ipv4 request.ipv6) rows, rows) ≡ result = cc is in
    subst (λ (r : PlainResult). Follows rows r.1) same (follows-itself rows sound)

pub counts_follow : CountsFollowLaw
counts_follow base request result consistent sound spare is id cidr =
    let then = (alone_over base request).1 in
    let same = (all_alone base request result consistent sound spare is).1 in
    let follows = plain-follows request base.store.rows result consistent.sound.ascending (base-sound base.store consistent) is in
    let even = follows.even id cidr in
    let counts : handle_count then id cidr ≡ counted_at result.1 id cidr = counted-store then id cidr ∙ ap (λ (h : HandleValue). count_of h cidr) (same-handle id then.rows result.1 (same-records (key.Handle id) then.rows result.1 same)) in
    let held : held_count then id cidr ≡ held_at result.1 id cidr = held-store then id cidr ∙ ap (held_from id) (same-records (key.Block cidr) then.rows result.1 same) in
    let was = counted-store base.store id cidr in
    let had = held-store base.store id cidr in
    omega arith
