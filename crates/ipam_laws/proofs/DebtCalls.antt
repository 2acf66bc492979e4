-- Which calls raise a count by one, which free addresses, and which do neither.
use Rattle.std.proofs.Common.{◌≡◌, ◌≢◌, ℕ, suc, ◌+◌, ◌-◌, ◌≤◌, inl, inr, Bool, true, List, [], Some, None, refl, sym, ap, ◌∙◌, subst, arith}
use Rattle.std.specs.Prelude.{not}
use Rattle.std.specs.List.{count_by, filter}
use Rattle.ipam_addr.specs.Shape.{CidrValue}
use Rattle.ipam_block.specs.declared.allocation.Allocation.{Allocation}
use Rattle.ipam_block.specs.Operations.{block_without, is_owned, next_block}
use Rattle.ipam_block.specs.Shape.{BlockValue}
use Rattle.ipam_block.specs.HandleOperations.{content, count_of, counts_with, with_lowered_count, with_raised_count}
use Rattle.ipam_block.specs.HandleShape.{HandleValue}
use Rattle.ipam_block.specs.HandleSound.{AreCounts}
use Rattle.ipam_block.proofs.Reading.{count_in-here}
use Rattle.ipam_records.specs.declared.call.Call.{Call}
use Rattle.ipam_records.specs.declared.call.Call.TheVariants.{Get, List as ListAll, Create, Update, Delete}
use Rattle.ipam_records.specs.declared.call.Write.TheVariants.{Put, Remove}
use Rattle.ipam_records.specs.declared.key.Key.{Key}
use Rattle.ipam_records.specs.declared.key.Key.TheVariants as key
use Rattle.ipam_records.specs.declared.key.Kind.{Kind}
use Rattle.ipam_records.specs.declared.record.Record.{Record}
use Rattle.ipam_records.specs.declared.record.Record.TheVariants as record_of
use Rattle.ipam_records.specs.Datastore.{Datastore, reply_of, row_of, write_granted, written}
use Rattle.ipam_records.specs.Key.{key_of}
use Rattle.ipam_records.specs.Label.{Credit}
use Rattle.ipam_records.specs.Said.{Said, Found, Missing, Listed, Can, Exists, Conflict, Full, Spent}
use Rattle.ipam_records.proofs.DatastoreLemmas.{row_of-without_row}
use Rattle.ipam_model.specs.AffinityLaw.{HasAt}
use Rattle.ipam_model.specs.Cluster.{store_with}
use Rattle.ipam_model.specs.CountLaw.{count_in_row, handle_count, held_count, held_in_row}
use Rattle.ipam_model.specs.Counting.{credit_of}
use Rattle.ipam_model.specs.Credits.{call_key_written}
use Rattle.ipam_model.specs.Named.{name_of}
use Rattle.ipam_model.specs.Step.{write_back}
use Rattle.ipam_laws.proofs.CountLemmas.{cidr_cases, count-elsewhere, held-filter, kept-others, raised-here, text_cases}
use Rattle.ipam_laws.proofs.CountSteps.{IsApart, put-own}
use Rattle.ipam_laws.proofs.Debts.{Frees, Harmless, Raises, Undone}
use Rattle.ipam_laws.proofs.Lift.{behind}

-- ---- calls that are not done

pub get-undone : (store : Datastore) (k : Key) → Undone store (Get k)
get-undone store k other done = let e = done.writes in absurd (cc e)

pub list-undone : (store : Datastore) (kind : Kind) → Undone store (ListAll kind)
list-undone store kind other done = let e = done.writes in absurd (cc e)

pub lost-undone : (store : Datastore) (asked : Call) → ((revision : ℕ) → reply_of store asked ≢ Can revision) → Undone store asked
lost-undone store asked lost k done = lost done.revision done.can

pub undone-harmless : (store : Datastore) (asked : Call) → Undone store asked → Harmless store asked
undone-harmless store asked none = record {
  raises_none = λ id cidr raises. none (key.Handle id) raises.done;
  frees_none = λ credit frees. none (key.Block credit.block) frees.done;
}

-- ---- calls that put a record

pub record Puts (asked : Call) (new : Record) : Type 0 where
  pub writes : call_key_written (name_of asked) ≡ Some (key_of new)
  pub puts : (store : Datastore) (revision : ℕ) → reply_of store asked ≡ Can revision → behind store asked ≡ written store (Put revision new)

pub create-puts : (new : Record) → Puts (Create new) new
create-puts new = record { writes = refl; puts = λ store revision e. ap (λ said. store_with (write_granted (Create new) said) store) e }

pub update-puts : (new : Record) (old : ℕ) → Puts (Update new old) new
update-puts new old = record { writes = refl; puts = λ store revision e. ap (λ said. store_with (write_granted (Update new old) said) store) e }

pub back-puts : (said : Said) (new : Record) → Puts (write_back said new) new
back-puts (Found revision found) new = update-puts new revision
back-puts Missing new = create-puts new
back-puts (Listed rows) new = create-puts new
back-puts (Can revision) new = create-puts new
back-puts (Exists revision) new = create-puts new
back-puts (Conflict revision) new = create-puts new
back-puts Full new = create-puts new
back-puts Spent new = create-puts new

-- a call about neither a block nor a handle
pub apart-harmless : (store : Datastore) (asked : Call) (k : Key) → call_key_written (name_of asked) ≡ Some k → IsApart k → Harmless store asked
apart-harmless store asked k writes apart = record {
  raises_none = λ id cidr raises.
      let same : Some k ≡ Some (key.Handle id) = sym writes ∙ raises.done.writes in
      let is : k ≡ key.Handle id = cc same in
      subst (λ (x : Key). IsApart x) is apart;
  frees_none = λ credit frees.
      let same : Some k ≡ Some (key.Block credit.block) = sym writes ∙ frees.done.writes in
      let is : k ≡ key.Block credit.block = cc same in
      subst (λ (x : Key). IsApart x) is apart;
}

-- ---- a block

block-raises-none : (store : Datastore) (asked : Call) (b : BlockValue) → Puts asked (record_of.Block b) → (id : List ℕ) (cidr : CidrValue) → ¬ (Raises store asked id cidr)
block-raises-none store asked b puts id cidr raises =
    let same : Some (key.Block b.cidr) ≡ Some (key.Handle id) = sym puts.writes ∙ raises.done.writes in absurd (cc same)

-- the block that is freed from is the one that is put
freed-there : (store : Datastore) (asked : Call) (b : BlockValue) → Puts asked (record_of.Block b) → (credit : Credit) → Frees store asked credit → (b.cidr ≡ credit.block) × (held_count store credit.handle b.cidr ≡ count_by (is_owned credit.handle) b.allocations + credit.amount)
freed-there store asked b puts credit frees =
    let same : Some (key.Block b.cidr) ≡ Some (key.Block credit.block) = sym puts.writes ∙ frees.done.writes in
    let is : b.cidr ≡ credit.block = cc same in
    let then = subst (λ (c : CidrValue). held_count store credit.handle c ≡ held_count (behind store asked) credit.handle c + credit.amount) (sym is) frees.so_many in
    let put = puts.puts store frees.done.revision frees.done.can in
    let now : held_count (behind store asked) credit.handle b.cidr ≡ count_by (is_owned credit.handle) b.allocations =
    ap (λ (s : Datastore). held_count s credit.handle b.cidr) put ∙ ap (held_in_row credit.handle) (put-own store frees.done.revision (record_of.Block b)) in
    (is, then ∙ ap (λ n. n + credit.amount) now)

-- a block that holds no less than before
pub block-harmless : (store : Datastore) (asked : Call) (b : BlockValue) → Puts asked (record_of.Block b) → ((revision : ℕ) → reply_of store asked ≡ Can revision → (id : List ℕ) → held_count store id b.cidr ≤ count_by (is_owned id) b.allocations) → Harmless store asked
block-harmless store asked b puts holds = record {
  raises_none = block-raises-none store asked b puts;
  frees_none = λ credit frees.
      let (is, sum) = freed-there store asked b puts credit frees in
      let least = holds frees.done.revision frees.done.can credit.handle in
      let some = frees.some in
      absurd (omega arith);
}

-- ---- what is freed

module _ (store : Datastore) (b : BlockValue) (old : ℕ) (id : List ℕ) (picks : Allocation → Bool) (own : (a : Allocation) → picks a ≡ true → is_owned id a ≡ true) (amount : ℕ) (count : count_by picks b.allocations ≡ suc amount) where
  abbrev freeing : Call
  freeing = Update (record_of.Block (block_without picks (next_block b))) old

  abbrev freed_credit : Credit
  freed_credit = credit_of id b.cidr (suc amount)

  freeing-puts : Puts freeing (record_of.Block (block_without picks (next_block b)))
  freeing-puts = update-puts (record_of.Block (block_without picks (next_block b))) old

  pub free-frees : (revision : ℕ) → reply_of store freeing ≡ Can revision → HasAt store (key.Block b.cidr) old (record_of.Block b) → Frees store freeing freed_credit
  free-frees revision e there =
      let put = freeing-puts.puts store revision e in
      let now : held_count (behind store freeing) id b.cidr ≡ count_by (is_owned id) (filter (λ a. not (picks a)) b.allocations) =
      ap (λ (s : Datastore). held_count s id b.cidr) put ∙ ap (held_in_row id) (put-own store revision (record_of.Block (block_without picks (next_block b)))) in
      let before : held_count store id b.cidr ≡ count_by (is_owned id) b.allocations = ap (held_in_row id) there in
      let sum = held-filter id picks own b.allocations in
      record { done = record { writes = refl; revision = revision; can = e }; some = omega arith; so_many = omega arith }

  pub free-only : HasAt store (key.Block b.cidr) old (record_of.Block b) → (other : Credit) → Frees store freeing other → freed_credit ≡ other
  free-only there other frees =
      let (at, sum) = freed-there store freeing (block_without picks (next_block b)) freeing-puts other frees in
      let before : held_count store other.handle b.cidr ≡ count_by (is_owned other.handle) b.allocations = ap (held_in_row other.handle) there in
      elim (text_cases id other.handle) [
        | inl (t, same) ↦
            let parts = held-filter id picks own b.allocations in
            let whole : count_by (is_owned id) b.allocations ≡ count_by (is_owned id) (filter (λ a. not (picks a)) b.allocations) + other.amount =
            subst (λ (h : List ℕ). count_by (is_owned h) b.allocations ≡ count_by (is_owned h) (filter (λ a. not (picks a)) b.allocations) + other.amount) (sym same) (sym before ∙ sum) in
            let amounts : suc amount ≡ other.amount = omega arith in
            λ i. record { handle = same i; block = at i; amount = amounts i }
        | inr (f, differ) ↦
            let kept = kept-others id other.handle picks own differ b.allocations in
            let some = frees.some in
            absurd (omega arith)
      ]

  pub free-raises_none : (other : List ℕ) (cidr : CidrValue) → ¬ (Raises store freeing other cidr)
  free-raises_none = block-raises-none store freeing (block_without picks (next_block b)) freeing-puts

-- ---- a handle

handle-frees-none : (store : Datastore) (asked : Call) (h : HandleValue) → Puts asked (record_of.Handle h) → (credit : Credit) → ¬ (Frees store asked credit)
handle-frees-none store asked h puts credit frees =
    let same : Some (key.Handle h.id) ≡ Some (key.Block credit.block) = sym puts.writes ∙ frees.done.writes in absurd (cc same)

-- the count that is raised is the handle's
raised-there : (store : Datastore) (asked : Call) (h : HandleValue) → Puts asked (record_of.Handle h) → (id : List ℕ) (cidr : CidrValue) → Raises store asked id cidr → (h.id ≡ id) × (count_of h cidr ≡ handle_count store h.id cidr + 1)
raised-there store asked h puts id cidr raises =
    let same : Some (key.Handle h.id) ≡ Some (key.Handle id) = sym puts.writes ∙ raises.done.writes in
    let is : h.id ≡ id = cc same in
    let more = subst (λ (i : List ℕ). handle_count (behind store asked) i cidr ≡ handle_count store i cidr + 1) (sym is) raises.by_one in
    let put = puts.puts store raises.done.revision raises.done.can in
    let now : handle_count (behind store asked) h.id cidr ≡ count_of h cidr =
    ap (λ (s : Datastore). handle_count s h.id cidr) put ∙ ap (count_in_row h.id cidr) (put-own store raises.done.revision (record_of.Handle h)) in
    (is, sym now ∙ more)

module _ (store : Datastore) (h : HandleValue) (cidr : CidrValue) (asked : Call) (puts : Puts asked (record_of.Handle (with_raised_count h cidr 1))) (before : (c : CidrValue) → handle_count store h.id c ≡ count_of h c) where
  pub raise-raises : (revision : ℕ) → reply_of store asked ≡ Can revision → Raises store asked h.id cidr
  raise-raises revision e =
      let put = puts.puts store revision e in
      let now : handle_count (behind store asked) h.id cidr ≡ count_of (with_raised_count h cidr 1) cidr =
      ap (λ (s : Datastore). handle_count s h.id cidr) put ∙ ap (count_in_row h.id cidr) (put-own store revision (record_of.Handle (with_raised_count h cidr 1))) in
      let was = before cidr in
      let more = raised-here h cidr in
      record { done = record { writes = puts.writes; revision = revision; can = e }; by_one = omega arith }

  pub raise-only : (id : List ℕ) (other : CidrValue) → Raises store asked id other → (h.id ≡ id) × (cidr ≡ other)
  raise-only id other raises =
      let (is, more) = raised-there store asked (with_raised_count h cidr 1) puts id other raises in
      elim (cidr_cases cidr other) [
        | inl (t, same) ↦ (is, same)
        | inr (f, differ) ↦
            let kept = count-elsewhere h.counts cidr other (count_of h cidr + 1) differ in
            let was = before other in
            absurd (omega arith)
      ]

  pub raise-frees_none : (credit : Credit) → ¬ (Frees store asked credit)
  raise-frees_none = handle-frees-none store asked (with_raised_count h cidr 1) puts

-- a handle that is put with no more than it had
pub handle-harmless : (store : Datastore) (asked : Call) (h : HandleValue) → Puts asked (record_of.Handle h) → ((revision : ℕ) → reply_of store asked ≡ Can revision → (c : CidrValue) → count_of h c ≤ handle_count store h.id c) → Harmless store asked
handle-harmless store asked h puts less = record {
  raises_none = λ id cidr raises.
      let (is, more) = raised-there store asked h puts id cidr raises in
      let most = less raises.done.revision raises.done.can cidr in
      absurd (omega arith);
  frees_none = handle-frees-none store asked h puts;
}

-- a handle that is deleted
pub delete-harmless : (store : Datastore) (id : List ℕ) (old : ℕ) → Harmless store (Delete (key.Handle id) old)
delete-harmless store id old = record {
  raises_none = λ other cidr raises.
      let same : Some (key.Handle id) ≡ Some (key.Handle other) = raises.done.writes in
      let is : id ≡ other = cc same in
      let put : behind store (Delete (key.Handle id) old) ≡ written store (Remove raises.done.revision (key.Handle id)) =
      ap (λ said. store_with (write_granted (Delete (key.Handle id) old) said) store) raises.done.can in
      let gone : row_of (key.Handle other) (behind store (Delete (key.Handle id) old)).rows ≡ None =
      ap (λ (s : Datastore). row_of (key.Handle other) s.rows) put
      ∙ subst (λ (i : List ℕ). row_of (key.Handle i) (written store (Remove raises.done.revision (key.Handle id))).rows ≡ None) is (row_of-without_row (key.Handle id) store.rows) in
      let none : handle_count (behind store (Delete (key.Handle id) old)) other cidr ≡ 0 = ap (count_in_row other cidr) gone in
      let more = raises.by_one in
      absurd (omega arith);
  frees_none = λ credit frees. let same : Some (key.Handle id) ≡ Some (key.Block credit.block) = frees.done.writes in absurd (cc same);
}

-- fewer of one block, and as many of the others
pub lowered-less : (h : HandleValue) → AreCounts h.counts → (cidr : CidrValue) (amount : ℕ) (c : CidrValue) → count_of (with_lowered_count h cidr amount) c ≤ count_of h c
lowered-less h sound cidr amount c = elim (cidr_cases cidr c) [
  | inl (t, same) ↦
      let here = count_in-here h.counts sound cidr (count_of h cidr - amount) in
      let less : count_of (with_lowered_count h cidr amount) cidr ≤ count_of h cidr = omega arith in
      subst (λ (x : CidrValue). count_of (with_lowered_count h cidr amount) x ≤ count_of h x) same less
  | inr (f, differ) ↦ let kept = count-elsewhere h.counts cidr c (count_of h cidr - amount) differ in omega arith
]

-- a handle without counts has none to lower
pub lowered-nothing : (id : List ℕ) (cidr : CidrValue) (amount : ℕ) → (with_lowered_count (content id []) cidr amount).counts ≡ []
lowered-nothing id cidr amount = let none : 0 - amount ≡ 0 = omega arith in ap (λ n. counts_with [] cidr n) none
