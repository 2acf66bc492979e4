-- Each kind of step raises no count by more than what is held and owed, but for one that gives up a debt.
use Rattle.std.proofs.Common.{◌≡◌, ◌≢◌, ◌⊎◌, ℕ, suc, ◌+◌, ◌-◌, ◌≤◌, inl, inr, Bool, true, List, [], Some, None, refl, sym, ap, ◌∙◌, subst, arith, bytes_eq}
use Rattle.std.specs.List.{count_by}
use Rattle.ipam_addr.specs.Shape.{CidrValue}
use Rattle.ipam_block.specs.declared.allocation.Allocation.{Allocation}
use Rattle.ipam_block.specs.declared.allocation.Attributes.{Attributes}
use Rattle.ipam_block.specs.HandleSound.{AreCounts}
use Rattle.ipam_block.specs.HandleOperations.{content, count_of, with_raised_count, with_lowered_count}
use Rattle.ipam_block.specs.HandleShape as handle
use Rattle.ipam_block.specs.Operations.{is_owned, next_block, block_with_ordinal, block_without}
use Rattle.ipam_block.specs.Shape as block
use Rattle.ipam_block.proofs.Reading.{count_in-here}
use Rattle.ipam_records.specs.declared.key.Key.{Key}
use Rattle.ipam_records.specs.declared.key.Key.TheVariants as key
use Rattle.ipam_records.specs.declared.record.Record.{Record}
use Rattle.ipam_records.specs.declared.record.Record.TheVariants as record_of
use Rattle.ipam_records.specs.declared.call.Write.TheVariants.{Put, Remove}
use Rattle.ipam_records.specs.Datastore.{Datastore, reply_to_get, row_of, written}
use Rattle.ipam_records.specs.Key.{key_of}
use Rattle.ipam_records.specs.Label.{CallLabel, Credit, idle, owing}
use Rattle.ipam_records.specs.Sound.{IsDatastore}
use Rattle.ipam_records.proofs.DatastoreLemmas.{row_of-without_row, row_of-without_row-other}
use Rattle.ipam_model.specs.Admin.{key_changed}
use Rattle.ipam_model.specs.Affinities.{BlockRead}
use Rattle.ipam_model.specs.CountLaw.{count_in_row, handle_count, held_in_row, held_count}
use Rattle.ipam_model.specs.Counting.{credit_of}
use Rattle.ipam_laws.proofs.CountKinds.{changed-apart, held-at}
use Rattle.ipam_laws.proofs.CountLemmas.{cidr_cases, text_cases, same_text, raised-here, count-elsewhere, held-assigned, held-filter, kept-others}
use Rattle.ipam_laws.proofs.CountSteps.{IsApart, apart-block, apart-handle, owed, owed-own, owed-other_block, owed-other_id, put-other, put-own}
use Rattle.ipam_laws.proofs.Lift.{Known}
use Rattle.ipam_laws.proofs.RequestSteps.{key-changed}
use Rattle.ipam_laws.proofs.SoundSteps.{row-there}
use Rattle.ipam_laws.proofs.Steps.{IsAsRead, IsHandle, taken, bared, at_claiming, at_claimed, at_releasing, at_released, Step, Idles, Owes, Finds, Starts, Takes, Confirms, Marks, Looks, Bares, Deletes, Raises, Lowers, LowersOut, Frees, Assigns, Changes}

-- the count, less what is held and owed, doesn't grow
abbrev pub CountsSink : Datastore → Datastore → CallLabel → CallLabel → Type 0
CountsSink old new label after = (id : List ℕ) (cidr : CidrValue)
    → handle_count new id cidr + held_count old id cidr + owed id cidr label
    ≤ handle_count old id cidr + held_count new id cidr + owed id cidr after

-- no less is owed
abbrev OwesMore : CallLabel → CallLabel → Type 0
OwesMore label after = (id : List ℕ) (cidr : CidrValue) → owed id cidr label ≤ owed id cidr after

stays-sink : (store : Datastore) (label after : CallLabel) → OwesMore label after → CountsSink store store label after
stays-sink store label after more id cidr = let h = more id cidr in omega arith

-- a write that is about neither a block nor a handle
apart-sink : (store : Datastore) (r : ℕ) (new : Record) (label after : CallLabel) → IsApart (key_of new) → OwesMore label after → CountsSink store (written store (Put r new)) label after
apart-sink store r new label after apart more id cidr =
    let block_same = ap (held_in_row id) (put-other store r new (key.Block cidr) (apart-block (key_of new) cidr apart)) in
    let handle_same = ap (count_in_row id cidr) (put-other store r new (key.Handle id) (apart-handle (key_of new) id apart)) in
    let h = more id cidr in
    omega arith

apart-gone : (store : Datastore) (r : ℕ) (gone : Key) (label after : CallLabel) → IsApart gone → OwesMore label after → CountsSink store (written store (Remove r gone)) label after
apart-gone store r gone label after apart more id cidr =
    let block_same = ap (held_in_row id) (row_of-without_row-other (key.Block cidr) gone store.rows (apart-block gone cidr apart)) in
    let handle_same = ap (count_in_row id cidr) (row_of-without_row-other (key.Handle id) gone store.rows (apart-handle gone id apart)) in
    let h = more id cidr in
    omega arith

-- ---- a write of a block

block-sink : (store : Datastore) (r : ℕ) (b : block.BlockValue) (label after : CallLabel)
    → ((id : List ℕ) → held_count store id b.cidr + owed id b.cidr label ≤ count_by (is_owned id) b.allocations + owed id b.cidr after)
    → ((id : List ℕ) (cidr : CidrValue) → b.cidr ≢ cidr → owed id cidr label ≤ owed id cidr after)
    → CountsSink store (written store (Put r (record_of.Block b))) label after
block-sink store r b label after here there id cidr = elim (cidr_cases b.cidr cidr) [
  | inl (t, same) ↦
      let P : CidrValue → Type 0 = λ x. handle_count (written store (Put r (record_of.Block b))) id x + held_count store id x + owed id x label ≤ handle_count store id x + held_count (written store (Put r (record_of.Block b))) id x + owed id x after in
      subst P same (own (here id))
  | inr (f, differ) ↦
      let block_same = ap (held_in_row id) (put-other store r (record_of.Block b) (key.Block cidr) (λ e. differ (cc e))) in
      let handle_same = ap (count_in_row id cidr) (put-other store r (record_of.Block b) (key.Handle id) (λ e. cc e)) in
      let h = there id cidr differ in
      omega arith
]
  where
    own : held_count store id b.cidr + owed id b.cidr label ≤ count_by (is_owned id) b.allocations + owed id b.cidr after
        → handle_count (written store (Put r (record_of.Block b))) id b.cidr + held_count store id b.cidr + owed id b.cidr label ≤ handle_count store id b.cidr + held_count (written store (Put r (record_of.Block b))) id b.cidr + owed id b.cidr after
    own h =
        let new_held = ap (held_in_row id) (put-own store r (record_of.Block b)) in
        let handle_same = ap (count_in_row id b.cidr) (put-other store r (record_of.Block b) (key.Handle id) (λ e. cc e)) in
        omega arith

-- a block that holds no less than it did
block-keeps : (store : Datastore) (r : ℕ) (b : block.BlockValue) (label after : CallLabel) → ((id : List ℕ) → held_count store id b.cidr ≤ count_by (is_owned id) b.allocations) → OwesMore label after → CountsSink store (written store (Put r (record_of.Block b))) label after
block-keeps store r b label after least more =
    block-sink store r b label after (λ id. let k = least id in let m = more id b.cidr in omega arith) (λ id cidr differ. more id cidr)

as_read-holds : (store : Datastore) (cidr : CidrValue) (found : ℕ × block.BlockValue) → IsAsRead store cidr (Some found) → (id : List ℕ) → held_count store id found.1.cidr ≤ count_by (is_owned id) found.1.allocations
as_read-holds store cidr found h id =
    let P : CidrValue → Type 0 = λ x. held_count store id x ≤ count_by (is_owned id) found.1.allocations in
    let e = held-at store cidr found.0 found.1 h.1 id in
    let there : P cidr = omega arith in
    subst P (sym h.0) there

taken-holds : (store : Datastore) (node : List ℕ) (cidr : CidrValue) (read : BlockRead) → IsAsRead store cidr read → (id : List ℕ) → held_count store id (taken node cidr read).cidr ≤ count_by (is_owned id) (taken node cidr read).allocations
taken-holds store node cidr None h id = let none = ap (held_in_row id) h in omega arith
taken-holds store node cidr (Some found) h id = as_read-holds store cidr found h id

bared-holds : (store : Datastore) (node : List ℕ) (cidr : CidrValue) (read : BlockRead) → IsAsRead store cidr read → (id : List ℕ) → held_count store id (bared node cidr read).cidr ≤ count_by (is_owned id) (bared node cidr read).allocations
bared-holds store node cidr None h id = let none = ap (held_in_row id) h in omega arith
bared-holds store node cidr (Some found) h id = as_read-holds store cidr found h id

-- ---- a write of a handle

handle-sink : (store : Datastore) (r : ℕ) (h : handle.HandleValue) (label after : CallLabel)
    → ((cidr : CidrValue) → count_of h cidr + owed h.id cidr label ≤ handle_count store h.id cidr + owed h.id cidr after)
    → ((id : List ℕ) (cidr : CidrValue) → h.id ≢ id → owed id cidr label ≤ owed id cidr after)
    → CountsSink store (written store (Put r (record_of.Handle h))) label after
handle-sink store r h label after here there id cidr = elim (text_cases h.id id) [
  | inl (t, same) ↦
      let P : List ℕ → Type 0 = λ x. handle_count (written store (Put r (record_of.Handle h))) x cidr + held_count store x cidr + owed x cidr label ≤ handle_count store x cidr + held_count (written store (Put r (record_of.Handle h))) x cidr + owed x cidr after in
      subst P same own
  | inr (f, differ) ↦
      let block_same = ap (held_in_row id) (put-other store r (record_of.Handle h) (key.Block cidr) (λ e. cc e)) in
      let handle_same = ap (count_in_row id cidr) (put-other store r (record_of.Handle h) (key.Handle id) (λ e. differ (cc e))) in
      let more = there id cidr differ in
      omega arith
]
  where
    own : handle_count (written store (Put r (record_of.Handle h))) h.id cidr + held_count store h.id cidr + owed h.id cidr label ≤ handle_count store h.id cidr + held_count (written store (Put r (record_of.Handle h))) h.id cidr + owed h.id cidr after
    own =
        let new_count = ap (count_in_row h.id cidr) (put-own store r (record_of.Handle h)) in
        let block_same = ap (held_in_row h.id) (put-other store r (record_of.Handle h) (key.Block cidr) (λ e. cc e)) in
        let most = here cidr in
        omega arith

handle-gone : (store : Datastore) (r : ℕ) (gone : List ℕ) (label after : CallLabel)
    → ((cidr : CidrValue) → owed gone cidr label ≤ handle_count store gone cidr + owed gone cidr after)
    → ((id : List ℕ) (cidr : CidrValue) → gone ≢ id → owed id cidr label ≤ owed id cidr after)
    → CountsSink store (written store (Remove r (key.Handle gone))) label after
handle-gone store r gone label after here there id cidr = elim (text_cases gone id) [
  | inl (t, same) ↦
      let P : List ℕ → Type 0 = λ x. handle_count (written store (Remove r (key.Handle gone))) x cidr + held_count store x cidr + owed x cidr label ≤ handle_count store x cidr + held_count (written store (Remove r (key.Handle gone))) x cidr + owed x cidr after in
      subst P same own
  | inr (f, differ) ↦
      let block_same = ap (held_in_row id) (row_of-without_row-other (key.Block cidr) (key.Handle gone) store.rows (λ e. cc e)) in
      let handle_same = ap (count_in_row id cidr) (row_of-without_row-other (key.Handle id) (key.Handle gone) store.rows (λ e. differ (cc e))) in
      let more = there id cidr differ in
      omega arith
]
  where
    own : handle_count (written store (Remove r (key.Handle gone))) gone cidr + held_count store gone cidr + owed gone cidr label ≤ handle_count store gone cidr + held_count (written store (Remove r (key.Handle gone))) gone cidr + owed gone cidr after
    own =
        let none = ap (count_in_row gone cidr) (row_of-without_row (key.Handle gone) store.rows) in
        let block_same = ap (held_in_row gone) (row_of-without_row-other (key.Block cidr) (key.Handle gone) store.rows (λ e. cc e)) in
        let most = here cidr in
        omega arith

-- ---- counts that change

raise-sinks : (store : Datastore) (r : ℕ) (h : handle.HandleValue) (id : List ℕ) (cidr : CidrValue) → h.id ≡ id → ((c : CidrValue) → handle_count store id c ≡ count_of h c) → CountsSink store (written store (Put r (record_of.Handle (with_raised_count h cidr 1)))) idle (owing (credit_of id cidr 1))
raise-sinks store r h id cidr same counts =
    handle-sink store r (with_raised_count h cidr 1) idle (owing (credit_of id cidr 1)) here (λ other c differ. omega arith)
  where
    there : (c : CidrValue) → count_of (with_raised_count h cidr 1) c ≤ handle_count store id c + owed id c (owing (credit_of id cidr 1))
    there c = elim (cidr_cases cidr c) [
      | inl (t, is) ↦
          let P : CidrValue → Type 0 = λ x. count_of (with_raised_count h cidr 1) x ≤ handle_count store id x + owed id x (owing (credit_of id cidr 1)) in
          let own = owed-own (credit_of id cidr 1) in
          let more = raised-here h cidr in
          let old = counts cidr in
          let here : P cidr = omega arith in
          subst P is here
      | inr (f, differ) ↦
          let kept = count-elsewhere h.counts cidr c (count_of h cidr + 1) differ in
          let old = counts c in
          omega arith
    ]

    here : (c : CidrValue) → count_of (with_raised_count h cidr 1) c + owed h.id c idle ≤ handle_count store h.id c + owed h.id c (owing (credit_of id cidr 1))
    here c =
        let P : List ℕ → Type 0 = λ x. count_of (with_raised_count h cidr 1) c + owed x c idle ≤ handle_count store x c + owed x c (owing (credit_of id cidr 1)) in
        let k = there c in
        let at_id : P id = omega arith in
        subst P (sym same) at_id

handle-raises : (store : Datastore) (r : ℕ) (id : List ℕ) (cidr : CidrValue) (h : handle.HandleValue) → IsHandle store id h → CountsSink store (written store (Put r (record_of.Handle (with_raised_count h cidr 1)))) idle (owing (credit_of id cidr 1))
handle-raises store r id cidr h (inl (none, is)) =
    subst (λ (x : handle.HandleValue). CountsSink store (written store (Put r (record_of.Handle (with_raised_count x cidr 1)))) idle (owing (credit_of id cidr 1))) (sym is)
    (raise-sinks store r (content id []) id cidr refl (λ c. ap (count_in_row id c) none))
handle-raises store r id cidr h (inr (revision, there, same)) = raise-sinks store r h id cidr same (λ c. ap (count_in_row id c) there)

-- what is owed elsewhere is nothing
elsewhere : (credit : Credit) (id : List ℕ) (cidr : CidrValue) (after : CallLabel) → credit.handle ≢ id → owed id cidr (owing credit) ≤ owed id cidr after
elsewhere credit id cidr after differ = let none = owed-other_id credit id cidr differ in omega arith

-- the count covers what is owed
abbrev pub CoversOwed : Datastore → CallLabel → Type 0
CoversOwed store label = (id : List ℕ) (cidr : CidrValue) → owed id cidr label ≤ handle_count store id cidr

lower-sinks : (store : Datastore) (r : ℕ) (h : handle.HandleValue) (credit : Credit) → AreCounts h.counts → h.id ≡ credit.handle → ((c : CidrValue) → handle_count store credit.handle c ≡ count_of h c) → CoversOwed store (owing credit)
    → CountsSink store (written store (Put r (record_of.Handle (with_lowered_count h credit.block credit.amount)))) (owing credit) idle
lower-sinks store r h credit sound same counts covers =
    handle-sink store r (with_lowered_count h credit.block credit.amount) (owing credit) idle here (λ other c differ. elsewhere credit other c idle (λ e. differ (same ∙ e)))
  where
    there : (c : CidrValue) → count_of (with_lowered_count h credit.block credit.amount) c + owed credit.handle c (owing credit) ≤ handle_count store credit.handle c
    there c = elim (cidr_cases credit.block c) [
      | inl (t, is) ↦
          let P : CidrValue → Type 0 = λ x. count_of (with_lowered_count h credit.block credit.amount) x + owed credit.handle x (owing credit) ≤ handle_count store credit.handle x in
          let own = owed-own credit in
          let fewer = count_in-here h.counts sound credit.block (count_of h credit.block - credit.amount) in
          let covered = covers credit.handle credit.block in
          let old = counts credit.block in
          let here : P credit.block = omega arith in
          subst P is here
      | inr (f, differ) ↦
          let kept = count-elsewhere h.counts credit.block c (count_of h credit.block - credit.amount) differ in
          let none = owed-other_block credit credit.handle c differ in
          let old = counts c in
          omega arith
    ]

    here : (c : CidrValue) → count_of (with_lowered_count h credit.block credit.amount) c + owed h.id c (owing credit) ≤ handle_count store h.id c + owed h.id c idle
    here c =
        let P : List ℕ → Type 0 = λ x. count_of (with_lowered_count h credit.block credit.amount) c + owed x c (owing credit) ≤ handle_count store x c + owed x c idle in
        let k = there c in
        let at_id : P credit.handle = omega arith in
        subst P (sym same) at_id

lower-gone : (store : Datastore) (r : ℕ) (h : handle.HandleValue) (credit : Credit) → h.id ≡ credit.handle → CoversOwed store (owing credit) → CountsSink store (written store (Remove r (key.Handle h.id))) (owing credit) idle
lower-gone store r h credit same covers =
    handle-gone store r h.id (owing credit) idle (λ c. let k = covers h.id c in omega arith) (λ other c differ. elsewhere credit other c idle (λ e. differ (same ∙ e)))

-- ---- addresses that are freed or assigned

free-sinks : (store : Datastore) (r : ℕ) (id : List ℕ) (cidr : CidrValue) (picks : Allocation → Bool) (more : ℕ) (b : block.BlockValue) → ((a : Allocation) → picks a ≡ true → is_owned id a ≡ true) → count_by picks b.allocations ≡ suc more → b.cidr ≡ cidr
    → ((other : List ℕ) → held_count store other cidr ≡ count_by (is_owned other) b.allocations) → CountsSink store (written store (Put r (record_of.Block (block_without picks (next_block b))))) idle (owing (credit_of id cidr (suc more)))
free-sinks store r id cidr picks more b own amount same held =
    block-sink store r (block_without picks (next_block b)) idle (owing (credit_of id cidr (suc more))) here (λ other c differ. omega arith)
  where
    there : (other : List ℕ) → held_count store other cidr ≤ count_by (is_owned other) (block_without picks (next_block b)).allocations + owed other cidr (owing (credit_of id cidr (suc more)))
    there other = elim (text_cases id other) [
      | inl (t, is) ↦
          let P : List ℕ → Type 0 = λ x. held_count store x cidr ≤ count_by (is_owned x) (block_without picks (next_block b)).allocations + owed x cidr (owing (credit_of id cidr (suc more))) in
          let gone = held-filter id picks own b.allocations in
          let own' = owed-own (credit_of id cidr (suc more)) in
          let before = held id in
          let at_id : P id = omega arith in
          subst P is at_id
      | inr (f, differ) ↦
          let kept = kept-others id other picks own differ b.allocations in
          let before = held other in
          omega arith
    ]

    here : (other : List ℕ) → held_count store other b.cidr + owed other b.cidr idle ≤ count_by (is_owned other) (block_without picks (next_block b)).allocations + owed other b.cidr (owing (credit_of id cidr (suc more)))
    here other =
        let P : CidrValue → Type 0 = λ x. held_count store other x + owed other x idle ≤ count_by (is_owned other) (block_without picks (next_block b)).allocations + owed other x (owing (credit_of id cidr (suc more))) in
        let k = there other in
        let at_cidr : P cidr = omega arith in
        subst P (sym same) at_cidr

assign-sinks : (store : Datastore) (r : ℕ) (attributes : Attributes) (b : block.BlockValue) (ordinal : ℕ) → ((id : List ℕ) → held_count store id b.cidr ≡ count_by (is_owned id) b.allocations) → CountsSink store (written store (Put r (record_of.Block (block_with_ordinal (next_block b) ordinal attributes)))) (owing (credit_of attributes.handle b.cidr 1)) idle
assign-sinks store r attributes b ordinal held =
    block-sink store r (block_with_ordinal (next_block b) ordinal attributes) (owing (credit_of attributes.handle b.cidr 1)) idle here
    (λ id c differ. let none = owed-other_block (credit_of attributes.handle b.cidr 1) id c differ in omega arith)
  where
    here : (id : List ℕ) → held_count store id b.cidr + owed id b.cidr (owing (credit_of attributes.handle b.cidr 1)) ≤ count_by (is_owned id) (block_with_ordinal (next_block b) ordinal attributes).allocations + owed id b.cidr idle
    here id = elim (text_cases attributes.handle id) [
      | inl (t, same) ↦
          let P : List ℕ → Type 0 = λ x. held_count store x b.cidr + owed x b.cidr (owing (credit_of attributes.handle b.cidr 1)) ≤ count_by (is_owned x) (block_with_ordinal (next_block b) ordinal attributes).allocations + owed x b.cidr idle in
          let before = held attributes.handle in
          let own = owed-own (credit_of attributes.handle b.cidr 1) in
          let now = held-assigned b ordinal attributes attributes.handle in
          let t' : bytes_eq attributes.handle attributes.handle ≡ true = same_text attributes.handle in
          let at_own : P attributes.handle = omega (arith, rw t' at now) in
          subst P same at_own
      | inr (f, differ) ↦
          let before = held id in
          let none = owed-other_id (credit_of attributes.handle b.cidr 1) id b.cidr differ in
          let now = held-assigned b ordinal attributes id in
          omega (arith, rw f at now)
    ]

-- ---- all kinds

-- from and to which store and labels
as-is : (store next next' : Datastore) (label label' after after' : CallLabel) → next ≡ next' → label ≡ label' → after ≡ after' → CountsSink store next' label' after' → CountsSink store next label after
as-is store next next' label label' after after' a b c h =
    subst (λ (s : Datastore). CountsSink store s label after) (sym a)
    (subst (λ (l : CallLabel). CountsSink store next' l after) (sym b)
    (subst (λ (l : CallLabel). CountsSink store next' label' l) (sym c) h))

nothing-owed : (label after : CallLabel) → ((id : List ℕ) (cidr : CidrValue) → owed id cidr label ≡ 0) → OwesMore label after
nothing-owed label after none id cidr = let e = none id cidr in omega arith

-- the store stays, and what was owed is owed no more
abbrev pub GivesUpDebt : Datastore → Datastore → CallLabel → Type 0
GivesUpDebt store next after = (next ≡ store) × (after ≡ idle)

-- the count of the handle that is lowered covers what is owed, since the label owes it
covers-as : (store : Datastore) (label : CallLabel) (credit : Credit) → label ≡ owing credit → CoversOwed store label → CoversOwed store (owing credit)
covers-as store label credit is h = subst (λ (l : CallLabel). CoversOwed store l) is h

pub step-sinks : (known : Known) (store next : Datastore) (label after : CallLabel) → IsDatastore store → CoversOwed store label → Step known store next label after → CountsSink store next label after ⊎ GivesUpDebt store next after
step-sinks known store next label after sound covers (Idles a b) = inr (a, b)
step-sinks known store next label after sound covers (Owes credit a b c) = inl (as-is store next store label (owing credit) after (owing credit) a b c (stays-sink store (owing credit) (owing credit) (λ id cidr. omega arith)))
step-sinks known store next label after sound covers (Finds tie read kept state a b c d e f) = inl (as-is store next store label idle after _ a b c (stays-sink store idle (at_claiming tie read kept) (nothing-owed idle (at_claiming tie read kept) (λ id cidr. refl))))
step-sinks known store next label after sound covers (Starts tie read a b c d) = inl (as-is store next _ label idle after _ a b c (apart-sink store _ _ idle (at_claiming tie read (store.counter + 1)) tt (nothing-owed idle (at_claiming tie read (store.counter + 1)) (λ id cidr. refl))))
step-sinks known store next label after sound covers (Takes tie read kept a b c d e) = inl (as-is store next _ label _ after _ a b c (block-keeps store _ (taken tie.node tie.block read) (at_claiming tie read kept) (at_claimed tie kept) (taken-holds store tie.node tie.block read d) (nothing-owed (at_claiming tie read kept) (at_claimed tie kept) (λ id cidr. refl))))
step-sinks known store next label after sound covers (Confirms tie kept found a b c d) = inl (as-is store next _ label _ after idle a b c (apart-sink store _ _ (at_claimed tie kept) idle tt (nothing-owed (at_claimed tie kept) idle (λ id cidr. refl))))
step-sinks known store next label after sound covers (Marks tie revision found a b c d) = inl (as-is store next _ label idle after idle a b c (apart-sink store _ _ idle idle tt (nothing-owed idle idle (λ id cidr. refl))))
step-sinks known store next label after sound covers (Looks tie read mark a b c d e) = inl (as-is store next store label idle after _ a b c (stays-sink store idle (at_releasing tie read mark) (nothing-owed idle (at_releasing tie read mark) (λ id cidr. refl))))
step-sinks known store next label after sound covers (Bares tie read mark a b c d e) = inl (as-is store next _ label _ after _ a b c (block-keeps store _ (bared tie.node tie.block read) (at_releasing tie read mark) (at_released tie mark) (bared-holds store tie.node tie.block read d) (nothing-owed (at_releasing tie read mark) (at_released tie mark) (λ id cidr. refl))))
step-sinks known store next label after sound covers (Deletes tie mark found a b c d) = inl (as-is store next _ label _ after idle a b c (apart-gone store (store.counter + 1) (key.Affinity tie.node tie.block) (at_released tie mark) idle tt (nothing-owed (at_released tie mark) idle (λ id cidr. refl))))
step-sinks known store next label after sound covers (Raises id cidr h a b c d e f) = inl (as-is store next _ label idle after _ a b c (handle-raises store _ id cidr h d))
step-sinks known store next label after sound covers (Lowers credit h revision first rest a b c d e f) =
    inl (as-is store next _ label _ after idle a b c
    (lower-sinks store _ h credit (row-there store (key.Handle credit.handle) revision (record_of.Handle h) sound d).is_record.counts e (λ cidr. ap (count_in_row credit.handle cidr) d) (covers-as store label credit b covers)))
step-sinks known store next label after sound covers (LowersOut credit h revision a b c d e f) = inl (as-is store next _ label _ after idle a b c (lower-gone store (store.counter + 1) h credit e (covers-as store label credit b covers)))
step-sinks known store next label after sound covers (Frees what amount revision b s t u v w x y) = inl (as-is store next _ label idle after _ s t u (free-sinks store _ what.handle what.block what.picks amount b x y w (held-at store what.block revision b v)))
step-sinks known store next label after sound covers (Assigns attributes target a b c d e f) = inl (as-is store next _ label _ after idle a b c (assign-sinks store _ attributes target.block target.ordinal (held-at store target.block.cidr target.revision target.block d)))
step-sinks known store next label after sound covers (Changes request new a b c d e) =
    inl (as-is store next _ label idle after idle a b c
    (apart-sink store _ new idle idle (subst (λ (k : Key). IsApart k) (sym (key-changed request (reply_to_get (row_of (key_changed request) store.rows)) new d)) (changed-apart request)) (nothing-owed idle idle (λ id cidr. refl))))
