-- Each kind of step keeps the counts above what is held.
use Rattle.std.proofs.Common.{◌≡◌, ℕ, suc, Bool, ◌+◌, ◌-◌, ◌≤◌, inl, inr, true, List, [], Some, None, refl, sym, ap, ◌∙◌, subst, arith, bytes_eq}
use Rattle.std.specs.Prelude.{not}
use Rattle.std.specs.List.{count_by}
use Rattle.ipam_addr.specs.Shape.{CidrValue}
use Rattle.ipam_block.specs.declared.allocation.Allocation.{Allocation}
use Rattle.ipam_block.specs.declared.allocation.Attributes.{Attributes}
use Rattle.ipam_block.specs.Shape as block
use Rattle.ipam_block.specs.Operations.{is_owned, next_block, block_with_ordinal, block_without}
use Rattle.ipam_block.specs.HandleShape as handle
use Rattle.ipam_block.specs.HandleOperations.{content, count_of, count_in, with_raised_count, with_lowered_count}
use Rattle.ipam_records.specs.declared.key.Key.{Key}
use Rattle.ipam_records.specs.declared.key.Key.TheVariants as key
use Rattle.ipam_records.specs.declared.record.Record.TheVariants as record_of
use Rattle.ipam_records.specs.declared.call.Write.TheVariants.{Put, Remove}
use Rattle.ipam_records.specs.Datastore.{Datastore, reply_to_get, row_of, written}
use Rattle.ipam_records.specs.Label.{CallLabel, Credit, idle, owing}
use Rattle.ipam_model.specs.declared.request.Admin.{Admin}
use Rattle.ipam_model.specs.declared.request.Admin.TheVariants as change_of
use Rattle.ipam_model.specs.Admin.{key_changed}
use Rattle.ipam_model.specs.Affinities.{BlockRead}
use Rattle.ipam_model.specs.AffinityLaw.{HasAt}
use Rattle.ipam_model.specs.CountLaw.{count_in_row, handle_count, held_in_row, held_count}
use Rattle.ipam_model.specs.Counting.{credit_of}
use Rattle.ipam_laws.proofs.Lift.{Known}
use Rattle.ipam_laws.proofs.Steps.{IsAsRead, IsHandle, taken, bared, at_claiming, at_claimed, at_releasing, at_released, Step, Idles, Owes, Finds, Starts, Takes, Confirms, Marks, Looks, Bares, Deletes, Raises, Lowers, LowersOut, Frees, Assigns, Changes}
use Rattle.ipam_laws.proofs.RequestSteps.{key-changed}
use Rattle.ipam_laws.proofs.CountLemmas.{cidr_cases, text_cases, same_text, raised-here, lowered-here, count-elsewhere, held-assigned, held-filter, held-filter_le}
use Rattle.ipam_laws.proofs.CountSteps.{owed, CountsGrow, OwesLess, IsApart, stays-grow, block-grow, handle-grow, handle-remove, apart-grow, apart-remove, idle-less, itself-less, owed-own, owed-other_id, owed-other_block}

-- ---- counts that change

raise-does : (store : Datastore) (r : ℕ) (h : handle.HandleValue) (id : List ℕ) (cidr : CidrValue) → h.id ≡ id → ((c : CidrValue) → handle_count store id c ≡ count_of h c) → CountsGrow store (written store (Put r (record_of.Handle (with_raised_count h cidr 1)))) idle (owing (credit_of id cidr 1))
raise-does store r h id cidr same counts =
    handle-grow store r (with_raised_count h cidr 1) idle (owing (credit_of id cidr 1)) here
    (λ other c differ. let e = owed-other_id (credit_of id cidr 1) other c (λ f. differ (same ∙ f)) in omega arith)
  where
    there : (c : CidrValue) → owed id c (owing (credit_of id cidr 1)) + handle_count store id c ≤ count_of (with_raised_count h cidr 1) c
    there c = elim (cidr_cases cidr c) [
      | inl (t, is) ↦
          let P : CidrValue → Type 0 = λ x. owed id x (owing (credit_of id cidr 1)) + handle_count store id x ≤ count_of (with_raised_count h cidr 1) x in
          let own = owed-own (credit_of id cidr 1) in
          let more = raised-here h cidr in
          let old = counts cidr in
          let here : P cidr = omega arith in
          subst P is here
      | inr (f, differ) ↦
          let none = owed-other_block (credit_of id cidr 1) id c differ in
          let kept = count-elsewhere h.counts cidr c (count_of h cidr + 1) differ in
          let old = counts c in
          omega arith
    ]

    here : (c : CidrValue) → owed h.id c (owing (credit_of id cidr 1)) + handle_count store h.id c ≤ owed h.id c idle + count_of (with_raised_count h cidr 1) c
    here c =
        let P : List ℕ → Type 0 = λ x. owed x c (owing (credit_of id cidr 1)) + handle_count store x c ≤ owed x c idle + count_of (with_raised_count h cidr 1) c in
        let k = there c in
        let at_id : P id = omega arith in
        subst P (sym same) at_id

lower-update : (store : Datastore) (r : ℕ) (h : handle.HandleValue) (credit : Credit) → h.id ≡ credit.handle → ((c : CidrValue) → handle_count store credit.handle c ≡ count_of h c) → CountsGrow store (written store (Put r (record_of.Handle (with_lowered_count h credit.block credit.amount)))) (owing credit) idle
lower-update store r h credit same counts =
    handle-grow store r (with_lowered_count h credit.block credit.amount) (owing credit) idle here (λ other c differ. omega arith)
  where
    there : (c : CidrValue) → handle_count store credit.handle c ≤ owed credit.handle c (owing credit) + count_of (with_lowered_count h credit.block credit.amount) c
    there c = elim (cidr_cases credit.block c) [
      | inl (t, is) ↦
          let P : CidrValue → Type 0 = λ x. handle_count store credit.handle x ≤ owed credit.handle x (owing credit) + count_of (with_lowered_count h credit.block credit.amount) x in
          let own = owed-own credit in
          let fewer = lowered-here h credit.block credit.amount in
          let old = counts credit.block in
          let here : P credit.block = omega arith in
          subst P is here
      | inr (f, differ) ↦
          let kept = count-elsewhere h.counts credit.block c (count_of h credit.block - credit.amount) differ in
          let old = counts c in
          omega arith
    ]

    here : (c : CidrValue) → owed h.id c idle + handle_count store h.id c ≤ owed h.id c (owing credit) + count_of (with_lowered_count h credit.block credit.amount) c
    here c =
        let P : List ℕ → Type 0 = λ x. owed x c idle + handle_count store x c ≤ owed x c (owing credit) + count_of (with_lowered_count h credit.block credit.amount) c in
        let k = there c in
        let at_id : P credit.handle = omega arith in
        subst P (sym same) at_id

lower-delete : (store : Datastore) (r : ℕ) (h : handle.HandleValue) (credit : Credit) → h.id ≡ credit.handle → (with_lowered_count h credit.block credit.amount).counts ≡ [] → ((c : CidrValue) → handle_count store credit.handle c ≡ count_of h c) → CountsGrow store (written store (Remove r (key.Handle h.id))) (owing credit) idle
lower-delete store r h credit same empty counts =
    handle-remove store r h.id (owing credit) idle here (λ other c differ. omega arith)
  where
    there : (c : CidrValue) → handle_count store credit.handle c ≤ owed credit.handle c (owing credit)
    there c = elim (cidr_cases credit.block c) [
      | inl (t, is) ↦
          let P : CidrValue → Type 0 = λ x. handle_count store credit.handle x ≤ owed credit.handle x (owing credit) in
          let own = owed-own credit in
          let fewer = lowered-here h credit.block credit.amount in
          let none = ap (λ l. count_in l credit.block) empty in
          let old = counts credit.block in
          let here : P credit.block = omega arith in
          subst P is here
      | inr (f, differ) ↦
          let kept = count-elsewhere h.counts credit.block c (count_of h credit.block - credit.amount) differ in
          let none = ap (λ l. count_in l c) empty in
          let old = counts c in
          omega arith
    ]

    here : (c : CidrValue) → owed h.id c idle + handle_count store h.id c ≤ owed h.id c (owing credit)
    here c =
        let P : List ℕ → Type 0 = λ x. owed x c idle + handle_count store x c ≤ owed x c (owing credit) in
        let k = there c in
        let at_id : P credit.handle = omega arith in
        subst P (sym same) at_id

-- ---- labels that owe nothing

-- the label owes nothing
abbrev pub OwesNothing : CallLabel → Type 0
OwesNothing label = (id : List ℕ) (cidr : CidrValue) → owed id cidr label ≡ 0

nothing-less : (label after : CallLabel) → OwesNothing after → OwesLess label after
nothing-less label after none id cidr = let e = none id cidr in omega arith

nothing-stays : (store : Datastore) (label after : CallLabel) → OwesNothing after → CountsGrow store store label after
nothing-stays store label after none = stays-grow store label after (nothing-less label after none)

-- ---- a block that holds no more than it did

block-keeps : (store : Datastore) (r : ℕ) (b : block.BlockValue) (label after : CallLabel) → ((id : List ℕ) → count_by (is_owned id) b.allocations ≤ held_count store id b.cidr) → OwesNothing after → CountsGrow store (written store (Put r (record_of.Block b))) label after
block-keeps store r b label after less none =
    block-grow store r b label after
    (λ id. let k = less id in let e = none id b.cidr in omega arith)
    (λ id cidr differ. let e = none id cidr in omega arith)

-- ---- addresses that are freed or assigned

free-does : (store : Datastore) (r : ℕ) (id : List ℕ) (cidr : CidrValue) (picks : Allocation → Bool) (more' : ℕ) (b : block.BlockValue) → ((a : Allocation) → picks a ≡ true → is_owned id a ≡ true) → count_by picks b.allocations ≡ suc more' → b.cidr ≡ cidr → ((other : List ℕ) → held_count store other cidr ≡ count_by (is_owned other) b.allocations) → CountsGrow store (written store (Put r (record_of.Block (block_without picks (next_block b))))) idle (owing (credit_of id cidr (suc more')))
free-does store r id cidr picks more' b own amount same held =
    block-grow store r (block_without picks (next_block b)) idle (owing (credit_of id cidr (suc more'))) here
    (λ other c differ. let e = owed-other_block (credit_of id cidr (suc more')) other c (λ f. differ (same ∙ f)) in omega arith)
  where
    there : (other : List ℕ) → count_by (is_owned other) (block_without picks (next_block b)).allocations + owed other cidr (owing (credit_of id cidr (suc more'))) ≤ held_count store other cidr
    there other = elim (text_cases id other) [
      | inl (t, is) ↦
          let P : List ℕ → Type 0 = λ x. count_by (is_owned x) (block_without picks (next_block b)).allocations + owed x cidr (owing (credit_of id cidr (suc more'))) ≤ held_count store x cidr in
          let gone = held-filter id picks own b.allocations in
          let own' = owed-own (credit_of id cidr (suc more')) in
          let before = held id in
          let at_id : P id = omega arith in
          subst P is at_id
      | inr (f, differ) ↦
          let fewer = held-filter_le other (λ a. not (picks a)) b.allocations in
          let none = owed-other_id (credit_of id cidr (suc more')) other cidr differ in
          let before = held other in
          omega arith
    ]

    here : (other : List ℕ) → count_by (is_owned other) (block_without picks (next_block b)).allocations + owed other b.cidr (owing (credit_of id cidr (suc more'))) ≤ held_count store other b.cidr + owed other b.cidr idle
    here other =
        let P : CidrValue → Type 0 = λ x. count_by (is_owned other) (block_without picks (next_block b)).allocations + owed other x (owing (credit_of id cidr (suc more'))) ≤ held_count store other x + owed other x idle in
        let k = there other in
        let at_cidr : P cidr = omega arith in
        subst P (sym same) at_cidr

assign-does : (store : Datastore) (r : ℕ) (attributes : Attributes) (b : block.BlockValue) (ordinal : ℕ) → ((id : List ℕ) → held_count store id b.cidr ≡ count_by (is_owned id) b.allocations) → CountsGrow store (written store (Put r (record_of.Block (block_with_ordinal (next_block b) ordinal attributes)))) (owing (credit_of attributes.handle b.cidr 1)) idle
assign-does store r attributes b ordinal held =
    block-grow store r (block_with_ordinal (next_block b) ordinal attributes) (owing (credit_of attributes.handle b.cidr 1)) idle here (λ id c differ. omega arith)
  where
    here : (id : List ℕ) → count_by (is_owned id) (block_with_ordinal (next_block b) ordinal attributes).allocations + owed id b.cidr idle ≤ held_count store id b.cidr + owed id b.cidr (owing (credit_of attributes.handle b.cidr 1))
    here id = elim (text_cases attributes.handle id) [
      | inl (t, same) ↦
          let P : List ℕ → Type 0 = λ x. count_by (is_owned x) (block_with_ordinal (next_block b) ordinal attributes).allocations + owed x b.cidr idle ≤ held_count store x b.cidr + owed x b.cidr (owing (credit_of attributes.handle b.cidr 1)) in
          let before = held attributes.handle in
          let own = owed-own (credit_of attributes.handle b.cidr 1) in
          let now = held-assigned b ordinal attributes attributes.handle in
          let t' : bytes_eq attributes.handle attributes.handle ≡ true = same_text attributes.handle in
          let at_own : P attributes.handle = omega (arith, rw t' at now) in
          subst P same at_own
      | inr (f, differ) ↦
          let before = held id in
          let now = held-assigned b ordinal attributes id in
          omega (arith, rw f at now)
    ]

-- ---- blocks that hold what they held

-- what is held in a block that is there
pub held-at : (store : Datastore) (cidr : CidrValue) (revision : ℕ) (b : block.BlockValue) → HasAt store (key.Block cidr) revision (record_of.Block b) → (id : List ℕ) → held_count store id cidr ≡ count_by (is_owned id) b.allocations
held-at store cidr revision b there id = ap (held_in_row id) there

-- a block as it was read holds what is held
as_read-held : (store : Datastore) (cidr : CidrValue) (found : ℕ × block.BlockValue) → IsAsRead store cidr (Some found) → (id : List ℕ) → count_by (is_owned id) found.1.allocations ≤ held_count store id found.1.cidr
as_read-held store cidr found h id =
    let P : CidrValue → Type 0 = λ x. count_by (is_owned id) found.1.allocations ≤ held_count store id x in
    let e = held-at store cidr found.0 found.1 h.1 id in
    let there : P cidr = omega arith in
    subst P (sym h.0) there

taken-held : (store : Datastore) (node : List ℕ) (cidr : CidrValue) (read : BlockRead) → IsAsRead store cidr read → (id : List ℕ) → count_by (is_owned id) (taken node cidr read).allocations ≤ held_count store id (taken node cidr read).cidr
taken-held store node cidr None h id = omega arith
taken-held store node cidr (Some found) h id = as_read-held store cidr found h id

bared-held : (store : Datastore) (node : List ℕ) (cidr : CidrValue) (read : BlockRead) → IsAsRead store cidr read → (id : List ℕ) → count_by (is_owned id) (bared node cidr read).allocations ≤ held_count store id (bared node cidr read).cidr
bared-held store node cidr None h id = omega arith
bared-held store node cidr (Some found) h id = as_read-held store cidr found h id

-- ---- all kinds

-- an operator's changes are of neither blocks nor handles
pub changed-apart : (request : Admin) → IsApart (key_changed request)
changed-apart (change_of.Pool pool) = tt
changed-apart (change_of.Disable name disabled) = tt
changed-apart (change_of.Reserve new) = tt
changed-apart (change_of.Unreserve name) = tt
changed-apart (change_of.Config config) = tt

handle-raises : (store : Datastore) (r : ℕ) (id : List ℕ) (cidr : CidrValue) (h : handle.HandleValue) → IsHandle store id h → CountsGrow store (written store (Put r (record_of.Handle (with_raised_count h cidr 1)))) idle (owing (credit_of id cidr 1))
handle-raises store r id cidr h (inl (none, is)) =
    subst (λ (x : handle.HandleValue). CountsGrow store (written store (Put r (record_of.Handle (with_raised_count x cidr 1)))) idle (owing (credit_of id cidr 1))) (sym is)
    (raise-does store r (content id []) id cidr refl (λ c. ap (count_in_row id c) none))
handle-raises store r id cidr h (inr (revision, there, same)) = raise-does store r h id cidr same (λ c. ap (count_in_row id c) there)

-- from and to which store and labels
as-is : (store next next' : Datastore) (label label' after after' : CallLabel) → next ≡ next' → label ≡ label' → after ≡ after' → CountsGrow store next' label' after' → CountsGrow store next label after
as-is store next next' label label' after after' a b c h =
    subst (λ (s : Datastore). CountsGrow store s label after) (sym a)
    (subst (λ (l : CallLabel). CountsGrow store next' l after) (sym b)
    (subst (λ (l : CallLabel). CountsGrow store next' label' l) (sym c) h))

none-less : (label after : CallLabel) → OwesNothing after → OwesLess label after
none-less label after none id cidr = let e = none id cidr in omega arith

pub step-counts : (known : Known) (store next : Datastore) (label after : CallLabel) → Step known store next label after → CountsGrow store next label after
step-counts known store next label after (Idles a b) = as-is store next store label label after idle a refl b (stays-grow store label idle (idle-less label))
step-counts known store next label after (Owes credit a b c) = as-is store next store label (owing credit) after (owing credit) a b c (stays-grow store (owing credit) (owing credit) (itself-less (owing credit)))
step-counts known store next label after (Finds tie read kept state a b c d e f) = as-is store next store label idle after _ a b c (nothing-stays store idle (at_claiming tie read kept) (λ id cidr. refl))
step-counts known store next label after (Starts tie read a b c d) = as-is store next _ label idle after _ a b c (apart-grow store _ _ idle (at_claiming tie read (store.counter + 1)) tt (none-less idle (at_claiming tie read (store.counter + 1)) (λ id cidr. refl)))
step-counts known store next label after (Takes tie read kept a b c d e) = as-is store next _ label _ after _ a b c (block-keeps store _ (taken tie.node tie.block read) (at_claiming tie read kept) (at_claimed tie kept) (taken-held store tie.node tie.block read d) (λ id cidr. refl))
step-counts known store next label after (Confirms tie kept found a b c d) = as-is store next _ label _ after idle a b c (apart-grow store _ _ (at_claimed tie kept) idle tt (idle-less (at_claimed tie kept)))
step-counts known store next label after (Marks tie revision found a b c d) = as-is store next _ label idle after idle a b c (apart-grow store _ _ idle idle tt (idle-less idle))
step-counts known store next label after (Looks tie read mark a b c d e) = as-is store next store label idle after _ a b c (nothing-stays store idle (at_releasing tie read mark) (λ id cidr. refl))
step-counts known store next label after (Bares tie read mark a b c d e) = as-is store next _ label _ after _ a b c (block-keeps store _ (bared tie.node tie.block read) (at_releasing tie read mark) (at_released tie mark) (bared-held store tie.node tie.block read d) (λ id cidr. refl))
step-counts known store next label after (Deletes tie mark found a b c d) = as-is store next _ label _ after idle a b c (apart-remove store (store.counter + 1) (key.Affinity tie.node tie.block) (at_released tie mark) idle tt (idle-less (at_released tie mark)))
step-counts known store next label after (Raises id cidr h a b c d e f) = as-is store next _ label idle after _ a b c (handle-raises store _ id cidr h d)
step-counts known store next label after (Lowers credit h revision first rest a b c d e f) = as-is store next _ label _ after idle a b c (lower-update store _ h credit e (λ cidr. ap (count_in_row credit.handle cidr) d))
step-counts known store next label after (LowersOut credit h revision a b c d e f) = as-is store next _ label _ after idle a b c (lower-delete store (store.counter + 1) h credit e f (λ cidr. ap (count_in_row credit.handle cidr) d))
step-counts known store next label after (Frees what amount revision b s t u v w x y) = as-is store next _ label idle after _ s t u (free-does store _ what.handle what.block what.picks amount b x y w (held-at store what.block revision b v))
step-counts known store next label after (Assigns attributes target a b c d e f) = as-is store next _ label _ after idle a b c (assign-does store _ attributes target.block target.ordinal (held-at store target.block.cidr target.revision target.block d))
step-counts known store next label after (Changes request new a b c d e) = as-is store next _ label idle after idle a b c (apart-grow store _ new idle idle (subst (λ (k : Key). IsApart k) (sym (key-changed request (reply_to_get (row_of (key_changed request) store.rows)) new d)) (changed-apart request)) (idle-less idle))
