-- What a write makes of counts and of what is held.
use Rattle.std.proofs.Common.{◌≡◌, ◌≢◌, ℕ, zero, suc, ◌+◌, ◌-◌, ◌≤◌, ◌⊎◌, inl, inr, Bool, true, false, cond, List, [], ◌∷◌, Some, unwrap_or, refl, sym, ap, ◌∙◌, subst, arith, bytes_eq}
use Rattle.std.specs.Prelude.{nat_lt, not}
use Rattle.std.specs.List.{count_by, filter}
use Rattle.std.specs.Map.{lookup, remove_entry}
use Rattle.std.specs.BTreeMap.{is_at, insert_entry}
use Rattle.std.specs.Ordering.{is_eq}
use Rattle.std.specs.Cmp.{Equal-is, tied_itself}
use Rattle.std.proofs.lemmas.Bool.{cases_Bool}
use Rattle.std.proofs.lemmas.List.Sums.{sum_by-insert, sum_by-cons}
use Rattle.std.proofs.lemmas.Slice.Eq.{bytes_eq-Decides}
use Rattle.ipam_addr.specs.Shape.{CidrValue}
use Rattle.ipam_block.specs.declared.allocation.Allocation.{Allocation}
use Rattle.ipam_block.specs.declared.allocation.Attributes.{Attributes}
use Rattle.ipam_block.specs.Shape as block
use Rattle.ipam_block.specs.Operations.{is_owned, block_with_ordinal, next_block}
use Rattle.ipam_block.specs.HandleShape as handle
use Rattle.ipam_block.specs.HandleOperations.{count_in, count_of, counts_with, with_raised_count, with_lowered_count}
use Rattle.ipam_block.specs.Order.{cidr_cmp}
use Rattle.ipam_block.proofs.Order.{cidr_cmp_total, cidr_cmp_exact}
use Rattle.ipam_block.proofs.Entries.{lookup-insert_entry}
use Rattle.ipam_block.proofs.Reading.{counts_with-some}
use Rattle.ipam_model.specs.Usable.{is_same_cidr}

-- ---- equal and other ranges and texts

pub cidr_cases : (r s : CidrValue) → ((is_same_cidr r s ≡ true) × (r ≡ s)) ⊎ ((is_same_cidr r s ≡ false) × (r ≢ s))
cidr_cases r s = elim (cases_Bool (is_same_cidr r s)) [
  | inl same ↦ inl (same, cidr_cmp_exact r s ((Equal-is (cidr_cmp r s)).0 same))
  | inr differ ↦ inr (
    differ,
    λ e.
        let itself : is_same_cidr r s ≡ true = subst (λ (x : CidrValue). is_same_cidr r x ≡ true) e (ap is_eq (tied_itself cidr_cmp_total r)) in cc,
  )
]

pub text_cases : (xs ys : List ℕ) → ((bytes_eq xs ys ≡ true) × (xs ≡ ys)) ⊎ ((bytes_eq xs ys ≡ false) × (xs ≢ ys))
text_cases xs ys = elim (cases_Bool (bytes_eq xs ys)) [
  | inl same ↦ inl (same, (bytes_eq-Decides xs ys).0 same)
  | inr differ ↦ inr (differ, λ e. let itself : bytes_eq xs ys ≡ true = (bytes_eq-Decides xs ys).1 e in cc)
]

pub same_text : (xs : List ℕ) → bytes_eq xs xs ≡ true
same_text xs = (bytes_eq-Decides xs xs).1 refl

pub same_itself : (r : CidrValue) → is_same_cidr r r ≡ true
same_itself r = ap is_eq (tied_itself cidr_cmp_total r)

-- ---- counts

-- an entry of another block that goes changes no count
remove-next : (es : List (CidrValue × ℕ)) (e : CidrValue × ℕ) (block q : CidrValue) → block ≢ q → lookup (is_at (cidr_cmp q)) (remove_entry (is_at (cidr_cmp block)) es) ≡ lookup (is_at (cidr_cmp q)) es → (b : Bool) → is_at (cidr_cmp block) e.0 ≡ b → lookup (is_at (cidr_cmp q)) (cond b es (e ∷ remove_entry (is_at (cidr_cmp block)) es)) ≡ cond (is_at (cidr_cmp q) e.0) (Some e.1) (lookup (is_at (cidr_cmp q)) es)
remove-next es e block q other further true at = rw not_q refl
  where
    not_q : is_at (cidr_cmp q) e.0 ≡ false
    not_q = elim (cidr_cases q e.0) [
      | inl (t, same) ↦ elim (cidr_cases block e.0) [
        | inl (u, same') ↦ absurd (other (same' ∙ sym same))
        | inr (u, differ) ↦ cc
      ]
      | inr (f, differ) ↦ f
    ]
remove-next es e block q other further false at = ap (λ o. cond (is_at (cidr_cmp q) e.0) (Some e.1) o) further

remove-elsewhere : (es : List (CidrValue × ℕ)) (block q : CidrValue) → block ≢ q → lookup (is_at (cidr_cmp q)) (remove_entry (is_at (cidr_cmp block)) es) ≡ lookup (is_at (cidr_cmp q)) es
remove-elsewhere [] block q other = refl
remove-elsewhere (e ∷ es) block q other = remove-next es e block q other (remove-elsewhere es block q other) (is_at (cidr_cmp block) e.0) refl

inserted : (es : List (CidrValue × ℕ)) (block q : CidrValue) (n : ℕ) → lookup (is_at (cidr_cmp q)) (insert_entry cidr_cmp es block n) ≡ cond (is_eq (cidr_cmp q block)) (Some n) (lookup (is_at (cidr_cmp q)) es)
inserted es block q n = lookup-insert_entry cidr_cmp_total block n q es

pub count-elsewhere : (es : List (CidrValue × ℕ)) (block q : CidrValue) (n : ℕ) → block ≢ q → count_in (counts_with es block n) q ≡ count_in es q
count-elsewhere es block q zero other = ap (λ o. unwrap_or o 0) (remove-elsewhere es block q other)
count-elsewhere es block q (suc n) other =
    ap (λ l. count_in l q) (counts_with-some es block (suc n) (omega arith))
    ∙ (ap (λ o. unwrap_or o 0) (inserted es block q (suc n)) ∙ kept)
  where
    kept : unwrap_or (cond (is_eq (cidr_cmp q block)) (Some (suc n)) (lookup (is_at (cidr_cmp q)) es)) 0 ≡ count_in es q
    kept = elim (cidr_cases q block) [
      | inl (t, same) ↦ absurd (other (sym same))
      | inr (f, differ) ↦ rw f refl
    ]

pub count-here : (es : List (CidrValue × ℕ)) (block : CidrValue) (n : ℕ) → count_in (counts_with es block (suc n)) block ≡ suc n
count-here es block n =
    ap (λ l. count_in l block) (counts_with-some es block (suc n) (omega arith))
    ∙ (ap (λ o. unwrap_or o 0) (inserted es block block (suc n)) ∙ put)
  where
    put : unwrap_or (cond (is_eq (cidr_cmp block block)) (Some (suc n)) (lookup (is_at (cidr_cmp block)) es)) 0 ≡ suc n
    put = let t = same_itself block in rw t refl

-- one more, and nothing else
pub raised-here : (h : handle.HandleValue) (cidr : CidrValue) → count_of (with_raised_count h cidr 1) cidr ≡ count_of h cidr + 1
raised-here h cidr =
    let more : count_of h cidr + 1 ≡ suc (count_of h cidr) = omega arith in
    ap (λ n. count_in (counts_with h.counts cidr n) cidr) more ∙ (count-here h.counts cidr (count_of h cidr) ∙ sym more)

-- at most so many fewer
pub lowered-here : (h : handle.HandleValue) (cidr : CidrValue) (amount : ℕ) → count_of h cidr ≤ amount + count_of (with_lowered_count h cidr amount) cidr
lowered-here h cidr amount = from (count_of h cidr - amount) refl
  where
    from : (n : ℕ) → count_of h cidr - amount ≡ n → count_of h cidr ≤ amount + count_in (counts_with h.counts cidr n) cidr
    from zero e = omega arith
    from (suc n) e = let here = count-here h.counts cidr n in omega arith

-- ---- what is held

pub held-assigned : (b : block.BlockValue) (ordinal : ℕ) (attributes : Attributes) (id : List ℕ) → count_by (is_owned id) (block_with_ordinal (next_block b) ordinal attributes).allocations ≡ count_by (is_owned id) b.allocations + cond (bytes_eq attributes.handle id) 1 0
held-assigned b ordinal attributes id =
    sum_by-insert (λ a. cond (is_owned id a) 1 0) b.allocations (count_by (λ x. nat_lt x.ordinal ordinal) b.allocations)
    (record { ordinal = ordinal; attributes = attributes; stamp = b.sequence + 1 })

-- how many pass, one by one
tally : (Allocation → Bool) → List Allocation → ℕ
tally p [] = 0
tally p (a ∷ rest) = cond (p a) 1 0 + tally p rest

count-tally : (p : Allocation → Bool) (held : List Allocation) → count_by p held ≡ tally p held
unfolding tally
count-tally p [] = refl
count-tally p (a ∷ rest) = sum_by-cons (λ x. cond (p x) 1 0) a rest ∙ ap (λ n. cond (p a) 1 0 + n) (count-tally p rest)

tally-filter : (id : List ℕ) (picks : Allocation → Bool) → ((a : Allocation) → picks a ≡ true → is_owned id a ≡ true) → (held : List Allocation) → tally (is_owned id) (filter (λ a. not (picks a)) held) + tally picks held ≡ tally (is_owned id) held
unfolding tally
tally-filter id picks own [] = refl
tally-filter id picks own (a ∷ rest) = from (picks a) refl (tally-filter id picks own rest)
  where
    from : (b : Bool) → picks a ≡ b → tally (is_owned id) (filter (λ a. not (picks a)) rest) + tally picks rest ≡ tally (is_owned id) rest → tally (is_owned id) (cond (not b) (a ∷ filter (λ a. not (picks a)) rest) (filter (λ a. not (picks a)) rest)) + (cond b 1 0 + tally picks rest) ≡ cond (is_owned id a) 1 0 + tally (is_owned id) rest
    from true picked h = rw (own a picked) (omega arith)
    from false stays h = omega arith

tally-filter_le : (p keeps : Allocation → Bool) (held : List Allocation) → tally p (filter keeps held) ≤ tally p held
unfolding tally
tally-filter_le p keeps [] = omega arith
tally-filter_le p keeps (a ∷ rest) = from (keeps a) (tally-filter_le p keeps rest)
  where
    from : (b : Bool) → tally p (filter keeps rest) ≤ tally p rest → tally p (cond b (a ∷ filter keeps rest) (filter keeps rest)) ≤ cond (p a) 1 0 + tally p rest
    from true h = omega arith
    from false h = omega arith

-- those that are picked go, and they are the handle's own
pub held-filter : (id : List ℕ) (picks : Allocation → Bool) → ((a : Allocation) → picks a ≡ true → is_owned id a ≡ true) → (held : List Allocation) → count_by (is_owned id) (filter (λ a. not (picks a)) held) + count_by picks held ≡ count_by (is_owned id) held
held-filter id picks own held =
    let one = count-tally (is_owned id) (filter (λ a. not (picks a)) held) in
    let two = count-tally picks held in
    let three = count-tally (is_owned id) held in
    (λ i. one i + two i) ∙ (tally-filter id picks own held ∙ sym three)

-- other handles have no more than before
pub held-filter_le : (id : List ℕ) (keeps : Allocation → Bool) (held : List Allocation) → count_by (is_owned id) (filter keeps held) ≤ count_by (is_owned id) held
held-filter_le id keeps held =
    let less = tally-filter_le (is_owned id) keeps held in
    subst (λ (n : ℕ). n ≤ count_by (is_owned id) held) (sym (count-tally (is_owned id) (filter keeps held)))
    (subst (λ (n : ℕ). tally (is_owned id) (filter keeps held) ≤ n) (sym (count-tally (is_owned id) held)) less)

tally-kept : (p picks : Allocation → Bool) → ((a : Allocation) → picks a ≡ true → p a ≡ false) → (held : List Allocation) → tally p (filter (λ a. not (picks a)) held) ≡ tally p held
unfolding tally
tally-kept p picks none [] = refl
tally-kept p picks none (a ∷ rest) = from (picks a) refl (tally-kept p picks none rest)
  where
    from : (b : Bool) → picks a ≡ b → tally p (filter (λ a. not (picks a)) rest) ≡ tally p rest → tally p (cond (not b) (a ∷ filter (λ a. not (picks a)) rest) (filter (λ a. not (picks a)) rest)) ≡ cond (p a) 1 0 + tally p rest
    from true picked h = rw (none a picked) (omega arith)
    from false stays h = omega arith

-- another handle's addresses stay
pub kept-others : (id other : List ℕ) (picks : Allocation → Bool) → ((a : Allocation) → picks a ≡ true → is_owned id a ≡ true) → id ≢ other → (held : List Allocation) → count_by (is_owned other) (filter (λ a. not (picks a)) held) ≡ count_by (is_owned other) held
kept-others id other picks own differ held =
    count-tally (is_owned other) (filter (λ a. not (picks a)) held) ∙ tally-kept (is_owned other) picks not_theirs held ∙ sym (count-tally (is_owned other) held)
  where
    not_theirs : (a : Allocation) → picks a ≡ true → is_owned other a ≡ false
    not_theirs a picked = elim (text_cases a.attributes.handle other) [
      | inr (f, d) ↦ f
      | inl (t, same) ↦ elim (text_cases a.attributes.handle id) [
        | inl (u, mine) ↦ absurd (differ (sym mine ∙ same))
        | inr (g, d) ↦ let is = own a picked in absurd (cc (is, g))
      ]
    ]
