-- Lists under names: where the list of a node is, and what a write there changes.
use Rattle.std.proofs.Common.{◌≡◌, ℕ, zero, suc, ◌+◌, ◌<◌, ◌≤◌, List, [], ◌∷◌, length, get_or, set, cond, Bool, false, inl, inr, ap, sym, ◌∙◌, subst, arith, refl, bytes_eq}
use Rattle.std.proofs.lemmas.Bool.{cases_lt}
use Rattle.std.proofs.lemmas.List.{get_or-set_same, get_or-set_other, length-set}
use Rattle.std.proofs.Math.Seq.{map-set_same}
use Rattle.std.proofs.lemmas.List.Elements.{All-nil, All-set}
use Rattle.std.proofs.lemmas.List.Edits.{get_or-insert_at, get_or-insert_below, get_or-remove_below, get_or-remove_above, length-insert, length-remove}
use Rattle.std.specs.Ordering.{is_eq}
use Rattle.std.specs.Cmp.Lexicographic.{nat_list_cmp_total}
use Rattle.std.specs.Global.{Vec}
use Rattle.std.specs.List.{insert, remove}
use Rattle.std.specs.List.Sorted.{IsStrictlySortedBy}
use Rattle.std.proofs.lemmas.Slice.Eq.{bytes_eq-Decides}
use Rattle.ipam_addr.specs.Shape.{CidrValue}
use Rattle.ipam_records.specs.BlockLists.{name_cmp, named_lists, list_under, AreNamedLists}
use Rattle.ipam_records.proofs.BlockListLemmas.{Entry, plain, length-named, named-get, under-at, under-none, differs, under-gap, name_at, earlier, later, under-found}
use Rattle.ipam_store.specs.CidrLists.{CidrsAscend, with_cidr, without_cidr}
use Rattle.ipam_store.specs.Named.{ChangesList}
use Rattle.ipam_store.specs.NodeNames.{AreNodeLists, IsListAt, IsGapFor}
use Rattle.ipam_store.proofs.Ordered.{ascends-insert, ascends-remove}
use Rattle.ipam_store.proofs.Paging.{All-insert, All-remove}

-- ---- entries as plain data
pub named-set : (owned : List (Vec ℕ × Vec CidrValue)) (i : ℕ) (e : Vec ℕ × Vec CidrValue) → named_lists (set owned i e) ≡ set (named_lists owned) i (plain e)
named-set [] i e = refl
named-set (x ∷ xs) zero e = refl
named-set (x ∷ xs) (suc i) e = ap (λ ys. plain x ∷ ys) (named-set xs i e)

-- a list that keeps its blocks
pub named-same : (owned : List (Vec ℕ × Vec CidrValue)) (i : ℕ) (d : Vec ℕ × Vec CidrValue) (q : Vec CidrValue) → i < length owned → d ≡ get_or owned i d → q.items ≡ d.1.items → named_lists (set owned i (d.0, q)) ≡ named_lists owned
named-same [] i d q h is e = absurd (omega arith)
named-same (x ∷ xs) zero d q h is e =
    ap (λ (cidrs : List CidrValue). (d.0.items, cidrs) ∷ named_lists xs) e ∙ ap (λ (y : Vec ℕ × Vec CidrValue). plain y ∷ named_lists xs) is
named-same (x ∷ xs) (suc i) d q h is e = ap (λ ys. plain x ∷ ys) (named-same xs i d q (omega arith) is e)

pub named-insert : (owned : List (Vec ℕ × Vec CidrValue)) (i : ℕ) (e : Vec ℕ × Vec CidrValue) → i ≤ length owned → named_lists (insert owned i e) ≡ insert (named_lists owned) i (plain e)
named-insert xs zero e h = refl
named-insert [] (suc i) e h = absurd (omega arith)
named-insert (x ∷ xs) (suc i) e h = ap (λ ys. plain x ∷ ys) (named-insert xs i e (omega arith))

pub named-remove : (owned : List (Vec ℕ × Vec CidrValue)) (i : ℕ) → i < length owned → named_lists (remove owned i) ≡ remove (named_lists owned) i
named-remove [] i h = absurd (omega arith)
named-remove (x ∷ xs) zero h = refl
named-remove (x ∷ xs) (suc i) h = ap (λ ys. plain x ∷ ys) (named-remove xs i (omega arith))

-- ---- the list of a node
module _ (node : List ℕ) (lists : List Entry) where
  module _ (named : AreNamedLists lists) (i : ℕ) (here : IsListAt node lists i) where
    pub is_name : (d : Entry) → (get_or lists i d).0 ≡ node
    is_name d = (bytes_eq-Decides (get_or lists i d).0 node).0 (name_at node lists named i here d)

    pub under-remove : list_under node (remove lists i) ≡ []
    under-remove = under-none node (remove lists i) (λ j d h. elim (cases_lt j i) [
      | inl before ↦ ap (λ (e : Entry). bytes_eq e.0 node) (get_or-remove_below lists i d j before here.within) ∙ earlier node lists named i here j d before
      | inr behind ↦
          let count = length-remove lists i here.within in
          let e : j + 1 ≡ suc j = omega arith in
          ap (λ (e : Entry). bytes_eq e.0 node) (get_or-remove_above lists i d j behind here.within)
          ∙ later node lists named i here (j + 1) d (omega arith) (omega arith)
    ])

    pub under-set : (cidrs : List CidrValue) (name : List ℕ) → name ≡ node → list_under node (set lists i (name, cidrs)) ≡ cidrs
    under-set cidrs name is =
        let within : i < length (set lists i (name, cidrs)) = omega (arith, length-set lists i (name, cidrs), here.within) in
        under-at node (set lists i (name, cidrs)) i (name, cidrs) within
        (λ j d h. ap (λ (e : Entry). bytes_eq e.0 node) (get_or-set_other lists i j (name, cidrs) d (omega arith)) ∙ earlier node lists named i here j d h)
        (λ d. ap (λ (e : Entry). bytes_eq e.0 node) (get_or-set_same lists i (name, cidrs) d here.within) ∙ ((bytes_eq-Decides name node).1 is))
        ∙ ap (λ (e : Entry). e.1) (get_or-set_same lists i (name, cidrs) (name, cidrs) here.within)

  pub under-insert : (i : ℕ) → IsGapFor node lists i → (cidrs : List CidrValue) → list_under node (insert lists i (node, cidrs)) ≡ cidrs
  under-insert i gap cidrs =
      let count = length-insert lists i (node, cidrs) gap.within in
      let bound = gap.within in
      under-at node (insert lists i (node, cidrs)) i (node, cidrs) (omega arith)
      (λ j d h. ap (λ (e : Entry). bytes_eq e.0 node) (get_or-insert_below lists i (node, cidrs) d j h gap.within) ∙ differs node lists j d (ap is_eq (gap.before j d h)))
      (λ d. ap (λ (e : Entry). bytes_eq e.0 node) (get_or-insert_at lists i (node, cidrs) d gap.within) ∙ (bytes_eq-Decides node node).1 refl)
      ∙ ap (λ (e : Entry). e.1) (get_or-insert_at lists i (node, cidrs) (node, cidrs) gap.within)

-- ---- the lists of others stay
skipped : (b : Bool) (cidrs rest : List CidrValue) → b ≡ false → cond b cidrs rest ≡ rest
skipped b cidrs rest e = ap (λ v. cond v cidrs rest) e

pub others-set : (other : List ℕ) (lists : List Entry) (i : ℕ) (entry : Entry) → i < length lists → ((d : Entry) → bytes_eq (get_or lists i d).0 other ≡ false) → bytes_eq entry.0 other ≡ false → list_under other (set lists i entry) ≡ list_under other lists
others-set other [] i entry h old new = absurd (omega arith)
others-set other (e ∷ es) zero entry h old new =
    skipped (bytes_eq entry.0 other) entry.1 (list_under other es) new ∙ sym (skipped (bytes_eq e.0 other) e.1 (list_under other es) (old e))
others-set other (e ∷ es) (suc i) entry h old new =
    ap (λ rest. cond (bytes_eq e.0 other) e.1 rest) (others-set other es i entry (omega arith) old new)

pub others-insert : (other : List ℕ) (lists : List Entry) (i : ℕ) (entry : Entry) → i ≤ length lists → bytes_eq entry.0 other ≡ false → list_under other (insert lists i entry) ≡ list_under other lists
others-insert other lists zero entry h new = skipped (bytes_eq entry.0 other) entry.1 (list_under other lists) new
others-insert other [] (suc i) entry h new = absurd (omega arith)
others-insert other (e ∷ es) (suc i) entry h new =
    ap (λ rest. cond (bytes_eq e.0 other) e.1 rest) (others-insert other es i entry (omega arith) new)

pub others-remove : (other : List ℕ) (lists : List Entry) (i : ℕ) → i < length lists → ((d : Entry) → bytes_eq (get_or lists i d).0 other ≡ false) → list_under other (remove lists i) ≡ list_under other lists
others-remove other [] i h old = absurd (omega arith)
others-remove other (e ∷ es) zero h old = sym (skipped (bytes_eq e.0 other) e.1 (list_under other es) (old e))
others-remove other (e ∷ es) (suc i) h old =
    ap (λ rest. cond (bytes_eq e.0 other) e.1 rest) (others-remove other es i (omega arith) old)

-- ---- a list is written, made or dropped
module _ (node : List ℕ) (lists : List Entry) (kept : AreNodeLists lists) (i : ℕ) where
  pub ChangesList-set : IsListAt node lists i → (entry : Entry) → ((d : Entry) → entry.0 ≡ (get_or lists i d).0) → ChangesList node entry.1 lists (set lists i entry)
  ChangesList-set here entry same =
      let name : (d : Entry) → (get_or lists i d).0 ≡ node = is_name node lists kept.named i here in
      record {
        here = under-set node lists kept.named i here entry.1 entry.0 (same entry ∙ name entry);
        others = λ other e.
            others-set other lists i entry here.within
            (λ d. ap (λ n. bytes_eq n other) (name d) ∙ e) (ap (λ n. bytes_eq n other) (same entry ∙ name entry) ∙ e);
      }

  pub AreNodeLists-set : (entry : Entry) (d : Entry) → entry.0 ≡ (get_or lists i d).0 → 1 ≤ length entry.1 → CidrsAscend entry.1 → AreNodeLists (set lists i entry)
  AreNodeLists-set entry d same some ascend = record {
    named = record {
      some = All-set (λ (e : Entry). 1 ≤ length e.1) lists i entry some kept.named.some;
      ascending = subst (IsStrictlySortedBy name_cmp) (sym (map-set_same (λ (e : Entry). e.0) lists i entry d same)) kept.named.ascending;
    };
    ascending = All-set (λ (e : Entry). CidrsAscend e.1) lists i entry ascend kept.ascending;
  }

  pub ChangesList-insert : IsGapFor node lists i → (cidrs : List CidrValue) → ChangesList node cidrs lists (insert lists i (node, cidrs))
  ChangesList-insert gap cidrs = record {
    here = under-insert node lists i gap cidrs;
    others = λ other e. others-insert other lists i (node, cidrs) gap.within e;
  }

  pub AreNodeLists-insert : IsGapFor node lists i → (cidrs : List CidrValue) → 1 ≤ length cidrs → CidrsAscend cidrs → AreNodeLists (insert lists i (node, cidrs))
  AreNodeLists-insert gap cidrs some ascend = record {
    named = record {
      some = All-insert (λ (e : Entry). 1 ≤ length e.1) lists i (node, cidrs) gap.within some kept.named.some;
      ascending = ascends-insert name_cmp nat_list_cmp_total (λ (e : Entry). e.0) lists i (node, cidrs) kept.named.ascending gap;
    };
    ascending = All-insert (λ (e : Entry). CidrsAscend e.1) lists i (node, cidrs) gap.within ascend kept.ascending;
  }

  pub ChangesList-remove : IsListAt node lists i → ChangesList node [] lists (remove lists i)
  ChangesList-remove here =
      let name : (d : Entry) → (get_or lists i d).0 ≡ node = is_name node lists kept.named i here in
      record {
        here = under-remove node lists kept.named i here;
        others = λ other e. others-remove other lists i here.within (λ d. ap (λ n. bytes_eq n other) (name d) ∙ e);
      }

pub AreNodeLists-remove : (lists : List Entry) → AreNodeLists lists → (i : ℕ) → i < length lists → AreNodeLists (remove lists i)
AreNodeLists-remove lists kept i h = record {
  named = record {
    some = All-remove (λ (e : Entry). 1 ≤ length e.1) lists i h kept.named.some;
    ascending = ascends-remove name_cmp nat_list_cmp_total (λ (e : Entry). e.0) lists i h kept.named.ascending;
  };
  ascending = All-remove (λ (e : Entry). CidrsAscend e.1) lists i h kept.ascending;
}

-- ---- writes to the entries
pub remove-set : {X : Type 0} (xs : List X) (i : ℕ) (x : X) → remove (set xs i x) i ≡ remove xs i
remove-set [] zero x = refl
remove-set [] (suc i) x = refl
remove-set (y ∷ ys) zero x = refl
remove-set (y ∷ ys) (suc i) x = ap (λ zs. y ∷ zs) (remove-set ys i x)

module _ (owned : List (Vec ℕ × Vec CidrValue)) (kept : AreNodeLists (named_lists owned)) (at : ℕ) where
  -- a list is made for a node
  module _ (node : List ℕ) (gap : IsGapFor node (named_lists owned) at) (cidr : CidrValue) (entry : Vec ℕ × Vec CidrValue) (name : entry.0.items ≡ node) (list : entry.1.items ≡ cidr ∷ []) where
    opened : named_lists (insert owned at entry) ≡ insert (named_lists owned) at (node, cidr ∷ [])
    opened =
        let within = gap.within in
        named-insert owned at entry (omega (arith, length-named owned))
        ∙ (λ i. insert (named_lists owned) at (name i, list i))

    pub ChangesList-open : ChangesList node (with_cidr cidr (list_under node (named_lists owned))) (named_lists owned) (named_lists (insert owned at entry))
    ChangesList-open =
        let changed = ChangesList-insert node (named_lists owned) kept at gap (cidr ∷ []) in
        rw (opened, under-gap node (named_lists owned) at gap) changed

    pub AreNodeLists-open : CidrsAscend (cidr ∷ []) → AreNodeLists (named_lists (insert owned at entry))
    AreNodeLists-open ascend =
        subst AreNodeLists (sym opened) (AreNodeLists-insert node (named_lists owned) kept at gap (cidr ∷ []) (omega arith) ascend)

  -- the list of a node is written
  module _ (within : at < length owned) (d : Vec ℕ × Vec CidrValue) (is : d ≡ get_or owned at d) where
    same_at : (e : Entry) → get_or (named_lists owned) at e ≡ plain d
    same_at e = named-get owned at d e within ∙ ap plain (sym is)

    pub CidrsAscend-at : CidrsAscend d.1.items
    CidrsAscend-at =
        let here : at < length (named_lists owned) = omega (arith, length-named owned) in
        subst (λ (e : Entry). CidrsAscend e.1) (same_at (plain d)) (kept.ascending at (plain d) here)

    list_at : (node : List ℕ) → IsListAt node (named_lists owned) at → list_under node (named_lists owned) ≡ d.1.items
    list_at node here =
        under-found node (named_lists owned) kept.named at here (plain d) ∙ ap (λ (e : Entry). e.1) (same_at (plain d))

    module _ (q : Vec CidrValue) where
      same_name : (e : Entry) → d.0.items ≡ (get_or (named_lists owned) at e).0
      same_name e = sym (ap (λ (x : Entry). x.0) (same_at e))

      pub ChangesList-write : (change : List CidrValue → List CidrValue) → q.items ≡ change d.1.items → (node : List ℕ) → IsListAt node (named_lists owned) at → ChangesList node (change (list_under node (named_lists owned))) (named_lists owned) (named_lists (set owned at (d.0, q)))
      ChangesList-write change e node here =
          let changed = ChangesList-set node (named_lists owned) kept at here (d.0.items, q.items) same_name in
          let list : q.items ≡ change (list_under node (named_lists owned)) = e ∙ ap change (sym (list_at node here)) in
          subst (λ cidrs. ChangesList node cidrs (named_lists owned) (named_lists (set owned at (d.0, q)))) list
          (subst (ChangesList node q.items (named_lists owned)) (sym (named-set owned at (d.0, q))) changed)

      pub AreNodeLists-write : 1 ≤ length q.items → CidrsAscend q.items → AreNodeLists (named_lists (set owned at (d.0, q)))
      AreNodeLists-write some ascend =
          subst AreNodeLists (sym (named-set owned at (d.0, q)))
          (AreNodeLists-set d.0.items (named_lists owned) kept at (d.0.items, q.items) (plain d) (same_name (plain d)) some ascend)

      dropped : named_lists (remove (set owned at (d.0, q)) at) ≡ remove (named_lists owned) at
      dropped = ap named_lists (remove-set owned at (d.0, q)) ∙ named-remove owned at within

      pub ChangesList-drop : (change : List CidrValue → List CidrValue) → q.items ≡ change d.1.items → q.items ≡ [] → (node : List ℕ) → IsListAt node (named_lists owned) at → ChangesList node (change (list_under node (named_lists owned))) (named_lists owned) (named_lists (remove (set owned at (d.0, q)) at))
      ChangesList-drop change e none node here =
          let list : [] ≡ change (list_under node (named_lists owned)) = sym none ∙ (e ∙ ap change (sym (list_at node here))) in
          subst (λ cidrs. ChangesList node cidrs (named_lists owned) (named_lists (remove (set owned at (d.0, q)) at))) list
          (subst (ChangesList node [] (named_lists owned)) (sym dropped) (ChangesList-remove node (named_lists owned) kept at here))

      pub AreNodeLists-drop : AreNodeLists (named_lists (remove (set owned at (d.0, q)) at))
      AreNodeLists-drop =
          let here : at < length (named_lists owned) = omega (arith, length-named owned) in
          subst AreNodeLists (sym dropped) (AreNodeLists-remove (named_lists owned) kept at here)

pub AreNodeLists-none : AreNodeLists []
unfolding IsStrictlySortedBy
AreNodeLists-none = record {
  named = record { some = All-nil (λ (e : Entry). 1 ≤ length e.1); ascending = tt };
  ascending = All-nil (λ (e : Entry). CidrsAscend e.1);
}

-- where a node has no list, none changes
pub ChangesList-none : (node : List ℕ) (lists : List Entry) (i : ℕ) → IsGapFor node lists i → (cidr : CidrValue) → ChangesList node (without_cidr cidr (list_under node lists)) lists lists
ChangesList-none node lists i gap cidr =
    let none : list_under node lists ≡ [] = under-gap node lists i gap in
    record { here = none ∙ sym (ap (without_cidr cidr) none); others = λ other e. refl }
