-- What is read of counts after the count of one block was written.
use Rattle.std.proofs.Common.{◌≡◌, ◌≢◌, ℕ, zero, suc, ◌<◌, ◌↔◌, Bool, true, false, cond, List, [], Option, Some, None, IsSome, Contains, unwrap_or, ap, sym, ◌∙◌, arith, refl, subst}
use lib.Dec.{eqb-suc-zero}
use Rattle.std.specs.Option.{IfSome}
use Rattle.std.specs.Ordering.{is_eq, eq_by_cmp}
use Rattle.std.specs.Cmp.{IsEquivalence, Equal-is, eq_by_cmp_equiv, tied_itself}
use Rattle.std.specs.Map.{keys_of, lookup, remove_entry}
use Rattle.std.specs.BTreeMap.{is_at, insert_entry}
use Rattle.std.specs.List.Sorted.{IsStrictlySortedBy}
use Rattle.std.proofs.lemmas.List.Elements.{All-nil}
use Rattle.std.proofs.lemmas.Map.{lookup-remove_entry}
use Rattle.std.proofs.lemmas.Map.Keys.{IsDistinct-from_sorted}
use Rattle.std.proofs.lemmas.Map.Entries.{All-lookup}
use Rattle.std.proofs.lemmas.Map.Views.{tells_apart, Contains-keys_from_lookup, IsSome-lookup_from_Contains}
use Rattle.ipam_addr.specs.Shape.{CidrValue}
use Rattle.ipam_block.specs.Order.{cidr_cmp}
use Rattle.ipam_block.specs.HandleSound.{AreCounts, IsCount}
use Rattle.ipam_block.specs.HandleOperations.{count_in, counts_with}
use Rattle.ipam_block.proofs.Order.{cidr_cmp_total, cidr_cmp_exact}
use Rattle.ipam_block.proofs.Entries.{All-remove_entry, sorted-remove_entry, All-insert_entry, sorted-insert_entry, lookup-insert_entry}

same_block : IsEquivalence (eq_by_cmp cidr_cmp)
same_block = eq_by_cmp_equiv cidr_cmp_total

chosen : (b : Bool) (v : ℕ) (o : Option ℕ) → unwrap_or (cond b (Some v) o) 0 ≡ cond b v (unwrap_or o 0)
chosen true v o = refl
chosen false v o = refl

none_chosen : (b : Bool) (o : Option ℕ) → unwrap_or (cond b None o) 0 ≡ cond b 0 (unwrap_or o 0)
none_chosen true o = refl
none_chosen false o = refl

gone : (es : List (CidrValue × ℕ)) → AreCounts es → (block q : CidrValue) → lookup (is_at (cidr_cmp q)) (counts_with es block 0) ≡ cond (is_eq (cidr_cmp block q)) None (lookup (is_at (cidr_cmp q)) es)
gone es sound block q =
    lookup-remove_entry same_block (is_at (cidr_cmp block)) one q es (IsDistinct-from_sorted cidr_cmp _ sound.ascending)
  where
    one : (x y : CidrValue) → is_at (cidr_cmp block) x ≡ true → is_at (cidr_cmp block) y ≡ eq_by_cmp cidr_cmp x y
    one x y h = same_block.congr block x y h

-- a count that is not 0 is put at its place
pub counts_with-some : (es : List (CidrValue × ℕ)) (block : CidrValue) (n : ℕ) → 0 < n → counts_with es block n ≡ insert_entry cidr_cmp es block n
counts_with-some es block zero h = absurd (omega arith)
counts_with-some es block (suc n) h =
    ap (λ b. cond b (remove_entry (is_at (cidr_cmp block)) es) (insert_entry cidr_cmp es block (suc n))) (eqb-suc-zero n)

-- the count of any block after one was written
count_in-counts_with : (es : List (CidrValue × ℕ)) → AreCounts es → (block : CidrValue) (n : ℕ) (q : CidrValue) → count_in (counts_with es block n) q ≡ cond (is_eq (cidr_cmp q block)) n (count_in es q)
count_in-counts_with es sound block zero q =
    ap (λ o. unwrap_or o 0) (gone es sound block q)
    ∙ none_chosen (is_eq (cidr_cmp block q)) _
    ∙ ap (λ b. cond b 0 (count_in es q)) (same_block.symm block q)
count_in-counts_with es sound block (suc n) q =
    ap (λ l. count_in l q) (counts_with-some es block (suc n) (omega arith))
    ∙ ap (λ o. unwrap_or o 0) (lookup-insert_entry cidr_cmp_total block (suc n) q es)
    ∙ chosen (is_eq (cidr_cmp q block)) (suc n) _

pub count_in-here : (es : List (CidrValue × ℕ)) → AreCounts es → (block : CidrValue) (n : ℕ) → count_in (counts_with es block n) block ≡ n
count_in-here es sound block n =
    count_in-counts_with es sound block n block ∙ ap (λ r. cond (is_eq r) n (count_in es block)) (tied_itself cidr_cmp_total block)

pub count_in-elsewhere : (es : List (CidrValue × ℕ)) → AreCounts es → (block : CidrValue) (n : ℕ) (other : CidrValue) → other ≢ block → count_in (counts_with es block n) other ≡ count_in es other
count_in-elsewhere es sound block n other differs =
    count_in-counts_with es sound block n other ∙ ap (λ b. cond b n (count_in es other)) (differ (is_eq (cidr_cmp other block)) refl)
  where
    differ : (b : Bool) → is_eq (cidr_cmp other block) ≡ b → b ≡ false
    differ true h = absurd (differs (cidr_cmp_exact other block ((Equal-is (cidr_cmp other block)).0 h)))
    differ false h = refl

pub AreCounts-counts_with : (es : List (CidrValue × ℕ)) → AreCounts es → (block : CidrValue) (n : ℕ) → (0 < n → IsCount (block, n)) → AreCounts (counts_with es block n)
AreCounts-counts_with es sound block zero one = record {
  ascending = sorted-remove_entry cidr_cmp (is_at (cidr_cmp block)) es sound.ascending;
  each = All-remove_entry IsCount (is_at (cidr_cmp block)) es sound.each;
}
AreCounts-counts_with es sound block (suc n) one =
    let put : AreCounts (insert_entry cidr_cmp es block (suc n)) = record {
      ascending = sorted-insert_entry cidr_cmp_total block (suc n) es sound.ascending;
      each = All-insert_entry cidr_cmp_total block (suc n) cidr_cmp_exact IsCount es (one (omega arith)) sound.each;
    } in
    subst AreCounts (sym (counts_with-some es block (suc n) (omega arith))) put

found_somewhere : (o : Option ℕ) → 0 < unwrap_or o 0 → IsSome o
found_somewhere (Some n) h = refl
found_somewhere None h = absurd (omega arith)

some_count : (o : Option ℕ) → IsSome o → IfSome o (λ n. 0 < n) → 0 < unwrap_or o 0
some_count (Some n) found h = h
some_count None found h = absurd (cc found)

-- a block has a count exactly if it is listed
pub listed : (es : List (CidrValue × ℕ)) → AreCounts es → (block : CidrValue) → (0 < count_in es block) ↔ Contains (keys_of es) block
listed es sound block = (there, back)
  where
    there : 0 < count_in es block → Contains (keys_of es) block
    there h = Contains-keys_from_lookup (tells_apart cidr_cmp_exact) block es (found_somewhere _ h)

    back : Contains (keys_of es) block → 0 < count_in es block
    back h =
        some_count _ (IsSome-lookup_from_Contains same_block block es h)
        (All-lookup (λ n. 0 < n) (is_at (cidr_cmp block)) es (λ k d l. (sound.each k d l).some))

-- a block whose count is 0 is not listed
pub unlisted : (es : List (CidrValue × ℕ)) → AreCounts es → (block : CidrValue) → count_in es block ≡ 0 → ¬ (Contains (keys_of es) block)
unlisted es sound block none h = let some = (listed es sound block).1 h in omega arith

pub AreCounts-nil : AreCounts []
unfolding IsStrictlySortedBy
AreCounts-nil = record { ascending = tt; each = All-nil IsCount }
