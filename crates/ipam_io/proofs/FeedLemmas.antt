-- Where line feeds stand in parts of the bytes.
use Rattle.std.proofs.Common.{◌≡◌, ◌≢◌, ℕ, ◌+◌, ◌<◌, ◌≤◌, List, ◌∷◌, ◌++◌, length, get_or, take, drop, min, sym, ap, subst, ◌∙◌, add-one, suc, arith, slice_index, length-drop}
use Rattle.std.specs.Prelude.{Contains}
use Rattle.std.proofs.Common.{take_all, refl}
use Rattle.std.proofs.lemmas.List.{take-append-drop, take-take, get_or-take, get_or-drop, length-take}
use Rattle.std.proofs.lemmas.List.Elements.{All-append, All-contains}
use Rattle.std.proofs.Math.Seq.{take-add, drop-cons}
use Rattle.ipam_io.specs.Feeds.{HasNoFeed, IsFirstFeed}

-- what holds of a front holds of a shorter one, where one that goes past the end is as long as the bytes
pub HasNoFeed-front : (bytes : List ℕ) (searched end : ℕ) → min (length bytes) end ≤ searched → HasNoFeed (take searched bytes) → HasNoFeed (take end bytes)
HasNoFeed-front bytes searched end le searched_none k d inside =
    let in_end : k < min end (length bytes) = subst (λ n. k < n) (length-take end bytes) inside in
    let in_searched : k < length (take searched bytes) = subst (λ n. k < n) (sym (length-take searched bytes)) (omega arith) in
    let same : get_or (take end bytes) k d ≡ get_or (take searched bytes) k d =
    get_or-take end bytes k d (omega arith) ∙ sym (get_or-take searched bytes k d (omega arith)) in
    subst (λ byte. byte ≡ 10 → ⊥) (sym same) (searched_none k d in_searched)

-- a front, and the front of what comes after it
pub HasNoFeed-joined : (bytes : List ℕ) (n m : ℕ) → HasNoFeed (take n bytes) → HasNoFeed (take m (drop n bytes)) → HasNoFeed (take (n + m) bytes)
HasNoFeed-joined bytes n m front after = subst HasNoFeed (sym (take-add n m bytes)) (All-append (λ byte. byte ≢ 10) (take n bytes) (take m (drop n bytes)) front after)

-- a first line feed is found in what comes after a front that has none
pub IsFirstFeed-joined : (bytes : List ℕ) (n m place : ℕ) → HasNoFeed (take n bytes) → place < length (take m (drop n bytes)) → slice_index (take m (drop n bytes)) place ≡ 10 → HasNoFeed (take place (take m (drop n bytes))) → IsFirstFeed bytes (n + place)
IsFirstFeed-joined bytes n m place front within found before =
    let within' : place < min m (length (drop n bytes)) = subst (λ k. place < k) (length-take m (drop n bytes)) within in
    let inside : n + place < length bytes = omega (arith, length-drop n bytes) in
    let there : get_or bytes (n + place) 0 ≡ 10 =
    sym (get_or-take m (drop n bytes) place 0 (omega arith) ∙ get_or-drop n bytes place 0) ∙ found in
    let behind : drop (n + place) bytes ≡ 10 ∷ drop (n + place + 1) bytes =
    drop-cons bytes (n + place) 0 inside ∙ ap (λ b. b ∷ drop (suc (n + place)) bytes) there ∙ ap (λ k. 10 ∷ drop k bytes) (sym (add-one (n + place))) in
    record {
      before = HasNoFeed-joined bytes n place front (subst HasNoFeed (take-take place m (drop n bytes) (omega arith)) before);
      splits = sym (take-append-drop (n + place) bytes) ∙ ap (λ l. take (n + place) bytes ++ l) behind;
    }

-- a front that goes to the end is all
pub HasNoFeed-whole : (bytes : List ℕ) (n : ℕ) → length bytes ≤ n → HasNoFeed (take n bytes) → HasNoFeed bytes
HasNoFeed-whole bytes n le front = subst HasNoFeed (take_all n bytes le) front

-- bytes with no line feed hold none
pub none_held : (bytes : List ℕ) → HasNoFeed bytes → Contains bytes 10 → ⊥
none_held bytes none held = All-contains (λ byte. byte ≢ 10) bytes 10 none held refl
