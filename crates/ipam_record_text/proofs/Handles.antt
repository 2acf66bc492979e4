-- A handle's body is read back.
use Rattle.std.proofs.Common.{◌≡◌, ◌≢◌, ℕ, ◌^◌, ◌<◌, List, [], ◌∷◌, ◌++◌, codes, length, Bool, true, false, cond, Option, Some, None, unwrap_or, Ok, Result, Err, IfOk, nat_cmp, refl, sym, subst, ap, ◌∙◌, arith, ne_eqb, append-nil, lt-ltb, ltb-true, eqb-true, eq-eqb, append_assoc, nat_lt}
use Rattle.std.proofs.lemmas.Bool.{or_parts}
use Rattle.std.proofs.lemmas.Option.{cond_some}
use Rattle.std.proofs.lemmas.Map.Lookups.{exact_bytes}
use Rattle.std.proofs.lemmas.List.Elements.{All-head, All-tail}
use Rattle.std.specs.declared.cmp.Ordering.{Ordering}
use Rattle.std.specs.declared.cmp.Ordering.TheVariants.{Less, Equal, Greater}
use Rattle.std.specs.Bool.{OnTrue, OnFalse}
use Rattle.std.specs.Prelude.{is_some, not}
use Rattle.std.specs.BTreeMap.{is_at, insert_entry}
use Rattle.std.specs.Cmp.Lexicographic.{slice_cmp}
use Rattle.std.specs.List.{All}
use Rattle.std.specs.List.Sorted.{IsStrictlySortedBy}
use Rattle.std.specs.Map.{keys_of, lookup}
use Rattle.std.specs.Option.{ok_or}
use Rattle.std.specs.Ordering.{match_ordering, ordering_reverse, is_eq}
use Rattle.std.specs.Cmp.{tied_itself}
use Rattle.ipam_json.specs.Path.{as_whole}
use Rattle.serde_json.specs.Data.{Data, number, unsigned, object, put, Members, no_members, member}
use Rattle.serde_json.specs.Read.{read}
use Rattle.serde_json.specs.Written.{has_float, members_have_float}
use Rattle.ipam_addr.specs.Shape.{CidrValue}
use Rattle.ipam_addr.specs.Text.{cidr_text_of}
use Rattle.ipam_addr.specs.contracts.cidrs.CidrOrd.TheImpl.{ghosts}
use Rattle.ipam_addr.specs.Names.{is_handle_text}
use Rattle.ipam_block.specs.HandleShape.{HandleValue}
use Rattle.ipam_block.specs.HandleOperations.{content, count_in}
use Rattle.ipam_block.specs.Order.{cidr_cmp}
use Rattle.ipam_block.specs.Sound.{IsBlockCidr}
use Rattle.ipam_block.specs.HandleSound.{AreCounts, IsCount, IsHandleRecord}
use Rattle.ipam_block.proofs.Entries.{lookup-insert_entry, sorted-insert_entry, All-insert_entry}
use Rattle.ipam_block.proofs.Order.{derived-is, cidr_cmp_total, cidr_cmp_exact}
use Rattle.ipam_json.specs.Canonical.{IsCanonical, IsCanonicalWithin}
use Rattle.ipam_json.proofs.Constructors.{IsCanonicalWithin-put, IsCanonicalWithin-number}
use Rattle.ipam_json.proofs.ReadsBack.{read-compact_text}
use Rattle.ipam_record_text.specs.declared.fault.BodyFault.{BodyFault}
use Rattle.ipam_record_text.specs.declared.fault.BodyFault.TheVariants.{Form, Table, Memory}
use Rattle.ipam_json.specs.Held.{held}
use Rattle.ipam_json.specs.Members.{◌>>=◌, only_if, in_32_bits, members_at}
use Rattle.ipam_record_text.specs.Blocks.{block_cidr_of, id_at}
use Rattle.ipam_record_text.specs.Handle.{with_counts, handle_data, handle_body, count_of_json, block_counted, with_new, AddsCount, counts_after, handle_of_counts, handle_in, handle_reading}
use Rattle.ipam_record_text.proofs.Held.{reading-held, unheld-text, reading-told}
use Rattle.ipam_json.proofs.Held.{held-was, held-text}
use Rattle.ipam_record_text.proofs.Insertions.{insert_entry-either, below_entry, insert_entry-last, lookup-last}
use Rattle.ipam_json.proofs.MemberLemmas.{in_32_bits-is}
use Rattle.ipam_record_text.proofs.Parts.{block_of-is, block_of-text, id_at-is, id_of-id}

abbrev Counts : Type 0
Counts = List (CidrValue × ℕ)

abbrev ins : Counts → CidrValue → ℕ → Counts
ins cs r n = insert_entry cidr_cmp cs r n

-- ---- the count of one member

-- a member's block and count are sound
record IsCounted (name : List ℕ) (d : Data) (c : CidrValue × ℕ) : Type 0 where
  pub block : block_cidr_of name ≡ Some c.0
  pub count : count_of_json d ≡ Some c.1
  pub small : IsBlockCidr c.0
  pub some : 0 < c.1
  pub fits : c.1 < 2 ^ 32

-- a number that 32 bits hold and that isn't 0
small_is : (found : Option ℕ) → ((k : ℕ) → found ≡ Some k → k < 2 ^ 32) → (n : ℕ) → (found >>= λ k. only_if (nat_lt 0 k) k) ≡ Some n → (0 < n) × (n < 2 ^ 32)
small_is (Some k) fits n e =
    let (is, same) = cond_some (nat_lt 0 k) k n e in
    (rw (← same) (ltb-true _ _ is), rw (← same) (fits k refl))
small_is None fits n e = cc

count_of_json-is : (d : Data) (n : ℕ) → count_of_json d ≡ Some n → (0 < n) × (n < 2 ^ 32)
unfolding count_of_json
count_of_json-is d n e = whole (as_whole d) e
  where
    whole : (o : Option ℕ) → (o >>= λ w. in_32_bits w >>= λ k. only_if (nat_lt 0 k) k) ≡ Some n → (0 < n) × (n < 2 ^ 32)
    whole (Some w) e' = small_is (in_32_bits w) (in_32_bits-is w) n e'
    whole None e' = cc

counted-is : (name : List ℕ) (d : Data) (c : CidrValue × ℕ) → block_counted name d ≡ Some c → IsCounted name d c
unfolding block_counted
counted-is name d c e = parts (block_cidr_of name) (count_of_json d) refl refl e
  where
    parts : (b : Option CidrValue) (n : Option ℕ) → block_cidr_of name ≡ b → count_of_json d ≡ n → (b >>= λ block. n >>= λ k. Some (block, k)) ≡ Some c → IsCounted name d c
    parts (Some block) (Some k) is_block is_count e' =
        let same : (block, k) ≡ c = cc in
        subst (IsCounted name d) same (record {
          block = is_block;
          count = is_count;
          small = block_of-is name block is_block;
          some = (count_of_json-is d k is_count).0;
          fits = (count_of_json-is d k is_count).1;
        })
    parts (Some block) None is_block is_count e' = cc
    parts None n is_block is_count e' = cc

-- ---- one count more

count_in-ins : (cs : Counts) (r s : CidrValue) (n : ℕ) → count_in (ins cs r n) s ≡ cond (is_at (cidr_cmp s) r) n (count_in cs s)
count_in-ins cs r s n = ap (λ o. unwrap_or o 0) (lookup-insert_entry cidr_cmp_total r n s cs) ∙ go (is_at (cidr_cmp s) r)
  where
    go : (b : Bool) → unwrap_or (cond b (Some n) (lookup (is_at (cidr_cmp s)) cs)) 0 ≡ cond b n (unwrap_or (lookup (is_at (cidr_cmp s)) cs) 0)
    go true = refl
    go false = refl

-- a block without a count after one with a count was put in is another block, and had none before
absent_before : (cs : Counts) (r s : CidrValue) (m : ℕ) → 0 < m → count_in (ins cs s m) r ≡ 0 → (is_at (cidr_cmp r) s ≡ false) × (count_in cs r ≡ 0)
absent_before cs r s m some none = go (is_at (cidr_cmp r) s) refl (sym (count_in-ins cs s r m) ∙ none)
  where
    go : (b : Bool) → is_at (cidr_cmp r) s ≡ b → cond b m (count_in cs r) ≡ 0 → (is_at (cidr_cmp r) s ≡ false) × (count_in cs r ≡ 0)
    go true e h = absurd (omega arith)
    go false e h = (e, h)

not_equal : (r s : CidrValue) → is_at (cidr_cmp r) s ≡ false → cidr_cmp r s ≢ Equal
not_equal r s e same = let k : is_eq (cidr_cmp r s) ≡ true = ap is_eq same in cc (e, k)

turned : (r s : CidrValue) → cidr_cmp r s ≢ Equal → is_at (cidr_cmp s) r ≡ false
turned r s apart = go (cidr_cmp s r) refl
  where
    go : (x : Ordering) → cidr_cmp s r ≡ x → is_at (cidr_cmp s) r ≡ false
    go Less e = ap is_eq e
    go Greater e = ap is_eq e
    go Equal e = absurd (apart (cidr_cmp_total.antisymm r s ∙ ap ordering_reverse e))

with_new-is : (cs : Counts) (r : CidrValue) (n : ℕ) (more : Counts) → with_new cs r n ≡ Some more → (count_in cs r ≡ 0) × (more ≡ ins cs r n)
unfolding with_new
with_new-is cs r n more e = let (none, same) = cond_some _ (ins cs r n) more e in (eqb-true _ _ none, sym same)

with_new-absent : (cs : Counts) (r : CidrValue) (n : ℕ) → count_in cs r ≡ 0 → with_new cs r n ≡ Some (ins cs r n)
unfolding with_new
with_new-absent cs r n none = rw (eq-eqb _ _ none) refl

-- ---- what the members make of counts, a member at a time

-- the first member's block and count, and what the others make
record HasFirst (cs : Counts) (name : List ℕ) (d : Data) (ms : Members) (all : Counts) : Type 0 where
  pub block : CidrValue
  pub count : ℕ
  pub is : IsCounted name d (block, count)
  pub is_counted : block_counted name d ≡ Some (block, count)
  pub absent : count_in cs block ≡ 0
  pub rest : counts_after (ins cs block count) ms ≡ Some all

first_of : (cs : Counts) (name : List ℕ) (d : Data) (ms : Members) (all : Counts) → counts_after cs (member name d ms) ≡ Some all → HasFirst cs name d ms all
first_of cs name d ms all e = go (block_counted name d) refl e
  where
    more : (c : CidrValue × ℕ) → block_counted name d ≡ Some c → (o : Option Counts) → with_new cs c.0 c.1 ≡ o → (o >>= λ m. counts_after m ms) ≡ Some all → HasFirst cs name d ms all
    more c is (Some m) new e' =
        let (none, same) = with_new-is cs c.0 c.1 m new in
        record {
          block = c.0;
          count = c.1;
          is = counted-is name d c is;
          is_counted = is;
          absent = none;
          rest = rw (← same) e';
        }
    more c is None new e' = cc

    go : (o : Option (CidrValue × ℕ)) → block_counted name d ≡ o → (o >>= λ c. with_new cs c.0 c.1 >>= λ m. counts_after m ms) ≡ Some all → HasFirst cs name d ms all
    go (Some c) is e' = more c is (with_new cs c.0 c.1) refl e'
    go None is e' = cc

with_first : (cs : Counts) (name : List ℕ) (d : Data) (ms : Members) (c : CidrValue × ℕ) → block_counted name d ≡ Some c → count_in cs c.0 ≡ 0 → counts_after cs (member name d ms) ≡ counts_after (ins cs c.0 c.1) ms
with_first cs name d ms c is none = rw (is, with_new-absent cs c.0 c.1 none) refl

-- a block that has no count in the end had none before
absent_first : (ms : Members) (cs all : Counts) (r : CidrValue) → counts_after cs ms ≡ Some all → count_in all r ≡ 0 → count_in cs r ≡ 0
absent_first no_members cs all r e none = let same : cs ≡ all = cc in rw same none
absent_first (member name d ms) cs all r e none =
    let h = first_of cs name d ms all e in
    (absent_before cs r h.block h.count h.is.some (absent_first ms (ins cs h.block h.count) all r h.rest none)).1

-- a count that is put in before the members may be put in after them
put_before : (ms : Members) (cs all : Counts) (r : CidrValue) (n : ℕ) → counts_after cs ms ≡ Some all → count_in all r ≡ 0 → counts_after (ins cs r n) ms ≡ Some (ins all r n)
put_before no_members cs all r n e none = let same : cs ≡ all = cc in ap (λ l. Some (ins l r n)) same
put_before (member name d ms) cs all r n e none =
    let h = first_of cs name d ms all e in
    let before = absent_before cs r h.block h.count h.is.some (absent_first ms (ins cs h.block h.count) all r h.rest none) in
    let apart = not_equal r h.block before.0 in
    let absent : count_in (ins cs r n) h.block ≡ 0 =
    count_in-ins cs r h.block n ∙ ap (λ b. cond b n (count_in cs h.block)) (turned r h.block apart) ∙ h.absent in
    with_first (ins cs r n) name d ms (h.block, h.count) h.is_counted absent
    ∙ ap (λ l. counts_after l ms) (insert_entry-either cidr_cmp_total r h.block n h.count apart cs)
    ∙ put_before ms (ins cs h.block h.count) all r n h.rest none

-- a member that is put at its place among the members adds its count
put_among : (ms : Members) (cs all : Counts) (k : List ℕ) (d : Data) (c : CidrValue × ℕ) → counts_after cs ms ≡ Some all → block_counted k d ≡ Some c → count_in all c.0 ≡ 0 → counts_after cs (put k d ms) ≡ Some (ins all c.0 c.1)
put_among no_members cs all k d c e is none =
    let same : cs ≡ all = cc in
    with_first cs k d no_members c is (rw same none) ∙ ap (λ l. Some (ins l c.0 c.1)) same
put_among (member l f ms) cs all k d c e is none =
    let h = first_of cs l f ms all e in
    let later = put_among ms (ins cs h.block h.count) all k d c h.rest is none in
    at_place (slice_cmp nat_cmp k l) refl h later
  where
    at_place : (x : Ordering) → slice_cmp nat_cmp k l ≡ x → (h : HasFirst cs l f ms all) → counts_after (ins cs h.block h.count) (put k d ms) ≡ Some (ins all c.0 c.1) → counts_after cs (put k d (member l f ms)) ≡ Some (ins all c.0 c.1)
    at_place Less x h later =
        rw x (with_first cs k d (member l f ms) c is (absent_first (member l f ms) cs all c.0 e none) ∙ put_before (member l f ms) cs all c.0 c.1 e none)
    at_place Equal x h later =
        let same : k ≡ l = exact_bytes k l x in
        let blocks : Some c.0 ≡ Some h.block = sym (counted-is k d c is).block ∙ ap block_cidr_of same ∙ h.is.block in
        let block : c.0 ≡ h.block = cc in
        let gone = (absent_before cs c.0 h.block h.count h.is.some (absent_first ms (ins cs h.block h.count) all c.0 h.rest none)).0 in
        absurd (not_equal c.0 h.block gone (ap (cidr_cmp c.0) (sym block) ∙ tied_itself cidr_cmp_total c.0))
    at_place Greater x h later =
        rw x (with_first cs l f (put k d ms) (h.block, h.count) h.is_counted h.absent ∙ later)

-- ---- what is found is sound

All-nil : {A : Type 0} (P : A → Type 0) → All P []
All-nil P = λ k d less. absurd (omega arith)

sound_after : (ms : Members) (cs all : Counts) → counts_after cs ms ≡ Some all → AreCounts cs → All (λ c. IsBlockCidr c.0) cs → AreCounts all × All (λ c. IsBlockCidr c.0) all
sound_after no_members cs all e h small = let same : cs ≡ all = cc in (rw (← same) h, rw (← same) small)
sound_after (member name d ms) cs all e h small =
    let f = first_of cs name d ms all e in
    let one : IsCount (f.block, f.count) = record { range = f.is.small.range; some = f.is.some; small = f.is.fits } in
    sound_after ms (ins cs f.block f.count) all f.rest
    (record {
      ascending = sorted-insert_entry cidr_cmp_total f.block f.count cs h.ascending;
      each = All-insert_entry cidr_cmp_total f.block f.count cidr_cmp_exact IsCount cs one h.each;
    })
    (All-insert_entry cidr_cmp_total f.block f.count cidr_cmp_exact (λ c. IsBlockCidr c.0) cs f.is.small small)

some_there : {A : Type 0} (xs : List A) → xs ≢ [] → 0 < length xs
some_there [] h = absurd (h refl)
some_there (x ∷ xs) h = omega arith

some_back : {A : Type 0} (xs : List A) → 0 < length xs → xs ≢ []
some_back [] h = absurd (omega arith)
some_back (x ∷ xs) h = λ e. cc

handle_of_counts-sound : (id : List ℕ) (counts : Counts) (h : HandleValue) → is_handle_text id ≡ true → AreCounts counts × All (λ c. IsBlockCidr c.0) counts → handle_of_counts id counts ≡ Some h → IsHandleRecord h
unfolding handle_of_counts
handle_of_counts-sound id counts h is sound e =
    let (some, same) = cond_some (nat_lt 0 (length counts)) (content id counts) h e in
    subst IsHandleRecord same (record { id = is; counts = sound.0; ranges = sound.1; some = some_back counts (ltb-true _ _ some) })

handle_in-sound : (d : Data) (h : HandleValue) → handle_in d ≡ Some h → IsHandleRecord h
unfolding handle_in IsStrictlySortedBy
handle_in-sound d h e = go (members_at (codes "block") d) (id_at (codes "handleID") d) refl e
  where
    counts : (ms : Members) (id : List ℕ) → is_handle_text id ≡ true → (o : Option Counts) → counts_after [] ms ≡ o → (o >>= λ cs. handle_of_counts id cs) ≡ Some h → IsHandleRecord h
    counts ms id is (Some cs) found e' =
        handle_of_counts-sound id cs h is (sound_after ms [] cs found (record { ascending = tt; each = All-nil IsCount }) (All-nil (λ c. IsBlockCidr c.0))) e'
    counts ms id is None found e' = cc

    go : (found : Option Members) (id : Option (List ℕ)) → id_at (codes "handleID") d ≡ id → (found >>= λ ms. id >>= λ i. counts_after [] ms >>= λ cs. handle_of_counts i cs) ≡ Some h → IsHandleRecord h
    go (Some ms) (Some id) is e' = counts ms id (id_at-is (codes "handleID") d id is) (counts_after [] ms) refl e'
    go (Some ms) None is e' = cc
    go None id is e' = cc

pub handle_held : (body : List ℕ) (h : HandleValue) → held handle_in handle_body body ≡ Some h → IsHandleRecord h × (body ≡ handle_body h)
handle_held body h e =
    let was = held-was handle_in handle_body body h e in
    (handle_in-sound was.json h was.was_found, sym was.is_text)

pub handle_read : (body : List ℕ) (h : HandleValue) → handle_reading body ≡ Ok h → (body ≡ handle_body h) × IsHandleRecord h
unfolding handle_reading
handle_read body h e = let is = handle_held body h (reading-held _ h e) in (is.1, is.0)

-- ---- a sound handle is found in its JSON

counted-text : (c : CidrValue × ℕ) → IsBlockCidr c.0 → 0 < c.1 → c.1 < 2 ^ 32 → block_counted (cidr_text_of c.0) (number (unsigned c.1)) ≡ Some c
unfolding block_counted count_of_json
counted-text c small some fits = rw (block_of-text c.0 small, lt-ltb c.1 (2 ^ 32) fits, lt-ltb 0 c.1 some) refl

counts_back : (ms : Members) (done left : Counts) → counts_after [] ms ≡ Some done → IsStrictlySortedBy cidr_cmp (keys_of (done ++ left)) → All IsCount left → All (λ c. IsBlockCidr c.0) left → counts_after [] (with_counts ms left) ≡ Some (done ++ left)
counts_back ms done [] e up each small = e ∙ ap Some (sym (append-nil done))
counts_back ms done (c ∷ left) e up each small =
    let below = below_entry cidr_cmp_total c.0 c.1 done left up in
    let absent : count_in done c.0 ≡ 0 = ap (λ o. unwrap_or o 0) (lookup-last cidr_cmp_total c.0 done below) in
    let first = All-head IsCount c left each in
    let is = counted-text c (All-head (λ k. IsBlockCidr k.0) c left small) first.some first.small in
    let more = put_among ms [] done (cidr_text_of c.0) (number (unsigned c.1)) c e is absent in
    let last = insert_entry-last cidr_cmp_total c.0 c.1 done below in
    let whole = append_assoc done (c ∷ []) left in
    counts_back (put (cidr_text_of c.0) (number (unsigned c.1)) ms) (done ++ c ∷ []) left (more ∙ ap Some last) (subst (λ l. IsStrictlySortedBy cidr_cmp (keys_of l)) (sym whole) up) (All-tail IsCount c left each) (All-tail (λ k. IsBlockCidr k.0) c left small)
    ∙ ap Some whole

handle_in-handle_data : (h : HandleValue) → IsHandleRecord h → handle_in (handle_data h) ≡ Some h
unfolding handle_in handle_data handle_of_counts
handle_in-handle_data h sound =
    rw (id_of-id h.id sound.id, counts_back no_members [] h.counts refl sound.counts.ascending sound.counts.each sound.ranges, lt-ltb 0 (length h.counts) (some_there h.counts sound.some)) refl

with_counts-IsCanonical : (ms : Members) (cs : Counts) → IsCanonicalWithin 1 (object ms) → All IsCount cs → IsCanonicalWithin 1 (object (with_counts ms cs))
with_counts-IsCanonical ms [] h each = h
with_counts-IsCanonical ms (c ∷ cs) h each =
    let first = All-head IsCount c cs each in
    let fits : c.1 < 2 ^ 64 = omega (arith, first.small) in
    with_counts-IsCanonical (put (cidr_text_of c.0) (number (unsigned c.1)) ms) cs
    (IsCanonicalWithin-put 0 1 (cidr_text_of c.0) (number (unsigned c.1)) ms (omega arith) (IsCanonicalWithin-number 0 c.1 fits) h)
    (All-tail IsCount c cs each)

handle_data-IsCanonical : (h : HandleValue) → All IsCount h.counts → IsCanonical (handle_data h)
unfolding handle_data
handle_data-IsCanonical h each =
    let counts = with_counts-IsCanonical no_members h.counts (record { regular = tt; shallow = omega arith }) each in
    record { regular = (refl, counts.regular, (tt, tt, tt)); shallow = omega (arith, counts.shallow) }

read-handle_body : (h : HandleValue) → All IsCount h.counts → read (handle_body h) ≡ Some (handle_data h)
unfolding handle_body
read-handle_body h each = read-compact_text (handle_data h) (handle_data-IsCanonical h each)

handle_body_held : (h : HandleValue) → IsHandleRecord h → held handle_in handle_body (handle_body h) ≡ Some h
handle_body_held h sound =
    held-text handle_in handle_body h (handle_data h) (read-handle_body h sound.counts.each) (handle_in-handle_data h sound)

pub handle_reads_back : (h : HandleValue) → IsHandleRecord h → handle_reading (handle_body h) ≡ Ok h
unfolding handle_reading
handle_reads_back h sound = ap (λ o. ok_or o Form) (handle_body_held h sound)

-- a body in which none is held is no sound one's
pub handle_unheld : (body : List ℕ) → held handle_in handle_body body ≡ None → (h : HandleValue) → IsHandleRecord h → body ≢ handle_body h
handle_unheld body none h sound = unheld-text handle_in handle_body body none h (handle_body_held h sound)

-- what `handle_of` tells of a body is what is read of it
pub handle_reading-told : (body : List ℕ) (r : Result HandleValue BodyFault) → IfOk r (λ h. IsHandleRecord h × (body ≡ handle_body h)) → (r ≡ Err Form → (h : HandleValue) → IsHandleRecord h → body ≢ handle_body h) → r ≢ Err Table → r ≢ Err Memory → handle_reading body ≡ r
unfolding handle_reading
handle_reading-told body r = reading-told handle_in handle_body IsHandleRecord handle_held handle_body_held body r

-- ---- the loops

members_have_float-put : (k : List ℕ) (n : ℕ) (ms : Members) → members_have_float ms ≡ false → members_have_float (put k (number (unsigned n)) ms) ≡ false
members_have_float-put k n no_members h = refl
members_have_float-put k n (member l d ms) h =
    at_place (slice_cmp nat_cmp k l) (or_parts (has_float d) (members_have_float ms) h).0 (or_parts (has_float d) (members_have_float ms) h).1 (members_have_float-put k n ms (or_parts (has_float d) (members_have_float ms) h).1)
  where
    at_place : (x : Ordering) → has_float d ≡ false → members_have_float ms ≡ false → members_have_float (put k (number (unsigned n)) ms) ≡ false → members_have_float (match_ordering x (member k (number (unsigned n)) (member l d ms)) (member l (number (unsigned n)) ms) (member l d (put k (number (unsigned n)) ms))) ≡ false
    at_place Less one rest later = h
    at_place Equal one rest later = rest
    at_place Greater one rest later = rw (one) later

members_have_float-counts : (ms : Members) (cs : Counts) → members_have_float ms ≡ false → members_have_float (with_counts ms cs) ≡ false
members_have_float-counts ms [] h = h
members_have_float-counts ms (c ∷ cs) h = members_have_float-counts (put (cidr_text_of c.0) (number (unsigned c.1)) ms) cs (members_have_float-put (cidr_text_of c.0) c.1 ms h)

pub has_float-handle_data : (h : HandleValue) → has_float (handle_data h) ≡ false
unfolding handle_data
has_float-handle_data h = rw (members_have_float-counts no_members h.counts refl) refl

with_new-none : (cs : Counts) (r : CidrValue) (n : ℕ) → 0 < count_in cs r → with_new cs r n ≡ None
unfolding with_new
with_new-none cs r n h = rw (ne_eqb (count_in cs r) 0 (λ e. absurd (omega arith))) refl

-- one more count
pub one_more : (cs more : Counts) (before after all : Members) (name : List ℕ) (d : Data) (c : CidrValue × ℕ) → counts_after cs before ≡ counts_after [] all → before ≡ member name d after → block_counted name d ≡ Some c → count_in cs c.0 ≡ 0 → more ≡ ins cs c.0 c.1 → counts_after more after ≡ counts_after [] all
one_more cs more before after all name d c same step is none added =
    ap (λ l. counts_after l after) added ∙ sym (with_first cs name d after c is none) ∙ sym (ap (counts_after cs) step) ∙ same

-- ---- an ordered map of counts

-- the order of the map's keys is that of blocks
same_order : ghosts.cmp ≡ cidr_cmp
same_order = λ i x y. derived-is x y i

some_count : (test : CidrValue → Bool) (cs : Counts) (n : ℕ) → All IsCount cs → lookup test cs ≡ Some n → 0 < n
some_count test [] n each e = absurd cc
some_count test (c ∷ cs) n each e = at (test c.0) (All-head IsCount c cs each).some (λ k. some_count test cs n (All-tail IsCount c cs each) k) e
  where
    at : (b : Bool) → 0 < c.1 → (lookup test cs ≡ Some n → 0 < n) → cond b (Some c.1) (lookup test cs) ≡ Some n → 0 < n
    at true some later k = let same : c.1 ≡ n = cc in rw (← same) some
    at false some later k = later k

found_at : (cs : Counts) (block : CidrValue) (o : Option ℕ) → o ≡ lookup (is_at (ghosts.cmp block)) cs → o ≡ lookup (is_at (cidr_cmp block)) cs
found_at cs block o e = e ∙ ap (λ (R : CidrValue → CidrValue → Ordering). lookup (is_at (R block)) cs) same_order

pub count_added : (cs new : Counts) (block : CidrValue) (n : ℕ) (o : Option ℕ) (r : Bool) → is_some o ≡ not r → o ≡ lookup (is_at (ghosts.cmp block)) cs → new ≡ insert_entry ghosts.cmp cs block n → OnTrue r (AddsCount cs new block n)
count_added cs new block n None true told e added = record {
  counts = added ∙ ap (λ (R : CidrValue → CidrValue → Ordering). insert_entry R cs block n) same_order;
  absent = ap (λ o. unwrap_or o 0) (sym (found_at cs block None e));
}
count_added cs new block n (Some m) true told e added = absurd cc
count_added cs new block n o false told e added = tt

pub count_there : (cs : Counts) (block : CidrValue) (o : Option ℕ) (r : Bool) → AreCounts cs → is_some o ≡ not r → o ≡ lookup (is_at (ghosts.cmp block)) cs → OnFalse r (0 < count_in cs block)
count_there cs block o true sound told e = tt
count_there cs block None false sound told e = absurd cc
count_there cs block (Some m) false sound told e =
    let here = found_at cs block (Some m) e in
    let some = some_count (is_at (cidr_cmp block)) cs m sound.each (sym here) in
    let is : m ≡ count_in cs block = ap (λ o. unwrap_or o 0) here in
    rw (← is) some

pub no_counts : (cs : Counts) → cs ≡ [] → AreCounts cs
unfolding IsStrictlySortedBy
no_counts cs none = subst AreCounts (sym none) (record { ascending = tt; each = All-nil IsCount })

-- one member more is counted
pub sound_added : (cs more : Counts) (name : List ℕ) (d : Data) (block : CidrValue) (n : ℕ) → AreCounts cs → block_counted name d ≡ Some (block, n) → more ≡ ins cs block n → AreCounts more
sound_added cs more name d block n sound is added =
    let one = counted-is name d (block, n) is in
    let entry : IsCount (block, n) = record { range = one.small.range; some = one.some; small = one.fits } in
    subst AreCounts (sym added) (record {
      ascending = sorted-insert_entry cidr_cmp_total block n cs sound.ascending;
      each = All-insert_entry cidr_cmp_total block n cidr_cmp_exact IsCount cs entry sound.each;
    })

pub repeated : (cs : Counts) (before after all : Members) (name : List ℕ) (d : Data) (c : CidrValue × ℕ) → counts_after cs before ≡ counts_after [] all → before ≡ member name d after → block_counted name d ≡ Some c → 0 < count_in cs c.0 → None ≡ counts_after [] all
repeated cs before after all name d c same step is some =
    let ends : counts_after cs (member name d after) ≡ None = rw (is, with_new-none cs c.0 c.1 some) refl in
    sym (sym same ∙ ap (counts_after cs) step ∙ ends)
