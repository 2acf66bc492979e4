-- A pool table's body is read back.
use Rattle.std.proofs.Common.{◌≡◌, ℕ, ◌^◌, ◌<◌, List, [], ◌∷◌, ◌++◌, codes, map, Bool, true, false, Option, Some, None, option_map, Result, Ok, Err, IfOk, IfErr, inl, inr, nat_lt, refl, sym, ap, ◌∙◌, arith, lt-ltb, ltb-true, append_assoc, append-nil}
use Rattle.std.specs.Prelude.{is_none, IsNone, IfSome, IsOkUnless, ◌≢◌, ◌&&◌}
use Rattle.std.specs.List.{AllByRecursion}
use Rattle.std.proofs.lemmas.Bool.{cases_Bool}
use Rattle.std.proofs.lemmas.Option.{cond_some, same_Some, option_and_then_some}
use Rattle.std.specs.Prelude.{if◌then◌else◌}
use Rattle.serde_json.specs.Data.{Data, Items, no_items, item, object}
use Rattle.serde_json.specs.Read.{read}
use Rattle.serde_json.specs.View.{items_of}
use Rattle.serde_json.specs.Written.{has_float, items_have_float}
use Rattle.ipam_addr.specs.Shape.{CidrValue}
use Rattle.ipam_json.specs.Canonical.{IsCanonical, IsCanonicalWithin}
use Rattle.ipam_json.proofs.ReadsBack.{read-compact_text}
use Rattle.ipam_json.proofs.Constructors.{IsCanonicalWithin-array}
use Rattle.ipam_pool.specs.Changes.{refusal_of}
use Rattle.ipam_pool.specs.declared.pools.Pool.{Pool}
use Rattle.ipam_pool.specs.declared.pools.PoolRefusal.{PoolRefusal}
use Rattle.ipam_pool.specs.declared.pools.PoolRefusal.TheVariants.{NameTaken, Overlap, Size, Prefix, TooMany, Memory as OutOfMemory}
use Rattle.ipam_record_text.specs.declared.fault.BodyFault.{BodyFault}
use Rattle.ipam_record_text.specs.declared.fault.BodyFault.TheVariants.{Form, Table, Memory as NoMemory}
use Rattle.ipam_json.specs.Members.{◌>>=◌, only_if, truth_at, number_at, items_at}
use Rattle.ipam_json.specs.Held.{held}
use Rattle.ipam_record_text.specs.Blocks.{cidr_at, name_at}
use Rattle.ipam_json.specs.Built.{Field, members_from, object_of}
use Rattle.ipam_pool.specs.declared.pools.Mode.{Mode}
use Rattle.ipam_pool.specs.declared.pools.Mode.TheVariants.{Automatic, Manual}
use Rattle.ipam_select.specs.Formula.{Formula, every}
use Rattle.ipam_select.specs.Every.{is_every}
use Rattle.ipam_select.specs.Sound.{is_sound}
use Rattle.ipam_record_text.specs.Rules.{mode_fields, selector_fields_unless, selector_fields, with_fields, mode_kept_in, node_selector_in, selector_said}
use Rattle.ipam_record_text.proofs.RuleLemmas.{selector_of-is, selector_of-printed, every_or}
use Rattle.ipam_record_text.specs.Pools.{plain_fields, pool_data, pools_data, pools_body, plain_in, pool_in, pool_list_in, pools_after, size_at, are_added, table_of, refusal_fault, pools_reading, IsSoundPool, IsPoolsRecord, HasRefusedPool}
use Rattle.ipam_record_text.proofs.Standing.{standing_table, added_stands}
use Rattle.ipam_json.proofs.Held.{held-was, held-text}
use Rattle.ipam_json.proofs.MemberLemmas.{then-is}
use Rattle.ipam_record_text.proofs.Parts.{cidr_at-is, cidr_of-text, name_at-is, name_of-name}

-- the fields of a pool, by its mode and whether it is for all nodes
abbrev fields_by : Mode → Bool → Pool → List Field
fields_by mode all p = mode_fields mode ++ (plain_fields p ++ selector_fields_unless all p.selector)

has_float-fields_by : (mode : Mode) (all : Bool) (p : Pool) → has_float (object_of (fields_by mode all p)) ≡ false
has_float-fields_by Automatic true p = refl
has_float-fields_by Automatic false p = refl
has_float-fields_by Manual true p = refl
has_float-fields_by Manual false p = refl

has_float-pool_data : (p : Pool) → has_float (pool_data p) ≡ false
unfolding pool_data
has_float-pool_data p = has_float-fields_by p.mode (is_every p.selector) p

put_fields_by : (mode : Mode) (all : Bool) (p : Pool) → with_fields (selector_fields_unless all p.selector) (with_fields (mode_fields mode) (members_from (plain_fields p))) ≡ members_from (fields_by mode all p)
put_fields_by Automatic true p = refl
put_fields_by Automatic false p = refl
put_fields_by Manual true p = refl
put_fields_by Manual false p = refl

-- the mode and the selector that are put among the other members make the pool's object
pub put_fields : (p : Pool) → object (with_fields (selector_fields p.selector) (with_fields (mode_fields p.mode) (members_from (plain_fields p)))) ≡ pool_data p
unfolding pool_data
put_fields p = ap object (put_fields_by p.mode (is_every p.selector) p)

items_have_float-pools : (pools : List Pool) → items_have_float (items_of (map pool_data pools)) ≡ false
items_have_float-pools [] = refl
items_have_float-pools (p ∷ pools) = rw (has_float-pool_data p) (items_have_float-pools pools)

pub has_float-pools_data : (pools : List Pool) → has_float (pools_data pools) ≡ false
unfolding pools_data
has_float-pools_data pools = rw (items_have_float-pools pools) refl

-- ---- what is found is sound

size_at-is : (name : List ℕ) (d : Data) (n : ℕ) → size_at name d ≡ Some n → n < 2 ^ 8
unfolding size_at
size_at-is name d n e = then-is (λ k. only_if (nat_lt k (2 ^ 8)) k) (λ k. k < 2 ^ 8) small (number_at name d) n e
  where
    small : (k m : ℕ) → only_if (nat_lt k (2 ^ 8)) k ≡ Some m → m < 2 ^ 8
    small k m e' = let (is, same) = cond_some _ k m e' in rw (← same) (ltb-true _ _ is)

-- the parts of a pool that was found
parts : (mode : Mode) (size : Option ℕ) (cidr : Option CidrValue) (disabled : Option Bool) (name : Option (List ℕ)) (p : Pool) → (size >>= λ s. cidr >>= λ c. disabled >>= λ d. name >>= λ n. Some (record { name = n; cidr = c; size = s; disabled = d; mode = mode; selector = every })) ≡ Some p → (size ≡ Some p.size) × (cidr ≡ Some p.cidr) × (name ≡ Some p.name)
parts mode (Some s) (Some c) (Some d) (Some n) p e = (ap (option_map (λ (k : Pool). k.size)) e, ap (option_map (λ (k : Pool). k.cidr)) e, ap (option_map (λ (k : Pool). k.name)) e)
parts mode (Some s) (Some c) (Some d) None p e = cc
parts mode (Some s) (Some c) None name p e = cc
parts mode (Some s) None disabled name p e = cc
parts mode None cidr disabled name p e = cc

plain_in-sound : (d : Data) (p : Pool) (selector : Formula) → plain_in d ≡ Some p → is_sound selector ≡ true → IsSoundPool (record p { selector = selector })
unfolding plain_in
plain_in-sound d p selector e sound =
    let (size, cidr, name) = parts (mode_kept_in d) (size_at (codes "blockSize") d) (cidr_at (codes "cidr") d) (truth_at (codes "disabled") d) (name_at (codes "name") d) p e in
    record {
      name = name_at-is (codes "name") d p.name name;
      cidr = cidr_at-is (codes "cidr") d p.cidr cidr;
      size = size_at-is (codes "blockSize") d p.size size;
      selector = sound;
    }

selector_said-is : (text : Option (List ℕ)) (f : Formula) → selector_said text ≡ Some f → is_sound f ≡ true
selector_said-is (Some text) f e = selector_of-is text f e
selector_said-is None f e = rw (← same_Some every f e) refl

pub pool_in-sound : (d : Data) (p : Pool) → pool_in d ≡ Some p → IsSoundPool p
unfolding pool_in
pool_in-sound d p e =
    option_and_then_some _ (plain_in d) p e (λ plain is_plain e'. option_and_then_some _ (node_selector_in d) p e' (λ f is_selector e''.
    let sound = plain_in-sound d plain f is_plain (selector_said-is _ f is_selector) in
    rw (← same_Some (record plain { selector = f }) p e'') sound))

AllByRecursion-push : {A : Type 0} (P : A → Type 0) (xs : List A) (x : A) → AllByRecursion P xs → P x → AllByRecursion P (xs ++ x ∷ [])
AllByRecursion-push P [] x h k = (k, tt)
AllByRecursion-push P (y ∷ xs) x h k = (h.0, AllByRecursion-push P xs x h.1 k)

pools_after-sound : (there : List Pool) (ds : Items) (pools : List Pool) → pools_after there ds ≡ Some pools → AllByRecursion IsSoundPool there → AllByRecursion IsSoundPool pools
pools_after-sound there no_items pools e h = rw (← same_Some there pools e) h
pools_after-sound there (item d ds) pools e h =
    next (pool_in d) refl e (λ p k e'. pools_after-sound (there ++ p ∷ []) ds pools e' k)
  where
    next : (found : Option Pool) → pool_in d ≡ found → (found >>= λ p. pools_after (there ++ p ∷ []) ds) ≡ Some pools → ((p : Pool) → AllByRecursion IsSoundPool (there ++ p ∷ []) → pools_after (there ++ p ∷ []) ds ≡ Some pools → AllByRecursion IsSoundPool pools) → AllByRecursion IsSoundPool pools
    next (Some p) is e' more = more p (AllByRecursion-push IsSoundPool there p h (pool_in-sound d p is)) e'
    next None is e' more = cc

pub pools_in-sound : (d : Data) (pools : List Pool) → pool_list_in d ≡ Some pools → AllByRecursion IsSoundPool pools
unfolding pool_list_in
pools_in-sound d pools e = then-is (pools_after []) (AllByRecursion IsSoundPool) (λ ds found e'. pools_after-sound [] ds found e' tt) (items_at (codes "pools") d) pools e

-- ---- a sound table is found in its JSON

-- what is found in the fields of a sound pool, by its mode and whether it is for all nodes
abbrev FindsBy : Mode → Bool → Pool → Type 0
FindsBy mode all p =
    pool_in (object_of (fields_by mode all p)) ≡ Some (record p { mode = mode; selector = if all then every else p.selector })

found_by : (mode : Mode) (all : Bool) (p : Pool) → IsSoundPool p → FindsBy mode all p
unfolding pool_in plain_in size_at
found_by mode all p h = by mode all
  where
    bound : p.size < 2 ^ 32
    bound = omega (arith, h.size)

    by : (m : Mode) (a : Bool) → FindsBy m a p
    by Automatic true = rw (lt-ltb p.size (2 ^ 32) bound, lt-ltb p.size (2 ^ 8) h.size, cidr_of-text p.cidr h.cidr, name_of-name p.name h.name) refl
    by Automatic false = rw (lt-ltb p.size (2 ^ 32) bound, lt-ltb p.size (2 ^ 8) h.size, cidr_of-text p.cidr h.cidr, name_of-name p.name h.name, selector_of-printed p.selector h.selector) refl
    by Manual true = rw (lt-ltb p.size (2 ^ 32) bound, lt-ltb p.size (2 ^ 8) h.size, cidr_of-text p.cidr h.cidr, name_of-name p.name h.name) refl
    by Manual false = rw (lt-ltb p.size (2 ^ 32) bound, lt-ltb p.size (2 ^ 8) h.size, cidr_of-text p.cidr h.cidr, name_of-name p.name h.name, selector_of-printed p.selector h.selector) refl

pool_in-pool_data : (p : Pool) → IsSoundPool p → pool_in (pool_data p) ≡ Some p
unfolding pool_data
pool_in-pool_data p h =
    found_by p.mode (is_every p.selector) p h ∙ ap (λ (f : Formula). Some (record p { selector = f })) (every_or p.selector)

pools_after-pools_data : (there pools : List Pool) → AllByRecursion IsSoundPool pools → pools_after there (items_of (map pool_data pools)) ≡ Some (there ++ pools)
pools_after-pools_data there [] h = ap Some (sym (append-nil there))
pools_after-pools_data there (p ∷ pools) h =
    rw (pool_in-pool_data p h.0) (pools_after-pools_data (there ++ p ∷ []) pools h.1 ∙ ap Some (append_assoc there (p ∷ []) pools))

pools_in-pools_data : (pools : List Pool) → AllByRecursion IsSoundPool pools → pool_list_in (pools_data pools) ≡ Some pools
unfolding pool_list_in pools_data
pools_in-pools_data pools h = pools_after-pools_data [] pools h

canonical_by : (mode : Mode) (all : Bool) (p : Pool) → IsSoundPool p → IsCanonicalWithin 1 (object_of (fields_by mode all p))
canonical_by Automatic true p h = record {
  regular = (refl, omega (arith, h.size), (refl, tt, (refl, tt, (tt, tt, tt))));
  shallow = omega arith;
}
canonical_by Automatic false p h = record {
  regular = (refl, omega (arith, h.size), (refl, tt, (refl, tt, (refl, tt, (tt, tt, tt)))));
  shallow = omega arith;
}
canonical_by Manual true p h = record {
  regular = (refl, tt, (refl, omega (arith, h.size), (refl, tt, (refl, tt, (tt, tt, tt)))));
  shallow = omega arith;
}
canonical_by Manual false p h = record {
  regular = (refl, tt, (refl, omega (arith, h.size), (refl, tt, (refl, tt, (refl, tt, (tt, tt, tt))))));
  shallow = omega arith;
}

pool_data-IsCanonical : (p : Pool) → IsSoundPool p → IsCanonicalWithin 1 (pool_data p)
unfolding pool_data
pool_data-IsCanonical p h = canonical_by p.mode (is_every p.selector) p h

pools_canonical : (pools : List Pool) → AllByRecursion IsSoundPool pools → AllByRecursion (IsCanonicalWithin 1) (map pool_data pools)
pools_canonical [] h = tt
pools_canonical (p ∷ pools) h = (pool_data-IsCanonical p h.0, pools_canonical pools h.1)

pools_data-IsCanonical : (pools : List Pool) → AllByRecursion IsSoundPool pools → IsCanonical (pools_data pools)
unfolding pools_data
pools_data-IsCanonical pools h =
    let list = IsCanonicalWithin-array 1 2 (map pool_data pools) (omega arith) (pools_canonical pools h) in
    record { regular = (tt, list.regular, tt); shallow = omega (arith, list.shallow) }

read-pools_body : (pools : List Pool) → AllByRecursion IsSoundPool pools → read (pools_body pools) ≡ Some (pools_data pools)
unfolding pools_body
read-pools_body pools h = read-compact_text (pools_data pools) (pools_data-IsCanonical pools h)

pub held-pools_body : (pools : List Pool) → AllByRecursion IsSoundPool pools → held pool_list_in pools_body (pools_body pools) ≡ Some pools
held-pools_body pools h = held-text pool_list_in pools_body pools (pools_data pools) (read-pools_body pools h) (pools_in-pools_data pools h)

-- ---- the body of a table

-- what is read of the pools that are held
table_of-is : (found : Option (List Pool)) (pools : List Pool) → table_of found ≡ Ok pools → (found ≡ Some pools) × (are_added [] pools ≡ true)
unfolding table_of
table_of-is None pools e = cc
table_of-is (Some ps) pools e = elim (cases_Bool (are_added [] ps)) [
  | inl added ↦
      let k : ◌≡◌ {A = Result (List Pool) BodyFault} (Ok ps) (Ok pools) = rw added at e in
      let same : ps ≡ pools = cc in
      (ap Some same, rw (← same) added)
  | inr refused ↦ let k = rw refused at e in cc
]

pub pools_read : (body : List ℕ) (pools : List Pool) → pools_reading body ≡ Ok pools → (body ≡ pools_body pools) × IsPoolsRecord pools
unfolding pools_reading
pools_read body pools e =
    let (is_held, added) = table_of-is (held pool_list_in pools_body body) pools e in
    let was = held-was pool_list_in pools_body body pools is_held in
    (sym was.is_text, added_stands pools (record { each = pools_in-sound was.json pools was.was_found; added = added }))

pub pools_reads_back : (pools : List Pool) → IsPoolsRecord pools → pools_reading (pools_body pools) ≡ Ok pools
unfolding pools_reading table_of
pools_reads_back pools h = let is = standing_table pools h in rw (held-pools_body pools is.each, is.added) refl

read_of-pools_body : (body : List ℕ) (pools : List Pool) → AllByRecursion IsSoundPool pools → body ≡ pools_body pools → pools_reading body ≡ table_of (Some pools)
unfolding pools_reading
read_of-pools_body body pools h same = ap (λ b. table_of (held pool_list_in pools_body b)) same ∙ ap table_of (held-pools_body pools h)

-- a body in which none are held is out of form
pub unheld_form : (body : List ℕ) → held pool_list_in pools_body body ≡ None → pools_reading body ≡ Err Form
unfolding pools_reading table_of
unheld_form body none = ap table_of none

-- where pools are held, what is refused of their table is refused of the body
pub held_refused : (body : List ℕ) (pools : List Pool) (r : Result (List Pool) BodyFault) → held pool_list_in pools_body body ≡ Some pools → IfErr r (λ e. e ≢ NoMemory → table_of (Some pools) ≡ Err e) → IfErr r (λ e. e ≢ NoMemory → pools_reading body ≡ Err e)
unfolding pools_reading
held_refused body pools (Ok t) found told = tt
held_refused body pools (Err e) found told = λ other. ap table_of found ∙ told other

-- a body of the wrong form is that of no sound pools
pub form_unread : (body : List ℕ) → pools_reading body ≡ Err Form → (pools : List Pool) → AllByRecursion IsSoundPool pools → body ≢ pools_body pools
unfolding table_of
form_unread body e pools h same = elim (cases_Bool (are_added [] pools)) [
  | inl added ↦
      let k : ◌≡◌ {A = Result (List Pool) BodyFault} (Err Form) (Ok pools) = sym e ∙ read_of-pools_body body pools h same ∙ rw added refl in
      cc
  | inr refused ↦
      let k : ◌≡◌ {A = Result (List Pool) BodyFault} (Err Form) (Err Table) = sym e ∙ read_of-pools_body body pools h same ∙ rw refused refl in
      cc
]

table_of-refused : (found : Option (List Pool)) → table_of found ≡ Err Table → (pools : List Pool) × (found ≡ Some pools) × (are_added [] pools ≡ false)
unfolding table_of
table_of-refused None e = cc
table_of-refused (Some pools) e = elim (cases_Bool (are_added [] pools)) [
  | inl added ↦ let k : ◌≡◌ {A = Result (List Pool) BodyFault} (Ok pools) (Err Table) = rw added at e in cc
  | inr refused ↦ (pools, refl, refused)
]

pub table_unread : (body : List ℕ) → pools_reading body ≡ Err Table → HasRefusedPool body
unfolding pools_reading
table_unread body e =
    let (pools, is_held, refused) = table_of-refused (held pool_list_in pools_body body) e in
    let was = held-was pool_list_in pools_body body pools is_held in
    record {
      pools = pools;
      each = pools_in-sound was.json pools was.was_found;
      is_body = sym was.is_text;
      refused = refused;
    }

refused_table : (pools : List Pool) → are_added [] pools ≡ false → table_of (Some pools) ≡ Err Table
unfolding table_of
refused_table pools refused = rw refused refl

-- what `pools_of` tells of a body is what is read of it
pub pools_reading-told : (body : List ℕ) (r : Result (List Pool) BodyFault) → IfOk r (λ t. IsPoolsRecord t × (body ≡ pools_body t)) → (r ≡ Err Form → (pools : List Pool) → AllByRecursion IsSoundPool pools → body ≢ pools_body pools) → (r ≡ Err Table → HasRefusedPool body) → r ≢ Err NoMemory → pools_reading body ≡ r
unfolding pools_reading table_of
pools_reading-told body (Ok t) told form table no_memory = ap pools_reading told.1 ∙ pools_reads_back t told.0
pools_reading-told body (Err Form) told form table no_memory = go (held pool_list_in pools_body body) refl
  where
    go : (o : Option (List Pool)) → held pool_list_in pools_body body ≡ o → table_of o ≡ Err Form
    go None is = refl
    go (Some pools) is =
        let was = held-was pool_list_in pools_body body pools is in
        absurd (form refl pools (pools_in-sound was.json pools was.was_found) (sym was.is_text))
pools_reading-told body (Err Table) told form table no_memory =
    let has = table refl in
    read_of-pools_body body has.pools has.each has.is_body ∙ refused_table has.pools has.refused
pools_reading-told body (Err NoMemory) told form table no_memory = absurd (no_memory refl)

-- ---- adding the pools

-- all pools were added
pub table_whole : (there rest all : List Pool) → rest ≡ [] → there ++ rest ≡ all → are_added there rest ≡ are_added [] all → table_of (Some all) ≡ Ok there
unfolding table_of
table_whole there rest all none whole same =
    let is : there ≡ all = sym (append-nil there) ∙ ap (λ r. there ++ r) (sym none) ∙ whole in
    let added : are_added [] all ≡ true = sym same ∙ ap (are_added there) none in
    rw added (ap Ok (sym is))

not_added : (o : Option PoolRefusal) (r : Result (Unit {0}) PoolRefusal) (e : PoolRefusal) → (IsNone o → IsOkUnless r OutOfMemory) → r ≡ Err e → e ≢ OutOfMemory → is_none o ≡ false
not_added (Some refusal) r e accepted is other = refl
not_added None (Ok u) e accepted is other = cc
not_added None (Err f) e accepted is other =
    let same : f ≡ e = cc in
    let memory : f ≡ OutOfMemory = accepted refl in
    absurd (other (sym same ∙ memory))

table_refused : (there rest all : List Pool) (p : Pool) → are_added there (p ∷ rest) ≡ are_added [] all → is_none (refusal_of there p) ≡ false → table_of (Some all) ≡ Err Table
unfolding table_of
table_refused there rest all p same refused =
    let none : are_added [] all ≡ false = sym same ∙ (rw refused refl) in
    rw none refl

-- where the next pool is refused, so is the table
pub table_fault : (there rest all : List Pool) (p : Pool) (r : Result (Unit {0}) PoolRefusal) (e : PoolRefusal) → are_added there (p ∷ rest) ≡ are_added [] all → (IsNone (refusal_of there p) → IsOkUnless r OutOfMemory) → r ≡ Err e → refusal_fault e ≢ NoMemory → table_of (Some all) ≡ Err (refusal_fault e)
table_fault there rest all p r NameTaken same accepted is other = table_refused there rest all p same (not_added _ r NameTaken accepted is (λ k. cc))
table_fault there rest all p r (Overlap place) same accepted is other = table_refused there rest all p same (not_added _ r (Overlap place) accepted is (λ k. cc))
table_fault there rest all p r Size same accepted is other = table_refused there rest all p same (not_added _ r Size accepted is (λ k. cc))
table_fault there rest all p r Prefix same accepted is other = table_refused there rest all p same (not_added _ r Prefix accepted is (λ k. cc))
table_fault there rest all p r TooMany same accepted is other = table_refused there rest all p same (not_added _ r TooMany accepted is (λ k. cc))
table_fault there rest all p r OutOfMemory same accepted is other = absurd (other refl)

-- a pool that was added was not refused
not_refused : (o : Option PoolRefusal) (r : Result (Unit {0}) PoolRefusal) (u : Unit {0}) → IfSome o (λ refusal. r ≡ Err refusal) → r ≡ Ok u → is_none o ≡ true
not_refused None r u refused is = refl
not_refused (Some refusal) r u refused is = absurd cc

-- one more pool was added
pub one_added : (there more rest all : List Pool) (p : Pool) (r : Result (Unit {0}) PoolRefusal) (u : Unit {0}) → more ≡ there ++ p ∷ [] → IfSome (refusal_of there p) (λ refusal. r ≡ Err refusal) → r ≡ Ok u → there ++ p ∷ rest ≡ all → are_added there (p ∷ rest) ≡ are_added [] all → (more ++ rest ≡ all) × (are_added more rest ≡ are_added [] all)
one_added there more rest all p r u new refused is whole same =
    let free : is_none (refusal_of there p) ≡ true = not_refused (refusal_of there p) r u refused is in
    (ap (λ l. l ++ rest) new ∙ append_assoc there (p ∷ []) rest ∙ whole, ap (λ l. are_added l rest) new ∙ sym (ap (λ b. b && are_added (there ++ p ∷ []) rest) free) ∙ same)
