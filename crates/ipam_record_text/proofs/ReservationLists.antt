-- The body of reservations is read back.
use Rattle.std.proofs.Common.{◌≡◌, ℕ, ◌<◌, ◌≤◌, List, [], ◌∷◌, ◌++◌, codes, map, length, length-append, Bool, true, false, not, ◌||◌, Option, Some, None, Ok, Result, Err, IfOk, nat_lt, nat_le, bytes_eq, refl, sym, subst, ap, ◌∙◌, arith, lt-ltb, ltb-true, le-leb, append_assoc, append-nil}
use Rattle.std.specs.List.{AllByRecursion, IsDistinct, list_any}
use Rattle.std.specs.Option.{ok_or}
use Rattle.std.proofs.lemmas.Bool.{and_parts, not-true, leb-true}
use Rattle.std.proofs.lemmas.Map.Keys.{IsDistinct-push}
use Rattle.std.proofs.lemmas.Option.{cond_some}
use Rattle.std.specs.Cmp.Lexicographic.{nat_list_eq_equiv}
use Rattle.std.proofs.Common.{◌≢◌, get_or}
use Rattle.std.specs.Prelude.{AllPairs}
use Rattle.std.proofs.lemmas.List.{get_or-map, length-map}
use Rattle.std.proofs.lemmas.List.Elements.{All-from_recursion, recursion_from_All, All-weaker}
use Rattle.std.proofs.lemmas.Map.Made.{AllPairs-from_IsDistinct, IsDistinct-from_AllPairs}
use Rattle.std.proofs.lemmas.Slice.Eq.{bytes_eq-Decides}
use Rattle.serde_json.specs.Data.{Data, Items, no_items, item}
use Rattle.serde_json.specs.Find.{as_str}
use Rattle.serde_json.specs.Read.{read}
use Rattle.serde_json.specs.View.{items_of}
use Rattle.serde_json.specs.Written.{has_float, items_have_float}
use Rattle.ipam_addr.specs.Shape.{CidrValue}
use Rattle.ipam_addr.specs.Width.{IsCidr}
use Rattle.ipam_addr.specs.Names.{is_name_text}
use Rattle.ipam_json.specs.Canonical.{IsCanonical, IsCanonicalWithin}
use Rattle.ipam_json.proofs.ReadsBack.{read-compact_text}
use Rattle.ipam_json.proofs.Constructors.{IsCanonicalWithin-array, IsCanonicalWithin-string}
use Rattle.ipam_pool.specs.Shape.{ReservationValue}
use Rattle.ipam_record_text.specs.declared.fault.BodyFault.{BodyFault}
use Rattle.ipam_record_text.specs.declared.fault.BodyFault.TheVariants.{Form, Table, Memory}
use Rattle.ipam_json.specs.Held.{held}
use Rattle.ipam_json.specs.Members.{◌>>=◌, only_if, items_at}
use Rattle.ipam_record_text.specs.Blocks.{cidr_of, name_at}
use Rattle.ipam_record_text.specs.Reservations.{cidr_data, reservation_data, reservations_data, reservations_body, IsReservation, IsReservationsRecord, cidr_in, cidrs_after, named_cidrs, reservation_in, may_follow, reservations_after, reservations_in, reservations_reading}
use Rattle.ipam_record_text.proofs.Held.{reading-held, unheld-text, reading-told}
use Rattle.ipam_record_text.proofs.Parts.{cidr_of-is, cidr_of-text, name_at-is, name_of-name}
use Rattle.ipam_json.proofs.Held.{held-was, held-text}
use Rattle.ipam_json.proofs.MemberLemmas.{then-is}

-- a reservation as it is read, item by item
pub record IsSoundReservation (r : ReservationValue) : Type 0 where
  pub name : is_name_text r.name ≡ true
  pub few : length r.cidrs ≤ 64
  pub cidrs : AllByRecursion IsCidr r.cidrs

abbrev pub names_of : List ReservationValue → List (List ℕ)
names_of rs = map (λ r. r.name) rs

pub record AreSoundReservations (rs : List ReservationValue) : Type 0 where
  pub few : length rs ≤ 256
  pub each : AllByRecursion IsSoundReservation rs
  pub names : IsDistinct bytes_eq (names_of rs)

named : List ℕ → ReservationValue
named name = record { name = name; cidrs = [] }

name_there : (rs : List ReservationValue) (i : ℕ) (d : List ℕ) → i < length rs → get_or (names_of rs) i d ≡ (get_or rs i (named d)).name
name_there rs i d within = get_or-map (λ (r : ReservationValue). r.name) rs i (named d) d within

other_names : (rs : List ReservationValue) → AllPairs (λ r s. r.name ≢ s.name) rs → AllPairs (λ (x : List ℕ) (y : List ℕ). x ≢ y) (names_of rs)
other_names rs h i j d before within =
    let long = length-map rs (λ (r : ReservationValue). r.name) in
    let last : j < length rs = omega arith in
    λ same. h i j (named d) before last (sym (name_there rs i d (omega arith)) ∙ same ∙ name_there rs j d last)

own_names : (rs : List ReservationValue) → AllPairs (λ (x : List ℕ) (y : List ℕ). x ≢ y) (names_of rs) → AllPairs (λ r s. r.name ≢ s.name) rs
own_names rs h i j d before within =
    let name = λ (r : ReservationValue). r.name in
    let long = length-map rs name in
    λ same. h i j d.name before (omega arith) (get_or-map name rs i d d.name (omega arith) ∙ same ∙ sym (get_or-map name rs j d d.name within))

reservation_there : (r : ReservationValue) → IsReservation r → IsSoundReservation r
reservation_there r h = record { name = h.name; few = h.few; cidrs = recursion_from_All IsCidr r.cidrs h.ranges }

reservation_kept : (r : ReservationValue) → IsSoundReservation r → IsReservation r
reservation_kept r h = record { name = h.name; few = h.few; ranges = All-from_recursion IsCidr r.cidrs h.cidrs }

kept_reservations : (rs : List ReservationValue) → IsReservationsRecord rs → AreSoundReservations rs
kept_reservations rs h = record {
  few = h.few;
  each = recursion_from_All IsSoundReservation rs (All-weaker IsReservation IsSoundReservation reservation_there rs h.each);
  names = IsDistinct-from_AllPairs bytes_eq-Decides (names_of rs) (other_names rs h.names);
}

read_reservations : (rs : List ReservationValue) → AreSoundReservations rs → IsReservationsRecord rs
read_reservations rs h = record {
  few = h.few;
  each = All-weaker IsSoundReservation IsReservation reservation_kept rs (All-from_recursion IsSoundReservation rs h.each);
  names = own_names rs (AllPairs-from_IsDistinct bytes_eq-Decides (names_of rs) h.names);
}

items_have_float-cidrs : (cidrs : List CidrValue) → items_have_float (items_of (map cidr_data cidrs)) ≡ false
items_have_float-cidrs [] = refl
items_have_float-cidrs (c ∷ cidrs) = items_have_float-cidrs cidrs

items_have_float-reservations : (rs : List ReservationValue) → items_have_float (items_of (map reservation_data rs)) ≡ false
unfolding reservation_data
items_have_float-reservations [] = refl
items_have_float-reservations (r ∷ rs) = rw (items_have_float-cidrs r.cidrs) (items_have_float-reservations rs)

pub has_float-reservations_data : (rs : List ReservationValue) → has_float (reservations_data rs) ≡ false
unfolding reservations_data
has_float-reservations_data rs = rw (items_have_float-reservations rs) refl

AllByRecursion-push : {A : Type 0} (P : A → Type 0) (xs : List A) (x : A) → AllByRecursion P xs → P x → AllByRecursion P (xs ++ x ∷ [])
AllByRecursion-push P [] x h k = (k, tt)
AllByRecursion-push P (y ∷ xs) x h k = (h.0, AllByRecursion-push P xs x h.1 k)

-- ---- what is found is sound

pub cidr_in-is : (d : Data) (r : CidrValue) → cidr_in d ≡ Some r → IsCidr r
unfolding cidr_in
cidr_in-is d r e = then-is cidr_of IsCidr cidr_of-is (as_str d) r e

cidrs_after-is : (there : List CidrValue) (ds : Items) (cidrs : List CidrValue) → cidrs_after there ds ≡ Some cidrs → AllByRecursion IsCidr there → AllByRecursion IsCidr cidrs
cidrs_after-is there no_items cidrs e h = let same : there ≡ cidrs = cc in rw (← same) h
cidrs_after-is there (item d ds) cidrs e h =
    next (cidr_in d) refl e (λ c k e'. cidrs_after-is (there ++ c ∷ []) ds cidrs e' k)
  where
    next : (found : Option CidrValue) → cidr_in d ≡ found → (found >>= λ c. cidrs_after (there ++ c ∷ []) ds) ≡ Some cidrs → ((c : CidrValue) → AllByRecursion IsCidr (there ++ c ∷ []) → cidrs_after (there ++ c ∷ []) ds ≡ Some cidrs → AllByRecursion IsCidr cidrs) → AllByRecursion IsCidr cidrs
    next (Some c) is e' more = more c (AllByRecursion-push IsCidr there c h (cidr_in-is d c is)) e'
    next None is e' more = cc

named_cidrs-is : (name : List ℕ) (cidrs : List CidrValue) (r : ReservationValue) → is_name_text name ≡ true → AllByRecursion IsCidr cidrs → named_cidrs name cidrs ≡ Some r → IsSoundReservation r
unfolding named_cidrs
named_cidrs-is name cidrs r is all e =
    let (few, same) = cond_some (nat_le (length cidrs) 64) (record { name = name; cidrs = cidrs }) r e in
    subst IsSoundReservation same (record { name = is; few = leb-true _ _ few; cidrs = all })

reservation_in-sound : (d : Data) (r : ReservationValue) → reservation_in d ≡ Some r → IsSoundReservation r
unfolding reservation_in
reservation_in-sound d r e = go (name_at (codes "name") d) (items_at (codes "reservedCIDRs") d) refl e
  where
    cidrs : (name : List ℕ) (items : Items) → is_name_text name ≡ true → (o : Option (List CidrValue)) → cidrs_after [] items ≡ o → (o >>= λ cs. named_cidrs name cs) ≡ Some r → IsSoundReservation r
    cidrs name items is (Some cs) found e' = named_cidrs-is name cs r is (cidrs_after-is [] items cs found tt) e'
    cidrs name items is None found e' = cc

    go : (name : Option (List ℕ)) (items : Option Items) → name_at (codes "name") d ≡ name → (name >>= λ n. items >>= λ ds. cidrs_after [] ds >>= λ cs. named_cidrs n cs) ≡ Some r → IsSoundReservation r
    go (Some name) (Some items) is e' = cidrs name items (name_at-is (codes "name") d name is) (cidrs_after [] items) refl e'
    go (Some name) None is e' = cc
    go None items is e' = cc

names_of-push : (rs : List ReservationValue) (r : ReservationValue) → names_of (rs ++ r ∷ []) ≡ names_of rs ++ r.name ∷ []
names_of-push [] r = refl
names_of-push (q ∷ rs) r = ap (λ l. q.name ∷ l) (names_of-push rs r)

list_any-names : (name : List ℕ) (rs : List ReservationValue) → list_any (bytes_eq name) (names_of rs) ≡ list_any (λ other. bytes_eq name other.name) rs
list_any-names name [] = refl
list_any-names name (r ∷ rs) = ap (λ b. bytes_eq name r.name || b) (list_any-names name rs)

-- one more reservation that may follow
sound_more : (rs : List ReservationValue) (r : ReservationValue) → AreSoundReservations rs → IsSoundReservation r → may_follow rs r ≡ true → AreSoundReservations (rs ++ r ∷ [])
unfolding may_follow
sound_more rs r h one may =
    let (few, apart) = and_parts (nat_lt (length rs) 256) (not (list_any (λ other. bytes_eq r.name other.name) rs)) may in
    let new : list_any (bytes_eq r.name) (names_of rs) ≡ false = list_any-names r.name rs ∙ not-true _ apart in
    record {
      few = omega (arith, length-append rs (r ∷ []), ltb-true _ _ few);
      each = AllByRecursion-push IsSoundReservation rs r h.each one;
      names = rw (names_of-push rs r) (IsDistinct-push nat_list_eq_equiv (names_of rs) r.name h.names new);
    }

reservations_after-sound : (there : List ReservationValue) (ds : Items) (rs : List ReservationValue) → reservations_after there ds ≡ Some rs → AreSoundReservations there → AreSoundReservations rs
reservations_after-sound there no_items rs e h = let same : there ≡ rs = cc in rw (← same) h
reservations_after-sound there (item d ds) rs e h =
    next (reservation_in d) refl e (λ r k e'. reservations_after-sound (there ++ r ∷ []) ds rs e' k)
  where
    follow : (r : ReservationValue) → IsSoundReservation r → (b : Bool) → may_follow there r ≡ b → (only_if b (there ++ r ∷ []) >>= λ more. reservations_after more ds) ≡ Some rs → ((s : ReservationValue) → AreSoundReservations (there ++ s ∷ []) → reservations_after (there ++ s ∷ []) ds ≡ Some rs → AreSoundReservations rs) → AreSoundReservations rs
    follow r one true may e' more = more r (sound_more there r h one may) e'
    follow r one false may e' more = cc

    next : (found : Option ReservationValue) → reservation_in d ≡ found → (found >>= λ r. only_if (may_follow there r) (there ++ r ∷ []) >>= λ more. reservations_after more ds) ≡ Some rs → ((s : ReservationValue) → AreSoundReservations (there ++ s ∷ []) → reservations_after (there ++ s ∷ []) ds ≡ Some rs → AreSoundReservations rs) → AreSoundReservations rs
    next (Some r) is e' more = follow r (reservation_in-sound d r is) (may_follow there r) refl e' more
    next None is e' more = cc

none_sound : AreSoundReservations []
unfolding IsDistinct
none_sound = record { few = omega arith; each = tt; names = tt }

reservations_in-sound : (d : Data) (rs : List ReservationValue) → reservations_in d ≡ Some rs → AreSoundReservations rs
unfolding reservations_in
reservations_in-sound d rs e = then-is (reservations_after []) AreSoundReservations (λ ds found e'. reservations_after-sound [] ds found e' none_sound) (items_at (codes "reservations") d) rs e

pub reservations_held : (body : List ℕ) (rs : List ReservationValue) → held reservations_in reservations_body body ≡ Some rs → IsReservationsRecord rs × (body ≡ reservations_body rs)
reservations_held body rs e =
    let was = held-was reservations_in reservations_body body rs e in
    (read_reservations rs (reservations_in-sound was.json rs was.was_found), sym was.is_text)

pub reservations_read : (body : List ℕ) (rs : List ReservationValue) → reservations_reading body ≡ Ok rs → (body ≡ reservations_body rs) × IsReservationsRecord rs
unfolding reservations_reading
reservations_read body rs e = let is = reservations_held body rs (reading-held _ rs e) in (is.1, is.0)

-- ---- sound reservations are found in their JSON

pub cidr_in-cidr_data : (r : CidrValue) → IsCidr r → cidr_in (cidr_data r) ≡ Some r
unfolding cidr_in
cidr_in-cidr_data r h = cidr_of-text r h

pub cidrs_back : (there cidrs : List CidrValue) → AllByRecursion IsCidr cidrs → cidrs_after there (items_of (map cidr_data cidrs)) ≡ Some (there ++ cidrs)
cidrs_back there [] h = ap Some (sym (append-nil there))
cidrs_back there (c ∷ cidrs) h =
    rw (cidr_in-cidr_data c h.0) (cidrs_back (there ++ c ∷ []) cidrs h.1 ∙ ap Some (append_assoc there (c ∷ []) cidrs))

reservation_back : (r : ReservationValue) → IsSoundReservation r → reservation_in (reservation_data r) ≡ Some r
unfolding reservation_in reservation_data named_cidrs
reservation_back r h = rw (name_of-name r.name h.name, cidrs_back [] r.cidrs h.cidrs, le-leb (length r.cidrs) 64 h.few) refl

-- a name apart from those after it, seen from one of them
apart_later : (name other : List ℕ) (rs left : List ReservationValue) (r : ReservationValue) → AllByRecursion (λ y. bytes_eq name y ≡ false) (names_of (rs ++ r ∷ left)) → bytes_eq name r.name ≡ false
apart_later name other [] left r h = h.0
apart_later name other (q ∷ rs) left r h = apart_later name other rs left r h.1

new_name : (rs left : List ReservationValue) (r : ReservationValue) → IsDistinct bytes_eq (names_of (rs ++ r ∷ left)) → list_any (λ other. bytes_eq r.name other.name) rs ≡ false
unfolding IsDistinct
new_name [] left r h = refl
new_name (q ∷ rs) left r h =
    let first : bytes_eq r.name q.name ≡ false = nat_list_eq_equiv.symm r.name q.name ∙ apart_later q.name r.name rs left r h.0 in
    rw first (new_name rs left r h.1)

may_follow-distinct : (rs left : List ReservationValue) (r : ReservationValue) → length (rs ++ r ∷ left) ≤ 256 → IsDistinct bytes_eq (names_of (rs ++ r ∷ left)) → may_follow rs r ≡ true
unfolding may_follow
may_follow-distinct rs left r few h =
    let below : length rs < 256 = omega (arith, length-append rs (r ∷ left)) in
    rw (lt-ltb (length rs) 256 below, new_name rs left r h) refl

reservations_back : (there rs : List ReservationValue) → AllByRecursion IsSoundReservation rs → length (there ++ rs) ≤ 256 → IsDistinct bytes_eq (names_of (there ++ rs)) → reservations_after there (items_of (map reservation_data rs)) ≡ Some (there ++ rs)
reservations_back there [] each few names = ap Some (sym (append-nil there))
reservations_back there (r ∷ rs) each few names =
    let whole = append_assoc there (r ∷ []) rs in
    rw (reservation_back r each.0, may_follow-distinct there rs r few names)
    (reservations_back (there ++ r ∷ []) rs each.1 (subst (λ l. length l ≤ 256) (sym whole) few) (subst (λ l. IsDistinct bytes_eq (names_of l)) (sym whole) names) ∙ ap Some whole)

reservations_in-reservations_data : (rs : List ReservationValue) → AreSoundReservations rs → reservations_in (reservations_data rs) ≡ Some rs
unfolding reservations_in reservations_data
reservations_in-reservations_data rs h = reservations_back [] rs h.each h.few h.names

cidrs_canonical : (cidrs : List CidrValue) → AllByRecursion (IsCanonicalWithin 0) (map cidr_data cidrs)
cidrs_canonical [] = tt
cidrs_canonical (c ∷ cidrs) = (IsCanonicalWithin-string 0 _, cidrs_canonical cidrs)

reservation_canonical : (r : ReservationValue) → IsCanonicalWithin 2 (reservation_data r)
unfolding reservation_data
reservation_canonical r =
    let list = IsCanonicalWithin-array 0 1 (map cidr_data r.cidrs) (omega arith) (cidrs_canonical r.cidrs) in
    record { regular = (refl, tt, (tt, list.regular, tt)); shallow = omega (arith, list.shallow) }

reservations_canonical : (rs : List ReservationValue) → AllByRecursion (IsCanonicalWithin 2) (map reservation_data rs)
reservations_canonical [] = tt
reservations_canonical (r ∷ rs) = (reservation_canonical r, reservations_canonical rs)

reservations_data-IsCanonical : (rs : List ReservationValue) → IsCanonical (reservations_data rs)
unfolding reservations_data
reservations_data-IsCanonical rs =
    let list = IsCanonicalWithin-array 2 3 (map reservation_data rs) (omega arith) (reservations_canonical rs) in
    record { regular = (tt, list.regular, tt); shallow = omega (arith, list.shallow) }

read-reservations_body : (rs : List ReservationValue) → read (reservations_body rs) ≡ Some (reservations_data rs)
unfolding reservations_body
read-reservations_body rs = read-compact_text (reservations_data rs) (reservations_data-IsCanonical rs)

reservations_body_held : (rs : List ReservationValue) → IsReservationsRecord rs → held reservations_in reservations_body (reservations_body rs) ≡ Some rs
reservations_body_held rs h =
    held-text reservations_in reservations_body rs (reservations_data rs) (read-reservations_body rs) (reservations_in-reservations_data rs (kept_reservations rs h))

pub reservations_reads_back : (rs : List ReservationValue) → IsReservationsRecord rs → reservations_reading (reservations_body rs) ≡ Ok rs
unfolding reservations_reading
reservations_reads_back rs h = ap (λ o. ok_or o Form) (reservations_body_held rs h)

-- a body in which none is held is no sound one's
pub reservations_unheld : (body : List ℕ) → held reservations_in reservations_body body ≡ None → (rs : List ReservationValue) → IsReservationsRecord rs → body ≢ reservations_body rs
reservations_unheld body none rs sound = unheld-text reservations_in reservations_body body none rs (reservations_body_held rs sound)

-- what `reservations_of` tells of a body is what is read of it
pub reservations_reading-told : (body : List ℕ) (r : Result (List ReservationValue) BodyFault) → IfOk r (λ rs. IsReservationsRecord rs × (body ≡ reservations_body rs)) → (r ≡ Err Form → (rs : List ReservationValue) → IsReservationsRecord rs → body ≢ reservations_body rs) → r ≢ Err Table → r ≢ Err Memory → reservations_reading body ≡ r
unfolding reservations_reading
reservations_reading-told body r = reading-told reservations_in reservations_body IsReservationsRecord reservations_held reservations_body_held body r
