-- What is read is sound, and each sound request is read of its printed text.
use Rattle.std.proofs.Common.{◌≡◌, ◌∙◌, ℕ, ◌^◌, ◌<◌, ◌==◌, Bool, true, false, List, [], ◌∷◌, codes, length, map, Option, Some, None, option_map, refl, sym, ap, arith, lt-ltb}
use Rattle.std.specs.Prelude.{bytes_eq, option_and_then, nat_lt, nat_le, All}
use Rattle.std.proofs.lemmas.Bool.{le-leb, eqb-true}
use Rattle.std.proofs.lemmas.Option.{option_and_then_some, cond_some}
use Rattle.serde_json.specs.Data.{Data, boolean, string, object, Members, no_members, member, put}
use Rattle.serde_json.specs.Find.{get, get_member, as_bool, as_str, as_object}
use Rattle.serde_json.specs.Read.{read}
use Rattle.serde_json.specs.Written.{compact_text}
use Rattle.serde_json.proofs.Views.{get_member-put}
use Rattle.ipam_json.proofs.ReadsBack.{read-compact_text}
use Rattle.ipam_json.proofs.Constructors.{AllByRecursion-All}
use Rattle.ipam_json.specs.Path.{as_whole}
use Rattle.ipam_addr.specs.Shape.{AddrValue, CidrValue}
use Rattle.ipam_addr.specs.Width.{IsAddress, IsCidr}
use Rattle.ipam_pool.specs.declared.pools.Pool.{Pool as OnePool}
use Rattle.ipam_pool.specs.declared.pools.Mode.TheVariants.{Automatic}
use Rattle.ipam_select.specs.Every.{is_every}
use Rattle.ipam_select.specs.Formula.{every}
use Rattle.ipam_block.specs.Sound.{AreAttributes}
use Rattle.ipam_record_text.specs.Pools.{IsSoundPool}
use Rattle.ipam_record_text.specs.declared.config.Config.{Config as Settings}
use Rattle.ipam_json.specs.Members.{◌>>=◌, only_if, in_32_bits, in_8_bits}
use Rattle.ipam_record_text.specs.Reservations.{cidr_in, named_cidrs, cidr_data}
use Rattle.ipam_record_text.proofs.ReservationLists.{cidr_in-cidr_data, cidrs_back}
use Rattle.ipam_pool.specs.Shape.{ReservationValue}
use Rattle.ipam_records.specs.Sound.{IsReservation}
use Rattle.ipam_model.specs.declared.request.AddRequest.{AddRequest}
use Rattle.ipam_model.specs.declared.request.Admin.{Admin}
use Rattle.ipam_model.specs.declared.request.Admin.TheVariants as change
use Rattle.ipam_model.specs.declared.request.CollectRequest.{CollectRequest}
use Rattle.ipam_model.specs.declared.request.ProbeRequest.{ProbeRequest}
use Rattle.ipam_model.specs.declared.request.Request.{Request}
use Rattle.ipam_model.specs.declared.request.Request.TheVariants.{Add, AddThis, Del, Check, Release, Collect, Admin as Change, Probe}
use Rattle.ipam_model.specs.Pairs.{Pair}
use Rattle.ipam_model.specs.SoundRequest.{IsSoundAdd, IsSoundChange, IsSoundRequest}
use Rattle.ipam_block_text.specs.Limits.{keys_ascend}
use Rattle.ipam_request_text.specs.declared.shape.Shape.{Shape}
use Rattle.ipam_request_text.specs.declared.shape.Shape.TheVariants as shape
use Rattle.ipam_request_text.specs.Shapes.{may_have, are_known, shape_named}
use Rattle.ipam_json.specs.Built.{whole_data, tagged}
use Rattle.ipam_request_text.specs.Parts.{texts_data, pairs_data, address_data, addresses_data, cidrs_data, scope_data, selector_data}
use Rattle.ipam_request_text.specs.Members.{with_text, unless, where_true, where_false, where_some_number, where_some_texts, where_some_pairs, where_manual, where_selective, where_scope, wishes}
use Rattle.ipam_request_text.specs.Requests.{add_members, collect_members, probe_members, pool_members, config_members, change_data, request_data, request_text}
use Rattle.ipam_request_text.specs.Fields.{found_or, truth_or, number_in, texts_in, pairs_in, address_in, mode_in, selector_in, scope_in}
use Rattle.ipam_request_text.specs.Reading.{probe_in, add_like_probe, add_in, asked_in, any_add_in, check_in, release_in, collect_in, one_pool_in, disable_in, reserve_in, settings_in, shaped_in, known_in, named_in, request_in_data, sound_request_in, request_reading}
use Rattle.ipam_request_text.specs.Tests.{is_sound_request}
use Rattle.ipam_block_text.proofs.PairKeys.{sorted_keys}
use Rattle.ipam_request_text.proofs.SoundTests.{sound_there, sound_back}
use Rattle.ipam_request_text.proofs.Gets.{Apart, past_put, past_unless, past_true, past_false, past_mode, true_read, false_read, number_read, texts_in-texts, texts_read, pairs_read, mode_read, selector_read, scope_read, address_read, addresses_read, known_put, known_unless, known_true, known_false, known_mode, known_scope}
use Rattle.ipam_request_text.proofs.Canonical.{request_canonical}

-- ---- what is read is sound

pub read_sound : (text : List ℕ) (r : Request) → request_reading text ≡ Some r → IsSoundRequest r
unfolding request_reading sound_request_in
read_sound text r e =
    option_and_then_some _ (read text) r e (λ d found e1.
    option_and_then_some _ (request_in_data d) r e1 (λ q found2 e2.
    let parts = cond_some (is_sound_request q) q r e2 in
    sound_back r (sym (ap is_sound_request parts.1) ∙ parts.0)))

-- ---- steps of a reading

bind : {A B : Type 0} (o : Option A) (a : A) (f : A → Option B) → o ≡ Some a → (o >>= f) ≡ f a
bind o a f e = ap (λ found. found >>= f) e

-- the families, labels and pools that are wanted are read of members that hold them
abbrev pub Same : (outer inner : Members) → Type 0
Same outer inner = (q : List ℕ) → Apart q (codes "secondary") → Apart q (codes "address") → get_member q outer ≡ get_member q inner

probe_told : (outer base : Members) (r : ProbeRequest) → keys_ascend r.labels ≡ true → Same outer (wishes r.ipv4 r.ipv6 r.labels r.pools4 r.pools6 base) → get_member (codes "ipv4") base ≡ None → get_member (codes "ipv6") base ≡ None → get_member (codes "labels") base ≡ None → get_member (codes "pools4") base ≡ None → get_member (codes "pools6") base ≡ None → get_member (codes "node") base ≡ Some (string r.node) → probe_in (object outer) ≡ Some r
unfolding probe_in wishes
probe_told outer base r up same no4 no6 nol nop4 nop6 node =
    let m4 = where_false r.ipv4 (codes "ipv4") base in
    let m6 = where_true r.ipv6 (codes "ipv6") m4 in
    let ml = where_some_pairs r.labels (codes "labels") m6 in
    let mp = where_some_texts r.pools4 (codes "pools4") ml in
    let past6 : (q : List ℕ) → Apart q (codes "pools6") → get_member q (where_some_texts r.pools6 (codes "pools6") mp) ≡ get_member q mp = λ q h. past_unless q (codes "pools6") (length r.pools6 == 0) (texts_data r.pools6) mp h in
    let past4 : (q : List ℕ) → Apart q (codes "pools4") → get_member q mp ≡ get_member q ml = λ q h. past_unless q (codes "pools4") (length r.pools4 == 0) (texts_data r.pools4) ml h in
    let pastl : (q : List ℕ) → Apart q (codes "labels") → get_member q ml ≡ get_member q m6 = λ q h. past_unless q (codes "labels") (length r.labels == 0) (pairs_data r.labels) m6 h in
    let pasti : (q : List ℕ) → Apart q (codes "ipv6") → get_member q m6 ≡ get_member q m4 = λ q h. past_true q (codes "ipv6") r.ipv6 m4 h in
    let pasto : (q : List ℕ) → Apart q (codes "ipv4") → get_member q m4 ≡ get_member q base = λ q h. past_false q (codes "ipv4") r.ipv4 base h in
    let k4 = codes "ipv4" in
    let k6 = codes "ipv6" in
    let kn = codes "node" in
    let kl = codes "labels" in
    let kp = codes "pools4" in
    let kq = codes "pools6" in
    let at4 = same k4 (refl, refl) (refl, refl) ∙ past6 k4 (refl, refl) ∙ past4 k4 (refl, refl) ∙ pastl k4 (refl, refl) ∙ pasti k4 (refl, refl) in
    let at6 = same k6 (refl, refl) (refl, refl) ∙ past6 k6 (refl, refl) ∙ past4 k6 (refl, refl) ∙ pastl k6 (refl, refl) in
    let atn = same kn (refl, refl) (refl, refl) ∙ past6 kn (refl, refl) ∙ past4 kn (refl, refl) ∙ pastl kn (refl, refl) ∙ pasti kn (refl, refl) ∙ pasto kn (refl, refl) ∙ node in
    let atl = same kl (refl, refl) (refl, refl) ∙ past6 kl (refl, refl) ∙ past4 kl (refl, refl) in
    let atp = same kp (refl, refl) (refl, refl) ∙ past6 kp (refl, refl) in
    let atq = same kq (refl, refl) (refl, refl) in
    bind _ _ _ (ap (found_or true as_bool) at4 ∙ false_read r.ipv4 k4 base no4)
    ∙ bind _ _ _ (ap (found_or false as_bool) at6 ∙ true_read r.ipv6 k6 m4 (pasto k6 (refl, refl) ∙ no6))
    ∙ bind _ _ _ (ap (option_and_then as_str) atn)
    ∙ bind _ _ _ (ap (found_or [] pairs_in) atl ∙ pairs_read r.labels kl m6 up (pasti kl (refl, refl) ∙ pasto kl (refl, refl) ∙ nol))
    ∙ bind _ _ _ (ap (found_or [] texts_in) atp ∙ texts_read r.pools4 kp ml (pastl kp (refl, refl) ∙ pasti kp (refl, refl) ∙ pasto kp (refl, refl) ∙ nop4))
    ∙ bind _ _ _ (ap (found_or [] texts_in) atq ∙ texts_read r.pools6 kq mp (past4 kq (refl, refl) ∙ pastl kq (refl, refl) ∙ pasti kq (refl, refl) ∙ pasto kq (refl, refl) ∙ nop6))

wishes_known : (s : Shape) (ipv4 ipv6 : Bool) (labels : List Pair) (pools4 pools6 : List (List ℕ)) (ms : Members) → may_have s (codes "ipv4") ≡ true → may_have s (codes "ipv6") ≡ true → may_have s (codes "labels") ≡ true → may_have s (codes "pools4") ≡ true → may_have s (codes "pools6") ≡ true → are_known s ms ≡ true → are_known s (wishes ipv4 ipv6 labels pools4 pools6 ms) ≡ true
unfolding wishes
wishes_known s ipv4 ipv6 labels pools4 pools6 ms h4 h6 hl hp hq g =
    known_unless s (length pools6 == 0) (codes "pools6") _ _ hq (known_unless s (length pools4 == 0) (codes "pools4") _ _ hp (known_unless s (length labels == 0) (codes "labels") _ _ hl (known_true s ipv6 (codes "ipv6") _ h6 (known_false s ipv4 (codes "ipv4") ms h4 g))))

wishes_past : (q : List ℕ) (ipv4 ipv6 : Bool) (labels : List Pair) (pools4 pools6 : List (List ℕ)) (ms : Members) → Apart q (codes "ipv4") → Apart q (codes "ipv6") → Apart q (codes "labels") → Apart q (codes "pools4") → Apart q (codes "pools6") → get_member q (wishes ipv4 ipv6 labels pools4 pools6 ms) ≡ get_member q ms
unfolding wishes
wishes_past q ipv4 ipv6 labels pools4 pools6 ms h4 h6 hl hp hq =
    past_unless q (codes "pools6") (length pools6 == 0) _ _ hq ∙ past_unless q (codes "pools4") (length pools4 == 0) _ _ hp ∙ past_unless q (codes "labels") (length labels == 0) _ _ hl ∙ past_true q (codes "ipv6") ipv6 _ h6 ∙ past_false q (codes "ipv4") ipv4 ms h4

if_true : {A : Type 0} (b : Bool) (v : A) → b ≡ true → only_if b v ≡ Some v
if_true true v e = refl
if_true false v e = absurd cc

-- ---- from the request's object to what it holds

known_told : (s : Shape) (ms : Members) (r : Request) → are_known s ms ≡ true → shaped_in s (object ms) ≡ Some r → known_in s (object ms) ≡ Some r
unfolding known_in
known_told s ms r known found = bind _ _ _ (if_true (are_known s ms) (object ms) known) ∙ found

tagged_told : (name : List ℕ) (s : Shape) (d : Data) → shape_named name ≡ Some s → request_in_data (tagged name d) ≡ known_in s d
unfolding request_in_data named_in
tagged_told name s d is = bind _ _ _ is

-- ---- ADDs and probes

add_base : AddRequest → Members
add_base r = with_text (codes "node") r.node (with_text (codes "handle") r.attributes.handle no_members)

add_told : (r : AddRequest) (outer : Members) → IsSoundAdd r → ((q : List ℕ) → Apart q (codes "address") → get_member q outer ≡ get_member q (add_members r)) → add_in (object outer) ≡ Some r
unfolding add_in add_members add_base
add_told r outer h same =
    let probe : ProbeRequest = record { node = r.node; labels = r.labels; ipv4 = r.ipv4; ipv6 = r.ipv6; pools4 = r.pools4; pools6 = r.pools6 } in
    let w = wishes r.ipv4 r.ipv6 r.labels r.pools4 r.pools6 (add_base r) in
    let inner : Same outer w = λ q s a. same q a ∙ past_unless q (codes "secondary") (length r.attributes.secondary == 0) (pairs_data r.attributes.secondary) w s in
    let handle = codes "handle" in
    let secondary = codes "secondary" in
    let handle_at : get_member handle outer ≡ Some (string r.attributes.handle) = inner handle (refl, refl) (refl, refl) ∙ wishes_past handle r.ipv4 r.ipv6 r.labels r.pools4 r.pools6 (add_base r) (refl, refl) (refl, refl) (refl, refl) (refl, refl) (refl, refl) in
    let none : get_member secondary w ≡ None = wishes_past secondary r.ipv4 r.ipv6 r.labels r.pools4 r.pools6 (add_base r) (refl, refl) (refl, refl) (refl, refl) (refl, refl) (refl, refl) in
    bind _ _ _ (probe_told outer (add_base r) probe (sorted_keys r.labels h.labels.ascending) inner refl refl refl refl refl refl)
    ∙ bind _ _ _ (ap (option_and_then as_str) handle_at)
    ∙ bind _ _ _ (ap (found_or [] pairs_in) (same secondary (refl, refl)) ∙ pairs_read r.attributes.secondary secondary w (sorted_keys r.attributes.secondary h.attributes.ascending) none)

add_no_address : (r : AddRequest) → get_member (codes "address") (add_members r) ≡ None
unfolding add_members
add_no_address r =
    past_unless (codes "address") (codes "secondary") (length r.attributes.secondary == 0) _ _ (refl, refl) ∙ wishes_past (codes "address") r.ipv4 r.ipv6 r.labels r.pools4 r.pools6 _ (refl, refl) (refl, refl) (refl, refl) (refl, refl) (refl, refl)

add_known : (r : AddRequest) → are_known shape.Add (add_members r) ≡ true
unfolding add_members
add_known r =
    known_unless shape.Add (length r.attributes.secondary == 0) (codes "secondary") _ _ refl (wishes_known shape.Add r.ipv4 r.ipv6 r.labels r.pools4 r.pools6 _ refl refl refl refl refl refl)

add_back : (r : AddRequest) → IsSoundAdd r → shaped_in shape.Add (object (add_members r)) ≡ Some (Add r)
unfolding any_add_in
add_back r h =
    bind _ _ _ (add_told r (add_members r) h (λ q a. refl)) ∙ ap (asked_in r) (add_no_address r)

add_this_back : (r : AddRequest) (address : AddrValue) → IsSoundAdd r → IsAddress address → shaped_in shape.Add (object (put (codes "address") (address_data address) (add_members r))) ≡ Some (AddThis r address)
unfolding any_add_in
add_this_back r address h is =
    let outer = put (codes "address") (address_data address) (add_members r) in
    bind _ _ _ (add_told r outer h (λ q a. past_put q (codes "address") (address_data address) (add_members r) a))
    ∙ ap (asked_in r) (get_member-put (codes "address") (address_data address) (add_members r))
    ∙ ap (option_map (AddThis r)) (address_read address is)

probe_known : (r : ProbeRequest) → are_known shape.Probe (probe_members r) ≡ true
unfolding probe_members
probe_known r = wishes_known shape.Probe r.ipv4 r.ipv6 r.labels r.pools4 r.pools6 _ refl refl refl refl refl refl

probe_back : (r : ProbeRequest) → keys_ascend r.labels ≡ true → probe_in (object (probe_members r)) ≡ Some r
unfolding probe_members
probe_back r up =
    probe_told _ (put (codes "node") (string r.node) no_members) r up (λ q s a. refl) refl refl refl refl refl refl

-- ---- collections

past_scope : (q : List ℕ) (s : Option (List ℕ × List ℕ)) (ms : Members) → Apart q (codes "scope") → get_member q (where_scope s ms) ≡ get_member q ms
past_scope q None ms h = refl
past_scope q (Some scope) ms h = past_put q (codes "scope") (scope_data scope) ms h

collect_back : (r : CollectRequest) → collect_in (object (collect_members r)) ≡ Some r
unfolding collect_in collect_members
collect_back r =
    let base = put (codes "live") (texts_data r.live) no_members in
    let timed = where_some_number r.at (codes "at") base in
    let graced = where_some_number r.grace (codes "grace") timed in
    let past_at : (q : List ℕ) → Apart q (codes "at") → get_member q timed ≡ get_member q base = λ q h. past_unless q (codes "at") (r.at == 0) (whole_data r.at) base h in
    let past_grace : (q : List ℕ) → Apart q (codes "grace") → get_member q graced ≡ get_member q timed = λ q h. past_unless q (codes "grace") (r.grace == 0) (whole_data r.grace) timed h in
    let outside : (q : List ℕ) → Apart q (codes "scope") → get_member q (where_scope r.scope graced) ≡ get_member q graced = λ q h. past_scope q r.scope graced h in
    let live_at : get_member (codes "live") (where_scope r.scope graced) ≡ Some (texts_data r.live) = outside (codes "live") (refl, refl) ∙ past_grace (codes "live") (refl, refl) ∙ past_at (codes "live") (refl, refl) in
    bind _ _ _ (ap (found_or 0 as_whole) (outside (codes "at") (refl, refl) ∙ past_grace (codes "at") (refl, refl)) ∙ number_read r.at (codes "at") base refl)
    ∙ bind _ _ _ (ap (found_or 0 as_whole) (outside (codes "grace") (refl, refl)) ∙ number_read r.grace (codes "grace") timed (past_at (codes "grace") (refl, refl)))
    ∙ bind _ _ _ live_at
    ∙ bind _ _ _ (texts_in-texts r.live)
    ∙ bind _ _ _ (scope_read r.scope graced (past_grace (codes "scope") (refl, refl) ∙ past_at (codes "scope") (refl, refl)))

collect_known : (r : CollectRequest) → are_known shape.Collect (collect_members r) ≡ true
unfolding collect_members
collect_known r =
    known_scope shape.Collect r.scope _ refl (known_unless shape.Collect (r.grace == 0) (codes "grace") _ _ refl (known_unless shape.Collect (r.at == 0) (codes "at") _ _ refl refl))

-- ---- changes

bounded_read : (n : ℕ) (k : List ℕ) (ms : Members) → n < 2 ^ 32 → get_member k ms ≡ None → found_or 0 number_in (get_member k (where_some_number n k ms)) ≡ Some n
bounded_read n k ms small none = go (n == 0) refl
  where
    go : (b : Bool) → (n == 0) ≡ b → found_or 0 number_in (get_member k (unless b k (whole_data n) ms)) ≡ Some n
    go true e = ap (found_or 0 number_in) none ∙ ap Some (sym (eqb-true n 0 e))
    go false e =
        ap (found_or 0 number_in) (get_member-put k (whole_data n) ms) ∙ if_true (nat_lt n (2 ^ 32)) n (lt-ltb n (2 ^ 32) small)

disable_back : (name : List ℕ) (disabled : Bool) → disable_in (object (member (codes "disabled") (boolean disabled) (member (codes "name") (string name) no_members))) ≡ Some (Change (change.Disable name disabled))
unfolding disable_in
disable_back name disabled = refl

pool_back : (p : OnePool) → IsSoundPool p → one_pool_in (object (pool_members p)) ≡ Some p
unfolding one_pool_in pool_members
pool_back p h =
    let base = put (codes "size") (whole_data p.size) (with_text (codes "name") p.name (put (codes "cidr") (cidr_data p.cidr) no_members)) in
    let disabled = where_true p.disabled (codes "disabled") base in
    let moded = where_manual p.mode disabled in
    let past_disabled : (q : List ℕ) → Apart q (codes "disabled") → get_member q disabled ≡ get_member q base = λ q a. past_true q (codes "disabled") p.disabled base a in
    let past_moded : (q : List ℕ) → Apart q (codes "mode") → get_member q moded ≡ get_member q disabled = λ q a. past_mode q p.mode disabled a in
    let outside : (q : List ℕ) → Apart q (codes "selector") → get_member q (where_selective p.selector moded) ≡ get_member q moded = λ q a. past_unless q (codes "selector") (is_every p.selector) (selector_data p.selector) moded a in
    let cidr_at : get_member (codes "cidr") (where_selective p.selector moded) ≡ Some (cidr_data p.cidr) = outside (codes "cidr") (refl, refl) ∙ past_moded (codes "cidr") (refl, refl) ∙ past_disabled (codes "cidr") (refl, refl) in
    let size_at : get_member (codes "size") (where_selective p.selector moded) ≡ Some (whole_data p.size) = outside (codes "size") (refl, refl) ∙ past_moded (codes "size") (refl, refl) ∙ past_disabled (codes "size") (refl, refl) in
    let name_at : get_member (codes "name") (where_selective p.selector moded) ≡ Some (string p.name) = outside (codes "name") (refl, refl) ∙ past_moded (codes "name") (refl, refl) ∙ past_disabled (codes "name") (refl, refl) in
    bind _ _ _ (ap (option_and_then cidr_in) cidr_at ∙ cidr_in-cidr_data p.cidr h.cidr)
    ∙ bind _ _ _ (ap (λ o. option_and_then in_8_bits (option_and_then as_whole o)) size_at ∙ if_true (nat_lt p.size (2 ^ 8)) p.size (lt-ltb p.size (2 ^ 8) h.size))
    ∙ bind _ _ _ (ap (found_or false as_bool) (outside (codes "disabled") (refl, refl) ∙ past_moded (codes "disabled") (refl, refl)) ∙ true_read p.disabled (codes "disabled") base refl)
    ∙ bind _ _ _ (ap (found_or Automatic mode_in) (outside (codes "mode") (refl, refl)) ∙ mode_read p.mode disabled (past_disabled (codes "mode") (refl, refl)))
    ∙ bind _ _ _ (ap (option_and_then as_str) name_at)
    ∙ bind _ _ _ (selector_read p.selector moded h.selector (past_moded (codes "selector") (refl, refl) ∙ past_disabled (codes "selector") (refl, refl)))

pool_known : (p : OnePool) → are_known shape.Pool (pool_members p) ≡ true
unfolding pool_members
pool_known p =
    known_unless shape.Pool (is_every p.selector) (codes "selector") _ _ refl (known_mode shape.Pool p.mode _ refl (known_true shape.Pool p.disabled (codes "disabled") _ refl refl))

config_back : (c : Settings) → c.max_blocks < 2 ^ 32 → settings_in (object (config_members c)) ≡ Some c
unfolding settings_in config_members
config_back c small =
    let auto = where_false c.auto (codes "autoAllocateBlocks") no_members in
    let most = where_some_number c.max_blocks (codes "maxBlocksPerHost") auto in
    let past_auto : (q : List ℕ) → Apart q (codes "autoAllocateBlocks") → get_member q auto ≡ get_member q no_members = λ q a. past_false q (codes "autoAllocateBlocks") c.auto no_members a in
    let past_most : (q : List ℕ) → Apart q (codes "maxBlocksPerHost") → get_member q most ≡ get_member q auto = λ q a. past_unless q (codes "maxBlocksPerHost") (c.max_blocks == 0) (whole_data c.max_blocks) auto a in
    let outside : (q : List ℕ) → Apart q (codes "strictAffinity") → get_member q (where_true c.strict (codes "strictAffinity") most) ≡ get_member q most = λ q a. past_true q (codes "strictAffinity") c.strict most a in
    bind _ _ _ (ap (found_or true as_bool) (outside (codes "autoAllocateBlocks") (refl, refl) ∙ past_most (codes "autoAllocateBlocks") (refl, refl)) ∙ false_read c.auto (codes "autoAllocateBlocks") no_members refl)
    ∙ bind _ _ _ (ap (found_or 0 number_in) (outside (codes "maxBlocksPerHost") (refl, refl)) ∙ bounded_read c.max_blocks (codes "maxBlocksPerHost") auto small (past_auto (codes "maxBlocksPerHost") (refl, refl)))
    ∙ bind _ _ _ (true_read c.strict (codes "strictAffinity") most (past_most (codes "strictAffinity") (refl, refl) ∙ past_auto (codes "strictAffinity") (refl, refl)))

config_known : (c : Settings) → are_known shape.Config (config_members c) ≡ true
unfolding config_members
config_known c =
    known_true shape.Config c.strict (codes "strictAffinity") _ refl (known_unless shape.Config (c.max_blocks == 0) (codes "maxBlocksPerHost") _ _ refl (known_false shape.Config c.auto (codes "autoAllocateBlocks") no_members refl refl))

reserve_back : (r : ReservationValue) → IsReservation r → reserve_in (object (member (codes "cidrs") (cidrs_data r.cidrs) (member (codes "name") (string r.name) no_members))) ≡ Some (Change (change.Reserve r))
unfolding reserve_in named_cidrs
reserve_back r h =
    bind _ _ _ (cidrs_back [] r.cidrs (AllByRecursion-All IsCidr r.cidrs h.ranges)) ∙ bind _ _ _ (if_true (nat_le (length r.cidrs) 64) r (le-leb (length r.cidrs) 64 h.few))

change_back : (r : Admin) → IsSoundChange r → request_in_data (change_data r) ≡ Some (Change r)
change_back (change.Pool p) h =
    tagged_told (codes "pool") shape.Pool _ refl ∙ known_told shape.Pool (pool_members p) _ (pool_known p) (ap (option_map (λ pool. Change (change.Pool pool))) (pool_back p h))
change_back (change.Disable name disabled) h =
    tagged_told (codes "disable") shape.Disable _ refl ∙ known_told shape.Disable _ _ refl (disable_back name disabled)
change_back (change.Reserve r) h =
    tagged_told (codes "reserve") shape.Reserve _ refl ∙ known_told shape.Reserve _ _ refl (reserve_back r h)
change_back (change.Unreserve name) h =
    tagged_told (codes "unreserve") shape.Unreserve _ refl ∙ known_told shape.Unreserve _ _ refl refl
change_back (change.Config c) h =
    tagged_told (codes "config") shape.Config _ refl ∙ known_told shape.Config (config_members c) _ (config_known c) (ap (option_map (λ settings. Change (change.Config settings))) (config_back c h))

-- ---- each request

check_back : (id : List ℕ) (addresses : List AddrValue) → All IsAddress addresses → check_in (object (member (codes "addresses") (addresses_data addresses) (member (codes "handle") (string id) no_members))) ≡ Some (Check id addresses)
unfolding check_in
check_back id addresses h = bind _ _ _ (addresses_read addresses (AllByRecursion-All IsAddress addresses h))

release_back : (node : List ℕ) (cidr : CidrValue) → IsCidr cidr → release_in (object (member (codes "cidr") (cidr_data cidr) (member (codes "node") (string node) no_members))) ≡ Some (Release node cidr)
unfolding release_in
release_back node cidr h = bind _ _ _ (cidr_in-cidr_data cidr h)

request_back : (r : Request) → IsSoundRequest r → request_in_data (request_data r) ≡ Some r
request_back (Add r) h =
    tagged_told (codes "add") shape.Add _ refl ∙ known_told shape.Add (add_members r) _ (add_known r) (add_back r h.0)
request_back (AddThis r address) h =
    tagged_told (codes "add") shape.Add _ refl ∙ known_told shape.Add _ _ (known_put shape.Add (codes "address") (address_data address) (add_members r) refl (add_known r)) (add_this_back r address h.0 h.1)
request_back (Del id) h = tagged_told (codes "del") shape.Del _ refl ∙ known_told shape.Del _ _ refl refl
request_back (Check id addresses) h =
    tagged_told (codes "check") shape.Check _ refl ∙ known_told shape.Check _ _ refl (check_back id addresses h.2)
request_back (Release node cidr) h =
    tagged_told (codes "release") shape.Release _ refl ∙ known_told shape.Release _ _ refl (release_back node cidr h.1)
request_back (Collect r) h =
    tagged_told (codes "collect") shape.Collect _ refl ∙ known_told shape.Collect (collect_members r) _ (collect_known r) (ap (option_map Collect) (collect_back r))
request_back (Change r) h = change_back r h
request_back (Probe r) h =
    tagged_told (codes "probe") shape.Probe _ refl ∙ known_told shape.Probe (probe_members r) _ (probe_known r) (ap (option_map Probe) (probe_back r (sorted_keys r.labels h.labels.ascending)))

pub request_reads_back : (r : Request) → IsSoundRequest r → request_reading (request_text r) ≡ Some r
unfolding request_reading sound_request_in request_text
request_reads_back r h =
    bind _ _ _ (read-compact_text (request_data r) (request_canonical r h)) ∙ bind _ _ _ (request_back r h) ∙ if_true (is_sound_request r) r (sound_there r h)
