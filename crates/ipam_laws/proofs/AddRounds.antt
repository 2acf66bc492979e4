-- For which family a round of an ADD is, by the trail that led to it.
use Rattle.std.proofs.Common.{◌≡◌, ℕ, ◌⊎◌, inl, inr, Bool, true, false, cond, List, [], ◌∷◌, ◌++◌, Option, Some, None, refl, sym, ap, ◌∙◌, subst}
use Rattle.std.specs.Prelude.{◌&&◌, not, IsTrue, MatchOption, nat_le}
use Rattle.std.specs.List.{All, find, list_any}
use Rattle.ipam_addr.specs.declared.address.Family.{Family}
use Rattle.ipam_addr.specs.declared.address.Family.TheVariants.{V4, V6}
use Rattle.ipam_addr.specs.Holding.{is_same_family}
use Rattle.ipam_addr.specs.Shape.{CidrValue}
use Rattle.ipam_block.specs.Shape as block
use Rattle.ipam_block.specs.HandleOperations.{count_of}
use Rattle.ipam_records.specs.declared.call.Call.{Call}
use Rattle.ipam_records.specs.declared.call.Call.TheVariants.{Get, List as ListAll}
use Rattle.ipam_records.specs.declared.key.Key.TheVariants as key
use Rattle.ipam_records.specs.declared.key.Kind.TheVariants as kind
use Rattle.ipam_records.specs.declared.record.Record.{Record}
use Rattle.ipam_records.specs.declared.record.Record.TheVariants as record_of
use Rattle.ipam_records.specs.Datastore.{Datastore, rows_of_kind, reply_of, row_of}
use Rattle.ipam_records.proofs.DatastoreLemmas.{row_key-row_of}
use Rattle.ipam_model.specs.declared.answer.Scan.{Scan}
use Rattle.ipam_model.specs.declared.choice.Choice.{Choice}
use Rattle.ipam_model.specs.declared.choice.Choice.TheVariants.{Use, Borrow, Nothing, NoPool}
use Rattle.ipam_model.specs.declared.outcome.AddAnswer.{AddAnswer}
use Rattle.ipam_model.specs.declared.outcome.AddAnswer.TheVariants as add
use Rattle.ipam_model.specs.declared.request.AddRequest.{AddRequest}
use Rattle.ipam_model.specs.declared.outcome.Served.{Served}
use Rattle.ipam_model.specs.declared.outcome.Served.TheVariants.{Gave, Refused}
use Rattle.ipam_model.specs.Add.{asked_of, name_in_place}
use Rattle.ipam_block.specs.Operations.{ordinal_address}
use Rattle.ipam_model.specs.declared.answer.Given.{Given}
use Rattle.ipam_model.specs.AddLaw.{families_of, scan_of}
use Rattle.ipam_model.specs.AffinityLaw.{HasAt}
use Rattle.ipam_model.specs.Choice.{FirstCandidate, IsBest, IsChoice, Picks, Rank, Ranked, Own, Unconfirmed, Unclaimed, Foreign, Seen, block_at, block_in_found, choice_at, chosen, has_free_address, is_block_at, is_confirmed_for, is_unowned_and_empty, may_claim, pick_of, rank_at, rank_of_block, room_of}
use Rattle.ipam_model.specs.Affinities.{BlockRead}
use Rattle.ipam_model.specs.Counting.{most_count}
use Rattle.ipam_model.specs.Reads.{StoredRecord, config_said, handle_said, pools_said, reservations_said, rows_said}
use Rattle.ipam_model.specs.declared.part.Left.{Left}
use Rattle.ipam_model.specs.declared.part.Outcome.{Outcome}
use Rattle.ipam_model.specs.declared.part.Stop.{Stop}
use Rattle.ipam_model.specs.declared.part.Stop.TheVariants.{OutOfTries, OutOfClaims, NoRoom, CountAtLimit, NoRevisions}
use Rattle.ipam_model.specs.declared.part.Outcome.TheVariants.{Went, Stops}
use Rattle.ipam_model.specs.Usable.{Asked, is_usable, unknown_name}
use Rattle.ipam_pool.specs.declared.pools.Pool.{Pool}
use Rattle.ipam_model.proofs.ChoiceLemmas.{pick-ranked}
use Rattle.ipam_model.specs.declared.part.Assigned.{Assigned}
use Rattle.ipam_model.specs.Assigning.{names_for, target_in}
use Rattle.ipam_laws.proofs.Acts.{Later, Since}
use Rattle.ipam_laws.proofs.AddParts.{AssignsLast, GivesLast, NotLimit}
use Rattle.ipam_laws.proofs.AddTrails.{HasGift, IsGift, More, Quietly, Same}
use Rattle.ipam_laws.proofs.Calls.{found-block}
use Rattle.ipam_laws.proofs.SeenReads.{seen_by_stores}
use Rattle.ipam_laws.proofs.WordSteps.{listed-block}
use Rattle.ipam_laws.proofs.Trails.{Did, Step, Trail}
use Rattle.ipam_records.specs.BlockLists.{is_node}

-- ---- what was read in a round

pub record FiveRead (scan : Scan) (seen : Seen) (before five : Trail) : Type 0 where
  pub config : Datastore
  pub pools : Datastore
  pub reservations : Datastore
  pub affinities : Datastore
  pub blocks : Datastore
  pub is : five ≡
      Did scan.b blocks (ListAll kind.Block) ∷ Did scan.f affinities (ListAll kind.Affinity)
      ∷ Did scan.r reservations (Get key.Reservations) ∷ Did scan.p pools (Get key.Pools)
      ∷ Did scan.c config (Get key.Config) ∷ before
  pub saw_config : seen.config ≡ config_said (reply_of config (Get key.Config))
  pub saw_pools : seen.pools ≡ pools_said (reply_of pools (Get key.Pools))
  pub saw_reservations : seen.reservations ≡ reservations_said (reply_of reservations (Get key.Reservations))
  pub saw_affinities : seen.affinities ≡ rows_said (reply_of affinities (ListAll kind.Affinity))
  pub saw_blocks : seen.blocks ≡ rows_said (reply_of blocks (ListAll kind.Block))

pub five-read : (scan : Scan) (config pools reservations affinities blocks : Datastore) (before : Trail)
    → FiveRead scan (seen_by_stores config pools reservations affinities blocks) before
    (Did scan.b blocks (ListAll kind.Block) ∷ Did scan.f affinities (ListAll kind.Affinity) ∷ Did scan.r reservations (Get key.Reservations) ∷ Did scan.p pools (Get key.Pools) ∷ Did scan.c config (Get key.Config) ∷ before)
five-read scan config pools reservations affinities blocks before = record {
  config = config;
  pools = pools;
  reservations = reservations;
  affinities = affinities;
  blocks = blocks;
  is = refl;
  saw_config = refl;
  saw_pools = refl;
  saw_reservations = refl;
  saw_affinities = refl;
  saw_blocks = refl;
}

-- ---- for which family it is

unfoldable pub Among : List Family → Family → Type 0
Among [] family = ⊥
Among (one ∷ families) family = (family ≡ one) ⊎ Among families family

-- an address of each wanted family before this one was given, and of no other
pub record IsFor (request : AddRequest) (family : Family) (trail : Trail) : Type 0 where
  pub earlier : List Family
  pub later : List Family
  pub wanted : families_of request ≡ earlier ++ family ∷ later
  pub given : All (HasGift trail) earlier
  pub only : (other : Family) → HasGift trail other → Among earlier other
  pub apart : ¬ (Among earlier family)

-- a call that gives nothing
pub for-did : (request : AddRequest) (family : Family) (trail : Trail) (moment : ℕ) (store : Datastore) (asked : Call) → ((other : Family) → ¬ (IsGift store asked other)) → IsFor request family trail → IsFor request family (Did moment store asked ∷ trail)
unfolding HasGift
for-did request family trail moment store asked none h = record {
  earlier = h.earlier;
  later = h.later;
  wanted = h.wanted;
  given = λ n d within. inr (h.given n d within);
  only = λ other there. elim there [
    | inl gift ↦ absurd (none other gift)
    | inr before ↦ h.only other before
  ];
  apart = h.apart;
}

pub quietly-for : (request : AddRequest) (family : Family) (trail longer : Trail) → Quietly trail longer → IsFor request family trail → IsFor request family longer
quietly-for request family trail longer Same h = h
quietly-for request family trail longer (More moment store asked rest quiet before) h =
    for-did request family rest moment store asked quiet.gives_none (quietly-for request family trail rest before h)

pub get-gives-none : (store : Datastore) (asked : Call) → asked ≡ Get key.Config ⊎ (asked ≡ Get key.Pools ⊎ (asked ≡ Get key.Reservations ⊎ (asked ≡ ListAll kind.Affinity ⊎ asked ≡ ListAll kind.Block))) → (other : Family) → ¬ (IsGift store asked other)
get-gives-none store asked (inl is) other gift = let w = gift.writes in absurd (cc (is, w))
get-gives-none store asked (inr (inl is)) other gift = let w = gift.writes in absurd (cc (is, w))
get-gives-none store asked (inr (inr (inl is))) other gift = let w = gift.writes in absurd (cc (is, w))
get-gives-none store asked (inr (inr (inr (inl is)))) other gift = let w = gift.writes in absurd (cc (is, w))
get-gives-none store asked (inr (inr (inr (inr is)))) other gift = let w = gift.writes in absurd (cc (is, w))

-- ---- what was chosen

pub record IsChosen (request : AddRequest) (scan : Scan) (choice : Choice) (trail : Trail) : Type 0 where
  pub seen : Seen
  pub before : Trail
  pub five : Trail
  pub more : Trail
  pub is : trail ≡ more ++ five
  pub reads : FiveRead scan seen before five
  pub round : IsFor request scan.family before
  pub is_choice : IsChoice (asked_of request scan.family) seen choice

pub chosen-more : (request : AddRequest) (scan : Scan) (choice : Choice) (trail : Trail) (step : Step) → IsChosen request scan choice trail → IsChosen request scan choice (step ∷ trail)
chosen-more request scan choice trail step h = record {
  seen = h.seen;
  before = h.before;
  five = h.five;
  more = step ∷ h.more;
  is = ap (λ (t : Trail). step ∷ t) h.is;
  reads = h.reads;
  round = h.round;
  is_choice = h.is_choice;
}

-- an address of this block was chosen, and the handle was read at the moment in the same round, with its
-- count of the block at the limit
pub record IsAimed (request : AddRequest) (moment : ℕ) (trail : Trail) : Type 0 where
  pub scan : Scan
  pub cidr : CidrValue
  pub ordinal : ℕ
  pub seen : Seen
  pub before : Trail
  pub five : Trail
  pub between : Trail
  pub more : Trail
  pub store : Datastore
  pub reads : FiveRead scan seen before five
  pub round : IsFor request scan.family before
  pub is_choice : IsChoice (asked_of request scan.family) seen (Use cidr ordinal) ⊎ IsChoice (asked_of request scan.family) seen (Borrow cidr ordinal)
  pub quiet : Quietly five between
  pub is : trail ≡ more ++ Did moment store (Get (key.Handle request.attributes.handle)) ∷ between
  pub limit : nat_le most_count (count_of (handle_said request.attributes.handle (reply_of store (Get (key.Handle request.attributes.handle)))) cidr) ≡ true

pub aimed-more : (request : AddRequest) (moment : ℕ) (trail : Trail) (step : Step) → IsAimed request moment trail → IsAimed request moment (step ∷ trail)
aimed-more request moment trail step h = record {
  scan = h.scan;
  cidr = h.cidr;
  ordinal = h.ordinal;
  seen = h.seen;
  before = h.before;
  five = h.five;
  between = h.between;
  more = step ∷ h.more;
  store = h.store;
  reads = h.reads;
  round = h.round;
  is_choice = h.is_choice;
  quiet = h.quiet;
  is = ap (λ (t : Trail). step ∷ t) h.is;
  limit = h.limit;
}

-- the address was chosen in a round for the family
pub record IsGivenBy (request : AddRequest) (trail : Trail) (family : Family) (given : Given) : Type 0 where
  pub cidr : CidrValue
  pub ordinal : ℕ
  pub chosen : IsChosen request (scan_of family given) (Use cidr ordinal) trail ⊎ IsChosen request (scan_of family given) (Borrow cidr ordinal) trail
  pub is_address : given.address ≡ ordinal_address cidr ordinal
  -- its block was listed in that round, and then it was assigned there
  pub found : ℕ × block.BlockValue
  pub done : Assigned
  pub five : Trail
  pub at : Trail
  pub since : Since at trail
  pub assigns : AssignsLast five request.attributes (target_in found ordinal) done at
  pub at_w : given.w ≡ done.moment
  pub blocks : Datastore
  pub rest : Trail
  pub listed : five ≡ Did given.b blocks (ListAll kind.Block) ∷ rest
  pub was : HasAt blocks (key.Block cidr) found.0 (record_of.Block found.1)
  pub named : found.1.cidr ≡ cidr

given-more : (request : AddRequest) (trail : Trail) (family : Family) (given : Given) (step : Step) → IsGivenBy request trail family given → IsGivenBy request (step ∷ trail) family given
given-more request trail family given step h = record {
  cidr = h.cidr;
  ordinal = h.ordinal;
  chosen = elim h.chosen [
    | inl own ↦ inl (chosen-more request (scan_of family given) (Use h.cidr h.ordinal) trail step own)
    | inr other ↦ inr (chosen-more request (scan_of family given) (Borrow h.cidr h.ordinal) trail step other)
  ];
  is_address = h.is_address;
  found = h.found;
  done = h.done;
  five = h.five;
  at = h.at;
  since = Later step trail h.since;
  assigns = h.assigns;
  at_w = h.at_w;
  blocks = h.blocks;
  rest = h.rest;
  listed = h.listed;
  was = h.was;
  named = h.named;
}

-- one for each of the families
unfoldable pub AreGivenBy : AddRequest → Trail → List Family → List Given → Type 0
AreGivenBy request trail [] [] = Unit {0}
AreGivenBy request trail (family ∷ families) (given ∷ more) = IsGivenBy request trail family given × AreGivenBy request trail families more
AreGivenBy request trail [] (given ∷ more) = ⊥
AreGivenBy request trail (family ∷ families) [] = ⊥

pub all-given-more : (request : AddRequest) (trail : Trail) (families : List Family) (given : List Given) (step : Step) → AreGivenBy request trail families given → AreGivenBy request (step ∷ trail) families given
unfolding AreGivenBy
all-given-more request trail [] [] step h = tt
all-given-more request trail (family ∷ families) (given ∷ more) step h = (given-more request trail family given step h.0, all-given-more request trail families more step h.1)
all-given-more request trail [] (given ∷ more) step h = h
all-given-more request trail (family ∷ families) [] step h = h

pub one-given-more : (request : AddRequest) (trail : Trail) (families : List Family) (given : List Given) (family : Family) (last : Given) → AreGivenBy request trail families given → IsGivenBy request trail family last → AreGivenBy request trail (families ++ family ∷ []) (given ++ last ∷ [])
unfolding AreGivenBy
one-given-more request trail [] [] family last h one = (one, tt)
one-given-more request trail (first ∷ families) (given ∷ more) family last h one = (h.0, one-given-more request trail families more family last h.1 one)
one-given-more request trail [] (given ∷ more) family last h one = absurd h
one-given-more request trail (first ∷ families) [] family last h one = absurd h

pub quietly-chosen : (request : AddRequest) (scan : Scan) (choice : Choice) (trail longer : Trail) → Quietly trail longer → IsChosen request scan choice trail → IsChosen request scan choice longer
quietly-chosen request scan choice trail longer Same h = h
quietly-chosen request scan choice trail longer (More moment store asked rest quiet before) h =
    chosen-more request scan choice rest (Did moment store asked) (quietly-chosen request scan choice trail rest before h)

-- what a refusal says, or what was given
unfoldable pub IsRefusal : AddRequest → AddAnswer → Trail → Type 0
IsRefusal request (add.Added given) trail = AreGivenBy request trail (families_of request) given
IsRefusal request (add.Exhausted scan) trail = IsChosen request scan Nothing trail
IsRefusal request (add.NoPool called moment) trail =
    (scan : Scan) × (place : ℕ) × (moment ≡ scan.p) × (called ≡ name_in_place (names_for scan.family request) place) × IsChosen request scan (NoPool place) trail
IsRefusal request (add.Again lost claims) trail = Unit {0}
IsRefusal request add.Full trail = Unit {0}
IsRefusal request (add.CountFull moment) trail = IsAimed request moment trail
IsRefusal request add.Spent trail = Unit {0}

-- what the rounds of a family come to
unfoldable pub ServedEnds : AddRequest → Family → Trail → Outcome Served → Type 0
ServedEnds request family trail (Went left (Gave gift)) = (mid : Trail) × IsFor request family mid × GivesLast mid family trail × IsGivenBy request trail family gift.given
ServedEnds request family trail (Went left (Refused answer)) = IsRefusal request answer trail
ServedEnds request family trail (Stops left (CountAtLimit moment)) = IsAimed request moment trail
ServedEnds request family trail (Stops left why) = Unit {0}

pub otherwise-served : (request : AddRequest) (family : Family) (trail : Trail) (left : Left) (why : Stop) → NotLimit why → ServedEnds request family trail (Stops left why)
unfolding ServedEnds NotLimit
otherwise-served request family trail left OutOfTries h = tt
otherwise-served request family trail left OutOfClaims h = tt
otherwise-served request family trail left NoRoom h = tt
otherwise-served request family trail left (CountAtLimit moment) h = absurd h
otherwise-served request family trail left NoRevisions h = tt

-- ---- the block that is chosen

and-left : (a b : Bool) → IsTrue (a && b) → IsTrue a
and-left true b h = cc
and-left false b h = absurd (cc h)

and-right : (a b : Bool) → IsTrue (a && b) → IsTrue b
and-right true b h = h
and-right false b h = absurd (cc h)

pub family-same : (one other : Family) → IsTrue (is_same_family one other) → one ≡ other
family-same V4 V4 h = refl
family-same V4 V6 h = absurd (cc h)
family-same V6 V4 h = absurd (cc h)
family-same V6 V6 h = refl

-- a choice of an ordinal of this block
abbrev pub IsOf : Choice → CidrValue → ℕ → Type 0
IsOf choice cidr ordinal = (choice ≡ Use cidr ordinal) ⊎ (choice ≡ Borrow cidr ordinal)

at-slot : (slot : CidrValue) (rank : Rank) (cidr : CidrValue) (ordinal : ℕ) → IsOf (choice_at slot rank) cidr ordinal → slot ≡ cidr
at-slot slot (Own found o) cidr ordinal (inl e) = cc e
at-slot slot (Own found o) cidr ordinal (inr e) = absurd (cc e)
at-slot slot (Unconfirmed found) cidr ordinal (inl e) = absurd (cc e)
at-slot slot (Unconfirmed found) cidr ordinal (inr e) = absurd (cc e)
at-slot slot (Unclaimed read) cidr ordinal (inl e) = absurd (cc e)
at-slot slot (Unclaimed read) cidr ordinal (inr e) = absurd (cc e)
at-slot slot (Foreign found o) cidr ordinal (inl e) = absurd (cc e)
at-slot slot (Foreign found o) cidr ordinal (inr e) = cc e

pub usable-family : (asked : Asked) (pool : Pool) → IsTrue (is_usable asked pool) → asked.family ≡ pool.cidr.family
usable-family asked pool h =
    family-same asked.family pool.cidr.family
    (and-right (not pool.disabled) (is_same_family asked.family pool.cidr.family)
    (and-left (not pool.disabled && is_same_family asked.family pool.cidr.family) _ (and-left _ _ (and-left _ _ h))))

-- the block is of the family
candidate-family : (asked : Asked) (seen : Seen) (c : FirstCandidate asked seen) (cidr : CidrValue) (ordinal : ℕ) → IsOf (chosen c.best.ranked) cidr ordinal → cidr.family ≡ asked.family
candidate-family asked seen c cidr ordinal is =
    let same = at-slot c.best.ranked.slot c.best.ranked.rank cidr ordinal is in
    ap (λ (r : CidrValue). r.family) (sym same ∙ c.candidate.is_slot) ∙ sym (usable-family asked c.candidate.pool c.candidate.usable)

pub chosen-family : (asked : Asked) (seen : Seen) (choice : Choice) → IsChoice asked seen choice → (cidr : CidrValue) (ordinal : ℕ) → IsOf choice cidr ordinal → cidr.family ≡ asked.family
chosen-family asked seen choice is cidr ordinal of = by (unknown_name asked seen.pools) is
  where
    by : (o : Option ℕ) → MatchOption o (IsBest asked seen choice) (λ place. choice ≡ NoPool place) → cidr.family ≡ asked.family
    by (Some place) e = elim of [ inl own ↦ absurd (cc (e, own)) | inr borrow ↦ absurd (cc (e, borrow)) ]
    by None (inl none) = elim of [ inl own ↦ let n = none.1 in absurd (cc (n, own)) | inr borrow ↦ let n = none.1 in absurd (cc (n, borrow)) ]
    by None (inr (c, e)) = candidate-family asked seen c cidr ordinal (elim of [ inl own ↦ inl (sym e ∙ own) | inr borrow ↦ inr (sym e ∙ borrow) ])

-- what holds of the block as it was read holds of what makes the slot a candidate
abbrev pub HasRead : (BlockRead → Type 0) → Rank → Type 0
HasRead P (Own found ordinal) = P (Some found)
HasRead P (Unconfirmed found) = P (Some found)
HasRead P (Unclaimed read) = P read
HasRead P (Foreign found ordinal) = P (Some found)

rank_of_block-read : (P : BlockRead → Type 0) (asked : Asked) (seen : Seen) (found : ℕ × block.BlockValue) (room : Option ℕ) (rank : Rank) → P (Some found) → rank_of_block asked seen found room ≡ Some rank → HasRead P rank
rank_of_block-read P asked seen found None rank h e = absurd (cc e)
rank_of_block-read P asked seen found (Some ordinal) rank h e =
    by (is_node asked.node found.1.node) (list_any (is_confirmed_for asked.node found.1.cidr) seen.affinities) (is_unowned_and_empty found.1 && may_claim asked seen) seen.config.strict e
  where
    is : (other : Rank) → HasRead P other → Some other ≡ Some rank → HasRead P rank
    is other k f = let same : other ≡ rank = cc f in subst (λ (x : Rank). HasRead P x) same k

    by : (own confirmed free strict : Bool) → cond own (cond confirmed (Some (Own found ordinal)) (Some (Unconfirmed found))) (cond free (Some (Unclaimed (Some found))) (cond strict None (Some (Foreign found ordinal)))) ≡ Some rank → HasRead P rank
    by true true free strict f = is (Own found ordinal) h f
    by true false free strict f = is (Unconfirmed found) h f
    by false confirmed true strict f = is (Unclaimed (Some found)) h f
    by false confirmed false true f = absurd (cc f)
    by false confirmed false false f = is (Foreign found ordinal) h f

rank_at-read : (P : BlockRead → Type 0) (asked : Asked) (seen : Seen) (slot : CidrValue) (read : BlockRead) (rank : Rank) → P read → rank_at asked seen slot read ≡ Some rank → HasRead P rank
rank_at-read P asked seen slot (Some found) rank h e = rank_of_block-read P asked seen found (room_of seen found.1) rank h e
rank_at-read P asked seen slot None rank h e = by (may_claim asked seen && has_free_address seen slot) e
  where
    by : (b : Bool) → cond b (Some (Unclaimed None)) None ≡ Some rank → HasRead P rank
    by true f = let same : Unclaimed None ≡ rank = cc f in subst (λ (x : Rank). HasRead P x) same h
    by false f = absurd (cc f)

pub picked-read : (P : BlockRead → Type 0) (asked : Asked) (seen : Seen) (ranked : Ranked) → pick_of asked seen ≡ Picks ranked → P (block_at seen ranked.slot) → HasRead P ranked.rank
picked-read P asked seen ranked is h = rank_at-read P asked seen ranked.slot (block_at seen ranked.slot) ranked.rank h (pick-ranked asked seen ranked is)

-- a block that was seen has its row
pub record IsSeenAt (store : Datastore) (cidr : CidrValue) (found : ℕ × block.BlockValue) : Type 0 where
  pub at : HasAt store (key.Block found.1.cidr) found.0 (record_of.Block found.1)
  pub same : found.1.cidr ≡ cidr

pub seen-at : (store : Datastore) (cidr : CidrValue) (found : ℕ × block.BlockValue) → block_in_found (find (is_block_at cidr) (rows_of_kind kind.Block store)) ≡ Some found → IsSeenAt store cidr found
seen-at store cidr found e = by (row_of (key.Block cidr) store.rows) refl (ap block_in_found (sym (listed-block store.rows cidr)) ∙ e)
  where
    by : (o : Option StoredRecord) → row_of (key.Block cidr) store.rows ≡ o → block_in_found o ≡ Some found → IsSeenAt store cidr found
    by None row f = absurd (cc f)
    by (Some row) there f =
        let (b, is, same) = found-block cidr row.1 (row_key-row_of (key.Block cidr) store.rows row there) in
        let pair : Some (row.0, b) ≡ Some found = ap (λ (x : Record). block_in_found (Some (row.0, x))) (sym is) ∙ f in
        let whole : (row.0, b) ≡ found = cc pair in
        let at : HasAt store (key.Block cidr) row.0 (record_of.Block b) = there ∙ ap (λ (x : Record). Some (row.0, x)) is in
        subst (λ (p : ℕ × block.BlockValue). IsSeenAt store cidr p) whole
        (record { at = subst (λ (r : CidrValue). HasAt store (key.Block r) row.0 (record_of.Block b)) (sym same) at; same = same })
