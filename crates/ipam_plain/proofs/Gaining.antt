-- What an ADD that runs alone makes of the owners.
use Rattle.std.proofs.Common.{◌≡◌, ◌≢◌, ◌⊎◌, ℕ, ◌<◌, ◌≤◌, inl, inr, Bool, true, false, List, [], ◌∷◌, ◌++◌, map, Some, refl, sym, ap, ◌∙◌, subst, arith, eqb-true}
use Rattle.std.specs.Prelude.{Contains, ◌&&◌, ◌==◌, ◌↔◌}
use Rattle.std.proofs.lemmas.Bool.{cases_Bool, eqb-false}
use Rattle.std.proofs.lemmas.List.Elements.{All-contains, Contains-append_cases, Contains-append_left, Contains-append_right}
use Rattle.ipam_addr.specs.declared.address.Family.{Family}
use Rattle.ipam_addr.specs.Shape.{AddrValue, CidrValue}
use Rattle.ipam_block.specs.declared.allocation.Allocation.{Allocation}
use Rattle.ipam_block.specs.declared.allocation.Attributes.{Attributes}
use Rattle.ipam_block.specs.Operations.{ordinal_address}
use Rattle.ipam_block.specs.Shape.{BlockValue}
use Rattle.ipam_records.specs.declared.key.Key.TheVariants as key
use Rattle.ipam_records.specs.declared.record.Record.TheVariants as record_of
use Rattle.ipam_records.specs.Datastore.{Datastore}
use Rattle.ipam_records.specs.Sound.{IsDatastore}
use Rattle.ipam_model.specs.declared.answer.Answer.TheVariants as answer
use Rattle.ipam_model.specs.declared.answer.Given.{Given}
use Rattle.ipam_model.specs.declared.request.AddRequest.{AddRequest}
use Rattle.ipam_model.specs.declared.request.Request.TheVariants.{Add}
use Rattle.ipam_model.specs.Add.{asked_of}
use Rattle.ipam_model.specs.Alone.{alone_over}
use Rattle.ipam_model.specs.Choice.{Lacks as NoneLeft, Pick, Picks, Unknown, pick_of}
use Rattle.ipam_model.specs.Moments.{Owns}
use Rattle.ipam_model.specs.Owners.{Owner, owner_of, owners_in}
use Rattle.ipam_model.specs.Plain.{Gives, PlainAnswer, PlainGift, PlainServed, PlainResult, Rows, freeing_gift, plain_add, plain_after, plain_each, plain_of, plain_pick, seen_in, with_freed, with_gifts_freed}
use Rattle.ipam_model.specs.Usable.{families_if}
use Rattle.ipam_laws.proofs.CountLemmas.{same_text}
use Rattle.ipam_laws.proofs.Members.{in-cons, in-here, in-map, in-nothing, in-there, out-map}
use Rattle.ipam_laws.proofs.SoundSteps.{row-there}
use Rattle.ipam_plain.specs.Gains.{AddOwnersLaw, GainsThese, addresses_in}
use Rattle.ipam_plain.proofs.Alike.{IsSorted, record-row, record_at}
use Rattle.ipam_plain.proofs.Given.{GivesOne, Grows, allocation_of, grows-trans}
use Rattle.ipam_plain.proofs.Held.{HeldAt, freed-stays, freed-was, held-owner, owner-held, same-owners}
use Rattle.ipam_plain.proofs.Leaving.{sorted-freed}
use Rattle.ipam_plain.proofs.Readying.{add-told, gives-added, served-plain}
use Rattle.ipam_plain.proofs.Whole.{add_alone}

-- ---- what several gifts make of the rows

pub record GainsRows (attributes : Attributes) (old now : Rows) (gifts : List PlainGift) : Type 0 where
  pub stays : (c : CidrValue) (a : Allocation) → HeldAt old c a → HeldAt now c a
  pub came : (c : CidrValue) (a : Allocation) → HeldAt now c a → HeldAt old c a ⊎ ((g : PlainGift) × Contains gifts g × (c ≡ g.block) × (a ≡ allocation_of attributes g))
  pub has : (g : PlainGift) → Contains gifts g → HeldAt now g.block (allocation_of attributes g)
  pub address : (g : PlainGift) → Contains gifts g → g.address ≡ ordinal_address g.block g.ordinal
  pub later : (g : PlainGift) → Contains gifts g → (b : BlockValue) → record_at (key.Block g.block) old ≡ Some (record_of.Block b) → b.sequence < g.stamp
  pub grows : Grows old now

pub gains-none : (attributes : Attributes) (rows : Rows) → GainsRows attributes rows rows []
gains-none attributes rows = record {
  stays = λ c a h. h;
  came = λ c a h. inl h;
  has = λ g among. absurd (in-nothing g among);
  address = λ g among. absurd (in-nothing g among);
  later = λ g among. absurd (in-nothing g among);
  grows = λ c b at. (b, at, omega arith);
}

pub gains-more : (attributes : Attributes) (old now after : Rows) (gifts : List PlainGift) (gift : PlainGift) → GainsRows attributes old now gifts → GivesOne attributes now gift after → GainsRows attributes old after (gifts ++ gift ∷ [])
gains-more attributes old now after gifts gift h one = record {
  stays = λ c a held. one.stays c a (h.stays c a held);
  came = came;
  has = λ g among. each (λ x. HeldAt after x.block (allocation_of attributes x)) (λ x was. one.stays x.block (allocation_of attributes x) (h.has x was)) one.new g among;
  address = λ g among. each (λ x. x.address ≡ ordinal_address x.block x.ordinal) h.address one.address g among;
  later = λ g among. each (λ x. (b : BlockValue) → record_at (key.Block x.block) old ≡ Some (record_of.Block b) → b.sequence < x.stamp) h.later newest g among;
  grows = grows-trans old now after h.grows one.grows;
}
  where
    -- what holds of those before and of the new one holds of each
    each : (P : PlainGift → Type 0) → ((x : PlainGift) → Contains gifts x → P x) → P gift → (g : PlainGift) → Contains (gifts ++ gift ∷ []) g → P g
    each P before own g among = elim (Contains-append_cases gifts (gift ∷ []) g among) [
      | inl was ↦ before g was
      | inr last ↦ elim (in-cons g gift [] last) [ inl same ↦ subst P same own | inr none ↦ absurd (in-nothing g none) ]
    ]

    newest : (b : BlockValue) → record_at (key.Block gift.block) old ≡ Some (record_of.Block b) → b.sequence < gift.stamp
    newest b at = let (middle, there, least) = h.grows gift.block b at in let less = one.later middle there in omega arith

    came : (c : CidrValue) (a : Allocation) → HeldAt after c a → HeldAt old c a ⊎ ((g : PlainGift) × Contains (gifts ++ gift ∷ []) g × (c ≡ g.block) × (a ≡ allocation_of attributes g))
    came c a held = elim (one.was c a held) [
      | inr new ↦ inr (gift, Contains-append_right gifts (gift ∷ []) gift (in-here gift []), new.0, new.1)
      | inl before ↦ elim (h.came c a before) [
        | inl first ↦ inl first
        | inr (g, among, cidr, is) ↦ inr (g, Contains-append_left gifts (gift ∷ []) g among, cidr, is)
      ]
    ]

-- ---- gifts that are freed

module _ (request : AddRequest) where
  abbrev picks_of : PlainGift → Allocation → Bool
  picks_of gift = (freeing_gift request gift).picks

  gifts-sorted : (gifts : List PlainGift) (rows : Rows) → IsSorted rows → IsSorted (with_gifts_freed request gifts rows)
  gifts-sorted [] rows sorted = sorted
  gifts-sorted (gift ∷ gifts) rows sorted = gifts-sorted gifts (with_freed (freeing_gift request gift) rows) (sorted-freed (freeing_gift request gift) rows sorted)

  abbrev IsUnpicked : List PlainGift → CidrValue → Allocation → Type 0
  IsUnpicked gifts c a = (g : PlainGift) → Contains gifts g → c ≡ g.block → picks_of g a ≡ false

  gifts-was : (gifts : List PlainGift) (rows : Rows) (c : CidrValue) (a : Allocation) → HeldAt (with_gifts_freed request gifts rows) c a → HeldAt rows c a × IsUnpicked gifts c a
  gifts-was [] rows c a h = (h, λ g among. absurd (in-nothing g among))
  gifts-was (first ∷ rest) rows c a h =
      let what = freeing_gift request first in
      let (later, others) = gifts-was rest (with_freed what rows) c a h in
      let (before, own) = freed-was what rows c a later in (
        before,
        λ g among. elim (in-cons g first rest among) [
          | inl same ↦ subst (λ (x : PlainGift). c ≡ x.block → picks_of x a ≡ false) same own
          | inr further ↦ others g further
        ],
      )

  gifts-stays : (gifts : List PlainGift) (rows : Rows) (c : CidrValue) (a : Allocation) → HeldAt rows c a → IsUnpicked gifts c a → HeldAt (with_gifts_freed request gifts rows) c a
  gifts-stays [] rows c a h none = h
  gifts-stays (first ∷ rest) rows c a h none =
      gifts-stays rest (with_freed (freeing_gift request first) rows) c a (freed-stays (freeing_gift request first) rows c a h (none first (in-here first rest)))
      (λ g among. none g (in-there g first rest among))

  own-number : (n : ℕ) → (n == n) ≡ true
  own-number n = elim (cases_Bool (n == n)) [ inl is ↦ is | inr differs ↦ absurd (eqb-false n n differs refl) ]

  all-three : (one two three : Bool) → one ≡ true → two ≡ true → three ≡ true → one && two && three ≡ true
  all-three one two three a b c = λ i. a i && b i && c i

  middle-false : (one two three : Bool) → two ≡ false → one && two && three ≡ false
  middle-false true true three e = absurd (cc e)
  middle-false true false three e = refl
  middle-false false two three e = refl

  -- what was given is picked
  own-picked : (g : PlainGift) → picks_of g (allocation_of request.attributes g) ≡ true
  own-picked g = all-three (g.ordinal == g.ordinal) (g.stamp == g.stamp) _ (own-number g.ordinal) (own-number g.stamp) (same_text request.attributes.handle)

  module _ (store : Datastore) (sound : IsDatastore store) where
    -- what was there before is not
    old-unpicked : (now : Rows) (gifts : List PlainGift) → GainsRows request.attributes store.rows now gifts → (c : CidrValue) (a : Allocation) → HeldAt store.rows c a → IsUnpicked gifts c a
    old-unpicked now gifts gains c a (b, at, among) g there same =
        let (revision, row) = record-row (key.Block c) store.rows (record_of.Block b) at in
        let block = (row-there store (key.Block c) revision (record_of.Block b) sound row).is_record.block in
        let stamped : (0 < a.stamp) × (a.stamp ≤ b.sequence) = All-contains (λ (x : Allocation). (0 < x.stamp) × (x.stamp ≤ b.sequence)) b.allocations a block.stamped among in
        let most = stamped.1 in
        let less = gains.later g there b (subst (λ (k : CidrValue). record_at (key.Block k) store.rows ≡ Some (record_of.Block b)) same at) in
        middle-false (a.ordinal == g.ordinal) (a.stamp == g.stamp) _ (differs (a.stamp == g.stamp) refl most less)
      where
        differs : (t : Bool) → (a.stamp == g.stamp) ≡ t → a.stamp ≤ b.sequence → b.sequence < g.stamp → t ≡ false
        differs true e most less = let is = eqb-true a.stamp g.stamp e in absurd (omega arith)
        differs false e most less = refl

    -- gifts that are all there, or none and the same owners as before
    record NothingGiven (result : PlainResult) : Type 0 where
      none : (addresses : List AddrValue) → result.0 ≢ Gives addresses
      was : (c : CidrValue) (a : Allocation) → HeldAt result.1 c a → HeldAt store.rows c a
      stays : (c : CidrValue) (a : Allocation) → HeldAt store.rows c a → HeldAt result.1 c a
      sorted : IsSorted result.1

    record SomeGiven (result : PlainResult) : Type 0 where
      gifts : List PlainGift
      is : result.0 ≡ Gives (map (λ (g : PlainGift). g.address) gifts)
      gains : GainsRows request.attributes store.rows result.1 gifts
      sorted : IsSorted result.1

    refused : (why : PlainAnswer) (gifts : List PlainGift) (now : Rows) → ((addresses : List AddrValue) → why ≢ Gives addresses) → IsSorted now → GainsRows request.attributes store.rows now gifts → NothingGiven (why, with_gifts_freed request gifts now)
    refused why gifts now none sorted gains = record {
      none = none;
      was = was;
      stays = λ c a h. gifts-stays gifts now c a (gains.stays c a h) (old-unpicked now gifts gains c a h);
      sorted = gifts-sorted gifts now sorted;
    }
      where
        was : (c : CidrValue) (a : Allocation) → HeldAt (with_gifts_freed request gifts now) c a → HeldAt store.rows c a
        was c a h =
            let (before, unpicked) = gifts-was gifts now c a h in
            elim (gains.came c a before) [
              | inl old ↦ old
              | inr (g, among, cidr, is) ↦
                  let picked : picks_of g a ≡ true = subst (λ (x : Allocation). picks_of g x ≡ true) (sym is) (own-picked g) in
                  let differs = unpicked g among cidr in
                  absurd (cc (picked, differs))
            ]

    each-gains : (families : List Family) (gifts : List PlainGift) (now : Rows) → IsSorted now → GainsRows request.attributes store.rows now gifts → SomeGiven (plain_each request gifts families now) ⊎ NothingGiven (plain_each request gifts families now)
    each-gains [] gifts now sorted gains = inl (record { gifts = gifts; is = refl; gains = gains; sorted = sorted })
    each-gains (family ∷ families) gifts now sorted gains =
        by (pick_of (asked_of request family) (seen_in now)) refl (λ gift after order one. each-gains families (gifts ++ gift ∷ []) after order (gains-more request.attributes store.rows now after gifts gift gains one))
      where
        by : (pick : Pick) → pick_of (asked_of request family) (seen_in now) ≡ pick
            → ((gift : PlainGift) (after : Rows) → IsSorted after → GivesOne request.attributes now gift after → SomeGiven (plain_each request (gifts ++ gift ∷ []) families after) ⊎ NothingGiven (plain_each request (gifts ++ gift ∷ []) families after))
            → SomeGiven (plain_after request gifts (λ gift later. plain_each request (gifts ++ gift ∷ []) families later) (plain_pick request family pick now))
            ⊎ NothingGiven (plain_after request gifts (λ gift later. plain_each request (gifts ++ gift ∷ []) families later) (plain_pick request family pick now))
        by (Picks ranked) is on =
            let s = served-plain request family now ranked sorted is in
            let same = ap (λ (p : Pick). plain_pick request family p now) (sym is) ∙ s.is in
            subst (λ (p : PlainServed). SomeGiven (plain_after request gifts (λ gift later. plain_each request (gifts ++ gift ∷ []) families later) p) ⊎ NothingGiven (plain_after request gifts (λ gift later. plain_each request (gifts ++ gift ∷ []) families later) p))
            (sym same) (on s.gift s.after s.sorted s.gives)
        by NoneLeft is on = inr (refused _ gifts now (λ addresses e. cc e) sorted gains)
        by (Unknown place) is on = inr (refused _ gifts now (λ addresses e. cc e) sorted gains)

-- ---- the owners of two stores

-- what is said of the rows is said of the owners
pub gains-owners : (attributes : Attributes) (old new : Datastore) (now : Rows) (gifts : List PlainGift) → IsSorted old.rows → IsSorted now → owners_in new.rows ≡ owners_in now → GainsRows attributes old.rows now gifts
    → GainsThese old new attributes.handle (map (λ (g : PlainGift). g.address) gifts)
gains-owners attributes old new now gifts sorted later owners gains = record { stay = stay; come = come; has = has }
  where
    stay : (o : Owner) → Owns old o → Owns new o
    stay o owns =
        let held = owner-held old.rows o sorted owns in
        subst (λ (l : List Owner). Contains l o) (sym owners)
        (subst (λ (x : Owner). Contains (owners_in now) x) held.is_owner (held-owner now held.cidr held.a (gains.stays held.cidr held.a held.held)))

    come : (o : Owner) → Owns new o → Owns old o ⊎ ((o.handle ≡ attributes.handle) × Contains (map (λ (g : PlainGift). g.address) gifts) o.address)
    come o owns =
        let held = owner-held now o later (subst (λ (l : List Owner). Contains l o) owners owns) in
        elim (gains.came held.cidr held.a held.held) [
          | inl before ↦ inl (subst (λ (x : Owner). Owns old x) held.is_owner (held-owner old.rows held.cidr held.a before))
          | inr (g, among, cidr, is) ↦
              let whole : owner_of g.block (allocation_of attributes g) ≡ o = (λ i. owner_of (sym cidr i) (sym is i)) ∙ held.is_owner in
              let same : g.address ≡ o.address = gains.address g among ∙ ap (λ (x : Owner). x.address) whole in
              inr (
                sym (ap (λ (x : Owner). x.handle) whole),
                subst (λ (x : AddrValue). Contains (map (λ (y : PlainGift). y.address) gifts) x) same (in-map (λ (x : PlainGift). x.address) g gifts among),
              )
        ]

    has : (address : AddrValue) → Contains (map (λ (g : PlainGift). g.address) gifts) address → (o : Owner) × Owns new o × (o.handle ≡ attributes.handle) × (o.address ≡ address)
    has address among =
        let (g, there, same) = out-map (λ (x : PlainGift). x.address) address gifts among in (
          owner_of g.block (allocation_of attributes g),
          subst (λ (l : List Owner). Contains l (owner_of g.block (allocation_of attributes g))) (sym owners) (held-owner now g.block (allocation_of attributes g) (gains.has g there)),
          refl,
          sym (gains.address g there) ∙ same,
        )

pub add_owners : AddOwnersLaw
add_owners base request consistent sound spare = (gained, kept)
  where
    told : plain_of (alone_over base (Add request)).0 ≡ Some (plain_add request base.store.rows).0
    told = (add_alone request base (plain_add request base.store.rows) consistent sound spare refl).0

    owners : owners_in (alone_over base (Add request)).1.rows ≡ owners_in (plain_add request base.store.rows).1
    owners = same-owners (alone_over base (Add request)).1.rows (plain_add request base.store.rows).1 (add_alone request base (plain_add request base.store.rows) consistent sound spare refl).1

    ends : SomeGiven request base.store consistent.sound (plain_add request base.store.rows) ⊎ NothingGiven request base.store consistent.sound (plain_add request base.store.rows)
    ends = each-gains request base.store consistent.sound (families_if request.ipv4 request.ipv6) [] base.store.rows consistent.sound.ascending (gains-none request.attributes base.store.rows)

    owns-then : (o : Owner) → Owns (alone_over base (Add request)).1 o → Contains (owners_in (plain_add request base.store.rows).1) o
    owns-then o owns = subst (λ (l : List Owner). Contains l o) owners owns

    then-owns : (o : Owner) → Contains (owners_in (plain_add request base.store.rows).1) o → Owns (alone_over base (Add request)).1 o
    then-owns o owns = subst (λ (l : List Owner). Contains l o) (sym owners) owns

    some-gained : (given : List Given) → (plain_add request base.store.rows).0 ≡ Gives (addresses_in given) → SomeGiven request base.store consistent.sound (plain_add request base.store.rows) → GainsThese base.store (alone_over base (Add request)).1 request.attributes.handle (addresses_in given)
    some-gained given is some =
        let both : Gives (map (λ (g : PlainGift). g.address) some.gifts) ≡ Gives (addresses_in given) = sym some.is ∙ is in
        let addresses : map (λ (g : PlainGift). g.address) some.gifts ≡ addresses_in given = cc both in
        subst (λ (l : List AddrValue). GainsThese base.store (alone_over base (Add request)).1 request.attributes.handle l) addresses
        (gains-owners request.attributes base.store (alone_over base (Add request)).1 (plain_add request base.store.rows).1 some.gifts consistent.sound.ascending some.sorted owners some.gains)

    gained : (given : List Given) → (alone_over base (Add request)).0 ≡ answer.Added given → GainsThese base.store (alone_over base (Add request)).1 request.attributes.handle (addresses_in given)
    gained given is =
        let both : Some (plain_add request base.store.rows).0 ≡ Some (Gives (addresses_in given)) = sym told ∙ ap plain_of is in
        let gives : (plain_add request base.store.rows).0 ≡ Gives (addresses_in given) = cc both in
        elim ends [ inl some ↦ some-gained given gives some | inr nothing ↦ absurd (nothing.none (addresses_in given) gives) ]

    kept : ¬ ((given : List Given) × ((alone_over base (Add request)).0 ≡ answer.Added given)) → (o : Owner) → Owns (alone_over base (Add request)).1 o ↔ Owns base.store o
    kept none o = elim ends [
      | inl some ↦
          let a = add-told base request consistent sound in
          absurd (none (gives-added (alone_over base (Add request)).0 a.0 (map (λ (g : PlainGift). g.address) some.gifts) a.1 (told ∙ ap (λ (p : PlainAnswer). Some p) some.is)))
      | inr nothing ↦ (
        λ owns.
            let held = owner-held (plain_add request base.store.rows).1 o nothing.sorted (owns-then o owns) in
            subst (λ (x : Owner). Owns base.store x) held.is_owner (held-owner base.store.rows held.cidr held.a (nothing.was held.cidr held.a held.held)),
        λ owns.
            let held = owner-held base.store.rows o consistent.sound.ascending owns in
            then-owns o (subst (λ (x : Owner). Contains (owners_in (plain_add request base.store.rows).1) x) held.is_owner
            (held-owner (plain_add request base.store.rows).1 held.cidr held.a (nothing.stays held.cidr held.a held.held))),
      )
    ]
