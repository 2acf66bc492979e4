-- What the calls of a trail made a handle's count ahead by.
use Rattle.std.proofs.Common.{◌≡◌, ℕ, ◌+◌, ◌<◌, ◌⊎◌, inl, inr, List, [], ◌∷◌, Option, Some, None, ap, subst}
use Rattle.std.specs.Prelude.{◌↔◌}
use Rattle.ipam_addr.specs.Shape.{CidrValue}
use Rattle.ipam_records.specs.declared.call.Call.{Call}
use Rattle.ipam_records.specs.declared.key.Key.{Key}
use Rattle.ipam_records.specs.declared.key.Key.TheVariants as key
use Rattle.ipam_records.specs.Datastore.{Datastore, reply_of}
use Rattle.ipam_records.specs.Label.{Credit}
use Rattle.ipam_records.specs.Said.{Can}
use Rattle.ipam_model.specs.CountLaw.{handle_count, held_count}
use Rattle.ipam_model.specs.Counting.{credit_of}
use Rattle.ipam_model.specs.Credits.{call_key_written}
use Rattle.ipam_model.specs.Named.{name_of}
use Rattle.ipam_laws.proofs.Lift.{behind}
use Rattle.ipam_laws.proofs.Trails.{Did, Got, Trail}

-- ---- one call

-- the call wrote the key's row, or deleted it
pub record Done (store : Datastore) (asked : Call) (k : Key) : Type 0 where
  pub writes : call_key_written (name_of asked) ≡ Some k
  pub revision : ℕ
  pub can : reply_of store asked ≡ Can revision

pub record Raises (store : Datastore) (asked : Call) (id : List ℕ) (cidr : CidrValue) : Type 0 where
  pub done : Done store asked (key.Handle id)
  pub by_one : handle_count (behind store asked) id cidr ≡ handle_count store id cidr + 1

pub record Frees (store : Datastore) (asked : Call) (credit : Credit) : Type 0 where
  pub done : Done store asked (key.Block credit.block)
  pub some : 0 < credit.amount
  pub so_many : held_count store credit.handle credit.block ≡ held_count (behind store asked) credit.handle credit.block + credit.amount

-- it raised no count by one, and freed nothing
pub record Harmless (store : Datastore) (asked : Call) : Type 0 where
  pub raises_none : (id : List ℕ) (cidr : CidrValue) → ¬ (Raises store asked id cidr)
  pub frees_none : (credit : Credit) → ¬ (Frees store asked credit)

-- it was not done
abbrev pub Undone : Datastore → Call → Type 0
Undone store asked = (k : Key) → ¬ (Done store asked k)

-- ---- a trail

-- a call of the trail did this, and none after it made up for it
unfoldable pub Lasts : (Event Kills : Datastore → Call → Type 0) → Trail → Type 0
Lasts Event Kills [] = ⊥
Lasts Event Kills (Did moment store asked ∷ trail) = Event store asked ⊎ (Lasts Event Kills trail × ¬ (Kills store asked))
Lasts Event Kills (Got moment at live ∷ trail) = Lasts Event Kills trail

abbrev pub UsesRaised : List ℕ → CidrValue → Datastore → Call → Type 0
UsesRaised id cidr store asked = Done store asked (key.Block cidr) ⊎ Done store asked (key.Handle id)

abbrev pub RaisedBy : Trail → List ℕ → CidrValue → Type 0
RaisedBy trail id cidr = Lasts (λ store asked. Raises store asked id cidr) (UsesRaised id cidr) trail

abbrev pub FreedBy : Trail → Credit → Type 0
FreedBy trail credit = Lasts (λ store asked. Frees store asked credit) (λ store asked. Done store asked (key.Handle credit.handle)) trail

-- what is owed: nothing, a count that was raised, or what was freed
pub data Debt : Type 0 where
  Nothing : Debt
  Raised : (id : List ℕ) (cidr : CidrValue) → Debt
  Freed : Credit → Debt

abbrev pub credit_in : Debt → Option Credit
credit_in Nothing = None
credit_in (Raised id cidr) = Some (credit_of id cidr 1)
credit_in (Freed credit) = Some credit

-- the trail owes exactly this
pub record Owes (trail : Trail) (debt : Debt) : Type 0 where
  pub raised : (id : List ℕ) (cidr : CidrValue) → (debt ≡ Raised id cidr) ↔ RaisedBy trail id cidr
  pub freed : (credit : Credit) → (debt ≡ Freed credit) ↔ FreedBy trail credit

pub owes-begins : Owes [] Nothing
unfolding Lasts
owes-begins = record {
  raised = λ id cidr. (λ e. absurd (cc e), λ h. absurd h);
  freed = λ credit. (λ e. absurd (cc e), λ h. absurd h);
}

pub owes-fed : (moment at : ℕ) (live : List (List ℕ)) (trail : Trail) (debt : Debt) → Owes trail debt → Owes (Got moment at live ∷ trail) debt
unfolding Lasts
owes-fed moment at live trail debt h = record { raised = h.raised; freed = h.freed }

module _ (moment : ℕ) (store : Datastore) (asked : Call) (trail : Trail) where
  -- what was not done changes nothing
  pub owes-still : (debt : Debt) → Undone store asked → Owes trail debt → Owes (Did moment store asked ∷ trail) debt
  unfolding Lasts
  owes-still debt none h = record {
    raised = λ id cidr. (
      λ e. inr ((h.raised id cidr).0 e, λ used. elim used [ inl done ↦ none (key.Block cidr) done | inr done ↦ none (key.Handle id) done ]),
      λ r. elim r [
        | inl raises ↦ absurd (none (key.Handle id) raises.done)
        | inr earlier ↦ (h.raised id cidr).1 earlier.0
      ],
    );
    freed = λ credit. (
      λ e. inr ((h.freed credit).0 e, none (key.Handle credit.handle)),
      λ r. elim r [
        | inl frees ↦ absurd (none (key.Block credit.block) frees.done)
        | inr earlier ↦ (h.freed credit).1 earlier.0
      ],
    );
  }

  -- where nothing is owed, a harmless call owes nothing
  pub owes-none : Harmless store asked → Owes trail Nothing → Owes (Did moment store asked ∷ trail) Nothing
  unfolding Lasts
  owes-none harmless h = record {
    raised = λ id cidr. (
      λ e. absurd (cc e),
      λ r. elim r [
        | inl raises ↦ absurd (harmless.raises_none id cidr raises)
        | inr earlier ↦ let e = (h.raised id cidr).1 earlier.0 in absurd (cc e)
      ],
    );
    freed = λ credit. (
      λ e. absurd (cc e),
      λ r. elim r [
        | inl frees ↦ absurd (harmless.frees_none credit frees)
        | inr earlier ↦ let e = (h.freed credit).1 earlier.0 in absurd (cc e)
      ],
    );
  }

  -- a raised count is made up for by a write of the block, or of the handle
  pub owes-used : (id : List ℕ) (cidr : CidrValue) → Harmless store asked → (Done store asked (key.Block cidr) ⊎ Done store asked (key.Handle id)) → Owes trail (Raised id cidr) → Owes (Did moment store asked ∷ trail) Nothing
  unfolding Lasts
  owes-used id cidr harmless used h = record {
    raised = λ other block. (
      λ e. absurd (cc e),
      λ r. elim r [
        | inl raises ↦ absurd (harmless.raises_none other block raises)
        | inr earlier ↦ absurd (gone other block ((h.raised other block).1 earlier.0) (λ d. earlier.1 (inl d)) (λ d. earlier.1 (inr d)))
      ],
    );
    freed = λ credit. (
      λ e. absurd (cc e),
      λ r. elim r [
        | inl frees ↦ absurd (harmless.frees_none credit frees)
        | inr earlier ↦ let e = (h.freed credit).1 earlier.0 in absurd (cc e)
      ],
    );
  }
    where
      gone : (other : List ℕ) (block : CidrValue) → Raised id cidr ≡ Raised other block → ¬ (Done store asked (key.Block block)) → ¬ (Done store asked (key.Handle other)) → ⊥
      gone other block e no_block no_handle =
          let ids : id ≡ other = cc e in
          let cidrs : cidr ≡ block = cc e in
          elim used [
            | inl done ↦ no_block (subst (λ (c : CidrValue). Done store asked (key.Block c)) cidrs done)
            | inr done ↦ no_handle (subst (λ (i : List ℕ). Done store asked (key.Handle i)) ids done)
          ]

  -- what was freed is made up for by a write of the handle
  pub owes-paid : (credit : Credit) → Harmless store asked → Done store asked (key.Handle credit.handle) → Owes trail (Freed credit) → Owes (Did moment store asked ∷ trail) Nothing
  unfolding Lasts
  owes-paid credit harmless done h = record {
    raised = λ id cidr. (
      λ e. absurd (cc e),
      λ r. elim r [
        | inl raises ↦ absurd (harmless.raises_none id cidr raises)
        | inr earlier ↦ let e = (h.raised id cidr).1 earlier.0 in absurd (cc e)
      ],
    );
    freed = λ other. (
      λ e. absurd (cc e),
      λ r. elim r [
        | inl frees ↦ absurd (harmless.frees_none other frees)
        | inr earlier ↦
            let same : credit ≡ other = cc ((h.freed other).1 earlier.0) in
            absurd (earlier.1 (subst (λ (c : Credit). Done store asked (key.Handle c.handle)) same done))
      ],
    );
  }

  pub owes-raised : (id : List ℕ) (cidr : CidrValue) → Raises store asked id cidr → ((other : List ℕ) (block : CidrValue) → Raises store asked other block → (id ≡ other) × (cidr ≡ block)) → ((credit : Credit) → ¬ (Frees store asked credit))
      → Owes trail Nothing → Owes (Did moment store asked ∷ trail) (Raised id cidr)
  unfolding Lasts
  owes-raised id cidr does only none h = record {
    raised = λ other block. (
      λ e.
          let ids : id ≡ other = cc e in
          let cidrs : cidr ≡ block = cc e in
          inl (subst (λ (p : List ℕ × CidrValue). Raises store asked p.0 p.1) (λ i. (ids i, cidrs i)) does),
      λ r. elim r [
        | inl raises ↦ let same = only other block raises in let ids = same.0 in let cidrs = same.1 in λ i. Raised (ids i) (cidrs i)
        | inr earlier ↦ let e = (h.raised other block).1 earlier.0 in absurd (cc e)
      ],
    );
    freed = λ credit. (
      λ e. absurd (cc e),
      λ r. elim r [
        | inl frees ↦ absurd (none credit frees)
        | inr earlier ↦ let e = (h.freed credit).1 earlier.0 in absurd (cc e)
      ],
    );
  }

  pub owes-freed : (credit : Credit) → Frees store asked credit → ((other : Credit) → Frees store asked other → credit ≡ other) → ((id : List ℕ) (cidr : CidrValue) → ¬ (Raises store asked id cidr))
      → Owes trail Nothing → Owes (Did moment store asked ∷ trail) (Freed credit)
  unfolding Lasts
  owes-freed credit does only none h = record {
    raised = λ id cidr. (
      λ e. absurd (cc e),
      λ r. elim r [
        | inl raises ↦ absurd (none id cidr raises)
        | inr earlier ↦ let e = (h.raised id cidr).1 earlier.0 in absurd (cc e)
      ],
    );
    freed = λ other. (
      λ e. let same : credit ≡ other = cc e in inl (subst (λ (c : Credit). Frees store asked c) same does),
      λ r. elim r [
        | inl frees ↦ ap Freed (only other frees)
        | inr earlier ↦ let e = (h.freed other).1 earlier.0 in absurd (cc e)
      ],
    );
  }
