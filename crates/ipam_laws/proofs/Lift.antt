-- Words that keep a law of stores and labels, whatever store they meet.
use Rattle.std.proofs.Common.{◌≡◌, ℕ, ◌<◌, ◌⊎◌, inl, inr, List, refl, sym, ◌∙◌, subst}
use Rattle.ipam_records.specs.declared.key.Key.{Key}
use Rattle.ipam_records.specs.declared.record.Record.{Record}
use Rattle.ipam_records.specs.declared.call.Call.{Call}
use Rattle.ipam_records.specs.Datastore.{Datastore, reply_of, write_granted}
use Rattle.ipam_records.specs.Label.{CallLabel, idle}
use Rattle.ipam_records.specs.Word.{Word, Ends, Asks, Waits, bound}
use Rattle.ipam_model.specs.AffinityLaw.{HasAt}
use Rattle.ipam_model.specs.Cluster.{store_with}

-- ---- what is known of rows

-- rows that were there at some moment
abbrev pub Known : Type 1
Known = Key → ℕ → Record → Type 0

-- all that was known, and the rows of two stores
abbrev pub more : Known → (old new : Datastore) → Known
more known old new key revision found =
    known key revision found ⊎ (HasAt old key revision found ⊎ HasAt new key revision found)

abbrev pub Grows : Known → Known → Type 0
Grows known other = (key : Key) (revision : ℕ) (found : Record) → known key revision found → other key revision found

-- a known row that is there still has its record, and no row has the revision 0
pub record Agrees (known : Known) (store : Datastore) : Type 0 where
  pub same : (key : Key) (revision : ℕ) (one other : Record) → known key revision one → HasAt store key revision other → one ≡ other
  pub positive : (key : Key) (revision : ℕ) (found : Record) → HasAt store key revision found → 0 < revision

pub Agrees-less : (known other : Known) (store : Datastore) → Grows known other → Agrees other store → Agrees known store
Agrees-less known other store grows h = record {
  same = λ key revision one found k there. h.same key revision one found (grows key revision one k) there;
  positive = h.positive;
}

pub more-grows : (known other : Known) (old new : Datastore) → Grows known other → Grows (more known old new) (more other old new)
more-grows known other old new grows key revision found (inl k) = inl (grows key revision found k)
more-grows known other old new grows key revision found (inr there) = inr there

-- what the call makes of the store
abbrev pub behind : Datastore → Call → Datastore
behind store asked = store_with (write_granted asked (reply_of store asked)) store

-- the label of the next call, or that of what follows an answer
abbrev pub label_to : {A : Type 0} → (A → CallLabel) → Word A → CallLabel
label_to following (Ends answer) = following answer
label_to following (Asks label asked next) = label
label_to following (Waits next) = idle

-- ---- a word that meets a law

-- The law says what a call may do to the store, from one label to the next, by what is known before it.
module _ (Does : Known → Datastore → Datastore → CallLabel → CallLabel → Type 0) where
  -- Whatever store agrees with what is known, the call does what it may, and what follows meets the
  -- law with more known. At an answer something is true of it and of what is known. What waits goes on
  -- with an idle label.
  abbrev pub Meets : {A : Type 0} → (A → CallLabel) → (Known → A → Type 0) → Known → Word A → Type 0
  Meets following P known (Ends answer) = P known answer
  Meets following P known (Asks label asked next) =
      (moment : ℕ) (store : Datastore) → Agrees known store
      → Does known store (behind store asked) label (label_to following (next moment (reply_of store asked)))
      × Meets following P (more known store (behind store asked)) (next moment (reply_of store asked))
  Meets following P known (Waits next) = (live : List (List ℕ)) → (label_to following (next live) ≡ idle) × Meets following P known (next live)

  pub Meets-grows : {A : Type 0} → ((known other : Known) (store next : Datastore) (label after : CallLabel) → Grows known other → Does known store next label after → Does other store next label after) → (following : A → CallLabel) (P : Known → A → Type 0) → ((known other : Known) (a : A) → Grows known other → P known a → P other a) → (w : Word A) (known other : Known) → Grows known other → Meets following P known w → Meets following P other w
  Meets-grows does_grow following P lasts (Ends answer) known other grows h = lasts known other answer grows h
  Meets-grows does_grow following P lasts (Asks label asked next) known other grows h = λ moment store agrees.
      let here = h moment store (Agrees-less known other store grows agrees) in
      (does_grow known other store (behind store asked) label (label_to following (next moment (reply_of store asked))) grows here.0, Meets-grows does_grow following P lasts (next moment (reply_of store asked)) (more known store (behind store asked)) (more other store (behind store asked)) (more-grows known other store (behind store asked) grows) here.1)
  Meets-grows does_grow following P lasts (Waits next) known other grows h = λ live. ((h live).0, Meets-grows does_grow following P lasts (next live) known other grows (h live).1)

  pub label_to-bound : {A B : Type 0} → (following : A → CallLabel) (further : B → CallLabel) (follows : A → Word B) → ((a : A) → following a ≡ label_to further (follows a)) → (w : Word A) → label_to following w ≡ label_to further (bound w follows)
  label_to-bound following further follows labels (Ends answer) = labels answer
  label_to-bound following further follows labels (Asks label asked next) = refl
  label_to-bound following further follows labels (Waits next) = refl

  pub Meets-bound : {A B : Type 0} → (following : A → CallLabel) (further : B → CallLabel) (P : Known → A → Type 0) (Q : Known → B → Type 0) (follows : A → Word B) → ((a : A) → following a ≡ label_to further (follows a)) → (w : Word A) (known : Known) → Meets following P known w → ((other : Known) (a : A) → Grows known other → P other a → Meets further Q other (follows a)) → Meets further Q known (bound w follows)
  Meets-bound following further P Q follows labels (Ends answer) known h k = k known answer (λ key revision found there. there) h
  Meets-bound following further P Q follows labels (Asks label asked next) known h k = λ moment store agrees.
      let here = h moment store agrees in (
        subst (λ (l : CallLabel). Does known store (behind store asked) label l) (label_to-bound following further follows labels (next moment (reply_of store asked))) here.0,
        Meets-bound following further P Q follows labels (next moment (reply_of store asked)) (more known store (behind store asked)) here.1
            (λ other a grows p. k other a (λ key revision found there. grows key revision found (inl there)) p),
      )
  Meets-bound following further P Q follows labels (Waits next) known h k = λ live. (
    sym (label_to-bound following further follows labels (next live)) ∙ (h live).0,
    Meets-bound following further P Q follows labels (next live) known (h live).1 k,
  )
