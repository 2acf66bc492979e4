-- What a word comes to that runs alone.
use Rattle.std.proofs.Common.{ℕ, ◌+◌, List, sym, subst}
use Rattle.ipam_records.specs.declared.call.Call.TheVariants.{Get, List as ListAll}
use Rattle.ipam_records.specs.declared.key.Key.{Key}
use Rattle.ipam_records.specs.declared.key.Kind.{Kind}
use Rattle.ipam_records.specs.Datastore.{Datastore, reply_of}
use Rattle.ipam_records.specs.Label.{CallLabel}
use Rattle.ipam_records.specs.Said.{Said}
use Rattle.ipam_records.specs.Word.{Word, Ends, Asks, Waits, bound}
use Rattle.ipam_model.specs.Alone.{alone}
use Rattle.ipam_laws.proofs.Calls.{behind-get, behind-list}
use Rattle.ipam_laws.proofs.Lift.{behind}

module _ (live : List (List ℕ)) where
  -- The word, every call of it done, ends with a store and an answer of which this holds.
  abbrev pub RunsTo : {A : Type 0} → (Datastore → A → Type 0) → Datastore → (moment : ℕ) → Word A → Type 0
  RunsTo Q store moment (Ends answer) = Q store answer
  RunsTo Q store moment (Asks label asked next) = RunsTo Q (behind store asked) (moment + 1) (next moment (reply_of store asked))
  RunsTo Q store moment (Waits next) = RunsTo Q store (moment + 1) (next live)

  pub RunsTo-bound : {A B : Type 0} → (R : Datastore → A → Type 0) (Q : Datastore → B → Type 0) (follows : A → Word B) (w : Word A) (store : Datastore) (moment : ℕ) → RunsTo R store moment w
      → ((then : Datastore) (later : ℕ) (a : A) → R then a → RunsTo Q then later (follows a)) → RunsTo Q store moment (bound w follows)
  RunsTo-bound R Q follows (Ends answer) store moment h k = k store moment answer h
  RunsTo-bound R Q follows (Asks label asked next) store moment h k = RunsTo-bound R Q follows (next moment (reply_of store asked)) (behind store asked) (moment + 1) h k
  RunsTo-bound R Q follows (Waits next) store moment h k = RunsTo-bound R Q follows (next live) store (moment + 1) h k

  -- so the word alone does
  pub runs-alone : {A : Type 0} → (Q : Datastore → A → Type 0) (w : Word A) (store : Datastore) (moment : ℕ) → RunsTo Q store moment w → Q (alone store moment live w).1 (alone store moment live w).0
  runs-alone Q (Ends answer) store moment h = h
  runs-alone Q (Asks label asked next) store moment h = runs-alone Q (next moment (reply_of store asked)) (behind store asked) (moment + 1) h
  runs-alone Q (Waits next) store moment h = runs-alone Q (next live) store (moment + 1) h

  -- a read changes nothing
  pub runs-get : {A : Type 0} → (Q : Datastore → A → Type 0) (store : Datastore) (moment : ℕ) (label : CallLabel) (k : Key) (next : ℕ → Said → Word A) → RunsTo Q store (moment + 1) (next moment (reply_of store (Get k))) → RunsTo Q store moment (Asks label (Get k) next)
  runs-get Q store moment label k next h = subst (λ (s : Datastore). RunsTo Q s (moment + 1) (next moment (reply_of store (Get k)))) (sym (behind-get store k)) h

  pub runs-list : {A : Type 0} → (Q : Datastore → A → Type 0) (store : Datastore) (moment : ℕ) (label : CallLabel) (kind : Kind) (next : ℕ → Said → Word A) → RunsTo Q store (moment + 1) (next moment (reply_of store (ListAll kind))) → RunsTo Q store moment (Asks label (ListAll kind) next)
  runs-list Q store moment label kind next h = subst (λ (s : Datastore). RunsTo Q s (moment + 1) (next moment (reply_of store (ListAll kind)))) (sym (behind-list store kind)) h
