-- Resources that are applied one after another.
use Rattle.std.proofs.Common.{◌≡◌, ℕ, List, [], ◌∷◌, ◌++◌, Option, Some, None, refl, sym, ap, ◌∙◌, subst, append_assoc}
use Rattle.std.proofs.lemmas.List.{append-nil}
use Rattle.std.specs.Iterator.{Yields}
use Rattle.std.specs.Vec.Iter.{into_iter_items, into_iter_steps}
use Rattle.std.specs.declared.vec.IntoIter.{IntoIter}
use Rattle.std.specs.Io.KnownBytes.{append_known}
use Rattle.ipam_io.specs.Counts.{Rose}
use Rattle.ipam_records.specs.Datastore.{Datastore}
use Rattle.ipam_resources.specs.declared.resource.Resource.{Resource}
use Rattle.ipam_resources.specs.Printed.{applied_line}
use Rattle.ipam_commands.specs.declared.status.Status.{Status}
use Rattle.ipam_commands.specs.declared.status.Status.TheVariants as status
use Rattle.ipam_commands.specs.Courses.{AreRowsOf}
use Rattle.ipam_commands.specs.Telling.{Writes}
use Rattle.ipam_commands.specs.Applying.{All, AreApplied, EndsAt, IsAppliedOn, KeeperFailed, Refused, RunEnds, Stopped, UpTo, Untold, alone_on, applied_lines}
use Rattle.ipam_keeper.specs.Outside.{Outside}
use Rattle.ipam_commands.specs.Outside.{Took, with_told}

-- one more is applied
pub applied-one : (store : Datastore) (front : List Resource) (before : Datastore) (one : Resource) → AreApplied store front before → IsAppliedOn before one
    → AreApplied store (front ++ one ∷ []) (alone_on before one).1
applied-one store [] before one same applied =
    (subst (λ (s : Datastore). IsAppliedOn s one) same applied, ap (λ (s : Datastore). (alone_on s one).1) same)
applied-one store (first ∷ front) before one h applied = (h.0, applied-one (alone_on store first).1 front before one h.1 applied)

lines-one : (front : List Resource) (one : Resource) → applied_lines (front ++ one ∷ []) ≡ applied_lines front ++ applied_line one
lines-one [] one = append-nil (applied_line one)
lines-one (first ∷ front) one =
    ap (λ (text : List ℕ). applied_line first ++ text) (lines-one front one)
    ∙ sym (append_assoc (applied_line first) (applied_lines front) (applied_line one))

known-append : (old : Option (List ℕ)) (one other : List ℕ) → append_known (append_known old one) other ≡ append_known old (one ++ other)
known-append None one other = refl
known-append (Some bytes) one other = ap Some (append_assoc bytes one other)

-- the sink took one line more
pub took-one : (old now new : Outside) (front : List Resource) (one : Resource) → Took old now (applied_lines front) → Took now new (applied_line one)
    → Took old new (applied_lines (front ++ one ∷ []))
took-one old now new front one h k = record {
  written = k.written
      ∙ ap (λ (w : Option (List ℕ)). append_known w (applied_line one)) h.written
      ∙ known-append old.written (applied_lines front) (applied_line one)
      ∙ ap (λ (text : List ℕ). append_known old.written text) (sym (lines-one front one));
  no_write_fault = k.no_write_fault ∙ h.no_write_fault;
  no_keeper_fault = k.no_keeper_fault ∙ h.no_keeper_fault;
}

-- ---- an iterator of a vector

-- what was given and what is left is all that there was
pub given-left : {X A : Type 0} (first : IntoIter X A) (given : List X) (now : IntoIter X A) → Yields into_iter_steps first given now → into_iter_items first ≡ given ++ into_iter_items now
given-left first [] now y = ap into_iter_items y
given-left first (x ∷ given) now y = y.1.0 ∙ ap (λ xs. x ∷ xs) (given-left y.0 given now y.2)

-- ---- how a run ends

-- all were given
pub all-end : (store : Datastore) (resources given : List Resource) (left : Datastore) (old now : Outside) → given ≡ resources → AreApplied store given left → Took old now (applied_lines given) → AreRowsOf now.rows left
    → RunEnds store resources old now status.Done
all-end store resources given left old now same applied took rows =
    All left (subst (λ (xs : List Resource). AreApplied store xs left) same applied)
    (record { rows = rows; no_keeper_fault = took.no_keeper_fault })
    (subst (λ (xs : List Resource). Took old now (applied_lines xs)) same took) refl

said-from : (one other new : Option (List ℕ)) (before between after : ℕ) (text : List ℕ) (own end : Status) → one ≡ other → before ≡ between → Writes one new before after text own end → Writes other new between after text own end
said-from one other new before between after text own end bytes faults said =
    subst (λ (w : Option (List ℕ)). Writes w new between after text own end) bytes
    (subst (λ (n : ℕ). Writes one new n after text own end) faults said)

-- it does not matter which rows there were before
ends-from : (store : Datastore) (one : Resource) (now old new : Outside) (end : Status) → now.written ≡ old.written → now.write_faults ≡ old.write_faults → now.keeper_faults ≡ old.keeper_faults → EndsAt store one now new end → EndsAt store one old new end
ends-from store one now old new end bytes writes keeps (Refused why is course left said) =
    Refused why is course (record { rows = left.rows; no_keeper_fault = left.no_keeper_fault ∙ keeps })
    (said-from now.written old.written new.written now.write_faults old.write_faults new.write_faults _ _ end bytes writes said)
ends-from store one now old new end bytes writes keeps (Untold applied left said not) =
    Untold applied (record { rows = left.rows; no_keeper_fault = left.no_keeper_fault ∙ keeps })
    (said-from now.written old.written new.written now.write_faults old.write_faults new.write_faults _ _ end bytes writes said) not
ends-from store one now old new end bytes writes keeps (KeeperFailed first course rose said) =
    KeeperFailed first course (subst (λ (n : ℕ). Rose n new.keeper_faults) keeps rose)
    (said-from now.written old.written new.written now.write_faults old.write_faults new.write_faults _ _ end bytes writes said)
ends-from store one now old new end bytes writes keeps (Stopped first course none kept) =
    Stopped first course (record { written = none.written ∙ bytes; no_write_fault = none.no_write_fault ∙ writes; no_memory = none.no_memory }) (kept ∙ keeps)

-- the run ended at one
pub one-end : (store : Datastore) (resources front : List Resource) (one : Resource) (rest : List Resource) (before : Datastore) (old now new : Outside) (end : Status) → resources ≡ front ++ one ∷ rest → AreApplied store front before → Took old now (applied_lines front) → EndsAt before one now new end
    → RunEnds store resources old new end
one-end store resources front one rest before old now new end same applied took ends =
    UpTo front one rest before same applied
    (ends-from before one now (with_told old (applied_lines front)) new end took.written took.no_write_fault took.no_keeper_fault ends)
