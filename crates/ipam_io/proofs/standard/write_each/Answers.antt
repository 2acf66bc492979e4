use Rattle.std.proofs.Common.{rules, ◌≡◌, ℕ, ◌-◌, List, [], ◌++◌, length, take, drop, sym, ap, ◌∙◌, subst, append_assoc, append-nil, take-append-drop, drop_of_length-le}
use Rattle.std.proofs.lemmas.List.{take_rest}
use Rattle.std.specs.Io.KnownBytes.{Appends}
use Rattle.std.proofs.KnownBytes.{Appends-trans, Appends-kept}
use Rattle.ipam_io.proofs.standard.write_each.Goals as goal
use Rattle.ipam_io.proofs.standard.write_each.Goals.{in-Ok, in-Err+else-ne}

moves_front : (all done rest : List ℕ) (n : ℕ) → all ≡ done ++ rest → all ≡ (done ++ take n rest) ++ drop n rest
moves_front all done rest n e =
    e ∙ ap (λ l. done ++ l) (sym (take-append-drop n rest)) ∙ sym (append_assoc done (take n rest) (drop n rest))

moves_on : (all done rest : List ℕ) (n : ℕ) → all ≡ done ++ rest → all ≡ (done ++ take n rest) ++ take (length rest - n) (drop n rest)
moves_on all done rest n e =
    moves_front all done rest n e ∙ ap (λ l. (done ++ take n rest) ++ l) (sym (take_rest rest n))

pub returns-then-is_empty-clause-bytes : goal.returns-then-is_empty-clause-bytes
returns-then-is_empty-clause-bytes g c =
    let (done, split, appended) = c.loop.invariant in
    let rest = c.loop.rest.now in
    let empty : rest ≡ [] = drop_of_length-le rest {i = 0} (search rules) in
    subst (Appends _ _) (sym (split ∙ ap (λ l. done ++ l) empty ∙ append-nil done)) appended

pub returns-in-Ok-eq0-clause-part : goal.returns-in-Ok-eq0-clause-part
returns-in-Ok-eq0-clause-part g c =
    let (done, split, appended) = c.loop.invariant in
    let rest = c.loop.rest.now in
    let n = c.in-Ok-eq0.field-0 in
    (done ++ take n rest, drop n rest, moves_front _ done rest n split, Appends-trans _ _ _ _ _ appended c.in-Ok-eq0.ensures.bytes)

pub returns-then-ne-clause-part : goal.returns-then-ne-clause-part
returns-then-ne-clause-part g c =
    let (done, split, appended) = c.loop.invariant in
    (done, c.loop.rest.now, split, Appends-kept _ _ _ _ appended c.in-Err.ensures.bytes)

pub loop-preserved : goal.loop-preserved
loop-preserved g c =
    let (done, split, appended) = c.loop.invariant in
    let rest = c.loop.rest.now in
    elim c.match-write.branch [
      | in-Ok w ↦ (done ++ take w.in-Ok.count rest, moves_on _ done rest w.in-Ok.count split ∙ ap (λ l. (done ++ take w.in-Ok.count rest) ++ l) (ap (λ b. b.now) (sym w.rest-is)), Appends-trans _ _ _ _ _ appended w.in-Ok.ensures.bytes)
      | in-Err+else-ne w ↦ (done, split ∙ ap (λ l. done ++ l) (ap (λ b. b.now) (sym w.rest-is)), Appends-kept _ _ _ _ appended w.in-Err.ensures.bytes)
    ]

pub returns-clause-part : goal.returns-clause-part
returns-clause-part g c =
    let (done, split, appended) = c.loop.invariant in
    (done, c.loop.rest.now, split, appended)
