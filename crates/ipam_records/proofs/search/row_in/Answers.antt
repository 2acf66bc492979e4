use Rattle.std.proofs.Common.{◌≡◌, true, false, rules, refl, arith, ap, ◌∙◌, rules}
use Rattle.ipam_records.specs.KeyRef.{owned_key}
use Rattle.ipam_records.specs.Datastore.{row_of}
use Rattle.ipam_records.specs.Pages.{rows_of_pages}
use Rattle.ipam_records.specs.Places.{begins_by}
use Rattle.ipam_records.proofs.RowSearch.{Narrows-back, Narrows-front, Narrows-one, Narrows-none}
use Rattle.ipam_records.proofs.search.row_in.Goals as goal

pub loop-left-init : goal.loop-left-init
loop-left-init c = record { sorted = c.requires; same = refl }

pub loop-left-preserved-then-begin_by : goal.loop-left-preserved-then-begin_by
loop-left-preserved-then-begin_by c =
    let key = owned_key c.args.key.now in
    let begins : begins_by key (rows_of_pages c.split_at.result.1.now) ≡ true = search rules in
    rw c.split_at.ensures.back (Narrows-back key c.args.pages.now c.loop-left.left.now c.loop-left.invariant _ (rw c.split_at.ensures.back at begins))

pub loop-left-preserved : goal.loop-left-preserved
loop-left-preserved c =
    let key = owned_key c.args.key.now in
    let begins : begins_by key (rows_of_pages c.split_at.result.1.now) ≡ false = search rules in
    rw c.split_at.ensures.front (Narrows-front key c.args.pages.now c.loop-left.left.now c.loop-left.invariant _ (rw c.split_at.ensures.back at begins))

pub returns-in_err-first : goal.returns-in_err-first
returns-in_err-first c =
    rw c.from_residual.ensures (Narrows-none (owned_key c.args.key.now) c.args.pages.now c.loop-left.left.now c.loop-left.invariant c.in_err-first.ensures.value)

pub row_of_page-requires : goal.row_of_page-requires
row_of_page-requires c =
    let one = Narrows-one (owned_key c.args.key.now) c.args.pages.now c.loop-left.left.now c.loop-left.invariant (omega arith) c.in_ok-first.field-0.now c.in_ok-first.ensures.value in
    rw c.deref.ensures.value one.0

pub returns : goal.returns
returns c =
    let one = Narrows-one (owned_key c.args.key.now) c.args.pages.now c.loop-left.left.now c.loop-left.invariant (omega arith) c.in_ok-first.field-0.now c.in_ok-first.ensures.value in
    c.row_of_page.ensures ∙ ap (row_of (owned_key c.args.key.now)) c.deref.ensures.value ∙ one.1
