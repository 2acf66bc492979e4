use Rattle.std.proofs.Common.{◌≡◌, ℕ, IsOk, List, ap, sym, ◌∙◌, set, suc, ◌+◌, drop, arith, rules}
use Rattle.std.specs.Global.{Vec}
use Rattle.std.specs.List.{insert}
use Rattle.ipam_records.specs.declared.record.Record.{Record}
use Rattle.ipam_records.specs.Pages.{rows_of_pages}
use Rattle.ipam_store.proofs.Paging.{rows-split, drop-split}
use Rattle.ipam_store.proofs.pages.split.Goals as goal

pub returns-else-is_err-clause-rows : goal.returns-else-is_err-clause-rows
returns-else-is_err-clause-rows c =
    let done : IsOk c.insert.result = search rules in
    let e : c.args.at + 1 ≡ suc c.args.at = omega arith in
    let is : c.insert.new.self.items ≡ insert (set c.args.pages.now.items c.args.at c.move_half.new.page) (c.args.at + 1) c.move_half.new.half = search rules in
    ap rows_of_pages is
    ∙ ap (λ n. rows_of_pages (insert (set c.args.pages.now.items c.args.at c.move_half.new.page) n c.move_half.new.half)) e
    ∙ rows-split c.args.pages.now.items c.args.at c.index_mut.result.now c.move_half.new.page c.move_half.new.half (omega arith)
    (c.move_half.ensures.rows ∙ ap (λ (p : Vec (ℕ × Record)). p.items) c.index_mut.ensures.value)

pub returns-else-is_err-clause-behind : goal.returns-else-is_err-clause-behind
returns-else-is_err-clause-behind c =
    let done : IsOk c.insert.result = search rules in
    let e : c.args.at + 1 ≡ suc c.args.at = omega arith in
    let f : c.args.at + 2 ≡ suc (suc c.args.at) = omega arith in
    let is : c.insert.new.self.items ≡ insert (set c.args.pages.now.items c.args.at c.move_half.new.page) (c.args.at + 1) c.move_half.new.half = search rules in
    ap (λ (ps : List (Vec (ℕ × Record))). rows_of_pages (drop (c.args.at + 2) ps)) is
    ∙ (λ i. rows_of_pages (drop (f i) (insert (set c.args.pages.now.items c.args.at c.move_half.new.page) (e i) c.move_half.new.half)))
    ∙ ap rows_of_pages (drop-split c.args.pages.now.items c.args.at c.move_half.new.page c.move_half.new.half (omega arith))
    ∙ sym (λ i. rows_of_pages (drop (e i) c.args.pages.now.items))
