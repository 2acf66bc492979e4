use Rattle.std.proofs.Common.{◌≡◌, ◌∙◌, sym, false}
use Rattle.ipam_select.specs.Every.{is_every}
use Rattle.ipam_record_text.proofs.rules.put_selector.Goals as goal

pub returns : goal.returns
returns c =
    let some : is_every c.args.selector.now ≡ false = sym c.is_all.ensures ∙ c.if-is_all.false in
    rw (some, ← c.in_ok-text.ensures) c.put.ensures.ok
