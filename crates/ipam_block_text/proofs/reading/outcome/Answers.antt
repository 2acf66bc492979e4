use Rattle.std.proofs.Common.{◌∙◌, option_map, sym, ap}
use Rattle.serde_json.specs.View.{view}
use Rattle.ipam_block_text.proofs.Said.{small_said, said_without}
use Rattle.ipam_block_text.proofs.Exact.{SaysForm, no_value, no_parts, no_stamps, block_found, unsound_found, form_found}
use Rattle.ipam_block_text.proofs.reading.outcome.Goals as goal

pub returns-in_default : goal.returns-in_default
returns-in_default c =
    sym (no_value c.args.body.now (sym c.in_ok-value.ensures ∙ ap (option_map view) c.in_default.is))

pub returns-in_default-2 : goal.returns-in_default-2
returns-in_default-2 c =
    sym
    (no_parts c.args.body.now (view c.in-Some.value) (sym c.in_ok-value.ensures ∙ ap (option_map view) c.in-Some.is) (sym c.in_ok-parts.ensures ∙ c.in_default-2.is))

pub returns-in_default-stamps_in : goal.returns-in_default-stamps_in
returns-in_default-stamps_in c =
    sym
    (no_stamps c.args.body.now (view c.in-Some.value) c.in-Some-2.parts
    (sym c.in_ok-value.ensures ∙ ap (option_map view) c.in-Some.is)
    (sym c.in_ok-parts.ensures ∙ c.in-Some-2.is)
    (sym c.in_default-stamps_in.ensures))

pub block_with_text-requires : goal.block_with_text-requires
block_with_text-requires c = small_said (view c.in-Some.value) c.in-Some-2.parts (sym c.in_ok-parts.ensures ∙ c.in-Some-2.is)

pub is_text_with-requires : goal.is_text_with-requires
is_text_with-requires c = said_without (view c.in-Some.value) (view c.in-Some-stamps_in.stamps.now) c.in-Some-stamps_in.ensures

pub returns-in-Some-3 : goal.returns-in-Some-3
returns-in-Some-3 c =
    let says : SaysForm c.args.body.now (view c.in-Some.value) c.in-Some-2.parts (view c.in-Some-stamps_in.stamps.now) = record {
      value = sym c.in_ok-value.ensures ∙ ap (option_map view) c.in-Some.is;
      parts = sym c.in_ok-parts.ensures ∙ c.in-Some-2.is;
      stamps_said = sym c.in-Some-stamps_in.ensures;
    } in
    sym (block_found _ _ _ _ c.in-Some-3.block says (sym c.in_ok-block.ensures ∙ c.in-Some-3.is))

pub returns-then-branch : goal.returns-then-branch
returns-then-branch c =
    let says : SaysForm c.args.body.now (view c.in-Some.value) c.in-Some-2.parts (view c.in-Some-stamps_in.stamps.now) = record {
      value = sym c.in_ok-value.ensures ∙ ap (option_map view) c.in-Some.is;
      parts = sym c.in_ok-parts.ensures ∙ c.in-Some-2.is;
      stamps_said = sym c.in-Some-stamps_in.ensures;
    } in
    sym (unsound_found _ _ _ _ says (sym c.in_ok-block.ensures ∙ c.in_default-3.is) (sym c.in_ok-is_text_with.ensures ∙ c.if-branch.true))

pub returns : goal.returns
returns c =
    let says : SaysForm c.args.body.now (view c.in-Some.value) c.in-Some-2.parts (view c.in-Some-stamps_in.stamps.now) = record {
      value = sym c.in_ok-value.ensures ∙ ap (option_map view) c.in-Some.is;
      parts = sym c.in_ok-parts.ensures ∙ c.in-Some-2.is;
      stamps_said = sym c.in-Some-stamps_in.ensures;
    } in
    sym (form_found _ _ _ _ says (sym c.in_ok-is_text_with.ensures ∙ c.if-branch.false))
