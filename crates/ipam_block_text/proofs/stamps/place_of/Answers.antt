use Rattle.std.proofs.Common.{◌≡◌, ◌∙◌, true, drop, sym, ap}
use Rattle.ipam_block_text.specs.Stamps.{ends_before}
use Rattle.ipam_block_text.proofs.StampPlaces.{front_in_order, all_before}
use Rattle.ipam_block_text.proofs.stamps.place_of.Goals as goal

pub push_those_before-requires : goal.push_those_before-requires
push_those_before-requires c =
    let merged = c.args.merged.now.items in
    let last : ends_before merged c.args.ordinal ≡ true =
    ap (λ stamps. ends_before stamps c.args.ordinal) (sym c.as_slice.ensures.value) ∙ sym c.ends_before.ensures ∙ c.if-ends_before.true in
    all_before merged c.args.ordinal (front_in_order merged (drop c.args.place c.args.earlier.now.items) c.requires) last
