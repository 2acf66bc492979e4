use Rattle.std.proofs.Common.{◌≡◌, ◌∙◌, ◌+◌, ◌∷◌, ◌++◌, [], get_or, drop, sym, ap, subst, arith, add-one, drop-cons, append_assoc}
use Rattle.ipam_block_text.specs.Stamps.{Stamp, AreBefore}
use Rattle.ipam_block_text.proofs.StampPlaces.{within_place, stands_at, before_push}
use Rattle.ipam_block_text.proofs.stamps.push_those_before.Goals as goal

pub bounds-earlier-next : goal.bounds-earlier-next
bounds-earlier-next c = within_place c.args.earlier.now c.args.ordinal c.places.next (sym c.stands_before.ensures ∙ c.places-test.true)

pub places-smaller : goal.places-smaller
places-smaller c =
    let within = within_place c.args.earlier.now c.args.ordinal c.places.next (sym c.stands_before.ensures ∙ c.places-test.true) in
    omega (arith, within)

pub places-preserved : goal.places-preserved
places-preserved c =
    let earlier = c.args.earlier.now in
    let merged = c.places.merged.items in
    let next = c.places.next in
    let test = sym c.stands_before.ensures ∙ c.places-test.true in
    let within = within_place earlier c.args.ordinal next test in
    let own : Stamp = get_or earlier next (0, 0) in
    let left : drop next earlier ≡ own ∷ drop (next + 1) earlier = rw add-one (drop-cons earlier next (0, 0) within) in
    let pushed : c.push.new.self.items ≡ merged ++ own ∷ [] = c.in_ok-push.ensures.items in
    record {
      same = ap (λ xs. xs ++ drop (next + 1) earlier) pushed ∙ append_assoc merged (own ∷ []) (drop (next + 1) earlier) ∙ ap (λ xs. merged ++ xs) (sym left) ∙ c.places.invariant.same;
      merged = subst (AreBefore c.args.ordinal) (sym pushed) (before_push merged own c.args.ordinal c.places.invariant.merged (stands_at earlier c.args.ordinal next (0, 0) test));
    }
