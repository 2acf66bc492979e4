use Rattle.std.proofs.Common.{◌≡◌, List, refl, sym, ap, ◌∙◌, subst, rules}
use Rattle.ipam_addr.specs.Shape.{CidrValue}
use Rattle.ipam_block.specs.Order.{cidr_cmp}
use Rattle.ipam_records.specs.Listing.{rows_of}
use Rattle.ipam_records.proofs.KeysCompared.{cidrs_compared}
use Rattle.ipam_choice.specs.Ahead.{cidrs_left}
use Rattle.ipam_choice.proofs.AheadLemmas.{blocks_ascend}
use Rattle.ipam_choice.proofs.BareLemmas.{Walks, begins, passes, takes, takes_last, stands_bare, ends_bare, none_bare}
use Rattle.ipam_choice.proofs.slots.next_bare.Goals as goal

pub returns-in_err-number-clause-none : goal.returns-in_err-number-clause-none
returns-in_err-number-clause-none c = λ e.
    none_bare c.args.reserved.now (rows_of c.args.blocks.now) c.args.pool.now (c.in_err-number.ensures.full.0 refl)

pub loop-cidr-init : goal.loop-cidr-init
loop-cidr-init c =
    begins c.args.reserved.now (rows_of c.args.blocks.now) c.args.pool.now c.slot.result (cidrs_left c.of-ahead.result) c.in_ok-number.number
    c.slot.ensures.value c.of-ahead.ensures c.in_ok-number.ensures.next

pub loop-cidr-preserved-in-Less : goal.loop-cidr-preserved-in-Less
loop-cidr-preserved-in-Less c =
    let left = cidrs_left c.next_block.new.self in
    let walks = subst (λ (xs : List CidrValue). Walks c.args.reserved.now (rows_of c.args.blocks.now) c.args.pool.now xs c.loop-cidr.number) c.in-Some.ensures.some c.loop-cidr.invariant in
    let compared : cidr_cmp c.in-Some.cidr c.slot-in-Some.result ≡ c.cmp.result = grind (rules, cidrs_compared) in
    passes c.args.reserved.now (rows_of c.args.blocks.now) c.args.pool.now c.in-Some.cidr left c.loop-cidr.number walks
    (ap (cidr_cmp c.in-Some.cidr) (sym c.slot-in-Some.ensures.value) ∙ (compared ∙ c.in-Less.is))

pub returns-in_err-number-in-Equal-clause-none : goal.returns-in_err-number-in-Equal-clause-none
returns-in_err-number-in-Equal-clause-none c = λ e.
    let left = cidrs_left c.next_block.new.self in
    let walks = subst (λ (xs : List CidrValue). Walks c.args.reserved.now (rows_of c.args.blocks.now) c.args.pool.now xs c.loop-cidr.number) c.in-Some.ensures.some c.loop-cidr.invariant in
    let compared : cidr_cmp c.in-Some.cidr c.slot-in-Some.result ≡ c.cmp.result = grind (rules, cidrs_compared) in
    takes_last c.args.reserved.now (rows_of c.args.blocks.now) c.args.pool.now c.in-Some.cidr left c.loop-cidr.number walks
    (ap (cidr_cmp c.in-Some.cidr) (sym c.slot-in-Some.ensures.value) ∙ (compared ∙ c.in-Equal.is))
    (c.in_err-number-in-Equal.ensures.full refl)

pub loop-cidr-preserved : goal.loop-cidr-preserved
loop-cidr-preserved c =
    let left = cidrs_left c.next_block.new.self in
    let walks = subst (λ (xs : List CidrValue). Walks c.args.reserved.now (rows_of c.args.blocks.now) c.args.pool.now xs c.loop-cidr.number) c.in-Some.ensures.some c.loop-cidr.invariant in
    let compared : cidr_cmp c.in-Some.cidr c.slot-in-Some.result ≡ c.cmp.result = grind (rules, cidrs_compared) in
    takes c.args.reserved.now (rows_of c.args.blocks.now) c.args.pool.now c.in-Some.cidr left c.loop-cidr.number walks c.in_ok-number-in-Equal.number
    (ap (cidr_cmp c.in-Some.cidr) (sym c.slot-in-Some.ensures.value) ∙ (compared ∙ c.in-Equal.is))
    c.in_ok-number-in-Equal.ensures.next

pub returns-in-Greater-clause-found : goal.returns-in-Greater-clause-found
returns-in-Greater-clause-found c =
    let left = cidrs_left c.next_block.new.self in
    let walks = subst (λ (xs : List CidrValue). Walks c.args.reserved.now (rows_of c.args.blocks.now) c.args.pool.now xs c.loop-cidr.number) c.in-Some.ensures.some c.loop-cidr.invariant in
    let compared : cidr_cmp c.in-Some.cidr c.slot-in-Some.result ≡ c.cmp.result = grind (rules, cidrs_compared) in
    stands_bare c.args.reserved.now (rows_of c.args.blocks.now) c.args.pool.now c.in-Some.cidr left c.loop-cidr.number walks (blocks_ascend c.args.blocks.now)
    (ap (cidr_cmp c.in-Some.cidr) (sym c.slot-in-Some.ensures.value) ∙ (compared ∙ c.in-Greater.is))

pub returns-clause-found : goal.returns-clause-found
returns-clause-found c =
    ends_bare c.args.reserved.now (rows_of c.args.blocks.now) c.args.pool.now c.loop-cidr.number
    (subst (λ (xs : List CidrValue). Walks c.args.reserved.now (rows_of c.args.blocks.now) c.args.pool.now xs c.loop-cidr.number) (c.in_default.ensures.none refl) c.loop-cidr.invariant)
