use Rattle.std.proofs.Common.{◌≡◌, ◌<◌, length, get_or, set, inl, inr, sym, ◌∙◌, ap, subst, arith, rules}
use Rattle.std.specs.Vec.{vec_len}
use Rattle.std.proofs.lemmas.Bool.{cases_eq}
use Rattle.std.proofs.lemmas.List.{get_or-set_same, get_or-set_other}
use Rattle.ipam_store.specs.NodeNames.{HasRoom}
use Rattle.ipam_store.proofs.NodeLemmas.{named-same}
use Rattle.ipam_store.proofs.nodes.make_room.Goals as goal

pub returns-in_err-reserve-clause-lists : goal.returns-in_err-reserve-clause-lists
returns-in_err-reserve-clause-lists c =
    let within : c.loop-at.at < length c.loop-at.lists.items = search rules in
    named-same c.loop-at.lists.items c.loop-at.at c.index_mut.result.now c.reserve.new.self within c.index_mut.ensures.value c.reserve.ensures.items
    ∙ c.loop-at.invariant.lists

pub loop-at-preserved : goal.loop-at-preserved
loop-at-preserved c =
    let entries = c.loop-at.lists.items in
    let i = c.loop-at.at in
    let within : i < length entries = search rules in
    let room : HasRoom (c.index_mut.result.now.0, c.reserve.new.self) = record { is = search rules } in
    record {
      lists = named-same entries i c.index_mut.result.now c.reserve.new.self within c.index_mut.ensures.value c.reserve.ensures.items ∙ c.loop-at.invariant.lists;
      roomy = λ k d h. elim (cases_eq k i) [
        | inl same ↦
            let e = ap (λ n. get_or (set entries i (c.index_mut.result.now.0, c.reserve.new.self)) n d) same ∙ get_or-set_same entries i (c.index_mut.result.now.0, c.reserve.new.self) d within in
            subst HasRoom (sym e) room
        | inr other ↦
            subst HasRoom (sym (get_or-set_other entries i k (c.index_mut.result.now.0, c.reserve.new.self) d other)) (c.loop-at.invariant.roomy k d (omega arith))
      ];
      len = c.loop-at.invariant.len;
      capacity = c.loop-at.invariant.capacity;
    }

pub returns-clause-roomy : goal.returns-clause-roomy
returns-clause-roomy c = λ k d h.
    let count : vec_len c.loop-at.lists ≡ length c.loop-at.lists.items = search rules in
    let len = c.loop-at.invariant.len in
    c.loop-at.invariant.roomy k d (omega arith)
