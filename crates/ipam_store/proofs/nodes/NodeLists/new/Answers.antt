use Rattle.std.proofs.lemmas.List.Elements.{All-nil}
use Rattle.ipam_store.specs.NodeNames.{HasRoom}
use Rattle.ipam_store.proofs.NodeLemmas.{AreNodeLists-none}
use Rattle.ipam_store.proofs.nodes.NodeLists.new.Goals as goal

pub invariant_of-result : goal.invariant_of-result
invariant_of-result c = rw c.new.ensures.items (record { lists = AreNodeLists-none; next = tt; roomy = λ _. All-nil HasRoom })
