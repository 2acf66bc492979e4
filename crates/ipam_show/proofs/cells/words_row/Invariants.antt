use Rattle.std.proofs.Common.{◌≡◌, map, take}
use Rattle.ipam_show.proofs.cells.words_row.Given as goal

abbrev pub invariant-loop-word : goal.invariant-loop-word
invariant-loop-word l = l.cells.items ≡ map (λ word. word.now) (take l.word-index l.words)
