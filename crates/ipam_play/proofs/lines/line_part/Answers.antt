use Rattle.std.proofs.Common.{[], refl, sym, append-nil, inl}
use Rattle.ipam_play.proofs.ReadingLemmas.{cut_at}
use Rattle.ipam_play.proofs.lines.line_part.Goals as goal

pub returns-in-Some-clause-cut : goal.returns-in-Some-clause-cut
returns-in-Some-clause-cut c = cut_at c.args.bytes.now c.in-Some.place c.in-Some.ensures.within c.in-Some.ensures.found

pub returns-in-None-clause-cut : goal.returns-in-None-clause-cut
returns-in-None-clause-cut c = ([], sym (append-nil c.args.bytes.now), inl refl)
