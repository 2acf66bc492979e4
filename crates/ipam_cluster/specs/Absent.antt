-- What is left of a release of an affinity that no node can have.
use Rattle.ipam_records.specs.Word.{Word, Ends}
use Rattle.ipam_model.specs.declared.outcome.ReleaseAnswer.{ReleaseAnswer}
use Rattle.ipam_model.specs.declared.outcome.ReleaseAnswer.TheVariants.{NoAffinity}
use Rattle.ipam_model.specs.Affinities.{release}
use Rattle.ipam_cluster.specs.declared.absent.AbsentTurned.{AbsentTurned}
use Rattle.ipam_cluster.specs.declared.absent.AbsentRelease.{AbsentRelease}

abbrev pub absent_rest : AbsentRelease → Word ReleaseAnswer
absent_rest p = release p.node p.cidr

-- its one read decides
abbrev pub absent_leaves : AbsentRelease → AbsentTurned → Word ReleaseAnswer
absent_leaves p turned = Ends (NoAffinity turned.moment)
