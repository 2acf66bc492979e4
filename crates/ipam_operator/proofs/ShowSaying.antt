-- What is told of rows that came.
use Rattle.std.proofs.Common.{◌≡◌, ℕ, List, Option, subst}
use Rattle.ipam_operator.specs.declared.end.End.{End}
use Rattle.ipam_operator.specs.Telling.{Says}
use Rattle.ipam_records.specs.Datastore.{Datastore}
use Rattle.ipam_words.specs.Views.{AskedView}
use Rattle.ipam_operator.specs.Showing.{end_of, said_of}

pub says_of : (seen : AskedView) (found all : Option Datastore) → found ≡ all → (old new : Option (List ℕ)) (faults faults' : ℕ) (last : End)
    → Says (Unit {0}) old new faults faults' (said_of seen found) (end_of found) last → Says (Unit {0}) old new faults faults' (said_of seen all) (end_of all) last
says_of seen found all is old new faults faults' last says =
    subst (λ (o : Option Datastore). Says (Unit {0}) old new faults faults' (said_of seen o) (end_of o) last) is says
