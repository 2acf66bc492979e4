-- What is to come of a link.
use Rattle.std.proofs.Common.{◌≡◌, ℕ, List, [], Option, Some, None, refl, ap, ◌∙◌, subst, Result, Ok}
use Rattle.std.specs.Io.KnownBytes.{prepend_known}
use Rattle.ipam_resources.specs.declared.resource.Resource.{Resource}
use Rattle.ipam_resources.specs.Documents.{document_reading}
use Rattle.ipam_operator.specs.declared.end.End.{End}
use Rattle.ipam_operator.specs.declared.asking.AskFault.{AskFault}
use Rattle.ipam_operator.specs.Asking.{Asks, Comes, Wire}
use Rattle.ipam_operator.specs.Applying.{DocumentEnds, Good, AskedOutside, AskedResourcesEnd}

pub known-nil : (known : Option (List ℕ)) → prepend_known [] known ≡ known
known-nil None = refl
known-nil (Some bytes) = refl

-- where nothing is held yet, a line comes of what the link has left
pub comes-anew : (line held : List ℕ) (left after : Option (List ℕ)) → held ≡ [] → Comes line (prepend_known held left) after → Comes line left after
comes-anew line held left after none comes =
    subst (λ (w : Option (List ℕ)). Comes line w after) (known-nil left)
    (subst (λ (h : List ℕ). Comes line (prepend_known h left) after) none comes)

abbrev pub wire : (sent : Option (List ℕ)) (send_faults : ℕ) (coming : Option (List ℕ)) (read_faults : ℕ) → Wire
wire sent send_faults coming read_faults = record { sent = sent; send_faults = send_faults; coming = coming; read_faults = read_faults }

abbrev pub outside : (sent : Option (List ℕ)) (send_faults : ℕ) (coming : Option (List ℕ)) (read_faults : ℕ) (written : Option (List ℕ)) (write_faults : ℕ) → AskedOutside
outside sent send_faults coming read_faults written write_faults = record {
  wire = wire sent send_faults coming read_faults;
  written = written;
  write_faults = write_faults;
}

-- where nothing is held, what is to come is what the link has left
pub outside-anew : (held : List ℕ) → held ≡ [] → (sent : Option (List ℕ)) (send_faults : ℕ) (left : Option (List ℕ)) (read_faults : ℕ) (written : Option (List ℕ)) (write_faults : ℕ)
    → outside sent send_faults (prepend_known held left) read_faults written write_faults ≡ outside sent send_faults left read_faults written write_faults
outside-anew held none sent send_faults left read_faults written write_faults =
    ap (λ (h : List ℕ). outside sent send_faults (prepend_known h left) read_faults written write_faults) none
    ∙ ap (λ (w : Option (List ℕ)). outside sent send_faults w read_faults written write_faults) (known-nil left)

pub wire-anew : (sent : Option (List ℕ)) (send_faults : ℕ) (left : Option (List ℕ)) (read_faults : ℕ)
    → wire sent send_faults (prepend_known [] left) read_faults ≡ wire sent send_faults left read_faults
wire-anew sent send_faults left read_faults = ap (λ (w : Option (List ℕ)). wire sent send_faults w read_faults) (known-nil left)

-- how a document ends whose lines begin with none held
pub good-anew : (document : List ℕ) (resources : List Resource) → document_reading document ≡ Ok resources → (held : List ℕ) → held ≡ []
    → (sent : Option (List ℕ)) (send_faults : ℕ) (left : Option (List ℕ)) (read_faults : ℕ) (written : Option (List ℕ)) (write_faults : ℕ) (new : AskedOutside) (last : End)
    → AskedResourcesEnd resources (outside sent send_faults (prepend_known held left) read_faults written write_faults) new last
    → DocumentEnds document (outside sent send_faults left read_faults written write_faults) new last
good-anew document resources is held none sent send_faults left read_faults written write_faults new last ends =
    Good resources is
    (subst (λ (o : AskedOutside). AskedResourcesEnd resources o new last) (outside-anew held none sent send_faults left read_faults written write_faults) ends)

-- what came of a text, where nothing was held when it was sent
pub asks-anew : {A : Type 0} (reading : List ℕ → Option A) (text : List ℕ) (came : Result A AskFault) (held : List ℕ) → held ≡ []
    → (sent : Option (List ℕ)) (send_faults : ℕ) (left : Option (List ℕ)) (read_faults : ℕ) (new : Wire)
    → Asks reading text came (wire sent send_faults (prepend_known held left) read_faults) new → Asks reading text came (wire sent send_faults left read_faults) new
asks-anew reading text came held none sent send_faults left read_faults new asks =
    subst (λ (w : Wire). Asks reading text came w new)
    (ap (λ (h : List ℕ). wire sent send_faults (prepend_known h left) read_faults) none ∙ wire-anew sent send_faults left read_faults) asks
