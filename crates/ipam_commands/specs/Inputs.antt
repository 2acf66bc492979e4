-- What comes of reading a document from a source.
use Rattle.std.specs.Prelude.{◌≡◌, ℕ, ◌+◌, ◌≤◌, List, length, Option}
use Rattle.std.specs.Io.KnownBytes.{prepend_known, IsAtEnd}
use Rattle.ipam_resources.specs.declared.fault.TheConstants.{DOCUMENT_MAX}

-- the source's bytes up to its end, or one more than a document may have
pub record IsDocument (old new : Option (List ℕ)) (document : List ℕ) : Type 0 where
  pub bytes : old ≡ prepend_known document new
  pub whole : length document ≤ DOCUMENT_MAX → IsAtEnd new
  pub bound : length document ≤ DOCUMENT_MAX + 1
