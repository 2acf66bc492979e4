use Rattle.ipam_json.proofs.Constructors.{IsCanonicalWithin-null, IsCanonicalWithin-boolean, IsCanonicalWithin-number, IsCanonicalWithin-string, IsCanonicalWithin-array, IsCanonicalWithin-object, IsCanonicalWithin-put, IsCanonicalWithin-counts}
use Rattle.ipam_json.proofs.laws.canonical_parts_build_canonical_json.Goals as goal

pub returns : goal.returns
returns c = record {
  null = IsCanonicalWithin-null;
  boolean = IsCanonicalWithin-boolean;
  number = IsCanonicalWithin-number;
  string = IsCanonicalWithin-string;
  array = IsCanonicalWithin-array;
  object = IsCanonicalWithin-object;
  put = IsCanonicalWithin-put;
  counts = IsCanonicalWithin-counts;
}
