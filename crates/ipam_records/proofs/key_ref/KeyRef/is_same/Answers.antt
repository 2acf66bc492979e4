use Rattle.std.proofs.Common.{◌≡◌, rules}
use Rattle.ipam_records.specs.KeyOrder.{keys_equal}
use Rattle.ipam_records.specs.KeyOrderLaws.{keys_equal-is}
use Rattle.ipam_records.specs.KeyRef.{owned_key}
use Rattle.ipam_records.proofs.key_ref.KeyRef.is_same.Goals as goal

pub returns : goal.returns
returns c =
    let value : c.is_eq.result ≡ keys_equal (owned_key c.args.self.now) (owned_key c.args.other.now) = search rules in
    rw value (keys_equal-is (owned_key c.args.self.now) (owned_key c.args.other.now))
