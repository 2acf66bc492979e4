-- An address that is shown is the one that the word writes.
use Rattle.std.proofs.Common.{◌≡◌, Option, Some, None, refl}
use Rattle.std.specs.Prelude.{Ok, Err, ok_or}
use Rattle.ipam_addr.specs.declared.cidrs.AddrFault.{AddrFault}
use Rattle.ipam_addr.specs.declared.cidrs.AddrFault.TheVariants.{Text}
use Rattle.ipam_addr.specs.Shape.{AddrValue}
use Rattle.ipam_words.specs.Views as seen
use Rattle.ipam_words.specs.Words.{Show, address_seen}

pub read_seen : (written : Option AddrValue) (address : AddrValue) → Ok address ≡ ok_or written Text → Some (Show (seen.Address address)) ≡ address_seen written
read_seen None address e = absurd (cc e)
read_seen (Some other) address e = cc e

pub unread_seen : (written : Option AddrValue) (fault : AddrFault) → Err fault ≡ ok_or written Text → None ≡ address_seen written
unread_seen None fault e = refl
unread_seen (Some other) fault e = absurd (cc e)
