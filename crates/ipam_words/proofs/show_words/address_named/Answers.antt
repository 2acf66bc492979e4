use Rattle.ipam_words.proofs.AddressLemmas.{read_seen, unread_seen}
use Rattle.ipam_words.proofs.show_words.address_named.Goals as goal

pub returns-in-Ok : goal.returns-in-Ok
returns-in-Ok c = read_seen _ c.in-Ok.address (rw c.as_bytes.ensures.value at c.in-Ok.ensures.value)

pub returns-in-Err : goal.returns-in-Err
returns-in-Err c = unread_seen _ _ (rw c.as_bytes.ensures.value at c.in-Err.ensures.value)
