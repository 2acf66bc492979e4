-- A configuration's body is read back.
use Rattle.std.proofs.Common.{◌≡◌, ℕ, List, codes, Bool, Option, Some, None, option_map, Ok, Result, Err, IfOk, ◌≢◌, refl, sym, ap, arith, lt-ltb}
use Rattle.std.specs.Option.{ok_or}
use Rattle.serde_json.specs.Data.{Data}
use Rattle.serde_json.specs.Read.{read}
use Rattle.ipam_json.specs.Canonical.{IsCanonical}
use Rattle.ipam_json.proofs.ReadsBack.{read-compact_text}
use Rattle.ipam_record_text.specs.declared.config.Config.{Config}
use Rattle.ipam_record_text.specs.declared.fault.BodyFault.{BodyFault}
use Rattle.ipam_record_text.specs.declared.fault.BodyFault.TheVariants.{Form, Table, Memory}
use Rattle.ipam_json.specs.Held.{held}
use Rattle.ipam_json.specs.Members.{◌>>=◌, truth_at, number_at}
use Rattle.ipam_record_text.specs.Config.{config_data, config_body, config_in, config_reading, IsConfigRecord}
use Rattle.ipam_record_text.proofs.Held.{reading-held, unheld-text, reading-told}
use Rattle.ipam_json.proofs.Held.{held-was, held-text}
use Rattle.ipam_json.proofs.MemberLemmas.{number_at-is}

-- the bound of a configuration that was found
bound : (auto : Option Bool) (most : Option ℕ) (strict : Option Bool) (c : Config) → (auto >>= λ a. most >>= λ m. strict >>= λ s. Some (record { strict = s; auto = a; max_blocks = m })) ≡ Some c → most ≡ Some c.max_blocks
bound (Some a) (Some m) (Some s) c e = ap (option_map (λ (k : Config). k.max_blocks)) e
bound (Some a) (Some m) None c e = cc
bound (Some a) None strict c e = cc
bound None most strict c e = cc

config_in-sound : (d : Data) (c : Config) → config_in d ≡ Some c → IsConfigRecord c
unfolding config_in
config_in-sound d c e =
    let most = bound (truth_at (codes "autoAllocateBlocks") d) (number_at (codes "maxBlocksPerHost") d) (truth_at (codes "strictAffinity") d) c e in
    number_at-is (codes "maxBlocksPerHost") d c.max_blocks most

pub config_held : (body : List ℕ) (c : Config) → held config_in config_body body ≡ Some c → IsConfigRecord c × (body ≡ config_body c)
config_held body c e =
    let was = held-was config_in config_body body c e in
    (config_in-sound was.json c was.was_found, sym was.is_text)

pub config_read : (body : List ℕ) (c : Config) → config_reading body ≡ Ok c → (body ≡ config_body c) × IsConfigRecord c
unfolding config_reading
config_read body c e = let is = config_held body c (reading-held _ c e) in (is.1, is.0)

config_data-IsCanonical : (c : Config) → IsConfigRecord c → IsCanonical (config_data c)
unfolding config_data
config_data-IsCanonical c h = record {
  regular = (refl, tt, (refl, omega (arith, h), (tt, tt, tt)));
  shallow = omega arith;
}

config_in-config_data : (c : Config) → IsConfigRecord c → config_in (config_data c) ≡ Some c
unfolding config_in config_data
config_in-config_data c h = rw (lt-ltb _ _ h) refl

read-config_body : (c : Config) → IsConfigRecord c → read (config_body c) ≡ Some (config_data c)
unfolding config_body
read-config_body c h = read-compact_text (config_data c) (config_data-IsCanonical c h)

config_body_held : (c : Config) → IsConfigRecord c → held config_in config_body (config_body c) ≡ Some c
config_body_held c h =
    held-text config_in config_body c (config_data c) (read-config_body c h) (config_in-config_data c h)

pub config_reads_back : (c : Config) → IsConfigRecord c → config_reading (config_body c) ≡ Ok c
unfolding config_reading
config_reads_back c h = ap (λ o. ok_or o Form) (config_body_held c h)

-- a body in which none is held is no sound one's
pub config_unheld : (body : List ℕ) → held config_in config_body body ≡ None → (c : Config) → IsConfigRecord c → body ≢ config_body c
config_unheld body none c sound = unheld-text config_in config_body body none c (config_body_held c sound)

-- what `config_of` tells of a body is what is read of it
pub config_reading-told : (body : List ℕ) (r : Result Config BodyFault) → IfOk r (λ c. IsConfigRecord c × (body ≡ config_body c)) → (r ≡ Err Form → (c : Config) → IsConfigRecord c → body ≢ config_body c) → r ≢ Err Table → r ≢ Err Memory → config_reading body ≡ r
unfolding config_reading
config_reading-told body r = reading-told config_in config_body IsConfigRecord config_held config_body_held body r
