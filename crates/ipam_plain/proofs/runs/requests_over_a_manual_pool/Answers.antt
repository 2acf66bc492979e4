use Rattle.std.proofs.Common.{◌≡◌, ◌∙◌, codes, [], ◌∷◌, false, Some, ap, refl, arith}
use Rattle.std.specs.Fmt.{digits}
use Rattle.json.specs.Print.{escape_byte}
use Rattle.serde_json.specs.Data.{Data, boolean, number, unsigned, string}
use Rattle.serde_json.specs.Read.{read}
use Rattle.serde_json.specs.Written.{compact_text}
use Rattle.ipam_json.specs.Built.{object_of, array_of}
use Rattle.ipam_json.proofs.ReadsBack.{read-compact_text}
use Rattle.ipam_json.specs.Held.{held, if_printed}
use Rattle.ipam_json.specs.Members.{◌>>=◌}
use Rattle.ipam_record_text.specs.Blocks.{cidr_of, name_read}
use Rattle.ipam_record_text.specs.Pools.{pools_reading, pool_list_in, pools_body, pools_data, pool_data, pool_in, plain_in, size_at, table_of}
use Rattle.ipam_plain.specs.ManualPools.{saying_automatic}
use Rattle.ipam_plain.proofs.Unfolded.{runs_computed, names_read}
use Rattle.ipam_plain.proofs.runs.requests_over_a_manual_pool.Goals as goal

pub returns-clause-probe_of_none : goal.returns-clause-probe_of_none
unfolding runs_computed
returns-clause-probe_of_none c = refl

pub returns-clause-probe_of_the_name : goal.returns-clause-probe_of_the_name
unfolding runs_computed
returns-clause-probe_of_the_name c = refl

pub returns-clause-one_address_given : goal.returns-clause-one_address_given
unfolding runs_computed
returns-clause-one_address_given c = refl

pub returns-clause-made_manual : goal.returns-clause-made_manual
unfolding runs_computed
returns-clause-made_manual c = refl

said : Data
said = object_of
    ((
      codes "pools",
      array_of (object_of
          ((codes "assignmentMode", string (codes "Automatic"))
          ∷ (codes "blockSize", number (unsigned 30))
          ∷ (codes "cidr", string (codes "10.0.0.0/29"))
          ∷ (codes "disabled", boolean false)
          ∷ (codes "name", string (codes "p")) ∷ []) ∷ []),
    ) ∷ [])

is_said : read saying_automatic ≡ Some said
unfolding said escape_byte digits
is_said =
    let written : saying_automatic ≡ compact_text said = refl in
    ap read written ∙ read-compact_text said (record {
      regular = (tt, ((refl, tt, (refl, omega arith, (refl, tt, (refl, tt, (tt, tt, tt))))), tt), tt);
      shallow = omega arith;
    })

-- what the text holds is printed without its mode
pub returns-clause-automatic_said : goal.returns-clause-automatic_said
unfolding said pools_reading held pool_list_in pool_in plain_in size_at cidr_of name_read pools_body pools_data pool_data table_of names_read escape_byte digits
returns-clause-automatic_said c =
    ap (λ o. table_of (o >>= λ d. pool_list_in d >>= λ pools. if_printed pools_body saying_automatic pools)) is_said
