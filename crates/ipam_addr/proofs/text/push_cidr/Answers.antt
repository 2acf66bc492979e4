use Rattle.std.proofs.Common.{◌++◌, ◌∙◌, ap, decimal, arith}
use Rattle.std.proofs.lemmas.Grind.{common_steps}
use Rattle.ipam_addr.specs.Text.{address_text}
use Rattle.ipam_addr.proofs.CidrTextLemmas.{cidr_reading-cidr_text_of, cidr_text_written}
use Rattle.ipam_addr.proofs.text.push_cidr.Goals as goal

pub returns-clause-ok : goal.returns-clause-ok
returns-clause-ok c =
    let written = cidr_text_written c.args.cidr _ _ _ _ c.new-text.ensures (c.push_addr.ensures.text ∙ ap (λ a. c.new-text.result ++ address_text a) c.base.ensures.value) c.push.ensures (c.push_decimal.ensures.text ∙ ap (λ n. c.push.new.self ++ decimal n) c.prefix.ensures.value) in
    let shown = c.as_str.ensures ∙ written in
    grind (arith, common_steps)

pub returns-clause-reads_back : goal.returns-clause-reads_back
returns-clause-reads_back c = cidr_reading-cidr_text_of c.args.cidr c.prefix.ensures.sound
