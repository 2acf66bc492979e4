use Rattle.std.proofs.Common.{◌≡◌, true, length, ap, sym, ◌∙◌, arith}
use Rattle.std.specs.Str.{is_utf8}
use Rattle.std.proofs.lemmas.Str.{is_utf8-from_IsUtf8}
use Rattle.ipam_select.specs.Sound.{fits_quotes}
use Rattle.ipam_select.proofs.Several.{quotable-by}
use Rattle.ipam_select.proofs.sound.is_quotable.Goals as goal

pub returns-then-bytes-le-LABEL_VALUE_BYTES_MAX : goal.returns-then-bytes-le-LABEL_VALUE_BYTES_MAX
returns-then-bytes-le-LABEL_VALUE_BYTES_MAX c =
    let v = c.args.value.now in
    let text : c.as_str-text.result.now ≡ v = c.as_str-text.ensures in
    let same : c.as_bytes-bytes.result.now ≡ v = c.as_bytes-bytes.ensures.value ∙ text in
    let utf8 : is_utf8 v ≡ true = ap is_utf8 (sym text) ∙ is_utf8-from_IsUtf8 _ c.as_str-text.utf8 in
    c.fits_quotes.ensures ∙ ap fits_quotes same ∙ sym (quotable-by v (omega (arith, ap length same)) utf8)
