-- What is unfolded to compute the text of an error.
use Rattle.std.specs.Prelude.{⊤}
use Rattle.std.specs.Fmt.{digits}
use Rattle.json.specs.Print.{escape_byte}
use Rattle.cni_types.specs.Texts.{error_data, error_text}

unfoldable pub text_computed : ⊤
unfolding error_text error_data escape_byte digits
text_computed = tt
