use Rattle.std.proofs.Common.{◌∙◌, option_map, ap, refl, sym}
use Rattle.std.specs.Option.{option_copied}
use Rattle.ipam_records.specs.KeyRef.{owned_key}
use Rattle.ipam_records.specs.KeyText.{key_read}
use Rattle.ipam_records.proofs.KeyTextLemmas.{key_read-parts, IfOk-along}
use Rattle.ipam_records.proofs.spelling.read_key.Goals as goal

pub returns-then-is_word : goal.returns-then-is_word
unfolding key_read
returns-then-is_word c = let h = sym c.is_word.ensures ∙ c.if-is_word.true in rw h refl

pub returns-then-is_word-2 : goal.returns-then-is_word-2
unfolding key_read
returns-then-is_word-2 c =
    let a = sym c.is_word.ensures ∙ c.if-is_word.false in
    let b = sym c.is_word-2.ensures ∙ c.if-is_word-2.true in
    rw (a, b) refl

pub returns-then-is_word-3 : goal.returns-then-is_word-3
unfolding key_read
returns-then-is_word-3 c =
    let a = sym c.is_word.ensures ∙ c.if-is_word.false in
    let b = sym c.is_word-2.ensures ∙ c.if-is_word-2.false in
    let d = sym c.is_word-3.ensures ∙ c.if-is_word-3.true in
    rw (a, b, d) refl

pub returns-in-Some : goal.returns-in-Some
returns-in-Some c =
    let a = sym c.is_word.ensures ∙ c.if-is_word.false in
    let b = sym c.is_word-2.ensures ∙ c.if-is_word-2.false in
    let d = sym c.is_word-3.ensures ∙ c.if-is_word-3.false in
    let block = sym c.behind.ensures ∙ ap option_copied c.in-Some.is in
    IfOk-along (option_map owned_key) c.read_block.result _ _
    (key_read-parts c.args.text.now _ _ _ (record { no_config = a; no_pools = b; no_reservations = d }) block refl refl)
    c.read_block.ensures

pub returns-in-Some-behind : goal.returns-in-Some-behind
returns-in-Some-behind c =
    let a = sym c.is_word.ensures ∙ c.if-is_word.false in
    let b = sym c.is_word-2.ensures ∙ c.if-is_word-2.false in
    let d = sym c.is_word-3.ensures ∙ c.if-is_word-3.false in
    let block = sym c.behind.ensures ∙ ap option_copied c.in_default.is in
    let affinity = sym c.behind-2.ensures ∙ ap option_copied c.in-Some-behind.is in
    IfOk-along (option_map owned_key) c.read_affinity.result _ _
    (key_read-parts c.args.text.now _ _ _ (record { no_config = a; no_pools = b; no_reservations = d }) block affinity refl)
    c.read_affinity.ensures

pub returns-in-Some-behind-2 : goal.returns-in-Some-behind-2
returns-in-Some-behind-2 c =
    let a = sym c.is_word.ensures ∙ c.if-is_word.false in
    let b = sym c.is_word-2.ensures ∙ c.if-is_word-2.false in
    let d = sym c.is_word-3.ensures ∙ c.if-is_word-3.false in
    let block = sym c.behind.ensures ∙ ap option_copied c.in_default.is in
    let affinity = sym c.behind-2.ensures ∙ ap option_copied c.in_default-behind.is in
    let handle = sym c.behind-3.ensures ∙ ap option_copied c.in-Some-behind-2.is in
    c.read_handle.ensures
    ∙ key_read-parts c.args.text.now _ _ _ (record { no_config = a; no_pools = b; no_reservations = d }) block affinity handle

pub returns : goal.returns
returns c =
    let a = sym c.is_word.ensures ∙ c.if-is_word.false in
    let b = sym c.is_word-2.ensures ∙ c.if-is_word-2.false in
    let d = sym c.is_word-3.ensures ∙ c.if-is_word-3.false in
    let block = sym c.behind.ensures ∙ ap option_copied c.in_default.is in
    let affinity = sym c.behind-2.ensures ∙ ap option_copied c.in_default-behind.is in
    let handle = sym c.behind-3.ensures ∙ ap option_copied c.in_default-behind-2.is in
    key_read-parts c.args.text.now _ _ _ (record { no_config = a; no_pools = b; no_reservations = d }) block affinity handle
