-- A call is looked at by its variables alone.
use Rattle.std.proofs.Common.{◌≡◌, ℕ, List, [], codes, Bool, true, false, Option, Some, None, Result, Ok, Err, refl, sym, ap, ◌∙◌}
use Rattle.serde_json.specs.Data.{Data}
use Rattle.cni_types.specs.declared.calls.Look.{Look}
use Rattle.cni_types.specs.declared.calls.Look.TheVariants as asks
use Rattle.cni_types.specs.declared.command.Command.{Command}
use Rattle.cni_types.specs.declared.command.Command.TheVariants.{Add, Del, Check, Version, Gc, Status}
use Rattle.cni_types.specs.declared.version.Version as versions
use Rattle.cni_types.specs.Asked.{asked, add_asked, secondary_asked}
use Rattle.cni_types.specs.Environment.{value_from, environment_tested, container_tested}
use Rattle.cni_types.specs.Looking.{tested, all_tested, looked, look_from, look_reading, decoded, command_in, unknown}
use Rattle.cni_types.specs.Reading.{Pair, ◌>>=◌}

abbrev pub Same : List ℕ → List Pair → List Pair → Type 0
Same name env other = value_from name [] env ≡ value_from name [] other

module _ (env other : List Pair) (command_is : Same (codes "CNI_COMMAND") env other) (container_is : Same (codes "CNI_CONTAINERID") env other) (namespace_is : Same (codes "CNI_NETNS") env other) (interface_is : Same (codes "CNI_IFNAME") env other) (args_is : Same (codes "CNI_ARGS") env other) where
  container_same : (needed : Bool) → container_tested needed env ≡ container_tested needed other
  unfolding container_tested
  container_same needed =
      rw (container_is, namespace_is, interface_is, args_is) refl

  environment_same : (command : Command) → environment_tested command env ≡ environment_tested command other
  environment_same Add = container_same true
  environment_same Del = container_same false
  environment_same Check = container_same true
  environment_same Version = refl
  environment_same Gc = refl
  environment_same Status = refl

  all_same : (command : Command) (d : Data) → all_tested command env d ≡ all_tested command other d
  unfolding all_tested
  all_same command d = rw (environment_same command) refl

  tested_same : (command : Command) (d : Data) → tested command env d ≡ tested command other d
  tested_same Add d = all_same Add d
  tested_same Del d = all_same Del d
  tested_same Check d = all_same Check d
  tested_same Version d = refl
  tested_same Gc d = all_same Gc d
  tested_same Status d = all_same Status d

  add_same : (version : versions.Version) (d : Data) → add_asked version env d ≡ add_asked version other d
  unfolding add_asked secondary_asked
  add_same version d = rw (container_is, args_is) refl

  asked_same : (command : Command) (version : versions.Version) (d : Data) → asked command version env d ≡ asked command version other d
  asked_same Add version d = ap asks.Add (add_same version d)
  asked_same Del version d = rw container_is refl
  asked_same Check version d = rw container_is refl
  asked_same Version version d = refl
  asked_same Gc version d = refl
  asked_same Status version d = refl

  told_same : {E : Type 0} (command : Command) (d : Data) (found : Result versions.Version E) → (found >>= λ version. Ok (asked command version env d)) ≡ (found >>= λ version. Ok (asked command version other d))
  told_same command d (Ok version) = ap Ok (asked_same command version d)
  told_same command d (Err why) = refl

  looked_same : (command : Option Command) (d : Data) → looked command env d ≡ looked command other d
  looked_same None d = refl
  looked_same (Some command) d =
      told_same command d (tested command env d)
      ∙ ap (λ found. found >>= λ version. Ok (asked command version other d)) (tested_same command d)

  from_same : (command : Option Command) (found : Option Data) → look_from command env found ≡ look_from command other found
  from_same command None = refl
  from_same command (Some d) = rw (looked_same command d) refl

  pub look_same : (stdin : List ℕ) → look_reading env stdin ≡ look_reading other stdin
  unfolding look_reading
  look_same stdin = rw command_is (from_same (command_in other) (decoded (command_in other) stdin))
