-- The version in which a call is looked at, and the error of standard input that is no configuration.
use Rattle.std.proofs.Common.{◌≡◌, ◌≢◌, ℕ, List, Bool, true, false, Option, Some, None, unwrap_or, Result, Ok, Err, refl, sym, ap, ◌∙◌, if◌then◌else◌}
use Rattle.serde_json.specs.Data.{Data, null, boolean, number, string, array, object}
use Rattle.cni_types.specs.declared.calls.Look.{Look}
use Rattle.cni_types.specs.declared.calls.Look.TheVariants as looks
use Rattle.cni_types.specs.declared.code.Code.{Code}
use Rattle.cni_types.specs.declared.code.Code.TheVariants.{Undecodable}
use Rattle.cni_types.specs.declared.command.Command.{Command}
use Rattle.cni_types.specs.declared.command.Command.TheVariants.{Add, Del, Check, Version, Gc, Status}
use Rattle.cni_types.specs.declared.error.CniError.{CniError}
use Rattle.cni_types.specs.declared.version.Version as versions
use Rattle.cni_types.specs.declared.version.Version.TheVariants.{V1_0_0}
use Rattle.cni_types.specs.Asked.{add_asked, asked}
use Rattle.cni_types.specs.Command.{is_in}
use Rattle.cni_types.specs.Configuration.{configuration_tested}
use Rattle.cni_types.specs.Environment.{environment_tested}
use Rattle.cni_types.specs.Looking.{all_tested, code_of, command_in, compatible, decoded, in_configuration, in_environment, look_from, look_reading, looked, or_error, tested, told_version, undecodable, unknown_at, known_version_in as version_said, version_with}
use Rattle.cni_types.specs.Reading.{Pair, ◌>>=◌, ◌>>◌, is_object}

-- ---- what the tests tell

bound : {A B E : Type 0} (m : Result A E) (f : A → Result B E) (v : B) → (m >>= f) ≡ Ok v → (a : A) × (m ≡ Ok a) × (f a ≡ Ok v)
bound (Ok a) f v h = (a, refl, h)
bound (Err e) f v h = absurd cc

second : {B E : Type 0} (m : Result (Unit {0}) E) (r : Result B E) (v : B) → (m >> r) ≡ Ok v → r ≡ Ok v
second (Ok u) r v h = h
second (Err e) r v h = absurd cc

chosen : {A E : Type 0} (b : Bool) (w v : A) (e : E) → (if b then Ok w else Err e) ≡ Ok v → w ≡ v
chosen true w v e h = cc
chosen false w v e h = absurd cc

with-version : (command : Command) (o : Option versions.Version) (v : versions.Version) → version_with command o ≡ Ok v → unwrap_or o V1_0_0 ≡ v
with-version command None v h = absurd cc
with-version command (Some w) v h = chosen (is_in command w) w v _ h

all-version : (command : Command) (env : List Pair) (d : Data) (v : versions.Version) → all_tested command env d ≡ Ok v → told_version d ≡ v
unfolding all_tested
all-version command env d v h =
    let (w, is, after) = bound (compatible command d) _ v h in
    let environment = second (in_configuration (configuration_tested command d)) _ v after in
    let last = second (in_environment (environment_tested command env)) (Ok w) v environment in
    let same : w ≡ v = cc last in
    with-version command (version_said d) w is ∙ same

tested-version : (command : Command) (env : List Pair) (d : Data) (v : versions.Version) → tested command env d ≡ Ok v → told_version d ≡ v
tested-version Add env d v h = all-version Add env d v h
tested-version Del env d v h = all-version Del env d v h
tested-version Check env d v h = all-version Check env d v h
tested-version Version env d v h = cc h
tested-version Gc env d v h = all-version Gc env d v h
tested-version Status env d v h = all-version Status env d v h

-- ---- what a call is looked at as

-- the version in which a call is answered
abbrev pub version_of : Look → versions.Version
version_of (looks.Version version) = version
version_of (looks.Add add) = add.version
version_of (looks.Del del) = del.version
version_of (looks.Check check) = check.version
version_of (looks.Gc gc) = gc.version
version_of (looks.Status status) = status.version

-- the version of what a call is looked at as
abbrev pub version_looked : Result Look CniError → versions.Version
version_looked (Ok look) = version_of look
version_looked (Err error) = error.version

asked-version : (command : Command) (version : versions.Version) (env : List Pair) (d : Data) → version_of (asked command version env d) ≡ version
unfolding add_asked
asked-version Add version env d = refl
asked-version Del version env d = refl
asked-version Check version env d = refl
asked-version Version version env d = refl
asked-version Gc version env d = refl
asked-version Status version env d = refl

by-cases : {A E : Type 0} (m : Result A E) (P : Result A E → Type 0) → ((a : A) → m ≡ Ok a → P (Ok a)) → ((e : E) → m ≡ Err e → P (Err e)) → P m
by-cases (Ok a) P good bad = good a refl
by-cases (Err e) P good bad = bad e refl

pub looked_version : (command : Option Command) (env : List Pair) (d : Data) → version_looked (or_error d (looked command env d)) ≡ told_version d
looked_version None env d = refl
looked_version (Some command) env d =
    by-cases (tested command env d) (λ r. version_looked (or_error d (r >>= λ version. Ok (asked command version env d))) ≡ told_version d)
    (λ v e. asked-version command v env d ∙ sym (tested-version command env d v e)) (λ r e. refl)

-- what is no object tells no version
no-version : (d : Data) → is_object d ≡ false → told_version d ≡ V1_0_0
no-version null e = refl
no-version (boolean b) e = refl
no-version (number n) e = refl
no-version (string s) e = refl
no-version (array ds) e = refl
no-version (object ms) e = absurd cc

pub object_version : (command : Option Command) (env : List Pair) (d : Data) (b : Bool) → is_object d ≡ b → version_looked (look_from command env (if b then Some d else None)) ≡ told_version d
object_version command env d true is = looked_version command env d
object_version command env d false is = sym (no-version d is)

-- ---- the error of standard input that is no configuration

-- it is no error, or one with another code
abbrev fine : {A E : Type 0} → (E → Code) → Result A E → Type 0
fine code (Ok a) = Unit {0}
fine code (Err e) = code e ≢ Undecodable

fine-next : {A B E : Type 0} (code : E → Code) (m : Result A E) (f : A → Result B E) → fine code m → ((a : A) → fine code (f a)) → fine code (m >>= f)
fine-next code (Ok a) f first following = following a
fine-next code (Err e) f first following = first

fine-then : {B E : Type 0} (code : E → Code) (m : Result (Unit {0}) E) (r : Result B E) → fine code m → fine code r → fine code (m >> r)
fine-then code (Ok u) r first following = following
fine-then code (Err e) r first following = first

fine-chosen : {A E : Type 0} (code : E → Code) (b : Bool) (a : A) (e : E) → code e ≢ Undecodable → fine code (if b then Ok a else Err e)
fine-chosen code true a e other = tt
fine-chosen code false a e other = other

fine-with : (command : Command) (o : Option versions.Version) → fine code_of (version_with command o)
fine-with command None = λ e. absurd cc
fine-with command (Some w) = fine-chosen code_of (is_in command w) w _ (λ e. absurd cc)

fine-all : (command : Command) (env : List Pair) (d : Data) → fine code_of (all_tested command env d)
unfolding all_tested
fine-all command env d =
    fine-next code_of (compatible command d) _ (fine-with command (version_said d)) (λ v.
    fine-then code_of (in_configuration (configuration_tested command d)) _
    (by-cases (configuration_tested command d) (λ r. fine code_of (in_configuration r)) (λ u e. tt) (λ member e. λ same. absurd cc))
    (fine-then code_of (in_environment (environment_tested command env)) (Ok v)
    (by-cases (environment_tested command env) (λ r. fine code_of (in_environment r)) (λ u e. tt) (λ member e. λ same. absurd cc)) tt))

fine-tested : (command : Command) (env : List Pair) (d : Data) → fine code_of (tested command env d)
fine-tested Add env d = fine-all Add env d
fine-tested Del env d = fine-all Del env d
fine-tested Check env d = fine-all Check env d
fine-tested Version env d = tt
fine-tested Gc env d = fine-all Gc env d
fine-tested Status env d = fine-all Status env d

fine-unknown : (o : Option versions.Version) → code_of (unknown_at o) ≢ Undecodable
fine-unknown None = λ e. absurd cc
fine-unknown (Some version) = λ e. absurd cc

fine-looked : (command : Option Command) (env : List Pair) (d : Data) → fine code_of (looked command env d)
fine-looked None env d = fine-unknown (version_said d)
fine-looked (Some command) env d = fine-next code_of (tested command env d) _ (fine-tested command env d) (λ v. tt)

only-undecodable : (command : Option Command) (env : List Pair) (o : Option Data) (error : CniError) → look_from command env o ≡ Err error → error.code ≡ Undecodable → error ≡ undecodable
only-undecodable command env None error is same = cc is
only-undecodable command env (Some d) error is same =
    by-cases (looked command env d) (λ r. fine code_of r → or_error d r ≡ Err error → error ≡ undecodable)
    (λ look e well equal. absurd cc)
    (λ r e well equal. absurd (well (ap (λ (x : CniError). x.code) (the-error _ error equal) ∙ same)))
    (fine-looked command env d) is
  where
    the-error : (a b : CniError) → ◌≡◌ {A = Result Look CniError} (Err a) (Err b) → a ≡ b
    the-error a b e = cc e

pub undecodable_error : (env : List Pair) (stdin : List ℕ) (error : CniError) → look_reading env stdin ≡ Err error → error.code ≡ Undecodable → error ≡ undecodable
unfolding look_reading
undecodable_error env stdin error is same = only-undecodable (command_in env) env (decoded (command_in env) stdin) error is same
