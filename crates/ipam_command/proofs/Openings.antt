-- How a request ends over a keeper's rows, and a call with its standard input.
use Rattle.std.proofs.Common.{◌≡◌, ℕ, inl, inr, List, Option, Ok, Err, refl, sym, ap, ◌∙◌, subst}
use Rattle.ipam_io.specs.Counts.{Rose}
use Rattle.ipam_records.specs.declared.call.Row.{Row as RowText}
use Rattle.ipam_model.specs.declared.request.Request.{Request}
use Rattle.ipam_shared.specs.declared.kept.Kept.{Kept}
use Rattle.ipam_shared.specs.declared.kept.KeptFault.{KeptFault}
use Rattle.ipam_shared.specs.declared.kept.KeptFault.TheVariants as fault
use Rattle.ipam_shared.specs.Kept.{Tells}
use Rattle.ipam_shared.specs.Opening.{IsFaultOf, IsOpened}
use Rattle.cni_types.specs.declared.calls.Look.{Look}
use Rattle.cni_types.specs.declared.error.CniError.{CniError}
use Rattle.cni_types.specs.declared.version.Version.{Version}
use Rattle.cni_types.specs.Looking.{look_reading, undecodable}
use Rattle.cni_types.specs.Reading.{Pair}
use Rattle.cni_asks.specs.declared.asks.Ask.TheVariants.{Tell, Begin}
use Rattle.ipam_command.specs.declared.cni_end.CniEnd.{CniEnd}
use Rattle.ipam_command.specs.declared.cni_end.CniEnd.TheVariants.{Told, Failed}
use Rattle.ipam_command.specs.declared.cni_end.CniFault.TheVariants.{Read, Undecodable, Keeper, Memory}
use Rattle.ipam_command.specs.Calls.{CallEnds, IsInVersion, IsNotOpenedEnd, NoConfiguration, RefusalEnds, RequestEnds, AloneEnds, TellsError, WithDetails}
use Rattle.ipam_command.specs.Ends.{fault_error}
use Rattle.ipam_command.specs.Replies.{Answered, Asked, AtOnce, BadRows, Refused, StatusAndText, RequestComesTo, begun_by}
use Rattle.ipam_command.proofs.LookVersions.{undecodable_error}
use Rattle.ipam_command.proofs.Versions.{error_version, request_version}

-- ---- over a keeper's rows

-- what was opened runs over the rows that were loaded
pub opened_ends : {D : Type 0} (tells : Tells D) (faults name : D → ℕ) (keeper : D) (kept : Kept D) (asked : Request) (version : Version) (end : CniEnd) (new : Option (List RowText)) (after : ℕ) → IsOpened tells faults name keeper 0 kept
    → AloneEnds kept.cluster.store.store asked version end new (faults kept.keeper) after → RequestEnds asked version end (tells keeper) new (faults keeper) after
opened_ends tells faults name keeper kept asked version (Told status text) new after o (same, e) = (
  same ∙ o.no_fault,
  subst (λ (r : StatusAndText). RequestComesTo asked version (tells keeper) new r) e.text
      (Answered o.loaded kept.cluster.store.store e.is_told o.told o.opens e.answer e.rows e.course),
)
opened_ends tells faults name keeper kept asked version (Failed other Read) new after o e = e
opened_ends tells faults name keeper kept asked version (Failed other Undecodable) new after o e = e
opened_ends tells faults name keeper kept asked version (Failed other Keeper) new after o (same, rose, course) =
    (same, subst (λ (n : ℕ). Rose n after) o.no_fault rose, inr (kept.cluster.store.store, record { loaded = o.loaded; is_told = o.told; opens = o.opens }, course))
opened_ends tells faults name keeper kept asked version (Failed other Memory) new after o (same, none, course) =
    (same, none ∙ o.no_fault, inr (kept.cluster.store.store, record { loaded = o.loaded; is_told = o.told; opens = o.opens }, course))

-- what was not opened leaves the rows
pub unopened_ends : {D : Type 0} (tells : Tells D) (faults : D → ℕ) (keeper after : D) (asked : Request) (version : Version) (why : KeptFault) (end : CniEnd) (new : Option (List RowText)) → new ≡ tells keeper → IsFaultOf tells faults keeper after why
    → IsNotOpenedEnd version why end → RequestEnds asked version end (tells keeper) new (faults keeper) (faults after)
unopened_ends tells faults keeper after asked version fault.Keeper end new same is e =
    subst (λ (x : CniEnd). RequestEnds asked version x (tells keeper) new (faults keeper) (faults after)) (sym e) (refl, is, inl same)
unopened_ends tells faults keeper after asked version fault.Memory end new same is e =
    subst (λ (x : CniEnd). RequestEnds asked version x (tells keeper) new (faults keeper) (faults after)) (sym e) (refl, is, inl same)
unopened_ends tells faults keeper after asked version (fault.Refused number about) end new same (none, (loaded, told, refused)) (inl e) =
    subst (λ (x : CniEnd). RequestEnds asked version x (tells keeper) new (faults keeper) (faults after)) (sym e)
    (none, BadRows loaded number about told refused same)
unopened_ends tells faults keeper after asked version (fault.Refused number about) end new same (none, rest) (inr e) =
    subst (λ (x : CniEnd). RequestEnds asked version x (tells keeper) new (faults keeper) (faults after)) (sym e) (refl, none, inl same)

-- ---- a call

-- a request that the call begins
pub begun_ends : (env : List Pair) (stdin : List ℕ) (look : Look) (asked : Request) (version : Version) (end : CniEnd) (old new : Option (List RowText)) (before after : ℕ) → look_reading env stdin ≡ Ok look → Begin asked version ≡ begun_by look
    → RequestEnds asked version end old new before after → CallEnds env stdin end old new before after
begun_ends env stdin look asked version (Told status text) old new before after is begins (same, comes) =
    (same, Asked look asked version (status, text) is (sym begins) comes)
begun_ends env stdin look asked version (Failed other Read) old new before after is begins e = e
begun_ends env stdin look asked version (Failed other Undecodable) old new before after is begins e = absurd e
begun_ends env stdin look asked version (Failed other Keeper) old new before after is begins (same, rose, rows) =
    (rose, asked, record { look = look; is_look = is; begins = sym begins ∙ ap (Begin asked) (sym same) }, rows)
begun_ends env stdin look asked version (Failed other Memory) old new before after is begins (same, none, rows) =
    (none, inr (record { asked = asked; begins = record { look = look; is_look = is; begins = sym begins ∙ ap (Begin asked) (sym same) }; rows = rows }))

pub begun_version : (env : List Pair) (stdin : List ℕ) (look : Look) (asked : Request) (version : Version) (end : CniEnd) (old new : Option (List RowText)) (before after : ℕ) → look_reading env stdin ≡ Ok look → Begin asked version ≡ begun_by look
    → RequestEnds asked version end old new before after → IsInVersion end stdin
begun_version env stdin look asked version (Told status text) old new before after is begins e = tt
begun_version env stdin look asked version (Failed other Read) old new before after is begins e = absurd e
begun_version env stdin look asked version (Failed other Undecodable) old new before after is begins e = absurd e
begun_version env stdin look asked version (Failed other Keeper) old new before after is begins e = e.0 ∙ request_version env stdin look asked version is begins
begun_version env stdin look asked version (Failed other Memory) old new before after is begins e = e.0 ∙ request_version env stdin look asked version is begins

-- a refusal leaves all
refused_ends : (env : List Pair) (stdin : List ℕ) (error : CniError) (end : CniEnd) (rows : Option (List RowText)) (faults : ℕ) → look_reading env stdin ≡ Err error → TellsError error end → CallEnds env stdin end rows rows faults faults
refused_ends env stdin error end rows faults is (inl e) =
    subst (λ (x : CniEnd). CallEnds env stdin x rows rows faults faults) (sym e) (refl, Refused error is refl)
refused_ends env stdin error end rows faults is (inr e) =
    subst (λ (x : CniEnd). CallEnds env stdin x rows rows faults faults) (sym e) (refl, inl refl)

pub refusal_ends : (env : List Pair) (stdin : List ℕ) (error : CniError) (end : CniEnd) (rows : Option (List RowText)) (faults : ℕ) → look_reading env stdin ≡ Err error → RefusalEnds error end → CallEnds env stdin end rows rows faults faults
refusal_ends env stdin error _ rows faults is (NoConfiguration coded) =
    let same : error ≡ undecodable = undecodable_error env stdin error is coded in
    (refl, is ∙ ap Err (same ∙ ap (λ (e : CniError). fault_error e.version Undecodable) (sym same)), refl)
refusal_ends env stdin error _ rows faults is (WithDetails end other told) = refused_ends env stdin error end rows faults is told

pub refusal_version : (env : List Pair) (stdin : List ℕ) (error : CniError) (end : CniEnd) → look_reading env stdin ≡ Err error → RefusalEnds error end → IsInVersion end stdin
refusal_version env stdin error _ is (NoConfiguration coded) = error_version env stdin error is
refusal_version env stdin error _ is (WithDetails end other (inl e)) = subst (λ (x : CniEnd). IsInVersion x stdin) (sym e) tt
refusal_version env stdin error _ is (WithDetails end other (inr e)) = subst (λ (x : CniEnd). IsInVersion x stdin) (sym e) (error_version env stdin error is)

-- the text of the versions leaves all
pub at_once_ends : (env : List Pair) (stdin : List ℕ) (look : Look) (text : List ℕ) (rows : Option (List RowText)) (faults : ℕ) → look_reading env stdin ≡ Ok look → Tell text ≡ begun_by look → CallEnds env stdin (Told 0 text) rows rows faults faults
at_once_ends env stdin look text rows faults is begins = (refl, AtOnce look text is (sym begins) refl)
