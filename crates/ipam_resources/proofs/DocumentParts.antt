-- What holds of each resource that is read holds of all that a document has.
use Rattle.std.proofs.Common.{◌≡◌, ℕ, List, [], ◌∷◌, ◌++◌, length, Bool, true, false, Option, Some, None, option_and_then, Result, Ok, Err, nat_lt, refl, sym, ap, ◌∙◌, subst, All}
use Rattle.std.specs.Prelude.{◌≤◌, is_some, if◌then◌else◌, OnErr}
use Rattle.std.specs.Str.{is_utf8}
use Rattle.serde_json.specs.Read.{read}
use Rattle.std.specs.List.{AllByRecursion}
use Rattle.std.proofs.lemmas.List.Elements.{All-from_recursion}
use Rattle.serde_json.specs.Data.{Data, Items, no_items, item}
use Rattle.serde_json.specs.Find.{as_array, as_object}
use Rattle.ipam_resources.specs.declared.fault.DocumentFault.{DocumentFault}
use Rattle.ipam_resources.specs.declared.fault.DocumentFault.TheVariants as fault
use Rattle.ipam_resources.specs.declared.fault.TheConstants.{DOCUMENT_MAX}
use Rattle.ipam_resources.specs.declared.kind.DocumentKind.{DocumentKind}
use Rattle.ipam_resources.specs.declared.kind.DocumentKind.TheVariants.{One, Several}
use Rattle.ipam_resources.specs.declared.kind.ResourceKind.{ResourceKind}
use Rattle.ipam_resources.specs.declared.member.Member.{Member}
use Rattle.ipam_resources.specs.declared.member.Member.TheVariants as member
use Rattle.ipam_resources.specs.declared.resource.Resource.{Resource}
use Rattle.ipam_resources.specs.Members.{◌>>=◌, found_at, required}
use Rattle.ipam_resources.specs.Resources.{kind_in, resource_in, item_in}
use Rattle.ipam_resources.specs.Documents.{IsReadable, one_resource, as_item, resources_after, resources_of, kind_said, by_kind, json_of, object_reading, document_reading}

-- what was read where there is something
pub bind_ok : {A B E P : Type 0} (f : A → Result B E) (r : Result A E) (y : B) → (r >>= f) ≡ Ok y → ((x : A) → r ≡ Ok x → f x ≡ Ok y → P) → P
bind_ok f (Ok x) y e k = k x refl e
bind_ok f (Err m) y e k = cc

pub same_Ok : {A E : Type 0} (x y : A) → ◌≡◌ {A = Result A E} (Ok x) (Ok y) → x ≡ y
same_Ok x y e = cc

-- what holds of each resource of a kind
abbrev Each : (Resource → Type 0) → Type 0
Each P = (k : ResourceKind) (d : Data) (r : Resource) → resource_in k d ≡ Ok r → P r

item_each : (P : Resource → Type 0) → Each P → (d : Data) (r : Resource) → item_in d ≡ Ok r → P r
unfolding item_in
item_each P each d r e = bind_ok _ (required kind_in member.Kind d) r e (λ k is e1. each k d r e1)

with_one : (P : Resource → Type 0) (rs : List Resource) (r : Resource) → AllByRecursion P rs → P r → AllByRecursion P (rs ++ r ∷ [])
with_one P [] r h k = (k, tt)
with_one P (q ∷ rs) r h k = (h.0, with_one P rs r h.1 k)

after_each : (P : Resource → Type 0) → Each P → (there : List Resource) (ds : Items) (rs : List Resource) → resources_after there ds ≡ Ok rs → AllByRecursion P there → AllByRecursion P rs
after_each P each there no_items rs e h = subst (AllByRecursion P) (same_Ok there rs e) h
after_each P each there (item d ds) rs e h =
    next (item_in d) refl e (λ r k e'. after_each P each (there ++ r ∷ []) ds rs e' k)
  where
    next : (found : Result Resource Member) → item_in d ≡ found → (as_item (length there) found >>= λ r. resources_after (there ++ r ∷ []) ds) ≡ Ok rs → ((r : Resource) → AllByRecursion P (there ++ r ∷ []) → resources_after (there ++ r ∷ []) ds ≡ Ok rs → AllByRecursion P rs) → AllByRecursion P rs
    next (Ok r) is e' more = more r (with_one P there r h (item_each P each d r is)) e'
    next (Err m) is e' more = cc

several_each : (P : Resource → Type 0) → Each P → (o : Option Items) (rs : List Resource) → resources_of o ≡ Ok rs → AllByRecursion P rs
several_each P each (Some items) rs e = after_each P each [] items rs e tt
several_each P each None rs e = cc

alone_each : (P : Resource → Type 0) → Each P → (k : ResourceKind) (d : Data) (rs : List Resource) → one_resource (resource_in k d) ≡ Ok rs → AllByRecursion P rs
alone_each P each k d rs e = go (resource_in k d) refl e
  where
    go : (found : Result Resource Member) → resource_in k d ≡ found → one_resource found ≡ Ok rs → AllByRecursion P rs
    go (Ok r) is e' = subst (AllByRecursion P) (same_Ok (r ∷ []) rs e') (each k d r is, tt)
    go (Err m) is e' = cc

object_each : (P : Resource → Type 0) → Each P → (o : Option Data) (rs : List Resource) → object_reading o ≡ Ok rs → AllByRecursion P rs
object_each P each None rs e = cc
object_each P each (Some d) rs e = go (is_some (as_object d)) (kind_said d) e
  where
    go : (b : Bool) (k : Option DocumentKind) → (if b then by_kind k d else Err fault.NotJson) ≡ Ok rs → AllByRecursion P rs
    go true None e' = cc
    go true (Some (One k)) e' = alone_each P each k d rs e'
    go true (Some Several) e' = several_each P each (option_and_then as_array (found_at member.Items d)) rs e'
    go false k e' = cc

-- what holds of each resource that is read holds of all of a document
pub document_each : (P : Resource → Type 0) → Each P → (bytes : List ℕ) (rs : List Resource) → document_reading bytes ≡ Ok rs → All P rs
unfolding document_reading
document_each P each bytes rs e = All-from_recursion P rs (go (nat_lt DOCUMENT_MAX (length bytes)) e)
  where
    go : (b : Bool) → (if b then Err fault.Long else object_reading (json_of bytes)) ≡ Ok rs → AllByRecursion P rs
    go true e' = cc
    go false e' = object_each P each (json_of bytes) rs e'

-- ---- want of memory is no fault of a document

after_no_memory : (there : List Resource) (ds : Items) → resources_after there ds ≡ Err fault.Memory → ⊥
after_no_memory there no_items e = absurd cc
after_no_memory there (item d ds) e = next (item_in d) e (λ r e'. after_no_memory (there ++ r ∷ []) ds e')
  where
    next : (found : Result Resource Member) → (as_item (length there) found >>= λ r. resources_after (there ++ r ∷ []) ds) ≡ Err fault.Memory → ((r : Resource) → resources_after (there ++ r ∷ []) ds ≡ Err fault.Memory → ⊥) → ⊥
    next (Ok r) e' more = more r e'
    next (Err m) e' more = absurd cc

several_no_memory : (o : Option Items) → resources_of o ≡ Err fault.Memory → ⊥
several_no_memory (Some items) e = after_no_memory [] items e
several_no_memory None e = absurd cc

alone_no_memory : (found : Result Resource Member) → one_resource found ≡ Err fault.Memory → ⊥
alone_no_memory (Ok r) e = absurd cc
alone_no_memory (Err m) e = absurd cc

object_no_memory : (o : Option Data) → object_reading o ≡ Err fault.Memory → ⊥
object_no_memory None e = absurd cc
object_no_memory (Some d) e = go (is_some (as_object d)) (kind_said d) e
  where
    go : (b : Bool) (k : Option DocumentKind) → (if b then by_kind k d else Err fault.NotJson) ≡ Err fault.Memory → ⊥
    go true None e' = absurd cc
    go true (Some (One k)) e' = alone_no_memory (resource_in k d) e'
    go true (Some Several) e' = several_no_memory (option_and_then as_array (found_at member.Items d)) e'
    go false k e' = absurd cc

pub no_memory_read : (bytes : List ℕ) → document_reading bytes ≡ Err fault.Memory → ⊥
unfolding document_reading
no_memory_read bytes e = go (nat_lt DOCUMENT_MAX (length bytes)) e
  where
    go : (b : Bool) → (if b then Err fault.Long else object_reading (json_of bytes)) ≡ Err fault.Memory → ⊥
    go true e' = absurd cc
    go false e' = object_no_memory (json_of bytes) e'

-- a fault that was read is not want of memory
pub fault_no_memory : {P : Type 0} (bytes : List ℕ) (why : DocumentFault) → Err why ≡ document_reading bytes → why ≡ fault.Memory → P
fault_no_memory bytes why is none = absurd (no_memory_read bytes (sym is ∙ ap Err none))

-- ---- what is looked into may be read

json_text : (bytes : List ℕ) (d : Data) → Some d ≡ json_of bytes → is_utf8 bytes ≡ true
unfolding json_of
json_text bytes d is = go (is_utf8 bytes) refl is
  where
    go : (b : Bool) → is_utf8 bytes ≡ b → Some d ≡ (if b then read bytes else None) → is_utf8 bytes ≡ true
    go true e e' = e
    go false e e' = absurd cc

pub readable : (bytes : List ℕ) (d : Data) → length bytes ≤ DOCUMENT_MAX → Some d ≡ json_of bytes → IsReadable bytes
readable bytes d few is = (few, json_text bytes d is)

pub on_err : {T E P : Type 0} (r : Result T E) → P → OnErr r P
on_err (Ok v) h = tt
on_err (Err e) h = h
