-- The generator's base is consistent, and its text opens as itself.
use Rattle.std.proofs.Common.{◌≡◌, ◌≢◌, ◌≤◌, ℕ, List, [], ◌∷◌, refl, sym, ap, ◌∙◌, subst, false, true, lit≤, lit<, arith, get_or}
use Rattle.std.specs.Prelude.{codes, All, AllPairs, Contains, IsTrue, Some, None}
use Rattle.std.specs.Fmt.{digits}
use Rattle.std.specs.List.Sorted.{IsStrictlySortedBy}
use Rattle.std.proofs.lemmas.List.Elements.{All-nil, All-cons}
use Rattle.std.proofs.lemmas.List.Sorted.{IsPermutation-refl}
use Rattle.json.specs.Print.{escape_byte}
use Rattle.ipam_addr.specs.Width.{IsCidr}
use Rattle.ipam_addr.specs.Holding.{Overlap}
use Rattle.ipam_addr.specs.Slots.{HasSlots}
use Rattle.ipam_addr.specs.Names.{is_name_text}
use Rattle.ipam_addr.specs.Text.{cidr_text_of, address_text}
use Rattle.ipam_select.specs.Sound.{is_sound}
use Rattle.ipam_pool.specs.declared.pools.Pool.{Pool}
use Rattle.ipam_record_text.specs.Pools.{IsPoolsRecord, pools_body, pools_data, pool_data}
use Rattle.ipam_records.specs.declared.call.Row.{Row as RowText}
use Rattle.ipam_records.specs.declared.key.Key.TheVariants as key
use Rattle.ipam_records.specs.declared.record.Record.TheVariants.{Pools}
use Rattle.ipam_records.specs.Datastore.{row_key}
use Rattle.ipam_records.specs.Sound.{IsRow}
use Rattle.ipam_model.specs.Consistent.{IsConsistent, cidr_named}
use Rattle.ipam_model.specs.Opened.{AreByKey, IsRefusedBy, IsTextOf, OpensAs, Texts, texts_of}
use Rattle.ipam_model.specs.History.{cluster_at, Lawful}
use Rattle.ipam_model.specs.Reads.{StoredRecord}
use Rattle.ipam_laws.proofs.OpenedHistory.{opened_again}
use Rattle.ipam_laws.proofs.Openings.{opens_as_one}
use Rattle.ipam_opening.specs.declared.fault.OpenFault.{OpenFault}
use Rattle.ipam_opening.specs.declared.fault.OpenFault.TheVariants.{Refused}
use Rattle.ipam_opening.specs.Opening.{IsFaultOf}
use Rattle.ipam_cluster.specs.declared.cluster.Cluster.{Cluster}
use Rattle.ipam_cluster.specs.Cluster.{StandsFor}
use Rattle.ipam_command.specs.Counted.{pools_row}
use Rattle.ipam_command.specs.Requests.{base, pool}

all-one : {X : Type 0} (P : X → Type 0) (x : X) → P x → All P (x ∷ [])
all-one P x h = All-cons P x [] h (All-nil P)

pairs-one : {X : Type 0} (P : X → X → Type 0) (x : X) → AllPairs P (x ∷ [])
pairs-one P x i j d less within = absurd (omega arith)

-- ---- the pools

table-is : IsPoolsRecord (pool ∷ [])
unfolding pool
table-is = record {
  table = record {
    few = lit≤ tt;
    ranges = all-one (λ (p : Pool). IsCidr p.cidr) pool (record { prefix_fits = lit≤ tt; base_fits = lit< tt; no_host_bits = refl });
    sizes = all-one (λ (p : Pool). HasSlots p.cidr p.size) pool (record { allowed = (lit≤ tt, lit≤ tt); fits = lit≤ tt });
    names = pairs-one (λ (p q : Pool). p.name ≢ q.name) pool;
    apart = pairs-one (λ (p q : Pool). ¬ (Overlap p.cidr q.cidr)) pool;
  };
  names = all-one (λ (p : Pool). IsTrue (is_name_text p.name)) pool refl;
  selectors = all-one (λ (p : Pool). IsTrue (is_sound p.selector)) pool refl;
}

body-is : pools_body (pool ∷ []) ≡ pools_row.body
unfolding pool pools_body pools_data pool_data cidr_text_of address_text digits escape_byte
body-is = refl

-- ---- the base

only : {X : Type 0} (x y : X) → Contains (x ∷ []) y → y ≡ x
only x y (k, below, is) =
    let first : k ≡ 0 = omega arith in
    sym is ∙ ap (λ n. get_or (x ∷ []) n y) first

pub consistent : IsConsistent base.store
unfolding base IsStrictlySortedBy
consistent = record {
  sound = record {
    rows = all-one (IsRow 1) (1, Pools (pool ∷ [])) (record { is_record = table-is; some = lit< tt; given = lit≤ tt; counted = tt });
    ascending = (tt, tt);
    counted = lit≤ tt;
  };
  at_slots = λ row cidr among named.
      absurd (cc (named, ap (λ (r : StoredRecord). cidr_named (row_key r)) (only (1, Pools (pool ∷ [])) row among)));
  covered = λ id cidr. lit≤ tt;
  agrees = record {
    of_block = λ cidr node h. absurd (cc h.1.1);
    of_affinity = λ cidr node h. absurd (cc h.1);
  };
  few_rows = lit≤ tt;
  few_blocks = lit≤ tt;
}

abbrev texts : Texts
texts = record { rows = pools_row ∷ []; counter = 1 }

row-is : texts_of base.store ≡ pools_row ∷ []
unfolding base
row-is = ap (λ (body : List ℕ). record { key = codes "pools"; revision = 1; body = body } ∷ []) body-is

text-is : IsTextOf texts base.store
unfolding IsStrictlySortedBy
text-is = record {
  by_key = (tt, tt);
  same_rows = rw row-is (IsPermutation-refl (pools_row ∷ []));
  counter = record { above = all-one (λ (row : RowText). row.revision ≤ 1) pools_row (lit≤ tt); below_last = lit≤ tt };
}

opens : OpensAs texts base.store
unfolding base cluster_at Lawful
opens = opened_again base [] consistent tt texts text-is

pub by-key : (rows : List RowText) → rows ≡ pools_row ∷ [] → AreByKey rows
by-key rows is = subst (λ (r : List RowText). AreByKey r) (sym is) text-is.by_key

-- the rows are not refused
pub not-refused : (rows : List RowText) (fault : OpenFault) (rule : ℕ) (about : List ℕ) → rows ≡ pools_row ∷ [] → fault ≡ Refused rule about
    → ¬ (IsFaultOf (record { rows = rows; counter = 1 }) fault)
not-refused rows fault rule about is refused h =
    let told = subst (λ (f : OpenFault). IsFaultOf (record { rows = rows; counter = 1 }) f) refused h in
    let own = subst (λ (r : List RowText). IsRefusedBy (record { rows = r; counter = 1 }) rule about) is told in
    opens.may_be_opened rule about own.breaks

-- what was opened stands for the base
pub stands-base : (cluster : Cluster) (rows : List RowText) → rows ≡ pools_row ∷ [] → OpensAs (record { rows = rows; counter = 1 }) cluster.store.store
    → StandsFor cluster (record { store = cluster.store.store; first = 0 }) [] → StandsFor cluster base []
unfolding base
stands-base cluster rows is opened stands =
    let own = subst (λ (r : List RowText). OpensAs (record { rows = r; counter = 1 }) cluster.store.store) is opened in
    subst (λ store. StandsFor cluster (record { store = store; first = 0 }) []) (opens_as_one texts cluster.store.store base.store own opens) stands
