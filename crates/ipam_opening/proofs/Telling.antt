-- What is told of the first rule that is broken.
use Rattle.std.specs.Prelude.{OnOk, IfOk, IfErr}
use Rattle.std.proofs.Common.{Result, Ok, Err, ◌≡◌, ℕ, ◌<◌, ◌+◌, inl, inr, List, Option, Some, None, sym, subst, arith}
use Rattle.std.proofs.lemmas.Bool.{cases_lt}
use Rattle.ipam_model.specs.Opened.{Texts, AreByKey, Breaks, IsRefusedBy, MayBeOpened, NoText, AnotherKey, NoTable, NoSlot, NoBlock, CountTooLow, NoAffinityFor, NoNodeFor, TooManyRows, TooManyBlocks, NoRevision, AboveCounter, AboveLast, CounterAboveLast}
use Rattle.ipam_opening.specs.Opening.{IsFaultOf, told}
use Rattle.ipam_opening.specs.Rules.{number_of}
use Rattle.ipam_opening.specs.Told.{IsClearBelow, IsFirstOf, first_by}
use Rattle.ipam_opening.specs.declared.rule.Rule.{Rule}
use Rattle.ipam_opening.specs.declared.rule.Rule.TheVariants as rule
use Rattle.ipam_opening.proofs.RowBreaks.{first-form, first-other, first-table, first-slot, first-block, first-node, first-confirmed}
use Rattle.ipam_opening.proofs.CountBreaks.{first-count}
use Rattle.ipam_opening.proofs.LimitBreaks.{first-limits, first-revision}

-- ten rules
pub ten : (texts : Texts) (number : ℕ) (about : List ℕ) → Breaks texts number about → (0 < number) × (number < 11)
ten texts number about (NoText row among e) = (omega arith, omega arith)
ten texts number about (AnotherKey row among e) = (omega arith, omega arith)
ten texts number about (NoTable row among e) = (omega arith, omega arith)
ten texts number about (NoSlot row cidr among named form key outside) = (omega arith, omega arith)
ten texts number about (NoBlock row among broken) = (omega arith, omega arith)
ten texts number about (CountTooLow id cidr less) = (omega arith, omega arith)
ten texts number about (NoAffinityFor cidr node has none) = (omega arith, omega arith)
ten texts number about (NoNodeFor cidr node has none) = (omega arith, omega arith)
ten texts number about (TooManyRows row e) = (omega arith, omega arith)
ten texts number about (TooManyBlocks row e) = (omega arith, omega arith)
ten texts number about (NoRevision row among none) = (omega arith, omega arith)
ten texts number about (AboveCounter row among above) = (omega arith, omega arith)
ten texts number about (AboveLast row among above) = (omega arith, omega arith)
ten texts number about (CounterAboveLast above) = (omega arith, omega arith)

pub clear-first : (texts : Texts) → IsClearBelow texts 1
clear-first texts = record { clear = λ n about below broken. let within = ten texts n about broken in absurd (omega arith) }

pub clear-all : (texts : Texts) → IsClearBelow texts 11 → MayBeOpened texts
clear-all texts all number about broken = let within = ten texts number about broken in all.clear number about within.1 broken

pub clear-next : (texts : Texts) (number : ℕ) → IsClearBelow texts number → IsFirstOf (Breaks texts number) None → IsClearBelow texts (number + 1)
clear-next texts number all none = record {
  clear = λ n about below broken. elim (cases_lt n number) [
    | inl less ↦ all.clear n about less broken
    | inr level ↦ let same : n ≡ number = omega arith in none about (subst (λ (k : ℕ). Breaks texts k about) same broken)
  ];
}

pub refused : (texts : Texts) (number : ℕ) (about : List ℕ) → IsClearBelow texts number → IsFirstOf (Breaks texts number) (Some about) → IsRefusedBy texts number about
refused texts number about all first = record {
  breaks = first.is;
  first = λ n k broken. elim (cases_lt n number) [
    | inl less ↦ absurd (all.clear n k less broken)
    | inr level ↦ elim (cases_lt number n) [
      | inl above ↦ inl above
      | inr other ↦ let same : number ≡ n = omega arith in inr (same, first.first k (subst (λ (m : ℕ). Breaks texts m k) (sym same) broken))
    ]
  ];
}

-- the first key that each rule is told of
pub first-is : (texts : Texts) → AreByKey texts.rows → (r : Rule) → IsClearBelow texts (number_of r) → IsFirstOf (Breaks texts (number_of r)) (first_by r texts)
first-is texts by_key rule.Form below = first-form texts by_key
first-is texts by_key rule.Key below = first-other texts by_key
first-is texts by_key rule.Table below = first-table texts by_key
first-is texts by_key rule.Slot below = first-slot texts by_key below
first-is texts by_key rule.Block below = first-block texts by_key
first-is texts by_key rule.Count below = first-count texts by_key
first-is texts by_key rule.Node below = first-node texts by_key
first-is texts by_key rule.Confirmed below = first-confirmed texts by_key
first-is texts by_key rule.Limits below = first-limits texts below
first-is texts by_key rule.Revision below = first-revision texts by_key

-- ---- the outcome of the test of a rule

pub outcome-ok : {E : Type 0} → (texts : Texts) (number : ℕ) (first : Option (List ℕ)) (found : Result (Option (List ℕ)) E) → IsClearBelow texts number → IsFirstOf (Breaks texts number) first
    → IfOk found (λ f. f ≡ first) → OnOk (told number found) (IsClearBelow texts (number + 1))
outcome-ok texts number first (Ok None) below is same = clear-next texts number below (subst (IsFirstOf (Breaks texts number)) (sym same) is)
outcome-ok texts number first (Ok (Some about)) below is same = tt
outcome-ok texts number first (Err e) below is same = tt

pub outcome-refused : {E : Type 0} → (texts : Texts) (number : ℕ) (first : Option (List ℕ)) (found : Result (Option (List ℕ)) E) → IsClearBelow texts number → IsFirstOf (Breaks texts number) first
    → IfOk found (λ f. f ≡ first) → IfErr (told number found) (IsFaultOf texts)
outcome-refused texts number first (Ok None) below is same = tt
outcome-refused texts number first (Ok (Some about)) below is same = refused texts number about below (subst (IsFirstOf (Breaks texts number)) (sym same) is)
outcome-refused texts number first (Err e) below is same = tt
