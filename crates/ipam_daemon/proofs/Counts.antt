-- How counts of connections and workers go on by one.
use Rattle.std.proofs.Common.{◌≡◌, inl, inr, ℕ, zero, suc, ◌+◌, refl, ap, ◌∙◌, arith}
use Rattle.ipam_io.specs.Counts.{next_count}
use Rattle.ipam_daemon.specs.Handing.{raised, IsEachKept, IsEachServed, IsOneHandedOver, IsHandedOver}

pub served_none : (t a : ℕ) → IsEachServed t t a a
served_none t a = record { count = 0; taken = refl; attended = refl }

pub served_more : (t t' t'' a a' a'' : ℕ) → IsEachServed t t' a a' → t'' ≡ next_count t' → a'' ≡ next_count a' → IsEachServed t t'' a a''
served_more t t' t'' a a' a'' s et ea =
    record { count = suc s.count; taken = et ∙ ap next_count s.taken; attended = ea ∙ ap next_count s.attended }

pub kept_none : (t k : ℕ) → IsEachKept t t k k
kept_none t k = record { count = 0; taken = refl; kept = refl }

pub kept_more : (t t' t'' k k' k'' : ℕ) → IsEachKept t t' k k' → t'' ≡ next_count t' → k'' ≡ next_count k' → IsEachKept t t'' k k''
kept_more t t' t'' k k' k'' s et ek =
    record { count = suc s.count; taken = et ∙ ap next_count s.taken; kept = ek ∙ ap next_count s.kept }

zero_left : (count : ℕ) → count ≡ 0 + count
zero_left count = grind arith

suc_left : (over here : ℕ) → suc (over + here) ≡ suc over + here
suc_left over here = grind arith

raised_on : (more count n : ℕ) → raised more (raised count n) ≡ raised (more + count) n
raised_on zero count n = ap (λ k. raised k n) (zero_left count)
raised_on (suc more) count n = ap next_count (raised_on more count n) ∙ ap (λ k. raised k n) (suc_left more count)

-- no more were taken meanwhile
pub kept_all : (t t' t'' k k' : ℕ) → IsEachKept t t' k k' → t'' ≡ t' → IsEachKept t t'' k k'
kept_all t t' t'' k k' s et = record { count = s.count; taken = et ∙ s.taken; kept = s.kept }

-- no more were kept meanwhile
pub kept_still : (t t' k k' k'' : ℕ) → IsEachKept t t' k k' → k'' ≡ k' → IsEachKept t t' k k''
kept_still t t' k k' k'' s ek = record { count = s.count; taken = s.taken; kept = ek ∙ s.kept }

-- no more were kept meanwhile, and then some were
pub kept_on : (t t' t'' k k' k'' l : ℕ) → IsEachKept t t' k k' → k'' ≡ k' → IsEachKept t' t'' k'' l → IsEachKept t t'' k l
kept_on t t' t'' k k' k'' l s ek more =
    record {
      count = more.count + s.count;
      taken = more.taken ∙ ap (raised more.count) s.taken ∙ raised_on more.count s.count t;
      kept = more.kept ∙ ap (raised more.count) (ek ∙ s.kept) ∙ raised_on more.count s.count k;
    }

pub handed_none : (n h a : ℕ) → IsHandedOver n n h h a a
handed_none n h a = record { over = 0; here = 0; accepted = refl; handed = refl; attended = refl }

-- nothing was accepted meanwhile
pub handed_still : (n n' n'' h h' a a' : ℕ) → IsHandedOver n n' h h' a a' → n'' ≡ n' → IsHandedOver n n'' h h' a a'
handed_still n n' n'' h h' a a' s en =
    record { over = s.over; here = s.here; accepted = en ∙ s.accepted; handed = s.handed; attended = s.attended }

suc_right : (over here : ℕ) → suc (over + here) ≡ over + suc here
suc_right over here = grind arith

pub handed_more : (n n' n'' h h' h'' a a' a'' : ℕ) → IsHandedOver n n' h h' a a' → n'' ≡ next_count n' → IsOneHandedOver h' h'' a' a'' → IsHandedOver n n'' h h'' a a''
handed_more n n' n'' h h' h'' a a' a'' s en (inl (eh, ea)) =
    record {
      over = suc s.over;
      here = s.here;
      accepted = en ∙ ap next_count s.accepted ∙ ap (λ k. raised k n) (suc_left s.over s.here);
      handed = eh ∙ ap next_count s.handed;
      attended = ea ∙ s.attended;
    }
handed_more n n' n'' h h' h'' a a' a'' s en (inr (eh, ea)) =
    record {
      over = s.over;
      here = suc s.here;
      accepted = en ∙ ap next_count s.accepted ∙ ap (λ k. raised k n) (suc_right s.over s.here);
      handed = eh ∙ s.handed;
      attended = ea ∙ ap next_count s.attended;
    }

pub hired_none : (h : ℕ) → h ≡ h + 0
hired_none h = omega arith

pub hired_more : (count h h' h'' : ℕ) → h' ≡ h + count → h'' ≡ h' + 1 → h'' ≡ h + (count + 1)
hired_more count h h' h'' e e' = omega (arith, e, e')
