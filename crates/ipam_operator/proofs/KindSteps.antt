-- Kinds that are asked for one after the other.
use Rattle.std.proofs.Common.{◌≡◌, ℕ, ◌+◌, ◌<◌, ◌≤◌, List, [], ◌∷◌, ◌++◌, drop, get_or, length, refl, sym, subst, add-one, drop-cons, drop_of_length-le, Result, Ok, Err}
use Rattle.ipam_operator.specs.declared.asking.AskFault.{AskFault}
use Rattle.ipam_operator.specs.declared.asking.AskFault.TheVariants.{Memory}
use Rattle.ipam_operator.specs.Asking.{Wire}
use Rattle.ipam_records.specs.declared.call.Row.{Row}
use Rattle.ipam_words.specs.declared.kind.RowKind.{RowKind}
use Rattle.ipam_operator.specs.Rows.{AsksKind, AsksRows, Ended, More, NoRoom, Whole}

next_kind : (kinds : List RowKind) (i : ℕ) (blank : RowKind) → i < length kinds → get_or kinds i blank ∷ drop (i + 1) kinds ≡ drop i kinds
next_kind kinds i blank within = sym (rw (add-one, drop-cons kinds i blank within) refl)

pub asks_more : (kinds : List RowKind) (i : ℕ) (blank : RowKind) → i < length kinds
    → (rows found : List Row) (came : Result (List Row) AskFault) (old between new : Wire) → AsksKind (get_or kinds i blank) [] (Ok found) old between
    → AsksRows (drop (i + 1) kinds) (rows ++ found) came between new → AsksRows (drop i kinds) rows came old new
asks_more kinds i blank within rows found came old between new asks more =
    subst (λ (ks : List RowKind). AsksRows ks rows came old new) (next_kind kinds i blank within)
    (More (get_or kinds i blank) (drop (i + 1) kinds) rows found came old between new asks more)

pub asks_ended : (kinds : List RowKind) (i : ℕ) (blank : RowKind) → i < length kinds
    → (rows : List Row) (why : AskFault) (old new : Wire) → AsksKind (get_or kinds i blank) [] (Err why) old new → AsksRows (drop i kinds) rows (Err why) old new
asks_ended kinds i blank within rows why old new asks =
    subst (λ (ks : List RowKind). AsksRows ks rows (Err why) old new) (next_kind kinds i blank within)
    (Ended (get_or kinds i blank) (drop (i + 1) kinds) rows why old new asks)

pub asks_no_room : (kinds : List RowKind) (i : ℕ) (blank : RowKind) → i < length kinds
    → (rows found : List Row) (old new : Wire) → AsksKind (get_or kinds i blank) [] (Ok found) old new → AsksRows (drop i kinds) rows (Err Memory) old new
asks_no_room kinds i blank within rows found old new asks =
    subst (λ (ks : List RowKind). AsksRows ks rows (Err Memory) old new) (next_kind kinds i blank within)
    (NoRoom (get_or kinds i blank) (drop (i + 1) kinds) rows found old new asks)

pub asks_whole : (kinds : List RowKind) (i : ℕ) → length kinds ≤ i → (rows : List Row) (old : Wire) → AsksRows (drop i kinds) rows (Ok rows) old old
asks_whole kinds i over rows old =
    subst (λ (ks : List RowKind). AsksRows ks rows (Ok rows) old old) (sym (drop_of_length-le kinds over)) (Whole rows old)

-- the same rows came before
pub asks_behind : (kinds : List RowKind) (rows others : List Row) → rows ≡ others → (came : Result (List Row) AskFault) (old new : Wire) → AsksRows kinds rows came old new
    → AsksRows kinds others came old new
asks_behind kinds rows others same came old new asks = subst (λ (found : List Row). AsksRows kinds found came old new) same asks
