-- The bounds of all requests.
use Rattle.std.proofs.Common.{◌≡◌, ℕ, zero, suc, ◌+◌, ◌*◌, ◌-◌, ◌≤◌, true, false, Bool, cond, List, [], ◌∷◌, ◌++◌, length, Option, Some, None, refl, subst, arith}
use Rattle.std.specs.Prelude.{map}
use Rattle.ipam_addr.specs.declared.address.Family.{Family}
use Rattle.ipam_addr.specs.declared.address.Family.TheVariants.{V4, V6}
use Rattle.ipam_addr.specs.Shape.{AddrValue, CidrValue}
use Rattle.ipam_pool.specs.declared.pools.Pool.{Pool}
use Rattle.ipam_block.specs.declared.record.Affinity.{Affinity}
use Rattle.ipam_records.specs.Bound.{AtMost}
use Rattle.ipam_records.specs.Said.{Said}
use Rattle.ipam_records.specs.Word.{Word, Ends}
use Rattle.ipam_model.specs.declared.answer.Answer.{Answer}
use Rattle.ipam_model.specs.declared.answer.Collected.{Collected}
use Rattle.ipam_model.specs.declared.answer.Scan.{Scan}
use Rattle.ipam_model.specs.declared.choice.Choice.{Choice}
use Rattle.ipam_model.specs.declared.choice.Choice.TheVariants.{Use, Claim, Borrow, Nothing, NoPool}
use Rattle.ipam_model.specs.declared.outcome.AdminAnswer.{AdminAnswer}
use Rattle.ipam_model.specs.declared.outcome.AdminAnswer.TheVariants as admin
use Rattle.ipam_model.specs.declared.outcome.CheckAnswer.{CheckAnswer}
use Rattle.ipam_model.specs.declared.outcome.ProbeAnswer.{ProbeAnswer}
use Rattle.ipam_model.specs.declared.outcome.ReleaseAnswer.{ReleaseAnswer}
use Rattle.ipam_model.specs.declared.outcome.ReleaseAnswer.TheVariants as released
use Rattle.ipam_model.specs.declared.request.Admin.{Admin}
use Rattle.ipam_model.specs.declared.request.ProbeRequest.{ProbeRequest}
use Rattle.ipam_model.specs.Add.{add_word}
use Rattle.ipam_model.specs.AddThis.{add_this_word}
use Rattle.ipam_model.specs.Admin as change
use Rattle.ipam_model.specs.Affinities as affinities
use Rattle.ipam_model.specs.BoundLaw.{BoundLaw, CollectBoundLaw}
use Rattle.ipam_model.specs.Choice.{choice_of}
use Rattle.ipam_model.specs.Counting.{freeing_all, free}
use Rattle.ipam_model.specs.Look as look
use Rattle.ipam_model.specs.Reads.{handle_said, rows_said, affinity_said, block_said, pools_said}
use Rattle.ipam_model.specs.Remove as remove
use Rattle.ipam_model.specs.Requests.{word_of, told_as}
use Rattle.ipam_model.specs.Told.{of_add, of_add_this, of_del, of_check, of_release, of_collect, of_admin, of_probe}
use Rattle.ipam_model.specs.declared.part.Left.{Left}
use Rattle.ipam_model.specs.declared.part.Stop.TheVariants.{OutOfTries, NoRoom, NoRevisions}
use Rattle.ipam_model.specs.Step.{left_of, all_left, Part, goes, stops, tries, with_retries}
use Rattle.ipam_model.specs.Usable.{families_if, pool_of}
use Rattle.ipam_laws.proofs.Within.{Within, Any, AtMost-Within, Within-bound, Within-followed, Within-settled, Within-after_write}
use Rattle.ipam_laws.proofs.PartBounds.{Leaves, free-within, five_reads-within}
use Rattle.ipam_laws.proofs.AddBounds.{add-within, add_this-within}

-- a word keeps its bound where its answer is told as another
told-bound : {A : Type 0} → (of_one : A → Answer) (w : Word A) (count : ℕ) → Within Any w count → AtMost (told_as of_one w) count
told-bound of_one w count h = AtMost-Within Any (told_as of_one w) count (Within-bound Any Any w (λ one. Ends (of_one one)) count h (λ one rest k. tt))

-- ---- DEL

del_blocks-within : (id : List ℕ) (moment : ℕ) (blocks : List CidrValue) (left : Left) (count : ℕ) → 2 * left.races + 0 * left.claims + 4 * length blocks ≤ count → Within Any (remove.del_blocks id moment blocks left) count
unfolding remove.del_blocks
del_blocks-within id moment [] left count h = tt
del_blocks-within id moment (cidr ∷ rest) left count h =
    Within-followed (Leaves 2 0 (4 * length rest)) Any (free (freeing_all id cidr) left) (λ now amount. remove.del_blocks id moment rest now) count
    (free-within 2 0 (4 * length rest) left count (freeing_all id cidr) (omega arith) (omega arith))
    (λ now amount remaining k. del_blocks-within id moment rest now remaining k) (λ now why remaining k. tt)

blocks_of_counts : (counts : List (CidrValue × ℕ)) → length (map (λ (count : CidrValue × ℕ). count.0) counts) ≡ length counts
blocks_of_counts [] = refl
blocks_of_counts (count ∷ counts) = omega (arith, blocks_of_counts counts)

-- ---- collection

free_leaks-within : (done : Collected) (leaks : List remove.Leak) (left : Left) (count : ℕ) → 2 * left.races + 0 * left.claims + 4 * length leaks ≤ count → Within Any (remove.free_leaks done leaks left) count
unfolding remove.free_leaks
free_leaks-within done [] left count h = tt
free_leaks-within done (leak ∷ rest) left count h =
    Within-followed (Leaves 2 0 (4 * length rest)) Any (free (remove.freeing_owner leak.owner leak.block) left) (λ now amount. remove.free_leaks (remove.with_item done (remove.item_of leak amount)) rest now) count
    (free-within 2 0 (4 * length rest) left count (remove.freeing_owner leak.owner leak.block) (omega arith) (omega arith))
    (λ now amount remaining k. free_leaks-within (remove.with_item done (remove.item_of leak amount)) rest now remaining k) (λ now why remaining k. tt)

-- ---- CHECK

check_held-within : (rest : Word CheckAnswer) (address : AddrValue) (moment : ℕ) (held : Bool) (count : ℕ) → Within Any rest count → Within Any (look.check_held rest address moment held) count
check_held-within rest address moment true count h = h
check_held-within rest address moment false count h = tt

check_in_pool-within : (rest : Word CheckAnswer) (id : List ℕ) (address : AddrValue) (p : ℕ) (pool : Option Pool) (count : ℕ) → Within Any rest count → Within Any (look.check_in_pool rest id address p pool) (1 + count)
check_in_pool-within rest id address p None count h = tt
check_in_pool-within rest id address p (Some pool) count h = (
  omega arith,
  λ moment said.
      check_held-within rest address moment _ (1 + count - 1) (again h),
)
  where
    again : Within Any rest count → Within Any rest (1 + count - 1)
    again k = let same : count ≡ 1 + count - 1 = omega arith in subst (λ (n : ℕ). Within Any rest n) same k

check_each-within : (id : List ℕ) (p : ℕ) (pools : List Pool) (addresses : List AddrValue) → Within Any (look.check_each id p pools addresses) (length addresses)
unfolding look.check_each
check_each-within id p pools [] = tt
check_each-within id p pools (address ∷ rest) =
    let same : 1 + length rest ≡ length (address ∷ rest) = omega arith in
    subst (λ (n : ℕ). Within Any (look.check_in_pool (look.check_each id p pools rest) id address p (pool_of address pools)) n) same
    (check_in_pool-within (look.check_each id p pools rest) id address p (pool_of address pools) (length rest) (check_each-within id p pools rest))

check-within : (id : List ℕ) (addresses : List AddrValue) → Within Any (look.check_word id addresses) (1 + length addresses)
check-within id addresses = (
  omega arith,
  λ p said.
      let same : length addresses ≡ 1 + length addresses - 1 = omega arith in
      subst (λ (n : ℕ). Within Any (look.check_each id p (pools_said said) addresses) n) same (check_each-within id p (pools_said said) addresses),
)

-- ---- the release of an affinity: six calls for each try

release_delete-within : (tie : affinities.Tie) (again : Part ReleaseAnswer) (left : Left) (mark count : ℕ) → 1 ≤ count → Within Any again (count - 1) → Within Any (affinities.release_delete tie again left mark) count
release_delete-within tie again left mark count h a = (
  h,
  λ moment said.
      Within-after_write Any said (λ revision. goes left released.Released) again (stops left NoRoom) (stops left NoRevisions) (count - 1) (λ revision. tt) a tt tt,
)

release_block-within : (tie : affinities.Tie) (again : Part ReleaseAnswer) (left : Left) (mark : ℕ) (read : affinities.BlockRead) (count : ℕ) → 2 ≤ count → Within Any again (count - 1) → Within Any again (count - 1 - 1) → Within Any (affinities.release_block tie again left mark read) count
release_block-within tie again left mark read count h a b = (
  omega arith,
  λ moment said.
      Within-after_write Any said (λ revision. affinities.release_delete tie again left mark) again (stops left NoRoom) (stops left NoRevisions) (count - 1)
      (λ revision. release_delete-within tie again left mark (count - 1) (omega arith) b) a tt tt,
)

release_look-within : (tie : affinities.Tie) (again : Part ReleaseAnswer) (left : Left) (mark count : ℕ) → 4 ≤ count → ((spent : ℕ) → spent ≤ 4 → Within Any again (count - spent)) → Within Any (affinities.release_look tie again left mark) count
release_look-within tie again left mark count h a = (
  omega arith,
  λ moment seen. (
    omega arith,
    λ second said. from (block_said seen) (affinities.is_at_mark mark (affinity_said said)),
  ),
)
  where
    less : (spent : ℕ) → spent ≤ 4 → (n : ℕ) → count - spent ≡ n → Within Any again n
    less spent few n same = subst (λ (n : ℕ). Within Any again n) same (a spent few)

    from : (read : affinities.BlockRead) (same : Bool) → Within Any (cond same (affinities.release_block tie again left mark read) again) (count - 1 - 1)
    from read true = release_block-within tie again left mark read (count - 1 - 1) (omega arith) (less 3 (omega arith) (count - 1 - 1 - 1) (omega arith)) (less 4 (omega arith) (count - 1 - 1 - 1 - 1) (omega arith))
    from read false = less 2 (omega arith) (count - 1 - 1) (omega arith)

release_found-within : (tie : affinities.Tie) (again : Part ReleaseAnswer) (left : Left) (moment : ℕ) (found : Option (ℕ × Affinity)) (count : ℕ) → 5 ≤ count → ((spent : ℕ) → spent ≤ 5 → Within Any again (count - spent)) → Within Any (affinities.release_found tie again left moment found) count
release_found-within tie again left moment None count h a = tt
release_found-within tie again left moment (Some (revision, found)) count h a = (
  omega arith,
  λ second said.
      Within-after_write Any said (affinities.release_look tie again left) again (stops left NoRoom) (stops left NoRevisions) (count - 1)
      (λ mark. release_look-within tie again left mark (count - 1) (omega arith) later)
      (a 1 (omega arith)) tt tt,
)
  where
    later : (spent : ℕ) → spent ≤ 4 → Within Any again (count - 1 - spent)
    later spent few = let same : count - (1 + spent) ≡ count - 1 - spent = omega arith in subst (λ (n : ℕ). Within Any again n) same (a (1 + spent) (omega arith))

release_once-within : (tie : affinities.Tie) (again : Part ReleaseAnswer) (left : Left) (count : ℕ) → 6 ≤ count → ((spent : ℕ) → spent ≤ 6 → Within Any again (count - spent)) → Within Any (affinities.release_once tie again left) count
release_once-within tie again left count h a = (
  omega arith,
  λ moment said.
      release_found-within tie again left moment (affinity_said said) (count - 1) (omega arith) later,
)
  where
    later : (spent : ℕ) → spent ≤ 5 → Within Any again (count - 1 - spent)
    later spent few = let same : count - (1 + spent) ≡ count - 1 - spent = omega arith in subst (λ (n : ℕ). Within Any again n) same (a (1 + spent) (omega arith))

release_tries-within : (tie : affinities.Tie) (races claims count : ℕ) → 6 * races + 6 ≤ count → Within Any (tries (affinities.release_once tie) races claims) count
unfolding tries
release_tries-within tie zero claims count h = release_once-within tie (stops (left_of zero claims) OutOfTries) (left_of zero claims) count (omega arith) (λ spent few. tt)
release_tries-within tie (suc races) claims count h =
    release_once-within tie (tries (affinities.release_once tie) races claims) (left_of (suc races) claims) count (omega arith) (λ spent few. release_tries-within tie races claims (count - spent) (omega arith))

release-within : (node : List ℕ) (cidr : CidrValue) → Within Any (affinities.release node cidr) 400
release-within node cidr =
    let tie : affinities.Tie = record { node = node; block = cidr } in
    Within-settled Any affinities.release_stops (with_retries (affinities.release_once tie) all_left) 400 (release_tries-within tie 63 63 400 (omega arith))

-- ---- administration

admin_write-within : (again : Part AdminAnswer) (left : Left) (said : Said) (changed : change.Changed) (count : ℕ) → 1 ≤ count → Within Any again (count - 1) → Within Any (change.admin_write again left said changed) count
admin_write-within again left said (change.Becomes new) count h a = (
  h,
  λ moment reply.
      Within-after_write Any reply (λ revision. goes left (admin.Done revision)) again (stops left NoRoom) (stops left NoRevisions) (count - 1) (λ revision. tt) a tt tt,
)
admin_write-within again left said (change.Refuses number name) count h a = tt

admin_once-within : (request : Admin) (again : Part AdminAnswer) (left : Left) (count : ℕ) → 2 ≤ count → Within Any again (count - 1 - 1) → Within Any (change.admin_once request again left) count
admin_once-within request again left count h a = (omega arith, λ moment said. admin_write-within again left said (change.admin_change request said) (count - 1) (omega arith) a)

admin_tries-within : (request : Admin) (races claims count : ℕ) → 2 * races + 2 ≤ count → Within Any (tries (change.admin_once request) races claims) count
unfolding tries
admin_tries-within request zero claims count h = admin_once-within request (stops (left_of zero claims) OutOfTries) (left_of zero claims) count (omega arith) tt
admin_tries-within request (suc races) claims count h =
    admin_once-within request (tries (change.admin_once request) races claims) (left_of (suc races) claims) count (omega arith) (admin_tries-within request races claims (count - 1 - 1) (omega arith))

admin-within : (request : Admin) → Within Any (change.admin_word request) 200
admin-within request =
    Within-settled Any change.admin_stops (with_retries (change.admin_once request) all_left) 200 (admin_tries-within request 63 63 200 (omega arith))

-- ---- the probe

probe_choice-within : (rest : Word ProbeAnswer) (request : ProbeRequest) (family : Family) (scan : Scan) (choice : Choice) (count : ℕ) → Within Any rest count → Within Any (look.probe_choice rest (look.asked_of_probe request family) scan choice) count
probe_choice-within rest request family scan Nothing count h = tt
probe_choice-within rest request family scan (NoPool place) count h = tt
probe_choice-within rest request family scan (Use cidr ordinal) count h = h
probe_choice-within rest request family scan (Claim cidr) count h = h
probe_choice-within rest request family scan (Borrow cidr ordinal) count h = h

probe_each-within : (request : ProbeRequest) (scans : List Scan) (families : List Family) (count : ℕ) → 5 * length families ≤ count → Within Any (look.probe_each request scans families) count
unfolding look.probe_each
probe_each-within request scans [] count h = tt
probe_each-within request scans (family ∷ families) count h =
    five_reads-within Any family (λ scan seen. look.probe_choice (look.probe_each request (scans ++ scan ∷ []) families) (look.asked_of_probe request family) scan (choice_of (look.asked_of_probe request family) seen)) count (omega arith)
    (λ scan seen. probe_choice-within (look.probe_each request (scans ++ scan ∷ []) families) request family scan (choice_of (look.asked_of_probe request family) seen) (count - 1 - 1 - 1 - 1 - 1)
    (probe_each-within request (scans ++ scan ∷ []) families (count - 1 - 1 - 1 - 1 - 1) (omega arith)))

probe_families-within : (request : ProbeRequest) (ipv4 ipv6 : Bool) → Within Any (look.probe_each request [] (families_if ipv4 ipv6)) 10
probe_families-within request true true = probe_each-within request [] (V4 ∷ V6 ∷ []) 10 (omega arith)
probe_families-within request true false = probe_each-within request [] (V4 ∷ []) 10 (omega arith)
probe_families-within request false true = probe_each-within request [] (V6 ∷ []) 10 (omega arith)
probe_families-within request false false = probe_each-within request [] [] 10 (omega arith)

-- ---- all of them

pub bounds : BoundLaw
unfolding word_of
bounds = record {
  add = λ request. told-bound of_add (add_word request) 2000 (add-within request);
  add_this = λ request address. told-bound of_add_this (add_this_word request address) 2000 (add_this-within request address);
  del = λ id moment said.
      let blocks = map (λ (count : CidrValue × ℕ). count.0) (handle_said id said).counts in
      let count = 199 + 4 * length (handle_said id said).counts in
      told-bound of_del _ count (Within-settled Any remove.del_stops (remove.del_blocks id moment blocks all_left) count
      (del_blocks-within id moment blocks all_left count (omega (arith, blocks_of_counts (handle_said id said).counts))));
  check = λ id addresses. told-bound of_check (look.check_word id addresses) (1 + length addresses) (check-within id addresses);
  release = λ node cidr. told-bound of_release (affinities.release node cidr) 400 (release-within node cidr);
  admin = λ request. told-bound of_admin (change.admin_word request) 200 (admin-within request);
  probe = λ request. told-bound of_probe (look.probe_word request) 10 (probe_families-within request request.ipv4 request.ipv6);
}

pub collect_bounds : CollectBoundLaw
unfolding word_of
collect_bounds request b1 b2 first second live =
    let leaks = remove.leaks (remove.suspects request (rows_said first)) live (rows_said second) in
    let done : Collected = record { b1 = b1; b2 = b2; items = [] } in
    told-bound of_collect _ (198 + 4 * length leaks) (Within-settled Any remove.collect_stops (remove.free_leaks done leaks all_left) (198 + 4 * length leaks)
    (free_leaks-within done leaks all_left (198 + 4 * length leaks) (omega arith)))
