-- The ledger that knows all sizes of a book.
use Rattle.std.proofs.Common.{◌≡◌, ℕ, zero, suc, ◌+◌, ◌-◌, ◌*◌, ◌<◌, ◌≤◌, length, get_or, refl, sym, ap, subst, ◌∙◌, arith}
use Rattle.std.proofs.lemmas.List.FromFn.{get_or-map-range_with_len}
use Rattle.m2v_rate.specs.Plans.{Entries, first_open}
use Rattle.m2v_slice.specs.Books.{Book, coded, picture_at, size_of, work_of, ledger_with, all_coded, whole_ledger}
use Rattle.m2v_slice.specs.Conditions.{IsSteadyLedger, IsBook}
use Rattle.m2v_slice.proofs.Coded.{count}
use Rattle.m2v_slice.proofs.Steady.{ledger_at, size_within, work_within, ledger_known}
use Rattle.m2v_slice.proofs.Sound.{ledger_settings, ledger_kinds, ledger_caps, ledger_sizes, ledger_works, ledger_cap, ledger_none, known_on, sound, planned, plan_is_good}

pub times_count : (b : Book) → IsBook b → length b.ledger.intervals ≡ length b.pictures
times_count b h = h.ledger.ledger.steady.begun.timed ∙ ap (λ (l : Entries). length l.kinds) (sym (ledger_none b h)) ∙ ledger_kinds b h 0 0

pub size_in : (b : Book) → IsBook b → (p : ℕ) → p < length b.pictures → size_of b (all_coded b) p ≤ (picture_at (all_coded b) p).plan.cap
size_in b h p lt = size_within b h (length b.pictures) p lt lt (plan_is_good b h (length b.pictures) p lt (omega arith))

pub work_in : (b : Book) → IsBook b → (p : ℕ) → p < length b.pictures → work_of (all_coded b) p ≤ 31 * size_of b (all_coded b) p
work_in b h p lt = work_within b h (length b.pictures) p lt lt (plan_is_good b h (length b.pictures) p lt (omega arith))

pub whole_is : (b : Book) → ledger_at b (length b.pictures) (length b.pictures) ≡ whole_ledger b
whole_is b = ap (λ (n : ℕ). ledger_at b n (length b.pictures)) (sym (count b (length b.pictures)))

known_all : (b : Book) → IsBook b → (k m : ℕ) → m ≡ length b.pictures - 4 + k → m ≤ length b.pictures → IsSteadyLedger (ledger_at b m (length b.pictures))
known_all b h zero m is le =
    let n = length b.pictures in
    let some = h.group.picture in
    let all : n - 1 + 1 ≡ n = omega (arith, some) in
    let same : first_open (n - 1) ≡ m = omega (arith, is) in
    let before : n - 1 < n = omega (arith, some) in
    subst (λ (i : ℕ). IsSteadyLedger (ledger_at b i n)) same
    (subst (λ (i : ℕ). IsSteadyLedger (ledger_at b (first_open (n - 1)) i)) all
    (planned b h (n - 1) before (sound b h (n - 1) (omega arith)).ledger))
known_all b h (suc k) m is le =
    let n = length b.pictures in
    let p = m - 1 in
    let lt : p < n = omega (arith, is, le) in
    let more : p + 1 ≡ m = omega (arith, is) in
    let rec = known_all b h k p (omega (arith, is)) (omega (arith, le)) in
    subst (λ (i : ℕ). IsSteadyLedger (ledger_at b i n)) more
    (subst IsSteadyLedger (sym (ledger_known b p n))
    (known_on (ledger_at b p n) p (size_of b (all_coded b) p) (work_of (all_coded b) p) rec (sym (ledger_sizes b p n)) (omega (arith, ledger_caps b p n, lt))
    (omega (arith, ledger_cap b p n p lt, size_in b h p lt))))

-- it can go on
pub whole_ledger_is : (b : Book) → IsBook b → IsSteadyLedger (whole_ledger b)
whole_ledger_is b h =
    let n = length b.pictures in
    subst IsSteadyLedger (whole_is b) (known_all b h (n - (n - 4)) n (omega arith) (omega arith))

pub whole_settings : (b : Book) → IsBook b → (whole_ledger b).settings ≡ b.settings
whole_settings b h = ap (λ (l : Entries). l.settings) (sym (whole_is b)) ∙ ledger_settings b h (length b.pictures) (length b.pictures)

pub whole_kinds : (b : Book) → IsBook b → length (whole_ledger b).kinds ≡ length b.pictures
whole_kinds b h = ap (λ (l : Entries). length l.kinds) (sym (whole_is b)) ∙ ledger_kinds b h (length b.pictures) (length b.pictures)

pub whole_sizes : (b : Book) → length (whole_ledger b).sizes ≡ length b.pictures
whole_sizes b = ap (λ (l : Entries). length l.sizes) (sym (whole_is b)) ∙ ledger_sizes b (length b.pictures) (length b.pictures)

pub whole_works : (b : Book) → length (whole_ledger b).works ≡ length b.pictures
whole_works b = ap (λ (l : Entries). length l.works) (sym (whole_is b)) ∙ ledger_works b (length b.pictures) (length b.pictures)

pub size_at : (b : Book) (p : ℕ) → p < length b.pictures → get_or (whole_ledger b).sizes p 0 ≡ size_of b (all_coded b) p
unfolding ledger_with coded
size_at b p lt = get_or-map-range_with_len (size_of b (all_coded b)) 0 (length (all_coded b)) p p 0 (omega (arith, lt, count b (length b.pictures))) (omega arith)

pub work_at : (b : Book) (p : ℕ) → p < length b.pictures → get_or (whole_ledger b).works p 0 ≡ work_of (all_coded b) p
unfolding ledger_with coded
work_at b p lt = get_or-map-range_with_len (work_of (all_coded b)) 0 (length (all_coded b)) p p 0 (omega (arith, lt, count b (length b.pictures))) (omega arith)

pub removals_kept : (b : Book) → (whole_ledger b).account.removals ≡ b.ledger.account.removals
unfolding ledger_with
removals_kept b = refl
