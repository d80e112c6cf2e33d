-- What a cache knows of the needs of a job once it has learned them.
use Rattle.std.proofs.Common.{◌≡◌, ℕ, zero, suc, ◌+◌, ◌-◌, ◌<◌, ◌≤◌, Bool, true, ◌&&◌, ◌||◌, List, [], ◌∷◌, ◌++◌, length, get_or, Option, Some, None, refl, sym, ap, subst, ◌∙◌, arith, inl, inr, ◌⊎◌}
use Rattle.std.specs.Prelude.{⊤, nat_eq, nat_le, IsSome}
use Rattle.std.specs.List.{list_all, range_with_len}
use Rattle.std.proofs.lemmas.Bool.{cases_eq, cases_lt, cases_Bool, and_parts, and_left, eq-eqb, ne_eqb, le-leb, lt-leb, cond_both, cond-true, cond-false}
use Rattle.std.proofs.lemmas.List.{get_or_append_left, get_or-append-add, length-append}
use Rattle.std.proofs.lemmas.List.Folds.{list_all-append}
use Rattle.std.proofs.lemmas.List.FromFn.{length-range_with_len, get_or-range_with_len}
use Rattle.m2v_core.specs.Book.{cache_after}
use Rattle.m2v_plane.specs.Samples.{Samples, blank}
use Rattle.m2v_dec_batch.specs.declared.cache.DecodeCache.{DecodeCache}
use Rattle.m2v_dec_batch.specs.declared.picture.FramePlace.{FramePlace}
use Rattle.m2v_dec_batch.specs.declared.picture.FramePlace.TheVariants.{Older, Newer, Waiting, Behind}
use Rattle.m2v_dec_batch.specs.declared.picture.Reads.{Reads}
use Rattle.m2v_dec_batch.specs.Jobs.{Headers, header_at, needs_of, jobs_of, jobs_at, jobs_behind, frame_from, frame_count, picture_of_job, read_by}
use Rattle.m2v_dec_batch.specs.Batches.{Batch, headers, Rows, no_rows, frame_behind, frame_at, IsBatch}
use Rattle.m2v_dec_batch.specs.Below.{ComesBefore, MayBe, reads_before, needs_below, picture_upto, first_upto, picture_exists, from_below, first_more}
use Rattle.m2v_dec_batch.specs.Painted.{all_rows}
use Rattle.m2v_dec_batch.specs.Pieces.{row_of, is_rebuilt, SharedRow}
use Rattle.m2v_dec_batch.specs.Values.{value_of, shared_of, decoded, outcome_at, rows_of, are_rebuilt}
use Rattle.m2v_dec_batch.specs.Learned.{is_of, held_of, learned_at, learned_of, first_rebuilt, IsOver, HoldsRows, FitsHeld, FitsCache}
use Rattle.m2v_dec_batch.specs.Works.{HasFrame, HasLearned, whole_at, needs_rebuilt, rowless, frame_found}
use Rattle.m2v_dec_batch.proofs.Blank.{waiting_behind, first_behind, blank_behind}
use Rattle.m2v_dec_batch.proofs.Decoded.{value_stays}
use Rattle.m2v_dec_batch.proofs.FrameRows.{frame_same}
use Rattle.m2v_dec_batch.proofs.FrameSizes.{one_row}
use Rattle.m2v_dec_batch.proofs.Learning.{HasSome, some_is, some_more, all_kept, learned_fits}
use Rattle.m2v_dec_batch.proofs.Needs.{forward_exists, other_exists}
use Rattle.m2v_dec_batch.proofs.Over.{over_is}
use Rattle.m2v_dec_batch.proofs.Shared.{shared_row}

-- ---- one row of the frame at a place

-- at least so many of its rows were learned
abbrev pub SomeAt : DecodeCache → Option FramePlace → ℕ → Type 0
SomeAt c None n = ⊤
SomeAt c (Some Older) n = ⊤
SomeAt c (Some Newer) n = ⊤
SomeAt c (Some Waiting) n = ⊤
SomeAt c (Some (Behind q)) n = 0 < n → HasSome c q n

none_at : (c : DecodeCache) (x : Option FramePlace) → SomeAt c x 0
none_at c None = tt
none_at c (Some Older) = tt
none_at c (Some Newer) = tt
none_at c (Some Waiting) = tt
none_at c (Some (Behind q)) = λ lt. absurd (omega arith)

-- what holds of a row of a frame, by the picture that it stands behind
at_row : (hs : Headers) (P : Option FramePlace → Type 0) (x : Option FramePlace) (k : ℕ) → k < length (jobs_at hs x)
    → ((q : ℕ) → k < frame_count hs q → get_or (jobs_at hs (Some (Behind q))) k 0 ≡ frame_from hs q + k → P (Some (Behind q))) → P x
unfolding jobs_at
at_row hs P None k lt each = absurd (omega arith)
at_row hs P (Some Older) k lt each = absurd (omega arith)
at_row hs P (Some Newer) k lt each = absurd (omega arith)
at_row hs P (Some Waiting) k lt each = absurd (omega arith)
at_row hs P (Some (Behind q)) k lt each =
    let small : k < frame_count hs q = omega (arith, lt, length-range_with_len (frame_from hs q) (frame_count hs q)) in
    each q small (get_or-range_with_len (frame_from hs q) (frame_count hs q) k 0 small)

abbrev exists : Batch → Option FramePlace → Type 0
exists b x = MayBe (ComesBefore (length (headers b))) x

there : (b : Batch) (q : ℕ) → exists b (Some (Behind q)) → q < length (headers b)
unfolding MayBe ComesBefore
there b q h = h

-- the row of need k of the frame at a place
abbrev row_at : Batch → Option FramePlace → ℕ → Option Samples
row_at b x k = row_of (value_of b (get_or (jobs_at (headers b) x) k 0))

at_fits : (b : Batch) (x keep : Option FramePlace) (k : ℕ) (c : DecodeCache) → IsBatch b → exists b x → k < length (jobs_at (headers b) x) → FitsCache b c → FitsCache b (learned_at b x keep k (row_at b x k) c)
at_fits b x keep k c h is lt fits =
    at_row (headers b) (λ y. exists b y → FitsCache b (learned_at b y keep k (row_at b y k) c)) x k lt
    (λ q small e ex. subst (λ (i : ℕ). FitsCache b (learned_at b (Some (Behind q)) keep k (row_of (value_of b i)) c)) (sym e) (learned_fits b q k keep c h (there b q ex) small fits))
    is

at_more : (b : Batch) (x keep : Option FramePlace) (k : ℕ) (row : Option Samples) (c : DecodeCache) → k < length (jobs_at (headers b) x) → SomeAt c x k → SomeAt (learned_at b x keep k row c) x (k + 1)
at_more b x keep k row c lt some =
    at_row (headers b) (λ y. SomeAt c y k → SomeAt (learned_at b y keep k row c) y (k + 1)) x k lt
    (λ q small e before any. some_more b q k keep row c before)
    some

all_at : (b : Batch) (x keep : Option FramePlace) (k : ℕ) (row : Option Samples) (c : DecodeCache) → k < length (jobs_at (headers b) x) → SomeAt c keep (length (jobs_at (headers b) keep))
    → SomeAt (learned_at b x keep k row c) keep (length (jobs_at (headers b) keep))
unfolding jobs_at
all_at b x None k row c lt all = tt
all_at b x (Some Older) k row c lt all = tt
all_at b x (Some Newer) k row c lt all = tt
all_at b x (Some Waiting) k row c lt all = tt
all_at b x (Some (Behind p)) k row c lt all = λ some.
    let hs = headers b in
    let count = length-range_with_len (frame_from hs p) (frame_count hs p) in
    at_row hs (λ y. HasSome (learned_at b y (Some (Behind p)) k row c) p (length (jobs_behind hs p))) x k lt
    (λ q small e. subst (HasSome (learned_at b (Some (Behind q)) (Some (Behind p)) k row c) p) (sym count) (all_kept b p q k row c small (subst (HasSome c p) count (all some))))

-- ---- the needs of a job

abbrev reads : Batch → ℕ → Reads
reads b j = read_by (headers b) (picture_of_job (headers b) j)

abbrev firsts : Batch → ℕ → ℕ
firsts b j = length (jobs_at (headers b) (reads b j).forward)

abbrev others : Batch → ℕ → ℕ
others b j = length (jobs_at (headers b) (reads b j).other)

needs_are : (b : Batch) (j : ℕ) → needs_of (headers b) j ≡ jobs_at (headers b) (reads b j).forward ++ jobs_at (headers b) (reads b j).other
unfolding needs_of
needs_are b j = refl

pub needs_number : (b : Batch) (j : ℕ) → length (needs_of (headers b) j) ≡ firsts b j + others b j
needs_number b j = ap (λ (l : List ℕ). length l) (needs_are b j) ∙ length-append (jobs_at (headers b) (reads b j).forward) (jobs_at (headers b) (reads b j).other)

pub first_need : (b : Batch) (j at : ℕ) → at < firsts b j → get_or (needs_of (headers b) j) at 0 ≡ get_or (jobs_at (headers b) (reads b j).forward) at 0
first_need b j at lt = ap (λ (l : List ℕ). get_or l at 0) (needs_are b j) ∙ get_or_append_left (jobs_at (headers b) (reads b j).forward) (jobs_at (headers b) (reads b j).other) 0 at lt

pub other_need : (b : Batch) (j k : ℕ) → get_or (needs_of (headers b) j) (firsts b j + k) 0 ≡ get_or (jobs_at (headers b) (reads b j).other) k 0
other_need b j k = ap (λ (l : List ℕ). get_or l (firsts b j + k) 0) (needs_are b j) ∙ get_or-append-add (jobs_at (headers b) (reads b j).forward) (jobs_at (headers b) (reads b j).other) k 0

pub first_learned : (b : Batch) (j at : ℕ) (x : SharedRow) (c : DecodeCache) → at < firsts b j → learned_of b j at x c ≡ learned_at b (reads b j).forward (reads b j).other at x.row c
unfolding learned_of
first_learned b j at x c lt = cond-true (nat_le (at + 1) (firsts b j)) _ _ (le-leb (at + 1) (firsts b j) (omega (arith, lt)))

pub other_learned : (b : Batch) (j k : ℕ) (x : SharedRow) (c : DecodeCache) → learned_of b j (firsts b j + k) x c ≡ learned_at b (reads b j).other (reads b j).forward k x.row c
unfolding learned_of
other_learned b j k x c =
    let n = firsts b j in
    let e : n + k - n ≡ k = omega arith in
    cond-false (nat_le (n + k + 1) n) _ _ (lt-leb (n + k + 1) n (omega arith))
    ∙ ap (λ (m : ℕ). learned_at b (reads b j).other (reads b j).forward m x.row c) e

abbrev needed : Batch → ℕ → ℕ → SharedRow
needed b j at = shared_of b (get_or (needs_of (headers b) j) at 0)

first_row : (b : Batch) (j at : ℕ) → j < jobs_of (headers b) → at < firsts b j → (needed b j at).row ≡ row_at b (reads b j).forward at
first_row b j at job lt = shared_row b j at job (omega (arith, lt, needs_number b j)) ∙ ap (λ (i : ℕ). row_of (value_of b i)) (first_need b j at lt)

other_row : (b : Batch) (j k : ℕ) → j < jobs_of (headers b) → k < others b j → (needed b j (firsts b j + k)).row ≡ row_at b (reads b j).other k
other_row b j k job lt = shared_row b j (firsts b j + k) job (omega (arith, lt, needs_number b j)) ∙ ap (λ (i : ℕ). row_of (value_of b i)) (other_need b j k)

forward_there : (b : Batch) (j : ℕ) → j < jobs_of (headers b) → exists b (reads b j).forward
forward_there b j job = forward_exists (headers b) (picture_of_job (headers b) j) (reads b j) (picture_exists (headers b) j job) refl

other_there : (b : Batch) (j : ℕ) → j < jobs_of (headers b) → exists b (reads b j).other
other_there b j job = other_exists (headers b) (picture_of_job (headers b) j) (reads b j) (picture_exists (headers b) j job) refl

first_is : (b : Batch) (j at : ℕ) (c : DecodeCache) → j < jobs_of (headers b) → at < firsts b j → learned_of b j at (needed b j at) c ≡ learned_at b (reads b j).forward (reads b j).other at (row_at b (reads b j).forward at) c
first_is b j at c job lt = first_learned b j at (needed b j at) c lt ∙ ap (λ (o : Option Samples). learned_at b (reads b j).forward (reads b j).other at o c) (first_row b j at job lt)

other_is : (b : Batch) (j k : ℕ) (c : DecodeCache) → j < jobs_of (headers b) → k < others b j
    → learned_of b j (firsts b j + k) (needed b j (firsts b j + k)) c ≡ learned_at b (reads b j).other (reads b j).forward k (row_at b (reads b j).other k) c
other_is b j k c job lt = other_learned b j k (needed b j (firsts b j + k)) c ∙ ap (λ (o : Option Samples). learned_at b (reads b j).other (reads b j).forward k o c) (other_row b j k job lt)

-- what the code learns
pub first_part : (b : Batch) (j at p from n : ℕ) (r : Reads) (x : SharedRow) (c d : DecodeCache) → p ≡ picture_of_job (headers b) j → r ≡ read_by (headers b) p → jobs_at (headers b) r.forward ≡ range_with_len from n → at < n
    → d ≡ learned_at b r.forward r.other at x.row c → d ≡ learned_of b j at x c
first_part b j at p from n r x c d ep er en lt is =
    let all : r ≡ reads b j = er ∙ ap (read_by (headers b)) ep in
    let count : firsts b j ≡ n = ap (λ (z : Reads). length (jobs_at (headers b) z.forward)) (sym all) ∙ ap (λ (l : List ℕ). length l) en ∙ length-range_with_len from n in
    is ∙ ap (λ (z : Reads). learned_at b z.forward z.other at x.row c) all ∙ sym (first_learned b j at x c (omega (arith, count, lt)))

pub other_part : (b : Batch) (j at p from n : ℕ) (r : Reads) (x : SharedRow) (c d : DecodeCache) → p ≡ picture_of_job (headers b) j → r ≡ read_by (headers b) p → jobs_at (headers b) r.forward ≡ range_with_len from n → n ≤ at
    → d ≡ learned_at b r.other r.forward (at - n) x.row c → d ≡ learned_of b j at x c
other_part b j at p from n r x c d ep er en le is =
    let all : r ≡ reads b j = er ∙ ap (read_by (headers b)) ep in
    let count : firsts b j ≡ n = ap (λ (z : Reads). length (jobs_at (headers b) z.forward)) (sym all) ∙ ap (λ (l : List ℕ). length l) en ∙ length-range_with_len from n in
    let place : firsts b j + (at - n) ≡ at = omega (arith, count, le) in
    is
    ∙ ap (λ (z : Reads). learned_at b z.other z.forward (at - n) x.row c) all
    ∙ sym (other_learned b j (at - n) x c)
    ∙ ap (λ (m : ℕ). learned_of b j m x c) place

-- where a need stands
pub first_place : (b : Batch) (at from n : ℕ) (r : Reads) → jobs_at (headers b) r.forward ≡ range_with_len from n → at < n → at < length (jobs_at (headers b) r.forward)
first_place b at from n r en lt = omega (arith, ap (λ (l : List ℕ). length l) en, length-range_with_len from n, lt)

pub other_place : (b : Batch) (j at p from n : ℕ) (r : Reads) → p ≡ picture_of_job (headers b) j → r ≡ read_by (headers b) p → jobs_at (headers b) r.forward ≡ range_with_len from n → n ≤ at → at < length (needs_of (headers b) j)
    → at - n < length (jobs_at (headers b) r.other)
other_place b j at p from n r ep er en le lt =
    let all : r ≡ reads b j = er ∙ ap (read_by (headers b)) ep in
    let count : firsts b j ≡ n = ap (λ (z : Reads). length (jobs_at (headers b) z.forward)) (sym all) ∙ ap (λ (l : List ℕ). length l) en ∙ length-range_with_len from n in
    omega (arith, count, le, lt, needs_number b j, ap (λ (z : Reads). length (jobs_at (headers b) z.other)) all)

-- learning a shared part that is the job's keeps what fits
pub part_fits : (b : Batch) (j at : ℕ) (c : DecodeCache) → IsBatch b → j < jobs_of (headers b) → at < length (needs_of (headers b) j) → FitsCache b c → FitsCache b (learned_of b j at (needed b j at) c)
part_fits b j at c h job lt fits = elim (cases_lt at (firsts b j)) [
  | inl small ↦ subst (FitsCache b) (sym (first_is b j at c job small)) (at_fits b (reads b j).forward (reads b j).other at c h (forward_there b j job) small fits)
  | inr large ↦
      let k = at - firsts b j in
      let e : firsts b j + k ≡ at = omega (arith, large) in
      let below : k < others b j = omega (arith, large, lt, needs_number b j) in
      subst (λ (n : ℕ). FitsCache b (learned_of b j n (needed b j n) c)) e
      (subst (FitsCache b) (sym (other_is b j k c job below)) (at_fits b (reads b j).other (reads b j).forward k c h (other_there b j job) below fits))
]

pub given_fits : (b : Batch) (j at : ℕ) (x : SharedRow) (c d : DecodeCache) → IsBatch b → j < jobs_of (headers b) → at < length (needs_of (headers b) j) → x ≡ shared_of b (get_or (needs_of (headers b) j) at 0) → FitsCache b c
    → d ≡ learned_of b j at x c → FitsCache b d
given_fits b j at x c d h job lt is fits e = subst (FitsCache b) (sym (e ∙ ap (λ (y : SharedRow). learned_of b j at y c) is)) (part_fits b j at c h job lt fits)

-- ---- the needs learned

after : Batch → ℕ → ℕ → DecodeCache → DecodeCache
after b j n c = cache_after (learned_of b j) (shared_of b) (needs_of (headers b) j) n c

after_none : (b : Batch) (j : ℕ) (c : DecodeCache) → after b j 0 c ≡ c
unfolding after cache_after
after_none b j c = refl

after_more : (b : Batch) (j n : ℕ) (c : DecodeCache) → after b j (suc n) c ≡ learned_of b j n (needed b j n) (after b j n c)
unfolding after cache_after
after_more b j n c = refl

after_fits : (b : Batch) (j n : ℕ) (c : DecodeCache) → IsBatch b → j < jobs_of (headers b) → n ≤ length (needs_of (headers b) j) → FitsCache b c → FitsCache b (after b j n c)
after_fits b j zero c h job le fits = subst (FitsCache b) (sym (after_none b j c)) fits
after_fits b j (suc n) c h job le fits =
    subst (FitsCache b) (sym (after_more b j n c)) (part_fits b j n (after b j n c) h job (omega (arith, le)) (after_fits b j n c h job (omega (arith, le)) fits))

-- behind the needs of the first frame, its rows are learned
first_some : (b : Batch) (j n : ℕ) (c : DecodeCache) → j < jobs_of (headers b) → n ≤ firsts b j → SomeAt (after b j n c) (reads b j).forward n
first_some b j zero c job le = none_at (after b j 0 c) (reads b j).forward
first_some b j (suc n) c job le =
    let d = after b j n c in
    let next : n + 1 ≡ suc n = omega arith in
    subst (λ (x : DecodeCache). SomeAt x (reads b j).forward (suc n)) (sym (after_more b j n c ∙ first_is b j n d job (omega (arith, le))))
    (subst (SomeAt (learned_at b (reads b j).forward (reads b j).other n (row_at b (reads b j).forward n) d) (reads b j).forward) next
    (at_more b (reads b j).forward (reads b j).other n (row_at b (reads b j).forward n) d (omega (arith, le)) (first_some b j n c job (omega (arith, le)))))

-- and behind those of the other one, its rows too
pub record HasBoth (b : Batch) (j n : ℕ) (c : DecodeCache) : Type 0 where
  pub first : SomeAt c (reads b j).forward (firsts b j)
  pub other : SomeAt c (reads b j).other n

both_some : (b : Batch) (j n : ℕ) (c : DecodeCache) → j < jobs_of (headers b) → n ≤ others b j → HasBoth b j n (after b j (firsts b j + n) c)
both_some b j zero c job le =
    let e : firsts b j ≡ firsts b j + 0 = omega arith in
    subst (λ (m : ℕ). HasBoth b j 0 (after b j m c)) e (record { first = first_some b j (firsts b j) c job (omega arith); other = none_at (after b j (firsts b j) c) (reads b j).other })
both_some b j (suc n) c job le =
    let at = firsts b j + n in
    let d = after b j at c in
    let before = both_some b j n c job (omega (arith, le)) in
    let small : n < others b j = omega (arith, le) in
    let row = row_at b (reads b j).other n in
    let now = learned_at b (reads b j).other (reads b j).forward n row d in
    let next : n + 1 ≡ suc n = omega arith in
    let e : suc at ≡ firsts b j + suc n = omega arith in
    subst (λ (m : ℕ). HasBoth b j (suc n) (after b j m c)) e
    (subst (HasBoth b j (suc n)) (sym (after_more b j at c ∙ other_is b j n d job small))
    (record {
      first = all_at b (reads b j).other (reads b j).forward n row d small before.first;
      other = subst (SomeAt now (reads b j).other) next (at_more b (reads b j).other (reads b j).forward n row d small before.other);
    }))

pub held_fits : (b : Batch) (c : DecodeCache) (q : ℕ) → FitsCache b c → FitsHeld b (held_of c q)
unfolding held_of
held_fits b c q fits = cond_both (is_of c.one.picture q) c.one c.two (FitsHeld b) (λ e. fits.one) (λ e. fits.two)

pub held_rows : (b : Batch) (c : DecodeCache) (q : ℕ) → FitsCache b c → is_of (held_of c q).picture q ≡ true → HoldsRows b (held_of c q) q
held_rows b c q fits is = (held_fits b c q fits).rows q (some_is (held_of c q).picture q is)

has_frame : (b : Batch) (c : DecodeCache) (x : Option FramePlace) → FitsCache b c → SomeAt c x (length (jobs_at (headers b) x)) → HasFrame b c x
unfolding jobs_at
has_frame b c None fits some = tt
has_frame b c (Some Older) fits some = tt
has_frame b c (Some Newer) fits some = tt
has_frame b c (Some Waiting) fits some = tt
has_frame b c (Some (Behind q)) fits some = λ lt.
    let hs = headers b in
    let count = length-range_with_len (frame_from hs q) (frame_count hs q) in
    let has = some (omega (arith, count, lt)) in
    record { held = has.held; all = omega (arith, has.some, count, (held_rows b c q fits has.held).most) }

-- a cache has learned the needs of a job, whatever it held before
pub has_learned : (b : Batch) (j : ℕ) (c d : DecodeCache) → IsBatch b → j < jobs_of (headers b) → FitsCache b c → d ≡ cache_after (learned_of b j) (shared_of b) (needs_of (headers b) j) (length (needs_of (headers b) j)) c
    → HasLearned b j d
unfolding after
has_learned b j c d h job fits e =
    let all = needs_number b j in
    let both = subst (λ (m : ℕ). HasBoth b j (others b j) (after b j m c)) (sym all) (both_some b j (others b j) c job (omega arith)) in
    let now = after_fits b j (length (needs_of (headers b) j)) c h job (omega arith) fits in
    subst (HasLearned b j) (sym e) (record {
      fits = now;
      forward = has_frame b (after b j (length (needs_of (headers b) j)) c) (reads b j).forward now both.first;
      other = has_frame b (after b j (length (needs_of (headers b) j)) c) (reads b j).other now both.other;
    })

-- ---- are they rebuilt

abbrev test : Batch → ℕ → Bool
test b i = is_rebuilt (value_of b i)

none_rebuilt : (b : Batch) (q : ℕ) → frame_count (headers b) q ≡ 0 → list_all (test b) (jobs_behind (headers b) q) ≡ true
none_rebuilt b q e = ap (λ (n : ℕ). first_rebuilt b q n) e

whole_is : (b : Batch) (c : DecodeCache) (x : Option FramePlace) → FitsCache b c → HasFrame b c x → whole_at b c x ≡ list_all (test b) (jobs_at (headers b) x)
unfolding jobs_at
whole_is b c None fits has = refl
whole_is b c (Some Older) fits has = refl
whole_is b c (Some Newer) fits has = refl
whole_is b c (Some Waiting) fits has = refl
whole_is b c (Some (Behind q)) fits has = elim (cases_eq (frame_count (headers b) q) 0) [
  | inl e ↦ ap (λ (t : Bool). t || (held_of c q).whole) (eq-eqb (frame_count (headers b) q) 0 e) ∙ sym (none_rebuilt b q e)
  | inr some ↦
      let all = has (omega (arith, some)) in
      ap (λ (t : Bool). t || (held_of c q).whole) (ne_eqb (frame_count (headers b) q) 0 some)
      ∙ (held_rows b c q fits all.held).whole
      ∙ ap (first_rebuilt b q) all.all
]

needs_tests : (b : Batch) (j : ℕ) → needs_rebuilt b j ≡ (list_all (test b) (jobs_at (headers b) (reads b j).forward) && list_all (test b) (jobs_at (headers b) (reads b j).other))
needs_tests b j = ap (list_all (test b)) (needs_are b j) ∙ list_all-append (test b) (jobs_at (headers b) (reads b j).forward) (jobs_at (headers b) (reads b j).other)

-- the test of the cache is that of the definition
pub ready_is : (b : Batch) (j : ℕ) (c : DecodeCache) → HasLearned b j c → (whole_at b c (reads b j).forward && whole_at b c (reads b j).other) ≡ needs_rebuilt b j
ready_is b j c has = (λ i. whole_is b c (reads b j).forward has.fits has.forward i && whole_is b c (reads b j).other has.fits has.other i) ∙ sym (needs_tests b j)

tests_same : (f g : ℕ → Bool) (xs : List ℕ) → ((k : ℕ) → k < length xs → f (get_or xs k 0) ≡ g (get_or xs k 0)) → list_all f xs ≡ list_all g xs
tests_same f g [] each = refl
tests_same f g (x ∷ xs) each = (λ i. each 0 (omega arith) i && tests_same f g xs (λ k lt. each (suc k) (omega (arith, lt))) i)

pub needs_same : (b : Batch) (j : ℕ) → needs_rebuilt b j ≡ are_rebuilt (decoded b j) (needs_of (headers b) j)
needs_same b j =
    let needs = needs_of (headers b) j in
    tests_same (test b) (λ i. is_rebuilt (outcome_at (decoded b j) i)) needs (λ k lt. ap is_rebuilt (sym (value_stays b j (get_or needs k 0) (needs_below (headers b) j k 0 lt))))

-- ---- the frames of the needs

-- a picture reads the frame at a place
abbrev pub ReadsAt : Reads → FramePlace → Type 0
ReadsAt r x = (r.forward ≡ Some x) ⊎ (r.other ≡ Some x)

reads_rebuilt : (b : Batch) (j : ℕ) (x : FramePlace) → ReadsAt (reads b j) x → needs_rebuilt b j ≡ true → list_all (test b) (jobs_at (headers b) (Some x)) ≡ true
reads_rebuilt b j x at ready =
    let f = list_all (test b) (jobs_at (headers b) (reads b j).forward) in
    let o = list_all (test b) (jobs_at (headers b) (reads b j).other) in
    let parts = and_parts f o (sym (needs_tests b j) ∙ ready) in
    elim at [
      | inl e ↦ subst (λ (y : Option FramePlace). list_all (test b) (jobs_at (headers b) y) ≡ true) e parts.0
      | inr e ↦ subst (λ (y : Option FramePlace). list_all (test b) (jobs_at (headers b) y) ≡ true) e parts.1
    ]

reads_frame : (b : Batch) (j : ℕ) (c : DecodeCache) (x : FramePlace) → ReadsAt (reads b j) x → HasLearned b j c → HasFrame b c (Some x)
reads_frame b j c x (inl e) has = subst (HasFrame b c) e has.forward
reads_frame b j c x (inr e) has = subst (HasFrame b c) e has.other

comes : (b : Batch) (j : ℕ) (x : FramePlace) → ReadsAt (reads b j) x → ComesBefore (picture_of_job (headers b) j) x
unfolding MayBe
comes b j x (inl e) = subst (MayBe (ComesBefore (picture_of_job (headers b) j))) e (reads_before (headers b) (picture_of_job (headers b) j)).forward
comes b j x (inr e) = subst (MayBe (ComesBefore (picture_of_job (headers b) j))) e (reads_before (headers b) (picture_of_job (headers b) j)).other

-- the rows of a frame that comes before a job are those of the rows done before it
rows_before : (b : Batch) (j q : ℕ) → IsBatch b → q < picture_of_job (headers b) j → frame_behind b (all_rows b) q ≡ frame_behind b (rows_of (decoded b j)) q
rows_before b j q h lt =
    let hs = headers b in
    frame_same b (all_rows b) (rows_of (decoded b j)) q h
    (λ i le below.
    let small : i < j = omega (arith, below, first_upto hs (suc q) (picture_of_job hs j) (omega (arith, lt)), picture_upto hs (length hs) j) in
    ap row_of (sym (value_stays b j i small)))

pub rowless_is : (b : Batch) (c : DecodeCache) (q : ℕ) (at : Rows) → IsBatch b → q < length (headers b) → FitsCache b c → frame_count (headers b) q ≡ 0 → rowless b c q ≡ Some (frame_behind b at q)
rowless_is b c q at h lt fits none =
    let hs = headers b in
    rowless_blank q lt none ∙ ap (λ (f : Samples). Some f) (frame_same b no_rows at q h (λ i le below. absurd (omega (arith, le, below, none))))
  where
    zeros : (p : ℕ) → p < length (headers b) → frame_count (headers b) p ≡ 0 → c.blank ≡ Some (blank b.dims b.dims.mb_rows)
    zeros p small empty = fits.blank (one_row b p h small (omega (arith, empty, from_below (headers b) p, first_more (headers b) p)))

    waiting_there : (o : Option Samples) → b.waiting ≡ o → IsSome o → (header_at (headers b) 0).second ≡ true → b.waiting ≡ Some (frame_behind b no_rows 0)
    waiting_there None e is second = absurd (cc is)
    waiting_there (Some f) e is second = e ∙ ap (λ (g : Samples). Some g) (sym (waiting_behind b f second e))

    rowless_blank : (p : ℕ) → p < length (headers b) → frame_count (headers b) p ≡ 0 → rowless b c p ≡ Some (frame_behind b no_rows p)
    rowless_blank zero small empty = elim (cases_Bool (header_at (headers b) 0).second) [
      | inl e ↦ cond-true (header_at (headers b) 0).second b.waiting c.blank e ∙ waiting_there b.waiting refl (h.first e) e
      | inr e ↦ cond-false (header_at (headers b) 0).second b.waiting c.blank e ∙ zeros 0 small empty ∙ ap (λ (f : Samples). Some f) (sym (first_behind b 0 e))
    ]
    rowless_blank (suc p) small empty =
        let later = and_left (nat_eq (suc p) 0) (header_at (headers b) 0).second (ne_eqb (suc p) 0 (λ e. absurd (omega (arith, e)))) in
        cond-false (nat_eq (suc p) 0 && (header_at (headers b) 0).second) b.waiting c.blank later
        ∙ zeros (suc p) small empty
        ∙ ap (λ (f : Samples). Some f) (sym (blank_behind b (suc p) h (λ e. absurd (omega (arith, e)))))

-- a frame that the picture of a job reads is found as it is
pub found_is : (b : Batch) (j : ℕ) (c : DecodeCache) (x : FramePlace) → IsBatch b → HasLearned b j c → needs_rebuilt b j ≡ true → ReadsAt (reads b j) x → ComesBefore (length (headers b)) x
    → frame_found b c x ≡ frame_at b (rows_of (decoded b j)) x
unfolding frame_found frame_at ComesBefore jobs_at
found_is b j c Older h learned ready at lt = refl
found_is b j c Newer h learned ready at lt = refl
found_is b j c Waiting h learned ready at lt = refl
found_is b j c (Behind q) h learned ready at lt = elim (cases_eq (frame_count (headers b) q) 0) [
  | inl e ↦ cond-true (nat_eq (frame_count (headers b) q) 0) (rowless b c q) (held_of c q).frame (eq-eqb (frame_count (headers b) q) 0 e) ∙ rowless_is b c q (rows_of (decoded b j)) h lt learned.fits e
  | inr some ↦
      let all = reads_frame b j c (Behind q) at learned (omega (arith, some)) in
      let rows = held_rows b c q learned.fits all.held in
      let rebuilt : first_rebuilt b q (frame_count (headers b) q) ≡ true = reads_rebuilt b j (Behind q) at ready in
      let whole : (held_of c q).whole ≡ true = rows.whole ∙ ap (first_rebuilt b q) all.all ∙ rebuilt in
      let over = subst (λ (n : ℕ). IsOver b q n (held_of c q).frame) all.all (rows.frame whole) in
      cond-false (nat_eq (frame_count (headers b) q) 0) (rowless b c q) (held_of c q).frame (ne_eqb (frame_count (headers b) q) 0 some)
      ∙ over_is b q (held_of c q).frame h lt rebuilt over
      ∙ ap (λ (f : Samples). Some f) (rows_before b j q h (comes b j (Behind q) at))
]
