-- The texts of a group's pictures: their parts end at edges of bytes.
use Rattle.std.proofs.Common.{◌≡◌, ℕ, zero, suc, ◌+◌, ◌-◌, ◌*◌, ◌/◌, ◌%◌, ◌<◌, ◌≤◌, Bool, false, List, [], ◌++◌, length, replicate, refl, sym, ap, subst, ◌∙◌, arith, append_assoc}
use Rattle.std.specs.Prelude.{nat_eq}
use Rattle.std.specs.List.{range_with_len, flat_map}
use Rattle.std.proofs.lemmas.Bool.{cond_both}
use Rattle.std.proofs.lemmas.List.{append-nil, replicate-append-replicate}
use Rattle.std.proofs.lemmas.List.Folds.{flat_map-map}
use Rattle.m2v_bits.specs.Bits.{packed, IsEdge}
use Rattle.m2v_bits.proofs.Units.{unit_edge, edge-append, packed-append}
use Rattle.m2v_bits.proofs.Texts.{texts_more}
use Rattle.m2v_order.specs.declared.jobs.PictureJob.{PictureJob}
use Rattle.m2v_rate.specs.Plans.{Entries}
use Rattle.m2v_slice.specs.Slices.{CodedSlice, SliceTask, slice_of}
use Rattle.m2v_slice.specs.Headers.{header_units, header_bits, begins_group}
use Rattle.m2v_slice.proofs.TextLengths.{header_length}
use Rattle.m2v_slice.specs.Books.{Book, rows, job_at, picture_at, slice_at}
use Rattle.m2v_slice.specs.Conditions.{IsBook}
use Rattle.m2v_slice.proofs.Coded.{slice_is}
use Rattle.m2v_slice.proofs.Slices.{is_job}
use Rattle.m2v_law_shown.proofs.m2v_enc_stream.Zeros.{packed_zeros}
use Rattle.m2v_law_shown.specs.m2v_enc_stream.Streams.{zeros_of, delay_at, picture_text}
use Rattle.m2v_encode.specs.Groups.{all_coded, slices_text}
use Rattle.m2v_encode.proofs.Pieces.{slices_by}

-- ---- zero bytes

pub zero_bytes : (zeros : ℕ) → zeros % 8 ≡ 0 → packed (replicate zeros false) ≡ replicate (zeros / 8) 0
zero_bytes zeros whole =
    let e : zeros ≡ 8 * (zeros / 8) = omega (arith, whole) in
    ap (λ (n : ℕ). packed (replicate n false)) e ∙ packed_zeros (zeros / 8)

-- so many zero bytes: those so far, the next ones, and those behind them
pub zeros_split : (all left n : ℕ) → left ≤ all → n ≤ left → replicate {A = ℕ} all 0 ≡ replicate (all - left) 0 ++ (replicate n 0 ++ replicate (left - n) 0)
zeros_split all left n le less =
    let e : all ≡ all - left + left = omega (arith, le) in
    let f : left ≡ n + (left - n) = omega (arith, less) in
    ap (λ (k : ℕ). replicate {A = ℕ} k 0) e
    ∙ sym (replicate-append-replicate (all - left) left 0)
    ∙ ap (λ (xs : List ℕ). replicate (all - left) 0 ++ xs) (ap (λ (k : ℕ). replicate {A = ℕ} k 0) f ∙ sym (replicate-append-replicate n (left - n) 0))

-- ---- slices

task_edge : (t : SliceTask) → IsEdge (slice_of t).text
unfolding slice_of
task_edge t = unit_edge (t.row + 1) _

pub slice_edge : (b : Book) (p r : ℕ) → p < length b.pictures → r < rows b → IsEdge (slice_at (all_coded b) p r).text
slice_edge b p r lt small = subst (λ (x : CodedSlice). IsEdge x.text) (sym (slice_is b (length b.pictures) p r lt small)) (task_edge _)

pub slices_edge : (b : Book) (p n : ℕ) → p < length b.pictures → n ≤ rows b → IsEdge (slices_text b p n)
slices_edge b p zero lt le = refl
slices_edge b p (suc n) lt le =
    let e : n + 1 ≡ suc n = omega arith in
    subst (λ (m : ℕ). IsEdge (slices_text b p m)) e
    (subst IsEdge (sym (texts_more (λ r. (slice_at (all_coded b) p r).text) n))
    (edge-append (slices_text b p n) (slice_at (all_coded b) p n).text (slices_edge b p n lt (omega (arith, le))) (slice_edge b p n lt (omega (arith, le)))))

-- one slice more
pub slices_more : (b : Book) (p n : ℕ) → p < length b.pictures → n < rows b
    → packed (slices_text b p (n + 1)) ≡ packed (slices_text b p n) ++ packed (slice_at (all_coded b) p n).text
slices_more b p n lt small =
    ap packed (texts_more (λ r. (slice_at (all_coded b) p r).text) n)
    ∙ packed-append (slices_text b p n) (slice_at (all_coded b) p n).text (slices_edge b p n lt (omega (arith, small)))

-- some slices, the next one, and those behind it
pub slices_split : (b : Book) (p n k : ℕ) → p < length b.pictures → n + 1 + k ≡ rows b
    → (rest : List ℕ) × (packed (slices_text b p (rows b)) ≡ packed (slices_text b p n) ++ (packed (slice_at (all_coded b) p n).text ++ rest))
slices_split b p n zero lt is =
    let e : rows b ≡ n + 1 = omega (arith, is) in (
      [],
      ap (λ (m : ℕ). packed (slices_text b p m)) e ∙ slices_more b p n lt (omega (arith, is))
          ∙ ap (λ (xs : List ℕ). packed (slices_text b p n) ++ xs) (sym (append-nil (packed (slice_at (all_coded b) p n).text))),
    )
slices_split b p n (suc k) lt is =
    let next = slices_split b p (n + 1) k lt (omega (arith, is)) in
    let here = packed (slices_text b p n) in
    let one = packed (slice_at (all_coded b) p n).text in
    let two = packed (slice_at (all_coded b) p (n + 1)).text in (
      two ++ next.0,
      next.1 ∙ ap (λ (xs : List ℕ). xs ++ (two ++ next.0)) (slices_more b p n lt (omega (arith, is))) ∙ append_assoc here one (two ++ next.0),
    )

-- the text of all slices
pub slices_all : (b : Book) (p : ℕ) → p < length b.pictures
    → flat_map (λ (x : CodedSlice). x.text) (picture_at (all_coded b) p).slices ≡ slices_text b p (rows b)
slices_all b p lt =
    ap (flat_map (λ (x : CodedSlice). x.text)) (slices_by b p lt)
    ∙ flat_map-map (λ (x : CodedSlice). x.text) (λ r. slice_at (all_coded b) p r) (range_with_len 0 (rows b))

-- ---- pictures

pub header_whole : (job : PictureJob) → header_bits job % 8 ≡ 0
unfolding header_bits
header_whole job = cond_both (begins_group job) _ _ (λ (n : ℕ). n % 8 ≡ 0) (λ e. refl)
    (λ e. cond_both (nat_eq job.kind 1) _ _ (λ (n : ℕ). n % 8 ≡ 0) (λ f. refl) (λ f. refl))

pub header_edge : (b : Book) → IsBook b → (p delay : ℕ) → p < length b.pictures → IsEdge (header_units b.settings (job_at b p) delay)
header_edge b h p delay lt =
    ap (λ (n : ℕ). n % 8) (header_length b.settings (job_at b p) delay (is_job b h p lt)) ∙ header_whole (job_at b p)

-- the bytes of a picture: those of its headers, of its slices, and the zero bytes
pub picture_bytes : (b : Book) → IsBook b → (l : Entries) (ends : Bool) (at p delay zeros : ℕ) → p < length b.pictures
    → delay ≡ delay_at l (job_at b p) p at → zeros ≡ zeros_of l ends p → zeros % 8 ≡ 0
    → packed (picture_text b (all_coded b) l ends at p)
    ≡ packed (header_units b.settings (job_at b p) delay) ++ (packed (slices_text b p (rows b)) ++ replicate (zeros / 8) 0)
unfolding picture_text
picture_bytes b h l ends at p delay zeros lt is none whole =
    let head = header_units b.settings (job_at b p) delay in
    let slices = slices_text b p (rows b) in
    let tail = replicate zeros false in
    ap (λ (n : ℕ). packed (header_units b.settings (job_at b p) n ++ (flat_map (λ (x : CodedSlice). x.text) (picture_at (all_coded b) p).slices ++ replicate (zeros_of l ends p) false))) (sym is)
    ∙ ap (λ (t : List Bool). packed (head ++ (t ++ replicate (zeros_of l ends p) false))) (slices_all b p lt)
    ∙ ap (λ (n : ℕ). packed (head ++ (slices ++ replicate n false))) (sym none)
    ∙ packed-append head (slices ++ tail) (header_edge b h p delay lt)
    ∙ ap (λ (xs : List ℕ). packed head ++ xs) (packed-append slices tail (slices_edge b p (rows b) lt (omega arith)))
    ∙ ap (λ (xs : List ℕ). packed head ++ (packed slices ++ xs)) (zero_bytes zeros whole)
