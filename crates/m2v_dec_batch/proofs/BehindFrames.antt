-- The frames behind a batch, by its rows.
use Rattle.std.proofs.Common.{◌≡◌, ℕ, zero, suc, ◌+◌, ◌-◌, ◌*◌, ◌<◌, ◌≤◌, true, length, Option, refl, sym, ap, subst, ◌∙◌, arith, inr}
use Rattle.std.specs.Prelude.{IfSome}
use Rattle.m2v_plane.specs.declared.dims.Dims.{Dims}
use Rattle.m2v_plane.specs.Sizes.{part_of}
use Rattle.m2v_plane.specs.Samples.{Samples}
use Rattle.m2v_pred.specs.Motion.{own_lines}
use Rattle.m2v_dec_batch.specs.declared.picture.Header.{Header}
use Rattle.m2v_dec_batch.specs.declared.picture.FramePlace.{FramePlace}
use Rattle.m2v_dec_batch.specs.declared.pieces.DecodePiece.{DecodePiece}
use Rattle.m2v_dec_batch.specs.Jobs.{Headers, header_at, first_job, newer_before, older_before, jobs_of}
use Rattle.m2v_dec_batch.specs.Batches.{Batch, headers, Rows, with_own, rows_set, all_set, frame_behind, IsBatch}
use Rattle.m2v_dec_batch.specs.Below.{ComesBefore, first_more, first_upto, newer_comes, older_comes}
use Rattle.m2v_dec_batch.specs.Painted.{all_rows}
use Rattle.m2v_dec_batch.specs.Pieces.{row_of}
use Rattle.m2v_dec_batch.specs.Values.{value_of}
use Rattle.m2v_dec_batch.proofs.Sizes.{jobs_are}
use Rattle.m2v_dec_batch.proofs.Decoded.{piece_size}
use Rattle.m2v_dec_batch.proofs.FrameSizes.{row_fits}
use Rattle.m2v_dec_batch.proofs.Blank.{behind_second}

-- ---- the rows of a picture

-- a row of a picture has a job
pub row_job : (b : Batch) (p r : ℕ) → IsBatch b → p < length (headers b) → r < (header_at (headers b) p).rows → first_job (headers b) p + r < jobs_of (headers b)
row_job b p r h lt small =
    let hs = headers b in
    omega (arith, small, jobs_are b h, first_more hs p, first_upto hs (suc p) (length hs) (omega (arith, lt)))

-- and lies in a frame
pub row_room : (b : Batch) (p r : ℕ) (x : Header) (d : Dims) → IsBatch b → x ≡ header_at (headers b) p → d ≡ b.dims → r < x.rows → 16 * r + 16 ≤ part_of (own_lines x.structure) (16 * d.mb_rows)
row_room b p r x d h ex ed lt =
    let small = subst (λ (y : Header). r < y.rows) ex lt in
    subst (λ (y : Header). 16 * r + 16 ≤ part_of (own_lines y.structure) (16 * d.mb_rows)) (sym ex)
    (subst (λ (e : Dims). 16 * r + 16 ≤ part_of (own_lines (header_at (headers b) p).structure) (16 * e.mb_rows)) (sym ed) (row_fits b p r h small))

-- its samples have the batch's size
pub row_size : (b done : Batch) (j : ℕ) (piece : DecodePiece) (d : Dims) → IsBatch b → done ≡ b → d ≡ b.dims → piece ≡ value_of done j → IfSome (row_of piece) (λ xs. xs.dims ≡ d)
row_size b done j piece d h eb ed e = piece_size b j piece d h ed (inr (e ∙ ap (λ (x : Batch). value_of x j) eb))

-- a row that was made is one of all rows
pub row_made : (b done : Batch) (j i : ℕ) (piece : DecodePiece) → done ≡ b → j ≡ i → piece ≡ value_of done j → row_of piece ≡ all_rows b i
row_made b done j i piece eb ej e = ap row_of e ∙ ap (λ (x : Batch). all_rows x j) eb ∙ ap (all_rows b) ej

pub none_yet : (h : Header) (at : Rows) (from : ℕ) (frame : Samples) → frame ≡ rows_set h at from 0 frame
unfolding rows_set
none_yet h at from frame = refl

-- one row more
pub row_next : (h : Header) (at : Rows) (from r : ℕ) (start frame : Samples) (row : Option Samples) → frame ≡ rows_set h at from r start → row ≡ at (from + r)
    → with_own h r row frame ≡ rows_set h at from (r + 1) start
unfolding rows_set
row_next h at from r start frame row e is =
    let next : suc r ≡ r + 1 = omega arith in
    ap (with_own h r row) e
    ∙ ap (λ (o : Option Samples). with_own h r o (rows_set h at from r start)) is
    ∙ ap (λ (n : ℕ). rows_set h at from n start) next

-- ---- the frame behind a picture

-- a second field
pub second_all : (b : Batch) (at : Rows) (p : ℕ) → 0 < p → (header_at (headers b) p).second ≡ true → all_set b at p (frame_behind b at (p - 1)) ≡ frame_behind b at p
second_all b at zero some e = absurd (omega arith)
second_all b at (suc p) some e =
    let before : suc p - 1 ≡ p = omega arith in
    ap (λ (q : ℕ). all_set b at (suc p) (frame_behind b at q)) before ∙ behind_second b at p e

-- ---- where the last anchors stand

pub older_place : (hs : Headers) (n : ℕ) (x : FramePlace) → n ≡ length hs → x ≡ older_before hs n → ComesBefore (length hs) x
older_place hs n x en ex = subst (λ (m : ℕ). ComesBefore m x) en (subst (ComesBefore n) (sym ex) (older_comes hs n))

pub newer_place : (hs : Headers) (n : ℕ) (x : FramePlace) → n ≡ length hs → x ≡ newer_before hs n → ComesBefore (length hs) x
newer_place hs n x en ex = subst (λ (m : ℕ). ComesBefore m x) en (subst (ComesBefore n) (sym ex) (newer_comes hs n))
