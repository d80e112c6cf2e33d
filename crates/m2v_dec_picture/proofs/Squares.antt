-- The squares of a macroblock, put one after another.
use Rattle.std.proofs.Common.{◌≡◌, ℕ, ◌+◌, ◌*◌, ◌<◌, List, get_or, take, drop, ap, ◌∙◌, arith}
use Rattle.std.proofs.lemmas.List.{get_or-take}
use Rattle.m2v_plane.specs.declared.planes.Plane.{Plane}
use Rattle.m2v_plane.specs.declared.planes.Plane.TheVariants.{Y, Cb, Cr}
use Rattle.m2v_plane.specs.declared.planes.Lines.{Lines}
use Rattle.m2v_plane.specs.Sizes.{columns_of}
use Rattle.m2v_plane.specs.Samples.{Samples, square_of, with_square}
use Rattle.m2v_plane.proofs.Places.{part_at}
use Rattle.m2v_plane.proofs.Squares.{square_same}
use Rattle.m2v_pred.specs.Predicted.{block_by}
use Rattle.m2v_pred.proofs.Blocks.{block-at}
use Rattle.m2v_model.specs.Samples.{with_squares}

-- the three squares of a block are the macroblock
pub squares_are : (rows : ℕ) (which : Lines) (row column : ℕ) (s : Samples) (f : Plane → ℕ → ℕ → ℕ) (xs : List ℕ) → xs ≡ block_by f
    → with_square rows (with_square rows (with_square rows s Y which row column (square_of 16 (take 256 xs))) Cb which row column (square_of 8 (take 64 (drop 256 xs))))
    Cr which row column (square_of 8 (take 64 (drop 320 xs)))
    ≡ with_squares rows which row column f s
squares_are rows which row column s f xs is =
    let luma = λ (r c : ℕ) (lt : r < 16) (small : c < 16).
    get_or-take 256 xs (16 * r + c) 0 (omega arith) ∙ ap (λ zs. get_or zs (16 * r + c) 0) is ∙ block-at f Y r c lt small in
    let blue = λ (r c : ℕ) (lt : r < 8) (small : c < 8).
    part_at xs 256 64 (8 * r + c) (omega arith) ∙ ap (λ zs. get_or zs (256 + (8 * r + c)) 0) is ∙ block-at f Cb r c lt small in
    let red = λ (r c : ℕ) (lt : r < 8) (small : c < 8).
    part_at xs 320 64 (8 * r + c) (omega arith) ∙ ap (λ zs. get_or zs (320 + (8 * r + c)) 0) is ∙ block-at f Cr r c lt small in
    λ i. record {
      dims = s.dims;
      luma = square_same (16 * rows) (columns_of s.dims Y) 16 which row column (square_of 16 (take 256 xs)) (f Y) s.luma (omega arith) luma i;
      cb = square_same (8 * rows) (columns_of s.dims Cb) 8 which row column (square_of 8 (take 64 (drop 256 xs))) (f Cb) s.cb (omega arith) blue i;
      cr = square_same (8 * rows) (columns_of s.dims Cr) 8 which row column (square_of 8 (take 64 (drop 320 xs))) (f Cr) s.cr (omega arith) red i;
    }
