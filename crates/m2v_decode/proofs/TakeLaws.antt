-- The rows of a picture set into the frame that is open.
use Rattle.std.proofs.Common.{◌≡◌, ℕ, suc, ◌+◌, ◌*◌, ◌/◌, ◌<◌, ◌≤◌, Bool, true, false, Option, Some, None, refl, sym, ap, subst, ◌∙◌, arith}
use Rattle.std.specs.Prelude.{nat_eq, IfSome, if◌then◌else◌}
use Rattle.m2v_plane.specs.declared.dims.Dims.{Dims}
use Rattle.m2v_plane.specs.declared.planes.Lines.{Lines}
use Rattle.m2v_plane.specs.Sizes.{part_of}
use Rattle.m2v_plane.specs.Samples.{Samples, with_row}
use Rattle.m2v_dec_rows.specs.m2v_pred.Motion.{own_lines, field_lines}
use Rattle.m2v_model.specs.Pictures.{on_frame}
use Rattle.m2v_dec_rows.specs.InFrames.{rows_set}
use Rattle.m2v_dec_rows.proofs.RowsSet.{set_dims}

pub set_none : (structure : ℕ) (row : ℕ → Samples) (c : Option Samples) → c ≡ on_frame (rows_set structure row 0) c
unfolding rows_set
set_none structure row (Some f) = refl
set_none structure row None = refl

set_more : (structure : ℕ) (row : ℕ → Samples) (n : ℕ) (f : Samples) → with_row (rows_set structure row n f) (own_lines structure) n (row n) ≡ rows_set structure row (n + 1) f
unfolding rows_set
set_more structure row n f = let next : suc n ≡ n + 1 = omega arith in ap (λ (k : ℕ). rows_set structure row k f) next

pub current_more : (structure : ℕ) (row : ℕ → Samples) (n : ℕ) (lines : Lines) (new : Samples) (mid c : Option Samples) → lines ≡ own_lines structure → new ≡ row n → mid ≡ on_frame (rows_set structure row n) c
    → on_frame (λ f. with_row f lines n new) mid ≡ on_frame (rows_set structure row (n + 1)) c
current_more structure row n lines new mid (Some f) own is before =
    ap (on_frame (λ g. with_row g lines n new)) before
    ∙ ap Some ((λ i. with_row (rows_set structure row n f) (own i) n (is i)) ∙ set_more structure row n f)
current_more structure row n lines new mid None own is before = ap (on_frame (λ g. with_row g lines n new)) before

-- a row stands in the frame
lines_there : (structure n rows : ℕ) (b : Bool) → nat_eq structure 3 ≡ b → n < (if b then rows else rows / 2) → 16 * n + 16 ≤ part_of (own_lines structure) (16 * rows)
lines_there structure n rows true e lt = rw e (omega (arith, lt))
lines_there structure n rows false e lt = rw e (field_there (nat_eq structure 2) refl)
  where
    field_there : (b : Bool) → nat_eq structure 2 ≡ b → 16 * n + 16 ≤ part_of (field_lines (nat_eq structure 2)) (16 * rows)
    field_there true f = rw f (omega (arith, lt))
    field_there false f = rw f (omega (arith, lt))

pub row_there : (structure n : ℕ) (lines : Lines) (row : ℕ → Samples) (d : Dims) (mid c : Option Samples) → lines ≡ own_lines structure → n < (if nat_eq structure 3 then d.mb_rows else d.mb_rows / 2) → IfSome c (λ f. f.dims ≡ d)
    → mid ≡ on_frame (rows_set structure row n) c → IfSome mid (λ f. 16 * n + 16 ≤ part_of lines (16 * f.dims.mb_rows))
row_there structure n lines row d mid (Some f) own lt size before =
    subst (λ (m : Option Samples). IfSome m (λ g. 16 * n + 16 ≤ part_of lines (16 * g.dims.mb_rows))) (sym before)
    (subst (λ (l : Lines). 16 * n + 16 ≤ part_of l (16 * (rows_set structure row n f).dims.mb_rows)) (sym own)
    (subst (λ (e : Dims). 16 * n + 16 ≤ part_of (own_lines structure) (16 * e.mb_rows)) (sym (set_dims structure row n f ∙ size))
    (lines_there structure n d.mb_rows (nat_eq structure 3) refl lt)))
row_there structure n lines row d mid None own lt size before = subst (λ (m : Option Samples). IfSome m (λ g. 16 * n + 16 ≤ part_of lines (16 * g.dims.mb_rows))) (sym before) tt

pub row_same : (structure n : ℕ) (row : ℕ → Samples) (new : Samples) (d : Dims) (mid c : Option Samples) → new ≡ row n → (row n).dims ≡ d → IfSome c (λ f. f.dims ≡ d)
    → mid ≡ on_frame (rows_set structure row n) c → IfSome mid (λ f. new.dims ≡ f.dims)
row_same structure n row new d mid (Some f) is at size before =
    subst (λ (m : Option Samples). IfSome m (λ g. new.dims ≡ g.dims)) (sym before) (ap (λ (s : Samples). s.dims) is ∙ at ∙ sym size ∙ sym (set_dims structure row n f))
row_same structure n row new d mid None is at size before = subst (λ (m : Option Samples). IfSome m (λ g. new.dims ≡ g.dims)) (sym before) tt
