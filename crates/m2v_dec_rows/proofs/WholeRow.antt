-- What is told of a row by what was read of its slices.
use Rattle.std.proofs.Common.{◌≡◌, ℕ, ◌+◌, true, false, List, [], ap, sym, ◌∙◌}
use Rattle.std.specs.Prelude.{Bool, Option, Some, None, Ok, Err, nat_eq, if◌then◌else◌}
use Rattle.std.proofs.lemmas.Bool.{eq-eqb, eqb-true, false_from_ne_true}
use Rattle.m2v_plane.specs.Samples.{Samples}
use Rattle.m2v_model.specs.declared.setup.SliceSetup.{SliceSetup}
use Rattle.m2v_model.specs.Samples.{References, put_in_row}
use Rattle.m2v_dec_piece.specs.declared.answer.Fault.{Fault}
use Rattle.m2v_dec_rows.specs.Rows.{Slices, Begun, Read, first_of, below, row_read, missing, covering, row_fault, slices_painted}
use Rattle.m2v_dec_rows.specs.Reads.{TellsOwn, TellsRow, as_placed}

-- two readings of the same
read_or : Read → List Begun × ℕ
read_or (Ok x) = x
read_or (Err f) = ([], 0)

pub same_read : (xs ys : List Begun) (m n : ℕ) (r : Read) → r ≡ Ok (xs, m) → r ≡ Ok (ys, n) → (xs ≡ ys) × (m ≡ n)
unfolding read_or
same_read xs ys m n r e f =
    let same = ap read_or (sym e ∙ f) in
    (ap (λ (z : List Begun × ℕ). z.0) same, ap (λ (z : List Begun × ℕ). z.1) same)

covered_by : (s : SliceSetup) (row : ℕ) (later : Slices) (end : Option ℕ) (xs : List Begun) (covered : ℕ) (b : Bool) → nat_eq covered (first_of s (row + 1)) ≡ b
    → covering s row later end (Ok (xs, covered)) ≡ (if b then None else missing s covered later end)
covered_by s row later end xs covered b e = ap (λ (t : Bool). if t then None else missing s covered later end) e

pub told_whole : (s : SliceSetup) (refs : References) (row : ℕ) (us : Slices) (end : Option ℕ) (old now : Samples) (covered : ℕ)
    → TellsOwn s refs row us old (Ok covered) now → covered ≡ first_of s (row + 1) → TellsRow s refs row us end old None now
unfolding row_fault
told_whole s refs row us end old now covered t e = (
  ap (covering s row (below row us) end) t.1 ∙ covered_by s row (below row us) end t.0 covered true (eq-eqb covered (first_of s (row + 1)) e),
  λ xs f. t.2 ∙ ap (slices_painted put_in_row s refs old) (same_read t.0 xs covered (first_of s (row + 1)) (row_read s row us) t.1 f).0,
)

pub told_fault : (s : SliceSetup) (refs : References) (row : ℕ) (us : Slices) (end : Option ℕ) (old now : Samples) (f : Fault)
    → TellsOwn s refs row us old (Err f) now → TellsRow s refs row us end old (Some f) now
unfolding row_fault
told_fault s refs row us end old now f t = ap (covering s row (below row us) end) t

pub told_missing : (s : SliceSetup) (refs : References) (row : ℕ) (us : Slices) (end : Option ℕ) (old mid now : Samples) (covered : ℕ) (r : Option Fault)
    → TellsOwn s refs row us old (Ok covered) mid → (covered ≡ first_of s (row + 1) → ⊥) → as_placed r ≡ missing s covered (below row us) end
    → TellsRow s refs row us end old r now
unfolding row_fault
told_missing s refs row us end old mid now covered None t ne e = (
  ap (covering s row (below row us) end) t.1
      ∙ covered_by s row (below row us) end t.0 covered false (false_from_ne_true (nat_eq covered (first_of s (row + 1))) (λ q. ne (eqb-true covered (first_of s (row + 1)) q)))
      ∙ sym e,
  λ xs f. absurd (ne (same_read t.0 xs covered (first_of s (row + 1)) (row_read s row us) t.1 f).1),
)
told_missing s refs row us end old mid now covered (Some f) t ne e =
    ap (covering s row (below row us) end) t.1
    ∙ covered_by s row (below row us) end t.0 covered false (false_from_ne_true (nat_eq covered (first_of s (row + 1))) (λ q. ne (eqb-true covered (first_of s (row + 1)) q)))
    ∙ sym e
