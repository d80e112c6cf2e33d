-- The row that a slice is begun with doesn't matter.
use Rattle.std.proofs.Common.{◌≡◌, ℕ, zero, suc, ◌+◌, ◌*◌, ◌/◌, ◌%◌, ◌<◌, Bool, true, cond, ◌&&◌, List, [], ◌∷◌, ◌++◌, length, get_or, refl, ap, sym, ◌∙◌, subst, arith, inl, inr, mul_comm}
use Rattle.std.specs.Prelude.{nat_eq, if◌then◌else◌}
use Rattle.std.proofs.lemmas.Bool.{cases_lt, and_from, eq-eqb}
use Rattle.std.proofs.Math.Nat.{div-lt_iff_lt-mul}
use Rattle.m2v_plane.specs.Samples.{Samples}
use Rattle.m2v_plane.specs.declared.dims.Dims.{Dims}
use Rattle.m2v_plane.proofs.Places.{plane_is}
use Rattle.m2v_plane.proofs.RawVideo.{length-plane_by, plane_at}
use Rattle.m2v_plane.specs.declared.planes.Plane.TheVariants.{Y, Cb, Cr}
use Rattle.m2v_macroblock.specs.m2v_macro.declared.values.SliceState.{SliceState}
use Rattle.m2v_macroblock.specs.Texts.{macroblock_text}
use Rattle.m2v_macroblock.specs.m2v_recon.Macro.{plane_with}
use Rattle.m2v_choose.specs.Decisions.{Decision}
use Rattle.m2v_choose.specs.Choice.{bits_taken, candidate_at, choice_of}
use Rattle.m2v_slice.specs.Slices.{SliceTask, Begun, room, quantiser_at, decision, with_candidate, begun}
use Rattle.m2v_slice.specs.Laws.{IsRow}

-- two planes of a row of macroblocks that agree in the first n columns
record Agree (side columns n : ℕ) (xs ys : List ℕ) : Type 0 where
  len : length xs ≡ side * 1 * (side * columns)
  same_len : length ys ≡ side * 1 * (side * columns)
  same : (r c : ℕ) → r < side * 1 → c < side * columns → c / side < n → get_or xs (r * (side * columns) + c) 0 ≡ get_or ys (r * (side * columns) + c) 0

none_agree : (side columns : ℕ) (xs ys : List ℕ) → length xs ≡ side * 1 * (side * columns) → length ys ≡ side * 1 * (side * columns) → Agree side columns 0 xs ys
none_agree side columns xs ys a b = record { len = a; same_len = b; same = λ r c lr lc below. absurd (omega arith) }

first_line : (side r : ℕ) → 0 < side → r < side * 1 → r / side < 1
first_line side r some lt = (div-lt_iff_lt-mul some).1 (omega (arith, lt))

-- with the macroblock of the next column in both
one_more : (side columns n : ℕ) (new : ℕ → ℕ → ℕ) (xs ys : List ℕ) → 0 < side → Agree side columns n xs ys
    → Agree side columns (suc n) (plane_with (side * 1) (side * columns) side 0 n new xs) (plane_with (side * 1) (side * columns) side 0 n new ys)
unfolding plane_with
one_more side columns n new xs ys some h =
    let at = λ (old : List ℕ) (line c : ℕ). cond (nat_eq (line / side) 0 && nat_eq (c / side) n) (new (line % side) (c % side)) (get_or old (line * (side * columns) + c) 0) in
    record {
      len = length-plane_by (side * 1) (side * columns) (at xs);
      same_len = length-plane_by (side * 1) (side * columns) (at ys);
      same = λ r c lr lc below.
          plane_at (side * 1) (side * columns) (at xs) r c lr lc ∙ elim (cases_lt (c / side) n) [
            | inl before ↦ ap (λ (v : ℕ). cond (nat_eq (r / side) 0 && nat_eq (c / side) n) (new (r % side) (c % side)) v) (h.same r c lr lc before)
            | inr here ↦
                let top : r / side ≡ 0 = omega (arith, first_line side r some lr) in
                let col : c / side ≡ n = omega (arith, here, below) in
                let on : (nat_eq (r / side) 0 && nat_eq (c / side) n) ≡ true = and_from (nat_eq (r / side) 0) (nat_eq (c / side) n) (eq-eqb (r / side) 0 top) (eq-eqb (c / side) n col) in
                ap (λ (b : Bool). cond b (new (r % side) (c % side)) (get_or xs (r * (side * columns) + c) 0)) on
                ∙ sym (ap (λ (b : Bool). cond b (new (r % side) (c % side)) (get_or ys (r * (side * columns) + c) 0)) on)
          ] ∙ sym (plane_at (side * 1) (side * columns) (at ys) r c lr lc);
    }

all_agree : (side columns : ℕ) (xs ys : List ℕ) → 0 < side → Agree side columns columns xs ys → xs ≡ ys
all_agree side columns xs ys some h =
    let at = λ (r c : ℕ). get_or ys (r * (side * columns) + c) 0 in
    plane_is xs (side * 1) (side * columns) at h.len (λ r c lr lc. h.same r c lr lc ((div-lt_iff_lt-mul some).1 (omega (arith, lc, mul_comm side columns))))
    ∙ sym (plane_is ys (side * 1) (side * columns) at h.same_len (λ r c lr lc. refl))

-- the macroblocks of a slice, begun with two rows
record AgreeSo (t : SliceTask) (n : ℕ) (a b : Begun) : Type 0 where
  dims : a.row.dims ≡ t.source.dims
  same_dims : b.row.dims ≡ t.source.dims
  state : a.state ≡ b.state
  text : a.text ≡ b.text
  work : a.work ≡ b.work
  macroblocks : a.macroblocks ≡ b.macroblocks
  luma : Agree 16 t.source.dims.mb_width n a.row.luma b.row.luma
  cb : Agree 8 t.source.dims.mb_width n a.row.cb b.row.cb
  cr : Agree 8 t.source.dims.mb_width n a.row.cr b.row.cr

module _ (t : SliceTask) (n : ℕ) (a b : Begun) (h : AgreeSo t n a b) where
  same_decision : decision t a n ≡ decision t b n
  unfolding decision room quantiser_at
  same_decision =
      let f = λ (st : SliceState) (text : List Bool) (work : ℕ). decision t (record { state = st; text = text; row = a.row; work = work; macroblocks = a.macroblocks }) n in
      λ i. f (h.state i) (h.text i) (h.work i)

  step_agrees : AgreeSo t (suc n) (with_candidate (decision t a n) a (choice_of (decision t a n))) (with_candidate (decision t a n) b (choice_of (decision t a n)))
  unfolding with_candidate decision
  step_agrees =
      let d = decision t a n in
      let x = choice_of d in
      let w = t.source.dims.mb_width in
      record {
        dims = h.dims;
        same_dims = h.same_dims;
        state = refl;
        text = λ i. if x.skip then h.text i else h.text i ++ macroblock_text d.context (h.state i) x.macroblock;
        work = λ i. h.work i + d.limits.q * bits_taken d x;
        macroblocks = λ i. if x.skip then h.macroblocks i else h.macroblocks i ++ x.macroblock ∷ [];
        luma = wide 16 (omega arith) (candidate_at d x Y) a.row.luma b.row.luma h.luma;
        cb = wide 8 (omega arith) (candidate_at d x Cb) a.row.cb b.row.cb h.cb;
        cr = wide 8 (omega arith) (candidate_at d x Cr) a.row.cr b.row.cr h.cr;
      }
    where
      wide : (side : ℕ) → 0 < side → (new : ℕ → ℕ → ℕ) (xs ys : List ℕ) → Agree side t.source.dims.mb_width n xs ys
          → Agree side t.source.dims.mb_width (suc n) (plane_with (side * 1) (side * a.row.dims.mb_width) side 0 n new xs) (plane_with (side * 1) (side * b.row.dims.mb_width) side 0 n new ys)
      wide side some new xs ys k =
          subst (λ (m : ℕ). Agree side t.source.dims.mb_width (suc n) (plane_with (side * 1) (side * m) side 0 n new xs) (plane_with (side * 1) (side * b.row.dims.mb_width) side 0 n new ys)) (sym (ap (λ (d : Dims). d.mb_width) h.dims))
          (subst (λ (m : ℕ). Agree side t.source.dims.mb_width (suc n) (plane_with (side * 1) (side * t.source.dims.mb_width) side 0 n new xs) (plane_with (side * 1) (side * m) side 0 n new ys)) (sym (ap (λ (d : Dims). d.mb_width) h.same_dims))
          (one_more side t.source.dims.mb_width n new xs ys some k))

  agree_more : AgreeSo t (suc n) (with_candidate (decision t a n) a (choice_of (decision t a n))) (with_candidate (decision t b n) b (choice_of (decision t b n)))
  agree_more =
      subst (λ (d : Decision). AgreeSo t (suc n) (with_candidate (decision t a n) a (choice_of (decision t a n))) (with_candidate d b (choice_of d))) same_decision step_agrees

module _ (t : SliceTask) (a b : Samples) (first : IsRow t a) (second : IsRow t b) where
  agree : (n : ℕ) → AgreeSo t n (begun t a n) (begun t b n)
  unfolding begun
  agree zero = record {
    dims = first.dims;
    same_dims = second.dims;
    state = refl;
    text = refl;
    work = refl;
    macroblocks = refl;
    luma = none_agree 16 t.source.dims.mb_width a.luma b.luma (rw (← first.dims) first.rows.luma) (rw (← second.dims) second.rows.luma);
    cb = none_agree 8 t.source.dims.mb_width a.cb b.cb (rw (← first.dims) first.rows.cb) (rw (← second.dims) second.rows.cb);
    cr = none_agree 8 t.source.dims.mb_width a.cr b.cr (rw (← first.dims) first.rows.cr) (rw (← second.dims) second.rows.cr);
  }
  agree (suc n) = agree_more t n (begun t a n) (begun t b n) (agree n)

  -- state and text of any macroblock are the same
  pub same_state : (n : ℕ) → (begun t a n).state ≡ (begun t b n).state
  same_state n = (agree n).state

  pub same_text : (n : ℕ) → (begun t a n).text ≡ (begun t b n).text
  same_text n = (agree n).text

  pub same_begun : (n : ℕ) → n ≡ t.source.dims.mb_width → begun t a n ≡ begun t b n
  same_begun n e =
      let h = agree n in
      let w = t.source.dims.mb_width in
      let luma = all_agree 16 w (begun t a n).row.luma (begun t b n).row.luma (omega arith) (subst (λ (k : ℕ). Agree 16 w k (begun t a n).row.luma (begun t b n).row.luma) e h.luma) in
      let cb = all_agree 8 w (begun t a n).row.cb (begun t b n).row.cb (omega arith) (subst (λ (k : ℕ). Agree 8 w k (begun t a n).row.cb (begun t b n).row.cb) e h.cb) in
      let cr = all_agree 8 w (begun t a n).row.cr (begun t b n).row.cr (omega arith) (subst (λ (k : ℕ). Agree 8 w k (begun t a n).row.cr (begun t b n).row.cr) e h.cr) in
      let dims = h.dims ∙ sym h.same_dims in
      λ i. record { state = h.state i; text = h.text i; row = record { dims = dims i; luma = luma i; cb = cb i; cr = cr i }; work = h.work i; macroblocks = h.macroblocks i }
