-- The macroblocks of a row painted into a row and into a frame together.
use Rattle.std.proofs.Common.{◌⊎◌, inl, inr, ◌≡◌, ℕ, zero, suc, ◌+◌, ◌-◌, ◌*◌, ◌^◌, ◌<◌, ◌≤◌, Bool, true, false, List, [], ◌∷◌, ◌++◌, length, ap, sym, refl, ◌∙◌, subst, arith, append_assoc, ℤ, pos, ◌+ℤ◌}
use Rattle.std.specs.Prelude.{nat_abs, nat_eq, not, ◌||◌, ◌&&◌, int_le, Result, Ok, Err, if◌then◌else◌}
use Rattle.std.proofs.lemmas.Bool.{eqb-true, cases_Bool}
use Rattle.std.proofs.lemmas.Int.{ints}
use Rattle.m2v_bits.specs.Syntax.{seq, done, repeated, Rounds, last, more}
use Rattle.m2v_plane.specs.declared.planes.Plane.{Plane}
use Rattle.m2v_plane.specs.declared.planes.Plane.TheVariants.{Y, Cb, Cr}
use Rattle.m2v_plane.specs.declared.planes.Lines.{Lines}
use Rattle.m2v_plane.specs.declared.planes.Lines.TheVariants.{Whole}
use Rattle.m2v_plane.specs.declared.dims.Dims.{Dims}
use Rattle.m2v_plane.specs.Sizes.{columns_of}
use Rattle.m2v_plane.specs.Samples.{Samples, HasRows, with_row, plane_with_square}
use Rattle.m2v_pred.specs.declared.mode.MbPlace.{MbPlace}
use Rattle.m2v_pred.specs.Motion.{own_lines}
use Rattle.m2v_pred.specs.Predicted.{predicted}
use Rattle.m2v_macro.specs.declared.values.MacroSyntax.{MacroSyntax}
use Rattle.m2v_macro.specs.declared.values.SliceState.{SliceState}
use Rattle.m2v_macro.specs.declared.values.PictureContext.{PictureContext}
use Rattle.m2v_macro.specs.States.{after, address, skips, not_past, in_order, at_start}
use Rattle.m2v_macro.specs.Conditions.{IsStep}
use Rattle.m2v_model.specs.m2v_macroblock.Macroblocks.{Macroblock, after_macroblock}
use Rattle.m2v_model.specs.m2v_macroblock.Modes.{place_of, address_of, skipped_before, first_skipped, skipped_mode}
use Rattle.m2v_model.specs.m2v_macroblock.Predictions.{prediction_of, sample_at}
use Rattle.m2v_model.specs.declared.setup.SliceSetup.{SliceSetup}
use Rattle.m2v_model.specs.Samples.{References, put_in_frame, put_in_row, skipped_painted, own_painted, painted, all_painted}
use Rattle.m2v_model.specs.Slices.{Row, Slice, macroblock_round, macroblocks_at, slice_start, slice_at}
use Rattle.m2v_dec_picture.specs.Conditions.{IsBefore}
use Rattle.m2v_dec_picture.proofs.RowLaws.{place_is, inside_after}
use Rattle.m2v_dec_rows.proofs.Starts.{Adds, round_adds, before_next, start_before, le_tested, first_false, read_slice_is}
use Rattle.m2v_model.specs.Units.{body}
use Rattle.m2v_dec_rows.specs.Rows.{Unread, Slices, Placed, Begun, Read, and_slice, slice_read, slices_read, first_of, own, row_read, begun_painted, slices_painted}
use Rattle.m2v_dec_rows.proofs.OwnLaws.{slices_stopped}
use Rattle.m2v_dec_rows.proofs.ByRowLaws.{IsOwn, own_is, with_front, prefixed}
use Rattle.m2v_dec_rows.proofs.InFrame.{Both, both_first, both_more, both_all}

-- a row and a frame in which so many macroblocks of the row were painted, in all three planes
pub record AreBoth (which : Lines) (row n : ℕ) (old x f : Samples) : Type 0 where
  pub same : x.dims ≡ f.dims
  pub kept : f.dims ≡ old.dims
  pub luma : Both which 16 f.dims.mb_rows f.dims.mb_width row n old.luma x.luma f.luma
  pub cb : Both which 8 f.dims.mb_rows f.dims.mb_width row n old.cb x.cb f.cb
  pub cr : Both which 8 f.dims.mb_rows f.dims.mb_width row n old.cr x.cr f.cr

-- one macroblock more
put_both : (structure row n : ℕ) (new : Plane → ℕ → ℕ → ℕ) (old x f : Samples) → AreBoth (own_lines structure) row n old x f
    → AreBoth (own_lines structure) row (n + 1) old (put_in_row (record { row = row; column = n; structure = structure }) new x) (put_in_frame (record { row = row; column = n; structure = structure }) new f)
put_both structure row n new old x f h =
    let which = own_lines structure in
    let rows = f.dims.mb_rows in
    let columns = f.dims.mb_width in
    record {
      same = h.same;
      kept = h.kept;
      luma = subst (λ (d : Dims). Both which 16 rows columns row (n + 1) old.luma (plane_with_square (16 * 1) (columns_of d Y) 16 Whole 0 n (new Y) x.luma) (plane_with_square (16 * rows) (16 * columns) 16 which row n (new Y) f.luma)) (sym h.same)
          (both_more which 16 rows columns row n (new Y) old.luma x.luma f.luma (omega arith) h.luma);
      cb = subst (λ (d : Dims). Both which 8 rows columns row (n + 1) old.cb (plane_with_square (8 * 1) (columns_of d Cb) 8 Whole 0 n (new Cb) x.cb) (plane_with_square (8 * rows) (8 * columns) 8 which row n (new Cb) f.cb)) (sym h.same)
          (both_more which 8 rows columns row n (new Cb) old.cb x.cb f.cb (omega arith) h.cb);
      cr = subst (λ (d : Dims). Both which 8 rows columns row (n + 1) old.cr (plane_with_square (8 * 1) (columns_of d Cr) 8 Whole 0 n (new Cr) x.cr) (plane_with_square (8 * rows) (8 * columns) 8 which row n (new Cr) f.cr)) (sym h.same)
          (both_more which 8 rows columns row n (new Cr) old.cr x.cr f.cr (omega arith) h.cr);
    }

-- by an address of the row
put_at : (s : SliceSetup) (row n a : ℕ) (new : Plane → ℕ → ℕ → ℕ) (old x f : Samples) → a ≡ row * s.context.columns + n → n < s.context.columns → AreBoth (own_lines s.context.extension.structure) row n old x f
    → AreBoth (own_lines s.context.extension.structure) row (n + 1) old (put_in_row (place_of s.context a) new x) (put_in_frame (place_of s.context a) new f)
put_at s row n a new old x f e lt h =
    subst (λ (p : MbPlace). AreBoth (own_lines s.context.extension.structure) row (n + 1) old (put_in_row p new x) (put_in_frame p new f))
    (sym (ap (place_of s.context) e ∙ place_is s row n lt)) (put_both s.context.extension.structure row n new old x f h)

-- macroblocks that are skipped
skipped_both : (s : SliceSetup) (refs : References) (st : SliceState) (row n a k : ℕ) (old x f : Samples) → a ≡ row * s.context.columns + n → n + k ≤ s.context.columns
    → AreBoth (own_lines s.context.extension.structure) row n old x f
    → AreBoth (own_lines s.context.extension.structure) row (n + k) old (skipped_painted put_in_row s refs st a k x) (skipped_painted put_in_frame s refs st a k f)
unfolding skipped_painted
skipped_both s refs st row n a zero old x f e le h = subst (λ (m : ℕ). AreBoth (own_lines s.context.extension.structure) row m old x f) (omega arith) h
skipped_both s refs st row n a (suc k) old x f e le h =
    let new = predicted refs.forward refs.backward (skipped_mode s.context st) (place_of s.context a) in
    let next = put_at s row n a new old x f e (omega (arith, le)) h in
    let i = skipped_both s refs st row (n + 1) (a + 1) k old (put_in_row (place_of s.context a) new x) (put_in_frame (place_of s.context a) new f) (omega (arith, e)) (omega (arith, le)) next in
    subst (λ (m : ℕ). AreBoth (own_lines s.context.extension.structure) row m old
    (skipped_painted put_in_row s refs st (a + 1) k (put_in_row (place_of s.context a) new x)) (skipped_painted put_in_frame s refs st (a + 1) k (put_in_frame (place_of s.context a) new f))) (omega arith) i

-- a macroblock itself
own_both : (s : SliceSetup) (refs : References) (st : SliceState) (m : Macroblock) (row n : ℕ) (old x f : Samples) → address_of st m.syntax ≡ row * s.context.columns + n → n < s.context.columns
    → AreBoth (own_lines s.context.extension.structure) row n old x f
    → AreBoth (own_lines s.context.extension.structure) row (n + 1) old (own_painted put_in_row s refs st m x) (own_painted put_in_frame s refs st m f)
unfolding own_painted
own_both s refs st m row n old x f e lt h =
    put_at s row n (address_of st m.syntax) (sample_at s.context st (prediction_of refs.forward refs.backward s.context (place_of s.context (address_of st m.syntax)) m.syntax) m) old x f e lt h

-- ---- where the next macroblock lies

-- the column behind the last macroblock, or at a slice's start that of the next uncovered one
pub record IsNext (c : PictureContext) (row : ℕ) (st : SliceState) (n : ℕ) : Type 0 where
  pub first : st.first ≡ true → st.next ≡ row * c.columns + n
  pub later : st.first ≡ false → (1 ≤ n) × (st.address ≡ pos (row * c.columns + (n - 1)))

-- what a macroblock's increment says of its column, and of those that are skipped before it
record Lies (c : PictureContext) (row : ℕ) (st : SliceState) (m : MacroSyntax) (n : ℕ) : Type 0 where
  below : n + skipped_before st m < c.columns
  at : address st m.increment ≡ pos (row * c.columns + (n + skipped_before st m))
  start : (skipped_before st m ≡ 0) ⊎ (first_skipped st ≡ row * c.columns + n)

and_right : (a b : Bool) → (a && b) ≡ true → b ≡ true
and_right true b e = e
and_right false b e = absurd cc

not_or : (a b : Bool) → a ≡ true → (not a || b) ≡ true → b ≡ true
not_or true b e f = f
not_or false b e f = absurd (cc e)

one_less : (b : Bool) (n : ℕ) → 1 ≤ n → nat_eq n 1 ≡ b → (if not b then n - 1 else 0) ≡ n - 1
one_less true n some e = let is = eqb-true n 1 e in omega (arith, is)
one_less false n some e = refl

lies_is : (c : PictureContext) (row : ℕ) (st : SliceState) (m : MacroSyntax) (n : ℕ) → IsBefore c row st → IsNext c row st n → IsStep c st m.increment → Lies c row st m n
unfolding skips not_past in_order
lies_is c row st m n before next step =
    let in_row = inside_after c row st m.increment before step.some step.order in
    elim (cases_Bool st.first) [
      | inl e ↦
          let none : skipped_before st m ≡ 0 = rw e refl in
          let up = le_tested (address st m.increment) (pos st.next) (not_or st.first (int_le (address st m.increment) (pos st.next)) e step.near) in
          let down = le_tested (pos st.next) (address st m.increment) (not_or st.first (int_le (pos st.next) (address st m.increment)) e (and_right _ (not st.first || int_le (pos st.next) (address st m.increment)) step.order)) in
          let place = next.first e in
          record {
            below = omega (arith, ints, none, up, down, place, in_row.1, in_row.2);
            at = omega (arith, ints, none, up, down, place);
            start = inl none;
          }
      | inr e ↦
          let later = next.later e in
          let some = step.some in
          let count : skipped_before st m ≡ m.increment - 1 = rw e (one_less (nat_eq m.increment 1) m.increment some refl) in
          let where_is : address st m.increment ≡ pos (row * c.columns + (n + skipped_before st m)) = omega (arith, ints, count, some, later.0, later.1) in
          record {
            below = omega (arith, ints, where_is, in_row.1, in_row.2);
            at = where_is;
            start = inr (ap (λ (z : ℤ). nat_abs (z +ℤ pos 1)) later.1 ∙ omega (arith, ints, later.0));
          }
    ]

-- a macroblock, and those skipped before it
macroblock_both : (s : SliceSetup) (refs : References) (st : SliceState) (m : Macroblock) (row n : ℕ) (old x f : Samples) → Lies s.context row st m.syntax n
    → AreBoth (own_lines s.context.extension.structure) row n old x f
    → AreBoth (own_lines s.context.extension.structure) row (n + skipped_before st m.syntax + 1) old (painted put_in_row s refs st m x) (painted put_in_frame s refs st m f)
unfolding painted skipped_painted
macroblock_both s refs st m row n old x f lies h =
    let which = own_lines s.context.extension.structure in
    let a = first_skipped st in
    let k = skipped_before st m.syntax in
    let gap : AreBoth which row (n + k) old (skipped_painted put_in_row s refs st a k x) (skipped_painted put_in_frame s refs st a k f) = elim lies.start [
      | inl none ↦
          subst (λ (j : ℕ). AreBoth which row (n + j) old (skipped_painted put_in_row s refs st a j x) (skipped_painted put_in_frame s refs st a j f)) (sym none)
          (subst (λ (j : ℕ). AreBoth which row j old x f) (omega arith) h)
      | inr at ↦ skipped_both s refs st row n a k old x f at (omega (arith, lies.below)) h
    ] in
    own_both s refs st m row (n + k) old (skipped_painted put_in_row s refs st a k x) (skipped_painted put_in_frame s refs st a k f) (ap nat_abs lies.at) lies.below gap

next_after : (s : SliceSetup) (row n : ℕ) (r z : Row) (a : Adds s r z) → Lies s.context row r.state a.x.syntax n → IsNext s.context row z.state (n + skipped_before r.state a.x.syntax + 1)
unfolding after_macroblock after
next_after s row n r z a lies = record {
  first = λ e. absurd (cc (sym (first_false s r z a) ∙ e));
  later = λ e. (omega arith, ap (λ (st : SliceState). st.address) a.state ∙ lies.at ∙ ap pos (omega arith));
}

-- ---- slices

-- macroblocks of a slice
record Together (s : SliceSetup) (refs : References) (row : ℕ) (st z : SliceState) (xs : List Macroblock) : Type 0 where
  both : (n : ℕ) (old x f : Samples) → IsNext s.context row st n → AreBoth (own_lines s.context.extension.structure) row n old x f
      → (m : ℕ) × IsNext s.context row z m × AreBoth (own_lines s.context.extension.structure) row m old (all_painted put_in_row s refs st xs x) (all_painted put_in_frame s refs st xs f)

one_together : (s : SliceSetup) (refs : References) (row : ℕ) (r z : Row) (a : Adds s r z) → IsBefore s.context row r.state → Together s refs row r.state z.state (a.x ∷ [])
unfolding all_painted
one_together s refs row r z a before = record {
  both = λ n old x f next h.
      let lies = lies_is s.context row r.state a.x.syntax n before next a.step in
      (n + skipped_before r.state a.x.syntax + 1, next_after s row n r z a lies, macroblock_both s refs r.state a.x row n old x f lies h);
}

more_together : (s : SliceSetup) (refs : References) (row : ℕ) (r m : Row) (z : SliceState) (xs : List Macroblock) (a : Adds s r m) → IsBefore s.context row r.state → Together s refs row m.state z xs
    → Together s refs row r.state z (a.x ∷ xs)
unfolding all_painted
more_together s refs row r m z xs a before t = record {
  both = λ n old x f next h.
      let lies = lies_is s.context row r.state a.x.syntax n before next a.step in
      let k = n + skipped_before r.state a.x.syntax + 1 in
      let own = macroblock_both s refs r.state a.x row n old x f lies h in
      let rest = t.both k old (painted put_in_row s refs r.state a.x x) (painted put_in_frame s refs r.state a.x f) (next_after s row n r m a lies) own in (
        rest.0,
        rest.1,
        subst (λ (st : SliceState). AreBoth (own_lines s.context.extension.structure) row rest.0 old
            (all_painted put_in_row s refs st xs (painted put_in_row s refs r.state a.x x)) (all_painted put_in_frame s refs st xs (painted put_in_frame s refs r.state a.x f))) a.state rest.2,
      );
}

rounds_together : (s : SliceSetup) (refs : References) (row : ℕ) (r z : Row) (t rest : List Bool) → IsBefore s.context row r.state → Rounds (macroblock_round s) r z t rest
    → (xs : List Macroblock) × (z.macroblocks ≡ r.macroblocks ++ xs) × Together s refs row r.state z.state xs × (z.state.first ≡ false)
rounds_together s refs row r z t rest before (last h) =
    let a = round_adds s r z false _ _ h in
    (a.x ∷ [], a.macroblocks, one_together s refs row r z a before, first_false s r z a)
rounds_together s refs row r z t rest before (more {m = m} h later) =
    let a = round_adds s r m true _ _ h in
    let i = rounds_together s refs row m z _ _ (before_next s row r m before a) later in (
      a.x ∷ i.0,
      i.1 ∙ ap (λ (l : List Macroblock). l ++ i.0) a.macroblocks ∙ append_assoc r.macroblocks (a.x ∷ []) i.0,
      more_together s refs row r m z.state i.0 a before i.2,
      i.3,
    )

slice_start_next : (c : PictureContext) (row covered quantiser n : ℕ) → covered ≡ row * c.columns + n → IsNext c row (slice_start c row covered quantiser) n
unfolding slice_start at_start
slice_start_next c row covered quantiser n e = record { first = λ f. e; later = λ f. absurd (cc f) }

stands_together : (s : SliceSetup) (refs : References) (covered row n : ℕ) (x : Slice) (t rest : List Bool) (old r f : Samples) → (row + 1) * s.context.columns ≤ 2 ^ 16 → (slice_at s covered row).Stands x t rest
    → covered ≡ row * s.context.columns + n → AreBoth (own_lines s.context.extension.structure) row n old r f
    → (m : ℕ) × (x.covered ≡ row * s.context.columns + m) × AreBoth (own_lines s.context.extension.structure) row m old
    (all_painted put_in_row s refs (slice_start s.context row covered x.info.quantiser) x.macroblocks r) (all_painted put_in_frame s refs (slice_start s.context row covered x.info.quantiser) x.macroblocks f)
unfolding slice_at seq done macroblocks_at repeated
stands_together s refs covered row n x t rest old r f small h e both =
    let info = h.3.0 in
    let y = h.3.3.3.3.0 in
    let start = slice_start s.context row covered info.quantiser in
    let i = rounds_together s refs row _ y _ _ (start_before s.context row covered info.quantiser small) h.3.3.3.3.2 in
    let z = i.2.both n old r f (slice_start_next s.context row covered info.quantiser n e) both in
    let is = h.3.3.3.3.3.0 in
    let later = z.1.later i.3 in (
      z.0,
      ap (λ (w : Slice). w.covered) is ∙ ap (λ (a : ℤ). nat_abs (a +ℤ pos 1)) later.1 ∙ omega (arith, ints, later.0),
      subst (λ (w : Slice). AreBoth (own_lines s.context.extension.structure) row z.0 old
          (all_painted put_in_row s refs (slice_start s.context row covered w.info.quantiser) w.macroblocks r) (all_painted put_in_frame s refs (slice_start s.context row covered w.info.quantiser) w.macroblocks f)) (sym is)
          (subst (λ (xs : List Macroblock). AreBoth (own_lines s.context.extension.structure) row z.0 old (all_painted put_in_row s refs start xs r) (all_painted put_in_frame s refs start xs f)) (sym i.1) z.2),
    )

slice_together : (s : SliceSetup) (refs : References) (u : Unread) (covered n : ℕ) (x : Slice) (old r f : Samples) → first_of s (u.row + 1) ≤ 2 ^ 16 → slice_read s covered u ≡ Ok x
    → covered ≡ first_of s u.row + n → AreBoth (own_lines s.context.extension.structure) u.row n old r f
    → (m : ℕ) × (x.covered ≡ first_of s u.row + m) × AreBoth (own_lines s.context.extension.structure) u.row m old
    (begun_painted put_in_row s refs r (record { row = u.row; before = covered; slice = x })) (begun_painted put_in_frame s refs f (record { row = u.row; before = covered; slice = x }))
unfolding slice_read
slice_together s refs u covered n x old r f small e at both =
    let h = read_slice_is s u covered x _ refl e in
    stands_together s refs covered u.row n x (body u.unit) h.0 old r f small h.1 at both

-- what was read behind a slice
read_or : Read → List Begun × ℕ
read_or (Ok x) = x
read_or (Err f) = ([], 0)

ok_is : (x y : List Begun × ℕ) (r : Read) → r ≡ Ok x → r ≡ Ok y → x ≡ y
unfolding read_or
ok_is x y r e f = ap read_or (sym e ∙ f)

front_is : (b : Begun) (r : Read) (ys : List Begun) (e : ℕ) → with_front (b ∷ []) r ≡ Ok (ys, e) → (zs : List Begun) × (r ≡ Ok (zs, e)) × (ys ≡ b ∷ zs)
unfolding with_front
front_is b (Ok x) ys e h = let p = ok_is (b ∷ x.0, x.1) (ys, e) (Ok (b ∷ x.0, x.1)) refl h in (x.0, ap (λ (n : ℕ). Ok (x.0, n)) (ap (λ (z : List Begun × ℕ). z.1) p), sym (ap (λ (z : List Begun × ℕ). z.0) p))
front_is b (Err f) ys e h = absurd (cc h)

next_together : (s : SliceSetup) (refs : References) (row covered e n : ℕ) (u : Unread) (us : Slices) (ys : List Begun) (old r f : Samples) → first_of s (row + 1) ≤ 2 ^ 16 → u.row ≡ row
    → (x : Result Slice Placed) → slice_read s covered u ≡ x → slices_read s (and_slice [] u.row covered x) us ≡ Ok (ys, e) → covered ≡ first_of s row + n → AreBoth (own_lines s.context.extension.structure) row n old r f
    → ((k m : ℕ) (zs : List Begun) (a b : Samples) → slices_read s (Ok ([], k)) us ≡ Ok (zs, e) → k ≡ first_of s row + m → AreBoth (own_lines s.context.extension.structure) row m old a b
    → (j : ℕ) × (e ≡ first_of s row + j) × AreBoth (own_lines s.context.extension.structure) row j old (slices_painted put_in_row s refs a zs) (slices_painted put_in_frame s refs b zs))
    → (j : ℕ) × (e ≡ first_of s row + j) × AreBoth (own_lines s.context.extension.structure) row j old (slices_painted put_in_row s refs r ys) (slices_painted put_in_frame s refs f ys)
unfolding slices_painted
next_together s refs row covered e n u us ys old r f small own (Err g) is read at both later = absurd (cc (sym (slices_stopped s g us) ∙ read))
next_together s refs row covered e n u us ys old r f small own (Ok x) is read at both later =
    let b : Begun = record { row = u.row; before = covered; slice = x } in
    let front = front_is b (slices_read s (Ok ([], x.covered)) us) ys e (sym (prefixed s (b ∷ []) [] x.covered us) ∙ read) in
    let one = slice_together s refs u covered n x old r f (subst (λ (k : ℕ). first_of s (k + 1) ≤ 2 ^ 16) (sym own) small) is (subst (λ (k : ℕ). covered ≡ first_of s k + n) (sym own) at)
    (subst (λ (k : ℕ). AreBoth (own_lines s.context.extension.structure) k n old r f) (sym own) both) in
    let rest = later x.covered one.0 front.0 (begun_painted put_in_row s refs r b) (begun_painted put_in_frame s refs f b) front.1 (subst (λ (k : ℕ). x.covered ≡ first_of s k + one.0) own one.1)
    (subst (λ (k : ℕ). AreBoth (own_lines s.context.extension.structure) k one.0 old (begun_painted put_in_row s refs r b) (begun_painted put_in_frame s refs f b)) own one.2) in
    (rest.0, rest.1, subst (λ (l : List Begun). AreBoth (own_lines s.context.extension.structure) row rest.0 old (slices_painted put_in_row s refs r l) (slices_painted put_in_frame s refs f l)) (sym front.2) rest.2)

own_together : (s : SliceSetup) (refs : References) (row covered e n : ℕ) (us : Slices) (ys : List Begun) (old r f : Samples) → first_of s (row + 1) ≤ 2 ^ 16 → IsOwn row us
    → slices_read s (Ok ([], covered)) us ≡ Ok (ys, e) → covered ≡ first_of s row + n → AreBoth (own_lines s.context.extension.structure) row n old r f
    → (m : ℕ) × (e ≡ first_of s row + m) × AreBoth (own_lines s.context.extension.structure) row m old (slices_painted put_in_row s refs r ys) (slices_painted put_in_frame s refs f ys)
unfolding slices_read slices_painted IsOwn
own_together s refs row covered e n [] ys old r f small own read at both =
    let p = ok_is ([], covered) (ys, e) (Ok ([], covered)) refl read in
    let none : [] ≡ ys = ap (λ (z : List Begun × ℕ). z.0) p in
    (n, sym (ap (λ (z : List Begun × ℕ). z.1) p) ∙ at, subst (λ (l : List Begun). AreBoth (own_lines s.context.extension.structure) row n old (slices_painted put_in_row s refs r l) (slices_painted put_in_frame s refs f l)) none both)
own_together s refs row covered e n (u ∷ us) ys old r f small own read at both = next_together s refs row covered e n u us ys old r f small own.0 (slice_read s covered u) refl read at both
    (λ k m zs a b later where_is are. own_together s refs row k e m us zs old a b small own.1 later where_is are)

-- ---- a row

pub row_together : (s : SliceSetup) (refs : References) (row : ℕ) (us : Slices) (xs : List Begun) (old frame : Samples) → first_of s (row + 1) ≤ 2 ^ 16 → s.dims.mb_width ≡ s.context.columns
    → HasRows old 1 → old.dims ≡ frame.dims → HasRows frame frame.dims.mb_rows → frame.dims ≡ s.dims → row_read s row us ≡ Ok (xs, first_of s (row + 1))
    → with_row frame (own_lines s.context.extension.structure) row (slices_painted put_in_row s refs old xs) ≡ slices_painted put_in_frame s refs frame xs
row_together s refs row us xs old frame small wide long same whole size read =
    let which = own_lines s.context.extension.structure in
    let w = frame.dims.mb_width in
    let h = frame.dims.mb_rows in
    let width = ap (λ (d : Dims). d.mb_width) same in
    let start : AreBoth which row 0 frame old frame = record {
      same = same;
      kept = refl;
      luma = both_first which 16 h w row frame.luma old.luma (subst (λ (k : ℕ). length old.luma ≡ 16 * 1 * (16 * k)) width long.luma) whole.luma;
      cb = both_first which 8 h w row frame.cb old.cb (subst (λ (k : ℕ). length old.cb ≡ 8 * 1 * (8 * k)) width long.cb) whole.cb;
      cr = both_first which 8 h w row frame.cr old.cr (subst (λ (k : ℕ). length old.cr ≡ 8 * 1 * (8 * k)) width long.cr) whole.cr;
    } in
    let z = own_together s refs row (first_of s row) (first_of s (row + 1)) 0 (own row us) xs frame old frame small (own_is row us) read (omega arith) start in
    let x = slices_painted put_in_row s refs old xs in
    let f = slices_painted put_in_frame s refs frame xs in
    let all : z.0 ≡ w = whole_row (first_of s row) z.0 z.1 refl ∙ sym wide ∙ sym (ap (λ (d : Dims). d.mb_width) size) in
    let done = subst (λ (m : ℕ). AreBoth which row m frame x f) all z.2 in
    let kept = done.kept in
    let back = sym kept in
    λ i. record {
      dims = back i;
      luma = both_all which 16 h w row frame.luma x.luma f.luma (omega arith) (subst (λ (d : Dims). Both which 16 d.mb_rows d.mb_width row w frame.luma x.luma f.luma) kept done.luma) i;
      cb = both_all which 8 h w row frame.cb x.cb f.cb (omega arith) (subst (λ (d : Dims). Both which 8 d.mb_rows d.mb_width row w frame.cb x.cb f.cb) kept done.cb) i;
      cr = both_all which 8 h w row frame.cr x.cr f.cr (omega arith) (subst (λ (d : Dims). Both which 8 d.mb_rows d.mb_width row w frame.cr x.cr f.cr) kept done.cr) i;
    }
  where
    whole_row : (k m : ℕ) → first_of s (row + 1) ≡ k + m → k ≡ first_of s row → m ≡ s.context.columns
    whole_row k m e f = omega (arith, e, f)
