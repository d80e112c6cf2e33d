-- The slices of a picture are read from their units.
use Rattle.std.proofs.Common.{◌≡◌, ℕ, zero, suc, ◌+◌, ◌-◌, ◌*◌, ◌<◌, ◌≤◌, Bool, false, List, [], ◌∷◌, ◌++◌, length, map, replicate, inl, inr, refl, sym, ap, subst, ◌∙◌, arith}
use Rattle.std.specs.Prelude.{nat_le, nat_lt}
use Rattle.std.specs.List.{range_with_len}
use Rattle.std.proofs.lemmas.Bool.{ne_eqb, le-leb, lt-ltb, and_from}
use Rattle.std.proofs.lemmas.List.FromFn.{map-range_with_len_more}
use Rattle.m2v_bits.specs.Syntax.{seq, done, rule, choose}
use Rattle.m2v_set.specs.Numbers.{mb_width_of}
use Rattle.m2v_set.proofs.Facts.{bounds}
use Rattle.m2v_rate.specs.Plans.{plan_of}
use Rattle.m2v_slice.specs.Slices.{SliceTask}
use Rattle.m2v_slice.specs.Laws.{IsSlice}
use Rattle.m2v_slice.specs.Headers.{context_of}
use Rattle.m2v_slice.specs.Books.{Book, rows, job_at, coded, ledger_for, task_of}
use Rattle.m2v_slice.specs.Conditions.{IsBook}
use Rattle.m2v_slice.proofs.Coded.{plan_is}
use Rattle.m2v_slice.proofs.Groups.{rows_few, passes_of}
use Rattle.m2v_slice.proofs.Steady.{IsPlan, task_is}
use Rattle.m2v_slice.proofs.Sound.{plan_is_good}
use Rattle.m2v_model.specs.declared.setup.SliceSetup.{SliceSetup}
use Rattle.m2v_model.specs.Units.{Units}
use Rattle.m2v_model.specs.States.{picture_rows, slice_setup}
use Rattle.m2v_model.specs.Slices.{slice_at, large_in}
use Rattle.m2v_model.specs.Streams.{Part, slice, after, read_slice, slice_in, slice_unit, onward, later_unit, known_unit}
use Rattle.m2v_model.specs.Texts.{unit_bytes, IsCalm}
use Rattle.m2v_model.specs.Chains.{Reads, Chain, nothing, link}
use Rattle.m2v_model.proofs.Chains.{chain_then}
use Rattle.m2v_enc_stream.specs.Slices.{AreDecoded, setup_of, slice_body, slice_read}
use Rattle.m2v_enc_stream.specs.Trees.{sequence_by, task_at, slice_parts}
use Rattle.m2v_enc_stream.specs.States.{open_at}
use Rattle.m2v_enc_stream.proofs.Turns.{IsCounted}
use Rattle.m2v_enc_stream.proofs.States.{covered_is, row_is, read_is, picture_rows_are, state_at, references_at, slice_after, decoded_at, setup_at}
use Rattle.m2v_enc_stream.proofs.Zeros.{padded, zeros_behind, padded_stands}

-- ---- what slices are coded of

-- each slice of a picture is one of this encoder
pub task_slice : (b : Book) → IsBook b → (p r : ℕ) → p < length b.pictures → r < rows b → IsSlice (task_at b p r)
task_slice b h p r lt small =
    let plan = subst (IsPlan b.settings) (plan_is b (p + 1) p (omega arith)) (plan_is_good b h (p + 1) p (omega arith) (omega (arith, lt))) in
    task_is b h (coded b p) p (plan_of (ledger_for b (coded b p) p) p) r lt small plan

-- what holds of every slice of this encoder: no start code stands in it, it is read, and none of its macroblocks is large
pub record Spelled : Type 0 where
  pub calm : (t : SliceTask) → IsSlice t → IsCalm (slice_body t)
  pub reads : (t : SliceTask) (references : List Bool) (zeros : ℕ) → IsSlice t → AreDecoded t.context.kind references
      → (slice_at (setup_of t references) (t.row * t.context.columns) t.row).Stands (slice_read t) (slice_body t ++ replicate zeros false) (replicate zeros false)
  pub large : (t : SliceTask) → IsSlice t → large_in (slice_read t) ≡ 0

-- the bytes of a slice
abbrev pub slice_bytes : Book → ℕ → ℕ → List ℕ
slice_bytes b p r = unit_bytes (r + 1) (slice_body (task_at b p r))

row_of : (b : Book) (p r : ℕ) → (task_at b p r).row ≡ r
unfolding task_of
row_of b p r = refl

kind_of : (b : Book) (p r : ℕ) → (task_at b p r).context.kind ≡ (job_at b p).kind
unfolding task_of context_of
kind_of b p r = refl

columns_of : (b : Book) (p r : ℕ) → (task_at b p r).context.columns ≡ mb_width_of b.settings
unfolding task_of context_of
columns_of b p r = refl

module _ (law : Spelled) (b : Book) (h : IsBook b) (closed : Bool) (before p delay : ℕ) (c : IsCounted b before) (lt : p < length b.pictures) where
  stands_at : (r zeros : ℕ) → r < rows b
      → (let o = open_at b.settings (job_at b p) delay (references_at b closed before p) r in
      (slice_at (slice_setup (state_at b closed before p delay r) (sequence_by b.settings) o) o.covered r).Stands (slice_read (task_at b p r)) (slice_body (task_at b p r) ++ replicate zeros false) (replicate zeros false))
  stands_at r zeros small =
      let t = task_at b p r in
      let s = b.settings in
      let refs = references_at b closed before p in
      let o = open_at s (job_at b p) delay refs r in
      let text = slice_body t ++ replicate zeros false in
      let rest = replicate zeros false in
      let decoded = subst (λ (k : ℕ). AreDecoded k refs) (sym (kind_of b p r)) (decoded_at b h closed before p c lt) in
      let reads = law.reads t refs zeros (task_slice b h p r lt small) decoded in
      let place : t.row * t.context.columns ≡ o.covered =
      ap (λ (n : ℕ). n * t.context.columns) (row_of b p r) ∙ ap (λ (n : ℕ). r * n) (columns_of b p r) ∙ sym (covered_is s (job_at b p) delay refs r) in
      subst (λ (u : SliceSetup). (slice_at u o.covered r).Stands (slice_read t) text rest) (setup_at b h closed before p delay r r lt)
      (subst (λ (n : ℕ). (slice_at (setup_of t refs) o.covered n).Stands (slice_read t) text rest) (row_of b p r)
      (subst (λ (n : ℕ). (slice_at (setup_of t refs) n t.row).Stands (slice_read t) text rest) place reads))

  slice_in_stands : (r zeros start : ℕ) (us : Units) → r < rows b
      → (slice_in (state_at b closed before p delay r) (sequence_by b.settings) (open_at b.settings (job_at b p) delay (references_at b closed before p) r) r start (padded (slice_bytes b p r) zeros)).Stands (slice r (slice_read (task_at b p r))) us us
  unfolding slice_in read_slice rule choose seq done
  slice_in_stands r zeros start us small =
      let s = b.settings in
      let refs = references_at b closed before p in
      let o = open_at s (job_at b p) delay refs r in
      let x = slice_read (task_at b p r) in
      let t = slice_body (task_at b p r) in
      let setup = slice_setup (state_at b closed before p delay r) (sequence_by s) o in
      let all = picture_rows_are b h p delay refs r lt in
      let below : r < picture_rows (sequence_by s) o = omega (arith, all, small) in
      let low : o.row ≤ r = omega (arith, row_is s (job_at b p) delay refs r) in
      let order = and_from (nat_lt r (picture_rows (sequence_by s) o)) (nat_le o.row r) (lt-ltb r (picture_rows (sequence_by s) o) below) (le-leb o.row r low) in (
        tt,
        us,
        (order, refl),
        inr (
          read_is s (job_at b p) delay refs r,
          (
            x,
            us,
            padded_stands (slice_at setup o.covered r) (r + 1) zeros t x us (replicate (zeros_behind t zeros) false) (stands_at r (zeros_behind t zeros) small),
            (refl, refl),
          ),
        ),
      )

  -- a slice is read, with the zero bytes behind it
  pub slice_reads : (r zeros : ℕ) → r < rows b → Reads (state_at b closed before p delay r) (slice r (slice_read (task_at b p r))) (padded (slice_bytes b p r) zeros) []
  unfolding known_unit later_unit onward slice_unit choose seq done
  slice_reads r zeros small = record {
    stands = λ start us.
        let s = b.settings in
        let x = slice_read (task_at b p r) in
        let st = state_at b closed before p delay r in
        let o = open_at s (job_at b p) delay (references_at b closed before p) r in
        let few = rows_few b (bounds s (passes_of b h)) in
        let back : r ≡ r + 1 - 1 = omega arith in
        let stands = subst (λ (n : ℕ). (slice_in st (sequence_by s) o n start (padded (slice_bytes b p r) zeros)).Stands (slice r x) us us) back (slice_in_stands r zeros start us small) in
        inr (
          ne_eqb (r + 1) 0xB3 (λ e. omega (arith, few, small, e)),
          inl (
            refl,
            inr (
              ne_eqb (r + 1) 0x00 (λ e. omega (arith, e)),
              inl (le-leb (r + 1) 0xAF (omega (arith, few, small)), (slice r x, us, stands, (refl, refl))),
            ),
          ),
        );
  }

  slice_after_read : (r : ℕ) → r < rows b → after (state_at b closed before p delay r) (slice r (slice_read (task_at b p r))) ≡ state_at b closed before p delay (suc r)
  slice_after_read r small = slice_after b closed before p delay r (law.large (task_at b p r) (task_slice b h p r lt small))

  -- one slice
  slice_chain : (r zeros : ℕ) → r < rows b
      → Chain (state_at b closed before p delay r) (slice r (slice_read (task_at b p r)) ∷ []) (padded (slice_bytes b p r) zeros ∷ []) (state_at b closed before p delay (suc r))
  slice_chain r zeros small =
      subst (Chain (state_at b closed before p delay r) (slice r (slice_read (task_at b p r)) ∷ []) (padded (slice_bytes b p r) zeros ∷ [])) (slice_after_read r small)
      (link (slice_reads r zeros small) nothing)

  -- the first n slices, without zero bytes
  slices_chain : (n : ℕ) → n ≤ rows b
      → Chain (state_at b closed before p delay 0) (slice_parts b p n) (map (λ r. padded (slice_bytes b p r) 0) (range_with_len 0 n)) (state_at b closed before p delay n)
  slices_chain zero le = nothing
  slices_chain (suc n) le =
      let e : n + 1 ≡ suc n = omega arith in
      let parts = map-range_with_len_more (λ r. slice r (slice_read (task_at b p r))) 0 n n (omega arith) in
      let units = map-range_with_len_more (λ r. padded (slice_bytes b p r) 0) 0 n n (omega arith) in
      let both = chain_then (slices_chain n (omega (arith, le))) (slice_chain n 0 (omega (arith, le))) in
      subst (λ (m : ℕ). Chain (state_at b closed before p delay 0) (slice_parts b p m) (map (λ r. padded (slice_bytes b p r) 0) (range_with_len 0 m)) (state_at b closed before p delay (suc n))) e
      (subst (λ (xs : List Part). Chain (state_at b closed before p delay 0) xs (map (λ r. padded (slice_bytes b p r) 0) (range_with_len 0 (n + 1))) (state_at b closed before p delay (suc n))) (sym parts)
      (subst (λ (us : Units). Chain (state_at b closed before p delay 0) (slice_parts b p n ++ slice n (slice_read (task_at b p n)) ∷ []) us (state_at b closed before p delay (suc n))) (sym units) both))

  -- all slices, with the zero bytes behind the last one
  pub rows_chain : (n zeros : ℕ) → rows b ≡ suc n
      → Chain (state_at b closed before p delay 0) (slice_parts b p (rows b)) (map (λ r. padded (slice_bytes b p r) 0) (range_with_len 0 n) ++ padded (slice_bytes b p n) zeros ∷ []) (state_at b closed before p delay (rows b))
  rows_chain n zeros is =
      let e : n + 1 ≡ rows b = omega (arith, is) in
      let parts = map-range_with_len_more (λ r. slice r (slice_read (task_at b p r))) 0 n n (omega arith) in
      let us = map (λ r. padded (slice_bytes b p r) 0) (range_with_len 0 n) ++ padded (slice_bytes b p n) zeros ∷ [] in
      let both = chain_then (slices_chain n (omega (arith, is))) (slice_chain n zeros (omega (arith, is))) in
      let last : suc n ≡ rows b = sym is in
      subst (λ (m : ℕ). Chain (state_at b closed before p delay 0) (slice_parts b p (rows b)) us (state_at b closed before p delay m)) last
      (subst (λ (m : ℕ). Chain (state_at b closed before p delay 0) (slice_parts b p m) us (state_at b closed before p delay (suc n))) e
      (subst (λ (xs : List Part). Chain (state_at b closed before p delay 0) xs us (state_at b closed before p delay (suc n))) (sym parts) both))
