-- A slice of the flat profile stands in its unit.
use Rattle.std.proofs.Common.{◌≡◌, ℕ, zero, suc, ◌+◌, ◌-◌, ◌*◌, ◌<◌, ◌≤◌, Bool, true, false, List, [], ◌∷◌, ◌++◌, length, replicate, pos, ◌+ℤ◌, refl, sym, ap, subst, ◌∙◌, arith, append_assoc, append-nil}
use Rattle.std.specs.Prelude.{not, nat_abs, filter}
use Rattle.std.specs.List.{flat_map, range_with_len}
use Rattle.std.proofs.lemmas.Int.{ints}
use Rattle.std.proofs.lemmas.Bool.{lt-ltb, le-ltb}
use Rattle.std.proofs.lemmas.List.{length-append}
use Rattle.m2v_bits.specs.Bits.{bits_of, all_zero}
use Rattle.m2v_bits.specs.Syntax.{seq, done, here, rule, renamed, repeated, Rounds, last, more}
use Rattle.m2v_bits.specs.Leaves.{zero_at}
use Rattle.m2v_bits.proofs.Cursor.{zeros_are_zero}
use Rattle.m2v_vlc.specs.Codes.{code_of}
use Rattle.m2v_vlc.specs.Tables.{increment, type_i, type_i_code}
use Rattle.m2v_vlc.specs.Values.{kind, same_increment}
use Rattle.m2v_head.specs.Texts.{slice_text}
use Rattle.m2v_head.specs.Fits.{SliceFits}
use Rattle.m2v_head.proofs.Spellings.{slice_spells}
use Rattle.m2v_macro.specs.Macros.{increment_from}
use Rattle.m2v_macro.specs.Texts.{increment_text, escapes_text}
use Rattle.m2v_macro.specs.States.{at_start}
use Rattle.m2v_macro.proofs.Spellings.{increments_spell}
use Rattle.m2v_macro.specs.declared.values.SliceState.{SliceState}
use Rattle.m2v_macro.specs.declared.values.PictureContext.{PictureContext}
use Rattle.m2v_head.specs.declared.slice.SliceInfo.{SliceInfo}
use Rattle.m2v_macroblock.specs.Macroblocks.{Macroblock, after_macroblock}
use Rattle.m2v_plane.specs.declared.dims.Dims.{Dims}
use Rattle.m2v_plane.specs.Samples.{Samples}
use Rattle.m2v_flat.specs.Flat.{flat_slice, blocks_text, macroblock_text, row_text}
use Rattle.m2v_flat.proofs.Lengths.{macroblock_most, row_is}
use Rattle.m2v_model.specs.declared.setup.SliceSetup.{SliceSetup}
use Rattle.m2v_model.specs.Looking.{looking}
use Rattle.m2v_model.specs.Slices.{Row, Slice, macroblock_round, macroblocks_at, slice_start, begins_late, unit_place, slice_at, is_large, large_in}
use Rattle.m2v_flat.specs.Tree.{flat_context, flat_setup, flat_macroblock, flat_macroblocks, flat_bits, state_before, flat_row}
use Rattle.m2v_flat.proofs.Macroblocks.{after_is, macroblock_spells}

-- ---- macroblocks of a row

abbrev row_of : SliceState → List Macroblock → List ℕ → Row
row_of st xs bs = record { state = st; macroblocks = xs; bits = bs }

-- the row before a macroblock
abbrev row_at : ℕ → ℕ → Samples → ℕ → ℕ → List Macroblock → List ℕ → Row
row_at quantiser columns frame row column xs bs = row_of (state_before quantiser columns frame row column) xs bs

abbrev slice_of : SliceInfo → List Macroblock → List ℕ → ℕ → Slice
slice_of info xs bs covered = record { info = info; macroblocks = xs; bits = bs; covered = covered }

-- a round of the loop over macroblocks, from one row to another
abbrev RoundStands : ℕ → Dims → Row → Row → Bool → List Bool → List Bool → Type 0
RoundStands columns d before behind goes_on t rest = (macroblock_round (flat_setup columns d) before).Stands (goes_on, behind) t rest

-- a macroblock, and whether others follow
round_stands : (quantiser columns : ℕ) (d : Dims) (frame : Samples) (row column : ℕ) (xs : List Macroblock) (bs : List ℕ) (rest : List Bool) → 1 ≤ quantiser → quantiser ≤ 31 → columns ≤ 120 → column < columns
    → RoundStands columns d (row_at quantiser columns frame row column xs bs)
    (row_at quantiser columns frame row (suc column) (xs ++ flat_macroblock frame row column ∷ []) (bs ++ length (macroblock_text frame row column) ∷ []))
    (not (all_zero rest)) (macroblock_text frame row column ++ rest) rest
unfolding macroblock_round seq here zero_at done
round_stands quantiser columns d frame row column xs bs rest least most wide lt =
    let m = flat_macroblock frame row column in
    let t = macroblock_text frame row column in
    let st = state_before quantiser columns frame row column in
    let next = after_is quantiser columns frame row column in
    let bits : length t ≡ length (t ++ rest) - length rest = omega (arith, length-append t rest) in
    let made = ap (λ (z : SliceState). (not (all_zero rest), row_of z (xs ++ m ∷ []) (bs ++ length t ∷ []))) (sym next)
    ∙ ap (λ (n : ℕ). (not (all_zero rest), row_of (after_macroblock (flat_context columns) st m) (xs ++ m ∷ []) (bs ++ n ∷ []))) bits in (
      length (t ++ rest),
      t ++ rest,
      (refl, refl),
      (
        m,
        rest,
        (macroblock_spells quantiser columns d frame row column least most wide lt).stands rest,
        (
          length rest,
          rest,
          (refl, refl),
          (all_zero rest, rest, (refl, refl), (made, refl)),
        ),
      ),
    )

moved : (quantiser columns : ℕ) (d : Dims) (frame : Samples) (row : ℕ) (before : Row) (ys : List Macroblock) (cs : List ℕ) (rest : List Bool) (b c : Bool) (k l : ℕ) (t u : List Bool) → b ≡ c → k ≡ l → t ≡ u
    → RoundStands columns d before (row_at quantiser columns frame row k ys cs) b t rest → RoundStands columns d before (row_at quantiser columns frame row l ys cs) c u rest
moved quantiser columns d frame row before ys cs rest b c k l t u eb ek et h =
    subst (λ (x : List Bool). RoundStands columns d before (row_at quantiser columns frame row l ys cs) c x rest) et
    (subst (λ (n : ℕ). RoundStands columns d before (row_at quantiser columns frame row n ys cs) c t rest) ek
    (subst (λ (x : Bool). RoundStands columns d before (row_at quantiser columns frame row k ys cs) x t rest) eb h))

-- a macroblock has a bit that is 1
not_zero : (frame : Samples) (row column : ℕ) (rest behind : List Bool) → all_zero ((macroblock_text frame row column ++ rest) ++ behind) ≡ false
unfolding macroblock_text code_of increment type_i same_increment bits_of all_zero
not_zero frame row column rest behind = refl

-- the macroblocks from one on, with zeros behind them
rounds_stand : (quantiser columns : ℕ) (d : Dims) (frame : Samples) (row n column end z : ℕ) (xs : List Macroblock) (bs : List ℕ) → 1 ≤ quantiser → quantiser ≤ 31 → columns ≤ 120 → column + suc n ≡ columns → end ≡ columns
    → Rounds (macroblock_round (flat_setup columns d)) (row_at quantiser columns frame row column xs bs)
    (row_at quantiser columns frame row end (xs ++ flat_macroblocks frame row column (suc n)) (bs ++ flat_bits frame row column (suc n)))
    (flat_map (macroblock_text frame row) (range_with_len column (suc n)) ++ replicate z false) (replicate z false)
rounds_stand quantiser columns d frame row zero column end z xs bs least most wide is last_is =
    let behind = replicate z false in
    let t = macroblock_text frame row column in
    let m = flat_macroblock frame row column in
    last (moved quantiser columns d frame row (row_at quantiser columns frame row column xs bs) (xs ++ m ∷ []) (bs ++ length t ∷ []) behind (not (all_zero behind)) false (suc column) end (t ++ behind) ((t ++ []) ++ behind)
    (ap not (zeros_are_zero z)) (omega arith) (ap (λ (x : List Bool). x ++ behind) (sym (append-nil t)))
    (round_stands quantiser columns d frame row column xs bs behind least most wide (omega arith)))
rounds_stand quantiser columns d frame row (suc n) column end z xs bs least most wide is last_is =
    let behind = replicate z false in
    let t = macroblock_text frame row column in
    let m = flat_macroblock frame row column in
    let later = flat_map (macroblock_text frame row) (range_with_len (column + 1) (suc n)) in
    let ys = flat_macroblocks frame row (column + 1) (suc n) in
    let cs = flat_bits frame row (column + 1) (suc n) in
    let next = row_at quantiser columns frame row (column + 1) (xs ++ m ∷ []) (bs ++ length t ∷ []) in
    let first = moved quantiser columns d frame row (row_at quantiser columns frame row column xs bs) (xs ++ m ∷ []) (bs ++ length t ∷ []) (later ++ behind) (not (all_zero (later ++ behind))) true (suc column) (column + 1) (t ++ (later ++ behind)) ((t ++ later) ++ behind)
    (ap not (not_zero frame row (column + 1) (flat_map (macroblock_text frame row) (range_with_len (column + 1 + 1) n)) behind)) (omega arith) (sym (append_assoc t later behind))
    (round_stands quantiser columns d frame row column xs bs (later ++ behind) least most wide (omega arith)) in
    let rest = rounds_stand quantiser columns d frame row n (column + 1) end z (xs ++ m ∷ []) (bs ++ length t ∷ []) least most wide (omega arith) last_is in
    more first
    (subst (λ (ws : List ℕ). Rounds (macroblock_round (flat_setup columns d)) next (row_at quantiser columns frame row end (xs ++ m ∷ ys) ws) (later ++ behind) behind) (append_assoc bs (length t ∷ []) cs)
    (subst (λ (ws : List Macroblock). Rounds (macroblock_round (flat_setup columns d)) next (row_at quantiser columns frame row end ws ((bs ++ length t ∷ []) ++ cs)) (later ++ behind) behind) (append_assoc xs (m ∷ []) ys) rest))

-- ---- slices

macroblocks_stand : (quantiser columns : ℕ) (d : Dims) (frame : Samples) (row z : ℕ) (s : SliceSetup) (start : SliceState) → 1 ≤ quantiser → quantiser ≤ 31 → 1 ≤ columns → columns ≤ 120
    → flat_setup columns d ≡ s → state_before quantiser columns frame row 0 ≡ start
    → (macroblocks_at s (row_of start [] [])).Stands (row_at quantiser columns frame row columns (flat_macroblocks frame row 0 columns) (flat_bits frame row 0 columns))
    (flat_map (macroblock_text frame row) (range_with_len 0 columns) ++ replicate z false) (replicate z false)
unfolding macroblocks_at repeated
macroblocks_stand quantiser zero d frame row z s start least most some wide ec es = absurd (omega arith)
macroblocks_stand quantiser (suc n) d frame row z s start least most some wide ec es =
    let t = flat_map (macroblock_text frame row) (range_with_len 0 (suc n)) ++ replicate z false in
    let end = row_at quantiser (suc n) frame row (suc n) (flat_macroblocks frame row 0 (suc n)) (flat_bits frame row 0 (suc n)) in
    subst (λ (x : SliceSetup). Rounds (macroblock_round x) (row_of start [] []) end t (replicate z false)) ec
    (subst (λ (x : SliceState). Rounds (macroblock_round (flat_setup (suc n) d)) (row_of x [] []) end t (replicate z false)) es
    (rounds_stand quantiser (suc n) d frame row n 0 (suc n) z [] [] least most wide (omega arith) refl))

-- the first increment
abbrev behind_first : Samples → ℕ → ℕ → ℕ → List Bool
behind_first frame row n z =
    ((type_i_code (kind 0 0 0 0 1) ++ blocks_text frame row 0) ++ flat_map (macroblock_text frame row) (range_with_len 1 n)) ++ replicate z false

first_stands : (frame : Samples) (row n z : ℕ) → (increment_from 0).Stands 1 (flat_map (macroblock_text frame row) (range_with_len 0 (suc n)) ++ replicate z false) (behind_first frame row n z)
unfolding macroblock_text increment_text escapes_text code_of increment same_increment bits_of
first_stands frame row n z = (increments_spell 1 (omega arith)).stands (behind_first frame row n z)

first_of : (columns : ℕ) (frame : Samples) (row z : ℕ) → 1 ≤ columns → (end : List Bool) × (increment_from 0).Stands 1 (flat_map (macroblock_text frame row) (range_with_len 0 columns) ++ replicate z false) end
first_of zero frame row z some = absurd (omega arith)
first_of (suc n) frame row z some = (behind_first frame row n z, first_stands frame row n z)

pub start_is : (quantiser columns : ℕ) (frame : Samples) (row covered : ℕ) (c : PictureContext) → flat_context columns ≡ c → covered ≡ row * columns → state_before quantiser columns frame row 0 ≡ slice_start c row covered quantiser
unfolding state_before slice_start
start_is quantiser columns frame row covered c ec is = ap (λ (n : ℕ). at_start (flat_context columns) row quantiser n) (sym is) ∙ ap (λ (x : PictureContext). at_start x row quantiser covered) ec

covered_is : (quantiser columns : ℕ) (frame : Samples) (row : ℕ) → 1 ≤ columns → nat_abs ((state_before quantiser columns frame row columns).address +ℤ pos 1) ≡ row * columns + columns
unfolding state_before
covered_is quantiser zero frame row some = absurd (omega arith)
covered_is quantiser (suc n) frame row some = omega (arith, ints)

not_late : (row columns covered own : ℕ) → own ≡ columns → covered ≡ row * columns → begins_late (row * own) 1 covered ≡ true
not_late row columns covered own e is =
    let same : row * own ≡ row * columns = ap (λ (n : ℕ). row * n) e in
    lt-ltb _ _ (omega arith)

row_is_of : (quantiser columns : ℕ) (frame : Samples) (row covered : ℕ) → covered ≡ row * columns + columns
    → flat_row quantiser columns frame row ≡ slice_of (flat_slice quantiser) (flat_macroblocks frame row 0 columns) (flat_bits frame row 0 columns) covered
unfolding flat_row
row_is_of quantiser columns frame row covered is = ap (slice_of (flat_slice quantiser) (flat_macroblocks frame row 0 columns) (flat_bits frame row 0 columns)) (sym is)

slice_here : (s : SliceSetup) (quantiser columns : ℕ) (d : Dims) (frame : Samples) (row covered z : ℕ) → 1 ≤ quantiser → quantiser ≤ 31 → 1 ≤ columns → columns ≤ 120
    → flat_setup columns d ≡ s → covered ≡ row * columns
    → (slice_at s covered row).Stands (flat_row quantiser columns frame row) (slice_text (flat_slice quantiser) ++ (flat_map (macroblock_text frame row) (range_with_len 0 columns) ++ replicate z false)) (replicate z false)
unfolding slice_at seq here rule looking renamed unit_place done
slice_here s quantiser columns d frame row covered z least most some wide es is =
    let t = flat_map (macroblock_text frame row) (range_with_len 0 columns) ++ replicate z false in
    let head = slice_text (flat_slice quantiser) in
    let fits : SliceFits (flat_slice quantiser) = record { quantiser = (least, most); reserved = omega arith; untold = refl } in
    let x = row_at quantiser columns frame row columns (flat_macroblocks frame row 0 columns) (flat_bits frame row 0 columns) in
    let ec : flat_context columns ≡ s.context = ap (λ (q : SliceSetup). q.context) es in
    let own : s.context.columns ≡ columns = sym (ap (λ (c : PictureContext). c.columns) ec) in
    let late = not_late row columns covered s.context.columns own is in
    let start = start_is quantiser columns frame row covered s.context ec is in
    let rounds = macroblocks_stand quantiser columns d frame row z s (slice_start s.context row covered quantiser) least most some wide es start in
    let end = row_is_of quantiser columns frame row (nat_abs (x.state.address +ℤ pos 1)) (covered_is quantiser columns frame row some) in (
      length (head ++ t) + 32,
      head ++ t,
      (refl, refl),
      (
        flat_slice quantiser,
        t,
        (slice_spells (flat_slice quantiser) fits).stands t,
        (
          1,
          t,
          (refl, first_of columns frame row z some),
          (
            tt,
            t,
            (late, refl),
            (x, replicate z false, rounds, (end, refl)),
          ),
        ),
      ),
    )

pub slice_stands : (s : SliceSetup) (quantiser columns : ℕ) (d : Dims) (frame : Samples) (row covered z : ℕ) → 1 ≤ quantiser → quantiser ≤ 31 → 1 ≤ columns → columns ≤ 120
    → columns ≡ frame.dims.mb_width → flat_setup columns d ≡ s → covered ≡ row * columns
    → (slice_at s covered row).Stands (flat_row quantiser columns frame row) ((slice_text (flat_slice quantiser) ++ row_text frame row) ++ replicate z false) (replicate z false)
slice_stands s quantiser columns d frame row covered z least most some wide width es is =
    let head = slice_text (flat_slice quantiser) in
    let behind = replicate z false in
    let same : head ++ (flat_map (macroblock_text frame row) (range_with_len 0 columns) ++ behind) ≡ (head ++ row_text frame row) ++ behind =
    ap (λ (t : List Bool). head ++ (t ++ behind)) (row_is frame row columns width) ∙ sym (append_assoc head (row_text frame row) behind) in
    subst (λ (t : List Bool). (slice_at s covered row).Stands (flat_row quantiser columns frame row) t behind) same
    (slice_here s quantiser columns d frame row covered z least most some wide es is)

-- ---- large macroblocks

few_bits : (frame : Samples) (row n from : ℕ) → filter is_large (flat_bits frame row from n) ≡ []
few_bits frame row zero from = refl
few_bits frame row (suc n) from =
    let small : is_large (length (macroblock_text frame row from)) ≡ false = le-ltb _ _ (omega (arith, macroblock_most frame row from)) in
    rw small (few_bits frame row n (from + 1))

-- no macroblock is large
pub none_large : (quantiser columns : ℕ) (frame : Samples) (row : ℕ) → large_in (flat_row quantiser columns frame row) ≡ 0
unfolding flat_row
none_large quantiser columns frame row = ap length (few_bits frame row columns 0)
