-- A slice that is read begins at the next uncovered macroblock, and so not in a row below it; and ends in its own row.
use Rattle.std.proofs.Common.{◌≡◌, ℕ, ◌+◌, ◌*◌, ◌^◌, ◌≤◌, Bool, true, false, List, [], ◌∷◌, ◌++◌, inl, inr, refl, sym, ap, subst, ◌∙◌, arith, ℤ, pos, ◌+ℤ◌, ◌-ℤ◌, ◌≤ℤ◌}
use Rattle.std.specs.Prelude.{nat_le, ◌&&◌, int_le, nat_abs, Result, Ok, Err}
use Rattle.std.proofs.lemmas.Bool.{leb-true}
use Rattle.std.proofs.lemmas.Int.{ints}
use Rattle.m2v_bits.specs.Syntax.{seq, done, rule, renamed, repeated, Rounds, last, more}
use Rattle.m2v_vlc.specs.declared.values.Increment.{Increment}
use Rattle.m2v_vlc.specs.declared.values.Increment.TheVariants.{Step, Escape}
use Rattle.m2v_vlc.specs.Codes.{Row as CodeRow, In, code_at}
use Rattle.m2v_vlc.specs.Tables.{increment}
use Rattle.m2v_macro.specs.declared.values.MacroSyntax.{MacroSyntax}
use Rattle.m2v_macro.specs.declared.values.SliceState.{SliceState}
use Rattle.m2v_macro.specs.declared.values.PictureContext.{PictureContext}
use Rattle.m2v_macro.specs.Macros.{added, round_at, increment_from, allowed_at, step_at, macro_at}
use Rattle.m2v_macro.specs.States.{after, not_past, at_start}
use Rattle.m2v_macro.specs.Conditions.{IsStep}
use Rattle.m2v_model.specs.m2v_macroblock.Macroblocks.{Macroblock, after_macroblock}
use Rattle.m2v_model.specs.declared.setup.SliceSetup.{SliceSetup}
use Rattle.m2v_model.specs.Slices.{Row, Slice, macroblock_at, macroblock_round, macroblocks_at, slice_start, slice_at}
use Rattle.m2v_dec_picture.specs.Conditions.{IsBefore, LiesInRow}
use Rattle.m2v_dec_picture.proofs.RowLaws.{place_after}
use Rattle.m2v_model.specs.Units.{body}
use Rattle.m2v_model.proofs.SliceLaws.{slice_lawful}
use Rattle.m2v_dec_rows.specs.Rows.{Unread, Placed, placed_by, slice_read, first_of}

-- ---- increments

is_some_step : Increment → Bool
is_some_step (Step n) = nat_le 1 n
is_some_step Escape = true

all_some : List (CodeRow Increment) → Bool
all_some [] = true
all_some (r ∷ t) = is_some_step r.value && all_some t

and_both : (a b : Bool) → (a && b) ≡ true → (a ≡ true) × (b ≡ true)
and_both true true e = (refl, refl)
and_both true false e = absurd cc
and_both false b e = absurd cc

row_some : (table : List (CodeRow Increment)) (r : CodeRow Increment) → all_some table ≡ true → In table r → is_some_step r.value ≡ true
unfolding all_some
row_some [] r e h = absurd h
row_some (s ∷ t) r e (inl same) = subst (λ (x : CodeRow Increment). is_some_step x.value ≡ true) same (and_both (is_some_step s.value) (all_some t) e).0
row_some (s ∷ t) r e (inr h) = row_some t r (and_both (is_some_step s.value) (all_some t) e).1 h

table_some : all_some increment ≡ true
unfolding all_some is_some_step increment
table_some = refl

added_some : (sum z : ℕ) (v : Increment) (t rest : List Bool) → is_some_step v ≡ true → (added sum v).Stands (false, z) t rest → 1 ≤ z
unfolding added done is_some_step
added_some sum z (Step n) t rest e h =
    let is : z ≡ sum + n = ap (λ (x : Bool × ℕ). x.1) h.0 in
    omega (arith, is, leb-true 1 n e)
added_some sum z Escape t rest e h = absurd (false_true (ap (λ (x : Bool × ℕ). x.0) h.0))
  where
    false_true : false ≡ true → ⊥
    false_true p = cc

rounds_some : (sum n : ℕ) (t rest : List Bool) → Rounds round_at sum n t rest → 1 ≤ n
unfolding round_at seq renamed code_at
rounds_some sum n t rest (last h) =
    let row = h.2.0 in
    added_some sum n h.0 h.1 _ (subst (λ (v : Increment). is_some_step v ≡ true) h.2.2 (row_some increment row table_some h.2.1)) h.3
rounds_some sum n t rest (more {m = m} h later) = rounds_some m n _ _ later

-- ---- macroblocks

step_is : (c : PictureContext) (st : SliceState) (n : ℕ) (t rest : List Bool) → (step_at c st).Stands n t rest → IsStep c st n
unfolding step_at allowed_at seq rule done increment_from repeated
step_is c st n t rest h =
    let own = h.3.0 in
    let step : IsStep c st own = record {
      some = rounds_some 0 own _ _ h.3.2;
      near = h.3.3.2.0;
      order = h.3.3.3.2.0;
      skip = h.3.3.3.3.2.0;
    } in
    subst (IsStep c st) (sym h.3.3.3.3.3.0) step

macro_step : (c : PictureContext) (st : SliceState) (m : MacroSyntax) (t rest : List Bool) → (macro_at c st).Stands m t rest → IsStep c st m.increment
unfolding macro_at seq done
macro_step c st m t rest h = subst (IsStep c st) (sym (ap (λ (x : MacroSyntax). x.increment) h.3.3.3.3.3.3.3.0)) (step_is c st h.0 t h.1 h.2)

macroblock_step : (s : SliceSetup) (st : SliceState) (x : Macroblock) (t rest : List Bool) → (macroblock_at s st).Stands x t rest → IsStep s.context st x.syntax.increment
unfolding macroblock_at seq done renamed
macroblock_step s st x t rest h = subst (λ (y : Macroblock). IsStep s.context st y.syntax.increment) (sym h.3.3.3.3.3.0) (macro_step s.context st h.3.0 h.1 h.3.1 h.3.2)

-- what a round adds
pub record Adds (s : SliceSetup) (r z : Row) : Type 0 where
  pub x : Macroblock
  pub step : IsStep s.context r.state x.syntax.increment
  pub state : z.state ≡ after_macroblock s.context r.state x
  pub macroblocks : z.macroblocks ≡ r.macroblocks ++ x ∷ []

pub round_adds : (s : SliceSetup) (r z : Row) (b : Bool) (t rest : List Bool) → (macroblock_round s r).Stands (b, z) t rest → Adds s r z
unfolding macroblock_round seq done
round_adds s r z b t rest h =
    let is = ap (λ (y : Bool × Row). y.1) h.3.3.3.3.0 in
    record { x = h.3.0; step = macroblock_step s r.state h.3.0 h.1 h.3.1 h.3.2; state = ap (λ (y : Row). y.state) is; macroblocks = ap (λ (y : Row). y.macroblocks) is }

in_row : (s : SliceSetup) (row : ℕ) (r z : Row) → IsBefore s.context row r.state → Adds s r z → LiesInRow s.context row z.state.address
unfolding after_macroblock
in_row s row r z before a =
    subst (λ (st : SliceState). LiesInRow s.context row st.address) (sym a.state) (place_after s.context row r.state a.x.syntax before a.step)

pub first_false : (s : SliceSetup) (r z : Row) → Adds s r z → z.state.first ≡ false
unfolding after_macroblock after
first_false s r z a = ap (λ (st : SliceState). st.first) a.state

pub before_next : (s : SliceSetup) (row : ℕ) (r z : Row) → IsBefore s.context row r.state → Adds s r z → IsBefore s.context row z.state
before_next s row r z before a = record {
  first = λ e. absurd (false_true (sym (first_false s r z a) ∙ e));
  later = λ e. in_row s row r z before a;
  end = before.end;
}
  where
    false_true : false ≡ true → ⊥
    false_true p = cc

rounds_end : (s : SliceSetup) (row : ℕ) (r z : Row) (t rest : List Bool) → IsBefore s.context row r.state → Rounds (macroblock_round s) r z t rest → LiesInRow s.context row z.state.address
rounds_end s row r z t rest before (last h) = in_row s row r z before (round_adds s r z false _ _ h)
rounds_end s row r z t rest before (more {m = m} h later) = rounds_end s row m z _ _ (before_next s row r m before (round_adds s r m true _ _ h)) later

first_round : (s : SliceSetup) (r z : Row) (t rest : List Bool) → Rounds (macroblock_round s) r z t rest → (n : ℕ) × IsStep s.context r.state n
first_round s r z t rest (last h) = let a = round_adds s r z false _ _ h in (a.x.syntax.increment, a.step)
first_round s r z t rest (more {m = m} h later) = let a = round_adds s r m true _ _ h in (a.x.syntax.increment, a.step)

-- ---- slices

pub start_before : (c : PictureContext) (row covered quantiser : ℕ) → (row + 1) * c.columns ≤ 2 ^ 16 → IsBefore c row (slice_start c row covered quantiser)
unfolding slice_start at_start
start_before c row covered quantiser le = record { first = λ e. refl; later = λ e. absurd (false_true (sym e)); end = omega (arith, le) }
  where
    false_true : false ≡ true → ⊥
    false_true p = cc

pub le_tested : (a b : ℤ) → int_le a b ≡ true → a ≤ℤ b
le_tested a b e = grind (arith, ints)

begins_at : (c : PictureContext) (row covered quantiser n : ℕ) → IsStep c (slice_start c row covered quantiser) n → row * c.columns ≤ covered
unfolding slice_start at_start not_past
begins_at c row covered quantiser n step =
    let near = le_tested ((pos (row * c.columns) -ℤ pos 1) +ℤ pos n) (pos covered) step.near in
    omega (arith, ints, near, step.some)

pub stands_begins : (s : SliceSetup) (covered row : ℕ) (x : Slice) (t rest : List Bool) → (slice_at s covered row).Stands x t rest → row * s.context.columns ≤ covered
unfolding slice_at seq done macroblocks_at repeated
stands_begins s covered row x t rest h =
    let y = h.3.3.3.3.0 in
    let i = first_round s _ y _ _ h.3.3.3.3.2 in
    begins_at s.context row covered h.3.0.quantiser i.0 i.1

pub stands_ends : (s : SliceSetup) (covered row : ℕ) (x : Slice) (t rest : List Bool) → (row + 1) * s.context.columns ≤ 2 ^ 16 → (slice_at s covered row).Stands x t rest
    → x.covered ≤ (row + 1) * s.context.columns
unfolding slice_at seq done macroblocks_at repeated
stands_ends s covered row x t rest le h =
    let y = h.3.3.3.3.0 in
    let lies = rounds_end s row _ y _ _ (start_before s.context row covered h.3.0.quantiser le) h.3.3.3.3.2 in
    let is = ap (λ (w : Slice). w.covered) h.3.3.3.3.3.0 ∙ ap (λ (a : ℤ). nat_abs (a +ℤ pos 1)) lies.2 in
    omega (arith, ints, is, lies.1)

-- what is read stands
pub read_slice_is : (s : SliceSetup) (u : Unread) (covered : ℕ) (x : Slice) (r : Result (Slice × List Bool) Placed) → (slice_at s covered u.row).read (body u.unit) ≡ r → placed_by u.end r ≡ Ok x
    → (rest : List Bool) × (slice_at s covered u.row).Stands x (body u.unit) rest
read_slice_is s u covered x (Ok z) e f = (z.1, subst (λ (y : Slice). (slice_at s covered u.row).Stands y (body u.unit) z.1) (ap (read_or z.0) f) ((slice_lawful s covered u.row).found z.0 (body u.unit) z.1 e))
  where
    read_or : Slice → Result Slice Placed → Slice
    read_or d (Ok y) = y
    read_or d (Err g) = d
read_slice_is s u covered x (Err g) e f = absurd (cc f)

pub begins : (s : SliceSetup) (u : Unread) (covered : ℕ) (x : Slice) → slice_read s covered u ≡ Ok x → first_of s u.row ≤ covered
unfolding slice_read
begins s u covered x e = let h = read_slice_is s u covered x _ refl e in stands_begins s covered u.row x (body u.unit) h.0 h.1

pub ends : (s : SliceSetup) (u : Unread) (covered : ℕ) (x : Slice) → first_of s (u.row + 1) ≤ 2 ^ 16 → slice_read s covered u ≡ Ok x → x.covered ≤ first_of s (u.row + 1)
unfolding slice_read
ends s u covered x le e = let h = read_slice_is s u covered x _ refl e in stands_ends s covered u.row x (body u.unit) h.0 le h.1
