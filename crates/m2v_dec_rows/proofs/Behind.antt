-- A unit behind a picture's headers, read with slices unread and read whole.
use Rattle.std.proofs.Common.{◌≡◌, ℕ, ◌+◌, ◌-◌, ◌<◌, ◌≤◌, Bool, true, false, cond, List, [], ◌∷◌, Some, Result, Ok, Err, refl, sym, subst}
use Rattle.std.specs.Prelude.{nat_eq, nat_lt, nat_le, ◌&&◌}
use Rattle.std.proofs.lemmas.Bool.{both_ways, eqb-true, ltb-true, leb-true, and_parts, not-true}
use Rattle.m2v_bits.specs.Syntax.{bind, seq, rule, done, choose}
use Rattle.m2v_bits.proofs.SyntaxLaws.{good, bad}
use Rattle.m2v_model.specs.declared.fault.FaultKind.{FaultKind}
use Rattle.m2v_model.specs.declared.fault.FaultKind.TheVariants.{SliceOrder, MissingMacroblocks}
use Rattle.m2v_model.specs.declared.state.Sequence.{Sequence}
use Rattle.m2v_model.specs.declared.state.Open.{Open}
use Rattle.m2v_model.specs.declared.state.State.{State}
use Rattle.m2v_model.specs.Units.{Units, unit_bits, body, of_body, inside}
use Rattle.m2v_model.specs.States.{picture_rows, slice_setup, is_complete}
use Rattle.m2v_model.specs.Slices.{Slice, slice_at}
use Rattle.m2v_model.specs.Looking.{refuse}
use Rattle.m2v_model.specs.Streams.{Part, sequence, group, picture, matrices, slice, unread_slice, skipped_unit, ending, over, Among, value_of, id_at, matrix_unit, extension_unit, read_slice, slice_in, slice_unit, close, onward, later_unit, known_unit, text_end}
use Rattle.m2v_model.specs.Pieces.{begins_piece}
use Rattle.m2v_model.specs.ByPieces.{unit_read}
use Rattle.m2v_dec_rows.specs.OnePicture.{NoneBegins}
use Rattle.m2v_dec_rows.proofs.Holding.{OfRead, Holding, inside_then, rule_then, choose_holds, refuse_holds, done_holds, onward_holds}

abbrev pub Outcome : Type 0
Outcome = Result ((Bool × Part) × Units) (FaultKind × ℕ)

-- a state in which a picture is open
abbrev pub open_at : State → Sequence → Open → State
open_at z s o = record z { sequence = Some s; headers_only = false; picture = Some o }

-- the same picture where its slices stay unread
abbrev pub unread_of : Open → Open
unread_of o = record o { slices_unread = true; covered = 0; large_macroblocks = 0; crowded_row = 0 }

abbrev pub skim_at : State → Sequence → Open → State
skim_at z s o = record z { sequence = Some s; headers_only = true; picture = Some (unread_of o) }

-- a slice that is read
abbrev pub slice_told : ℕ → Units → Result (Slice × List Bool) (FaultKind × ℕ) → Outcome
slice_told row t (Ok x) = Ok ((true, slice row x.0), t)
slice_told row t (Err f) = Err (f.0, f.1 + unit_bits t)

abbrev pub whole_slice : State → Sequence → Open → ℕ → List ℕ → Units → Outcome
whole_slice z s o row u t = cond o.slices_unread (Ok ((true, unread_slice row u), t)) (slice_told row t ((slice_at (slice_setup z s o) o.covered row).read (body u)))

-- what a unit is that was read with slices unread, and what is read of it whole
abbrev pub AlikePart : State → Sequence → Open → Units → Bool → Part → Units → Outcome → Type 0
AlikePart z s o t m (sequence x) mid r = ⊥
AlikePart z s o t m (group g) mid r = ⊥
AlikePart z s o t m (picture info extension) mid r = ⊥
AlikePart z s o t m (matrices x) mid r = (m ≡ true) × (mid ≡ t) × (o.has_slice ≡ false) × (r ≡ Ok ((true, matrices x), t))
AlikePart z s o t m (slice row x) mid r = ⊥
AlikePart z s o t m (unread_slice row u) mid r = (m ≡ true) × (mid ≡ t) × (row < picture_rows s o) × (o.row ≤ row) × (r ≡ whole_slice z s o row u t)
AlikePart z s o t m (skipped_unit u) mid r = (m ≡ true) × (mid ≡ t) × (r ≡ Ok ((true, skipped_unit u), t))
AlikePart z s o t m ending mid r = ⊥
AlikePart z s o t m over mid r = (m ≡ false) × (r ≡ cond (is_complete (Some s) (Some o)) (Ok ((false, over), mid)) (Err (MissingMacroblocks, 0)))

abbrev pub Alike : State → Sequence → Open → Units → Outcome → Outcome → Type 0
Alike z s o t (Ok x) r = AlikePart z s o t (x.0).0 (x.0).1 x.1 r
Alike z s o t (Err f) r = r ≡ Err f

-- ---- units that are read the same

same_alike : (z : State) (s : Sequence) (o : Open) (t : Units) (r : Outcome) → OfRead (λ x mid. AlikePart z s o t x.0 x.1 mid (Ok (x, mid))) r → Alike z s o t r r
same_alike z s o t (Ok x) h = h
same_alike z s o t (Err f) h = refl

extension_same : (z : State) (s : Sequence) (o : Open) (start : ℕ) (u : List ℕ) (t : Units) → Holding (λ x mid. AlikePart z s o t x.0 x.1 mid (Ok (x, mid))) (onward (extension_unit (open_at z s o) start u)) t
unfolding extension_unit matrix_unit id_at
extension_same z s o start u t =
    onward_holds
    (inside_then _ _ _ (λ id end read.
    choose_holds _ (λ e. refuse_holds _ _) (λ e.
    choose_holds _
    (λ e. rule_then _ _ _ _ (λ allowed. inside_then _ _ _ (λ m rest got. done_holds _ (refl, refl, not-true o.has_slice allowed, refl))))
    (λ e. choose_holds _ (λ e. refuse_holds _ _) (λ e. done_holds _ (refl, refl, refl))))))

extension_alike : (z : State) (s : Sequence) (o : Open) (start : ℕ) (u : List ℕ) (t : Units) → Alike z s o t ((onward (extension_unit (skim_at z s o) start u)).read t) ((onward (extension_unit (open_at z s o) start u)).read t)
unfolding extension_unit matrix_unit
extension_alike z s o start u t = same_alike z s o t ((onward (extension_unit (open_at z s o) start u)).read t) (extension_same z s o start u t).is

-- ---- slices

abbrev then_slice : ℕ → Units → Result (Slice × List Bool) (FaultKind × ℕ) → Outcome
then_slice row t r = bind (bind (of_body t r) (λ x mid. good (slice row x, mid))) (λ p mid. good ((true, p), mid))

told_is : (row : ℕ) (t : Units) (r : Result (Slice × List Bool) (FaultKind × ℕ)) → then_slice row t r ≡ slice_told row t r
unfolding bind
told_is row t (Ok x) = refl
told_is row t (Err f) = refl

unread_or : (b : Bool) (row : ℕ) (u : List ℕ) (t : Units) (r : Result (Slice × List Bool) (FaultKind × ℕ))
    → bind (cond b (good (unread_slice row u, t)) (bind (of_body t r) (λ x mid. good (slice row x, mid)))) (λ p mid. good ((true, p), mid)) ≡ cond b (Ok ((true, unread_slice row u), t)) (slice_told row t r)
unfolding bind
unread_or true row u t r = refl
unread_or false row u t r = told_is row t r

slice_ordered : (z : State) (s : Sequence) (o : Open) (row start : ℕ) (u : List ℕ) (t : Units) (b : Bool) → (nat_lt row (picture_rows s o) && nat_le o.row row) ≡ b
    → Alike z s o t
    (bind (bind (cond b (good (tt, t)) (bad (SliceOrder, start))) (λ (x : Unit {0}) (mid : Units). good (unread_slice row u, mid))) (λ p mid. good ((true, p), mid)))
    (bind (bind (cond b (good (tt, t)) (bad (SliceOrder, start))) (λ (x : Unit {0}) (mid : Units). cond o.slices_unread (good (unread_slice row u, mid)) (bind (of_body mid ((slice_at (slice_setup z s o) o.covered row).read (body u))) (λ x mid. good (slice row x, mid))))) (λ p mid. good ((true, p), mid)))
unfolding bind
slice_ordered z s o row start u t true e =
    let both = and_parts (nat_lt row (picture_rows s o)) (nat_le o.row row) e in
    (refl, refl, ltb-true row (picture_rows s o) both.0, leb-true o.row row both.1, unread_or o.slices_unread row u t _)
slice_ordered z s o row start u t false e = refl

slice_alike : (z : State) (s : Sequence) (o : Open) (row start : ℕ) (u : List ℕ) (t : Units)
    → Alike z s o t ((onward (slice_unit (skim_at z s o) (Some s) (Some (unread_of o)) row start u)).read t) ((onward (slice_unit (open_at z s o) (Some s) (Some o) row start u)).read t)
unfolding onward slice_unit slice_in read_slice seq rule choose done inside slice_setup
slice_alike z s o row start u t = slice_ordered z s o row start u t _ refl

-- ---- all units

-- two syntaxes that read so
record AlikeIn (z : State) (s : Sequence) (o : Open) (t : Units) (a b : Among (Bool × Part)) : Type 0 where
  is : Alike z s o t (a.read t) (b.read t)

choose_read : (z : State) (s : Sequence) (o : Open) (t : Units) (a b c d : Among (Bool × Part)) (x : Bool) → (x ≡ true → AlikeIn z s o t a b) → (x ≡ false → AlikeIn z s o t c d)
    → Alike z s o t ((choose x a c).read t) ((choose x b d).read t)
unfolding choose
choose_read z s o t a b c d true h k = (h refl).is
choose_read z s o t a b c d false h k = (k refl).is

choose_alike : {z : State} {s : Sequence} {o : Open} {t : Units} {a b c d : Among (Bool × Part)} (x : Bool) → (x ≡ true → AlikeIn z s o t a b) → (x ≡ false → AlikeIn z s o t c d)
    → AlikeIn z s o t (choose x a c) (choose x b d)
choose_alike {z = z} {s = s} {o = o} {t = t} {a = a} {b = b} {c = c} {d = d} x h k = record { is = choose_read z s o t a b c d x h k }

refuse_alike : {z : State} {s : Sequence} {o : Open} {t : Units} (kind : FaultKind) (place : ℕ) → AlikeIn z s o t (refuse kind place) (refuse kind place)
unfolding refuse
refuse_alike kind place = record { is = refl }

skipped_alike : {z : State} {s : Sequence} {o : Open} {t : Units} (u : List ℕ) → AlikeIn z s o t (onward (done (skipped_unit u))) (onward (done (skipped_unit u)))
unfolding onward seq done bind
skipped_alike u = record { is = (refl, refl, refl) }

never : (value v : ℕ) (P : Type 0) → begins_piece v ≡ true → begins_piece value ≡ false → nat_eq value v ≡ true → P
never value v P on off e = absurd (both_ways _ off (subst (λ (n : ℕ). begins_piece n ≡ true) (sym (eqb-true value v e)) on))

later_alike : (z : State) (s : Sequence) (o : Open) (start value : ℕ) (u : List ℕ) (t : Units) → begins_piece value ≡ false
    → AlikeIn z s o t (later_unit (skim_at z s o) start value u) (later_unit (open_at z s o) start value u)
unfolding later_unit begins_piece
later_alike z s o start value u t off =
    choose_alike _ (never value 0x00 _ refl off) (λ e.
    choose_alike _ (λ e. record { is = slice_alike z s o (value - 1) start u t }) (λ e.
    choose_alike _ (λ e. skipped_alike u) (λ e.
    choose_alike _ (λ e. record { is = extension_alike z s o start u t }) (λ e.
    choose_alike _ (never value 0xB7 _ refl off) (λ e.
    choose_alike _ (never value 0xB8 _ refl off) (λ e.
    choose_alike _ (λ e. refuse_alike _ _) (λ e. refuse_alike _ _)))))))

known_alike : (z : State) (s : Sequence) (o : Open) (start value : ℕ) (u : List ℕ) (t : Units) → begins_piece value ≡ false
    → AlikeIn z s o t (known_unit (skim_at z s o) start value u) (known_unit (open_at z s o) start value u)
unfolding known_unit begins_piece
known_alike z s o start value u t off =
    choose_alike _ (never value 0xB3 _ refl off) (λ e. choose_alike _ (λ e. later_alike z s o start value u t off) (λ e. absurd cc))

-- the units behind the first
abbrev pub tail_of : Units → Units
tail_of [] = []
tail_of (u ∷ us) = us

abbrev closed_now : Unit {0} × Units → Result (Unit {0} × Units) (FaultKind × ℕ)
closed_now x = Ok x

abbrev ended : Part × Units → Outcome
ended x = Ok ((false, x.0), x.1)

end_alike : (b : Bool) → bind (cond b (closed_now (tt, [])) (bad (MissingMacroblocks, 0))) (λ (x : Unit {0}) (mid : Units). ended (over, mid)) ≡ cond b (ended (over, [])) (Err (MissingMacroblocks, 0))
unfolding bind
end_alike true = refl
end_alike false = refl

pub unit_alike : (z : State) (s : Sequence) (o : Open) (us : Units) → NoneBegins us → Alike z s o (tail_of us) (unit_read (skim_at z s o) us) (unit_read (open_at z s o) us)
unfolding unit_read text_end close seq rule done bind
unit_alike z s o [] n = (refl, end_alike (is_complete (Some s) (Some o)))
unit_alike z s o (u ∷ us) n = (known_alike z s o (unit_bits (u ∷ us)) (value_of u) u us n.0).is
