-- What a unit gives doesn't change by the units that stand further on, if the first of them begins a piece.
use Rattle.std.proofs.Common.{◌≡◌, ℕ, ◌+◌, Bool, true, false, List, [], ◌∷◌, ◌++◌, Option, Some, None, Result, Ok, Err, refl, ap, subst, ◌∙◌, inl, inr, arith}
use Rattle.std.specs.Prelude.{nat_eq}
use Rattle.std.proofs.lemmas.Bool.{cases_Bool, eqb-true}
use Rattle.m2v_bits.specs.Syntax.{bind, done, seq, here, rule, choose}
use Rattle.m2v_bits.proofs.SyntaxLaws.{bad}
use Rattle.m2v_model.specs.declared.fault.FaultKind.{FaultKind}
use Rattle.m2v_model.specs.declared.fault.FaultKind.TheVariants.{NotMpeg2, Unsupported, Forbidden, SequenceChanged, SliceOrder, MissingMacroblocks, MissingReference, FieldPair}
use Rattle.m2v_model.specs.declared.state.Sequence.{Sequence}
use Rattle.m2v_model.specs.declared.state.Open.{Open}
use Rattle.m2v_model.specs.declared.state.State.{State}
use Rattle.m2v_model.specs.Units.{Units, unit_bits, unit_at, of_body, inside}
use Rattle.m2v_model.specs.Looking.{refuse}
use Rattle.m2v_model.specs.Faults.{InUnit}
use Rattle.m2v_model.specs.Streams.{Part, Among, value_of, close, no_second_field_due, id_at, extension_in, extension_behind, sequence_unit, group_unit, picture_unit, matrix_unit, extension_unit, read_slice, slice_in, slice_unit, end_unit, onward, final, later_unit, known_unit}
use Rattle.m2v_model.specs.Pieces.{begins_piece, is_end}
use Rattle.m2v_model.specs.ByPieces.{unit_read}

-- nothing, or units of which the first begins a piece
abbrev pub BeginsPiece : Units → Type 0
BeginsPiece [] = Unit {0}
BeginsPiece (v ∷ vs) = begins_piece (value_of v) ≡ true

-- units without a sequence end code
abbrev pub NoEnds : Units → Type 0
NoEnds [] = Unit {0}
NoEnds (u ∷ us) = (is_end (value_of u) ≡ false) × NoEnds us

pub unit_bits-append : (us vs : Units) → unit_bits (us ++ vs) ≡ unit_bits us + unit_bits vs
unit_bits-append [] vs = omega arith
unit_bits-append (u ∷ us) vs = omega (arith, unit_bits-append us vs)

-- what is read, with units behind it
abbrev pub shifted : {V : Type 0} → Units → Result (V × Units) (FaultKind × ℕ) → Result (V × Units) (FaultKind × ℕ)
shifted vs (Ok x) = Ok (x.0, x.1 ++ vs)
shifted vs (Err f) = Err (f.0, f.1 + unit_bits vs)

-- no end code is left
abbrev pub Kept : {V : Type 0} → Result (V × Units) (FaultKind × ℕ) → Type 0
Kept (Ok x) = NoEnds x.1
Kept (Err f) = Unit {0}

-- with units behind, the second syntax reads what the first reads without them
pub record Shifts {V : Type 0} (vs : Units) (s z : Among V) : Type 0 where
  pub is : (t : Units) → z.read (t ++ vs) ≡ shifted vs (s.read t)
  pub kept : (t : Units) → NoEnds t → Kept (s.read t)

-- ---- joints

bind_is : {A B : Type 0} (vs : Units) (k l : A → Among B) → ((a : A) → Shifts vs (k a) (l a)) → (r : Result (A × Units) (FaultKind × ℕ))
    → bind (shifted vs r) (λ a mid. (l a).read mid) ≡ shifted vs (bind r (λ a mid. (k a).read mid))
unfolding bind
bind_is vs k l h (Ok x) = (h x.0).is x.1
bind_is vs k l h (Err f) = refl

bind_kept : {A B : Type 0} (vs : Units) (k l : A → Among B) → ((a : A) → Shifts vs (k a) (l a)) → (r : Result (A × Units) (FaultKind × ℕ)) → Kept r → Kept (bind r (λ a mid. (k a).read mid))
unfolding bind
bind_kept vs k l h (Ok x) n = (h x.0).kept x.1 n
bind_kept vs k l h (Err f) n = tt

seq_shifts : {A B : Type 0} {vs : Units} {s z : Among A} {k l : A → Among B} → Shifts vs s z → ((a : A) → Shifts vs (k a) (l a)) → Shifts vs (seq s k) (seq z l)
unfolding seq
seq_shifts {vs = vs} {s = s} {k = k} {l = l} hs hk = record {
  is = λ t. ap (λ r. bind r (λ a mid. (l a).read mid)) (hs.is t) ∙ bind_is vs k l hk (s.read t);
  kept = λ t n. bind_kept vs k l hk (s.read t) (hs.kept t n);
}

done_shifts : {V : Type 0} (vs : Units) (v : V) → Shifts vs (done v) (done v)
unfolding done
done_shifts vs v = record { is = λ t. refl; kept = λ t n. n }

rule_shifts : (vs : Units) (b : Bool) (kind : FaultKind) (place : ℕ) → Shifts vs (rule b kind place) (rule b kind (place + unit_bits vs))
unfolding rule
rule_shifts vs true kind place = record { is = λ t. refl; kept = λ t n. n }
rule_shifts vs false kind place = record { is = λ t. refl; kept = λ t n. tt }

refuse_shifts : {V : Type 0} (vs : Units) (kind : FaultKind) (place : ℕ) → Shifts {V = V} vs (refuse kind place) (refuse kind (place + unit_bits vs))
unfolding refuse
refuse_shifts vs kind place = record { is = λ t. refl; kept = λ t n. tt }

choose_shifts : {V : Type 0} {vs : Units} {s z u w : Among V} (b : Bool) → Shifts vs s z → Shifts vs u w → Shifts vs (choose b s u) (choose b z w)
unfolding choose
choose_shifts true hs hu = record { is = hs.is; kept = hs.kept }
choose_shifts false hs hu = record { is = hu.is; kept = hu.kept }

body_is : {V : Type 0} (t vs : Units) (r : Result (V × List Bool) (FaultKind × ℕ)) → of_body (t ++ vs) r ≡ shifted vs (of_body t r)
body_is t vs (Ok x) = refl
body_is {V} t vs (Err f) =
    let e : f.1 + unit_bits (t ++ vs) ≡ f.1 + unit_bits t + unit_bits vs = omega (arith, unit_bits-append t vs) in
    ap (λ (n : ℕ). bad {T = Units} {V = V} (f.0, n)) e

body_kept : {V : Type 0} (t : Units) (r : Result (V × List Bool) (FaultKind × ℕ)) → NoEnds t → Kept (of_body t r)
body_kept t (Ok x) n = n
body_kept t (Err f) n = tt

inside_shifts : {V : Type 0} (vs : Units) (u : List ℕ) (s : InUnit V) → Shifts vs (inside u s) (inside u s)
unfolding inside
inside_shifts vs u s = record { is = λ t. body_is t vs _; kept = λ t n. body_kept t _ n }

-- ---- units

close_shifts : (vs : Units) (st : State) (start : ℕ) → Shifts vs (close st start) (close st (start + unit_bits vs))
unfolding close
close_shifts vs st start = rule_shifts vs _ MissingMacroblocks start

settled_shifts : (vs : Units) (st : State) (start : ℕ) → Shifts vs (no_second_field_due st start) (no_second_field_due st (start + unit_bits vs))
unfolding no_second_field_due
settled_shifts vs st start = rule_shifts vs _ FieldPair start

id_shifts : (vs : Units) (u : List ℕ) → Shifts vs (id_at u) (id_at u)
unfolding id_at
id_shifts vs u = inside_shifts vs u _

extension_in_shifts : {V : Type 0} (vs : Units) (own : ℕ) (u : List ℕ) (start : ℕ) (s : InUnit V) → Shifts vs (extension_in own u start s) (extension_in own u (start + unit_bits vs) s)
unfolding extension_in
extension_in_shifts vs own u start s =
    seq_shifts (id_shifts vs u) (λ id.
    seq_shifts (rule_shifts vs _ NotMpeg2 start) (λ own_id.
    inside_shifts vs u s))

extension_shifts : {V : Type 0} (vs : Units) (own : ℕ) (u : List ℕ) (start : ℕ) (s : InUnit V) → Shifts vs (extension_behind own (Some u) start s) (extension_behind own (Some u) (start + unit_bits vs) s)
unfolding extension_behind
extension_shifts vs own u start s = choose_shifts _ (extension_in_shifts vs own u start s) (refuse_shifts vs NotMpeg2 start)

-- a unit that begins a piece is no extension
no_extension : (value : ℕ) → begins_piece value ≡ true → nat_eq value 0xB5 ≡ false
unfolding begins_piece
no_extension value b =
    elim (cases_Bool (nat_eq value 0xB5)) [
      | inl on ↦ let h = subst (λ (n : ℕ). begins_piece n ≡ true) (eqb-true value 0xB5 on) b in absurd cc
      | inr off ↦ off
    ]

-- the extension behind a header, and what is read then
abbrev extended : {V W : Type 0} → ℕ → InUnit V → (V → Among W) → Among W
extended own s k = seq (here unit_bits) (λ next. seq unit_at (λ v. seq (extension_behind own v next s) k))

none_is : {V W : Type 0} (own : ℕ) (s : InUnit V) (l : V → Among W) (v : List ℕ) (vs : Units) → nat_eq (value_of v) 0xB5 ≡ false → (extended own s l).read (v ∷ vs) ≡ Err (NotMpeg2, 0 + unit_bits (v ∷ vs))
unfolding seq here unit_at extension_behind refuse choose bind
none_is {W = W} own s l v vs off =
    let e : unit_bits (v ∷ vs) ≡ 0 + unit_bits (v ∷ vs) = omega arith in
    rw off (ap (λ (n : ℕ). bad {T = Units} {V = W} (NotMpeg2, n)) e)

unit_is : {V W : Type 0} (own : ℕ) (s : InUnit V) (k l : V → Among W) (vs : Units) → ((v : V) → Shifts vs (k v) (l v)) → (u : List ℕ) (t : Units) → (extended own s l).read (u ∷ (t ++ vs)) ≡ shifted vs ((extended own s k).read (u ∷ t))
unfolding seq here unit_at bind
unit_is own s k l vs h u t =
    let e : unit_bits (u ∷ (t ++ vs)) ≡ unit_bits (u ∷ t) + unit_bits vs = omega (arith, unit_bits-append t vs) in
    ap (λ (n : ℕ). (seq (extension_behind own (Some u) n s) l).read (t ++ vs)) e ∙ (seq_shifts {k = k} (extension_shifts vs own u (unit_bits (u ∷ t)) s) h).is t

extended_is : {V W : Type 0} (own : ℕ) (s : InUnit V) (k l : V → Among W) (vs : Units) → BeginsPiece vs → ((v : V) → Shifts vs (k v) (l v)) → (t : Units) → (extended own s l).read (t ++ vs) ≡ shifted vs ((extended own s k).read t)
unfolding seq here unit_at extension_behind refuse bind
extended_is own s k l [] b h [] = refl
extended_is own s k l (v ∷ vs) b h [] = none_is own s l v vs (no_extension (value_of v) b)
extended_is own s k l vs b h (u ∷ t) = unit_is own s k l vs h u t

extended_kept : {V W : Type 0} (own : ℕ) (s : InUnit V) (k l : V → Among W) (vs : Units) → ((v : V) → Shifts vs (k v) (l v)) → (t : Units) → NoEnds t → Kept ((extended own s k).read t)
unfolding seq here unit_at extension_behind refuse bind
extended_kept own s k l vs h [] n = tt
extended_kept own s k l vs h (u ∷ t) n = (seq_shifts {k = k} (extension_shifts vs own u (unit_bits (u ∷ t)) s) h).kept t n.1

extended_shifts : {V W : Type 0} {vs : Units} {k l : V → Among W} (own : ℕ) (s : InUnit V) → BeginsPiece vs → ((v : V) → Shifts vs (k v) (l v)) → Shifts vs (extended own s k) (extended own s l)
extended_shifts {vs = vs} {k = k} {l = l} own s b h = record { is = extended_is own s k l vs b h; kept = extended_kept own s k l vs h }

sequence_shifts : (vs : Units) → BeginsPiece vs → (st : State) (start : ℕ) (u : List ℕ) → Shifts vs (sequence_unit st start u) (sequence_unit st (start + unit_bits vs) u)
unfolding sequence_unit
sequence_shifts vs b st start u =
    seq_shifts (close_shifts vs st start) (λ closed.
    seq_shifts (settled_shifts vs st start) (λ paired.
    seq_shifts (inside_shifts vs u _) (λ info.
    extended_shifts _ _ b (λ extension.
    seq_shifts (rule_shifts vs _ SequenceChanged start) (λ same.
    done_shifts vs _)))))

group_shifts : (vs : Units) (st : State) (start : ℕ) (u : List ℕ) → Shifts vs (group_unit st start u) (group_unit st (start + unit_bits vs) u)
unfolding group_unit
group_shifts vs st start u =
    seq_shifts (close_shifts vs st start) (λ closed.
    seq_shifts (settled_shifts vs st start) (λ paired.
    seq_shifts (inside_shifts vs u _) (λ g.
    done_shifts vs _)))

picture_shifts : (vs : Units) → BeginsPiece vs → (st : State) (start : ℕ) (u : List ℕ) → Shifts vs (picture_unit st start u) (picture_unit st (start + unit_bits vs) u)
unfolding picture_unit
picture_shifts vs b st start u =
    seq_shifts (close_shifts vs st start) (λ closed.
    seq_shifts (inside_shifts vs u _) (λ info.
    extended_shifts _ _ b (λ extension.
    seq_shifts (rule_shifts vs _ FieldPair start) (λ pair.
    seq_shifts (rule_shifts vs _ MissingReference start) (λ anchor.
    done_shifts vs _)))))

matrix_shifts : (vs : Units) (st : State) (start : ℕ) (u : List ℕ) → Shifts vs (matrix_unit st start u) (matrix_unit st (start + unit_bits vs) u)
unfolding matrix_unit
matrix_shifts vs st start u =
    seq_shifts (rule_shifts vs _ Forbidden start) (λ allowed.
    seq_shifts (inside_shifts vs u _) (λ m.
    done_shifts vs _))

extension_unit_shifts : (vs : Units) (st : State) (start : ℕ) (u : List ℕ) → Shifts vs (extension_unit st start u) (extension_unit st (start + unit_bits vs) u)
unfolding extension_unit
extension_unit_shifts vs st start u =
    seq_shifts (id_shifts vs u) (λ id.
    choose_shifts _ (refuse_shifts vs Forbidden start)
    (choose_shifts _ (matrix_shifts vs st start u)
    (choose_shifts _ (refuse_shifts vs Unsupported start)
    (done_shifts vs _))))

read_slice_shifts : (vs : Units) (st : State) (s : Sequence) (p : Open) (row : ℕ) (u : List ℕ) → Shifts vs (read_slice st s p row u) (read_slice st s p row u)
unfolding read_slice
read_slice_shifts vs st s p row u = seq_shifts (inside_shifts vs u _) (λ x. done_shifts vs _)

slice_shifts : (vs : Units) (st : State) (s : Option Sequence) (p : Option Open) (row start : ℕ) (u : List ℕ) → Shifts vs (slice_unit st s p row start u) (slice_unit st s p row (start + unit_bits vs) u)
unfolding slice_unit slice_in
slice_shifts vs st (Some s) (Some p) row start u =
    seq_shifts (rule_shifts vs _ SliceOrder start) (λ order.
    choose_shifts _ (done_shifts vs _) (read_slice_shifts vs st s p row u))
slice_shifts vs st (Some s) None row start u = refuse_shifts vs SliceOrder start
slice_shifts vs st None p row start u = refuse_shifts vs SliceOrder start

end_shifts : (vs : Units) (st : State) (start : ℕ) → Shifts vs (end_unit st start) (end_unit st (start + unit_bits vs))
unfolding end_unit
end_shifts vs st start = seq_shifts (close_shifts vs st start) (λ closed. seq_shifts (settled_shifts vs st start) (λ paired. done_shifts vs _))

onward_shifts : {vs : Units} {s z : Among Part} → Shifts vs s z → Shifts vs (onward s) (onward z)
unfolding onward
onward_shifts {vs = vs} h = seq_shifts h (λ p. done_shifts vs _)

final_shifts : {vs : Units} {s z : Among Part} → Shifts vs s z → Shifts vs (final s) (final z)
unfolding final
final_shifts {vs = vs} h = seq_shifts h (λ p. done_shifts vs _)

later_shifts : (vs : Units) → BeginsPiece vs → (st : State) (start value : ℕ) (u : List ℕ) → Shifts vs (later_unit st start value u) (later_unit st (start + unit_bits vs) value u)
unfolding later_unit
later_shifts vs b st start value u =
    choose_shifts _ (onward_shifts (picture_shifts vs b st start u))
    (choose_shifts _ (onward_shifts (slice_shifts vs st _ _ _ start u))
    (choose_shifts _ (onward_shifts (done_shifts vs _))
    (choose_shifts _ (onward_shifts (extension_unit_shifts vs st start u))
    (choose_shifts _ (final_shifts (end_shifts vs st start))
    (choose_shifts _ (onward_shifts (group_shifts vs st start u))
    (choose_shifts _ (refuse_shifts vs Forbidden start)
    (refuse_shifts vs Unsupported start)))))))

pub known_shifts : (vs : Units) → BeginsPiece vs → (st : State) (start value : ℕ) (u : List ℕ) → Shifts vs (known_unit st start value u) (known_unit st (start + unit_bits vs) value u)
unfolding known_unit
known_shifts vs b st start value u =
    choose_shifts _ (onward_shifts (sequence_shifts vs b st start u))
    (choose_shifts _ (later_shifts vs b st start value u) (done_shifts vs _))

-- one unit, with others behind it
pub unit_shifted : (vs : Units) → BeginsPiece vs → (st : State) (u : List ℕ) (us : Units) → unit_read st (u ∷ (us ++ vs)) ≡ shifted vs (unit_read st (u ∷ us))
unfolding unit_read
unit_shifted vs b st u us =
    let e : unit_bits (u ∷ (us ++ vs)) ≡ unit_bits (u ∷ us) + unit_bits vs = omega (arith, unit_bits-append us vs) in
    ap (λ (n : ℕ). (known_unit st n (value_of u) u).read (us ++ vs)) e ∙ (known_shifts vs b st (unit_bits (u ∷ us)) (value_of u) u).is us

pub unit_kept : (st : State) (u : List ℕ) (us : Units) → NoEnds us → Kept (unit_read st (u ∷ us))
unfolding unit_read
unit_kept st u us n = (known_shifts [] tt st (unit_bits (u ∷ us)) (value_of u) u).kept us n
